-- The own segment and the others are seen as the rule has them.
use Rattle.std.proofs.Common.{◌/◌, sym, ap, ◌∙◌, w64}
use Rattle.std.proofs.lemmas.Int.{to_z-of_z}
use Rattle.ledger.specs.Ledgers.{books_of}
use Rattle.entries.proofs.Accepted.{info_small}
use Rattle.entries.proofs.AsLinked.{own_answer, other_answer, past_answer}
use Rattle.entries.proofs.olds.check_at.Goals as goal

pub returns-in_default : goal.returns-in_default
returns-in_default c =
    let past = c.in_default.ensures in
    past_answer (books_of c.args.ledger.now) c.args.page c.args.new.now c.requires.accepted c.args.old.now.segment c.args.base c.args.old.now.size past.0 past.1

pub check_old-requires : goal.check_old-requires
check_old-requires c = record { kept = c.in-Some.segment.now.kept; small = info_small (books_of c.args.ledger.now) c.args.page c.args.new.now c.requires.accepted }

pub returns-then-old-segment_id : goal.returns-then-old-segment_id
returns-then-old-segment_id c =
    let b = books_of c.args.ledger.now in
    let z = to_z-of_z w64 c.args.base c.ranges.base in
    let m = c.segment_id.ensures ∙ ap (λ o. o / b.size) c.lid.ensures in
    own_answer b c.args.page c.args.new.now c.requires.accepted c.args.old.now.segment c.args.base _ c.args.old.now.size _ _ z (c.if-old-segment_id.true ∙ m) c.in-Some.ensures.1 c.check_old.ensures

pub returns : goal.returns
returns c =
    let b = books_of c.args.ledger.now in
    let z = to_z-of_z w64 c.args.base c.ranges.base in
    let m = c.segment_id.ensures ∙ ap (λ o. o / b.size) c.lid.ensures in
    other_answer b c.args.page c.args.new.now c.requires.accepted c.args.old.now.segment c.args.base _ c.args.old.now.size _ _ _ z (λ q. c.if-old-segment_id.false (q ∙ sym m)) c.in-Some.ensures.1 c.is_lying-lies.ensures c.check_old-2.ensures
