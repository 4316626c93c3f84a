-- The part from `start` on is turned by as many places as are to go.
use Rattle.std.proofs.Common.{◌≡◌, ◌++◌, length, take, drop, refl, ◌∙◌, arith}
use Rattle.std.proofs.lemmas.List.{take_all}
use Rattle.table.proofs.Slides.{turned_front}
use Rattle.table.proofs.limited.turn_out.Goals as goal

pub returns : goal.returns
returns g c =
    let rows = c.args.rows.now in
    let all : take (length rows) rows ≡ rows = take_all (length rows) rows (omega arith) in
    turned_front rows c.args.start c.args.end (length rows) _ c.rotate_left.new.self c.requires.0 c.requires.1 (omega arith) refl c.rotate_left.ensures.after ∙ (λ i. take c.args.start (all i) ++ drop c.args.end (all i))
