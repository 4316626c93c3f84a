-- The directory leads to rows that are there.
use Rattle.std.proofs.Common.{◌≡◌, rules, ap, ◌∙◌}
use Rattle.std.specs.Option.{option_map}
use Rattle.recovery.proofs.Covering.{forms, part_there}
use Rattle.recovery.proofs.snapshots.forms_page.Goals as goal

pub returns : goal.returns
returns c =
    let e : c.is_some_and.result ≡ forms (option_map (λ x. x.now) c.page_rows.result) = search rules in
    e ∙ ap forms (c.page_rows.ensures ∙ part_there c.args.directory.now c.args.rows.now c.args.page c.requires.covered c.requires.listed)
