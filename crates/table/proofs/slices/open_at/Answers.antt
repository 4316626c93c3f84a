-- The part from i on is shifted by one place; what the slice holds is read in two parts.
use Rattle.std.proofs.Common.{◌≡◌, ◌+◌, length, take, refl, ap, ◌∙◌, arith, length-take}
use Rattle.std.specs.List.{insert}
use Rattle.std.proofs.lemmas.List.Edits.{length-insert}
use Rattle.table.proofs.Entries.{laid_from}
use Rattle.table.proofs.Slides.{opened}
use Rattle.table.proofs.slices.open_at.Goals as goal

pub returns : goal.returns
returns g c =
    let rows = c.args.rows.now in
    let i = c.args.i in
    let len = c.args.len in
    let m : length (take len rows) ≡ len = simp length-take (omega arith) in
    let l : length (insert (take len rows) i c.args.row) ≡ len + 1 = length-insert (take len rows) i c.args.row (omega arith) ∙ ap (λ k. k + 1) m in
    let h = opened rows i len c.args.row _ c.shift_in.new.part c.requires.0 c.requires.1 refl c.shift_in.ensures in
    record { rows = laid_from (insert (take len rows) i c.args.row) rows _ (len + 1) l h.0 h.1; front = h.0; long = l }
