-- What a write at a place leaves, in two parts.
use Rattle.std.proofs.Common.{◌≡◌, length, take, set, arith, length-set, length-take}
use Rattle.table.proofs.Entries.{laid_from}
use Rattle.table.proofs.Slides.{written}
use Rattle.table.proofs.slices.write_at.Goals as goal

pub returns : goal.returns
returns g c =
    let rows = c.args.rows.now in
    let i = c.args.i in
    let len = c.args.len in
    let h = written rows i len c.args.row c.requires.0 c.requires.1 in
    let l : length (set (take len rows) i c.args.row) ≡ len = simp (length-set, length-take) (omega arith) in
    record { rows = laid_from (set (take len rows) i c.args.row) rows (set rows i c.args.row) len l h.0 h.1; front = h.0; long = l }
