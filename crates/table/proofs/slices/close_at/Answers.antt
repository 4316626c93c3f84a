-- The part from i on is turned by one place, so that the row of i stands last of it.
use Rattle.std.proofs.Common.{take, sym, refl, ◌∙◌}
use Rattle.std.specs.List.{remove}
use Rattle.std.proofs.lemmas.List.{get_or-take}
use Rattle.table.proofs.Slides.{closed, front_left}
use Rattle.table.proofs.slices.close_at.Goals as goal

pub returns : goal.returns
returns g c =
    let rows = c.args.rows.now in
    let i = c.args.i in
    let len = c.args.len in
    let x = c.index-rows-i.result in
    let h = closed rows i len x _ c.rotate_left.new.self c.requires.0 c.requires.1 c.index-rows-i.is refl c.rotate_left.ensures.after in
    record {
      value = c.index-rows-i.is ∙ sym (get_or-take len rows i x c.requires.0);
      rows = h;
      front = front_left _ (remove (take len rows) i) rows _ len i c.requires.0 c.requires.1 refl h;
    }
