-- The last comes first, and is written over.
use Rattle.table.proofs.Slides.{shifted_in}
use Rattle.table.proofs.slices.shift_in.Goals as goal

pub returns : goal.returns
returns g c = shifted_in c.args.part.now _ c.args.row c.requires c.rotate_right.ensures.after
