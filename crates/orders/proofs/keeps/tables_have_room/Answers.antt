-- Each of these tables ascends by places of the segments reached.
use Rattle.orders.proofs.Rooms.{have_room}
use Rattle.orders.proofs.keeps.tables_have_room.Goals as goal

pub returns : goal.returns
returns c = have_room
