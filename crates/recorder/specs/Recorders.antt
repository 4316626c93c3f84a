-- The host below a recorder.
use Rattle.recorder.specs.declared.recorder.Recorder.{Recorder}

abbrev pub below_of : {X Y : Type 0} → Recorder X Y → Y
below_of r = r.below
