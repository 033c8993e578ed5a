-- The theorem is gathered in EveryHistory.
use Rattle.machine.proofs.EveryHistory.{promises_stand}
use Rattle.machine.proofs.promise.promises_stand.Goals as goal

pub returns : goal.returns
returns c = record { kept = promises_stand }
