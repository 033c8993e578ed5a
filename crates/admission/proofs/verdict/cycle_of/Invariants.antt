-- What is left decides.
use Rattle.std.proofs.Common.{◌≡◌, ◌<◌, ◌≤◌, map, drop}
use Rattle.std.specs.List.{AllByRecursion}
use Rattle.sheet.specs.Entries.{seen}
use Rattle.sheet.specs.Held.{held}
use Rattle.sheet.specs.Limited.{WithinLimits}
use Rattle.admission.specs.Demand.{longest_cycle}
use Rattle.admission.specs.Verdict.{cycle_from}
use Rattle.admission.proofs.verdict.cycle_of.Given as goal

abbrev pub invariant-loop-record : goal.invariant-loop-record
invariant-loop-record l =
    (0 < l.slots)
    × (l.slots ≤ longest_cycle)
    × AllByRecursion WithinLimits (map seen (drop l.record-index l.record-items))
    × (cycle_from l.slots (map seen (drop l.record-index l.record-items)) ≡ cycle_from 1 (held l.records))
