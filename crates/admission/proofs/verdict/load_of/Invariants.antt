-- What is added so far, and what is left, are the whole load; each record adds at most 10,000 cycles.
use Rattle.std.proofs.Common.{◌≡◌, ◌+◌, ◌*◌, ◌≤◌, map, drop}
use Rattle.std.specs.List.{AllByRecursion}
use Rattle.sheet.specs.Entries.{seen}
use Rattle.sheet.specs.Held.{held}
use Rattle.sheet.specs.Limited.{WithinLimits}
use Rattle.admission.specs.Verdict.{load_in}
use Rattle.admission.proofs.verdict.load_of.Given as goal

abbrev pub invariant-loop-record : goal.invariant-loop-record
invariant-loop-record l =
    (l.load ≤ 10000000000000 * l.record-index)
    × AllByRecursion WithinLimits (map seen (drop l.record-index l.record-items))
    × (l.load + load_in l.cycle.slots (map seen (drop l.record-index l.record-items)) ≡ load_in l.cycle.slots (held l.records))
