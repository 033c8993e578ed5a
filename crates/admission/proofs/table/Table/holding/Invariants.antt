-- What is held so far, and what is left, are all the polls and all the lanes.
use Rattle.std.proofs.Common.{◌≡◌, ◌++◌, map, drop}
use Rattle.few.specs.Elements.{elements}
use Rattle.sheet.specs.Entries.{seen}
use Rattle.admission.specs.Verdict.{polls_in, lanes_in}
use Rattle.admission.proofs.table.Table.holding.Given as goal

abbrev pub invariant-loop-record : goal.invariant-loop-record
invariant-loop-record l =
    (elements l.polls ++ polls_in (map seen (drop l.record-index l.record-items)) ≡ polls_in (map seen l.record-items))
    × (elements l.lanes ++ lanes_in (map seen (drop l.record-index l.record-items)) ≡ lanes_in (map seen l.record-items))
