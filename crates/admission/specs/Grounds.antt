-- The ground of each refusal of a sheet, in words.
use Rattle.std.specs.Prelude.{ℕ, List, codes}
use Rattle.sheet.specs.Grounds.{record_ground}
use Rattle.admission.specs.declared.fault.AdmissionFault.{AdmissionFault}
use Rattle.admission.specs.declared.fault.AdmissionFault.TheVariants.{Record, Cycle, Load}

abbrev pub ground_of : AdmissionFault → List ℕ
ground_of (Record fault) = record_ground fault
ground_of (Cycle at) = codes "from this record on the cycle, which all periods and spans divide, is longer than 1000000000 slots"
ground_of (Load load cycle) = codes "the polls and lanes take more slots of a cycle than it has"
