-- A cycle that is known is within its limit: it is the last of those that passed.
use Rattle.std.proofs.Common.{if◌then◌else◌, ◌≡◌, ℕ, ◌≤◌, Bool, true, false, leb, List, [], ◌∷◌, Ok, Err, Result, refl, arith}
use Rattle.std.proofs.lemmas.Bool.{leb-true}
use Rattle.sheet.specs.declared.fault.RecordFault.{RecordFault}
use Rattle.sheet.specs.Entries.{Entry, place_of}
use Rattle.sheet.specs.Reading.{next, read_sheet}
use Rattle.admission.specs.declared.fault.AdmissionFault.{AdmissionFault}
use Rattle.admission.specs.declared.fault.AdmissionFault.TheVariants.{Cycle, Load}
use Rattle.admission.specs.Measure.{multiple_of}
use Rattle.admission.specs.Demand.{longest_cycle}
use Rattle.admission.specs.Verdict.{length_of, cycle_from, load_in, weighed, after_reading, admit_sheet}
use Rattle.notice.specs.Pages.{known_cycle, Short}

weighed_short : (b : Bool) (load cycle : ℕ) → cycle ≤ longest_cycle → Short (known_cycle (if b then Ok (load, cycle) else Err (Load load cycle)))
weighed_short true load cycle h = h
weighed_short false load cycle h = h

grown_short : (all : List Entry) (place : ℕ) (b : Bool) (r : Result ℕ AdmissionFault) → (b ≡ true → Short (known_cycle (next r (weighed all)))) → Short (known_cycle (next (if b then r else Err (Cycle place)) (weighed all)))
grown_short all place true r h = h refl
grown_short all place false r h = tt

from_short : (all entries : List Entry) (start : ℕ) → start ≤ longest_cycle → Short (known_cycle (next (cycle_from start entries) (weighed all)))
from_short all [] start h = weighed_short (leb (load_in start all) start) (load_in start all) start h
from_short all (entry ∷ entries) start h =
    let grown = multiple_of start (length_of entry) in
    grown_short all (place_of entry) (leb grown longest_cycle) (cycle_from grown entries) (λ small. from_short all entries grown (leb-true grown longest_cycle small))

after_short : (r : Result (List Entry) RecordFault) → Short (known_cycle (after_reading r))
after_short (Ok entries) = from_short entries entries 1 (omega arith)
after_short (Err fault) = tt

pub known_short : (bytes : List ℕ) → Short (known_cycle (admit_sheet bytes))
known_short bytes = after_short (read_sheet bytes)
