-- The verdict on a sheet, and the table that it fills.
use Rattle.std.specs.Prelude.{if◌then◌else◌, ℕ, ◌*◌, ◌/◌, List, [], ◌∷◌, map, Ok, Err, Result, nat_le}
use Rattle.sheet.specs.declared.fault.RecordFault.{RecordFault}
use Rattle.sheet.specs.Entries.{Entry, poll, lane, place_of}
use Rattle.sheet.specs.Reading.{next, read_sheet}
use Rattle.admission.specs.declared.fault.AdmissionFault.{AdmissionFault}
use Rattle.admission.specs.declared.fault.AdmissionFault.TheVariants.{Record, Cycle, Load}
use Rattle.admission.specs.declared.table.Poll.{Poll}
use Rattle.admission.specs.declared.table.Lane.{Lane}
use Rattle.admission.specs.Measure.{multiple_of}
use Rattle.admission.specs.Sums.{sum_of}
use Rattle.admission.specs.Demand.{longest_cycle}
use Rattle.admission.specs.Contents.{Contents}

-- a poll's period, a lane's span
abbrev pub length_of : Entry → ℕ
length_of (poll name phase period budget at) = period
length_of (lane name span quota at) = span

-- a poll's budget, a lane's quota
abbrev pub share_of : Entry → ℕ
share_of (poll name phase period budget at) = budget
share_of (lane name span quota at) = quota

abbrev pub lengths : List Entry → List ℕ
lengths entries = map length_of entries

-- the least common multiple of a cycle and the lengths of the records behind it, as long as it is within the limit;
-- else 18, at the first record at which it grows past that
abbrev pub cycle_from : ℕ → List Entry → Result ℕ AdmissionFault
cycle_from cycle [] = Ok cycle
cycle_from cycle (entry ∷ entries) =
    let grown = multiple_of cycle (length_of entry) in
    if nat_le grown longest_cycle then cycle_from grown entries else Err (Cycle (place_of entry))

-- the slots that a record takes of a cycle, and what all of them take
abbrev pub slots_of : ℕ → Entry → ℕ
slots_of cycle entry = share_of entry * (cycle / length_of entry)

abbrev pub load_in : ℕ → List Entry → ℕ
load_in cycle entries = sum_of (slots_of cycle) entries

-- load and cycle, or 19 if the load is larger
abbrev pub weighed : List Entry → ℕ → Result (ℕ × ℕ) AdmissionFault
weighed entries cycle =
    let load = load_in cycle entries in
    if nat_le load cycle then Ok (load, cycle) else Err (Load load cycle)

abbrev pub verdict : List Entry → Result (ℕ × ℕ) AdmissionFault
verdict entries = next (cycle_from 1 entries) (weighed entries)

abbrev pub after_reading : Result (List Entry) RecordFault → Result (ℕ × ℕ) AdmissionFault
after_reading (Ok entries) = verdict entries
after_reading (Err fault) = Err (Record fault)

-- the verdict on a sheet: load and cycle, or the first question that it fails
abbrev pub admit_sheet : List ℕ → Result (ℕ × ℕ) AdmissionFault
admit_sheet bytes = after_reading (read_sheet bytes)

-- the polls and the lanes among the records, in their order
abbrev pub polls_in : List Entry → List Poll
polls_in [] = []
polls_in (poll name phase period budget at ∷ entries) = record { phase = phase; period = period; budget = budget } ∷ polls_in entries
polls_in (lane name span quota at ∷ entries) = polls_in entries

abbrev pub lanes_in : List Entry → List Lane
lanes_in [] = []
lanes_in (poll name phase period budget at ∷ entries) = lanes_in entries
lanes_in (lane name span quota at ∷ entries) = record { span = span; quota = quota } ∷ lanes_in entries

-- the table of the records
abbrev pub filled : List Entry → ℕ × ℕ → Contents
filled entries pair = record { polls = polls_in entries; lanes = lanes_in entries; load = pair.0; cycle = pair.1 }

-- what a table holds after a verdict: the records of a sheet that is admitted, or what it held before
abbrev pub fill_by : List Entry → Result (ℕ × ℕ) AdmissionFault → Contents → Contents
fill_by entries (Ok pair) before = filled entries pair
fill_by entries (Err fault) before = before

abbrev pub fill_from : Result (List Entry) RecordFault → Contents → Contents
fill_from (Ok entries) before = fill_by entries (verdict entries) before
fill_from (Err fault) before = before

abbrev pub fill_table : List ℕ → Contents → Contents
fill_table bytes before = fill_from (read_sheet bytes) before
