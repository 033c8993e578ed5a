-- The page: the verdict, the ground of a refusal, and the records with what each takes of a cycle.
use Rattle.std.specs.Prelude.{ℕ, ◌+◌, ◌≤◌, ⊤, List, [], ◌∷◌, ◌++◌, Some, None, Ok, Err, codes, decimal, Option, Result}
use Rattle.sheet.specs.declared.fault.Diagnosis.{Diagnosis}
use Rattle.sheet.specs.declared.fault.RecordFault.{RecordFault}
use Rattle.sheet.specs.Kinds.{kind_name}
use Rattle.sheet.specs.Grounds.{diagnosis_text}
use Rattle.sheet.specs.Entries.{Entry, poll, lane, kind_of, name_of}
use Rattle.sheet.specs.Reading.{read_sheet}
use Rattle.admission.specs.declared.fault.AdmissionFault.{AdmissionFault}
use Rattle.admission.specs.declared.fault.AdmissionFault.TheVariants.{Record, Cycle, Load}
use Rattle.admission.specs.Faults.{admission_diagnosis}
use Rattle.admission.specs.Grounds.{ground_of}
use Rattle.admission.specs.Demand.{longest_cycle}
use Rattle.admission.specs.Verdict.{length_of, share_of, slots_of, admit_sheet}
use Rattle.notice.specs.Columns.{at_left, at_right}

abbrev pub line_end : List ℕ
line_end = 10 ∷ []

-- THE VERDICT

abbrev pub admitted_line : ℕ → ℕ → List ℕ
admitted_line load cycle = codes "admitted " ++ (decimal load ++ (codes " of " ++ (decimal cycle ++ line_end)))

abbrev pub refused_line : Diagnosis → List ℕ
refused_line told = codes "refused " ++ (diagnosis_text told ++ line_end)

-- the first line, and the ground of a refusal
abbrev pub verdict_lines : Result (ℕ × ℕ) AdmissionFault → List ℕ
verdict_lines (Ok pair) = admitted_line pair.0 pair.1
verdict_lines (Err fault) = refused_line (admission_diagnosis fault) ++ (ground_of fault ++ line_end)

-- THE RECORDS

-- the cycle, where it was found
abbrev pub known_cycle : Result (ℕ × ℕ) AdmissionFault → Option ℕ
known_cycle (Ok pair) = Some pair.1
known_cycle (Err (Record fault)) = None
known_cycle (Err (Cycle at)) = None
known_cycle (Err (Load load cycle)) = Some cycle

-- a cycle that is known is within its limit
abbrev pub Short : Option ℕ → Type 0
Short None = ⊤
Short (Some cycle) = cycle ≤ longest_cycle

abbrev pub kind_text : Entry → List ℕ
kind_text entry = kind_name (kind_of entry)

-- a lane has no phase
abbrev pub phase_text : Entry → List ℕ
phase_text (poll name phase period budget at) = decimal phase
phase_text (lane name span quota at) = codes "-"

-- the slots of a cycle that a record takes, where the cycle is known
abbrev pub slots_text : Option ℕ → Entry → List ℕ
slots_text None entry = codes "-"
slots_text (Some cycle) entry = decimal (slots_of cycle entry)

-- an empty line, and what the columns are
abbrev pub heading : List ℕ
heading = line_end ++ codes "kind  owner  name          phase  period/span  budget/quota  slots in one cycle" ++ line_end

abbrev pub entry_line : Option ℕ → ℕ → Entry → List ℕ
entry_line cycle owner entry =
    kind_text entry
    ++ at_right 7 (decimal owner)
    ++ codes "  "
    ++ at_left 12 (name_of entry)
    ++ at_right 7 (phase_text entry)
    ++ at_right 13 (decimal (length_of entry))
    ++ at_right 14 (decimal (share_of entry))
    ++ at_right 20 (slots_text cycle entry)
    ++ line_end

-- a poll has the next number of a poll as its owner number, a lane the next of a lane
abbrev pub owner_of : Entry → ℕ → ℕ → ℕ
owner_of (poll name phase period budget at) next_poll next_lane = next_poll
owner_of (lane name span quota at) next_poll next_lane = next_lane

abbrev pub poll_after : Entry → ℕ → ℕ
poll_after (poll name phase period budget at) next_poll = next_poll + 1
poll_after (lane name span quota at) next_poll = next_poll

abbrev pub lane_after : Entry → ℕ → ℕ
lane_after (poll name phase period budget at) next_lane = next_lane
lane_after (lane name span quota at) next_lane = next_lane + 1

-- a line for each record
abbrev pub entry_lines : Option ℕ → ℕ → ℕ → List Entry → List ℕ
entry_lines cycle next_poll next_lane [] = []
entry_lines cycle next_poll next_lane (entry ∷ entries) =
    entry_line cycle (owner_of entry next_poll next_lane) entry ++ entry_lines cycle (poll_after entry next_poll) (lane_after entry next_lane) entries

-- under a heading; polls are numbered from 0 on, lanes from 32 on
abbrev pub record_lines : Option ℕ → Result (List Entry) RecordFault → List ℕ
record_lines cycle (Ok entries) = heading ++ entry_lines cycle 0 32 entries
record_lines cycle (Err fault) = []

abbrev pub page_of : List ℕ → List ℕ
page_of bytes = verdict_lines (admit_sheet bytes) ++ record_lines (known_cycle (admit_sheet bytes)) (read_sheet bytes)
