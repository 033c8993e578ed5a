-- What reading a sheet gives: its records, or the fault of the first question that is answered with no.
use Rattle.std.specs.Prelude.{if◌then◌else◌, ◌≡◌, ℕ, zero, suc, ◌+◌, ◌≤◌, List, [], ◌∷◌, ◌++◌, map, length, take, Ok, Err, Result}
use Rattle.sheet.specs.declared.kind.Kind.{Kind}
use Rattle.sheet.specs.declared.kind.Kind.TheVariants.{Poll as OfPoll, Lane as OfLane}
use Rattle.sheet.specs.declared.record.Record.{Record}
use Rattle.sheet.specs.declared.header.Header.{Header}
use Rattle.sheet.specs.declared.fault.ByteFault.{ByteFault}
use Rattle.sheet.specs.declared.fault.RecordFault.{RecordFault}
use Rattle.sheet.specs.declared.fault.RecordFault.TheVariants.{Bytes, Letter, NameLength, Name, Numbers, Ending}
use Rattle.sheet.specs.Limits.{header_bytes}
use Rattle.sheet.specs.Header.{word_at, header_of}
use Rattle.sheet.specs.Entries.{Entry, poll, lane, seen, names_of, end_of}
use Rattle.sheet.specs.Records.{kind_at, name_bytes, letter_is_due, name_length_fits, name_is_allowed, numbers_fit, ends_at_length}

-- `r`, and then `f` of what it holds, unless it is a fault
abbrev pub next : {A B E : Type 0} → Result A E → (A → Result B E) → Result B E
next (Ok x) f = f x
next (Err e) f = Err e

-- the record that the numbers at byte `first` give
abbrev pub numbered : Kind → List ℕ → List ℕ → ℕ → ℕ → Entry
numbered OfPoll name sheet first at = poll name (word_at sheet first) (word_at sheet (first + 2)) (word_at sheet (first + 4)) at
numbered OfLane name sheet first at = lane name (word_at sheet first) (word_at sheet (first + 2)) at

abbrev pub entry_of : Kind → List ℕ → List ℕ → ℕ → ℕ → Result Entry RecordFault
entry_of kind name sheet first at = if numbers_fit kind sheet first then Ok (numbered kind name sheet first at) else Err (Numbers first)

-- the name of the record at `at`, by its letter and its name length
abbrev pub name_at : Kind → List ℕ → ℕ → Result (List ℕ) RecordFault
name_at kind sheet at =
    if letter_is_due kind sheet at then
    (if name_length_fits kind sheet at then Ok (name_bytes sheet at)
    else Err (NameLength (at + 1)))
    else Err (Letter at)

-- the record at `at` once its name is known
abbrev pub named_entry : Kind → List Entry → List ℕ → ℕ → List ℕ → Result Entry RecordFault
named_entry kind earlier sheet at name =
    if name_is_allowed name (names_of earlier) then entry_of kind name sheet (at + 2 + length name) at else Err (Name (at + 2))

-- the record at `at`, after those that came earlier
abbrev pub entry_at : Kind → List Entry → List ℕ → ℕ → Result Entry RecordFault
entry_at kind earlier sheet at = next (name_at kind sheet at) (named_entry kind earlier sheet at)

-- the records of which so many are left, from number i on and from byte `at` on; the last ends at the sheet's end
abbrev pub entries_from : ℕ → ℕ → ℕ → List Entry → List ℕ → ℕ → Result (List Entry) RecordFault
entries_from zero polls i earlier sheet at = if ends_at_length sheet at then Ok earlier else Err (Ending at)
entries_from (suc left) polls i earlier sheet at =
    next (entry_at (kind_at polls i) earlier sheet at)
    (λ entry. entries_from left polls (i + 1) (earlier ++ (entry ∷ [])) sheet (end_of entry))

abbrev pub after_header : Result Header ByteFault → List ℕ → Result (List Entry) RecordFault
after_header (Ok header) bytes = entries_from (header.polls + header.lanes) header.polls 0 [] (take header.length bytes) header_bytes
after_header (Err fault) bytes = Err (Bytes fault)

-- a whole sheet
abbrev pub read_sheet : List ℕ → Result (List Entry) RecordFault
read_sheet bytes = after_header (header_of bytes) bytes

-- the code's result r is the answer s, where `view` says what a value of the code shows
abbrev pub Gives : {A B E : Type 0} → (A → B) → Result A E → Result B E → Type 0
Gives view (Ok x) s = s ≡ Ok (view x)
Gives view (Err e) s = s ≡ Err e

-- the count r is the answer s, whose records are the first r of the area
abbrev pub GivesEntries : {E : Type 0} → Result ℕ E → List Record → Result (List Entry) E → Type 0
GivesEntries (Ok count) area s = (count ≤ length area) × (s ≡ Ok (map seen (take count area)))
GivesEntries (Err e) area s = s ≡ Err e
