-- The questions about a sheet as a list, in their order, and what it means that the first no decides.
-- The conditions are those of Header and Records; docs/RULES.md has the same list in words.
use Rattle.std.specs.Prelude.{◌≡◌, ℕ, zero, suc, ◌+◌, Bool, true, false, ◌⊎◌, List, [], ◌∷◌, ◌++◌, take, Ok, Err, Result}
use Rattle.sheet.specs.declared.kind.Kind.{Kind}
use Rattle.sheet.specs.declared.fault.ByteFault.TheVariants.{Length, Version, Counts}
use Rattle.sheet.specs.declared.fault.RecordFault.{RecordFault}
use Rattle.sheet.specs.declared.fault.RecordFault.TheVariants.{Bytes, Letter, NameLength, Name, Numbers, Ending}
use Rattle.sheet.specs.Limits.{header_bytes}
use Rattle.sheet.specs.Header.{claimed_length, claimed_polls, claimed_lanes, length_is_given, version_is_one, counts_are_allowed}
use Rattle.sheet.specs.Entries.{Entry}
use Rattle.sheet.specs.Records.{kind_at, name_bytes, first_number, claimed_end, letter_is_due, name_length_fits, name_is_allowed, numbers_fit, ends_at_length}

-- a question about a sheet: whether its answer is yes, and the fault that a no is
pub record Question : Type 0 where
  pub yes : Bool
  pub fault : RecordFault

abbrev pub ask : Bool → RecordFault → Question
ask yes' fault' = record { yes = yes'; fault = fault' }

-- 10 to 12
abbrev pub header_questions : List ℕ → List Question
header_questions bytes =
    ask (length_is_given bytes) (Bytes Length)
    ∷ (ask (version_is_one bytes) (Bytes Version)
    ∷ (ask (counts_are_allowed bytes) (Bytes Counts)
    ∷ []))

-- 13 to 16, about the record of a kind that begins at `at`, after records with these names
abbrev pub record_questions : Kind → List (List ℕ) → List ℕ → ℕ → List Question
record_questions kind earlier sheet at =
    ask (letter_is_due kind sheet at) (Letter at)
    ∷ (ask (name_length_fits kind sheet at) (NameLength (at + 1))
    ∷ (ask (name_is_allowed (name_bytes sheet at) earlier) (Name (at + 2))
    ∷ (ask (numbers_fit kind sheet (first_number sheet at)) (Numbers (first_number sheet at))
    ∷ [])))

-- 13 to 16 for each record that is left, from number i on and from byte `at` on, and then 17
abbrev pub questions_from : ℕ → ℕ → ℕ → List (List ℕ) → List ℕ → ℕ → List Question
questions_from zero polls i earlier sheet at = ask (ends_at_length sheet at) (Ending at) ∷ []
questions_from (suc left) polls i earlier sheet at =
    record_questions (kind_at polls i) earlier sheet at
    ++ questions_from left polls (i + 1) (earlier ++ (name_bytes sheet at ∷ [])) sheet (claimed_end (kind_at polls i) sheet at)

-- all questions about a sheet; those about its records see the bytes of its length and no other
abbrev pub questions : List ℕ → List Question
questions bytes =
    header_questions bytes
    ++ questions_from (claimed_polls bytes + claimed_lanes bytes) (claimed_polls bytes) 0 [] (take (claimed_length bytes) bytes) header_bytes

-- every answer is yes
abbrev pub AllYes : List Question → Type 0
AllYes [] = Unit {0}
AllYes (q ∷ qs) = (q.yes ≡ true) × AllYes qs

-- the fault is that of the first question whose answer is no
abbrev pub FirstNo : List Question → RecordFault → Type 0
FirstNo [] fault' = ⊥
FirstNo (q ∷ qs) fault' = ((q.yes ≡ false) × (fault' ≡ q.fault)) ⊎ ((q.yes ≡ true) × FirstNo qs fault')

-- the result that the questions ask for
abbrev pub Judged : List Question → Result (List Entry) RecordFault → Type 0
Judged qs (Ok entries) = AllYes qs
Judged qs (Err fault') = FirstNo qs fault'
