-- Reading a sheet is asking its questions one by one: those of the header, then those of each record.
use Rattle.std.proofs.Common.{◌≡◌, ℕ, suc, ◌+◌, Bool, true, false, cond, List, [], ◌∷◌, ◌++◌, take, Ok, Err, Result, refl, ap, ◌∙◌}
use Rattle.sheet.specs.declared.kind.Kind.{Kind}
use Rattle.sheet.specs.declared.kind.Kind.TheVariants.{Poll as OfPoll, Lane as OfLane}
use Rattle.sheet.specs.declared.header.Header.{Header}
use Rattle.sheet.specs.declared.fault.ByteFault.TheVariants.{Length, Version, Counts}
use Rattle.sheet.specs.declared.fault.RecordFault.{RecordFault}
use Rattle.sheet.specs.declared.fault.RecordFault.TheVariants.{Bytes, Letter, NameLength, Name, Numbers}
use Rattle.sheet.specs.Limits.{header_bytes}
use Rattle.sheet.specs.Header.{claimed_length, claimed_polls, claimed_lanes, length_is_given, version_is_one, counts_are_allowed}
use Rattle.sheet.specs.Entries.{Entry, kind_of, name_of, names_of, place_of, end_of}
use Rattle.sheet.specs.Records.{kind_at, name_bytes, first_number, claimed_end, letter_is_due, name_length_fits, name_is_allowed, numbers_fit}
use Rattle.sheet.specs.Reading.{next, numbered, name_at, named_entry, entries_from, after_header, read_sheet}
use Rattle.sheet.specs.Questions.{Question, header_questions, record_questions}

-- the first no, or else r
abbrev pub asked : List Question → Result (List Entry) RecordFault → Result (List Entry) RecordFault
asked [] r = r
asked (q ∷ qs) r = cond q.yes (asked qs r) (Err q.fault)

-- the record that the bytes at `at` give, if its questions are answered with yes
abbrev pub entry_here : Kind → List ℕ → ℕ → Entry
entry_here kind sheet at = numbered kind (name_bytes sheet at) sheet (first_number sheet at) at

pub here_kind : (kind : Kind) (sheet : List ℕ) (at : ℕ) → kind_of (entry_here kind sheet at) ≡ kind
here_kind OfPoll sheet at = refl
here_kind OfLane sheet at = refl

pub here_name : (kind : Kind) (sheet : List ℕ) (at : ℕ) → name_of (entry_here kind sheet at) ≡ name_bytes sheet at
here_name OfPoll sheet at = refl
here_name OfLane sheet at = refl

pub here_place : (kind : Kind) (sheet : List ℕ) (at : ℕ) → place_of (entry_here kind sheet at) ≡ at
here_place OfPoll sheet at = refl
here_place OfLane sheet at = refl

pub here_end : (kind : Kind) (sheet : List ℕ) (at : ℕ) → end_of (entry_here kind sheet at) ≡ claimed_end kind sheet at
here_end OfPoll sheet at = refl
here_end OfLane sheet at = refl

-- a `next` goes inside the two questions before a value
past_two : {A B : Type 0} (p q : Bool) (x : A) (e f : RecordFault) (k : A → Result B RecordFault) → next (cond p (cond q (Ok x) (Err f)) (Err e)) k ≡ cond p (cond q (k x) (Err f)) (Err e)
past_two true true x e f k = refl
past_two true false x e f k = refl
past_two false q x e f k = refl

next_next : {A B C : Type 0} (r : Result A RecordFault) (g : A → Result B RecordFault) (k : B → Result C RecordFault) → next (next r g) k ≡ next r (λ x. next (g x) k)
next_next (Ok x) g k = refl
next_next (Err e) g k = refl

module _ (left polls i : ℕ) (earlier : List Entry) (sheet : List ℕ) (at : ℕ) where
  -- the records behind the one at `at`
  abbrev pub behind : Result (List Entry) RecordFault
  behind = entries_from left polls (i + 1) (earlier ++ (entry_here (kind_at polls i) sheet at ∷ [])) sheet (end_of (entry_here (kind_at polls i) sheet at))

  pub record_asked : entries_from (suc left) polls i earlier sheet at ≡ asked (record_questions (kind_at polls i) (names_of earlier) sheet at) behind
  record_asked =
      let kind = kind_at polls i in
      let on : Entry → Result (List Entry) RecordFault = λ entry. entries_from left polls (i + 1) (earlier ++ (entry ∷ [])) sheet (end_of entry) in
      next_next (name_at kind sheet at) (named_entry kind earlier sheet at) on
      ∙ past_two (letter_is_due kind sheet at) (name_length_fits kind sheet at) (name_bytes sheet at) (Letter at) (NameLength (at + 1)) (λ name. next (named_entry kind earlier sheet at name) on)
      ∙ ap (λ r. cond (letter_is_due kind sheet at) (cond (name_length_fits kind sheet at) r (Err (NameLength (at + 1)))) (Err (Letter at)))
      (past_two (name_is_allowed (name_bytes sheet at) (names_of earlier)) (numbers_fit kind sheet (first_number sheet at)) (entry_here kind sheet at) (Name (at + 2)) (Numbers (first_number sheet at)) on)

after_header_lem : (p q r : Bool) (header : Header) (bytes : List ℕ) → after_header (cond p (cond q (cond r (Ok header) (Err Counts)) (Err Version)) (Err Length)) bytes ≡
    cond p (cond q (cond r (after_header (Ok header) bytes) (Err (Bytes Counts))) (Err (Bytes Version))) (Err (Bytes Length))
after_header_lem true true true header bytes = refl
after_header_lem true true false header bytes = refl
after_header_lem true false r header bytes = refl
after_header_lem false q r header bytes = refl

-- the records of a sheet whose header passes
abbrev pub entries_claimed : List ℕ → Result (List Entry) RecordFault
entries_claimed bytes = entries_from (claimed_polls bytes + claimed_lanes bytes) (claimed_polls bytes) 0 [] (take (claimed_length bytes) bytes) header_bytes

pub sheet_asked : (bytes : List ℕ) → read_sheet bytes ≡ asked (header_questions bytes) (entries_claimed bytes)
sheet_asked bytes = after_header_lem (length_is_given bytes) (version_is_one bytes) (counts_are_allowed bytes) _ bytes
