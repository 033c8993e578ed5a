-- What holds of every sheet that is read, in the words of whoever wrote it.
use Rattle.std.specs.Prelude.{◌≡◌, ℕ, zero, suc, ◌+◌, ◌≤◌, true, List, [], ◌∷◌, ◌++◌, length, take, Ok, ◌≢◌}
use Rattle.std.specs.List.{AllByRecursion}
use Rattle.sheet.specs.declared.kind.Kind.TheVariants.{Poll as OfPoll, Lane as OfLane}
use Rattle.sheet.specs.Limits.{header_bytes, most_polls, most_lanes, longest_name}
use Rattle.sheet.specs.Header.{claimed_length, claimed_polls, claimed_lanes, length_is_given}
use Rattle.sheet.specs.Entries.{Entry, kind_of, name_of, place_of, end_of}
use Rattle.sheet.specs.Limited.{WithinLimits}
use Rattle.sheet.specs.Records.{is_plain}
use Rattle.sheet.specs.Reading.{read_sheet}
use Rattle.sheet.specs.Questions.{questions, Judged}

-- a name of 1 to 12 small letters and digits
abbrev pub WellNamed : Entry → Type 0
WellNamed entry = (1 ≤ length (name_of entry)) × (length (name_of entry) ≤ longest_name) × (is_plain (name_of entry) ≡ true)

-- no two records have the same name
abbrev pub Distinct : List Entry → Type 0
Distinct [] = Unit {0}
Distinct (entry ∷ entries) = AllByRecursion (λ other. name_of entry ≢ name_of other) entries × Distinct entries

-- the records lie one behind the other, without a gap, from one byte to another
abbrev pub Tiles : ℕ → List Entry → ℕ → Type 0
Tiles from [] to = from ≡ to
Tiles from (entry ∷ entries) to = (place_of entry ≡ from) × Tiles (end_of entry) entries to

-- the first so many are polls, and the others are lanes
abbrev pub PollsFirst : ℕ → List Entry → Type 0
PollsFirst polls [] = Unit {0}
PollsFirst zero (entry ∷ entries) = (kind_of entry ≡ OfLane) × PollsFirst zero entries
PollsFirst (suc polls) (entry ∷ entries) = (kind_of entry ≡ OfPoll) × PollsFirst polls entries

pub record WellRead (bytes : List ℕ) (entries : List Entry) : Type 0 where
  pub limits : AllByRecursion WithinLimits entries
  pub names : AllByRecursion WellNamed entries
  pub distinct : Distinct entries
  pub tiles : Tiles header_bytes entries (claimed_length bytes)
  pub few_polls : claimed_polls bytes ≤ most_polls
  pub few_lanes : claimed_lanes bytes ≤ most_lanes
  pub count : length entries ≡ claimed_polls bytes + claimed_lanes bytes
  pub order : PollsFirst (claimed_polls bytes) entries

pub record SheetLaws (bytes : List ℕ) : Type 0 where
  -- the records of a sheet are as they should be
  pub well_read : (entries : List Entry) → read_sheet bytes ≡ Ok entries → WellRead bytes entries
  -- the fault is that of the first question whose answer is no
  pub judged : Judged (questions bytes) (read_sheet bytes)
  -- what comes after the length changes nothing
  pub rest_ignored : (more : List ℕ) → length_is_given bytes ≡ true → read_sheet (take (claimed_length bytes) bytes ++ more) ≡ read_sheet bytes
