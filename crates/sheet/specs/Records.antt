-- The questions about one record of a sheet, each a condition on the sheet's bytes.
use Rattle.std.specs.Prelude.{if◌then◌else◌, ℕ, ◌+◌, Bool, not, ◌&&◌, ◌||◌, List, length, take, drop, ◌==◌, nat_le, nat_lt, slice_index}
use Rattle.std.specs.List.{list_all, list_any}
use Rattle.std.specs.Str.{bytes_eq}
use Rattle.sheet.specs.declared.kind.Kind.{Kind}
use Rattle.sheet.specs.declared.kind.Kind.TheVariants.{Poll as OfPoll, Lane as OfLane}
use Rattle.sheet.specs.Limits.{longest_name, latest_phase, longest_span}
use Rattle.sheet.specs.Header.{word_at}

-- P for a poll, L for a lane
abbrev pub letter_of : Kind → ℕ
letter_of OfPoll = 80
letter_of OfLane = 76

-- the bytes of its numbers: phase, period and budget of a poll, span and quota of a lane
abbrev pub numbers_size : Kind → ℕ
numbers_size OfPoll = 6
numbers_size OfLane = 4

-- the polls come first
abbrev pub kind_at : ℕ → ℕ → Kind
kind_at polls i = if nat_lt i polls then OfPoll else OfLane

-- the name length that the record at `at` claims, and the bytes of its name
abbrev pub claimed_name : List ℕ → ℕ → ℕ
claimed_name sheet at = slice_index sheet (at + 1)

abbrev pub name_bytes : List ℕ → ℕ → List ℕ
name_bytes sheet at = take (claimed_name sheet at) (drop (at + 2) sheet)

-- the byte of its first number, and the first byte past it
abbrev pub first_number : List ℕ → ℕ → ℕ
first_number sheet at = at + 2 + length (name_bytes sheet at)

abbrev pub claimed_end : Kind → List ℕ → ℕ → ℕ
claimed_end kind sheet at = first_number sheet at + numbers_size kind

-- 13: is the letter inside the sheet and the one due?
abbrev pub letter_is_due : Kind → List ℕ → ℕ → Bool
letter_is_due kind sheet at = nat_lt at (length sheet) && slice_index sheet at == letter_of kind

-- 14: is the name length inside, from 1 to 12, and does the record end inside?
abbrev pub name_length_fits : Kind → List ℕ → ℕ → Bool
name_length_fits kind sheet at =
    nat_lt (at + 1) (length sheet)
    && (nat_le 1 (claimed_name sheet at)
    && (nat_le (claimed_name sheet at) longest_name
    && nat_le (at + 2 + claimed_name sheet at + numbers_size kind) (length sheet)))

-- a to z and 0 to 9
abbrev pub is_plain_byte : ℕ → Bool
is_plain_byte byte = (nat_le 97 byte && nat_le byte 122) || (nat_le 48 byte && nat_le byte 57)

abbrev pub is_plain : List ℕ → Bool
is_plain name = list_all is_plain_byte name

abbrev pub is_taken : List ℕ → List (List ℕ) → Bool
is_taken name others = list_any (λ other. bytes_eq other name) others

-- 15: has the name only a to z and 0 to 9, and has no earlier record that name?
abbrev pub name_is_allowed : List ℕ → List (List ℕ) → Bool
name_is_allowed name earlier = is_plain name && not (is_taken name earlier)

-- 16: are the numbers, which begin at byte `first`, within their limits?
abbrev pub numbers_fit : Kind → List ℕ → ℕ → Bool
numbers_fit OfPoll sheet first =
    nat_le (word_at sheet first) latest_phase
    && (nat_le 1 (word_at sheet (first + 2))
    && (nat_le (word_at sheet (first + 2)) longest_span
    && (nat_le 1 (word_at sheet (first + 4)) && nat_le (word_at sheet (first + 4)) (word_at sheet (first + 2)))))
numbers_fit OfLane sheet first =
    nat_le 1 (word_at sheet first)
    && (nat_le (word_at sheet first) longest_span
    && (nat_le 1 (word_at sheet (first + 2)) && nat_le (word_at sheet (first + 2)) (word_at sheet first)))

-- 17: does the last record, which ends before `at`, end at the sheet's length?
abbrev pub ends_at_length : List ℕ → ℕ → Bool
ends_at_length sheet at = at == length sheet
