-- The header of a sheet: the number of two bytes, the three questions about the header, and what it says.
use Rattle.std.specs.Prelude.{if◌then◌else◌, ℕ, ◌+◌, ◌*◌, Bool, ◌&&◌, List, length, Ok, Err, Result, ◌==◌, nat_le, nat_lt, slice_index}
use Rattle.sheet.specs.declared.header.Header.{Header}
use Rattle.sheet.specs.declared.fault.ByteFault.{ByteFault}
use Rattle.sheet.specs.declared.fault.ByteFault.TheVariants.{Length, Version, Counts}
use Rattle.sheet.specs.Limits.{header_bytes, most_polls, most_lanes}

-- the number of two bytes, the high one first, that begins at byte i
abbrev pub word_at : List ℕ → ℕ → ℕ
word_at bytes i = slice_index bytes i * 256 + slice_index bytes (i + 1)

-- the length that a sheet claims, and how many polls and lanes
abbrev pub claimed_length : List ℕ → ℕ
claimed_length bytes = word_at bytes 0

abbrev pub claimed_polls : List ℕ → ℕ
claimed_polls bytes = slice_index bytes 3

abbrev pub claimed_lanes : List ℕ → ℕ
claimed_lanes bytes = slice_index bytes 4

-- 10: are there five bytes, and is the length from 5 to the bytes given?
abbrev pub length_is_given : List ℕ → Bool
length_is_given bytes = nat_le header_bytes (length bytes) && (nat_le header_bytes (claimed_length bytes) && nat_le (claimed_length bytes) (length bytes))

-- 11: is the version 1?
abbrev pub version_is_one : List ℕ → Bool
version_is_one bytes = slice_index bytes 2 == 1

-- 12: are there at most 32 polls and 8 lanes, and at least one of either?
abbrev pub counts_are_allowed : List ℕ → Bool
counts_are_allowed bytes =
    nat_le (claimed_polls bytes) most_polls && (nat_le (claimed_lanes bytes) most_lanes && nat_lt 0 (claimed_polls bytes + claimed_lanes bytes))

-- what the header says, or the first question that it fails
abbrev pub header_of : List ℕ → Result Header ByteFault
header_of bytes =
    if length_is_given bytes then
    (if version_is_one bytes then
    (if counts_are_allowed bytes then Ok (record { length = claimed_length bytes; polls = claimed_polls bytes; lanes = claimed_lanes bytes })
    else Err Counts)
    else Err Version)
    else Err Length
