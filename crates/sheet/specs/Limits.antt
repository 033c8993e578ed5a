-- The limits of a sheet, each named once.
use Rattle.std.specs.Prelude.{ℕ}

-- the header's own bytes
abbrev pub header_bytes : ℕ
header_bytes = 5

-- at most so many polls, and so many lanes
abbrev pub most_polls : ℕ
most_polls = 32

abbrev pub most_lanes : ℕ
most_lanes = 8

-- the longest name, in bytes
abbrev pub longest_name : ℕ
longest_name = 12

-- the latest phase, and the longest period or span, in slots
abbrev pub latest_phase : ℕ
latest_phase = 10000

abbrev pub longest_span : ℕ
longest_span = 10000
