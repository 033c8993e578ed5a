-- The numbers of the unit, each named once.
use Rattle.std.specs.Prelude.{ℕ}

-- the largest budget of a request, in slots
abbrev pub most_budget : ℕ
most_budget = 10000

-- so many deadlines of a lane may lie past the present slot
abbrev pub most_ahead : ℕ
most_ahead = 8

-- the slots that a unit grants, numbered from 0
abbrev pub slots_in_all : ℕ
slots_in_all = 100000000

-- the owner number of lane 0; poll i has the owner number i, and there are at most so many polls
abbrev pub first_lane : ℕ
first_lane = 32

-- the owner of an idle slot
abbrev pub nobody : ℕ
nobody = 255
