-- The generator: each state by the one before it, and the number that a state gives.
use Rattle.std.specs.Prelude.{ℕ, ◌+◌, ◌*◌, ◌/◌, ◌%◌, ◌^◌}

-- the multiplier is 1 modulo 4 and the increment is odd, so the states run through all numbers below 2 ^ 64 before one
-- comes again: that is the period
abbrev pub next_state : ℕ → ℕ
next_state state = (state * 2862933555777941757 + 3037000493) % 2 ^ 64

-- the high half, since the low bits repeat sooner
abbrev pub face_of : ℕ → ℕ
face_of state = state / 2 ^ 32
