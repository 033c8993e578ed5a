-- What always holds of the last deadlines of a lane: none is so far from the one before it that a number could overflow.
use Rattle.std.specs.Prelude.{ℕ, suc, ◌+◌, ◌<◌, ◌≤◌, max, List, slice_index}
use Rattle.machine.specs.Limits.{most_ahead, slots_in_all}

-- no request reaches farther: 10,000 slots at one slot of every 10,000
abbrev pub longest_reach : ℕ
longest_reach = 100000000

-- no deadline is later: at most eight requests reach past the last slot
abbrev pub latest_deadline : ℕ
latest_deadline = 900000000

-- a deadline goes on from a slot, or from the deadline before it, which is the next in the list (0 where there is none)
abbrev pub GoesOn : List ℕ → ℕ → Type 0
GoesOn before deadline = deadline ≤ max slots_in_all (slice_index before 0) + longest_reach

-- each goes on from the next; what the eighth went on from is forgotten
abbrev pub Chained : List ℕ → Type 0
Chained deadlines = (i : ℕ) → suc i < most_ahead → slice_index deadlines i ≤ max slots_in_all (slice_index deadlines (suc i)) + longest_reach
