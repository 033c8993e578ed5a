-- What polls and lanes ask of the processor: the cycle after which all of them have come round, and the load of a cycle.
use Rattle.std.specs.Prelude.{ℕ, ◌+◌, ◌*◌, ◌/◌, List, [], ◌∷◌, ◌++◌, map}
use Rattle.admission.specs.declared.table.Poll.{Poll}
use Rattle.admission.specs.declared.table.Lane.{Lane}
use Rattle.admission.specs.Measure.{multiple_of}
use Rattle.admission.specs.Sums.{sum_of}

-- the longest cycle that is admitted
abbrev pub longest_cycle : ℕ
longest_cycle = 1000000000

-- the least common multiple of a number and a list of lengths, taken one by one
abbrev pub multiple_of_all : ℕ → List ℕ → ℕ
multiple_of_all n [] = n
multiple_of_all n (length ∷ lengths) = multiple_of_all (multiple_of n length) lengths

-- all periods and spans
abbrev pub lengths_of : List Poll → List Lane → List ℕ
lengths_of polls lanes = map (λ poll. poll.period) polls ++ map (λ lane. lane.span) lanes

-- the cycle: the least common multiple of all periods and spans
abbrev pub cycle_of : List Poll → List Lane → ℕ
cycle_of polls lanes = multiple_of_all 1 (lengths_of polls lanes)

-- the slots that a poll or a lane takes of a cycle
abbrev pub poll_slots : ℕ → Poll → ℕ
poll_slots cycle poll = poll.budget * (cycle / poll.period)

abbrev pub lane_slots : ℕ → Lane → ℕ
lane_slots cycle lane = lane.quota * (cycle / lane.span)

-- the load: what all of them take of a cycle
abbrev pub load_of : ℕ → List Poll → List Lane → ℕ
load_of cycle polls lanes = sum_of (poll_slots cycle) polls + sum_of (lane_slots cycle) lanes
