-- Halls of one lane and no poll, and a day in each.
use Rattle.std.specs.Prelude.{ℕ, List, [], ◌∷◌, ◌++◌, reverse, replicate}
use Rattle.machine.specs.declared.call.Call.{Call}
use Rattle.machine.specs.declared.call.Call.TheVariants.{Request}
use Rattle.machine.specs.Machine.{Setup, Answer, set_up}
use Rattle.machine.specs.History.{record_of, told_back}
use Rattle.machine.specs.Worked.{turns}

-- a unit numbered 0 over a queue of 8 places, with one lane of so many slots in a span
abbrev pub hall_of : ℕ → ℕ → Setup
hall_of quota span = set_up 8 (record { polls = []; lanes = record { span = span; quota = quota } ∷ []; load = quota; cycle = span }) 0

-- what its lane is told in a day of calls, the oldest first; between requests go turns, each a grant and a report
abbrev pub told : Setup → List Call → List Answer
told hall calls = reverse (told_back 0 (record_of hall (reverse calls)))

-- at slot 3 a request of one slot, at slot 9 one of two, and at slot 14 one of one
abbrev pub spread_day : List Call
spread_day = turns 3 0 ++ (Request 0 1 ∷ []) ++ turns 6 3 ++ (Request 0 2 ∷ []) ++ turns 5 9 ++ (Request 0 1 ∷ [])

-- nine requests of one slot at slot 0, then one at slot 1, and one at slot 2
abbrev pub eager_day : List Call
eager_day = replicate 9 (Request 0 1) ++ turns 1 0 ++ (Request 0 1 ∷ []) ++ turns 1 1 ++ (Request 0 1 ∷ [])
