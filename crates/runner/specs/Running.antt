-- What a list of calls does to a unit, and who holds the token of its open slot.
use Rattle.std.specs.Prelude.{◌≡◌, ℕ, min, List, length}
use Rattle.machine.specs.declared.call.Call.{Call}
use Rattle.machine.specs.Machine.{Machine, Setup, Answer, fresh}
use Rattle.machine.specs.History.{answers_from, state_from}
use Rattle.unit.specs.declared.token.Token.{Token}

-- how many calls are made: as many as there are places for answers
abbrev pub made : List Call → List Answer → ℕ
made calls answers = min (length calls) (length answers)

-- a unit that is set up, after the calls from its opening on, and what these are answered
abbrev pub machine_after : Setup → List Call → Machine
machine_after m calls = record { setup = m; state = state_from m (fresh m) calls }

abbrev pub answers_to : Setup → List Call → List Answer
answers_to m calls = answers_from m (fresh m) calls

-- the token is that of the present slot
pub record OfSlot (machine : Machine) (token : Token) : Type 0 where
  pub unit : token.unit ≡ machine.setup.unit
  pub slot : token.slot ≡ machine.state.slot
