-- A slot from its grant to its report, on the plain machine.
use Rattle.std.specs.Prelude.{◌≡◌, true, is_some, if◌then◌else◌}
use Rattle.machine.specs.declared.call.Call.TheVariants.{Grant, Report}
use Rattle.machine.specs.declared.call.Outcome.{Outcome}
use Rattle.machine.specs.Machine.{Machine, grant_refusal}
use Rattle.unit.specs.declared.token.Token.{Token}
use Rattle.unit.specs.Meaning.{called}

-- the token is of the slot that is open
pub record IsOfOpenSlot (token : Token) (machine : Machine) : Type 0 where
  pub open_now : machine.state.is_open ≡ true
  pub same_unit : token.unit ≡ machine.setup.unit
  pub same_slot : token.slot ≡ machine.state.slot

-- a grant, and if that is not refused, the report of its token
abbrev pub turned : Machine → Outcome → Machine
turned machine outcome =
    if is_some (grant_refusal machine.setup machine.state) then machine
    else called (called machine Grant) (Report machine.setup.unit machine.state.slot outcome)
