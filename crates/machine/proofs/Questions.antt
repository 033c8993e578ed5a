-- What a call that is accepted has shown: every question was answered with yes.
use Rattle.std.proofs.Common.{◌≡◌, ℕ, ◌<◌, ◌≤◌, true, false, length, None, arith}
use Rattle.std.proofs.lemmas.Bool.Decides.{nat_tests}
use Rattle.machine.specs.declared.call.Call.TheVariants.{Request, Grant, Report}
use Rattle.machine.specs.declared.call.Outcome.{Outcome}
use Rattle.machine.specs.Limits.{most_budget, most_ahead}
use Rattle.machine.specs.Lanes.{ahead}
use Rattle.machine.specs.Machine.{Setup, State, recent_at, refusal_of}

pub record Asked (m : Setup) (s : State) (j budget : ℕ) : Type 0 where
  pub shut : s.is_open ≡ false
  pub lane : j < length m.table.lanes
  pub some : 1 ≤ budget
  pub most : budget ≤ most_budget
  pub few : ahead s.slot (recent_at s j) < most_ahead
  pub place : length s.bag < m.places

pub request_accepted : (m : Setup) (s : State) (j budget : ℕ) → refusal_of m s (Request j budget) ≡ None → Asked m s j budget
request_accepted m s j budget e = record {
  shut = grind (arith, nat_tests);
  lane = grind (arith, nat_tests);
  some = grind (arith, nat_tests);
  most = grind (arith, nat_tests);
  few = grind (arith, nat_tests);
  place = grind (arith, nat_tests);
}

pub grant_accepted : (m : Setup) (s : State) → refusal_of m s Grant ≡ None → s.is_open ≡ false
grant_accepted m s e = grind (arith, nat_tests)

pub report_accepted : (m : Setup) (s : State) (unit slot : ℕ) (outcome : Outcome) → refusal_of m s (Report unit slot outcome) ≡ None → s.is_open ≡ true
report_accepted m s unit slot outcome e = grind (arith, nat_tests)
