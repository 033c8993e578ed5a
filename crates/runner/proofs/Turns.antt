-- One call more: the machine goes on from where the calls before it left it, and the answers get one more at their end.
use Rattle.std.proofs.Common.{◌≡◌, ℕ, ◌+◌, ◌<◌, false, Some, None, Option, Ok, Err, is_some, if◌then◌else◌, List, [], ◌∷◌, ◌++◌, length, take, get_or, set, sym, refl, ap, ◌∙◌, arith}
use Rattle.std.specs.Option.{option_map_or}
use Rattle.std.proofs.lemmas.List.{take_more, take_more_set}
use Rattle.machine.specs.declared.call.Call.{Call}
use Rattle.machine.specs.declared.refusal.Refusal.{Refusal}
use Rattle.machine.specs.Machine.{Machine, Setup, State, Answer, fresh, set_up, next, answer, open_refusal, opening}
use Rattle.machine.specs.History.{answers_from, state_from}
use Rattle.admission.specs.Contents.{Contents}
use Rattle.unit.specs.Meaning.{called, answered}
use Rattle.runner.specs.Running.{machine_after, answers_to}

not_refused : {X : Type 0} (done : X) (refusal : Option Refusal) → option_map_or Err refusal (Ok done) ≡ Ok done → is_some refusal ≡ false
not_refused done None h = refl
not_refused done (Some refusal) h = grind arith

-- a unit that was opened has made no call yet
pub begins : {X : Type 0} (done : X) (machine : Machine) (table : Contents) (unit : ℕ) → option_map_or Err (open_refusal machine table) (Ok done) ≡ Ok done → opening machine table unit ≡ machine_after (set_up machine.setup.places table unit) []
unfolding state_from
begins done machine table unit h =
    ap (λ b. if b then machine else record { setup = set_up machine.setup.places table unit; state = fresh (set_up machine.setup.places table unit) }) (not_refused done (open_refusal machine table) h)

state_more : (m : Setup) (s : State) (calls : List Call) (call : Call) → state_from m s (calls ++ call ∷ []) ≡ next m (state_from m s calls) call
unfolding state_from
state_more m s [] call = refl
state_more m s (first ∷ calls) call = state_more m (next m s first) calls call

answers_more : (m : Setup) (s : State) (calls : List Call) (call : Call) → answers_from m s (calls ++ call ∷ []) ≡ answers_from m s calls ++ answer m (state_from m s calls) call ∷ []
unfolding answers_from state_from
answers_more m s [] call = refl
answers_more m s (first ∷ calls) call = ap (λ answers. answer m s first ∷ answers) (answers_more m (next m s first) calls call)

module _ (m : Setup) (calls : List Call) (i : ℕ) (d : Call) (known : i < length calls) (machine : Machine) (is : machine ≡ machine_after m (take i calls)) where
  pub machine_turn : called machine (get_or calls i d) ≡ machine_after m (take (i + 1) calls)
  machine_turn =
      ap (λ machine. called machine (get_or calls i d)) is
      ∙ ap (λ s. record { setup = m; state = s }) (sym (state_more m (fresh m) (take i calls) (get_or calls i d)))
      ∙ ap (machine_after m) (sym (take_more calls i d known))

  pub answers_turn : (answers : List Answer) → i < length answers → take i answers ≡ answers_to m (take i calls) → take (i + 1) (set answers i (answered machine (get_or calls i d))) ≡ answers_to m (take (i + 1) calls)
  answers_turn answers free so_far =
      take_more_set answers i (answered machine (get_or calls i d)) free
      ∙ ap (λ told. told ++ answered machine (get_or calls i d) ∷ []) so_far
      ∙ ap (λ machine. answers_to m (take i calls) ++ answered machine (get_or calls i d) ∷ []) is
      ∙ sym (answers_more m (fresh m) (take i calls) (get_or calls i d))
      ∙ ap (answers_to m) (sym (take_more calls i d known))
