-- Calls with the oldest first: the same history, told the other way round.
use Rattle.std.proofs.Common.{◌≡◌, List, [], ◌∷◌, reverse, sym, refl, ap, ◌∙◌}
use mathlib.Core.List.{reverse_aux}
use Rattle.std.proofs.lemmas.List.{reverse-reverse}
use Rattle.machine.specs.declared.call.Call.{Call}
use Rattle.machine.specs.Machine.{Setup, fresh}
use Rattle.machine.specs.History.{after, record_of, answers_from, state_from, told_in}

state_on : (m : Setup) (calls older : List Call) → state_from m (after m older) calls ≡ after m (reverse_aux calls older)
unfolding state_from
state_on m [] older = refl
state_on m (call ∷ calls) older = state_on m calls (call ∷ older)

-- the state is the same
pub state_forward : (m : Setup) (calls : List Call) → state_from m (fresh m) calls ≡ after m (reverse calls)
state_forward m calls = state_on m calls []

answers_on : (m : Setup) (calls older : List Call) → reverse_aux (answers_from m (after m older) calls) (told_in (record_of m older)) ≡ told_in (record_of m (reverse_aux calls older))
unfolding answers_from
answers_on m [] older = refl
answers_on m (call ∷ calls) older = answers_on m calls (call ∷ older)

-- and the answers are those of the record, the other way round
pub answers_forward : (m : Setup) (calls : List Call) → answers_from m (fresh m) calls ≡ reverse (told_in (record_of m (reverse calls)))
answers_forward m calls = sym (reverse-reverse (answers_from m (fresh m) calls)) ∙ ap reverse (answers_on m calls [])
