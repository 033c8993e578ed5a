-- Induction over the calls of a history: a call is refused and leaves the state, or is accepted and moves it.
use Rattle.std.proofs.Common.{◌≡◌, List, [], ◌∷◌, Some, None, Option, Ok, Err, is_some, if◌then◌else◌, refl}
use Rattle.std.specs.Option.{option_map_or}
use Rattle.machine.specs.declared.call.Call.{Call}
use Rattle.machine.specs.declared.refusal.Refusal.{Refusal}
use Rattle.machine.specs.Machine.{Setup, State, Answer, fresh, refusal_of, moved, said}
use Rattle.machine.specs.History.{Entry, after, record_of}

abbrev pub entry : Call → Answer → Entry
entry call told = record { call = call; told = told }

module _ (m : Setup) (P : State → List Entry → Type 0) where
  pub along : P (fresh m) [] →
      ((calls : List Call) (call : Call) (refusal : Refusal) → refusal_of m (after m calls) call ≡ Some refusal → P (after m calls) (record_of m calls) → P (after m calls) (entry call (Err refusal) ∷ record_of m calls)) →
      ((calls : List Call) (call : Call) → refusal_of m (after m calls) call ≡ None → P (after m calls) (record_of m calls) → P (moved m (after m calls) call) (entry call (Ok (said m (after m calls) call)) ∷ record_of m calls)) →
      (calls : List Call) → P (after m calls) (record_of m calls)
  along first refused accepted [] = first
  along first refused accepted (call ∷ calls) = go (refusal_of m s call) refl (along first refused accepted calls)
    where
      s : State
      s = after m calls

      go : (o : Option Refusal) → refusal_of m s call ≡ o → P s (record_of m calls) → P (if is_some o then s else moved m s call) (entry call (option_map_or Err o (Ok (said m s call))) ∷ record_of m calls)
      go (Some refusal) e h = refused calls call refusal e h
      go None e h = accepted calls call e h
