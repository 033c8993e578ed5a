-- A lane's accepted deadlines only grow, and the machine remembers the last eight of them.
use Rattle.std.proofs.Common.{◌≡◌, ℕ, ◌<◌, true, false, eqb, List, [], ◌∷◌, take, Ok, None, sym, ap, ◌∙◌, inl, inr, arith, take-take}
use Rattle.std.specs.List.{AllByRecursion}
use Rattle.std.proofs.lemmas.Bool.{cases_eq, eq-eqb, ne_eqb}
use Rattle.machine.specs.declared.call.Call.{Call}
use Rattle.machine.specs.declared.call.Call.TheVariants.{Request, Grant, Report}
use Rattle.machine.specs.declared.call.Reply.TheVariants.{Deadline}
use Rattle.machine.specs.Limits.{most_ahead}
use Rattle.machine.specs.Lanes.{clock_of}
use Rattle.machine.specs.Machine.{Setup, State, refusal_of, moved, said, lane_at, recent_at, new_deadline}
use Rattle.machine.specs.History.{Entry, after, record_of, deadlines_of}
use Rattle.machine.specs.Promises.{Opened, Growing}
use Rattle.sheet.proofs.Each.{each_weaker}
use Rattle.machine.proofs.LaneRule.{deadline_grows}
use Rattle.machine.proofs.Along.{along, entry}
use Rattle.machine.proofs.Questions.{Asked, request_accepted}
use Rattle.machine.proofs.Basics.{lane_of, recent_at_first, recent_own, recent_other, Basic, basic}

pub record Remembered (s : State) (es : List Entry) (j : ℕ) : Type 0 where
  pub recent_is : recent_at s j ≡ take most_ahead (deadlines_of j es)
  pub growing : Growing (deadlines_of j es)
  pub positive : AllByRecursion (λ d. 0 < d) (deadlines_of j es)

-- a new deadline is past the slot and past all earlier ones of its lane
pub new_deadline_lem : (m : Setup) → Opened m → (s : State) (j budget : ℕ) → Asked m s j budget → (s.slot < new_deadline m s j budget) × (clock_of (recent_at s j) < new_deadline m s j budget)
new_deadline_lem m o s j budget a = deadline_grows m.table.cycle (lane_at m j) (lane_of m o j a.lane) s.slot (clock_of (recent_at s j)) budget a.some

-- the newest deadline is the largest
below_newest : (d : ℕ) (deadlines : List ℕ) → Growing deadlines → clock_of (take most_ahead deadlines) < d → AllByRecursion (λ e. e < d) deadlines
below_newest d [] g l = tt
below_newest d (newest ∷ older) g l = (l, each_weaker (λ e. e < newest) (λ e. e < d) (λ e h. omega arith) older g.0)

module _ (m : Setup) (o : Opened m) (s : State) (es : List Entry) (k budget : ℕ) (a : Asked m s k budget) (b : Basic m s es) (h : (j : ℕ) → Remembered s es j) where
  remembers_own : (j : ℕ) → j ≡ k → Remembered (moved m s (Request k budget)) (entry (Request k budget) (Ok (Deadline (new_deadline m s k budget))) ∷ es) j
  remembers_own j e =
      let old = h j in
      let t : eqb k j ≡ true = eq-eqb k j (sym e) in
      let later : clock_of (take most_ahead (deadlines_of j es)) < new_deadline m s k budget =
      omega (arith, (new_deadline_lem m o s k budget a).1, ap (λ i. clock_of (recent_at s i)) e, ap clock_of old.recent_is) in
      let here = recent_own m s j k budget e (omega (arith, a.lane, b.lanes)) in
      let kept : take most_ahead (new_deadline m s k budget ∷ recent_at s k) ≡ take most_ahead (new_deadline m s k budget ∷ deadlines_of j es) =
      ap (λ l. take most_ahead (new_deadline m s k budget ∷ l)) (ap (recent_at s) (sym e) ∙ old.recent_is) ∙ ap (λ l. new_deadline m s k budget ∷ l) (take-take 7 8 (deadlines_of j es) (omega arith)) in
      record {
        recent_is = rw t (here ∙ kept);
        growing = rw t (below_newest (new_deadline m s k budget) (deadlines_of j es) old.growing later, old.growing);
        positive = rw t (omega (arith, (new_deadline_lem m o s k budget a).0), old.positive);
      }

  remembers_other : (j : ℕ) → (j ≡ k → ⊥) → Remembered (moved m s (Request k budget)) (entry (Request k budget) (Ok (Deadline (new_deadline m s k budget))) ∷ es) j
  remembers_other j ne =
      let old = h j in
      let t : eqb k j ≡ false = ne_eqb k j (λ e. ne (sym e)) in
      record {
        recent_is = rw t (recent_other m s j k budget ne ∙ old.recent_is);
        growing = rw t old.growing;
        positive = rw t old.positive;
      }

  remembers_request : (j : ℕ) → Remembered (moved m s (Request k budget)) (entry (Request k budget) (Ok (Deadline (new_deadline m s k budget))) ∷ es) j
  remembers_request j = elim (cases_eq j k) [ inl e ↦ remembers_own j e | inr ne ↦ remembers_other j ne ]

remembers_moves : (m : Setup) → Opened m → (s : State) (es : List Entry) (call : Call) → refusal_of m s call ≡ None → Basic m s es → ((j : ℕ) → Remembered s es j) →
    (j : ℕ) → Remembered (moved m s call) (entry call (Ok (said m s call)) ∷ es) j
remembers_moves m o s es (Request k budget) e b h j = remembers_request m o s es k budget (request_accepted m s k budget e) b h j
remembers_moves m o s es Grant e b h j = record { recent_is = (h j).recent_is; growing = (h j).growing; positive = (h j).positive }
remembers_moves m o s es (Report unit slot outcome) e b h j = record { recent_is = (h j).recent_is; growing = (h j).growing; positive = (h j).positive }

pub remembered : (m : Setup) → Opened m → (calls : List Call) (j : ℕ) → Remembered (after m calls) (record_of m calls) j
remembered m o = along m (λ s es. (j : ℕ) → Remembered s es j)
    (λ j. record { recent_is = recent_at_first m j; growing = tt; positive = tt })
    (λ calls call refusal _ h j. record { recent_is = (h j).recent_is; growing = (h j).growing; positive = (h j).positive })
    (λ calls call e h. remembers_moves m o (after m calls) (record_of m calls) call e (basic m o calls) h)
