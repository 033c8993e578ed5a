-- SHARE KEPT: what a lane was promised from s on, due by t, fits between s and the earlier of t and its clock.
use Rattle.std.proofs.Common.{◌≡◌, ℕ, ◌+◌, ◌<◌, ◌≤◌, Bool, true, cond, ◌&&◌, eqb, leb, List, ◌∷◌, Ok, length, None, sym, refl, ap, ◌∙◌, subst, inl, inr, arith}
use Rattle.std.proofs.lemmas.Bool.{cases_eq}
use Rattle.std.proofs.lemmas.Bool.Decides.{nat_tests}
use Rattle.machine.specs.declared.call.Call.{Call}
use Rattle.machine.specs.declared.call.Call.TheVariants.{Request, Grant, Report}
use Rattle.machine.specs.declared.call.Reply.TheVariants.{Deadline}
use Rattle.machine.specs.Lanes.{clock_of}
use Rattle.machine.specs.Machine.{Setup, State, refusal_of, moved, said, lane_at, recent_at, new_clock, new_deadline}
use Rattle.machine.specs.History.{Entry, after, record_of, slots_closed, budgets_within}
use Rattle.machine.specs.Promises.{Opened, ShareKept}
use Rattle.machine.proofs.LaneRule.{Fit, fit_none, fit_more, fit_share}
use Rattle.machine.proofs.Along.{along, entry}
use Rattle.machine.proofs.Questions.{Asked, request_accepted}
use Rattle.machine.proofs.Basics.{lane_of, recent_at_first, recent_own, recent_other, Basic, basic}

module _ (m : Setup) (o : Opened m) (j : ℕ) (jl : j < length m.table.lanes) where
  abbrev Fits : State → List Entry → Type 0
  Fits s es = (x t : ℕ) → Fit (lane_at m j) (budgets_within j x t es) x t (clock_of (recent_at s j))

  -- a call that promises the lane nothing
  fits_still : (s s' : State) (es : List Entry) (x t : ℕ) (more : ℕ) → more ≡ 0 → recent_at s' j ≡ recent_at s j → Fits s es → Fit (lane_at m j) (more + budgets_within j x t es) x t (clock_of (recent_at s' j))
  fits_still s s' es x t more z e h =
      let q : budgets_within j x t es ≡ more + budgets_within j x t es = omega arith in
      subst (λ y. Fit (lane_at m j) y x t (clock_of (recent_at s' j))) q (subst (λ l. Fit (lane_at m j) (budgets_within j x t es) x t (clock_of l)) (sym e) (h x t))

  module _ (s : State) (es : List Entry) (k budget : ℕ) (a : Asked m s k budget) (b : Basic m s es) (h : Fits s es) where
    fits_own : k ≡ j → Fits (moved m s (Request k budget)) (entry (Request k budget) (Ok (Deadline (new_deadline m s k budget))) ∷ es)
    fits_own q x t =
        let here = recent_own m s j k budget (sym q) (omega (arith, a.lane, b.lanes)) in
        let clock : clock_of (recent_at (moved m s (Request k budget)) j) ≡ new_clock m s j budget = ap clock_of here ∙ ap (λ i. new_clock m s i budget) q in
        let counts : Bool = eqb k j && (leb x (slots_closed es) && leb (new_deadline m s k budget) t) in
        subst (Fit (lane_at m j) (cond counts budget 0 + budgets_within j x t es) x t) (sym clock)
        (fit_more m.table.cycle (lane_at m j) (lane_of m o j jl) (budgets_within j x t es) budget x t s.slot (clock_of (recent_at s j)) (h x t) counts
        (λ e.
        let p = within x (slots_closed es) (new_deadline m s k budget) t e in
        (omega (arith, p.0, b.slot_is), omega (arith, p.1, ap (λ i. new_deadline m s i budget) q))))
      where
        within : (from slot due to : ℕ) → (eqb k j && (leb from slot && leb due to)) ≡ true → (from ≤ slot) × (due ≤ to)
        within from slot due to e = (grind (arith, nat_tests), grind (arith, nat_tests))

    fits_other : (k ≡ j → ⊥) → Fits (moved m s (Request k budget)) (entry (Request k budget) (Ok (Deadline (new_deadline m s k budget))) ∷ es)
    fits_other ne x t =
        fits_still s (moved m s (Request k budget)) es x t (cond (eqb k j && (leb x (slots_closed es) && leb (new_deadline m s k budget) t)) budget 0)
        (none k j (leb x (slots_closed es) && leb (new_deadline m s k budget) t) ne)
        (recent_other m s j k budget (λ e. ne (sym e))) h
      where
        none : (k j : ℕ) (g : Bool) → (k ≡ j → ⊥) → cond (eqb k j && g) budget 0 ≡ 0
        none k j g ne = grind (arith, nat_tests)

  fits_moves : (s : State) (es : List Entry) (call : Call) → refusal_of m s call ≡ None → Basic m s es → Fits s es → Fits (moved m s call) (entry call (Ok (said m s call)) ∷ es)
  fits_moves s es (Request k budget) e b h x t =
      let a = request_accepted m s k budget e in
      elim (cases_eq k j) [ inl q ↦ fits_own s es k budget a b h q x t | inr ne ↦ fits_other s es k budget a b h ne x t ]
  fits_moves s es Grant e b h x t = fits_still s (moved m s Grant) es x t 0 refl refl h
  fits_moves s es (Report unit slot outcome) e b h x t = fits_still s (moved m s (Report unit slot outcome)) es x t 0 refl refl h

  fits : (calls : List Call) → Fits (after m calls) (record_of m calls)
  fits = along m Fits
      (λ x t. subst (Fit (lane_at m j) 0 x t) (sym (ap clock_of (recent_at_first m j))) (fit_none (lane_at m j) x t))
      (λ calls call refusal _ h x t. fits_still (after m calls) (after m calls) (record_of m calls) x t 0 refl refl h)
      (λ calls call e h. fits_moves (after m calls) (record_of m calls) call e (basic m o calls) h)

pub share_kept : (m : Setup) → Opened m → (calls : List Call) → ShareKept m (record_of m calls)
share_kept m o calls j s t l le =
    fit_share (lane_at m j) (budgets_within j s t (record_of m calls)) s t (clock_of (recent_at (after m calls) j)) (fits m o j l calls s t)
