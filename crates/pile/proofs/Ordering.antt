-- Orders by numbers: when they are total, a number at a time.
use Rattle.std.proofs.Common.{◌≡◌, ℕ, ◌<◌, Bool, true, false, cond, ltb, ◌⊎◌, sym, ap, ◌∙◌, inl, inr, ⊎_elim, arith}
use Rattle.std.proofs.lemmas.Bool.{cases_order, lt-ltb, le-ltb, ltb-true, ltb-false}
use Rattle.pile.specs.Order.{by, by_then}
use Rattle.pile.proofs.Sorting.{clash}

module _ {X : Type 0} (key : X → ℕ) where
  pub by_one_way : (x y : X) → by key x y ≡ true → by key y x ≡ false
  by_one_way x y h = let l = ltb-true (key x) (key y) h in le-ltb (key y) (key x) (omega arith)

  pub by_chain : (x y z : X) → by key x y ≡ true → by key y z ≡ true → by key x z ≡ true
  by_chain x y z h k = let l = ltb-true (key x) (key y) h in let m = ltb-true (key y) (key z) k in lt-ltb (key x) (key z) (omega arith)

  pub by_same : (x y : X) → by key x y ≡ false → by key y x ≡ false → key x ≡ key y
  by_same x y h k = let l = ltb-false (key x) (key y) h in let m = ltb-false (key y) (key x) k in omega arith

module _ {X : Type 0} (key : X → ℕ) (next : X → X → Bool) where
  pub then_less : (x y : X) → key x < key y → by_then key next x y ≡ true
  then_less x y h = ap (λ b. cond b true (cond (ltb (key y) (key x)) false (next x y))) (lt-ltb (key x) (key y) h)

  pub then_more : (x y : X) → key y < key x → by_then key next x y ≡ false
  then_more x y h =
      ap (λ b. cond b true (cond (ltb (key y) (key x)) false (next x y))) (le-ltb (key x) (key y) (omega arith))
      ∙ ap (λ b. cond b false (next x y)) (lt-ltb (key y) (key x) h)

  pub then_next : (x y : X) → key x ≡ key y → by_then key next x y ≡ next x y
  then_next x y e =
      ap (λ b. cond b true (cond (ltb (key y) (key x)) false (next x y))) (le-ltb (key x) (key y) (omega arith))
      ∙ ap (λ b. cond b false (next x y)) (le-ltb (key y) (key x) (omega arith))

  -- what comes before has the smaller number, or the same and comes before by the next order
  pub then_ways : (x y : X) → by_then key next x y ≡ true → (key x < key y) ⊎ ((key x ≡ key y) × (next x y ≡ true))
  then_ways x y h = ⊎_elim
      (λ e. inr (e, sym (then_next x y e) ∙ h))
      (⊎_elim (λ l. inl l) (λ g. absurd (clash (by_then key next x y) h (then_more x y g))))
      (cases_order (key x) (key y))

  pub then_one_way : ((x y : X) → next x y ≡ true → next y x ≡ false) → (x y : X) → by_then key next x y ≡ true → by_then key next y x ≡ false
  then_one_way n x y h = ⊎_elim (λ l. then_more y x l) (λ e. then_next y x (sym e.0) ∙ n x y e.1) (then_ways x y h)

  pub then_chain : ((x y z : X) → next x y ≡ true → next y z ≡ true → next x z ≡ true) → (x y z : X) → by_then key next x y ≡ true → by_then key next y z ≡ true → by_then key next x z ≡ true
  then_chain n x y z h k = ⊎_elim
      (λ l. then_less x z (⊎_elim (λ m. omega arith) (λ e. let e0 = e.0 in omega arith) (then_ways y z k)))
      (λ e. let e0 = e.0 in ⊎_elim
      (λ m. then_less x z (omega arith))
      (λ d. let d0 = d.0 in then_next x z (omega arith) ∙ n x y z e.1 d.1)
      (then_ways y z k))
      (then_ways x y h)

  pub then_same : (x y : X) → by_then key next x y ≡ false → by_then key next y x ≡ false → (key x ≡ key y) × (next x y ≡ false) × (next y x ≡ false)
  then_same x y h k = ⊎_elim
      (λ e. (e, sym (then_next x y e) ∙ h, sym (then_next y x (sym e)) ∙ k))
      (⊎_elim (λ l. absurd (clash (by_then key next x y) (then_less x y l) h)) (λ g. absurd (clash (by_then key next y x) (then_less y x g) k)))
      (cases_order (key x) (key y))
