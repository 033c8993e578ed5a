-- What is gathered from a list without regard to its order is the same of the list in order.
use Rattle.std.proofs.Common.{◌≡◌, Bool, true, false, ◌⊎◌, inl, inr, List, [], ◌∷◌, sym, ap, ◌∙◌, subst}
use Rattle.std.specs.List.{AllByRecursion}
use Rattle.std.proofs.lemmas.Bool.{cases_Bool}
use Rattle.pile.specs.Sorted.{insert, sorted}
use Rattle.pile.proofs.Inserting.{insert_past, insert_here, insert_none, sorted_none, sorted_cons}

module _ {X Y : Type 0} (before : X → X → Bool) (gather : List X → Y) (step : X → Y → Y) (opens : (x : X) (xs : List X) → gather (x ∷ xs) ≡ step x (gather xs)) (apart : (x y : X) (z : Y) → step x (step y z) ≡ step y (step x z)) where
  pub gather_insert : (x : X) (ys : List X) → gather (insert before x ys) ≡ step x (gather ys)
  gather_insert x [] = ap gather (insert_none before x) ∙ opens x []
  gather_insert x (y ∷ ys) = by (gather_insert x ys) (cases_Bool (before y x))
    where
      by : gather (insert before x ys) ≡ step x (gather ys) → (before y x ≡ true) ⊎ (before y x ≡ false) → gather (insert before x (y ∷ ys)) ≡ step x (gather (y ∷ ys))
      by h (inl e) =
          ap gather (insert_past before x y ys e) ∙ opens y (insert before x ys) ∙ ap (step y) h ∙ apart y x (gather ys) ∙ ap (step x) (sym (opens y ys))
      by h (inr e) = ap gather (insert_here before x y ys e) ∙ opens x (y ∷ ys)

  pub gather_sorted : (xs : List X) → gather (sorted before xs) ≡ gather xs
  gather_sorted [] = ap gather (sorted_none before)
  gather_sorted (x ∷ xs) = ap gather (sorted_cons before x xs) ∙ gather_insert x (sorted before xs) ∙ ap (step x) (gather_sorted xs) ∙ sym (opens x xs)

module _ {X : Type 0} (before : X → X → Bool) (P : X → Type 0) where
  pub each_insert : (x : X) (ys : List X) → P x → AllByRecursion P ys → AllByRecursion P (insert before x ys)
  each_insert x [] p h = subst (AllByRecursion P) (sym (insert_none before x)) (p, tt)
  each_insert x (y ∷ ys) p h = by (each_insert x ys p h.1) (cases_Bool (before y x))
    where
      by : AllByRecursion P (insert before x ys) → (before y x ≡ true) ⊎ (before y x ≡ false) → AllByRecursion P (insert before x (y ∷ ys))
      by k (inl e) = subst (AllByRecursion P) (sym (insert_past before x y ys e)) (h.0, k)
      by k (inr e) = subst (AllByRecursion P) (sym (insert_here before x y ys e)) (p, h)

  pub each_sorted : (xs : List X) → AllByRecursion P xs → AllByRecursion P (sorted before xs)
  each_sorted [] h = subst (AllByRecursion P) (sym (sorted_none before)) tt
  each_sorted (x ∷ xs) h = subst (AllByRecursion P) (sym (sorted_cons before x xs)) (each_insert x (sorted before xs) h.0 (each_sorted xs h.1))
