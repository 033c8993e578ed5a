-- What an insertion and a sort are on each form of a list, and how long they are.
use Rattle.std.proofs.Common.{◌≡◌, ◌+◌, Bool, true, false, cond, List, [], ◌∷◌, length, refl, ap, ◌∙◌, arith}
use Rattle.pile.specs.Sorted.{insert, sorted}

module _ {X : Type 0} (before : X → X → Bool) where
  pub insert_past : (x y : X) (ys : List X) → before y x ≡ true → insert before x (y ∷ ys) ≡ y ∷ insert before x ys
  unfolding insert
  insert_past x y ys h = ap (λ b. cond b (y ∷ insert before x ys) (x ∷ y ∷ ys)) h

  pub insert_here : (x y : X) (ys : List X) → before y x ≡ false → insert before x (y ∷ ys) ≡ x ∷ y ∷ ys
  unfolding insert
  insert_here x y ys h = ap (λ b. cond b (y ∷ insert before x ys) (x ∷ y ∷ ys)) h

  pub insert_none : (x : X) → insert before x [] ≡ x ∷ []
  unfolding insert
  insert_none x = refl

  pub sorted_none : sorted before [] ≡ []
  unfolding sorted
  sorted_none = refl

  pub sorted_cons : (x : X) (xs : List X) → sorted before (x ∷ xs) ≡ insert before x (sorted before xs)
  unfolding sorted
  sorted_cons x xs = refl

  length_insert_by : (x y : X) (ys : List X) (b : Bool) → before y x ≡ b → length (insert before x ys) ≡ length ys + 1 → length (insert before x (y ∷ ys)) ≡ length (y ∷ ys) + 1
  length_insert_by x y ys true e h = ap length (insert_past x y ys e) ∙ omega arith
  length_insert_by x y ys false e h = ap length (insert_here x y ys e) ∙ omega arith

  pub length_insert : (x : X) (ys : List X) → length (insert before x ys) ≡ length ys + 1
  length_insert x [] = ap length (insert_none x)
  length_insert x (y ∷ ys) = length_insert_by x y ys _ refl (length_insert x ys)

  pub length_sorted : (xs : List X) → length (sorted before xs) ≡ length xs
  length_sorted [] = ap length sorted_none
  length_sorted (x ∷ xs) = ap length (sorted_cons x xs) ∙ length_insert x (sorted before xs) ∙ (let h = length_sorted xs in omega arith)
