-- A bag of elements, as the list of them in order. Two bags are the same exactly if these lists are equal.
use Rattle.std.specs.Prelude.{Bool, if◌then◌else◌, List, [], ◌∷◌, Some, None, Option}

module _ {X : Type 0} (before : X → X → Bool) where
  -- x put in front of the first element that does not come before it
  unfoldable pub insert : X → List X → List X
  insert x [] = x ∷ []
  insert x (y ∷ ys) = if before y x then y ∷ insert x ys else x ∷ y ∷ ys

  -- the elements of a list, in order
  unfoldable pub sorted : List X → List X
  sorted [] = []
  sorted (x ∷ xs) = insert x (sorted xs)

-- the first of a bag, and the bag without it
abbrev pub first_of : {X : Type 0} → List X → Option X
first_of [] = None
first_of (x ∷ xs) = Some x

abbrev pub without_first : {X : Type 0} → List X → List X
without_first [] = []
without_first (x ∷ xs) = xs
