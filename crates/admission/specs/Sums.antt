-- The sum of a measure over a list. It opens at the first element by definition, as the proofs go; the library's `sum_by` adds
-- from the front, and needs a lemma at each step.
use Rattle.std.specs.Prelude.{ℕ, ◌+◌, List, [], ◌∷◌}

abbrev pub sum_of : {X : Type 0} → (X → ℕ) → List X → ℕ
sum_of f [] = 0
sum_of f (x ∷ xs) = f x + sum_of f xs
