-- How many of a list pass a test: as the library counts them, and as a sum over the list.
use Rattle.std.proofs.Common.{◌≡◌, Bool, List, cond, sym, refl}
use Rattle.std.specs.List.{count_by}
use Rattle.std.proofs.lemmas.List.Recursion.{is_sum_by}
use Rattle.admission.specs.Sums.{sum_of}

pub counted : {X : Type 0} (test : X → Bool) (xs : List X) → count_by test xs ≡ sum_of (λ x. cond (test x) 1 0) xs
counted test xs = sym (is_sum_by (sum_of (λ x. cond (test x) 1 0)) (λ x. cond (test x) 1 0) refl (λ _ _. refl) xs)
