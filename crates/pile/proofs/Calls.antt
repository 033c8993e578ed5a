-- What the calls of a pile do to its bag.
use Rattle.std.proofs.Common.{◌≡◌, ℕ, zero, suc, ◌+◌, ◌<◌, ◌≤◌, Bool, false, List, [], ◌∷◌, length, get_or, take, drop, set, sym, refl, ap, ◌∙◌, add-one, arith, length-set, drop-drop, drop-set-lt}
use Rattle.std.proofs.lemmas.List.{take_more_set}
use Rattle.pile.specs.Order.{Total}
use Rattle.pile.specs.Sorted.{insert, sorted, first_of, without_first}
use Rattle.pile.specs.Sifting.{Lifted, Sunk}
use Rattle.pile.specs.Piles.{places_of, bag_of, Piled, Put, Dropped, Replaced}
use Rattle.pile.proofs.Inserting.{insert_none, sorted_none, sorted_cons}
use Rattle.pile.proofs.Sorting.{sorted_push}
use Rattle.pile.proofs.Heaping.{rise_begins, hollow_first, heap_first, rest_of_heap, heap_lower}

set_first : {X : Type 0} (xs : List X) (n : ℕ) (x : X) → 0 < n → n ≤ length xs → take n (set xs 0 x) ≡ x ∷ without_first (take n xs)
set_first xs zero x z l = absurd (omega arith)
set_first [] (suc n) x z l = absurd (omega arith)
set_first (y ∷ xs) (suc n) x z l = refl

drop_one_more : {X : Type 0} (xs ys : List X) (n m : ℕ) → m ≡ n + 1 → drop n xs ≡ drop n ys → drop m xs ≡ drop m ys
drop_one_more xs ys n m e h = ap (λ k. drop k xs) e ∙ sym (drop-drop 1 n xs) ∙ ap (drop 1) h ∙ drop-drop 1 n ys ∙ sym (ap (λ k. drop k ys) e)

module _ {X : Type 0} (before : X → X → Bool) where
  -- an empty pile has no first to leave
  pub empty_bags : (xs ys : List X) (n : ℕ) → n ≡ 0 → bag_of before ys n ≡ without_first (bag_of before xs n)
  empty_bags xs ys n none =
      let empty : (zs : List X) → bag_of before zs n ≡ [] = λ zs. ap (bag_of before zs) none ∙ sorted_none before in
      empty ys ∙ sym (ap without_first (empty xs))

  module _ (o : Total before) where
    -- the bag of a pile that is not empty
    pub bag_first : (xs : List X) (n : ℕ) (d : X) → 0 < n → Piled before xs n → bag_of before xs n ≡ get_or xs 0 d ∷ sorted before (without_first (take n xs))
    bag_first xs n d z p = let w = p.within in heap_first before o xs n d p.heaped z (omega arith)

    -- the first of its elements is the least
    pub first_is_least : (xs : List X) (n : ℕ) → Piled before xs n → first_of (take n xs) ≡ first_of (bag_of before xs n)
    first_is_least xs zero p = sym (ap first_of (sorted_none before))
    first_is_least [] (suc n) p = sym (ap first_of (sorted_none before))
    first_is_least (x ∷ xs) (suc n) p = sym (ap first_of (bag_first (x ∷ xs) (suc n) x (omega arith) p))

    pub puts : (xs ys : List X) (n : ℕ) (x : X) → n < places_of xs → length ys ≡ length xs → Lifted before xs n x ys → Put before xs n x ys (n + 1)
    puts xs ys n x free len up =
        let in' : n < length xs = omega arith in
        record {
          free = free;
          grown = refl;
          bag = up.same (n + 1) (omega arith) (omega arith) ∙ ap (sorted before) (take_more_set xs n x in') ∙ sorted_push before o (take n xs) x;
          past = up.past (n + 1) (omega arith);
          kept = len;
          piled = λ p. record { within = omega arith; heaped = up.heaped (n + 1) (omega arith) (omega arith) (rise_begins before xs n x p.heaped) };
        }

    -- the last is written over the first and sinks
    pub drops : (xs ys : List X) (n m : ℕ) (v : X) → n ≡ m + 1 → n ≤ length xs → length ys ≡ length xs → ((d : X) → v ≡ get_or xs m d) → Sunk before xs m v ys → Dropped before xs n ys m
    drops xs ys n m v e l len is s =
        let out : (d : X) → sorted before (without_first (take n xs)) ≡ sorted before (take m ys) = λ d.
        ap (λ k. sorted before (without_first (take k xs))) (e ∙ add-one m) ∙ rest_of_heap before o xs m d (omega arith)
        ∙ ap (λ y. sorted before (take m (set xs 0 y))) (sym (is d)) ∙ sym s.same in
        record {
          some = omega arith;
          fallen = sym e;
          bag = λ p. sym (ap without_first (bag_first xs n v (omega arith) p) ∙ out v);
          past = drop_one_more ys xs m n e s.past;
          kept = len;
          piled = λ p. let w = p.within in record { within = omega arith; heaped = s.heaped (hollow_first before xs n m (omega arith) p.heaped) };
        }

    -- the only one leaves
    without_only : (xs : List X) (n : ℕ) → n ≡ 1 → without_first (bag_of before xs n) ≡ []
    without_only [] n e = ap (λ k. without_first (bag_of before [] k)) e ∙ ap without_first (sorted_none before)
    without_only (y ∷ ys) n e =
        ap (λ k. without_first (bag_of before (y ∷ ys) k)) e ∙ ap without_first (sorted_cons before y [] ∙ ap (insert before y) (sorted_none before) ∙ insert_none before y)

    pub drops_only : (xs : List X) (n m : ℕ) → n ≡ m + 1 → m ≡ 0 → Dropped before xs n xs m
    drops_only xs n m e z = record {
      some = omega arith;
      fallen = sym e;
      bag = λ p. ap (λ k. bag_of before xs k) z ∙ sorted_none before ∙ sym (without_only xs n (omega arith));
      past = refl;
      kept = refl;
      piled = λ p. let w = p.within in record { within = omega arith; heaped = λ i d a. absurd (omega arith) };
    }

    -- x is written over the first, and sinks or stays
    replaces_by : (xs ys : List X) (n : ℕ) (x d : X) → 0 < n → n ≤ length xs → sorted before (take n ys) ≡ sorted before (take n (set xs 0 x)) → Piled before xs n →
        bag_of before ys n ≡ insert before x (without_first (bag_of before xs n))
    replaces_by xs ys n x d z l s p =
        s ∙ ap (sorted before) (set_first xs n x z l) ∙ sorted_cons before x (without_first (take n xs))
        ∙ sym (ap (λ b. insert before x (without_first b)) (bag_first xs n d z p))

    pub replaces_late : (xs ys : List X) (n : ℕ) (x : X) → 0 < n → n ≤ length xs → length ys ≡ length xs → Sunk before xs n x ys → Replaced before xs n x ys
    replaces_late xs ys n x z l len s = record {
      some = z;
      bag = λ p. replaces_by xs ys n x x z l s.same p;
      past = s.past;
      kept = len;
      piled = λ p. let w = p.within in record { within = omega arith; heaped = s.heaped (hollow_first before xs n n (omega arith) p.heaped) };
    }

    pub replaces_early : (xs : List X) (n : ℕ) (x : X) → 0 < n → n ≤ length xs → ((d : X) → before (get_or xs 0 d) x ≡ false) → Replaced before xs n x (set xs 0 x)
    replaces_early xs n x z l t = record {
      some = z;
      bag = λ p. replaces_by xs (set xs 0 x) n x x z l refl p;
      past = drop-set-lt n xs 0 x z;
      kept = length-set xs 0 x;
      piled = λ p.
          let w = p.within in
          let len = length-set xs 0 x in
          record { within = omega arith; heaped = heap_lower before xs n x o (omega arith) t p.heaped };
    }
