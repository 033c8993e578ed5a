-- Rows in falling order: where an element belongs, what a row is once it stands there, and what the last is.
use Rattle.std.proofs.Common.{◌≡◌, ℕ, zero, suc, ◌+◌, ◌-◌, ◌<◌, ◌≤◌, Bool, true, false, not, List, [], ◌∷◌, ◌++◌, length, get_or, take, drop, set, sym, refl, ap, ◌∙◌, ⊎_elim, arith, length-set, length-drop, length-take-le, append_assoc, get_or-set_other, get_or-take, get_or-set_same, drop-set-lt}
use Rattle.std.specs.List.{copy_within, CopiedTo, SameBelow}
use Rattle.std.specs.List.Sorted.{IsPartitionedBy, IsPartitionPoint}
use Rattle.std.proofs.Math.Seq.{take-add, take-set-lt, set-append_seam}
use Rattle.std.proofs.lemmas.List.{take_more, take-set, get_or_default}
use Rattle.std.proofs.lemmas.List.Edits.{take-paste, drop-paste}
use Rattle.std.proofs.lemmas.Bool.{cases_eq, cases_lt, not-true, not-false, not_from_false}
use Rattle.pile.specs.Order.{Total}
use Rattle.pile.specs.Sorted.{insert, sorted}
use Rattle.pile.specs.Piles.{bag_of}
use Rattle.pile.proofs.Inserting.{sorted_cons}
use Rattle.pile.proofs.Sorting.{never, less, not_before, insert_comm, sorted_push, front_each, front_sorted, insert_first}
use Rattle.queue.specs.Falling.{Falling, Inserted}

module _ {X : Type 0} (before : X → X → Bool) where
  by : (a b x y : X) (r : Bool) → a ≡ x → b ≡ y → before x y ≡ r → before a b ≡ r
  by a b x y r p q h = (λ k. before (p k) (q k)) ∙ h

  -- x belongs at `place`: what stands before the place comes no sooner than x, and the rest of the first n does
  pub record Belongs (xs : List X) (n : ℕ) (x : X) (place : ℕ) : Type 0 where
    pub later : (k : ℕ) (d : X) → k < place → before (get_or xs k d) x ≡ false
    pub earlier : (k : ℕ) (d : X) → place ≤ k → k < n → before (get_or xs k d) x ≡ true

  module _ (o : Total before) where
    -- none comes before one behind it
    far : (xs : List X) (n : ℕ) (d : X) → Falling before xs n → (j k : ℕ) → k + j < n → before (get_or xs k d) (get_or xs (k + j) d) ≡ false
    far xs n d h zero k l = let e : k + 0 ≡ k = omega arith in by _ _ _ _ false refl (ap (λ m. get_or xs m d) e) (never before o _)
    far xs n d h (suc j) k l =
        let e : k + suc j ≡ k + j + 1 = omega arith in
        by _ _ _ _ false refl (ap (λ m. get_or xs m d) e) (not_before before o _ _ _ (h (k + j) d (omega arith)) (far xs n d h j k (omega arith)))

    behind : (xs : List X) (n : ℕ) (d : X) → Falling before xs n → (k m : ℕ) → k ≤ m → m < n → before (get_or xs k d) (get_or xs m d) ≡ false
    behind xs n d h k m l b = let e : m ≡ k + (m - k) = omega arith in by _ _ _ _ false refl (ap (λ j. get_or xs j d) e) (far xs n d h (m - k) k (omega arith))

    -- WHERE AN ELEMENT BELONGS

    -- y comes no sooner than x
    abbrev pub no_sooner : X → X → Bool
    no_sooner x y = not (before y x)

    -- those that come no sooner than x stand first
    pub parted : (xs : List X) (n : ℕ) (x : X) → n ≤ length xs → Falling before xs n → IsPartitionedBy (no_sooner x) (take n xs)
    parted xs n x l f i j d le lt later =
        let len : length (take n xs) ≡ n = length-take-le n xs l in
        let at_j : before (get_or xs j d) x ≡ false = by _ _ _ _ false (sym (get_or-take n xs j d (omega arith))) refl (not-true _ later) in
        not_from_false _ (by _ _ _ _ false (get_or-take n xs i d (omega arith)) refl (not_before before o x _ _ at_j (behind xs n d f i j le (omega arith))))

    -- so x belongs behind them
    pub belongs : (xs : List X) (n : ℕ) (x : X) (place : ℕ) → n ≤ length xs → place ≤ n → IsPartitionPoint (λ y. no_sooner x y ≡ true) (λ y. no_sooner x y ≡ false) (take n xs) place → Belongs xs n x place
    belongs xs n x place l low point =
        let len : length (take n xs) ≡ n = length-take-le n xs l in
        record {
          later = λ k d a. by _ _ _ _ false (sym (get_or-take n xs k d (omega arith))) refl (not-true _ (point.0 k d (omega arith) a));
          earlier = λ k d a b. by _ _ _ _ true (sym (get_or-take n xs k d b)) refl (not-false _ (point.1 k d a (omega arith)));
        }

    -- MOVING UP

    -- wherever x stands in a list, its bag has it
    sorted_middle : (xs : List X) (x : X) (ys : List X) → sorted before (xs ++ x ∷ ys) ≡ insert before x (sorted before (xs ++ ys))
    sorted_middle [] x ys = sorted_cons before x ys
    sorted_middle (y ∷ xs) x ys =
        sorted_cons before y (xs ++ x ∷ ys) ∙ ap (insert before y) (sorted_middle xs x ys) ∙ insert_comm before o y x (sorted before (xs ++ ys)) ∙ sym (ap (insert before x) (sorted_cons before y (xs ++ ys)))

    -- what stood from `place` to `count` has moved up by one, and x is written at the place
    module _ (xs ys : List X) (count place : ℕ) (x : X) (l : count < length xs) (low : place ≤ count) (moved : ys ≡ copy_within xs place count (place + 1)) where
      higher : count + 1 ≡ place + 1 + (count - place)
      higher = omega arith

      moved_taken : take (count + 1) ys ≡ take place xs ++ get_or xs place x ∷ take (count - place) (drop place xs)
      moved_taken =
          let rest = length-drop place xs in
          ap (take (count + 1)) moved ∙ ap (λ n. take n (copy_within xs place count (place + 1))) higher
          ∙ take-paste xs (place + 1) (drop place xs) (count - place) (omega arith) (omega arith)
          ∙ ap (λ front. front ++ take (count - place) (drop place xs)) (take_more xs place x (omega arith))
          ∙ append_assoc (take place xs) (get_or xs place x ∷ []) (take (count - place) (drop place xs))

      inserted_taken : take (count + 1) (set ys place x) ≡ take place xs ++ x ∷ take (count - place) (drop place xs)
      inserted_taken =
          let len : length (take place xs) ≡ place = length-take-le place xs (omega arith) in
          take-set-lt (count + 1) ys place x (omega arith) ∙ ap (λ front. set front place x) moved_taken
          ∙ ap (λ n. set (take place xs ++ get_or xs place x ∷ take (count - place) (drop place xs)) n x) (sym len)
          ∙ set-append_seam (take place xs) (get_or xs place x) (take (count - place) (drop place xs)) x

      inserted_bag : bag_of before (set ys place x) (count + 1) ≡ insert before x (bag_of before xs count)
      inserted_bag =
          let all : place + (count - place) ≡ count = omega arith in
          ap (sorted before) inserted_taken ∙ sorted_middle (take place xs) x (take (count - place) (drop place xs))
          ∙ ap (λ front. insert before x (sorted before front)) (sym (take-add place (count - place) xs) ∙ ap (λ n. take n xs) all)

      inserted_past : drop (count + 1) (set ys place x) ≡ drop (count + 1) xs
      inserted_past =
          let rest = length-drop place xs in
          drop-set-lt (count + 1) ys place x (omega arith) ∙ ap (drop (count + 1)) moved ∙ ap (λ n. drop n (copy_within xs place count (place + 1))) higher
          ∙ drop-paste xs (place + 1) (drop place xs) (count - place) (omega arith) (omega arith) ∙ ap (λ n. drop n xs) (sym higher)

      pub inserted : length ys ≡ length xs → CopiedTo xs ys place (place + 1) (count - place) → SameBelow xs ys (place + 1) → (Falling before xs count → Belongs xs count x place) → Inserted before xs count x (set ys place x)
      inserted long above below fits =
          let new = set ys place x in
          let at_place : (d : X) → get_or new place d ≡ x = λ d. get_or-set_same ys place x d (omega arith) in
          let at_below : (k : ℕ) (d : X) → k < place → get_or new k d ≡ get_or xs k d = λ k d a. get_or-set_other ys place k x d (omega arith) ∙ below k d (omega arith) in
          let at_above : (k : ℕ) (d : X) → place ≤ k → k < count → get_or new (k + 1) d ≡ get_or xs k d = λ k d a b.
          let from : place + (k + 1 - (place + 1)) ≡ k = omega arith in
          get_or-set_other ys place (k + 1) x d (omega arith) ∙ above (k + 1) d (omega arith) (omega arith) ∙ ap (λ m. get_or xs m d) from in
          record {
            bag = inserted_bag;
            past = inserted_past;
            falling = λ f k d a. ⊎_elim
                (λ u. ⊎_elim
                (λ q. by _ _ _ _ false (at_below k d (omega arith)) (ap (λ m. get_or new m d) q ∙ at_place d) ((fits f).later k d (omega arith)))
                (λ q. by _ _ _ _ false (at_below k d u) (at_below (k + 1) d (omega arith)) (f k d (omega arith)))
                (cases_eq (k + 1) place))
                (λ u. ⊎_elim
                (λ q. by _ _ _ _ false (ap (λ m. get_or new m d) q ∙ at_place d) (at_above k d u (omega arith)) (o.one_way _ _ ((fits f).earlier k d u (omega arith))))
                (λ q. let r : k ≡ k - 1 + 1 = omega arith in
                by _ _ _ _ false (ap (λ m. get_or new m d) r ∙ at_above (k - 1) d (omega arith) (omega arith)) (at_above k d u (omega arith) ∙ ap (λ m. get_or xs m d) r) (f (k - 1) d (omega arith)))
                (cases_eq k place))
                (cases_lt k place);
          }

    -- THE LAST: of n + 1

    -- the last of a row is the first of its bag
    pub row_first : (xs : List X) (n : ℕ) (d : X) → n < length xs → Falling before xs (n + 1) → bag_of before xs (n + 1) ≡ get_or xs n d ∷ bag_of before xs n
    row_first xs n d l h =
        let x = get_or xs n d in
        let len : length (take n xs) ≡ n = length-take-le n xs (omega arith) in
        ap (sorted before) (take_more xs n d l)
        ∙ sorted_push before o (take n xs) x
        ∙ insert_first before x _ (front_sorted before x (take n xs) (front_each before x (take n xs) (λ k c a.
        by _ _ _ _ false (get_or-take n xs k c (omega arith)) (get_or_default xs n d c l) (behind xs (n + 1) c h k n (omega arith) (omega arith)))))

    -- fewer of a row are a row
    pub falling_less : (xs : List X) (n m : ℕ) → m ≤ n → Falling before xs n → Falling before xs m
    falling_less xs n m l h k d a = h k d (omega arith)

    -- an element that comes before the last is written over it
    module _ (xs : List X) (n : ℕ) (v : X) (l : n < length xs) (sooner : (d : X) → before v (get_or xs n d) ≡ true) (h : Falling before xs (n + 1)) where
      pub falling_lower : Falling before (set xs n v) (n + 1)
      falling_lower k d a = ⊎_elim
          (λ e. by _ _ _ _ false (get_or-set_other xs n k v d (omega arith)) (ap (λ m. get_or (set xs n v) m d) e ∙ get_or-set_same xs n v d l)
          (less before o _ _ _ (sooner d) (by _ _ _ _ false refl (ap (λ m. get_or xs m d) (sym e)) (h k d a))))
          (λ u. by _ _ _ _ false (get_or-set_other xs n k v d (omega arith)) (get_or-set_other xs n (k + 1) v d u) (h k d a))
          (cases_eq (k + 1) n)

      pub row_lower : bag_of before (set xs n v) (n + 1) ≡ v ∷ bag_of before xs n
      row_lower =
          let len = length-set xs n v in
          row_first (set xs n v) n v (omega arith) falling_lower
          ∙ (λ k. get_or-set_same xs n v v l k ∷ sorted before (take-set xs n v k))
