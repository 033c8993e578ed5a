-- Heap order: what each step of a hole keeps, and what the first of a heap is.
use Rattle.std.proofs.Common.{◌≡◌, ℕ, zero, suc, ◌+◌, ◌-◌, ◌/◌, ◌<◌, ◌≤◌, Bool, true, false, List, [], ◌∷◌, length, get_or, take, set, sym, refl, ap, ◌∙◌, ⊎_elim, add-one, arith, length-take-le, get_or-set_other, get_or-take, take-suc, get_or-set_same}
use Rattle.std.proofs.lemmas.List.{get_or_read}
use Rattle.std.proofs.lemmas.Bool.{cases_eq}
use Rattle.pile.specs.Order.{Total}
use Rattle.pile.specs.Sorted.{sorted, without_first}
use Rattle.pile.specs.Heaps.{Heaped, Rising, Hollow}
use Rattle.pile.proofs.Inserting.{sorted_cons}
use Rattle.pile.proofs.Sorting.{Front, front_each, sorted_first, sorted_push, less, not_before}

-- what a swap says of the places
abbrev pub Swapped : {X : Type 0} → List X → List X → ℕ → ℕ → Type 0
Swapped {X} xs ys a b =
    ((d : X) → get_or ys a d ≡ get_or xs b d) × ((d : X) → get_or ys b d ≡ get_or xs a d)
    × ((k : ℕ) (d : X) → (k ≡ a → ⊥) → (k ≡ b → ⊥) → get_or ys k d ≡ get_or xs k d)

module _ {X : Type 0} (before : X → X → Bool) where
  by : (a b x y : X) → a ≡ x → b ≡ y → before x y ≡ false → before a b ≡ false
  by a b x y p q h = (λ k. before (p k) (q k)) ∙ h

  -- what two reads and a comparison tell, at any default
  pub compared : (xs : List X) (a b : ℕ) (x y : X) (r : Bool) → a < length xs → b < length xs → x ≡ get_or xs a x → y ≡ get_or xs b y → before x y ≡ r →
      (d : X) → before (get_or xs a d) (get_or xs b d) ≡ r
  compared xs a b x y r la lb ea eb h d = (λ k. before (sym (get_or_read xs a x la ea d) k) (sym (get_or_read xs b y lb eb d) k)) ∙ h

  -- LIFTING

  -- a heap, and one more behind it
  pub rise_begins : (xs : List X) (n : ℕ) (x : X) → Heaped before xs n → Rising before (set xs n x) n (n + 1)
  rise_begins xs n x h = (
    λ k d l u. by _ _ _ _ (get_or-set_other xs n (k + 1) x d u) (get_or-set_other xs n (k / 2) x d (omega arith)) (h k d (omega arith)),
    λ k d l e z. absurd (omega arith),
  )

  -- a heap around a hole that has no children
  pub rise_from_leaf : (xs : List X) (i n : ℕ) (x : X) → n ≤ i + i + 1 → Hollow before xs i n → Rising before (set xs i x) i n
  rise_from_leaf xs i n x leaf h = (
    λ k d l u. by _ _ _ _ (get_or-set_other xs i (k + 1) x d u) (get_or-set_other xs i (k / 2) x d (omega arith)) (h.0 k d l u (omega arith)),
    λ k d l e z. absurd (omega arith),
  )

  -- the element at i does not come before its parent
  pub rise_ends : (xs : List X) (i n : ℕ) → ((d : X) → 0 < i → before (get_or xs i d) (get_or xs ((i - 1) / 2) d) ≡ false) → Rising before xs i n → Heaped before xs n
  rise_ends xs i n t h = λ k d l. ⊎_elim
      (λ e. let f : k ≡ i - 1 = omega arith in by _ _ _ _ (ap (λ m. get_or xs m d) e) (ap (λ m. get_or xs (m / 2) d) f) (t d (omega arith)))
      (h.0 k d l) (cases_eq (k + 1) i)

  module _ (o : Total before) where
    -- it does, and changes places with it
    pub rise_steps : (xs ys : List X) (i n : ℕ) → 0 < i → i < n → Swapped xs ys i ((i - 1) / 2) → ((d : X) → before (get_or xs i d) (get_or xs ((i - 1) / 2) d) ≡ true) → Rising before xs i n → Rising before ys ((i - 1) / 2) n
    rise_steps xs ys i n z l s t h =
        let p : ℕ = (i - 1) / 2 in (
          λ k d a u. ⊎_elim
              (λ e. let f : k / 2 ≡ p = ap (λ m. m / 2) (omega arith) in
              by _ _ _ _ (ap (λ m. get_or ys m d) e ∙ s.0 d) (ap (λ m. get_or ys m d) f ∙ s.1 d) (o.one_way _ _ (t d)))
              (λ v. ⊎_elim
              (λ e. by _ _ _ _ (s.2 (k + 1) d v u) (ap (λ m. get_or ys m d) e ∙ s.1 d)
              (less before o _ _ _ (t d) (by _ _ _ _ refl (ap (λ m. get_or xs m d) (sym e)) (h.0 k d a v))))
              (λ w. ⊎_elim
              (λ e. by _ _ _ _ (s.2 (k + 1) d v u) (ap (λ m. get_or ys m d) e ∙ s.0 d) (h.1 k d a e z))
              (λ x. by _ _ _ _ (s.2 (k + 1) d v u) (s.2 (k / 2) d x w) (h.0 k d a v))
              (cases_eq (k / 2) i))
              (cases_eq (k / 2) p))
              (cases_eq (k + 1) i),
          λ k d a e y.
              let q : ℕ = (p - 1) / 2 in
              let up : get_or ys q d ≡ get_or xs q d = s.2 q d (omega arith) (omega arith) in
              let f : p ≡ (p - 1) + 1 = omega arith in
              let over : before (get_or xs p d) (get_or xs q d) ≡ false = by _ _ _ _ (ap (λ m. get_or xs m d) f) refl (h.0 (p - 1) d (omega arith) (omega arith)) in
              ⊎_elim
              (λ c. by _ _ _ _ (ap (λ m. get_or ys m d) c ∙ s.0 d) up over)
              (λ v. by _ _ _ _ (s.2 (k + 1) d v (omega arith)) up
              (not_before before o _ _ _ over (by _ _ _ _ refl (ap (λ m. get_or xs m d) (sym e)) (h.0 k d a v))))
              (cases_eq (k + 1) i),
        )

  -- SINKING

  -- a heap without its first, and with fewer behind
  pub hollow_first : (xs : List X) (n m : ℕ) → m ≤ n → Heaped before xs n → Hollow before xs 0 m
  hollow_first xs n m l h = (λ k d a u v. h k d (omega arith), λ k d a e z. absurd (omega arith))

  -- the lesser child moves up into the hole at i
  pub hollow_steps : (xs : List X) (i c n : ℕ) (v : X) → i < length xs → i + i + 1 ≤ c → c ≤ i + i + 2 → c < n →
      ((k : ℕ) (d : X) → i + i + 1 ≤ k → k ≤ i + i + 2 → k < n → before (get_or xs k d) (get_or xs c d) ≡ false) → ((d : X) → v ≡ get_or xs c d) →
      Hollow before xs i n → Hollow before (set xs i v) c n
  hollow_steps xs i c n v l from to cn best e h =
      let here : (d : X) → get_or (set xs i v) i d ≡ get_or xs c d = λ d. get_or-set_same xs i v d l ∙ e d in (
        λ k d a u w. ⊎_elim
            (λ q. let b : (c - 1) + 1 ≡ c = omega arith in
            let f : k / 2 ≡ (i - 1) / 2 = ap (λ m. m / 2) (omega arith) in
            by _ _ _ _ (ap (λ m. get_or (set xs i v) m d) q ∙ here d ∙ ap (λ m. get_or xs m d) (sym b)) (get_or-set_other xs i (k / 2) v d (omega arith) ∙ ap (λ m. get_or xs m d) f)
            (h.1 (c - 1) d (omega arith) (omega arith) (omega arith)))
            (λ q. ⊎_elim
            (λ r. by _ _ _ _ (get_or-set_other xs i (k + 1) v d q) (ap (λ m. get_or (set xs i v) m d) r ∙ here d) (best (k + 1) d (omega arith) (omega arith) a))
            (λ r. by _ _ _ _ (get_or-set_other xs i (k + 1) v d q) (get_or-set_other xs i (k / 2) v d r) (h.0 k d a q r))
            (cases_eq (k / 2) i))
            (cases_eq (k + 1) i),
        λ k d a q z.
            let f : (c - 1) / 2 ≡ i = omega arith in
            by _ _ _ _ (get_or-set_other xs i (k + 1) v d (omega arith)) (ap (λ m. get_or (set xs i v) m d) f ∙ here d)
            (by _ _ _ _ refl (ap (λ m. get_or xs m d) (sym q)) (h.0 k d a (omega arith) (omega arith))),
      )

  module _ (o : Total before) where
    -- THE FIRST

    top_within : (xs : List X) (n : ℕ) (d : X) → Heaped before xs n → (fuel k : ℕ) → k ≤ fuel → k + 1 < n → before (get_or xs (k + 1) d) (get_or xs 0 d) ≡ false
    top_within xs n d h zero k a b = by _ _ _ _ refl (ap (λ m. get_or xs m d) (omega arith)) (h k d b)
    top_within xs n d h (suc fuel) k a b = ⊎_elim
        (λ e. by _ _ _ _ refl (ap (λ m. get_or xs m d) (sym e)) (h k d b))
        (λ v. let f : k / 2 ≡ (k / 2 - 1) + 1 = omega arith in
        not_before before o _ _ _ (by _ _ _ _ (ap (λ m. get_or xs m d) f) refl (top_within xs n d h fuel (k / 2 - 1) (omega arith) (omega arith))) (h k d b))
        (cases_eq (k / 2) 0)

    -- no element of a heap comes before the first
    top : (xs : List X) (n : ℕ) (d : X) → Heaped before xs n → (k : ℕ) → k + 1 < n → before (get_or xs (k + 1) d) (get_or xs 0 d) ≡ false
    top xs n d h k = top_within xs n d h k k (omega arith)

    front_of_heap : (x : X) (xs : List X) (n : ℕ) → Heaped before (x ∷ xs) (suc n) → n ≤ length xs → Front before x (take n xs)
    front_of_heap x xs n h l = front_each before x (take n xs) (λ k d a.
        let len : length (take n xs) ≡ n = length-take-le n xs l in
        by _ _ _ _ (get_or-take n xs k d (omega arith)) refl (rw add-one at (top (x ∷ xs) (suc n) d h k (omega arith))))

    -- the first of a heap is the first of its bag
    pub heap_first : (xs : List X) (n : ℕ) (d : X) → Heaped before xs n → 0 < n → n ≤ length xs → sorted before (take n xs) ≡ get_or xs 0 d ∷ sorted before (without_first (take n xs))
    heap_first xs zero d h z l = absurd (omega arith)
    heap_first [] (suc n) d h z l = absurd (omega arith)
    heap_first (x ∷ xs) (suc n) d h z l = sorted_first before x (take n xs) (front_of_heap x xs n h (omega arith))

    last_first : (x d : X) (xs : List X) (n : ℕ) → n ≤ length xs → sorted before (take n xs) ≡ sorted before (take n (set (x ∷ xs) 0 (get_or (x ∷ xs) n d)))
    last_first x d xs zero l = refl
    last_first x d xs (suc n) l =
        ap (sorted before) (take-suc xs n d (omega arith)) ∙ sorted_push before o (take n xs) (get_or xs n d) ∙ sym (sorted_cons before (get_or xs n d) (take n xs))

    -- without its first: the last is written over it
    pub rest_of_heap : (xs : List X) (n : ℕ) (d : X) → n < length xs → sorted before (without_first (take (suc n) xs)) ≡ sorted before (take n (set xs 0 (get_or xs n d)))
    rest_of_heap [] n d l = absurd (omega arith)
    rest_of_heap (x ∷ xs) n d l = last_first x d xs n (omega arith)

  -- an element that does not come after the first is written over it
  pub heap_lower : (xs : List X) (n : ℕ) (v : X) → Total before → 0 < length xs → ((d : X) → before (get_or xs 0 d) v ≡ false) → Heaped before xs n → Heaped before (set xs 0 v) n
  heap_lower xs n v o z t h = λ k d l. ⊎_elim
      (λ e. by _ _ _ _ (get_or-set_other xs 0 (k + 1) v d (omega arith)) (ap (λ m. get_or (set xs 0 v) m d) e ∙ get_or-set_same xs 0 v d z)
      (not_before before o _ _ _ (t d) (by _ _ _ _ refl (ap (λ m. get_or xs m d) (sym e)) (h k d l))))
      (λ u. by _ _ _ _ (get_or-set_other xs 0 (k + 1) v d (omega arith)) (get_or-set_other xs 0 (k / 2) v d u) (h k d l))
      (cases_eq (k / 2) 0)
