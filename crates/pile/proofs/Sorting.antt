-- Bags as sorted lists under a total order: insertions commute, so a write, a swap and a push change the sorted list as
-- they change the bag.
use Rattle.std.proofs.Common.{◌≡◌, ℕ, zero, suc, ◌<◌, ◌≤◌, Bool, true, false, cond, List, [], ◌∷◌, ◌++◌, length, get_or, take, set, sym, refl, ap, ◌∙◌, subst, arith, length-take-le, get_or-set_other, get_or-take, lt-length-set}
use lib.Seq.{take-set-lt}
use Rattle.pile.specs.Order.{Total}
use Rattle.pile.specs.Sorted.{insert, sorted}
use Rattle.pile.proofs.Inserting.{insert_past, insert_here, insert_none, sorted_none, sorted_cons}

pub clash : (b : Bool) → b ≡ true → b ≡ false → ⊥
clash b p q = let z : ◌≡◌ {A = ℕ} 0 1 = cc in omega arith

-- FRONTS: what comes before none of a list stands in front of it

module _ {X : Type 0} (before : X → X → Bool) where
  -- no element of the list comes before x
  abbrev pub Front : X → List X → Type 0
  Front x [] = Unit {0}
  Front x (y ∷ ys) = (before y x ≡ false) × Front x ys

  front_insert_by : (x y z : X) (zs : List X) (b : Bool) → before z y ≡ b → before y x ≡ false → Front x (z ∷ zs) → Front x (insert before y zs) → Front x (insert before y (z ∷ zs))
  front_insert_by x y z zs true e h f g = subst (Front x) (sym (insert_past before y z zs e)) (f.0, g)
  front_insert_by x y z zs false e h f g = subst (Front x) (sym (insert_here before y z zs e)) (h, f)

  front_insert : (x y : X) (zs : List X) → before y x ≡ false → Front x zs → Front x (insert before y zs)
  front_insert x y [] h f = subst (Front x) (sym (insert_none before y)) (h, tt)
  front_insert x y (z ∷ zs) h f = front_insert_by x y z zs _ refl h f (front_insert x y zs h f.1)

  pub front_sorted : (x : X) (xs : List X) → Front x xs → Front x (sorted before xs)
  front_sorted x [] f = subst (Front x) (sym (sorted_none before)) tt
  front_sorted x (y ∷ xs) f = subst (Front x) (sym (sorted_cons before y xs)) (front_insert x y (sorted before xs) f.0 (front_sorted x xs f.1))

  pub front_each : (x : X) (xs : List X) → ((k : ℕ) (d : X) → k < length xs → before (get_or xs k d) x ≡ false) → Front x xs
  front_each x [] h = tt
  front_each x (y ∷ xs) h = (h 0 x (omega arith), front_each x xs (λ k d l. h (suc k) d (omega arith)))

  pub insert_first : (x : X) (ys : List X) → Front x ys → insert before x ys ≡ x ∷ ys
  insert_first x [] f = insert_none before x
  insert_first x (y ∷ ys) f = insert_here before x y ys f.0

  pub sorted_first : (x : X) (xs : List X) → Front x xs → sorted before (x ∷ xs) ≡ x ∷ sorted before xs
  sorted_first x xs f = sorted_cons before x xs ∙ insert_first x (sorted before xs) (front_sorted x xs f)

-- THE ORDER: what follows of three elements from two comparisons

module _ {X : Type 0} (before : X → X → Bool) (o : Total before) where
  never_by : (x : X) (b : Bool) → before x x ≡ b → before x x ≡ false
  never_by x true e = o.one_way x x e
  never_by x false e = e

  -- nothing comes before itself
  pub never : (x : X) → before x x ≡ false
  never x = never_by x _ refl

  leads_by : (x y z : X) (a b : Bool) → before y x ≡ a → before x y ≡ b → before z y ≡ false → before z x ≡ true → before y x ≡ true
  leads_by x y z true b e f p q = e
  leads_by x y z false true e f p q = absurd (clash (before z y) (o.chain z x y q f) p)
  leads_by x y z false false e f p q = absurd (clash (before z x) q (ap (before z) (o.same x y f e) ∙ p))

  -- z comes before x and not before y, so y comes before x
  pub leads : (x y z : X) → before z y ≡ false → before z x ≡ true → before y x ≡ true
  leads x y z = leads_by x y z _ _ refl refl

  not_before_by : (x y z : X) (b : Bool) → before z x ≡ b → before y x ≡ false → before z y ≡ false → before z x ≡ false
  not_before_by x y z false e p q = e
  not_before_by x y z true e p q = absurd (clash (before y x) (leads x y z q e) p)

  -- 'not before' carries over
  pub not_before : (x y z : X) → before y x ≡ false → before z y ≡ false → before z x ≡ false
  not_before x y z = not_before_by x y z _ refl

  less_by : (x y z : X) (b : Bool) → before z x ≡ b → before x y ≡ true → before z y ≡ false → before z x ≡ false
  less_by x y z false e p q = e
  less_by x y z true e p q = absurd (clash (before z y) (o.chain z x y e p) q)

  -- x comes before y and z does not, so z does not come before x
  pub less : (x y z : X) → before x y ≡ true → before z y ≡ false → before z x ≡ false
  less x y z = less_by x y z _ refl

-- BAGS: insertions commute, and each can be undone

module _ {X : Type 0} (before : X → X → Bool) (o : Total before) where
  commute_fronts : (x y : X) (ws : List X) (a b : Bool) → before y x ≡ a → before x y ≡ b → insert before x ws ≡ x ∷ ws → insert before y ws ≡ y ∷ ws → insert before x (y ∷ ws) ≡ insert before y (x ∷ ws)
  commute_fronts x y ws true b e f p q = insert_past before x y ws e ∙ ap (λ l. y ∷ l) p ∙ sym (insert_here before y x ws (o.one_way y x e))
  commute_fronts x y ws false true e f p q = sym (insert_past before y x ws f ∙ ap (λ l. x ∷ l) q ∙ sym (insert_here before x y ws e))
  commute_fronts x y ws false false e f p q = let s = o.same x y f e in (λ i. insert before (s i) (sym s i ∷ ws))

  insert_comm_by : (x y z : X) (zs : List X) (a b : Bool) → before z x ≡ a → before z y ≡ b → insert before x (insert before y zs) ≡ insert before y (insert before x zs) → insert before x (insert before y (z ∷ zs)) ≡ insert before y (insert before x (z ∷ zs))
  insert_comm_by x y z zs true true e f h =
      ap (insert before x) (insert_past before y z zs f) ∙ insert_past before x z (insert before y zs) e ∙ ap (λ l. z ∷ l) h
      ∙ sym (ap (insert before y) (insert_past before x z zs e) ∙ insert_past before y z (insert before x zs) f)
  insert_comm_by x y z zs true false e f h =
      ap (insert before x) (insert_here before y z zs f) ∙ insert_past before x y (z ∷ zs) (leads before o x y z f e) ∙ ap (λ l. y ∷ l) (insert_past before x z zs e)
      ∙ sym (ap (insert before y) (insert_past before x z zs e) ∙ insert_here before y z (insert before x zs) f)
  insert_comm_by x y z zs false true e f h =
      sym (ap (insert before y) (insert_here before x z zs e) ∙ insert_past before y x (z ∷ zs) (leads before o y x z e f) ∙ ap (λ l. x ∷ l) (insert_past before y z zs f)
      ∙ sym (ap (insert before x) (insert_past before y z zs f) ∙ insert_here before x z (insert before y zs) e))
  insert_comm_by x y z zs false false e f h =
      ap (insert before x) (insert_here before y z zs f) ∙ commute_fronts x y (z ∷ zs) _ _ refl refl (insert_here before x z zs e) (insert_here before y z zs f)
      ∙ sym (ap (insert before y) (insert_here before x z zs e))

  pub insert_comm : (x y : X) (zs : List X) → insert before x (insert before y zs) ≡ insert before y (insert before x zs)
  insert_comm x y [] =
      ap (insert before x) (insert_none before y) ∙ commute_fronts x y [] _ _ refl refl (insert_none before x) (insert_none before y) ∙ sym (ap (insert before y) (insert_none before x))
  insert_comm x y (z ∷ zs) = insert_comm_by x y z zs _ _ refl refl (insert_comm x y zs)

  -- one x taken out of a sorted list
  taken : X → List X → List X
  taken x [] = []
  taken x (y ∷ ys) = cond (before y x) (y ∷ taken x ys) ys

  taken_past : (x y : X) (ys : List X) → before y x ≡ true → taken x (y ∷ ys) ≡ y ∷ taken x ys
  unfolding taken
  taken_past x y ys h = ap (λ b. cond b (y ∷ taken x ys) ys) h

  taken_here : (x y : X) (ys : List X) → before y x ≡ false → taken x (y ∷ ys) ≡ ys
  unfolding taken
  taken_here x y ys h = ap (λ b. cond b (y ∷ taken x ys) ys) h

  taken_insert_by : (x y : X) (ys : List X) (b : Bool) → before y x ≡ b → taken x (insert before x ys) ≡ ys → taken x (insert before x (y ∷ ys)) ≡ y ∷ ys
  taken_insert_by x y ys true e h = ap (taken x) (insert_past before x y ys e) ∙ taken_past x y (insert before x ys) e ∙ ap (λ l. y ∷ l) h
  taken_insert_by x y ys false e h = ap (taken x) (insert_here before x y ys e) ∙ taken_here x x (y ∷ ys) (never before o x)

  taken_insert : (x : X) (ys : List X) → taken x (insert before x ys) ≡ ys
  taken_insert x [] = ap (taken x) (insert_none before x) ∙ taken_here x x [] (never before o x)
  taken_insert x (y ∷ ys) = taken_insert_by x y ys _ refl (taken_insert x ys)

  pub insert_inj : (x : X) (ys zs : List X) → insert before x ys ≡ insert before x zs → ys ≡ zs
  insert_inj x ys zs h = sym (taken_insert x ys) ∙ ap (taken x) h ∙ taken_insert x zs

  pub sorted_push : (xs : List X) (x : X) → sorted before (xs ++ x ∷ []) ≡ insert before x (sorted before xs)
  sorted_push [] x = sorted_cons before x []
  sorted_push (y ∷ xs) x =
      sorted_cons before y (xs ++ x ∷ []) ∙ ap (insert before y) (sorted_push xs x) ∙ insert_comm y x (sorted before xs) ∙ sym (ap (insert before x) (sorted_cons before y xs))

  -- a write takes one element out and puts another in
  pub sorted_set : (xs : List X) (i : ℕ) (v d : X) → i < length xs → insert before (get_or xs i d) (sorted before (set xs i v)) ≡ insert before v (sorted before xs)
  sorted_set [] i v d h = absurd (omega arith)
  sorted_set (y ∷ xs) zero v d h =
      ap (insert before y) (sorted_cons before v xs) ∙ insert_comm y v (sorted before xs) ∙ sym (ap (insert before v) (sorted_cons before y xs))
  sorted_set (y ∷ xs) (suc i) v d h =
      ap (insert before (get_or xs i d)) (sorted_cons before y (set xs i v)) ∙ insert_comm (get_or xs i d) y (sorted before (set xs i v))
      ∙ ap (insert before y) (sorted_set xs i v d (omega arith)) ∙ insert_comm y v (sorted before xs) ∙ sym (ap (insert before v) (sorted_cons before y xs))

  sorted_swap : (xs : List X) (i j : ℕ) (d : X) → i < length xs → j < length xs → (i ≡ j → ⊥) → sorted before (set (set xs i (get_or xs j d)) j (get_or xs i d)) ≡ sorted before xs
  sorted_swap xs i j d a b ne =
      let x = get_or xs i d in
      let y = get_or xs j d in
      let mid = set xs i y in
      let there : get_or mid j d ≡ y = get_or-set_other xs i j y d (λ f. ne (sym f)) in
      insert_inj y _ _ (
      ap (λ z. insert before z (sorted before (set mid j x))) (sym there)
      ∙ sorted_set mid j x d (lt-length-set xs i y b)
      ∙ sorted_set xs i y d a)

  -- a swap of two of the first n leaves their bag
  pub sorted_take_swap : (xs ys : List X) (n i j : ℕ) (d : X) → n ≤ length xs → i < n → j < n → (i ≡ j → ⊥) → ys ≡ set (set xs i (get_or xs j d)) j (get_or xs i d) → sorted before (take n ys) ≡ sorted before (take n xs)
  sorted_take_swap xs ys n i j d long a b ne e =
      let len : length (take n xs) ≡ n = length-take-le n xs long in
      ap (sorted before) (
      ap (take n) e ∙ take-set-lt n (set xs i (get_or xs j d)) j (get_or xs i d) b
      ∙ ap (λ l. set l j (get_or xs i d)) (take-set-lt n xs i (get_or xs j d) a)
      ∙ (λ k. set (set (take n xs) i (sym (get_or-take n xs j d b) k)) j (sym (get_or-take n xs i d a) k)))
      ∙ sorted_swap (take n xs) i j d (omega arith) (omega arith) ne

  sorted_insert_by : (x y : X) (ys : List X) (b : Bool) → before y x ≡ b → sorted before (insert before x ys) ≡ insert before x (sorted before ys) → sorted before (insert before x (y ∷ ys)) ≡ insert before x (sorted before (y ∷ ys))
  sorted_insert_by x y ys true e h =
      ap (sorted before) (insert_past before x y ys e) ∙ sorted_cons before y (insert before x ys) ∙ ap (insert before y) h
      ∙ insert_comm y x (sorted before ys) ∙ sym (ap (insert before x) (sorted_cons before y ys))
  sorted_insert_by x y ys false e h = ap (sorted before) (insert_here before x y ys e) ∙ sorted_cons before x (y ∷ ys)

  pub sorted_insert : (x : X) (ys : List X) → sorted before (insert before x ys) ≡ insert before x (sorted before ys)
  sorted_insert x [] = ap (sorted before) (insert_none before x) ∙ sorted_cons before x []
  sorted_insert x (y ∷ ys) = sorted_insert_by x y ys _ refl (sorted_insert x ys)

  -- a sorted list is in order
  pub sorted_sorted : (xs : List X) → sorted before (sorted before xs) ≡ sorted before xs
  sorted_sorted [] = ap (sorted before) (sorted_none before)
  sorted_sorted (x ∷ xs) =
      ap (sorted before) (sorted_cons before x xs) ∙ sorted_insert x (sorted before xs) ∙ ap (insert before x) (sorted_sorted xs) ∙ sym (sorted_cons before x xs)

  -- the tail of a list in order is in order, and its head, put back, stands first
  pub ordered_tail : (x : X) (ys : List X) → sorted before (x ∷ ys) ≡ x ∷ ys → sorted before ys ≡ ys
  ordered_tail x ys e =
      sym (taken_insert x (sorted before ys)) ∙ ap (taken x) (sym (sorted_cons before x ys) ∙ e) ∙ taken_here x x ys (never before o x)

  pub ordered_first : (x : X) (ys : List X) → sorted before (x ∷ ys) ≡ x ∷ ys → insert before x ys ≡ x ∷ ys
  ordered_first x ys e = ap (insert before x) (sym (ordered_tail x ys e)) ∙ sym (sorted_cons before x ys) ∙ e

  head_is : (x y : X) (xs ys : List X) → x ∷ xs ≡ y ∷ ys → x ≡ y
  head_is x y xs ys e = cc

  not_past_by : (x y : X) (ys : List X) (b : Bool) → before y x ≡ b → insert before x (y ∷ ys) ≡ x ∷ y ∷ ys → before y x ≡ false
  not_past_by x y ys false e h = e
  not_past_by x y ys true e h = ap (λ z. before z x) (head_is y x _ _ (sym (insert_past before x y ys e) ∙ h)) ∙ never before o x

  -- what comes before the head of a list in order stands in front of its tail
  pub insert_sooner : (x y : X) (ys : List X) → before x y ≡ true → sorted before (y ∷ ys) ≡ y ∷ ys → insert before x ys ≡ x ∷ ys
  insert_sooner x y [] h e = insert_none before x
  insert_sooner x y (z ∷ zs) h e = insert_here before x z zs (less before o x y z h (not_past_by y z zs _ refl (ordered_first y (z ∷ zs) e)))
