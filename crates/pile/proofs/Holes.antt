-- A hole that moves through an area: with the element that is held for it in the hole, each move is a swap.
use Rattle.std.proofs.Common.{◌≡◌, ℕ, zero, suc, ◌+◌, ◌-◌, ◌/◌, ◌<◌, ◌≤◌, Bool, true, false, List, [], ◌∷◌, length, get_or, take, drop, set, sym, refl, ap, ◌∙◌, arith, length-set, get_or-set_other, get_or-set_same, drop-set-lt}
use Rattle.pile.specs.Order.{Total}
use Rattle.pile.specs.Sorted.{sorted}
use Rattle.pile.specs.Heaps.{Rising, Hollow}
use Rattle.pile.specs.Sifting.{Lifted, Sunk}
use Rattle.pile.proofs.Sorting.{sorted_take_swap}
use Rattle.pile.proofs.Heaping.{Swapped, rise_steps, rise_ends, rise_from_leaf, hollow_steps}

set_set : {X : Type 0} (xs : List X) (i : ℕ) (x y : X) → set (set xs i x) i y ≡ set xs i y
set_set [] i x y = refl
set_set (z ∷ xs) zero x y = refl
set_set (z ∷ xs) (suc i) x y = ap (λ l. z ∷ l) (set_set xs i x y)

-- v, the element at `from`, moves into the hole, and x is then held for the hole at `from`
module _ {X : Type 0} (xs : List X) (hole from : ℕ) (x v : X) (hole_in : hole < length xs) (from_in : from < length xs) (apart : hole ≡ from → ⊥) (is : (d : X) → v ≡ get_or xs from d) where
  move_is_swap : (d : X) → set (set xs hole v) from x ≡ set (set (set xs hole x) hole (get_or (set xs hole x) from d)) from (get_or (set xs hole x) hole d)
  move_is_swap d =
      ap (λ y. set y from x) (sym (set_set xs hole x v))
      ∙ (λ k. set (set (set xs hole x) hole (is d k)) from x)
      ∙ (λ k. set (set (set xs hole x) hole (sym (get_or-set_other xs hole from x d (λ q. apart (sym q))) k)) from (sym (get_or-set_same xs hole x d hole_in) k))

  move_places : Swapped (set xs hole x) (set (set xs hole v) from x) hole from
  move_places =
      let len = length-set xs hole v in (
        λ d. get_or-set_other (set xs hole v) from hole x d apart ∙ get_or-set_same xs hole v d hole_in ∙ is d ∙ sym (get_or-set_other xs hole from x d (λ q. apart (sym q))),
        λ d. get_or-set_same (set xs hole v) from x d (omega arith) ∙ sym (get_or-set_same xs hole x d hole_in),
        λ k d a b. get_or-set_other (set xs hole v) from k x d b ∙ get_or-set_other xs hole k v d a ∙ sym (get_or-set_other xs hole k x d a),
      )

  pub move_same : (before : X → X → Bool) → Total before → (n : ℕ) → n ≤ length xs → hole < n → from < n →
      sorted before (take n (set (set xs hole v) from x)) ≡ sorted before (take n (set xs hole x))
  move_same before o n l a b =
      let len = length-set xs hole x in
      sorted_take_swap before o (set xs hole x) _ n hole from x (omega arith) a b apart (move_is_swap x)

module _ {X : Type 0} (before : X → X → Bool) where
  -- on the way up from `place`
  pub record Lifting (old : List X) (place : ℕ) (x : X) (area : List X) (hole : ℕ) : Type 0 where
    pub low : hole ≤ place
    pub long : length area ≡ length old
    pub same : (n : ℕ) → place < n → n ≤ length old → sorted before (take n (set area hole x)) ≡ sorted before (take n (set old place x))
    pub past : (n : ℕ) → place < n → drop n area ≡ drop n old
    pub rising : (n : ℕ) → place < n → n ≤ length old → Rising before (set old place x) place n → Rising before (set area hole x) hole n

  -- x does not come before what is above the hole
  pub lifting_ends : (old : List X) (place : ℕ) (x : X) (area : List X) (hole : ℕ) → place < length old →
      ((d : X) → 0 < hole → before x (get_or area ((hole - 1) / 2) d) ≡ false) → Lifting old place x area hole → Lifted before old place x (set area hole x)
  lifting_ends old place x area hole l t h =
      let low = h.low in
      let long = h.long in
      record {
        same = h.same;
        past = λ n a. drop-set-lt n area hole x (omega arith) ∙ h.past n a;
        heaped = λ n a b r. rise_ends before (set area hole x) hole n
            (λ d z. (λ k. before (get_or-set_same area hole x d (omega arith) k) (get_or-set_other area hole ((hole - 1) / 2) x d (omega arith) k)) ∙ t d z)
            (h.rising n a b r);
      }

  -- it does, and that moves down into the hole
  pub lifting_steps : Total before → (old : List X) (place : ℕ) (x : X) (area : List X) (hole : ℕ) (v : X) → place < length old → 0 < hole →
      ((d : X) → v ≡ get_or area ((hole - 1) / 2) d) → before x v ≡ true → Lifting old place x area hole → Lifting old place x (set area hole v) ((hole - 1) / 2)
  lifting_steps o old place x area hole v l z e t h =
      let low = h.low in
      let long = h.long in
      let up : ℕ = (hole - 1) / 2 in
      let in' : hole < length area = omega arith in
      let up_in : up < length area = omega arith in
      let ne : hole ≡ up → ⊥ = omega arith in
      record {
        low = omega arith;
        long = length-set area hole v ∙ long;
        same = λ n a b. move_same area hole up x v in' up_in ne e before o n (omega arith) (omega arith) (omega arith) ∙ h.same n a b;
        past = λ n a. drop-set-lt n area hole v (omega arith) ∙ h.past n a;
        rising = λ n a b r. rise_steps before o (set area hole x) _ hole n z (omega arith) (move_places area hole up x v in' up_in ne e)
            (λ d. (λ k. before (get_or-set_same area hole x d in' k) (get_or-set_other area hole up x d (omega arith) k)) ∙ ap (before x) (sym (e d)) ∙ t)
            (h.rising n a b r);
      }

  -- on the way down among the first `count`
  pub record Sinking (old : List X) (count : ℕ) (x : X) (area : List X) (hole : ℕ) : Type 0 where
    pub within : hole < count
    pub long : length area ≡ length old
    pub same : sorted before (take count (set area hole x)) ≡ sorted before (take count (set old 0 x))
    pub past : drop count area ≡ drop count old
    pub hollow : Hollow before old 0 count → Hollow before area hole count

  -- v, the least child of the hole, moves up into it
  pub sinking_steps : Total before → (old : List X) (count : ℕ) (x : X) (area : List X) (hole child : ℕ) (v : X) → count ≤ length old → hole + hole + 1 ≤ child → child ≤ hole + hole + 2 → child < count →
      ((k : ℕ) (d : X) → hole + hole + 1 ≤ k → k ≤ hole + hole + 2 → k < count → before (get_or area k d) (get_or area child d) ≡ false) → ((d : X) → v ≡ get_or area child d) →
      Sinking old count x area hole → Sinking old count x (set area hole v) child
  sinking_steps o old count x area hole child v l from to cn best e h =
      let within = h.within in
      let long = h.long in
      let in' : hole < length area = omega arith in
      let child_in : child < length area = omega arith in
      let ne : hole ≡ child → ⊥ = omega arith in
      record {
        within = cn;
        long = length-set area hole v ∙ long;
        same = move_same area hole child x v in' child_in ne e before o count (omega arith) within cn ∙ h.same;
        past = drop-set-lt count area hole v within ∙ h.past;
        hollow = λ r. hollow_steps before area hole child count v in' from to cn best e (h.hollow r);
      }

  -- a hole with no child below it, and x lifted from there
  pub sinking_ends : (old : List X) (count : ℕ) (x : X) (area : List X) (hole : ℕ) (area' : List X) → count ≤ length old → count ≤ hole + hole + 1 →
      Lifted before area hole x area' → Sinking old count x area hole → Sunk before old count x area'
  sinking_ends old count x area hole area' l leaf up h =
      let within = h.within in
      let long = h.long in
      record {
        same = up.same count within (omega arith) ∙ h.same;
        past = up.past count within ∙ h.past;
        heaped = λ r. up.heaped count within (omega arith) (rise_from_leaf before area hole count x leaf (h.hollow r));
      }
