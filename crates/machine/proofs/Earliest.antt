-- EARLIEST DEADLINE FIRST, over any sources of work. This file knows no poll, no lane, no machine and no rule about ties.
use Rattle.std.proofs.Common.{◌≡◌, ℕ, zero, suc, ◌+◌, ◌-◌, ◌*◌, ◌<◌, ◌≤◌, ◌⊎◌, List, [], ◌∷◌, ◌++◌, length, get_or, set, ap, inl, inr, mul-le-mul_right, mul-le-mul_left, arith}
use Rattle.std.proofs.Math.Nat.{lt_of_mul-lt-mul_left}
use Rattle.std.specs.List.{AllByRecursion}
use Rattle.queue.specs.declared.job.Job.{Job}
use Rattle.admission.specs.Sums.{sum_of}
use Rattle.machine.proofs.Bags.{Positive, work, all_later}

-- A SOURCE of work has a rate, the slots of a cycle that it may take, and a potential: what it may still bring that is due by
-- x, seen from slot n, in parts of a cycle. That is less than its rate for each slot from n to x, both included, and does not
-- grow as slots pass.
pub record Source : Type 0 where
  pub rate : ℕ
  pub potential : ℕ → ℕ → ℕ
  pub bounded : (n x : ℕ) → n ≤ x → potential n x ≤ rate * (x - n) + (rate - 1)
  pub falls : (n x : ℕ) → n < x → potential (suc n) x ≤ potential n x

abbrev pub rates : List Source → ℕ
rates sources = sum_of (λ source. source.rate) sources

abbrev pub potentials : List Source → ℕ → ℕ → ℕ
potentials sources n x = sum_of (λ source. source.potential n x) sources

potentials_bounded : (sources : List Source) (n x : ℕ) → n ≤ x → potentials sources n x ≤ rates sources * (x - n) + (rates sources - 1)
potentials_bounded [] n x l = omega arith
potentials_bounded (source ∷ sources) n x l = omega (arith, source.bounded n x l, potentials_bounded sources n x l)

potentials_fall : (sources : List Source) (n x : ℕ) → n < x → potentials sources (suc n) x ≤ potentials sources n x
potentials_fall [] n x l = omega arith
potentials_fall (source ∷ sources) n x l = omega (arith, source.falls n x l, potentials_fall sources n x l)

-- THE INVARIANT: for every x, the work that is due by x and what the sources may still bring by then fit the slots from n to
-- x, up to less than one slot
abbrev pub Room : ℕ → ℕ → List Job → List Source → Type 0
Room cycle n bag sources = (x : ℕ) → n ≤ x → cycle * work x bag + potentials sources n x ≤ cycle * (x - n) + (cycle - 1)

light : (cycle n x : ℕ) (sources : List Source) → n ≤ x → rates sources ≤ cycle → potentials sources n x ≤ cycle * (x - n) + (cycle - 1)
light cycle n x sources l h = omega (arith, potentials_bounded sources n x l, mul-le-mul_right (x - n) h)

-- it holds of an empty bag, if the rates add up to no more than the cycle
pub room_at_first : (cycle n : ℕ) (sources : List Source) → rates sources ≤ cycle → Room cycle n [] sources
room_at_first cycle n sources h x l = omega (arith, light cycle n x sources l h)

-- it stays whenever what comes into the bag is paid by the sources
pub room_paid : (cycle n : ℕ) (bag bag' : List Job) (sources sources' : List Source) →
    ((x : ℕ) → n ≤ x → cycle * work x bag' + potentials sources' n x ≤ cycle * work x bag + potentials sources n x) → Room cycle n bag sources → Room cycle n bag' sources'
room_paid cycle n bag bag' sources sources' paid r x l = omega (arith, paid x l, r x l)

-- it stays when a slot is closed, if for every x that takes one of the work due by x, or none of it is left
pub room_served : (cycle n : ℕ) (bag bag' : List Job) (sources : List Source) → rates sources ≤ cycle →
    ((x : ℕ) → (work x bag' + 1 ≤ work x bag) ⊎ (work x bag' ≡ 0)) → Room cycle n bag sources → Room cycle (suc n) bag' sources
room_served cycle n bag bag' sources h serves r x l = elim (serves x) [
  | inl w ↦
      let q : x - n ≡ suc (x - suc n) = omega arith in
      omega (arith, r x (omega arith), potentials_fall sources n x l, mul-le-mul_left cycle w, ap (λ y. cycle * y) q)
  | inr w ↦ omega (arith, ap (λ y. cycle * y) w, light cycle (suc n) x sources l h)
]

-- THE THEOREM: at x = n the invariant leaves less than one slot of work, so no job in the bag is late
pub none_late : (cycle n : ℕ) (bag : List Job) (sources : List Source) → 1 ≤ cycle → Positive bag → Room cycle n bag sources → AllByRecursion (λ job. n < job.deadline) bag
none_late cycle n bag sources one p r =
    let now : n - n ≡ 0 = omega arith in
    let less : cycle * work n bag < cycle * 1 = omega (arith, r n (omega arith), ap (λ y. cycle * y) now) in
    let none = lt_of_mul-lt-mul_left cycle less in
    all_later n bag p (omega arith)

-- FAMILIES of sources

sum_append : (f : Source → ℕ) (xs ys : List Source) → sum_of f (xs ++ ys) ≡ sum_of f xs + sum_of f ys
sum_append f [] ys = omega arith
sum_append f (x ∷ xs) ys = omega (arith, sum_append f xs ys)

pub rates_append : (xs ys : List Source) → rates (xs ++ ys) ≡ rates xs + rates ys
rates_append = sum_append (λ source. source.rate)

pub potentials_append : (xs ys : List Source) (n x : ℕ) → potentials (xs ++ ys) n x ≡ potentials xs n x + potentials ys n x
potentials_append xs ys n x = sum_append (λ source. source.potential n x) xs ys

-- one source for each of a list, by what is fixed of it and by its state
abbrev pub sources_of : {X Y : Type 0} → (X → Y → Source) → List X → List Y → List Source
sources_of f [] ys = []
sources_of f (x ∷ xs) [] = []
sources_of f (x ∷ xs) (y ∷ ys) = f x y ∷ sources_of f xs ys

-- the state of one of them changes
pub potentials_set : {X Y : Type 0} (f : X → Y → Source) (x₀ : X) (y₀ y' : Y) (n t : ℕ) (xs : List X) (ys : List Y) (j : ℕ) → j < length xs → j < length ys →
    potentials (sources_of f xs (set ys j y')) n t + (f (get_or xs j x₀) (get_or ys j y₀)).potential n t ≡ potentials (sources_of f xs ys) n t + (f (get_or xs j x₀) y').potential n t
potentials_set f x₀ y₀ y' n t [] ys j h k = absurd (omega arith)
potentials_set f x₀ y₀ y' n t (x ∷ xs) [] j h k = absurd (omega arith)
potentials_set f x₀ y₀ y' n t (x ∷ xs) (y ∷ ys) zero h k = omega arith
potentials_set f x₀ y₀ y' n t (x ∷ xs) (y ∷ ys) (suc j) h k = omega (arith, potentials_set f x₀ y₀ y' n t xs ys j (omega arith) (omega arith))

pub rates_of : {X Y : Type 0} (f : X → Y → Source) (rate : X → ℕ) → ((x : X) (y : Y) → (f x y).rate ≡ rate x) → (xs : List X) (ys : List Y) → rates (sources_of f xs ys) ≤ sum_of rate xs
rates_of f rate e [] ys = omega arith
rates_of f rate e (x ∷ xs) [] = omega arith
rates_of f rate e (x ∷ xs) (y ∷ ys) = omega (arith, e x y, rates_of f rate e xs ys)
