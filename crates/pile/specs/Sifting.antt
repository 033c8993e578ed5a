-- What the two ways through a heap do.
use Rattle.std.specs.Prelude.{◌≡◌, ℕ, ◌+◌, ◌<◌, ◌≤◌, Bool, false, List, length, take, drop, slice_index_or, slice_set}
use Rattle.pile.specs.Sorted.{sorted}
use Rattle.pile.specs.Heaps.{Heaped, Rising, Hollow}

module _ {X : Type 0} (before : X → X → Bool) where
  -- x, written at `place`, has risen: the first n, however many past the place, are the same elements, and in heap order
  -- if only x was out of it
  pub record Lifted (area : List X) (place : ℕ) (x : X) (area' : List X) : Type 0 where
    pub same : (n : ℕ) → place < n → n ≤ length area → sorted before (take n area') ≡ sorted before (take n (slice_set area place x))
    pub past : (n : ℕ) → place < n → drop n area' ≡ drop n area
    pub heaped : (n : ℕ) → place < n → n ≤ length area → Rising before (slice_set area place x) place n → Heaped before area' n

  -- x, written over the first of `count`, has found its place
  pub record Sunk (area : List X) (count : ℕ) (x : X) (area' : List X) : Type 0 where
    pub same : sorted before (take count area') ≡ sorted before (take count (slice_set area 0 x))
    pub past : drop count area' ≡ drop count area
    pub heaped : Hollow before area 0 count → Heaped before area' count

  -- of the two children of `hole`, none comes before the one at `child`
  pub record LeastChild (area : List X) (hole child : ℕ) : Type 0 where
    pub from : hole + hole + 1 ≤ child
    pub to : child ≤ hole + hole + 2
    pub least : (k : ℕ) (d : X) → hole + hole + 1 ≤ k → k ≤ hole + hole + 2 → before (slice_index_or area k d) (slice_index_or area child d) ≡ false
