-- Heap order: the element at index i + 1 has its parent at index i / 2, and none comes before its parent.
use Rattle.std.specs.Prelude.{◌≡◌, ℕ, ◌+◌, ◌-◌, ◌/◌, ◌<◌, Bool, false, List, ◌≢◌, slice_index_or}

module _ {X : Type 0} (before : X → X → Bool) where
  -- the first n elements are in heap order
  abbrev pub Heaped : List X → ℕ → Type 0
  Heaped xs n = (i : ℕ) (d : X) → i + 1 < n → before (slice_index_or xs (i + 1) d) (slice_index_or xs (i / 2) d) ≡ false

  -- no child of the element at i comes before i's own parent
  abbrev pub Bridged : List X → ℕ → ℕ → Type 0
  Bridged xs i n = (k : ℕ) (d : X) → k + 1 < n → k / 2 ≡ i → 0 < i → before (slice_index_or xs (k + 1) d) (slice_index_or xs ((i - 1) / 2) d) ≡ false

  -- in heap order but for the element at i, which may come before its parent
  abbrev pub Rising : List X → ℕ → ℕ → Type 0
  Rising xs i n =
      ((k : ℕ) (d : X) → k + 1 < n → (k + 1 ≢ i) → before (slice_index_or xs (k + 1) d) (slice_index_or xs (k / 2) d) ≡ false)
      × Bridged xs i n

  -- in heap order around the element at i, which may stand anywhere against its parent and its children
  abbrev pub Hollow : List X → ℕ → ℕ → Type 0
  Hollow xs i n =
      ((k : ℕ) (d : X) → k + 1 < n → (k + 1 ≢ i) → (k / 2 ≢ i) → before (slice_index_or xs (k + 1) d) (slice_index_or xs (k / 2) d) ≡ false)
      × Bridged xs i n
