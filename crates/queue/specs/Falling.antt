-- A row in falling order: its first is at the end.
use Rattle.std.specs.Prelude.{◌≡◌, ℕ, ◌+◌, ◌<◌, Bool, false, List, drop, slice_index_or}
use Rattle.pile.specs.Sorted.{insert}
use Rattle.pile.specs.Piles.{bag_of}

module _ {X : Type 0} (before : X → X → Bool) where
  -- of the first n, none comes before the next
  abbrev pub Falling : List X → ℕ → Type 0
  Falling xs n = (i : ℕ) (d : X) → i + 1 < n → before (slice_index_or xs i d) (slice_index_or xs (i + 1) d) ≡ false

  -- x is inserted into a row of `count`
  pub record Inserted (area : List X) (count : ℕ) (x : X) (area' : List X) : Type 0 where
    pub bag : bag_of before area' (count + 1) ≡ insert before x (bag_of before area count)
    pub past : drop (count + 1) area' ≡ drop (count + 1) area
    pub falling : Falling area count → Falling area' (count + 1)
