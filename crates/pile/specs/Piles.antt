-- What a pile means, and what its calls do. A pile is the first `count` elements of an area that somebody lent.
use Rattle.std.specs.Prelude.{◌≡◌, ℕ, ◌+◌, ◌<◌, ◌≤◌, min, Bool, List, length, take, drop}
use Rattle.pile.specs.declared.refusal.PutRefusal.{PutRefusal}
use Rattle.pile.specs.declared.refusal.PutRefusal.TheVariants.{Full}
use Rattle.pile.specs.Sorted.{insert, sorted, without_first}
use Rattle.pile.specs.Heaps.{Heaped}

-- the number of each refusal to put
abbrev pub put_number : PutRefusal → ℕ
put_number Full = 34

-- a pile or a queue has at most so many places
abbrev pub most_places : ℕ
most_places = 65535

-- the places of an area: one for each element, or 65,535 of a longer one
abbrev pub places_of : {X : Type 0} → List X → ℕ
places_of area = min (length area) most_places

module _ {X : Type 0} (before : X → X → Bool) where
  -- the bag of a pile: its elements, in order
  abbrev pub bag_of : List X → ℕ → List X
  bag_of area count = sorted before (take count area)

  -- the pile holds its bag: there is a place for each element, and the elements are in heap order
  pub record Piled (area : List X) (count : ℕ) : Type 0 where
    pub within : count ≤ places_of area
    pub heaped : Heaped before area count

  -- x is put, and the count grows by one
  pub record Put (area : List X) (count : ℕ) (x : X) (area' : List X) (count' : ℕ) : Type 0 where
    pub free : count < places_of area
    pub grown : count' ≡ count + 1
    pub bag : bag_of area' count' ≡ insert before x (bag_of area count)
    pub past : drop count' area' ≡ drop count' area
    pub kept : length area' ≡ length area
    pub piled : Piled area count → Piled area' count'

  -- the first is dropped, and the count falls by one
  pub record Dropped (area : List X) (count : ℕ) (area' : List X) (count' : ℕ) : Type 0 where
    pub some : 0 < count
    pub fallen : count' + 1 ≡ count
    pub bag : Piled area count → bag_of area' count' ≡ without_first (bag_of area count)
    pub past : drop count area' ≡ drop count area
    pub kept : length area' ≡ length area
    pub piled : Piled area count → Piled area' count'

  -- x stands in for the first
  pub record Replaced (area : List X) (count : ℕ) (x : X) (area' : List X) : Type 0 where
    pub some : 0 < count
    pub bag : Piled area count → bag_of area' count ≡ insert before x (without_first (bag_of area count))
    pub past : drop count area' ≡ drop count area
    pub kept : length area' ≡ length area
    pub piled : Piled area count → Piled area' count
