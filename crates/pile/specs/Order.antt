-- What a total order is: the law that every kind of element in a pile brings with it.
use Rattle.std.specs.Prelude.{◌≡◌, ℕ, Bool, true, false, if◌then◌else◌, nat_lt}

-- `before x y` says that x comes strictly before y
pub record Total {X : Type 0} (before : X → X → Bool) : Type 0 where
  -- no two come before each other
  pub one_way : (x y : X) → before x y ≡ true → before y x ≡ false
  -- the order carries over
  pub chain : (x y z : X) → before x y ≡ true → before y z ≡ true → before x z ≡ true
  -- any two compare: if neither comes before the other, they are equal
  pub same : (x y : X) → before x y ≡ false → before y x ≡ false → x ≡ y

-- the order by a number
abbrev pub by : {X : Type 0} → (X → ℕ) → X → X → Bool
by key x y = nat_lt (key x) (key y)

-- the order by a number, and where that is the same for both by another order
abbrev pub by_then : {X : Type 0} → (X → ℕ) → (X → X → Bool) → X → X → Bool
by_then key next x y = if nat_lt (key x) (key y) then true else if nat_lt (key y) (key x) then false else next x y
