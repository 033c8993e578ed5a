-- The greatest common divisor, by falling remainders, and the least common multiple of two lengths.
use Rattle.std.specs.Prelude.{if◌then◌else◌, ℕ, zero, suc, ◌*◌, ◌/◌, ◌%◌, ◌==◌}
use Rattle.std.specs.Int.{◌∣◌}

-- both divide it, and it divides every number that both divide
pub record LeastCommonMultiple (a b multiple : ℕ) : Type 0 where
  pub left : a ∣ multiple
  pub right : b ∣ multiple
  pub least : (n : ℕ) → a ∣ n → b ∣ n → multiple ∣ n

-- the common measure by falling remainders, in at most so many steps
abbrev pub measure_in : ℕ → ℕ → ℕ → ℕ
measure_in zero a b = a
measure_in (suc steps) a b = if b == 0 then a else measure_in steps b (a % b)

-- the remainder falls at each step, so b + 1 steps are enough
unfoldable pub measure_of : ℕ → ℕ → ℕ
measure_of a b = measure_in (suc b) a b

unfoldable pub multiple_of : ℕ → ℕ → ℕ
multiple_of a b = a / measure_of a b * b
