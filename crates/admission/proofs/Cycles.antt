-- The cycle is the least common multiple of all lengths, and there is but one.
use Rattle.std.proofs.Common.{◌≡◌, ℕ, ◌<◌, ◌≤◌, List, [], ◌∷◌, ◌++◌, refl, arith}
use Prim.Native.Nat.{◌∣◌}
use native.Mathlib.Nat.{dvd_refl, dvd_trans, one-dvd, dvd_antisymm, le_of_dvd}
use Rattle.std.specs.List.{AllByRecursion}
use Rattle.admission.specs.Measure.{multiple_of}
use Rattle.admission.specs.Demand.{multiple_of_all}
use Rattle.admission.specs.Laws.{CommonMultiple, LeastCommon}
use Rattle.admission.proofs.Measures.{multiple_least, multiple_pos}

-- every length is at least 1
abbrev pub Positive : List ℕ → Type 0
Positive lengths = AllByRecursion (λ length. 0 < length) lengths

-- the least common multiple of a number and the lengths
pub record LeastFrom (start : ℕ) (lengths : List ℕ) (cycle : ℕ) : Type 0 where
  pub some : 0 < cycle
  pub first : start ∣ cycle
  pub common : CommonMultiple lengths cycle
  pub least : (n : ℕ) → start ∣ n → CommonMultiple lengths n → cycle ∣ n

pub least_from : (start : ℕ) (lengths : List ℕ) → 0 < start → Positive lengths → LeastFrom start lengths (multiple_of_all start lengths)
least_from start [] some h = record { some = some; first = dvd_refl start; common = tt; least = λ n d m. d }
least_from start (length ∷ lengths) some h =
    let here = multiple_least start length some in
    let on = least_from (multiple_of start length) lengths (multiple_pos start length some h.0) h.1 in
    record {
      some = on.some;
      first = dvd_trans start here.left on.first;
      common = (dvd_trans length here.right on.first, on.common);
      least = λ n d m. on.least n (here.least n d m.0) m.1;
    }

pub least_common : (lengths : List ℕ) → Positive lengths → LeastCommon lengths (multiple_of_all 1 lengths)
least_common lengths h =
    let on = least_from 1 lengths (omega arith) h in
    record { common = on.common; least = λ n m. on.least n (one-dvd n) m }

pub only_one : (lengths : List ℕ) (c d : ℕ) → LeastCommon lengths c → LeastCommon lengths d → c ≡ d
only_one lengths c d p q = dvd_antisymm (p.least d q.common) (q.least c p.common)

pub cycle_is : (lengths : List ℕ) (cycle : ℕ) → Positive lengths → LeastCommon lengths cycle → cycle ≡ multiple_of_all 1 lengths
cycle_is lengths cycle h l = only_one lengths cycle (multiple_of_all 1 lengths) l (least_common lengths h)

-- a start is at most what becomes of it
pub start_below : (start : ℕ) (lengths : List ℕ) → 0 < start → Positive lengths → start ≤ multiple_of_all start lengths
start_below start lengths some h = let on = least_from start lengths some h in le_of_dvd on.some on.first

pub multiple_append : (start : ℕ) (before after : List ℕ) → multiple_of_all start (before ++ after) ≡ multiple_of_all (multiple_of_all start before) after
multiple_append start [] after = refl
multiple_append start (length ∷ before) after = multiple_append (multiple_of start length) before after
