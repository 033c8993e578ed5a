-- The lane's rule, and all that other proofs know of it.
use Rattle.std.proofs.Common.{◌≡◌, ℕ, zero, suc, ◌+◌, ◌-◌, ◌*◌, ◌/◌, ◌<◌, ◌≤◌, min, max, Bool, true, false, cond, leb, refl, ap, mul-le-mul_right, mul-le-mul, mul-le-mul_left, arith}
use Rattle.std.proofs.Math.Nat.{lt-mul-div-succ}
use Rattle.admission.specs.declared.table.Lane.{Lane}
use Rattle.admission.specs.Demand.{lane_slots}
use Rattle.machine.specs.Lanes.{reach, advance, due_at}
use Rattle.machine.proofs.Tables.{LaneFits}
use Rattle.machine.proofs.Earliest.{Source}
use Rattle.machine.proofs.Marked.{marked, marked_pays}

-- what is rounded up pays for the budget
reach_pays : (lane : Lane) (budget : ℕ) → 1 ≤ lane.quota → budget * lane.span ≤ lane.quota * reach lane budget
reach_pays lane budget some = omega (arith, lt-mul-div-succ (budget * lane.span + (lane.quota - 1)) {b = lane.quota} some)

-- a clock that was never advanced shows 0
pub due_at_first : (lane : Lane) → due_at lane 0 ≡ 0
due_at_first lane = refl

-- a new deadline is past the slot, and past the last one
pub deadline_grows : (cycle : ℕ) (lane : Lane) → LaneFits cycle lane → (slot clock budget : ℕ) → 1 ≤ budget →
    (slot < due_at lane (advance lane slot clock budget)) × (due_at lane clock < due_at lane (advance lane slot clock budget))
deadline_grows cycle lane fits slot clock budget some =
    let some_reach : 1 ≤ reach lane budget = some_factor (reach lane budget) (reach_pays lane budget fits.some_quota) (mul-le-mul some fits.some_span) in
    (omega arith, omega arith)
  where
    some_factor : (x : ℕ) → budget * lane.span ≤ lane.quota * x → 1 * 1 ≤ budget * lane.span → 1 ≤ x
    some_factor zero h k = omega arith
    some_factor (suc x) h k = omega arith

-- AS A SOURCE

abbrev pub lane_source : ℕ → Lane → ℕ → Source
lane_source cycle lane clock = marked (lane_slots cycle lane) clock

pub lane_rate : (cycle : ℕ) (lane : Lane) (clock : ℕ) → (lane_source cycle lane clock).rate ≡ lane_slots cycle lane
lane_rate cycle lane clock = refl

-- a lane pays for the request that it accepts
pub lane_pays : (cycle : ℕ) (lane : Lane) → LaneFits cycle lane → (clock budget n x : ℕ) →
    cycle * cond (leb (due_at lane (advance lane n clock budget)) x) budget 0 + (lane_source cycle lane (advance lane n clock budget)).potential n x ≤ (lane_source cycle lane clock).potential n x
lane_pays cycle lane fits clock budget n x = marked_pays cycle (lane_slots cycle lane) clock (reach lane budget) budget n x pays
  where
    pays : budget * cycle ≤ lane_slots cycle lane * reach lane budget
    pays = omega (arith, ap (λ y. budget * y) fits.whole, mul-le-mul_right (cycle / lane.span) (reach_pays lane budget fits.some_quota))

-- ITS SHARE

-- what was promised from slot s on, due by t, fits between s and the earlier of t and the clock
abbrev pub Fit : Lane → ℕ → ℕ → ℕ → ℕ → Type 0
Fit lane promised s t clock = lane.span * promised ≤ lane.quota * (min t clock - s)

pub fit_none : (lane : Lane) (s t : ℕ) → Fit lane 0 s t 0
fit_none lane s t = omega arith

pub fit_more : (cycle : ℕ) (lane : Lane) → LaneFits cycle lane → (promised budget s t n clock : ℕ) → Fit lane promised s t clock →
    (counts : Bool) → (counts ≡ true → (s ≤ n) × (due_at lane (advance lane n clock budget) ≤ t)) → Fit lane (cond counts budget 0 + promised) s t (advance lane n clock budget)
fit_more cycle lane fits promised budget s t n clock h true c =
    let a : (min t clock - s) + reach lane budget ≤ min t (max n clock + reach lane budget) - s = (let y = c refl in omega arith) in
    omega (arith, h, reach_pays lane budget fits.some_quota, mul-le-mul_left lane.quota a)
fit_more cycle lane fits promised budget s t n clock h false c =
    let a : min t clock - s ≤ min t (max n clock + reach lane budget) - s = omega arith in
    omega (arith, h, mul-le-mul_left lane.quota a)

pub fit_share : (lane : Lane) (promised s t clock : ℕ) → Fit lane promised s t clock → lane.span * promised ≤ lane.quota * (t - s)
fit_share lane promised s t clock h =
    let a : min t clock - s ≤ t - s = omega arith in
    omega (arith, h, mul-le-mul_left lane.quota a)
