-- A kind of source: it has a mark, the deadline of its newest job, and may bring its rate for every slot past the mark.
use Rattle.std.proofs.Common.{◌≡◌, ℕ, suc, ◌+◌, ◌-◌, ◌*◌, ◌≤◌, max, cond, leb, ap, mul-le-mul_left, arith}
use Rattle.std.proofs.lemmas.Bool.{cond_both, leb-true}
use Rattle.machine.proofs.Earliest.{Source}

abbrev pub marked : ℕ → ℕ → Source
marked r mark = record {
  rate = r;
  potential = λ n x. r * (x - max n mark);
  bounded = λ n x l. let h : x - max n mark ≤ x - n = omega arith in omega (arith, mul-le-mul_left r h);
  falls = λ n x l. let h : x - max (suc n) mark ≤ x - max n mark = omega arith in mul-le-mul_left r h;
}

-- a job of `budget` slots that is due `time` after the later of n and the mark is paid for, if the rate pays for the budget in
-- that time
pub marked_pays : (cycle r mark time budget n x : ℕ) → budget * cycle ≤ r * time →
    cycle * cond (leb (max n mark + time) x) budget 0 + (marked r (max n mark + time)).potential n x ≤ (marked r mark).potential n x
marked_pays cycle r mark time budget n x pays =
    let new : ℕ = max n mark + time in
    let q : max n new ≡ new = omega arith in
    cond_both (leb new x) budget 0 (λ y. cycle * y + r * (x - max n new) ≤ r * (x - max n mark))
    (λ b.
    let l : new ≤ x = leb-true new x b in
    let z : x - max n mark ≡ time + (x - new) = omega arith in
    omega (arith, pays, ap (λ y. r * (x - y)) q, ap (λ y. r * y) z))
    (λ b. let l : x - max n new ≤ x - max n mark = omega arith in omega (arith, mul-le-mul_left r l))
