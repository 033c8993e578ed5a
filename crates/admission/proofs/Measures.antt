-- Euclid's step, and the least common multiple that follows from it.
use Rattle.std.proofs.Common.{◌≡◌, ℕ, zero, suc, ◌+◌, ◌*◌, ◌/◌, ◌%◌, ◌<◌, cond, sym, ap, ◌∙◌, subst, inl, inr, mod-lt, mul_assoc, mul_comm, mul-pos, mul-add, arith}
use Prim.Native.Nat.{◌∣◌}
use native.Mathlib.Nat.{dvd-mul_left, dvd-mul_right, dvd-mul_right_of_dvd, dvd-add_iff_right, dvd_of_mul-dvd-mul_right, mul-dvd-mul_right, mul-div_cancel', div-mul_cancel, div-add-mod, pos_of_dvd_of_pos}
use Rattle.std.proofs.lemmas.Bool.Decides.{eqb_tells}
use Rattle.std.specs.Int.{IsGcd}
use Rattle.std.proofs.lemmas.Nat.Gcd.{IsGcd-from_zero, IsGcd-from_mod, same_from_IsGcd}
use Rattle.admission.specs.Measure.{LeastCommonMultiple, measure_in, measure_of, multiple_of}

-- what divides n times a and n times b divides n times their measure
abbrev Scales : ℕ → ℕ → ℕ → Type 0
Scales a b g = (d n : ℕ) → d ∣ n * a → d ∣ n * b → d ∣ n * g

abbrev Both : ℕ → ℕ → ℕ → Type 0
Both a b g = IsGcd a b g × Scales a b g

scaled_remainder : (d n a b : ℕ) → d ∣ n * a → d ∣ n * b → d ∣ n * (a % b)
scaled_remainder d n a b p q =
    let whole : n * a ≡ n * b * (a / b) + n * (a % b) = ap (λ x. n * x) (sym (div-add-mod a b)) ∙ mul-add n (b * (a / b)) (a % b) ∙ ap (λ x. x + n * (a % b)) (sym (mul_assoc n b (a / b))) in
    let front : d ∣ n * b * (a / b) = dvd-mul_right_of_dvd d q (a / b) in
    (dvd-add_iff_right d front).1 (subst (λ x. d ∣ x) whole p)

both_step : (a b g : ℕ) → Both b (a % b) g → Both a b g
both_step a b g h = (IsGcd-from_mod a b g h.0, λ d n p q. h.1 d n q (scaled_remainder d n a b p q))

both_end : (a b : ℕ) → b ≡ 0 → Both a b a
both_end a b e = (IsGcd-from_zero a b e, λ d n p q. p)

both_in : (k a b : ℕ) → b < k → Both a b (measure_in k a b)
both_in zero a b h = absurd (omega arith)
both_in (suc k) a b h =
    elim (eqb_tells b 0) [
      | inl t ↦ subst (λ x. Both a b (cond x a (measure_in k b (a % b)))) (sym t.0) (both_end a b t.1)
      | inr f ↦
          let some : 0 < b = omega (arith, f.1) in
          let less = mod-lt a some in
          subst (λ x. Both a b (cond x a (measure_in k b (a % b)))) (sym f.0) (both_step a b _ (both_in k b (a % b) (omega arith)))
    ]

both_of : (a b : ℕ) → Both a b (measure_of a b)
unfolding measure_of
both_of a b = both_in (suc b) a b (omega arith)

pub measure_is : (a b g : ℕ) → IsGcd a b g → g ≡ measure_of a b
measure_is a b g h = same_from_IsGcd a b g (measure_of a b) h (both_of a b).0

pub multiple_least : (a b : ℕ) → 0 < a → LeastCommonMultiple a b (multiple_of a b)
unfolding multiple_of
multiple_least a b some =
    let both = both_of a b in
    let up = both.0.0 in
    let pos : 0 < measure_of a b = pos_of_dvd_of_pos up some in
    let a_is : a / measure_of a b * measure_of a b ≡ a = div-mul_cancel (measure_of a b) up in
    let b_is : measure_of a b * (b / measure_of a b) ≡ b = mul-div_cancel' (measure_of a b) both.0.1 in
    record {
      left = subst (λ x. a ∣ x) (ap (λ x. x * (b / measure_of a b)) (sym a_is) ∙ mul_assoc (a / measure_of a b) (measure_of a b) (b / measure_of a b) ∙ ap (λ x. a / measure_of a b * x) b_is) (dvd-mul_right a (b / measure_of a b));
      right = dvd-mul_left b (a / measure_of a b);
      least = λ n p q.
          let ab_na : a * b ∣ n * a = subst (λ x. x ∣ n * a) (mul_comm b a) (mul-dvd-mul_right b q a) in
          let ab_nb : a * b ∣ n * b = mul-dvd-mul_right a p b in
          let all : a * b ∣ n * measure_of a b = both.1 (a * b) n ab_na ab_nb in
          let split : a * b ≡ a / measure_of a b * b * measure_of a b =
          ap (λ x. x * b) (sym a_is) ∙ mul_assoc (a / measure_of a b) (measure_of a b) b ∙ ap (λ x. a / measure_of a b * x) (mul_comm (measure_of a b) b) ∙ sym (mul_assoc (a / measure_of a b) b (measure_of a b)) in
          dvd_of_mul-dvd-mul_right _ pos (subst (λ x. x ∣ n * measure_of a b) split all);
    }

pub multiple_pos : (a b : ℕ) → 0 < a → 0 < b → 0 < multiple_of a b
multiple_pos a b p q = pos_of_dvd_of_pos ((multiple_least a b p).least (a * b) (dvd-mul_right a b) (dvd-mul_left b a)) (mul-pos p q)
