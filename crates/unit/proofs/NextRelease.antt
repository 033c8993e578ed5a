-- A poll's next release comes at a slot exactly if the poll releases a job there.
use Rattle.std.proofs.Common.{◌≡◌, ℕ, zero, suc, ◌+◌, ◌-◌, ◌*◌, ◌/◌, ◌%◌, ◌<◌, ◌≤◌, true, false, cond, eqb, ◌⊎◌, inl, inr, sym, refl, ◌∙◌, subst, ⊎_elim, arith}
use Rattle.std.proofs.Math.Nat.{div-add-mod}
use Rattle.std.proofs.lemmas.Bool.{cases_Bool, cases_lt, both_ways, cond_both, eqb-true, eqb-false, eq-eqb, ne_eqb}
use Rattle.std.proofs.lemmas.Bool.Decides.{nat_tests}
use Rattle.admission.specs.declared.table.Poll.{Poll}
use Rattle.machine.specs.Polls.{is_released}
use Rattle.machine.proofs.PollSource.{released_at, releases_apart}
use Rattle.unit.specs.Releases.{next_release}

released_phase : (poll : Poll) (n : ℕ) → is_released n poll ≡ true → poll.phase ≤ n
released_phase poll n e = grind (arith, nat_tests)

released_rest : (poll : Poll) (n : ℕ) → is_released n poll ≡ true → (n - poll.phase) % poll.period ≡ 0
released_rest poll n e = grind (arith, nat_tests)

-- a period after a release there is another
released_again : (poll : Poll) (n : ℕ) → is_released n poll ≡ true → is_released (n + poll.period) poll ≡ true
released_again poll n e =
    let T : ℕ = poll.period in
    let k : ℕ = (n - poll.phase) / T in
    let from = released_phase poll n e in
    let rest = released_rest poll n e in
    let whole = div-add-mod (n - poll.phase) T in
    let there : poll.phase + suc k * T ≡ n + T = omega arith in
    subst (λ m. is_released m poll ≡ true) there (released_at poll (suc k))

-- the slot before it at which the poll released a job, if it is not the first
abbrev Before : Poll → ℕ → ℕ → Type 0
Before poll slot next = (m : ℕ) × (m < slot) × (is_released m poll ≡ true) × (next ≡ m + poll.period)

record Next (poll : Poll) (slot next : ℕ) : Type 0 where
  comes : is_released next poll ≡ true
  from : slot ≤ next
  least : (next ≡ poll.phase) ⊎ Before poll slot next

next_is : (poll : Poll) → 1 ≤ poll.period → (slot : ℕ) → Next poll slot (next_release slot poll)
unfolding next_release
next_is poll p zero = record {
  comes = subst (λ m. is_released m poll ≡ true) (let e : poll.phase + 0 * poll.period ≡ poll.phase = omega arith in e) (released_at poll 0);
  from = omega arith;
  least = inl refl;
}
next_is poll p (suc slot) = by (next_is poll p slot)
  where
    last : ℕ
    last = next_release slot poll

    by : Next poll slot last → Next poll (suc slot) (cond (eqb last slot) (slot + poll.period) last)
    by h = cond_both (eqb last slot) (slot + poll.period) last (Next poll (suc slot)) come yet
      where
        come : eqb last slot ≡ true → Next poll (suc slot) (slot + poll.period)
        come e =
            let now = subst (λ m. is_released m poll ≡ true) (eqb-true last slot e) h.comes in
            record { comes = released_again poll slot now; from = omega arith; least = inr (slot, omega arith, now, refl) }

        yet : eqb last slot ≡ false → Next poll (suc slot) last
        yet e =
            let ne = eqb-false last slot e in
            let f = h.from in
            record {
              comes = h.comes;
              from = omega arith;
              least = ⊎_elim (λ l. inl l) (λ b. inr (b.0, (let d = b.1 in omega arith), b.2, b.3)) h.least;
            }

pub next_from : (poll : Poll) → 1 ≤ poll.period → (slot : ℕ) → slot ≤ next_release slot poll
next_from poll p slot = (next_is poll p slot).from

pub comes_now : (poll : Poll) → 1 ≤ poll.period → (slot : ℕ) → eqb (next_release slot poll) slot ≡ is_released slot poll
comes_now poll p slot = ⊎_elim yes no (cases_Bool (is_released slot poll))
  where
    next : ℕ
    next = next_release slot poll

    n : Next poll slot next
    n = next_is poll p slot

    late : is_released slot poll ≡ true → slot < next → ⊥
    late e l = ⊎_elim
        (λ first. let ph = released_phase poll slot e in omega arith)
        (λ b. let apart = releases_apart poll b.0 slot b.2 e b.1 in let q = b.3 in omega arith)
        n.least

    yes : is_released slot poll ≡ true → eqb next slot ≡ is_released slot poll
    yes e = eq-eqb next slot (⊎_elim (λ l. absurd (late e l)) (λ l. let f = n.from in omega arith) (cases_lt slot next)) ∙ sym e

    no : is_released slot poll ≡ false → eqb next slot ≡ is_released slot poll
    no e = ne_eqb next slot (λ same. absurd (both_ways (is_released slot poll) e (subst (λ m. is_released m poll ≡ true) same n.comes))) ∙ sym e
