-- A poll is a source of work: its mark is the deadline of its newest job, and releases are a period apart.
use Rattle.std.proofs.Common.{◌≡◌, ℕ, zero, suc, ◌+◌, ◌-◌, ◌*◌, ◌/◌, ◌%◌, ◌<◌, ◌≤◌, max, Bool, true, false, cond, eqb, leb, List, [], ◌∷◌, if◌then◌else◌, refl, ap, ◌∙◌, subst, mul-le-mul_left, arith}
use Rattle.std.proofs.Math.Nat.{div-add-mod, mul-mod_left, lt_of_mul-lt-mul_left}
use Rattle.std.specs.List.{AllByRecursion}
use Rattle.std.proofs.lemmas.Bool.{cond_both, le-leb, eq-eqb, and_from}
use Rattle.std.proofs.lemmas.Bool.Decides.{nat_tests}
use Rattle.admission.specs.declared.table.Poll.{Poll}
use Rattle.admission.specs.Demand.{poll_slots}
use Rattle.admission.specs.Sums.{sum_of}
use Rattle.machine.specs.Polls.{relative_deadline, is_released, poll_job, jobs_at}
use Rattle.machine.proofs.Tables.{PollLaws}
use Rattle.machine.proofs.Bags.{work, left_by}
use Rattle.machine.proofs.Earliest.{Source, rates, potentials}
use Rattle.machine.proofs.Marked.{marked, marked_pays}

-- RELEASES

released_parts : (poll : Poll) (n : ℕ) → is_released n poll ≡ true → (poll.phase ≤ n) × ((n - poll.phase) % poll.period ≡ 0)
released_parts poll n e = (grind (arith, nat_tests), grind (arith, nat_tests))

-- job k is released at phase + k × period
pub released_at : (poll : Poll) (k : ℕ) → is_released (poll.phase + k * poll.period) poll ≡ true
released_at poll k =
    let n : ℕ = poll.phase + k * poll.period in
    let e : n - poll.phase ≡ k * poll.period = omega arith in
    and_from (leb poll.phase n) (eqb ((n - poll.phase) % poll.period) 0)
    (le-leb poll.phase n (omega arith))
    (eq-eqb ((n - poll.phase) % poll.period) 0 (ap (λ x. x % poll.period) e ∙ mul-mod_left k poll.period))

-- two releases are a period apart
pub releases_apart : (poll : Poll) (m n : ℕ) → is_released m poll ≡ true → is_released n poll ≡ true → m < n → m + poll.period ≤ n
releases_apart poll m n em en l =
    let T : ℕ = poll.period in
    let hm = released_parts poll m em in
    let hn = released_parts poll n en in
    let dm = div-add-mod (m - poll.phase) T in
    let dn = div-add-mod (n - poll.phase) T in
    let k : T * ((m - poll.phase) / T) < T * ((n - poll.phase) / T) = omega arith in
    omega (arith, mul-le-mul_left T (lt_of_mul-lt-mul_left T k))

-- THE MARK

-- the deadline of the newest job that was released before slot n
abbrev pub mark : Poll → ℕ → ℕ
mark poll zero = 0
mark poll (suc n) = if is_released n poll then n + relative_deadline poll else mark poll n

-- that job is due by the next release
pub mark_due : (cycle : ℕ) (poll : Poll) → PollLaws cycle poll → (m n : ℕ) → m ≤ n → is_released n poll ≡ true → mark poll m ≤ n
mark_due cycle poll laws zero n l e = omega arith
mark_due cycle poll laws (suc m) n l e =
    cond_both (is_released m poll) (m + relative_deadline poll) (mark poll m) (λ d. d ≤ n)
    (λ r. omega (arith, laws.early, releases_apart poll m n r e l))
    (λ _. mark_due cycle poll laws m n (omega arith) e)

-- THE SOURCES

-- at slot n, where `upto` is the first slot whose releases have not been put yet
abbrev pub poll_sources : ℕ → List Poll → ℕ → List Source
poll_sources cycle [] upto = []
poll_sources cycle (poll ∷ polls) upto = marked (poll_slots cycle poll) (mark poll upto) ∷ poll_sources cycle polls upto

pub poll_rates : (cycle : ℕ) (polls : List Poll) (upto : ℕ) → rates (poll_sources cycle polls upto) ≡ sum_of (poll_slots cycle) polls
poll_rates cycle [] upto = refl
poll_rates cycle (poll ∷ polls) upto = ap (λ x. poll_slots cycle poll + x) (poll_rates cycle polls upto)

-- a poll that releases a job at slot n pays for it
poll_pays : (cycle : ℕ) (poll : Poll) → PollLaws cycle poll → (n i x : ℕ) → is_released n poll ≡ true →
    cycle * left_by x (poll_job n i poll) + (marked (poll_slots cycle poll) (n + relative_deadline poll)).potential n x ≤ (marked (poll_slots cycle poll) (mark poll n)).potential n x
poll_pays cycle poll laws n i x e =
    let q : max n (mark poll n) ≡ n = omega (arith, mark_due cycle poll laws n n (omega arith) e) in
    let P : ℕ → Type 0 = λ y. cycle * cond (leb (y + relative_deadline poll) x) poll.budget 0 + (marked (poll_slots cycle poll) (y + relative_deadline poll)).potential n x ≤ (marked (poll_slots cycle poll) (mark poll n)).potential n x in
    subst P q (marked_pays cycle (poll_slots cycle poll) (mark poll n) (relative_deadline poll) poll.budget n x laws.pays)

-- and so do all of them
pub polls_pay : (cycle n i x : ℕ) (polls : List Poll) → AllByRecursion (PollLaws cycle) polls →
    cycle * work x (jobs_at n i polls) + potentials (poll_sources cycle polls (suc n)) n x ≤ potentials (poll_sources cycle polls n) n x
unfolding jobs_at
polls_pay cycle n i x [] laws = omega arith
polls_pay cycle n i x (poll ∷ polls) laws = go (is_released n poll) refl (polls_pay cycle n (suc i) x polls laws.1)
  where
    go : (b : Bool) → is_released n poll ≡ b → cycle * work x (jobs_at n (suc i) polls) + potentials (poll_sources cycle polls (suc n)) n x ≤ potentials (poll_sources cycle polls n) n x →
        cycle * work x (cond b (poll_job n i poll ∷ jobs_at n (suc i) polls) (jobs_at n (suc i) polls))
        + ((marked (poll_slots cycle poll) (cond b (n + relative_deadline poll) (mark poll n))).potential n x + potentials (poll_sources cycle polls (suc n)) n x)
        ≤ (marked (poll_slots cycle poll) (mark poll n)).potential n x + potentials (poll_sources cycle polls n) n x
    go false e h = omega (arith, h)
    go true e h = omega (arith, h, poll_pays cycle poll laws.0 n i x e)
