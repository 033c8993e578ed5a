-- The jobs that are released at a slot, summed by a function that is 0 at other owners.
use Rattle.std.proofs.Common.{◌≡◌, ℕ, zero, suc, ◌+◌, ◌<◌, ◌≤◌, Bool, true, false, cond, ◌⊎◌, List, [], ◌∷◌, length, get_or, refl, ap, inl, inr, arith}
use Rattle.std.proofs.lemmas.Bool.{cond_both}
use Rattle.queue.specs.declared.job.Job.{Job}
use Rattle.admission.specs.declared.table.Poll.{Poll}
use Rattle.admission.specs.Sums.{sum_of}
use Rattle.machine.specs.Polls.{is_released, poll_job, jobs_at}

abbrev pub no_poll : Poll
no_poll = record { phase = 0; period = 0; budget = 0 }

module _ (f : Job → ℕ) (owner : ℕ) (others : (job : Job) → (job.owner ≡ owner → ⊥) → f job ≡ 0) where
  -- the owner is none of the polls that are numbered from b on
  pub released_none : (polls : List Poll) (b n : ℕ) → (owner < b) ⊎ (b + length polls ≤ owner) → sum_of f (jobs_at n b polls) ≡ 0
  unfolding jobs_at
  released_none [] b n h = refl
  released_none (poll ∷ polls) b n h =
      let rest = released_none polls (suc b) n (elim h [ inl l ↦ inl (omega arith) | inr l ↦ inr (omega arith) ]) in
      cond_both (is_released n poll) (poll_job n b poll ∷ jobs_at n (suc b) polls) (jobs_at n (suc b) polls) (λ jobs. sum_of f jobs ≡ 0)
      (λ _. let ne : b ≡ owner → ⊥ = omega arith in omega (arith, rest, others (poll_job n b poll) ne)) (λ _. rest)

  -- it is poll number i of them
  pub released_one : (polls : List Poll) (b i n : ℕ) → i < length polls → owner ≡ b + i →
      sum_of f (jobs_at n b polls) ≡ cond (is_released n (get_or polls i no_poll)) (f (poll_job n owner (get_or polls i no_poll))) 0
  unfolding jobs_at
  released_one [] b i n l e = absurd (omega arith)
  released_one (poll ∷ polls) b zero n l e = go (released_none polls (suc b) n (inl (omega arith))) (is_released n poll)
    where
      go : sum_of f (jobs_at n (suc b) polls) ≡ 0 → (t : Bool) → sum_of f (cond t (poll_job n b poll ∷ jobs_at n (suc b) polls) (jobs_at n (suc b) polls)) ≡ cond t (f (poll_job n owner poll)) 0
      go r true = let q : b ≡ owner = omega arith in omega (arith, r, ap (λ y. f (poll_job n y poll)) q)
      go r false = r
  released_one (poll ∷ polls) b (suc i) n l e = go (released_one polls (suc b) i n (omega arith) (omega arith)) (is_released n poll)
    where
      value : ℕ
      value = cond (is_released n (get_or polls i no_poll)) (f (poll_job n owner (get_or polls i no_poll))) 0

      go : sum_of f (jobs_at n (suc b) polls) ≡ value → (t : Bool) → sum_of f (cond t (poll_job n b poll ∷ jobs_at n (suc b) polls) (jobs_at n (suc b) polls)) ≡ value
      go r true = let ne : b ≡ owner → ⊥ = omega arith in omega (arith, r, others (poll_job n b poll) ne)
      go r false = r
