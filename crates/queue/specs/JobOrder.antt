-- The laws of the order of jobs: all that anything above knows of it. Their proofs stand here, since a ready queue gives
-- them as a part of its meaning.
use Rattle.std.specs.Prelude.{◌≡◌, ℕ, ◌-◌, ◌<◌, ◌≤◌, Bool, true, refl}
use Rattle.std.proofs.Common.{◌∙◌, ⊎_elim, arith}
use Rattle.std.proofs.lemmas.Bool.{lt-ltb}
use Rattle.pile.specs.Order.{Total, by, by_then}
use Rattle.pile.proofs.Ordering.{by_one_way, by_chain, by_same, then_one_way, then_chain, then_same, then_next, then_ways}
use Rattle.queue.specs.declared.job.Job.{Job}
use Rattle.queue.specs.Jobs.{sooner, lowered}

abbrev deadline_of : Job → ℕ
deadline_of job = job.deadline

abbrev owner_of : Job → ℕ
owner_of job = job.owner

abbrev left_of : Job → ℕ
left_of job = job.left

abbrev by_owner : Job → Job → Bool
by_owner = by_then owner_of (by left_of)

-- any two jobs compare, both ways only if they are equal, and the order carries over
pub sooner_total : Total sooner
unfolding sooner
sooner_total = record {
  one_way = then_one_way deadline_of by_owner (then_one_way owner_of (by left_of) (by_one_way left_of));
  chain = then_chain deadline_of by_owner (then_chain owner_of (by left_of) (by_chain left_of));
  same = λ x y h k.
      let p = then_same deadline_of by_owner x y h k in
      let q = then_same owner_of (by left_of) x y p.1 p.2 in
      let r = by_same left_of x y q.1 q.2 in
      (λ i. record { deadline = p.0 i; owner = q.0 i; left = r i });
}

-- what runs sooner is due no later
pub sooner_due : (x y : Job) → sooner x y ≡ true → x.deadline ≤ y.deadline
unfolding sooner
sooner_due x y h = ⊎_elim (λ l. omega arith) (λ e. let e0 = e.0 in omega arith) (then_ways deadline_of by_owner x y h)

-- a job with a slot less runs sooner
pub lowered_sooner : (job : Job) → 1 < job.left → sooner (lowered job) job ≡ true
unfolding sooner
lowered_sooner job h =
    then_next deadline_of by_owner (lowered job) job refl
    ∙ then_next owner_of (by left_of) (lowered job) job refl
    ∙ lt-ltb (job.left - 1) job.left (omega arith)
