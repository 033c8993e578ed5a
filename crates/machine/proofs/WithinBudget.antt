-- WITHIN THE BUDGET: a job's account never holds more than was born of it, and a finished job is not in the bag any more.
use Rattle.std.proofs.Common.{◌≡◌, ℕ, ◌-◌, ◌<◌, ◌≤◌, Bool, true, false, List, [], ◌∷◌, Ok, length, None, sym, refl, ap, ◌∙◌, subst, inl, inr, arith}
use Rattle.std.proofs.lemmas.Bool.{cases_lt}
use Rattle.std.proofs.lemmas.Bool.Decides.{nat_tests}
use Rattle.pile.specs.Sorted.{first_of}
use Rattle.queue.specs.declared.job.Job.{Job}
use Rattle.admission.specs.Sums.{sum_of}
use Rattle.machine.specs.declared.call.Call.{Call}
use Rattle.machine.specs.declared.call.Call.TheVariants.{Request, Grant, Report}
use Rattle.machine.specs.Limits.{first_lane, nobody}
use Rattle.machine.specs.Lanes.{lane_owner}
use Rattle.machine.specs.Machine.{Setup, refusal_of, said, owner_of, deadline_of}
use Rattle.machine.specs.History.{after, record_of, slots_in, was_finished, last_granted}
use Rattle.machine.specs.Promises.{Opened, poll_at, poll_deadline, NoneAfterFinish, WithinBudget}
use Rattle.machine.proofs.Bags.{one_if}
use Rattle.machine.proofs.Along.{along, entry}
use Rattle.machine.proofs.Questions.{report_accepted}
use Rattle.machine.proofs.Basics.{table_of, poll_of, upto, basic}
use Rattle.machine.proofs.NoneLate.{first_in_time}
use Rattle.machine.proofs.LaneDeadlines.{remembered}
use Rattle.machine.proofs.Born.{weighed, born_of_requests, born_of_none, born_of_no_request, born_most, born_accepted, born_once, accepted_has}
use Rattle.machine.proofs.Accounts.{by_slots, as_one, born, times_in, account}

-- no job is born twice
born_one : (m : Setup) → Opened m → (calls : List Call) (owner deadline : ℕ) → born as_one m (after m calls) (record_of m calls) owner deadline ≤ 1
born_one m o calls owner deadline = elim (cases_lt owner (length m.table.polls)) [
  | inl l ↦ omega (arith, born_most as_one m.table.polls owner deadline l (upto (after m calls)), born_of_no_request as_one (record_of m calls) owner deadline (omega (arith, l, (table_of m o).few_polls)))
  | inr l ↦ omega (arith, born_of_none as_one m.table.polls (upto (after m calls)) owner deadline l, requests)
]
  where
    requests : born_of_requests as_one (record_of m calls) owner deadline ≤ 1
    requests = elim (cases_lt owner first_lane) [
      | inl l ↦ omega (arith, born_of_no_request as_one (record_of m calls) owner deadline l)
      | inr l ↦
          let e : lane_owner (owner - first_lane) ≡ owner = omega arith in
          omega (arith, born_once (owner - first_lane) (record_of m calls) deadline (remembered m o calls (owner - first_lane)).growing, ap (λ x. born_of_requests as_one (record_of m calls) x deadline) e)
    ]

-- the first job of a bag is in the bag
first_counts : (jobs : List Job) → (owner_of (first_of jobs) ≡ nobody → ⊥) → 1 ≤ sum_of (weighed as_one (owner_of (first_of jobs)) (deadline_of (first_of jobs))) jobs
first_counts [] ne = absurd (ne refl)
first_counts (job ∷ jobs) ne = let z : weighed as_one job.owner job.deadline job ≡ 1 = grind (arith, nat_tests) in omega (arith, z)

-- the open slot's job was not finished before
not_finished : (m : Setup) → Opened m → (calls : List Call) → (owner deadline : ℕ) → owner ≡ owner_of (first_of (after m calls).bag) → deadline ≡ deadline_of (first_of (after m calls).bag) →
    (owner ≡ nobody → ⊥) → was_finished owner deadline (slots_in (record_of m calls)) ≡ false
not_finished m o calls owner deadline po pd ne = go (was_finished owner deadline (slots_in (record_of m calls))) refl
  where
    bag : List Job
    bag = (after m calls).bag

    some : owner_of (first_of (after m calls).bag) ≡ nobody → ⊥
    some q = ne (po ∙ q)

    z : 0 < deadline
    z = omega (arith, pd, first_in_time m o calls some)

    counted : 1 ≤ times_in owner deadline (after m calls).bag
    counted = subst (λ x. 1 ≤ sum_of (weighed as_one x deadline) (after m calls).bag) (sym po)
        (subst (λ y. 1 ≤ sum_of (weighed as_one (owner_of (first_of (after m calls).bag)) y) (after m calls).bag) (sym pd) (first_counts (after m calls).bag some))

    go : (b : Bool) → was_finished owner deadline (slots_in (record_of m calls)) ≡ b → was_finished owner deadline (slots_in (record_of m calls)) ≡ false
    go false e = e
    go true e = absurd (omega (arith, (account m o calls owner deadline z).once, born_one m o calls owner deadline, counted, one_at e))
      where
        one_at : was_finished owner deadline (slots_in (record_of m calls)) ≡ true → one_if (was_finished owner deadline (slots_in (record_of m calls))) ≡ 1
        one_at q = ap one_if q

none_after_finish : (m : Setup) → Opened m → (calls : List Call) → NoneAfterFinish (slots_in (record_of m calls))
none_after_finish m o = along m (λ s es. NoneAfterFinish (slots_in es)) tt (λ calls call refusal _ h. h) moves
  where
    moves : (calls : List Call) (call : Call) → refusal_of m (after m calls) call ≡ None → NoneAfterFinish (slots_in (record_of m calls)) → NoneAfterFinish (slots_in (entry call (Ok (said m (after m calls) call)) ∷ record_of m calls))
    moves calls (Request j budget) e h = h
    moves calls Grant e h = h
    moves calls (Report unit slot outcome) e h =
        let held = (basic m o calls).held (report_accepted m (after m calls) unit slot outcome e) in
        (not_finished m o calls (last_granted (record_of m calls)).owner (last_granted (record_of m calls)).deadline held.owner held.deadline, h)

pub within_budget : (m : Setup) → Opened m → (calls : List Call) → WithinBudget m.table (record_of m calls)
within_budget m o calls = record {
  polls = λ i k l.
      let laws = poll_of m o i l in
      let d : ℕ = poll_deadline (poll_at m.table i) k in
      omega (
        arith,
        (account m o calls i d (omega (arith, laws.some_time))).most,
        born_most by_slots m.table.polls i d l (upto (after m calls)),
        born_of_no_request by_slots (record_of m calls) i d (omega (arith, l, (table_of m o).few_polls)),
      );
  requests = λ j budget deadline a.
      let r = remembered m o calls j in
      omega (
        arith,
        (account m o calls (lane_owner j) deadline (accepted_has by_slots j (λ d. 0 < d) (record_of m calls) budget deadline a r.positive)).most,
        born_accepted by_slots j (record_of m calls) budget deadline r.growing a,
        born_of_none by_slots m.table.polls (upto (after m calls)) (lane_owner j) deadline (omega (arith, (table_of m o).few_polls)),
      );
  after_finish = none_after_finish m o calls;
}
