-- DEADLINES MET: nothing of a job that is due is in the bag, so its account says that it is over.
use Rattle.std.proofs.Common.{◌≡◌, ℕ, ◌+◌, ◌*◌, ◌<◌, ◌≤◌, List, [], ◌∷◌, Ok, length, None, refl, ◌∙◌, inl, inr, arith}
use Rattle.std.specs.List.{AllByRecursion}
use Rattle.std.proofs.lemmas.Bool.Decides.{nat_tests}
use Rattle.queue.specs.declared.job.Job.{Job}
use Rattle.admission.specs.declared.table.Poll.{Poll}
use Rattle.machine.specs.declared.call.Call.{Call}
use Rattle.machine.specs.declared.call.Call.TheVariants.{Request, Grant, Report}
use Rattle.machine.specs.Limits.{nobody}
use Rattle.machine.specs.Lanes.{lane_owner}
use Rattle.machine.specs.Machine.{Setup, State, refusal_of, said}
use Rattle.machine.specs.History.{Slot, after, record_of, slots_closed, slots_in, Accepted}
use Rattle.machine.specs.Promises.{Opened, poll_at, poll_deadline, Over, DeadlinesMet}
use Rattle.machine.proofs.PollSource.{released_at}
use Rattle.machine.proofs.Along.{along, entry}
use Rattle.machine.proofs.Questions.{report_accepted}
use Rattle.machine.proofs.Basics.{table_of, poll_of, upto, basic}
use Rattle.machine.proofs.NoneLate.{never_late, first_in_time}
use Rattle.machine.proofs.LaneDeadlines.{remembered}
use Rattle.machine.proofs.Born.{weighed, born_of_none, born_of_no_request, born_after, born_accepted, accepted_has}
use Rattle.machine.proofs.Accounts.{by_slots, born, slots_left, account}

-- nothing is left of a job that is due by n
nothing_left : (owner deadline n : ℕ) (jobs : List Job) → deadline ≤ n → AllByRecursion (λ job. n < job.deadline) jobs → slots_left owner deadline jobs ≡ 0
nothing_left owner deadline n [] l h = refl
nothing_left owner deadline n (job ∷ jobs) l h =
    let q : n < job.deadline = h.0 in
    let ne : job.deadline ≡ deadline → ⊥ = omega arith in
    let z : weighed by_slots owner deadline job ≡ 0 = grind (arith, nat_tests) in
    omega (arith, z, nothing_left owner deadline n jobs l h.1)

-- so a job that is due is over
due_is_over : (m : Setup) → Opened m → (calls : List Call) (owner deadline budget : ℕ) → 0 < deadline → deadline ≤ slots_closed (record_of m calls) →
    born by_slots m (after m calls) (record_of m calls) owner deadline ≡ budget → Over (record_of m calls) owner deadline budget
due_is_over m o calls owner deadline budget z l e = elim (account m o calls owner deadline z).balance [
  | inl f ↦ inl f
  | inr q ↦ inr (omega (arith, q, e, nothing_left owner deadline (after m calls).slot (after m calls).bag (omega (arith, l, (basic m o calls).slot_is)) (never_late m o calls)))
]

upto_least : (s : State) → s.slot ≤ upto s
upto_least s = grind arith

poll_over : (m : Setup) → Opened m → (calls : List Call) (i k : ℕ) → i < length m.table.polls → poll_deadline (poll_at m.table i) k ≤ slots_closed (record_of m calls) →
    Over (record_of m calls) i (poll_deadline (poll_at m.table i) k) (poll_at m.table i).budget
poll_over m o calls i k l h =
    let poll : Poll = poll_at m.table i in
    let laws = poll_of m o i l in
    let passed : poll.phase + k * poll.period < upto (after m calls) = omega (arith, h, laws.some_time, (basic m o calls).slot_is, upto_least (after m calls)) in
    due_is_over m o calls i (poll_deadline poll k) poll.budget (omega (arith, laws.some_time)) h
    (omega (
      arith,
      born_after by_slots m.table.polls i (poll_deadline poll k) l (poll.phase + k * poll.period) (released_at poll k) refl (upto (after m calls)) passed,
      born_of_no_request by_slots (record_of m calls) i (poll_deadline poll k) (omega (arith, l, (table_of m o).few_polls)),
    ))

request_over : (m : Setup) → Opened m → (calls : List Call) (j budget deadline : ℕ) → Accepted (record_of m calls) j budget deadline → deadline ≤ slots_closed (record_of m calls) →
    Over (record_of m calls) (lane_owner j) deadline budget
request_over m o calls j budget deadline a l =
    let r = remembered m o calls j in
    due_is_over m o calls (lane_owner j) deadline budget (accepted_has by_slots j (λ d. 0 < d) (record_of m calls) budget deadline a r.positive) l
    (omega (
      arith,
      born_accepted by_slots j (record_of m calls) budget deadline r.growing a,
      born_of_none by_slots m.table.polls (upto (after m calls)) (lane_owner j) deadline (omega (arith, (table_of m o).few_polls)),
    ))

-- each slot lies below the deadline of the job that it went to
abbrev InTime : List Slot → Type 0
InTime slots = AllByRecursion (λ slot. (slot.owner ≡ nobody → ⊥) → slot.number < slot.deadline) slots

in_time : (m : Setup) → Opened m → (calls : List Call) → InTime (slots_in (record_of m calls))
in_time m o = along m (λ s es. InTime (slots_in es)) tt (λ calls call refusal _ h. h) moves
  where
    moves : (calls : List Call) (call : Call) → refusal_of m (after m calls) call ≡ None → InTime (slots_in (record_of m calls)) → InTime (slots_in (entry call (Ok (said m (after m calls) call)) ∷ record_of m calls))
    moves calls (Request j budget) e h = h
    moves calls Grant e h = h
    moves calls (Report unit slot outcome) e h =
        let held = (basic m o calls).held (report_accepted m (after m calls) unit slot outcome e) in (
          (λ ne. omega (arith, held.number, held.deadline, first_in_time m o calls (λ q. ne (held.owner ∙ q)))),
          h,
        )

pub deadlines_met : (m : Setup) → Opened m → (calls : List Call) → DeadlinesMet m.table (record_of m calls)
deadlines_met m o calls = record { polls = poll_over m o calls; requests = request_over m o calls; in_time = in_time m o calls }
