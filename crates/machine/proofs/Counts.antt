-- How many jobs of each owner can stand in the bag: of a poll one, of a lane as many as it has deadlines ahead.
use Rattle.std.proofs.Common.{◌≡◌, ℕ, zero, suc, ◌+◌, ◌<◌, ◌≤◌, Bool, true, false, cond, ◌&&◌, eqb, ltb, ◌⊎◌, List, [], ◌∷◌, length, take, None, sym, refl, ap, ◌∙◌, subst, inl, inr, arith}
use Rattle.std.specs.List.{AllByRecursion}
use Rattle.std.proofs.lemmas.Bool.{cond_both, cases_eq, cases_lt, lt-ltb, le-ltb}
use Rattle.std.proofs.lemmas.Bool.Decides.{nat_tests}
use Rattle.queue.specs.declared.job.Job.{Job}
use Rattle.admission.specs.declared.table.Poll.{Poll}
use Rattle.admission.specs.Contents.{Contents}
use Rattle.admission.specs.Sums.{sum_of}
use Rattle.machine.specs.declared.call.Call.{Call}
use Rattle.machine.specs.declared.call.Call.TheVariants.{Request, Grant, Report}
use Rattle.machine.specs.declared.call.Outcome.{Outcome}
use Rattle.machine.specs.Limits.{most_ahead, first_lane}
use Rattle.machine.specs.Polls.{relative_deadline, is_released, poll_job, jobs_at}
use Rattle.machine.specs.Lanes.{lane_owner, lane_job, ahead}
use Rattle.machine.specs.Machine.{Setup, State, refusal_of, moved, recent_at, released, new_deadline}
use Rattle.machine.specs.History.{Entry, after, record_of, deadlines_of}
use Rattle.machine.specs.Promises.{Opened, Growing, poll_at}
use Rattle.sheet.proofs.Each.{each_weaker, each_taken}
use Rattle.machine.proofs.Bags.{one_if, one_if_most, sum_put, sum_put_all, sum_worked, all_put, all_put_all, all_worked}
use Rattle.machine.proofs.PollSource.{mark, mark_due}
use Rattle.machine.proofs.Along.{along}
use Rattle.machine.proofs.Questions.{Asked, request_accepted, grant_accepted, report_accepted}
use Rattle.machine.proofs.Basics.{table_of, poll_of, recent_own, recent_other, upto, upto_shut, upto_open, Basic, basic}
use Rattle.machine.proofs.LaneDeadlines.{Remembered, remembered}
use Rattle.machine.proofs.Releases.{released_none, released_one}

-- one if the job is the owner's and due after x
abbrev pub is_ahead : ℕ → ℕ → Job → ℕ
is_ahead owner x job = one_if (eqb job.owner owner && ltb x job.deadline)

ahead_other : (owner x : ℕ) (job : Job) → (job.owner ≡ owner → ⊥) → is_ahead owner x job ≡ 0
ahead_other owner x job ne = grind (arith, nat_tests)

ahead_own : (owner x : ℕ) (job : Job) → job.owner ≡ owner → is_ahead owner x job ≡ one_if (ltb x job.deadline)
ahead_own owner x job e = grind (arith, nat_tests)

-- DEADLINES AHEAD

ahead_none : (x : ℕ) (deadlines : List ℕ) → AllByRecursion (λ d. d ≤ x) deadlines → ahead x deadlines ≡ 0
ahead_none x [] h = refl
ahead_none x (d ∷ ds) h = omega (arith, ap one_if (le-ltb x d h.0), ahead_none x ds h.1)

ahead_less : (n x : ℕ) (deadlines : List ℕ) → n ≤ x → ahead x deadlines ≤ ahead n deadlines
ahead_less n x [] l = omega arith
ahead_less n x (d ∷ ds) l = let r = ahead_less n x ds l in grind (arith, nat_tests)

pub ahead_most : (x : ℕ) (deadlines : List ℕ) → ahead x deadlines ≤ length deadlines
ahead_most x [] = omega arith
ahead_most x (d ∷ ds) = omega (arith, one_if_most (ltb x d), ahead_most x ds)

-- the first k of growing deadlines hold all that are ahead, if these are at most k
ahead_taken : (x k : ℕ) (deadlines : List ℕ) → Growing deadlines → ahead x deadlines ≤ k → ahead x (take k deadlines) ≡ ahead x deadlines
ahead_taken x zero deadlines g l = omega arith
ahead_taken x (suc k) [] g l = refl
ahead_taken x (suc k) (d ∷ ds) g l = ap (λ y. one_if (ltb x d) + y) (ahead_taken x k ds g.1 (elim (cases_lt x d) [
  | inl h ↦ omega (arith, ap one_if (lt-ltb x d h))
  | inr h ↦ omega (arith, ahead_none x ds (each_weaker (λ e. e < d) (λ e. e ≤ x) (λ e q. omega arith) ds g.0))
]))

growing_taken : (k : ℕ) (deadlines : List ℕ) → Growing deadlines → Growing (take k deadlines)
growing_taken zero deadlines g = tt
growing_taken (suc k) [] g = tt
growing_taken (suc k) (d ∷ ds) g = (each_taken (λ e. e < d) k ds g.0, growing_taken k ds g.1)

-- OWNERS

-- a job's owner is a poll or a lane of the table
abbrev pub Owned : Contents → Job → Type 0
Owned table job = (job.owner < length table.polls) ⊎ ((first_lane ≤ job.owner) × (job.owner < first_lane + length table.lanes))

released_owned : (polls : List Poll) (b n top : ℕ) → b + length polls ≤ top → AllByRecursion (λ job. job.owner < top) (jobs_at n b polls)
unfolding jobs_at
released_owned [] b n top l = tt
released_owned (poll ∷ polls) b n top l =
    let rest = released_owned polls (suc b) n top (omega arith) in
    cond_both (is_released n poll) (poll_job n b poll ∷ jobs_at n (suc b) polls) (jobs_at n (suc b) polls) (AllByRecursion (λ job. job.owner < top)) (λ _. (omega arith, rest)) (λ _. rest)

-- COUNTS

pub record Counts (m : Setup) (s : State) : Type 0 where
  pub lanes : (j x : ℕ) → s.slot ≤ x → sum_of (is_ahead (lane_owner j) x) s.bag ≤ ahead x (recent_at s j)
  pub polls : (i x : ℕ) → i < length m.table.polls → s.slot ≤ x → sum_of (is_ahead i x) s.bag ≤ one_if (ltb x (mark (poll_at m.table i) (upto s)))
  pub owned : AllByRecursion (Owned m.table) s.bag

module _ (m : Setup) (o : Opened m) (s : State) (es : List Entry) (c : Counts m s) where
  counts_request : (k budget : ℕ) → Asked m s k budget → Basic m s es → Remembered s es k → Counts m (moved m s (Request k budget))
  counts_request k budget a b r = record {
    lanes = λ j x l. elim (cases_eq j k) [
      | inl q ↦
          let here = recent_own m s j k budget q (omega (arith, a.lane, b.lanes)) in
          let growing : Growing (recent_at s k) = subst Growing (sym r.recent_is) (growing_taken most_ahead (deadlines_of k es) r.growing) in
          let kept : ahead x (take 7 (recent_at s k)) ≡ ahead x (recent_at s k) = ahead_taken x 7 (recent_at s k) growing (omega (arith, ahead_less s.slot x (recent_at s k) l, a.few)) in
          omega (
            arith,
            sum_put (is_ahead (lane_owner j) x) (job k budget) s.bag,
            ahead_own (lane_owner j) x (job k budget) (ap lane_owner (sym q)),
            kept,
            c.lanes j x l,
            ap (ahead x) here,
            ap (λ i. ahead x (recent_at s i)) q,
          )
      | inr ne ↦
          let there = recent_other m s j k budget ne in
          omega (arith, sum_put (is_ahead (lane_owner j) x) (job k budget) s.bag, ahead_other (lane_owner j) x (job k budget) (λ e. ne (omega arith)), c.lanes j x l, ap (ahead x) there)
    ];
    polls = λ i x l h. omega (arith, sum_put (is_ahead i x) (job k budget) s.bag, ahead_other i x (job k budget) (λ e. omega (arith, l, (table_of m o).few_polls)), c.polls i x l h);
    owned = all_put (Owned m.table) (job k budget) s.bag (inr (omega arith, omega (arith, a.lane))) c.owned;
  }
    where
      job : ℕ → ℕ → Job
      job k budget = lane_job k (new_deadline m s k budget) budget

  counts_grant : s.is_open ≡ false → Counts m (moved m s Grant)
  counts_grant shut = record {
    lanes = λ j x l.
        omega (
          arith,
          released_none (is_ahead (lane_owner j) x) (lane_owner j) (ahead_other (lane_owner j) x) m.table.polls 0 s.slot (inr (omega (arith, (table_of m o).few_polls))),
          sum_put_all (is_ahead (lane_owner j) x) (released m s) s.bag,
          c.lanes j x l,
        );
    polls = λ i x l h.
        grown i x l h (is_released s.slot (poll_at m.table i)) refl
        (omega (arith, c.polls i x l h, ap (λ y. one_if (ltb x (mark (poll_at m.table i) y))) (upto_shut s shut)))
        (sum_put_all (is_ahead i x) (released m s) s.bag ∙ ap (λ y. y + sum_of (is_ahead i x) s.bag) (released_one (is_ahead i x) i (ahead_other i x) m.table.polls 0 i s.slot l (omega arith)));
    owned = all_put_all (Owned m.table) (released m s) s.bag
        (each_weaker (λ job. job.owner < length m.table.polls) (Owned m.table) (λ job h. inl h) (released m s) (released_owned m.table.polls 0 s.slot (length m.table.polls) (omega arith)))
        c.owned;
  }
    where
      -- a poll that releases a job had none in the bag
      grown : (i x : ℕ) → i < length m.table.polls → s.slot ≤ x → (b : Bool) → is_released s.slot (poll_at m.table i) ≡ b →
          sum_of (is_ahead i x) s.bag ≤ one_if (ltb x (mark (poll_at m.table i) s.slot)) →
          sum_of (is_ahead i x) (moved m s Grant).bag ≡ cond (is_released s.slot (poll_at m.table i)) (is_ahead i x (poll_job s.slot i (poll_at m.table i))) 0 + sum_of (is_ahead i x) s.bag →
          sum_of (is_ahead i x) (moved m s Grant).bag ≤ one_if (ltb x (cond (is_released s.slot (poll_at m.table i)) (s.slot + relative_deadline (poll_at m.table i)) (mark (poll_at m.table i) s.slot)))
      grown i x l h true e old new =
          let past : mark (poll_at m.table i) s.slot ≤ s.slot = mark_due m.table.cycle (poll_at m.table i) (poll_of m o i l) s.slot s.slot (omega arith) e in
          let none : one_if (ltb x (mark (poll_at m.table i) s.slot)) ≡ 0 = ap one_if (le-ltb x (mark (poll_at m.table i) s.slot) (omega arith)) in
          let is = ahead_own i x (poll_job s.slot i (poll_at m.table i)) refl in
          rw e (omega (arith, rw e at new, old, none, is))
      grown i x l h false e old new = rw e (omega (arith, rw e at new, old))

  counts_report : (unit slot : ℕ) (outcome : Outcome) → s.is_open ≡ true → Counts m (moved m s (Report unit slot outcome))
  counts_report unit slot outcome on = record {
    lanes = λ j x l. omega (arith, sum_worked (is_ahead (lane_owner j) x) (λ job. omega arith) outcome s.bag, c.lanes j x (omega arith));
    polls = λ i x l h. omega (arith, sum_worked (is_ahead i x) (λ job. omega arith) outcome s.bag, c.polls i x l (omega arith), ap (λ y. one_if (ltb x (mark (poll_at m.table i) y))) (upto_open s on));
    owned = all_worked (Owned m.table) (λ job h. h) outcome s.bag c.owned;
  }

counts_moves : (m : Setup) → Opened m → (s : State) (es : List Entry) (call : Call) → refusal_of m s call ≡ None → Basic m s es → ((j : ℕ) → Remembered s es j) → Counts m s → Counts m (moved m s call)
counts_moves m o s es (Request k budget) e b r c = counts_request m o s es c k budget (request_accepted m s k budget e) b (r k)
counts_moves m o s es Grant e b r c = counts_grant m o s es c (grant_accepted m s e)
counts_moves m o s es (Report unit slot outcome) e b r c = counts_report m o s es c unit slot outcome (report_accepted m s unit slot outcome e)

pub counts : (m : Setup) → Opened m → (calls : List Call) → Counts m (after m calls)
counts m o = along m (λ s es. Counts m s)
    (record { lanes = λ j x l. omega arith; polls = λ i x l h. omega arith; owned = tt })
    (λ calls call refusal _ c. c)
    (λ calls call e c. counts_moves m o (after m calls) (record_of m calls) call e (basic m o calls) (remembered m o calls) c)
