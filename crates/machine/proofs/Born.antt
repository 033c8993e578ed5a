-- What was ever born of the job of an owner and a deadline: one release of a poll, or one accepted request. Jobs are weighed by
-- a function of their slots left: by the slots themselves, or by 1.
use Rattle.std.proofs.Common.{◌≡◌, ℕ, zero, suc, ◌+◌, ◌<◌, ◌≤◌, Bool, true, cond, ◌&&◌, eqb, ◌⊎◌, List, [], ◌∷◌, Ok, Err, if◌then◌else◌, length, get_or, refl, ap, ◌∙◌, subst, inl, inr, arith}
use Rattle.std.specs.List.{AllByRecursion}
use Rattle.std.proofs.lemmas.Bool.{cases_eq, eq-eqb, ne_eqb}
use Rattle.std.proofs.lemmas.Bool.Decides.{nat_tests}
use Rattle.queue.specs.declared.job.Job.{Job}
use Rattle.admission.specs.declared.table.Poll.{Poll}
use Rattle.admission.specs.Sums.{sum_of}
use Rattle.machine.specs.declared.call.Call.{Call}
use Rattle.machine.specs.declared.call.Call.TheVariants.{Request, Grant, Report}
use Rattle.machine.specs.declared.call.Reply.TheVariants.{Deadline, Granted, Reported}
use Rattle.machine.specs.Limits.{first_lane}
use Rattle.machine.specs.Polls.{relative_deadline, is_released, poll_job, jobs_at}
use Rattle.machine.specs.Lanes.{lane_owner}
use Rattle.machine.specs.Machine.{Answer}
use Rattle.machine.specs.History.{Entry, Accepted, deadlines_of, deadline_by}
use Rattle.machine.specs.Promises.{Growing}
use Rattle.sheet.proofs.Each.{each_weaker}
use Rattle.machine.proofs.Bags.{one_if, one_if_most}
use Rattle.machine.proofs.Releases.{no_poll, released_none, released_one}

module _ (w : ℕ → ℕ) where
  -- the weight of a job if it is the one of this owner and deadline
  abbrev pub weighed : ℕ → ℕ → Job → ℕ
  weighed owner deadline job = if eqb job.owner owner && eqb job.deadline deadline then w job.left else 0

  weighed_other : (owner deadline : ℕ) (job : Job) → (job.owner ≡ owner → ⊥) → weighed owner deadline job ≡ 0
  weighed_other owner deadline job ne = grind (arith, nat_tests)

  -- POLLS

  -- what the polls released of it before slot m
  abbrev pub born_of_polls : List Poll → ℕ → ℕ → ℕ → ℕ
  born_of_polls polls zero owner deadline = 0
  born_of_polls polls (suc n) owner deadline = sum_of (weighed owner deadline) (jobs_at n 0 polls) + born_of_polls polls n owner deadline

  -- an owner past the polls gets nothing
  pub born_of_none : (polls : List Poll) (m owner deadline : ℕ) → length polls ≤ owner → born_of_polls polls m owner deadline ≡ 0
  born_of_none polls zero owner deadline l = refl
  born_of_none polls (suc n) owner deadline l =
      omega (arith, released_none (weighed owner deadline) owner (weighed_other owner deadline) polls 0 n (inr (omega arith)), born_of_none polls n owner deadline l)

  module _ (polls : List Poll) (i deadline : ℕ) (l : i < length polls) where
    -- what poll i releases of it at slot n
    abbrev born_at : ℕ → ℕ
    born_at n = if is_released n (get_or polls i no_poll) && eqb (n + relative_deadline (get_or polls i no_poll)) deadline then w (get_or polls i no_poll).budget else 0

    released_of : (n : ℕ) → sum_of (weighed i deadline) (jobs_at n 0 polls) ≡ born_at n
    released_of n = released_one (weighed i deadline) i (weighed_other i deadline) polls 0 i n l (omega arith) ∙ due_of (is_released n (get_or polls i no_poll))
      where
        due_of : (t : Bool) → cond t (weighed i deadline (poll_job n i (get_or polls i no_poll))) 0 ≡ cond (t && eqb (n + relative_deadline (get_or polls i no_poll)) deadline) (w (get_or polls i no_poll).budget) 0
        due_of t = grind (arith, nat_tests)

    not_at : (n : ℕ) → (n + relative_deadline (get_or polls i no_poll) ≡ deadline → ⊥) → born_at n ≡ 0
    not_at n ne = grind (arith, nat_tests)

    most_at : (n : ℕ) → born_at n ≤ w (get_or polls i no_poll).budget
    most_at n = grind arith

    -- nothing before its release
    pub born_before : (m : ℕ) → m + relative_deadline (get_or polls i no_poll) ≤ deadline → born_of_polls polls m i deadline ≡ 0
    born_before zero h = refl
    born_before (suc n) h = omega (arith, released_of n, not_at n (omega arith), born_before n (omega arith))

    -- it is never born twice
    pub born_most : (m : ℕ) → born_of_polls polls m i deadline ≤ w (get_or polls i no_poll).budget
    born_most zero = omega arith
    born_most (suc n) = elim (cases_eq (n + relative_deadline (get_or polls i no_poll)) deadline) [
      | inl e ↦ omega (arith, released_of n, most_at n, born_before n (omega arith))
      | inr ne ↦ omega (arith, released_of n, not_at n ne, born_most n)
    ]

    -- once released, it is born
    pub born_after : (r : ℕ) → is_released r (get_or polls i no_poll) ≡ true → deadline ≡ r + relative_deadline (get_or polls i no_poll) → (m : ℕ) → r < m → born_of_polls polls m i deadline ≡ w (get_or polls i no_poll).budget
    born_after r e is zero h = absurd (omega arith)
    born_after r e is (suc n) h = elim (cases_eq n r) [
      | inl q ↦
          let t : is_released n (get_or polls i no_poll) ≡ true = ap (λ k. is_released k (get_or polls i no_poll)) q ∙ e in
          let d : n + relative_deadline (get_or polls i no_poll) ≡ deadline = omega arith in
          let here : born_at n ≡ w (get_or polls i no_poll).budget = grind (arith, nat_tests) in
          omega (arith, released_of n, here, born_before n (omega arith))
      | inr q ↦ omega (arith, released_of n, not_at n (omega arith), born_after r e is n (omega arith))
    ]

  -- LANES

  -- what requests brought of it
  abbrev pub born_by : Answer → Call → ℕ → ℕ → ℕ
  born_by (Ok (Deadline d)) (Request k budget) owner deadline = if eqb (lane_owner k) owner && eqb d deadline then w budget else 0
  born_by (Ok (Deadline d)) Grant owner deadline = 0
  born_by (Ok (Deadline d)) (Report u k outcome) owner deadline = 0
  born_by (Ok (Granted u k o d)) call owner deadline = 0
  born_by (Ok Reported) call owner deadline = 0
  born_by (Err r) call owner deadline = 0

  abbrev pub born_of_requests : List Entry → ℕ → ℕ → ℕ
  born_of_requests [] owner deadline = 0
  born_of_requests (e ∷ es) owner deadline = born_by e.told e.call owner deadline + born_of_requests es owner deadline

  none_by : (told : Answer) (call : Call) (owner deadline : ℕ) → owner < first_lane → born_by told call owner deadline ≡ 0
  none_by (Ok (Deadline d)) (Request k budget) owner deadline l = let ne : lane_owner k ≡ owner → ⊥ = omega arith in grind (arith, nat_tests)
  none_by (Ok (Deadline d)) Grant owner deadline l = refl
  none_by (Ok (Deadline d)) (Report u k outcome) owner deadline l = refl
  none_by (Ok (Granted u k o d)) call owner deadline l = refl
  none_by (Ok Reported) call owner deadline l = refl
  none_by (Err r) call owner deadline l = refl

  -- a poll's number is no lane's
  pub born_of_no_request : (es : List Entry) (owner deadline : ℕ) → owner < first_lane → born_of_requests es owner deadline ≡ 0
  born_of_no_request [] owner deadline l = refl
  born_of_no_request (e ∷ es) owner deadline l = omega (arith, none_by e.told e.call owner deadline l, born_of_no_request es owner deadline l)

  module _ (j : ℕ) where
    -- an entry gives the lane a deadline and brings the job of that deadline, or it gives no deadline and brings nothing
    record Gives (told : Answer) (call : Call) : Type 0 where
      due : ℕ
      budget : ℕ
      longer : (older : List ℕ) → deadline_by told call j older ≡ due ∷ older
      brings : (deadline : ℕ) → born_by told call (lane_owner j) deadline ≡ cond (eqb due deadline) (w budget) 0

    record GivesNone (told : Answer) (call : Call) : Type 0 where
      same : (older : List ℕ) → deadline_by told call j older ≡ older
      nothing : (deadline : ℕ) → born_by told call (lane_owner j) deadline ≡ 0

    brings_own : (k budget d deadline : ℕ) → k ≡ j → born_by (Ok (Deadline d)) (Request k budget) (lane_owner j) deadline ≡ cond (eqb d deadline) (w budget) 0
    brings_own k budget d deadline e = grind (arith, nat_tests)

    brings_other : (k budget d deadline : ℕ) → (k ≡ j → ⊥) → born_by (Ok (Deadline d)) (Request k budget) (lane_owner j) deadline ≡ 0
    brings_other k budget d deadline ne = grind (arith, nat_tests)

    longer_own : (k budget d : ℕ) → k ≡ j → (older : List ℕ) → deadline_by (Ok (Deadline d)) (Request k budget) j older ≡ d ∷ older
    longer_own k budget d e older = ap (λ b. cond b (d ∷ older) older) (eq-eqb k j e)

    entry_ways : (told : Answer) (call : Call) → Gives told call ⊎ GivesNone told call
    entry_ways (Ok (Deadline d)) (Request k budget) = elim (cases_eq k j) [
      | inl e ↦ inl (record { due = d; budget = budget; longer = longer_own k budget d e; brings = λ deadline. brings_own k budget d deadline e })
      | inr ne ↦ inr (record { same = λ older. ap (λ b. cond b (d ∷ older) older) (ne_eqb k j ne); nothing = λ deadline. brings_other k budget d deadline ne })
    ]
    entry_ways (Ok (Deadline d)) Grant = inr (record { same = λ older. refl; nothing = λ deadline. refl })
    entry_ways (Ok (Deadline d)) (Report u k outcome) = inr (record { same = λ older. refl; nothing = λ deadline. refl })
    entry_ways (Ok (Granted u k o d)) call = inr (record { same = λ older. refl; nothing = λ deadline. refl })
    entry_ways (Ok Reported) call = inr (record { same = λ older. refl; nothing = λ deadline. refl })
    entry_ways (Err r) call = inr (record { same = λ older. refl; nothing = λ deadline. refl })

    -- a deadline that the lane was not given brings nothing
    absent_by : (told : Answer) (call : Call) (deadline : ℕ) (older : List ℕ) → AllByRecursion (λ d. d ≡ deadline → ⊥) (deadline_by told call j older) →
        (born_by told call (lane_owner j) deadline ≡ 0) × AllByRecursion (λ d. d ≡ deadline → ⊥) older
    absent_by told call deadline older h = elim (entry_ways told call) [
      | inl g ↦ let p = subst (AllByRecursion (λ d. d ≡ deadline → ⊥)) (g.longer older) h in (g.brings deadline ∙ ap (λ b. cond b (w g.budget) 0) (ne_eqb g.due deadline p.0), p.1)
      | inr n ↦ (n.nothing deadline, subst (AllByRecursion (λ d. d ≡ deadline → ⊥)) (n.same older) h)
    ]

    born_absent : (es : List Entry) (deadline : ℕ) → AllByRecursion (λ d. d ≡ deadline → ⊥) (deadlines_of j es) → born_of_requests es (lane_owner j) deadline ≡ 0
    born_absent [] deadline h = refl
    born_absent (e ∷ es) deadline h = let p = absent_by e.told e.call deadline (deadlines_of j es) h in omega (arith, p.0, born_absent es deadline p.1)

    other_than : (deadline : ℕ) (older : List ℕ) → AllByRecursion (λ d. d < deadline) older → AllByRecursion (λ d. d ≡ deadline → ⊥) older
    other_than deadline older h = each_weaker (λ d. d < deadline) (λ d. d ≡ deadline → ⊥) (λ d l e. omega arith) older h

    -- what holds of all deadlines of the lane holds of the older ones, and of an accepted one
    all_older : (P : ℕ → Type 0) (told : Answer) (call : Call) (older : List ℕ) → AllByRecursion P (deadline_by told call j older) → AllByRecursion P older
    all_older P told call older h = elim (entry_ways told call) [ inl g ↦ (subst (AllByRecursion P) (g.longer older) h).1 | inr n ↦ subst (AllByRecursion P) (n.same older) h ]

    pub accepted_has : (P : ℕ → Type 0) (es : List Entry) (budget deadline : ℕ) → Accepted es j budget deadline → AllByRecursion P (deadlines_of j es) → P deadline
    accepted_has P [] budget deadline a h = absurd a
    accepted_has P (e ∷ es) budget deadline (inl q) h =
        subst (λ (x : Entry). AllByRecursion P (deadline_by x.told x.call j (deadlines_of j es)) → P deadline) q (λ g. (subst (AllByRecursion P) (longer_own j budget deadline refl (deadlines_of j es)) g).0) h
    accepted_has P (e ∷ es) budget deadline (inr a) h = accepted_has P es budget deadline a (all_older P e.told e.call (deadlines_of j es) h)

    growing_older : (told : Answer) (call : Call) (older : List ℕ) → Growing (deadline_by told call j older) → Growing older
    growing_older told call older h = elim (entry_ways told call) [ inl g ↦ (subst Growing (g.longer older) h).1 | inr n ↦ subst Growing (n.same older) h ]

    -- an entry in front brings nothing of a deadline that was given before
    nothing_new : (told : Answer) (call : Call) (older : List ℕ) (deadline : ℕ) → Growing (deadline_by told call j older) → ((P : ℕ → Type 0) → AllByRecursion P older → P deadline) →
        born_by told call (lane_owner j) deadline ≡ 0
    nothing_new told call older deadline h given = elim (entry_ways told call) [
      | inl g ↦
          let l : deadline < g.due = given (λ x. x < g.due) (subst Growing (g.longer older) h).0 in
          g.brings deadline ∙ ap (λ b. cond b (w g.budget) 0) (ne_eqb g.due deadline (omega arith))
      | inr n ↦ n.nothing deadline
    ]

    -- an accepted request is born once
    pub born_accepted : (es : List Entry) (budget deadline : ℕ) → Growing (deadlines_of j es) → Accepted es j budget deadline → born_of_requests es (lane_owner j) deadline ≡ w budget
    born_accepted [] budget deadline g a = absurd a
    born_accepted (e ∷ es) budget deadline g (inl q) =
        subst (λ (x : Entry). Growing (deadline_by x.told x.call j (deadlines_of j es)) → born_by x.told x.call (lane_owner j) deadline + born_of_requests es (lane_owner j) deadline ≡ w budget) q
        (λ f.
        let h = subst Growing (longer_own j budget deadline refl (deadlines_of j es)) f in
        let here = brings_own j budget deadline deadline refl ∙ ap (λ b. cond b (w budget) 0) (eq-eqb deadline deadline refl) in
        omega (arith, here, born_absent es deadline (other_than deadline (deadlines_of j es) h.0)))
        g
    born_accepted (e ∷ es) budget deadline g (inr a) =
        omega (
          arith,
          nothing_new e.told e.call (deadlines_of j es) deadline g (λ P h. accepted_has P es budget deadline a h),
          born_accepted es budget deadline (growing_older e.told e.call (deadlines_of j es) g) a,
        )

-- a lane is given each deadline at most once
pub born_once : (j : ℕ) (es : List Entry) (deadline : ℕ) → Growing (deadlines_of j es) → born_of_requests (λ n. 1) es (lane_owner j) deadline ≤ 1
born_once j [] deadline g = omega arith
born_once j (e ∷ es) deadline g =
    let older = born_once j es deadline (growing_older (λ n. 1) j e.told e.call (deadlines_of j es) g) in
    elim (entry_ways (λ n. 1) j e.told e.call) [
      | inr n ↦ omega (arith, older, n.nothing deadline)
      | inl x ↦ elim (cases_eq x.due deadline) [
        | inr other ↦ omega (arith, older, x.brings deadline, ap one_if (ne_eqb x.due deadline other))
        | inl same ↦
            let h = subst Growing (x.longer (deadlines_of j es)) g in
            let below = subst (λ y. AllByRecursion (λ d. d < y) (deadlines_of j es)) same h.0 in
            omega (arith, x.brings deadline, one_if_most (eqb x.due deadline), born_absent (λ n. 1) j es deadline (other_than (λ n. 1) j deadline (deadlines_of j es) below))
      ]
    ]
