-- Bags of jobs: sums over them, their order by deadline, and what a closed slot takes from them. Of the order of jobs only its
-- laws are used.
use Rattle.std.proofs.Common.{◌≡◌, ℕ, ◌+◌, ◌<◌, ◌≤◌, Bool, true, false, cond, leb, ◌⊎◌, List, [], ◌∷◌, length, if◌then◌else◌, sym, refl, ap, ◌∙◌, subst, inl, inr, arith}
use Rattle.std.specs.List.{AllByRecursion}
use Rattle.std.proofs.lemmas.Bool.{cases_Bool, cases_lt, le-leb, lt-leb}
use Rattle.pile.proofs.Inserting.{insert_past, insert_here, insert_none}
use Rattle.queue.specs.declared.job.Job.{Job}
use Rattle.queue.specs.Jobs.{sooner, put_job, lowered}
use Rattle.queue.specs.JobOrder.{sooner_total, sooner_due}
use Rattle.admission.specs.Sums.{sum_of}
use Rattle.machine.specs.declared.call.Outcome.{Outcome}
use Rattle.machine.specs.declared.call.Outcome.TheVariants.{Used, Finished}
use Rattle.machine.specs.Machine.{put_all, worked}
use Rattle.machine.specs.History.{is_finish}
use Rattle.sheet.proofs.Each.{each_weaker}

-- a test counted as a number
abbrev pub one_if : Bool → ℕ
one_if b = if b then 1 else 0

pub one_if_most : (b : Bool) → one_if b ≤ 1
one_if_most b = grind arith

-- PUTTING

-- where a job is put: in front of the list, or behind its head
put_ways : (job first : Job) (jobs : List Job) →
    ((sooner first job ≡ true) × (put_job job (first ∷ jobs) ≡ first ∷ put_job job jobs)) ⊎ ((sooner first job ≡ false) × (put_job job (first ∷ jobs) ≡ job ∷ first ∷ jobs))
put_ways job first jobs = elim (cases_Bool (sooner first job)) [
  | inl e ↦ inl (e, insert_past sooner job first jobs e)
  | inr e ↦ inr (e, insert_here sooner job first jobs e)
]

pub sum_put : (f : Job → ℕ) (job : Job) (jobs : List Job) → sum_of f (put_job job jobs) ≡ f job + sum_of f jobs
sum_put f job [] = ap (sum_of f) (insert_none sooner job)
sum_put f job (first ∷ jobs) = elim (put_ways job first jobs) [
  | inl w ↦ omega (arith, ap (sum_of f) w.1, sum_put f job jobs)
  | inr w ↦ ap (sum_of f) w.1
]

pub all_put : (P : Job → Type 0) (job : Job) (jobs : List Job) → P job → AllByRecursion P jobs → AllByRecursion P (put_job job jobs)
all_put P job [] p h = subst (AllByRecursion P) (sym (insert_none sooner job)) (p, tt)
all_put P job (first ∷ jobs) p h = elim (put_ways job first jobs) [
  | inl w ↦ subst (AllByRecursion P) (sym w.1) (h.0, all_put P job jobs p h.1)
  | inr w ↦ subst (AllByRecursion P) (sym w.1) (p, h)
]

pub sum_put_all : (f : Job → ℕ) (jobs bag : List Job) → sum_of f (put_all jobs bag) ≡ sum_of f jobs + sum_of f bag
unfolding put_all
sum_put_all f [] bag = omega arith
sum_put_all f (job ∷ jobs) bag = omega (arith, sum_put f job (put_all jobs bag), sum_put_all f jobs bag)

pub all_put_all : (P : Job → Type 0) (jobs bag : List Job) → AllByRecursion P jobs → AllByRecursion P bag → AllByRecursion P (put_all jobs bag)
unfolding put_all
all_put_all P [] bag d e = e
all_put_all P (job ∷ jobs) bag d e = all_put P job (put_all jobs bag) d.0 (all_put_all P jobs bag d.1 e)

-- a bag's length is a sum
pub length_is_sum : (jobs : List Job) → length jobs ≡ sum_of (λ (job : Job). 1) jobs
length_is_sum [] = refl
length_is_sum (job ∷ jobs) = omega (arith, length_is_sum jobs)

-- THE ORDER BY DEADLINE

-- what does not run sooner is due no sooner
not_sooner_due : (x y : Job) → sooner x y ≡ false → y.deadline ≤ x.deadline
not_sooner_due x y h = elim (cases_Bool (sooner y x)) [
  | inl e ↦ sooner_due y x e
  | inr e ↦ omega (arith, ap (λ (job : Job). job.deadline) (sooner_total.same x y h e))
]

-- no job is due before one in front of it
abbrev pub Rising : List Job → Type 0
Rising [] = Unit {0}
Rising (job ∷ jobs) = AllByRecursion (λ later. job.deadline ≤ later.deadline) jobs × Rising jobs

pub rising_put : (job : Job) (jobs : List Job) → Rising jobs → Rising (put_job job jobs)
rising_put job [] r = subst Rising (sym (insert_none sooner job)) (tt, tt)
rising_put job (first ∷ jobs) r = elim (put_ways job first jobs) [
  | inl w ↦
      subst Rising (sym w.1) (all_put (λ later. first.deadline ≤ later.deadline) job jobs (sooner_due first job w.0) r.0, rising_put job jobs r.1)
  | inr w ↦
      let h = not_sooner_due first job w.0 in
      subst Rising (sym w.1) ((h, each_weaker (λ later. first.deadline ≤ later.deadline) (λ later. job.deadline ≤ later.deadline) (λ later l. omega arith) jobs r.0), r)
]

pub rising_put_all : (jobs bag : List Job) → Rising bag → Rising (put_all jobs bag)
unfolding put_all
rising_put_all [] bag r = r
rising_put_all (job ∷ jobs) bag r = rising_put job (put_all jobs bag) (rising_put_all jobs bag r)

-- A REPORT

-- the first job leaves, since it is finished or had its last slot; or it stays with a slot less
pub record Leaves (outcome : Outcome) (job : Job) (jobs : List Job) : Type 0 where
  pub is : worked outcome (job ∷ jobs) ≡ jobs
  pub why : (is_finish outcome ≡ true) ⊎ (job.left ≤ 1)

pub record Stays (outcome : Outcome) (job : Job) (jobs : List Job) : Type 0 where
  pub is : worked outcome (job ∷ jobs) ≡ lowered job ∷ jobs
  pub unfinished : is_finish outcome ≡ false
  pub more : 1 < job.left

pub work_ways : (outcome : Outcome) (job : Job) (jobs : List Job) → Leaves outcome job jobs ⊎ Stays outcome job jobs
work_ways Finished job jobs = inl (record { is = refl; why = inl refl })
work_ways Used job jobs = elim (cases_lt 1 job.left) [
  | inl more ↦ inr (record { is = ap (λ b. cond b jobs (lowered job ∷ jobs)) (lt-leb job.left 1 more); unfinished = refl; more = more })
  | inr last ↦ inl (record { is = ap (λ b. cond b jobs (lowered job ∷ jobs)) (le-leb job.left 1 last); why = inr last })
]

-- what holds of jobs by owner and deadline alone holds after a report
pub all_worked : (P : Job → Type 0) → ((job : Job) → P job → P (lowered job)) → (outcome : Outcome) (jobs : List Job) → AllByRecursion P jobs → AllByRecursion P (worked outcome jobs)
all_worked P f Used [] h = tt
all_worked P f Finished [] h = tt
all_worked P f outcome (job ∷ jobs) h = elim (work_ways outcome job jobs) [
  | inl w ↦ subst (AllByRecursion P) (sym w.is) h.1
  | inr w ↦ subst (AllByRecursion P) (sym w.is) (f job h.0, h.1)
]

pub rising_worked : (outcome : Outcome) (jobs : List Job) → Rising jobs → Rising (worked outcome jobs)
rising_worked Used [] r = tt
rising_worked Finished [] r = tt
rising_worked outcome (job ∷ jobs) r = elim (work_ways outcome job jobs) [
  | inl w ↦ subst Rising (sym w.is) r.1
  | inr w ↦ subst Rising (sym w.is) r
]

-- every job has a slot left
abbrev pub Positive : List Job → Type 0
Positive jobs = AllByRecursion (λ job. 1 ≤ job.left) jobs

pub positive_worked : (outcome : Outcome) (jobs : List Job) → Positive jobs → Positive (worked outcome jobs)
positive_worked Used [] r = tt
positive_worked Finished [] r = tt
positive_worked outcome (job ∷ jobs) r = elim (work_ways outcome job jobs) [
  | inl w ↦ subst Positive (sym w.is) r.1
  | inr w ↦ let m = w.more in subst Positive (sym w.is) (omega arith, r.1)
]

-- a sum that a slot less does not raise falls with a report
pub sum_worked : (f : Job → ℕ) → ((job : Job) → f (lowered job) ≤ f job) → (outcome : Outcome) (jobs : List Job) → sum_of f (worked outcome jobs) ≤ sum_of f jobs
sum_worked f h Used [] = omega arith
sum_worked f h Finished [] = omega arith
sum_worked f h outcome (job ∷ jobs) = elim (work_ways outcome job jobs) [
  | inl w ↦ omega (arith, ap (sum_of f) w.is)
  | inr w ↦ omega (arith, ap (sum_of f) w.is, h job)
]

-- WORK

-- the slots left of the jobs that are due by x
abbrev pub left_by : ℕ → Job → ℕ
left_by x job = if leb job.deadline x then job.left else 0

abbrev pub work : ℕ → List Job → ℕ
work x jobs = sum_of (left_by x) jobs

pub left_due : (x : ℕ) (job : Job) → job.deadline ≤ x → left_by x job ≡ job.left
left_due x job h = ap (λ b. cond b job.left 0) (le-leb job.deadline x h)

pub left_later : (x : ℕ) (job : Job) → x < job.deadline → left_by x job ≡ 0
left_later x job h = ap (λ b. cond b job.left 0) (lt-leb job.deadline x h)

-- no work is due by x if every job is due later, and the other way round
no_work : (x : ℕ) (jobs : List Job) → AllByRecursion (λ job. x < job.deadline) jobs → work x jobs ≡ 0
no_work x [] h = refl
no_work x (job ∷ jobs) h = omega (arith, left_later x job h.0, no_work x jobs h.1)

pub all_later : (x : ℕ) (jobs : List Job) → Positive jobs → work x jobs ≡ 0 → AllByRecursion (λ job. x < job.deadline) jobs
all_later x [] p e = tt
all_later x (job ∷ jobs) p e = (elim (cases_lt x job.deadline) [ inl l ↦ l | inr l ↦ absurd (let q = p.0 in omega (arith, left_due x job l)) ], all_later x jobs p.1 (omega arith))

-- EARLIEST DEADLINE FIRST: a closed slot takes one from the work that is due by x, or none of it is left
pub worked_serves : (x : ℕ) (outcome : Outcome) (jobs : List Job) → Positive jobs → Rising jobs → (work x (worked outcome jobs) + 1 ≤ work x jobs) ⊎ (work x (worked outcome jobs) ≡ 0)
worked_serves x Used [] p r = inr refl
worked_serves x Finished [] p r = inr refl
worked_serves x outcome (job ∷ jobs) p r = go (cases_lt x job.deadline) (work_ways outcome job jobs)
  where
    go : (x < job.deadline) ⊎ (job.deadline ≤ x) → Leaves outcome job jobs ⊎ Stays outcome job jobs →
        (work x (worked outcome (job ∷ jobs)) + 1 ≤ work x (job ∷ jobs)) ⊎ (work x (worked outcome (job ∷ jobs)) ≡ 0)
    go (inl h) w =
        let later : AllByRecursion (λ other. x < other.deadline) jobs = each_weaker (λ other. job.deadline ≤ other.deadline) (λ other. x < other.deadline) (λ other l. omega arith) jobs r.0 in
        inr (elim w [ inl l ↦ ap (work x) l.is ∙ no_work x jobs later | inr s ↦ ap (work x) s.is ∙ no_work x (lowered job ∷ jobs) (h, later) ])
    go (inr h) (inl l) = let q = p.0 in inl (omega (arith, ap (work x) l.is, left_due x job h))
    go (inr h) (inr s) = let m = s.more in inl (omega (arith, ap (work x) s.is, left_due x job h, left_due x (lowered job) h))
