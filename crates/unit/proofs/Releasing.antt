-- The releases that are due are taken from the pile one by one. What is left to put, and what the pile is to hold in the
-- end, is gathered from the pile without regard to its order, so it is the same at each step.
use Rattle.std.proofs.Common.{◌≡◌, ℕ, suc, ◌+◌, ◌<◌, ◌≤◌, Bool, true, false, cond, eqb, ◌⊎◌, inl, inr, List, [], ◌∷◌, Some, None, Option, if◌then◌else◌, map, length, get_or, sym, refl, ap, ◌∙◌, subst, arith}
use Rattle.std.specs.List.{AllByRecursion}
use Rattle.std.proofs.lemmas.Bool.{cases_Bool, and_parts, cond_both, cond-true, cond-false, eqb-true, eqb-false, eq-eqb, ne_eqb}
use Rattle.std.proofs.lemmas.Bool.Decides.{nat_tests}
use Rattle.pile.specs.Sorted.{insert, sorted, without_first}
use Rattle.pile.proofs.Inserting.{length_insert, insert_none, insert_past, insert_here, sorted_none, sorted_cons}
use Rattle.pile.proofs.Sorting.{insert_comm, sorted_sorted}
use Rattle.sheet.proofs.Each.{each_at, each_weaker}
use Rattle.sheet.specs.Limits.{longest_span}
use Rattle.queue.specs.declared.job.Job.{Job}
use Rattle.queue.specs.Jobs.{sooner, put_job}
use Rattle.queue.specs.JobOrder.{sooner_total}
use Rattle.admission.specs.declared.table.Poll.{Poll}
use Rattle.admission.specs.declared.table.Table.{Table}
use Rattle.admission.specs.Contents.{contents}
use Rattle.std.specs.List.{list_all}
use Rattle.admission.specs.Limits.{poll_fits}
use Rattle.machine.specs.Machine.{put_all}
use Rattle.machine.specs.Polls.{is_released, poll_job, jobs_at}
use Rattle.machine.proofs.Releases.{no_poll}
use Rattle.unit.specs.declared.releases.Release.{Release}
use Rattle.unit.specs.ReleaseOrder.{earlier, earlier_total}
use Rattle.unit.specs.Releases.{next_release, next_releases, due_count, first_due, InStep}
use Rattle.unit.proofs.Folds.{gather_insert, gather_sorted, each_insert, each_sorted}
use Rattle.unit.proofs.NextRelease.{next_from, comes_now}

-- EACH RELEASE: its poll, whether it is due, its job, and where its poll stands afterwards

abbrev poll_of : List Poll → Release → Poll
poll_of polls release = get_or polls release.poll no_poll

abbrev is_due : ℕ → Release → Bool
is_due slot release = eqb release.slot slot

abbrev job_of : List Poll → ℕ → Release → Job
job_of polls slot release = poll_job slot release.poll (poll_of polls release)

abbrev pub after_it : List Poll → ℕ → Release → Release
after_it polls slot release = record { slot = slot + (poll_of polls release).period; poll = release.poll }

abbrev one : ℕ → Release → ℕ
one slot release = if is_due slot release then 1 else 0

-- WHAT IS GATHERED

-- the bag with the jobs that are due
abbrev putting : List Poll → ℕ → Release → List Job → List Job
putting polls slot release bag = if is_due slot release then put_job (job_of polls slot release) bag else bag

abbrev put_due : List Poll → ℕ → List Job → List Release → List Job
put_due polls slot bag [] = bag
put_due polls slot bag (release ∷ releases) = putting polls slot release (put_due polls slot bag releases)

-- the releases, in order, once the due ones are moved on
abbrev moved_on : List Poll → ℕ → Release → Release
moved_on polls slot release = if is_due slot release then after_it polls slot release else release

abbrev moved : List Poll → ℕ → List Release → List Release
moved polls slot releases = sorted earlier (map (moved_on polls slot) releases)

putting_apart : (polls : List Poll) (slot : ℕ) (x y : Release) (bag : List Job) → putting polls slot x (putting polls slot y bag) ≡ putting polls slot y (putting polls slot x bag)
putting_apart polls slot x y bag = by (is_due slot x) (is_due slot y)
  where
    by : (a b : Bool) →
        cond a (put_job (job_of polls slot x) (cond b (put_job (job_of polls slot y) bag) bag)) (cond b (put_job (job_of polls slot y) bag) bag)
        ≡ cond b (put_job (job_of polls slot y) (cond a (put_job (job_of polls slot x) bag) bag)) (cond a (put_job (job_of polls slot x) bag) bag)
    by true true = insert_comm sooner sooner_total (job_of polls slot x) (job_of polls slot y) bag
    by true false = refl
    by false true = refl
    by false false = refl

put_due_insert : (polls : List Poll) (slot : ℕ) (bag : List Job) (x : Release) (ys : List Release) → put_due polls slot bag (insert earlier x ys) ≡ putting polls slot x (put_due polls slot bag ys)
put_due_insert polls slot bag = gather_insert earlier (put_due polls slot bag) (putting polls slot) (λ x xs. refl) (putting_apart polls slot)

put_due_sorted : (polls : List Poll) (slot : ℕ) (bag : List Job) (xs : List Release) → put_due polls slot bag (sorted earlier xs) ≡ put_due polls slot bag xs
put_due_sorted polls slot bag = gather_sorted earlier (put_due polls slot bag) (putting polls slot) (λ x xs. refl) (putting_apart polls slot)

moved_insert : (polls : List Poll) (slot : ℕ) (x : Release) (ys : List Release) → moved polls slot (insert earlier x ys) ≡ insert earlier (moved_on polls slot x) (moved polls slot ys)
moved_insert polls slot = gather_insert earlier (moved polls slot) (λ x. insert earlier (moved_on polls slot x)) (λ x xs. sorted_cons earlier (moved_on polls slot x) (map (moved_on polls slot) xs)) (λ x y. insert_comm earlier earlier_total (moved_on polls slot x) (moved_on polls slot y))

moved_sorted : (polls : List Poll) (slot : ℕ) (xs : List Release) → moved polls slot (sorted earlier xs) ≡ moved polls slot xs
moved_sorted polls slot = gather_sorted earlier (moved polls slot) (λ x. insert earlier (moved_on polls slot x)) (λ x xs. sorted_cons earlier (moved_on polls slot x) (map (moved_on polls slot) xs)) (λ x y. insert_comm earlier earlier_total (moved_on polls slot x) (moved_on polls slot y))

pub due_insert : (slot : ℕ) (x : Release) (ys : List Release) → due_count slot (insert earlier x ys) ≡ one slot x + due_count slot ys
due_insert slot = gather_insert earlier (due_count slot) (λ x n. one slot x + n) (λ x xs. refl) (λ x y n. omega arith)

pub due_sorted : (slot : ℕ) (xs : List Release) → due_count slot (sorted earlier xs) ≡ due_count slot xs
due_sorted slot = gather_sorted earlier (due_count slot) (λ x n. one slot x + n) (λ x xs. refl) (λ x y n. omega arith)

-- a job more may be put before the due ones or after them
put_due_more : (polls : List Poll) (slot : ℕ) (job : Job) (bag : List Job) (xs : List Release) → put_due polls slot (put_job job bag) xs ≡ put_job job (put_due polls slot bag xs)
put_due_more polls slot job bag [] = refl
put_due_more polls slot job bag (x ∷ xs) = by (put_due_more polls slot job bag xs) (is_due slot x)
  where
    by : put_due polls slot (put_job job bag) xs ≡ put_job job (put_due polls slot bag xs) → (b : Bool) →
        cond b (put_job (job_of polls slot x) (put_due polls slot (put_job job bag) xs)) (put_due polls slot (put_job job bag) xs)
        ≡ put_job job (cond b (put_job (job_of polls slot x) (put_due polls slot bag xs)) (put_due polls slot bag xs))
    by h true = ap (put_job (job_of polls slot x)) h ∙ insert_comm sooner sooner_total (job_of polls slot x) job (put_due polls slot bag xs)
    by h false = h

-- IN STEP: of releases that are in step with the polls, those due are the jobs of the slot, and the others stay

-- each poll has a period
abbrev pub Timed : List Poll → Type 0
Timed polls = AllByRecursion (λ poll. 1 ≤ poll.period) polls

-- these polls are numbered from i on among all
abbrev Numbered : List Poll → ℕ → List Poll → Type 0
Numbered all i polls = (k : ℕ) → get_or all (i + k) no_poll ≡ get_or polls k no_poll

further : (all : List Poll) (i : ℕ) (poll : Poll) (polls : List Poll) → Numbered all i (poll ∷ polls) → Numbered all (suc i) polls
further all i poll polls h k = let e : suc i + k ≡ i + suc k = omega arith in ap (λ n. get_or all n no_poll) e ∙ h (suc k)

here : (all : List Poll) (i : ℕ) (poll : Poll) (polls : List Poll) → Numbered all i (poll ∷ polls) → get_or all i no_poll ≡ poll
here all i poll polls h = let e : i ≡ i + 0 = omega arith in ap (λ n. get_or all n no_poll) e ∙ h 0

put_due_all : (all : List Poll) (slot i : ℕ) (bag : List Job) (polls : List Poll) → Numbered all i polls → Timed polls → put_due all slot bag (next_releases slot i polls) ≡ put_all (jobs_at slot i polls) bag
unfolding next_releases jobs_at put_all
put_due_all all slot i bag [] h t = refl
put_due_all all slot i bag (poll ∷ polls) h t =
    by (put_due_all all slot (suc i) bag polls (further all i poll polls h) t.1) (here all i poll polls h) (comes_now poll t.0 slot) (is_released slot poll)
  where
    rest : List Job
    rest = put_due all slot bag (next_releases slot (suc i) polls)

    jobs : List Job
    jobs = jobs_at slot (suc i) polls

    made : rest ≡ put_all jobs bag → get_or all i no_poll ≡ poll → (b : Bool) →
        cond b (put_job (poll_job slot i (get_or all i no_poll)) rest) rest ≡ put_all (cond b (poll_job slot i poll ∷ jobs) jobs) bag
    made r e true = ap (λ p. put_job (poll_job slot i p) rest) e ∙ ap (put_job (poll_job slot i poll)) r
    made r e false = r

    by : rest ≡ put_all jobs bag → get_or all i no_poll ≡ poll → eqb (next_release slot poll) slot ≡ is_released slot poll → (b : Bool) →
        cond (eqb (next_release slot poll) slot) (put_job (poll_job slot i (get_or all i no_poll)) rest) rest ≡ put_all (cond (is_released slot poll) (poll_job slot i poll ∷ jobs) jobs) bag
    by r e n b = ap (λ c. cond c (put_job (poll_job slot i (get_or all i no_poll)) rest) rest) n ∙ made r e (is_released slot poll)

moved_all : (all : List Poll) (slot i : ℕ) (polls : List Poll) → Numbered all i polls → map (moved_on all slot) (next_releases slot i polls) ≡ next_releases (suc slot) i polls
unfolding next_releases next_release
moved_all all slot i [] h = refl
moved_all all slot i (poll ∷ polls) h =
    by (moved_all all slot (suc i) polls (further all i poll polls h)) (here all i poll polls h) (eqb (next_release slot poll) slot)
  where
    by : map (moved_on all slot) (next_releases slot (suc i) polls) ≡ next_releases (suc slot) (suc i) polls → get_or all i no_poll ≡ poll → (b : Bool) →
        cond b (record { slot = slot + (get_or all i no_poll).period; poll = i }) (record { slot = next_release slot poll; poll = i }) ∷ map (moved_on all slot) (next_releases slot (suc i) polls)
        ≡ record { slot = cond b (slot + poll.period) (next_release slot poll); poll = i } ∷ next_releases (suc slot) (suc i) polls
    by r e true = λ k. record { slot = slot + (e k).period; poll = i } ∷ r k
    by r e false = λ k. record { slot = next_release slot poll; poll = i } ∷ r k

due_all : (slot i : ℕ) (polls : List Poll) → Timed polls → due_count slot (next_releases slot i polls) ≡ length (jobs_at slot i polls)
unfolding next_releases jobs_at
due_all slot i [] t = refl
due_all slot i (poll ∷ polls) t = by (due_all slot (suc i) polls t.1) (comes_now poll t.0 slot) (is_released slot poll)
  where
    jobs : List Job
    jobs = jobs_at slot (suc i) polls

    rest : ℕ
    rest = due_count slot (next_releases slot (suc i) polls)

    made : rest ≡ length jobs → (b : Bool) → cond b 1 0 + rest ≡ length (cond b (poll_job slot i poll ∷ jobs) jobs)
    made r true = omega arith
    made r false = omega arith

    by : rest ≡ length jobs → eqb (next_release slot poll) slot ≡ is_released slot poll → (b : Bool) →
        cond (eqb (next_release slot poll) slot) 1 0 + rest ≡ length (cond (is_released slot poll) (poll_job slot i poll ∷ jobs) jobs)
    by r n b = ap (λ c. cond c 1 0 + rest) n ∙ made r (is_released slot poll)

-- never more are due than there are
pub due_most : (slot : ℕ) (releases : List Release) → due_count slot releases ≤ length releases
due_most slot [] = omega arith
due_most slot (release ∷ releases) = let rest = due_most slot releases in cond_both (is_due slot release) 1 0 (λ n. n + due_count slot releases ≤ suc (length releases)) (λ _. omega arith) (λ _. omega arith)

-- each of them is of a poll, and does not come before the slot
abbrev pub Known : ℕ → ℕ → Release → Type 0
Known slot count release = (slot ≤ release.slot) × (release.poll < count)

known_all : (slot i count : ℕ) (polls : List Poll) → Timed polls → i + length polls ≤ count → AllByRecursion (Known slot count) (next_releases slot i polls)
unfolding next_releases
known_all slot i count [] t l = tt
known_all slot i count (poll ∷ polls) t l = ((next_from poll t.0 slot, omega arith), known_all slot (suc i) count polls t.1 (omega arith))

-- THE STEPS. `all` is the bag that is to be in the end

pub record Left (polls : List Poll) (slot places : ℕ) (all : List Job) (releases : List Release) (bag : List Job) : Type 0 where
  pub puts : put_due polls slot bag releases ≡ all
  pub moves : moved polls slot releases ≡ sorted earlier (next_releases (suc slot) 0 polls)
  pub places_left : length bag + due_count slot releases ≤ places
  pub known : AllByRecursion (Known slot (length polls)) releases

pub due_in_step : (polls : List Poll) (slot : ℕ) (releases : List Release) → Timed polls → InStep releases polls slot → due_count slot releases ≡ length (jobs_at slot 0 polls)
due_in_step polls slot releases t e = ap (due_count slot) e ∙ due_sorted slot (next_releases slot 0 polls) ∙ due_all slot 0 polls t

numbered_all : (polls : List Poll) → Numbered polls 0 polls
numbered_all polls k = let e : 0 + k ≡ k = omega arith in ap (λ n. get_or polls n no_poll) e

pub begins : (polls : List Poll) (slot places : ℕ) (releases : List Release) (bag : List Job) → Timed polls → InStep releases polls slot → length bag + length (jobs_at slot 0 polls) ≤ places →
    Left polls slot places (put_all (jobs_at slot 0 polls) bag) releases bag
begins polls slot places releases bag t e room = record {
  puts = ap (put_due polls slot bag) e ∙ put_due_sorted polls slot bag (next_releases slot 0 polls) ∙ put_due_all polls slot 0 bag polls (numbered_all polls) t;
  moves = ap (moved polls slot) e ∙ moved_sorted polls slot (next_releases slot 0 polls) ∙ ap (sorted earlier) (moved_all polls slot 0 polls (numbered_all polls));
  places_left = let n = due_in_step polls slot releases t e in omega arith;
  known = subst (AllByRecursion (Known slot (length polls))) (sym e) (each_sorted earlier (Known slot (length polls)) (next_releases slot 0 polls) (known_all slot 0 (length polls) polls t (omega arith)));
}

-- the first is due: its job is put, and it is moved on
pub goes_on : (polls : List Poll) (slot places : ℕ) (all : List Job) (release : Release) (releases : List Release) (bag : List Job) → 1 ≤ (get_or polls release.poll no_poll).period → release.slot ≡ slot →
    Left polls slot places all (release ∷ releases) bag → Left polls slot places all (insert earlier (after_it polls slot release) releases) (put_job (poll_job slot release.poll (get_or polls release.poll no_poll)) bag)
goes_on polls slot places all release releases bag p now left =
    let job = job_of polls slot release in
    let later = after_it polls slot release in
    let due : is_due slot release ≡ true = eq-eqb release.slot slot now in
    let gone : is_due slot later ≡ false = ne_eqb later.slot slot (λ same. omega arith) in
    let put : put_due polls slot bag (release ∷ releases) ≡ put_job job (put_due polls slot bag releases) = cond-true (is_due slot release) _ _ due in
    let more : put_due polls slot (put_job job bag) (insert earlier later releases) ≡ put_due polls slot (put_job job bag) releases = put_due_insert polls slot (put_job job bag) later releases ∙ cond-false (is_due slot later) _ _ gone in
    let one_due : one slot release ≡ 1 = cond-true (is_due slot release) 1 0 due in
    let none_due : one slot later ≡ 0 = cond-false (is_due slot later) 1 0 gone in
    let longer : length (put_job job bag) ≡ length bag + 1 = length_insert sooner job bag in
    let fewer = due_insert slot later releases in
    let room = left.places_left in
    record {
      puts = more ∙ put_due_more polls slot job bag releases ∙ sym put ∙ left.puts;
      moves =
          moved_insert polls slot later releases
          ∙ ap (λ r. insert earlier r (moved polls slot releases)) (cond-false (is_due slot later) (after_it polls slot later) later gone ∙ sym (cond-true (is_due slot release) later release due))
          ∙ sym (sorted_cons earlier (moved_on polls slot release) (map (moved_on polls slot) releases)) ∙ left.moves;
      places_left = omega arith;
      known = each_insert earlier (Known slot (length polls)) later releases (omega arith, left.known.0.1) left.known.1;
    }

-- NONE IS DUE: all is done

-- each of a list that is in order, the first at most as late as any
abbrev Rising : List Release → Type 0
Rising [] = Unit {0}
Rising (release ∷ releases) = AllByRecursion (λ later. release.slot ≤ later.slot) releases × Rising releases

sooner_slot : (x y : Release) → earlier x y ≡ true → x.slot ≤ y.slot
unfolding earlier
sooner_slot x y h = grind (arith, nat_tests)

later_slot : (x y : Release) → earlier x y ≡ false → y.slot ≤ x.slot
unfolding earlier
later_slot x y h = grind (arith, nat_tests)

rising_insert : (x : Release) (ys : List Release) → Rising ys → Rising (insert earlier x ys)
rising_insert x [] r = subst Rising (sym (insert_none earlier x)) (tt, tt)
rising_insert x (y ∷ ys) r = by (rising_insert x ys r.1) (cases_Bool (earlier y x))
  where
    by : Rising (insert earlier x ys) → (earlier y x ≡ true) ⊎ (earlier y x ≡ false) → Rising (insert earlier x (y ∷ ys))
    by h (inl e) = subst Rising (sym (insert_past earlier x y ys e)) (each_insert earlier (λ later. y.slot ≤ later.slot) x ys (sooner_slot y x e) r.0, h)
    by h (inr e) =
        let l = later_slot y x e in
        subst Rising (sym (insert_here earlier x y ys e)) ((l, each_weaker (λ later. y.slot ≤ later.slot) (λ later. x.slot ≤ later.slot) (λ later m. omega arith) ys r.0), r)

rising_sorted : (xs : List Release) → Rising (sorted earlier xs)
rising_sorted [] = subst Rising (sym (sorted_none earlier)) tt
rising_sorted (x ∷ xs) = subst Rising (sym (sorted_cons earlier x xs)) (rising_insert x (sorted earlier xs) (rising_sorted xs))

-- none is due
abbrev NoneDue : ℕ → List Release → Type 0
NoneDue slot releases = AllByRecursion (λ release. is_due slot release ≡ false) releases

none_put : (polls : List Poll) (slot : ℕ) (bag : List Job) (releases : List Release) → NoneDue slot releases → put_due polls slot bag releases ≡ bag
none_put polls slot bag [] h = refl
none_put polls slot bag (release ∷ releases) h = cond-false (is_due slot release) _ _ h.0 ∙ none_put polls slot bag releases h.1

none_moved : (polls : List Poll) (slot : ℕ) (releases : List Release) → NoneDue slot releases → map (moved_on polls slot) releases ≡ releases
none_moved polls slot [] h = refl
none_moved polls slot (release ∷ releases) h =
    let e : moved_on polls slot release ≡ release = cond-false (is_due slot release) (after_it polls slot release) release h.0 in
    let r = none_moved polls slot releases h.1 in
    (λ k. e k ∷ r k)

-- the first is not due, and none comes before it
none_by : (slot count : ℕ) (releases : List Release) → first_due slot releases ≡ None → Rising releases → AllByRecursion (Known slot count) releases → NoneDue slot releases
none_by slot count [] e r k = tt
none_by slot count (release ∷ releases) e r k = by (cases_Bool (is_due slot release))
  where
    by : (is_due slot release ≡ true) ⊎ (is_due slot release ≡ false) → NoneDue slot (release ∷ releases)
    by (inl due) = absurd (let z : ◌≡◌ {A = Option ℕ} (Some release.poll) None = sym (cond-true (is_due slot release) (Some release.poll) None due) ∙ e in let y : ◌≡◌ {A = ℕ} 0 1 = cc in omega arith)
    by (inr d) =
        let ne = eqb-false release.slot slot d in
        let from = k.0.0 in
        (d, each_weaker (λ later. release.slot ≤ later.slot) (λ later. is_due slot later ≡ false) (λ later l. ne_eqb later.slot slot (λ same. ne (omega arith))) releases r.0)

pub record Done (polls : List Poll) (slot : ℕ) (all : List Job) (releases : List Release) (bag : List Job) : Type 0 where
  pub puts : bag ≡ all
  pub in_step : InStep releases polls (suc slot)

pub ends : (polls : List Poll) (slot places : ℕ) (all : List Job) (xs : List Release) (bag : List Job) (o : Option ℕ) → o ≡ first_due slot (sorted earlier xs) → o ≡ None → Left polls slot places all (sorted earlier xs) bag → Done polls slot all (sorted earlier xs) bag
ends polls slot places all xs bag o read none left =
    let free = none_by slot (length polls) (sorted earlier xs) (sym read ∙ none) (rising_sorted xs) left.known in
    record {
      puts = sym (none_put polls slot bag (sorted earlier xs) free) ∙ left.puts;
      in_step = sym (sorted_sorted earlier earlier_total xs) ∙ ap (sorted earlier) (sym (none_moved polls slot (sorted earlier xs) free)) ∙ left.moves;
    }

-- A TURN of the loop

first_by : (slot p : ℕ) (release : Release) (releases : List Release) → cond (is_due slot release) (Some release.poll) None ≡ Some p → (release.slot ≡ slot) × (release.poll ≡ p)
first_by slot p release releases e = by (cases_Bool (is_due slot release))
  where
    by : (is_due slot release ≡ true) ⊎ (is_due slot release ≡ false) → (release.slot ≡ slot) × (release.poll ≡ p)
    by (inl due) =
        let some : Some release.poll ≡ Some p = sym (cond-true (is_due slot release) (Some release.poll) None due) ∙ e in
        (eqb-true release.slot slot due, (let same : release.poll ≡ p = cc in same))
    by (inr not) =
        let none : ◌≡◌ {A = Option ℕ} None (Some p) = sym (cond-false (is_due slot release) (Some release.poll) None not) ∙ e in
        absurd (let z : ◌≡◌ {A = ℕ} 0 1 = cc in omega arith)

-- a turn finds the poll in the table, has a place for its job, and leaves fewer due
pub record Turned (polls : List Poll) (slot places : ℕ) (all : List Job) (releases : List Release) (bag : List Job) (p : ℕ) : Type 0 where
  pub known : p < length polls
  pub some : 0 < length releases
  pub place : length bag < places
  pub next : (poll : Poll) → get_or polls p no_poll ≡ poll → Left polls slot places all (insert earlier (record { slot = slot + poll.period; poll = p }) (without_first releases)) (put_job (poll_job slot p poll) bag)
  pub fewer : (poll : Poll) → get_or polls p no_poll ≡ poll → due_count slot (insert earlier (record { slot = slot + poll.period; poll = p }) (without_first releases)) < due_count slot releases

turns_by : (polls : List Poll) (slot places : ℕ) (all : List Job) (releases : List Release) (bag : List Job) (p : ℕ) → Timed polls → first_due slot releases ≡ Some p → Left polls slot places all releases bag → Turned polls slot places all releases bag p
turns_by polls slot places all [] bag p t e left = absurd (let z : ◌≡◌ {A = ℕ} 0 1 = cc in omega arith)
turns_by polls slot places all (release ∷ releases) bag p t e left =
    let at = first_by slot p release releases e in
    let known : p < length polls = (let k = left.known.0.1 in let q = at.1 in omega arith) in
    let due : one slot release ≡ 1 = cond-true (is_due slot release) 1 0 (eq-eqb release.slot slot at.0) in
    let period : 1 ≤ (get_or polls p no_poll).period = each_at (λ poll. 1 ≤ poll.period) polls p no_poll known t in
    let room = left.places_left in
    record {
      known = known;
      some = omega arith;
      place = omega arith;
      next = λ poll is.
          let period' : 1 ≤ (get_or polls release.poll no_poll).period = subst (λ n. 1 ≤ (get_or polls n no_poll).period) (sym at.1) period in
          let here : get_or polls release.poll no_poll ≡ poll = ap (λ n. get_or polls n no_poll) at.1 ∙ is in
          let step = goes_on polls slot places all release releases bag period' at.0 left in
          let job : poll_job slot release.poll (get_or polls release.poll no_poll) ≡ poll_job slot p poll = (λ i. poll_job slot (at.1 i) (here i)) in
          let later : after_it polls slot release ≡ record { slot = slot + poll.period; poll = p } = (λ i. record { slot = slot + (here i).period; poll = at.1 i }) in
          let kept : (a : Release) (b : Job) → after_it polls slot release ≡ a → poll_job slot release.poll (get_or polls release.poll no_poll) ≡ b → Left polls slot places all (insert earlier a releases) (put_job b bag) =
          λ a b ha hb. subst (λ a'. Left polls slot places all (insert earlier a' releases) (put_job b bag)) ha (subst (λ b'. Left polls slot places all (insert earlier (after_it polls slot release) releases) (put_job b' bag)) hb step) in
          kept (record { slot = slot + poll.period; poll = p }) (poll_job slot p poll) later job;
      fewer = λ poll is.
          let long : 1 ≤ poll.period = subst (λ row. 1 ≤ row.period) is period in
          let n = due_insert slot (record { slot = slot + poll.period; poll = p }) releases in
          let gone : one slot (record { slot = slot + poll.period; poll = p }) ≡ 0 = cond-false (eqb (slot + poll.period) slot) 1 0 (ne_eqb (slot + poll.period) slot (λ same. omega arith)) in
          omega arith;
    }

pub turns : (polls : List Poll) (slot places : ℕ) (all : List Job) (releases : List Release) (bag : List Job) (p : ℕ) (o : Option ℕ) → Timed polls → o ≡ first_due slot releases → o ≡ Some p → Left polls slot places all releases bag → Turned polls slot places all releases bag p
turns polls slot places all releases bag p o t read some left = turns_by polls slot places all releases bag p t (sym read ∙ some) left

period_fits : (poll : Poll) → poll_fits poll ≡ true → 1 ≤ poll.period
period_fits poll h = grind (arith, nat_tests)

pub longest_period : (poll : Poll) → poll_fits poll ≡ true → poll.period ≤ longest_span
longest_period poll h = grind (arith, nat_tests)

timed_by : (polls : List Poll) → list_all poll_fits polls ≡ true → Timed polls
timed_by [] h = tt
timed_by (poll ∷ polls) h = let p = and_parts (poll_fits poll) (list_all poll_fits polls) h in (period_fits poll p.0, timed_by polls p.1)

pub timed : (table : Table) → Timed (contents table).polls
timed table = timed_by (contents table).polls table.polls_fit

pub same_left : (polls : List Poll) (slot places : ℕ) (all : List Job) (releases releases' : List Release) (bag bag' : List Job) → releases' ≡ releases → bag' ≡ bag → Left polls slot places all releases bag → Left polls slot places all releases' bag'
same_left polls slot places all releases releases' bag bag' r b left =
    subst (λ x. Left polls slot places all x bag') (sym r) (subst (λ y. Left polls slot places all releases y) (sym b) left)
