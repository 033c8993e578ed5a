-- NEVER FULL: each poll has at most one job in the bag, each lane at most eight, so there is always a place.
use Rattle.std.proofs.Common.{◌≢◌, ◌≡◌, ℕ, zero, suc, ◌+◌, ◌-◌, ◌*◌, ◌<◌, ◌≤◌, Bool, true, false, cond, ltb, ◌⊎◌, List, [], ◌∷◌, Err, length, get_or, Some, refl, ap, inl, inr, arith, length-take}
use Rattle.std.specs.List.{AllByRecursion}
use Rattle.std.proofs.lemmas.Bool.{cases_eq, le-ltb}
use Rattle.std.proofs.lemmas.Bool.Decides.{nat_tests}
use Rattle.queue.specs.declared.job.Job.{Job}
use Rattle.admission.specs.declared.table.Poll.{Poll}
use Rattle.admission.specs.Contents.{Contents}
use Rattle.admission.specs.Sums.{sum_of}
use Rattle.machine.specs.declared.call.Call.{Call}
use Rattle.machine.specs.declared.call.Outcome.{Outcome}
use Rattle.machine.specs.declared.call.Call.TheVariants.{Request, Grant, Report}
use Rattle.machine.specs.declared.refusal.Refusal.{Refusal}
use Rattle.machine.specs.Refusals.{refusal_number}
use Rattle.machine.specs.Limits.{most_ahead, first_lane}
use Rattle.machine.specs.Polls.{is_released, poll_job, jobs_at}
use Rattle.machine.specs.Lanes.{lane_owner, ahead}
use Rattle.machine.specs.Machine.{Setup, State, places_for, recent_at, released, refusal_of}
use Rattle.machine.specs.History.{Entry, after, record_of, deadlines_of}
use Rattle.machine.specs.Promises.{Opened, poll_at, HasPlace, NeverFull}
use Rattle.machine.proofs.Bags.{one_if, one_if_most}
use Rattle.machine.proofs.PollSource.{mark, mark_due}
use Rattle.machine.proofs.Along.{along}
use Rattle.machine.proofs.Basics.{poll_of, upto, upto_shut}
use Rattle.machine.proofs.NoneLate.{never_late}
use Rattle.machine.proofs.LaneDeadlines.{Remembered, remembered}
use Rattle.machine.proofs.Releases.{no_poll}
use Rattle.machine.proofs.Counts.{is_ahead, ahead_most, Owned, Counts, counts}

-- SUMS OVER OWNERS

-- the sum of f at k numbers from b on
abbrev sum_from : (ℕ → ℕ) → ℕ → ℕ → ℕ
sum_from f b zero = 0
sum_from f b (suc k) = f b + sum_from f (suc b) k

sum_add : (f g : ℕ → ℕ) (b k : ℕ) → sum_from (λ i. f i + g i) b k ≡ sum_from f b k + sum_from g b k
sum_add f g b zero = refl
sum_add f g b (suc k) = omega (arith, sum_add f g (suc b) k)

sum_has : (f : ℕ → ℕ) (b k i : ℕ) → b ≤ i → i < b + k → f i ≤ sum_from f b k
sum_has f b zero i l h = absurd (omega arith)
sum_has f b (suc k) i l h = go (sum_has f (suc b) k i) (cases_eq b i)
  where
    go : (suc b ≤ i → i < suc b + k → f i ≤ sum_from f (suc b) k) → (b ≡ i) ⊎ (b ≡ i → ⊥) → f i ≤ f b + sum_from f (suc b) k
    go r (inl e) = omega (arith, ap f e)
    go r (inr e) = omega (arith, r (omega arith) (omega arith))

sum_most : (f : ℕ → ℕ) (c b k : ℕ) → ((i : ℕ) → b ≤ i → i < b + k → f i ≤ c) → sum_from f b k ≤ c * k
sum_most f c b zero h = omega arith
sum_most f c b (suc k) h = omega (arith, h b (omega arith) (omega arith), sum_most f c (suc b) k (λ i l r. h i (omega arith) (omega arith)))

-- less than c each, where one is less
sum_less : (f : ℕ → ℕ) (c b k p : ℕ) → ((i : ℕ) → b ≤ i → i < b + k → f i ≤ c) → b ≤ p → p < b + k → f p < c → sum_from f b k < c * k
sum_less f c b zero p h l r s = absurd (omega arith)
sum_less f c b (suc k) p h l r s = go (λ l' r'. sum_less f c (suc b) k p (λ i x y. h i (omega arith) (omega arith)) l' r' s) (cases_eq b p)
  where
    go : (suc b ≤ p → p < suc b + k → sum_from f (suc b) k < c * k) → (b ≡ p) ⊎ (b ≡ p → ⊥) → f b + sum_from f (suc b) k < c * suc k
    go q (inl e) = omega (arith, ap f e, sum_most f c (suc b) k (λ i x y. h i (omega arith) (omega arith)))
    go q (inr e) = omega (arith, h b (omega arith) (omega arith), q (omega arith) (omega arith))

-- every job of the bag is counted with its owner
counted : (table : Contents) (n : ℕ) (jobs : List Job) → AllByRecursion (Owned table) jobs → AllByRecursion (λ job. n < job.deadline) jobs →
    length jobs ≤ sum_from (λ owner. sum_of (is_ahead owner n) jobs) 0 (length table.polls) + sum_from (λ owner. sum_of (is_ahead owner n) jobs) first_lane (length table.lanes)
counted table n [] o l = omega arith
counted table n (job ∷ jobs) o l =
    omega (
      arith,
      counted table n jobs o.1 l.1,
      one o.0,
      sum_add (λ owner. is_ahead owner n job) (λ owner. sum_of (is_ahead owner n) jobs) 0 (length table.polls),
      sum_add (λ owner. is_ahead owner n job) (λ owner. sum_of (is_ahead owner n) jobs) first_lane (length table.lanes),
    )
  where
    self : is_ahead job.owner n job ≡ 1
    self = let q : n < job.deadline = l.0 in grind (arith, nat_tests)

    one : Owned table job → 1 ≤ sum_from (λ owner. is_ahead owner n job) 0 (length table.polls) + sum_from (λ owner. is_ahead owner n job) first_lane (length table.lanes)
    one (inl h) = omega (arith, self, sum_has (λ owner. is_ahead owner n job) 0 (length table.polls) job.owner (omega arith) (omega arith))
    one (inr h) = omega (arith, self, sum_has (λ owner. is_ahead owner n job) first_lane (length table.lanes) job.owner h.0 h.1)

-- a poll that releases a job has none in the bag
releases_fit : (f : ℕ → ℕ) (polls : List Poll) (b n : ℕ) → ((i owner : ℕ) → i < length polls → owner ≡ b + i → f owner + one_if (is_released n (get_or polls i no_poll)) ≤ 1) →
    length (jobs_at n b polls) + sum_from f b (length polls) ≤ length polls
unfolding jobs_at
releases_fit f [] b n h = omega arith
releases_fit f (poll ∷ polls) b n h = go (releases_fit f polls (suc b) n (λ i owner l e. h (suc i) owner (omega arith) (omega arith))) (is_released n poll) (h 0 b (omega arith) (omega arith))
  where
    go : length (jobs_at n (suc b) polls) + sum_from f (suc b) (length polls) ≤ length polls → (t : Bool) → f b + one_if t ≤ 1 →
        length (cond t (poll_job n b poll ∷ jobs_at n (suc b) polls) (jobs_at n (suc b) polls)) + (f b + sum_from f (suc b) (length polls)) ≤ suc (length polls)
    go r true k = omega arith
    go r false k = omega arith

-- ROOM

module _ (m : Setup) (o : Opened m) (s : State) (es : List Entry) (c : Counts m s) (r : (j : ℕ) → Remembered s es j) (late : AllByRecursion (λ job. s.slot < job.deadline) s.bag) where
  lane_most : (owner : ℕ) → first_lane ≤ owner → sum_of (is_ahead owner s.slot) s.bag ≤ most_ahead
  lane_most owner l =
      let e : lane_owner (owner - first_lane) ≡ owner = omega arith in
      omega (
        arith,
        c.lanes (owner - first_lane) s.slot (omega arith),
        ap (λ y. sum_of (is_ahead y s.slot) s.bag) e,
        ahead_most s.slot (recent_at s (owner - first_lane)),
        ap (λ (l : List ℕ). length l) (r (owner - first_lane)).recent_is,
        length-take most_ahead (deadlines_of (owner - first_lane) es),
      )

  poll_most : (i : ℕ) → i < length m.table.polls → sum_of (is_ahead i s.slot) s.bag ≤ 1
  poll_most i l = omega (arith, c.polls i s.slot l (omega arith), one_if_most (ltb s.slot (mark (poll_at m.table i) (upto s))))

  request_room : (j : ℕ) → j < length m.table.lanes → ahead s.slot (recent_at s j) < most_ahead → length s.bag < places_for m.table
  request_room j l few =
      let less : sum_of (is_ahead (lane_owner j) s.slot) s.bag < most_ahead = omega (arith, c.lanes j s.slot (omega arith), few) in
      omega (
        arith,
        counted m.table s.slot s.bag c.owned late,
        sum_most (λ owner. sum_of (is_ahead owner s.slot) s.bag) 1 0 (length m.table.polls) (λ i a b. poll_most i (omega arith)),
        sum_less (λ owner. sum_of (is_ahead owner s.slot) s.bag) most_ahead first_lane (length m.table.lanes) (lane_owner j) (λ i a b. lane_most i a) (omega arith) (omega arith) less,
      )

  grant_room : s.is_open ≡ false → length s.bag + length (released m s) ≤ places_for m.table
  grant_room shut =
      omega (
        arith,
        counted m.table s.slot s.bag c.owned late,
        releases_fit (λ owner. sum_of (is_ahead owner s.slot) s.bag) m.table.polls 0 s.slot fit,
        sum_most (λ owner. sum_of (is_ahead owner s.slot) s.bag) most_ahead first_lane (length m.table.lanes) (λ i a b. lane_most i a),
      )
    where
      fit : (i owner : ℕ) → i < length m.table.polls → owner ≡ 0 + i → sum_of (is_ahead owner s.slot) s.bag + one_if (is_released s.slot (get_or m.table.polls i no_poll)) ≤ 1
      fit i owner l e = go (is_released s.slot (poll_at m.table i)) refl
        where
          same : sum_of (is_ahead owner s.slot) s.bag ≡ sum_of (is_ahead i s.slot) s.bag
          same = ap (λ y. sum_of (is_ahead y s.slot) s.bag) (let q : owner ≡ i = omega arith in q)

          go : (b : Bool) → is_released s.slot (poll_at m.table i) ≡ b → sum_of (is_ahead owner s.slot) s.bag + one_if b ≤ 1
          go true t =
              let past : mark (poll_at m.table i) s.slot ≤ s.slot = mark_due m.table.cycle (poll_at m.table i) (poll_of m o i l) s.slot s.slot (omega arith) t in
              let none : one_if (ltb s.slot (mark (poll_at m.table i) s.slot)) ≡ 0 = ap one_if (le-ltb s.slot (mark (poll_at m.table i) s.slot) past) in
              omega (arith, same, none, c.polls i s.slot l (omega arith), ap (λ y. one_if (ltb s.slot (mark (poll_at m.table i) y))) (upto_shut s shut))
          go false t = omega (arith, same, poll_most i l)

-- THE QUESTIONS

-- a request that is refused for want of a place has shown that the lane is there and has few deadlines ahead
record RequestFull (m : Setup) (s : State) (j : ℕ) : Type 0 where
  lane : j < length m.table.lanes
  few : ahead s.slot (recent_at s j) < most_ahead
  full : m.places ≤ length s.bag

request_full : (m : Setup) (s : State) (j budget : ℕ) (which : Refusal) → refusal_of m s (Request j budget) ≡ Some which → refusal_number which ≡ 34 → RequestFull m s j
request_full m s j budget which e q = record { lane = grind (arith, nat_tests); few = grind (arith, nat_tests); full = grind (arith, nat_tests) }

request_spared : (m : Setup) (s : State) (j budget : ℕ) (which : Refusal) → refusal_of m s (Request j budget) ≡ Some which → refusal_number which ≢ 42
request_spared m s j budget which e q = grind (arith, nat_tests)

-- and a grant that no slot is open
record GrantFull (m : Setup) (s : State) : Type 0 where
  shut : s.is_open ≡ false
  full : m.places < length s.bag + length (released m s)

grant_full : (m : Setup) (s : State) (which : Refusal) → refusal_of m s Grant ≡ Some which → refusal_number which ≡ 42 → GrantFull m s
grant_full m s which e q = record { shut = grind (arith, nat_tests); full = grind (arith, nat_tests) }

grant_spared : (m : Setup) (s : State) (which : Refusal) → refusal_of m s Grant ≡ Some which → refusal_number which ≢ 34
grant_spared m s which e q = grind (arith, nat_tests)

report_spared : (m : Setup) (s : State) (unit slot : ℕ) (outcome : Outcome) (which : Refusal) → refusal_of m s (Report unit slot outcome) ≡ Some which → HasPlace (Err which)
report_spared m s unit slot outcome which e = (λ q. grind (arith, nat_tests), λ q. grind (arith, nat_tests))

module _ (m : Setup) (o : Opened m) (calls : List Call) where
  pub request_has_place : (j budget : ℕ) (which : Refusal) → refusal_of m (after m calls) (Request j budget) ≡ Some which → HasPlace (Err which)
  request_has_place j budget which e = (
    (λ q.
        let f = request_full m (after m calls) j budget which e q in
        omega (arith, request_room m o (after m calls) (record_of m calls) (counts m o calls) (remembered m o calls) (never_late m o calls) j f.lane f.few, o.roomy)),
    request_spared m (after m calls) j budget which e,
  )

  call_has_place : (call : Call) (which : Refusal) → refusal_of m (after m calls) call ≡ Some which → HasPlace (Err which)
  call_has_place (Request j budget) which e = request_has_place j budget which e
  call_has_place Grant which e = (
    grant_spared m (after m calls) which e,
    (λ q.
        let f = grant_full m (after m calls) which e q in
        omega (arith, grant_room m o (after m calls) (record_of m calls) (counts m o calls) (remembered m o calls) (never_late m o calls) f.shut, o.roomy)),
  )
  call_has_place (Report unit slot outcome) which e = report_spared m (after m calls) unit slot outcome which e

pub never_full : (m : Setup) → Opened m → (calls : List Call) → NeverFull (record_of m calls)
never_full m o = along m (λ s es. NeverFull es) tt
    (λ calls call refusal e h. (call_has_place m o calls call refusal e, h))
    (λ calls call e h. (tt, h))
