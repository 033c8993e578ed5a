-- A request step by step: the lane that it asks for, the questions that it passes, and the machine afterwards.
use Rattle.std.proofs.Common.{◌≡◌, ℕ, zero, suc, ◌+◌, ◌-◌, ◌*◌, ◌/◌, ◌%◌, ◌<◌, ◌≤◌, min, true, false, List, [], ◌∷◌, Some, None, Option, Ok, Err, Result, is_some, IfOk, ok_or, if◌then◌else◌, MatchResult, length, get_or, take, set, map, sym, refl, ap, ◌∙◌, subst, ⊎_elim, arith}
use Rattle.std.specs.Int.{div_ceil}
use Rattle.std.specs.List.{slice_get, list_all}
use Rattle.std.specs.Result.{is_ok, is_err}
use Rattle.std.proofs.lemmas.Nat.{div-mul-add, div-add-mod'}
use Rattle.std.proofs.Math.Nat.{mod-lt}
use Rattle.std.proofs.lemmas.List.{length-take-le, get_or-take, get_or-map, map-set}
use lib.Seq.{take-set-lt}
use Rattle.std.proofs.lemmas.Option.{slice_get_within, get_or_from_slice_get}
use Rattle.std.proofs.lemmas.List.Folds.{list_all_at}
use Rattle.std.proofs.lemmas.Bool.{cases_Bool, both_ways}
use Rattle.std.proofs.lemmas.Bool.Decides.{nat_tests}
use Rattle.sheet.specs.Limits.{longest_span}
use Rattle.pile.specs.declared.refusal.PutRefusal.{PutRefusal}
use Rattle.queue.specs.declared.job.Job.{Job}
use Rattle.queue.specs.Jobs.{put_job}
use Rattle.admission.specs.declared.table.Lane.{Lane}
use Rattle.admission.specs.declared.table.Table.{Table}
use Rattle.admission.specs.Contents.{contents}
use Rattle.admission.specs.Limits.{lane_fits}
use Rattle.machine.specs.declared.call.Call.TheVariants.{Request}
use Rattle.std.specs.Option.{option_map_or}
use Rattle.machine.specs.declared.call.Reply.TheVariants.{Deadline}
use Rattle.machine.specs.declared.refusal.Refusal.{Refusal}
use Rattle.machine.specs.declared.refusal.Refusal.TheVariants.{NoSuchLane, LaneAhead, QueueFull}
use Rattle.unit.specs.InTable.{InTable}
use Rattle.machine.specs.Limits.{most_budget, most_ahead}
use Rattle.machine.specs.Lanes.{ahead, lane_job}
use Rattle.machine.specs.Machine.{Setup, State, recent_at, refusal_of, new_deadline, moved, answer}
use Rattle.machine.proofs.Questions.{Asked}
use Rattle.unit.specs.declared.recent.Recent.{Recent}
use Rattle.unit.specs.Deadlines.{deadlines_of}
use Rattle.unit.specs.Meaning.{called}

-- rounding up, in two ways
pub rounded_up : (a b : ℕ) → 1 ≤ b → div_ceil a b ≡ (a + (b - 1)) / b
rounded_up a b h = by (a / b) (a % b) (div-add-mod' a b) (mod-lt a h)
  where
    by : (q r : ℕ) → q * b + r ≡ a → r < b → q + min 1 r ≡ (a + (b - 1)) / b
    by q zero e l = let n : q * b + (b - 1) ≡ a + (b - 1) = omega arith in (let z : q + min 1 0 ≡ q = omega arith in z) ∙ sym (div-mul-add q b (b - 1) (omega arith)) ∙ ap (λ x. x / b) n
    by q (suc r) e l = let n : suc q * b + r ≡ a + (b - 1) = omega arith in (let z : q + min 1 (suc r) ≡ suc q = omega arith in z) ∙ sym (div-mul-add (suc q) b r (omega arith)) ∙ ap (λ x. x / b) n

-- THE LANE

lane_span : (lane : Lane) → lane_fits lane ≡ true → lane.span ≤ longest_span
lane_span lane h = grind (arith, nat_tests)

lane_quota : (lane : Lane) → lane_fits lane ≡ true → 1 ≤ lane.quota
lane_quota lane h = grind (arith, nat_tests)

in_table_at : (table : Table) (j : ℕ) (lane : Lane) → slice_get (contents table).lanes j ≡ Some lane → InTable table j lane
in_table_at table j lane some =
    let lanes = (contents table).lanes in
    let within : j < length lanes = slice_get_within lanes j lane some in
    let is : (d : Lane) → get_or lanes j d ≡ lane = λ d. get_or_from_slice_get lanes j lane d some in
    let fits : lane_fits lane ≡ true = ⊎_elim (λ yes. ap lane_fits (sym (is lane)) ∙ yes) (λ no. absurd (both_ways (list_all lane_fits lanes) (list_all_at lane_fits lanes j lane within no) table.lanes_fit)) (cases_Bool (lane_fits (get_or lanes j lane))) in
    let taken = table.lanes.within in
    let count : length lanes ≡ table.lanes.count = length-take-le table.lanes.count table.lanes.places (let n = table.lanes.size in omega arith) in
    record { within = within; few = omega arith; is = is; span = lane_span lane fits; quota = lane_quota lane fits }

in_table_by : (table : Table) (j : ℕ) (o : Option Lane) → slice_get (contents table).lanes j ≡ o → IfOk (ok_or o NoSuchLane) (λ lane. InTable table j lane)
in_table_by table j (Some lane) e = in_table_at table j lane e
in_table_by table j None e = tt

pub in_table : (table : Table) (j : ℕ) (r : Result Lane Refusal) → r ≡ ok_or (slice_get (contents table).lanes j) NoSuchLane → IfOk r (λ lane. InTable table j lane)
in_table table j r e = subst (λ result. IfOk result (λ lane. InTable table j lane)) (sym e) (in_table_by table j (slice_get (contents table).lanes j) refl)

-- what is remembered of the lane
pub remembered : (recents : List Recent) (n j at : ℕ) (d : Recent) → at ≡ j → j < n → n ≤ length recents → get_or (map deadlines_of (take n recents)) j [] ≡ deadlines_of (get_or recents at d)
remembered recents n j at d here l h =
    let short : length (take n recents) ≡ n = length-take-le n recents h in
    get_or-map deadlines_of (take n recents) j d [] (omega arith) ∙ ap deadlines_of (get_or-take n recents j d l ∙ ap (λ k. get_or recents k d) (sym here))

pub written : (recents : List Recent) (n j at : ℕ) (recent : Recent) → at ≡ j → j < n → map deadlines_of (take n (set recents at recent)) ≡ set (map deadlines_of (take n recents)) j (deadlines_of recent)
written recents n j at recent here l = ap (λ k. map deadlines_of (take n (set recents k recent))) here ∙ ap (map deadlines_of) (take-set-lt n recents j recent l) ∙ map-set deadlines_of (take n recents) j recent

-- THE QUEUE

pub was_put : (P Q : Type 0) (r : Result (Unit {0}) PutRefusal) → is_err r ≡ false → MatchResult r (λ _. P) (λ _. Q) → P
was_put P Q (Ok x) e h = h
was_put P Q (Err x) e h = absurd (let z : ◌≡◌ {A = ℕ} 0 1 = cc in omega arith)

pub was_taken : (P Q : Type 0) (r : Result (Unit {0}) PutRefusal) → is_ok r ≡ true → MatchResult r (λ _. P) (λ _. Q) → P
was_taken P Q (Ok x) e h = h
was_taken P Q (Err x) e h = absurd (let z : ◌≡◌ {A = ℕ} 0 1 = cc in omega arith)

pub was_full : (P Q : Type 0) (r : Result (Unit {0}) PutRefusal) → is_err r ≡ true → MatchResult r (λ _. P) (λ _. Q) → Q
was_full P Q (Err x) e h = h
was_full P Q (Ok x) e h = absurd (let z : ◌≡◌ {A = ℕ} 0 1 = cc in omega arith)

-- THE QUESTIONS

pub lane_ahead : (m : Setup) (s : State) (j budget : ℕ) → s.is_open ≡ false → j < length m.table.lanes → (budget ≡ 0 → ⊥) → budget ≤ most_budget → most_ahead ≤ ahead s.slot (recent_at s j) → Err LaneAhead ≡ answer m s (Request j budget)
lane_ahead m s j budget shut lane some most many = grind (arith, nat_tests)

pub queue_full : (m : Setup) (s : State) (j budget : ℕ) → s.is_open ≡ false → j < length m.table.lanes → (budget ≡ 0 → ⊥) → budget ≤ most_budget → ahead s.slot (recent_at s j) < most_ahead → length s.bag ≡ m.places → Err QueueFull ≡ answer m s (Request j budget)
queue_full m s j budget shut lane some most few full = grind (arith, nat_tests)

pub accepted : (m : Setup) (s : State) (j budget : ℕ) → Asked m s j budget → refusal_of m s (Request j budget) ≡ None
accepted m s j budget asked = let a = asked.shut in let b = asked.lane in let c = asked.some in let d = asked.most in let e = asked.few in let f = asked.place in grind (arith, nat_tests)

-- THE MACHINE AFTERWARDS

pub requested : (m : Setup) (s : State) (j budget d places : ℕ) (bag : List Job) (recent : List (List ℕ)) → Asked m s j budget → d ≡ new_deadline m s j budget → places ≡ m.places → bag ≡ put_job (lane_job j d budget) s.bag → recent ≡ set s.recent j (take 8 (d ∷ recent_at s j)) →
    record { setup = record { places = places; opened = m.opened; table = m.table; unit = m.unit }; state = record { bag = bag; slot = s.slot; is_open = s.is_open; recent = recent } } ≡ called (record { setup = m; state = s }) (Request j budget)
requested m s j budget d places bag recent asked hd hp hb hr =
    let e = accepted m s j budget asked in
    let bag_is : bag ≡ put_job (lane_job j (new_deadline m s j budget) budget) s.bag = hb ∙ ap (λ x. put_job (lane_job j x budget) s.bag) hd in
    let recent_is : recent ≡ set s.recent j (take 8 (new_deadline m s j budget ∷ recent_at s j)) = hr ∙ ap (λ x. set s.recent j (take 8 (x ∷ recent_at s j))) hd in
    (λ i. record { setup = record { places = hp i; opened = m.opened; table = m.table; unit = m.unit }; state = record { bag = bag_is i; slot = s.slot; is_open = s.is_open; recent = recent_is i } })
    ∙ sym (ap (λ o. record { setup = m; state = if is_some o then s else moved m s (Request j budget) }) e)

pub answered_with : (m : Setup) (s : State) (j budget d : ℕ) → Asked m s j budget → d ≡ new_deadline m s j budget → Ok (Deadline d) ≡ answer m s (Request j budget)
answered_with m s j budget d asked hd = ap (λ x. Ok (Deadline x)) hd ∙ sym (ap (λ o. option_map_or Err o (Ok (Deadline (new_deadline m s j budget)))) (accepted m s j budget asked))
