-- The machine is a run of the sources: its polls and lanes pay for every job, so no job in the bag is ever late.
use Rattle.std.proofs.Common.{◌≡◌, ◌≢◌, ℕ, suc, ◌*◌, ◌<◌, ◌≤◌, true, false, List, [], ◌∷◌, ◌++◌, map, take, set, None, sym, refl, ap, subst, arith}
use Rattle.std.proofs.Math.ListN.{get_or-map}
use Rattle.std.specs.List.{AllByRecursion}
use Rattle.std.proofs.lemmas.List.{length-map, map-set}
use Rattle.pile.specs.Sorted.{first_of}
use Rattle.queue.specs.declared.job.Job.{Job}
use Rattle.admission.specs.Demand.{lane_slots}
use Rattle.machine.specs.declared.call.Call.{Call}
use Rattle.machine.specs.declared.call.Call.TheVariants.{Request, Grant, Report}
use Rattle.machine.specs.declared.call.Outcome.{Outcome}
use Rattle.machine.specs.Limits.{most_ahead, nobody}
use Rattle.machine.specs.Lanes.{clock_of, lane_job}
use Rattle.machine.specs.Machine.{Setup, State, fresh, refusal_of, moved, lane_at, recent_at, released, new_clock, new_deadline, owner_of, deadline_of}
use Rattle.machine.specs.History.{Entry, after, record_of}
use Rattle.machine.specs.Promises.{Opened}
use Rattle.machine.proofs.Bags.{left_by, sum_put, sum_put_all, worked_serves}
use Rattle.machine.proofs.Earliest.{Source, Room, rates, rates_append, potentials_append, room_at_first, room_paid, room_served, none_late, sources_of, potentials_set, rates_of}
use Rattle.machine.proofs.PollSource.{poll_sources, poll_rates, polls_pay}
use Rattle.machine.proofs.LaneRule.{lane_source, lane_rate, lane_pays}
use Rattle.machine.proofs.Along.{along}
use Rattle.machine.proofs.Questions.{Asked, request_accepted, grant_accepted, report_accepted}
use Rattle.machine.proofs.Basics.{table_of, lane_of, upto, upto_shut, upto_open, Basic, basic}

-- every lane's clock
abbrev clocks : State → List ℕ
clocks s = map clock_of s.recent

-- the polls and the lanes as sources
abbrev sources : Setup → State → List Source
sources m s = poll_sources m.table.cycle m.table.polls (upto s) ++ sources_of (lane_source m.table.cycle) m.table.lanes (clocks s)

light : (m : Setup) → Opened m → (s : State) → rates (sources m s) ≤ m.table.cycle
light m o s =
    let cycle : ℕ = m.table.cycle in
    omega (
      arith,
      (table_of m o).light,
      rates_append (poll_sources cycle m.table.polls (upto s)) (sources_of (lane_source cycle) m.table.lanes (clocks s)),
      poll_rates cycle m.table.polls (upto s),
      rates_of (lane_source cycle) (lane_slots cycle) (lane_rate cycle) m.table.lanes (clocks s),
    )

abbrev Roomy : Setup → State → Type 0
Roomy m s = Room m.table.cycle s.slot s.bag (sources m s)

-- a request is paid by its lane
room_request : (m : Setup) → Opened m → (s : State) (es : List Entry) (j budget : ℕ) → Asked m s j budget → Basic m s es → Roomy m s → Roomy m (moved m s (Request j budget))
room_request m o s es j budget a b r =
    let cycle : ℕ = m.table.cycle in
    let polls : List Source = poll_sources cycle m.table.polls (upto s) in
    let before : List Source = sources_of (lane_source cycle) m.table.lanes (clocks s) in
    let after' : List Source = sources_of (lane_source cycle) m.table.lanes (set (clocks s) j (new_clock m s j budget)) in
    let job : Job = lane_job j (new_deadline m s j budget) budget in
    let paid : Room cycle s.slot s.bag (polls ++ before) → Room cycle s.slot (moved m s (Request j budget)).bag (polls ++ after') =
    room_paid cycle s.slot s.bag _ (polls ++ before) (polls ++ after')
    (λ x h. omega (
      arith,
      ap (λ y. cycle * y) (sum_put (left_by x) job s.bag),
      potentials_append polls before s.slot x,
      potentials_append polls after' s.slot x,
      potentials_set (lane_source cycle) (record { span = 0; quota = 0 }) 0 (new_clock m s j budget) s.slot x m.table.lanes (clocks s) j a.lane
          (omega (arith, a.lane, b.lanes, length-map s.recent clock_of)),
      ap (λ y. (lane_source cycle (lane_at m j) y).potential s.slot x) (get_or-map clock_of s.recent j []),
      lane_pays cycle (lane_at m j) (lane_of m o j a.lane) (clock_of (recent_at s j)) budget s.slot x,
    )) in
    subst (λ cs. Room cycle s.slot (moved m s (Request j budget)).bag (polls ++ sources_of (lane_source cycle) m.table.lanes cs))
    (sym (map-set clock_of s.recent j (take most_ahead (new_deadline m s j budget ∷ recent_at s j)))) (paid r)

-- the jobs that a grant releases are paid by their polls
room_grant : (m : Setup) → Opened m → (s : State) → s.is_open ≡ false → Roomy m s → Roomy m (moved m s Grant)
room_grant m o s shut r =
    let cycle : ℕ = m.table.cycle in
    let lanes : List Source = sources_of (lane_source cycle) m.table.lanes (clocks s) in
    room_paid cycle s.slot s.bag _ (poll_sources cycle m.table.polls s.slot ++ lanes) (poll_sources cycle m.table.polls (suc s.slot) ++ lanes)
    (λ x h. omega (
      arith,
      ap (λ y. cycle * y) (sum_put_all (left_by x) (released m s) s.bag),
      potentials_append (poll_sources cycle m.table.polls s.slot) lanes s.slot x,
      potentials_append (poll_sources cycle m.table.polls (suc s.slot)) lanes s.slot x,
      polls_pay cycle s.slot 0 x m.table.polls (table_of m o).polls,
    ))
    (subst (λ y. Room cycle s.slot s.bag (poll_sources cycle m.table.polls y ++ lanes)) (upto_shut s shut) r)

-- a report closes a slot
room_report : (m : Setup) → Opened m → (s : State) (es : List Entry) (unit slot : ℕ) (outcome : Outcome) → s.is_open ≡ true → Basic m s es → Roomy m s → Roomy m (moved m s (Report unit slot outcome))
room_report m o s es unit slot outcome on b r =
    let cycle : ℕ = m.table.cycle in
    let lanes : List Source = sources_of (lane_source cycle) m.table.lanes (clocks s) in
    let at_next : Room cycle s.slot s.bag (poll_sources cycle m.table.polls (suc s.slot) ++ lanes) =
    subst (λ y. Room cycle s.slot s.bag (poll_sources cycle m.table.polls y ++ lanes)) (upto_open s on) r in
    room_served cycle s.slot s.bag _ (poll_sources cycle m.table.polls (suc s.slot) ++ lanes)
    (light m o (moved m s (Report unit slot outcome))) (λ x. worked_serves x outcome s.bag b.positive b.rising) at_next

room_moves : (m : Setup) → Opened m → (s : State) (es : List Entry) (call : Call) → refusal_of m s call ≡ None → Basic m s es → Roomy m s → Roomy m (moved m s call)
room_moves m o s es (Request j budget) e b r = room_request m o s es j budget (request_accepted m s j budget e) b r
room_moves m o s es Grant e b r = room_grant m o s (grant_accepted m s e) r
room_moves m o s es (Report unit slot outcome) e b r = room_report m o s es unit slot outcome (report_accepted m s unit slot outcome e) b r

room : (m : Setup) → Opened m → (calls : List Call) → Roomy m (after m calls)
room m o = along m (λ s es. Roomy m s)
    (room_at_first m.table.cycle 0 _ (light m o (fresh m)))
    (λ calls call refusal _ r. r)
    (λ calls call e r. room_moves m o (after m calls) (record_of m calls) call e (basic m o calls) r)

-- no job in the bag is late
pub never_late : (m : Setup) → Opened m → (calls : List Call) → AllByRecursion (λ job. (after m calls).slot < job.deadline) (after m calls).bag
never_late m o calls =
    none_late m.table.cycle (after m calls).slot (after m calls).bag (sources m (after m calls)) (table_of m o).some_cycle (basic m o calls).positive (room m o calls)

-- so the present slot, where it goes to a job, lies below that job's deadline
pub first_in_time : (m : Setup) → Opened m → (calls : List Call) → (owner_of (first_of (after m calls).bag) ≢ nobody) → (after m calls).slot < deadline_of (first_of (after m calls).bag)
first_in_time m o calls ne = first (after m calls).bag (never_late m o calls) ne
  where
    first : (jobs : List Job) → AllByRecursion (λ job. (after m calls).slot < job.deadline) jobs → (owner_of (first_of jobs) ≢ nobody) → (after m calls).slot < deadline_of (first_of jobs)
    first [] h none = absurd (none refl)
    first (job ∷ jobs) h none = h.0
