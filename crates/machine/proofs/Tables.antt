-- What an admissible table says of its polls and lanes: the only ground of all promises.
use Rattle.std.proofs.Common.{◌≡◌, ℕ, ◌+◌, ◌*◌, ◌/◌, ◌<◌, ◌≤◌, Bool, true, List, [], ◌∷◌, ◌++◌, map, length, sym, ap, subst, arith}
use Rattle.std.specs.Int.{◌∣◌}
use Rattle.std.proofs.Math.Nat.{mul-div_cancel'}
use Rattle.std.specs.List.{AllByRecursion, list_all}
use Rattle.std.proofs.lemmas.Bool.{and_parts}
use Rattle.std.proofs.lemmas.Bool.Decides.{nat_tests}
use Rattle.admission.specs.declared.table.Poll.{Poll}
use Rattle.admission.specs.declared.table.Lane.{Lane}
use Rattle.admission.specs.Limits.{poll_fits, lane_fits}
use Rattle.admission.specs.Demand.{poll_slots, lane_slots}
use Rattle.admission.specs.Sums.{sum_of}
use Rattle.admission.specs.Contents.{Contents, Admissible}
use Rattle.admission.specs.Laws.{CommonMultiple}
use Rattle.admission.proofs.Cycles.{Positive, least_from}
use Rattle.machine.specs.Limits.{first_lane, most_ahead}
use Rattle.machine.specs.Polls.{relative_deadline}
use Rattle.sheet.proofs.Each.{each_weaker, each_mapped, each_joined, each_front, each_back}

-- a poll's job is due before the next one is released, and the poll's slots of a cycle pay for its jobs
pub record PollLaws (cycle : ℕ) (poll : Poll) : Type 0 where
  pub some_time : 1 ≤ relative_deadline poll
  pub some_period : 1 ≤ poll.period
  pub some_budget : 1 ≤ poll.budget
  pub early : relative_deadline poll ≤ poll.period
  pub pays : poll.budget * cycle ≤ poll_slots cycle poll * relative_deadline poll

pub record LaneFits (cycle : ℕ) (lane : Lane) : Type 0 where
  pub some_span : 1 ≤ lane.span
  pub some_quota : 1 ≤ lane.quota
  pub whole : lane.span * (cycle / lane.span) ≡ cycle

pub record Sound (table : Contents) : Type 0 where
  pub polls : AllByRecursion (PollLaws table.cycle) table.polls
  pub lanes : AllByRecursion (LaneFits table.cycle) table.lanes
  pub few_polls : length table.polls ≤ first_lane
  pub few_lanes : length table.lanes ≤ most_ahead
  pub some_cycle : 1 ≤ table.cycle
  pub light : sum_of (poll_slots table.cycle) table.polls + sum_of (lane_slots table.cycle) table.lanes ≤ table.cycle

record PollNumbers (poll : Poll) : Type 0 where
  some_period : 1 ≤ poll.period
  some_budget : 1 ≤ poll.budget

record LaneNumbers (lane : Lane) : Type 0 where
  some_span : 1 ≤ lane.span
  some_quota : 1 ≤ lane.quota

poll_numbers : (poll : Poll) → poll_fits poll ≡ true → PollNumbers poll
poll_numbers poll h = record { some_period = grind (arith, nat_tests); some_budget = grind (arith, nat_tests) }

lane_numbers : (lane : Lane) → lane_fits lane ≡ true → LaneNumbers lane
lane_numbers lane h = record { some_span = grind (arith, nat_tests); some_quota = grind (arith, nat_tests) }

all_pass : {X : Type 0} (fits : X → Bool) (P : X → Type 0) → ((x : X) → fits x ≡ true → P x) → (xs : List X) → list_all fits xs ≡ true → AllByRecursion P xs
all_pass fits P f [] h = tt
all_pass fits P f (x ∷ xs) h = let p = and_parts (fits x) (list_all fits xs) h in (f x p.0, all_pass fits P f xs p.1)

poll_laws : (cycle : ℕ) (polls : List Poll) → AllByRecursion PollNumbers polls → CommonMultiple (map (λ poll. poll.period) polls) cycle → AllByRecursion (PollLaws cycle) polls
poll_laws cycle [] n d = tt
poll_laws cycle (poll ∷ polls) n d = (
  record {
    some_time = n.0.some_period;
    some_period = n.0.some_period;
    some_budget = n.0.some_budget;
    early = omega arith;
    pays = (let e = mul-div_cancel' poll.period d.0 in omega (arith, ap (λ x. poll.budget * x) e));
  },
  poll_laws cycle polls n.1 d.1,
)

lane_laws : (cycle : ℕ) (lanes : List Lane) → AllByRecursion LaneNumbers lanes → CommonMultiple (map (λ lane. lane.span) lanes) cycle → AllByRecursion (LaneFits cycle) lanes
lane_laws cycle [] n d = tt
lane_laws cycle (lane ∷ lanes) n d = (
  record { some_span = n.0.some_span; some_quota = n.0.some_quota; whole = mul-div_cancel' lane.span d.0 },
  lane_laws cycle lanes n.1 d.1,
)

pub sound : (table : Contents) → Admissible table → Sound table
sound table a =
    let periods = map (λ (poll : Poll). poll.period) table.polls in
    let spans = map (λ (lane : Lane). lane.span) table.lanes in
    let ps = all_pass poll_fits PollNumbers poll_numbers table.polls a.polls_fit in
    let ls = all_pass lane_fits LaneNumbers lane_numbers table.lanes a.lanes_fit in
    -- the lengths are positive, and each divides the cycle
    let positive : Positive (periods ++ spans) =
    each_joined (λ n. 0 < n) periods spans
    (each_mapped (λ n. 0 < n) (λ (poll : Poll). poll.period) table.polls (each_weaker PollNumbers (λ poll. 0 < poll.period) (λ poll n. n.some_period) table.polls ps))
    (each_mapped (λ n. 0 < n) (λ (lane : Lane). lane.span) table.lanes (each_weaker LaneNumbers (λ lane. 0 < lane.span) (λ lane n. n.some_span) table.lanes ls)) in
    let least = least_from 1 (periods ++ spans) (omega arith) positive in
    let common : CommonMultiple (periods ++ spans) table.cycle = subst (CommonMultiple (periods ++ spans)) (sym a.cycle_is) least.common in
    record {
      polls = poll_laws table.cycle table.polls ps (each_front (λ n. n ∣ table.cycle) periods spans common);
      lanes = lane_laws table.cycle table.lanes ls (each_back (λ n. n ∣ table.cycle) periods spans common);
      few_polls = a.few_polls;
      few_lanes = a.few_lanes;
      some_cycle = (let e = a.cycle_is in let p = least.some in omega arith);
      light = (let e = a.load_is in let l = a.light in omega arith);
    }
