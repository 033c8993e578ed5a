-- The moves are computed by the definitions.
use Rattle.std.proofs.Common.{◌≡◌, ℕ, ◌≤◌, true, [], refl, lit≤}
use Rattle.std.specs.List.{list_all}
use Rattle.pile.specs.Sorted.{insert}
use Rattle.queue.specs.Jobs.{sooner}
use Rattle.admission.specs.Measure.{measure_of, multiple_of}
use Rattle.admission.specs.Demand.{longest_cycle, cycle_of, load_of}
use Rattle.admission.specs.Limits.{lane_fits}
use Rattle.machine.specs.Polls.{jobs_at}
use Rattle.machine.specs.Machine.{put_all}
use Rattle.machine.specs.Promises.{Opened}
use Rattle.moves.specs.Halls.{hall_of}
use Rattle.moves.proofs.worked_moves.Goals as goal

-- what has to be computed of a hall of one lane
opens : (quota span : ℕ) → list_all lane_fits (hall_of quota span).table.lanes ≡ true → span ≡ cycle_of [] (hall_of quota span).table.lanes →
    span ≤ longest_cycle → quota ≡ load_of span [] (hall_of quota span).table.lanes → quota ≤ span → Opened (hall_of quota span)
opens quota span fits cycle short load light = record {
  is_opened = refl;
  admissible = record { few_polls = lit≤ tt; few_lanes = lit≤ tt; polls_fit = refl; lanes_fit = fits; cycle_is = cycle; short = short; load_is = load; light = light };
  roomy = lit≤ tt;
}

pub returns : goal.returns
unfolding insert sooner measure_of multiple_of jobs_at put_all
returns c = record {
  worked = record {
    brimful_is_admitted = refl;
    overfull_is_refused = refl;
    overfull_is_19 = refl;
    long_is_admitted = refl;
    too_long_is_refused = refl;
    too_long_is_18 = refl;
    quarter_is_open = opens 1 4 refl refl (lit≤ tt) refl (lit≤ tt);
    spread_are_told = refl;
    thirds_are_open = opens 2 3 refl refl (lit≤ tt) refl (lit≤ tt);
    thirds_are_told = refl;
    thin_is_open = opens 1 10000 refl refl (lit≤ tt) refl (lit≤ tt);
    thin_is_told = refl;
    half_is_open = opens 2 4 refl refl (lit≤ tt) refl (lit≤ tt);
    eager_are_told = refl;
    ahead_is_33 = refl;
    poll_runs_first = refl;
    in_either_order = refl;
  };
}
