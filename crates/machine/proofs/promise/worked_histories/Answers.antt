-- The histories are computed by the definitions.
use Rattle.std.proofs.Common.{refl, lit≤}
use Rattle.pile.specs.Sorted.{insert}
use Rattle.queue.specs.Jobs.{sooner}
use Rattle.admission.specs.Measure.{measure_of, multiple_of}
use Rattle.machine.specs.Polls.{jobs_at}
use Rattle.machine.specs.Machine.{put_all}
use Rattle.machine.specs.History.{answers_from}
use Rattle.machine.proofs.promise.worked_histories.Goals as goal

pub returns : goal.returns
unfolding insert sooner measure_of multiple_of jobs_at put_all answers_from
returns c = record {
  worked = record {
    small_opened = record {
      is_opened = refl;
      admissible = record { few_polls = lit≤ tt; few_lanes = lit≤ tt; polls_fit = refl; lanes_fit = refl; cycle_is = refl; short = lit≤ tt; load_is = refl; light = lit≤ tt };
      roomy = lit≤ tt;
    };
    small_day_is = refl;
    full_opened = record {
      is_opened = refl;
      admissible = record { few_polls = lit≤ tt; few_lanes = lit≤ tt; polls_fit = refl; lanes_fit = refl; cycle_is = refl; short = lit≤ tt; load_is = refl; light = lit≤ tt };
      roomy = lit≤ tt;
    };
    full_day_is = refl;
    thirds_opened = record {
      is_opened = refl;
      admissible = record { few_polls = lit≤ tt; few_lanes = lit≤ tt; polls_fit = refl; lanes_fit = refl; cycle_is = refl; short = lit≤ tt; load_is = refl; light = lit≤ tt };
      roomy = lit≤ tt;
    };
    thirds_are = refl;
  };
}
