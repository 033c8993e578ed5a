-- WHAT EVERY HISTORY KEEPS, gathered.
use Rattle.machine.specs.Promises.{PromisesStand}
use Rattle.machine.proofs.DeadlinesMet.{deadlines_met}
use Rattle.machine.proofs.ShareKept.{share_kept}
use Rattle.machine.proofs.SectionsApart.{sections_apart}
use Rattle.machine.proofs.NeverFull.{never_full}
use Rattle.machine.proofs.EachPairOneJob.{each_pair_one_job}
use Rattle.machine.proofs.WithinBudget.{within_budget}

pub promises_stand : PromisesStand
promises_stand m o calls = record {
  deadlines_met = deadlines_met m o calls;
  share_kept = share_kept m o calls;
  sections_apart = sections_apart m o calls;
  never_full = never_full m o calls;
  each_pair_one_job = each_pair_one_job m o calls;
  within_budget = within_budget m o calls;
}
