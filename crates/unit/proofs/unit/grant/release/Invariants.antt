-- What is left to put, and what the pile is to hold in the end, stays the same; the releases that are due get fewer.
use Rattle.std.proofs.Common.{◌≡◌}
use Rattle.admission.specs.Contents.{contents}
use Rattle.machine.specs.Machine.{put_all}
use Rattle.machine.specs.Polls.{jobs_at}
use Rattle.unit.specs.Releases.{releases_of, due_count}
use Rattle.unit.proofs.Releasing.{Left}
use Rattle.unit.proofs.unit.grant.release.Given as goal

abbrev pub invariant-loop-poll : goal.invariant-loop-poll
invariant-loop-poll g l =
    let polls = (contents l.fn.table).polls in
    record {
      left : Left polls l.fn.slot (g.Q.ReadyQueue.places l.fn.queue) (put_all (jobs_at l.fn.slot 0 polls) (g.Q.ReadyQueue.bag l.fn.queue)) (releases_of l.releases) (g.Q.ReadyQueue.bag l.queue);
      places : g.Q.ReadyQueue.places l.queue ≡ g.Q.ReadyQueue.places l.fn.queue;
      whose : g.Q.ReadyQueue.whose l.queue ≡ g.Q.ReadyQueue.whose l.fn.queue;
    }

abbrev pub decreases-loop-poll : goal.decreases-loop-poll
decreases-loop-poll g l = due_count l.fn.slot (releases_of l.releases)
