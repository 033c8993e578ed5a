-- The jobs that have left and the jobs that are left are all the jobs.
use Rattle.std.proofs.Common.{◌≡◌, ◌+◌, length}
use Rattle.queue_trial.proofs.clients.drain.Given as goal

abbrev pub invariant-loop-count : goal.invariant-loop-count
invariant-loop-count g l = l.count + length (g.Q.ReadyQueue.bag l.queue) ≡ length (g.Q.ReadyQueue.bag l.initial.queue)

abbrev pub decreases-loop-count : goal.decreases-loop-count
decreases-loop-count g l = length (g.Q.ReadyQueue.bag l.queue)
