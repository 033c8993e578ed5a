-- What is left to do decides what the bag is in the end.
use Rattle.std.proofs.Common.{◌≡◌, drop}
use Rattle.queue_trial.specs.Operations.{after_all}
use Rattle.queue_trial.proofs.clients.run.Given as goal

abbrev pub invariant-loop-operation : goal.invariant-loop-operation
invariant-loop-operation g l =
    (g.Q.ReadyQueue.places l.queue ≡ g.Q.ReadyQueue.places l.initial.queue)
    × (after_all (g.Q.ReadyQueue.places l.initial.queue) (g.Q.ReadyQueue.bag l.queue) (drop l.operation-index l.operations)
    ≡ after_all (g.Q.ReadyQueue.places l.initial.queue) (g.Q.ReadyQueue.bag l.initial.queue) l.operations)
