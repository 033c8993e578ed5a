-- Each turn makes the first of the operations that are left.
use Rattle.std.proofs.Common.{◌≡◌, ℕ, ◌+◌, ◌<◌, List, length, get_or, drop, sym, ap, ◌∙◌}
use Rattle.std.proofs.lemmas.List.{at_drop_more, at_drop_all}
use Rattle.queue.specs.declared.job.Job.{Job}
use Rattle.queue_trial.specs.declared.clients.Operation.{Operation}
use Rattle.queue_trial.specs.declared.clients.Operation.TheVariants.{Put}
use Rattle.queue_trial.specs.Operations.{after_one, after_all}
use Rattle.queue_trial.proofs.clients.run.Goals as goal

-- what stands past the list
abbrev none : Operation
none = Put (record { deadline = 0; owner = 0; left = 0 })

-- one turn makes the first of what is left
turn : (places : ℕ) (bag bag' end : List Job) (all : List Operation) (i : ℕ) (d : Operation) → i < length all → bag' ≡ after_one places bag (get_or all i d) →
    after_all places bag (drop i all) ≡ end → after_all places bag' (drop (i + 1) all) ≡ end
unfolding after_all
turn places bag bag' end all i d l h e = ap (λ b. after_all places b (drop (i + 1) all)) h ∙ sym (at_drop_more (after_all places bag) all i d l) ∙ e

pub loop-operation-preserved : goal.loop-operation-preserved
loop-operation-preserved g c =
    let l = c.loop-operation in
    let same = l.invariant.0 in
    let bag = g.Q.ReadyQueue.bag l.queue in (
      c.apply.ensures.places ∙ same,
      turn (g.Q.ReadyQueue.places c.args.queue.now) bag _ _ c.args.operations.now l.operation-index none c.loop-operation-test.true
          (c.apply.ensures.bag ∙ ap (λ p. after_one p bag (get_or c.args.operations.now l.operation-index none)) same) l.invariant.1,
    )

pub returns : goal.returns
unfolding after_all
returns g c =
    let l = c.loop-operation in
    record { bag = sym (at_drop_all (after_all (g.Q.ReadyQueue.places c.args.queue.now) (g.Q.ReadyQueue.bag l.queue)) c.args.operations.now l.operation-index c.loop-operation-test.false) ∙ l.invariant.1 }
