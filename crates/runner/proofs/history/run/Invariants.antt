-- So many calls are made and answered; the token in hand is that of the open slot.
use Rattle.std.proofs.Common.{◌≡◌, IfSome, is_some, take, drop}
use Rattle.admission.specs.Contents.{contents}
use Rattle.machine.specs.Machine.{set_up}
use Rattle.unit.specs.Meaning.{meaning}
use Rattle.runner.specs.Running.{machine_after, answers_to, OfSlot}
use Rattle.runner.proofs.history.run.Given as goal

abbrev pub invariant-loop-i : goal.invariant-loop-i
invariant-loop-i g l =
    let m = set_up (g.Q.ReadyQueue.places l.fn.unit.queue) (contents l.fn.table) l.fn.number in
    record {
      answers : take l.i l.answers ≡ answers_to m (take l.i l.calls);
      rest : drop l.i l.answers ≡ drop l.i l.fn.answers;
      machine : meaning g.Q.ReadyQueue.bag g.Q.ReadyQueue.places l.unit ≡ machine_after m (take l.i l.calls);
      held : is_some l.held ≡ l.unit.is_open;
      own : IfSome l.held (λ token. OfSlot (meaning g.Q.ReadyQueue.bag g.Q.ReadyQueue.places l.unit) token);
      whose : g.Q.ReadyQueue.whose l.unit.queue ≡ g.Q.ReadyQueue.whose l.fn.unit.queue;
    }
