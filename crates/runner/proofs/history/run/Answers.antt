-- At first no call is made; each turn makes one more, by what a step ensures.
use Rattle.std.proofs.Common.{◌+◌, ◌<◌, [], length, take, set, refl, sym, ap, ◌∙◌, arith}
use Rattle.std.proofs.lemmas.Grind.{common_steps}
use Rattle.admission.specs.Contents.{contents}
use Rattle.machine.specs.Machine.{set_up}
use Rattle.machine.specs.History.{answers_from, state_from}
use Rattle.unit.specs.Meaning.{meaning}
use Rattle.runner.proofs.Turns.{begins, machine_turn, answers_turn}
use Rattle.runner.proofs.history.run.Goals as goal

pub loop-i-init : goal.loop-i-init
unfolding answers_from state_from
loop-i-init g c =
    let unit = meaning g.Q.ReadyQueue.bag g.Q.ReadyQueue.places c.args.unit.now in
    let machine = c.open.ensures.meaning ∙ begins tt unit (contents c.args.table.now) c.args.number (sym c.open.ensures.answer ∙ c.in_ok-open.was) in
    record {
      answers = refl {a = []};
      rest = refl {a = c.args.answers.now};
      machine = machine;
      held = ap (λ m. m.state.is_open) (sym machine);
      own = tt;
      whose = c.open.ensures.whose;
    }

pub loop-i-preserved : goal.loop-i-preserved
loop-i-preserved g c =
    let m = set_up (g.Q.ReadyQueue.places c.args.unit.now.queue) (contents c.args.table.now) c.args.number in
    let unit = meaning g.Q.ReadyQueue.bag g.Q.ReadyQueue.places c.loop-i.unit in
    let before = c.loop-i.invariant in
    let known : c.loop-i.i < length c.args.calls.now = omega arith in
    let free : c.loop-i.i < length c.loop-i.answers = omega arith in
    record {
      answers = ap (λ told. take (c.loop-i.i + 1) (set c.loop-i.answers c.loop-i.i told)) c.step.ensures.answer
          ∙ answers_turn m c.args.calls.now c.loop-i.i _ known unit before.machine c.loop-i.answers free before.answers;
      rest = grind (arith, common_steps);
      machine = c.step.ensures.meaning ∙ machine_turn m c.args.calls.now c.loop-i.i _ known unit before.machine;
      held = c.step.ensures.held;
      own = c.step.ensures.own;
      whose = c.step.ensures.whose ∙ before.whose;
    }
