-- What the questions have shown makes the machine that is set up, and its history keeps the promises.
use Rattle.std.proofs.Common.{◌+◌, ◌<◌, ◌≤◌, length, arith}
use Rattle.admission.specs.Contents.{contents}
use Rattle.machine.specs.Machine.{places_for}
use Rattle.unit.specs.Meaning.{meaning}
use Rattle.unit.proofs.Opening.{opened, none_remembered, few_lanes, promises}
use Rattle.unit.proofs.unit.Unit.open.Goals as goal
use Rattle.unit.proofs.unit.Unit.open.Goals.{else-polls-eq0-via-then-polls-eq0+else-lanes-eq0, else-polls-eq0-via-else-polls-eq0}

pub returns-clause-meaning : goal.returns-clause-meaning
returns-clause-meaning g c =
    let table = contents c.args.table.now in
    let machine = meaning g.Q.ReadyQueue.bag g.Q.ReadyQueue.places c.args.self.now in
    let p = c.poll_count-polls.ensures.value in
    let l = c.lane_count-lanes.ensures.value in
    let q = c.places.ensures.value in
    let n = c.count.ensures.value in
    let some : 0 < length table.polls + length table.lanes = elim c.else-polls-eq0.branch [
      | else-polls-eq0-via-then-polls-eq0+else-lanes-eq0 w ↦ let k = w.if-lanes-eq0.false in omega arith
      | else-polls-eq0-via-else-polls-eq0 w ↦ let k = w.if-polls-eq0.false in omega arith
    ] in
    let roomy : places_for table ≤ machine.setup.places = omega arith in
    opened machine table c.args.unit _ some (omega arith) roomy c.if-self.false (none_remembered c.new-self.result c.new-self.ensures.value table.lanes 8 (few_lanes c.args.table.now))

pub returns-clause-promises : goal.returns-clause-promises
returns-clause-promises g c =
    let p = c.poll_count-polls.ensures.value in
    let l = c.lane_count-lanes.ensures.value in
    let q = c.places.ensures.value in
    promises c.args.table.now (g.Q.ReadyQueue.places c.args.self.now.queue) c.args.unit (omega arith)
