-- What is remembered of the lane is the machine's, and so are the questions and the deadline.
use Rattle.std.proofs.Common.{◌≡◌, ◌+◌, ◌∷◌, length, take, set, max, sym, ap, ◌∙◌, arith}
use Rattle.admission.specs.Contents.{contents}
use Rattle.machine.specs.Lanes.{ahead, clock_of, reach}
use Rattle.machine.specs.Machine.{new_deadline}
use Rattle.machine.proofs.Questions.{Asked}
use Rattle.unit.specs.InTable.{InTable}
use Rattle.unit.specs.Meaning.{meaning}
use Rattle.unit.proofs.Requests.{remembered, written, was_put, was_full, queue_full, requested, answered_with}
use Rattle.unit.proofs.unit.Unit.request.Goals as goal

pub returns-then-is_err-clause-answer : goal.returns-then-is_err-clause-answer
returns-then-is_err-clause-answer g c =
    let unit = c.args.self.now in
    let machine = meaning g.Q.ReadyQueue.bag g.Q.ReadyQueue.places unit in
    let f : InTable unit.table c.args.lane c.in_ok-share.share = c.in_ok-share.ensures.found in
    let r = remembered unit.recents (length (contents unit.table).lanes) c.args.lane c.from-at.result c.index-self-at.result c.from-at.ensures f.within (omega arith) in
    let few = c.ahead.ensures.value ∙ ap (ahead unit.slot) (sym r) in
    let full = was_full _ _ c.put.result (sym c.is_err.ensures.value ∙ c.if-is_err.true) c.put.ensures.bag in
    queue_full machine.setup machine.state c.args.lane c.args.budget c.if-self.false f.within c.if-budget-eq0.false c.if-budget-gt-MOST_BUDGET.false (omega arith) full.0

pub returns : goal.returns
returns g c =
    let unit = c.args.self.now in
    let machine = meaning g.Q.ReadyQueue.bag g.Q.ReadyQueue.places unit in
    let lanes = (contents unit.table).lanes in
    let f : InTable unit.table c.args.lane c.in_ok-share.share = c.in_ok-share.ensures.found in
    let r = remembered unit.recents (length lanes) c.args.lane c.from-at.result c.index-self-at.result c.from-at.ensures f.within (omega arith) in
    let r' = remembered unit.recents (length lanes) c.args.lane c.from-at.result c.index-self-at-2.result c.from-at.ensures f.within (omega arith) in
    let few = c.ahead.ensures.value ∙ ap (ahead unit.slot) (sym r) in
    let put = was_put _ _ c.put.result (sym c.is_err.ensures.value ∙ c.if-is_err.false) c.put.ensures.bag in
    let asked : Asked machine.setup machine.state c.args.lane c.args.budget = record {
      shut = c.if-self.false;
      lane = f.within;
      some = (let n = c.if-budget-eq0.false in omega arith);
      most = c.if-budget-gt-MOST_BUDGET.false;
      few = omega arith;
      place = put.0;
    } in
    let due : c.deadline-deadline.result ≡ new_deadline machine.setup machine.state c.args.lane c.args.budget =
    c.deadline-deadline.ensures.value
    ∙ (λ i. max unit.slot (clock_of (sym r i)) + (c.reach.ensures.value ∙ ap (λ lane. reach lane c.args.budget) (sym (f.is (record { span = 0; quota = 0 })))) i) in
    record {
      meaning = requested machine.setup machine.state c.args.lane c.args.budget c.deadline-deadline.result _ _ _ asked due c.put.ensures.places put.1
          (written unit.recents (length lanes) c.args.lane c.from-at.result c.push.new.self c.from-at.ensures f.within
          ∙ ap (set machine.state.recent c.args.lane) (c.push.ensures.value ∙ ap (λ ds. take 8 (c.deadline-deadline.result ∷ ds)) (sym r')));
      answer = answered_with machine.setup machine.state c.args.lane c.args.budget c.deadline-deadline.result asked due;
      whose = c.put.ensures.whose;
    }
