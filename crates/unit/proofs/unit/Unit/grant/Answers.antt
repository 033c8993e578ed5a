-- As many releases are due as the machine releases jobs, and those are the jobs that are put.
use Rattle.std.proofs.Common.{Ok, sym, refl, ap, ◌∙◌, arith}
use Rattle.std.proofs.lemmas.Bool.{leb-true, leb-false}
use Rattle.machine.specs.declared.call.Reply.TheVariants.{Granted}
use Rattle.machine.specs.Machine.{owner_of, deadline_of}
use Rattle.unit.specs.Releases.{releases_of}
use Rattle.unit.specs.Meaning.{meaning}
use Rattle.unit.proofs.Granting.{as_many, no_place, no_place_stays, granted, granted_answer}
use Rattle.unit.proofs.unit.Unit.grant.Goals as goal

pub returns-then-not-fit : goal.returns-then-not-fit
returns-then-not-fit g c =
    let unit = c.args.self.now in
    let machine = meaning g.Q.ReadyQueue.bag g.Q.ReadyQueue.places unit in
    let due = as_many (releases_of unit.releases) unit.table unit.slot unit.is_open c.if-self.false unit.in_step in
    let many = leb-false _ _ (sym c.fit.ensures.value ∙ c.if-not-fit.true) in
    record {
      meaning = no_place_stays machine.setup machine.state c.if-not-self.false c.if-self.false (omega arith) (omega arith);
      answer = no_place machine.setup machine.state c.if-not-self.false c.if-self.false (omega arith) (omega arith);
      whose = refl;
    }

pub release-requires-clause-places : goal.release-requires-clause-places
release-requires-clause-places g c =
    let unit = c.args.self.now in
    let due = as_many (releases_of unit.releases) unit.table unit.slot unit.is_open c.if-self.false unit.in_step in
    let few = leb-true _ _ (sym c.fit.ensures.value ∙ c.if-not-fit.false) in
    let sound = (g.Q.ReadyQueue.sound unit.queue).fits in
    omega arith

pub returns : goal.returns
returns g c =
    let unit = c.args.self.now in
    let machine = meaning g.Q.ReadyQueue.bag g.Q.ReadyQueue.places unit in
    let due = as_many (releases_of unit.releases) unit.table unit.slot unit.is_open c.if-self.false unit.in_step in
    let few = leb-true _ _ (sym c.fit.ensures.value ∙ c.if-not-fit.false) in
    let sound = (g.Q.ReadyQueue.sound unit.queue).fits in
    record {
      meaning = granted machine.setup machine.state _ _ c.if-not-self.false c.if-self.false (omega arith) (omega arith) c.release.ensures.places c.release.ensures.bag;
      answer =
          ap (λ token. Ok (Granted token.unit token.slot token.owner token.deadline)) c.new.ensures.value
          ∙ granted_answer machine.setup machine.state (g.Q.ReadyQueue.bag c.release.new.queue) _ _ c.if-not-self.false c.if-self.false (omega arith) (omega arith) c.release.ensures.bag (ap owner_of c.first-first.ensures.value) (ap deadline_of c.first-first.ensures.value);
      whose = c.release.ensures.whose;
    }
