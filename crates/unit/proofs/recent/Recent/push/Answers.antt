-- The places are turned by one, and the first is written.
use Rattle.std.proofs.Common.{subst, sym, ◌∙◌, arith}
use Rattle.std.proofs.lemmas.List.{length-set}
use Rattle.unit.specs.Recents.{Chained}
use Rattle.unit.proofs.Recents.{pushed, chained_push}
use Rattle.unit.proofs.recent.Recent.push.Goals as goal

pub invariant_of-self : goal.invariant_of-self
invariant_of-self c =
    let recent = c.args.self.now in
    let written = pushed recent.deadlines c.rotate_right.new.self recent.count c.min-self.result c.args.deadline recent.size recent.within c.rotate_right.ensures.after c.min-self.ensures in
    record {
      size = length-set c.rotate_right.new.self 0 c.args.deadline ∙ c.rotate_right.ensures.len ∙ recent.size;
      within = omega arith;
      chained = subst Chained (sym written) (chained_push _ _ recent.chained c.requires.near);
    }

pub returns : goal.returns
returns c =
    let recent = c.args.self.now in
    record { value = pushed recent.deadlines c.rotate_right.new.self recent.count c.min-self.result c.args.deadline recent.size recent.within c.rotate_right.ensures.after c.min-self.ensures }
