-- An unopened unit has no polls, and its pile no releases.
use Rattle.std.proofs.Common.{refl, sym, ap, ◌∙◌, arith}
use Rattle.pile.specs.Sorted.{sorted}
use Rattle.unit.specs.ReleaseOrder.{earlier}
use Rattle.unit.specs.Releases.{next_releases}
use Rattle.unit.proofs.Piling.{none_passed}
use Rattle.unit.proofs.unit.Unit.new.Goals as goal

pub invariant_of-result : goal.invariant_of-result
invariant_of-result g c = record {
  early = omega arith;
  not_last = λ _. omega arith;
  lanes = refl;
  in_step = c.new-3.ensures.value ∙ sym none_passed ∙ ap (λ table. sorted earlier (next_releases 0 0 table.polls)) (sym c.new.ensures.value);
}
