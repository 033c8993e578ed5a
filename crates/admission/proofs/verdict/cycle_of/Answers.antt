-- The cycle grows to the common multiple, which is still some, and the other records decide.
use Rattle.std.proofs.Common.{◌<◌, refl, sym, ◌∙◌, subst, arith}
use Rattle.admission.proofs.Adding.{sized_more, cycle_more}
use Rattle.admission.proofs.Measures.{multiple_pos}
use Rattle.admission.proofs.verdict.cycle_of.Goals as goal

pub loop-record-preserved : goal.loop-record-preserved
loop-record-preserved c =
    let h = sized_more _ _ _ c.loop-record-test.true _ _ c.length_of.ensures.value refl c.loop-record.invariant.2 in
    let some = multiple_pos c.loop-record.slots c.length_of.result c.loop-record.invariant.0 h.0.some in (
      subst (λ n. 0 < n) (sym c.common_multiple-grown.ensures.value) some,
      omega arith,
      h.1,
      sym (cycle_more _ _ _ c.loop-record-test.true _ _ _ c.length_of.ensures.value c.common_multiple-grown.ensures.value (omega arith)) ∙ c.loop-record.invariant.3,
    )
