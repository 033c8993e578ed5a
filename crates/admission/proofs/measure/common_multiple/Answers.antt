-- The common measure is that of the definition, and so is the multiple.
use Rattle.std.proofs.Common.{◌≡◌, ℕ, ◌*◌, ◌/◌, sym, ap, subst}
use Rattle.admission.specs.Measure.{measure_of, multiple_of, LeastCommonMultiple}
use Rattle.admission.proofs.Measures.{multiple_least}
use Rattle.admission.proofs.measure.common_multiple.Goals as goal

same : (slots length measure : ℕ) → measure ≡ measure_of slots length → slots / measure * length ≡ multiple_of slots length
unfolding multiple_of
same slots length measure is = ap (λ g. slots / g * length) is

pub returns-clause-value : goal.returns-clause-value
returns-clause-value c = same _ _ _ c.common_measure.ensures.value

pub returns-clause-least : goal.returns-clause-least
returns-clause-least c = subst (LeastCommonMultiple _ _) (sym (same _ _ _ c.common_measure.ensures.value)) (multiple_least _ _ c.args.cycle.some)
