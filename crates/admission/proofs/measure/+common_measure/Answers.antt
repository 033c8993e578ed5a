-- The library's two steps, to the end of the remainders.
use Rattle.std.proofs.Common.{rules}
use Rattle.std.proofs.lemmas.Nat.Gcd.{IsGcd-from_zero, IsGcd-from_mod}
use Rattle.admission.proofs.Measures.{measure_is}
use Rattle.admission.proofs.measure.+common_measure.Goals as goal

pub returns-then-b-eq0 : goal.returns-then-b-eq0
returns-then-b-eq0 t c = search (rules, IsGcd-from_zero, measure_is)

pub returns-else-b-eq0 : goal.returns-else-b-eq0
returns-else-b-eq0 t c = search (rules, IsGcd-from_mod, measure_is)
