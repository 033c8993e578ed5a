-- A refused put leaves the area, and so the pile, as it was.
use Rattle.std.proofs.lemmas.Result.{MatchResult-from_err}
use Rattle.pile.proofs.SamePile.{same_pile}
use Rattle.pile.proofs.pile.Pile.put.Goals as goal

pub returns-in_err-self-clause-puts : goal.returns-in_err-self-clause-puts
returns-in_err-self-clause-puts g c =
    let refused = c.in_err-self.ensures.puts in
    MatchResult-from_err c.from_residual.result _ _ c.from_residual.ensures.0 (λ _. (refused.0, same_pile c.args.self.now c.put.new.area _ refused.1))
