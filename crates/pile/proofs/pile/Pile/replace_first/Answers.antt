-- A pile without a first is empty, and stays as it was.
use Rattle.pile.proofs.SamePile.{or_nothing_done}
use Rattle.pile.proofs.pile.Pile.replace_first.Goals as goal

pub returns-clause-replaces : goal.returns-clause-replaces
returns-clause-replaces g c = or_nothing_done c.args.self.now c.replace_first.new.area _ _ c.replace_first.result c.replace_first.ensures.replaces
