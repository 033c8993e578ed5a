-- A pile without a first is empty, and stays as it was.
use Rattle.pile.proofs.Calls.{empty_bags}
use Rattle.pile.proofs.SamePile.{no_first, same_pile}
use Rattle.pile.proofs.pile.Pile.drop_first.Goals as goal

pub returns-in_default-clause-bag : goal.returns-in_default-clause-bag
returns-in_default-clause-bag g c =
    let pile = c.args.self.now in
    empty_bags g.T.Ranked.before pile.area.now c.drop_first.new.area pile.count (no_first pile c.in_default.ensures.drops.0)

pub returns-in_default-clause-drops : goal.returns-in_default-clause-drops
returns-in_default-clause-drops g c =
    let pile = c.args.self.now in
    let none = c.in_default.ensures.drops in
    (no_first pile none.0, same_pile pile c.drop_first.new.area _ none.1)
