-- The element is written behind the heap and lifted.
use Rattle.std.proofs.Common.{arith}
use Rattle.pile.proofs.Calls.{puts}
use Rattle.pile.proofs.area.put.Goals as goal

pub returns : goal.returns
returns g c = record {
  puts = puts g.T.Ranked.before g.met.T.Ranked.total c.args.area.now c.lift.new.area c.args.count c.args.element (omega arith) c.lift.auto.area c.lift.ensures.lifts;
}
