-- The last is written over the first and sinks; an only one just leaves.
use Rattle.std.proofs.Common.{◌-◌, ◌<◌, length, arith}
use Rattle.std.proofs.lemmas.List.{get_or_read}
use Rattle.pile.proofs.Calls.{drops, drops_only}
use Rattle.pile.proofs.area.drop_first.Goals as goal

pub returns-then-fallen-gt0 : goal.returns-then-fallen-gt0
returns-then-fallen-gt0 g c =
    let xs = c.args.area.now in
    let n = c.args.count in
    let in' : n - 1 < length xs = omega arith in
    record {
      drops = drops g.T.Ranked.before g.met.T.Ranked.total xs c.sink.new.area n (n - 1) c.index-area-fallen.result (omega arith) (omega arith) c.sink.auto.area
          (get_or_read xs (n - 1) c.index-area-fallen.result in' c.index-area-fallen.is) c.sink.ensures.sinks;
    }

pub returns-else-fallen-gt0 : goal.returns-else-fallen-gt0
returns-else-fallen-gt0 g c = record {
  drops = drops_only g.T.Ranked.before g.met.T.Ranked.total c.args.area.now c.args.count (c.args.count - 1) (omega arith) (omega arith);
}
