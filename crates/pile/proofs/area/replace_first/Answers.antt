-- The element is written over the first, and sinks if it comes after it.
use Rattle.std.proofs.Common.{◌<◌, length, sym, ap, ◌∙◌, arith}
use Rattle.std.proofs.lemmas.List.{get_or_read}
use Rattle.pile.proofs.Calls.{replaces_late, replaces_early}
use Rattle.pile.proofs.area.replace_first.Goals as goal

pub returns-then-is_before : goal.returns-then-is_before
returns-then-is_before g c = record {
  replaces = replaces_late g.T.Ranked.before g.met.T.Ranked.total c.args.area.now c.sink.new.area c.args.count c.args.element (omega arith) (omega arith) c.sink.auto.area c.sink.ensures.sinks;
}

pub returns-else-is_before : goal.returns-else-is_before
returns-else-is_before g c =
    let xs = c.args.area.now in
    let in' : 0 < length xs = omega arith in
    let before = g.T.Ranked.before in
    record {
      replaces = replaces_early before g.met.T.Ranked.total xs c.args.count c.args.element (omega arith) (omega arith)
          (λ d. ap (λ y. before y c.args.element) (sym (get_or_read xs 0 c.index-area-0.result in' c.index-area-0.is d) ∙ c.index-area-0.is) ∙ sym c.if-is_before.ensures);
    }
