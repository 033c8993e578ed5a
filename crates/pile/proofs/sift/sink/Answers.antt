-- Each turn swaps the hole with its least child; from the bottom `element` is lifted.
use Rattle.std.proofs.Common.{◌≡◌, ℕ, ◌+◌, ◌-◌, ◌<◌, ◌≤◌, length, get_or, ap, ◌∙◌, arith}
use Rattle.std.proofs.lemmas.List.{get_or_read}
use Rattle.pile.proofs.Holes.{sinking_steps, sinking_ends}
use Rattle.pile.proofs.Sorting.{never}
use Rattle.pile.proofs.sift.sink.Goals as goal
use Rattle.pile.proofs.sift.sink.Goals.{then-hole-count, else-hole-count}

pub loop-hole-preserved : goal.loop-hole-preserved
loop-hole-preserved g c =
    let l = c.loop-hole in
    let i = l.invariant in
    let child = c.least_child-child.ensures.least in
    let t = c.loop-hole-test.true in
    let in' : c.least_child-child.result < length l.area = omega arith in
    sinking_steps g.T.Ranked.before g.met.T.Ranked.total c.args.area.now c.args.count c.args.element l.area l.hole c.least_child-child.result
    c.index-area-child.result c.requires.within child.from child.to (omega arith) (λ k d a b m. child.least k d a b)
    (get_or_read l.area c.least_child-child.result c.index-area-child.result in' c.index-area-child.is) i

pub returns : goal.returns
returns g c =
    let l = c.loop-hole in
    let i = l.invariant in
    let t = c.loop-hole-test.false in
    let before = g.T.Ranked.before in
    let old = c.args.area.now in
    let n = c.args.count in
    let x = c.args.element in
    let up = c.lift.ensures.lifts in
    elim c.if-hole-count.branch [
      | then-hole-count w ↦
          let u = w.if-hole-count.true in
          let in' : n - 1 < length l.area = omega arith in
          let is = get_or_read l.area (n - 1) w.index-area-last.result in' w.index-area-last.is in
          let same : (k : ℕ) → l.hole + l.hole + 1 ≤ k → k < n → k ≡ n - 1 = λ k a b. omega arith in
          let next = sinking_steps before g.met.T.Ranked.total old n x l.area l.hole (n - 1) w.index-area-last.result c.requires.within (omega arith) (omega arith) (omega arith)
          (λ k d a b m. ap (λ j. before (get_or l.area j d) (get_or l.area (n - 1) d)) (same k a m) ∙ never before g.met.T.Ranked.total _) is i in
          record { sinks = sinking_ends before old n x c.if-hole-count.area c.if-hole-count.hole c.lift.new.area c.requires.within (omega (arith, w.hole-is)) up (rw (w.area-is, w.hole-is) next) }
      | else-hole-count w ↦
          let u = w.if-hole-count.false in
          record { sinks = sinking_ends before old n x c.if-hole-count.area c.if-hole-count.hole c.lift.new.area c.requires.within (omega (arith, w.hole-is)) up (rw (w.area-is, w.hole-is) i) }
    ]
