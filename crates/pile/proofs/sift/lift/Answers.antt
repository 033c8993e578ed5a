-- Each turn swaps the hole with its parent; it ends at the top or under a parent that does not come after `element`.
use Rattle.std.proofs.Common.{ℕ, ◌-◌, ◌/◌, ◌<◌, length, sym, ap, ◌∙◌, arith}
use Rattle.std.proofs.lemmas.List.{get_or_read}
use Rattle.pile.proofs.Holes.{lifting_steps, lifting_ends}
use Rattle.pile.proofs.sift.lift.Goals as goal
use Rattle.pile.proofs.sift.lift.Goals.{else-loop-hole-test, then-loop-hole-test+then-not-is_before}

pub loop-hole-preserved : goal.loop-hole-preserved
loop-hole-preserved g c =
    let l = c.loop-hole in
    let i = l.invariant in
    let up : ℕ = (l.hole - 1) / 2 in
    let up_in : up < length l.area = omega arith in
    let moved = get_or_read l.area up c.index-area-parent-in-loop-hole.result up_in c.index-area-parent-in-loop-hole.is in
    let before = g.T.Ranked.before in
    lifting_steps before g.met.T.Ranked.total c.args.area.now c.args.place c.args.element l.area l.hole c.index-area-parent-in-loop-hole.result
    c.requires c.loop-hole-test.true moved
    (ap (before c.args.element) (moved c.index-area-parent.result) ∙ sym c.if-not-is_before.ensures) i

pub returns : goal.returns
returns g c =
    let l = c.loop-hole in
    let i = l.invariant in
    record {
      lifts = lifting_ends g.T.Ranked.before c.args.area.now c.args.place c.args.element l.area l.hole c.requires
          (λ d z. elim c.loop-hole-test.branch [
            | else-loop-hole-test w ↦ absurd (let t = w.loop-hole-test.false in omega arith)
            | then-loop-hole-test+then-not-is_before w ↦
                let up_in : (l.hole - 1) / 2 < length l.area = omega arith in
                ap (g.T.Ranked.before c.args.element) (sym (get_or_read l.area ((l.hole - 1) / 2) w.index-area-parent.result up_in w.index-area-parent.is d) ∙ w.index-area-parent.is)
                ∙ sym w.if-not-is_before.ensures
          ])
          i;
    }
