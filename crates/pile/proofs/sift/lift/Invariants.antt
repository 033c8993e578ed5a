-- The hole rises: with `element` in it, only the hole may come before its parent.
use Rattle.pile.proofs.Holes.{Lifting}
use Rattle.pile.proofs.sift.lift.Given as goal

abbrev pub invariant-loop-hole : goal.invariant-loop-hole
invariant-loop-hole g l = Lifting g.T.Ranked.before l.initial.area l.place l.element l.area l.hole

abbrev pub decreases-loop-hole : goal.decreases-loop-hole
decreases-loop-hole g l = l.hole
