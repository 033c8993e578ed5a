-- The hole sinks: with `element` in it, the area is a heap around the hole.
use Rattle.std.proofs.Common.{◌-◌}
use Rattle.pile.proofs.Holes.{Sinking}
use Rattle.pile.proofs.sift.sink.Given as goal

abbrev pub invariant-loop-hole : goal.invariant-loop-hole
invariant-loop-hole g l = Sinking g.T.Ranked.before l.initial.area l.count l.element l.area l.hole

abbrev pub decreases-loop-hole : goal.decreases-loop-hole
decreases-loop-hole g l = l.count - l.hole
