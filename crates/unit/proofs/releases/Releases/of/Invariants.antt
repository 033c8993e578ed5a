-- The polls that the loop has passed have their first releases in the pile.
use Rattle.std.proofs.Common.{◌≡◌, ◌≤◌, take, length}
use Rattle.pile.specs.Sorted.{sorted}
use Rattle.admission.specs.Contents.{contents}
use Rattle.unit.specs.ReleaseOrder.{earlier}
use Rattle.unit.specs.Releases.{releases_of, next_releases}
use Rattle.unit.proofs.releases.Releases.of.Given as goal

abbrev pub invariant-loop-poll : goal.invariant-loop-poll
invariant-loop-poll l = record {
  passed : releases_of l.releases ≡ sorted earlier (next_releases 0 0 (take l.poll (contents l.table).polls));
  within : l.poll ≤ length (contents l.table).polls;
  count : l.releases.count ≡ l.poll;
}
