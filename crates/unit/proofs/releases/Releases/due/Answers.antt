-- The library counts the pile's places, and their count is that of its bag.
use Rattle.std.proofs.Common.{◌≡◌, ◌==◌, take, sym, ◌∙◌, rules}
use Rattle.std.specs.List.{count_by}
use Rattle.unit.proofs.Counting.{counted}
use Rattle.unit.proofs.Releasing.{due_sorted}
use Rattle.unit.proofs.releases.Releases.due.Goals as goal

pub returns : goal.returns
returns c =
    let releases = c.args.self.now in
    let due : c.count.result ≡ count_by (λ release. release.slot == c.args.slot) (take c.args.self.now.count c.args.self.now.area) = search rules in
    record { value = due ∙ counted _ _ ∙ sym (due_sorted c.args.slot (take releases.count releases.area)) }
