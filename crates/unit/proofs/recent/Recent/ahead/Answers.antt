-- The library counts what the definition adds up.
use Rattle.std.proofs.Common.{◌≡◌, take, nat_lt, ◌∙◌, rules}
use Rattle.std.specs.List.{count_by}
use Rattle.unit.proofs.Counting.{counted}
use Rattle.unit.proofs.recent.Recent.ahead.Goals as goal

pub returns : goal.returns
returns c =
    let past : c.count.result ≡ count_by (λ deadline. nat_lt c.args.slot deadline) (take c.args.self.now.count c.args.self.now.deadlines) = search rules in
    record { value = past ∙ counted _ _ }
