-- In a falling row the jobs that run no sooner stand first, so the job belongs behind them.
use Rattle.std.proofs.Common.{◌≤◌, length-take-le, arith, rules}
use Rattle.std.proofs.lemmas.List.Sorted.{IsPartitionPoint-from_clause}
use Rattle.queue.specs.Jobs.{sooner}
use Rattle.queue.specs.JobOrder.{sooner_total}
use Rattle.queue.proofs.Rows.{no_sooner, parted, belongs, inserted}
use Rattle.queue.proofs.row.insert.insert.Goals as goal

pub returns-clause-inserts : goal.returns-clause-inserts
returns-clause-inserts c =
    let xs = c.args.area.now in
    let n = c.args.count in
    let job = c.args.job in
    let place = c.partition_point-place in
    let moves = c.copy_within.ensures in
    let taken = length-take-le n xs (omega arith) in
    let low : place.result ≤ n = omega arith in
    inserted sooner sooner_total xs c.copy_within.new.self n place.result job c.requires low moves.after moves.len moves.by_index.0 moves.by_index.1
    (λ falling. belongs sooner sooner_total xs n job place.result (omega arith) low
    (IsPartitionPoint-from_clause (no_sooner sooner sooner_total job) _ _ place.ensures.partitioned (parted sooner sooner_total xs n job (omega arith) falling) (λ a r q k. search rules)))
