-- What a row of jobs means as a ready queue.
use Rattle.std.specs.Prelude.{◌≡◌, ℕ, List, length, take}
use Rattle.std.proofs.Common.{◌∙◌, arith, length-take-le}
use Rattle.pile.specs.Piles.{places_of, bag_of}
use Rattle.pile.proofs.Inserting.{length_sorted}
use Rattle.pile.proofs.Sorting.{sorted_sorted}
use Rattle.queue.specs.declared.job.Job.{Job}
use Rattle.queue.specs.declared.row.Row.{Row}
use Rattle.queue.specs.Jobs.{sooner}
use Rattle.queue.specs.JobOrder.{sooner_total}
use Rattle.queue.specs.Sound.{Sound}

abbrev pub row_bag : Row → List Job
row_bag row = bag_of sooner row.area.now row.count

abbrev pub row_places : Row → ℕ
row_places row = places_of row.area.now

pub row_count : (row : Row) → length (row_bag row) ≡ row.count
row_count row =
    let w = row.within in
    length_sorted sooner (take row.count row.area.now) ∙ length-take-le row.count row.area.now (omega arith)

pub row_sound : (row : Row) → Sound (row_bag row) (row_places row)
row_sound row =
    let n = row_count row in
    let w = row.within in
    record { fits = omega arith; few = omega arith; ordered = sorted_sorted sooner sooner_total (take row.count row.area.now) }
