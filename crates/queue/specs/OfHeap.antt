-- What a heap of jobs means as a ready queue.
use Rattle.std.specs.Prelude.{◌≡◌, ℕ, List, length, take}
use Rattle.std.proofs.Common.{◌∙◌, arith, length-take-le}
use Rattle.pile.specs.Piles.{places_of, bag_of}
use Rattle.pile.proofs.Inserting.{length_sorted}
use Rattle.pile.proofs.Sorting.{sorted_sorted}
use Rattle.queue.specs.declared.job.Job.{Job}
use Rattle.queue.specs.declared.heap.Heap.{Heap}
use Rattle.queue.specs.Jobs.{sooner}
use Rattle.queue.specs.Sound.{Sound}
use Rattle.queue.specs.JobOrder.{sooner_total}

-- the jobs of its pile
abbrev pub heap_bag : Heap → List Job
heap_bag heap = bag_of sooner heap.pile.area.now heap.pile.count

-- the places of its area
abbrev pub heap_places : Heap → ℕ
heap_places heap = places_of heap.pile.area.now

pub heap_count : (heap : Heap) → length (heap_bag heap) ≡ heap.pile.count
heap_count heap =
    let within = heap.pile.piled.within in
    length_sorted sooner (take heap.pile.count heap.pile.area.now) ∙ length-take-le heap.pile.count heap.pile.area.now (omega arith)

pub heap_sound : (heap : Heap) → Sound (heap_bag heap) (heap_places heap)
heap_sound heap =
    let n = heap_count heap in
    let within = heap.pile.piled.within in
    record { fits = omega arith; few = omega arith; ordered = sorted_sorted sooner sooner_total (take heap.pile.count heap.pile.area.now) }
