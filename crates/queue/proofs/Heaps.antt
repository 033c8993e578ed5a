-- What the calls of a heap of jobs do to its bag, from what they do to its pile.
use Rattle.std.proofs.Common.{◌≡◌, ℕ, ◌<◌, ◌≤◌, min, Bool, true, false, List, [], ◌∷◌, length, take, Some, Ok, Err, IsTrue, MatchBool, Result, sym, refl, ap, ◌∙◌, arith, MatchResult}
use Rattle.pile.specs.declared.pile.Pile.{Pile}
use Rattle.pile.specs.declared.refusal.PutRefusal.{PutRefusal}
use Rattle.pile.specs.Sorted.{sorted, first_of, without_first}
use Rattle.pile.specs.Piles.{places_of, bag_of, Put, Dropped, Replaced}
use Rattle.pile.proofs.Sorting.{sorted_sorted, insert_sooner}
use Rattle.queue.specs.declared.job.Job.{Job}
use Rattle.queue.specs.declared.heap.Heap.{Heap}
use Rattle.queue.specs.Jobs.{sooner, put_job, is_some_job, lowered, spent}
use Rattle.queue.specs.JobOrder.{sooner_total, lowered_sooner}
use Rattle.queue.specs.OfHeap.{heap_bag, heap_places, heap_count}
use Rattle.queue.proofs.Bags.{some_inj, some_job, no_job}
use Rattle.queue.proofs.Spending.{spent_one}

abbrev bag_in : {order : _} → Pile Job order → List Job
bag_in pile = bag_of sooner pile.area.now pile.count

pub count_is : (heap : Heap) (n : ℕ) → n ≡ heap.pile.count → n ≡ length (heap_bag heap)
count_is heap n e = e ∙ sym (heap_count heap)

-- a heap, and what its pile is after a call
module _ (heap : Heap) (after : Pile Job (record { before = sooner })) where
  pub heap_puts : (job : Job) (r : Result (Unit {0}) PutRefusal) →
      MatchResult r (λ _. Put sooner heap.pile.area.now heap.pile.count job after.area.now after.count) (λ _. (heap_places heap ≤ heap.pile.count) × (after ≡ heap.pile)) →
      MatchResult r (λ _. (length (heap_bag heap) < heap_places heap) × (bag_in after ≡ put_job job (heap_bag heap))) (λ _. (length (heap_bag heap) ≡ heap_places heap) × (bag_in after ≡ heap_bag heap))
  heap_puts job (Ok u) h = let n = heap_count heap in let f = h.free in (omega arith, h.bag)
  heap_puts job (Err e) h = let n = heap_count heap in let w = heap.pile.piled.within in let f = h.0 in (omega arith, ap bag_in h.1)

  pub put_places : (job : Job) (r : Result (Unit {0}) PutRefusal) →
      MatchResult r (λ _. Put sooner heap.pile.area.now heap.pile.count job after.area.now after.count) (λ _. (heap_places heap ≤ heap.pile.count) × (after ≡ heap.pile)) →
      places_of after.area.now ≡ heap_places heap
  put_places job (Ok u) h = ap (λ n. min n 65535) h.kept
  put_places job (Err e) h = ap (λ (p : Pile Job (record { before = sooner })). places_of p.area.now) h.1

  abbrev Drops : Bool → Type 0
  Drops r =
      MatchBool r (Dropped sooner heap.pile.area.now heap.pile.count after.area.now after.count)
      ((heap.pile.count ≡ 0) × (after ≡ heap.pile))

  -- there was nothing to drop or to replace
  nothing : heap.pile.count ≡ 0 → heap_bag heap ≡ []
  nothing none = let n = heap_count heap in no_job (heap_bag heap) (omega arith)

  pub drop_value : (r : Bool) → Drops r → r ≡ is_some_job (heap_bag heap)
  drop_value true h = let n = heap_count heap in let s = h.some in some_job (heap_bag heap) (omega arith)
  drop_value false h = sym (ap is_some_job (nothing h.0))

  pub drop_places : (r : Bool) → Drops r → places_of after.area.now ≡ heap_places heap
  drop_places true h = ap (λ n. min n 65535) h.kept
  drop_places false h = ap (λ (p : Pile Job (record { before = sooner })). places_of p.area.now) h.1

  module _ (job : Job) where
    abbrev Replaces : Bool → Type 0
    Replaces r =
        MatchBool r (Replaced sooner heap.pile.area.now heap.pile.count job after.area.now)
        ((heap.pile.count ≡ 0) × (after ≡ heap.pile))

    pub replace_value : (r : Bool) → Replaces r → r ≡ is_some_job (heap_bag heap)
    replace_value true h = let n = heap_count heap in let s = h.some in some_job (heap_bag heap) (omega arith)
    replace_value false h = sym (ap is_some_job (nothing h.0))

    pub replace_places : (r : Bool) → Replaces r → places_of after.area.now ≡ heap_places heap
    replace_places true h = ap (λ n. min n 65535) h.kept
    replace_places false h = ap (λ (p : Pile Job (record { before = sooner })). places_of p.area.now) h.1

  -- the first job, with a slot less, in its own place
  pub spend_bag : (r : Bool) (job : Job) → Some job ≡ first_of (heap_bag heap) → 1 < job.left → (IsTrue r → bag_in after ≡ put_job (lowered job) (without_first (heap_bag heap))) → Replaces (lowered job) r → bag_in after ≡ spent (heap_bag heap)
  spend_bag false job e more replaced h = absurd (let q = e ∙ ap first_of (nothing h.0) in let z : ◌≡◌ {A = ℕ} 0 1 = cc in omega arith)
  spend_bag true job e more replaced h = go (heap_bag heap) refl e
    where
      ordered : sorted sooner (heap_bag heap) ≡ heap_bag heap
      ordered = sorted_sorted sooner sooner_total (take heap.pile.count heap.pile.area.now)

      go : (jobs : List Job) → heap_bag heap ≡ jobs → Some job ≡ first_of jobs → bag_in after ≡ spent (heap_bag heap)
      go [] q f = absurd (let z : ◌≡◌ {A = ℕ} 0 1 = cc in omega arith)
      go (first ∷ jobs) q f =
          let is : heap_bag heap ≡ job ∷ jobs = q ∙ ap (λ x. x ∷ jobs) (sym (some_inj job first f)) in
          replaced refl ∙ ap (λ b. put_job (lowered job) (without_first b)) is
          ∙ insert_sooner sooner sooner_total (lowered job) job jobs (lowered_sooner job more) (ap (sorted sooner) (sym is) ∙ ordered ∙ is)
          ∙ spent_one (heap_bag heap) job jobs is more

-- what each call of a heap needs
pub ruleset heap_spends = (replace_value, replace_places, spend_bag)

pub ruleset heap_drops = (drop_value, drop_places)
