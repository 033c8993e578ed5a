-- What the calls of a row of jobs do to its bag.
use Rattle.std.proofs.Common.{◌≡◌, ℕ, ◌+◌, ◌-◌, ◌<◌, ◌≤◌, true, [], ◌∷◌, length, get_or, take, set, Some, sym, ap, ◌∙◌, subst, ⊎_elim, arith, length-set, length-take-le, get_or-take}
use Rattle.std.specs.List.{slice_get}
use Rattle.std.proofs.lemmas.Bool.{cases_eq}
use Rattle.std.proofs.lemmas.List.{get_or_default}
use Rattle.std.proofs.lemmas.Option.{slice_get-get_or}
use Rattle.pile.specs.Sorted.{first_of, without_first}
use Rattle.pile.specs.Piles.{places_of, bag_of}
use Rattle.queue.specs.declared.job.Job.{Job}
use Rattle.queue.specs.declared.row.Row.{Row}
use Rattle.queue.specs.Falling.{Falling}
use Rattle.queue.specs.Jobs.{sooner, is_some_job, lowered, spent}
use Rattle.queue.specs.JobOrder.{sooner_total, lowered_sooner}
use Rattle.queue.specs.OfRow.{row_bag, row_count}
use Rattle.queue.proofs.Bags.{some_job, no_job}
use Rattle.queue.proofs.Spending.{spent_last, spent_one}
use Rattle.queue.proofs.Rows.{row_first, falling_lower, row_lower}

-- what stands past a row
abbrev pub nobody : Job
nobody = record { deadline = 0; owner = 0; left = 0 }

module _ (row : Row) where
  pub count_is : (n : ℕ) → n ≡ row.count → n ≡ length (row_bag row)
  count_is n e = e ∙ sym (row_count row)

  pub row_none : row.count ≡ 0 → row_bag row ≡ []
  row_none e = let n = row_count row in no_job (row_bag row) (omega arith)

  pub row_some : 0 < row.count → true ≡ is_some_job (row_bag row)
  row_some some = let n = row_count row in some_job (row_bag row) (omega arith)

-- a row that is not empty, and the place of its last job
module _ (row : Row) (last : ℕ) (is : row.count ≡ last + 1) where
  -- the last job, which is the first of the bag
  abbrev first : Job
  first = get_or row.area.now last nobody

  inside : last < length row.area.now
  inside = let within = row.within in omega arith

  falling : Falling sooner row.area.now (last + 1)
  falling = subst (Falling sooner row.area.now) is row.falling

  pub row_is : row_bag row ≡ first ∷ bag_of sooner row.area.now last
  row_is = ap (bag_of sooner row.area.now) is ∙ row_first sooner sooner_total row.area.now last nobody inside falling

  pub drop_leaves : bag_of sooner row.area.now last ≡ without_first (row_bag row)
  drop_leaves = sym (ap without_first row_is)

  -- the last with a slot less, written over it
  module _ (more : 1 < first.left) where
    lowered_last : (d : Job) → sooner (lowered first) (get_or row.area.now last d) ≡ true
    lowered_last d = ap (sooner (lowered first)) (get_or_default row.area.now last d nobody inside) ∙ lowered_sooner first more

    pub spend_within : row.count ≤ places_of (set row.area.now last (lowered first))
    spend_within = let within = row.within in let len = length-set row.area.now last (lowered first) in omega arith

    pub spend_falling : Falling sooner (set row.area.now last (lowered first)) row.count
    spend_falling = subst (Falling sooner (set row.area.now last (lowered first))) (sym is) (falling_lower sooner sooner_total row.area.now last (lowered first) inside lowered_last falling)

    pub spend_lowers : bag_of sooner (set row.area.now last (lowered first)) row.count ≡ spent (row_bag row)
    spend_lowers =
        ap (bag_of sooner (set row.area.now last (lowered first))) is ∙ row_lower sooner sooner_total row.area.now last (lowered first) inside lowered_last falling
        ∙ spent_one (row_bag row) first _ row_is more

  pub spend_leaves : first.left ≤ 1 → bag_of sooner row.area.now last ≡ spent (row_bag row)
  spend_leaves few = drop_leaves ∙ spent_last (row_bag row) first _ row_is few

-- the last of a row is the first of its bag
pub first_is : (row : Row) → slice_get (take row.count row.area.now) (length (take row.count row.area.now) - 1) ≡ first_of (row_bag row)
first_is row =
    let within = row.within in
    let len : length (take row.count row.area.now) ≡ row.count = length-take-le row.count row.area.now (omega arith) in
    ⊎_elim
    (λ none. ap (λ n. slice_get (take n row.area.now) (length (take n row.area.now) - 1)) none ∙ sym (ap first_of (row_none row none)))
    (λ some.
    let is : row.count ≡ row.count - 1 + 1 = omega arith in
    ap (slice_get (take row.count row.area.now)) (let e : length (take row.count row.area.now) - 1 ≡ row.count - 1 = omega arith in e)
    ∙ slice_get-get_or (take row.count row.area.now) (row.count - 1) nobody (omega arith)
    ∙ ap Some (get_or-take row.count row.area.now (row.count - 1) nobody (omega arith))
    ∙ sym (ap first_of (row_is row (row.count - 1) is)))
    (cases_eq row.count 0)

-- what each call of a row needs
pub ruleset row_spends = (row_none, row_some, spend_within, spend_falling, spend_lowers, spend_leaves)

pub ruleset row_drops = (row_none, row_some, drop_leaves)
