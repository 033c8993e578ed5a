-- What holds of every ready queue.
use Rattle.std.specs.Prelude.{◌≡◌, ℕ, ◌≤◌, List, length}
use Rattle.pile.specs.Sorted.{sorted}
use Rattle.pile.specs.Piles.{most_places}
use Rattle.queue.specs.declared.job.Job.{Job}
use Rattle.queue.specs.Jobs.{sooner}

pub record Sound (bag : List Job) (places : ℕ) : Type 0 where
  -- no more jobs than places
  pub fits : length bag ≤ places
  -- at most 65,535 places
  pub few : places ≤ most_places
  -- the jobs stand in order
  pub ordered : sorted sooner bag ≡ bag
