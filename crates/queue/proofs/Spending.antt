-- What spending does to a bag whose first job is known.
use Rattle.std.proofs.Common.{◌≡◌, ◌<◌, ◌≤◌, cond, List, ◌∷◌, sym, ap, ◌∙◌}
use Rattle.std.proofs.lemmas.Bool.{le-leb, lt-leb}
use Rattle.pile.specs.Sorted.{without_first}
use Rattle.queue.specs.declared.job.Job.{Job}
use Rattle.queue.specs.Jobs.{lowered, spent}

module _ (bag : List Job) (job : Job) (jobs : List Job) (is : bag ≡ job ∷ jobs) where
  -- it had at most one slot left, and goes
  pub spent_last : job.left ≤ 1 → without_first bag ≡ spent bag
  spent_last h = ap without_first is ∙ sym (ap spent is ∙ ap (λ b. cond b jobs (lowered job ∷ jobs)) (le-leb job.left 1 h))

  -- it had more, and stays with one less
  pub spent_one : 1 < job.left → lowered job ∷ jobs ≡ spent bag
  spent_one h = sym (ap spent is ∙ ap (λ b. cond b jobs (lowered job ∷ jobs)) (lt-leb job.left 1 h))
