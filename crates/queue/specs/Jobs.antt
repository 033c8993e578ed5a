-- Jobs: which of two runs first, and what the calls of a ready queue do to a bag of jobs.
use Rattle.std.specs.Prelude.{◌-◌, Bool, true, false, if◌then◌else◌, List, [], ◌∷◌, nat_le}
use Rattle.pile.specs.Order.{by, by_then}
use Rattle.pile.specs.Sorted.{insert}
use Rattle.queue.specs.declared.job.Job.{Job}

-- THE ORDER OF JOBS: by deadline, then owner, then slots left. Nothing above knows more of it than its laws (JobOrder): it is
-- total, what runs sooner is due no later, and a job with a slot less runs sooner.
unfoldable pub sooner : Job → Job → Bool
sooner = by_then (λ job. job.deadline) (by_then (λ job. job.owner) (by (λ job. job.left)))

-- a bag with a job more
abbrev pub put_job : Job → List Job → List Job
put_job job jobs = insert sooner job jobs

abbrev pub is_some_job : List Job → Bool
is_some_job [] = false
is_some_job (job ∷ jobs) = true

-- a job with a slot less
abbrev pub lowered : Job → Job
lowered job = record { deadline = job.deadline; owner = job.owner; left = job.left - 1 }

-- the first job has a slot less; one that had at most one left has gone
abbrev pub spent : List Job → List Job
spent [] = []
spent (job ∷ jobs) = if nat_le job.left 1 then jobs else lowered job ∷ jobs
