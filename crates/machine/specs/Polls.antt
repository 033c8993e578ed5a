-- When a poll releases a job, and what the job is.
use Rattle.std.specs.Prelude.{ℕ, suc, ◌+◌, ◌-◌, ◌%◌, Bool, ◌&&◌, List, [], ◌∷◌, if◌then◌else◌, ◌==◌, nat_le}
use Rattle.queue.specs.declared.job.Job.{Job}
use Rattle.admission.specs.declared.table.Poll.{Poll}

-- a job is due so many slots after its release
abbrev pub relative_deadline : Poll → ℕ
relative_deadline poll = poll.period

-- releases are at phase + k × period
abbrev pub is_released : ℕ → Poll → Bool
is_released slot poll = nat_le poll.phase slot && (slot - poll.phase) % poll.period == 0

-- the job that poll number i releases at a slot
abbrev pub poll_job : ℕ → ℕ → Poll → Job
poll_job slot i poll = record { deadline = slot + relative_deadline poll; owner = i; left = poll.budget }

-- all jobs that are released at a slot, by polls that are numbered from i on
unfoldable pub jobs_at : ℕ → ℕ → List Poll → List Job
jobs_at slot i [] = []
jobs_at slot i (poll ∷ polls) = if is_released slot poll then poll_job slot i poll ∷ jobs_at slot (suc i) polls else jobs_at slot (suc i) polls
