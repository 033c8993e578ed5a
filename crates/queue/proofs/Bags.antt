-- Whether a bag has a job, by its count.
use Rattle.std.proofs.Common.{◌≡◌, ◌<◌, true, List, [], ◌∷◌, length, Some, refl, arith}
use Rattle.queue.specs.declared.job.Job.{Job}
use Rattle.queue.specs.Jobs.{is_some_job}

pub some_inj : (x y : Job) → Some x ≡ Some y → x ≡ y
some_inj x y e = cc

pub some_job : (jobs : List Job) → 0 < length jobs → true ≡ is_some_job jobs
some_job [] h = absurd (omega arith)
some_job (job ∷ jobs) h = refl

pub no_job : (jobs : List Job) → length jobs ≡ 0 → jobs ≡ []
no_job [] e = refl
no_job (job ∷ jobs) e = absurd (omega arith)
