-- What a list of operations makes of a bag.
use Rattle.std.specs.Prelude.{ℕ, if◌then◌else◌, List, [], ◌∷◌, length, nat_lt}
use Rattle.pile.specs.Sorted.{without_first}
use Rattle.queue.specs.declared.job.Job.{Job}
use Rattle.queue.specs.Jobs.{put_job, spent}
use Rattle.queue_trial.specs.declared.clients.Operation.{Operation}
use Rattle.queue_trial.specs.declared.clients.Operation.TheVariants.{Put, Spend, DropFirst}

-- one operation on a bag with so many places
abbrev pub after_one : ℕ → List Job → Operation → List Job
after_one places bag (Put job) = if nat_lt (length bag) places then put_job job bag else bag
after_one places bag Spend = spent bag
after_one places bag DropFirst = without_first bag

unfoldable pub after_all : ℕ → List Job → List Operation → List Job
after_all places bag [] = bag
after_all places bag (operation ∷ operations) = after_all places (after_one places bag operation) operations
