-- The lane's rule: what deadline a request gets, and how many a lane may have ahead.
use Rattle.std.specs.Prelude.{ℕ, ◌+◌, ◌-◌, ◌*◌, ◌/◌, max, List, if◌then◌else◌, nat_lt, slice_index}
use Rattle.queue.specs.declared.job.Job.{Job}
use Rattle.admission.specs.declared.table.Lane.{Lane}
use Rattle.admission.specs.Sums.{sum_of}
use Rattle.machine.specs.Limits.{first_lane}

-- how far a budget reaches: budget × span / quota, rounded up to whole slots
abbrev pub reach : Lane → ℕ → ℕ
reach lane budget = (budget * lane.span + (lane.quota - 1)) / lane.quota

-- a lane's clock, from its accepted deadlines, the newest first: the last of them, or 0
abbrev pub clock_of : List ℕ → ℕ
clock_of recent = slice_index recent 0

-- the clock after a request at a slot: it goes on from the later of the slot and the clock
abbrev pub advance : Lane → ℕ → ℕ → ℕ → ℕ
advance lane slot clock budget = max slot clock + reach lane budget

-- the deadline that a clock shows
abbrev pub due_at : Lane → ℕ → ℕ
due_at lane clock = clock

abbrev pub lane_owner : ℕ → ℕ
lane_owner j = first_lane + j

-- the job of a request in lane number j
abbrev pub lane_job : ℕ → ℕ → ℕ → Job
lane_job j deadline budget = record { deadline = deadline; owner = lane_owner j; left = budget }

-- how many of these deadlines lie past the slot
abbrev pub ahead : ℕ → List ℕ → ℕ
ahead slot recent = sum_of (λ deadline. if nat_lt slot deadline then 1 else 0) recent
