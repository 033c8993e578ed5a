-- THE PLAIN MACHINE: what a unit is, and what each call does to it. A call asks its questions in their order; the first no
-- refuses it, and a refused call changes nothing.
use Rattle.std.specs.Prelude.{ℕ, suc, ◌+◌, ◌*◌, Bool, true, false, not, ◌&&◌, ◌||◌, List, [], ◌∷◌, map, length, take, Some, None, Option, is_some, Ok, Err, Result, if◌then◌else◌, ◌==◌, nat_le, nat_lt, slice_index_or, slice_set}
use Rattle.std.specs.Option.{option_map_or}
use Rattle.pile.specs.Sorted.{first_of, without_first}
use Rattle.queue.specs.declared.job.Job.{Job}
use Rattle.queue.specs.Jobs.{put_job, spent}
use Rattle.admission.specs.declared.table.Lane.{Lane}
use Rattle.admission.specs.Contents.{Contents, unfilled}
use Rattle.machine.specs.declared.call.Call.{Call}
use Rattle.machine.specs.declared.call.Call.TheVariants.{Request, Grant, Report}
use Rattle.machine.specs.declared.call.Reply.{Reply}
use Rattle.machine.specs.declared.call.Reply.TheVariants.{Deadline, Granted, Reported}
use Rattle.machine.specs.declared.call.Outcome.{Outcome}
use Rattle.machine.specs.declared.call.Outcome.TheVariants.{Used, Finished}
use Rattle.machine.specs.declared.refusal.Refusal.{Refusal}
use Rattle.machine.specs.declared.refusal.Refusal.TheVariants.{EmptyTable, QueueInUse, TooFewPlaces, OpenedBefore, DuringSlot, NoSuchLane, BudgetOutOfRange, LaneAhead, QueueFull, SlotOpen, SlotsUsedUp, NoPlaceForRelease, Unopened, NotThisSlot}
use Rattle.machine.specs.Limits.{most_budget, most_ahead, slots_in_all, nobody}
use Rattle.machine.specs.Polls.{jobs_at}
use Rattle.machine.specs.Lanes.{clock_of, advance, due_at, lane_job, ahead}

-- what a unit is given: the places of its queue, and at its opening a table and a number (before that, a table without
-- records, and 0)
pub record Setup : Type 0 where
  pub places : ℕ
  pub opened : Bool
  pub table : Contents
  pub unit : ℕ

-- what its calls change: the jobs that wait in the queue, the present slot, whether it is open (granted and not yet
-- reported), and of each lane its last eight accepted deadlines (all, while fewer), the newest first
pub record State : Type 0 where
  pub bag : List Job
  pub slot : ℕ
  pub is_open : Bool
  pub recent : List (List ℕ)

pub record Machine : Type 0 where
  pub setup : Setup
  pub state : State

-- put together around a queue; and just opened
abbrev pub unopened : List Job → ℕ → Machine
unopened jobs places = record {
  setup = record { places = places; opened = false; table = unfilled; unit = 0 };
  state = record { bag = jobs; slot = 0; is_open = false; recent = [] };
}

abbrev pub set_up : ℕ → Contents → ℕ → Setup
set_up places table unit = record { places = places; opened = true; table = table; unit = unit }

abbrev pub fresh : Setup → State
fresh m = record { bag = []; slot = 0; is_open = false; recent = map (λ lane. []) m.table.lanes }

-- QUESTIONS: on a no the call is refused, and on a yes the next question is asked
abbrev pub ask : Bool → Refusal → Option Refusal → Option Refusal
ask is_yes refusal next = if is_yes then next else Some refusal

-- the places that a queue must have for a table
abbrev pub places_for : Contents → ℕ
places_for table = length table.polls + most_ahead * length table.lanes

abbrev pub open_refusal : Machine → Contents → Option Refusal
open_refusal machine table =
    ask (nat_lt 0 (length table.polls) || nat_lt 0 (length table.lanes)) EmptyTable
    (ask (length machine.state.bag == 0) QueueInUse
    (ask (nat_le (places_for table) machine.setup.places) TooFewPlaces
    (ask (not machine.setup.opened) OpenedBefore
    None)))

-- lane number j: what the table says of it, and its accepted deadlines
abbrev pub lane_at : Setup → ℕ → Lane
lane_at m j = slice_index_or m.table.lanes j (record { span = 0; quota = 0 })

abbrev pub recent_at : State → ℕ → List ℕ
recent_at s j = slice_index_or s.recent j []

abbrev pub request_refusal : Setup → State → ℕ → ℕ → Option Refusal
request_refusal m s j budget =
    ask (not s.is_open) DuringSlot
    (ask (nat_lt j (length m.table.lanes)) NoSuchLane
    (ask (nat_le 1 budget && nat_le budget most_budget) BudgetOutOfRange
    (ask (nat_lt (ahead s.slot (recent_at s j)) most_ahead) LaneAhead
    (ask (nat_lt (length s.bag) m.places) QueueFull
    None))))

-- the jobs that are released now
abbrev pub released : Setup → State → List Job
released m s = jobs_at s.slot 0 m.table.polls

abbrev pub grant_refusal : Setup → State → Option Refusal
grant_refusal m s =
    ask m.opened Unopened
    (ask (not s.is_open) SlotOpen
    (ask (nat_lt s.slot slots_in_all) SlotsUsedUp
    (ask (nat_le (length s.bag + length (released m s)) m.places) NoPlaceForRelease
    None)))

abbrev pub refusal_of : Setup → State → Call → Option Refusal
refusal_of m s (Request j budget) = request_refusal m s j budget
refusal_of m s Grant = grant_refusal m s
refusal_of m s (Report unit slot outcome) = ask (s.is_open && (unit == m.unit && slot == s.slot)) NotThisSlot None

-- WHAT AN ACCEPTED CALL DOES. A request gets its deadline by the lane's rule
abbrev pub new_clock : Setup → State → ℕ → ℕ → ℕ
new_clock m s j budget = advance (lane_at m j) s.slot (clock_of (recent_at s j)) budget

abbrev pub new_deadline : Setup → State → ℕ → ℕ → ℕ
new_deadline m s j budget = due_at (lane_at m j) (new_clock m s j budget)

-- a bag with more jobs
unfoldable pub put_all : List Job → List Job → List Job
put_all [] bag = bag
put_all (job ∷ jobs) bag = put_job job (put_all jobs bag)

-- a report acts on the first job: used takes a slot from it, finished ends it; an empty bag stays empty
abbrev pub worked : Outcome → List Job → List Job
worked Used bag = spent bag
worked Finished bag = without_first bag

abbrev pub moved : Setup → State → Call → State
moved m s (Request j budget) = record {
  bag = put_job (lane_job j (new_deadline m s j budget) budget) s.bag;
  slot = s.slot;
  is_open = s.is_open;
  recent = slice_set s.recent j (take most_ahead (new_deadline m s j budget ∷ recent_at s j));
}
moved m s Grant = record { bag = put_all (released m s) s.bag; slot = s.slot; is_open = true; recent = s.recent }
moved m s (Report unit slot outcome) = record { bag = worked outcome s.bag; slot = suc s.slot; is_open = false; recent = s.recent }

-- AND WHAT IT ANSWERS. A slot is the first job's, or nobody's
abbrev pub owner_of : Option Job → ℕ
owner_of (Some job) = job.owner
owner_of None = nobody

abbrev pub deadline_of : Option Job → ℕ
deadline_of (Some job) = job.deadline
deadline_of None = 0

abbrev pub said : Setup → State → Call → Reply
said m s (Request j budget) = Deadline (new_deadline m s j budget)
said m s Grant = Granted m.unit s.slot (owner_of (first_of (put_all (released m s) s.bag))) (deadline_of (first_of (put_all (released m s) s.bag)))
said m s (Report unit slot outcome) = Reported

-- CALLS. The answer to a call is what it says if it is accepted, or why it is refused
abbrev pub Answer : Type 0
Answer = Result Reply Refusal

abbrev pub next : Setup → State → Call → State
next m s call = if is_some (refusal_of m s call) then s else moved m s call

abbrev pub answer : Setup → State → Call → Answer
answer m s call = option_map_or Err (refusal_of m s call) (Ok (said m s call))

abbrev pub opening : Machine → Contents → ℕ → Machine
opening machine table unit =
    if is_some (open_refusal machine table) then machine
    else record { setup = set_up machine.setup.places table unit; state = fresh (set_up machine.setup.places table unit) }
