-- HISTORIES: the record of calls and their answers, and what can be read from it. A history is any list of calls on a unit
-- that has just been opened; refused calls are part of it. Calls and records are listed with the newest first.
use Rattle.std.specs.Prelude.{◌≡◌, ℕ, suc, ◌+◌, Bool, true, false, ◌&&◌, ◌||◌, ◌⊎◌, List, [], ◌∷◌, map, Ok, Err, if◌then◌else◌, ◌==◌, nat_le}
use Rattle.admission.specs.Sums.{sum_of}
use Rattle.machine.specs.declared.call.Call.{Call}
use Rattle.machine.specs.declared.call.Call.TheVariants.{Request, Grant, Report}
use Rattle.machine.specs.declared.call.Reply.TheVariants.{Deadline, Granted, Reported}
use Rattle.machine.specs.declared.call.Outcome.{Outcome}
use Rattle.machine.specs.declared.call.Outcome.TheVariants.{Used, Finished}
use Rattle.machine.specs.Limits.{nobody}
use Rattle.machine.specs.Machine.{Setup, State, Answer, fresh, next, answer}

-- a call and what it was answered
pub record Entry : Type 0 where
  pub call : Call
  pub told : Answer

-- the state after the calls, and their record
abbrev pub after : Setup → List Call → State
after m [] = fresh m
after m (call ∷ calls) = next m (after m calls) call

abbrev pub record_of : Setup → List Call → List Entry
record_of m [] = []
record_of m (call ∷ calls) = record { call = call; told = answer m (after m calls) call } ∷ record_of m calls

abbrev pub told_in : List Entry → List Answer
told_in es = map (λ e. e.told) es

-- the answers to calls that are listed with the oldest first, from a state on, and the state after them
unfoldable pub answers_from : Setup → State → List Call → List Answer
answers_from m s [] = []
answers_from m s (call ∷ calls) = answer m s call ∷ answers_from m (next m s call) calls

unfoldable pub state_from : Setup → State → List Call → State
state_from m s [] = s
state_from m s (call ∷ calls) = state_from m (next m s call) calls

-- READ FROM THE RECORD ALONE

-- how many slots are closed: a report that was accepted closes one
abbrev pub closed_by : Answer → ℕ → ℕ
closed_by (Ok (Deadline d)) n = n
closed_by (Ok (Granted u k o d)) n = n
closed_by (Ok Reported) n = suc n
closed_by (Err r) n = n

abbrev pub slots_closed : List Entry → ℕ
slots_closed [] = 0
slots_closed (e ∷ es) = closed_by e.told (slots_closed es)

-- whether a slot is open: from an accepted grant until the next accepted report
abbrev pub open_by : Answer → Bool → Bool
open_by (Ok (Deadline d)) b = b
open_by (Ok (Granted u k o d)) b = true
open_by (Ok Reported) b = false
open_by (Err r) b = b

abbrev pub slot_is_open : List Entry → Bool
slot_is_open [] = false
slot_is_open (e ∷ es) = open_by e.told (slot_is_open es)

-- a slot: its number, the owner and the deadline that its grant answered, and whether its report said finished. It went to
-- the job of that owner and deadline
pub record Slot : Type 0 where
  pub number : ℕ
  pub owner : ℕ
  pub deadline : ℕ
  pub finished : Bool

-- the slot of the newest grant
abbrev pub granted_by : Answer → Slot → Slot
granted_by (Ok (Deadline d)) last = last
granted_by (Ok (Granted u k o d)) last = record { number = k; owner = o; deadline = d; finished = false }
granted_by (Ok Reported) last = last
granted_by (Err r) last = last

abbrev pub last_granted : List Entry → Slot
last_granted [] = record { number = 0; owner = nobody; deadline = 0; finished = false }
last_granted (e ∷ es) = granted_by e.told (last_granted es)

abbrev pub is_finish : Outcome → Bool
is_finish Used = false
is_finish Finished = true

abbrev pub says_finished : Call → Bool
says_finished (Request j c) = false
says_finished Grant = false
says_finished (Report u k outcome) = is_finish outcome

-- the slots that were closed
abbrev pub slots_by : Answer → Call → Slot → List Slot → List Slot
slots_by (Ok (Deadline d)) call last slots = slots
slots_by (Ok (Granted u k o d)) call last slots = slots
slots_by (Ok Reported) call last slots = record { number = last.number; owner = last.owner; deadline = last.deadline; finished = says_finished call } ∷ slots
slots_by (Err r) call last slots = slots

abbrev pub slots_in : List Entry → List Slot
slots_in [] = []
slots_in (e ∷ es) = slots_by e.told e.call (last_granted es) (slots_in es)

-- did the slot go to the job of this owner and deadline; how many did; did a report on one of them say finished
abbrev pub went_to : ℕ → ℕ → Slot → Bool
went_to owner deadline slot = slot.owner == owner && slot.deadline == deadline

abbrev pub slots_of : ℕ → ℕ → List Slot → ℕ
slots_of owner deadline slots = sum_of (λ slot. if went_to owner deadline slot then 1 else 0) slots

abbrev pub was_finished : ℕ → ℕ → List Slot → Bool
was_finished owner deadline [] = false
was_finished owner deadline (slot ∷ slots) = (went_to owner deadline slot && slot.finished) || was_finished owner deadline slots

-- is the entry in the record
abbrev pub Among : Entry → List Entry → Type 0
Among e [] = ⊥
Among e (x ∷ xs) = (e ≡ x) ⊎ Among e xs

-- a lane's request of so many slots was accepted, with this deadline
abbrev pub Accepted : List Entry → ℕ → ℕ → ℕ → Type 0
Accepted es j budget deadline = Among (record { call = Request j budget; told = Ok (Deadline deadline) }) es

-- what was asked of lane j: the budgets, with their moments (the slots closed, and whether one was open)
pub record Ask : Type 0 where
  pub slot : ℕ
  pub is_open : Bool
  pub budget : ℕ

abbrev pub asked_by : Call → ℕ → Bool → ℕ → List Ask → List Ask
asked_by (Request k budget) slot is_open j asks = if k == j then record { slot = slot; is_open = is_open; budget = budget } ∷ asks else asks
asked_by Grant slot is_open j asks = asks
asked_by (Report u k outcome) slot is_open j asks = asks

abbrev pub asked_of : ℕ → List Entry → List Ask
asked_of j [] = []
asked_of j (e ∷ es) = asked_by e.call (slots_closed es) (slot_is_open es) j (asked_of j es)

-- and what it answered
abbrev pub told_by : Call → Answer → ℕ → List Answer → List Answer
told_by (Request k budget) told j answers = if k == j then told ∷ answers else answers
told_by Grant told j answers = answers
told_by (Report u k outcome) told j answers = answers

abbrev pub told_back : ℕ → List Entry → List Answer
told_back j [] = []
told_back j (e ∷ es) = told_by e.call e.told j (told_back j es)

-- the deadlines that lane j's requests were accepted with
abbrev pub deadline_by : Answer → Call → ℕ → List ℕ → List ℕ
deadline_by (Ok (Deadline d)) (Request k budget) j deadlines = if k == j then d ∷ deadlines else deadlines
deadline_by (Ok (Deadline d)) Grant j deadlines = deadlines
deadline_by (Ok (Deadline d)) (Report u k outcome) j deadlines = deadlines
deadline_by (Ok (Granted u k o d)) call j deadlines = deadlines
deadline_by (Ok Reported) call j deadlines = deadlines
deadline_by (Err r) call j deadlines = deadlines

abbrev pub deadlines_of : ℕ → List Entry → List ℕ
deadlines_of j [] = []
deadlines_of j (e ∷ es) = deadline_by e.told e.call j (deadlines_of j es)

-- the budgets of lane j's accepted requests that came at slot s or later, with deadlines up to t, added
abbrev pub budget_by : Answer → Call → ℕ → ℕ → ℕ → ℕ → ℕ
budget_by (Ok (Deadline d)) (Request k budget) slot j s t = if k == j && (nat_le s slot && nat_le d t) then budget else 0
budget_by (Ok (Deadline d)) Grant slot j s t = 0
budget_by (Ok (Deadline d)) (Report u k outcome) slot j s t = 0
budget_by (Ok (Granted u k o d)) call slot j s t = 0
budget_by (Ok Reported) call slot j s t = 0
budget_by (Err r) call slot j s t = 0

abbrev pub budgets_within : ℕ → ℕ → ℕ → List Entry → ℕ
budgets_within j s t [] = 0
budgets_within j s t (e ∷ es) = budget_by e.told e.call (slots_closed es) j s t + budgets_within j s t es
