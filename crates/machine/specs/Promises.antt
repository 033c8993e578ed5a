-- THE PROMISES: what holds of every history, read from its record.
use Rattle.std.specs.Prelude.{◌≡◌, ℕ, ◌+◌, ◌-◌, ◌*◌, ◌<◌, ◌≤◌, true, false, ◌⊎◌, List, [], ◌∷◌, length, ◌≢◌, slice_index_or, IfErr, ⊤}
use Rattle.std.specs.List.{AllByRecursion}
use Rattle.admission.specs.declared.table.Poll.{Poll}
use Rattle.admission.specs.Contents.{Contents, Admissible}
use Rattle.machine.specs.declared.call.Call.{Call}
use Rattle.machine.specs.Refusals.{refusal_number}
use Rattle.machine.specs.Limits.{nobody}
use Rattle.machine.specs.Polls.{relative_deadline}
use Rattle.machine.specs.Lanes.{lane_owner}
use Rattle.machine.specs.Machine.{Setup, Answer, places_for, lane_at}
use Rattle.machine.specs.History.{Entry, Slot, record_of, slots_closed, slots_in, slots_of, was_finished, Accepted, asked_of, told_back, deadlines_of, budgets_within}

-- the unit was opened without refusal: its table is admissible, and its queue has the places for it
pub record Opened (m : Setup) : Type 0 where
  pub is_opened : m.opened ≡ true
  pub admissible : Admissible m.table
  pub roomy : places_for m.table ≤ m.places

-- poll number i, and the deadline of its job k
abbrev pub poll_at : Contents → ℕ → Poll
poll_at table i = slice_index_or table.polls i (record { phase = 0; period = 0; budget = 0 })

abbrev pub poll_deadline : Poll → ℕ → ℕ
poll_deadline poll k = poll.phase + k * poll.period + relative_deadline poll

-- DEADLINES MET

-- a job of `budget` slots is over: a report on one of its slots said finished, or as many of its slots as its budget are closed
abbrev pub Over : List Entry → ℕ → ℕ → ℕ → Type 0
Over es owner deadline budget = (was_finished owner deadline (slots_in es) ≡ true) ⊎ (slots_of owner deadline (slots_in es) ≡ budget)

-- once n slots are closed, every poll job and every accepted request with a deadline up to n is over, and each slot that went
-- to a job has a number below the job's deadline
pub record DeadlinesMet (table : Contents) (es : List Entry) : Type 0 where
  pub polls : (i k : ℕ) → i < length table.polls → poll_deadline (poll_at table i) k ≤ slots_closed es → Over es i (poll_deadline (poll_at table i) k) (poll_at table i).budget
  pub requests : (j budget deadline : ℕ) → Accepted es j budget deadline → deadline ≤ slots_closed es → Over es (lane_owner j) deadline budget
  pub in_time : AllByRecursion (λ slot. (slot.owner ≢ nobody) → slot.number < slot.deadline) (slots_in es)

-- SHARE KEPT

-- what a lane was promised from slot s on, due by t, is at most its share of the slots from s to t
abbrev pub ShareKept : Setup → List Entry → Type 0
ShareKept m es =
    (j s t : ℕ) → j < length m.table.lanes → s ≤ t →
    (lane_at m j).span * budgets_within j s t es ≤ (lane_at m j).quota * (t - s)

-- SECTIONS APART

-- another history on the same table, on whatever unit and queue, which is alike in a lane's requests, their budgets and
-- moments, gives that lane the same answers
abbrev pub SectionsApart : Setup → List Entry → Type 0
SectionsApart m es =
    (m' : Setup) → Opened m' → m'.table ≡ m.table → (calls' : List Call) (j : ℕ) → j < length m.table.lanes →
    asked_of j es ≡ asked_of j (record_of m' calls') → told_back j es ≡ told_back j (record_of m' calls')

-- NEVER FULL

-- no call is refused for want of a place
abbrev pub HasPlace : Answer → Type 0
HasPlace answer = IfErr answer (λ refusal. (refusal_number refusal ≢ 34) × (refusal_number refusal ≢ 42))

abbrev pub NeverFull : List Entry → Type 0
NeverFull es = AllByRecursion (λ e. HasPlace e.told) es

-- EACH PAIR ONE JOB

-- each deadline, the newest first, is later than all before it
abbrev pub Growing : List ℕ → Type 0
Growing [] = ⊤
Growing (deadline ∷ older) = AllByRecursion (λ d. d < deadline) older × Growing older

-- no two jobs share owner and deadline, so that 'the job of a slot' is well said
pub record EachPairOneJob (table : Contents) (es : List Entry) : Type 0 where
  -- two jobs of one poll have two deadlines
  pub polls : (i k k' : ℕ) → i < length table.polls → poll_deadline (poll_at table i) k ≡ poll_deadline (poll_at table i) k' → k ≡ k'
  -- two accepted requests of one lane have two deadlines, since a lane's deadlines only grow
  pub requests : (j : ℕ) → Growing (deadlines_of j es)
  -- a poll's owner number is no lane's, and neither is nobody's
  pub owners : (i j : ℕ) → i < length table.polls → j < length table.lanes → (i ≢ lane_owner j) × (i ≢ nobody) × (lane_owner j ≢ nobody)

-- WITHIN THE BUDGET

-- no slot goes to a job after one of its reports said finished
abbrev pub NoneAfterFinish : List Slot → Type 0
NoneAfterFinish [] = ⊤
NoneAfterFinish (slot ∷ older) = ((slot.owner ≢ nobody) → was_finished slot.owner slot.deadline older ≡ false) × NoneAfterFinish older

-- no job gets more slots than its budget, and none after it is finished
pub record WithinBudget (table : Contents) (es : List Entry) : Type 0 where
  pub polls : (i k : ℕ) → i < length table.polls → slots_of i (poll_deadline (poll_at table i) k) (slots_in es) ≤ (poll_at table i).budget
  pub requests : (j budget deadline : ℕ) → Accepted es j budget deadline → slots_of (lane_owner j) deadline (slots_in es) ≤ budget
  pub after_finish : NoneAfterFinish (slots_in es)

-- WHAT EVERY HISTORY KEEPS

pub record Kept (m : Setup) (es : List Entry) : Type 0 where
  pub deadlines_met : DeadlinesMet m.table es
  pub share_kept : ShareKept m es
  pub sections_apart : SectionsApart m es
  pub never_full : NeverFull es
  pub each_pair_one_job : EachPairOneJob m.table es
  pub within_budget : WithinBudget m.table es

abbrev pub EveryHistoryKeeps : Setup → Type 0
EveryHistoryKeeps m = (calls : List Call) → Kept m (record_of m calls)

-- the theorem: its only ground is that the unit was opened
abbrev pub PromisesStand : Type 0
PromisesStand = (m : Setup) → Opened m → EveryHistoryKeeps m
