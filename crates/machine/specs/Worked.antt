-- Three halls and a history of each, worked out: the definitions say what they should, and units that were opened exist.
use Rattle.std.specs.Prelude.{◌≡◌, ℕ, zero, suc, List, [], ◌∷◌, ◌++◌, map, reverse, replicate, Ok, Err}
use Rattle.machine.specs.declared.call.Call.{Call}
use Rattle.machine.specs.declared.call.Call.TheVariants.{Request, Grant, Report}
use Rattle.machine.specs.declared.call.Reply.TheVariants.{Deadline, Granted, Reported}
use Rattle.machine.specs.declared.call.Outcome.TheVariants.{Used, Finished}
use Rattle.machine.specs.declared.refusal.Refusal.TheVariants.{NoSuchLane, DuringSlot, NotThisSlot, SlotOpen, BudgetOutOfRange}
use Rattle.machine.specs.Machine.{Setup, Answer, set_up, fresh}
use Rattle.machine.specs.History.{answers_from, record_of, slots_in}
use Rattle.machine.specs.Promises.{Opened}

-- A SMALL HALL: one poll of 1 slot in 4, first released at slot 1, and one lane of 2 in 4; unit 7
abbrev pub small_hall : Setup
small_hall = set_up 9 (record { polls = record { phase = 1; period = 4; budget = 1 } ∷ []; lanes = record { span = 4; quota = 2 } ∷ []; load = 3; cycle = 4 }) 7

-- a few calls, refused ones among them, and their answers, the oldest first
abbrev pub small_day : List Call
small_day =
    Request 0 3 ∷ Request 1 3 ∷ Request 0 10001 ∷ Grant ∷ Request 0 1 ∷ Grant ∷ Report 7 0 Used
    ∷ Grant ∷ Report 7 1 Used ∷ Request 0 1 ∷ Grant ∷ Report 7 3 Finished ∷ Report 8 2 Finished ∷ Report 7 2 Finished
    ∷ Grant ∷ Report 7 3 Used ∷ Grant ∷ []

abbrev pub small_answers : List Answer
small_answers =
    Ok (Deadline 6) ∷ Err NoSuchLane ∷ Err BudgetOutOfRange ∷ Ok (Granted 7 0 32 6) ∷ Err DuringSlot ∷ Err SlotOpen ∷ Ok Reported
    ∷ Ok (Granted 7 1 0 5) ∷ Ok Reported ∷ Ok (Deadline 8) ∷ Ok (Granted 7 2 32 6) ∷ Err NotThisSlot ∷ Err NotThisSlot ∷ Ok Reported
    ∷ Ok (Granted 7 3 32 8) ∷ Ok Reported ∷ Ok (Granted 7 4 255 0) ∷ []

-- A FULL HALL: 32 polls of 1 slot in 64 and 8 lanes of 1 in 16, load 64 of 64
abbrev pub full_hall : Setup
full_hall = set_up 96 (record { polls = replicate 32 (record { phase = 0; period = 64; budget = 1 }); lanes = replicate 8 (record { span = 16; quota = 1 }); load = 64; cycle = 64 }) 0

-- every lane asks for one slot, and 48 slots follow
abbrev pub ask_each : ℕ → ℕ → List Call
ask_each zero lane = []
ask_each (suc more) lane = Request lane 1 ∷ ask_each more (suc lane)

abbrev pub turns : ℕ → ℕ → List Call
turns zero slot = []
turns (suc more) slot = Grant ∷ Report 0 slot Used ∷ turns more (suc slot)

-- their owners: the lanes, whose deadline is 16, then the polls, whose deadline is 64, and then nobody
abbrev pub from : ℕ → ℕ → List ℕ
from zero n = []
from (suc more) n = n ∷ from more (suc n)

abbrev pub full_owners : List ℕ
full_owners = from 8 32 ++ (from 32 0 ++ replicate 8 255)

-- A HALL OF THIRDS: no poll, and one lane of 2 in 3, in which one slot reaches a slot and a half far: two slots, rounded up
abbrev pub thirds_hall : Setup
thirds_hall = set_up 8 (record { polls = []; lanes = record { span = 3; quota = 2 } ∷ []; load = 2; cycle = 3 }) 1

pub record Worked : Type 0 where
  pub small_opened : Opened small_hall
  pub small_day_is : answers_from small_hall (fresh small_hall) small_day ≡ small_answers
  pub full_opened : Opened full_hall
  pub full_day_is : map (λ slot. slot.owner) (reverse (slots_in (record_of full_hall (reverse (ask_each 8 0 ++ turns 48 0))))) ≡ full_owners
  pub thirds_opened : Opened thirds_hall
  pub thirds_are : answers_from thirds_hall (fresh thirds_hall) (Request 0 1 ∷ Request 0 1 ∷ []) ≡ Ok (Deadline 2) ∷ Ok (Deadline 4) ∷ []
