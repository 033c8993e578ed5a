-- The number of each refusal.
use Rattle.std.specs.Prelude.{ℕ}
use Rattle.pile.specs.declared.refusal.PutRefusal.TheVariants.{Full}
use Rattle.pile.specs.Piles.{put_number}
use Rattle.machine.specs.declared.refusal.Refusal.{Refusal}
use Rattle.machine.specs.declared.refusal.Refusal.TheVariants.{EmptyTable, QueueInUse, TooFewPlaces, OpenedBefore, DuringSlot, NoSuchLane, BudgetOutOfRange, LaneAhead, QueueFull, SlotOpen, SlotsUsedUp, NoPlaceForRelease, Unopened, NotThisSlot}

abbrev pub refusal_number : Refusal → ℕ
refusal_number EmptyTable = 20
refusal_number QueueInUse = 21
refusal_number TooFewPlaces = 22
refusal_number OpenedBefore = 23
refusal_number DuringSlot = 30
refusal_number NoSuchLane = 31
refusal_number BudgetOutOfRange = 32
refusal_number LaneAhead = 33
refusal_number QueueFull = put_number Full
refusal_number SlotOpen = 40
refusal_number SlotsUsedUp = 41
refusal_number NoPlaceForRelease = 42
refusal_number Unopened = 43
refusal_number NotThisSlot = 50
