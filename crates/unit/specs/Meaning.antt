-- What a unit means: the plain machine that it is, read from its fields and from what its queue holds.
use Rattle.std.specs.Prelude.{ℕ, List, map, take, length, Ok, Err, Result}
use Rattle.queue.specs.declared.job.Job.{Job}
use Rattle.admission.specs.Contents.{contents}
use Rattle.machine.specs.declared.call.Call.{Call}
use Rattle.machine.specs.declared.call.Reply.TheVariants.{Deadline, Granted, Reported}
use Rattle.machine.specs.declared.refusal.Refusal.{Refusal}
use Rattle.machine.specs.Machine.{Machine, Answer, next, answer}
use Rattle.unit.specs.Deadlines.{deadlines_of}
use Rattle.unit.specs.declared.token.Token.{Token}
use Rattle.unit.specs.declared.unit.Unit.{Unit as TheUnit}

-- of each lane of the table the deadlines that are remembered
abbrev pub meaning : {Q : Type 0} → (Q → List Job) → (Q → ℕ) → TheUnit Q → Machine
meaning bag places unit = record {
  setup = record { places = places unit.queue; opened = unit.opened; table = contents unit.table; unit = unit.number };
  state = record {
    bag = bag unit.queue;
    slot = unit.slot;
    is_open = unit.is_open;
    recent = map deadlines_of (take (length (contents unit.table).lanes) unit.recents);
  };
}

-- a machine after a call, and what it answers
abbrev pub called : Machine → Call → Machine
called machine call = record { setup = machine.setup; state = next machine.setup machine.state call }

abbrev pub answered : Machine → Call → Answer
answered machine call = answer machine.setup machine.state call

-- the answer that a result of each call is
abbrev pub as_deadline : Result ℕ Refusal → Answer
as_deadline (Ok deadline) = Ok (Deadline deadline)
as_deadline (Err refusal) = Err refusal

abbrev pub as_grant : Result Token Refusal → Answer
as_grant (Ok token) = Ok (Granted token.unit token.slot token.owner token.deadline)
as_grant (Err refusal) = Err refusal

abbrev pub as_report : Result (Unit {0}) (Refusal × Token) → Answer
as_report (Ok done) = Ok Reported
as_report (Err refused) = Err refused.0
