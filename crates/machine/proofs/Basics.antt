-- The plain facts of every history: what the record says of slot, open mark and token is so, and the bag is in order.
use Rattle.std.proofs.Common.{◌≡◌, ℕ, suc, ◌<◌, true, false, cond, List, [], ◌∷◌, take, Ok, if◌then◌else◌, length, None, refl, ap, ◌∙◌, length-set}
use Rattle.std.specs.List.{AllByRecursion}
use Rattle.std.proofs.Math.ListN.{get_or-map}
use Rattle.std.proofs.lemmas.List.{length-map, get_or-set_same, get_or-set_other}
use Rattle.std.proofs.lemmas.Bool.{cond_both, both_ways}
use Rattle.pile.specs.Sorted.{first_of}
use Rattle.admission.specs.declared.table.Poll.{Poll}
use Rattle.admission.specs.declared.table.Lane.{Lane}
use Rattle.machine.specs.declared.call.Call.{Call}
use Rattle.machine.specs.declared.call.Call.TheVariants.{Request, Grant, Report}
use Rattle.machine.specs.Limits.{most_ahead}
use Rattle.machine.specs.Polls.{is_released, poll_job, jobs_at}
use Rattle.machine.specs.Machine.{Setup, State, fresh, refusal_of, moved, said, lane_at, recent_at, released, new_deadline, owner_of, deadline_of}
use Rattle.machine.specs.History.{Entry, Slot, after, record_of, slots_closed, slot_is_open, last_granted}
use Rattle.machine.specs.Promises.{Opened, poll_at}
use Rattle.sheet.proofs.Each.{each_at}
use Rattle.machine.proofs.Tables.{Sound, PollLaws, LaneFits, sound}
use Rattle.machine.proofs.Bags.{Rising, Positive, rising_put, rising_put_all, rising_worked, all_put, all_put_all, positive_worked}
use Rattle.machine.proofs.Along.{along, entry}
use Rattle.machine.proofs.Questions.{request_accepted}

-- the table of an opened unit, and what is known of its lanes and polls
pub table_of : (m : Setup) → Opened m → Sound m.table
table_of m o = sound m.table o.admissible

pub lane_of : (m : Setup) → Opened m → (j : ℕ) → j < length m.table.lanes → LaneFits m.table.cycle (lane_at m j)
lane_of m o j l = each_at (LaneFits m.table.cycle) m.table.lanes j (record { span = 0; quota = 0 }) l (table_of m o).lanes

pub poll_of : (m : Setup) → Opened m → (i : ℕ) → i < length m.table.polls → PollLaws m.table.cycle (poll_at m.table i)
poll_of m o i l = each_at (PollLaws m.table.cycle) m.table.polls i (record { phase = 0; period = 0; budget = 0 }) l (table_of m o).polls

-- what a lane remembers: at first nothing
pub recent_at_first : (m : Setup) (j : ℕ) → recent_at (fresh m) j ≡ []
recent_at_first m j = get_or-map (λ (lane : Lane). []) m.table.lanes j (record { span = 0; quota = 0 })

-- after a request of its own the new deadline too, and after a request of another lane what it did
pub recent_own : (m : Setup) (s : State) (j k budget : ℕ) → j ≡ k → k < length s.recent → recent_at (moved m s (Request k budget)) j ≡ take most_ahead (new_deadline m s k budget ∷ recent_at s k)
recent_own m s j k budget e l = ap (recent_at (moved m s (Request k budget))) e ∙ get_or-set_same s.recent k (take most_ahead (new_deadline m s k budget ∷ recent_at s k)) [] l

pub recent_other : (m : Setup) (s : State) (j k budget : ℕ) → (j ≡ k → ⊥) → recent_at (moved m s (Request k budget)) j ≡ recent_at s j
recent_other m s j k budget ne = get_or-set_other s.recent k j (take most_ahead (new_deadline m s k budget ∷ recent_at s k)) [] ne

-- the first slot whose releases have not been put yet
abbrev pub upto : State → ℕ
upto s = if s.is_open then suc s.slot else s.slot

pub upto_shut : (s : State) → s.is_open ≡ false → upto s ≡ s.slot
upto_shut s e = ap (λ b. cond b (suc s.slot) s.slot) e

pub upto_open : (s : State) → s.is_open ≡ true → upto s ≡ suc s.slot
upto_open s e = ap (λ b. cond b (suc s.slot) s.slot) e

-- the open slot went to the first job of the bag
pub record Holds (slot : Slot) (s : State) : Type 0 where
  pub number : slot.number ≡ s.slot
  pub owner : slot.owner ≡ owner_of (first_of s.bag)
  pub deadline : slot.deadline ≡ deadline_of (first_of s.bag)

pub record Basic (m : Setup) (s : State) (es : List Entry) : Type 0 where
  pub slot_is : slots_closed es ≡ s.slot
  pub open_is : slot_is_open es ≡ s.is_open
  pub held : s.is_open ≡ true → Holds (last_granted es) s
  pub rising : Rising s.bag
  pub positive : Positive s.bag
  pub lanes : length s.recent ≡ length m.table.lanes

jobs_positive : (cycle : ℕ) (polls : List Poll) (i n : ℕ) → AllByRecursion (PollLaws cycle) polls → Positive (jobs_at n i polls)
unfolding jobs_at
jobs_positive cycle [] i n laws = tt
jobs_positive cycle (poll ∷ polls) i n laws =
    cond_both (is_released n poll) (poll_job n i poll ∷ jobs_at n (suc i) polls) (jobs_at n (suc i) polls) Positive
    (λ _. (laws.0.some_budget, jobs_positive cycle polls (suc i) n laws.1)) (λ _. jobs_positive cycle polls (suc i) n laws.1)

basic_moves : (m : Setup) → Opened m → (s : State) (es : List Entry) (call : Call) → refusal_of m s call ≡ None → Basic m s es → Basic m (moved m s call) (entry call (Ok (said m s call)) ∷ es)
basic_moves m o s es (Request j budget) e b =
    let a = request_accepted m s j budget e in
    record {
      slot_is = b.slot_is;
      open_is = b.open_is;
      held = λ h. absurd (both_ways s.is_open a.shut h);
      rising = rising_put _ s.bag b.rising;
      positive = all_put _ _ s.bag a.some b.positive;
      lanes = length-set _ _ _ ∙ b.lanes;
    }
basic_moves m o s es Grant e b =
    record {
      slot_is = b.slot_is;
      open_is = refl;
      held = λ h. record { number = refl; owner = refl; deadline = refl };
      rising = rising_put_all (released m s) s.bag b.rising;
      positive = all_put_all _ (released m s) s.bag (jobs_positive m.table.cycle m.table.polls 0 s.slot (table_of m o).polls) b.positive;
      lanes = b.lanes;
    }
basic_moves m o s es (Report unit slot outcome) e b =
    record {
      slot_is = ap suc b.slot_is;
      open_is = refl;
      held = λ h. absurd (both_ways false refl h);
      rising = rising_worked outcome s.bag b.rising;
      positive = positive_worked outcome s.bag b.positive;
      lanes = b.lanes;
    }

pub basic : (m : Setup) → Opened m → (calls : List Call) → Basic m (after m calls) (record_of m calls)
basic m o = along m (Basic m)
    (record { slot_is = refl; open_is = refl; held = λ h. absurd (both_ways false refl h); rising = tt; positive = tt; lanes = length-map m.table.lanes (λ (lane : Lane). []) })
    (λ calls call refusal _ b. record { slot_is = b.slot_is; open_is = b.open_is; held = b.held; rising = b.rising; positive = b.positive; lanes = b.lanes })
    (λ calls call e b. basic_moves m o (after m calls) (record_of m calls) call e b)
