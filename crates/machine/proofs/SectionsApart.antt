-- SECTIONS APART: a lane's answers can be worked out from its own requests alone.
use Rattle.std.proofs.Common.{◌≡◌, ℕ, ◌<◌, Bool, true, false, not, ◌&&◌, eqb, ltb, leb, List, [], ◌∷◌, length, get_or, take, Some, None, Option, Ok, Err, is_some, if◌then◌else◌, sym, refl, ap, ◌∙◌, subst, inl, inr, arith}
use Rattle.std.specs.Option.{option_map_or}
use Rattle.std.proofs.lemmas.Bool.{cases_eq, eq-eqb, ne_eqb, lt-ltb}
use Rattle.admission.specs.declared.table.Lane.{Lane}
use Rattle.admission.specs.Contents.{Contents}
use Rattle.machine.specs.declared.call.Call.{Call}
use Rattle.machine.specs.declared.call.Call.TheVariants.{Request, Grant, Report}
use Rattle.machine.specs.declared.call.Reply.TheVariants.{Deadline}
use Rattle.machine.specs.declared.refusal.Refusal.{Refusal}
use Rattle.machine.specs.declared.refusal.Refusal.TheVariants.{DuringSlot, NoSuchLane, BudgetOutOfRange, LaneAhead, QueueFull}
use Rattle.machine.specs.Limits.{most_budget, most_ahead}
use Rattle.machine.specs.Lanes.{clock_of, advance, due_at, ahead}
use Rattle.machine.specs.Machine.{Setup, State, Answer, ask, lane_at, recent_at, refusal_of, moved, said, new_deadline}
use Rattle.machine.specs.History.{Entry, Ask, after, record_of, asked_of, told_back, slots_closed, slot_is_open}
use Rattle.machine.specs.Promises.{Opened, SectionsApart}
use Rattle.machine.proofs.Along.{along, entry}
use Rattle.machine.proofs.Questions.{request_accepted}
use Rattle.machine.proofs.Basics.{recent_at_first, recent_own, recent_other, basic}
use Rattle.machine.proofs.NeverFull.{request_has_place}

-- THE LANE ALONE: what it remembers and answers, from what was asked of it

abbrev solo_refusal : List ℕ → Ask → Option Refusal
solo_refusal recent a =
    ask (not a.is_open) DuringSlot
    (ask (leb 1 a.budget && leb a.budget most_budget) BudgetOutOfRange
    (ask (ltb (ahead a.slot recent) most_ahead) LaneAhead
    None))

abbrev solo_deadline : Lane → List ℕ → Ask → ℕ
solo_deadline lane recent a = due_at lane (advance lane a.slot (clock_of recent) a.budget)

abbrev solo_recent : Lane → List Ask → List ℕ
solo_recent lane [] = []
solo_recent lane (a ∷ asks) =
    if is_some (solo_refusal (solo_recent lane asks) a) then solo_recent lane asks
    else take most_ahead (solo_deadline lane (solo_recent lane asks) a ∷ solo_recent lane asks)

abbrev solo_told : Lane → List Ask → List Answer
solo_told lane [] = []
solo_told lane (a ∷ asks) = option_map_or Err (solo_refusal (solo_recent lane asks) a) (Ok (Deadline (solo_deadline lane (solo_recent lane asks) a))) ∷ solo_told lane asks

-- the machine refuses a request as the lane alone does, since it is never refused for want of a place
same_questions : (shut lane range few place : Bool) → lane ≡ true →
    (ask shut DuringSlot (ask lane NoSuchLane (ask range BudgetOutOfRange (ask few LaneAhead (ask place QueueFull None)))) ≡ Some QueueFull → ⊥) →
    ask shut DuringSlot (ask lane NoSuchLane (ask range BudgetOutOfRange (ask few LaneAhead (ask place QueueFull None)))) ≡ ask shut DuringSlot (ask range BudgetOutOfRange (ask few LaneAhead None))
same_questions shut lane range few place e never = grind arith

module _ (m : Setup) (o : Opened m) (j : ℕ) (l : j < length m.table.lanes) where
  record Alone (s : State) (es : List Entry) : Type 0 where
    recent : recent_at s j ≡ solo_recent (lane_at m j) (asked_of j es)
    told : told_back j es ≡ solo_told (lane_at m j) (asked_of j es)

  -- what is asked at this moment, and what the lane alone says to it
  asking : List Call → ℕ → Ask
  asking calls budget = record { slot = slots_closed (record_of m calls); is_open = slot_is_open (record_of m calls); budget = budget }

  module _ (calls : List Call) (k budget : ℕ) (h : Alone (after m calls) (record_of m calls)) where
    mine : List ℕ
    mine = solo_recent (lane_at m j) (asked_of j (record_of m calls))

    same_refusal : k ≡ j → solo_refusal (solo_recent (lane_at m j) (asked_of j (record_of m calls))) (asking calls budget) ≡ refusal_of m (after m calls) (Request k budget)
    unfolding asking
    same_refusal q =
        let b = basic m o calls in
        let never : refusal_of m (after m calls) (Request j budget) ≡ Some QueueFull → ⊥ = λ e. (request_has_place m o calls j budget QueueFull e).0 refl in
        (λ i. solo_refusal (sym h.recent i) (record { slot = b.slot_is i; is_open = b.open_is i; budget = budget }))
        ∙ sym (same_questions (not (after m calls).is_open) (ltb j (length m.table.lanes)) (leb 1 budget && leb budget most_budget)
        (ltb (ahead (after m calls).slot (recent_at (after m calls) j)) most_ahead) (ltb (length (after m calls).bag) m.places) (lt-ltb j (length m.table.lanes) l) never)
        ∙ ap (λ i. refusal_of m (after m calls) (Request i budget)) (sym q)

    same_deadline : k ≡ j → new_deadline m (after m calls) k budget ≡ solo_deadline (lane_at m j) (solo_recent (lane_at m j) (asked_of j (record_of m calls))) (asking calls budget)
    unfolding asking
    same_deadline q =
        ap (λ i. new_deadline m (after m calls) i budget) q
        ∙ (λ i. due_at (lane_at m j) (advance (lane_at m j) (sym (basic m o calls).slot_is i) (clock_of (h.recent i)) budget))

    alone_refused : (refusal : Refusal) → refusal_of m (after m calls) (Request k budget) ≡ Some refusal → Alone (after m calls) (entry (Request k budget) (Err refusal) ∷ record_of m calls)
    unfolding asking mine
    alone_refused refusal e = elim (cases_eq k j) [
      | inr q ↦ let t : eqb k j ≡ false = ne_eqb k j q in record { recent = rw t h.recent; told = rw t h.told }
      | inl q ↦
          let t : eqb k j ≡ true = eq-eqb k j q in
          let r : solo_refusal mine (asking calls budget) ≡ Some refusal = same_refusal q ∙ e in
          record {
            recent = rw t (h.recent ∙ sym (ap (λ x. if is_some x then mine else take most_ahead (solo_deadline (lane_at m j) mine (asking calls budget) ∷ mine)) r));
            told = rw t (λ i. option_map_or Err (sym r i) (Ok (Deadline (solo_deadline (lane_at m j) mine (asking calls budget)))) ∷ h.told i);
          }
    ]

    alone_accepted : refusal_of m (after m calls) (Request k budget) ≡ None → Alone (moved m (after m calls) (Request k budget)) (entry (Request k budget) (Ok (Deadline (new_deadline m (after m calls) k budget))) ∷ record_of m calls)
    unfolding asking mine
    alone_accepted e = elim (cases_eq k j) [
      | inr q ↦
          let t : eqb k j ≡ false = ne_eqb k j q in
          record {
            recent = rw t (recent_other m (after m calls) j k budget (λ y. q (sym y)) ∙ h.recent);
            told = rw t h.told;
          }
      | inl q ↦
          let t : eqb k j ≡ true = eq-eqb k j q in
          let r : solo_refusal mine (asking calls budget) ≡ None = same_refusal q ∙ e in
          let a = request_accepted m (after m calls) k budget e in
          let here = recent_own m (after m calls) j k budget (sym q) (omega (arith, a.lane, (basic m o calls).lanes)) in
          let was : recent_at (after m calls) k ≡ mine = ap (recent_at (after m calls)) q ∙ h.recent in
          record {
            recent = rw t (here ∙ (λ i. take most_ahead (same_deadline q i ∷ was i)) ∙ sym (ap (λ x. if is_some x then mine else take most_ahead (solo_deadline (lane_at m j) mine (asking calls budget) ∷ mine)) r));
            told = rw t ((λ i. Ok (Deadline (same_deadline q i)) ∷ h.told i) ∙ (λ i. option_map_or Err (sym r i) (Ok (Deadline (solo_deadline (lane_at m j) mine (asking calls budget)))) ∷ solo_told (lane_at m j) (asked_of j (record_of m calls))));
          }
    ]

  alone : (calls : List Call) → Alone (after m calls) (record_of m calls)
  alone = along m Alone (record { recent = recent_at_first m j; told = refl }) refused accepted
    where
      refused : (calls : List Call) (call : Call) (refusal : Refusal) → refusal_of m (after m calls) call ≡ Some refusal → Alone (after m calls) (record_of m calls) → Alone (after m calls) (entry call (Err refusal) ∷ record_of m calls)
      refused calls (Request k budget) refusal e h = alone_refused calls k budget h refusal e
      refused calls Grant refusal e h = record { recent = h.recent; told = h.told }
      refused calls (Report unit slot outcome) refusal e h = record { recent = h.recent; told = h.told }

      accepted : (calls : List Call) (call : Call) → refusal_of m (after m calls) call ≡ None → Alone (after m calls) (record_of m calls) → Alone (moved m (after m calls) call) (entry call (Ok (said m (after m calls) call)) ∷ record_of m calls)
      accepted calls (Request k budget) e h = alone_accepted calls k budget h e
      accepted calls Grant e h = record { recent = h.recent; told = h.told }
      accepted calls (Report unit slot outcome) e h = record { recent = h.recent; told = h.told }

pub sections_apart : (m : Setup) → Opened m → (calls : List Call) → SectionsApart m (record_of m calls)
sections_apart m o calls m' o' e calls' j l same =
    (alone m o j l calls).told
    ∙ ap (λ (t : Contents). solo_told (get_or t.lanes j (record { span = 0; quota = 0 })) (asked_of j (record_of m calls))) (sym e)
    ∙ ap (solo_told (lane_at m' j)) same
    ∙ sym (alone m' o' j (subst (λ (t : Contents). j < length t.lanes) (sym e) l) calls').told
