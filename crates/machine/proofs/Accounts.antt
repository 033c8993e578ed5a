-- The account of a job: what is left of it and what it got make what was born of it, or a report finished it.
use Rattle.std.proofs.Common.{◌≡◌, ℕ, suc, ◌+◌, ◌<◌, ◌≤◌, Bool, true, false, ◌&&◌, ◌||◌, eqb, ◌⊎◌, List, [], ◌∷◌, Ok, None, refl, ap, ◌∙◌, inl, inr, arith}
use Rattle.std.proofs.lemmas.Bool.{cases_Bool, and_from, or_left, or_right}
use Rattle.std.proofs.lemmas.Bool.Decides.{nat_tests}
use Rattle.pile.specs.Sorted.{first_of}
use Rattle.queue.specs.declared.job.Job.{Job}
use Rattle.admission.specs.Sums.{sum_of}
use Rattle.machine.specs.declared.call.Call.{Call}
use Rattle.machine.specs.declared.call.Call.TheVariants.{Request, Grant, Report}
use Rattle.machine.specs.declared.call.Outcome.{Outcome}
use Rattle.machine.specs.declared.call.Outcome.TheVariants.{Used, Finished}
use Rattle.machine.specs.Lanes.{lane_job}
use Rattle.machine.specs.Machine.{Setup, State, refusal_of, moved, said, worked, released, new_deadline, owner_of, deadline_of}
use Rattle.machine.specs.History.{Entry, Slot, after, record_of, last_granted, is_finish, slots_in, went_to, slots_of, was_finished}
use Rattle.machine.specs.Promises.{Opened}
use Rattle.machine.proofs.Bags.{one_if, one_if_most, Positive, sum_put, sum_put_all}
use Rattle.machine.proofs.Along.{along, entry}
use Rattle.machine.proofs.Questions.{grant_accepted, report_accepted}
use Rattle.machine.proofs.Basics.{upto, upto_shut, upto_open, Holds, Basic, basic}
use Rattle.machine.proofs.Born.{weighed, born_of_polls, born_of_requests}

-- a job is weighed by its slots, or counted as one
abbrev pub by_slots : ℕ → ℕ
by_slots n = n

abbrev pub as_one : ℕ → ℕ
as_one n = 1

-- what was born of a job up to now
abbrev pub born : (ℕ → ℕ) → Setup → State → List Entry → ℕ → ℕ → ℕ
born w m s es owner deadline = born_of_polls w m.table.polls (upto s) owner deadline + born_of_requests w es owner deadline

-- the slots left in the bag of the job of an owner and a deadline, and how often it is there
abbrev pub slots_left : ℕ → ℕ → List Job → ℕ
slots_left owner deadline bag = sum_of (weighed by_slots owner deadline) bag

abbrev pub times_in : ℕ → ℕ → List Job → ℕ
times_in owner deadline bag = sum_of (weighed as_one owner deadline) bag

-- ONE REPORT: what it takes from the account of a job, where the open slot is the first job's

-- is the first job of the bag the one of this owner and deadline
abbrev pub is_first : ℕ → ℕ → List Job → Bool
is_first owner deadline bag = eqb (owner_of (first_of bag)) owner && eqb (deadline_of (first_of bag)) deadline

not_first_of_none : (owner deadline : ℕ) → 0 < deadline → is_first owner deadline [] ≡ false
not_first_of_none owner deadline z = grind (arith, nat_tests)

-- 'used' takes a slot from the job if it is the first, and none else
used_slots : (owner deadline : ℕ) (job : Job) (jobs : List Job) → 1 ≤ job.left →
    slots_left owner deadline (worked Used (job ∷ jobs)) + one_if (is_first owner deadline (job ∷ jobs)) ≡ slots_left owner deadline (job ∷ jobs)
used_slots owner deadline job jobs some = grind (arith, nat_tests)

-- 'finished' takes all that is left of the first job, and nothing of another
finished_own : (owner deadline : ℕ) (job : Job) (jobs : List Job) → 1 ≤ job.left → is_first owner deadline (job ∷ jobs) ≡ true →
    slots_left owner deadline (worked Finished (job ∷ jobs)) + 1 ≤ slots_left owner deadline (job ∷ jobs)
finished_own owner deadline job jobs some first = grind (arith, nat_tests)

finished_other : (owner deadline : ℕ) (job : Job) (jobs : List Job) → is_first owner deadline (job ∷ jobs) ≡ false →
    slots_left owner deadline (worked Finished (job ∷ jobs)) + one_if (is_first owner deadline (job ∷ jobs)) ≡ slots_left owner deadline (job ∷ jobs)
finished_other owner deadline job jobs other = grind (arith, nat_tests)

-- so a report finishes the job, or takes a slot from it if it is the first, and none else
slots_worked : (owner deadline : ℕ) → 0 < deadline → (outcome : Outcome) (bag : List Job) → Positive bag →
    (((is_first owner deadline bag && is_finish outcome) ≡ true) × (slots_left owner deadline (worked outcome bag) + 1 ≤ slots_left owner deadline bag))
    ⊎ (slots_left owner deadline (worked outcome bag) + one_if (is_first owner deadline bag) ≡ slots_left owner deadline bag)
slots_worked owner deadline z Used [] p = inr (omega (arith, ap one_if (not_first_of_none owner deadline z)))
slots_worked owner deadline z Finished [] p = inr (omega (arith, ap one_if (not_first_of_none owner deadline z)))
slots_worked owner deadline z Used (job ∷ jobs) p = inr (used_slots owner deadline job jobs p.0)
slots_worked owner deadline z Finished (job ∷ jobs) p = elim (cases_Bool (is_first owner deadline (job ∷ jobs))) [
  | inl first ↦ inl (and_from (is_first owner deadline (job ∷ jobs)) true first refl, finished_own owner deadline job jobs p.0 first)
  | inr other ↦ inr (finished_other owner deadline job jobs other)
]

-- it never takes more than the account holds
slots_worked_most : (owner deadline : ℕ) → 0 < deadline → (outcome : Outcome) (bag : List Job) → Positive bag →
    slots_left owner deadline (worked outcome bag) + one_if (is_first owner deadline bag) ≤ slots_left owner deadline bag
slots_worked_most owner deadline z outcome bag p = elim (slots_worked owner deadline z outcome bag p) [
  | inl f ↦ omega (arith, f.1, one_if_most (is_first owner deadline bag))
  | inr q ↦ omega (arith, q)
]

-- a job that is finished leaves the bag
ones_worked : (owner deadline : ℕ) → 0 < deadline → (outcome : Outcome) (bag : List Job) →
    times_in owner deadline (worked outcome bag) + one_if (is_first owner deadline bag && is_finish outcome) ≤ times_in owner deadline bag
ones_worked owner deadline z Used [] = let e = not_first_of_none owner deadline z in grind (arith, nat_tests)
ones_worked owner deadline z Finished [] = let e = not_first_of_none owner deadline z in grind (arith, nat_tests)
ones_worked owner deadline z Used (job ∷ jobs) = grind (arith, nat_tests)
ones_worked owner deadline z Finished (job ∷ jobs) = grind (arith, nat_tests)

-- THE ACCOUNT, along a history

pub record Account (m : Setup) (s : State) (es : List Entry) (owner deadline : ℕ) : Type 0 where
  -- what is left and what it got make what was born, or it was finished
  pub balance : (was_finished owner deadline (slots_in es) ≡ true) ⊎ (slots_left owner deadline s.bag + slots_of owner deadline (slots_in es) ≡ born by_slots m s es owner deadline)
  -- they never make more
  pub most : slots_left owner deadline s.bag + slots_of owner deadline (slots_in es) ≤ born by_slots m s es owner deadline
  -- a job that was finished is not in the bag any more
  pub once : times_in owner deadline s.bag + one_if (was_finished owner deadline (slots_in es)) ≤ born as_one m s es owner deadline

Accounts : Setup → State → List Entry → Type 0
Accounts m s es = (owner deadline : ℕ) → 0 < deadline → Account m s es owner deadline

account_request : (m : Setup) (s : State) (es : List Entry) (j budget : ℕ) → Accounts m s es → Accounts m (moved m s (Request j budget)) (entry (Request j budget) (Ok (said m s (Request j budget))) ∷ es)
unfolding Accounts
account_request m s es j budget h owner deadline z =
    let a = h owner deadline z in
    let job : Job = lane_job j (new_deadline m s j budget) budget in
    record {
      balance = elim a.balance [ inl f ↦ inl f | inr e ↦ inr (omega (arith, e, sum_put (weighed by_slots owner deadline) job s.bag)) ];
      most = omega (arith, a.most, sum_put (weighed by_slots owner deadline) job s.bag);
      once = omega (arith, a.once, sum_put (weighed as_one owner deadline) job s.bag);
    }

account_grant : (m : Setup) (s : State) (es : List Entry) → s.is_open ≡ false → Accounts m s es → Accounts m (moved m s Grant) (entry Grant (Ok (said m s Grant)) ∷ es)
unfolding Accounts
account_grant m s es shut h owner deadline z =
    let a = h owner deadline z in
    let slots = ap (λ y. born_of_polls by_slots m.table.polls y owner deadline) (upto_shut s shut) in
    let ones = ap (λ y. born_of_polls as_one m.table.polls y owner deadline) (upto_shut s shut) in
    record {
      balance = elim a.balance [ inl f ↦ inl f | inr e ↦ inr (omega (arith, e, slots, sum_put_all (weighed by_slots owner deadline) (released m s) s.bag)) ];
      most = omega (arith, a.most, slots, sum_put_all (weighed by_slots owner deadline) (released m s) s.bag);
      once = omega (arith, a.once, ones, sum_put_all (weighed as_one owner deadline) (released m s) s.bag);
    }

account_report : (m : Setup) (s : State) (es : List Entry) (unit slot : ℕ) (outcome : Outcome) → s.is_open ≡ true → Basic m s es → Accounts m s es →
    Accounts m (moved m s (Report unit slot outcome)) (entry (Report unit slot outcome) (Ok (said m s (Report unit slot outcome))) ∷ es)
unfolding Accounts
account_report m s es unit slot outcome on b h owner deadline z =
    record {
      balance = elim a.balance [
        | inl f ↦ inl (or_right (went_to owner deadline new && is_finish outcome) (was_finished owner deadline (slots_in es)) f)
        | inr e ↦ elim (slots_worked owner deadline z outcome s.bag b.positive) [
          | inl f ↦ inl (or_left (went_to owner deadline new && is_finish outcome) (was_finished owner deadline (slots_in es)) (ap (λ t. t && is_finish outcome) went ∙ f.0))
          | inr q ↦ inr (omega (arith, e, q, slots, ap one_if went))
        ]
      ];
      most = omega (arith, a.most, slots, slots_worked_most owner deadline z outcome s.bag b.positive, ap one_if went);
      once = omega (
        arith,
        a.once,
        ones,
        ones_worked owner deadline z outcome s.bag,
        ap (λ t. one_if (t && is_finish outcome)) went,
        either (went_to owner deadline new && is_finish outcome) (was_finished owner deadline (slots_in es)),
      );
    }
  where
    a : Account m s es owner deadline
    a = h owner deadline z

    new : Slot
    new = record { number = (last_granted es).number; owner = (last_granted es).owner; deadline = (last_granted es).deadline; finished = is_finish outcome }

    holds : Holds (last_granted es) s
    holds = b.held on

    went : went_to owner deadline new ≡ is_first owner deadline s.bag
    went = (λ k. eqb (holds.owner k) owner && eqb (holds.deadline k) deadline)

    slots : born_of_polls by_slots m.table.polls (upto s) owner deadline ≡ born_of_polls by_slots m.table.polls (suc s.slot) owner deadline
    slots = ap (λ y. born_of_polls by_slots m.table.polls y owner deadline) (upto_open s on)

    ones : born_of_polls as_one m.table.polls (upto s) owner deadline ≡ born_of_polls as_one m.table.polls (suc s.slot) owner deadline
    ones = ap (λ y. born_of_polls as_one m.table.polls y owner deadline) (upto_open s on)

    either : (x y : Bool) → one_if (x || y) ≤ one_if x + one_if y
    either x y = grind arith

account_moves : (m : Setup) (s : State) (es : List Entry) (call : Call) → refusal_of m s call ≡ None → Basic m s es → Accounts m s es → Accounts m (moved m s call) (entry call (Ok (said m s call)) ∷ es)
account_moves m s es (Request j budget) e b h = account_request m s es j budget h
account_moves m s es Grant e b h = account_grant m s es (grant_accepted m s e) h
account_moves m s es (Report unit slot outcome) e b h = account_report m s es unit slot outcome (report_accepted m s unit slot outcome e) b h

pub account : (m : Setup) → Opened m → (calls : List Call) (owner deadline : ℕ) → 0 < deadline → Account m (after m calls) (record_of m calls) owner deadline
unfolding Accounts
account m o = along m (Accounts m)
    (λ owner deadline z. record { balance = inr refl; most = omega arith; once = omega arith })
    (λ calls call refusal _ h owner deadline z.
    let a = h owner deadline z in
    record { balance = elim a.balance [ inl f ↦ inl f | inr e ↦ inr (omega (arith, e)) ]; most = omega (arith, a.most); once = omega (arith, a.once) })
    (λ calls call e h. account_moves m (after m calls) (record_of m calls) call e (basic m o calls) h)
