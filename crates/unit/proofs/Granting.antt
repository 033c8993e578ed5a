-- A grant step by step: the jobs that are released are as many as are due, and the machine afterwards.
use Rattle.std.proofs.Common.{◌≡◌, ℕ, ◌+◌, ◌<◌, ◌≤◌, Bool, true, false, List, length, Some, None, Ok, Err, is_some, if◌then◌else◌, sym, ap, ◌∙◌, subst, arith}
use Rattle.std.specs.Option.{option_map_or}
use Rattle.std.proofs.lemmas.Bool.Decides.{nat_tests}
use Rattle.pile.specs.Sorted.{first_of}
use Rattle.queue.specs.declared.job.Job.{Job}
use Rattle.admission.specs.declared.table.Table.{Table}
use Rattle.admission.specs.Contents.{contents}
use Rattle.machine.specs.declared.call.Call.TheVariants.{Grant}
use Rattle.machine.specs.declared.call.Reply.TheVariants.{Granted}
use Rattle.machine.specs.declared.refusal.Refusal.TheVariants.{NoPlaceForRelease}
use Rattle.machine.specs.Limits.{slots_in_all}
use Rattle.machine.specs.Machine.{Setup, State, put_all, released, refusal_of, moved, answer, owner_of, deadline_of}
use Rattle.machine.specs.Polls.{jobs_at}
use Rattle.unit.specs.declared.releases.Release.{Release}
use Rattle.unit.specs.Releases.{upto, due_count, InStep}
use Rattle.unit.specs.Meaning.{called}
use Rattle.unit.proofs.Releasing.{timed, due_in_step}

-- while no slot is open the releases are in step with the present slot, and as many are due as the machine releases
pub as_many : (releases : List Release) (table : Table) (slot : ℕ) (is_open : Bool) → is_open ≡ false → InStep releases (contents table).polls (upto slot is_open) → due_count slot releases ≡ length (jobs_at slot 0 (contents table).polls)
as_many releases table slot is_open shut h =
    due_in_step (contents table).polls slot releases (timed table) (subst (λ b. InStep releases (contents table).polls (upto slot b)) shut h)

-- THE QUESTIONS

no_place_by : (m : Setup) (s : State) → m.opened ≡ true → s.is_open ≡ false → s.slot < slots_in_all → m.places < length s.bag + length (released m s) → refusal_of m s Grant ≡ Some NoPlaceForRelease
no_place_by m s opened shut early full = grind (arith, nat_tests)

pub no_place : (m : Setup) (s : State) → m.opened ≡ true → s.is_open ≡ false → s.slot < slots_in_all → m.places < length s.bag + length (released m s) → Err NoPlaceForRelease ≡ answer m s Grant
no_place m s opened shut early full = sym (ap (λ o. option_map_or Err o (Ok (Granted m.unit s.slot (owner_of (first_of (put_all (released m s) s.bag))) (deadline_of (first_of (put_all (released m s) s.bag)))))) (no_place_by m s opened shut early full))

pub no_place_stays : (m : Setup) (s : State) → m.opened ≡ true → s.is_open ≡ false → s.slot < slots_in_all → m.places < length s.bag + length (released m s) → record { setup = m; state = s } ≡ called (record { setup = m; state = s }) Grant
no_place_stays m s opened shut early full = sym (ap (λ o. record { setup = m; state = if is_some o then s else moved m s Grant }) (no_place_by m s opened shut early full))

accepted : (m : Setup) (s : State) → m.opened ≡ true → s.is_open ≡ false → s.slot < slots_in_all → length s.bag + length (released m s) ≤ m.places → refusal_of m s Grant ≡ None
accepted m s opened shut early fits = grind (arith, nat_tests)

-- THE MACHINE AFTERWARDS

pub granted : (m : Setup) (s : State) (places : ℕ) (bag : List Job) → m.opened ≡ true → s.is_open ≡ false → s.slot < slots_in_all → length s.bag + length (released m s) ≤ m.places → places ≡ m.places → bag ≡ put_all (released m s) s.bag →
    record { setup = record { places = places; opened = m.opened; table = m.table; unit = m.unit }; state = record { bag = bag; slot = s.slot; is_open = true; recent = s.recent } } ≡ called (record { setup = m; state = s }) Grant
granted m s places bag opened shut early fits hp hb =
    (λ i. record { setup = record { places = hp i; opened = m.opened; table = m.table; unit = m.unit }; state = record { bag = hb i; slot = s.slot; is_open = true; recent = s.recent } })
    ∙ sym (ap (λ o. record { setup = m; state = if is_some o then s else moved m s Grant }) (accepted m s opened shut early fits))

pub granted_answer : (m : Setup) (s : State) (bag : List Job) (owner deadline : ℕ) → m.opened ≡ true → s.is_open ≡ false → s.slot < slots_in_all → length s.bag + length (released m s) ≤ m.places → bag ≡ put_all (released m s) s.bag → owner ≡ owner_of (first_of bag) → deadline ≡ deadline_of (first_of bag) →
    Ok (Granted m.unit s.slot owner deadline) ≡ answer m s Grant
granted_answer m s bag owner deadline opened shut early fits hb ho hd =
    (λ i. Ok (Granted m.unit s.slot ((ho ∙ ap (λ b. owner_of (first_of b)) hb) i) ((hd ∙ ap (λ b. deadline_of (first_of b)) hb) i)))
    ∙ sym (ap (λ o. option_map_or Err o (Ok (Granted m.unit s.slot (owner_of (first_of (put_all (released m s) s.bag))) (deadline_of (first_of (put_all (released m s) s.bag)))))) (accepted m s opened shut early fits))
