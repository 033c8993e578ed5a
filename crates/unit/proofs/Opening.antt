-- A unit that is opened is the machine that is set up and fresh, and every history from there keeps the promises.
use Rattle.std.proofs.Common.{◌≡◌, ℕ, zero, suc, ◌+◌, ◌<◌, ◌≤◌, false, List, [], ◌∷◌, None, is_some, if◌then◌else◌, length, take, map, replicate, sym, refl, ap, ◌∙◌, arith}
use Rattle.std.proofs.lemmas.List.{length-take-le, nil_from_length}
use Rattle.std.proofs.lemmas.Bool.Decides.{nat_tests}
use Rattle.sheet.specs.Limits.{most_polls, most_lanes}
use Rattle.admission.specs.declared.table.Lane.{Lane}
use Rattle.admission.specs.declared.table.Table.{Table}
use Rattle.admission.specs.Contents.{Contents, contents, Admissible}
use Rattle.machine.specs.Machine.{Machine, set_up, fresh, opening, open_refusal, places_for}
use Rattle.machine.specs.Promises.{EveryHistoryKeeps}
use Rattle.machine.proofs.EveryHistory.{promises_stand}
use Rattle.unit.specs.declared.recent.Recent.{Recent}
use Rattle.unit.specs.Deadlines.{deadlines_of}

pub few_polls : (table : Table) → length (contents table).polls ≤ most_polls
few_polls table = let within = table.polls.within in let size = table.polls.size in let n = length-take-le table.polls.count table.polls.places (omega arith) in omega arith

pub few_lanes : (table : Table) → length (contents table).lanes ≤ most_lanes
few_lanes table = let within = table.lanes.within in let size = table.lanes.size in let n = length-take-le table.lanes.count table.lanes.places (omega arith) in omega arith

-- every table that exists is admissible
pub admissible : (table : Table) → Admissible (contents table)
admissible table = record {
  few_polls = few_polls table;
  few_lanes = few_lanes table;
  polls_fit = table.polls_fit;
  lanes_fit = table.lanes_fit;
  cycle_is = table.cycle_is;
  short = table.short;
  load_is = table.load_is;
  light = table.light;
}

pub promises : (table : Table) (places unit : ℕ) → places_for (contents table) ≤ places → EveryHistoryKeeps (set_up places (contents table) unit)
promises table places unit roomy = promises_stand (set_up places (contents table) unit) (record { is_opened = refl; admissible = admissible table; roomy = roomy })

-- of no lane anything is remembered
pub none_remembered : (recent : Recent) → deadlines_of recent ≡ [] → (lanes : List Lane) (n : ℕ) → length lanes ≤ n → map deadlines_of (take (length lanes) (replicate n recent)) ≡ map (λ lane. []) lanes
none_remembered recent e [] n h = refl
none_remembered recent e (lane ∷ lanes) zero h = absurd (omega arith)
none_remembered recent e (lane ∷ lanes) (suc n) h = let rest = none_remembered recent e lanes n (omega arith) in (λ i. e i ∷ rest i)

accepted : (machine : Machine) (table : Contents) → 0 < length table.polls + length table.lanes → length machine.state.bag ≡ 0 → places_for table ≤ machine.setup.places → machine.setup.opened ≡ false → open_refusal machine table ≡ None
accepted machine table some empty roomy first = grind (arith, nat_tests)

pub opened : (machine : Machine) (table : Contents) (unit : ℕ) (recent : List (List ℕ)) →
    0 < length table.polls + length table.lanes → length machine.state.bag ≡ 0 → places_for table ≤ machine.setup.places → machine.setup.opened ≡ false → recent ≡ map (λ lane. []) table.lanes →
    record { setup = set_up machine.setup.places table unit; state = record { bag = machine.state.bag; slot = 0; is_open = false; recent = recent } } ≡ opening machine table unit
opened machine table unit recent some empty roomy first none =
    let e = accepted machine table some empty roomy first in
    let bag : machine.state.bag ≡ [] = nil_from_length machine.state.bag empty in
    (λ i. record { setup = set_up machine.setup.places table unit; state = record { bag = bag i; slot = 0; is_open = false; recent = none i } })
    ∙ sym (ap (λ o. if is_some o then machine else record { setup = set_up machine.setup.places table unit; state = fresh (set_up machine.setup.places table unit) }) e)
