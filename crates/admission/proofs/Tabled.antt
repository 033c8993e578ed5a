-- The records of a sheet that is admitted make an admissible table: polls stand before lanes, so that the lengths, the
-- load and the counts of the records are those of the polls and the lanes.
use Rattle.std.proofs.Common.{◌≡◌, ℕ, zero, suc, ◌+◌, ◌-◌, ◌≤◌, Bool, true, false, leb, List, [], ◌∷◌, map, length, Ok, sym, refl, ap, ◌∙◌, subst, arith}
use Rattle.std.specs.List.{AllByRecursion, list_all}
use Rattle.std.proofs.lemmas.List.{nil_from_length}
use Rattle.std.proofs.lemmas.Bool.{and_from, le-leb, leb-true}
use Rattle.sheet.proofs.Answers.{ok_same, cond_ok}
use Rattle.sheet.specs.declared.kind.Kind.{Kind}
use Rattle.sheet.specs.declared.kind.Kind.TheVariants.{Poll as OfPoll, Lane as OfLane}
use Rattle.sheet.specs.Header.{claimed_polls, claimed_lanes}
use Rattle.sheet.specs.Limits.{latest_phase, longest_span}
use Rattle.sheet.specs.Entries.{Entry, poll, lane, place_of}
use Rattle.sheet.specs.Limited.{WithinLimits}
use Rattle.sheet.specs.Laws.{PollsFirst, WellRead}
use Rattle.admission.specs.declared.fault.AdmissionFault.TheVariants.{Cycle}
use Rattle.admission.specs.Measure.{multiple_of}
use Rattle.admission.specs.Limits.{poll_fits, lane_fits}
use Rattle.admission.specs.Demand.{longest_cycle, multiple_of_all, lengths_of, load_of}
use Rattle.admission.specs.Contents.{Admissible}
use Rattle.admission.specs.Verdict.{length_of, lengths, cycle_from, load_in, polls_in, lanes_in, filled}

-- a poll is no lane
abbrev is_poll : Kind → Bool
is_poll OfPoll = true
is_poll OfLane = false

clash : {A : Type 0} → true ≡ false → A
clash e = absurd (let z : ◌≡◌ {A = ℕ} 0 1 = cc in omega arith)

-- the numbers lie in their limits
polls_fit : (entries : List Entry) → AllByRecursion WithinLimits entries → list_all poll_fits (polls_in entries) ≡ true
polls_fit [] h = refl
polls_fit (poll name phase period budget at ∷ entries) h =
    let own = h.0 in
    and_from _ _ (and_from _ _ (le-leb phase latest_phase own.0) (and_from _ _ (le-leb 1 period own.1) (and_from _ _ (le-leb period longest_span own.2) (and_from _ _ (le-leb 1 budget own.3) (le-leb budget period own.4))))) (polls_fit entries h.1)
polls_fit (lane name span quota at ∷ entries) h = polls_fit entries h.1

lanes_fit : (entries : List Entry) → AllByRecursion WithinLimits entries → list_all lane_fits (lanes_in entries) ≡ true
lanes_fit [] h = refl
lanes_fit (poll name phase period budget at ∷ entries) h = lanes_fit entries h.1
lanes_fit (lane name span quota at ∷ entries) h =
    let own = h.0 in
    and_from _ _ (and_from _ _ (le-leb 1 span own.0) (and_from _ _ (le-leb span longest_span own.1) (and_from _ _ (le-leb 1 quota own.2) (le-leb quota span own.3)))) (lanes_fit entries h.1)

-- polls first: so many polls, so many lanes, and the lengths of the polls before those of the lanes
Split : ℕ → ℕ → List Entry → Type 0
Split polls lanes entries = (length (polls_in entries) ≡ polls) × (length (lanes_in entries) ≡ lanes) × (lengths entries ≡ lengths_of (polls_in entries) (lanes_in entries))

split : (polls lanes : ℕ) (entries : List Entry) → PollsFirst polls entries → length entries ≡ polls + lanes → Split polls lanes entries
unfolding Split
split zero lanes [] h e = (refl, omega arith, refl)
split zero lanes (poll name phase period budget at ∷ entries) h e = clash (ap is_poll h.0)
split zero lanes (lane name span quota at ∷ entries) h e =
    let rest = split zero (lanes - 1) entries h.1 (omega arith) in
    let none : polls_in entries ≡ [] = nil_from_length (polls_in entries) rest.0 in
    let here : lengths entries ≡ map (λ l. l.span) (lanes_in entries) = rest.2 ∙ ap (λ ps. lengths_of ps (lanes_in entries)) none in
    (rest.0, omega (arith, rest.1), ap (λ l. span ∷ l) here ∙ ap (λ ps. lengths_of ps (record { span = span; quota = quota } ∷ lanes_in entries)) (sym none))
split (suc polls) lanes [] h e = absurd (omega arith)
split (suc polls) lanes (poll name phase period budget at ∷ entries) h e =
    let rest = split polls lanes entries h.1 (omega arith) in
    (ap suc rest.0, rest.1, ap (λ l. period ∷ l) rest.2)
split (suc polls) lanes (lane name span quota at ∷ entries) h e = clash (sym (ap is_poll h.0))

-- the load of the records is that of the polls and the lanes
load_split : (cycle : ℕ) (entries : List Entry) → load_in cycle entries ≡ load_of cycle (polls_in entries) (lanes_in entries)
load_split cycle [] = refl
load_split cycle (poll name phase period budget at ∷ entries) = let rest = load_split cycle entries in omega arith
load_split cycle (lane name span quota at ∷ entries) = let rest = load_split cycle entries in omega arith

-- the cycle that is found is the least common multiple of the lengths one by one, and within the limit
pub cycle_found : (start cycle : ℕ) (entries : List Entry) → start ≤ longest_cycle → cycle_from start entries ≡ Ok cycle → (cycle ≡ multiple_of_all start (lengths entries)) × (cycle ≤ longest_cycle)
cycle_found start cycle [] small e = let same = ok_same start cycle e in (sym same, subst (λ n. n ≤ longest_cycle) same small)
cycle_found start cycle (entry ∷ entries) small e =
    let grown = multiple_of start (length_of entry) in
    let step = cond_ok (leb grown longest_cycle) (cycle_from grown entries) (Cycle (place_of entry)) cycle e in
    cycle_found grown cycle entries (leb-true grown longest_cycle step.0) step.1

pub admissible_records : (bytes : List ℕ) (entries : List Entry) (load cycle : ℕ) → WellRead bytes entries → cycle_from 1 entries ≡ Ok cycle → load ≡ load_in cycle entries → load ≤ cycle → Admissible (filled entries (load, cycle))
unfolding Split
admissible_records bytes entries load cycle h found is light =
    let parts = split (claimed_polls bytes) (claimed_lanes bytes) entries h.order h.count in
    let at = cycle_found 1 cycle entries (omega arith) found in
    record {
      few_polls = omega (arith, parts.0, h.few_polls);
      few_lanes = omega (arith, parts.1, h.few_lanes);
      polls_fit = polls_fit entries h.limits;
      lanes_fit = lanes_fit entries h.limits;
      cycle_is = at.0 ∙ ap (multiple_of_all 1) parts.2;
      short = at.1;
      load_is = is ∙ load_split cycle entries;
      light = light;
    }
