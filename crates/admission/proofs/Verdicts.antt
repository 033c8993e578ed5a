-- The laws of a verdict: within the limit the cycle is found and the load decides, past it the first record that goes past
-- it is named, and over another common multiple everything grows alike.
use Rattle.std.proofs.Common.{◌≡◌, ℕ, ◌+◌, ◌*◌, ◌/◌, ◌<◌, ◌≤◌, Bool, true, false, cond, leb, ◌↔◌, List, [], ◌∷◌, ◌++◌, is_ok, Ok, Err, sym, refl, ap, ◌∙◌, subst, inl, inr, append_assoc, mul_assoc, mul_comm, mul-le-mul_left, mul-add, arith}
use Prim.Native.Nat.{◌∣◌}
use native.Mathlib.Nat.{dvd-mul_right, mul-div_assoc, div-mul_cancel, le_of_mul-le-mul_left, pos_of_dvd_of_pos}
use Rattle.std.specs.List.{AllByRecursion}
use Rattle.std.proofs.lemmas.List.{map-append}
use Rattle.std.proofs.lemmas.Bool.{le-leb, lt-leb, leb-true, cases_lt}
use Rattle.sheet.specs.Entries.{Entry, place_of}
use Rattle.sheet.specs.Limited.{WithinLimits}
use Rattle.sheet.specs.Reading.{read_sheet, next}
use Rattle.sheet.proofs.Each.{each_joined}
use Rattle.sheet.proofs.Answers.{ok_same, cond_ok, next_ok}
use Rattle.sheet.proofs.WellReading.{well_read}
use Rattle.admission.specs.declared.fault.AdmissionFault.TheVariants.{Cycle}
use Rattle.admission.specs.Measure.{multiple_of}
use Rattle.admission.specs.Demand.{longest_cycle, multiple_of_all}
use Rattle.admission.specs.Verdict.{length_of, share_of, lengths, cycle_from, slots_of, load_in, weighed, verdict, after_reading, admit_sheet}
use Rattle.admission.specs.Laws.{CommonMultiple, LeastCommon, GrowsPast, AdmissionLaws}
use Rattle.admission.proofs.Adding.{sized}
use Rattle.admission.proofs.Cycles.{Positive, cycle_is, start_below, multiple_append}
use Rattle.admission.proofs.Measures.{multiple_pos}
use Rattle.admission.proofs.Tabled.{cycle_found}

positive : (entries : List Entry) → AllByRecursion WithinLimits entries → Positive (lengths entries)
positive [] h = tt
positive (entry ∷ entries) h = ((sized entry h.0).some, positive entries h.1)

-- within the limit every record passes, since a start is at most what becomes of it
found : (start : ℕ) (entries : List Entry) → 0 < start → Positive (lengths entries) → multiple_of_all start (lengths entries) ≤ longest_cycle → cycle_from start entries ≡ Ok (multiple_of_all start (lengths entries))
found start [] some h small = refl
found start (entry ∷ entries) some h small =
    let grown = multiple_of start (length_of entry) in
    let pos = multiple_pos start (length_of entry) some h.0 in
    let below = start_below grown (lengths entries) pos h.1 in
    ap (λ b. cond b (cycle_from grown entries) (Err (Cycle (place_of entry)))) (le-leb grown longest_cycle (omega arith)) ∙ found grown entries pos h.1 small

ok_test : {A E : Type 0} (b : Bool) (x : A) (e : E) → is_ok (cond b (Ok x) (Err e)) ≡ b
ok_test true x e = refl
ok_test false x e = refl

lengths_more : (before : List Entry) (entry : Entry) → multiple_of_all 1 (lengths (before ++ (entry ∷ []))) ≡ multiple_of (multiple_of_all 1 (lengths before)) (length_of entry)
lengths_more before entry = ap (multiple_of_all 1) (map-append length_of before (entry ∷ [])) ∙ multiple_append 1 (lengths before) (length_of entry ∷ [])

positive_more : (before : List Entry) (entry : Entry) → Positive (lengths before) → 0 < length_of entry → Positive (lengths (before ++ (entry ∷ [])))
positive_more before entry h p = subst Positive (sym (map-append length_of before (entry ∷ []))) (each_joined (λ n. 0 < n) (lengths before) (length_of entry ∷ []) h (p, tt))

-- past the limit some record is the first
grows : (before entries : List Entry) (start : ℕ) → start ≡ multiple_of_all 1 (lengths before) → start ≤ longest_cycle → Positive (lengths before) → Positive (lengths entries) → 0 < start → longest_cycle < multiple_of_all start (lengths entries) →
    (at : ℕ) × (cycle_from start entries ≡ Err (Cycle at)) × GrowsPast (before ++ entries) at
grows before [] start is small p q some large = absurd (omega arith)
grows before (entry ∷ entries) start is small p q some large =
    let grown = multiple_of start (length_of entry) in
    let next_is : multiple_of start (length_of entry) ≡ multiple_of_all 1 (lengths (before ++ (entry ∷ []))) = ap (λ n. multiple_of n (length_of entry)) is ∙ sym (lengths_more before entry) in
    let p-more = positive_more before entry p q.0 in
    elim (cases_lt longest_cycle grown) [
      | inl past ↦ (
        place_of entry,
        ap (λ b. cond b (cycle_from grown entries) (Err (Cycle (place_of entry)))) (lt-leb grown longest_cycle past),
        record {
          before = before;
          entry = entry;
          behind = entries;
          split = refl;
          place = refl;
          within = λ cycle l. let e = cycle_is (lengths before) cycle p l in omega arith;
          past = λ cycle l. let e = cycle_is (lengths (before ++ (entry ∷ []))) cycle p-more l in omega arith;
        },
      )
      | inr within ↦
          let on = grows (before ++ (entry ∷ [])) entries grown next_is within p-more q.1 (multiple_pos start (length_of entry) some q.0) large in (
            on.0,
            ap (λ b. cond b (cycle_from grown entries) (Err (Cycle (place_of entry)))) (le-leb grown longest_cycle within) ∙ on.1,
            subst (λ l. GrowsPast l on.0) (append_assoc before (entry ∷ []) entries) on.2,
          )
    ]

-- over k times a common multiple the load is k times as large
load_scaled : (k n : ℕ) (entries : List Entry) → CommonMultiple (lengths entries) n → load_in (k * n) entries ≡ k * load_in n entries
load_scaled k n [] h = omega arith
load_scaled k n (entry ∷ entries) h =
    let rest = load_scaled k n entries h.1 in
    let each : slots_of (k * n) entry ≡ k * slots_of n entry =
    ap (λ x. share_of entry * x) (mul-div_assoc (length_of entry) k h.0) ∙ sym (mul_assoc (share_of entry) k _) ∙ ap (λ x. x * (n / length_of entry)) (mul_comm (share_of entry) k) ∙ mul_assoc k (share_of entry) _ in
    (λ i. each i + rest i) ∙ sym (mul-add k (slots_of n entry) (load_in n entries))

module _ (bytes : List ℕ) (entries : List Entry) (e : read_sheet bytes ≡ Ok entries) (cycle : ℕ) (least : LeastCommon (lengths entries) cycle) where
  sizes : Positive (lengths entries)
  sizes = positive entries (well_read bytes entries e).limits

  is_cycle : cycle ≡ multiple_of_all 1 (lengths entries)
  is_cycle = cycle_is (lengths entries) cycle sizes least

  decided : admit_sheet bytes ≡ verdict entries
  decided = ap after_reading e

  exactly : cycle ≤ longest_cycle → (is_ok (admit_sheet bytes) ≡ true) ↔ (load_in cycle entries ≤ cycle)
  exactly small =
      let at : cycle_from 1 entries ≡ Ok cycle = found 1 entries (omega arith) sizes (omega (arith, is_cycle)) ∙ ap Ok (sym is_cycle) in
      let test : is_ok (admit_sheet bytes) ≡ leb (load_in cycle entries) cycle = ap is_ok (decided ∙ ap (λ r. next r (weighed entries)) at) ∙ ok_test (leb (load_in cycle entries) cycle) _ _ in
      ((λ yes. leb-true (load_in cycle entries) cycle (sym test ∙ yes)), (λ light. test ∙ le-leb (load_in cycle entries) cycle light))

  answered : (pair : ℕ × ℕ) → admit_sheet bytes ≡ Ok pair → (pair.0 ≡ load_in cycle entries) × (pair.1 ≡ cycle)
  answered pair ok =
      let parts = next_ok (cycle_from 1 entries) (weighed entries) pair (sym decided ∙ ok) in
      let same : parts.0 ≡ cycle = (cycle_found 1 parts.0 entries (omega arith) parts.1).0 ∙ sym is_cycle in
      let pair_is : (load_in parts.0 entries, parts.0) ≡ pair = ok_same _ pair (cond_ok (leb (load_in parts.0 entries) parts.0) _ _ pair parts.2).1 in
      (sym (ap (λ q. q.0) pair_is) ∙ ap (λ c. load_in c entries) same, sym (ap (λ q. q.1) pair_is) ∙ same)

  outgrown : longest_cycle < cycle → (at : ℕ) × (admit_sheet bytes ≡ Err (Cycle at)) × GrowsPast entries at
  outgrown large =
      let on = grows [] entries 1 refl (omega arith) tt sizes (omega arith) (omega (arith, is_cycle)) in
      (on.0, decided ∙ ap (λ r. next r (weighed entries)) on.1, on.2)

  any_multiple : (n : ℕ) → 1 ≤ n → CommonMultiple (lengths entries) n → (load_in cycle entries ≤ cycle) ↔ (load_in n entries ≤ n)
  any_multiple n some common =
      let k = n / cycle in
      let whole : n / cycle * cycle ≡ n = div-mul_cancel cycle (least.least n common) in
      let times : 0 < n / cycle = pos_of_dvd_of_pos (subst (λ m. n / cycle ∣ m) whole (dvd-mul_right k cycle)) some in
      let grown : load_in n entries ≡ n / cycle * load_in cycle entries = ap (λ m. load_in m entries) (sym whole) ∙ load_scaled k cycle entries least.common in (
        (λ light. let scaled = mul-le-mul_left k light in omega arith),
        (λ light. let scaled : n / cycle * load_in cycle entries ≤ n / cycle * cycle = omega arith in le_of_mul-le-mul_left {k = n / cycle} scaled times),
      )

pub admission_laws : (bytes : List ℕ) → AdmissionLaws bytes
admission_laws bytes entries e cycle least =
    record { exactly = exactly bytes entries e cycle least; answered = answered bytes entries e cycle least; outgrown = outgrown bytes entries e cycle least; any_multiple = any_multiple bytes entries e cycle least }
