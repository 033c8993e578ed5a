-- The records of a sheet that is read are as they should be: one induction carries all that holds of those so far.
use Rattle.std.proofs.Common.{◌≡◌, ℕ, zero, suc, ◌+◌, ◌≤◌, true, false, cond, not, ltb, leb, List, [], ◌∷◌, ◌++◌, length, take, drop, Ok, Result, sym, refl, ap, ◌∙◌, subst, zero-add, arith, length-drop, length-take-le}
use Rattle.std.specs.List.{AllByRecursion}
use Rattle.std.specs.Str.{bytes_eq}
use Rattle.std.proofs.lemmas.Slice.Eq.{bytes_eq-Decides}
use Rattle.std.proofs.lemmas.List.{length_push}
use Rattle.std.proofs.lemmas.Bool.{and_parts, or_parts, not-true, both_ways, leb-true, eqb-true, lt-ltb, le-ltb}
use Rattle.std.proofs.lemmas.Bool.Decides.{nat_tests}
use Rattle.sheet.specs.declared.kind.Kind.{Kind}
use Rattle.sheet.specs.declared.kind.Kind.TheVariants.{Poll as OfPoll, Lane as OfLane}
use Rattle.sheet.specs.declared.fault.RecordFault.{RecordFault}
use Rattle.sheet.specs.declared.fault.RecordFault.TheVariants.{Ending}
use Rattle.sheet.specs.Limits.{header_bytes, most_polls, most_lanes, longest_name}
use Rattle.sheet.specs.Header.{claimed_length, claimed_polls, claimed_lanes}
use Rattle.sheet.specs.Entries.{Entry, kind_of, name_of, names_of, place_of, end_of}
use Rattle.sheet.specs.Records.{kind_at, claimed_name, name_bytes, name_length_fits, numbers_size, is_plain, is_taken, numbers_fit, ends_at_length}
use Rattle.sheet.specs.Reading.{numbered, entries_from, read_sheet}
use Rattle.sheet.specs.Questions.{Question, AllYes, header_questions, record_questions}
use Rattle.sheet.specs.Limited.{WithinLimits}
use Rattle.sheet.specs.Laws.{WellNamed, Distinct, Tiles, PollsFirst, WellRead}
use Rattle.sheet.proofs.Each.{each_joined}
use Rattle.sheet.proofs.Answers.{ok_same, cond_ok}
use Rattle.sheet.proofs.Unrolled.{asked, entry_here, here_kind, here_name, here_place, behind, record_asked, entries_claimed, sheet_asked}

-- what records as an answer say of the questions on the way to them
asked_ok : (qs : List Question) (r : Result (List Entry) RecordFault) (entries : List Entry) → asked qs r ≡ Ok entries → AllYes qs × (r ≡ Ok entries)
asked_ok [] r entries h = (tt, h)
asked_ok (q ∷ qs) r entries h =
    let here = cond_ok q.yes (asked qs r) q.fault entries h in
    let on = asked_ok qs r entries here.1 in
    ((here.0, on.0), on.1)

-- one more record at the end
distinct_push : (entries : List Entry) (entry : Entry) → Distinct entries → is_taken (name_of entry) (names_of entries) ≡ false → Distinct (entries ++ (entry ∷ []))
distinct_push [] entry h free = (tt, tt)
distinct_push (other ∷ entries) entry h free =
    let both = or_parts (bytes_eq (name_of other) (name_of entry)) (is_taken (name_of entry) (names_of entries)) free in
    let apart : name_of other ≡ name_of entry → ⊥ = λ e. both_ways (bytes_eq (name_of other) (name_of entry)) both.0 ((bytes_eq-Decides (name_of other) (name_of entry)).1 e) in
    (each_joined (λ o. name_of other ≡ name_of o → ⊥) entries (entry ∷ []) h.0 (apart, tt), distinct_push entries entry h.1 both.1)

tiles_push : (from : ℕ) (entries : List Entry) (at : ℕ) (entry : Entry) → Tiles from entries at → place_of entry ≡ at → Tiles from (entries ++ (entry ∷ [])) (end_of entry)
tiles_push from [] at entry h p = (p ∙ sym h, refl)
tiles_push from (first ∷ entries) at entry h p = (h.0, tiles_push (end_of first) entries at entry h.1 p)

kind_suc : (polls i : ℕ) → kind_at (suc polls) (suc i) ≡ kind_at polls i
kind_suc polls i = grind (arith, nat_tests)

kind_past : (i : ℕ) → kind_at 0 i ≡ OfLane
kind_past i = ap (λ b. cond b OfPoll OfLane) (le-ltb i 0 (omega arith))

kind_first : (polls : ℕ) → kind_at (suc polls) 0 ≡ OfPoll
kind_first polls = ap (λ b. cond b OfPoll OfLane) (lt-ltb 0 (suc polls) (omega arith))

order_push : (polls : ℕ) (entries : List Entry) (entry : Entry) → PollsFirst polls entries → kind_of entry ≡ kind_at polls (length entries) → PollsFirst polls (entries ++ (entry ∷ []))
order_push zero [] entry h k = (k ∙ kind_past 0, tt)
order_push zero (first ∷ entries) entry h k = (h.0, order_push zero entries entry h.1 (k ∙ kind_past (suc (length entries)) ∙ sym (kind_past (length entries))))
order_push (suc polls) [] entry h k = (k ∙ kind_first polls, tt)
order_push (suc polls) (first ∷ entries) entry h k = (h.0, order_push polls entries entry h.1 (k ∙ kind_suc polls (length entries)))

-- what the questions say of the record
limits_here : (kind : Kind) (name sheet : List ℕ) (first at : ℕ) → numbers_fit kind sheet first ≡ true → WithinLimits (numbered kind name sheet first at)
limits_here OfPoll name sheet first at h = grind (arith, nat_tests)
limits_here OfLane name sheet first at h = grind (arith, nat_tests)

length_here : (kind : Kind) (sheet : List ℕ) (at : ℕ) → name_length_fits kind sheet at ≡ true → (1 ≤ length (name_bytes sheet at)) × (length (name_bytes sheet at) ≤ longest_name)
length_here kind sheet at h =
    let n = claimed_name sheet at in
    let a = and_parts (ltb (at + 1) (length sheet)) _ h in
    let b = and_parts (leb 1 n) _ a.1 in
    let d = and_parts (leb n longest_name) _ b.1 in
    let some = leb-true 1 n b.0 in
    let few = leb-true n longest_name d.0 in
    let inside = leb-true (at + 2 + n + numbers_size kind) (length sheet) d.1 in
    let room : claimed_name sheet at ≤ length (drop (at + 2) sheet) = simp length-drop (omega arith) in
    let long : length (name_bytes sheet at) ≡ n = length-take-le n (drop (at + 2) sheet) room in
    (omega arith, omega arith)

-- what holds of the first i records, the last of which ends before `at`
record Sofar (polls i : ℕ) (earlier : List Entry) (at : ℕ) : Type 0 where
  limits : AllByRecursion WithinLimits earlier
  names : AllByRecursion WellNamed earlier
  distinct : Distinct earlier
  tiles : Tiles header_bytes earlier at
  count : length earlier ≡ i
  order : PollsFirst polls earlier

module _ (polls : ℕ) (sheet : List ℕ) where
  sofar_more : (i : ℕ) (earlier : List Entry) (at : ℕ) → Sofar polls i earlier at → AllYes (record_questions (kind_at polls i) (names_of earlier) sheet at) →
      Sofar polls (i + 1) (earlier ++ (entry_here (kind_at polls i) sheet at ∷ [])) (end_of (entry_here (kind_at polls i) sheet at))
  sofar_more i earlier at s h =
      let kind = kind_at polls i in
      let entry = entry_here kind sheet at in
      let name = here_name kind sheet at in
      let allowed = and_parts (is_plain (name_bytes sheet at)) (not (is_taken (name_bytes sheet at) (names_of earlier))) h.1.1.0 in
      let long = length_here kind sheet at h.1.0 in
      let named : WellNamed entry = subst (λ n. (1 ≤ length n) × (length n ≤ longest_name) × (is_plain n ≡ true)) (sym name) (long.0, long.1, allowed.0) in
      let free : is_taken (name_of entry) (names_of earlier) ≡ false = ap (λ n. is_taken n (names_of earlier)) name ∙ not-true _ allowed.1 in
      record {
        limits = each_joined WithinLimits earlier (entry ∷ []) s.limits (limits_here kind (name_bytes sheet at) sheet _ at h.1.1.1.0, tt);
        names = each_joined WellNamed earlier (entry ∷ []) s.names (named, tt);
        distinct = distinct_push earlier entry s.distinct free;
        tiles = tiles_push header_bytes earlier at entry s.tiles (here_place kind sheet at);
        count = length_push earlier entry ∙ ap (λ n. n + 1) s.count;
        order = order_push polls earlier entry s.order (here_kind kind sheet at ∙ ap (kind_at polls) (sym s.count));
      }

  sofar_all : (left i : ℕ) (earlier : List Entry) (at : ℕ) (entries : List Entry) → Sofar polls i earlier at → entries_from left polls i earlier sheet at ≡ Ok entries → Sofar polls (i + left) entries (length sheet)
  sofar_all zero i earlier at entries s e =
      let end = cond_ok (ends_at_length sheet at) (Ok earlier) (Ending at) entries e in
      let here : at ≡ length sheet = eqb-true at (length sheet) end.0 in
      let total : i ≡ i + 0 = omega arith in
      subst (λ n. Sofar polls n entries (length sheet)) total (subst (λ es. Sofar polls i es (length sheet)) (ok_same earlier entries end.1) (subst (Sofar polls i earlier) here s))
  sofar_all (suc left) i earlier at entries s e =
      let got = asked_ok (record_questions (kind_at polls i) (names_of earlier) sheet at) (behind left polls i earlier sheet at) entries (sym (record_asked left polls i earlier sheet at) ∙ e) in
      let total : i + 1 + left ≡ i + suc left = omega arith in
      subst (λ n. Sofar polls n entries (length sheet)) total (sofar_all left (i + 1) _ _ entries (sofar_more i earlier at s got.0) got.1)

pub well_read : (bytes : List ℕ) (entries : List Entry) → read_sheet bytes ≡ Ok entries → WellRead bytes entries
well_read bytes entries e =
    let got = asked_ok (header_questions bytes) (entries_claimed bytes) entries (sym (sheet_asked bytes) ∙ e) in
    let given = and_parts (leb header_bytes (length bytes)) _ got.0.0 in
    let inside = leb-true (claimed_length bytes) (length bytes) (and_parts (leb header_bytes (claimed_length bytes)) _ given.1).1 in
    let counts = and_parts (leb (claimed_polls bytes) most_polls) _ got.0.1.1.0 in
    let start : Sofar (claimed_polls bytes) 0 [] header_bytes = record { limits = tt; names = tt; distinct = tt; tiles = refl; count = refl; order = tt } in
    let all = sofar_all (claimed_polls bytes) (take (claimed_length bytes) bytes) (claimed_polls bytes + claimed_lanes bytes) 0 [] header_bytes entries start got.1 in
    record {
      limits = all.limits;
      names = all.names;
      distinct = all.distinct;
      tiles = subst (Tiles header_bytes entries) (length-take-le (claimed_length bytes) bytes inside) all.tiles;
      few_polls = leb-true (claimed_polls bytes) most_polls counts.0;
      few_lanes = leb-true (claimed_lanes bytes) most_lanes (and_parts (leb (claimed_lanes bytes) most_lanes) _ counts.1).0;
      count = all.count ∙ zero-add _;
      order = all.order;
    }
