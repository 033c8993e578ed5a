-- The fault of a sheet is that of the first question whose answer is no: question by question, record by record.
use Rattle.std.proofs.Common.{◌≡◌, ℕ, zero, suc, ◌+◌, Bool, true, false, cond, List, [], ◌∷◌, ◌++◌, take, Ok, Err, Result, sym, refl, ap, ◌∙◌, subst, inl, inr}
use Rattle.std.proofs.lemmas.List.{map_push}
use Rattle.sheet.specs.declared.fault.RecordFault.{RecordFault}
use Rattle.sheet.specs.declared.fault.RecordFault.TheVariants.{Ending}
use Rattle.sheet.specs.Limits.{header_bytes}
use Rattle.sheet.specs.Header.{claimed_length, claimed_polls, claimed_lanes}
use Rattle.sheet.specs.Entries.{Entry, name_of, names_of, end_of}
use Rattle.sheet.specs.Records.{kind_at, name_bytes, ends_at_length}
use Rattle.sheet.specs.Reading.{entries_from, read_sheet}
use Rattle.sheet.specs.Questions.{Question, ask, header_questions, record_questions, questions_from, questions, Judged}
use Rattle.sheet.proofs.Unrolled.{asked, entry_here, here_name, here_end, behind, record_asked, entries_claimed, sheet_asked}

judged_yes : (fault : RecordFault) (qs : List Question) (r : Result (List Entry) RecordFault) → Judged qs r → Judged (ask true fault ∷ qs) r
judged_yes fault qs (Ok entries) h = (refl, h)
judged_yes fault qs (Err e) h = inr (refl, h)

-- one more question in front: a no decides, and a yes leaves it to the others
judged_more : (b : Bool) (fault : RecordFault) (qs : List Question) (r : Result (List Entry) RecordFault) → Judged qs r → Judged (ask b fault ∷ qs) (cond b r (Err fault))
judged_more true fault qs r h = judged_yes fault qs r h
judged_more false fault qs r h = inl (refl, refl)

judged_asked : (qs rest : List Question) (r : Result (List Entry) RecordFault) → Judged rest r → Judged (qs ++ rest) (asked qs r)
judged_asked [] rest r h = h
judged_asked (q ∷ qs) rest r h = judged_more q.yes q.fault (qs ++ rest) (asked qs r) (judged_asked qs rest r h)

module _ (polls : ℕ) (sheet : List ℕ) where
  judged_from : (left i : ℕ) (earlier : List Entry) (at : ℕ) → Judged (questions_from left polls i (names_of earlier) sheet at) (entries_from left polls i earlier sheet at)
  judged_from zero i earlier at = judged_more (ends_at_length sheet at) (Ending at) [] (Ok earlier) tt
  judged_from (suc left) i earlier at =
      let kind = kind_at polls i in
      let here = entry_here kind sheet at in
      let names : names_of (earlier ++ (here ∷ [])) ≡ names_of earlier ++ (name_bytes sheet at ∷ []) = map_push name_of earlier here ∙ ap (λ n. names_of earlier ++ (n ∷ [])) (here_name kind sheet at) in
      let on = judged_from left (i + 1) (earlier ++ (here ∷ [])) (end_of here) in
      let named = subst (λ ns. Judged (questions_from left polls (i + 1) ns sheet (end_of here)) (behind left polls i earlier sheet at)) names on in
      let rest = subst (λ e. Judged (questions_from left polls (i + 1) (names_of earlier ++ (name_bytes sheet at ∷ [])) sheet e) (behind left polls i earlier sheet at)) (here_end kind sheet at) named in
      subst (Judged (questions_from (suc left) polls i (names_of earlier) sheet at)) (sym (record_asked left polls i earlier sheet at))
      (judged_asked (record_questions kind (names_of earlier) sheet at) _ (behind left polls i earlier sheet at) rest)

pub judged_sheet : (bytes : List ℕ) → Judged (questions bytes) (read_sheet bytes)
judged_sheet bytes =
    subst (Judged (questions bytes)) (sym (sheet_asked bytes))
    (judged_asked (header_questions bytes) _ (entries_claimed bytes)
    (judged_from (claimed_polls bytes) (take (claimed_length bytes) bytes) (claimed_polls bytes + claimed_lanes bytes) 0 [] header_bytes))
