-- One turn of the reader's loop: what is left decides the answer, before the turn as after it.
use Rattle.std.proofs.Common.{◌≡◌, ℕ, ◌+◌, ◌-◌, ◌<◌, List, [], ◌∷◌, ◌++◌, Ok, Err, Result, sym, ap, ◌∙◌, add-one, arith}
use Rattle.sheet.specs.declared.kind.Kind.{Kind}
use Rattle.sheet.specs.declared.fault.RecordFault.{RecordFault}
use Rattle.sheet.specs.Entries.{Entry, end_of}
use Rattle.sheet.specs.Records.{kind_at}
use Rattle.sheet.specs.Reading.{next, entry_at, entries_from}

module _ (total polls i : ℕ) (earlier : List Entry) (sheet : List ℕ) (at : ℕ) (kind : Kind) (less : i < total) (is : kind ≡ kind_at polls i) where
  -- what a turn makes of the record that it reads
  turn : Result Entry RecordFault → Result (List Entry) RecordFault
  turn r = next r (λ entry. entries_from (total - (i + 1)) polls (i + 1) (earlier ++ (entry ∷ [])) sheet (end_of entry))

  step : entries_from (total - i) polls i earlier sheet at ≡ turn (entry_at kind earlier sheet at)
  unfolding turn
  step =
      let left : total - i ≡ total - (i + 1) + 1 = omega arith in
      ap (λ m. entries_from m polls i earlier sheet at) (left ∙ add-one (total - (i + 1)))
      ∙ ap (λ k. turn (entry_at k earlier sheet at)) (sym is)

  pub turn_more : (entry : Entry) (end : ℕ) → entry_at kind earlier sheet at ≡ Ok entry → end ≡ end_of entry →
      entries_from (total - i) polls i earlier sheet at ≡ entries_from (total - (i + 1)) polls (i + 1) (earlier ++ (entry ∷ [])) sheet end
  unfolding turn
  turn_more entry end got ends =
      step ∙ ap turn got ∙ ap (λ e. entries_from (total - (i + 1)) polls (i + 1) (earlier ++ (entry ∷ [])) sheet e) (sym ends)

  pub turn_fault : (fault : RecordFault) → entry_at kind earlier sheet at ≡ Err fault → entries_from (total - i) polls i earlier sheet at ≡ Err fault
  unfolding turn
  turn_fault fault got = step ∙ ap turn got
