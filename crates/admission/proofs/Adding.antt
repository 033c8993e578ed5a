-- One turn of the loop that finds the cycle: what is left decides, before the turn as after it.
use Rattle.std.proofs.Common.{◌≡◌, ℕ, ◌+◌, ◌<◌, ◌≤◌, cond, leb, List, map, length, get_or, drop, Err, sym, ap, ◌∙◌, subst}
use Rattle.std.specs.List.{AllByRecursion}
use Rattle.std.proofs.lemmas.List.{at_drop_more, drop_more}
use Rattle.std.proofs.lemmas.Bool.{le-leb}
use Rattle.sheet.specs.declared.record.Record.{Record}
use Rattle.sheet.specs.Limits.{longest_span}
use Rattle.sheet.specs.Entries.{Entry, poll, lane, seen, place_of}
use Rattle.sheet.specs.Limited.{WithinLimits}
use Rattle.admission.specs.declared.fault.AdmissionFault.TheVariants.{Cycle}
use Rattle.admission.specs.Measure.{multiple_of}
use Rattle.admission.specs.Demand.{longest_cycle}
use Rattle.admission.specs.Verdict.{length_of, share_of, cycle_from}

-- what the limits say of a record's length and share
pub record Sized (length share : ℕ) : Type 0 where
  pub some : 0 < length
  pub most : length ≤ longest_span
  pub less : share ≤ length

pub sized : (entry : Entry) → WithinLimits entry → Sized (length_of entry) (share_of entry)
sized (poll name phase period budget at) h = record { some = h.1; most = h.2; less = h.4 }
sized (lane name span quota at) h = record { some = h.0; most = h.1; less = h.3 }

module _ (records : List Record) (i : ℕ) (d : Record) (h : i < length records) where
  -- the record at i is sized, and the others are still within their limits
  pub sized_more : (length' share' : ℕ) → length' ≡ length_of (seen (get_or records i d)) → share' ≡ share_of (seen (get_or records i d)) → AllByRecursion WithinLimits (map seen (drop i records)) →
      Sized length' share' × AllByRecursion WithinLimits (map seen (drop (i + 1) records))
  sized_more length' share' e f all =
      let entry = seen (get_or records i d) in
      let both : WithinLimits (seen (get_or records i d)) × AllByRecursion WithinLimits (map seen (drop (i + 1) records)) = subst (λ l. AllByRecursion WithinLimits (map seen l)) (drop_more records i d h) all in
      (subst (λ l. Sized l share') (sym e) (subst (Sized (length_of entry)) (sym f) (sized entry both.0)), both.1)

  cycle_step : (cycle length' grown : ℕ) → length' ≡ length_of (seen (get_or records i d)) → grown ≡ multiple_of cycle length' →
      cycle_from cycle (map seen (drop i records)) ≡ cond (leb grown longest_cycle) (cycle_from grown (map seen (drop (i + 1) records))) (Err (Cycle (place_of (seen (get_or records i d)))))
  cycle_step cycle length' grown e g =
      at_drop_more (λ rest. cycle_from cycle (map seen rest)) records i d h
      ∙ ap (λ n. cond (leb n longest_cycle) (cycle_from n (map seen (drop (i + 1) records))) (Err (Cycle (place_of (seen (get_or records i d)))))) (ap (multiple_of cycle) (sym e) ∙ sym g)

  pub cycle_more : (cycle length' grown : ℕ) → length' ≡ length_of (seen (get_or records i d)) → grown ≡ multiple_of cycle length' → grown ≤ longest_cycle →
      cycle_from cycle (map seen (drop i records)) ≡ cycle_from grown (map seen (drop (i + 1) records))
  cycle_more cycle length' grown e g small =
      cycle_step cycle length' grown e g ∙ ap (λ t. cond t (cycle_from grown (map seen (drop (i + 1) records))) (Err (Cycle (place_of (seen (get_or records i d)))))) (le-leb grown longest_cycle small)
