-- What holds of every verdict, in the words of whoever asks for it.
use Rattle.std.specs.Prelude.{◌≡◌, ℕ, ◌<◌, ◌≤◌, true, ◌↔◌, List, [], ◌∷◌, ◌++◌, is_ok, Ok, Err}
use Rattle.std.specs.Int.{◌∣◌}
use Rattle.std.specs.List.{AllByRecursion}
use Rattle.sheet.specs.Entries.{Entry, place_of}
use Rattle.sheet.specs.Reading.{read_sheet}
use Rattle.admission.specs.declared.fault.AdmissionFault.TheVariants.{Cycle}
use Rattle.admission.specs.Demand.{longest_cycle}
use Rattle.admission.specs.Verdict.{lengths, load_in, admit_sheet}

-- every length divides it
abbrev pub CommonMultiple : List ℕ → ℕ → Type 0
CommonMultiple lengths' n = AllByRecursion (λ length. length ∣ n) lengths'

-- and it divides every number that every length divides
pub record LeastCommon (lengths' : List ℕ) (cycle : ℕ) : Type 0 where
  pub common : CommonMultiple lengths' cycle
  pub least : (n : ℕ) → CommonMultiple lengths' n → cycle ∣ n

-- `at` is the first byte of the record at which the cycle first grows past its limit
pub record GrowsPast (entries : List Entry) (at : ℕ) : Type 0 where
  pub before : List Entry
  pub entry : Entry
  pub behind : List Entry
  pub split : entries ≡ before ++ (entry ∷ behind)
  pub place : place_of entry ≡ at
  pub within : (cycle : ℕ) → LeastCommon (lengths before) cycle → cycle ≤ longest_cycle
  pub past : (cycle : ℕ) → LeastCommon (lengths (before ++ (entry ∷ []))) cycle → longest_cycle < cycle

-- of a sheet that could be read, whose records have this least common multiple of all periods and spans
pub record VerdictLaws (bytes : List ℕ) (entries : List Entry) (cycle : ℕ) : Type 0 where
  -- within the limit it is admitted exactly when its load is at most its cycle, and this is the cycle that is answered
  pub exactly : cycle ≤ longest_cycle → (is_ok (admit_sheet bytes) ≡ true) ↔ (load_in cycle entries ≤ cycle)
  pub answered : (pair : ℕ × ℕ) → admit_sheet bytes ≡ Ok pair → (pair.0 ≡ load_in cycle entries) × (pair.1 ≡ cycle)
  -- past the limit it is refused, at the record at which the cycle first grows past it
  pub outgrown : longest_cycle < cycle → (at : ℕ) × (admit_sheet bytes ≡ Err (Cycle at)) × GrowsPast entries at
  -- the verdict is no accident of this cycle: over any other common multiple the load fits or does not fit alike
  pub any_multiple : (n : ℕ) → 1 ≤ n → CommonMultiple (lengths entries) n → (load_in cycle entries ≤ cycle) ↔ (load_in n entries ≤ n)

abbrev pub AdmissionLaws : List ℕ → Type 0
AdmissionLaws bytes =
    (entries : List Entry) → read_sheet bytes ≡ Ok entries → (cycle : ℕ) → LeastCommon (lengths entries) cycle → VerdictLaws bytes entries cycle
