-- A name among the names of records.
use Rattle.std.proofs.Common.{◌≡◌, ℕ, List, [], ◌∷◌, map, ◌||◌, refl, ap}
use Rattle.std.specs.List.{list_any}
use Rattle.std.specs.Str.{bytes_eq}
use Rattle.sheet.specs.declared.record.Record.{Record}
use Rattle.sheet.specs.Entries.{seen, name_of, names_of}
use Rattle.sheet.specs.Records.{is_taken}

pub taken_lem : (name : List ℕ) (records : List Record) → list_any (λ record'. bytes_eq (name_of (seen record')) name) records ≡ is_taken name (names_of (map seen records))
taken_lem name [] = refl
taken_lem name (first ∷ records) = ap (λ b. bytes_eq (name_of (seen first)) name || b) (taken_lem name records)
