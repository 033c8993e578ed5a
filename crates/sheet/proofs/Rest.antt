-- What comes after the length of a sheet changes nothing: header and records see only the bytes before it.
use Rattle.std.proofs.Common.{◌≡◌, ℕ, ◌+◌, ◌*◌, ◌<◌, Bool, true, cond, ◌&&◌, eqb, ltb, leb, List, [], ◌++◌, length, get_or, take, Err, Result, sym, ap, ◌∙◌, arith, length-append, length-take-le, get_or-take}
use Rattle.std.proofs.lemmas.List.{get_or_append_left, take_at}
use Rattle.std.proofs.lemmas.Bool.{and_parts, and_from, leb-true, le-leb}
use Rattle.sheet.specs.declared.fault.ByteFault.TheVariants.{Length, Version, Counts}
use Rattle.sheet.specs.declared.fault.RecordFault.{RecordFault}
use Rattle.sheet.specs.declared.fault.RecordFault.TheVariants.{Bytes}
use Rattle.sheet.specs.Limits.{header_bytes, most_polls, most_lanes}
use Rattle.sheet.specs.Entries.{Entry}
use Rattle.sheet.specs.Header.{claimed_length, length_is_given}
use Rattle.sheet.specs.Reading.{entries_from, read_sheet}
use Rattle.sheet.specs.Questions.{header_questions}
use Rattle.sheet.proofs.Unrolled.{asked, entries_claimed, sheet_asked}

-- the reading by what it sees of a sheet: is the length given, three bytes of the header, and the bytes up to the length
abbrev reading : Bool → ℕ → ℕ → ℕ → List ℕ → Result (List Entry) RecordFault
reading given version polls lanes sheet =
    cond given
    (cond (eqb version 1)
    (cond (leb polls most_polls && (leb lanes most_lanes && ltb 0 (polls + lanes)))
    (entries_from (polls + lanes) polls 0 [] sheet header_bytes)
    (Err (Bytes Counts)))
    (Err (Bytes Version)))
    (Err (Bytes Length))

pub rest_ignored : (bytes more : List ℕ) → length_is_given bytes ≡ true → read_sheet (take (claimed_length bytes) bytes ++ more) ≡ read_sheet bytes
rest_ignored bytes more given =
    let end = claimed_length bytes in
    let front = take end bytes in
    let other = front ++ more in
    let parts = and_parts (leb header_bytes (length bytes)) _ given in
    let within = and_parts (leb header_bytes end) _ parts.1 in
    let five = leb-true header_bytes end within.0 in
    let inside = leb-true end (length bytes) within.1 in
    let long : length (take (claimed_length bytes) bytes) ≡ claimed_length bytes = length-take-le end bytes inside in
    let total : length (take (claimed_length bytes) bytes ++ more) ≡ claimed_length bytes + length more = length-append front more ∙ ap (λ n. n + length more) long in
    let byte : (i : ℕ) → i < header_bytes → get_or (take (claimed_length bytes) bytes ++ more) i 0 ≡ get_or bytes i 0 =
    λ i h. get_or_append_left front more 0 i (omega arith) ∙ get_or-take end bytes i 0 (omega arith) in
    let same : claimed_length (take (claimed_length bytes) bytes ++ more) ≡ claimed_length bytes = (λ k. byte 0 (omega arith) k * 256 + byte 1 (omega arith) k) in
    let given' : length_is_given (take (claimed_length bytes) bytes ++ more) ≡ true =
    and_from _ _ (le-leb header_bytes (length other) (omega arith)) (and_from _ _ (le-leb header_bytes (claimed_length other) (omega arith)) (le-leb (claimed_length other) (length other) (omega arith))) in
    let sheet : take (claimed_length (take (claimed_length bytes) bytes ++ more)) (take (claimed_length bytes) bytes ++ more) ≡ take (claimed_length bytes) bytes =
    ap (λ n. take n other) same ∙ take_at front more end long in
    let seen : asked (header_questions other) (entries_claimed other) ≡ asked (header_questions bytes) (entries_claimed bytes) =
    (λ k. reading ((given' ∙ sym given) k) (byte 2 (omega arith) k) (byte 3 (omega arith) k) (byte 4 (omega arith) k) (sheet k)) in
    sheet_asked other ∙ seen ∙ sym (sheet_asked bytes)
