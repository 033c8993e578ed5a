-- A hole with a width and `>`, as `{n:>7}`, writes what `at_right` says: as many spaces as its text is short of the width, and then the text.
use Rattle.std.proofs.Common.{◌≡◌, ℕ, zero, suc, ◌-◌, ◌^◌, ◌<◌, ◌∷◌, length, refl, ap, arith, codes, decimal, append-nil}
use Rattle.std.proofs.lemmas.Bool.{ne_eqb}
use Rattle.std.specs.List.{repeat}
use Rattle.std.specs.Char.{encode_utf8}
use Rattle.std.specs.Fmt.{format_spec, styled_decimal, styled_text, padded, padded_integral, char_count, take_chars}
use Rattle.notice.specs.Columns.{spaces, at_right}

fill_is_spaces : (n : ℕ) → repeat n (encode_utf8 32) ≡ spaces n
unfolding encode_utf8
fill_is_spaces zero = refl
fill_is_spaces (suc n) = ap (λ l. 32 ∷ l) (fill_is_spaces n)

pub decimal_at_right : (width n : ℕ) → 0 < width → styled_decimal (format_spec 32 3 0 width (2 ^ 64 - 1)) n ≡ at_right width (decimal n)
unfolding padded_integral char_count
decimal_at_right width n some =
    let short = width - length (decimal n) in
    let before : width - length (decimal n) - 0 - 0 ≡ short = omega arith in
    let behind : short - short ≡ 0 = omega arith in
    rw (ne_eqb width 0 (omega arith), before, behind, fill_is_spaces short) (simp append-nil)

pub dash_at_right : (width : ℕ) → 0 < width → styled_text (format_spec 32 3 0 width (2 ^ 64 - 1)) (codes "-") ≡ at_right width (codes "-")
unfolding padded char_count take_chars
dash_at_right width some =
    let short = width - 1 in
    let behind : short - short ≡ 0 = omega arith in
    rw (ne_eqb width 0 (omega arith), behind, fill_is_spaces short) refl

pub ruleset widths = (decimal_at_right, dash_at_right)
