-- The two texts and the name between them are the columns of the line.
use Rattle.std.proofs.Common.{◌≡◌, ◌++◌, append_assoc, arith, codes, decimal, string_bytes}
use Rattle.sheet.specs.Entries.{seen, name_of}
use Rattle.admission.specs.Verdict.{length_of, share_of}
use Rattle.notice.specs.Columns.{at_left, at_right}
use Rattle.notice.specs.Pages.{kind_text, phase_text, slots_text, line_end}
use Rattle.notice.proofs.Widths.{widths}
use Rattle.notice.proofs.line.with_entry_line.Goals as goal

pub returns : goal.returns
returns c =
    let entry = seen c.args.record in
    let front : string_bytes c.in_ok-front.front ≡ kind_text entry ++ (at_right 7 (decimal c.args.owner) ++ codes "  ") = grind (arith, widths) in
    let numbers : string_bytes c.in_ok-numbers.numbers ≡ at_right 7 (phase_text entry) ++ (at_right 13 (decimal (length_of entry)) ++ (at_right 14 (decimal (share_of entry)) ++ (at_right 20 (slots_text c.args.cycle entry) ++ line_end))) = grind (arith, widths) in
    let whole : c.extend_from_slice-2.new.self.items ≡ ((c.args.text.items ++ string_bytes c.in_ok-front.front) ++ at_left 12 (name_of entry)) ++ string_bytes c.in_ok-numbers.numbers = grind arith in
    record { bytes = rw (whole, front, numbers) (simp append_assoc) }
