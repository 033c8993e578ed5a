-- A number goes to each record, and what is written and the lines of what is left are the whole.
use Rattle.std.proofs.Common.{◌≡◌, ◌+◌, ◌++◌, map, drop}
use Rattle.sheet.specs.Entries.{seen}
use Rattle.sheet.specs.Held.{held}
use Rattle.notice.specs.Pages.{entry_lines}
use Rattle.notice.proofs.records.with_entry_lines.Given as goal

abbrev pub invariant-loop-record : goal.invariant-loop-record
invariant-loop-record l = record {
  numbered : l.owners.next_poll + l.owners.next_lane ≡ 32 + l.record-index;
  whole : l.text.items ++ entry_lines l.cycle l.owners.next_poll l.owners.next_lane (map seen (drop l.record-index l.record-items)) ≡ l.initial.text.items ++ entry_lines l.cycle 0 32 (held l.records);
}
