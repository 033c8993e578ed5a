-- What is left decides.
use Rattle.std.proofs.Common.{◌≡◌, ◌+◌, ◌-◌, [], map, length}
use Rattle.few.specs.Elements.{elements}
use Rattle.sheet.specs.Limits.{header_bytes}
use Rattle.sheet.specs.Entries.{seen}
use Rattle.sheet.specs.Reading.{entries_from}
use Rattle.sheet.proofs.reader.read_records.Given as goal

abbrev pub invariant-loop-i : goal.invariant-loop-i
invariant-loop-i l =
    let total = l.header.polls + l.header.lanes in
    (length (elements l.list) ≡ l.i)
    × (entries_from (total - l.i) l.header.polls l.i (map seen (elements l.list)) l.sheet l.at ≡ entries_from total l.header.polls 0 [] l.sheet header_bytes)
