-- What a list of records holds.
use Rattle.std.specs.Prelude.{List, map}
use Rattle.few.specs.Elements.{elements}
use Rattle.sheet.specs.declared.record.Record.{Record}
use Rattle.sheet.specs.declared.records.Records.{Records}
use Rattle.sheet.specs.Entries.{Entry, seen}

abbrev pub records_in : Records → List Record
records_in records = elements records.list

-- and what they say
abbrev pub held : Records → List Entry
held records = map seen (records_in records)
