-- The laws hold of every sheet, and with them the limits of the records that were read.
use Rattle.std.proofs.Common.{◌≡◌, map, Ok, rules}
use Rattle.few.specs.Elements.{elements}
use Rattle.sheet.specs.Entries.{seen}
use Rattle.sheet.specs.Reading.{read_sheet}
use Rattle.sheet.proofs.Lawful.{sheet_laws}
use Rattle.sheet.proofs.reader.read_list.Goals as goal

pub limited-requires : goal.limited-requires
limited-requires c =
    let known : read_sheet c.args.bytes.now ≡ Ok (map seen (elements c.read_records.new.list)) = search rules in
    record { within_limits = ((sheet_laws c.args.bytes.now).well_read _ known).limits }
