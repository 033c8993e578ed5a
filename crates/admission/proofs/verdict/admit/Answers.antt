-- The records of a sheet that was read make an admissible table.
use Rattle.std.proofs.Common.{◌≡◌, Ok, arith, rules}
use Rattle.sheet.specs.Held.{held}
use Rattle.sheet.specs.Reading.{read_sheet}
use Rattle.admission.proofs.Tabled.{admissible_records}
use Rattle.admission.proofs.verdict.admit.Goals as goal

pub holding-requires : goal.holding-requires
holding-requires c =
    let known : read_sheet c.args.bytes.now ≡ Ok (held c.read_list.new.records) = search rules in
    let well = c.read_list.ensures.laws.well_read _ known in
    record { admissible = admissible_records _ _ _ _ well c.in_ok-found.ensures.value c.load_of-load.ensures.value (omega arith) }
