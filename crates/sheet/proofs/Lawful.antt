-- The laws of a sheet, gathered.
use Rattle.std.proofs.Common.{ℕ, List}
use Rattle.sheet.specs.Laws.{SheetLaws}
use Rattle.sheet.proofs.Judging.{judged_sheet}
use Rattle.sheet.proofs.Rest.{rest_ignored}
use Rattle.sheet.proofs.WellReading.{well_read}

pub sheet_laws : (bytes : List ℕ) → SheetLaws bytes
sheet_laws bytes = record { well_read = well_read bytes; judged = judged_sheet bytes; rest_ignored = rest_ignored bytes }
