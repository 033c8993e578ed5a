-- What each fault of a sheet is told by: its number, its byte and its layer. All promises about faults go through here.
use Rattle.std.specs.Prelude.{ℕ}
use Rattle.sheet.specs.declared.fault.Layer.{Layer}
use Rattle.sheet.specs.declared.fault.Layer.TheVariants.{Bytes as OfBytes, Record as OfRecord}
use Rattle.sheet.specs.declared.fault.Diagnosis.{Diagnosis}
use Rattle.sheet.specs.declared.fault.ByteFault.{ByteFault}
use Rattle.sheet.specs.declared.fault.ByteFault.TheVariants.{Length, Version, Counts}
use Rattle.sheet.specs.declared.fault.RecordFault.{RecordFault}
use Rattle.sheet.specs.declared.fault.RecordFault.TheVariants.{Bytes, Letter, NameLength, Name, Numbers, Ending}

abbrev pub diagnosed : ℕ → ℕ → Layer → Diagnosis
diagnosed number byte layer = record { number = number; byte = byte; layer = layer }

abbrev pub byte_diagnosis : ByteFault → Diagnosis
byte_diagnosis Length = diagnosed 10 0 OfBytes
byte_diagnosis Version = diagnosed 11 2 OfBytes
byte_diagnosis Counts = diagnosed 12 3 OfBytes

abbrev pub record_diagnosis : RecordFault → Diagnosis
record_diagnosis (Bytes fault) = byte_diagnosis fault
record_diagnosis (Letter at) = diagnosed 13 at OfRecord
record_diagnosis (NameLength at) = diagnosed 14 at OfRecord
record_diagnosis (Name at) = diagnosed 15 at OfRecord
record_diagnosis (Numbers at) = diagnosed 16 at OfRecord
record_diagnosis (Ending at) = diagnosed 17 at OfRecord
