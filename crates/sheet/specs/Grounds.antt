-- The faults of a sheet in words: the ground of each, and how number, byte and layer are told.
use Rattle.std.specs.Prelude.{ℕ, List, ◌++◌, codes, decimal}
use Rattle.sheet.specs.declared.fault.Layer.{Layer}
use Rattle.sheet.specs.declared.fault.Layer.TheVariants.{Bytes as OfBytes, Record as OfRecord, Admission as OfAdmission}
use Rattle.sheet.specs.declared.fault.Diagnosis.{Diagnosis}
use Rattle.sheet.specs.declared.fault.ByteFault.{ByteFault}
use Rattle.sheet.specs.declared.fault.ByteFault.TheVariants.{Length, Version, Counts}
use Rattle.sheet.specs.declared.fault.RecordFault.{RecordFault}
use Rattle.sheet.specs.declared.fault.RecordFault.TheVariants.{Bytes, Letter, NameLength, Name, Numbers, Ending}

abbrev pub layer_name : Layer → List ℕ
layer_name OfBytes = codes "bytes"
layer_name OfRecord = codes "record"
layer_name OfAdmission = codes "admission"

abbrev pub diagnosis_text : Diagnosis → List ℕ
diagnosis_text told = decimal told.number ++ (codes " at byte " ++ (decimal told.byte ++ (codes " (" ++ (layer_name told.layer ++ codes ")"))))

abbrev pub byte_ground : ByteFault → List ℕ
byte_ground Length = codes "the sheet has fewer than 5 bytes, or its length is not from 5 to the bytes given"
byte_ground Version = codes "the version is not 1"
byte_ground Counts = codes "there are more than 32 polls or 8 lanes, or there is neither a poll nor a lane"

abbrev pub record_ground : RecordFault → List ℕ
record_ground (Bytes fault) = byte_ground fault
record_ground (Letter at) = codes "the letter of a record is missing or not the one due, P for polls and then L for lanes"
record_ground (NameLength at) = codes "the length of a name is missing or not from 1 to 12, or the record does not end inside the sheet"
record_ground (Name at) = codes "a name has something else than a to z and 0 to 9, or an earlier record has that name"
record_ground (Numbers at) = codes "a number of a record is outside its limits"
record_ground (Ending at) = codes "the last record does not end at the length of the sheet"
