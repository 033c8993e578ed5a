-- What each fault of the admission is told by: its number, its byte and its layer.
use Rattle.sheet.specs.declared.fault.Diagnosis.{Diagnosis}
use Rattle.sheet.specs.declared.fault.Layer.TheVariants.{Admission as OfAdmission}
use Rattle.sheet.specs.Faults.{diagnosed, record_diagnosis}
use Rattle.admission.specs.declared.fault.AdmissionFault.{AdmissionFault}
use Rattle.admission.specs.declared.fault.AdmissionFault.TheVariants.{Record, Cycle, Load}

abbrev pub admission_diagnosis : AdmissionFault → Diagnosis
admission_diagnosis (Record fault) = record_diagnosis fault
admission_diagnosis (Cycle at) = diagnosed 18 at OfAdmission
admission_diagnosis (Load load cycle) = diagnosed 19 0 OfAdmission
