-- What a short list holds.
use Rattle.std.specs.Prelude.{ℕ, List, take}
use Rattle.few.specs.declared.list.Few.{Few}

abbrev pub elements : {T : Type 0} → {N : ℕ} → Few T N → List T
elements few = take few.count few.places
