-- The last deadlines of a lane, as a list.
use Rattle.std.specs.Prelude.{ℕ, List, take}
use Rattle.unit.specs.declared.recent.Recent.{Recent}

-- the newest first
abbrev pub deadlines_of : Recent → List ℕ
deadlines_of recent = take recent.count recent.deadlines
