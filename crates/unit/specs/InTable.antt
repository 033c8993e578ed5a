-- A lane of a table.
use Rattle.std.specs.Prelude.{◌≡◌, ℕ, ◌<◌, ◌≤◌, length, slice_index_or}
use Rattle.sheet.specs.Limits.{longest_span, most_lanes}
use Rattle.admission.specs.declared.table.Lane.{Lane}
use Rattle.admission.specs.declared.table.Table.{Table}
use Rattle.admission.specs.Contents.{contents}

-- the table has this lane under that number; its numbers lie in their limits, and there are at most eight
pub record InTable (table : Table) (j : ℕ) (lane : Lane) : Type 0 where
  pub within : j < length (contents table).lanes
  pub few : length (contents table).lanes ≤ most_lanes
  pub is : (d : Lane) → slice_index_or (contents table).lanes j d ≡ lane
  pub span : lane.span ≤ longest_span
  pub quota : 1 ≤ lane.quota
