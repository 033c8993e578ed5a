-- What a table holds, by its parts, and what holds of every table.
use Rattle.std.specs.Prelude.{◌≡◌, ℕ, ◌≤◌, true, List, [], length}
use Rattle.std.specs.List.{list_all}
use Rattle.few.specs.Elements.{elements}
use Rattle.sheet.specs.Limits.{most_polls, most_lanes}
use Rattle.admission.specs.declared.table.Poll.{Poll}
use Rattle.admission.specs.declared.table.Lane.{Lane}
use Rattle.admission.specs.declared.table.Table.{Table}
use Rattle.admission.specs.Demand.{longest_cycle, cycle_of, load_of}
use Rattle.admission.specs.Limits.{poll_fits, lane_fits}

pub record Contents : Type 0 where
  pub polls : List Poll
  pub lanes : List Lane
  pub load : ℕ
  pub cycle : ℕ

abbrev pub contents : Table → Contents
contents table = record {
  polls = elements table.polls;
  lanes = elements table.lanes;
  load = table.load;
  cycle = table.cycle;
}

-- before a sheet is admitted
abbrev pub unfilled : Contents
unfilled = record { polls = []; lanes = []; load = 0; cycle = 1 }

-- counts and numbers lie in their limits, the cycle is the least common multiple of all periods and spans, the load is
-- what all of them take of a cycle, and it fits the cycle
pub record Admissible (held : Contents) : Type 0 where
  pub few_polls : length held.polls ≤ most_polls
  pub few_lanes : length held.lanes ≤ most_lanes
  pub polls_fit : list_all poll_fits held.polls ≡ true
  pub lanes_fit : list_all lane_fits held.lanes ≡ true
  pub cycle_is : held.cycle ≡ cycle_of held.polls held.lanes
  pub short : held.cycle ≤ longest_cycle
  pub load_is : held.load ≡ load_of held.cycle held.polls held.lanes
  pub light : held.load ≤ held.cycle
