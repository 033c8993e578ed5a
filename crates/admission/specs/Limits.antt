-- The limits of the numbers of polls and lanes, as tests.
use Rattle.std.specs.Prelude.{Bool, ◌&&◌, nat_le}
use Rattle.sheet.specs.Limits.{latest_phase, longest_span}
use Rattle.admission.specs.declared.table.Poll.{Poll}
use Rattle.admission.specs.declared.table.Lane.{Lane}

abbrev pub poll_fits : Poll → Bool
poll_fits poll =
    nat_le poll.phase latest_phase
    && (nat_le 1 poll.period && (nat_le poll.period longest_span && (nat_le 1 poll.budget && nat_le poll.budget poll.period)))

abbrev pub lane_fits : Lane → Bool
lane_fits lane = nat_le 1 lane.span && (nat_le lane.span longest_span && (nat_le 1 lane.quota && nat_le lane.quota lane.span))
