-- A record whose numbers lie in their limits.
use Rattle.std.specs.Prelude.{◌≤◌}
use Rattle.std.proofs.Props.{props}
use Rattle.sheet.specs.Limits.{latest_phase, longest_span}
use Rattle.sheet.specs.Entries.{Entry, poll, lane}

-- every number lies in its limits
abbrev pub WithinLimits : Entry → Type 0
WithinLimits (poll name phase period budget at) = (phase ≤ latest_phase) × (1 ≤ period) × (period ≤ longest_span) × (1 ≤ budget) × (budget ≤ period)
WithinLimits (lane name span quota at) = (1 ≤ span) × (span ≤ longest_span) × (1 ≤ quota) × (quota ≤ span)

-- it holds in one way only, so that a list of records can carry it
pub within_limits_prop : (entry : Entry) → IsProp (WithinLimits entry)
within_limits_prop (poll name phase period budget at) = Prim.hlevel props
within_limits_prop (lane name span quota at) = Prim.hlevel props
