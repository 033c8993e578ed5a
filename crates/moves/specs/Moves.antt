-- Moves worked out by hand, each stated by the definitions that the contracts cite.
use Rattle.std.specs.Prelude.{◌≡◌, [], ◌∷◌, Some, Ok, Err}
use Rattle.pile.specs.Sorted.{first_of}
use Rattle.sheet.specs.declared.fault.Layer.TheVariants.{Admission as OfAdmission}
use Rattle.sheet.specs.Faults.{diagnosed}
use Rattle.queue.specs.declared.job.Job.{Job}
use Rattle.queue.specs.Jobs.{put_job}
use Rattle.admission.specs.declared.fault.AdmissionFault.TheVariants.{Cycle, Load}
use Rattle.admission.specs.Faults.{admission_diagnosis}
use Rattle.admission.specs.Verdict.{admit_sheet}
use Rattle.machine.specs.declared.call.Call.TheVariants.{Request}
use Rattle.machine.specs.declared.call.Reply.TheVariants.{Deadline}
use Rattle.machine.specs.declared.refusal.Refusal.TheVariants.{LaneAhead}
use Rattle.machine.specs.Refusals.{refusal_number}
use Rattle.machine.specs.Promises.{Opened}
use Rattle.moves.specs.Sheets.{brimful_sheet, overfull_sheet, long_sheet, too_long_sheet}
use Rattle.moves.specs.Halls.{hall_of, told, spread_day, eager_day}

-- two jobs of one slot that are due at 8: of poll 1, and of lane 0
abbrev pub of_poll : Job
of_poll = record { deadline = 8; owner = 1; left = 1 }

abbrev pub of_lane : Job
of_lane = record { deadline = 8; owner = 32; left = 1 }

pub record WorkedMoves : Type 0 where
  -- SHEETS
  -- polls of 3 in 6 and 2 in 8 and a lane of 1 in 4 take 12, 6 and 6 of every 24 slots: all of them, and the sheet is admitted
  pub brimful_is_admitted : admit_sheet brimful_sheet ≡ Ok (24, 24)
  -- with 3 in 8 in place of 2 in 8 they would take 27 of 24, and the sheet is refused, by number 19
  pub overfull_is_refused : admit_sheet overfull_sheet ≡ Err (Load 27 24)
  pub overfull_is_19 : admission_diagnosis (Load 27 24) ≡ diagnosed 19 0 OfAdmission
  -- periods of 9,999 and 10,000 have no common divisor: the cycle is their product, of which one slot each takes 19,999
  pub long_is_admitted : admit_sheet long_sheet ≡ Ok (19999, 99990000)
  -- a third period of 9,973 makes the cycle too long: refused by number 18, at the byte at which its record begins
  pub too_long_is_refused : admit_sheet too_long_sheet ≡ Err (Cycle 23)
  pub too_long_is_18 : admission_diagnosis (Cycle 23) ≡ diagnosed 18 23 OfAdmission
  -- DEADLINES
  -- in a lane of 1 in 4, one slot at slot 3 is due at 7; two slots at slot 9, when 7 has come, at 17; and one slot at slot 14,
  -- when 17 lies ahead, at 21
  pub quarter_is_open : Opened (hall_of 1 4)
  pub spread_are_told : told (hall_of 1 4) spread_day ≡ Ok (Deadline 7) ∷ Ok (Deadline 17) ∷ Ok (Deadline 21) ∷ []
  -- in a lane of 2 in 3, a slot reaches a slot and a half far, rounded up: two requests of one slot at slot 0 are due at 2 and 4
  pub thirds_are_open : Opened (hall_of 2 3)
  pub thirds_are_told : told (hall_of 2 3) (Request 0 1 ∷ Request 0 1 ∷ []) ≡ Ok (Deadline 2) ∷ Ok (Deadline 4) ∷ []
  -- the farthest that a request reaches: 10,000 slots in a lane of 1 in 10,000, due at 100,000,000
  pub thin_is_open : Opened (hall_of 1 10000)
  pub thin_is_told : told (hall_of 1 10000) (Request 0 10000 ∷ []) ≡ Ok (Deadline 100000000) ∷ []
  -- in a lane of 2 in 4, eight requests of one slot at slot 0 are due at 2, 4, .. 16, and a ninth is refused; at slot 1 it is
  -- refused again, and at slot 2, when the first deadline has come, it is due at 18
  pub half_is_open : Opened (hall_of 2 4)
  pub eager_are_told : told (hall_of 2 4) eager_day ≡
      Ok (Deadline 2) ∷ Ok (Deadline 4) ∷ Ok (Deadline 6) ∷ Ok (Deadline 8) ∷ Ok (Deadline 10) ∷ Ok (Deadline 12) ∷ Ok (Deadline 14) ∷ Ok (Deadline 16)
      ∷ Err LaneAhead ∷ Err LaneAhead ∷ Ok (Deadline 18) ∷ []
  pub ahead_is_33 : refusal_number LaneAhead ≡ 33
  -- JOBS
  -- of two jobs with the same deadline the one of the smaller owner number runs first, whichever was put first
  pub poll_runs_first : first_of (put_job of_lane (put_job of_poll [])) ≡ Some of_poll
  pub in_either_order : first_of (put_job of_poll (put_job of_lane [])) ≡ Some of_poll
