-- EACH PAIR ONE JOB: releases of a poll are a period apart, a lane's deadlines only grow, and owner numbers do not meet.
use Rattle.std.proofs.Common.{List, arith}
use Rattle.std.proofs.Math.Nat.{eq_of_mul-eq-mul_right}
use Rattle.machine.specs.declared.call.Call.{Call}
use Rattle.machine.specs.Machine.{Setup}
use Rattle.machine.specs.History.{record_of}
use Rattle.machine.specs.Promises.{Opened, poll_at, EachPairOneJob}
use Rattle.machine.proofs.Basics.{table_of, poll_of}
use Rattle.machine.proofs.LaneDeadlines.{remembered}

pub each_pair_one_job : (m : Setup) → Opened m → (calls : List Call) → EachPairOneJob m.table (record_of m calls)
each_pair_one_job m o calls = record {
  polls = λ i k k' l e.
      let laws = poll_of m o i l in
      eq_of_mul-eq-mul_right (poll_at m.table i).period laws.some_period k k' (omega arith);
  requests = λ j. (remembered m o calls j).growing;
  owners = λ i j li lj.
      let few = (table_of m o).few_polls in
      let lanes = (table_of m o).few_lanes in
      (omega arith, omega arith, omega arith);
}
