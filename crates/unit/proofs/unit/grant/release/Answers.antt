-- Each turn puts the job of the first release that is due, and moves that release on; at the end none is due.
use Rattle.std.proofs.Common.{ℕ, ◌+◌, ◌<◌, take, sym, refl, ap, ◌∙◌, subst, arith}
use Rattle.pile.specs.Sorted.{insert, without_first}
use Rattle.queue.specs.Jobs.{put_job}
use Rattle.admission.specs.Contents.{contents}
use Rattle.machine.proofs.Releases.{no_poll}
use Rattle.unit.specs.ReleaseOrder.{earlier}
use Rattle.unit.specs.Releases.{releases_of, due_count}
use Rattle.unit.proofs.Piling.{releases_count, found, not_found}
use Rattle.unit.proofs.Releasing.{begins, ends, turns, timed, same_left}
use Rattle.unit.proofs.Requests.{was_taken}
use Rattle.unit.proofs.unit.grant.release.Goals as goal

pub loop-poll-init : goal.loop-poll-init
loop-poll-init g c = record {
  left = begins (contents c.args.table.now).polls c.args.slot (g.Q.ReadyQueue.places c.args.queue.now) (releases_of c.args.releases.now) (g.Q.ReadyQueue.bag c.args.queue.now) (timed c.args.table.now) c.requires.in_step c.requires.places;
  places = refl;
  whose = refl;
}

-- every poll in the pile is in the table
pub returns-in_default-poll : goal.returns-in_default-poll
returns-in_default-poll g c =
    let polls = (contents c.args.table.now).polls in
    let turn = turns polls c.args.slot _ _ (releases_of c.loop-poll.releases) _ c.in-Some.poll c.first_due.result (timed c.args.table.now) c.first_due.ensures.value c.in-Some.is c.loop-poll.invariant.left in
    let past = not_found polls c.in-Some.poll c.from.result c.poll.result c.from.ensures c.poll.ensures.value c.in_default-poll.is in
    let known = turn.known in
    absurd (omega arith)

pub replace_first-requires : goal.replace_first-requires
replace_first-requires g c =
    let turn = turns (contents c.args.table.now).polls c.args.slot _ _ (releases_of c.loop-poll.releases) _ c.in-Some.poll c.first_due.result (timed c.args.table.now) c.first_due.ensures.value c.in-Some.is c.loop-poll.invariant.left in
    let count = releases_count c.loop-poll.releases in
    let some = turn.some in
    record { some = omega arith }

pub loop-poll-smaller : goal.loop-poll-smaller
loop-poll-smaller g c =
    let polls = (contents c.args.table.now).polls in
    let p : ℕ = c.in-Some.poll in
    let row = c.in-Some-poll.row in
    let turn = turns polls c.args.slot _ _ (releases_of c.loop-poll.releases) _ p c.first_due.result (timed c.args.table.now) c.first_due.ensures.value c.in-Some.is c.loop-poll.invariant.left in
    let here = found polls p c.from.result no_poll c.poll.result row c.from.ensures c.poll.ensures.value c.in-Some-poll.is in
    let pile = c.replace_first.ensures.bag ∙ ap (λ n. insert earlier (record { slot = c.args.slot + n; poll = p }) (without_first (releases_of c.loop-poll.releases))) c.from-in-Some.ensures in
    subst (λ releases. due_count c.args.slot releases < due_count c.args.slot (releases_of c.loop-poll.releases)) (sym pile) (turn.fewer row here)

pub loop-poll-preserved : goal.loop-poll-preserved
loop-poll-preserved g c =
    let polls = (contents c.args.table.now).polls in
    let p : ℕ = c.in-Some.poll in
    let row = c.in-Some-poll.row in
    let turn = turns polls c.args.slot _ _ (releases_of c.loop-poll.releases) _ p c.first_due.result (timed c.args.table.now) c.first_due.ensures.value c.in-Some.is c.loop-poll.invariant.left in
    let here = found polls p c.from.result no_poll c.poll.result row c.from.ensures c.poll.ensures.value c.in-Some-poll.is in
    let pile = c.replace_first.ensures.bag ∙ ap (λ n. insert earlier (record { slot = c.args.slot + n; poll = p }) (without_first (releases_of c.loop-poll.releases))) c.from-in-Some.ensures in
    let put = was_taken _ _ c.put.result (sym c.if-prove.ensures.value) c.put.ensures.bag in
    let bag = put.1 ∙ ap (λ n. put_job (record { deadline = c.args.slot + n; owner = p; left = row.budget }) (g.Q.ReadyQueue.bag c.loop-poll.queue)) c.from-in-Some.ensures in
    record {
      left = same_left polls c.args.slot _ _ _ _ _ _ pile bag (turn.next row here);
      places = c.put.ensures.places ∙ c.loop-poll.invariant.places;
      whose = c.put.ensures.whose ∙ c.loop-poll.invariant.whose;
    }

pub returns : goal.returns
returns g c =
    let done = ends (contents c.args.table.now).polls c.args.slot _ _ (take c.loop-poll.releases.count c.loop-poll.releases.area) _ c.first_due.result c.first_due.ensures.value c.in_default.is c.loop-poll.invariant.left in
    record { bag = done.puts; in_step = done.in_step; places = c.loop-poll.invariant.places; whose = c.loop-poll.invariant.whose }
