-- Each turn passes one poll more, and the loop ends where there is none.
use Rattle.std.proofs.Common.{◌<◌, length, sym, ◌∙◌, ap, arith}
use Rattle.std.proofs.lemmas.Option.{slice_get_within, get_or_from_slice_get}
use Rattle.pile.specs.Sorted.{insert}
use Rattle.admission.specs.Contents.{contents}
use Rattle.std.specs.List.{slice_get}
use Rattle.unit.specs.ReleaseOrder.{earlier}
use Rattle.unit.specs.Releases.{releases_of}
use Rattle.unit.proofs.Piling.{none_passed, one_more, not_found, all_passed}
use Rattle.unit.proofs.releases.Releases.of.Goals as goal

pub loop-poll-init : goal.loop-poll-init
loop-poll-init c = record {
  passed = c.new-releases.ensures.value ∙ sym none_passed;
  within = omega arith;
  count = c.new-releases.ensures.count;
}

pub loop-poll-preserved : goal.loop-poll-preserved
loop-poll-preserved c =
    let polls = (contents c.args.table.now).polls in
    let i = c.loop-poll.poll in
    let found = ap (λ k. slice_get polls k) (sym c.from.ensures) ∙ sym c.poll.ensures.value ∙ c.in-Some.is in
    let within : i < length polls = slice_get_within polls i c.in-Some.row found in
    let here = get_or_from_slice_get polls i c.in-Some.row c.in-Some.row found in
    record {
      passed =
          c.put.ensures.bag ∙ ap (λ slot. insert earlier (record { slot = slot; poll = i }) (releases_of c.loop-poll.releases)) c.from-in-loop-poll.ensures
          ∙ ap (insert earlier (record { slot = c.in-Some.row.phase; poll = i })) c.loop-poll.invariant.passed ∙ sym (one_more polls i c.in-Some.row within (sym here));
      within = omega arith;
      count = omega arith;
    }

pub returns-in_default : goal.returns-in_default
returns-in_default c =
    let polls = (contents c.args.table.now).polls in
    let past = not_found polls c.loop-poll.poll c.from.result c.poll.result c.from.ensures c.poll.ensures.value c.in_default.is in
    record { value = c.loop-poll.invariant.passed ∙ all_passed polls c.loop-poll.poll past }
