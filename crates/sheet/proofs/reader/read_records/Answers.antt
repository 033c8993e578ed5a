-- A turn reads one record more, and what is left then decides as before.
use Rattle.std.proofs.Common.{◌≡◌, ◌+◌, ◌++◌, ◌∷◌, [], map, length, sym, ap, ◌∙◌, rules}
use Rattle.std.proofs.lemmas.List.{map_push, length_push}
use Rattle.std.proofs.lemmas.Result.{err_from_is_err_and}
use Rattle.few.specs.Elements.{elements}
use Rattle.sheet.specs.Entries.{seen}
use Rattle.sheet.proofs.Turns.{turn_more, turn_fault}
use Rattle.sheet.proofs.reader.read_records.Goals as goal

pub returns-in_err-record : goal.returns-in_err-record
returns-in_err-record c =
    let p = err_from_is_err_and c.from_residual.result c.from_residual.ensures.1 in
    record { value = rw (p.1, p.2) (sym c.loop-i.invariant.1 ∙ turn_fault _ _ _ _ _ _ _ c.loop-i-test.true c.due-kind.ensures.value _ (search rules)) }

pub loop-i-preserved : goal.loop-i-preserved
loop-i-preserved c =
    let list = elements c.loop-i.list in
    let pushed : elements c.push.new.self ≡ elements c.loop-i.list ++ (c.in_ok-record.record ∷ []) = search rules in
    let grown : map seen (elements c.push.new.self) ≡ map seen (elements c.loop-i.list) ++ (seen c.in_ok-record.record ∷ []) = ap (map seen) pushed ∙ map_push seen list c.in_ok-record.record in (
      ap length pushed ∙ length_push list c.in_ok-record.record ∙ ap (λ n. n + 1) c.loop-i.invariant.0,
      rw grown (sym (turn_more _ _ _ _ _ _ _ c.loop-i-test.true c.due-kind.ensures.value _ _ (search rules) c.end-at.ensures.value) ∙ c.loop-i.invariant.1),
    )
