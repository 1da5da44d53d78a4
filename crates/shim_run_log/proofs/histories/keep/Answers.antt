use Rattle.std.proofs.Common.{◌++◌, ◌∷◌, [], ◌∙◌, ap, subst, sym}
use Rattle.shim_run_log.specs.Maps.{IsNumbered, histories_of}
use Rattle.shim_run_log.proofs.Numbered.{added, numbered_added, updated_at}
use Rattle.shim_run_log.proofs.histories.keep.Goals as goal

pub returns-clause-ok : goal.returns-clause-ok
returns-clause-ok c =
    let kept = c.args.kept.now in
    ap (histories_of c.insert.new.self) (c.push_reserved.ensures.items ∙ ap (λ z. z ++ c.args.first ∷ []) c.in_ok-reserve.ensures.items)
    ∙ added c.args.numbers.now c.insert.new.self kept.items c.requires.numbered c.args.first c.requires.absent (
    updated_at c.args.numbers.now c.insert.new.self kept.items c.in_ok-copy.field-0 c.args.first.chan c.len.result c.in_ok-insert.ensures.updates.0 c.in_ok-copy.ensures (c.len.ensures ∙ c.in_ok-reserve.ensures.len ∙ kept.ok.0)
    )

pub returns-clause-numbered : goal.returns-clause-numbered
returns-clause-numbered c =
    let kept = c.args.kept.now in
    subst (IsNumbered c.insert.new.self) (sym (c.push_reserved.ensures.items ∙ ap (λ z. z ++ c.args.first ∷ []) c.in_ok-reserve.ensures.items))
    (numbered_added c.args.numbers.now c.insert.new.self kept.items c.requires.numbered c.args.first c.requires.absent (
    updated_at c.args.numbers.now c.insert.new.self kept.items c.in_ok-copy.field-0 c.args.first.chan c.len.result c.in_ok-insert.ensures.updates.0 c.in_ok-copy.ensures (c.len.ensures ∙ c.in_ok-reserve.ensures.len ∙ kept.ok.0)
    ))
