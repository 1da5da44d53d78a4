use Rattle.std.proofs.Common.{refl, ap, sym, ◌∙◌, Some, arith, length}
use Rattle.std.specs.FinMap as finite
use Rattle.std.proofs.lemmas.Option.{slice_get_read}
use Rattle.shim_semantics.specs.Endings.{values_in}
use Rattle.shim_run_log.proofs.Numbered.{had, had_none, within}
use Rattle.shim_run_log.proofs.histories.Histories.get.Goals as goal

pub index-requires : goal.index-requires
index-requires c =
    let kept = c.self.inside.kept in
    let below = within kept.items c.in-Some.number.now c.args.chan.now.channel ((c.self.invariant.numbered c.args.chan.now.channel c.in-Some.number.now).0 (sym c.in-Some.ensures.value)) in
    omega (arith, below, kept.ok.0)

pub returns-in-Some-clause-values : goal.returns-in-Some-clause-values
returns-in-Some-clause-values c =
    let kept = c.self.inside.kept in
    let channel = c.args.chan.now.channel in
    let number = c.in-Some.number.now in
    let below = within kept.items number channel ((c.self.invariant.numbered channel number).0 (sym c.in-Some.ensures.value)) in
    let there = slice_get_read kept.items (length kept.items) number c.index.result.now refl below c.index.ensures in
    ap Some c.as_slice.ensures
    ∙ sym (ap values_in (had c.self.inside.numbers kept.items channel number (sym c.in-Some.ensures.value) c.index.result.now there))
    ∙ ap (λ m. values_in (finite.get m channel)) c.self.view_is

pub returns-in-None-clause-values : goal.returns-in-None-clause-values
returns-in-None-clause-values c =
    let channel = c.args.chan.now.channel in
    sym (ap values_in (had_none c.self.inside.numbers c.self.inside.kept.items channel (sym c.in-None.ensures.value)))
    ∙ ap (λ m. values_in (finite.get m channel)) c.self.view_is
