use Rattle.std.proofs.Common.{refl, ap, sym, ◌∙◌, ◌++◌, ◌∷◌, [], length, arith, rules, w64}
use Rattle.std.specs.FinMap as finite
use Rattle.std.specs.Prelude.{FitsSigned}
use Rattle.std.proofs.lemmas.Int.{to_z-of_z}
use Rattle.std.proofs.lemmas.Option.{slice_get_read}
use Rattle.std.proofs.lemmas.Result.{on_ok_weaker}
use Rattle.shim_semantics.specs.Trees.{recorded}
use Rattle.shim_run_log.proofs.HaveValues.{more_kept}
use Rattle.shim_run_log.proofs.Numbered.{had_none, recorded_more, within}
use Rattle.shim_run_log.proofs.histories.Histories.record_value.Goals as goal

pub index_mut-requires : goal.index_mut-requires
index_mut-requires c =
    let channel = c.args.chan.now.channel in
    let below = within c.self.inside.kept.items c.in-Some.number channel ((c.self.invariant.numbered channel c.in-Some.number).0 (sym c.in-Some.ensures)) in
    omega (arith, below, c.self.inside.kept.ok.0)

pub returns-in_ok-push-in-Some-clause-known : goal.returns-in_ok-push-in-Some-clause-known
returns-in_ok-push-in-Some-clause-known c is_known name =
    let channel = c.args.chan.now.channel in
    let kept = c.self.inside.kept.items in
    let number = c.in-Some.number in
    let history = c.index_mut.result.now in
    let below = within kept number channel ((c.self.invariant.numbered channel number).0 (sym c.in-Some.ensures)) in
    let there = slice_get_read kept (length kept) number history refl below c.index_mut.ensures.value in
    let fits : FitsSigned w64 c.args.value = search rules in
    recorded_more c.self.inside.numbers kept c.self.invariant.numbered channel number (sym c.in-Some.ensures) history (record { chan = history.chan; values = c.push.new.self }) there name c.args.value
    (λ i. record { chan = history.chan; values = (c.in_ok-push-in-Some.ensures.ok ∙ ap (λ v. history.values ++ v ∷ []) (to_z-of_z w64 c.args.value fits)) i })
    ∙ ap (λ m. recorded m channel name c.args.value) c.self.view_is

pub invariant_of-self : goal.invariant_of-self
invariant_of-self c =
    let channel = c.args.chan.now.channel in
    let kept = c.self.inside.kept.items in
    let number = c.in-Some.number in
    let history = c.index_mut.result.now in
    let below = within kept number channel ((c.self.invariant.numbered channel number).0 (sym c.in-Some.ensures)) in
    let there = slice_get_read kept (length kept) number history refl below c.index_mut.ensures.value in
    let fits : FitsSigned w64 c.args.value = search rules in
    more_kept c.push.result c.self.inside.numbers kept channel number history c.push.new.self c.args.value c.self.invariant (sym c.in-Some.ensures) there
    (on_ok_weaker c.push.result (λ is. is ∙ ap (λ v. history.values ++ v ∷ []) (to_z-of_z w64 c.args.value fits)) c.push.ensures.ok)
    c.push.ensures.err

pub invariant_of-self-in-Some : goal.invariant_of-self-in-Some
invariant_of-self-in-Some c =
    let channel = c.args.chan.now.channel in
    let kept = c.self.inside.kept.items in
    let number = c.in-Some.number in
    let history = c.index_mut.result.now in
    let below = within kept number channel ((c.self.invariant.numbered channel number).0 (sym c.in-Some.ensures)) in
    let there = slice_get_read kept (length kept) number history refl below c.index_mut.ensures.value in
    let fits : FitsSigned w64 c.args.value = search rules in
    more_kept c.push.result c.self.inside.numbers kept channel number history c.push.new.self c.args.value c.self.invariant (sym c.in-Some.ensures) there
    (on_ok_weaker c.push.result (λ is. is ∙ ap (λ v. history.values ++ v ∷ []) (to_z-of_z w64 c.args.value fits)) c.push.ensures.ok)
    c.push.ensures.err

pub returns-in-None-clause-first : goal.returns-in-None-clause-first
returns-in-None-clause-first c unknown =
    let channel = c.args.chan.now.channel in
    (c.self.view_is, ap (λ m. finite.get m channel) (sym c.self.view_is) ∙ had_none c.self.inside.numbers c.self.inside.kept.items channel (sym c.in-None.ensures))
