use Rattle.std.proofs.Common.{refl, ap, sym, subst, ◌∙◌, ◌++◌, ◌∷◌, map, length, suc, zero, arith}
use Rattle.std.specs.FinMap as finite
use Rattle.std.specs.List.{slice_get}
use Rattle.std.proofs.lemmas.List.{append_assoc}
use Rattle.std.proofs.lemmas.Option.{slice_get_read}
use Rattle.shim_semantics.specs.Endings.{history_of}
use Rattle.shim_run_log.proofs.Listed.{EachWithin, each_leads, each_within, history_at, history_there, in_order, histories_of_each}
use Rattle.shim_run_log.proofs.histories.Histories.list.Goals as goal

pub loop-number-init : goal.loop-number-init
loop-number-init c =
    let kept = c.self.inside.kept.items in
    let numbers = c.self.inside.numbers in
    let leads = each_leads numbers kept c.self.invariant.numbered c.values-number-items.ensures.ordered in
    let gives = c.into_iter-number-iterator.ensures.into_iter_gives ∙ c.values-number-items.ensures.rest in (
      (λ i. c.new-list.ensures i ++ map (history_at kept) (gives i))
          ∙ sym (histories_of_each kept numbers.entries leads)
          ∙ ap (map history_of) (sym (in_order numbers kept c.values-number-items.ensures.ordered))
          ∙ ap (λ m. map history_of (finite.entries m)) c.self.view_is,
      subst (EachWithin kept) (sym gives) (each_within kept numbers.entries leads),
    )

pub index-history-requires : goal.index-history-requires
index-history-requires c =
    let below = c.loop-number.invariant.1 zero c.in-Some.number.now (ap (λ z. slice_get z zero) c.in-Some.ensures.steps) in
    omega (arith, below, c.self.inside.kept.ok.0)

pub loop-number-preserved : goal.loop-number-preserved
loop-number-preserved c =
    let kept = c.self.inside.kept.items in
    let number = c.in-Some.number.now in
    let left = map (history_at kept) c.next.new.self in
    let below = c.loop-number.invariant.1 zero number (ap (λ z. slice_get z zero) c.in-Some.ensures.steps) in
    let history = c.index-history.result.now in
    let there = slice_get_read kept (length kept) number history refl below c.index-history.ensures in (
      ap (λ z. z ++ left) c.in_ok-push.ensures.ok
          ∙ append_assoc c.loop-number.list _ left
          ∙ (λ i. c.loop-number.list ++ record { chan = c.in_ok-copy.ensures i; values = (c.in_ok-from_slice.ensures ∙ c.as_slice.ensures) i } ∷ left)
          ∙ ap (λ h. c.loop-number.list ++ h ∷ left) (sym (history_there kept number history there))
          ∙ ap (λ z. c.loop-number.list ++ map (history_at kept) z) (sym c.in-Some.ensures.steps)
          ∙ c.loop-number.invariant.0,
      λ place i e. c.loop-number.invariant.1 (suc place) i (ap (λ z. slice_get z (suc place)) c.in-Some.ensures.steps ∙ e),
    )
