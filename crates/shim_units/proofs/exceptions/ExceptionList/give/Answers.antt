use Rattle.std.proofs.Common.{◌∙◌, ap, sym, subst}
use Rattle.std.specs.List.Sorted.{IsNonDecreasing}
use Rattle.std.proofs.lemmas.List.Sorted.{IsNonDecreasingBy-from_sort}
use Rattle.shim_units.specs.Lifting.{given_exceptions}
use Rattle.shim_units.proofs.Ascending.{given_reordered, given_alike}
use Rattle.shim_units.proofs.exceptions.ExceptionList.give.Goals as goal

pub give_ascending-requires-clause-sorted : goal.give_ascending-requires-clause-sorted
give_ascending-requires-clause-sorted c =
    let sorted = c.sort_unstable.new.self.items in
    let up : IsNonDecreasing sorted = IsNonDecreasingBy-from_sort (λ x. x) sorted c.sort_unstable.ensures.sorted in
    subst IsNonDecreasing (sym c.as_slice.ensures.value) up

pub returns-in_ok-raises : goal.returns-in_ok-raises
returns-in_ok-raises c =
    given_alike c.give_ascending.result c.as_slice.result.now c.as_slice-numbers.result.now c.args.raises.now c.args.self.now
    (ap (λ rs. given_exceptions rs c.as_slice-numbers.result.now) c.as_slice.ensures.value
    ∙ given_reordered c.args.raises.now c.in_ok-raises.raises.items c.sort_unstable.new.self.items c.as_slice-numbers.result.now c.in_ok-raises.ensures c.sort_unstable.ensures.permutation
    ∙ ap (given_exceptions c.args.raises.now) (c.as_slice-numbers.ensures ∙ c.self.view_is))
    c.give_ascending.ensures
