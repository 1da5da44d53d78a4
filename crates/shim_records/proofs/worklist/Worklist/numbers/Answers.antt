use Rattle.std.proofs.Common.{sym, subst}
use Rattle.shim_records.specs.Waiting.{AreListedIn}
use Rattle.shim_records.proofs.worklist.Worklist.numbers.Goals as goal

pub returns : goal.returns
returns c =
    let w = c.self.inside in
    let whole : AreListedIn w.numbers.items w.listed.items = record { all = c.self.invariant.listed_in; only = c.self.invariant.only } in
    subst (λ z. AreListedIn c.as_slice.result.now z) c.self.view_is (subst (λ z. AreListedIn z w.listed.items) (sym c.as_slice.ensures.value) whole)
