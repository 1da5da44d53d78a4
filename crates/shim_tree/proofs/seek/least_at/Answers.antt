use Rattle.std.proofs.Common.{◌∙◌, sym, ap, None}
use Rattle.shim_semantics.specs.Walks.{as_list, waited}
use Rattle.shim_tree.specs.Finding.{least}
use Rattle.shim_tree.specs.Searching.{passes}
use Rattle.shim_tree.proofs.Beside.{place_in, place_past}
use Rattle.shim_tree.proofs.seek.least_at.Goals as goal

pub returns-then-i-statuses : goal.returns-then-i-statuses
returns-then-i-statuses g c =
    let o = g.L.Local.ops in
    let p = passes o c.args.test.now in
    c.least_below.ensures ∙ sym (ap (λ z. least p None (waited o z)) (place_in c.args.child.now c.args.statuses.now c.args.i c.index-statuses-i.result c.if-i-statuses.true c.index-statuses-i.is))

pub returns-else-i-statuses : goal.returns-else-i-statuses
returns-else-i-statuses g c =
    let o = g.L.Local.ops in
    let p = passes o c.args.test.now in
    c.with_one.ensures ∙ (ap (λ z. least p None (as_list z)) c.stands_at.ensures ∙ sym (ap (λ z. least p None (waited o z)) (place_past c.args.child.now c.args.statuses.now c.args.i c.if-i-statuses.false)))
