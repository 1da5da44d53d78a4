use Rattle.std.proofs.Common.{◌∙◌, sym, ap, filter}
use Rattle.std.proofs.lemmas.Result.{on_ok_weaker}
use Rattle.shim_semantics.specs.Walks.{as_list, waited}
use Rattle.shim_tree.specs.Inserted.{all_inserted}
use Rattle.shim_tree.specs.Searching.{passes, channels}
use Rattle.shim_tree.proofs.Beside.{place_in, place_past}
use Rattle.shim_tree.proofs.listing.put_at.Goals as goal

pub returns-then-i-statuses : goal.returns-then-i-statuses
returns-then-i-statuses g c =
    let o = g.L.Local.ops in
    let p = passes o c.args.test.now in
    let was = channels c.args.chans.now.items in
    on_ok_weaker c.put_below.result
    (λ e. e ∙ sym (ap (λ z. all_inserted was (filter p (waited o z))) (place_in c.args.child.now c.args.statuses.now c.args.i c.index-statuses-i.result c.if-i-statuses.true c.index-statuses-i.is)))
    c.put_below.ensures

pub returns-else-i-statuses : goal.returns-else-i-statuses
returns-else-i-statuses g c =
    let o = g.L.Local.ops in
    let p = passes o c.args.test.now in
    let was = channels c.args.chans.now.items in
    on_ok_weaker c.put_one.result
    (λ e. e ∙ (ap (λ z. all_inserted was (filter p (as_list z))) c.stands_at.ensures ∙ sym (ap (λ z. all_inserted was (filter p (waited o z))) (place_past c.args.child.now c.args.statuses.now c.args.i c.if-i-statuses.false))))
    c.put_one.ensures
