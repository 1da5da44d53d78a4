use Rattle.std.proofs.Common.{◌∙◌, ◌++◌, ◌∷◌, [], sym, ap, cond, map}
use Rattle.std.proofs.lemmas.List.{append-nil}
use Rattle.std.proofs.lemmas.Result.{on_ok_weaker}
use Rattle.shim_run_log.specs.Events.{event_of}
use Rattle.shim_semantics.specs.Trees.{Close}
use Rattle.shim_tree.proofs.listing.push_close.Goals as goal

pub returns-then-are_done : goal.returns-then-are_done
returns-then-are_done g c =
    let o = g.L.Local.ops in
    let es = map event_of c.args.events.now in
    on_ok_weaker c.push_found.result
    (λ e. e ∙ ((λ u. es ++ Close (c.path.ensures.path u) ∷ []) ∙ sym (ap (λ b. es ++ cond b (Close (o.path c.args.l.now) ∷ []) []) (sym c.are_done.ensures ∙ c.if-are_done.true))))
    c.push_found.ensures

pub returns-else-are_done : goal.returns-else-are_done
returns-else-are_done g c =
    let es = map event_of c.args.events.now in
    sym (append-nil es) ∙ sym (ap (λ b. es ++ cond b (Close (g.L.Local.ops.path c.args.l.now) ∷ []) []) (sym c.are_done.ensures ∙ c.if-are_done.false))
