use Rattle.std.proofs.Common.{◌∙◌, ◌++◌, ap, map}
use Rattle.std.proofs.lemmas.Result.{on_ok_weaker}
use Rattle.shim_run_log.specs.Events.{event_of}
use Rattle.shim_tree.proofs.Walked.{own_listed}
use Rattle.shim_tree.proofs.listing.push_own.Goals as goal

pub returns : goal.returns
returns g c =
    let o = g.L.Local.ops in
    let l = c.args.l.now in
    on_ok_weaker c.push_found.result
    (λ e. e ∙ ap (λ z. map event_of c.args.events.now ++ z) (own_listed c.own_event.result (o.path l) (o.stop l) c.own_event.ensures))
    c.push_found.ensures
