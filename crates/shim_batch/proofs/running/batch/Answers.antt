use Rattle.std.proofs.Common.{◌≡◌, IfOk, length, sym, subst, slice_index_or, arith}
use Rattle.std.specs.List.{AllZip}
use Rattle.std.proofs.lemmas.Slice.Zip.{AllZip-long}
use denote.Param.Send.{sendable}
use Rattle.shim_net.proofs.Sends.{net_send}
use Rattle.shim_workers.proofs.Weaker.{if_ok_weaker}
use Rattle.shim_batch.specs.Runs.{RunsToEnd}
use Rattle.shim_batch.proofs.Joining.{zips_joined, zips_places}
use Rattle.shim_batch.proofs.Sends.{list_send}
use Rattle.shim_batch.proofs.running.batch.Goals as goal

pub returns-clause-runs : goal.returns-clause-runs
returns-clause-runs g c =
    let R = RunsToEnd g.L.Local.ops in
    let parts = c.in_ok-parts.parts in
    let done = c.in_ok-done.done in
    let long : length done.items ≡ length parts.items = let len = c.in_ok-done.ensures.len in let before = parts.ok.0 in let after = done.ok.0 in omega (arith, len, before, after) in
    let each = zips_places (λ part run. IfOk run (λ ran. AllZip R part ran)) parts.items done.items long (λ i d e below.
    let job = (c.in_ok-done.ensures.each i e below).1 in
    subst (λ part. IfOk (slice_index_or done.items i e) (λ ran. AllZip R part ran)) (sym (job.job_is d)) job.call.met) in
    if_ok_weaker c.join.result _ _ (λ all joins. subst (λ nets. AllZip R nets all) c.in_ok-parts.ensures (zips_joined R parts.items done.items all each joins)) c.join.ensures

pub returns-clause-many : goal.returns-clause-many
returns-clause-many g c = if_ok_weaker c.join.result _ _ (λ all each. AllZip-long (RunsToEnd g.L.Local.ops) c.args.nets all each) (returns-clause-runs g c)

pub map_vec-requires-send-J : goal.map_vec-requires-send-J
map_vec-requires-send-J g c κs within = search (net_send, list_send, sendable) depth 20

pub map_vec-requires-send-X : goal.map_vec-requires-send-X
map_vec-requires-send-X g c κs within = search (net_send, list_send, sendable) depth 20
