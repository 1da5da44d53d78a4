use Rattle.std.proofs.Common.{subst, ◌∙◌, arith}
use Rattle.std.proofs.lemmas.Option.{slice_get_read}
use Rattle.shim_process_table.specs.Naming.{IsChannelName}
use Rattle.shim_process_table.proofs.HereNames.{another, this_one, no_name}
use Rattle.shim_process_table.proofs.process_table.ProcessTable.first_name.Goals as goal

pub returns-in-Some : goal.returns-in-Some
returns-in-Some g c =
    let o = g.L.Local.ops in
    let ch = c.args.c.now.channel in
    let numbers = c.sharers.inside.numbers in
    subst (λ z. IsChannelName o c.args.self.now ch z c.in-Some.name) c.sharers.view_is
    (this_one o ch c.args.self.now numbers.items c.loop-place.place c.index.result.now c.in-Some.name
    (slice_get_read numbers.items c.len-place-end.result c.loop-place.place c.index.result.now (c.len-place-end.ensures ∙ numbers.ok.0) c.loop-place-test.true c.index.ensures) c.in-Some.ensures c.loop-place.invariant)

pub loop-place-preserved : goal.loop-place-preserved
loop-place-preserved g c =
    let numbers = c.sharers.inside.numbers in
    another g.L.Local.ops c.args.c.now.channel c.args.self.now numbers.items c.loop-place.place c.index.result.now
    (slice_get_read numbers.items c.len-place-end.result c.loop-place.place c.index.result.now (c.len-place-end.ensures ∙ numbers.ok.0) c.loop-place-test.true c.index.ensures) c.in-None.ensures c.loop-place.invariant

pub returns : goal.returns
returns g c =
    let o = g.L.Local.ops in
    let ch = c.args.c.now.channel in
    let numbers = c.sharers.inside.numbers in
    subst (λ z. IsChannelName o c.args.self.now ch z 0) c.sharers.view_is
    (no_name o ch c.args.self.now numbers.items c.loop-place.place (let w = c.len-place-end.ensures in let y = numbers.ok.0 in omega (arith, c.loop-place-test.false, w, y)) c.loop-place.invariant)
