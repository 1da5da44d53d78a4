use Rattle.std.proofs.Common.{rules, ◌≤◌, length, refl}
use Rattle.std.proofs.lemmas.Option.{slice_get_read}
use Rattle.shim_waits.proofs.Index.{nobody_waits, past_waits, one_waits}
use Rattle.shim_waits.proofs.explanation.waits_for.Goals as goal

pub returns-in-None : goal.returns-in-None
returns-in-None c = nobody_waits c.args.index.now c.args.waits.now c.requires.index c.args.path.now c.args.next.now c.in-None.ensures.value

pub returns-in-None-get : goal.returns-in-None-get
returns-in-None-get c = past_waits c.args.index.now c.args.waits.now c.requires.index c.args.path.now c.args.next.now c.in-Some.place.now c.in-Some.ensures.value (let k : length c.args.waits.now ≤ c.in-Some.place.now = search rules in k)

pub returns-in-Some-get : goal.returns-in-Some-get
returns-in-Some-get c =
    let there = slice_get_read c.args.waits.now (length c.args.waits.now) c.in-Some.place.now c.in-Some-get.w.now refl c.in-Some-get.ensures.lookup.3.0 c.in-Some-get.ensures.lookup.1 in
    one_waits c.args.index.now c.args.waits.now c.requires.index c.args.path.now c.args.next.now c.in-Some.place.now c.in-Some-get.w.now c.eq.result c.in-Some.ensures.value there c.eq.ensures
