use Rattle.std.proofs.Common.{None, ◌≢◌, map, sym, ◌∙◌}
use Rattle.shim_waits.specs.Judging.{first_place}
use Rattle.shim_waits.proofs.Index.{has_entry, has_no_entry}
use Rattle.shim_waits.proofs.Judging.{all_next, all_fails}
use Rattle.shim_waits.proofs.NumberedWaits.{left_behind}
use Rattle.shim_waits.proofs.explanation.have_waits.Goals as goal

pub returns-then-not-contains_key : goal.returns-then-not-contains_key
returns-then-not-contains_key g c =
    let o = g.L.Local.ops in
    let x = c.index-lives-i.result in
    let i = c.loop-i.i in
    all_fails (λ p. first_place c.args.waits.now p ≢ None) (map (λ y. o.path y.now) c.args.lives.now) i (o.path x.now) (left_behind (λ y. o.path y.now) c.args.lives.now i x c.loop-i-test.true c.index-lives-i.is)
    (has_no_entry c.args.index.now c.args.waits.now c.requires.index c.path.result.now (o.path x.now) c.path.ensures.path (sym c.contains_key.ensures ∙ c.if-not-contains_key.true)) c.loop-i.invariant

pub loop-i-preserved : goal.loop-i-preserved
loop-i-preserved g c =
    let o = g.L.Local.ops in
    let x = c.index-lives-i.result in
    let i = c.loop-i.i in
    all_next (λ p. first_place c.args.waits.now p ≢ None) (map (λ y. o.path y.now) c.args.lives.now) i (o.path x.now) (left_behind (λ y. o.path y.now) c.args.lives.now i x c.loop-i-test.true c.index-lives-i.is)
    (has_entry c.args.index.now c.args.waits.now c.requires.index c.path.result.now (o.path x.now) c.path.ensures.path (sym c.contains_key.ensures ∙ c.if-not-contains_key.false)) c.loop-i.invariant
