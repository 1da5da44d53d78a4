use Rattle.std.proofs.Common.{sym, ap, ◌∙◌}
use Rattle.std.specs.Prelude.{slice_get}
use Rattle.shim_waits.proofs.Keeping.{keeps_next, keeps_all}
use Rattle.shim_waits.proofs.gathering.keep_given.Goals as goal

pub returns-in-None : goal.returns-in-None
returns-in-None g c = keeps_all g.L.Local.ops c.args.node.now c.args.number c.loop-at.at c.args.holders.now c.loop-at.holders (c.in-None.ensures ∙ ap (λ l. slice_get (g.L.Local.ops.given l) c.loop-at.at) c.process-process.ensures) c.loop-at.invariant

pub loop-at-preserved : goal.loop-at-preserved
loop-at-preserved g c =
    keeps_next g.L.Local.ops c.args.node.now c.args.number c.loop-at.at c.in-Some.c.now c.args.holders.now c.loop-at.holders c.keep_one.new.holders
    (sym (c.in-Some.ensures ∙ ap (λ l. slice_get (g.L.Local.ops.given l) c.loop-at.at) c.process-process.ensures)) c.in_ok-keep_one-in-Some.ensures c.loop-at.invariant
