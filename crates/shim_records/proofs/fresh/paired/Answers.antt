use Rattle.std.proofs.Common.{sym, ap, subst, ◌∙◌}
use Rattle.shim_base.proofs.Facts.{no_items}
use Rattle.shim_records.specs.Fresh.{channels}
use Rattle.shim_records.proofs.Gathering.{SoFar, all_paired, one_more_pair}
use Rattle.shim_records.proofs.fresh.paired.Goals as goal

pub loop-chan-preserved : goal.loop-chan-preserved
loop-chan-preserved g c =
    let o = g.L.Local.ops in
    one_more_pair o c.args.children.now (channels c.args.chans.items) c.loop-chan.pairs.items c.in-Some.chan.channel (channels c.next.new.self.rest.items)
    (subst (λ z. SoFar o c.args.children.now (channels c.args.chans.items) c.loop-chan.pairs.items (channels z)) c.in-Some.ensures.steps.0 c.loop-chan.invariant)
    c.pair_one.new.pairs.items c.in_ok-pair_one.ensures

pub returns : goal.returns
returns g c = all_paired g.L.Local.ops c.args.children.now (channels c.args.chans.items) c.loop-chan.pairs.items (channels c.loop-chan.chan-iterator.rest.items)
    (ap channels (no_items c.loop-chan.chan-iterator.rest.items (sym c.loop-chan.chan-iterator.rest.ok.0 ∙ c.in-None.ensures.steps.0))) c.loop-chan.invariant
