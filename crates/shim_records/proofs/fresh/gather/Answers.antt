use Rattle.std.proofs.Common.{◌++◌, sym, ap, ◌∙◌}
use Rattle.std.proofs.lemmas.List.{append-nil}
use Rattle.shim_records.proofs.Gathering.{none_left, one_gathered}
use Rattle.shim_records.proofs.fresh.gather.Goals as goal

pub returns-in-None : goal.returns-in-None
returns-in-None g c =
    let o = g.L.Local.ops in
    let xs = c.loop-at.chans.items in
    sym (append-nil xs) ∙ (ap (λ z. xs ++ z) (sym (none_left o c.args.parent.now (o.given c.args.child.now) c.loop-at.at (sym c.in-None.ensures))) ∙ c.loop-at.invariant)

pub loop-at-preserved : goal.loop-at-preserved
loop-at-preserved g c =
    let o = g.L.Local.ops in
    one_gathered o c.args.parent.now (o.given c.args.child.now) c.loop-at.chans.items c.gather_one.new.chans.items c.loop-at.at c.in-Some.chan.now (sym c.in-Some.ensures) c.in_ok-gather_one-in-Some.ensures ∙ c.loop-at.invariant
