use Rattle.std.proofs.Common.{ap, sym, subst, ◌∙◌}
use Rattle.shim_net.specs.Nets.{NetView}
use Rattle.shim_net.specs.Absorbing.{RedoesOne, RedoesSome, redid_none, redid_one}
use Rattle.shim_net.specs.Progress.{AreAmong}
use Rattle.shim_net.proofs.Progress.{stays, same_net, on_and_on, among, none_among, redid_on, redid_fewer, redid_among}
use Rattle.shim_net.proofs.net.Net.redo_all.Goals as goal

pub loop-init : goal.loop-init
loop-init g c = record { redoes = redid_none; goes_on = stays g.L.Local.ops c.args.self.now; left = among c.args.self.now.grants }

pub loop-preserved : goal.loop-preserved
loop-preserved g c =
    let o = g.L.Local.ops in
    let i = c.loop.invariant in
    let did = subst (RedoesOne o c.loop.self c.redo.new.self) c.if-branch.true c.in_ok-redo.ensures.ok in
    record {
      redoes = redid_one c.loop.self c.redo.new.self i.redoes did;
      goes_on = on_and_on o c.args.self.now c.loop.self c.redo.new.self i.goes_on (redid_on o c.loop.self c.redo.new.self did);
      left = redid_among o c.loop.self c.redo.new.self did c.args.self.now.grants i.left;
    }

pub loop-smaller : goal.loop-smaller
loop-smaller g c =
    let o = g.L.Local.ops in
    let did = subst (RedoesOne o c.loop.self c.redo.new.self) c.if-branch.true c.in_ok-redo.ensures.ok in
    redid_fewer o c.loop.self c.redo.new.self did

pub returns-in_err-redo-clause-redoes : goal.returns-in_err-redo-clause-redoes
returns-in_err-redo-clause-redoes g c = subst (λ (z : NetView g.row.L.Denot). RedoesSome g.L.Local.ops c.args.self.now z) (sym c.in_err-redo.ensures.err) c.loop.invariant.redoes

pub returns-clause-redoes : goal.returns-clause-redoes
returns-clause-redoes g c =
    let o = g.L.Local.ops in
    let nothing = subst (RedoesOne o c.loop.self c.redo.new.self) c.if-branch.false c.in_ok-redo.ensures.ok in
    subst (λ (z : NetView g.row.L.Denot). RedoesSome o c.args.self.now z) (sym nothing.0) c.loop.invariant.redoes

pub returns-in_err-redo-clause-goes_on : goal.returns-in_err-redo-clause-goes_on
returns-in_err-redo-clause-goes_on g c =
    let o = g.L.Local.ops in
    on_and_on o c.args.self.now c.loop.self c.redo.new.self c.loop.invariant.goes_on (same_net o c.loop.self c.redo.new.self c.in_err-redo.ensures.err)

pub returns-in_err-redo-clause-left : goal.returns-in_err-redo-clause-left
returns-in_err-redo-clause-left g c = subst (λ (z : NetView g.row.L.Denot). AreAmong z.grants c.args.self.now.grants) (sym c.in_err-redo.ensures.err) c.loop.invariant.left

pub returns-clause-goes_on : goal.returns-clause-goes_on
returns-clause-goes_on g c =
    let o = g.L.Local.ops in
    let none = subst (RedoesOne o c.loop.self c.redo.new.self) c.if-branch.false c.in_ok-redo.ensures.ok in
    on_and_on o c.args.self.now c.loop.self c.redo.new.self c.loop.invariant.goes_on (same_net o c.loop.self c.redo.new.self none.0)

pub returns-clause-left : goal.returns-clause-left
returns-clause-left g c =
    let o = g.L.Local.ops in
    let none = subst (RedoesOne o c.loop.self c.redo.new.self) c.if-branch.false c.in_ok-redo.ensures.ok in
    none_among c.redo.new.self.grants c.args.self.now.grants (ap (λ (z : NetView g.row.L.Denot). z.grants) none.0 ∙ none.1)

pub returns-clause-home : goal.returns-clause-home
returns-clause-home g c =
    let o = g.L.Local.ops in
    let none = subst (RedoesOne o c.loop.self c.redo.new.self) c.if-branch.false c.in_ok-redo.ensures.ok in
    ap (λ (z : NetView g.row.L.Denot). z.grants) none.0 ∙ none.1
