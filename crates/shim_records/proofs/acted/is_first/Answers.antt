use Rattle.std.proofs.Common.{ap, sym, ◌∙◌, arith}
use Rattle.shim_base.specs.Paths.{same_channel}
use Rattle.shim_base.proofs.SamePaths.{same_channel_is, same_channel_refl}
use Rattle.shim_semantics.proofs.HowMany.{clash}
use Rattle.shim_records.proofs.Walked.{none_earlier, still_none, another, declared_before}
use Rattle.shim_records.proofs.acted.is_first.Goals.{in-None, in-Some+else-eq}
use Rattle.shim_records.proofs.acted.is_first.Goals as goal

pub loop-at-init : goal.loop-at-init
loop-at-init g c = none_earlier g.L.Local.ops c.args.process.now c.args.c.now.channel

pub returns-then-eq-clause-again : goal.returns-then-eq-clause-again
returns-then-eq-clause-again g c same =
    let ch = c.args.c.now.channel in
    declared_before g.L.Local.ops c.args.process.now ch c.loop-at.at c.args.place c.in-Some.chan.now c.loop-at-test.true (sym c.in-Some.ensures) (same_channel_is c.in-Some.chan.now.channel ch (sym c.if-eq.ensures))

pub loop-at-preserved : goal.loop-at-preserved
loop-at-preserved g c =
    let o = g.L.Local.ops in
    let s = c.args.process.now in
    let ch = c.args.c.now.channel in
    elim c.match-given.branch [
      | in-None w ↦ still_none o s ch c.loop-at.at (sym w.in-None.ensures) c.loop-at.invariant
      | in-Some+else-eq w ↦
          let chan = w.in-Some.chan.now in
          another o s ch c.loop-at.at chan (sym w.in-Some.ensures) (λ e. clash (same_channel chan.channel ch) (ap (λ z. same_channel z ch) e ∙ same_channel_refl ch) (sym w.if-eq.ensures)) c.loop-at.invariant
    ]

pub returns-clause-first : goal.returns-clause-first
returns-clause-first g c same h = c.loop-at.invariant (h.0, h.1, (let less = h.2 in let past = c.loop-at-test.false in omega (arith, less, past)), h.3, h.4)
