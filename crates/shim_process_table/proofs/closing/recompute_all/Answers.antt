use Rattle.std.proofs.Common.{◌≡◌, ◌≤◌, ◌+◌, length, sym, subst, arith, ◌∙◌}
use Rattle.shim_records.specs.Recomputing.{IsRecomputed}
use Rattle.shim_laws_table_events.specs.closes.Closing.{GivenRecomputed}
use Rattle.shim_process_table.proofs.ClosingLabels.{SoFar, at_first, next, passed, no_more, at_end}
use Rattle.shim_process_table.proofs.ClosingTakes.{read_there}
use Rattle.shim_process_table.proofs.closing.recompute_all.Goals.{then-shares, else-shares}
use Rattle.shim_process_table.proofs.closing.recompute_all.Goals as goal

pub loop-place-init : goal.loop-place-init
loop-place-init g c = at_first g.L.Local.ops c.args.states.now c.args.forks c.args.at c.index-states-at.result c.args.records.now.items

pub returns-in-None : goal.returns-in-None
returns-in-None g c s e =
    let o = g.L.Local.ops in
    let same : c.index-states-at.result ≡ s = read_there c.args.states.now c.args.at c.index-states-at.result s c.requires.inside c.index-states-at.is e in
    subst (λ z. GivenRecomputed o c.args.states.now z c.args.forks c.args.at c.args.records.now.items c.loop-place.records.items) same
    (no_more o c.args.states.now c.args.forks c.args.at c.index-states-at.result c.args.records.now.items c.loop-place.place c.loop-place.records.items (sym c.in-None.ensures) c.loop-place.invariant)

pub loop-place-preserved : goal.loop-place-preserved
loop-place-preserved g c =
    let o = g.L.Local.ops in
    let process = c.index-states-at.result in
    let start = c.args.records.now.items in
    let chan = c.in-Some.chan.now in
    elim c.if-shares.branch [
      | then-shares w ↦
          next o c.args.states.now c.args.forks c.args.at process start c.loop-place.place c.loop-place.records.items c.if-shares.records.items chan (sym c.in-Some.ensures) (sym c.shares.ensures ∙ w.if-shares.true)
          (subst (λ z. IsRecomputed o chan.channel c.args.states.now c.args.forks c.args.at c.loop-place.records.items z.items) (sym w.records-is) w.recompute_min_labels.ensures) c.loop-place.invariant
      | else-shares w ↦
          subst (λ z. SoFar o c.args.states.now c.args.forks c.args.at process start (c.loop-place.place + 1) z.items) (sym w.records-is)
          (passed o c.args.states.now c.args.forks c.args.at process start c.loop-place.place c.loop-place.records.items chan (sym c.in-Some.ensures) (sym c.shares.ensures ∙ w.if-shares.false) c.loop-place.invariant)
    ]

pub returns : goal.returns
returns g c s e =
    let o = g.L.Local.ops in
    let same : c.index-states-at.result ≡ s = read_there c.args.states.now c.args.at c.index-states-at.result s c.requires.inside c.index-states-at.is e in
    subst (λ z. GivenRecomputed o c.args.states.now z c.args.forks c.args.at c.args.records.now.items c.loop-place.records.items) same
    (at_end o c.args.states.now c.args.forks c.args.at c.index-states-at.result c.args.records.now.items c.loop-place.place c.loop-place.records.items
    (let few = c.requires.few s e in let past = c.loop-place-test.false in subst (λ z. length (o.given z) ≤ c.loop-place.place) (sym same) (omega (arith, few, past))) c.loop-place.invariant)
