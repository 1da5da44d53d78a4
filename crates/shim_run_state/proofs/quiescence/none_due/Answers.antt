use Rattle.std.proofs.lemmas.List.{get_or_default}
use Rattle.std.proofs.lemmas.Option.{slice_get_read}
use Rattle.std.proofs.Common.{rules, refl, get_or, ◌≡◌, Some, length, ◌≤◌}
use Rattle.std.specs.Prelude.{slice_get}
use Rattle.shim_laws_table_events.specs.queues.RecordDecisions.{HasNothingDue}
use Rattle.shim_run_state.proofs.Quiescent.{some_due, nothing_due, before_more, before_all}
use Rattle.shim_run_state.proofs.quiescence.none_due.Goals as goal

pub returns-then-is_something : goal.returns-then-is_something
returns-then-is_something g c =
    let o = g.L.Local.ops in
    let law = (g.met.L.Local g.world.𝓛 g.world.𝓜 g.world.𝓡 ((λ s x. x), (λ x. x), (λ x. x), λ x. x)).laws in
    let w = some_due o law c.args.table.now _ c.due.result (c.if-is_something.ensures.something refl) c.due.ensures in
    (_, w.0, w.1)

pub loop-at-preserved : goal.loop-at-preserved
loop-at-preserved g c =
    let o = g.L.Local.ops in
    let law = (g.met.L.Local g.world.𝓛 g.world.𝓜 g.world.𝓡 ((λ s x. x), (λ x. x), (λ x. x), λ x. x)).laws in
    let n = get_or c.args.numbers.now c.loop-at.at 0 in
    let there : slice_get c.args.numbers.now c.loop-at.at ≡ Some n = slice_get_read c.args.numbers.now (length c.args.numbers.now) c.loop-at.at n refl c.loop-at-test.true (get_or_default c.args.numbers.now c.loop-at.at 0 n c.loop-at-test.true) in
    before_more (λ n. HasNothingDue o c.args.table.now n) c.args.numbers.now c.loop-at.at n there (nothing_due o law c.args.table.now n c.due.result (c.if-is_something.ensures.nothing refl) c.due.ensures) c.loop-at.invariant

pub returns : goal.returns
returns g c =
    let o = g.L.Local.ops in
    let past : length c.args.numbers.now ≤ c.loop-at.at = search rules in
    before_all (λ n. HasNothingDue o c.args.table.now n) c.args.numbers.now c.loop-at.at past c.loop-at.invariant
