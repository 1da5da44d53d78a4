use Rattle.std.proofs.Common.{◌&&◌, not, suc, length, refl, ap, ◌∙◌, rules, arith}
use Rattle.std.specs.Prelude.{if◌then◌else◌}
use Rattle.std.proofs.lemmas.Option.{slice_get_read}
use Rattle.shim_semantics.specs.Nodes.{is_next}
use Rattle.shim_records.proofs.SharingFound.{counted_on, one_more, all_looked_at}
use Rattle.shim_records.proofs.fresh.counted.Goals as goal

pub loop-i-preserved : goal.loop-i-preserved
loop-i-preserved g c =
    let o = g.L.Local.ops in
    let ch = c.args.chan.channel in
    let ks = c.args.children.now in
    let i = c.loop-i.i in
    let k = c.index-children-i.result in
    let so = c.loop-i.invariant in
    let there = slice_get_read ks (length ks) i k refl c.loop-i-test.true c.index-children-i.is in (
      counted_on (λ s. o.shares s ch) ks i k c.loop-i.going c.more-going.result _ there (c.more-going.ensures ∙ ap (λ b. if b then suc c.loop-i.going else c.loop-i.going) c.shares-shares.ensures) so.0,
      counted_on (λ s. o.shares s ch && not (is_next (o.stop s) ch)) ks i k c.loop-i.not_ready c.more-not_ready.result _ there
          (c.more-not_ready.ensures ∙ ap (λ b. if b then suc c.loop-i.not_ready else c.loop-i.not_ready) (c.isnt_ready.ensures ∙ ap (λ b. b && not (is_next (o.stop k) ch)) c.shares-shares.ensures)) so.1,
      search rules,
      search rules,
      one_more o ch ks i k c.loop-i.sharing c.with_child-sharing.result there so.4 c.with_child-sharing.ensures,
    )

pub returns-clause-sharing : goal.returns-clause-sharing
returns-clause-sharing g c = all_looked_at g.L.Local.ops c.args.chan.channel c.args.children.now c.loop-i.i c.loop-i.sharing c.requires.few (omega (arith, c.loop-i-test.false, c.loop-i.auto.i-end)) c.loop-i.invariant.4
