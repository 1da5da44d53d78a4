use Rattle.std.proofs.Common.{◌+◌, subst, sym, ap, ◌∙◌}
use Rattle.std.specs.BTreeMap.{get}
use Rattle.std.specs.Prelude.{is_some}
use Rattle.shim_base.specs.Paths.{path_order}
use Rattle.shim_waits.proofs.Index.{IndexesRest, indexed_before, indexed_one}
use Rattle.shim_waits.proofs.Judging.{next_one}
use Rattle.shim_waits.proofs.explanation.index_of.Goals as goal
use Rattle.shim_waits.proofs.explanation.index_of.Goals.{then-not-contains_key+in_ok-copy+in_ok-insert, else-not-contains_key}

pub loop-i-preserved : goal.loop-i-preserved
loop-i-preserved c =
    let i = c.loop-i.i in
    let ws = c.args.waits.now in
    let d = next_one ws i c.index-waits-i.result c.loop-i-test.true c.index-waits-i.is in
    elim c.if-not-contains_key.branch [
      | then-not-contains_key+in_ok-copy+in_ok-insert w ↦
          subst (λ m. IndexesRest (i + 1) m ws) (sym w.index-is)
          (indexed_one i c.loop-i.index w.insert.new.self ws c.index-waits-i.result d w.in_ok-copy.field-0 (w.in_ok-copy.ensures ∙ ap (λ v. v.path) (sym c.index-waits-i.is)) (ap (λ v. is_some (get path_order c.loop-i.index v.path)) c.index-waits-i.is ∙ (sym c.contains_key.ensures ∙ w.if-not-contains_key.true)) w.in_ok-insert.ensures.updates.0 c.loop-i.invariant)
      | else-not-contains_key w ↦ subst (λ m. IndexesRest (i + 1) m ws) (sym w.index-is) (indexed_before i c.loop-i.index c.loop-i.index ws c.index-waits-i.result d (ap (λ v. is_some (get path_order c.loop-i.index v.path)) c.index-waits-i.is ∙ (sym c.contains_key.ensures ∙ w.if-not-contains_key.false)) c.loop-i.invariant)
    ]
