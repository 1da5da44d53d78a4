use Rattle.std.proofs.Common.{◌-◌, ◌+◌, ◌≡◌, arith, sym, refl, subst, map}
use Rattle.std.proofs.lemmas.Option.{slice_get_read}
use Rattle.shim_laws_table.specs.Changes.{segment, prevailing_with, prevailing_among}
use Rattle.shim_records.specs.Pairs.{record_view, status_view}
use Rattle.shim_records.specs.declared.record.Record.{Record}
use Rattle.shim_process_table.proofs.ClosingLabels.{one_read}
use Rattle.shim_process_table.proofs.closing.prevailing_death.Goals as goal

pub loop-left-preserved : goal.loop-left-preserved
loop-left-preserved c =
    let some = c.loop-left-test.true in
    let within = c.loop-left.invariant.0 in
    let asked = c.requires in
    let rs = c.args.records.now in
    let back : c.loop-left.left ≡ c.loop-left.left - 1 + 1 = omega (arith, some) in (
      omega (arith, within),
      one_read rs c.args.first c.args.count (c.loop-left.left - 1) c.index-records-first.result c.loop-left.death c.prevailing-death.result (omega (arith, some, within))
          (slice_get_read rs _ (c.args.first + (c.loop-left.left - 1)) c.index-records-first.result refl (omega (arith, some, within, asked)) c.index-records-first.is)
          (λ f. subst (λ (z : Record). c.prevailing-death.result ≡ prevailing_with (status_view f z.status) c.loop-left.death) (sym c.index-records-first.is) (c.prevailing-death.ensures f))
          (subst (λ i. c.loop-left.death ≡ prevailing_among (segment (c.args.first + i) (c.args.count - i) (map record_view rs))) back c.loop-left.invariant.1),
    )
