use Rattle.std.proofs.Common.{subst, sym, inl, inr}
use Rattle.shim_records.specs.Acted.{process_status_of}
use Rattle.shim_laws_table_events.specs.closes.Closing.{CountsOffIfOver}
use Rattle.shim_process_table.proofs.closing.count_off_if_over.Goals as goal

pub returns-in-Free : goal.returns-in-Free
returns-in-Free c = elim c.in-Free.is [
  | inl e ↦ subst (λ z. CountsOffIfOver (process_status_of z) c.args.at c.args.records.now.items c.count_off.new.records.items) (sym e) c.count_off.ensures
  | inr w ↦ elim w [
    | inl e ↦ subst (λ z. CountsOffIfOver (process_status_of z) c.args.at c.args.records.now.items c.count_off.new.records.items) (sym e) c.count_off.ensures
    | inr e ↦ subst (λ z. CountsOffIfOver (process_status_of z) c.args.at c.args.records.now.items c.count_off.new.records.items) (sym e.1) c.count_off.ensures
  ]
]
