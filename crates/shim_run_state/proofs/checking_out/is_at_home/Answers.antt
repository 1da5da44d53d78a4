use Rattle.std.proofs.Common.{◌∙◌}
use Rattle.shim_base.proofs.Facts.{not_false}
use Rattle.shim_laws_table.specs.NodeStatus.{lives}
use Rattle.shim_run_state.proofs.Flags.{flag_read, not_true}
use Rattle.shim_run_state.proofs.checking_out.is_at_home.Goals as goal

pub bounds-checked_out-number : goal.bounds-checked_out-number
bounds-checked_out-number g c = let h = c.if-not-is_before_quiet.ensures in c.requires c.args.number (h.0, h.1, lives, h.2)

pub returns-clause-home : goal.returns-clause-home
returns-clause-home g c e =
    let h = c.if-not-is_before_quiet.ensures in
    let read = flag_read c.args.checked_out.now c.args.number (c.requires c.args.number (h.0, h.1, lives, h.2)) in (
      h.1,
      record { first = h.0; has = h.2; stop_is = h.3 },
      read ∙ not_false _ e,
    )

pub returns-clause-other : goal.returns-clause-other
returns-clause-other g c e l q =
    let read = flag_read c.args.checked_out.now c.args.number (c.requires c.args.number (q.first, l, lives, q.has)) in
    read ∙ not_true _ e
