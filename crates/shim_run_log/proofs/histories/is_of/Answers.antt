use Rattle.std.proofs.Common.{refl}
use Rattle.std.proofs.lemmas.Option.{slice_get_past, slice_get_read}
use Rattle.shim_run_log.proofs.Numbered.{is_of_none, is_of_there}
use Rattle.shim_run_log.proofs.histories.is_of.Goals as goal
use Rattle.std.proofs.Common.{length}

pub returns-in-Some : goal.returns-in-Some
returns-in-Some c =
    let kept = c.args.kept.now in
    let there = slice_get_read kept (length kept) c.args.number c.in-Some.history.now refl c.in-Some.ensures.lookup.3.0 c.in-Some.ensures.lookup.1 in
    is_of_there kept c.args.number c.in-Some.history.now c.args.chan.now.channel c.eq.result there c.eq.ensures

pub returns-in-None : goal.returns-in-None
returns-in-None c =
    let kept = c.args.kept.now in
    is_of_none kept c.args.number c.args.chan.now.channel (slice_get_past kept c.args.number c.in-None.ensures.lookup.3)
