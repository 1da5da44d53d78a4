use Rattle.std.proofs.Common.{None, sym, subst, ap, ◌∙◌, arith}
use Rattle.shim_records.specs.Pairs.{up_in}
use Rattle.shim_laws_table_events.specs.keeping.Tables.{HasTableInvariant}
use Rattle.shim_process_table.specs.Lookups.{ParentIs}
use Rattle.shim_process_table.proofs.Parents.{parent_is_up, fork_in_use, queue_begins, queue_goes, queue_ends, queue_tops}
use Rattle.shim_process_table.proofs.process_table.ProcessTable.list_above.Goals as goal

pub loop-walked-init : goal.loop-walked-init
loop-walked-init g c = queue_begins g.L.Local.ops c.args.self.now c.args.number c.args.list.now c.requires.used

pub add-requires : goal.add-requires
add-requires g c =
    let o = g.L.Local.ops in
    let same = c.as_slice-records.ensures.value ∙ ap (λ z. z.records) c.self.view_is in
    let kept = subst (HasTableInvariant o) c.self.view_is c.self.invariant in
    let fork = c.in-Some.fork in
    let used = fork_in_use o c.args.self.now kept c.loop-walked.here fork c.loop-walked.invariant.used (ap (λ z. up_in z c.loop-walked.here) (sym same) ∙ c.in-Some.ensures.0) in
    let within = c.requires.room fork used in
    let long = c.loop-walked.invariant.as_many in
    omega (arith, within, long)

pub returns-in-None : goal.returns-in-None
returns-in-None g c =
    let o = g.L.Local.ops in
    let v = c.args.self.now in
    let same = c.as_slice-records.ensures.value ∙ ap (λ z. z.records) c.self.view_is in
    let kept = subst (HasTableInvariant o) c.self.view_is c.self.invariant in
    let here = c.loop-walked.here in
    let up = parent_is_up o v kept here c.loop-walked.invariant.used None (subst (λ z. ParentIs z here None) same c.in-None.ensures) in
    let within = c.loop-walked-test.true in
    queue_tops o v c.args.number c.args.list.now c.loop-walked.list here c.loop-walked.walked c.loop-walked.invariant c.args.forks (let end = c.loop-walked.auto.walked-end in omega (arith, within, end)) (sym up)

pub loop-walked-preserved : goal.loop-walked-preserved
loop-walked-preserved g c =
    let o = g.L.Local.ops in
    let v = c.args.self.now in
    let same = c.as_slice-records.ensures.value ∙ ap (λ z. z.records) c.self.view_is in
    let kept = subst (HasTableInvariant o) c.self.view_is c.self.invariant in
    let up = c.in-Some.ensures.0 in
    queue_goes o v c.args.number c.args.list.now c.loop-walked.list c.loop-walked.here c.loop-walked.walked c.loop-walked.invariant kept c.requires.room c.in-Some.fork c.add.new.self
    (ap (λ z. up_in z c.loop-walked.here) (sym same) ∙ up) c.add.ensures

pub returns : goal.returns
returns g c =
    let past = c.loop-walked-test.false in
    let end = c.loop-walked.auto.walked-end in
    queue_ends g.L.Local.ops c.args.self.now c.args.number c.args.list.now c.loop-walked.list c.loop-walked.here c.loop-walked.walked c.loop-walked.invariant c.args.forks (omega (arith, past, end))
