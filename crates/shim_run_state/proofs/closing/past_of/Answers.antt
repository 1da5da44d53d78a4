use Rattle.std.proofs.Common.{◌≡◌, ◌+◌, map, refl, sym, ap, subst, ◌∙◌, rules}
use Rattle.shim_process_table.specs.Lookups.{IsInUse}
use Rattle.shim_run_state.specs.Fields.{count_in}
use Rattle.shim_run_state.specs.RunStates.{path_at}
use Rattle.shim_run_state.proofs.PastCounts.{no_block, one_gathered}
use Rattle.shim_run_state.proofs.closing.past_of.Goals as goal

pub loop-branch-init : goal.loop-branch-init
loop-branch-init g c = ap (map count_in) c.new-past.ensures.items ∙ sym (no_block c.args.first (path_at g.L.Local.ops c.args.table.now) c.args.own.now)

pub path-requires-after_bounds : goal.path-requires-after_bounds
path-requires-after_bounds g c κs within =
    let is : c.in_ok-number.number ≡ c.args.first + c.loop-branch.branch = search rules in
    subst (IsInUse c.args.table.now) (sym is) (c.requires.used c.loop-branch.branch c.loop-branch-test.true)

pub bounds-own-number : goal.bounds-own-number
bounds-own-number g c =
    let is : c.in_ok-number.number ≡ c.args.first + c.loop-branch.branch = search rules in
    c.requires.owns c.in_ok-number.number (subst (IsInUse c.args.table.now) (sym is) (c.requires.used c.loop-branch.branch c.loop-branch-test.true))

pub loop-branch-preserved : goal.loop-branch-preserved
loop-branch-preserved g c =
    let is : c.in_ok-number.number ≡ c.args.first + c.loop-branch.branch = search rules in
    let used = subst (IsInUse c.args.table.now) (sym is) (c.requires.used c.loop-branch.branch c.loop-branch-test.true) in
    let path : c.in_ok-copy.field-0 ≡ c.path.result.now = search rules in
    one_gathered g.L.Local.ops c.args.table.now c.args.own.now c.args.first c.loop-branch.branch c.in_ok-number.number is used c.loop-branch.past.items c.push.new.self.items c.in_ok-copy.field-0 _
    (path ∙ c.path.ensures used.1 used.3.state_is) (c.requires.owns c.in_ok-number.number used) refl c.in_ok-push.ensures.items c.loop-branch.invariant
