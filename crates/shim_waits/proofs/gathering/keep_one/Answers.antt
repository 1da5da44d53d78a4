use Rattle.std.proofs.Common.{sym, ap, ◌∙◌}
use Rattle.shim_waits.proofs.Keeping.{has_one, isnt_one, is_one}
use Rattle.shim_waits.proofs.gathering.keep_one.Goals as goal

pub returns-then-kept : goal.returns-then-kept
returns-then-kept g c = has_one g.L.Local.ops c.args.node.now c.args.number c.args.c.now.channel c.args.holders.now (sym c.contains_key-kept.ensures ∙ c.if-kept.true)

pub returns-in_ok-insert : goal.returns-in_ok-insert
returns-in_ok-insert g c =
    let path = c.in_ok-path.ensures ∙ c.path.ensures.path ∙ ap g.L.Local.ops.path c.process.ensures in
    is_one g.L.Local.ops c.args.node.now c.args.number c.in_ok-copy.field-0 c.args.c.now c.args.holders.now c.insert.new.self (record { path = c.in_ok-path.path; number = c.args.number }) c.in_ok-copy.ensures (λ i. record { path = path i; number = c.args.number })
    (sym c.contains_key-kept.ensures ∙ c.if-kept.false) (sym c.holds_up.ensures ∙ c.if-holds_up.true) c.in_ok-insert.ensures.updates.0

pub returns-else-holds_up : goal.returns-else-holds_up
returns-else-holds_up g c = isnt_one g.L.Local.ops c.args.node.now c.args.number c.args.c.now.channel c.args.holders.now (sym c.holds_up.ensures ∙ c.if-holds_up.false)
