use Rattle.std.proofs.Common.{◌∙◌}
use Rattle.shim_syntax.proofs.TableLemmas.{indexed}
use Rattle.shim_syntax.proofs.table.NameTable.append.Goals as goal

pub invariant_of-self-2 : goal.invariant_of-self-2
invariant_of-self-2 c =
    indexed c.self.inside.names.items c.push.new.self.items c.self.inside.numbers c.insert.new.self c.args.name.now c.in_ok-bytes.bytes c.len.result
    c.self.invariant (rw c.self.view_is c.requires) (c.in_ok-bytes.ensures.items ∙ c.as_bytes.ensures.value)
    (c.len.ensures ∙ c.reserve.ensures.len ∙ c.self.inside.names.ok.0)
    (c.in_ok-push.ensures.items ∙ rw (c.reserve.ensures.items, c.in_ok-name.ensures))
    c.in_ok-insert.ensures.updates
