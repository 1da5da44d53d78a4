use Rattle.std.proofs.Common.{◌∙◌}
use Rattle.shim_syntax.proofs.table.NameTable.find.Goals as goal

pub returns : goal.returns
returns c =
    c.copied.ensures ∙ c.get.ensures.value
    ∙ rw (c.as_bytes.ensures.value, ← c.self.view_is) (c.self.invariant c.args.name.now)
