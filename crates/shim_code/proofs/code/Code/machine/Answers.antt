use Rattle.std.proofs.Common.{◌∙◌, ap, map}
use Rattle.shim_code.specs.Programs.{code_units}
use Rattle.shim_code.specs.Published.{published_all}
use Rattle.shim_code.specs.declared.unit.CodeUnit.{CodeUnit}
use Rattle.shim_code.proofs.PublishedCode.{machine_shows_units}
use Rattle.shim_code.proofs.code.Code.machine.Goals as goal

pub returns-clause-published : goal.returns-clause-published
returns-clause-published c =
    ap (map published_all) (c.as_slice.ensures ∙ c.self.invariant) ∙ machine_shows_units _ _
    ∙ ap (λ f. map (λ (u : CodeUnit). u.code) (code_units f.units)) c.self.view_is
