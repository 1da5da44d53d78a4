use Rattle.std.proofs.Common.{◌∙◌, ap}
use Rattle.shim_code.specs.MachineCode.{machine_unit}
use Rattle.shim_code.specs.Programs.{with_code}
use Rattle.shim_code.specs.Published.{published_all}
use Rattle.shim_code.proofs.PublishedCode.{unit_shown}
use Rattle.shim_code.proofs.program.code_unit.Goals as goal

pub returns : goal.returns
returns c =
    let units = c.args.units.now in
    let unit = c.args.unit.now in
    c.in_ok-made.ensures
    ∙ ap (with_code unit) (c.in_ok-code.ensures ∙ ap published_all (c.as_slice-2.ensures ∙ c.in_ok-machine.ensures ∙ ap (machine_unit units) c.as_slice.ensures) ∙ unit_shown units unit.body)
