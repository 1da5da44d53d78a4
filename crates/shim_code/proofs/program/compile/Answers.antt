use Rattle.std.proofs.Common.{◌∙◌, ◌≤◌, ap, arith, length, sym}
use Rattle.shim_code.specs.Programs.{machine_units}
use Rattle.shim_code.proofs.PublishedCode.{all_machine}
use Rattle.shim_code.proofs.program.compile.Goals as goal

pub new-requires : goal.new-requires
new-requires c =
    let units = c.units-units.result.now in
    let i = c.loop-unit.unit-index in
    let le : length units ≤ i = let a = c.loop-unit.auto.unit-index-end in let d = c.loop-unit-test.false in omega arith in
    let kept = c.in_ok-kept.ensures in
    let same = c.units-units.ensures.value ∙ ap (λ f. f.units) (sym kept) in
    all_machine units i c.loop-unit.machine le c.loop-unit.invariant ∙ ap (λ us. machine_units us us) same
