use Rattle.std.proofs.Common.{◌≡◌, ◌∙◌, ◌<◌, ◌≤◌, ap, sym, slice_get, length, refl, Some}
use Rattle.std.proofs.lemmas.Option.{slice_get_past, slice_get_read}
use Rattle.shim_vm.proofs.UnitCodes.{code_missing, code_there, none_past}
use Rattle.shim_vm.proofs.unit_code.code_of.Goals as goal

pub returns-in-Some : goal.returns-in-Some
returns-in-Some c =
    let xs = c.machine.result.now in
    let found = c.in-Some.ensures.lookup in
    let within : c.args.unit < length xs = found.3.0 in
    let at : slice_get xs c.args.unit ≡ Some c.in-Some.code.now = slice_get_read xs (length xs) c.args.unit c.in-Some.code.now refl within found.1 in
    c.as_slice.ensures ∙ code_there c.args.code.now c.args.unit c.in-Some.code.now (ap (λ xs. slice_get xs c.args.unit) (sym c.machine.ensures.value) ∙ at)

pub returns-in-None : goal.returns-in-None
returns-in-None c =
    let xs = c.machine.result.now in
    let past : length xs ≤ c.args.unit = c.in-None.ensures.lookup.3 in (
      none_past c.args.code.now c.args.unit xs c.machine.ensures.value past,
      code_missing c.args.code.now c.args.unit (ap (λ xs. slice_get xs c.args.unit) (sym c.machine.ensures.value) ∙ slice_get_past xs c.args.unit past),
    )
