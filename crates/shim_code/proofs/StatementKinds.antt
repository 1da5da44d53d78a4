-- What the machine runs for a statement of each kind, by the parts of the statement.
use Rattle.std.proofs.Common.{◌≡◌, ◌∙◌, ℕ, List, sym, ap}
use Rattle.shim_units.specs.declared.unit.Unit.{Unit as UnitOf}
use Rattle.shim_units.specs.declared.unit.UStmt.{UStmt, fold_out-UStmt}
use Rattle.shim_units.specs.declared.unit.UWhat.{UWhat, UWhat-F, fold-UWhat, fold-roll-UWhat, map-UWhat, out-UWhat, roll-out-UWhat}
use Rattle.shim_code.specs.MachineCode.{MachineCode, machine_stmt, what_machine}

abbrev pub machine_what : List UnitOf → UWhat → ℕ → MachineCode
machine_what units = fold-UWhat (ℕ → MachineCode) MachineCode (what_machine units) (λ s. s.what s.line)

-- one layer of a statement
abbrev pub layer : List UnitOf → UWhat-F UWhat UStmt → ℕ → MachineCode
layer units x = what_machine units (map-UWhat UWhat UStmt (ℕ → MachineCode) MachineCode (machine_what units) (machine_stmt units) x)

pub at_kind : (units : List UnitOf) (s : UStmt) (w : UWhat) (x : UWhat-F UWhat UStmt) → s.what ≡ w → out-UWhat w ≡ x → machine_stmt units s ≡ layer units x s.line
at_kind units s w x is out =
    let step = what_machine units in
    let rolled = fold-roll-UWhat (ℕ → MachineCode) MachineCode step (λ s. s.what s.line) (out-UWhat w) in
    fold_out-UStmt (ℕ → MachineCode) MachineCode step (λ s. s.what s.line) s
    ∙ ap (λ v. machine_what units v s.line) (is ∙ sym (roll-out-UWhat w))
    ∙ ap (λ f. f s.line) rolled
    ∙ ap (λ v. layer units v s.line) out
