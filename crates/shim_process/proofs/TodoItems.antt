-- What is to be done for a statement, by what the statement does.
use Rattle.std.proofs.Common.{◌≡◌, ◌∙◌, ℕ, ap}
use Rattle.shim_units.specs.declared.unit.UStmt.{UStmt, UStmt-F, para-roll-UStmt}
use Rattle.shim_units.specs.declared.unit.UWhat.{UWhat, UWhat-F, map-UWhat, para-UWhat, para-roll-UWhat, roll-UWhat}
use Rattle.shim_process.specs.Todo.{ItemsFrom, what_items, items}

abbrev pub line_of : ℕ → UWhat → UStmt
line_of n w = record { line = n; what = w }

abbrev pub stmt_items : UStmt-F (UWhat × (UStmt → ItemsFrom)) (UStmt × ItemsFrom) → ItemsFrom
stmt_items s = s.what.1 (record { line = s.line; what = s.what.0 })

abbrev pub items_what : UWhat → UStmt → ItemsFrom
items_what = para-UWhat (UStmt → ItemsFrom) ItemsFrom what_items stmt_items

pub items_roll : (l : ℕ) (x : UWhat-F UWhat UStmt) → items (line_of l (roll-UWhat x)) ≡ what_items (map-UWhat UWhat UStmt _ _ (λ y. (y, items_what y)) (λ y. (y, items y)) x) (line_of l (roll-UWhat x))
items_roll l x =
    let d : UStmt-F UWhat UStmt = record { line = l; what = roll-UWhat x } in
    para-roll-UStmt (UStmt → ItemsFrom) ItemsFrom what_items stmt_items d
    ∙ ap (λ f. f (line_of l (roll-UWhat x))) (para-roll-UWhat (UStmt → ItemsFrom) ItemsFrom what_items stmt_items x)
