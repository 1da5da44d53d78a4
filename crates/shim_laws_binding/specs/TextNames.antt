-- The names of a text, in its order, and whether a text has the type that version 2 adds.
use Rattle.std.specs.Prelude.{List, [], ◌∷◌, ◌++◌, Bool, true, false, ◌||◌, if◌then◌else◌}
use Rattle.shim_base.specs.declared.types.Ty.TheVariants.{Int64}
use Rattle.shim_syntax.specs.declared.tree.Sort.TheVariants.{Value}
use Rattle.shim_syntax.specs.Terminals.{Terminal, Name, Sort, rest, begins_two}
use Rattle.shim_syntax.specs.Names.{Texts}

-- the name that a terminal is, where it is one
abbrev pub terminal_name : Terminal → Texts
terminal_name (Name x place) = x ∷ []
terminal_name _ = []

-- the names among the terminals
abbrev pub names_among : List Terminal → Texts
names_among [] = []
names_among (t ∷ ts) = terminal_name t ++ names_among ts

-- the terminals of a text's functions: all, or in version 2 those after the first three
abbrev pub of_functions : List Terminal → List Terminal
of_functions ts = if begins_two ts then rest (rest (rest ts)) else ts

-- whether the terminal is the type that version 2 adds
abbrev pub is_new_type : Terminal → Bool
is_new_type (Sort (Value Int64) p) = true
is_new_type _ = false

-- whether any of some terminals is the type that version 2 adds
abbrev pub has_new_type : List Terminal → Bool
has_new_type [] = false
has_new_type (t ∷ ts) = is_new_type t || has_new_type ts
