-- What the name of a variable or of an exception is bound to at a place, and expressions with slots in place of names.
use Rattle.std.specs.Prelude.{ℕ, List, [], ◌∷◌, Option, Some, None, reverse, map}
use Rattle.std.specs.List.{find}
use Rattle.std.specs.Option.{option_map, option_or}
use Rattle.std.specs.Str.{bytes_eq}
use Rattle.shim_syntax.specs.declared.tree.Sort.{Sort}
use Rattle.shim_syntax.specs.declared.tree.Sort.TheVariants.{Value, Input, Output}
use Rattle.shim_syntax.specs.declared.tree.Expr.{Expr, fold-Expr, Expr-F}
use Rattle.shim_scopes.specs.declared.tree.UExpr.{UExpr, Number, Var, Unary, Binary}
use Rattle.shim_scopes.specs.declared.scope.Bound.{Bound}
use Rattle.shim_scopes.specs.declared.scope.LocalDeclaration.{LocalDeclaration}
use Rattle.shim_scopes.specs.declared.scope.Handled.{Handled}

-- What a name is bound to: the slot and the sort of the last declaration that has the name. The declarations that enclose the place are given in textual order. `None` if none has the name.
abbrev pub binding_of : List ℕ → List LocalDeclaration → Option Bound
binding_of x around = option_map (λ (l : LocalDeclaration). l.bound) (find (λ (l : LocalDeclaration). bytes_eq l.name x) (reverse around))

-- The number of the last exception that has the name. The exceptions in force at the place are given in textual order. `None` if none has the name.
abbrev pub exception_of : List ℕ → List Handled → Option ℕ
exception_of x around = option_map (λ (l : Handled). l.number) (find (λ (l : Handled). bytes_eq l.name x) (reverse around))

-- the name, where it is bound to nothing
abbrev pub unless_bound : List ℕ → Option Bound → Option (List ℕ)
unless_bound x None = Some x
unless_bound x (Some b) = None

-- the name, where no declaration of it is around
abbrev pub unknown : List LocalDeclaration → List ℕ → Option (List ℕ)
unknown around x = unless_bound x (binding_of x around)

-- the leftmost name of one expression with no declaration around it, by those of its operands
abbrev pub unknown_step : List LocalDeclaration → Expr-F (Option (List ℕ)) → Option (List ℕ)
unknown_step around (Expr-F.Number n) = None
unknown_step around (Expr-F.Var x) = unknown around x
unknown_step around (Expr-F.Unary op a) = a
unknown_step around (Expr-F.Binary op a b) = option_or a b

-- the leftmost name of an expression with no declaration around it
unfoldable pub unknown_in : List LocalDeclaration → Expr → Option (List ℕ)
unknown_in around = fold-Expr (Option (List ℕ)) (unknown_step around)

-- The name, where its sort isn't the one that is wanted. `if_stream` wants a number, `unless_input` an input stream, `unless_output` an output stream.
abbrev pub if_stream : List ℕ → Sort → Option (List ℕ)
if_stream x (Value ty) = None
if_stream x Input = Some x
if_stream x Output = Some x

abbrev pub unless_input : List ℕ → Sort → Option (List ℕ)
unless_input x (Value ty) = Some x
unless_input x Input = None
unless_input x Output = Some x

abbrev pub unless_output : List ℕ → Sort → Option (List ℕ)
unless_output x (Value ty) = Some x
unless_output x Input = Some x
unless_output x Output = None

-- `f` of the name and the sort that it is bound to, and nothing where it is bound to nothing
abbrev pub if_bound : (List ℕ → Sort → Option (List ℕ)) → List ℕ → Option Bound → Option (List ℕ)
if_bound f x None = None
if_bound f x (Some b) = f x b.sort

-- the name, where it is bound to a stream
abbrev pub no_number : List LocalDeclaration → List ℕ → Option (List ℕ)
no_number around x = if_bound if_stream x (binding_of x around)

-- the name, where it is bound to a number or to an output stream
abbrev pub no_input : List LocalDeclaration → List ℕ → Option (List ℕ)
no_input around x = if_bound unless_input x (binding_of x around)

-- the name, where it is bound to a number or to an input stream
abbrev pub no_output : List LocalDeclaration → List ℕ → Option (List ℕ)
no_output around x = if_bound unless_output x (binding_of x around)

-- the leftmost name of one expression that is a stream, by those of its operands
abbrev pub stream_step : List LocalDeclaration → Expr-F (Option (List ℕ)) → Option (List ℕ)
stream_step around (Expr-F.Number n) = None
stream_step around (Expr-F.Var x) = no_number around x
stream_step around (Expr-F.Unary op a) = a
stream_step around (Expr-F.Binary op a b) = option_or a b

-- the leftmost name of an expression that is a stream
unfoldable pub stream_in : List LocalDeclaration → Expr → Option (List ℕ)
stream_in around = fold-Expr (Option (List ℕ)) (stream_step around)

-- the name that one expression is, where it is a variable alone
abbrev pub bare_step : Expr-F (Option (List ℕ)) → Option (List ℕ)
bare_step (Expr-F.Var x) = Some x
bare_step _ = None

-- the name that an expression is, where it is one
unfoldable pub bare : Expr → Option (List ℕ)
bare = fold-Expr (Option (List ℕ)) bare_step

-- the slot of what a name is bound to, and 0 where it is bound to nothing
abbrev pub slot_at : Option Bound → ℕ
slot_at None = 0
slot_at (Some b) = b.slot

-- the slot of the innermost declaration around that has the name, and 0 where none has it
abbrev pub slot_of : List LocalDeclaration → List ℕ → ℕ
slot_of around x = slot_at (binding_of x around)

-- one expression with its variable by its slot, its operands being placed already
abbrev pub placed_step : List LocalDeclaration → Expr-F UExpr → UExpr
placed_step around (Expr-F.Number n) = Number n
placed_step around (Expr-F.Var x) = Var (slot_of around x)
placed_step around (Expr-F.Unary op a) = Unary op a
placed_step around (Expr-F.Binary op a b) = Binary op a b

-- an expression with its variables by their slots
unfoldable pub placed : List LocalDeclaration → Expr → UExpr
placed around = fold-Expr UExpr (placed_step around)

-- the leftmost name of some expressions with no declaration around it
abbrev pub unknown_in_all : List LocalDeclaration → List Expr → Option (List ℕ)
unknown_in_all around [] = None
unknown_in_all around (e ∷ es) = option_or (unknown_in around e) (unknown_in_all around es)

abbrev pub placed_all : List LocalDeclaration → List Expr → List UExpr
placed_all around es = map (placed around) es

-- the same as `unknown_in`, `stream_in` and `placed`, of an expression that may be absent
abbrev pub unknown_in_option : List LocalDeclaration → Option Expr → Option (List ℕ)
unknown_in_option around None = None
unknown_in_option around (Some e) = unknown_in around e

abbrev pub stream_in_option : List LocalDeclaration → Option Expr → Option (List ℕ)
stream_in_option around None = None
stream_in_option around (Some e) = stream_in around e

abbrev pub placed_option : List LocalDeclaration → Option Expr → Option UExpr
placed_option around None = None
placed_option around (Some e) = Some (placed around e)

abbrev pub number_or_zero_of : Option ℕ → ℕ
number_or_zero_of None = 0
number_or_zero_of (Some n) = n

-- the number of the innermost exception in force that has the name, and 0 where none has it
abbrev pub exception_number : List Handled → List ℕ → ℕ
exception_number around x = number_or_zero_of (exception_of x around)

-- the name, where no number of an exception is found for it
abbrev pub unless_handled : List ℕ → Option ℕ → Option (List ℕ)
unless_handled x None = Some x
unless_handled x (Some n) = None

-- the name, where no exception of it is in force
abbrev pub unhandled : List Handled → List ℕ → Option (List ℕ)
unhandled around x = unless_handled x (exception_of x around)
