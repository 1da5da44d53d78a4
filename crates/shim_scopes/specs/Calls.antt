-- What a call is bound to, and the first of its places that is refused.
use Rattle.std.specs.Prelude.{ℕ, List, [], ◌∷◌, Option, Some, None, Result, Ok, Err, Bool, true, false, map, length, nat_eq, position}
use Rattle.std.specs.List.{find}
use Rattle.std.specs.Option.{option_or}
use Rattle.std.specs.Str.{bytes_eq}
use Rattle.shim_base.specs.declared.types.Ty.{Ty}
use Rattle.shim_base.specs.declared.types.Ty.TheVariants as ty
use Rattle.shim_syntax.specs.declared.tree.Sort.{Sort}
use Rattle.shim_syntax.specs.declared.tree.Sort.TheVariants.{Value, Input, Output}
use Rattle.shim_syntax.specs.declared.tree.Expr.{Expr}
use Rattle.shim_syntax.specs.declared.tree.Call.{Call as CallOf}
use Rattle.shim_syntax.specs.declared.tree.Param.{Param}
use Rattle.shim_syntax.specs.declared.tree.Function.{Function}
use Rattle.shim_scopes.specs.declared.tree.RCall.{RCall}
use Rattle.shim_scopes.specs.declared.fault.ScopeKind.TheVariants.{UnknownName, UnknownFunction, UnknownException, Arity, WrongKind}
use Rattle.shim_scopes.specs.declared.scope.Bound.{Bound}
use Rattle.shim_scopes.specs.declared.scope.LocalDeclaration.{LocalDeclaration}
use Rattle.shim_scopes.specs.declared.scope.Handled.{Handled}
use Rattle.shim_syntax.specs.Names.{Texts, position_else}
use Rattle.shim_scopes.specs.Refusals.{Refusal, and_then, refused_for}
use Rattle.shim_scopes.specs.Binding.{binding_of, stream_in, bare, unknown_in_all, placed_all, exception_number, unhandled}
use Rattle.shim_scopes.specs.Statements.{Whole, Around, Before, Bind, visible}

-- the number of the first function that has the name, and the number of functions where none has it
abbrev pub function_number : List Function → List ℕ → ℕ
function_number fs x = position_else (length fs) (position (λ (f : Function). bytes_eq f.name x) fs)

-- the first function that has the name
abbrev pub function_of : List Function → List ℕ → Option Function
function_of fs x = find (λ (f : Function). bytes_eq f.name x) fs

-- the leftmost name of a callee's `throws` that isn't in force here
abbrev pub unhandled_of_all : List Handled → Texts → Option (List ℕ)
unhandled_of_all around [] = None
unhandled_of_all around (x ∷ xs) = option_or (unhandled around x) (unhandled_of_all around xs)

abbrev pub same_type : Ty → Ty → Bool
same_type ty.Bool ty.Bool = true
same_type ty.Int8 ty.Int8 = true
same_type ty.Int16 ty.Int16 = true
same_type ty.Int32 ty.Int32 = true
same_type ty.Uint8 ty.Uint8 = true
same_type ty.Uint16 ty.Uint16 = true
same_type ty.Uint32 ty.Uint32 = true
same_type ty.Int64 ty.Int64 = true
same_type _ _ = false

abbrev pub same_sort : Sort → Sort → Bool
same_sort (Value a) (Value b) = same_type a b
same_sort Input Input = true
same_sort Output Output = true
same_sort _ _ = false

-- Whether the variable to which a name is bound has the sort. True of a name that is bound to nothing, which `bind_call` refuses as unknown before.
abbrev pub sort_fits : Sort → Option Bound → Bool
sort_fits s None = true
sort_fits s (Some b) = same_sort s b.sort

-- the name, where the answer is `false`
abbrev pub if_false : List ℕ → Bool → Option (List ℕ)
if_false x true = None
if_false x false = Some x

-- The name for which an argument by reference is refused. It is the parameter's if the argument isn't bare, and the argument's if that is bound to another sort than the parameter's.
abbrev pub wrong_ref : List LocalDeclaration → Param → Option (List ℕ) → Option (List ℕ)
wrong_ref around p None = Some p.name
wrong_ref around p (Some x) = if_false x (sort_fits p.sort (binding_of x around))

-- The name for which an argument is refused, by reference where the first is `true`, and else by value. By value it is the leftmost stream in the argument.
abbrev pub wrong_by : Bool → List LocalDeclaration → Param → Expr → Option (List ℕ)
wrong_by true around p e = wrong_ref around p (bare e)
wrong_by false around p e = stream_in around e

-- the name for which an argument is refused for its parameter, if it is
abbrev pub wrong_arg : List LocalDeclaration → Param → Expr → Option (List ℕ)
wrong_arg around p e = wrong_by p.by_ref around p e

-- The name for which the leftmost refused argument is refused. Each argument is held against the parameter at its place; what has no partner isn't examined.
abbrev pub wrong_in_all : List LocalDeclaration → List Param → List Expr → Option (List ℕ)
wrong_in_all around [] es = None
wrong_in_all around (p ∷ ps) [] = None
wrong_in_all around (p ∷ ps) (e ∷ es) = option_or (wrong_arg around p e) (wrong_in_all around ps es)

-- A call whose function was found, or the refusal of one whose function wasn't. The exceptions of the function's `throws` are examined first, then the number of arguments, then each argument.
abbrev pub bind_known : Option Function → List Function → CallOf → ℕ → Around → Before → Result RCall Refusal
bind_known None fs c line a b = Err (record { line = line; kind = UnknownFunction; name = c.function })
bind_known (Some f) fs c line a b =
    refused_for line UnknownException (unhandled_of_all a.handled f.throws)
    (refused_for line Arity (if_false c.function (nat_eq (length c.args) (length f.params)))
    (refused_for line WrongKind (wrong_in_all (visible a b) f.params c.args)
    (Ok (record { function = function_number fs c.function; args = placed_all (visible a b) c.args; throws = map (exception_number a.handled) f.throws }))))

-- a call: the names in its arguments are examined first, and then its function and the rest
abbrev pub bind_call : Whole → CallOf → ℕ → Around → Before → Result RCall Refusal
bind_call w c line a b =
    refused_for line UnknownName (unknown_in_all (visible a b) c.args)
    (bind_known (function_of w.functions c.function) w.functions c line a b)

-- a call, with `g` of its form as the tree; a call declares nothing
abbrev pub bind_called : {T : Type 0} → (RCall → T) → Whole → CallOf → ℕ → Bind T
bind_called g w c line a b = and_then (bind_call w c line a b) (λ r. Ok (record { tree = g r; before = b }))
