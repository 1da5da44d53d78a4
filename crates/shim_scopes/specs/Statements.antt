-- What each kind of statement is bound to, by what stands around it and before it, and the first of its places that is refused.
use Rattle.std.specs.Prelude.{ℕ, ◌+◌, List, [], ◌∷◌, ◌++◌, Option, Some, None, Result, Ok, length}
use Rattle.std.specs.List.{find}
use Rattle.std.specs.Option.{option_or}
use Rattle.std.specs.Str.{bytes_eq}
use Rattle.shim_base.specs.declared.types.Ty.{Ty}
use Rattle.shim_base.specs.declared.types.Ty.TheVariants.{Int32}
use Rattle.shim_syntax.specs.declared.tree.Sort.{Sort}
use Rattle.shim_syntax.specs.declared.tree.Sort.TheVariants.{Value}
use Rattle.shim_syntax.specs.declared.tree.Expr.{Expr}
use Rattle.shim_syntax.specs.declared.tree.Function.{Function}
use Rattle.shim_scopes.specs.declared.tree.UExpr.{UExpr}
use Rattle.shim_scopes.specs.declared.tree.RStmt.{RStmt}
use Rattle.shim_scopes.specs.declared.tree.RWhat.{RWhat}
use Rattle.shim_scopes.specs.declared.tree.RWhat.TheVariants.{Declare, Assign, Next, NextAssign, AssignNext, Get, Put, If, While, For, Try, Throw}
use Rattle.shim_scopes.specs.declared.fault.ScopeKind.TheVariants.{UnknownName, UnknownException, Twice, WrongKind}
use Rattle.shim_scopes.specs.declared.scope.LocalDeclaration.{LocalDeclaration}
use Rattle.shim_scopes.specs.declared.scope.Handled.{Handled}
use Rattle.shim_syntax.specs.Names.{Texts, name_index}
use Rattle.shim_scopes.specs.Refusals.{Refusal, and_then, refused_for}
use Rattle.shim_scopes.specs.Binding.{unknown, unknown_in, no_number, no_input, no_output, stream_in, slot_of, placed, unknown_in_option, stream_in_option, placed_option, exception_number, unhandled}

-- what is the same for all statements of a program: its functions, and its names in the order of their numbers
pub record Whole : Type 0 where
  pub functions : List Function
  pub names : Texts

-- What encloses a block: the declarations of the blocks around it, in textual order, and the exceptions in force. The first of these are the function's `throws`, and `throws` is their count.
pub record Around : Type 0 where
  pub outer : List LocalDeclaration
  pub handled : List Handled
  pub throws : ℕ

-- What stands before a place: the declarations of its own block, and the sort of each slot of the function so far. The names of these slots and of the exceptions of the function's `try` statements are numbers.
pub record Before : Type 0 where
  pub own : List LocalDeclaration
  pub slots : List Sort
  pub slot_names : List ℕ
  pub tries : List ℕ

-- a tree and what then stands before the next place
pub record BoundTo (T : Type 0) : Type 0 where
  pub tree : T
  pub before : Before

-- what a place is bound to: a tree, and what is before the next place, or the place that is refused
abbrev pub Meant : Type 0 → Type 0
Meant T = Result (BoundTo T) Refusal

-- what a place is bound to, by what encloses its block and by what is before it
abbrev pub Bind : Type 0 → Type 0
Bind T = Around → Before → Meant T

-- all declarations that enclose a place
abbrev pub visible : Around → Before → List LocalDeclaration
visible a b = a.outer ++ b.own

-- the name `x`, where a declaration was found
abbrev pub if_found : List ℕ → Option LocalDeclaration → Option (List ℕ)
if_found x None = None
if_found x (Some l) = Some x

-- the name, where the block already has a declaration of it
abbrev pub declared_in : List LocalDeclaration → List ℕ → Option (List ℕ)
declared_in own x = if_found x (find (λ (l : LocalDeclaration). bytes_eq l.name x) own)

-- a declaration that has the next slot
abbrev pub local_of : List ℕ → Sort → ℕ → LocalDeclaration
local_of x sort slot = record { name = x; bound = record { slot = slot; sort = sort } }

-- The block has one more declaration, of `x`, with the next slot. The function has one more slot, with the sort and with the number of the name.
abbrev pub with_declaration : Texts → List ℕ → Sort → Before → Before
with_declaration names x sort b = record {
  own = b.own ++ local_of x sort (length b.slots) ∷ [];
  slots = b.slots ++ sort ∷ [];
  slot_names = b.slot_names ++ name_index names x ∷ [];
  tries = b.tries;
}

-- simple statements

-- A declaration of `x` whose initial expression, if any, is bound without it. A block may not declare one name twice.
abbrev pub bind_declare : Whole → Ty → List ℕ → Option Expr → ℕ → Bind RWhat
bind_declare w ty x e line a b =
    refused_for line UnknownName (unknown_in_option (visible a b) e)
    (refused_for line Twice (declared_in b.own x)
    (refused_for line WrongKind (stream_in_option (visible a b) e)
    (Ok (record { tree = Declare ty (length b.slots) (placed_option (visible a b) e); before = with_declaration w.names x (Value ty) b }))))

-- `x` if no declaration of it is around, and else the leftmost name of `e` without a declaration around
abbrev pub unknown_in_both : List LocalDeclaration → List ℕ → Expr → Option (List ℕ)
unknown_in_both around x e = option_or (unknown around x) (unknown_in around e)

-- the first of `x` and `y` that has no declaration around it
abbrev pub unknown_of_two : List LocalDeclaration → List ℕ → List ℕ → Option (List ℕ)
unknown_of_two around x y = option_or (unknown around x) (unknown around y)

-- a statement that gives the variable `x` the value of `e`; `g` makes it of the slot and the expression
abbrev pub bind_store : (ℕ → UExpr → RWhat) → List ℕ → Expr → ℕ → Bind RWhat
bind_store g x e line a b =
    refused_for line UnknownName (unknown_in_both (visible a b) x e)
    (refused_for line WrongKind (option_or (no_number (visible a b) x) (stream_in (visible a b) e))
    (Ok (record { tree = g (slot_of (visible a b) x) (placed (visible a b) e); before = b })))

abbrev pub bind_assign : List ℕ → Expr → ℕ → Bind RWhat
bind_assign = bind_store Assign

abbrev pub bind_next_assign : List ℕ → Expr → ℕ → Bind RWhat
bind_next_assign = bind_store NextAssign

-- a `next` of the variable `x`, which may not be a stream
abbrev pub bind_next : List ℕ → ℕ → Bind RWhat
bind_next x line a b =
    refused_for line UnknownName (unknown (visible a b) x)
    (refused_for line WrongKind (no_number (visible a b) x)
    (Ok (record { tree = Next (slot_of (visible a b) x); before = b })))

-- the statement `x = next y`, where neither name may be a stream
abbrev pub bind_assign_next : List ℕ → List ℕ → ℕ → Bind RWhat
bind_assign_next x y line a b =
    refused_for line UnknownName (unknown_of_two (visible a b) x y)
    (refused_for line WrongKind (option_or (no_number (visible a b) x) (no_number (visible a b) y))
    (Ok (record { tree = AssignNext (slot_of (visible a b) x) (slot_of (visible a b) y); before = b })))

-- a `get` into the variable `x` from the input stream `y`
abbrev pub bind_get : List ℕ → List ℕ → ℕ → Bind RWhat
bind_get x y line a b =
    refused_for line UnknownName (unknown_of_two (visible a b) x y)
    (refused_for line WrongKind (option_or (no_number (visible a b) x) (no_input (visible a b) y))
    (Ok (record { tree = Get (slot_of (visible a b) x) (slot_of (visible a b) y); before = b })))

-- a `put` of the value of `e` to the output stream `x`
abbrev pub bind_put : List ℕ → Expr → ℕ → Bind RWhat
bind_put x e line a b =
    refused_for line UnknownName (unknown_in_both (visible a b) x e)
    (refused_for line WrongKind (option_or (no_output (visible a b) x) (stream_in (visible a b) e))
    (Ok (record { tree = Put (slot_of (visible a b) x) (placed (visible a b) e); before = b })))

-- a `throw` of the exception `x`, with the value of `e` if there is one
abbrev pub bind_throw : List ℕ → Option Expr → ℕ → Bind RWhat
bind_throw x e line a b =
    refused_for line UnknownName (unknown_in_option (visible a b) e)
    (refused_for line UnknownException (unhandled a.handled x)
    (refused_for line WrongKind (stream_in_option (visible a b) e)
    (Ok (record { tree = Throw (exception_number a.handled x) (placed_option (visible a b) e); before = b }))))

-- blocks

-- what encloses a block that stands here
abbrev pub inside_block : Around → Before → Around
inside_block a b = record a { outer = visible a b }

-- what is before the first place of a block: the slots and `try` statements before the block, and no declaration of its own
abbrev pub opened : Before → Before
opened b = record b { own = [] }

-- What stands before a place that follows a block. The own declarations are those of `b`, from before the block. The slots and `try` statements are those of `inner`, from its end.
abbrev pub after_block : Before → Before → Before
after_block b inner = record inner { own = b.own }

-- What `f` binds in a block of its own. After the block the declarations are those from before it.
abbrev pub bind_block : {T : Type 0} → Bind T → Bind T
bind_block f a b = and_then (f (inside_block a b) (opened b)) (λ r. Ok (record { tree = r.tree; before = after_block b r.before }))

-- what `f` binds, with `g` of its tree in place of the tree
abbrev pub on_tree : {S T : Type 0} → (S → T) → Bind S → Bind T
on_tree g f a b = and_then (f a b) (λ r. Ok (record { tree = g r.tree; before = r.before }))

-- what `f` binds and then what `h` binds, with `g` of both trees as the tree
abbrev pub bind_two : {R S T : Type 0} → (R → S → T) → Bind R → Bind S → Bind T
bind_two g f h a b = and_then (f a b) (λ r. and_then (h a r.before) (λ s. Ok (record { tree = g r.tree s.tree; before = s.before })))

-- compound statements

-- a test with its variables by their slots, or the refusal of a name in it that is unknown or a stream
abbrev pub bind_test : Expr → ℕ → Around → Before → Result UExpr Refusal
bind_test e line a b =
    refused_for line UnknownName (unknown_in (visible a b) e)
    (refused_for line WrongKind (stream_in (visible a b) e)
    (Ok (placed (visible a b) e)))

-- an `if` of the test `e`: the test first, and then each of its parts in a block of its own
abbrev pub bind_if : Expr → Bind (List RStmt) → Bind (List RStmt) → ℕ → Bind RWhat
bind_if e first other line a b =
    and_then (bind_test e line a b) (λ test. bind_two (If test) (bind_block first) (bind_block other) a b)

-- a `while` of the test `e`: the test first, and then the body in a block of its own
abbrev pub bind_while : Expr → Bind (List RStmt) → ℕ → Bind RWhat
bind_while e body line a b =
    and_then (bind_test e line a b) (λ test. on_tree (While test) (bind_block body) a b)

-- `a` with the exception `x` of a `try` in force as the innermost. The exception's number follows those of the `throws` and of the `try` statements before.
abbrev pub with_handled : List ℕ → Around → Before → Around
with_handled x a b = record a { handled = a.handled ++ record { name = x; number = a.throws + length b.tries } ∷ [] }

-- The function has one more `try`, with the number of the name of the exception `x`.
abbrev pub tried : Whole → List ℕ → Before → Before
tried w x b = record b { tries = b.tries ++ name_index w.names x ∷ [] }

-- `b` with a declaration of the handler's variable as an `int32`, if the handler has one
abbrev pub variable_declared : Texts → Option (List ℕ) → Before → Before
variable_declared names None b = b
variable_declared names (Some y) b = with_declaration names y (Value Int32) b

-- a handler after the declaration of its variable `y`, if it has one
abbrev pub bind_handler : Whole → Option (List ℕ) → Bind (List RStmt) → Bind (List RStmt)
bind_handler w y handler a b = handler a (variable_declared w.names y b)

-- the next slot, for the variable of a handler, if the handler has one
abbrev pub variable_slot : Option (List ℕ) → Before → Option ℕ
variable_slot None b = None
variable_slot (Some y) b = Some (length b.slots)

-- A `try`: first its body, in a block where its exception `x` is in force, too. Then its handler, in a block where only the exceptions from around the `try` are in force.
abbrev pub bind_try : Whole → List ℕ → Option (List ℕ) → Bind (List RStmt) → Bind (List RStmt) → Bind RWhat
bind_try w x y body handler a b =
    and_then (bind_block body (with_handled x a b) (tried w x b)) (λ r.
    and_then (bind_block (bind_handler w y handler) a r.before) (λ s.
    Ok (record { tree = Try r.tree (a.throws + length b.tries) (variable_slot y r.before) s.tree; before = s.before })))

-- The parts of a `for` whose test was examined: the first statement, the step, and the body in a block inside. The test's variables get the slots that they have after the first statement.
abbrev pub bind_parts : Option Expr → Bind (List RStmt) → Bind (List RStmt) → Bind (List RStmt) → Bind RWhat
bind_parts test first step body a b =
    and_then (first a b) (λ r.
    and_then (step a r.before) (λ s.
    and_then (bind_block body a s.before) (λ t.
    Ok (record { tree = For r.tree (placed_option (visible a r.before) test) s.tree t.tree; before = t.before }))))

-- The test of a `for` is examined with the declarations around the `for` and those of its first statement. `declares` gives the latter for the next slot.
abbrev pub bind_first_test : (ℕ → List LocalDeclaration) → Option Expr → ℕ → Around → Before → Result (Unit {0}) Refusal
bind_first_test declares test line a b =
    refused_for line UnknownName (unknown_in_option (visible a b ++ declares (length b.slots)) test)
    (refused_for line WrongKind (stream_in_option (visible a b ++ declares (length b.slots)) test)
    (Ok tt))

-- a `for`: its test is examined first, and then its parts are bound in a block of their own
abbrev pub bind_for : (ℕ → List LocalDeclaration) → Option Expr → Bind (List RStmt) → Bind (List RStmt) → Bind (List RStmt) → ℕ → Bind RWhat
bind_for declares test first step body line a b =
    and_then (bind_first_test declares test line a b) (λ t. bind_block (bind_parts test first step body) a b)
