-- Block branches lifted out of a function, each as a unit of its own.
use Rattle.std.specs.Prelude.{ℕ, ◌+◌, ◌-◌, List, [], ◌∷◌, ◌++◌, Option, Some, None, Bool, false, ◌||◌, length, map, filter, nat_eq, slice_get, codes, decimal}
use Rattle.shim_base.specs.declared.types.Ty.TheVariants as ty
use Rattle.shim_syntax.specs.declared.tree.Sort.{Sort}
use Rattle.shim_syntax.specs.declared.tree.Sort.TheVariants.{Value}
use Rattle.shim_scopes.specs.declared.tree.UParam.{UParam}
use Rattle.shim_scopes.specs.declared.tree.RFunction.{RFunction}
use Rattle.shim_scopes.specs.declared.tree.RWhat.{RWhat-F}
use Rattle.shim_scopes.specs.declared.tree.RBranchWhat.{RBranchWhat-F}
use Rattle.shim_units.specs.declared.unit.Arg.{Arg}
use Rattle.shim_units.specs.declared.unit.UCall.{UCall}
use Rattle.shim_units.specs.declared.unit.UStmt.{UStmt}
use Rattle.shim_units.specs.declared.unit.UWhat.{UWhat}
use Rattle.shim_units.specs.declared.unit.UWhat.TheVariants.{Declare, Assign, Next, NextAssign, AssignNext, Get, Put, If, While, For, Block, Call, Try, Throw, Par}
use Rattle.shim_units.specs.declared.unit.UBranch.{UBranch}
use Rattle.shim_units.specs.declared.unit.Unit.{Unit as UnitOf}
use Rattle.shim_units.specs.declared.slot_map.SlotMap.{SlotMap}
use Rattle.shim_units.specs.Parts.{LiftContext, Lifted, Lifts, Part, all_uses, all_raises, all_declares, all_tries}
use Rattle.shim_units.specs.Captures.{Captures, captures, is_reference, is_taken}
use Rattle.shim_units.specs.Moving.{slot_index_of, slot_index_of_option, slot_indices_of, renumbered, moved_option, by_mode, moved_call}

-- what a function says of its slots and `try` statements, by their numbers

-- the sort, and that of a `bool` where there is none
abbrev pub sort_or_bool : Option Sort → Sort
sort_or_bool None = Value ty.Bool
sort_or_bool (Some sort) = sort

-- the sort of slot x of the function, and that of a `bool` where the function has no slot x
abbrev pub sort_of : RFunction → ℕ → Sort
sort_of f x = sort_or_bool (slice_get f.slots x)

abbrev pub number_or_zero : Option ℕ → ℕ
number_or_zero None = 0
number_or_zero (Some n) = n

-- the number of the name of slot x of the function, and 0 where the function has no name for it
abbrev pub name_of : RFunction → ℕ → ℕ
name_of f x = number_or_zero (slice_get f.slot_names x)

-- The number of the name that the `try` statement of exception x catches, and 0 where the function has no name for it. Exceptions of `try` statements are numbered after those of the `throws`, and x has to be one of a `try` statement.
abbrev pub try_name : RFunction → ℕ → ℕ
try_name f x = number_or_zero (slice_get f.tries (x - length f.throws))

-- one after another

abbrev before_rest : {T : Type 0} → Lifted T → Lifted (List T) → Lifted (List T)
before_rest r q = record { tree = r.tree ∷ q.tree; units = r.units ++ q.units }

-- The parts are lifted in order. Each is given the number of the next unit, after the units that are lifted out of the parts before it.
abbrev pub lift_all : {T : Type 0} → List (Part T) → Lifts (List T)
lift_all [] context w n = record { tree = []; units = [] }
lift_all (p ∷ ps) context w n = before_rest (p.lift context w n) (lift_all ps context w (n + length (p.lift context w n).units))

-- a part that nothing is lifted out of
abbrev pub unlifted : {T : Type 0} → T → Lifted T
unlifted t = record { tree = t; units = [] }

-- a lifted part with its tree changed by g, and with the same units
abbrev pub on_tree : {S T : Type 0} → (S → T) → Lifted S → Lifted T
on_tree g r = record { tree = g r.tree; units = r.units }

-- Two parts are lifted in order, and g makes one tree of their trees. The units of the second part are numbered after those of the first.
abbrev pub lift_two : {R S T : Type 0} → (R → S → T) → Lifts R → Lifts S → Lifts T
lift_two g f h context w n =
    let r = f context w n in
    let q = h context w (n + length r.units) in
    record { tree = g r.tree q.tree; units = r.units ++ q.units }

-- the same of three parts
abbrev pub lift_three : {Q R S T : Type 0} → (Q → R → S → T) → Lifts Q → Lifts R → Lifts S → Lifts T
lift_three g e f h context w n =
    let p = e context w n in
    let r = f context w (n + length p.units) in
    let q = h context w (n + length p.units + length r.units) in
    record { tree = g p.tree r.tree q.tree; units = p.units ++ (r.units ++ q.units) }

-- block branches

-- the slots, among those of the unit around it, that a branch takes, in that unit's order
abbrev pub taken : Captures → List ℕ → List ℕ
taken t slots = filter (λ x. is_taken (t x)) slots

abbrev pub is_among : List ℕ → ℕ → Bool
is_among [] x = false
is_among (y ∷ ys) x = nat_eq y x || is_among ys x

-- the exceptions, among those of the unit around it, that a branch throws or passes on, in that unit's order
abbrev pub given_exceptions : List ℕ → List ℕ → List ℕ
given_exceptions raises exceptions = filter (is_among raises) exceptions

-- the parameter by which a branch's unit takes slot x of the function, by reference where the captures t have it by reference
abbrev pub branch_param : RFunction → Captures → ℕ → UParam
branch_param f t x = record { sort = sort_of f x; by_ref = is_reference (t x); name = name_of f x }

-- The argument that gives a branch's unit slot x of the function. The slots are those of the unit around the branch.
abbrev pub branch_arg : List ℕ → Captures → ℕ → Arg
branch_arg slots t x = by_mode (is_reference (t x)) (slot_index_of slots x)

-- the name of the unit of number n that is lifted out of a function: the function's name, a dot, and how many units are lifted out of the function before it
abbrev pub branch_title : LiftContext → ℕ → List ℕ
branch_title context n = context.name ++ (codes "." ++ decimal (n - context.first))

-- the slot map of a branch's unit: the variables and exceptions that the branch takes, and then its own
abbrev pub branch_slot_map : List ℕ → List ℕ → List ℕ → List ℕ → SlotMap
branch_slot_map slots declares exceptions tries = record { slots = slots ++ declares; exceptions = exceptions ++ tries }

-- a function's text or a branch as a unit, with the parameters and the count of exceptions that it is given
abbrev pub made_unit : LiftContext → List ℕ → List UParam → ℕ → SlotMap → List ℕ → List UStmt → UnitOf
made_unit context title params throws w tries body = record {
  title = title;
  function = context.number;
  params = params;
  slots = map (sort_of context.function) w.slots;
  slot_names = map (name_of context.function) w.slots;
  throws = throws;
  tries = map (try_name context.function) tries;
  body = body;
}

-- the call of the unit of number n that a branch becomes; t has how the branch takes each variable
abbrev pub branch_call : SlotMap → ℕ → Captures → List ℕ → List ℕ → UCall
branch_call w n t slots exceptions = record {
  unit = n;
  args = map (branch_arg w.slots t) slots;
  throws = slot_indices_of w.exceptions exceptions;
}

-- the unit of number n that a branch becomes, with these statements
abbrev pub branch_unit : LiftContext → ℕ → Captures → List ℕ → List ℕ → SlotMap → List ℕ → List UStmt → UnitOf
branch_unit context n t slots exceptions inner tries body =
    made_unit context (branch_title context n) (map (branch_param context.function t) slots) (length exceptions) inner tries body

-- how a branch takes each variable, from the uses in its whole text, which includes the block branches inside it
abbrev pub branch_captures : LiftContext → List (Part UStmt) → Captures
branch_captures context body = captures context.function.slots (all_uses context.functions body)

-- the variables that a block branch takes of the unit around it, by the function's numbers
abbrev pub branch_slots : LiftContext → List (Part UStmt) → SlotMap → List ℕ
branch_slots context body w = taken (branch_captures context body) w.slots

-- the exceptions of the unit around it that a block branch throws or passes on, by the function's numbers
abbrev pub branch_exceptions : List (Part UStmt) → SlotMap → List ℕ
branch_exceptions body w = given_exceptions (all_raises body) w.exceptions

-- a block branch's variables and exceptions, by the function's numbers: those that it takes of the unit around it, and then its own
abbrev pub branch_inner : LiftContext → List (Part UStmt) → SlotMap → SlotMap
branch_inner context body w = branch_slot_map (branch_slots context body w) (all_declares body) (branch_exceptions body w) (all_tries body)

-- A block branch becomes a call of its own unit. This unit comes before the units that are lifted out of the branch.
abbrev pub lift_branch : List (Part UStmt) → Lifts UCall
lift_branch body context w n =
    let r = lift_all body context (branch_inner context body w) (n + 1) in
    record {
      tree = branch_call w n (branch_captures context body) (branch_slots context body w) (branch_exceptions body w);
      units = branch_unit context n (branch_captures context body) (branch_slots context body w) (branch_exceptions body w) (branch_inner context body w) (all_tries body) r.tree ∷ r.units;
    }

-- the kinds of statements and branches

-- A block branch becomes the call of a unit of its own. A call keeps its function, and its arguments and exceptions get the numbers of the unit around it.
abbrev pub lift_branch_what : {T V : Type 0} → RBranchWhat-F (ℕ → Part V) (ℕ → Part T) (Part UBranch) (Part UStmt) → Lifts UCall
lift_branch_what (RBranchWhat-F.RBranchWhat::Block body) context w n = lift_branch body context w n
lift_branch_what (RBranchWhat-F.RBranchWhat::Call c) context w n = unlifted (moved_call context.functions c w)

-- what a statement does, with its unit's numbers of variables and exceptions, and the units that are lifted out of it
abbrev pub lift_what : {T V : Type 0} → RWhat-F (ℕ → Part V) (ℕ → Part T) (Part UBranch) (Part UStmt) → Lifts UWhat
lift_what (RWhat-F.Declare ty x e) context w n = unlifted (Declare ty (slot_index_of w.slots x) (moved_option w.slots e))
lift_what (RWhat-F.Assign x e) context w n = unlifted (Assign (slot_index_of w.slots x) (renumbered w.slots e))
lift_what (RWhat-F.Next x) context w n = unlifted (Next (slot_index_of w.slots x))
lift_what (RWhat-F.NextAssign x e) context w n = unlifted (NextAssign (slot_index_of w.slots x) (renumbered w.slots e))
lift_what (RWhat-F.AssignNext x y) context w n = unlifted (AssignNext (slot_index_of w.slots x) (slot_index_of w.slots y))
lift_what (RWhat-F.Get x y) context w n = unlifted (Get (slot_index_of w.slots x) (slot_index_of w.slots y))
lift_what (RWhat-F.Put x e) context w n = unlifted (Put (slot_index_of w.slots x) (renumbered w.slots e))
lift_what (RWhat-F.If e first other) context w n = lift_two (If (renumbered w.slots e)) (lift_all first) (lift_all other) context w n
lift_what (RWhat-F.While e body) context w n = on_tree (While (renumbered w.slots e)) (lift_all body context w n)
lift_what (RWhat-F.For first test step body) context w n =
    lift_three (λ a b c. For a (moved_option w.slots test) b c) (lift_all first) (lift_all step) (lift_all body) context w n
lift_what (RWhat-F.RWhat::Block body) context w n = on_tree Block (lift_all body context w n)
lift_what (RWhat-F.RWhat::Call c) context w n = unlifted (Call (moved_call context.functions c w))
lift_what (RWhat-F.Try body x y handler) context w n =
    lift_two (λ a b. Try a (slot_index_of w.exceptions x) (slot_index_of_option w.slots y) b) (lift_all body) (lift_all handler) context w n
lift_what (RWhat-F.Throw x e) context w n = unlifted (Throw (slot_index_of w.exceptions x) (moved_option w.slots e))
lift_what (RWhat-F.Par branches) context w n = on_tree Par (lift_all branches context w n)
