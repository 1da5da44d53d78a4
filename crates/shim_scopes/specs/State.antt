-- The declarations and exceptions that the code's `Scope` has for a place, and which of the code's answers are the ones meant.
use Rattle.std.specs.Prelude.{◌≡◌, ℕ, ◌+◌, ◌≤◌, List, [], ◌∷◌, ◌++◌, Option, Some, None, Result, Ok, Err, take, drop, length}
use Rattle.shim_syntax.specs.declared.tree.Sort.{Sort}
use Rattle.shim_syntax.specs.declared.tree.Function.{Function}
use Rattle.shim_scopes.specs.declared.fault.ScopeKind.{ScopeKind}
use Rattle.shim_scopes.specs.declared.fault.ScopeFault.{ScopeFault}
use Rattle.shim_scopes.specs.declared.fault.ScopeFault.TheVariants.{Refused, NoMemory}
use Rattle.shim_scopes.specs.declared.scope.Scope.{Scope}
use Rattle.shim_scopes.specs.declared.simple.Store.{Store}
use Rattle.shim_scopes.specs.declared.simple.Store.TheVariants as store
use Rattle.shim_scopes.specs.declared.tree.UExpr.{UExpr}
use Rattle.shim_scopes.specs.declared.tree.RWhat.{RWhat}
use Rattle.shim_scopes.specs.declared.tree.RWhat.TheVariants.{Assign, NextAssign}
use Rattle.shim_syntax.specs.Names.{Texts, name_index}
use Rattle.shim_scopes.specs.Refusals.{Refusal}
use Rattle.shim_scopes.specs.Statements.{Whole, Around, Before, Meant, with_declaration, variable_slot, variable_declared}
use Rattle.shim_scopes.specs.Functions.{params_from, function_begin, handled_from}

-- the functions and the names of a program, for all its statements
abbrev pub whole : List Function → Texts → Whole
whole functions names = record { functions = functions; names = names }

-- a count that fits a number of the tree
abbrev pub IsNumber : ℕ → Type 0
IsNumber count = count ≤ 4294967295

-- the counts of a program's functions and of its names fit numbers of the tree
pub record AreNumbers (w : Whole) : Type 0 where
  pub functions : IsNumber (length w.functions)
  pub names : IsNumber (length w.names)

-- the function's exceptions and slots so far, and `more` that are still to come, together fit a number of the tree
unfoldable pub HasRoom : ℕ → Scope → Type 0
HasRoom more s = IsNumber (s.throws + (length s.slots + (length s.tries + more)))

-- What encloses the block that begins at `start`: the declarations before `start`, and the exceptions in force. `before_of` has the other declarations, as the block's own.
abbrev pub around_of : ℕ → Scope → Around
around_of start s = record { outer = take start s.visible; handled = s.handled; throws = s.throws }

abbrev pub before_of : ℕ → Scope → Before
before_of start s = record { own = drop start s.visible; slots = s.slots; slot_names = s.slot_names; tries = s.tries }

-- The answer is the one that is meant: a tree, with `now` before the next place, or a refusal. `NoMemory` may come in place of either.
abbrev pub GivesBound : {T : Type 0} → Result T ScopeFault → Before → Meant T → Type 0
GivesBound (Ok t) now meant = meant ≡ Ok (record { tree = t; before = now })
GivesBound (Err (Refused line kind name)) now meant = meant ≡ Err (record { line = line; kind = kind; name = name })
GivesBound (Err NoMemory) now meant = Unit {0}

-- The declarations around the block, which begins at `start`, are the same in `now` as in `old`. The exceptions in force and the count of the `throws` are the same, too.
pub record Kept (start : ℕ) (old now : Scope) : Type 0 where
  pub outer : take start now.visible ≡ take start old.visible
  pub long : start ≤ length now.visible
  pub handled : now.handled ≡ old.handled
  pub throws : now.throws ≡ old.throws

-- the assignment, or the `next` with one, made of a variable's slot and the expression whose value the variable gets
abbrev pub storing_stmt : Store → ℕ → UExpr → RWhat
storing_stmt store.Assign = Assign
storing_stmt store.NextAssign = NextAssign

-- the results that are already done, before those that are meant; a refusal stays
abbrev pub with_done : {T : Type 0} → List T → Meant (List T) → Meant (List T)
with_done done (Ok r) = Ok (record { tree = done ++ r.tree; before = r.before })
with_done done (Err r) = Err r

-- the results `done` and then those that are meant, or the refusal that is meant
abbrev pub after_some : {T : Type 0} → List T → Result (List T) Refusal → Result (List T) Refusal
after_some done (Ok rs) = Ok (done ++ rs)
after_some done (Err r) = Err r

-- The fault is a refusal of the line, the kind and the name, or it is `NoMemory`.
abbrev pub RefusesWith : ScopeFault → ℕ → ScopeKind → List ℕ → Type 0
RefusesWith (Refused l k n) line kind name = (l ≡ line) × ((k ≡ kind) × (n ≡ name))
RefusesWith NoMemory line kind name = Unit {0}

-- The check of a place passes if no name is refused there. Otherwise it refuses that name with the line and the kind. `NoMemory` claims nothing.
abbrev pub Passes : {T : Type 0} → Result T ScopeFault → ℕ → ScopeKind → Option (List ℕ) → Type 0
Passes (Ok t) line kind name = name ≡ None
Passes (Err (Refused l k n)) line kind name = (name ≡ Some n) × ((l ≡ line) × (k ≡ kind))
Passes (Err NoMemory) line kind name = Unit {0}

-- `made` is the next slot of `old`. `new` is `old` with a declaration of `x` in that slot.
pub record IsDeclaredAs (names : Texts) (x : List ℕ) (sort : Sort) (old : Before) (made : ℕ) (new : Before) : Type 0 where
  pub number : made ≡ length old.slots
  pub after : new ≡ with_declaration names x sort old

-- `made` is the next slot of `old` if the handler has a variable `y`, and else `None`. `new` is `old` with a declaration of the variable, if the handler has one.
pub record IsBegun (names : Texts) (y : Option (List ℕ)) (old : Before) (made : Option ℕ) (new : Before) : Type 0 where
  pub slot : made ≡ variable_slot y old
  pub after : new ≡ variable_declared names y old

-- `made` is the number that follows those of the `throws` and of the earlier `try` statements. In `new` the exception `x` is in force with that number, and its `try` is the last one.
pub record IsTried (names : Texts) (x : List ℕ) (old : Scope) (made : ℕ) (new : Scope) : Type 0 where
  pub number : made ≡ old.throws + length old.tries
  pub after : new ≡ record old {
    handled = old.handled ++ record { name = x; number = old.throws + length old.tries } ∷ [];
    tries = old.tries ++ name_index names x ∷ [];
  }

-- In the scope `s` the body of `f` begins: only its parameters are declared, and only the exceptions of its `throws` are in force.
pub record IsOpened (names : Texts) (f : Function) (s : Scope) : Type 0 where
  pub before : record { own = s.visible; slots = s.slots; slot_names = s.slot_names; tries = s.tries } ≡ params_from names function_begin f.params
  pub handled : s.handled ≡ handled_from [] f.throws
  pub throws : s.throws ≡ length f.throws
