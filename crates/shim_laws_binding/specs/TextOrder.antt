-- What a function declares, and what its `try` statements name, in the order of the text.
use Rattle.std.specs.Prelude.{ℕ, ◌≡◌, List, [], ◌∷◌, ◌++◌, map, Option, Some, None}
use Rattle.shim_base.specs.declared.types.Ty.TheVariants.{Int32}
use Rattle.shim_syntax.specs.declared.tree.Sort.{Sort}
use Rattle.shim_syntax.specs.declared.tree.Sort.TheVariants.{Value}
use Rattle.shim_syntax.specs.declared.tree.Param.{Param}
use Rattle.shim_syntax.specs.declared.tree.Function.{Function}
use Rattle.shim_syntax.specs.declared.tree.Stmt.{Stmt, fold-Stmt}
use Rattle.shim_syntax.specs.declared.tree.What.{What-F}
use Rattle.shim_syntax.specs.declared.tree.BranchWhat.{BranchWhat-F}
use Rattle.shim_scopes.specs.declared.tree.RFunction.{RFunction}
use Rattle.shim_syntax.specs.Names.{Texts, name_index}

-- a name that is declared, and what it holds
pub record Declaration : Type 0 where
  pub name : List ℕ
  pub sort : Sort

abbrev pub Declarations : Type 0
Declarations = List Declaration

-- the lists one after another
abbrev pub concat : {T : Type 0} → List (List T) → List T
concat [] = []
concat (t ∷ ts) = t ++ concat ts

-- the variable of a handler, where it has one
abbrev pub declared_variable : Option (List ℕ) → Declarations
declared_variable None = []
declared_variable (Some x) = record { name = x; sort = Value Int32 } ∷ []

-- the declarations inside a branch, given those of the statements in it
abbrev pub branch_declares : BranchWhat-F Declarations Declarations Declarations Declarations → Declarations
branch_declares (BranchWhat-F.BranchWhat::Block body) = concat body
branch_declares (BranchWhat-F.BranchWhat::Call c) = []

-- the declarations of a statement and of those inside it, given those of its parts
abbrev pub what_declares : What-F Declarations Declarations Declarations Declarations → Declarations
what_declares (What-F.Declare ty x e) = record { name = x; sort = Value ty } ∷ []
what_declares (What-F.If e first other) = concat first ++ concat other
what_declares (What-F.While e body) = concat body
what_declares (What-F.For first test step body) = concat first ++ (concat step ++ concat body)
what_declares (What-F.What::Block body) = concat body
what_declares (What-F.Try body x y handler) = concat body ++ (declared_variable y ++ concat handler)
what_declares (What-F.Par branches) = concat branches
what_declares _ = []

-- the declarations of a statement of a program and of those inside it
abbrev pub stmt_declares : Stmt → Declarations
stmt_declares = fold-Stmt Declarations Declarations Declarations Declarations branch_declares what_declares (λ b. b.what) (λ s. s.what)

-- the declarations of some statements and of those inside them
abbrev pub declarations_in : List Stmt → Declarations
declarations_in body = concat (map stmt_declares body)

-- the names of the `try` statements inside a branch, given those of the statements in it
abbrev pub branch_tries : BranchWhat-F Texts Texts Texts Texts → Texts
branch_tries (BranchWhat-F.BranchWhat::Block body) = concat body
branch_tries (BranchWhat-F.BranchWhat::Call c) = []

-- The names of the `try` statements that a statement is or has inside it, given those of its parts. A `try` comes before those inside it.
abbrev pub what_tries : What-F Texts Texts Texts Texts → Texts
what_tries (What-F.If e first other) = concat first ++ concat other
what_tries (What-F.While e body) = concat body
what_tries (What-F.For first test step body) = concat first ++ (concat step ++ concat body)
what_tries (What-F.What::Block body) = concat body
what_tries (What-F.Try body x y handler) = x ∷ (concat body ++ concat handler)
what_tries (What-F.Par branches) = concat branches
what_tries _ = []

-- the names of the `try` statements that a statement is or has inside it
abbrev pub stmt_tries : Stmt → Texts
stmt_tries = fold-Stmt Texts Texts Texts Texts branch_tries what_tries (λ b. b.what) (λ s. s.what)

-- the names of the `try` statements among some statements and inside them
abbrev pub tries_among : List Stmt → Texts
tries_among body = concat (map stmt_tries body)

abbrev pub declared_param : Param → Declaration
declared_param p = record { name = p.name; sort = p.sort }

-- the declarations of a function: its parameters, and then those of its body
abbrev pub all_declarations : Function → Declarations
all_declarations f = map declared_param f.params ++ declarations_in f.body

abbrev pub sorts_of : Declarations → List Sort
sorts_of ds = map (λ (d : Declaration). d.sort) ds

-- the number of each declared name among `names`
abbrev pub numbers_of_declared : Texts → Declarations → List ℕ
numbers_of_declared names ds = map (λ (d : Declaration). name_index names d.name) ds

-- The form `r` has the line, the name and the parameters of the function `f`. Its slots are the declarations of `f`, and its exceptions those of the `throws` and then of the `try` statements, in the order of the text.
pub record IsInTextOrder (names : Texts) (f : Function) (r : RFunction) : Type 0 where
  pub line : r.line ≡ f.line
  pub name : r.name ≡ name_index names f.name
  pub slots : r.slots ≡ sorts_of (all_declarations f)
  pub slot_names : r.slot_names ≡ numbers_of_declared names (all_declarations f)
  pub throws : r.throws ≡ map (name_index names) f.throws
  pub tries : r.tries ≡ map (name_index names) (tries_among f.body)
  pub params : r.params ≡ map (λ (p : Param). record { sort = p.sort; by_ref = p.by_ref; name = name_index names p.name }) f.params

-- There are as many forms as functions. Each form is in text order for the function at its place.
abbrev pub AreInTextOrder : Texts → List Function → List RFunction → Type 0
AreInTextOrder names [] [] = Unit {0}
AreInTextOrder names [] (r ∷ rs) = ⊥
AreInTextOrder names (f ∷ fs) [] = ⊥
AreInTextOrder names (f ∷ fs) (r ∷ rs) = IsInTextOrder names f r × AreInTextOrder names fs rs
