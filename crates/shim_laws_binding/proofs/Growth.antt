-- What is read adds its declarations and its `try` statements to those before, in the order of the text.
use Rattle.std.proofs.Common.{ℕ, ◌+◌, ◌≡◌, ◌∙◌, List, [], ◌∷◌, ◌++◌, Option, Some, None, Ok, length, map, refl, sym, ap, subst, append_assoc}
use Rattle.std.specs.Option.{option_or}
use Rattle.std.proofs.lemmas.List.{append-nil, map-append}
use Rattle.shim_base.specs.declared.types.Ty.{Ty}
use Rattle.shim_base.specs.declared.types.Ty.TheVariants.{Int32}
use Rattle.shim_syntax.specs.declared.tree.Sort.TheVariants.{Value}
use Rattle.shim_syntax.specs.declared.tree.Expr.{Expr}
use Rattle.shim_syntax.specs.declared.tree.Call.{Call}
use Rattle.shim_syntax.specs.declared.tree.Stmt.{Stmt, Stmt-F, fold-roll-Stmt, ind-Stmt, map-Stmt, roll-Stmt}
use Rattle.shim_syntax.specs.declared.tree.What.{What, What-F, fold-What, fold-roll-What, map-What, roll-What}
use Rattle.shim_syntax.specs.declared.tree.Branch.{Branch, Branch-F, fold-Branch, fold-roll-Branch, ind-Branch, map-Branch, roll-Branch}
use Rattle.shim_syntax.specs.declared.tree.BranchWhat.{BranchWhat, BranchWhat-F, fold-BranchWhat, fold-roll-BranchWhat, map-BranchWhat, roll-BranchWhat}
use Rattle.shim_scopes.specs.declared.fault.ScopeKind.{ScopeKind}
use Rattle.shim_scopes.specs.declared.fault.ScopeKind.TheVariants.{UnknownName, UnknownException, Twice, WrongKind}
use Rattle.shim_scopes.specs.declared.scope.LocalDeclaration.{LocalDeclaration}
use Rattle.shim_scopes.specs.declared.tree.RStmt.{RStmt}
use Rattle.shim_scopes.specs.declared.tree.RCall.{RCall}
use Rattle.shim_scopes.specs.declared.tree.RWhat.{RWhat}
use Rattle.shim_scopes.specs.declared.tree.RWhat.TheVariants.{Declare, Assign, Next, NextAssign, AssignNext, Get, Put, If, While, For, Try, Throw}
use Rattle.shim_scopes.specs.declared.tree.UExpr.{UExpr}
use Rattle.shim_scopes.specs.Binding.{unknown, unknown_in_option, stream_in, stream_in_option, no_number, no_input, no_output, slot_of, placed, placed_option, exception_number, unhandled}
use Rattle.shim_syntax.specs.Names.{Texts, name_index}
use Rattle.shim_scopes.specs.Refusals.{refused_for}
use Rattle.shim_scopes.specs.Statements.{Whole, Around, Before, BoundTo, Bind, with_declaration, local_of, inside_block, opened, after_block, with_handled, tried, variable_declared, variable_slot, bind_handler, bind_declare, bind_store, bind_next, bind_assign_next, bind_get, bind_put, bind_throw, bind_block, on_tree, bind_two, bind_test, bind_if, bind_while, bind_try, bind_parts, bind_first_test, bind_for, visible, declared_in, unknown_in_both, unknown_of_two}
use Rattle.shim_scopes.specs.Calls.{bind_call, bind_called}
use Rattle.shim_scopes.specs.Bodies.{WhatMeans, StmtMeans, BranchMeans, BranchWhatMeans, no_locals, bind_all, bind_fork, first_declares, bind_branch_what_step, bind_what_step, bind_branch_step, bind_stmt_step, stmt_meaning, bind_stmts, bind_branch}
use Rattle.shim_laws_binding.specs.TextOrder.{Declaration, Declarations, declared_variable, concat, branch_declares, what_declares, stmt_declares, declarations_in, branch_tries, what_tries, stmt_tries, tries_among, sorts_of, numbers_of_declared}
use Rattle.shim_laws_binding.proofs.Bound.{its_before}
use Rattle.shim_scopes.proofs.Refusals.{passed, first_ok, bound}

-- The declarations ls, and maybe more, stand after those of the block.
pub record IsAfter (ls : List LocalDeclaration) (old new : List LocalDeclaration) : Type 0 where
  pub more : List LocalDeclaration
  pub whole : new ≡ old ++ (ls ++ more)

-- ds are the declarations and ts the `try` statements between two places; ls are declarations of the block that are sure to stand there
pub record IsGrown (names : Texts) (ls : List LocalDeclaration) (ds : Declarations) (ts : Texts) (old new : Before) : Type 0 where
  pub own : IsAfter ls old.own new.own
  pub slots : new.slots ≡ old.slots ++ sorts_of ds
  pub slot_names : new.slot_names ≡ old.slot_names ++ numbers_of_declared names ds
  pub tries : new.tries ≡ old.tries ++ map (name_index names) ts

abbrev pub Grows : {T : Type 0} → Texts → (ℕ → List LocalDeclaration) → Declarations → Texts → Bind T → Type 0
Grows {T = T} names ls ds ts f = (a : Around) (b : Before) (r : BoundTo T) → f a b ≡ Ok r → IsGrown names (ls (length b.slots)) ds ts b r.before

-- two lists of what was added, one after the other
added : {X Y : Type 0} (f : X → Y) (a b c : List Y) (xs ys : List X) → b ≡ a ++ map f xs → c ≡ b ++ map f ys → c ≡ a ++ map f (xs ++ ys)
added f a b c xs ys p q =
    q ∙ ap (λ l. l ++ map f ys) p ∙ append_assoc a (map f xs) (map f ys) ∙ ap (λ l. a ++ l) (sym (map-append f xs ys))

pub as_was : {X : Type 0} (a : List X) → a ≡ a ++ []
as_was a = sym (append-nil a)

-- whatever stands there is more
behind_all : (ls a b c : List LocalDeclaration) (more : List LocalDeclaration) → IsAfter ls a b → c ≡ b ++ more → IsAfter ls a c
behind_all ls a b c more k p = record {
  more = k.more ++ more;
  whole = p ∙ ap (λ l. l ++ more) k.whole ∙ append_assoc a (ls ++ k.more) more ∙ ap (λ l. a ++ l) (append_assoc ls k.more more);
}

pub unchanged : (names : Texts) (b : Before) → IsGrown names [] [] [] b b
unchanged names b = record { own = record { more = []; whole = as_was b.own }; slots = as_was b.slots; slot_names = as_was b.slot_names; tries = as_was b.tries }

pub grown_twice : (names : Texts) (ls ks : List LocalDeclaration) (ds es : Declarations) (ts us : Texts) (a b c : Before) → IsGrown names ls ds ts a b → IsGrown names ks es us b c → IsGrown names ls (ds ++ es) (ts ++ us) a c
grown_twice names ls ks ds es ts us a b c p q = record {
  own = behind_all ls a.own b.own c.own (ks ++ q.own.more) p.own q.own.whole;
  slots = added (λ (d : Declaration). d.sort) a.slots b.slots c.slots ds es p.slots q.slots;
  slot_names = added (λ (d : Declaration). name_index names d.name) a.slot_names b.slot_names c.slot_names ds es p.slot_names q.slot_names;
  tries = added (name_index names) a.tries b.tries c.tries ts us p.tries q.tries;
}

-- up to the place that is after the answer
at_answer : {T : Type 0} (names : Texts) (ls : List LocalDeclaration) (ds : Declarations) (ts : Texts) (old new : Before) (t : T) (r : BoundTo T) → bound t new ≡ Ok r → IsGrown names ls ds ts old new → IsGrown names ls ds ts old r.before
at_answer names ls ds ts old new t r e g = subst (λ (b : Before). IsGrown names ls ds ts old b) (its_before t new r e) g

stays : {T : Type 0} (names : Texts) (t : T) (b : Before) (r : BoundTo T) → bound t b ≡ Ok r → IsGrown names [] [] [] b r.before
stays names t b r e = at_answer names [] [] [] b b t r e (unchanged names b)

-- so it is where two questions come first
asked_two : (names : Texts) (line : ℕ) (kind other : ScopeKind) (o p : Option (List ℕ)) (t : RWhat) (b : Before) (r : BoundTo RWhat)
    → refused_for line kind o (refused_for line other p (bound t b)) ≡ Ok r → IsGrown names [] [] [] b r.before
asked_two names line kind other o p t b r h = stays names t b r (passed line other p _ r (passed line kind o _ r h))

-- a block's own declarations end with it
pub block_grows : {T : Type 0} (names : Texts) (ls : ℕ → List LocalDeclaration) (ds : Declarations) (ts : Texts) (f : Bind T) → Grows names ls ds ts f → Grows names no_locals ds ts (bind_block f)
block_grows names ls ds ts f k a b r h =
    let p = first_ok (f (inside_block a b) (opened b)) _ r h in
    let g = k (inside_block a b) (opened b) p.0 p.1 in
    at_answer names [] ds ts b (after_block b p.0.before) p.0.tree r p.2
    (record { own = record { more = []; whole = as_was b.own }; slots = g.slots; slot_names = g.slot_names; tries = g.tries })

pub tree_grows : {S T : Type 0} (names : Texts) (ls : ℕ → List LocalDeclaration) (ds : Declarations) (ts : Texts) (g : S → T) (f : Bind S) → Grows names ls ds ts f → Grows names ls ds ts (on_tree g f)
tree_grows names ls ds ts g f k a b r h =
    let p = first_ok (f a b) _ r h in
    at_answer names (ls (length b.slots)) ds ts b p.0.before (g p.0.tree) r p.2 (k a b p.0 p.1)

two_grow : {R S T : Type 0} (names : Texts) (ls ks : ℕ → List LocalDeclaration) (ds es : Declarations) (ts us : Texts) (g : R → S → T) (f : Bind R) (h : Bind S)
    → Grows names ls ds ts f → Grows names ks es us h → Grows names ls (ds ++ es) (ts ++ us) (bind_two g f h)
two_grow names ls ks ds es ts us g f h k l a b r e =
    let p = first_ok (f a b) _ r e in
    let q = first_ok (h a p.0.before) _ r p.2 in
    at_answer names (ls (length b.slots)) (ds ++ es) (ts ++ us) b q.0.before (g p.0.tree q.0.tree) r q.2
    (grown_twice names (ls (length b.slots)) (ks (length p.0.before.slots)) ds es ts us b p.0.before q.0.before (k a b p.0 p.1) (l a p.0.before q.0 q.1))

module _ (w : Whole) where
  abbrev WhatGrows : (ℕ → List LocalDeclaration) → Declarations → Texts → (ℕ → Bind RWhat) → Type 0
  WhatGrows ls ds ts f = (line : ℕ) → Grows w.names ls ds ts (f line)

  declare_grows : (ty : Ty) (x : List ℕ) (e : Option Expr)
      → WhatGrows (λ slot. local_of x (Value ty) slot ∷ []) (record { name = x; sort = Value ty } ∷ []) [] (bind_declare w ty x e)
  declare_grows ty x e line a b r h =
      let p = passed line UnknownName (unknown_in_option (visible a b) e) _ r h in
      let q = passed line Twice (declared_in b.own x) _ r p in
      let s = passed line WrongKind (stream_in_option (visible a b) e) _ r q in
      at_answer w.names (local_of x (Value ty) (length b.slots) ∷ []) (record { name = x; sort = Value ty } ∷ []) [] b (with_declaration w.names x (Value ty) b)
      (Declare ty (length b.slots) (placed_option (visible a b) e)) r s
      (record { own = record { more = []; whole = refl }; slots = refl; slot_names = refl; tries = as_was b.tries })

  store_grows : (g : ℕ → UExpr → RWhat) (x : List ℕ) (e : Expr) → WhatGrows no_locals [] [] (bind_store g x e)
  store_grows g x e line a b r h =
      let v : List LocalDeclaration = visible a b in
      asked_two w.names line UnknownName WrongKind (unknown_in_both v x e) (option_or (no_number v x) (stream_in v e)) (g (slot_of v x) (placed v e)) b r h

  next_grows : (x : List ℕ) → WhatGrows no_locals [] [] (bind_next x)
  next_grows x line a b r h =
      let v : List LocalDeclaration = visible a b in
      asked_two w.names line UnknownName WrongKind (unknown v x) (no_number v x) (Next (slot_of v x)) b r h

  assign_next_grows : (x y : List ℕ) → WhatGrows no_locals [] [] (bind_assign_next x y)
  assign_next_grows x y line a b r h =
      let v : List LocalDeclaration = visible a b in
      asked_two w.names line UnknownName WrongKind (unknown_of_two v x y) (option_or (no_number v x) (no_number v y)) (AssignNext (slot_of v x) (slot_of v y)) b r h

  get_grows : (x y : List ℕ) → WhatGrows no_locals [] [] (bind_get x y)
  get_grows x y line a b r h =
      let v : List LocalDeclaration = visible a b in
      asked_two w.names line UnknownName WrongKind (unknown_of_two v x y) (option_or (no_number v x) (no_input v y)) (Get (slot_of v x) (slot_of v y)) b r h

  put_grows : (x : List ℕ) (e : Expr) → WhatGrows no_locals [] [] (bind_put x e)
  put_grows x e line a b r h =
      let v : List LocalDeclaration = visible a b in
      asked_two w.names line UnknownName WrongKind (unknown_in_both v x e) (option_or (no_output v x) (stream_in v e)) (Put (slot_of v x) (placed v e)) b r h

  throw_grows : (x : List ℕ) (e : Option Expr) → WhatGrows no_locals [] [] (bind_throw x e)
  throw_grows x e line a b r h =
      let v : List LocalDeclaration = visible a b in
      asked_two w.names line UnknownException WrongKind (unhandled a.handled x) (stream_in_option v e) (Throw (exception_number a.handled x) (placed_option v e)) b r
      (passed line UnknownName (unknown_in_option v e) _ r h)

  called_grows : {T : Type 0} (g : RCall → T) (c : Call) (line : ℕ) → Grows w.names no_locals [] [] (bind_called g w c line)
  called_grows g c line a b r h = let p = first_ok (bind_call w c line a b) _ r h in stays w.names (g p.0) b r p.2

  if_grows : (e : Expr) (ls ks : ℕ → List LocalDeclaration) (ds es : Declarations) (ts us : Texts) (f h : Bind (List RStmt))
      → Grows w.names ls ds ts f → Grows w.names ks es us h → WhatGrows no_locals (ds ++ es) (ts ++ us) (bind_if e f h)
  if_grows e ls ks ds es ts us f h k l line a b r is =
      let p = first_ok (bind_test e line a b) _ r is in
      two_grow w.names no_locals no_locals ds es ts us (If p.0) (bind_block f) (bind_block h) (block_grows w.names ls ds ts f k) (block_grows w.names ks es us h l) a b r p.2

  while_grows : (e : Expr) (ls : ℕ → List LocalDeclaration) (ds : Declarations) (ts : Texts) (f : Bind (List RStmt)) → Grows w.names ls ds ts f → WhatGrows no_locals ds ts (bind_while e f)
  while_grows e ls ds ts f k line a b r is =
      let p = first_ok (bind_test e line a b) _ r is in
      tree_grows w.names no_locals ds ts (While p.0) (bind_block f) (block_grows w.names ls ds ts f k) a b r p.2

  -- the variable of a handler
  pub variable_grown : (y : Option (List ℕ)) (b : Before) → IsGrown w.names [] (declared_variable y) [] b (variable_declared w.names y b)
  variable_grown None b = unchanged w.names b
  variable_grown (Some y) b = record { own = record { more = local_of y (Value Int32) (length b.slots) ∷ []; whole = refl }; slots = refl; slot_names = refl; tries = as_was b.tries }

  pub handler_grows : (y : Option (List ℕ)) (ks : ℕ → List LocalDeclaration) (es : Declarations) (us : Texts) (h : Bind (List RStmt))
      → Grows w.names ks es us h → Grows w.names no_locals (declared_variable y ++ es) us (bind_handler w y h)
  handler_grows y ks es us h k a b r is =
      grown_twice w.names [] (ks (length (variable_declared w.names y b).slots)) (declared_variable y) es [] us b (variable_declared w.names y b) r.before (variable_grown y b) (k a (variable_declared w.names y b) r is)

  try_grows : (x : List ℕ) (y : Option (List ℕ)) (ls ks : ℕ → List LocalDeclaration) (ds es : Declarations) (ts us : Texts) (f h : Bind (List RStmt))
      → Grows w.names ls ds ts f → Grows w.names ks es us h → Grows w.names no_locals (ds ++ (declared_variable y ++ es)) (x ∷ (ts ++ us)) (bind_try w x y f h)
  try_grows x y ls ks ds es ts us f h k l a b r is =
      let p = first_ok (bind_block f (with_handled x a b) (tried w x b)) _ r is in
      let q = first_ok (bind_block (bind_handler w y h) a p.0.before) _ r p.2 in
      let all : Declarations = declared_variable y ++ es in
      let here : IsGrown w.names [] [] (x ∷ []) b (tried w x b) = record { own = record { more = []; whole = as_was b.own }; slots = as_was b.slots; slot_names = as_was b.slot_names; tries = refl } in
      at_answer w.names [] (ds ++ all) (x ∷ (ts ++ us)) b q.0.before (Try p.0.tree (a.throws + length b.tries) (variable_slot y p.0.before) q.0.tree) r q.2
      (grown_twice w.names [] [] [] (ds ++ all) (x ∷ []) (ts ++ us) b (tried w x b) q.0.before here
      (grown_twice w.names [] [] ds all ts us (tried w x b) p.0.before q.0.before (block_grows w.names ls ds ts f k (with_handled x a b) (tried w x b) p.0 p.1)
      (block_grows w.names no_locals all us (bind_handler w y h) (handler_grows y ks es us h l) a p.0.before q.0 q.1)))

  parts_grow : (test : Option Expr) (ls ks js : ℕ → List LocalDeclaration) (ds es fs : Declarations) (ts us vs : Texts) (f g h : Bind (List RStmt))
      → Grows w.names ls ds ts f → Grows w.names ks es us g → Grows w.names js fs vs h → Grows w.names ls (ds ++ (es ++ fs)) (ts ++ (us ++ vs)) (bind_parts test f g h)
  parts_grow test ls ks js ds es fs ts us vs f g h j k l a b r is =
      let p = first_ok (f a b) _ r is in
      let q = first_ok (g a p.0.before) _ r p.2 in
      let s = first_ok (bind_block h a q.0.before) _ r q.2 in
      at_answer w.names (ls (length b.slots)) (ds ++ (es ++ fs)) (ts ++ (us ++ vs)) b s.0.before (For p.0.tree (placed_option (visible a p.0.before) test) q.0.tree s.0.tree) r s.2
      (grown_twice w.names (ls (length b.slots)) (ks (length p.0.before.slots)) ds (es ++ fs) ts (us ++ vs) b p.0.before s.0.before (j a b p.0 p.1)
      (grown_twice w.names (ks (length p.0.before.slots)) [] es fs us vs p.0.before q.0.before s.0.before (k a p.0.before q.0 q.1) (block_grows w.names js fs vs h l a q.0.before s.0 s.1)))

  for_grows : (declares : ℕ → List LocalDeclaration) (test : Option Expr) (ls ks js : ℕ → List LocalDeclaration) (ds es fs : Declarations) (ts us vs : Texts) (f g h : Bind (List RStmt))
      → Grows w.names ls ds ts f → Grows w.names ks es us g → Grows w.names js fs vs h → WhatGrows no_locals (ds ++ (es ++ fs)) (ts ++ (us ++ vs)) (bind_for declares test f g h)
  for_grows declares test ls ks js ds es fs ts us vs f g h j k l line a b r is =
      let p = first_ok (bind_first_test declares test line a b) _ r is in
      block_grows w.names ls (ds ++ (es ++ fs)) (ts ++ (us ++ vs)) (bind_parts test f g h) (parts_grow test ls ks js ds es fs ts us vs f g h j k l) a b r p.2

  abbrev pub branch_what_means : BranchWhat → BranchWhatMeans
  branch_what_means = fold-BranchWhat BranchWhatMeans WhatMeans BranchMeans StmtMeans (bind_branch_what_step w) (bind_what_step w) bind_branch_step bind_stmt_step

  abbrev pub what_means : What → WhatMeans
  what_means = fold-What BranchWhatMeans WhatMeans BranchMeans StmtMeans (bind_branch_what_step w) (bind_what_step w) bind_branch_step bind_stmt_step

  abbrev pub declared_by_branch_what : BranchWhat → Declarations
  declared_by_branch_what = fold-BranchWhat Declarations Declarations Declarations Declarations branch_declares what_declares (λ b. b.what) (λ s. s.what)

  abbrev pub declared_by_what : What → Declarations
  declared_by_what = fold-What Declarations Declarations Declarations Declarations branch_declares what_declares (λ b. b.what) (λ s. s.what)

  abbrev pub declared_by_branch : Branch → Declarations
  declared_by_branch = fold-Branch Declarations Declarations Declarations Declarations branch_declares what_declares (λ b. b.what) (λ s. s.what)

  abbrev pub tried_by_branch_what : BranchWhat → Texts
  tried_by_branch_what = fold-BranchWhat Texts Texts Texts Texts branch_tries what_tries (λ b. b.what) (λ s. s.what)

  abbrev pub tried_by_what : What → Texts
  tried_by_what = fold-What Texts Texts Texts Texts branch_tries what_tries (λ b. b.what) (λ s. s.what)

  abbrev pub tried_by_branch : Branch → Texts
  tried_by_branch = fold-Branch Texts Texts Texts Texts branch_tries what_tries (λ b. b.what) (λ s. s.what)

  abbrev BranchWhatGrows : Declarations → Texts → BranchWhatMeans → Type 0
  BranchWhatGrows ds ts f = (line : ℕ) → Grows w.names no_locals ds ts (f line)

  abbrev OfBranchWhat : BranchWhat → Type 0
  OfBranchWhat x = BranchWhatGrows (declared_by_branch_what x) (tried_by_branch_what x) (branch_what_means x)

  abbrev OfWhat : What → Type 0
  OfWhat x = WhatGrows (what_means x).declares (declared_by_what x) (tried_by_what x) (what_means x).bind

  abbrev OfBranch : Branch → Type 0
  OfBranch b = Grows w.names no_locals (declared_by_branch b) (tried_by_branch b) (bind_branch w b)

  abbrev OfStmt : Stmt → Type 0
  OfStmt s = Grows w.names (stmt_meaning w s).declares (stmt_declares s) (stmt_tries s) (stmt_meaning w s).bind

  -- a part with what it adds
  abbrev GrownBranchWhat : Type 0
  GrownBranchWhat = (x : BranchWhat) × OfBranchWhat x

  abbrev GrownWhat : Type 0
  GrownWhat = (x : What) × OfWhat x

  abbrev GrownBranch : Type 0
  GrownBranch = (b : Branch) × OfBranch b

  abbrev GrownStmt : Type 0
  GrownStmt = (s : Stmt) × OfStmt s

  abbrev stmts : List GrownStmt → List Stmt
  stmts ys = map (λ (e : GrownStmt). e.0) ys

  abbrev branches : List GrownBranch → List Branch
  branches ys = map (λ (e : GrownBranch). e.0) ys

  abbrev first_of : List GrownStmt → ℕ → List LocalDeclaration
  first_of ys = first_declares (map (stmt_meaning w) (stmts ys))

  one_then : (s : Stmt) (body : List Stmt) → OfStmt s → Grows w.names (first_declares (map (stmt_meaning w) body)) (declarations_in body) (tries_among body) (bind_all (map (stmt_meaning w) body))
      → Grows w.names (stmt_meaning w s).declares (stmt_declares s ++ declarations_in body) (stmt_tries s ++ tries_among body) (bind_all (map (stmt_meaning w) (s ∷ body)))
  one_then s body k l a b r is =
      let p = first_ok ((stmt_meaning w s).bind a b) _ r is in
      let q = first_ok (bind_all (map (stmt_meaning w) body) a p.0.before) _ r p.2 in
      at_answer w.names ((stmt_meaning w s).declares (length b.slots)) (stmt_declares s ++ declarations_in body) (stmt_tries s ++ tries_among body) b q.0.before (p.0.tree ∷ q.0.tree) r q.2
      (grown_twice w.names ((stmt_meaning w s).declares (length b.slots)) (first_declares (map (stmt_meaning w) body) (length p.0.before.slots)) (stmt_declares s) (declarations_in body) (stmt_tries s) (tries_among body)
      b p.0.before q.0.before (k a b p.0 p.1) (l a p.0.before q.0 q.1))

  stmts_grow : (ys : List GrownStmt)
      → Grows w.names (first_declares (map (stmt_meaning w) (stmts ys))) (declarations_in (stmts ys)) (tries_among (stmts ys)) (bind_all (map (stmt_meaning w) (stmts ys)))
  stmts_grow [] a b r is = stays w.names [] b r is
  stmts_grow (y ∷ ys) a b r is = one_then y.0 (stmts ys) y.1 (stmts_grow ys) a b r is

  one_branch_then : (c : Branch) (bs : List Branch) → OfBranch c
      → Grows w.names no_locals (concat (map declared_by_branch bs)) (concat (map tried_by_branch bs)) (bind_fork (map (bind_branch w) bs))
      → Grows w.names no_locals (concat (map declared_by_branch (c ∷ bs))) (concat (map tried_by_branch (c ∷ bs))) (bind_fork (map (bind_branch w) (c ∷ bs)))
  one_branch_then c bs k l a b r is =
      let p = first_ok (bind_branch w c a b) _ r is in
      let q = first_ok (bind_fork (map (bind_branch w) bs) a p.0.before) _ r p.2 in
      at_answer w.names [] (concat (map declared_by_branch (c ∷ bs))) (concat (map tried_by_branch (c ∷ bs))) b q.0.before (p.0.tree ∷ q.0.tree) r q.2
      (grown_twice w.names [] [] (declared_by_branch c) (concat (map declared_by_branch bs)) (tried_by_branch c) (concat (map tried_by_branch bs))
      b p.0.before q.0.before (k a b p.0 p.1) (l a p.0.before q.0 q.1))

  branches_grow : (ys : List GrownBranch)
      → Grows w.names no_locals (concat (map declared_by_branch (branches ys))) (concat (map tried_by_branch (branches ys))) (bind_fork (map (bind_branch w) (branches ys)))
  branches_grow [] a b r is = stays w.names [] b r is
  branches_grow (y ∷ ys) a b r is = one_branch_then y.0 (branches ys) y.1 (branches_grow ys) a b r is

  abbrev branch_what_of : BranchWhat-F GrownBranchWhat GrownWhat GrownBranch GrownStmt → BranchWhat-F BranchWhat What Branch Stmt
  branch_what_of y = map-BranchWhat GrownBranchWhat GrownWhat GrownBranch GrownStmt BranchWhat What Branch Stmt (λ e. e.0) (λ e. e.0) (λ e. e.0) (λ e. e.0) y

  abbrev what_of : What-F GrownBranchWhat GrownWhat GrownBranch GrownStmt → What-F BranchWhat What Branch Stmt
  what_of y = map-What GrownBranchWhat GrownWhat GrownBranch GrownStmt BranchWhat What Branch Stmt (λ e. e.0) (λ e. e.0) (λ e. e.0) (λ e. e.0) y

  abbrev branch_of : Branch-F GrownBranchWhat GrownWhat GrownBranch GrownStmt → Branch-F BranchWhat What Branch Stmt
  branch_of y = map-Branch GrownBranchWhat GrownWhat GrownBranch GrownStmt BranchWhat What Branch Stmt (λ e. e.0) (λ e. e.0) (λ e. e.0) (λ e. e.0) y

  abbrev stmt_of : Stmt-F GrownBranchWhat GrownWhat GrownBranch GrownStmt → Stmt-F BranchWhat What Branch Stmt
  stmt_of y = map-Stmt GrownBranchWhat GrownWhat GrownBranch GrownStmt BranchWhat What Branch Stmt (λ e. e.0) (λ e. e.0) (λ e. e.0) (λ e. e.0) y

  branch_what_layer : (y : BranchWhat-F GrownBranchWhat GrownWhat GrownBranch GrownStmt)
      → BranchWhatGrows
      (branch_declares (map-BranchWhat BranchWhat What Branch Stmt Declarations Declarations Declarations Declarations declared_by_branch_what declared_by_what declared_by_branch stmt_declares (branch_what_of y)))
      (branch_tries (map-BranchWhat BranchWhat What Branch Stmt Texts Texts Texts Texts tried_by_branch_what tried_by_what tried_by_branch stmt_tries (branch_what_of y)))
      (bind_branch_what_step w (map-BranchWhat BranchWhat What Branch Stmt BranchWhatMeans WhatMeans BranchMeans StmtMeans branch_what_means what_means (bind_branch w) (stmt_meaning w) (branch_what_of y)))
  branch_what_layer (BranchWhat-F.BranchWhat::Block body) line = tree_grows w.names no_locals _ _ _ _ (block_grows w.names (first_of body) _ _ _ (stmts_grow body))
  branch_what_layer (BranchWhat-F.BranchWhat::Call c) line = called_grows _ c line

  abbrev WhatOf : WhatMeans → Declarations → Texts → Type 0
  WhatOf m ds ts = WhatGrows m.declares ds ts m.bind

  abbrev means_at : What-F GrownBranchWhat GrownWhat GrownBranch GrownStmt → WhatMeans
  means_at y = bind_what_step w (map-What BranchWhat What Branch Stmt BranchWhatMeans WhatMeans BranchMeans StmtMeans branch_what_means what_means (bind_branch w) (stmt_meaning w) (what_of y))

  what_layer : (y : What-F GrownBranchWhat GrownWhat GrownBranch GrownStmt)
      → WhatOf
      (bind_what_step w (map-What BranchWhat What Branch Stmt BranchWhatMeans WhatMeans BranchMeans StmtMeans branch_what_means what_means (bind_branch w) (stmt_meaning w) (what_of y)))
      (what_declares (map-What BranchWhat What Branch Stmt Declarations Declarations Declarations Declarations declared_by_branch_what declared_by_what declared_by_branch stmt_declares (what_of y)))
      (what_tries (map-What BranchWhat What Branch Stmt Texts Texts Texts Texts tried_by_branch_what tried_by_what tried_by_branch stmt_tries (what_of y)))
  what_layer (What-F.Declare ty x e) line = declare_grows ty x e line
  what_layer (What-F.Assign x e) line = store_grows Assign x e line
  what_layer (What-F.Next x) line = next_grows x line
  what_layer (What-F.NextAssign x e) line = store_grows NextAssign x e line
  what_layer (What-F.AssignNext x y) line = assign_next_grows x y line
  what_layer (What-F.Get x y) line = get_grows x y line
  what_layer (What-F.Put x e) line = put_grows x e line
  what_layer (What-F.If e first other) line = if_grows e (first_of first) (first_of other) _ _ _ _ _ _ (stmts_grow first) (stmts_grow other) line
  what_layer (What-F.While e body) line = while_grows e (first_of body) _ _ _ (stmts_grow body) line
  what_layer (What-F.For first test step body) line =
      for_grows (first_of first) test (first_of first) (first_of step) (first_of body) _ _ _ _ _ _ _ _ _ (stmts_grow first) (stmts_grow step) (stmts_grow body) line
  what_layer (What-F.What::Block body) line = tree_grows w.names no_locals _ _ _ _ (block_grows w.names (first_of body) _ _ _ (stmts_grow body))
  what_layer (What-F.What::Call c) line = called_grows _ c line
  what_layer (What-F.Try body x y handler) line = try_grows x y (first_of body) (first_of handler) _ _ _ _ _ _ (stmts_grow body) (stmts_grow handler)
  what_layer (What-F.Throw x e) line = throw_grows x e line
  what_layer (What-F.Par bs) line = tree_grows w.names no_locals _ _ _ _ (branches_grow bs)

  -- the same, of a part and lists that are equal to these
  same_growth : {T : Type 0} (ls ks : ℕ → List LocalDeclaration) (ds es : Declarations) (ts us : Texts) (f g : Bind T) → ls ≡ ks → ds ≡ es → ts ≡ us → f ≡ g → Grows w.names ks es us g → Grows w.names ls ds ts f
  same_growth ls ks ds es ts us f g o p q s h =
      subst (λ l. Grows w.names l ds ts f) (sym o) (subst (λ d. Grows w.names ks d ts f) (sym p) (subst (λ t. Grows w.names ks es t f) (sym q) (subst (λ k. Grows w.names ks es us k) (sym s) h)))

  branch_what_case : (x : BranchWhat-F BranchWhat What Branch Stmt) (y : BranchWhat-F GrownBranchWhat GrownWhat GrownBranch GrownStmt) → branch_what_of y ≡ x → OfBranchWhat (roll-BranchWhat x)
  branch_what_case x y is = subst (λ z. OfBranchWhat (roll-BranchWhat z)) is (λ line.
      same_growth no_locals no_locals _ _ _ _ _ _ refl
      (fold-roll-BranchWhat Declarations Declarations Declarations Declarations branch_declares what_declares (λ b. b.what) (λ s. s.what) (branch_what_of y))
      (fold-roll-BranchWhat Texts Texts Texts Texts branch_tries what_tries (λ b. b.what) (λ s. s.what) (branch_what_of y))
      (ap (λ (k : BranchWhatMeans). k line) (fold-roll-BranchWhat BranchWhatMeans WhatMeans BranchMeans StmtMeans (bind_branch_what_step w) (bind_what_step w) bind_branch_step bind_stmt_step (branch_what_of y)))
      (branch_what_layer y line))

  what_case : (x : What-F BranchWhat What Branch Stmt) (y : What-F GrownBranchWhat GrownWhat GrownBranch GrownStmt) → what_of y ≡ x → OfWhat (roll-What x)
  what_case x y is = subst (λ z. OfWhat (roll-What z)) is (
      subst (λ (m : WhatMeans). WhatOf m (declared_by_what (roll-What (what_of y))) (tried_by_what (roll-What (what_of y))))
      (sym (fold-roll-What BranchWhatMeans WhatMeans BranchMeans StmtMeans (bind_branch_what_step w) (bind_what_step w) bind_branch_step bind_stmt_step (what_of y)))
      (λ line. same_growth (means_at y).declares (means_at y).declares _ _ _ _ _ _ refl
      (fold-roll-What Declarations Declarations Declarations Declarations branch_declares what_declares (λ b. b.what) (λ s. s.what) (what_of y))
      (fold-roll-What Texts Texts Texts Texts branch_tries what_tries (λ b. b.what) (λ s. s.what) (what_of y)) refl
      (what_layer y line)))

  branch_case : (x : Branch-F BranchWhat What Branch Stmt) (y : Branch-F GrownBranchWhat GrownWhat GrownBranch GrownStmt) → branch_of y ≡ x → OfBranch (roll-Branch x)
  branch_case x y is = subst (λ z. OfBranch (roll-Branch z)) is
      (same_growth no_locals no_locals _ _ _ _ _ _ refl
      (fold-roll-Branch Declarations Declarations Declarations Declarations branch_declares what_declares (λ b. b.what) (λ s. s.what) (branch_of y))
      (fold-roll-Branch Texts Texts Texts Texts branch_tries what_tries (λ b. b.what) (λ s. s.what) (branch_of y))
      (fold-roll-Branch BranchWhatMeans WhatMeans BranchMeans StmtMeans (bind_branch_what_step w) (bind_what_step w) bind_branch_step bind_stmt_step (branch_of y))
      (tree_grows w.names no_locals _ _ _ _ (y.what.1 y.line)))

  abbrev StmtOf : StmtMeans → Declarations → Texts → Type 0
  StmtOf m ds ts = Grows w.names m.declares ds ts m.bind

  stmt_case : (x : Stmt-F BranchWhat What Branch Stmt) (y : Stmt-F GrownBranchWhat GrownWhat GrownBranch GrownStmt) → stmt_of y ≡ x → OfStmt (roll-Stmt x)
  stmt_case x y is = subst (λ z. OfStmt (roll-Stmt z)) is (
      subst (λ (m : StmtMeans). StmtOf m (stmt_declares (roll-Stmt (stmt_of y))) (stmt_tries (roll-Stmt (stmt_of y))))
      (sym (fold-roll-Stmt BranchWhatMeans WhatMeans BranchMeans StmtMeans (bind_branch_what_step w) (bind_what_step w) bind_branch_step bind_stmt_step (stmt_of y)))
      (same_growth (what_means y.what.0).declares (what_means y.what.0).declares _ _ _ _ _ _ refl
      (fold-roll-Stmt Declarations Declarations Declarations Declarations branch_declares what_declares (λ b. b.what) (λ s. s.what) (stmt_of y))
      (fold-roll-Stmt Texts Texts Texts Texts branch_tries what_tries (λ b. b.what) (λ s. s.what) (stmt_of y)) refl
      (tree_grows w.names (what_means y.what.0).declares _ _ _ _ (y.what.1 y.line))))

  pub stmt_grows : (s : Stmt) → OfStmt s
  stmt_grows = ind-Stmt OfBranchWhat OfWhat OfBranch OfStmt branch_what_case what_case branch_case stmt_case

  pub branch_grows : (b : Branch) → OfBranch b
  branch_grows = ind-Branch OfBranchWhat OfWhat OfBranch OfStmt branch_what_case what_case branch_case stmt_case

  pub body_grows : (body : List Stmt) → Grows w.names (first_declares (map (stmt_meaning w) body)) (declarations_in body) (tries_among body) (bind_stmts w body)
  body_grows [] a b r is = stays w.names [] b r is
  body_grows (s ∷ body) a b r is = one_then s body (stmt_grows s) (body_grows body) a b r is
