-- One more statement of a list, and one more branch of a fork, after those that are done.
use Rattle.std.proofs.Common.{ℕ, ◌+◌, ◌≡◌, ◌∙◌, List, [], ◌∷◌, ◌++◌, Ok, Err, drop, refl, sym, ap}
use Rattle.std.proofs.lemmas.List.{append_assoc}
use Rattle.shim_syntax.specs.declared.tree.Stmt.{Stmt}
use Rattle.shim_syntax.specs.declared.tree.Branch.{Branch}
use Rattle.shim_scopes.specs.declared.tree.RStmt.{RStmt}
use Rattle.shim_scopes.specs.declared.tree.RBranch.{RBranch}
use Rattle.shim_scopes.specs.declared.scope.Scope.{Scope}
use Rattle.shim_scopes.specs.Refusals.{Refusal, and_then}
use Rattle.shim_scopes.specs.Statements.{Whole, Before, Meant}
use Rattle.shim_scopes.specs.Bodies.{bind_stmt, bind_stmts, bind_branch, bind_branches}
use Rattle.shim_scopes.specs.State.{Kept, around_of, before_of, with_done}
use Rattle.shim_scopes.proofs.Nested.{around_kept}

-- one of them and then the others
abbrev joined : {T : Type 0} → Meant T → (Before → Meant (List T)) → Meant (List T)
joined one others = and_then one (λ o. and_then (others o.before) (λ r. Ok (record { tree = o.tree ∷ r.tree; before = r.before })))

one_more : {T : Type 0} (done : List T) (t : T) (m : Meant (List T))
    → with_done (done ++ t ∷ []) m ≡ with_done done (and_then m (λ r. Ok (record { tree = t ∷ r.tree; before = r.before })))
one_more done t (Ok r) = ap (λ (ts : List _). Ok (record { tree = ts; before = r.before })) (append_assoc done (t ∷ []) r.tree)
one_more done t (Err e) = refl

-- what is meant of the whole is so as one more is done
goes_on : {T : Type 0} (done : List T) (t : T) (b : Before) (one : Meant T) (others : Before → Meant (List T)) (all : Meant (List T))
    → one ≡ Ok (record { tree = t; before = b }) → with_done done (joined one others) ≡ all → with_done (done ++ t ∷ []) (others b) ≡ all
goes_on done t b one others all e so_far = one_more done t (others b) ∙ sym (ap (λ m. with_done done (joined m others)) e) ∙ so_far

-- and it is refused as this one is
ends : {T : Type 0} (done : List T) (one : Meant T) (others : Before → Meant (List T)) (all : Meant (List T)) (x : Refusal)
    → one ≡ Err x → with_done done (joined one others) ≡ all → all ≡ Err x
ends done one others all x e so_far = sym so_far ∙ ap (λ m. with_done done (joined m others)) e

module _ (w : Whole) (start i : ℕ) (old s : Scope) where
  pub body_goes_on : (t : Scope) (body : List Stmt) (stmt : Stmt) (done : List RStmt) (made : RStmt) → drop i body ≡ stmt ∷ drop (i + 1) body
      → bind_stmt w stmt (around_of start s) (before_of start s) ≡ Ok (record { tree = made; before = before_of start t }) → Kept start s t
      → with_done done (bind_stmts w (drop i body) (around_of start s) (before_of start s)) ≡ bind_stmts w body (around_of start old) (before_of start old)
      → with_done (done ++ made ∷ []) (bind_stmts w (drop (i + 1) body) (around_of start t) (before_of start t)) ≡ bind_stmts w body (around_of start old) (before_of start old)
  body_goes_on t body stmt done made d e k so_far =
      ap (λ a. with_done (done ++ made ∷ []) (bind_stmts w (drop (i + 1) body) a (before_of start t))) (around_kept k)
      ∙ goes_on done made (before_of start t) (bind_stmt w stmt (around_of start s) (before_of start s)) (bind_stmts w (drop (i + 1) body) (around_of start s)) _ e
      (sym (ap (λ (xs : List Stmt). with_done done (bind_stmts w xs (around_of start s) (before_of start s))) d) ∙ so_far)

  pub body_ends : (body : List Stmt) (stmt : Stmt) (done : List RStmt) (x : Refusal) → drop i body ≡ stmt ∷ drop (i + 1) body
      → bind_stmt w stmt (around_of start s) (before_of start s) ≡ Err x
      → with_done done (bind_stmts w (drop i body) (around_of start s) (before_of start s)) ≡ bind_stmts w body (around_of start old) (before_of start old)
      → bind_stmts w body (around_of start old) (before_of start old) ≡ Err x
  body_ends body stmt done x d e so_far =
      ends done (bind_stmt w stmt (around_of start s) (before_of start s)) (bind_stmts w (drop (i + 1) body) (around_of start s)) _ x e
      (sym (ap (λ (xs : List Stmt). with_done done (bind_stmts w xs (around_of start s) (before_of start s))) d) ∙ so_far)

  pub fork_goes_on : (t : Scope) (bs : List Branch) (b : Branch) (done : List RBranch) (made : RBranch) → drop i bs ≡ b ∷ drop (i + 1) bs
      → bind_branch w b (around_of start s) (before_of start s) ≡ Ok (record { tree = made; before = before_of start t }) → Kept start s t
      → with_done done (bind_branches w (drop i bs) (around_of start s) (before_of start s)) ≡ bind_branches w bs (around_of start old) (before_of start old)
      → with_done (done ++ made ∷ []) (bind_branches w (drop (i + 1) bs) (around_of start t) (before_of start t)) ≡ bind_branches w bs (around_of start old) (before_of start old)
  fork_goes_on t bs b done made d e k so_far =
      ap (λ a. with_done (done ++ made ∷ []) (bind_branches w (drop (i + 1) bs) a (before_of start t))) (around_kept k)
      ∙ goes_on done made (before_of start t) (bind_branch w b (around_of start s) (before_of start s)) (bind_branches w (drop (i + 1) bs) (around_of start s)) _ e
      (sym (ap (λ (xs : List Branch). with_done done (bind_branches w xs (around_of start s) (before_of start s))) d) ∙ so_far)

  pub fork_ends : (bs : List Branch) (b : Branch) (done : List RBranch) (x : Refusal) → drop i bs ≡ b ∷ drop (i + 1) bs
      → bind_branch w b (around_of start s) (before_of start s) ≡ Err x
      → with_done done (bind_branches w (drop i bs) (around_of start s) (before_of start s)) ≡ bind_branches w bs (around_of start old) (before_of start old)
      → bind_branches w bs (around_of start old) (before_of start old) ≡ Err x
  fork_ends bs b done x d e so_far =
      ends done (bind_branch w b (around_of start s) (before_of start s)) (bind_branches w (drop (i + 1) bs) (around_of start s)) _ x e
      (sym (ap (λ (xs : List Branch). with_done done (bind_branches w xs (around_of start s) (before_of start s))) d) ∙ so_far)
