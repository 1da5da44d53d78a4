-- The body of a function that has a text names what is in scope: by induction over the derivation of the text.
use Rattle.std.proofs.Common.{ℕ, ◌≡◌, ◌∙◌, true, false, List, [], ◌∷◌, ◌++◌, Option, Some, Ok, length, map, refl, sym, ap, subst, append_assoc}
use Rattle.std.specs.Option.{option_or}
use Rattle.std.proofs.lemmas.List.{append-nil, map-append}
use Rattle.shim_base.specs.declared.types.Ty.{Ty}
use Rattle.shim_syntax.specs.declared.tree.Branch.{Branch, fold-roll-Branch}
use Rattle.shim_syntax.specs.declared.tree.BranchWhat.{BranchWhat, BranchWhat-F, fold-roll-BranchWhat, map-BranchWhat, roll-BranchWhat}
use Rattle.shim_syntax.specs.declared.tree.BranchWhat.TheVariants as br
use Rattle.shim_syntax.specs.declared.tree.Call.{Call as CallOf}
use Rattle.shim_syntax.specs.declared.tree.Expr.{Expr}
use Rattle.shim_syntax.specs.declared.tree.Function.{Function}
use Rattle.shim_syntax.specs.declared.tree.Param.{Param}
use Rattle.shim_syntax.specs.declared.tree.Program.{Program}
use Rattle.shim_syntax.specs.declared.tree.Sort.{Sort}
use Rattle.shim_syntax.specs.declared.tree.Sort.TheVariants.{Value, Input, Output}
use Rattle.shim_syntax.specs.declared.tree.Stmt.{Stmt, fold-roll-Stmt}
use Rattle.shim_syntax.specs.declared.tree.What.{What, What-F, fold-roll-What, map-What, roll-What}
use Rattle.shim_syntax.specs.declared.tree.What.TheVariants as st
use Rattle.shim_syntax.specs.Grammar as is
use Rattle.shim_syntax.specs.Grammar.{TextCounts, IsDeclarations, IsFirst, IsStep, IsBlock, IsStmt, IsBody, IsPlain, IsBranches, IsBranch, IsParam, IsParams, IsMoreParams, IsFunction, IsFunctions, Derives}
use Rattle.shim_syntax.specs.Limits.{limits}
use Rattle.shim_syntax.specs.Terminals.{Terminal}
use Rattle.shim_scopes.specs.declared.fault.ScopeKind.TheVariants.{UnknownName, WrongKind}
use Rattle.shim_scopes.specs.declared.scope.LocalDeclaration.{LocalDeclaration}
use Rattle.shim_scopes.specs.declared.tree.RBranch.{RBranch}
use Rattle.shim_scopes.specs.declared.tree.RBranchWhat.{RBranchWhat}
use Rattle.shim_scopes.specs.declared.tree.RBranchWhat.TheVariants as branch
use Rattle.shim_scopes.specs.declared.tree.RFunction.{RFunction}
use Rattle.shim_scopes.specs.declared.tree.RStmt.{RStmt}
use Rattle.shim_scopes.specs.declared.tree.RWhat.{RWhat}
use Rattle.shim_scopes.specs.declared.tree.RWhat.TheVariants as to
use Rattle.shim_scopes.specs.declared.tree.UExpr.{UExpr}
use Rattle.shim_scopes.specs.Binding.{no_number, stream_in, slot_of, placed}
use Rattle.shim_scopes.specs.Calls.{bind_call}
use Rattle.shim_scopes.specs.Statements.{Whole, Around, Before, BoundTo, Bind, visible, unknown_in_both, bind_store, bind_block, on_tree}
use Rattle.shim_scopes.specs.Bodies.{WhatMeans, StmtMeans, BranchMeans, BranchWhatMeans, bind_all, first_declares, bind_branch_what_step, bind_what_step, bind_branch_step, bind_stmt_step, stmt_meaning, bind_stmts, bind_branch, bind_branches}
use Rattle.shim_units.specs.declared.form.Form.{Form}
use Rattle.shim_laws_binding.proofs.Bound.{is_bound, its_before}
use Rattle.shim_laws_binding.proofs.Growth.{branch_what_means, what_means, body_grows}
use Rattle.shim_laws_binding.proofs.Lists.{Each, each_of_both}
use Rattle.shim_laws_sources.proofs.SortedBinding.{GoesOn, as_it_was, goes_twice}
use Rattle.shim_scopes.proofs.Refusals.{passed, first_ok, bound}
use Rattle.shim_laws_stops.specs.InScope.{is_number}
use Rattle.shim_laws_stops.proofs.ScopeExprs.{slots, ArePlaced, placed_around, IsPlaced}
use Rattle.shim_laws_stops.proofs.ScopeParts.{BodyIn, BranchWhatIn, BranchIn, ForkIn, part_stmt, part_branch, part_block_branch, part_call_branch, part_par, no_stmts, more_stmts, no_branches, more_branches}
use Rattle.shim_laws_stops.proofs.ScopeBinding.{Right, Scopes, at_answer, stays, IsBlockBy, block_scoped, longer, placed_later, HeadersSuit, call_comes, what_right, body_right, stmt_right, WhatScopes, declare_scopes, store_scopes, next_scopes, assign_next_scopes, get_scopes, put_scopes, throw_scopes, call_scopes, if_scopes, while_scopes, inner_scopes, try_scopes, for_scopes, behind_slots, behind_placed, KeepsOwn}
use Rattle.shim_laws_stops.proofs.ScopeParts as kinds

module _ (w : Whole) (form : Form) (fs : List RFunction) (headers : HeadersSuit form fs w.functions) where
  abbrev OfWhat : WhatMeans → Type 0
  OfWhat m = WhatScopes w form fs headers m.bind

  abbrev StmtScopes : Stmt → Type 0
  StmtScopes s = Scopes (stmt_right w form fs headers) (stmt_meaning w s).bind

  abbrev AllScope : List Stmt → Type 0
  AllScope xs = Each StmtScopes xs

  abbrev body : Right (List RStmt)
  body = body_right w form fs headers

  -- statements

  one_then : (m : StmtMeans) (ms : List StmtMeans) → Scopes (stmt_right w form fs headers) m.bind → Scopes body (bind_all ms) → Scopes body (bind_all (m ∷ ms))
  one_then m ms k l a b r is =
      let p = first_ok (m.bind a b) _ r is in
      let q = first_ok (bind_all ms a p.0.before) _ r p.2 in
      let x = k a b p.0 p.1 in
      let y = l a p.0.before q.0 q.1 in
      let more : List LocalDeclaration = x.more ++ y.more in
      let tops : slots (x.more ++ y.more) ≡ slots x.more ++ slots y.more = map-append (λ (n : LocalDeclaration). n.bound.slot) x.more y.more in
      at_answer body a b q.0.before (p.0.tree ∷ q.0.tree) r q.2 (record {
        slots_on = goes_twice b.slots p.0.before.slots q.0.before.slots x.slots_on y.slots_on;
        more = x.more ++ y.more;
        own = y.own ∙ ap (λ ls. ls ++ y.more) x.own ∙ append_assoc b.own x.more y.more;
        placed = λ all on.
            each_of_both (IsPlaced (length q.0.before.slots) all) x.more y.more
            (placed_later (length p.0.before.slots) (length q.0.before.slots) all x.more (longer p.0.before.slots q.0.before.slots y.slots_on) (x.placed all (goes_twice p.0.before.slots q.0.before.slots all y.slots_on on)))
            (y.placed all on);
        tree = λ all on are.
            let later : GoesOn p.0.before.slots all = goes_twice p.0.before.slots q.0.before.slots all y.slots_on on in
            let there : ArePlaced (length p.0.before.slots) all (visible a p.0.before) = behind_placed w form fs headers a b p.0.before x.more all x.own x.slots_on are (x.placed all later) in
            subst (λ top. BodyIn form fs (slots (visible a b)) (length b.slots) (length q.0.before.slots) all top (p.0.tree ∷ q.0.tree)) (sym tops)
            (more_stmts form fs (slots (visible a b)) (length b.slots) (length p.0.before.slots) (length q.0.before.slots) all (slots x.more) (slots y.more) p.0.tree q.0.tree (x.tree all later are)
            (subst (λ ls. BodyIn form fs ls (length p.0.before.slots) (length q.0.before.slots) all (slots y.more) q.0.tree) (behind_slots w form fs headers a b p.0.before x.more x.own) (y.tree all on there)));
      })

  pub stmts_scope : (xs : List Stmt) → AllScope xs → Scopes body (bind_stmts w xs)
  stmts_scope [] h a b r is = stays body a [] b r (λ all are. no_stmts form fs (slots (visible a b)) (length b.slots) all) is
  stmts_scope (s ∷ xs) h a b r is = one_then (stmt_meaning w s) (map (stmt_meaning w) xs) h.0 (stmts_scope xs h.1) a b r is

  -- a statement in its line
  of_stmt : (line : ℕ) (t : What) → OfWhat (what_means w t) → StmtScopes (record { line = line; what = t })
  of_stmt line t h =
      subst (λ (m : StmtMeans). Scopes (stmt_right w form fs headers) m.bind) (sym (fold-roll-Stmt BranchWhatMeans WhatMeans BranchMeans StmtMeans (bind_branch_what_step w) (bind_what_step w) bind_branch_step bind_stmt_step (record { line = line; what = t })))
      (λ a b r is.
      let p = first_ok ((what_means w t).bind line a b) _ r is in
      let m = h line a b p.0 p.1 in
      let made : RStmt = record { line = line; what = p.0.tree } in
      at_answer (stmt_right w form fs headers) a b p.0.before made r p.2 (record {
        slots_on = m.slots_on;
        more = m.more;
        own = m.own;
        placed = m.placed;
        tree = λ all on are. part_stmt form fs (slots (visible a b)) (length b.slots) (length p.0.before.slots) all (slots m.more) line p.0.tree (m.tree all on are);
      }))

  one : (line : ℕ) (t : What) → OfWhat (what_means w t) → AllScope (record { line = line; what = t } ∷ [])
  one line t h = (of_stmt line t h, tt)

  at_what : (y : What-F BranchWhat What Branch Stmt) → OfWhat (bind_what_step w (map-What BranchWhat What Branch Stmt BranchWhatMeans WhatMeans BranchMeans StmtMeans (branch_what_means w) (what_means w) (bind_branch w) (stmt_meaning w) y)) → OfWhat (what_means w (roll-What y))
  at_what y h = subst OfWhat (sym (fold-roll-What BranchWhatMeans WhatMeans BranchMeans StmtMeans (bind_branch_what_step w) (bind_what_step w) bind_branch_step bind_stmt_step y)) h

  of_declare : (ty : Ty) (x : List ℕ) (e : Option Expr) → OfWhat (what_means w (st.Declare ty x e))
  unfolding roll-What denote.Hole.Carrier.roll
  of_declare ty x e = at_what (What-F.Declare ty x e) (declare_scopes w form fs headers ty x e)

  of_assign : (x : List ℕ) (e : Expr) → OfWhat (what_means w (st.Assign x e))
  unfolding roll-What denote.Hole.Carrier.roll
  of_assign x e = at_what (What-F.Assign x e) (store_scopes w form fs headers to.Assign x e (λ around lo all y a i n o. kinds.part_assign form fs around lo all y a i n o))

  of_next : (x : List ℕ) → OfWhat (what_means w (st.Next x))
  unfolding roll-What denote.Hole.Carrier.roll
  of_next x = at_what (What-F.Next x) (next_scopes w form fs headers x)

  of_next_assign : (x : List ℕ) (e : Expr) → OfWhat (what_means w (st.NextAssign x e))
  unfolding roll-What denote.Hole.Carrier.roll
  of_next_assign x e = at_what (What-F.NextAssign x e) (store_scopes w form fs headers to.NextAssign x e (λ around lo all y a i n o. kinds.part_next_assign form fs around lo all y a i n o))

  of_assign_next : (x y : List ℕ) → OfWhat (what_means w (st.AssignNext x y))
  unfolding roll-What denote.Hole.Carrier.roll
  of_assign_next x y = at_what (What-F.AssignNext x y) (assign_next_scopes w form fs headers x y)

  of_get : (x y : List ℕ) → OfWhat (what_means w (st.Get x y))
  unfolding roll-What denote.Hole.Carrier.roll
  of_get x y = at_what (What-F.Get x y) (get_scopes w form fs headers x y)

  of_put : (x : List ℕ) (e : Expr) → OfWhat (what_means w (st.Put x e))
  unfolding roll-What denote.Hole.Carrier.roll
  of_put x e = at_what (What-F.Put x e) (put_scopes w form fs headers x e)

  of_if : (e : Expr) (a b : List Stmt) → AllScope a → AllScope b → OfWhat (what_means w (st.If e a b))
  unfolding roll-What denote.Hole.Carrier.roll
  of_if e a b h k = at_what (What-F.If e a b) (if_scopes w form fs headers e (bind_stmts w a) (bind_stmts w b) (stmts_scope a h) (stmts_scope b k))

  of_while : (e : Expr) (a : List Stmt) → AllScope a → OfWhat (what_means w (st.While e a))
  unfolding roll-What denote.Hole.Carrier.roll
  of_while e a h = at_what (What-F.While e a) (while_scopes w form fs headers e (bind_stmts w a) (stmts_scope a h))

  of_for : (a : List Stmt) (test : Option Expr) (b c : List Stmt) → AllScope a → AllScope b → KeepsOwn w form fs headers (bind_stmts w b) → AllScope c → OfWhat (what_means w (st.For a test b c))
  unfolding roll-What denote.Hole.Carrier.roll
  of_for a test b c h k keeps l =
      at_what (What-F.For a test b c) (for_scopes w form fs headers (first_declares (map (stmt_meaning w) a)) test _ _ (bind_stmts w a) (bind_stmts w b) (bind_stmts w c) (body_grows w a) (stmts_scope a h) (stmts_scope b k) keeps (stmts_scope c l))

  of_block : (a : List Stmt) → AllScope a → OfWhat (what_means w (st.Block a))
  unfolding roll-What denote.Hole.Carrier.roll
  of_block a h = at_what (What-F.What::Block a) (λ line. inner_scopes w form fs headers (bind_stmts w a) (stmts_scope a h))

  of_call : (c : CallOf) → OfWhat (what_means w (st.Call c))
  unfolding roll-What denote.Hole.Carrier.roll
  of_call c = at_what (What-F.What::Call c) (call_scopes w form fs headers c)

  of_try : (a : List Stmt) (x : List ℕ) (y : Option (List ℕ)) (b : List Stmt) → AllScope a → AllScope b → OfWhat (what_means w (st.Try a x y b))
  unfolding roll-What denote.Hole.Carrier.roll
  of_try a x y b h k = at_what (What-F.Try a x y b) (λ line. try_scopes w form fs headers x y (bind_stmts w a) (bind_stmts w b) (stmts_scope a h) (stmts_scope b k))

  of_throw : (x : List ℕ) (e : Option Expr) → OfWhat (what_means w (st.Throw x e))
  unfolding roll-What denote.Hole.Carrier.roll
  of_throw x e = at_what (What-F.Throw x e) (throw_scopes w form fs headers x e)

  -- branches

  abbrev branch_what_right : Right RBranchWhat
  branch_what_right around lo hi all top t = BranchWhatIn form fs around lo hi all t

  abbrev branch_right : Right RBranch
  branch_right around lo hi all top b = BranchIn form fs around lo hi all b

  abbrev fork_right : Right (List RBranch)
  fork_right around lo hi all top bs = ForkIn form fs around lo hi all bs

  abbrev Blocks : {T : Type 0} → Right T → Bind T → Type 0
  Blocks {T = T} right f = (a : Around) (b : Before) (r : BoundTo T) → f a b ≡ Ok r → IsBlockBy right a b r

  block_answer : {T : Type 0} (right : Right T) (a : Around) (old new : Before) (t : T) (r : BoundTo T) → bound t new ≡ Ok r → IsBlockBy right a old (record { tree = t; before = new }) → IsBlockBy right a old r
  block_answer right a old new t r e h = subst (λ s. IsBlockBy right a old s) (sym (is_bound t new r e)) h

  abbrev OfBranchWhat : BranchWhatMeans → Type 0
  OfBranchWhat f = (line : ℕ) → Blocks branch_what_right (f line)

  at_branch_what : (y : BranchWhat-F BranchWhat What Branch Stmt) → OfBranchWhat (bind_branch_what_step w (map-BranchWhat BranchWhat What Branch Stmt BranchWhatMeans WhatMeans BranchMeans StmtMeans (branch_what_means w) (what_means w) (bind_branch w) (stmt_meaning w) y))
      → OfBranchWhat (branch_what_means w (roll-BranchWhat y))
  at_branch_what y h = subst OfBranchWhat (sym (fold-roll-BranchWhat BranchWhatMeans WhatMeans BranchMeans StmtMeans (bind_branch_what_step w) (bind_what_step w) bind_branch_step bind_stmt_step y)) h

  of_block_branch : (xs : List Stmt) → AllScope xs → OfBranchWhat (branch_what_means w (br.Block xs))
  unfolding roll-BranchWhat denote.Hole.Carrier.roll
  of_block_branch xs h = at_branch_what (BranchWhat-F.BranchWhat::Block xs) (λ line a b r is.
      let p = first_ok (bind_block (bind_stmts w xs) a b) _ r is in
      let m = block_scoped body (bind_stmts w xs) (stmts_scope xs h) a b p.0 p.1 in
      block_answer branch_what_right a b p.0.before (branch.Block p.0.tree) r p.2 (record {
        slots_on = m.slots_on;
        own = m.own;
        top = [];
        tree = λ all on are.
            part_block_branch form fs (slots (visible a b)) (length b.slots) (length p.0.before.slots) all m.top p.0.tree (placed_around (length b.slots) all (visible a b) are) (m.tree all on are);
      }))

  of_call_branch : (c : CallOf) → OfBranchWhat (branch_what_means w (br.Call c))
  unfolding roll-BranchWhat denote.Hole.Carrier.roll
  of_call_branch c = at_branch_what (BranchWhat-F.BranchWhat::Call c) (λ line a b r is.
      let p = first_ok (bind_call w c line a b) _ r is in
      let k = call_comes w form fs headers c line a b p.0 p.1 in
      block_answer branch_what_right a b b (branch.Call p.0) r p.2 (record {
        slots_on = as_it_was b.slots;
        own = refl;
        top = [];
        tree = λ all on are. part_call_branch form fs (slots (visible a b)) (length b.slots) all p.0 (placed_around (length b.slots) all (visible a b) are) (k.suits (length b.slots) all are) k.params;
      }))

  of_branch : (line : ℕ) (t : BranchWhat) → OfBranchWhat (branch_what_means w t) → Blocks branch_right (bind_branch w (record { line = line; what = t }))
  of_branch line t h =
      subst (λ (f : BranchMeans). Blocks branch_right f) (sym (fold-roll-Branch BranchWhatMeans WhatMeans BranchMeans StmtMeans (bind_branch_what_step w) (bind_what_step w) bind_branch_step bind_stmt_step (record { line = line; what = t })))
      (λ a b r is.
      let p = first_ok (branch_what_means w t line a b) _ r is in
      let m = h line a b p.0 p.1 in
      let made : RBranch = record { line = line; what = p.0.tree } in
      block_answer branch_right a b p.0.before made r p.2 (record {
        slots_on = m.slots_on;
        own = m.own;
        top = [];
        tree = λ all on are. part_branch form fs (slots (visible a b)) (length b.slots) (length p.0.before.slots) all line p.0.tree (m.tree all on are);
      }))

  abbrev AllBranches : List Branch → Type 0
  AllBranches bs = Each (λ b. Blocks branch_right (bind_branch w b)) bs

  -- what the first and the others of a fork come to
  two_of_fork : (a : Around) (b : Before) (p : BoundTo RBranch) (q : BoundTo (List RBranch)) → IsBlockBy branch_right a b p → IsBlockBy fork_right a p.before q → IsBlockBy fork_right a b (record { tree = p.tree ∷ q.tree; before = q.before })
  two_of_fork a b p q m n = record {
    slots_on = goes_twice b.slots p.before.slots q.before.slots m.slots_on n.slots_on;
    own = n.own ∙ m.own;
    top = [];
    tree = λ all on are.
        let there : ArePlaced (length p.before.slots) all (visible a p.before) =
        subst (λ ls. ArePlaced (length p.before.slots) all (a.outer ++ ls)) (sym m.own) (placed_later (length b.slots) (length p.before.slots) all (visible a b) (longer b.slots p.before.slots m.slots_on) are) in
        more_branches form fs (slots (visible a b)) (length b.slots) (length p.before.slots) (length q.before.slots) all p.tree q.tree
        (m.tree all (goes_twice p.before.slots q.before.slots all n.slots_on on) are)
        (subst (λ ls. ForkIn form fs (slots (a.outer ++ ls)) (length p.before.slots) (length q.before.slots) all q.tree) m.own (n.tree all on there));
  }

  branches_scope : (bs : List Branch) → AllBranches bs → Blocks fork_right (bind_branches w bs)
  branches_scope [] h a b r is = block_answer fork_right a b b [] r is (record { slots_on = as_it_was b.slots; own = refl; top = []; tree = λ all on are. no_branches form fs (slots (visible a b)) (length b.slots) all })
  branches_scope (c ∷ bs) h a b r is =
      let p = first_ok (bind_branch w c a b) _ r is in
      let q = first_ok (bind_branches w bs a p.0.before) _ r p.2 in
      block_answer fork_right a b q.0.before (p.0.tree ∷ q.0.tree) r q.2 (two_of_fork a b p.0 q.0 (h.0 a b p.0 p.1) (branches_scope bs h.1 a p.0.before q.0 q.1))

  of_them : (ts : List RBranch) (b : Before) (o : BoundTo (List RBranch)) (r : BoundTo RWhat) → bound ts b ≡ Ok o → bound (to.Par o.tree) o.before ≡ Ok r → bound (to.Par ts) b ≡ Ok r
  of_them ts b o r e h = subst (λ (z : BoundTo (List RBranch)). bound (to.Par z.tree) z.before ≡ Ok r) (is_bound ts b o e) h

  of_par : (c : Branch) (bs : List Branch) → Blocks branch_right (bind_branch w c) → AllBranches bs → OfWhat (what_means w (st.Par (c ∷ bs)))
  unfolding roll-What denote.Hole.Carrier.roll
  of_par c bs h k = at_what (What-F.Par (c ∷ bs)) (λ line a b r is.
      let o = first_ok (bind_branches w (c ∷ bs) a b) _ r is in
      let p = first_ok (bind_branch w c a b) _ o.0 o.1 in
      let q = first_ok (bind_branches w bs a p.0.before) _ o.0 p.2 in
      let m = two_of_fork a b p.0 q.0 (h a b p.0 p.1) (branches_scope bs k a p.0.before q.0 q.1) in
      let made : bound (to.Par (p.0.tree ∷ q.0.tree)) q.0.before ≡ Ok r = of_them (p.0.tree ∷ q.0.tree) q.0.before o.0 r q.2 o.2 in
      at_answer (what_right w form fs headers) a b q.0.before (to.Par (p.0.tree ∷ q.0.tree)) r made (record {
        slots_on = m.slots_on;
        more = [];
        own = m.own ∙ sym (append-nil b.own);
        placed = λ all on. tt;
        tree = λ all on are. part_par form fs (slots (visible a b)) (length b.slots) (length q.0.before.slots) all p.0.tree q.0.tree (m.tree all on are);
      }))

  -- the step of a `for` declares nothing

  store_keeps : (g : ℕ → UExpr → RWhat) (x : List ℕ) (e : Expr) (line : ℕ) (a : Around) (b : Before) (r : BoundTo RWhat) → bind_store g x e line a b ≡ Ok r → r.before.own ≡ b.own
  store_keeps g x e line a b r h =
      let v : List LocalDeclaration = visible a b in
      ap (λ (c : Before). c.own)
      (sym (its_before (g (slot_of v x) (placed v e)) b r (passed line WrongKind (option_or (no_number v x) (stream_in v e)) _ r (passed line UnknownName (unknown_in_both v x e) _ r h))))

  assign_keeps : (line : ℕ) (x : List ℕ) (e : Expr) (a : Around) (b : Before) (r : BoundTo RStmt) → (stmt_meaning w (record { line = line; what = st.Assign x e })).bind a b ≡ Ok r → r.before.own ≡ b.own
  unfolding roll-What denote.Hole.Carrier.roll
  assign_keeps line x e a b r h =
      let means : what_means w (roll-What (What-F.Assign x e)) ≡ bind_what_step w (What-F.Assign x e) = fold-roll-What BranchWhatMeans WhatMeans BranchMeans StmtMeans (bind_branch_what_step w) (bind_what_step w) bind_branch_step bind_stmt_step (What-F.Assign x e) in
      let is : on_tree (λ (t : RWhat). let s : RStmt = record { line = line; what = t } in s) (bind_store to.Assign x e line) a b ≡ Ok r =
      ap (λ (m : WhatMeans). on_tree (λ (t : RWhat). let s : RStmt = record { line = line; what = t } in s) (m.bind line) a b) (sym means)
      ∙ ap (λ (m : StmtMeans). m.bind a b) (sym (fold-roll-Stmt BranchWhatMeans WhatMeans BranchMeans StmtMeans (bind_branch_what_step w) (bind_what_step w) bind_branch_step bind_stmt_step (record { line = line; what = st.Assign x e })))
      ∙ h in
      let p = first_ok (bind_store to.Assign x e line a b) _ r is in
      ap (λ (c : Before). c.own) (sym (its_before _ p.0.before r p.2)) ∙ store_keeps to.Assign x e line a b p.0 p.1

  step_keeps : {l : ℕ} {v u : TextCounts} {s r : List Terminal} {xs : List Stmt} → IsStep limits l v u s r xs → KeepsOwn w form fs headers (bind_stmts w xs)
  step_keeps is.no_step a b r h = ap (λ (c : Before). c.own) (sym (its_before [] b r h))
  step_keeps (is.step {x = x} {p = p} {value = value} g d) a b r h =
      let o = first_ok ((stmt_meaning w (record { line = p.line; what = st.Assign x value })).bind a b) _ r h in
      ap (λ (c : Before). c.own) (sym (its_before (o.0.tree ∷ []) o.0.before r o.2)) ∙ assign_keeps p.line x value a b o.0 o.1

  -- by the derivation

  declarations_scope : {l line : ℕ} {ty : Ty} {v u : TextCounts} {s r : List Terminal} {xs : List Stmt} → IsDeclarations limits l ty line v u s r xs → AllScope xs
  declarations_scope (is.last_declared {line = line} {ty = ty} {x = x} {value = value} d) = one line (st.Declare ty x value) (of_declare ty x value)
  declarations_scope (is.declared {line = line} {ty = ty} {x = x} {value = value} d t) = (of_stmt line (st.Declare ty x value) (of_declare ty x value), declarations_scope t)

  first_scope : {l : ℕ} {v u : TextCounts} {s r : List Terminal} {xs : List Stmt} → IsFirst limits l v u s r xs → AllScope xs
  first_scope is.no_first = tt
  first_scope (is.first_declare {ty = ty} {p = p} {x = x} {value = value} h d) = one p.line (st.Declare ty x value) (of_declare ty x value)
  first_scope (is.first_assign {x = x} {p = p} {value = value} h d) = one p.line (st.Assign x value) (of_assign x value)

  step_scope : {l : ℕ} {v u : TextCounts} {s r : List Terminal} {xs : List Stmt} → IsStep limits l v u s r xs → AllScope xs
  step_scope is.no_step = tt
  step_scope (is.step {x = x} {p = p} {value = value} h d) = one p.line (st.Assign x value) (of_assign x value)

  mutual
    pub block_scope : {l : ℕ} {v u : TextCounts} {s r : List Terminal} {xs : List Stmt} → IsBlock limits l v u s r xs → AllScope xs
    block_scope is.block_end = tt
    block_scope (is.stmt {xs = xs} {ys = ys} h d t) = each_of_both StmtScopes xs ys (stmt_scope d) (block_scope t)

    stmt_scope : {l : ℕ} {v u : TextCounts} {s r : List Terminal} {xs : List Stmt} → IsStmt limits l v u s r xs → AllScope xs
    stmt_scope (is.block {p = p} {xs = xs} d h) = one p.line (st.Block xs) (of_block xs (block_scope d))
    stmt_scope (is.block_fork {p = p} {xs = xs} {bs = bs} d b) =
        one p.line (st.Par (record { line = p.line; what = br.Block xs } ∷ bs)) (of_par (record { line = p.line; what = br.Block xs }) bs (of_branch p.line (br.Block xs) (of_block_branch xs (block_scope d))) (branches_of b))
    stmt_scope (is.plain d) = plain_scope d

    body_scope : {l : ℕ} {v u : TextCounts} {s r : List Terminal} {xs : List Stmt} → IsBody limits l v u s r xs → AllScope xs
    body_scope (is.body_block d h) = block_scope d
    body_scope (is.body_fork {p = p} {xs = xs} {bs = bs} d h b) =
        one p.line (st.Par (record { line = p.line; what = br.Block xs } ∷ bs)) (of_par (record { line = p.line; what = br.Block xs }) bs (of_branch p.line (br.Block xs) (of_block_branch xs (block_scope d))) (branches_of b))
    body_scope (is.body_plain h d) = plain_scope d

    plain_scope : {l : ℕ} {v u : TextCounts} {s r : List Terminal} {xs : List Stmt} → IsPlain limits l v u s r xs → AllScope xs
    plain_scope is.empty = tt
    plain_scope (is.declare d) = declarations_scope d
    plain_scope (is.assign {x = x} {p = p} {value = value} d) = one p.line (st.Assign x value) (of_assign x value)
    plain_scope (is.assign_next {x = x} {y = y} {p = p}) = one p.line (st.AssignNext x y) (of_assign_next x y)
    plain_scope (is.get {x = x} {y = y} {p = p}) = one p.line (st.Get x y) (of_get x y)
    plain_scope (is.next {x = x} {p = p}) = one p.line (st.Next x) (of_next x)
    plain_scope (is.next_assign {x = x} {p = p} {value = value} d) = one p.line (st.NextAssign x value) (of_next_assign x value)
    plain_scope (is.put {x = x} {p = p} {value = value} d) = one p.line (st.Put x value) (of_put x value)
    plain_scope (is.if_alone {p = p} {x = x} {xs = xs} d b h) = one p.line (st.If x xs []) (of_if x xs [] (body_scope b) tt)
    plain_scope (is.if_else {p = p} {x = x} {xs = xs} {ys = ys} d b a) = one p.line (st.If x xs ys) (of_if x xs ys (body_scope b) (body_scope a))
    plain_scope (is.while {p = p} {x = x} {xs = xs} d b) = one p.line (st.While x xs) (of_while x xs (body_scope b))
    plain_scope (is.for_loop {p = p} {xs = xs} {ys = ys} {zs = zs} {x = x} f t n b) = one p.line (st.For xs x ys zs) (of_for xs x ys zs (first_scope f) (step_scope n) (step_keeps n) (body_scope b))
    plain_scope (is.call {f = f} {p = p} {xs = xs} d h) = one p.line (st.Call (record { function = f; args = xs })) (of_call (record { function = f; args = xs }))
    plain_scope (is.call_fork {f = f} {p = p} {xs = xs} {bs = bs} d b) =
        let c : CallOf = record { function = f; args = xs } in
        one p.line (st.Par (record { line = p.line; what = br.Call c } ∷ bs)) (of_par (record { line = p.line; what = br.Call c }) bs (of_branch p.line (br.Call c) (of_call_branch c)) (branches_of b))
    plain_scope (is.try {x = x} {y = y} {p = p} {xs = xs} {ys = ys} d c b) = one p.line (st.Try xs x y ys) (of_try xs x y ys (block_scope d) (block_scope b))
    plain_scope (is.throw {x = x} {p = p} {value = e} d) = one p.line (st.Throw x e) (of_throw x e)

    branches_of : {l n : ℕ} {v u : TextCounts} {s r : List Terminal} {bs : List Branch} → IsBranches limits l n v u s r bs → AllBranches bs
    branches_of (is.last_branch h d a) = (branch_of d, tt)
    branches_of (is.branch h d t) = (branch_of d, branches_of t)

    branch_of : {l : ℕ} {v u : TextCounts} {s r : List Terminal} {b : Branch} → IsBranch limits l v u s r b → Blocks branch_right (bind_branch w b)
    branch_of (is.block_branch {p = p} {xs = xs} d) = of_branch p.line (br.Block xs) (of_block_branch xs (block_scope d))
    branch_of (is.call_branch {f = f} {p = p} {xs = xs} d) = let c : CallOf = record { function = f; args = xs } in of_branch p.line (br.Call c) (of_call_branch c)

-- a parameter by value is a number

abbrev pub ByValueNumber : Param → Type 0
ByValueNumber p = p.by_ref ≡ false → is_number (Some p.sort) ≡ true

stream_or_number : (s : Sort) → is.is_stream s ≡ false → is_number (Some s) ≡ true
stream_or_number (Value t) h = refl
stream_or_number Input h = absurd (cc h)
stream_or_number Output h = absurd (cc h)

param_number : {s r : List Terminal} {p : Param} → IsParam s r p → ByValueNumber p
param_number (is.param {sort = sort}) h = stream_or_number sort h
param_number is.reference h = absurd (cc h)

more_numbers : {n : ℕ} {s r : List Terminal} {ps : List Param} → IsMoreParams limits n s r ps → Each ByValueNumber ps
more_numbers is.params_end = tt
more_numbers (is.another_param h d t) = (param_number d, more_numbers t)

params_numbers : {s r : List Terminal} {ps : List Param} → IsParams limits s r ps → Each ByValueNumber ps
params_numbers is.no_params = tt
params_numbers is.void_params = tt
params_numbers (is.params h d t) = (param_number d, more_numbers t)

-- what the text says of a function
pub record FunctionText (w : Whole) (f : Function) : Type 0 where
  pub params : Each ByValueNumber f.params
  pub body : (form : Form) (fs : List RFunction) (headers : HeadersSuit form fs w.functions) → Scopes (body_right w form fs headers) (bind_stmts w f.body)

function_text : (w : Whole) {v u : TextCounts} {s r : List Terminal} {f : Function} → IsFunction limits v u s r f → FunctionText w f
function_text w (is.function {xs = xs} {ys = ys} p t b) = record { params = params_numbers p; body = λ form fs headers. stmts_scope w form fs headers ys (block_scope w form fs headers b) }

functions_text : (w : Whole) {n : ℕ} {v : TextCounts} {s r : List Terminal} {fs : List Function} → IsFunctions limits n v s r fs → Each (FunctionText w) fs
functions_text w is.program_end = tt
functions_text w (is.another_function h d t) = (function_text w d, functions_text w t)

pub program_text : (w : Whole) {ts : List Terminal} {p : Program} → Derives limits ts p → Each (FunctionText w) p.functions
program_text w (is.version_1 d) = functions_text w d
program_text w (is.version_2 shim two d) = functions_text w d
