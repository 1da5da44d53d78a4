-- What derives a tree derives it with the names of both replaced, wherever the terminals stand in their lines.
use Rattle.std.proofs.Common.{ℕ, ◌≡◌, ◌∙◌, List, [], ◌∷◌, Bool, true, false, Option, map, refl, sym, ap, subst}
use Rattle.std.proofs.lemmas.List.{map-append}
use Rattle.shim_base.specs.declared.types.Ty.{Ty}
use Rattle.shim_base.specs.declared.token.Keyword.{Keyword}
use Rattle.shim_base.specs.declared.token.Keyword.TheVariants as k
use Rattle.shim_base.specs.declared.operators.UnOp.TheVariants.{Neg, Not, Flip}
use Rattle.shim_base.specs.Tokens.{Place}
use Rattle.shim_syntax.specs.declared.tree.Expr.{Expr}
use Rattle.shim_syntax.specs.declared.tree.Stmt.{Stmt}
use Rattle.shim_syntax.specs.declared.tree.What.TheVariants as st
use Rattle.shim_syntax.specs.declared.tree.Branch.{Branch}
use Rattle.shim_syntax.specs.declared.tree.Param.{Param}
use Rattle.shim_syntax.specs.declared.tree.Function.{Function}
use Rattle.shim_syntax.specs.Terminals.{Terminal, Name, Number, Sort, Key, Sign, End, Broken, first}
use Rattle.shim_syntax.specs.Limits.{limits}
use Rattle.shim_syntax.specs.Grammar as is
use Rattle.shim_syntax.specs.Grammar.{TextCounts, is_else, is_par, operator_of_sign, IsExpr, IsChain, IsArguments, IsMoreArguments, IsDeclared, IsDeclarations, IsFirst, IsTest, IsStep, IsBlock, IsStmt, IsBody, IsPlain, IsBranches, IsBranch, IsThrowRest, IsCatchRest, IsParam, IsParams, IsMoreParams, IsThrows, IsMoreThrows, IsFunction, IsFunctions}
use Rattle.shim_up.specs.Renaming.{Renaming, renamed_expr, renamed_option, renamed_variable, renamed_stmt, renamed_param, renamed_function, renamed_functions}
use Rattle.shim_laws_up.specs.Rewriting.{at_byte, rewritten}
use Rattle.shim_laws_up.proofs.Layers.{renamed_branch}
use Rattle.shim_laws_up.proofs.RenamedSteps.{renamed_number, name_renamed, renamed_unary, renamed_binary, declare_renamed, assign_renamed, next_renamed, next_assign_renamed, assign_next_renamed, get_renamed, put_renamed, if_renamed, while_renamed, for_renamed, block_renamed, call_renamed, try_renamed, throw_renamed, par_renamed, block_branch_renamed, call_branch_renamed}

-- a keyword means the same wherever it stands
key_par : (w : Keyword) (p q : Place) → is_par (Key w q) ≡ is_par (Key w p)
key_par k.Void p q = refl
key_par k.Throws p q = refl
key_par k.Bool p q = refl
key_par k.Int p q = refl
key_par k.Int8 p q = refl
key_par k.Int16 p q = refl
key_par k.Int32 p q = refl
key_par k.Uint8 p q = refl
key_par k.Uint16 p q = refl
key_par k.Uint32 p q = refl
key_par k.Istream p q = refl
key_par k.Ostream p q = refl
key_par k.Next p q = refl
key_par k.Get p q = refl
key_par k.Put p q = refl
key_par k.If p q = refl
key_par k.Else p q = refl
key_par k.While p q = refl
key_par k.For p q = refl
key_par k.Try p q = refl
key_par k.Catch p q = refl
key_par k.Throw p q = refl
key_par k.Par p q = refl
key_par k.TrueKey p q = refl
key_par k.FalseKey p q = refl

key_else : (w : Keyword) (p q : Place) → is_else (Key w q) ≡ is_else (Key w p)
key_else k.Void p q = refl
key_else k.Throws p q = refl
key_else k.Bool p q = refl
key_else k.Int p q = refl
key_else k.Int8 p q = refl
key_else k.Int16 p q = refl
key_else k.Int32 p q = refl
key_else k.Uint8 p q = refl
key_else k.Uint16 p q = refl
key_else k.Uint32 p q = refl
key_else k.Istream p q = refl
key_else k.Ostream p q = refl
key_else k.Next p q = refl
key_else k.Get p q = refl
key_else k.Put p q = refl
key_else k.If p q = refl
key_else k.Else p q = refl
key_else k.While p q = refl
key_else k.For p q = refl
key_else k.Try p q = refl
key_else k.Catch p q = refl
key_else k.Throw p q = refl
key_else k.Par p q = refl
key_else k.TrueKey p q = refl
key_else k.FalseKey p q = refl

-- whether the text is of version 2, if it is to be or was
abbrev either : Bool → Bool → Bool
either true two = true
either false two = two

of_version_2 : (later two : Bool) → two ≡ true → either later two ≡ true
of_version_2 true two h = refl
of_version_2 false two h = h

module _ (f : Renaming) (later : Bool) (end : Place) (place : ℕ → ℕ) where
  -- the terminals with their names replaced
  abbrev new : List Terminal → List Terminal
  new s = rewritten f end place s

  -- and what was read, of a text of version 2 where this is asked for
  abbrev seen : TextCounts → TextCounts
  seen v = record v { two = either later v.two }

  abbrev stmts : List Stmt → List Stmt
  stmts xs = map (renamed_stmt f) xs

  abbrev branches : List Branch → List Branch
  branches bs = map (renamed_branch f) bs

  par_same : (r : List Terminal) → is_par (first r) ≡ false → is_par (first (new r)) ≡ false
  par_same [] h = refl
  par_same (Name x p ∷ r) h = h
  par_same (Number n p ∷ r) h = h
  par_same (Sort s p ∷ r) h = h
  par_same (Key w p ∷ r) h = key_par w p (at_byte _ p) ∙ h
  par_same (Sign s p ∷ r) h = h
  par_same (End p ∷ r) h = h
  par_same (Broken w p ∷ r) h = h

  else_same : (r : List Terminal) → is_else (first r) ≡ false → is_else (first (new r)) ≡ false
  else_same [] h = refl
  else_same (Name x p ∷ r) h = h
  else_same (Number n p ∷ r) h = h
  else_same (Sort s p ∷ r) h = h
  else_same (Key w p ∷ r) h = key_else w p (at_byte _ p) ∙ h
  else_same (Sign s p ∷ r) h = h
  else_same (End p ∷ r) h = h
  else_same (Broken w p ∷ r) h = h

  module _ (n l : ℕ) (v w : TextCounts) (s r : List Terminal) where
    as_expr : (x y : Expr) → x ≡ y → IsExpr limits n l v w s r y → IsExpr limits n l v w s r x
    as_expr x y q d = subst (λ z. IsExpr limits n l v w s r z) (sym q) d

  mutual
    expr_rewritten : {n l : ℕ} {v w : TextCounts} {s r : List Terminal} {x : Expr} → IsExpr limits n l v w s r x → IsExpr limits n l (seen v) (seen w) (new s) (new r) (renamed_expr f x)
    expr_rewritten (is.number {n = n}) = as_expr _ _ _ _ _ _ _ _ (renamed_number f n) is.number
    expr_rewritten (is.variable {x = x}) = as_expr _ _ _ _ _ _ _ _ (name_renamed f x) is.variable
    expr_rewritten (is.parens h d) = is.parens h (expr_rewritten d)
    expr_rewritten (is.negative {x = x} h i d) = as_expr _ _ _ _ _ _ _ _ (renamed_unary f Neg x) (is.negative h i (expr_rewritten d))
    expr_rewritten (is.negation {x = x} h i d) = as_expr _ _ _ _ _ _ _ _ (renamed_unary f Not x) (is.negation h i (expr_rewritten d))
    expr_rewritten (is.complement {x = x} h i d) = as_expr _ _ _ _ _ _ _ _ (renamed_unary f Flip x) (is.complement h i (expr_rewritten d))
    expr_rewritten (is.row d c) = is.row (expr_rewritten d) (chain_rewritten c)

    chain_rewritten : {n l : ℕ} {v w : TextCounts} {s r : List Terminal} {x y : Expr} → IsChain limits n l v w s r x y → IsChain limits n l (seen v) (seen w) (new s) (new r) (renamed_expr f x) (renamed_expr f y)
    chain_rewritten is.stop = is.stop
    chain_rewritten (is.join {n = n} {l = l} {u = u} {w = w} {o = o} {m = m} {r = r} {x = x} {y = y} {z = z} h i d c) =
        is.join h i (expr_rewritten d) (subst (λ q. IsChain limits n l (seen u) (seen w) (new m) (new r) q (renamed_expr f z)) (renamed_binary f (operator_of_sign o) x y) (chain_rewritten c))

  mutual
    arguments_rewritten : {l : ℕ} {v w : TextCounts} {s r : List Terminal} {xs : List Expr} → IsArguments limits l v w s r xs → IsArguments limits l (seen v) (seen w) (new s) (new r) (map (renamed_expr f) xs)
    arguments_rewritten is.no_arguments = is.no_arguments
    arguments_rewritten (is.arguments h d m) = is.arguments h (expr_rewritten d) (more_arguments_rewritten m)

    more_arguments_rewritten : {l n : ℕ} {v w : TextCounts} {s r : List Terminal} {xs : List Expr} → IsMoreArguments limits l n v w s r xs → IsMoreArguments limits l n (seen v) (seen w) (new s) (new r) (map (renamed_expr f) xs)
    more_arguments_rewritten is.arguments_end = is.arguments_end
    more_arguments_rewritten (is.argument h d m) = is.argument h (expr_rewritten d) (more_arguments_rewritten m)

  declared_rewritten : {l : ℕ} {v w : TextCounts} {s r : List Terminal} {x : List ℕ} {a : Option Expr} → IsDeclared limits l v w s r x a → IsDeclared limits l (seen v) (seen w) (new s) (new r) (f x) (renamed_option f a)
  declared_rewritten (is.without_value h) = is.without_value h
  declared_rewritten (is.with_value h d) = is.with_value h (expr_rewritten d)

  -- one statement, and more after it
  one_and : (x y : Stmt) (xs ys : List Stmt) → x ≡ y → xs ≡ ys → x ∷ xs ≡ y ∷ ys
  one_and x y xs ys p q = ap (λ z. z ∷ xs) p ∙ ap (λ zs. y ∷ zs) q

  declarations_rewritten : {l line : ℕ} {ty : Ty} {v w : TextCounts} {s r : List Terminal} {xs : List Stmt} → IsDeclarations limits l ty line v w s r xs → IsDeclarations limits l ty line (seen v) (seen w) (new s) (new r) (stmts xs)
  declarations_rewritten {l = l} {line = line} {ty = ty} {v = v} {w = w} {s = s} {r = r} (is.last_declared {x = x} {value = a} d) =
      subst (λ zs. IsDeclarations limits l ty line (seen v) (seen w) (new s) (new r) zs) (sym (one_and _ _ _ _ (declare_renamed f line ty x a) refl)) (is.last_declared (declared_rewritten d))
  declarations_rewritten {l = l} {line = line} {ty = ty} {v = v} {w = w} {s = s} {r = r} (is.declared {x = x} {value = a} d m) =
      subst (λ zs. IsDeclarations limits l ty line (seen v) (seen w) (new s) (new r) zs) (sym (one_and _ _ _ _ (declare_renamed f line ty x a) refl)) (is.declared (declared_rewritten d) (declarations_rewritten m))

  first_rewritten : {l : ℕ} {v w : TextCounts} {s r : List Terminal} {xs : List Stmt} → IsFirst limits l v w s r xs → IsFirst limits l (seen v) (seen w) (new s) (new r) (stmts xs)
  first_rewritten is.no_first = is.no_first
  first_rewritten {l = l} {v = v} {w = w} {s = s} {r = r} (is.first_declare {ty = ty} {p = p} {x = x} {value = a} h d) =
      subst (λ zs. IsFirst limits l (seen v) (seen w) (new s) (new r) zs) (sym (one_and _ _ _ _ (declare_renamed f p.line ty x a) refl)) (is.first_declare h (declared_rewritten d))
  first_rewritten {l = l} {v = v} {w = w} {s = s} {r = r} (is.first_assign {x = x} {p = p} {value = a} h d) =
      subst (λ zs. IsFirst limits l (seen v) (seen w) (new s) (new r) zs) (sym (one_and _ _ _ _ (assign_renamed f p.line x a) refl)) (is.first_assign h (expr_rewritten d))

  test_rewritten : {l : ℕ} {v w : TextCounts} {s r : List Terminal} {a : Option Expr} → IsTest limits l v w s r a → IsTest limits l (seen v) (seen w) (new s) (new r) (renamed_option f a)
  test_rewritten is.no_test = is.no_test
  test_rewritten (is.test d) = is.test (expr_rewritten d)

  step_rewritten : {l : ℕ} {v w : TextCounts} {s r : List Terminal} {xs : List Stmt} → IsStep limits l v w s r xs → IsStep limits l (seen v) (seen w) (new s) (new r) (stmts xs)
  step_rewritten is.no_step = is.no_step
  step_rewritten {l = l} {v = v} {w = w} {s = s} {r = r} (is.step {x = x} {p = p} {value = a} h d) =
      subst (λ zs. IsStep limits l (seen v) (seen w) (new s) (new r) zs) (sym (one_and _ _ _ _ (assign_renamed f p.line x a) refl)) (is.step h (expr_rewritten d))

  throw_rewritten : {l : ℕ} {v w : TextCounts} {s r : List Terminal} {a : Option Expr} → IsThrowRest limits l v w s r a → IsThrowRest limits l (seen v) (seen w) (new s) (new r) (renamed_option f a)
  throw_rewritten is.no_number = is.no_number
  throw_rewritten (is.thrown_number {v = v} two d) = is.thrown_number (of_version_2 later v.two two) (expr_rewritten d)

  catch_rewritten : {v w : TextCounts} {s r : List Terminal} {y : Option (List ℕ)} → IsCatchRest limits v w s r y → IsCatchRest limits (seen v) (seen w) (new s) (new r) (renamed_variable f y)
  catch_rewritten is.no_variable = is.no_variable
  catch_rewritten (is.catch_variable {v = v} two h) = is.catch_variable (of_version_2 later v.two two) h

  module _ (l : ℕ) (v w : TextCounts) (s r : List Terminal) where
    as_plain : (x y : Stmt) → x ≡ y → IsPlain limits l v w s r (y ∷ []) → IsPlain limits l v w s r (x ∷ [])
    as_plain x y q d = subst (λ z. IsPlain limits l v w s r (z ∷ [])) (sym q) d

    as_stmt : (x y : Stmt) → x ≡ y → IsStmt limits l v w s r (y ∷ []) → IsStmt limits l v w s r (x ∷ [])
    as_stmt x y q d = subst (λ z. IsStmt limits l v w s r (z ∷ [])) (sym q) d

    as_body : (x y : Stmt) → x ≡ y → IsBody limits l v w s r (y ∷ []) → IsBody limits l v w s r (x ∷ [])
    as_body x y q d = subst (λ z. IsBody limits l v w s r (z ∷ [])) (sym q) d

    as_branch_of : (x y : Branch) → x ≡ y → IsBranch limits l v w s r y → IsBranch limits l v w s r x
    as_branch_of x y q d = subst (λ z. IsBranch limits l v w s r z) (sym q) d

  abbrev fork : ℕ → Branch → List Branch → Stmt
  fork line b bs = record { line = line; what = st.Par (b ∷ bs) }

  fork_renamed : (line : ℕ) (b c : Branch) (bs : List Branch) → renamed_branch f b ≡ c → renamed_stmt f (fork line b bs) ≡ fork line c (branches bs)
  fork_renamed line b c bs q = par_renamed f line (b ∷ bs) ∙ ap (λ z. fork line z (branches bs)) q

  mutual
    block_rewritten : {l : ℕ} {v w : TextCounts} {s r : List Terminal} {xs : List Stmt} → IsBlock limits l v w s r xs → IsBlock limits l (seen v) (seen w) (new s) (new r) (stmts xs)
    block_rewritten is.block_end = is.block_end
    block_rewritten {l = l} {v = v} {w = w} {s = s} {r = r} (is.stmt {xs = xs} {ys = ys} h d b) =
        subst (λ zs. IsBlock limits l (seen v) (seen w) (new s) (new r) zs) (sym (map-append (renamed_stmt f) xs ys)) (is.stmt h (stmt_rewritten d) (block_rewritten b))

    stmt_rewritten : {l : ℕ} {v w : TextCounts} {s r : List Terminal} {xs : List Stmt} → IsStmt limits l v w s r xs → IsStmt limits l (seen v) (seen w) (new s) (new r) (stmts xs)
    stmt_rewritten {r = r} (is.block {p = p} {xs = xs} b h) = as_stmt _ _ _ _ _ _ _ (block_renamed f p.line xs) (is.block (block_rewritten b) (par_same r h))
    stmt_rewritten (is.block_fork {p = p} {xs = xs} {bs = bs} b t) = as_stmt _ _ _ _ _ _ _ (fork_renamed p.line _ _ bs (block_branch_renamed f p.line xs)) (is.block_fork (block_rewritten b) (branches_rewritten t))
    stmt_rewritten (is.plain d) = is.plain (plain_rewritten d)

    body_rewritten : {l : ℕ} {v w : TextCounts} {s r : List Terminal} {xs : List Stmt} → IsBody limits l v w s r xs → IsBody limits l (seen v) (seen w) (new s) (new r) (stmts xs)
    body_rewritten {r = r} (is.body_block b h) = is.body_block (block_rewritten b) (par_same r h)
    body_rewritten (is.body_fork {p = p} {xs = xs} {bs = bs} b h t) = as_body _ _ _ _ _ _ _ (fork_renamed p.line _ _ bs (block_branch_renamed f p.line xs)) (is.body_fork (block_rewritten b) h (branches_rewritten t))
    body_rewritten (is.body_plain h d) = is.body_plain h (plain_rewritten d)

    plain_rewritten : {l : ℕ} {v w : TextCounts} {s r : List Terminal} {xs : List Stmt} → IsPlain limits l v w s r xs → IsPlain limits l (seen v) (seen w) (new s) (new r) (stmts xs)
    plain_rewritten is.empty = is.empty
    plain_rewritten (is.declare d) = is.declare (declarations_rewritten d)
    plain_rewritten (is.assign {x = x} {p = p} {value = a} d) = as_plain _ _ _ _ _ _ _ (assign_renamed f p.line x a) (is.assign (expr_rewritten d))
    plain_rewritten (is.assign_next {x = x} {y = y} {p = p}) = as_plain _ _ _ _ _ _ _ (assign_next_renamed f p.line x y) is.assign_next
    plain_rewritten (is.get {x = x} {y = y} {p = p}) = as_plain _ _ _ _ _ _ _ (get_renamed f p.line x y) is.get
    plain_rewritten (is.next {x = x} {p = p}) = as_plain _ _ _ _ _ _ _ (next_renamed f p.line x) is.next
    plain_rewritten (is.next_assign {x = x} {p = p} {value = a} d) = as_plain _ _ _ _ _ _ _ (next_assign_renamed f p.line x a) (is.next_assign (expr_rewritten d))
    plain_rewritten (is.put {x = x} {p = p} {value = a} d) = as_plain _ _ _ _ _ _ _ (put_renamed f p.line x a) (is.put (expr_rewritten d))
    plain_rewritten {r = r} (is.if_alone {p = p} {x = x} {xs = xs} d b h) = as_plain _ _ _ _ _ _ _ (if_renamed f p.line x xs []) (is.if_alone (expr_rewritten d) (body_rewritten b) (else_same r h))
    plain_rewritten (is.if_else {p = p} {x = x} {xs = xs} {ys = ys} d b c) = as_plain _ _ _ _ _ _ _ (if_renamed f p.line x xs ys) (is.if_else (expr_rewritten d) (body_rewritten b) (body_rewritten c))
    plain_rewritten (is.while {p = p} {x = x} {xs = xs} d b) = as_plain _ _ _ _ _ _ _ (while_renamed f p.line x xs) (is.while (expr_rewritten d) (body_rewritten b))
    plain_rewritten (is.for_loop {p = p} {xs = xs} {ys = ys} {zs = zs} {x = x} a t o b) =
        as_plain _ _ _ _ _ _ _ (for_renamed f p.line xs x ys zs) (is.for_loop (first_rewritten a) (test_rewritten t) (step_rewritten o) (body_rewritten b))
    plain_rewritten {r = r} (is.call {f = h} {p = p} {xs = xs} d i) = as_plain _ _ _ _ _ _ _ (call_renamed f p.line (record { function = h; args = xs })) (is.call (arguments_rewritten d) (par_same r i))
    plain_rewritten (is.call_fork {f = h} {p = p} {xs = xs} {bs = bs} d t) =
        as_plain _ _ _ _ _ _ _ (fork_renamed p.line _ _ bs (call_branch_renamed f p.line (record { function = h; args = xs }))) (is.call_fork (arguments_rewritten d) (branches_rewritten t))
    plain_rewritten (is.try {x = x} {y = y} {p = p} {xs = xs} {ys = ys} b c d) =
        as_plain _ _ _ _ _ _ _ (try_renamed f p.line xs x y ys) (is.try (block_rewritten b) (catch_rewritten c) (block_rewritten d))
    plain_rewritten (is.throw {x = x} {p = p} {value = a} d) = as_plain _ _ _ _ _ _ _ (throw_renamed f p.line x a) (is.throw (throw_rewritten d))

    branches_rewritten : {l n : ℕ} {v w : TextCounts} {s r : List Terminal} {bs : List Branch} → IsBranches limits l n v w s r bs → IsBranches limits l n (seen v) (seen w) (new s) (new r) (branches bs)
    branches_rewritten {r = r} (is.last_branch h b i) = is.last_branch h (branch_rewritten b) (par_same r i)
    branches_rewritten (is.branch h b t) = is.branch h (branch_rewritten b) (branches_rewritten t)

    branch_rewritten : {l : ℕ} {v w : TextCounts} {s r : List Terminal} {b : Branch} → IsBranch limits l v w s r b → IsBranch limits l (seen v) (seen w) (new s) (new r) (renamed_branch f b)
    branch_rewritten (is.block_branch {p = p} {xs = xs} b) = as_branch_of _ _ _ _ _ _ _ (block_branch_renamed f p.line xs) (is.block_branch (block_rewritten b))
    branch_rewritten (is.call_branch {f = h} {p = p} {xs = xs} d) = as_branch_of _ _ _ _ _ _ _ (call_branch_renamed f p.line (record { function = h; args = xs })) (is.call_branch (arguments_rewritten d))

  param_rewritten : {s r : List Terminal} {x : Param} → IsParam s r x → IsParam (new s) (new r) (renamed_param f x)
  param_rewritten is.param = is.param
  param_rewritten is.reference = is.reference

  mutual
    params_rewritten : {s r : List Terminal} {xs : List Param} → IsParams limits s r xs → IsParams limits (new s) (new r) (map (renamed_param f) xs)
    params_rewritten is.no_params = is.no_params
    params_rewritten is.void_params = is.void_params
    params_rewritten (is.params h d m) = is.params h (param_rewritten d) (more_params_rewritten m)

    more_params_rewritten : {n : ℕ} {s r : List Terminal} {xs : List Param} → IsMoreParams limits n s r xs → IsMoreParams limits n (new s) (new r) (map (renamed_param f) xs)
    more_params_rewritten is.params_end = is.params_end
    more_params_rewritten (is.another_param h d m) = is.another_param h (param_rewritten d) (more_params_rewritten m)

  more_throws_rewritten : {n : ℕ} {s r : List Terminal} {xs : List (List ℕ)} → IsMoreThrows limits n s r xs → IsMoreThrows limits n (new s) (new r) (map f xs)
  more_throws_rewritten is.throws_end = is.throws_end
  more_throws_rewritten (is.another_throws h m) = is.another_throws h (more_throws_rewritten m)

  throws_rewritten : {s r : List Terminal} {xs : List (List ℕ)} → IsThrows limits s r xs → IsThrows limits (new s) (new r) (map f xs)
  throws_rewritten is.no_throws = is.no_throws
  throws_rewritten (is.throws h m) = is.throws h (more_throws_rewritten m)

  function_rewritten : {v w : TextCounts} {s r : List Terminal} {h : Function} → IsFunction limits v w s r h → IsFunction limits (seen v) (seen w) (new s) (new r) (renamed_function f h)
  function_rewritten (is.function a t b) = is.function (params_rewritten a) (throws_rewritten t) (block_rewritten b)

  pub functions_rewritten : {n : ℕ} {v : TextCounts} {s r : List Terminal} {fs : List Function} → IsFunctions limits n v s r fs → IsFunctions limits n (seen v) (new s) (new r) (renamed_functions f fs)
  functions_rewritten is.program_end = is.program_end
  functions_rewritten (is.another_function h d t) = is.another_function h (function_rewritten d) (functions_rewritten t)
