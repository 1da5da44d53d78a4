-- The exits of the functions that read statements which hold others, after their keywords.
use Rattle.std.proofs.Common.{◌≡◌, ℕ, suc, List, [], ◌∷◌, Option, Bool, true, false, IsTrue, ◌↔◌, refl, sym, ◌∙◌, ap, subst}
use Rattle.shim_base.specs.declared.token.Keyword.TheVariants as k
use Rattle.shim_base.specs.declared.token.Sign.TheVariants as g
use Rattle.shim_base.specs.Tokens.{Place}
use Rattle.shim_syntax.specs.declared.Expr.{Expr}
use Rattle.shim_syntax.specs.declared.Stmt.{Stmt}
use Rattle.shim_syntax.specs.declared.tree.What.TheVariants as st
use Rattle.shim_syntax.specs.Terminals.{Terminal, Name, Key, Sign, first}
use Rattle.shim_syntax.specs.Limits.{limits}
use Rattle.shim_syntax.specs.Grammar as is
use Rattle.shim_syntax.specs.Grammar.{is_else, IsBlock, IsBody, IsCatchRest, IsWhole}
use Rattle.shim_grammar.specs.declared.punctuation.Punctuation.TheVariants as punctuation
use Rattle.shim_grammar.specs.Machine.{SymbolStack, CatchRest, Fixed, Word, Expression, Operators, Block, Body, Else, First, Test, Step}
use Rattle.shim_grammar.proofs.RunsStmt.{catch_rest_runs}
use Rattle.shim_parser.specs.declared.fault.ParseFault.{ParseFault}
use Rattle.shim_parser.specs.declared.for_parts.ForParts.{ForParts}
use Rattle.shim_parser.specs.Parts.{IsPunctuation, IsName, IsTestOf}
use Rattle.shim_parser.specs.Headers.{IsHeader}
use Rattle.shim_parser.specs.Statements.{IsKeyAt, IsKeyed}
use Rattle.shim_parser.specs.ReaderViews.{ReaderView, Fails}
use Rattle.shim_parser.proofs.Exits.{Leads, Took, took, fails_as, fails_under}
use Rattle.shim_parser.proofs.Sequences.{then, same_run, punctuation_leads, test_leads, header_leads, block_leads, body_leads}
use Rattle.shim_parser.proofs.PlainExits.{name_leads}
use Rattle.shim_parser.proofs.StmtExits.{no_key}

not_else : (t : Terminal) (b : Bool) → IsTrue b ↔ IsKeyAt k.Else t → b ≡ false → is_else t ≡ false
not_else t b h n = none t (no_key k.Else t b h n)
  where
    none : (t : Terminal) → (IsKeyAt k.Else t → ⊥) → is_else t ≡ false
    none (Key k.Else p) h = absurd (h (p, refl))
    none _ h = refl

abbrev pub IfStack : ℕ → SymbolStack
IfStack l = Fixed punctuation.LeftParen ∷ Expression l ∷ Operators l ∷ Fixed punctuation.RightParen ∷ Body (suc l) ∷ Else (suc l) ∷ []

-- after `if`: at b after the test
module _ (l j : ℕ) (e : j ≡ suc l) (a b : ReaderView) (x : Expr) (t : IsTestOf l a.counts b.counts a.rest b.rest x) where
  pub if_then_fails : (at : ReaderView) (err : ParseFault) → Fails (Body j ∷ []) b at err → Fails (IfStack l) a at err
  if_then_fails at err f = fails_under (IfStack l) (Body (suc l) ∷ []) (Else (suc l) ∷ []) a b at err (test_leads l (Body (suc l) ∷ Else (suc l) ∷ []) a b x t) (subst (λ u. Fails (Body u ∷ []) b at err) e f)

  -- at d after the body
  module _ (d : ReaderView) (xs : List Stmt) (o : IsBody limits j b.counts d.counts b.rest d.rest xs) (y : Bool) (h : IsTrue y ↔ IsKeyAt k.Else (first d.rest)) where
    then_is : IsBody limits (suc l) b.counts d.counts b.rest d.rest xs
    then_is = subst (λ u. IsBody limits u b.counts d.counts b.rest d.rest xs) e o

    if_passed : Leads (IfStack l) (Else (suc l) ∷ []) a d
    if_passed = then (IfStack l) (Body (suc l) ∷ Else (suc l) ∷ []) (Else (suc l) ∷ []) a b d (test_leads l (Body (suc l) ∷ Else (suc l) ∷ []) a b x t) (body_leads (suc l) (Else (suc l) ∷ []) b d xs then_is)

    pub if_alone_reads : (empty : List Stmt) → empty ≡ [] → y ≡ false → IsKeyed k.If l a.counts d.counts a.rest d.rest (st.If x xs empty)
    if_alone_reads empty w n p = rw (w, t.3) (is.if_alone t.4 then_is (not_else (first d.rest) y h n))

    -- at m after the `else`
    module _ (i : y ≡ true) (m : ReaderView) (q : d ≡ record { rest = first d.rest ∷ m.rest; counts = m.counts }) where
      abbrev else_place : Place
      else_place = (h.0 i).0

      else_took : Took (Key k.Else else_place) d m
      else_took = took (sym ((h.0 i).1)) q

      pub if_else_fails : (at : ReaderView) (err : ParseFault) → Fails (Body j ∷ []) m at err → Fails (IfStack l) a at err
      if_else_fails at err f = fails_as (IfStack l) (Body (suc l) ∷ []) a m at err
          (λ z. if_passed z ∙ same_run d.rest (Key k.Else else_place ∷ m.rest) (Else (suc l) ∷ z) d.counts m.counts else_took.rest else_took.counts)
          (subst (λ u. Fails (Body u ∷ []) m at err) e f)

      pub if_else_reads : (n : ReaderView) (ys : List Stmt) → IsBody limits j m.counts n.counts m.rest n.rest ys → IsKeyed k.If l a.counts n.counts a.rest n.rest (st.If x xs ys)
      if_else_reads n ys w p = rw t.3 (is.if_else t.4 (subst (λ u. IsBody limits (suc l) b.counts u b.rest (Key k.Else else_place ∷ m.rest) xs) else_took.counts
          (subst (λ u. IsBody limits (suc l) b.counts d.counts b.rest u xs) else_took.rest then_is)) (subst (λ u. IsBody limits u m.counts n.counts m.rest n.rest ys) e w))

  -- after `while`
  pub while_body_fails : (at : ReaderView) (err : ParseFault) → Fails (Body j ∷ []) b at err → Fails (Fixed punctuation.LeftParen ∷ Expression l ∷ Operators l ∷ Fixed punctuation.RightParen ∷ Body (suc l) ∷ []) a at err
  while_body_fails at err f = fails_as (Fixed punctuation.LeftParen ∷ Expression l ∷ Operators l ∷ Fixed punctuation.RightParen ∷ Body (suc l) ∷ []) (Body (suc l) ∷ []) a b at err
      (test_leads l (Body (suc l) ∷ []) a b x t) (subst (λ u. Fails (Body u ∷ []) b at err) e f)

  pub while_reads : (d : ReaderView) (xs : List Stmt) → IsBody limits j b.counts d.counts b.rest d.rest xs → IsKeyed k.While l a.counts d.counts a.rest d.rest (st.While x xs)
  while_reads d xs o p = rw t.3 (is.while t.4 (subst (λ u. IsBody limits u b.counts d.counts b.rest d.rest xs) e o))

-- after `for`: at b after the parentheses
module _ (l j : ℕ) (e : j ≡ suc l) (a b : ReaderView) (parts : ForParts) (t : IsHeader l a.counts b.counts a.rest b.rest parts) where
  pub for_body_fails : (at : ReaderView) (err : ParseFault) → Fails (Body j ∷ []) b at err → Fails (Fixed punctuation.LeftParen ∷ First (suc l) ∷ Test l ∷ Step (suc l) ∷ Body (suc l) ∷ []) a at err
  for_body_fails at err f = fails_as (Fixed punctuation.LeftParen ∷ First (suc l) ∷ Test l ∷ Step (suc l) ∷ Body (suc l) ∷ []) (Body (suc l) ∷ []) a b at err
      (header_leads l (Body (suc l) ∷ []) a b parts t) (subst (λ u. Fails (Body u ∷ []) b at err) e f)

  pub for_reads : (d : ReaderView) (xs : List Stmt) → IsBody limits j b.counts d.counts b.rest d.rest xs → IsKeyed k.For l a.counts d.counts a.rest d.rest (st.For parts.first parts.test parts.step xs)
  for_reads d xs o p = rw t.6 (is.for_loop t.7 t.8 t.9 (subst (λ u. IsBody limits u b.counts d.counts b.rest d.rest xs) e o))

abbrev pub HandlerStack : ℕ → SymbolStack
HandlerStack l = CatchRest ∷ Block (suc l) ∷ []

abbrev pub NamedStack : ℕ → SymbolStack
NamedStack l = Word ∷ HandlerStack l

abbrev pub CatchStack : ℕ → SymbolStack
CatchStack l = Fixed punctuation.Catch ∷ Fixed punctuation.LeftParen ∷ NamedStack l

abbrev pub TryStack : ℕ → SymbolStack
TryStack l = Fixed punctuation.LeftBrace ∷ Block (suc l) ∷ CatchStack l

-- after `try`: at b after the brace
module _ (l j : ℕ) (e : j ≡ suc l) (a b : ReaderView) (t : IsPunctuation punctuation.LeftBrace a.counts b.counts a.rest b.rest tt) where
  try_opened : Leads (TryStack l) (Block (suc l) ∷ CatchStack l) a b
  try_opened = punctuation_leads punctuation.LeftBrace (Block (suc l) ∷ CatchStack l) a b t

  pub tried_fails : (at : ReaderView) (err : ParseFault) → Fails (Block j ∷ []) b at err → Fails (TryStack l) a at err
  tried_fails at err f = fails_under (TryStack l) (Block (suc l) ∷ []) (CatchStack l) a b at err try_opened (subst (λ u. Fails (Block u ∷ []) b at err) e f)

  -- at d after the block
  module _ (d : ReaderView) (xs : List Stmt) (o : IsBlock limits j b.counts d.counts b.rest d.rest xs) where
    tried_is : IsBlock limits (suc l) b.counts d.counts b.rest d.rest xs
    tried_is = subst (λ u. IsBlock limits u b.counts d.counts b.rest d.rest xs) e o

    tried_leads : Leads (TryStack l) (CatchStack l) a d
    tried_leads = then (TryStack l) (Block (suc l) ∷ CatchStack l) (CatchStack l) a b d try_opened (block_leads (suc l) (CatchStack l) b d xs tried_is)

    pub catch_fails : (at : ReaderView) (err : ParseFault) → Fails (Fixed punctuation.Catch ∷ []) d at err → Fails (TryStack l) a at err
    catch_fails at err f = fails_under (TryStack l) (Fixed punctuation.Catch ∷ []) (Fixed punctuation.LeftParen ∷ NamedStack l) a d at err tried_leads f

    -- at m after `catch`
    module _ (m : ReaderView) (c : IsPunctuation punctuation.Catch d.counts m.counts d.rest m.rest tt) where
      catch_leads : Leads (TryStack l) (Fixed punctuation.LeftParen ∷ NamedStack l) a m
      catch_leads = then (TryStack l) (CatchStack l) (Fixed punctuation.LeftParen ∷ NamedStack l) a d m tried_leads (punctuation_leads punctuation.Catch (Fixed punctuation.LeftParen ∷ NamedStack l) d m c)

      pub catch_paren_fails : (at : ReaderView) (err : ParseFault) → Fails (Fixed punctuation.LeftParen ∷ []) m at err → Fails (TryStack l) a at err
      catch_paren_fails at err f = fails_under (TryStack l) (Fixed punctuation.LeftParen ∷ []) (NamedStack l) a m at err catch_leads f

      -- at n after its parenthesis
      module _ (n : ReaderView) (p : IsPunctuation punctuation.LeftParen m.counts n.counts m.rest n.rest tt) where
        paren_leads : Leads (TryStack l) (NamedStack l) a n
        paren_leads = then (TryStack l) (Fixed punctuation.LeftParen ∷ NamedStack l) (NamedStack l) a m n catch_leads (punctuation_leads punctuation.LeftParen (NamedStack l) m n p)

        pub exception_fails : (at : ReaderView) (err : ParseFault) → Fails (Word ∷ []) n at err → Fails (TryStack l) a at err
        exception_fails at err f = fails_under (TryStack l) (Word ∷ []) (HandlerStack l) a n at err paren_leads f

        -- at q after the name
        module _ (q : ReaderView) (x : List ℕ) (w : IsName n.counts q.counts n.rest q.rest x) where
          exception_leads : Leads (TryStack l) (HandlerStack l) a q
          exception_leads = then (TryStack l) (NamedStack l) (HandlerStack l) a n q paren_leads (name_leads (HandlerStack l) n q x w)

          pub catch_rest_fails : (at : ReaderView) (err : ParseFault) → Fails (CatchRest ∷ []) q at err → Fails (TryStack l) a at err
          catch_rest_fails at err f = fails_under (TryStack l) (CatchRest ∷ []) (Block (suc l) ∷ []) a q at err exception_leads f

          -- at r after the brace
          module _ (r : ReaderView) (y : Option (List ℕ)) (v : IsCatchRest limits q.counts r.counts q.rest r.rest y) where
            pub handler_fails : (at : ReaderView) (err : ParseFault) → Fails (Block j ∷ []) r at err → Fails (TryStack l) a at err
            handler_fails at err f = fails_as (TryStack l) (Block (suc l) ∷ []) a r at err
                (then (TryStack l) (HandlerStack l) (Block (suc l) ∷ []) a q r exception_leads (λ z. catch_rest_runs v (Block (suc l) ∷ z))) (subst (λ u. Fails (Block u ∷ []) r at err) e f)

            pub try_reads : (s : ReaderView) (ys : List Stmt) → IsBlock limits j r.counts s.counts r.rest s.rest ys → IsKeyed k.Try l a.counts s.counts a.rest s.rest (st.Try xs x y ys)
            try_reads s ys z place =
                let rest : d.rest ≡ Key k.Catch c.0 ∷ Sign g.LeftParen p.0 ∷ Name x w.0 ∷ q.rest = c.1 ∙ ap (λ u. Key k.Catch c.0 ∷ u) (p.1 ∙ ap (λ u. Sign g.LeftParen p.0 ∷ u) w.1) in
                let counts : d.counts ≡ q.counts = c.2 ∙ p.2 ∙ w.2 in
                rw (t.1, t.2) (is.try (subst (λ u. IsBlock limits (suc l) b.counts u b.rest (Key k.Catch c.0 ∷ Sign g.LeftParen p.0 ∷ Name x w.0 ∷ q.rest) xs) counts
                (subst (λ u. IsBlock limits (suc l) b.counts d.counts b.rest u xs) rest tried_is)) v (subst (λ u. IsBlock limits u r.counts s.counts r.rest s.rest ys) e z))
