-- The exits of the functions that read the parentheses of a `for`.
use Rattle.std.proofs.Common.{◌≡◌, ℕ, suc, List, [], ◌∷◌, true, false, Option, Some, None, refl, sym, ◌∙◌, ap, subst}
use Rattle.shim_base.specs.declared.token.Sign.TheVariants as g
use Rattle.shim_base.specs.declared.types.Ty.{Ty}
use Rattle.shim_base.specs.Tokens.{Place}
use Rattle.shim_syntax.specs.declared.Expr.{Expr}
use Rattle.shim_syntax.specs.declared.Stmt.{Stmt}
use Rattle.shim_syntax.specs.declared.tree.Sort.TheVariants.{Value}
use Rattle.shim_syntax.specs.declared.tree.What.TheVariants as st
use Rattle.shim_syntax.specs.Terminals.{Terminal, Name, Sort, Sign, first}
use Rattle.shim_syntax.specs.Limits.{Nesting, limits, is_within}
use Rattle.shim_syntax.specs.Grammar as is
use Rattle.shim_syntax.specs.Grammar.{at_level, IsWhole, IsDeclared, IsFirst, IsTest, IsStep}
use Rattle.shim_grammar.specs.declared.punctuation.Punctuation.TheVariants as punctuation
use Rattle.shim_grammar.specs.Machine.{Fixed, Expression, Operators, Declaration, AfterDeclaration, First, Test, Step, go, run_parser}
use Rattle.shim_grammar.proofs.Runs.{asked, is_semicolon, test_skips, test_runs}
use Rattle.shim_grammar.proofs.RunsStmt.{first_runs}
use Rattle.shim_parser.specs.declared.terminal.Terminal as read
use Rattle.shim_parser.specs.declared.terminal.Terminal.TheVariants as here
use Rattle.shim_parser.specs.declared.name_value.Declared.{Declared}
use Rattle.shim_parser.specs.TerminalView.{terminal_view}
use Rattle.shim_parser.specs.declared.fault.ParseFault.{ParseFault}
use Rattle.shim_parser.specs.Parts.{IsPunctuation, IsWholeBefore}
use Rattle.shim_parser.specs.Declares.{IsDeclaredHere}
use Rattle.shim_parser.specs.Headers.{IsValueAfter}
use Rattle.shim_parser.specs.ReaderViews.{ReaderView, Fails, reader_with}
use Rattle.shim_parser.proofs.Exits.{Leads, took, fails_as, fails_under}
use Rattle.shim_parser.proofs.ExprExits.{Counted, counted_took}
use Rattle.shim_parser.proofs.DeclareExits.{declared_leads, alone}

-- the test
pub no_test_reads : (l : ℕ) (a b : ReaderView) (p : Place) → Sign g.Semicolon p ≡ first a.rest → a ≡ record { rest = first a.rest ∷ b.rest; counts = b.counts }
    → IsTest limits l a.counts b.counts a.rest b.rest None
no_test_reads l a b p h q = let w = took {t = Sign g.Semicolon p} {a = a} {b = b} h q in rw (w.rest, w.counts) is.no_test

pub not_semicolon : (t : read.Terminal) (p : Place) → (t ≡ here.Sign g.Semicolon → ⊥) → is_semicolon (terminal_view t p) ≡ false
not_semicolon (here.Sign g.Semicolon) p h = absurd (h refl)
not_semicolon _ p h = refl

pub test_fails : (l : ℕ) (a at : ReaderView) (err : ParseFault) → is_semicolon (first a.rest) ≡ false → Fails (Expression l ∷ Operators l ∷ Fixed punctuation.Semicolon ∷ []) a at err
    → Fails (Test l ∷ []) a at err
test_fails l a at err h f = fails_as (Test l ∷ []) (Expression l ∷ Operators l ∷ Fixed punctuation.Semicolon ∷ []) a a at err (λ k. test_skips limits a.rest l a.counts k h) f

pub test_reads : (l : ℕ) (a b : ReaderView) (x : Expr) → IsWholeBefore punctuation.Semicolon l a.counts b.counts a.rest b.rest x → IsTest limits l a.counts b.counts a.rest b.rest (Some x)
test_reads l a b x w = is.test w.1

-- nothing before a semicolon, and nothing before a right parenthesis
pub no_first_reads : (l : ℕ) (a b : ReaderView) (p : Place) (xs : List Stmt) → Sign g.Semicolon p ≡ first a.rest → a ≡ record { rest = first a.rest ∷ b.rest; counts = b.counts } → xs ≡ []
    → IsFirst limits l a.counts b.counts a.rest b.rest xs
no_first_reads l a b p xs h q e = let w = took {t = Sign g.Semicolon p} {a = a} {b = b} h q in rw (e, w.rest, w.counts) is.no_first

pub no_step_reads : (l : ℕ) (a b : ReaderView) (p : Place) (xs : List Stmt) → Sign g.RightParen p ≡ first a.rest → a ≡ record { rest = first a.rest ∷ b.rest; counts = b.counts } → xs ≡ []
    → IsStep limits l a.counts b.counts a.rest b.rest xs
no_step_reads l a b p xs h q e = let w = took {t = Sign g.RightParen p} {a = a} {b = b} h q in rw (e, w.rest, w.counts) is.no_step

-- a declared name as the first statement
module _ (l : ℕ) (a b d i : ReaderView) (ty : Ty) (p : Place) (x : Declared) (h : Sort (Value ty) p ≡ first a.rest) (n : is_within Nesting l ≡ true) (e : b ≡ reader_with (at_level l) a)
    (q : b ≡ record { rest = first b.rest ∷ d.rest; counts = d.counts }) (r : IsDeclaredHere l d.counts i.counts d.rest i.rest x) where
  type_took : Counted (at_level l) (Sort (Value ty) p) a d
  type_took = counted_took (at_level l) (Sort (Value ty) p) a b d (sym h) e q

  type_leads : Leads (First l ∷ []) (Declaration l ∷ []) a d
  type_leads = λ k. ap (λ u. run_parser limits u (First l ∷ k) a.counts) type_took.rest ∙ asked limits (Sort (Value ty) p) d.rest Nesting l (go (Declaration l ∷ k) (at_level l a.counts)) n
      ∙ ap (λ u. run_parser limits d.rest (Declaration l ∷ k) u) (sym type_took.counts)

  pub first_punctuation_fails : (at : ReaderView) (err : ParseFault) → Fails (Fixed punctuation.Semicolon ∷ []) i at err → Fails (First l ∷ []) a at err
  first_punctuation_fails at err f = fails_as (First l ∷ []) (Fixed punctuation.Semicolon ∷ []) a i at err
      (λ k. type_leads k ∙ declared_leads l (Declaration l) (AfterDeclaration l) (Fixed punctuation.Semicolon) (alone l) d i x r k) f

  pub first_declare_reads : (j : ReaderView) (xs : List Stmt) → IsPunctuation punctuation.Semicolon i.counts j.counts i.rest j.rest tt → xs ≡ record { line = p.line; what = st.Declare ty x.name x.value } ∷ []
      → IsFirst limits l a.counts j.counts a.rest j.rest xs
  first_declare_reads j xs m s =
      let r₁ : IsDeclared limits l d.counts j.counts d.rest (Sign g.Semicolon m.0 ∷ j.rest) x.name x.value =
      subst (λ u. IsDeclared limits l d.counts u d.rest (Sign g.Semicolon m.0 ∷ j.rest) x.name x.value) m.2 (subst (λ u. IsDeclared limits l d.counts i.counts d.rest u x.name x.value) m.1 r.0) in
      let r₂ : IsDeclared limits l (at_level l a.counts) j.counts d.rest (Sign g.Semicolon m.0 ∷ j.rest) x.name x.value =
      subst (λ u. IsDeclared limits l u j.counts d.rest (Sign g.Semicolon m.0 ∷ j.rest) x.name x.value) type_took.counts r₁ in
      rw (s, type_took.rest) (is.first_declare n r₂)

-- an assignment as the first statement, and as the step
module _ (l : ℕ) (a b d i : ReaderView) (x o : List ℕ) (p : Place) (value : Expr) (xs : List Stmt) (h : Name x p ≡ first a.rest) (n : is_within Nesting l ≡ true) (e : b ≡ reader_with (at_level l) a)
    (q : b ≡ record { rest = first b.rest ∷ d.rest; counts = d.counts }) (same : o ≡ x) (s : xs ≡ record { line = p.line; what = st.Assign o value } ∷ []) where
  target_took : Counted (at_level l) (Name x p) a d
  target_took = counted_took (at_level l) (Name x p) a b d (sym h) e q

  pub first_assign_reads : IsValueAfter punctuation.Semicolon l d.counts i.counts d.rest i.rest value → IsFirst limits l a.counts i.counts a.rest i.rest xs
  first_assign_reads v =
      let r : IsWhole limits l (at_level l a.counts) i.counts v.2 (Sign g.Semicolon v.1 ∷ i.rest) value =
      subst (λ u. IsWhole limits l u i.counts v.2 (Sign g.Semicolon v.1 ∷ i.rest) value) target_took.counts v.4 in
      rw (s, same, target_took.rest, v.3) (is.first_assign n r)

  pub step_reads : IsValueAfter punctuation.RightParen l d.counts i.counts d.rest i.rest value → IsStep limits l a.counts i.counts a.rest i.rest xs
  step_reads v =
      let r : IsWhole limits l (at_level l a.counts) i.counts v.2 (Sign g.RightParen v.1 ∷ i.rest) value =
      subst (λ u. IsWhole limits l u i.counts v.2 (Sign g.RightParen v.1 ∷ i.rest) value) target_took.counts v.4 in
      rw (s, same, target_took.rest, v.3) (is.step n r)

-- the parts in turn; j is the level that the code counts
module _ (l j : ℕ) (e : j ≡ suc l) (a b : ReaderView) (m : IsPunctuation punctuation.LeftParen a.counts b.counts a.rest b.rest tt) where
  paren_leads : Leads (Fixed punctuation.LeftParen ∷ First (suc l) ∷ Test l ∷ Step (suc l) ∷ []) (First j ∷ Test l ∷ Step j ∷ []) a b
  paren_leads = subst (λ i. Leads (Fixed punctuation.LeftParen ∷ First (suc l) ∷ Test l ∷ Step (suc l) ∷ []) (First i ∷ Test l ∷ Step i ∷ []) a b) (sym e)
      (λ k. ap (λ u. run_parser limits u (Fixed punctuation.LeftParen ∷ First (suc l) ∷ Test l ∷ Step (suc l) ∷ k) a.counts) m.1 ∙ ap (λ u. run_parser limits b.rest (First (suc l) ∷ Test l ∷ Step (suc l) ∷ k) u) m.2)

  pub header_first_fails : (at : ReaderView) (err : ParseFault) → Fails (First j ∷ []) b at err → Fails (Fixed punctuation.LeftParen ∷ First (suc l) ∷ Test l ∷ Step (suc l) ∷ []) a at err
  header_first_fails at err f = fails_under (Fixed punctuation.LeftParen ∷ First (suc l) ∷ Test l ∷ Step (suc l) ∷ []) (First j ∷ []) (Test l ∷ Step j ∷ []) a b at err paren_leads f

  module _ (d : ReaderView) (xs : List Stmt) (r : IsFirst limits j b.counts d.counts b.rest d.rest xs) where
    first_leads : Leads (Fixed punctuation.LeftParen ∷ First (suc l) ∷ Test l ∷ Step (suc l) ∷ []) (Test l ∷ Step j ∷ []) a d
    first_leads = λ k. paren_leads k ∙ first_runs r (Test l ∷ Step j ∷ k)

    pub header_test_fails : (at : ReaderView) (err : ParseFault) → Fails (Test l ∷ []) d at err → Fails (Fixed punctuation.LeftParen ∷ First (suc l) ∷ Test l ∷ Step (suc l) ∷ []) a at err
    header_test_fails at err f = fails_under (Fixed punctuation.LeftParen ∷ First (suc l) ∷ Test l ∷ Step (suc l) ∷ []) (Test l ∷ []) (Step j ∷ []) a d at err first_leads f

    pub header_step_fails : (i at : ReaderView) (x : Option Expr) (err : ParseFault) → IsTest limits l d.counts i.counts d.rest i.rest x → Fails (Step j ∷ []) i at err
        → Fails (Fixed punctuation.LeftParen ∷ First (suc l) ∷ Test l ∷ Step (suc l) ∷ []) a at err
    header_step_fails i at x err t f = fails_as (Fixed punctuation.LeftParen ∷ First (suc l) ∷ Test l ∷ Step (suc l) ∷ []) (Step j ∷ []) a i at err (λ k. first_leads k ∙ test_runs t (Step j ∷ k)) f
