-- The exits of the functions that read declared names.
use Rattle.std.proofs.Common.{◌≡◌, ◌≤◌, ℕ, suc, List, [], ◌∷◌, ◌++◌, length, true, false, Option, Some, None, refl, sym, ◌∙◌, ap, subst, arith, append_assoc}
use Rattle.shim_base.specs.declared.token.Sign.TheVariants as g
use Rattle.shim_base.specs.declared.types.Ty.{Ty}
use Rattle.shim_base.specs.Tokens.{Place}
use Rattle.shim_syntax.specs.declared.limits.Many.TheVariants as many
use Rattle.shim_syntax.specs.declared.Expr.{Expr}
use Rattle.shim_syntax.specs.declared.Stmt.{Stmt}
use Rattle.shim_syntax.specs.declared.tree.What.TheVariants as st
use Rattle.shim_syntax.specs.Terminals.{Terminal, Name, Sign, first}
use Rattle.shim_syntax.specs.Limits.{Count, limits, is_within}
use Rattle.shim_syntax.specs.Grammar as is
use Rattle.shim_syntax.specs.Grammar.{TextCounts, with_local, IsWhole, IsDeclared, IsDeclarations}
use Rattle.shim_grammar.specs.declared.punctuation.Punctuation.TheVariants as punctuation
use Rattle.shim_grammar.specs.Machine.{Symbol, SymbolStack, Unwanted, Fixed, Expression, Operators, Declarations, AfterDeclared, MoreDeclarations, Declaration, AfterDeclaration, go, ask, wants, more_declarations, run_parser}
use Rattle.shim_grammar.proofs.Runs.{run_on, asked, whole_runs, operators_skip}
use Rattle.shim_parser.specs.declared.terminal.Terminal as read
use Rattle.shim_parser.specs.declared.terminal.Terminal.TheVariants as here
use Rattle.shim_parser.specs.TerminalView.{terminal_view}
use Rattle.shim_parser.specs.declared.fault.ParseFault.{ParseFault}
use Rattle.shim_parser.specs.declared.name_value.Declared.{Declared}
use Rattle.shim_parser.specs.Declares.{is_equal, IsOver, IsDeclaredHere}
use Rattle.shim_parser.specs.ReaderViews.{ReaderView, Blames, Fails, reader_with}
use Rattle.shim_parser.proofs.Exits.{Leads, took, fails_as, unwanted}
use Rattle.shim_parser.proofs.ExprExits.{counted_took, expr_shorter}

-- The symbols of a declared name among more of them, or alone: before it, behind it, and behind its value.
pub record Declaring (l : ℕ) (before behind over : Symbol) : Type 0 where
  pub name : (x : List ℕ) (p : Place) (k : SymbolStack) (w : TextCounts) → wants (before ∷ k) (Name x p) w ≡ ask (Count many.Locals) (suc w.locals) (go (behind ∷ k) (with_local w))
  pub equal : (p : Place) (k : SymbolStack) (w : TextCounts) → wants (behind ∷ k) (Sign g.Equal p) w ≡ go (Expression l ∷ Operators l ∷ over ∷ k) w
  pub skips : (s : List Terminal) (k : SymbolStack) (w : TextCounts) → is_equal (first s) ≡ false → run_parser limits s (behind ∷ k) w ≡ run_parser limits s (over ∷ k) w

after_declared_skips : (s : List Terminal) (l : ℕ) (k : SymbolStack) (w : TextCounts) → is_equal (first s) ≡ false → run_parser limits s (AfterDeclared l ∷ k) w ≡ run_parser limits s (MoreDeclarations l ∷ k) w
after_declared_skips [] l k w h = refl
after_declared_skips (Sign g.Equal p ∷ s) l k w h = absurd (cc)
after_declared_skips (_ ∷ s) l k w h = refl

after_declaration_skips : (s : List Terminal) (l : ℕ) (k : SymbolStack) (w : TextCounts) → is_equal (first s) ≡ false → run_parser limits s (AfterDeclaration l ∷ k) w ≡ run_parser limits s (Fixed punctuation.Semicolon ∷ k) w
after_declaration_skips [] l k w h = refl
after_declaration_skips (Sign g.Equal p ∷ s) l k w h = absurd (cc)
after_declaration_skips (Sign g.Semicolon p ∷ s) l k w h = refl
after_declaration_skips (_ ∷ s) l k w h = refl

pub among : (l : ℕ) → Declaring l (Declarations l) (AfterDeclared l) (MoreDeclarations l)
among l = record {
  name = λ x p k w. refl;
  equal = λ p k w. refl;
  skips = λ s k w h. after_declared_skips s l k w h;
}

pub alone : (l : ℕ) → Declaring l (Declaration l) (AfterDeclaration l) (Fixed punctuation.Semicolon)
alone l = record {
  name = λ x p k w. refl;
  equal = λ p k w. refl;
  skips = λ s k w h. after_declaration_skips s l k w h;
}

pub not_equal : (t : read.Terminal) (p : Place) → (t ≡ here.Sign g.Equal → ⊥) → is_equal (terminal_view t p) ≡ false
not_equal (here.Sign g.Equal) p h = absurd (h refl)
not_equal _ p h = refl

module _ (l : ℕ) (y z m : Symbol) (s : Declaring l y z m) where
  declared_runs : {v w : TextCounts} {r i : List Terminal} {x : List ℕ} {value : Option Expr} → IsDeclared limits l v w r i x value → IsOver value (first i) → (k : SymbolStack)
      → run_parser limits r (y ∷ k) v ≡ run_parser limits i (m ∷ k) w
  declared_runs {v = v} {w = w} {i = i} (is.without_value {x = x} {p = p} f) o k = ap (λ u. run_on limits (Name x p) i u) (s.name x p k v)
      ∙ asked limits (Name x p) i (Count many.Locals) (suc v.locals) (go (z ∷ k) (with_local v)) f ∙ s.skips i k w o
  declared_runs {v = v} {w = w} {i = i} (is.with_value {x = x} {p = p} {q = q} {s = r} f d) o k = ap (λ u. run_on limits (Name x p) (Sign g.Equal q ∷ r) u) (s.name x p k v)
      ∙ asked limits (Name x p) (Sign g.Equal q ∷ r) (Count many.Locals) (suc v.locals) (go (z ∷ k) (with_local v)) f
      ∙ ap (λ u. run_on limits (Sign g.Equal q) r u) (s.equal q k (with_local v)) ∙ whole_runs (with_local v) d (m ∷ k) ∙ operators_skip limits i l w (m ∷ k) o

  -- after a declared name, with its value where it has one
  pub declared_leads : (a b : ReaderView) (x : Declared) → IsDeclaredHere l a.counts b.counts a.rest b.rest x → Leads (y ∷ []) (m ∷ []) a b
  declared_leads a b x d = λ k. declared_runs d.0 d.1 k

pub with_value_reads : (l : ℕ) (a b d i j : ReaderView) (x o : List ℕ) (value : Expr) (p q : Place) → Name x p ≡ first a.rest → is_within (Count many.Locals) (suc a.counts.locals) ≡ true
    → b ≡ reader_with with_local a → b ≡ record { rest = first b.rest ∷ d.rest; counts = d.counts } → o ≡ x → Sign g.Equal q ≡ first d.rest → d ≡ record { rest = first d.rest ∷ i.rest; counts = i.counts }
    → IsWhole limits l i.counts j.counts i.rest j.rest value → IsDeclared limits l a.counts j.counts a.rest j.rest o (Some value)
with_value_reads l a b d i j x o value p q h f e n same y z w =
    let c = counted_took with_local (Name x p) a b d (sym h) e n in
    let t = took {t = Sign g.Equal q} {a = d} {b = i} y z in
    let w₁ : IsWhole limits l (with_local a.counts) j.counts i.rest j.rest value = subst (λ u. IsWhole limits l u j.counts i.rest j.rest value) (sym t.counts ∙ c.counts) w in
    let r : a.rest ≡ Name x p ∷ Sign g.Equal q ∷ i.rest = c.rest ∙ ap (λ u. Name x p ∷ u) t.rest in
    subst (λ u. IsDeclared limits l a.counts j.counts a.rest j.rest u (Some value)) (sym same) (subst (λ u. IsDeclared limits l a.counts j.counts u j.rest x (Some value)) (sym r) (is.with_value f w₁))

pub without_value_reads : (l : ℕ) (a b d : ReaderView) (x o : List ℕ) (p : Place) → Name x p ≡ first a.rest → is_within (Count many.Locals) (suc a.counts.locals) ≡ true
    → b ≡ reader_with with_local a → b ≡ record { rest = first b.rest ∷ d.rest; counts = d.counts } → o ≡ x → IsDeclared limits l a.counts d.counts a.rest d.rest o None
without_value_reads l a b d x o p h f e n same =
    let c = counted_took with_local (Name x p) a b d (sym h) e n in
    rw (same, c.rest, c.counts) (is.without_value f)

-- what reads on from here, reads from the start
pub record DeclaredSoFar (l : ℕ) (ty : Ty) (line : ℕ) (a b : ReaderView) (xs : List Stmt) : Type 0 where
  pub reads : (w : TextCounts) (r : List Terminal) (zs : List Stmt) → IsDeclarations limits l ty line b.counts w b.rest r zs → IsDeclarations limits l ty line a.counts w a.rest r (xs ++ zs)
  pub runs : Leads (Declarations l ∷ []) (Declarations l ∷ []) a b

abbrev declare : Ty → ℕ → Declared → Stmt
declare ty line x = record { line = line; what = st.Declare ty x.name x.value }

-- a name that was read at b
module _ (l : ℕ) (ty : Ty) (line : ℕ) (a b d : ReaderView) (xs ys : List Stmt) (x : Declared) (c : DeclaredSoFar l ty line a b xs) (h : IsDeclaredHere l b.counts d.counts b.rest d.rest x)
    (e : ys ≡ xs ++ declare ty line x ∷ []) where
  behind_leads : Leads (Declarations l ∷ []) (MoreDeclarations l ∷ []) a d
  behind_leads = λ k. c.runs k ∙ declared_leads l (Declarations l) (AfterDeclared l) (MoreDeclarations l) (among l) b d x h k

  pub declarations_end : (i : ReaderView) (p : Place) → Sign g.Semicolon p ≡ first d.rest → d ≡ record { rest = first d.rest ∷ i.rest; counts = i.counts }
      → IsDeclarations limits l ty line a.counts i.counts a.rest i.rest ys
  declarations_end i p s q =
      let t = took {t = Sign g.Semicolon p} {a = d} {b = i} s q in
      let r : IsDeclared limits l b.counts i.counts b.rest (Sign g.Semicolon p ∷ i.rest) x.name x.value =
      subst (λ u. IsDeclared limits l b.counts u b.rest (Sign g.Semicolon p ∷ i.rest) x.name x.value) t.counts
      (subst (λ u. IsDeclared limits l b.counts d.counts b.rest u x.name x.value) t.rest h.0) in
      subst (λ u. IsDeclarations limits l ty line a.counts i.counts a.rest i.rest u) (sym e) (c.reads i.counts i.rest (declare ty line x ∷ []) (is.last_declared r))

  pub declarations_go : (i : ReaderView) (p : Place) → Sign g.Comma p ≡ first d.rest → d ≡ record { rest = first d.rest ∷ i.rest; counts = i.counts } → DeclaredSoFar l ty line a i ys
  declarations_go i p s q =
      let t = took {t = Sign g.Comma p} {a = d} {b = i} s q in
      let r : IsDeclared limits l b.counts i.counts b.rest (Sign g.Comma p ∷ i.rest) x.name x.value =
      subst (λ u. IsDeclared limits l b.counts u b.rest (Sign g.Comma p ∷ i.rest) x.name x.value) t.counts
      (subst (λ u. IsDeclared limits l b.counts d.counts b.rest u x.name x.value) t.rest h.0) in
      record {
        reads = λ w m zs f. subst (λ u. IsDeclarations limits l ty line a.counts w a.rest m u) (sym (ap (λ u. u ++ zs) e ∙ append_assoc xs (declare ty line x ∷ []) zs))
            (c.reads w m (declare ty line x ∷ zs) (is.declared r f));
        runs = λ k. behind_leads k ∙ ap (λ u. run_parser limits u (MoreDeclarations l ∷ k) d.counts) t.rest ∙ ap (λ u. run_parser limits i.rest (Declarations l ∷ k) u) t.counts;
      }

  pub behind_unwanted : (err : ParseFault) (t : read.Terminal) (p : Place) → terminal_view t p ≡ first d.rest → (t ≡ here.Sign g.Comma → ⊥) → (t ≡ here.Sign g.Semicolon → ⊥)
      → Blames err Unwanted (first d.rest) → Fails (Declarations l ∷ []) a d err
  behind_unwanted err t p v i j m = fails_as (Declarations l ∷ []) (MoreDeclarations l ∷ []) a d d err behind_leads
      (unwanted (MoreDeclarations l) [] d err (λ k. ap (λ u. more_declarations u l k d.counts) (sym v) ∙ no_more t p k d.counts i j) m)
    where
      no_more : (t : read.Terminal) (p : Place) (k : SymbolStack) (w : TextCounts) → (t ≡ here.Sign g.Comma → ⊥) → (t ≡ here.Sign g.Semicolon → ⊥) → more_declarations (terminal_view t p) l k w ≡ None
      no_more (here.Sign g.Comma) p k w i j = absurd (i refl)
      no_more (here.Sign g.Semicolon) p k w i j = absurd (j refl)
      no_more _ p k w i j = refl

pub declared_shorter : {l : ℕ} {v w : TextCounts} {s r : List Terminal} {x : List ℕ} {value : Option Expr} → IsDeclared limits l v w s r x value → suc (length r) ≤ length s
declared_shorter (is.without_value h) = omega arith
declared_shorter (is.with_value h d) = omega (arith, expr_shorter d)
