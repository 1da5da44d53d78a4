-- The exits of the function that reads a statement, one for each terminal with which it may begin.
use Rattle.std.proofs.Common.{◌≡◌, ℕ, List, [], ◌∷◌, ◌++◌, true, refl, sym, ◌∙◌, ap, subst}
use Rattle.std.specs.Prelude.{Result, Ok, Err}
use Rattle.shim_base.specs.declared.token.Keyword.{Keyword}
use Rattle.shim_base.specs.declared.token.Sign.TheVariants as g
use Rattle.shim_base.specs.declared.types.Ty.{Ty}
use Rattle.shim_base.specs.Tokens.{Place}
use Rattle.shim_syntax.specs.declared.Stmt.{Stmt}
use Rattle.shim_syntax.specs.declared.What.{What}
use Rattle.shim_syntax.specs.declared.tree.Sort.TheVariants.{Value}
use Rattle.shim_syntax.specs.Terminals.{Terminal, Name, Sort, Key, Sign, first}
use Rattle.shim_syntax.specs.Limits.{Nesting, limits, is_within}
use Rattle.shim_syntax.specs.Grammar as is
use Rattle.shim_syntax.specs.Grammar.{TextCounts, at_level, IsPlain, IsDeclarations}
use Rattle.shim_grammar.specs.Machine as machine
use Rattle.shim_grammar.specs.Machine.{SymbolStack, Unwanted, Past, Declarations, AfterWord, Statement, thing, ask, run_parser}
use Rattle.shim_grammar.proofs.Runs.{run_on}
use Rattle.shim_grammar.proofs.RunsStmt.{run_begun, statement_runs}
use Rattle.shim_parser.specs.declared.fault.ParseFault.{ParseFault}
use Rattle.shim_parser.specs.Statements.{IsThing, IsKeyed, IsNamed, Becomes, stmt_on_line}
use Rattle.shim_parser.specs.ReaderViews.{ReaderView, Fails, Reads, reader_with}
use Rattle.shim_parser.proofs.Exits.{Leads, fails_as, reads_as}
use Rattle.shim_parser.proofs.ExprExits.{Counted, counted_took}

becomes : (R : TextCounts → TextCounts → List Terminal → List Terminal → What → Type 0) (l line : ℕ) (x : SymbolStack) (a d n : ReaderView) (r : Result What ParseFault) (out : Result (List Stmt) ParseFault)
    → Leads (Statement l ∷ []) x a d → ((what : What) → R d.counts n.counts d.rest n.rest what → IsThing l a.counts n.counts a.rest n.rest (stmt_on_line line what)) → Reads R x r d n → Becomes line r out
    → Reads (IsThing l) (Statement l ∷ []) out a n
becomes R l line x a d n (Ok what) (Ok xs) f g h b = subst (λ u. IsThing l a.counts n.counts a.rest n.rest u) (sym b) (g what h)
becomes R l line x a d n (Ok what) (Err e) f g h b = subst (λ u. Fails (Statement l ∷ []) a n u) (sym b) tt
becomes R l line x a d n (Err e) out f g h b = subst (λ u. Reads (IsThing l) (Statement l ∷ []) u a n) (sym b) (fails_as (Statement l ∷ []) x a d n e f h)

-- at a stands the terminal t, at b the level was counted, and at d the terminal is taken
module _ (l : ℕ) (t : Terminal) (a b d : ReaderView) (w : is_within Nesting l ≡ true) (v : b ≡ reader_with (at_level l) a) (q : b ≡ record { rest = first b.rest ∷ d.rest; counts = d.counts }) (h : first a.rest ≡ t) where
  begun : Counted (at_level l) t a d
  begun = counted_took (at_level l) t a b d h v q

  pub begun_leads : (x : SymbolStack) → ((z : SymbolStack) (s : List Terminal) (u : TextCounts) → run_on limits t s (machine.statement t l z u) ≡ run_parser limits s (x ++ z) u) → Leads (Statement l ∷ []) x a d
  begun_leads x f = λ z. statement_runs limits a.rest l a.counts z w ∙ ap (λ u. run_begun limits u l z (at_level l a.counts)) begun.rest ∙ f z d.rest (at_level l a.counts)
      ∙ ap (λ u. run_parser limits d.rest (x ++ z) u) (sym begun.counts)

  pub begun_plain : (n : ReaderView) (xs : List Stmt) → IsPlain limits l d.counts n.counts (t ∷ d.rest) n.rest xs → IsThing l a.counts n.counts a.rest n.rest xs
  begun_plain n xs p = (w, is.plain (subst (λ u. IsPlain limits l u n.counts a.rest n.rest xs) begun.counts (subst (λ u. IsPlain limits l d.counts n.counts u n.rest xs) (sym begun.rest) p)))

module _ (l : ℕ) (p : Place) (a b d : ReaderView) (w : is_within Nesting l ≡ true) (v : b ≡ reader_with (at_level l) a) (q : b ≡ record { rest = first b.rest ∷ d.rest; counts = d.counts }) where
  pub keyed_case : (key : Keyword) → first a.rest ≡ Key key p → (x : SymbolStack) → ((z : SymbolStack) (s : List Terminal) (u : TextCounts) → run_on limits (Key key p) s (machine.statement (Key key p) l z u) ≡ run_parser limits s (x ++ z) u)
      → (n : ReaderView) (r : Result What ParseFault) (out : Result (List Stmt) ParseFault) → Reads (IsKeyed key l) x r d n → Becomes p.line r out → Reads (IsThing l) (Statement l ∷ []) out a n
  keyed_case key h x f n r out i c = becomes (IsKeyed key l) l p.line x a d n r out (begun_leads l (Key key p) a b d w v q h x f)
      (λ what k. begun_plain l (Key key p) a b d w v q h n (stmt_on_line p.line what) (k p)) i c

  pub named_case : (x : List ℕ) → first a.rest ≡ Name x p → (n : ReaderView) (r : Result What ParseFault) (out : Result (List Stmt) ParseFault) → Reads (IsNamed x p.line l) (AfterWord l ∷ []) r d n
      → Becomes p.line r out → Reads (IsThing l) (Statement l ∷ []) out a n
  named_case x h n r out i c = becomes (IsNamed x p.line l) l p.line (AfterWord l ∷ []) a d n r out (begun_leads l (Name x p) a b d w v q h (AfterWord l ∷ []) (λ z s u. refl))
      (λ what k. begun_plain l (Name x p) a b d w v q h n (stmt_on_line p.line what) (k p.at)) i c

  pub declaration_case : (ty : Ty) → first a.rest ≡ Sort (Value ty) p → (n : ReaderView) (r : Result (List Stmt) ParseFault) → Reads (IsDeclarations limits l ty p.line) (Declarations l ∷ []) r d n
      → Reads (IsThing l) (Statement l ∷ []) r a n
  declaration_case ty h n r i = reads_as (IsDeclarations limits l ty p.line) (IsThing l) (Declarations l ∷ []) (Statement l ∷ []) [] a d n r
      (λ xs k. begun_plain l (Sort (Value ty) p) a b d w v q h n xs (is.declare k)) (begun_leads l (Sort (Value ty) p) a b d w v q h (Declarations l ∷ []) (λ z s u. refl)) i

  pub empty_case : first a.rest ≡ Sign g.Semicolon p → (xs : List Stmt) → xs ≡ [] → IsThing l a.counts d.counts a.rest d.rest xs
  empty_case h xs e = begun_plain l (Sign g.Semicolon p) a b d w v q h d xs (rw e is.empty)
