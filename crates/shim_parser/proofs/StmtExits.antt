-- The exits of the functions that read statements.
use Rattle.std.proofs.Common.{◌≡◌, ◌≤◌, ◌⊎◌, inl, inr, ℕ, suc, List, [], ◌∷◌, ◌++◌, Bool, true, false, IsTrue, ◌↔◌, refl, sym, ◌∙◌, ap, subst, append_assoc}
use Rattle.std.proofs.lemmas.List.{append-nil}
use Rattle.std.proofs.lemmas.Bool.Decides.{leb_tells}
use Rattle.std.specs.Prelude.{Result}
use Rattle.shim_base.specs.declared.token.Keyword.{Keyword}
use Rattle.shim_base.specs.declared.token.Keyword.TheVariants as k
use Rattle.shim_base.specs.declared.token.Sign.{Sign as SignOf}
use Rattle.shim_base.specs.declared.token.Sign.TheVariants as g
use Rattle.shim_base.specs.Tokens.{Place}
use Rattle.shim_syntax.specs.declared.limits.Many.TheVariants as many
use Rattle.shim_syntax.specs.declared.Stmt.{Stmt}
use Rattle.shim_syntax.specs.declared.What.{What}
use Rattle.shim_syntax.specs.declared.Branch.{Branch as BranchTree}
use Rattle.shim_syntax.specs.Terminals.{Terminal, Name, Key, Sign, first, terminal_place}
use Rattle.shim_syntax.specs.declared.Expr.{Expr}
use Rattle.shim_syntax.specs.declared.tree.What.TheVariants as st
use Rattle.shim_syntax.specs.declared.tree.BranchWhat.TheVariants as br
use Rattle.shim_syntax.specs.Limits.{Count, limits, is_within}
use Rattle.shim_syntax.specs.Grammar as is
use Rattle.shim_syntax.specs.Grammar.{TextCounts, at_level, is_par, is_else, IsBlock, IsStmt, IsBody, IsPlain, IsBranches, IsBranch, IsArguments}
use Rattle.shim_grammar.specs.Machine.{SymbolStack, Fixed, Arguments, AfterEqual, AfterWord, Block, Statement, Pars, Branch, go, run_parser}
use Rattle.shim_grammar.proofs.Runs.{asked, is_right_brace, block_skips}
use Rattle.shim_grammar.proofs.RunsStmt.{block_open, stmt_runs, branch_runs}
use Rattle.shim_parser.specs.declared.terminal.Terminal as read
use Rattle.shim_parser.specs.declared.terminal.Terminal.TheVariants as here
use Rattle.shim_parser.specs.TerminalView.{terminal_view}
use Rattle.shim_parser.specs.declared.fault.ParseFault.{ParseFault}
use Rattle.shim_grammar.specs.declared.punctuation.Punctuation.TheVariants as punctuation
use Rattle.shim_parser.specs.Parts.{IsPunctuation}
use Rattle.shim_parser.specs.Calls.{IsCall}
use Rattle.shim_parser.specs.Statements.{IsSignAt, IsKeyAt, IsThing, IsAssigned, IsNamed, IsBraced, IsAfterPar, IsNumberedBranch}
use Rattle.shim_parser.specs.ReaderViews.{ReaderView, Fails, Reads}
use Rattle.shim_parser.proofs.Exits.{Leads, Took, took, fails_as, fails_under, reads_as}
use Rattle.shim_parser.proofs.Sequences.{then, same_run, punctuation_leads, call_leads, block_leads}

-- the statements so far
pub record BlockSoFar (l : ℕ) (a b : ReaderView) (all : List Stmt) : Type 0 where
  pub reads : (w : TextCounts) (r : List Terminal) (xs : List Stmt) → IsBlock limits l b.counts w b.rest r xs → IsBlock limits l a.counts w a.rest r (all ++ xs)
  pub runs : Leads (Block l ∷ []) (Block l ∷ []) a b

pub block_go : (l : ℕ) (a b n : ReaderView) (all xs ys : List Stmt) → BlockSoFar l a b all → IsThing l b.counts n.counts b.rest n.rest xs → ys ≡ all ++ xs → BlockSoFar l a n ys
block_go l a b n all xs ys c d p = record {
  reads = λ w r zs e. rw (p, append_assoc) (c.reads w r (xs ++ zs) (is.stmt d.0 d.1 e));
  runs = λ k. c.runs k ∙ block_open d.1 l b.counts k ∙ stmt_runs b.counts d.0 d.1 (Block l ∷ k);
}

-- what a test of the next terminal says
pub no_sign : (sign : SignOf) (t : Terminal) (b : Bool) → IsTrue b ↔ IsSignAt sign t → b ≡ false → IsSignAt sign t → ⊥
no_sign sign t b h n e = absurd (let w : false ≡ true = sym n ∙ h.1 e in cc)

pub no_key : (key : Keyword) (t : Terminal) (b : Bool) → IsTrue b ↔ IsKeyAt key t → b ≡ false → IsKeyAt key t → ⊥
no_key key t b h n e = absurd (let w : false ≡ true = sym n ∙ h.1 e in cc)

no_brace : (t : Terminal) → (IsSignAt g.RightBrace t → ⊥) → is_right_brace t ≡ false
no_brace (Sign g.RightBrace p) h = absurd (h (p, refl))
no_brace _ h = refl

pub not_par : (t : Terminal) (b : Bool) → IsTrue b ↔ IsKeyAt k.Par t → b ≡ false → is_par t ≡ false
not_par t b h n = none t (no_key k.Par t b h n)
  where
    none : (t : Terminal) → (IsKeyAt k.Par t → ⊥) → is_par t ≡ false
    none (Key k.Par p) h = absurd (h (p, refl))
    none _ h = refl

pub block_end : (l : ℕ) (a b d : ReaderView) (all : List Stmt) (y : Bool) → BlockSoFar l a b all → IsTrue y ↔ IsSignAt g.RightBrace (first b.rest) → y ≡ true
    → b ≡ record { rest = first b.rest ∷ d.rest; counts = d.counts } → IsBlock limits l a.counts d.counts a.rest d.rest all
block_end l a b d all y c h e q =
    let s = h.0 e in
    let w = took {t = Sign g.RightBrace s.0} {a = b} {b = d} (sym s.1) q in
    subst (λ u. IsBlock limits l a.counts d.counts a.rest d.rest u) (append-nil all)
    (c.reads d.counts d.rest [] (rw (w.rest, w.counts) is.block_end))

pub block_fails : (l : ℕ) (a b at : ReaderView) (all : List Stmt) (y : Bool) (err : ParseFault) → BlockSoFar l a b all → IsTrue y ↔ IsSignAt g.RightBrace (first b.rest) → y ≡ false → Fails (Statement l ∷ []) b at err
    → Fails (Block l ∷ []) a at err
block_fails l a b at all y err c h n = fails_under (Block l ∷ []) (Statement l ∷ []) (Block l ∷ []) a b at err
    (λ k. c.runs k ∙ block_skips limits b.rest l b.counts k (no_brace (first b.rest) (no_sign g.RightBrace (first b.rest) y h n)))

-- the branches that follow, or none
abbrev Rest : ℕ → ℕ → TextCounts → TextCounts → List Terminal → List Terminal → List BranchTree → Type 0
Rest l n v w m r bs = ((m ≡ r) × (is_par (first r) ≡ false) × (bs ≡ []) × (v ≡ w)) ⊎ ((p : Place) × (q : List Terminal) × (m ≡ Key k.Par p ∷ q) × IsBranches limits l n v w q r bs)

pub record ForkSoFar (l n : ℕ) (b : BranchTree) (a d : ReaderView) (all : List BranchTree) : Type 0 where
  pub reads : (w : TextCounts) (r : List Terminal) (bs : List BranchTree) → Rest l n d.counts w d.rest r bs → IsAfterPar b l a.counts w a.rest r (all ++ bs)
  pub runs : Leads (Pars l 1 ∷ []) (Pars l n ∷ []) a d
  pub few : n ≤ 64

pub fork_end : (l n : ℕ) (b : BranchTree) (a d : ReaderView) (all : List BranchTree) (y : Bool) → ForkSoFar l n b a d all → IsTrue y ↔ IsKeyAt k.Par (first d.rest) → y ≡ false
    → IsAfterPar b l a.counts d.counts a.rest d.rest all
fork_end l n b a d all y c h e = subst (λ u. IsAfterPar b l a.counts d.counts a.rest d.rest u) (append-nil all) (c.reads d.counts d.rest [] (inl (refl, not_par (first d.rest) y h e, refl, refl)))

-- one more branch: at d stands `par`, at m what follows it, and at n what follows the branch
module _ (l c : ℕ) (b : BranchTree) (a d m : ReaderView) (all : List BranchTree) (j : ℕ) (e : j ≡ suc c) (y : Bool) (f : ForkSoFar l c b a d all) (h : IsTrue y ↔ IsKeyAt k.Par (first d.rest)) (i : y ≡ true)
    (q : d ≡ record { rest = first d.rest ∷ m.rest; counts = m.counts }) where
  abbrev par_place : Place
  par_place = (h.0 i).0

  par_took : Took (Key k.Par par_place) d m
  par_took = took (sym ((h.0 i).1)) q

  par_leads : Leads (Pars l 1 ∷ []) (Branch l j ∷ Pars l j ∷ []) a m
  par_leads = subst (λ u. Leads (Pars l 1 ∷ []) (Branch l u ∷ Pars l u ∷ []) a m) (sym e)
      (λ z. f.runs z ∙ same_run d.rest (Key k.Par par_place ∷ m.rest) (Pars l c ∷ z) d.counts m.counts par_took.rest par_took.counts)

  pub fork_fails : (at : ReaderView) (err : ParseFault) → Fails (Branch l j ∷ []) m at err → Fails (Pars l 1 ∷ []) a at err
  fork_fails at err w = fails_under (Pars l 1 ∷ []) (Branch l j ∷ []) (Pars l j ∷ []) a m at err par_leads w

  fork_more : (n : ReaderView) (x : BranchTree) (w : TextCounts) (r : List Terminal) (bs : List BranchTree) → is_within (Count many.Branches) (suc c) ≡ true → IsBranch limits l m.counts n.counts m.rest n.rest x
      → Rest l (suc c) n.counts w n.rest r bs → IsBranches limits l c d.counts w m.rest r (x ∷ bs)
  fork_more n x w r bs o t (inl z) = subst (λ u. IsBranches limits l c u w m.rest r (x ∷ bs)) (sym par_took.counts) (subst (λ u. IsBranches limits l c m.counts w m.rest r (x ∷ u)) (sym z.2)
      (is.last_branch o (subst (λ u. IsBranch limits l m.counts u m.rest r x) z.3 (subst (λ u. IsBranch limits l m.counts n.counts m.rest u x) z.0 t)) z.1))
  fork_more n x w r bs o t (inr z) = subst (λ u. IsBranches limits l c u w m.rest r (x ∷ bs)) (sym par_took.counts)
      (is.branch o (subst (λ u. IsBranch limits l m.counts n.counts m.rest u x) z.2 t) z.3)

  pub fork_go : (n : ReaderView) (x : BranchTree) (cs : List BranchTree) → IsNumberedBranch j l m.counts n.counts m.rest n.rest x → cs ≡ all ++ x ∷ [] → j ≤ 64 → ForkSoFar l j b a n cs
  fork_go n x cs t p o =
      let t' : IsNumberedBranch (suc c) l m.counts n.counts m.rest n.rest x = subst (λ u. IsNumberedBranch u l m.counts n.counts m.rest n.rest x) e t in
      record {
        reads = λ w r bs z. rw (p, append_assoc) (f.reads w r (x ∷ bs) (inr (
          par_place,
          m.rest,
          par_took.rest,
          fork_more n x w r bs t'.0 t'.1
              (subst (λ u. Rest l u n.counts w n.rest r bs) e z),
        )));
        runs = λ k. par_leads k ∙ branch_runs t.1 j t.0 (Pars l j ∷ k);
        few = o;
      }

-- the branch of that number, which is a call
module _ (n l : ℕ) (x : List ℕ) (p : Place) (a a' d : ReaderView) (h : Name x p ≡ first a.rest) (o : is_within (Count many.Branches) n ≡ true)
    (q : a ≡ record { rest = first a.rest ∷ d.rest; counts = d.counts }) where
  call_took : Took (Name x p) a d
  call_took = took h q

  call_branch_leads : Leads (Branch l n ∷ []) (Fixed punctuation.LeftParen ∷ Arguments l ∷ Fixed punctuation.Semicolon ∷ []) a d
  call_branch_leads = λ k. same_run a.rest (Name x p ∷ d.rest) (Branch l n ∷ k) a.counts d.counts call_took.rest call_took.counts
      ∙ asked limits (Name x p) d.rest (Count many.Branches) n (go (Fixed punctuation.LeftParen ∷ Arguments l ∷ Fixed punctuation.Semicolon ∷ k) d.counts) o

  pub branch_args_fails : (m at : ReaderView) (err : ParseFault) → IsPunctuation punctuation.LeftParen d.counts m.counts d.rest m.rest tt → Fails (Arguments l ∷ Fixed punctuation.Semicolon ∷ []) m at err → Fails (Branch l n ∷ []) a at err
  branch_args_fails m at err t f = fails_as (Branch l n ∷ []) (Arguments l ∷ Fixed punctuation.Semicolon ∷ []) a m at err
      (then (Branch l n ∷ []) (Fixed punctuation.LeftParen ∷ Arguments l ∷ Fixed punctuation.Semicolon ∷ []) (Arguments l ∷ Fixed punctuation.Semicolon ∷ []) a d m call_branch_leads (punctuation_leads punctuation.LeftParen (Arguments l ∷ Fixed punctuation.Semicolon ∷ []) d m t)) f

  pub branch_call_reads : (m i : ReaderView) (y : List ℕ) (xs : List Expr) (b : BranchTree) → IsPunctuation punctuation.LeftParen d.counts m.counts d.rest m.rest tt → IsCall l m.counts i.counts m.rest i.rest xs → y ≡ x
      → b ≡ record { line = p.line; what = br.Call (record { function = y; args = xs }) } → IsNumberedBranch n l a.counts i.counts a.rest i.rest b
  branch_call_reads m i y xs b t u w z = (o, rw (z, w, call_took.rest, call_took.counts, t.1, t.2) (is.call_branch u.1))

-- the branch of that number, which is a block
module _ (n l j : ℕ) (e : j ≡ suc l) (p : Place) (a d : ReaderView) (h : Sign g.LeftBrace p ≡ first a.rest) (o : is_within (Count many.Branches) n ≡ true)
    (q : a ≡ record { rest = first a.rest ∷ d.rest; counts = d.counts }) where
  brace_took : Took (Sign g.LeftBrace p) a d
  brace_took = took h q

  block_branch_leads : Leads (Branch l n ∷ []) (Block j ∷ []) a d
  block_branch_leads = subst (λ u. Leads (Branch l n ∷ []) (Block u ∷ []) a d) (sym e) (λ k. same_run a.rest (Sign g.LeftBrace p ∷ d.rest) (Branch l n ∷ k) a.counts d.counts brace_took.rest brace_took.counts
      ∙ asked limits (Sign g.LeftBrace p) d.rest (Count many.Branches) n (go (Block (suc l) ∷ k) d.counts) o)

  pub block_branch_fails : (at : ReaderView) (err : ParseFault) → Fails (Block j ∷ []) d at err → Fails (Branch l n ∷ []) a at err
  block_branch_fails at err f = fails_as (Branch l n ∷ []) (Block j ∷ []) a d at err block_branch_leads f

  pub block_branch_reads : (m : ReaderView) (line : ℕ) (xs : List Stmt) (b : BranchTree) → IsBlock limits j d.counts m.counts d.rest m.rest xs → line ≡ p.line → b ≡ record { line = line; what = br.Block xs }
      → IsNumberedBranch n l a.counts m.counts a.rest m.rest b
  block_branch_reads m line xs b t w z = (o, rw (z, w, brace_took.rest, brace_took.counts) (is.block_branch (subst (λ u. IsBlock limits u d.counts m.counts d.rest m.rest xs) e t)))

-- a name and `=`
pub named_equal : (l line : ℕ) (x : List ℕ) (a d n : ReaderView) (y : Bool) (r : Result What ParseFault) → IsTrue y ↔ IsSignAt g.Equal (first a.rest) → y ≡ true
    → a ≡ record { rest = first a.rest ∷ d.rest; counts = d.counts } → Reads (IsAssigned x l) (AfterEqual l ∷ []) r d n → Reads (IsNamed x line l) (AfterWord l ∷ []) r a n
named_equal l line x a d n y r h i q f =
    let s = h.0 i in
    let w = took {t = Sign g.Equal s.0} {a = a} {b = d} (sym s.1) q in
    reads_as (IsAssigned x l) (IsNamed x line l) (AfterEqual l ∷ []) (AfterWord l ∷ []) [] a d n r
    (λ what z at. rw (w.rest, w.counts) (z (record { at = at; line = line }) s.0))
    (λ k. same_run a.rest (Sign g.Equal s.0 ∷ d.rest) (AfterWord l ∷ k) a.counts d.counts w.rest w.counts) f

word_skips : (s : List Terminal) (l : ℕ) (w : TextCounts) (k : SymbolStack) → (IsSignAt g.Equal (first s) → ⊥) → run_parser limits s (AfterWord l ∷ k) w ≡ run_parser limits s (Fixed punctuation.LeftParen ∷ Arguments l ∷ Fixed punctuation.Semicolon ∷ Pars l 1 ∷ k) w
word_skips [] l w k h = refl
word_skips (Sign g.Equal p ∷ s) l w k h = absurd (h (p, refl))
word_skips (Sign g.LeftParen p ∷ s) l w k h = refl
word_skips (_ ∷ s) l w k h = refl

-- a name, and no `=`
module _ (l line : ℕ) (x : List ℕ) (a : ReaderView) (y : Bool) (h : IsTrue y ↔ IsSignAt g.Equal (first a.rest)) (i : y ≡ false) where
  named_leads : Leads (AfterWord l ∷ []) (Fixed punctuation.LeftParen ∷ Arguments l ∷ Fixed punctuation.Semicolon ∷ Pars l 1 ∷ []) a a
  named_leads = λ k. word_skips a.rest l a.counts k (no_sign g.Equal (first a.rest) y h i)

  pub named_punctuation_fails : (at : ReaderView) (err : ParseFault) → Fails (Fixed punctuation.LeftParen ∷ []) a at err → Fails (AfterWord l ∷ []) a at err
  named_punctuation_fails at err f = fails_under (AfterWord l ∷ []) (Fixed punctuation.LeftParen ∷ []) (Arguments l ∷ Fixed punctuation.Semicolon ∷ Pars l 1 ∷ []) a a at err named_leads f

  module _ (d : ReaderView) (t : IsPunctuation punctuation.LeftParen a.counts d.counts a.rest d.rest tt) where
    named_opened : Leads (AfterWord l ∷ []) (Arguments l ∷ Fixed punctuation.Semicolon ∷ Pars l 1 ∷ []) a d
    named_opened = then (AfterWord l ∷ []) (Fixed punctuation.LeftParen ∷ Arguments l ∷ Fixed punctuation.Semicolon ∷ Pars l 1 ∷ []) (Arguments l ∷ Fixed punctuation.Semicolon ∷ Pars l 1 ∷ []) a a d named_leads
        (punctuation_leads punctuation.LeftParen (Arguments l ∷ Fixed punctuation.Semicolon ∷ Pars l 1 ∷ []) a d t)

    pub named_args_fails : (at : ReaderView) (err : ParseFault) → Fails (Arguments l ∷ Fixed punctuation.Semicolon ∷ []) d at err → Fails (AfterWord l ∷ []) a at err
    named_args_fails at err f = fails_under (AfterWord l ∷ []) (Arguments l ∷ Fixed punctuation.Semicolon ∷ []) (Pars l 1 ∷ []) a d at err named_opened f

    module _ (m : ReaderView) (xs : List Expr) (u : IsCall l d.counts m.counts d.rest m.rest xs) (z : Bool) (o : IsTrue z ↔ IsKeyAt k.Par (first m.rest)) where
      pub named_call : z ≡ false → IsNamed x line l a.counts m.counts a.rest m.rest (st.Call (record { function = x; args = xs }))
      named_call n at = rw (t.1, t.2) (is.call u.1 (not_par (first m.rest) z o n))

      pub named_branches_fails : (at : ReaderView) (err : ParseFault) → Fails (Pars l 1 ∷ []) m at err → Fails (AfterWord l ∷ []) a at err
      named_branches_fails at err f = fails_as (AfterWord l ∷ []) (Pars l 1 ∷ []) a m at err
          (then (AfterWord l ∷ []) (Arguments l ∷ Fixed punctuation.Semicolon ∷ Pars l 1 ∷ []) (Pars l 1 ∷ []) a d m named_opened (call_leads l (Pars l 1 ∷ []) d m xs u)) f

      pub named_fork : (n : ReaderView) (bs : List BranchTree) → IsAfterPar (record { line = line; what = br.Call (record { function = x; args = xs }) }) l m.counts n.counts m.rest n.rest bs
          → IsNamed x line l a.counts n.counts a.rest n.rest (st.Par bs)
      named_fork n bs (p, q, cs, e, w, v) at = rw (t.1, t.2, v) (is.call_fork (subst (λ i. IsArguments limits l d.counts m.counts d.rest (Sign g.Semicolon u.0 ∷ i) xs) e u.1) w)

-- a block where a statement stands
module _ (l line j : ℕ) (e : j ≡ suc l) (a : ReaderView) where
  pub braced_fails : (at : ReaderView) (err : ParseFault) → Fails (Block j ∷ []) a at err → Fails (Block (suc l) ∷ Pars l 1 ∷ []) a at err
  braced_fails at err f = fails_under (Block (suc l) ∷ Pars l 1 ∷ []) (Block (suc l) ∷ []) (Pars l 1 ∷ []) a a at err (λ k. refl) (subst (λ u. Fails (Block u ∷ []) a at err) e f)

  module _ (m : ReaderView) (xs : List Stmt) (t : IsBlock limits j a.counts m.counts a.rest m.rest xs) (z : Bool) (o : IsTrue z ↔ IsKeyAt k.Par (first m.rest)) where
    braced_block_is : IsBlock limits (suc l) a.counts m.counts a.rest m.rest xs
    braced_block_is = subst (λ u. IsBlock limits u a.counts m.counts a.rest m.rest xs) e t

    pub braced_block : z ≡ false → IsBraced line l a.counts m.counts a.rest m.rest (st.Block xs)
    braced_block n at = is.block braced_block_is (not_par (first m.rest) z o n)

    pub braced_branches_fails : (at : ReaderView) (err : ParseFault) → Fails (Pars l 1 ∷ []) m at err → Fails (Block (suc l) ∷ Pars l 1 ∷ []) a at err
    braced_branches_fails at err f = fails_as (Block (suc l) ∷ Pars l 1 ∷ []) (Pars l 1 ∷ []) a m at err (block_leads (suc l) (Pars l 1 ∷ []) a m xs braced_block_is) f

    pub braced_fork : (n : ReaderView) (bs : List BranchTree) → IsAfterPar (record { line = line; what = br.Block xs }) l m.counts n.counts m.rest n.rest bs
        → IsBraced line l a.counts n.counts a.rest n.rest (st.Par bs)
    braced_fork n bs (p, q, cs, e, w, v) at = rw v (is.block_fork (subst (λ i. IsBlock limits (suc l) a.counts m.counts a.rest i xs) e braced_block_is) w)

-- a terminal that is taken changes no count
pub advanced_same : (a d : ReaderView) → a ≡ record { rest = first a.rest ∷ d.rest; counts = d.counts } → record { rest = a.rest; counts = d.counts } ≡ a
advanced_same a d q = ap (λ (u : ReaderView). record { rest = a.rest; counts = u.counts }) (sym q)

pub few_branches : (n : ℕ) → is_within (Count many.Branches) n ≡ true → n ≤ 64
few_branches n h = elim (leb_tells n 64) [ inl e ↦ e.1 | inr e ↦ absurd (let w : false ≡ true = sym e.0 ∙ h in cc) ]

-- a terminal stands where it was read
view_place : (t : read.Terminal) (p : Place) → terminal_place (terminal_view t p) ≡ p
view_place (here.Name text) p = refl
view_place (here.Number n) p = refl
view_place (here.Sort sort) p = refl
view_place (here.Key key) p = refl
view_place (here.Sign sign) p = refl
view_place here.End p = refl
view_place (here.Broken kind) p = refl

pub line_is : (t : read.Terminal) (p : Place) (u : Terminal) → terminal_view t p ≡ u → p.line ≡ (terminal_place u).line
line_is t p u h = ap (λ (q : Place). q.line) (sym (view_place t p)) ∙ ap (λ u. (terminal_place u).line) h
