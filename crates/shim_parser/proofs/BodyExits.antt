-- The exits of the function that reads a body.
use Rattle.std.proofs.Common.{◌≡◌, ℕ, List, [], ◌∷◌, Bool, true, false, IsTrue, ◌↔◌, refl, sym, ◌∙◌, ap, subst}
use Rattle.std.specs.Prelude.{Result}
use Rattle.shim_base.specs.declared.token.Keyword.TheVariants as k
use Rattle.shim_base.specs.declared.token.Sign.TheVariants as g
use Rattle.shim_base.specs.Tokens.{Place}
use Rattle.shim_syntax.specs.declared.Stmt.{Stmt}
use Rattle.shim_syntax.specs.declared.Branch.{Branch as BranchTree}
use Rattle.shim_syntax.specs.declared.tree.What.TheVariants as st
use Rattle.shim_syntax.specs.declared.tree.BranchWhat.TheVariants as br
use Rattle.shim_syntax.specs.Terminals.{Terminal, Key, Sign, first}
use Rattle.shim_syntax.specs.Limits.{Nesting, limits, is_within}
use Rattle.shim_syntax.specs.Grammar as is
use Rattle.shim_syntax.specs.Grammar.{TextCounts, at_level, new_body, behind_body, as_branch, is_par, IsBlock, IsStmt, IsBody, IsPlain}
use Rattle.shim_grammar.specs.Machine.{SymbolStack, Past, Block, Body, Statement, Pars, AfterBody, Branch, ask, go, wants, run_parser}
use Rattle.shim_grammar.proofs.Runs.{asked, is_left_brace, body_skips}
use Rattle.shim_parser.specs.declared.fault.ParseFault.{ParseFault}
use Rattle.shim_parser.specs.Statements.{IsSignAt, IsKeyAt, IsThing, IsAfterPar}
use Rattle.shim_parser.specs.ReaderViews.{ReaderView, Blames, Fails, Reads, reader_with}
use Rattle.shim_parser.proofs.Exits.{Leads, Took, took, fails_as, fails_under, reads_as, refused}
use Rattle.shim_parser.proofs.Sequences.{then, same_run, block_leads, fails_there}
use Rattle.shim_parser.proofs.StmtExits.{no_sign, not_par}

no_left_brace : (t : Terminal) → (IsSignAt g.LeftBrace t → ⊥) → is_left_brace t ≡ false
no_left_brace (Sign g.LeftBrace p) h = absurd (h (p, refl))
no_left_brace _ h = refl

-- a statement that begins with no brace
plain_of : {l : ℕ} {v w : TextCounts} {s r : List Terminal} {xs : List Stmt} → IsStmt limits l v w s r xs → is_left_brace (first s) ≡ false → IsPlain limits l v w s r xs
plain_of (is.block d n) h = absurd (cc)
plain_of (is.block_fork d b) h = absurd (cc)
plain_of (is.plain d) h = d

pub body_statement : (l : ℕ) (a n : ReaderView) (y : Bool) (r : Result (List Stmt) ParseFault) → IsTrue y ↔ IsSignAt g.LeftBrace (first a.rest) → y ≡ false → Reads (IsThing l) (Statement l ∷ []) r a n
    → Reads (IsBody limits l) (Body l ∷ []) r a n
body_statement l a n y r h i f =
    let b = no_left_brace (first a.rest) (no_sign g.LeftBrace (first a.rest) y h i) in
    reads_as (IsThing l) (IsBody limits l) (Statement l ∷ []) (Body l ∷ []) [] a a n r (λ xs t. is.body_plain t.0 (plain_of t.1 b)) (λ z. body_skips limits a.rest l a.counts z b) f

-- a body in braces: at d after the brace, at e with the counts of a body
module _ (l : ℕ) (a d e : ReaderView) (y : Bool) (h : IsTrue y ↔ IsSignAt g.LeftBrace (first a.rest)) (i : y ≡ true)
    (q : a ≡ record { rest = first a.rest ∷ d.rest; counts = d.counts }) (w : e ≡ reader_with new_body d) where
  abbrev brace_place : Place
  brace_place = (h.0 i).0

  brace : Took (Sign g.LeftBrace brace_place) a d
  brace = took (sym ((h.0 i).1)) q

  inside_rest : d.rest ≡ e.rest
  inside_rest = ap (λ (u : ReaderView). u.rest) (sym w)

  inside_counts : new_body a.counts ≡ e.counts
  inside_counts = ap new_body brace.counts ∙ ap (λ (u : ReaderView). u.counts) (sym w)

  body_opened : Leads (Body l ∷ []) (Block l ∷ AfterBody l a.counts.deepest ∷ []) a e
  body_opened = λ z. ap (λ u. run_parser limits u (Body l ∷ z) a.counts) brace.rest ∙ same_run d.rest e.rest (Block l ∷ AfterBody l a.counts.deepest ∷ z) (new_body a.counts) e.counts inside_rest inside_counts

  pub body_block_fails : (at : ReaderView) (err : ParseFault) → Fails (Block l ∷ []) e at err → Fails (Body l ∷ []) a at err
  body_block_fails at err f = fails_under (Body l ∷ []) (Block l ∷ []) (AfterBody l a.counts.deepest ∷ []) a e at err body_opened f

  -- at m after the block, with the counts of the body; at n with those outside
  module _ (m n : ReaderView) (xs : List Stmt) (t : IsBlock limits l e.counts m.counts e.rest m.rest xs) (o : ℕ) (deep : o ≡ a.counts.deepest) (v : n ≡ reader_with (behind_body o) m)
      (x : Bool) (c : IsTrue x ↔ IsKeyAt k.Par (first m.rest)) where
    block_is : IsBlock limits l (new_body a.counts) m.counts d.rest m.rest xs
    block_is = subst (λ u. IsBlock limits l u m.counts d.rest m.rest xs) (sym inside_counts) (subst (λ u. IsBlock limits l e.counts m.counts u m.rest xs) (sym inside_rest) t)

    outside_rest : n.rest ≡ m.rest
    outside_rest = ap (λ (u : ReaderView). u.rest) v

    outside_counts : n.counts ≡ behind_body a.counts.deepest m.counts
    outside_counts = ap (λ (u : ReaderView). u.counts) v ∙ ap (λ u. behind_body u m.counts) deep

    pub body_block_reads : x ≡ false → IsBody limits l a.counts n.counts a.rest n.rest xs
    body_block_reads f = rw (brace.rest, outside_rest, outside_counts) (is.body_block block_is (not_par (first m.rest) x c f))

    body_passed : Leads (Body l ∷ []) (AfterBody l a.counts.deepest ∷ []) a m
    body_passed = then (Body l ∷ []) (Block l ∷ AfterBody l a.counts.deepest ∷ []) (AfterBody l a.counts.deepest ∷ []) a e m body_opened (block_leads l (AfterBody l a.counts.deepest ∷ []) e m xs t)

    module _ (f : x ≡ true) (j : ℕ) (b : j ≡ as_branch l m.counts) where
      abbrev fork_place : Place
      fork_place = (c.0 f).0

      fork_first : first m.rest ≡ Key k.Par fork_place
      fork_first = (c.0 f).1

      fork_wants : (z : SymbolStack) → wants (AfterBody l a.counts.deepest ∷ z) (first m.rest) m.counts
          ≡ ask Nesting (as_branch l m.counts) (go (Branch l 2 ∷ Pars l 2 ∷ z) (at_level (as_branch l m.counts) (behind_body a.counts.deepest m.counts)))
      fork_wants z = rw fork_first refl

      pub body_enter_fails : (at : ReaderView) (err : ParseFault) → is_within Nesting j ≡ false → at ≡ n → Blames err (Past Nesting) (first n.rest) → Fails (Body l ∷ []) a at err
      body_enter_fails at err p u s = fails_there (Body l ∷ []) a m at err (sym outside_rest ∙ ap (λ (i : ReaderView). i.rest) (sym u))
          (fails_as (Body l ∷ []) (AfterBody l a.counts.deepest ∷ []) a m m err body_passed
          (refused (AfterBody l a.counts.deepest) [] m err Nesting (as_branch l m.counts) (λ z. go (Branch l 2 ∷ Pars l 2 ∷ z) (at_level (as_branch l m.counts) (behind_body a.counts.deepest m.counts)))
          is_par (ap is_par fork_first) refl fork_wants (λ z. refl) (subst (λ i. is_within Nesting i ≡ false) b p) (subst (λ i. Blames err (Past Nesting) (first i)) outside_rest s)))

      -- at s with the level of the fork
      module _ (s : ReaderView) (p : is_within Nesting j ≡ true) (u : s ≡ reader_with (at_level j) n) where
        fork_rest : m.rest ≡ s.rest
        fork_rest = sym outside_rest ∙ ap (λ (i : ReaderView). i.rest) (sym u)

        fork_counts : at_level (as_branch l m.counts) (behind_body a.counts.deepest m.counts) ≡ s.counts
        fork_counts = ap (λ i. at_level i (behind_body a.counts.deepest m.counts)) (sym b) ∙ ap (λ i. at_level j i) (sym outside_counts) ∙ ap (λ (i : ReaderView). i.counts) (sym u)

        fork_within : is_within Nesting (as_branch l m.counts) ≡ true
        fork_within = subst (λ i. is_within Nesting i ≡ true) b p

        -- the machine does with the `par` after a body as with one after a branch
        par_run : (r : List Terminal) (v w : TextCounts) (z : SymbolStack) → IsKeyAt k.Par (first r) → is_within Nesting (as_branch l v) ≡ true → at_level (as_branch l v) (behind_body a.counts.deepest v) ≡ w
            → run_parser limits r (AfterBody l a.counts.deepest ∷ z) v ≡ run_parser limits r (Pars l 1 ∷ z) w
        par_run [] v w z g h i = absurd (let e = g.1 in cc)
        par_run (t ∷ r) v w z g h i = rw g.1 (asked limits (Key k.Par g.0) r Nesting (as_branch l v) (go (Branch l 2 ∷ Pars l 2 ∷ z) (at_level (as_branch l v) (behind_body a.counts.deepest v))) h
            ∙ ap (λ o. run_parser limits r (Branch l 2 ∷ Pars l 2 ∷ z) o) i)

        body_forked : Leads (Body l ∷ []) (Pars l 1 ∷ []) a s
        body_forked = λ z. body_passed z ∙ par_run m.rest m.counts s.counts z (c.0 f) fork_within fork_counts ∙ ap (λ o. run_parser limits o (Pars l 1 ∷ z) s.counts) fork_rest

        pub body_branches_fails : (at : ReaderView) (err : ParseFault) → Fails (Pars l 1 ∷ []) s at err → Fails (Body l ∷ []) a at err
        body_branches_fails at err o = fails_as (Body l ∷ []) (Pars l 1 ∷ []) a s at err body_forked o

        pub body_fork_reads : (i : ReaderView) (line : ℕ) (bs : List BranchTree) (ys : List Stmt) → line ≡ brace_place.line → IsAfterPar (record { line = line; what = br.Block xs }) l s.counts i.counts s.rest i.rest bs
            → ys ≡ record { line = line; what = st.Par bs } ∷ [] → IsBody limits l a.counts i.counts a.rest i.rest ys
        body_fork_reads i line bs ys o (t', r, cs, e', z, v') ys_are =
            let rest : m.rest ≡ Key k.Par t' ∷ r = fork_rest ∙ e' in
            let core : IsBody limits l a.counts i.counts (Sign g.LeftBrace brace_place ∷ d.rest) i.rest (record { line = brace_place.line; what = st.Par (record { line = brace_place.line; what = br.Block xs } ∷ cs) } ∷ []) =
            is.body_fork (subst (λ u. IsBlock limits l (new_body a.counts) m.counts d.rest u xs) rest block_is)
            (subst (λ u. limits u Nesting (as_branch l m.counts) ≡ true) rest fork_within)
            (subst (λ u. is.IsBranches limits l 1 u i.counts r i.rest cs) (sym fork_counts) z) in
            let lined = subst (λ u. IsBody limits l a.counts i.counts (Sign g.LeftBrace brace_place ∷ d.rest) i.rest (record { line = u; what = st.Par (record { line = u; what = br.Block xs } ∷ cs) } ∷ [])) (sym o) core in
            let forked = subst (λ u. IsBody limits l a.counts i.counts (Sign g.LeftBrace brace_place ∷ d.rest) i.rest (record { line = line; what = st.Par u } ∷ [])) (sym v') lined in
            subst (λ u. IsBody limits l a.counts i.counts u i.rest ys) (sym brace.rest)
            (subst (λ u. IsBody limits l a.counts i.counts (Sign g.LeftBrace brace_place ∷ d.rest) i.rest u) (sym ys_are) forked)
