-- The exits of the functions that read what stands after the exception of a `throw` and of a `catch`.
use Rattle.std.proofs.Common.{◌≡◌, ℕ, suc, List, [], ◌∷◌, Bool, true, false, Option, Some, None, refl, sym, ◌∙◌, ap, subst}
use Rattle.std.specs.Prelude.{if◌then◌else◌}
use Rattle.shim_base.specs.declared.token.Sign.TheVariants as g
use Rattle.shim_base.specs.Tokens.{Place}
use Rattle.shim_syntax.specs.declared.limits.Many.TheVariants as many
use Rattle.shim_syntax.specs.declared.Expr.{Expr}
use Rattle.shim_syntax.specs.Terminals.{Terminal, Name, Sign, first}
use Rattle.shim_syntax.specs.Limits.{Count, limits, is_within}
use Rattle.shim_syntax.specs.Grammar as is
use Rattle.shim_syntax.specs.Grammar.{TextCounts, with_local, IsWhole, IsThrowRest, IsCatchRest}
use Rattle.shim_grammar.specs.declared.punctuation.Punctuation.TheVariants as punctuation
use Rattle.shim_grammar.specs.Machine.{SymbolStack, Past, Fixed, Expression, Operators, ThrowRest, CatchRest, ask, catch_rest, go, run_parser, wants}
use Rattle.shim_grammar.proofs.Runs.{run_on, asked, whole_runs}
use Rattle.shim_parser.specs.declared.terminal.Terminal as read
use Rattle.shim_parser.specs.declared.terminal.Terminal.TheVariants as here
use Rattle.shim_parser.specs.declared.fault.ParseFault.{ParseFault}
use Rattle.shim_parser.specs.Parts.{IsPunctuation, IsWholeBefore}
use Rattle.shim_parser.specs.Statements.{IsSignAt}
use Rattle.shim_parser.specs.ReaderViews.{ReaderView, Blames, Fails, reader_with}
use Rattle.shim_parser.proofs.Exits.{Leads, Took, took, fails_as, fails_under, refused}
use Rattle.shim_parser.proofs.ExprExits.{Counted, counted_took}
use Rattle.shim_parser.proofs.Sequences.{then, punctuation_leads}

-- after the exception of a `throw`
pub no_number_reads : (l : ℕ) (a b : ReaderView) (p : Place) → Sign g.Semicolon p ≡ first a.rest → a ≡ record { rest = first a.rest ∷ b.rest; counts = b.counts }
    → IsThrowRest limits l a.counts b.counts a.rest b.rest None
no_number_reads l a b p h q = let w = took {t = Sign g.Semicolon p} {a = a} {b = b} h q in rw (w.rest, w.counts) is.no_number

version_2_number : (p : Place) (s : List Terminal) (l : ℕ) (k : SymbolStack) (w : TextCounts) → w.two ≡ true
    → run_parser limits (Sign g.LeftParen p ∷ s) (ThrowRest l ∷ k) w ≡ run_parser limits s (Expression l ∷ Operators l ∷ Fixed punctuation.RightParen ∷ Fixed punctuation.Semicolon ∷ k) w
version_2_number p s l k w h =
    ap (λ b. run_on limits (Sign g.LeftParen p) s (if b then go (Expression l ∷ Operators l ∷ Fixed punctuation.RightParen ∷ Fixed punctuation.Semicolon ∷ k) w else None)) h

-- in one of version 2: at b after the parenthesis
module _ (l : ℕ) (a b : ReaderView) (h : IsSignAt g.LeftParen (first a.rest)) (two : a.counts.two ≡ true) (q : a ≡ record { rest = first a.rest ∷ b.rest; counts = b.counts }) where
  paren_took : Took (Sign g.LeftParen h.0) a b
  paren_took = took (sym h.1) q

  number_leads : Leads (ThrowRest l ∷ []) (Expression l ∷ Operators l ∷ Fixed punctuation.RightParen ∷ Fixed punctuation.Semicolon ∷ []) a b
  number_leads = λ k. ap (λ u. run_parser limits u (ThrowRest l ∷ k) a.counts) paren_took.rest ∙ version_2_number h.0 b.rest l k a.counts two
      ∙ ap (λ u. run_parser limits b.rest (Expression l ∷ Operators l ∷ Fixed punctuation.RightParen ∷ Fixed punctuation.Semicolon ∷ k) u) paren_took.counts

  -- at d after the number
  module _ (d : ReaderView) (x : Expr) (v : IsWholeBefore punctuation.RightParen l b.counts d.counts b.rest d.rest x) where
    pub number_end_fails : (at : ReaderView) (err : ParseFault) → Fails (Fixed punctuation.Semicolon ∷ []) d at err → Fails (ThrowRest l ∷ []) a at err
    number_end_fails at err f = fails_as (ThrowRest l ∷ []) (Fixed punctuation.Semicolon ∷ []) a d at err
        (λ k. number_leads k ∙ whole_runs b.counts v.1 (Fixed punctuation.RightParen ∷ Fixed punctuation.Semicolon ∷ k)) f

    pub number_reads : (n : ReaderView) → IsPunctuation punctuation.Semicolon d.counts n.counts d.rest n.rest tt → IsThrowRest limits l a.counts n.counts a.rest n.rest (Some x)
    number_reads n m =
        let w : IsWhole limits l b.counts n.counts b.rest (Sign g.RightParen v.0 ∷ Sign g.Semicolon m.0 ∷ n.rest) x =
        subst (λ u. IsWhole limits l b.counts u b.rest (Sign g.RightParen v.0 ∷ Sign g.Semicolon m.0 ∷ n.rest) x) m.2
        (subst (λ u. IsWhole limits l b.counts d.counts b.rest (Sign g.RightParen v.0 ∷ u) x) m.1 v.1) in
        let z : IsWhole limits l a.counts n.counts b.rest (Sign g.RightParen v.0 ∷ Sign g.Semicolon m.0 ∷ n.rest) x =
        subst (λ u. IsWhole limits l u n.counts b.rest (Sign g.RightParen v.0 ∷ Sign g.Semicolon m.0 ∷ n.rest) x) (sym paren_took.counts) w in
        subst (λ u. IsThrowRest limits l a.counts n.counts u n.rest (Some x)) (sym paren_took.rest) (is.thrown_number two z)

-- after the exception of a `catch`
module _ (a b : ReaderView) (p : Place) (h : Sign g.RightParen p ≡ first a.rest) (q : a ≡ record { rest = first a.rest ∷ b.rest; counts = b.counts }) where
  end_took : Took (Sign g.RightParen p) a b
  end_took = took h q

  pub no_variable_reads : (d : ReaderView) → IsPunctuation punctuation.LeftBrace b.counts d.counts b.rest d.rest tt → IsCatchRest limits a.counts d.counts a.rest d.rest None
  no_variable_reads d m = rw (end_took.rest, end_took.counts, m.1, m.2) is.no_variable

version_2_variable : (x : List ℕ) (p : Place) (k : SymbolStack) (w : TextCounts) → w.two ≡ true
    → catch_rest (Name x p) k w ≡ ask (Count many.Locals) (suc w.locals) (go (Fixed punctuation.RightParen ∷ Fixed punctuation.LeftBrace ∷ k) (with_local w))
version_2_variable x p k w h =
    ap (λ b. if b then ask (Count many.Locals) (suc w.locals) (go (Fixed punctuation.RightParen ∷ Fixed punctuation.LeftBrace ∷ k) (with_local w)) else None) h

abbrev is_name : Terminal → Bool
is_name (Name x p) = true
is_name _ = false

module _ (a : ReaderView) (x : List ℕ) (p : Place) (h : Name x p ≡ first a.rest) where
  -- in one of version 2
  module _ (two : a.counts.two ≡ true) where
    variable_refused_here : (err : ParseFault) → is_within (Count many.Locals) (suc a.counts.locals) ≡ false → Blames err (Past (Count many.Locals)) (first a.rest) → Fails (CatchRest ∷ []) a a err
    variable_refused_here err f m = refused CatchRest [] a err (Count many.Locals) (suc a.counts.locals) (λ k. go (Fixed punctuation.RightParen ∷ Fixed punctuation.LeftBrace ∷ k) (with_local a.counts)) is_name
        (ap is_name (sym h)) refl (λ k. ap (λ u. catch_rest u k a.counts) (sym h) ∙ version_2_variable x p k a.counts two) (λ k. refl) f m

    pub variable_refused : (b : ReaderView) (err : ParseFault) → is_within (Count many.Locals) (suc a.counts.locals) ≡ false → b ≡ a → Blames err (Past (Count many.Locals)) (first a.rest)
        → Fails (CatchRest ∷ []) a b err
    variable_refused b err f e m = subst (λ u. Fails (CatchRest ∷ []) a u err) (sym e) (variable_refused_here err f m)

    -- at b it is counted, at d it is taken
    module _ (b d : ReaderView) (f : is_within (Count many.Locals) (suc a.counts.locals) ≡ true) (e : b ≡ reader_with with_local a) (q : b ≡ record { rest = first b.rest ∷ d.rest; counts = d.counts }) where
      variable_took : Counted with_local (Name x p) a d
      variable_took = counted_took with_local (Name x p) a b d (sym h) e q

      variable_leads : Leads (CatchRest ∷ []) (Fixed punctuation.RightParen ∷ Fixed punctuation.LeftBrace ∷ []) a d
      variable_leads = λ k. ap (λ u. run_parser limits u (CatchRest ∷ k) a.counts) variable_took.rest ∙ ap (λ o. run_on limits (Name x p) d.rest o) (version_2_variable x p k a.counts two)
          ∙ asked limits (Name x p) d.rest (Count many.Locals) (suc a.counts.locals) (go (Fixed punctuation.RightParen ∷ Fixed punctuation.LeftBrace ∷ k) (with_local a.counts)) f
          ∙ ap (λ u. run_parser limits d.rest (Fixed punctuation.RightParen ∷ Fixed punctuation.LeftBrace ∷ k) u) (sym variable_took.counts)

      pub variable_paren_fails : (at : ReaderView) (err : ParseFault) → Fails (Fixed punctuation.RightParen ∷ []) d at err → Fails (CatchRest ∷ []) a at err
      variable_paren_fails at err w = fails_under (CatchRest ∷ []) (Fixed punctuation.RightParen ∷ []) (Fixed punctuation.LeftBrace ∷ []) a d at err variable_leads w

      -- at i after the parenthesis
      module _ (i : ReaderView) (m : IsPunctuation punctuation.RightParen d.counts i.counts d.rest i.rest tt) where
        pub variable_brace_fails : (at : ReaderView) (err : ParseFault) → Fails (Fixed punctuation.LeftBrace ∷ []) i at err → Fails (CatchRest ∷ []) a at err
        variable_brace_fails at err w = fails_as (CatchRest ∷ []) (Fixed punctuation.LeftBrace ∷ []) a i at err
            ((then) (CatchRest ∷ []) (Fixed punctuation.RightParen ∷ Fixed punctuation.LeftBrace ∷ []) (Fixed punctuation.LeftBrace ∷ []) a d i variable_leads
            (punctuation_leads punctuation.RightParen (Fixed punctuation.LeftBrace ∷ []) d i m)) w

        pub variable_reads : (j : ReaderView) (o : List ℕ) → IsPunctuation punctuation.LeftBrace i.counts j.counts i.rest j.rest tt → o ≡ x → IsCatchRest limits a.counts j.counts a.rest j.rest (Some o)
        variable_reads j o n same =
            let rest : a.rest ≡ Name x p ∷ Sign g.RightParen m.0 ∷ Sign g.LeftBrace n.0 ∷ j.rest =
            variable_took.rest ∙ ap (λ u. Name x p ∷ u) m.1 ∙ ap (λ u. Name x p ∷ Sign g.RightParen m.0 ∷ u) n.1 in
            let counts : with_local a.counts ≡ j.counts = sym variable_took.counts ∙ m.2 ∙ n.2 in
            subst (λ u. IsCatchRest limits a.counts j.counts a.rest j.rest (Some u)) (sym same)
            (subst (λ u. IsCatchRest limits a.counts u a.rest j.rest (Some x)) counts
            (subst (λ u. IsCatchRest limits a.counts (with_local a.counts) u j.rest (Some x)) (sym rest) (is.catch_variable two f)))
