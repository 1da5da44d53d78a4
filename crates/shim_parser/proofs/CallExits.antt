-- The exits of the functions that read the arguments of a call.
use Rattle.std.proofs.Common.{◌≡◌, ℕ, suc, List, [], ◌∷◌, ◌++◌, true, false, None, refl, sym, ◌∙◌, ap, subst, append_assoc}
use Rattle.std.specs.Prelude.{Result, IsSome}
use Rattle.shim_base.specs.declared.token.Sign.TheVariants as g
use Rattle.shim_base.specs.Tokens.{Place}
use Rattle.shim_syntax.specs.declared.limits.Many.TheVariants as many
use Rattle.shim_syntax.specs.declared.Expr.{Expr}
use Rattle.shim_syntax.specs.Terminals.{Terminal, Name, Number, Sign, first}
use Rattle.shim_syntax.specs.Limits.{Count, limits, is_within}
use Rattle.shim_syntax.specs.Grammar as is
use Rattle.shim_syntax.specs.Grammar.{TextCounts, IsWhole, IsArguments, IsMoreArguments}
use Rattle.shim_grammar.specs.declared.punctuation.Punctuation.TheVariants as punctuation
use Rattle.shim_grammar.specs.Machine.{SymbolStack, Unwanted, Fixed, Expression, Operators, Argument, Arguments, MoreArguments, is_operator, operand, more_arguments, run_parser}
use Rattle.shim_grammar.proofs.Runs.{is_right_paren, argument_runs, arguments_open, arguments_skips, arguments_runs}
use Rattle.shim_parser.specs.declared.terminal.Terminal as read
use Rattle.shim_parser.specs.declared.terminal.Terminal.TheVariants as here
use Rattle.shim_parser.specs.TerminalView.{terminal_view}
use Rattle.shim_parser.specs.declared.fault.ParseFault.{ParseFault}
use Rattle.shim_parser.specs.Parts.{begins_operand}
use Rattle.shim_parser.specs.Calls.{IsArgument}
use Rattle.shim_parser.specs.ReaderViews.{ReaderView, Blames, Fails, Reads}
use Rattle.shim_parser.proofs.Exits.{Leads, Took, took, fails_as, reads_as, unwanted}
use Rattle.shim_parser.proofs.ExprExits.{whole_leads}

pub argument_reads : (n l : ℕ) (a b : ReaderView) (r : Result Expr ParseFault) → is_within (Count many.Arguments) n ≡ true → Reads (IsWhole limits l) (Expression l ∷ Operators l ∷ []) r a b
    → Reads (IsArgument n l) (Argument l n ∷ []) r a b
argument_reads n l a b r h d = reads_as (IsWhole limits l) (IsArgument n l) (Expression l ∷ Operators l ∷ []) (Argument l n ∷ []) (MoreArguments l n ∷ []) a a b r
    (λ x f. (h, f)) (λ k. argument_runs limits a.rest l n a.counts k h) d

argument_leads : (n l : ℕ) (a b : ReaderView) (x : Expr) → IsArgument n l a.counts b.counts a.rest b.rest x → is_operator (first b.rest) ≡ false → Leads (Argument l n ∷ []) (MoreArguments l n ∷ []) a b
argument_leads n l a b x d s = λ k. argument_runs limits a.rest l n a.counts k d.0 ∙ whole_leads l (MoreArguments l n ∷ []) a b x d.1 s k

-- no arguments at all
pub none_reads : (l : ℕ) (a b : ReaderView) (p : Place) (xs : List Expr) → Sign g.RightParen p ≡ first a.rest → a ≡ record { rest = first a.rest ∷ b.rest; counts = b.counts } → xs ≡ []
    → IsArguments limits l a.counts b.counts a.rest b.rest xs
none_reads l a b p xs h q e = let w = took {t = Sign g.RightParen p} {a = a} {b = b} h q in rw (e, w.rest, w.counts) is.no_arguments

pub not_right_paren : (t : read.Terminal) (p : Place) → (t ≡ here.Sign g.RightParen → ⊥) → is_right_paren (terminal_view t p) ≡ false
not_right_paren (here.Sign g.RightParen) p h = absurd (h refl)
not_right_paren _ p h = refl

pub first_fails : (l : ℕ) (a at : ReaderView) (err : ParseFault) → is_right_paren (first a.rest) ≡ false → Fails (Argument l 1 ∷ []) a at err → Fails (Arguments l ∷ []) a at err
first_fails l a at err h f = fails_as (Arguments l ∷ []) (Argument l 1 ∷ []) a a at err (λ k. arguments_skips limits a.rest l a.counts k h) f

-- what reads on from here, reads from the start
pub record ArgumentsSoFar (l n : ℕ) (a b : ReaderView) (xs : List Expr) : Type 0 where
  pub within : is_within (Count many.Arguments) n ≡ true
  pub reads : (w : TextCounts) (r : List Terminal) (zs : List Expr) → IsMoreArguments limits l n b.counts w b.rest r zs → IsArguments limits l a.counts w a.rest r (xs ++ zs)
  pub runs : Leads (Arguments l ∷ []) (MoreArguments l n ∷ []) a b

pub arguments_start : (l n : ℕ) (a b : ReaderView) (x : Expr) (xs ys : List Expr) → n ≡ 1 → IsArgument 1 l a.counts b.counts a.rest b.rest x → is_operator (first b.rest) ≡ false → ys ≡ [] → xs ≡ ys ++ x ∷ []
    → ArgumentsSoFar l n a b xs
arguments_start l n a b x xs ys m d s e q = rw (m, q, e) (record {
  within = refl;
  reads = λ w r zs f. is.arguments d.0 d.1 f;
  runs = λ k. arguments_open d.1 l a.counts k ∙ argument_leads 1 l a b x d s k;
})

pub arguments_end : (l n : ℕ) (a b d : ReaderView) (xs : List Expr) (p : Place) → ArgumentsSoFar l n a b xs → Sign g.RightParen p ≡ first b.rest
    → b ≡ record { rest = first b.rest ∷ d.rest; counts = d.counts }
    → IsArguments limits l a.counts d.counts a.rest d.rest xs
arguments_end l n a b d xs p c h q =
    let w = took {t = Sign g.RightParen p} {a = b} {b = d} h q in
    let f : IsMoreArguments limits l n b.counts d.counts b.rest d.rest [] = rw (w.rest, w.counts) is.arguments_end in
    subst (λ u. IsArguments limits l a.counts d.counts a.rest d.rest u) (append_nil xs) (c.reads d.counts d.rest [] f)
  where
    append_nil : (xs : List Expr) → xs ++ [] ≡ xs
    append_nil [] = refl
    append_nil (x ∷ xs) = ap (λ u. x ∷ u) (append_nil xs)

-- a comma at b
module _ (l n j : ℕ) (e : j ≡ suc n) (a b d : ReaderView) (xs : List Expr) (p : Place) (c : ArgumentsSoFar l n a b xs) (h : Sign g.Comma p ≡ first b.rest)
    (q : b ≡ record { rest = first b.rest ∷ d.rest; counts = d.counts }) where
  comma : Took (Sign g.Comma p) b d
  comma = took h q

  comma_leads : Leads (Arguments l ∷ []) (Argument l j ∷ []) a d
  comma_leads = subst (λ i. Leads (Arguments l ∷ []) (Argument l i ∷ []) a d) (sym e)
      (λ k. c.runs k ∙ ap (λ u. run_parser limits u (MoreArguments l n ∷ k) b.counts) comma.rest ∙ ap (λ u. run_parser limits d.rest (Argument l (suc n) ∷ k) u) comma.counts)

  pub next_fails : (at : ReaderView) (err : ParseFault) → Fails (Argument l j ∷ []) d at err → Fails (Arguments l ∷ []) a at err
  next_fails at err f = fails_as (Arguments l ∷ []) (Argument l j ∷ []) a d at err comma_leads f

  pub arguments_go : (i : ReaderView) (x : Expr) (ys : List Expr) → IsArgument j l d.counts i.counts d.rest i.rest x → is_operator (first i.rest) ≡ false → ys ≡ xs ++ x ∷ [] → ArgumentsSoFar l j a i ys
  arguments_go i x ys r s t =
      let r₁ : IsArgument (suc n) l b.counts i.counts d.rest i.rest x =
      subst (λ u. IsArgument (suc n) l u i.counts d.rest i.rest x) (sym comma.counts) (subst (λ u. IsArgument u l d.counts i.counts d.rest i.rest x) e r) in
      record {
        within = r.0;
        reads = λ w m zs f.
            let f₁ : IsMoreArguments limits l (suc n) i.counts w i.rest m zs = subst (λ u. IsMoreArguments limits l u i.counts w i.rest m zs) e f in
            let g₁ : IsMoreArguments limits l n b.counts w b.rest m (x ∷ zs) = subst (λ u. IsMoreArguments limits l n b.counts w u m (x ∷ zs)) (sym comma.rest) (is.argument r₁.0 r₁.1 f₁) in
            subst (λ u. IsArguments limits l a.counts w a.rest m u) (sym (ap (λ u. u ++ zs) t ∙ append_assoc xs (x ∷ []) zs)) (c.reads w m (x ∷ zs) g₁);
        runs = λ k. comma_leads k ∙ argument_leads j l d i x r s k;
      }

no_more : (t : read.Terminal) (p : Place) (l n : ℕ) (k : SymbolStack) (w : TextCounts) → (t ≡ here.Sign g.RightParen → ⊥) → (t ≡ here.Sign g.Comma → ⊥) → more_arguments (terminal_view t p) l n k w ≡ None
no_more (here.Sign g.RightParen) p l n k w h i = absurd (h refl)
no_more (here.Sign g.Comma) p l n k w h i = absurd (i refl)
no_more _ p l n k w h i = refl

pub more_unwanted : (l n : ℕ) (a b : ReaderView) (xs : List Expr) (err : ParseFault) (t : read.Terminal) (p : Place) → ArgumentsSoFar l n a b xs → terminal_view t p ≡ first b.rest
    → (t ≡ here.Sign g.RightParen → ⊥) → (t ≡ here.Sign g.Comma → ⊥) → Blames err Unwanted (first b.rest) → Fails (Arguments l ∷ []) a b err
more_unwanted l n a b xs err t p c v h i m = fails_as (Arguments l ∷ []) (MoreArguments l n ∷ []) a b b err c.runs
    (unwanted (MoreArguments l n) [] b err (λ k. ap (λ u. more_arguments u l n k b.counts) (sym v) ∙ no_more t p l n k b.counts h i) m)

-- the semicolon after the arguments
pub call_punctuation_fails : (l : ℕ) (a b at : ReaderView) (xs : List Expr) (err : ParseFault) → IsArguments limits l a.counts b.counts a.rest b.rest xs → Fails (Fixed punctuation.Semicolon ∷ []) b at err
    → Fails (Arguments l ∷ Fixed punctuation.Semicolon ∷ []) a at err
call_punctuation_fails l a b at xs err d f = fails_as (Arguments l ∷ Fixed punctuation.Semicolon ∷ []) (Fixed punctuation.Semicolon ∷ []) a b at err (λ k. arguments_runs d (Fixed punctuation.Semicolon ∷ k)) f
