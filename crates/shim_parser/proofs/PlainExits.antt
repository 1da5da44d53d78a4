-- The exits of the functions that read statements which hold no other.
use Rattle.std.proofs.Common.{◌≡◌, ℕ, List, [], ◌∷◌, ◌++◌, false, Option, None, refl, sym, ◌∙◌, ap}
use Rattle.shim_base.specs.declared.token.Keyword.TheVariants as key
use Rattle.shim_base.specs.declared.token.Sign.TheVariants as g
use Rattle.shim_base.specs.Tokens.{Place}
use Rattle.shim_syntax.specs.declared.Expr.{Expr}
use Rattle.shim_syntax.specs.declared.tree.What.TheVariants as st
use Rattle.shim_syntax.specs.Terminals.{Key, Sign, first}
use Rattle.shim_syntax.specs.Limits.{limits}
use Rattle.shim_syntax.specs.Grammar as is
use Rattle.shim_syntax.specs.Grammar.{TextCounts, IsThrowRest}
use Rattle.shim_grammar.specs.declared.punctuation.Punctuation.TheVariants as punctuation
use Rattle.shim_grammar.specs.Machine.{SymbolStack, Unwanted, Fixed, Word, Expression, Operators, AfterEqual, AfterNext, ThrowRest, after_next, run_parser}
use Rattle.shim_grammar.proofs.Runs.{is_next_or_get, equal_skips}
use Rattle.shim_parser.specs.declared.terminal.Terminal as read
use Rattle.shim_parser.specs.declared.terminal.Terminal.TheVariants as here
use Rattle.shim_parser.specs.TerminalView.{terminal_view}
use Rattle.shim_parser.specs.declared.fault.ParseFault.{ParseFault}
use Rattle.shim_parser.specs.Parts.{IsName, IsNameBefore, IsWholeBefore}
use Rattle.shim_parser.specs.Statements.{IsAssigned, IsKeyed}
use Rattle.shim_parser.specs.ReaderViews.{ReaderView, Blames, Fails}
use Rattle.shim_parser.proofs.Exits.{Leads, took, fails_as, unwanted}

-- a name that was read
pub name_leads : (z : SymbolStack) (a b : ReaderView) (x : List ℕ) → IsName a.counts b.counts a.rest b.rest x → Leads (Word ∷ z) z a b
name_leads z a b x n = λ k. ap (λ u. run_parser limits u (Word ∷ (z ++ k)) a.counts) n.1 ∙ ap (λ u. run_parser limits b.rest (z ++ k) u) n.2

-- after `x =`
pub not_next_or_get : (t : read.Terminal) (p : Place) → (t ≡ here.Key key.Next → ⊥) → (t ≡ here.Key key.Get → ⊥) → is_next_or_get (terminal_view t p) ≡ false
not_next_or_get (here.Key key.Next) p h i = absurd (h refl)
not_next_or_get (here.Key key.Get) p h i = absurd (i refl)
not_next_or_get _ p h i = refl

pub value_fails : (l : ℕ) (a at : ReaderView) (err : ParseFault) → is_next_or_get (first a.rest) ≡ false → Fails (Expression l ∷ Operators l ∷ Fixed punctuation.Semicolon ∷ []) a at err
    → Fails (AfterEqual l ∷ []) a at err
value_fails l a at err h f = fails_as (AfterEqual l ∷ []) (Expression l ∷ Operators l ∷ Fixed punctuation.Semicolon ∷ []) a a at err (λ k. equal_skips limits a.rest l a.counts k h) f

pub value_reads : (l : ℕ) (a b : ReaderView) (x : List ℕ) (value : Expr) → IsWholeBefore punctuation.Semicolon l a.counts b.counts a.rest b.rest value
    → IsAssigned x l a.counts b.counts a.rest b.rest (st.Assign x value)
value_reads l a b x value w p q = is.assign w.1

pub assign_next_reads : (l : ℕ) (a b d : ReaderView) (x y : List ℕ) (o : Place) → Key key.Next o ≡ first a.rest → a ≡ record { rest = first a.rest ∷ b.rest; counts = b.counts }
    → IsNameBefore punctuation.Semicolon b.counts d.counts b.rest d.rest y → IsAssigned x l a.counts d.counts a.rest d.rest (st.AssignNext x y)
assign_next_reads l a b d x y o h e n p q = let w = took {t = Key key.Next o} {a = a} {b = b} h e in rw (w.rest, w.counts, n.2, n.3) is.assign_next

pub get_reads : (l : ℕ) (a b d : ReaderView) (x y : List ℕ) (o : Place) → Key key.Get o ≡ first a.rest → a ≡ record { rest = first a.rest ∷ b.rest; counts = b.counts }
    → IsNameBefore punctuation.Semicolon b.counts d.counts b.rest d.rest y → IsAssigned x l a.counts d.counts a.rest d.rest (st.Get x y)
get_reads l a b d x y o h e n p q = let w = took {t = Key key.Get o} {a = a} {b = b} h e in rw (w.rest, w.counts, n.2, n.3) is.get

-- after `next`
pub next_reads : (l : ℕ) (a b d : ReaderView) (x : List ℕ) (o : Place) → IsName a.counts b.counts a.rest b.rest x → Sign g.Semicolon o ≡ first b.rest
    → b ≡ record { rest = first b.rest ∷ d.rest; counts = d.counts }
    → IsKeyed key.Next l a.counts d.counts a.rest d.rest (st.Next x)
next_reads l a b d x o n h e p = let w = took {t = Sign g.Semicolon o} {a = b} {b = d} h e in rw (n.1, n.2, w.rest, w.counts) is.next

pub next_assign_reads : (l : ℕ) (a b d i : ReaderView) (x : List ℕ) (value : Expr) (o : Place) → IsName a.counts b.counts a.rest b.rest x → Sign g.Equal o ≡ first b.rest
    → b ≡ record { rest = first b.rest ∷ d.rest; counts = d.counts } → IsWholeBefore punctuation.Semicolon l d.counts i.counts d.rest i.rest value
    → IsKeyed key.Next l a.counts i.counts a.rest i.rest (st.NextAssign x value)
next_assign_reads l a b d i x value o n h e v p = let w = took {t = Sign g.Equal o} {a = b} {b = d} h e in rw (n.1, n.2, w.rest, w.counts) (is.next_assign v.1)

no_after_next : (t : read.Terminal) (p : Place) (l : ℕ) (k : SymbolStack) (w : TextCounts) → (t ≡ here.Sign g.Semicolon → ⊥) → (t ≡ here.Sign g.Equal → ⊥) → after_next (terminal_view t p) l k w ≡ None
no_after_next (here.Sign g.Semicolon) p l k w h i = absurd (h refl)
no_after_next (here.Sign g.Equal) p l k w h i = absurd (i refl)
no_after_next _ p l k w h i = refl

pub next_unwanted : (l : ℕ) (a b : ReaderView) (x : List ℕ) (err : ParseFault) (t : read.Terminal) (p : Place) → IsName a.counts b.counts a.rest b.rest x → terminal_view t p ≡ first b.rest
    → (t ≡ here.Sign g.Semicolon → ⊥) → (t ≡ here.Sign g.Equal → ⊥) → Blames err Unwanted (first b.rest) → Fails (Word ∷ AfterNext l ∷ []) a b err
next_unwanted l a b x err t p n v h i m = fails_as (Word ∷ AfterNext l ∷ []) (AfterNext l ∷ []) a b b err (name_leads (AfterNext l ∷ []) a b x n)
    (unwanted (AfterNext l) [] b err (λ k. ap (λ u. after_next u l k b.counts) (sym v) ∙ no_after_next t p l k b.counts h i) m)

-- after `put`
pub put_reads : (l : ℕ) (a b d : ReaderView) (x : List ℕ) (value : Expr) → IsNameBefore punctuation.Comma a.counts b.counts a.rest b.rest x → IsWholeBefore punctuation.Semicolon l b.counts d.counts b.rest d.rest value
    → IsKeyed key.Put l a.counts d.counts a.rest d.rest (st.Put x value)
put_reads l a b d x value n v p = rw (n.2, n.3) (is.put v.1)

-- after `throw`
pub throw_fails : (l : ℕ) (a b at : ReaderView) (x : List ℕ) (err : ParseFault) → IsName a.counts b.counts a.rest b.rest x → Fails (ThrowRest l ∷ []) b at err → Fails (Word ∷ ThrowRest l ∷ []) a at err
throw_fails l a b at x err n f = fails_as (Word ∷ ThrowRest l ∷ []) (ThrowRest l ∷ []) a b at err (name_leads (ThrowRest l ∷ []) a b x n) f

pub throw_reads : (l : ℕ) (a b d : ReaderView) (x : List ℕ) (value : Option Expr) → IsName a.counts b.counts a.rest b.rest x → IsThrowRest limits l b.counts d.counts b.rest d.rest value
    → IsKeyed key.Throw l a.counts d.counts a.rest d.rest (st.Throw x value)
throw_reads l a b d x value n v p = rw (n.1, n.2) (is.throw v)
