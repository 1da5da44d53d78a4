-- Punctuations and names.
use Rattle.std.proofs.Common.{◌≡◌, [], ◌∷◌, Some, None, Bool, true, false, IsTrue, ◌↔◌, refl, sym, ◌∙◌, ap}
use Rattle.shim_base.specs.Tokens.{Place}
use Rattle.shim_base.specs.declared.token.Keyword.TheVariants as k
use Rattle.shim_base.specs.declared.token.Sign.TheVariants as g
use Rattle.shim_syntax.specs.Terminals.{Terminal, Key, Sign, first, terminal_place}
use Rattle.shim_syntax.specs.Grammar.{TextCounts}
use Rattle.shim_grammar.specs.Machine.{SymbolStack, Fixed, Unwanted, fixed}
use Rattle.shim_grammar.specs.declared.punctuation.Punctuation.{Punctuation}
use Rattle.shim_grammar.specs.declared.punctuation.Punctuation.TheVariants as punctuation
use Rattle.shim_parser.specs.declared.fault.ParseFault.{ParseFault}
use Rattle.shim_parser.specs.Parts.{punctuationed, punctuation_of, IsPunctuation}
use Rattle.shim_parser.specs.ReaderViews.{ReaderView, Blames, Fails}
use Rattle.shim_parser.proofs.Exits.{took, unwanted}

other_punctuation : (f : Punctuation) (t : Terminal) (k : SymbolStack) (w : TextCounts) → (punctuation_of t ≡ Some f → ⊥) → fixed f t k w ≡ None
other_punctuation punctuation.LeftParen (Sign g.LeftParen p) k w h = absurd (h refl)
other_punctuation punctuation.RightParen (Sign g.RightParen p) k w h = absurd (h refl)
other_punctuation punctuation.LeftBrace (Sign g.LeftBrace p) k w h = absurd (h refl)
other_punctuation punctuation.Comma (Sign g.Comma p) k w h = absurd (h refl)
other_punctuation punctuation.Semicolon (Sign g.Semicolon p) k w h = absurd (h refl)
other_punctuation punctuation.Equal (Sign g.Equal p) k w h = absurd (h refl)
other_punctuation punctuation.Catch (Key k.Catch p) k w h = absurd (h refl)
other_punctuation _ _ k w h = refl

same_punctuation : (f h : Punctuation) (p : Place) → Some h ≡ Some f → punctuationed h p ≡ punctuationed f p
same_punctuation f h p e = let w : h ≡ f = cc in ap (λ u. punctuationed u p) w

this_punctuation : (f : Punctuation) (t : Terminal) → punctuation_of t ≡ Some f → t ≡ punctuationed f (terminal_place t)
this_punctuation f (Sign g.LeftParen p) h = same_punctuation f punctuation.LeftParen p h
this_punctuation f (Sign g.RightParen p) h = same_punctuation f punctuation.RightParen p h
this_punctuation f (Sign g.LeftBrace p) h = same_punctuation f punctuation.LeftBrace p h
this_punctuation f (Sign g.Comma p) h = same_punctuation f punctuation.Comma p h
this_punctuation f (Sign g.Semicolon p) h = same_punctuation f punctuation.Semicolon p h
this_punctuation f (Sign g.Equal p) h = same_punctuation f punctuation.Equal p h
this_punctuation f (Key k.Catch p) h = same_punctuation f punctuation.Catch p h
this_punctuation f _ h = absurd (cc)

-- what was asked of the terminal
abbrev pub IsFound : Punctuation → Terminal → Bool → Type 0
IsFound f t b = IsTrue b ↔ (punctuation_of t ≡ Some f)

not_found : (f : Punctuation) (t : Terminal) (b : Bool) → IsFound f t b → b ≡ false → punctuation_of t ≡ Some f → ⊥
not_found f t b h n e = absurd (let w : false ≡ true = sym n ∙ h.1 e in cc)

pub punctuation_fails : (f : Punctuation) (a : ReaderView) (e : ParseFault) (b : Bool) → IsFound f (first a.rest) b → b ≡ false → Blames e Unwanted (first a.rest) → Fails (Fixed f ∷ []) a a e
punctuation_fails f a e b h n w = unwanted (Fixed f) [] a e (λ k. other_punctuation f (first a.rest) k a.counts (not_found f (first a.rest) b h n)) w

pub punctuation_reads : (f : Punctuation) (a d : ReaderView) (b : Bool) → IsFound f (first a.rest) b → b ≡ true → a ≡ record { rest = first a.rest ∷ d.rest; counts = d.counts } → IsPunctuation f a.counts d.counts a.rest d.rest tt
punctuation_reads f a d b h y q =
    let t = this_punctuation f (first a.rest) (h.0 y) in
    let w = took {t = punctuationed f (terminal_place (first a.rest))} {a = a} {b = d} (sym t) q in
    (terminal_place (first a.rest), w.rest, w.counts)
