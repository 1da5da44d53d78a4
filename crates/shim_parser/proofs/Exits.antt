-- What an exit of the parser shows: how the machine goes from what was to come to what is to come, and that a fault further on is one here.
use Rattle.std.proofs.Common.{◌≡◌, ℕ, List, [], ◌∷◌, ◌++◌, Bool, true, false, Option, Some, None, refl, ap, sym, ◌∙◌, subst, append_assoc}
use Rattle.std.specs.Prelude.{Result, Ok, Err, IsErr, IsErrAnd, IsSome}
use Rattle.shim_syntax.specs.Terminals.{Terminal, first}
use Rattle.shim_syntax.specs.Limits.{Limit, limits, is_within}
use Rattle.shim_syntax.specs.Grammar.{TextCounts}
use Rattle.shim_grammar.specs.Machine.{Symbol, SymbolStack, Want, Cause, Unwanted, Past, At, ask, wants, run_parser}
use Rattle.shim_grammar.proofs.Runs.{run_on}
use Rattle.shim_parser.specs.declared.fault.ParseFault.{ParseFault}
use Rattle.shim_parser.specs.declared.fault.ParseFault.TheVariants.{Lex, Unexpected, TooDeep, TooMany, NoMemory}
use Rattle.shim_parser.specs.ReaderViews.{ReaderView, Blames, Halts, Fails, Reads}

-- with x to come at a, and whatever after it, the machine runs as with y to come at b
abbrev pub Leads : SymbolStack → SymbolStack → ReaderView → ReaderView → Type 0
Leads x y a b = (k : SymbolStack) → run_parser limits a.rest (x ++ k) a.counts ≡ run_parser limits b.rest (y ++ k) b.counts

halts_as : (x y : SymbolStack) (a b c : ReaderView) (e : ParseFault) → Leads x y a b → Halts y b c e → Halts x a c e
halts_as x y a b c e f h = record { cause = h.cause; blames = h.blames; halts = λ k. f k ∙ h.halts k }

pub fails_as : (x y : SymbolStack) (a b c : ReaderView) (e : ParseFault) → Leads x y a b → Fails y b c e → Fails x a c e
fails_as x y a b c NoMemory f h = tt
fails_as x y a b c (Lex l) f h = halts_as x y a b c (Lex l) f h
fails_as x y a b c (Unexpected at line) f h = halts_as x y a b c (Unexpected at line) f h
fails_as x y a b c (TooDeep line) f h = halts_as x y a b c (TooDeep line) f h
fails_as x y a b c (TooMany what line) f h = halts_as x y a b c (TooMany what line) f h

-- the same, where z is to come after what failed
longer : (y z : SymbolStack) (b c : ReaderView) (e : ParseFault) → Halts y b c e → Halts (y ++ z) b c e
longer y z b c e h = record { cause = h.cause; blames = h.blames; halts = λ k. rw append_assoc (h.halts (z ++ k)) }

fails_longer : (y z : SymbolStack) (b c : ReaderView) (e : ParseFault) → Fails y b c e → Fails (y ++ z) b c e
fails_longer y z b c NoMemory h = tt
fails_longer y z b c (Lex l) h = longer y z b c (Lex l) h
fails_longer y z b c (Unexpected at line) h = longer y z b c (Unexpected at line) h
fails_longer y z b c (TooDeep line) h = longer y z b c (TooDeep line) h
fails_longer y z b c (TooMany what line) h = longer y z b c (TooMany what line) h

pub fails_under : (x y z : SymbolStack) (a b c : ReaderView) (e : ParseFault) → Leads x (y ++ z) a b → Fails y b c e → Fails x a c e
fails_under x y z a b c e f h = fails_as x (y ++ z) a b c e f (fails_longer y z b c e h)

pub propagates : {V : Type 0} (X : TextCounts → TextCounts → List Terminal → List Terminal → V → Type 0) (x : SymbolStack) (a b : ReaderView) (e : ParseFault) (r : Result V ParseFault)
    → IsErr r × IsErrAnd r (λ y. y ≡ e) → Fails x a b e → Reads X x r a b
propagates X x a b e (Ok v) w h = absurd w.1
propagates X x a b e (Err y) w h = subst (λ u. Fails x a b u) (sym w.1) h

-- what was read becomes something larger, and so does what fails
pub reads_as : {V : Type 0} (X : TextCounts → TextCounts → List Terminal → List Terminal → V → Type 0) (Y : TextCounts → TextCounts → List Terminal → List Terminal → V → Type 0) (x y z : SymbolStack) (a b c : ReaderView) (r : Result V ParseFault)
    → ((v : V) → X b.counts c.counts b.rest c.rest v → Y a.counts c.counts a.rest c.rest v) → Leads y (x ++ z) a b → Reads X x r b c → Reads Y y r a c
reads_as X Y x y z a b c (Ok v) f g h = f v h
reads_as X Y x y z a b c (Err e) f g h = fails_under y x z a b c e g h

-- the terminal that was looked at was taken
pub record Took (t : Terminal) (a b : ReaderView) : Type 0 where
  pub rest : a.rest ≡ t ∷ b.rest
  pub counts : a.counts ≡ b.counts

pub took : {t : Terminal} {a b : ReaderView} → t ≡ first a.rest → a ≡ record { rest = first a.rest ∷ b.rest; counts = b.counts } → Took t a b
took {t = t} {a = a} {b = b} p q = record { rest = ap (λ (u : ReaderView). u.rest) q ∙ ap (λ u. u ∷ b.rest) (sym p); counts = ap (λ (u : ReaderView). u.counts) q }

-- the machine halts where the parser stands
pub fails_at : (x : SymbolStack) (a : ReaderView) (e : ParseFault) (cause : Cause) → Blames e cause (first a.rest) → ((k : SymbolStack) → run_parser limits a.rest (x ++ k) a.counts ≡ At cause a.rest) → Fails x a a e
fails_at x a NoMemory cause b h = tt
fails_at x a (Lex l) cause b h = record { cause = cause; blames = b; halts = h }
fails_at x a (Unexpected at line) cause b h = record { cause = cause; blames = b; halts = h }
fails_at x a (TooDeep line) cause b h = record { cause = cause; blames = b; halts = h }
fails_at x a (TooMany what line) cause b h = record { cause = cause; blames = b; halts = h }

unwanted_run : (y : Symbol) (s : List Terminal) (k : SymbolStack) (w : TextCounts) → wants (y ∷ k) (first s) w ≡ None → run_parser limits s (y ∷ k) w ≡ At Unwanted s
unwanted_run y [] k w h = refl
unwanted_run y (t ∷ s) k w h = ap (λ o. run_on limits t s o) h

-- a terminal that the symbol doesn't want
pub unwanted : (y : Symbol) (z : SymbolStack) (a : ReaderView) (e : ParseFault) → ((k : SymbolStack) → wants (y ∷ k) (first a.rest) a.counts ≡ None) → Blames e Unwanted (first a.rest) → Fails (y ∷ z) a a e
unwanted y z a e h b = fails_at (y ∷ z) a e Unwanted b (λ k. unwanted_run y a.rest (z ++ k) a.counts (h (z ++ k)))

refused_on : (t : Terminal) (s : List Terminal) (limit : Limit) (n : ℕ) (o : Option Want) → IsSome o → is_within limit n ≡ false → run_on limits t s (ask limit n o) ≡ At (Past limit) (t ∷ s)
refused_on t s limit n None i f = absurd (cc)
refused_on t s limit n (Some v) i f = rw f refl

refused_run : (y : Symbol) (s : List Terminal) (k : SymbolStack) (w : TextCounts) (limit : Limit) (n : ℕ) (o : Option Want) (begins : Terminal → Bool) → begins (first s) ≡ true → begins (first []) ≡ false
    → wants (y ∷ k) (first s) w ≡ ask limit n o → IsSome o → is_within limit n ≡ false → run_parser limits s (y ∷ k) w ≡ At (Past limit) s
refused_run y [] k w limit n o b p q h i f = absurd (cc)
refused_run y (t ∷ s) k w limit n o b p q h i f = ap (λ o. run_on limits t s o) h ∙ refused_on t s limit n o i f

-- a limit that doesn't allow what is asked
pub refused : (y : Symbol) (z : SymbolStack) (a : ReaderView) (e : ParseFault) (limit : Limit) (n : ℕ) (o : SymbolStack → Option Want) (begins : Terminal → Bool) → begins (first a.rest) ≡ true → begins (first []) ≡ false
    → ((k : SymbolStack) → wants (y ∷ k) (first a.rest) a.counts ≡ ask limit n (o k)) → ((k : SymbolStack) → IsSome (o k)) → is_within limit n ≡ false → Blames e (Past limit) (first a.rest) → Fails (y ∷ z) a a e
refused y z a e limit n o begins p q h i f b = fails_at (y ∷ z) a e (Past limit) b (λ k. refused_run y a.rest (z ++ k) a.counts limit n (o (z ++ k)) begins p q (h (z ++ k)) (i (z ++ k)) f)
