-- What the functions for the parentheses of a `for` read, within the limits.
use Rattle.std.specs.Prelude.{ℕ, suc, ◌≡◌, List, ◌∷◌}
use Rattle.shim_base.specs.declared.token.Sign.TheVariants.{LeftParen, Equal}
use Rattle.shim_base.specs.Tokens.{Place}
use Rattle.shim_syntax.specs.declared.Expr.{Expr}
use Rattle.shim_syntax.specs.Terminals.{Terminal, Sign}
use Rattle.shim_syntax.specs.Limits.{limits}
use Rattle.shim_syntax.specs.Grammar.{TextCounts, IsWhole, IsFirst, IsTest, IsStep}
use Rattle.shim_grammar.specs.declared.Punctuation.{Punctuation}
use Rattle.shim_parser.specs.declared.for_parts.ForParts.{ForParts}
use Rattle.shim_parser.specs.Parts.{punctuationed}

-- an `=`, a value, and a punctuation
abbrev pub IsValueAfter : Punctuation → ℕ → TextCounts → TextCounts → List Terminal → List Terminal → Expr → Type 0
IsValueAfter f l v w s r x = (p : Place) × (q : Place) × (m : List Terminal) × (s ≡ Sign Equal p ∷ m) × IsWhole limits l v w m (punctuationed f q ∷ r) x

-- the parentheses of a `for` of the level l
abbrev pub IsHeader : ℕ → TextCounts → TextCounts → List Terminal → List Terminal → ForParts → Type 0
IsHeader l v w s r parts = (p : Place) × (u : TextCounts) × (t : TextCounts) × (m : List Terminal) × (i : List Terminal) × (j : List Terminal) × (s ≡ Sign LeftParen p ∷ m)
    × IsFirst limits (suc l) v u m i parts.first × IsTest limits l u t i j parts.test × IsStep limits (suc l) t w j r parts.step
