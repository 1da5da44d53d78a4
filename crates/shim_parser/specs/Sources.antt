-- What the functions for a whole source read, within the limits.
use Rattle.std.specs.Prelude.{◌≡◌, List, [], ◌∷◌, true}
use Rattle.shim_base.specs.declared.token.Sign.TheVariants.{Semicolon}
use Rattle.shim_base.specs.Tokens.{Place}
use Rattle.shim_syntax.specs.declared.tree.Program.{Program}
use Rattle.shim_syntax.specs.Terminals.{Terminal, Sign, End, is_two}
use Rattle.shim_syntax.specs.Limits.{limits}
use Rattle.shim_syntax.specs.Grammar.{TextCounts, IsProgram}

-- a number of value 2, and a semicolon
abbrev pub IsTwo : TextCounts → TextCounts → List Terminal → List Terminal → Unit {0} → Type 0
IsTwo v w s r x = (t : Terminal) × (p : Place) × (s ≡ t ∷ Sign Semicolon p ∷ r) × (is_two t ≡ true) × (v ≡ w)

-- a program, before the end of the text, which is left
abbrev pub IsWholeSource : TextCounts → TextCounts → List Terminal → List Terminal → Program → Type 0
IsWholeSource v w s r program = (p : Place) × (r ≡ End p ∷ []) × IsProgram limits v s [] program
