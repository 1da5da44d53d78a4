-- What a renaming keeps of names.
use Rattle.std.specs.Prelude.{ℕ, ◌≤◌, ◌≡◌, List, true, count_by, ◌==◌}
use Rattle.shim_base.specs.declared.token.TokenKind.TheVariants.{Word}
use Rattle.shim_base.specs.Tokens.{Place, Spells, IsWithinLimits}
use Rattle.shim_syntax.specs.Terminals.{Name, of_word}
use Rattle.shim_up.specs.Renaming.{Renaming}

-- how many of the bytes are line feeds
abbrev pub feeds_in : List ℕ → ℕ
feeds_in bytes = count_by (λ b. b == 10) bytes

-- Names stay names within the limits, with no more line feeds than before. What replaces a name isn't the new word, and so is a name in version 2, too.
pub record KeepsNames (f : Renaming) : Type 0 where
  pub spells : (x : List ℕ) → Spells x Word → IsWithinLimits x Word → Spells (f x) Word
  pub fits : (x : List ℕ) → Spells x Word → IsWithinLimits x Word → IsWithinLimits (f x) Word
  pub feeds : (x : List ℕ) → Spells x Word → IsWithinLimits x Word → feeds_in (f x) ≤ feeds_in x
  pub others : (x : List ℕ) (q : Place) → Spells x Word → of_word true (f x) q ≡ Name (f x) q
