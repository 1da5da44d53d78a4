-- A program as one of version 2, where the word of the new type is no identifier.
use Rattle.std.specs.Prelude.{ℕ, ◌<◌, ◌≡◌, ◌≢◌, List, ◌++◌, codes, decimal, if◌then◌else◌}
use Rattle.std.specs.Str.{bytes_eq}
use Rattle.shim_syntax.specs.Terminals.{new_word}
use Rattle.shim_syntax.specs.Names.{Texts}
use Rattle.shim_syntax.specs.Distinct.{IsNew}
use Rattle.shim_syntax.specs.Occurrences.{identifiers}
use Rattle.shim_up.specs.Renaming.{Renaming, renamed_functions}
use Rattle.shim_syntax.specs.declared.tree.Program.{Program}

-- `v` and a number
abbrev pub fresh_name : ℕ → List ℕ
fresh_name k = codes "v" ++ decimal k

-- this name in place of the new word; any other identifier stays
abbrev pub replaced : List ℕ → Renaming
replaced v x = if bytes_eq x new_word then v else x

-- the least number whose name isn't among these
pub record IsLeastNew (xs : Texts) (k : ℕ) : Type 0 where
  pub new : IsNew (fresh_name k) xs
  pub least : (m : ℕ) → m < k → IsNew (fresh_name m) xs → ⊥

-- the program in version 2, with this name in place of the new word
abbrev pub with_name_for_word : List ℕ → Program → Program
with_name_for_word v p = record { version = 2; functions = renamed_functions (replaced v) p.functions }

-- The second program is the first in version 2: itself where it has that version, else with the least new name for the new word.
pub data IsUp (p q : Program) : Type 0 where
  unchanged : p.version ≡ 2 → q ≡ p → IsUp p q
  changed : p.version ≢ 2 → (k : ℕ) → IsLeastNew (identifiers p.functions) k → q ≡ with_name_for_word (fresh_name k) p → IsUp p q
