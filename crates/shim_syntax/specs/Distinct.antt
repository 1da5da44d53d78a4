-- A list in which each name stands once.
use Rattle.std.specs.Prelude.{◌≢◌, ℕ, List, [], ◌∷◌}
use Rattle.shim_syntax.specs.Names.{Texts}

-- the name stands nowhere in the list
abbrev pub IsNew : List ℕ → Texts → Type 0
IsNew x [] = Unit {0}
IsNew x (n ∷ ns) = (n ≢ x) × IsNew x ns

-- no name stands in the list twice
abbrev pub AreDistinct : Texts → Type 0
AreDistinct [] = Unit {0}
AreDistinct (n ∷ ns) = IsNew n ns × AreDistinct ns
