-- Lists in parts.
use Rattle.std.specs.Prelude.{◌≡◌, Result, Ok, Err, List, [], ◌∷◌, ◌++◌}
use Rattle.std.specs.List.{flat_map}

-- the values of all parts in order
abbrev pub concatenated : {T : Type 0} → List (List T) → List T
concatenated parts = flat_map (λ part. part) parts

-- no part was refused, and these are the values of all in order
abbrev pub JoinsTo : {T E : Type 0} → List (Result (List T) E) → List T → Type 0
JoinsTo [] values = values ≡ []
JoinsTo {T} (Ok part ∷ parts) values = (rest : List T) × (values ≡ part ++ rest) × JoinsTo parts rest
JoinsTo (Err e ∷ parts) values = ⊥
