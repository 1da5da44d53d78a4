-- What a sink has taken.
use Rattle.std.specs.Prelude.{◌≡◌, ◌<◌, ℕ, List, ◌++◌, length, take, Option, Result, Ok, Err, option_map}

-- what was taken, where known, and then these bytes
abbrev pub then_bytes : Option (List ℕ) → List ℕ → Option (List ℕ)
then_bytes taken bytes = option_map (λ front. front ++ bytes) taken

-- The first n bytes of the piece were taken at `Ok(n)`, and nothing at `Err`.
abbrev pub Takes : {E : Type 0} → Option (List ℕ) → List ℕ → Option (List ℕ) → Result ℕ E → Type 0
Takes before piece now (Ok n) = now ≡ then_bytes before (take n piece)
Takes before piece now (Err e) = now ≡ before

-- the bytes were taken from the first on, perhaps none, and not all
abbrev pub TakesPart : Option (List ℕ) → List ℕ → Option (List ℕ) → Type 0
TakesPart before bytes now = (n : ℕ) × (n < length bytes) × (now ≡ then_bytes before (take n bytes))

-- all of the bytes were taken at `Ok`; at `Err` they were taken from the first on, perhaps none, and not all
abbrev pub TakesAll : {T E : Type 0} → Option (List ℕ) → List ℕ → Option (List ℕ) → Result T E → Type 0
TakesAll before bytes now (Ok _) = now ≡ then_bytes before bytes
TakesAll before bytes now (Err _) = TakesPart before bytes now
