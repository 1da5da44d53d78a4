-- What is among a list.
use Rattle.std.specs.Prelude.{◌≡◌, ℕ, Some, List, slice_get}

-- x is an item of the list
abbrev pub IsAmong : {A : Type 0} → A → List A → Type 0
IsAmong {A} x xs = (at : ℕ) × (slice_get xs at ≡ Some x)
