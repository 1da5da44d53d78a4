-- Runs of any system of events, and what its events keep.
use Rattle.std.specs.Prelude.{◌≡◌, Option, Some, None, List, [], ◌∷◌}

-- f of the value, if there is one
abbrev pub on_some : {T : Type 0} → (T → Option T) → Option T → Option T
on_some f None = None
on_some f (Some t) = f t

-- the events happen one after another, each where it is enabled in its turn
abbrev pub run : {E T : Type 0} → (E → T → Option T) → List E → T → Option T
run step [] t = Some t
run step (e ∷ es) t = on_some (run step es) (step e t)

-- each event keeps what holds of a state
abbrev pub IsInvariant : {E T : Type 0} → (E → T → Option T) → (T → Type 0) → Type 0
IsInvariant {E} {T} step sound = (t : T) → sound t → (e : E) (a : T) → step e t ≡ Some a → sound a
