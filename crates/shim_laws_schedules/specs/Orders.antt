-- What holds of every order of the events of a system.
use Rattle.std.specs.Prelude.{◌≡◌, ◌≤◌, ℕ, zero, suc, Option, Some, None, List, [], ◌∷◌, ◌++◌, length}
use Rattle.shim_semantics.specs.Systems.{run}
use Rattle.shim_laws_schedules.specs.ChangingPlaces.{ChangePlaces}

-- no event is enabled
abbrev pub IsAtRest : {E T : Type 0} → (E → T → Option T) → T → Type 0
IsAtRest {E} step t = (e : E) → step e t ≡ None

-- any two events may change places
abbrev pub IsDiamond : {E T : Type 0} → (E → T → Option T) → (T → Type 0) → Type 0
IsDiamond {E} step sound = (e f : E) → ChangePlaces step sound e f

-- where one run ends at rest, no run is longer, and each that ends at rest is as long and ends there
abbrev pub HasOneLength : {E T : Type 0} → (E → T → Option T) → (T → Type 0) → Type 0
HasOneLength {E} {T} step sound =
    (t u : T) (es : List E) → sound t → run step es t ≡ Some u → IsAtRest step u →
    (w : T) (fs : List E) → run step fs t ≡ Some w → (length fs ≤ length es) × (IsAtRest step w → (length fs ≡ length es) × (w ≡ u))

-- the second, if there is one, else the first
abbrev pub or_same : {T : Type 0} → T → Option T → T
or_same t None = t
or_same t (Some u) = u

-- those of the events that are still enabled in their turn happen, and the others don't
abbrev pub do_all : {E T : Type 0} → (E → T → Option T) → List E → T → T
do_all step [] t = t
do_all step (e ∷ es) t = do_all step es (or_same t (step e t))

-- what the walk lists happens, each where it still is enabled
abbrev pub round_of : {E T : Type 0} → (E → T → Option T) → (T → List E) → T → T
round_of step walk t = do_all step (walk t) t

-- so many rounds, one after another
abbrev pub rounds_of : {E T : Type 0} → (E → T → Option T) → (T → List E) → ℕ → T → T
rounds_of step walk zero t = t
rounds_of step walk (suc n) t = rounds_of step walk n (round_of step walk t)

-- the first list is the beginning of the second, or all of it
abbrev pub IsPrefix : {A : Type 0} → List A → List A → Type 0
IsPrefix {A} xs ys = (more : List A) × (xs ++ more ≡ ys)
