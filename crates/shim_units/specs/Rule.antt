-- The sharing rule, of a fork, of a call and of a whole program.
use Rattle.std.specs.Prelude.{◌≡◌, ℕ, List, [], ◌∷◌, ◌++◌, Option, Some, None, Bool, false, ◌||◌, nat_eq, map, IsTrue}
use Rattle.shim_syntax.specs.declared.tree.Sort.{Sort}
use Rattle.shim_scopes.specs.declared.tree.RFunction.{RFunction}
use Rattle.shim_scopes.specs.declared.form.Form.{Form as Resolved}
use Rattle.shim_units.specs.declared.found.Given.{Given}
use Rattle.shim_units.specs.PartFold.{places_in}
use Rattle.shim_units.specs.Parts.{SharingPlace}
use Rattle.shim_units.specs.Parts.SharingPlace.{Fork, Called}
use Rattle.shim_units.specs.Captures.{Captures, captures, is_reference}

-- no variable is taken by reference by both
abbrev pub AreDisjoint : Captures → Captures → Type 0
AreDisjoint s t = (x : ℕ) → IsTrue (is_reference (s x)) → IsTrue (is_reference (t x)) → ⊥

-- no variable is taken by reference by s and by one of the others
abbrev pub IsDisjointFromAll : Captures → List Captures → Type 0
IsDisjointFromAll s [] = Unit {0}
IsDisjointFromAll s (t ∷ ts) = AreDisjoint s t × IsDisjointFromAll s ts

-- what the branches of a fork take by reference is pairwise disjoint
abbrev pub ArePairwiseDisjoint : List Captures → Type 0
ArePairwiseDisjoint [] = Unit {0}
ArePairwiseDisjoint (t ∷ ts) = IsDisjointFromAll t ts × ArePairwiseDisjoint ts

-- the argument is the bare variable x
abbrev pub is_bare : ℕ → Option ℕ → Bool
is_bare x None = false
is_bare x (Some y) = nat_eq y x

-- the variable is a bare argument among these
abbrev pub stands_in : ℕ → List Given → Bool
stands_in x [] = false
stands_in x (g ∷ gs) = is_bare x g.bare || stands_in x gs

-- what a call gives by reference isn't another bare argument of it
abbrev pub GivesOnce : List Given → Type 0
GivesOnce gs = (before : List Given) (g : Given) (after : List Given) (x : ℕ) → gs ≡ before ++ g ∷ after → IsTrue g.lent → g.bare ≡ Some x → IsTrue (stands_in x before || stands_in x after) → ⊥

-- the fork or call obeys the sharing rule, in a function whose slots have these sorts
abbrev pub ObeysAt : List Sort → SharingPlace → Type 0
ObeysAt sorts (Fork line branches) = ArePairwiseDisjoint (map (captures sorts) branches)
ObeysAt sorts (Called line gs) = GivesOnce gs

-- each of the places obeys the sharing rule, in a function whose slots have these sorts
abbrev pub Obey : List Sort → List SharingPlace → Type 0
Obey sorts [] = Unit {0}
Obey sorts (p ∷ ps) = ObeysAt sorts p × Obey sorts ps

-- of a whole program

-- each place in the functions of the second list obeys the sharing rule; the first list has all functions of the program
abbrev pub ObeyAll : List RFunction → List RFunction → Type 0
ObeyAll all [] = Unit {0}
ObeyAll all (f ∷ fs) = Obey f.slots (places_in all f.body) × ObeyAll all fs

-- every fork and every call of the program obeys the sharing rule
abbrev pub Obeys : Resolved → Type 0
Obeys p = ObeyAll p.functions p.functions
