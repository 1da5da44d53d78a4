-- What the laws speak of.
use Rattle.std.specs.Prelude.{◌≡◌, ◌≢◌, ℕ, ◌<◌, List, ◌∷◌, ◌++◌, Some, Ok, slice_get, length, map, IsTrue}
use Rattle.shim_syntax.specs.declared.tree.Sort.{Sort}
use Rattle.shim_scopes.specs.declared.tree.RFunction.{RFunction}
use Rattle.shim_scopes.specs.declared.form.Form.{Form as Resolved}
use Rattle.shim_scopes.specs.Resolving.{IsFormOfText}
use Rattle.shim_sharing.specs.declared.fault.ShareFault.{ShareFault}
use Rattle.shim_sharing.specs.declared.fork.Clash.{Clash}
use Rattle.shim_sharing.specs.declared.found.Offence.{Offence}
use Rattle.shim_sharing.specs.declared.found.Offence.TheVariants.{TwoWriters, Alias}
use Rattle.shim_sharing.specs.Accepting.{accepted}
use Rattle.shim_sharing.specs.Refusals.{share_fault}
use Rattle.shim_units.specs.declared.form.Form.{Form}
use Rattle.shim_units.specs.declared.found.Given.{Given}
use Rattle.shim_units.specs.declared.found.Use.{Use}
use Rattle.shim_units.specs.declared.found.Capture.TheVariants.{Reference}
use Rattle.shim_units.specs.Parts.{SharingPlace}
use Rattle.shim_units.specs.Parts.SharingPlace.{Fork, Called}
use Rattle.shim_units.specs.Rule.{ObeysAt, Obey, ObeyAll}
use Rattle.shim_units.specs.Captures.{Captures, captures}
use Rattle.shim_units.specs.PartFold.{places_in}

-- a fork in the text of a function of the program, two of its branches, and a variable that both take by reference
pub record HasTwoWriters (p : Resolved) : Type 0 where
  pub function : RFunction
  pub number : ℕ
  pub at_number : slice_get p.functions number ≡ Some function
  pub line : ℕ
  pub branches : List (List Use)
  pub place : ℕ
  pub forks : slice_get (places_in p.functions function.body) place ≡ Some (Fork line branches)
  pub first : ℕ
  pub second : ℕ
  pub apart : first ≢ second
  pub one : List Use
  pub other : List Use
  pub is_first : slice_get branches first ≡ Some one
  pub is_second : slice_get branches second ≡ Some other
  pub slot : ℕ
  pub by_one : captures function.slots one slot ≡ Reference
  pub by_other : captures function.slots other slot ≡ Reference

-- the clash names two of the branches, in ascending order, and a slot below n whose variable both take by reference
pub record IsClash (n : ℕ) (branches : List Captures) (c : Clash) : Type 0 where
  pub ordered : c.first < c.second
  pub one : Captures
  pub other : Captures
  pub is_first : slice_get branches c.first ≡ Some one
  pub is_second : slice_get branches c.second ≡ Some other
  pub below : c.slot < n
  pub by_one : one c.slot ≡ Reference
  pub by_other : other c.slot ≡ Reference

-- no other clash has a lesser first branch, with the same one a lesser second, or with the same two a lesser slot
pub record IsLeast (n : ℕ) (branches : List Captures) (c : Clash) : Type 0 where
  pub first : (d : Clash) → IsClash n branches d → d.first < c.first → ⊥
  pub second : (d : Clash) → IsClash n branches d → d.first ≡ c.first → d.second < c.second → ⊥
  pub slot : (d : Clash) → IsClash n branches d → d.first ≡ c.first → d.second ≡ c.second → d.slot < c.slot → ⊥

-- the argument of that number gives the variable by reference, and another argument is the same variable
pub record IsAlias (gs : List Given) (number x : ℕ) : Type 0 where
  pub one : Given
  pub at_number : slice_get gs number ≡ Some one
  pub by_reference : IsTrue one.lent
  pub gives : one.bare ≡ Some x
  pub place : ℕ
  pub apart : place ≢ number
  pub other : Given
  pub is_other : slice_get gs place ≡ Some other
  pub again : other.bare ≡ Some x

-- one of the arguments is an alias of the variable, and none left of it is an alias of any
pub record IsLeftmostAlias (gs : List Given) (x : ℕ) : Type 0 where
  pub number : ℕ
  pub is_alias : IsAlias gs number x
  pub leftmost : (m y : ℕ) → m < number → IsAlias gs m y → ⊥

-- the offence of a fork is its line with the least clash of its branches, and of a call its line with the variable of its leftmost alias
abbrev pub IsOffenceOf : List Sort → SharingPlace → Offence → Type 0
IsOffenceOf sorts (Fork line branches) o =
    (c : Clash) × (o ≡ TwoWriters line c.first c.second c.slot) × IsClash (length sorts) (map (captures sorts) branches) c × IsLeast (length sorts) (map (captures sorts) branches) c
IsOffenceOf sorts (Called line gs) o = (x : ℕ) × (o ≡ Alias line x) × IsLeftmostAlias gs x

-- all places before one of these obey the rule, that one does not, and this is its offence
pub record IsFirstOffence (sorts : List Sort) (places : List SharingPlace) (o : Offence) : Type 0 where
  pub before : List SharingPlace
  pub place : SharingPlace
  pub after : List SharingPlace
  pub splits : places ≡ before ++ place ∷ after
  pub obeyed : Obey sorts before
  pub refused : ObeysAt sorts place → ⊥
  pub is_offence : IsOffenceOf sorts place o

-- All functions of the list fs before one of them obey the rule. The fault is the first offence of that one, with the variable by its name.
pub record IsFirstRefusalIn (names : List (List ℕ)) (all fs : List RFunction) (fault : ShareFault) : Type 0 where
  pub before : List RFunction
  pub function : RFunction
  pub after : List RFunction
  pub splits : fs ≡ before ++ function ∷ after
  pub obeyed : ObeyAll all before
  pub offence : Offence
  pub first : IsFirstOffence function.slots (places_in all function.body) offence
  pub named : fault ≡ share_fault names function offence

-- what is reported of the first fork or call of a program that does not obey the rule
abbrev pub IsFirstRefusal : Resolved → ShareFault → Type 0
IsFirstRefusal p = IsFirstRefusalIn p.names p.functions p.functions

-- the form is what `accepted` gives for some program that has a text of at most 1,048,576 bytes
pub record IsAccepted (form : Form) : Type 0 where
  pub resolved : Resolved
  pub of_text : ∥ IsFormOfText resolved ∥₁
  pub is_answer : accepted resolved ≡ Ok form
