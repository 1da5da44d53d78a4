-- Events other than quiet steps, one after another.
use Rattle.std.specs.Prelude.{◌≡◌, ◌≢◌, ℕ, Bool, true, false, Some, None, List, [], ◌∷◌, ◌++◌, map, length}
use Rattle.shim_base.specs.Paths.{Path}
use Rattle.shim_local.specs.Process.{Ops}
use Rattle.shim_semantics.specs.Quiets.{StandsQuiet}
use Rattle.shim_semantics.specs.Trees.{Tree, Event, Own, after}
use Rattle.shim_laws_replay.specs.Journals.{Did}
use Rattle.shim_laws_replay.specs.Grants.{IsNoQuietStep}
use Rattle.shim_net.specs.Nets.{NetView}

-- the event is a quiet step
abbrev pub IsQuietStep : {S : Type 0} → Ops S → Tree S → Event → Type 0
IsQuietStep o t e = (p : Path) × (e ≡ Own p) × StandsQuiet o t p

-- each enabled event is a quiet step
abbrev pub RestsButForQuiet : {S : Type 0} → Ops S → Tree S → Type 0
RestsButForQuiet o t = (e : Event) → after o e t ≢ None → IsQuietStep o t e

-- the event happened, and is in the journal
abbrev pub Happens : {S : Type 0} → Ops S → NetView S → NetView S → Event → Type 0
Happens o before after_it e = (after o e before.tree ≡ Some after_it.tree) × (after_it ≡ record { root = before.root; budget = before.budget; tree = after_it.tree; journal = before.journal ++ Did e ∷ []; grants = before.grants })

-- these events lead from the first tree to the second, each enabled in its turn, and none a quiet step
abbrev pub AllHappen : {S : Type 0} → Ops S → List Event → Tree S → Tree S → Type 0
AllHappen o [] t u = t ≡ u
AllHappen {S} o (e ∷ es) t u = (v : Tree S) × IsNoQuietStep o t e × (after o e t ≡ Some v) × AllHappen o es v u

-- so many events that are no quiet steps happened one after another, and each is an entry of the journal
pub record Settles {S : Type 0} (o : Ops S) (before after : NetView S) (count : ℕ) : Type 0 where
  pub events : List Event
  pub counted : length events ≡ count
  pub happened : AllHappen o events before.tree after.tree
  pub after_is : after ≡ record { root = before.root; budget = before.budget; tree = after.tree; journal = before.journal ++ map Did events; grants = before.grants }

-- For `true` an event that is no quiet step happened. For `false` nothing changed, and each enabled event is a quiet step.
abbrev pub SettlesOne : {S : Type 0} → Ops S → NetView S → NetView S → Bool → Type 0
SettlesOne {S} o before after true = (e : Event) × IsNoQuietStep o before.tree e × Happens o before after e
SettlesOne o before after false = (after ≡ before) × RestsButForQuiet o before.tree
