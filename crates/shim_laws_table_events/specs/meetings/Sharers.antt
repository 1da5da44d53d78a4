-- The processes at and below one that share a channel, by the numbers of their records.
use Rattle.std.specs.Prelude.{◌≡◌, ◌≢◌, ℕ, true, List, [], ◌∷◌, ◌++◌}
use Rattle.shim_base.specs.Paths.{Path, Channel}
use Rattle.shim_local.specs.Process.{Ops}
use Rattle.shim_semantics.specs.Nodes.{Node, is_next}
use Rattle.shim_laws_table.specs.NodeStatus.{ProcessStatus, lives, place}
use Rattle.shim_laws_table.specs.Sources.{is_before}
use Rattle.shim_records.specs.Members.{IsAmong}
use Rattle.shim_laws_table_events.specs.keeping.Tables.{TableView, HasProcessState, TableInvariant}

-- the process with this number shares the channel, and its place is q or further along
pub record SharesFrom {S : Type 0} (o : Ops S) (rp : Path) (v : TableView S) (c : Channel) (q : List ℕ) (i : ℕ) : Type 0 where
  pub first : ℕ
  pub state : S
  pub status : ProcessStatus
  pub has : HasProcessState v i first state status
  pub shares : o.shares state c ≡ true
  pub further : List ℕ
  pub is_there : place o rp state ≡ q ++ further

-- on a walk from the root with leftmost children first the process with the first number comes before that with the second one
abbrev pub Precedes : {S : Type 0} → Ops S → Path → TableView S → ℕ → ℕ → Type 0
Precedes {S} o rp v i j = (f g : ℕ) (s t : S) (k h : ProcessStatus) → HasProcessState v i f s k → HasProcessState v j g t h → is_before (place o rp s) (place o rp t) ≡ true

-- each element of the list has the relation R to each one after it
abbrev pub InOrder : {A : Type 0} → (A → A → Type 0) → List A → Type 0
InOrder R [] = Unit {0}
InOrder {A} R (x ∷ xs) = ((y : A) → IsAmong y xs → R x y) × InOrder R xs

-- none of these is there twice
abbrev pub AreDistinct : List ℕ → Type 0
AreDistinct = InOrder (λ x y. x ≢ y)

-- these are the numbers of all that share the channel from the place q on, whatever came of them, in that order
pub record AreSharers {S : Type 0} (o : Ops S) (rp : Path) (v : TableView S) (c : Channel) (q : List ℕ) (numbers : List ℕ) : Type 0 where
  pub only : (i : ℕ) → IsAmong i numbers → SharesFrom o rp v c q i
  pub all : (i : ℕ) → SharesFrom o rp v c q i → IsAmong i numbers
  pub ordered : InOrder (Precedes o rp v) numbers

-- they are those at and below the process with this number, if it shares the channel
abbrev pub ListsSharers : {S : Type 0} → Ops S → TableView S → Channel → ℕ → List ℕ → Type 0
ListsSharers {S} o v c i numbers = (rp : Path) (root : Node S) (f : ℕ) (s : S) (k : ProcessStatus) → TableInvariant o rp v root → HasProcessState v i f s k → o.shares s c ≡ true → AreSharers o rp v c (place o rp s) numbers

-- each live process that is at the channel is among these, and none is there twice
pub record AreReceivers {S : Type 0} (o : Ops S) (v : TableView S) (c : Channel) (numbers : List ℕ) : Type 0 where
  pub distinct : AreDistinct numbers
  pub all : (i f : ℕ) (l : S) → HasProcessState v i f l lives → is_next (o.stop l) c ≡ true → IsAmong i numbers

-- if the table invariant holds, these numbers are those of receivers of the channel (`AreReceivers`)
abbrev pub ListsReceivers : {S : Type 0} → Ops S → TableView S → Channel → List ℕ → Type 0
ListsReceivers {S} o v c numbers = (rp : Path) (root : Node S) → TableInvariant o rp v root → AreReceivers o v c numbers
