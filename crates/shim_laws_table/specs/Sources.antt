-- The source of a channel, and the name that its first rendezvous brings, read off records.
use Rattle.std.specs.Prelude.{◌≡◌, ℕ, Bool, true, false, Some, None, List, [], ◌∷◌, ◌&&◌, ◌||◌, eqb, ltb}
use Rattle.shim_base.specs.Paths.{Path, Channel, NamedChannel}
use Rattle.shim_local.specs.Process.{Ops, AtNext}
use Rattle.shim_semantics.specs.Nodes.{Node, is_next, source, first_name}
use Rattle.shim_laws_table.specs.NodeStatus.{ProcessStatus, lives, place}
use Rattle.shim_laws_table.specs.Agrees.{RecordView, Has, Represents}

-- the first place comes before the second one on a walk from the root with leftmost children first
abbrev pub is_before : List ℕ → List ℕ → Bool
is_before [] [] = false
is_before [] (y ∷ q) = true
is_before (x ∷ p) [] = false
is_before (x ∷ p) (y ∷ q) = ltb x y || (eqb x y && is_before p q)

-- What records say of a channel's source and name:
pub record SourcesByRecords {S : Type 0} (o : Ops S) : Type 0 where
  -- the record that carries the channel has its source; where none does there is none
  pub carrier : (rp : Path) (records : List S) (views : List RecordView) (root : Node S) (c : Channel) (i f : ℕ) (s : S) (k : ProcessStatus) → Represents o rp records views root → Has records views i f s k → o.carries s c ≡ true → source o c root ≡ Some s
  pub none : (rp : Path) (records : List S) (views : List RecordView) (root : Node S) (c : Channel) → Represents o rp records views root → ((i f : ℕ) (s : S) (k : ProcessStatus) → Has records views i f s k → o.carries s c ≡ false) → source o c root ≡ None
  -- no two records carry one channel
  pub once : (rp : Path) (records : List S) (views : List RecordView) (root : Node S) (c : Channel) (i j f g : ℕ) (s t : S) (k h : ProcessStatus) → Represents o rp records views root → Has records views i f s k → Has records views j g t h
      → o.carries s c ≡ true → o.carries t c ≡ true → i ≡ j
  -- the name is that of the live process at the channel whose place comes first
  pub name : (rp : Path) (records : List S) (views : List RecordView) (root : Node S) (c : Channel) (i f : ℕ) (s : S) (d : NamedChannel) → Represents o rp records views root → Has records views i f s lives → o.stop s ≡ AtNext d → d.channel ≡ c
      → ((j g : ℕ) (t : S) → Has records views j g t lives → is_next (o.stop t) c ≡ true → is_before (place o rp t) (place o rp s) ≡ false) → first_name o c root ≡ Some d.name
