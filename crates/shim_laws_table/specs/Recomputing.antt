-- How the least labels are brought up to date where a death below a fork is no more: each fork's is read off its children again.
use Rattle.std.specs.Prelude.{◌≡◌, ◌≢◌, ◌≤◌, ℕ, zero, suc, ◌+◌, true, Option, Some, None, List, cond, length, slice_get}
use Rattle.shim_base.specs.Paths.{Path, Channel}
use Rattle.shim_local.specs.Process.{Ops}
use Rattle.shim_semantics.specs.Nodes.{Node}
use Rattle.shim_laws_table.specs.NodeStatus.{ProcessStatus, lives, forks, ends, dies, place}
use Rattle.shim_laws_table.specs.Agrees.{RecordView, used, Has, Represents}
use Rattle.shim_laws_table.specs.Places.{IsReplaced}
use Rattle.shim_laws_table.specs.Counts.{Tally}
use Rattle.shim_laws_table.specs.Tallied.{HaveCounts}
use Rattle.shim_laws_table.specs.Updating.{AreLinked}
use Rattle.shim_laws_table.specs.Dooms.{lesser}
use Rattle.shim_laws_table.specs.LoweredLabels.{Labelled, LabelsOnTheWay}

-- what a fork reads of a child with this state and status, which keeps this label if it is a fork
abbrev pub read_label : {S : Type 0} → Ops S → Channel → S → ProcessStatus → Option ℕ → Option ℕ
read_label o c s lives kept = None
read_label o c s (forks n) kept = kept
read_label o c s ends kept = None
read_label o c s (dies d) kept = cond (o.shares s c) (Some d.label) None

-- what is read of a record with this state and view, which keeps this label if it is a fork's; nothing of a free one
abbrev pub read_record : {S : Type 0} → Ops S → Channel → Option S → Option RecordView → Option ℕ → Option ℕ
read_record o c (Some s) (Some (used f k)) kept = read_label o c s k kept
read_record o c _ _ kept = None

-- what is read of the record with a number
abbrev pub label_at : {S : Type 0} → Ops S → Channel → List S → List RecordView → (ℕ → Option ℕ) → ℕ → Option ℕ
label_at o c records views labels i = read_record o c (slice_get records i) (slice_get views i) (labels i)

-- the least of what is read of so many from a number on
abbrev pub min_label_among : {S : Type 0} → Ops S → Channel → List S → List RecordView → (ℕ → Option ℕ) → ℕ → ℕ → Option ℕ
min_label_among o c records views labels g zero = None
min_label_among o c records views labels g (suc n) = lesser (label_at o c records views labels g) (min_label_among o c records views labels (g + 1) n)

-- no label is kept where none is counted
abbrev pub NoneUncounted : (ℕ → Option Tally) → (ℕ → Option ℕ) → Type 0
NoneUncounted counts labels = (i : ℕ) → counts i ≡ None → labels i ≡ None

-- this is what is read of the children of the fork with this number
abbrev pub IsReadOff : {S : Type 0} → Ops S → Channel → List S → List RecordView → (ℕ → Option ℕ) → ℕ → Option ℕ → Type 0
IsReadOff {S} o c records views labels j y = (g n : ℕ) (s : S) → Has records views j g s (forks n) → y ≡ min_label_among o c records views labels g n

-- From the record x, at most so many forks up: each one's label is read off its children, until there is no fork further up, or one without counts, or one that keeps its label.
pub data Recomputed {S : Type 0} (o : Ops S) (c : Channel) (records : List S) (views : List RecordView) (up : ℕ → Option ℕ) (counts : ℕ → Option Tally) : ℕ → (ℕ → Option ℕ) → ℕ → (ℕ → Option ℕ) → Type 0 where
  all_the_way : (before : ℕ → Option ℕ) (x : ℕ) → Recomputed o c records views up counts zero before x before
  at_the_root : (n : ℕ) (before : ℕ → Option ℕ) (x : ℕ) → up x ≡ None → Recomputed o c records views up counts n before x before
  uncounted : (n : ℕ) (before : ℕ → Option ℕ) (x j : ℕ) → up x ≡ Some j → counts j ≡ None → Recomputed o c records views up counts n before x before
  as_before : (n : ℕ) (before : ℕ → Option ℕ) (x j : ℕ) → up x ≡ Some j → counts j ≢ None → IsReadOff o c records views before j (before j) → Recomputed o c records views up counts n before x before
  recomputes : (n : ℕ) (before between after : ℕ → Option ℕ) (x j : ℕ) → up x ≡ Some j → counts j ≢ None → IsReadOff o c records views before j (between j) → ((i : ℕ) → i ≢ j → between i ≡ before i)
      → Recomputed o c records views up counts n between j after → Recomputed o c records views up counts (suc n) before x after

-- Where another node is in a place, and the labels above were read off again, all labels are those of the tree with that node.
abbrev pub LabelsRecomputed : {S : Type 0} → Ops S → Type 0
LabelsRecomputed {S} o = (rp : Path) (records : List S) (views : List RecordView) (up : ℕ → Option ℕ) (c : Channel) (old new m a : Node S) (n x f : ℕ) (s : S) (k : ProcessStatus) (counts : ℕ → Option Tally) (before after : ℕ → Option ℕ)
    → Represents o rp records views new → AreLinked records views up → Has records views x f s k → IsReplaced (place o rp s) m a old new → o.shares s c ≡ true → HaveCounts o rp records views c counts new
    → NoneUncounted counts before → length (place o rp s) ≤ n → LabelsOnTheWay o rp records views c counts before old new (place o rp s) → Recomputed o c records views up counts n before x after
    → Labelled o rp records views c counts after new
