-- How the least labels of dead sharers are brought up to date on the way up from a process that has died.
use Rattle.std.specs.Prelude.{◌≡◌, ◌≢◌, ◌≤◌, ℕ, zero, suc, true, Option, Some, None, List, cond, length}
use Rattle.shim_base.specs.Paths.{Path, Channel}
use Rattle.shim_local.specs.Process.{Ops}
use Rattle.shim_semantics.specs.Nodes.{Node, Nodes, Forked}
use Rattle.shim_semantics.specs.Places.{at}
use Rattle.shim_laws_table.specs.NodeStatus.{ProcessStatus, forks, place}
use Rattle.shim_laws_table.specs.Agrees.{RecordView, Has, Represents}
use Rattle.shim_laws_table.specs.Places.{IsReplaced}
use Rattle.shim_laws_table.specs.Counts.{Tally}
use Rattle.shim_laws_table.specs.Tallied.{is_above, HaveCounts}
use Rattle.shim_laws_table.specs.Updating.{AreLinked}
use Rattle.shim_laws_table.specs.Dooms.{lesser, min_dead_label, min_dead_label_among}

-- The labels that records keep for a channel, by the records' numbers. The record of a fork that counts the channel has the least label among the children of its node. For each place `tree` gives the tree in which that node is.
abbrev pub LabelledIn : {S : Type 0} → Ops S → Path → List S → List RecordView → Channel → (ℕ → Option Tally) → (ℕ → Option ℕ) → (List ℕ → Node S) → Type 0
LabelledIn {S} o rp records views c counts labels tree = (i f n : ℕ) (s : S) (l : S) (ks : Nodes S) → Has records views i f s (forks n) → counts i ≢ None → at (place o rp s) (tree (place o rp s)) ≡ Some (Forked l ks) → labels i ≡ min_dead_label_among o c ks

-- the labels that records keep for the channel are those of the nodes of one tree
abbrev pub Labelled : {S : Type 0} → Ops S → Path → List S → List RecordView → Channel → (ℕ → Option Tally) → (ℕ → Option ℕ) → Node S → Type 0
Labelled o rp records views c counts labels root = LabelledIn o rp records views c counts labels (λ p. root)

-- while the labels are brought up to date from the place p up: above p they are still those of the first tree, elsewhere those of the second
abbrev pub LabelsOnTheWay : {S : Type 0} → Ops S → Path → List S → List RecordView → Channel → (ℕ → Option Tally) → (ℕ → Option ℕ) → Node S → Node S → List ℕ → Type 0
LabelsOnTheWay o rp records views c counts labels old new p = LabelledIn o rp records views c counts labels (λ r. cond (is_above r p) old new)

-- one record takes the label in, and no others change
pub record IsLowered (before : ℕ → Option ℕ) (j : ℕ) (y : Option ℕ) (after : ℕ → Option ℕ) : Type 0 where
  pub new : after j ≡ lesser (before j) y
  pub others : (i : ℕ) → i ≢ j → after i ≡ before i

-- From the record x, at most so many forks up: each one takes the label in, until there is no fork further up, or one without counts, or one that has a label as low.
pub data LoweredAbove (up : ℕ → Option ℕ) (counts : ℕ → Option Tally) (y : Option ℕ) : ℕ → (ℕ → Option ℕ) → ℕ → (ℕ → Option ℕ) → Type 0 where
  all_the_way : (before : ℕ → Option ℕ) (x : ℕ) → LoweredAbove up counts y zero before x before
  at_the_root : (n : ℕ) (before : ℕ → Option ℕ) (x : ℕ) → up x ≡ None → LoweredAbove up counts y n before x before
  uncounted : (n : ℕ) (before : ℕ → Option ℕ) (x j : ℕ) → up x ≡ Some j → counts j ≡ None → LoweredAbove up counts y n before x before
  as_low : (n : ℕ) (before : ℕ → Option ℕ) (x j : ℕ) → up x ≡ Some j → counts j ≢ None → lesser (before j) y ≡ before j → LoweredAbove up counts y n before x before
  lowers : (n : ℕ) (before between after : ℕ → Option ℕ) (x j : ℕ) → up x ≡ Some j → counts j ≢ None → IsLowered before j y between → LoweredAbove up counts y n between j after → LoweredAbove up counts y (suc n) before x after

-- A node without dead sharers is replaced by another node, and the least label of the new node is taken in above. Then all labels are those of the new tree.
abbrev pub LabelsLowered : {S : Type 0} → Ops S → Type 0
LabelsLowered {S} o = (rp : Path) (records : List S) (views : List RecordView) (up : ℕ → Option ℕ) (c : Channel) (old new m a : Node S) (n x f : ℕ) (s : S) (k : ProcessStatus) (counts : ℕ → Option Tally) (before after : ℕ → Option ℕ)
    → Represents o rp records views new → AreLinked records views up → Has records views x f s k → IsReplaced (place o rp s) m a old new → min_dead_label o c m ≡ None → o.shares s c ≡ true
    → HaveCounts o rp records views c counts new → length (place o rp s) ≤ n → LabelsOnTheWay o rp records views c counts before old new (place o rp s) → LoweredAbove up counts (min_dead_label o c a) n before x after
    → Labelled o rp records views c counts after new
