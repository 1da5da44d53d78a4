-- The counts that the records of forks keep for a channel are those of the nodes in their places.
use Rattle.std.specs.Prelude.{◌≡◌, ◌≢◌, ◌↔◌, ℕ, Bool, true, false, Option, Some, None, List, [], ◌∷◌, ◌&&◌, cond, eqb}
use Rattle.shim_base.specs.Paths.{Path, Channel}
use Rattle.shim_local.specs.Process.{Ops}
use Rattle.shim_local.specs.Laws.{AnyOf, IsGiven}
use Rattle.shim_semantics.specs.Nodes.{Node, Nodes, Forked, states}
use Rattle.shim_semantics.specs.Places.{at}
use Rattle.shim_laws_table.specs.NodeStatus.{forks, place}
use Rattle.shim_laws_table.specs.Agrees.{RecordView, Has}
use Rattle.shim_laws_table.specs.Counts.{Tally, tally_of}

-- The counts that records keep for a channel, by the records' numbers. If the record of a fork has counts, they are those of the children of its node. For each place `tree` gives the tree in which that node is.
abbrev pub TalliedIn : {S : Type 0} → Ops S → Path → List S → List RecordView → Channel → (ℕ → Option Tally) → (List ℕ → Node S) → Type 0
TalliedIn {S} o rp records views c counts tree = (i f n : ℕ) (s : S) (y : Tally) (l : S) (ks : Nodes S) → Has records views i f s (forks n) → counts i ≡ Some y
    → at (place o rp s) (tree (place o rp s)) ≡ Some (Forked l ks) → y ≡ tally_of o c ks

-- the counts that records keep for the channel are those of the nodes of one tree
abbrev pub Tallied : {S : Type 0} → Ops S → Path → List S → List RecordView → Channel → (ℕ → Option Tally) → Node S → Type 0
Tallied o rp records views c counts root = TalliedIn o rp records views c counts (λ p. root)

-- the first branches lead to a place above the second ones
abbrev pub is_above : List ℕ → List ℕ → Bool
is_above [] [] = false
is_above [] (x ∷ p) = true
is_above (x ∷ r) [] = false
is_above (x ∷ r) (y ∷ p) = eqb x y && is_above r p

-- while the counts are brought from those of a tree to those of another one, on the way up from the place p: above p they are still those of the first
abbrev pub OnTheWay : {S : Type 0} → Ops S → Path → List S → List RecordView → Channel → (ℕ → Option Tally) → Node S → Node S → List ℕ → Type 0
OnTheWay o rp records views c counts old new p = TalliedIn o rp records views c counts (λ r. cond (is_above r p) old new)

-- the channels that the fork of l counts: it shares them, and gave them to a child
abbrev pub IsCounted : {S : Type 0} → Ops S → S → Nodes S → Channel → Type 0
IsCounted o l ks c = (o.shares l c ≡ true) × AnyOf (λ k. IsGiven o k c) (states ks)

-- just the forks that count the channel have counts for it
abbrev pub HaveCounts : {S : Type 0} → Ops S → Path → List S → List RecordView → Channel → (ℕ → Option Tally) → Node S → Type 0
HaveCounts {S} o rp records views c counts root = (i f n : ℕ) (s : S) (l : S) (ks : Nodes S) → Has records views i f s (forks n) → at (place o rp s) root ≡ Some (Forked l ks)
    → (counts i ≢ None) ↔ IsCounted o l ks c
