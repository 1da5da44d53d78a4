-- What is done to states and records side by side where a fork closes.
use Rattle.std.specs.Prelude.{◌≡◌, ℕ, true, Option, Some, None, List, [], ◌∷◌, map}
use Rattle.shim_base.specs.Paths.{Path, Channel}
use Rattle.shim_local.specs.Process.{Ops}
use Rattle.shim_local.specs.Laws.{IsGiven}
use Rattle.shim_semantics.specs.Nodes.{Death}
use Rattle.shim_laws_table.specs.NodeStatus.{ProcessStatus, lives, forks, ends, dies}
use Rattle.shim_laws_table.specs.Agrees.{used}
use Rattle.shim_records.specs.Members.{IsAmong}
use Rattle.shim_records.specs.Blocks.{IsFreed}
use Rattle.shim_records.specs.CountingOff.{HasCountedOff}
use Rattle.shim_records.specs.Pairs.{record_view}
use Rattle.shim_records.specs.Recomputing.{IsRecomputed}
use Rattle.shim_records.specs.declared.pair.Pair.{Pair}
use Rattle.shim_records.specs.declared.record.Record.{Record}

-- a record without its status
pub record RecordWithoutStatus : Type 0 where
  pub first : ℕ
  pub parent : Option ℕ
  pub path : Path
  pub going_children : ℕ
  pub pairs : List Pair

-- this record without its status
abbrev pub without_status : Record → RecordWithoutStatus
without_status r = record { first = r.first; parent = r.parent; path = r.path; going_children = r.going_children; pairs = r.pairs.items }

-- from the number g on n records are free, and nothing else has changed
pub record AreFreed (g n : ℕ) (before after : List Record) : Type 0 where
  pub freed : IsFreed g n before after
  pub beside : map without_status after ≡ map without_status before

-- the record of a process whose fork has closed, which has this status now
pub record HasCome (before after : Record) (k : ProcessStatus) : Type 0 where
  pub first : ℕ
  pub view_is : record_view after ≡ used first k
  pub parent : after.parent ≡ before.parent
  pub path : after.path ≡ before.path
  pub no_pairs : after.pairs.items ≡ []

-- if this status is an end or a death, the record of the parent counts one child less that goes on
abbrev pub CountsOffIfOver : ProcessStatus → ℕ → List Record → List Record → Type 0
CountsOffIfOver lives x before after = after ≡ before
CountsOffIfOver (forks n) x before after = after ≡ before
CountsOffIfOver ends x before after = HasCountedOff x before after
CountsOffIfOver (dies d) x before after = HasCountedOff x before after

-- For each of these channels the labels above the record x were read off again.
pub data AllRecomputed {S : Type 0} (o : Ops S) (states : List S) (n x : ℕ) : List Channel → List Record → List Record → Type 0 where
  none_left : (rs : List Record) → AllRecomputed o states n x [] rs rs
  one_more : (c : Channel) (cs : List Channel) (before between after : List Record) → IsRecomputed o c states n x before between → AllRecomputed o states n x cs between after → AllRecomputed o states n x (c ∷ cs) before after

-- For each channel that the process s was given and shares, the labels above the record x were read off again.
pub record GivenRecomputed {S : Type 0} (o : Ops S) (states : List S) (s : S) (n x : ℕ) (before after : List Record) : Type 0 where
  pub chans : List Channel
  pub recomputed : AllRecomputed o states n x chans before after
  pub all : (c : Channel) → IsGiven o s c → o.shares s c ≡ true → IsAmong c chans
  pub shared : (c : Channel) → IsAmong c chans → o.shares s c ≡ true

-- If a child of the fork died, these labels were read off again (`GivenRecomputed`); else no record has changed.
abbrev pub RecomputedIf : {S : Type 0} → Option Death → Ops S → List S → S → ℕ → ℕ → List Record → List Record → Type 0
RecomputedIf None o states s n x before after = after ≡ before
RecomputedIf (Some d) o states s n x before after = GivenRecomputed o states s n x before after
