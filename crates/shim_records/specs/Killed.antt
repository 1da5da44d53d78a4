-- The counts above a live process that was killed where it was, updated for all channels that it was given and shares, one after the other.
use Rattle.std.specs.Prelude.{◌≡◌, ℕ, true, false, List}
use Rattle.shim_base.specs.Paths.{Channel}
use Rattle.shim_local.specs.Process.{Ops}
use Rattle.shim_local.specs.Laws.{IsGiven}
use Rattle.shim_semantics.specs.Nodes.{death}
use Rattle.shim_laws_table.specs.NodeStatus.{lives, dies}
use Rattle.shim_laws_table.specs.Counts.{ChildStatus as Read}
use Rattle.shim_laws_table.specs.Sufficing.{leaf_status}
use Rattle.shim_records.specs.Members.{IsAmong}
use Rattle.shim_records.specs.Pairs.{child_status_of}
use Rattle.shim_records.specs.Ways.{IsUpdatedAbove}
use Rattle.shim_records.specs.UpdatesAbove.{AllUpdatedAbove}
use Rattle.shim_records.specs.Acted.{Earlier}
use Rattle.shim_records.specs.declared.pair.ChildStatus.{ChildStatus}
use Rattle.shim_records.specs.declared.record.Record.{Record}

-- what a fork read of the process while it lived
abbrev pub living : {S : Type 0} → Ops S → S → Channel → Read
living o s c = leaf_status o c s lives

-- what a fork reads of the process when it has died; the label of the death isn't read
abbrev pub as_dead : {S : Type 0} → Ops S → S → Channel → Read
as_dead o s c = leaf_status o c s (dies (death 0))

-- for one channel the counts above were updated, unless the process doesn't share it or it came before in the list
pub data KillsOne {S : Type 0} (o : Ops S) (s : S) (n x : ℕ) (c : Channel) (place : ℕ) (before after : List Record) : Type 0 where
  unshared : o.shares s c ≡ false → after ≡ before → KillsOne o s n x c place before after
  again : Earlier o s c place → after ≡ before → KillsOne o s n x c place before after
  walked : o.shares s c ≡ true → (Earlier o s c place → ⊥) → (read reads : ChildStatus) → child_status_of read ≡ living o s c → child_status_of reads ≡ as_dead o s c → IsUpdatedAbove c n x read reads before after → KillsOne o s n x c place before after

-- The counts above the record x were updated for each channel of `chans`. The process shares each of these, and all that it was given and shares are among them.
pub record IsKilled {S : Type 0} (o : Ops S) (s : S) (n x : ℕ) (before after : List Record) : Type 0 where
  pub chans : List Channel
  pub updated : AllUpdatedAbove (living o s) (as_dead o s) n x chans before after
  pub all : (c : Channel) → IsGiven o s c → o.shares s c ≡ true → IsAmong c chans
  pub shared : (c : Channel) → IsAmong c chans → o.shares s c ≡ true
