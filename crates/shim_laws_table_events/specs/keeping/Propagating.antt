-- A live process that has changed comes to a channel, or to none.
use Rattle.std.specs.Prelude.{◌≡◌, ℕ, true, false, List}
use Rattle.shim_base.specs.Paths.{Channel, NamedChannel}
use Rattle.shim_local.specs.Process.{Ops, AtNext}
use Rattle.shim_semantics.specs.Nodes.{is_next}
use Rattle.shim_laws_table.specs.Counts.{going_child_status}
use Rattle.shim_records.specs.Pairs.{child_status_of}
use Rattle.shim_records.specs.Ways.{IsUpdatedAbove}
use Rattle.shim_records.specs.declared.pair.ChildStatus.{ChildStatus}
use Rattle.shim_records.specs.declared.record.Record.{Record}

-- The process of the record x has come to the state s. If it waits at a channel, the counts above x were updated for that channel, through at most n forks; else no record has changed.
pub data PropagatesStop {S : Type 0} (o : Ops S) (s : S) (n x : ℕ) (before after : List Record) : Type 0 where
  nowhere : ((c : Channel) → is_next (o.stop s) c ≡ false) → after ≡ before → PropagatesStop o s n x before after
  there : (d : NamedChannel) (was is : ChildStatus) → o.stop s ≡ AtNext d → child_status_of was ≡ going_child_status false
      → child_status_of is ≡ going_child_status true → IsUpdatedAbove d.channel n x was is before after → PropagatesStop o s n x before after
