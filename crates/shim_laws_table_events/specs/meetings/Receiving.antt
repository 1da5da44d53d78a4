-- One process receives the value of a rendezvous: how the records move on with it.
use Rattle.std.specs.Prelude.{◌≡◌, ℕ, Bool, true, false, List}
use Rattle.shim_base.specs.Paths.{Channel, NamedChannel, same_channel}
use Rattle.shim_local.specs.Process.{Ops, AtNext}
use Rattle.shim_semantics.specs.Nodes.{is_next}
use Rattle.shim_laws_table.specs.Counts.{going_child_status}
use Rattle.shim_records.specs.Pairs.{child_status_of}
use Rattle.shim_records.specs.Ways.{IsUpdatedAbove}
use Rattle.shim_records.specs.declared.pair.ChildStatus.{ChildStatus}
use Rattle.shim_records.specs.declared.record.Record.{Record}

-- where it is at another channel than c now, the counts above the record x were updated for that, through at most n forks
pub data UpdatesOtherNext {S : Type 0} (o : Ops S) (s : S) (c : Channel) (n x : ℕ) (before after : List Record) : Type 0 where
  no_other : ((d : Channel) → same_channel c d ≡ false → is_next (o.stop s) d ≡ false) → after ≡ before → UpdatesOtherNext o s c n x before after
  other : (d : NamedChannel) (was is : ChildStatus) → o.stop s ≡ AtNext d → same_channel c d.channel ≡ false → child_status_of was ≡ going_child_status false → child_status_of is ≡ going_child_status true → IsUpdatedAbove d.channel n x was is before after → UpdatesOtherNext o s c n x before after

-- a process that was at c is s now: the counts above were updated for c, and for another channel at which it is now
pub record MovesOn {S : Type 0} (o : Ops S) (s : S) (c : Channel) (n x : ℕ) (before after : List Record) : Type 0 where
  pub between : List Record
  pub was : ChildStatus
  pub is : ChildStatus
  pub status_was : child_status_of was ≡ going_child_status true
  pub status_is : child_status_of is ≡ going_child_status (is_next (o.stop s) c)
  pub left : IsUpdatedAbove c n x was is before between
  pub came : UpdatesOtherNext o s c n x between after
