-- The pairs of each record are in order, where a process has forked.
use Rattle.std.proofs.Common.{inl, inr, ℕ, List, [], slice_set, sym, subst, arith}
use Rattle.std.proofs.lemmas.Option.{slice_get_within}
use Rattle.shim_base.proofs.Facts.{none_some}
use Rattle.shim_local.specs.Process.{Ops}
use Rattle.shim_laws_table.proofs.Forking.{there_is}
use Rattle.shim_records.specs.Pairs.{chans_of, IsOrdered, AreOrdered}
use Rattle.shim_records.specs.Blocks.{with_block}
use Rattle.shim_records.specs.declared.record.Record.{Record}
use Rattle.shim_laws_table_events.specs.forks.Forking.{AreOfChildren}
use Rattle.shim_laws_table_events.proofs.forks.Lists.{from_block, from_set}

none_ordered : IsOrdered []
none_ordered = record { order = λ i j a b less e f. none_some a e }

pub put_ordered : {S : Type 0} (o : Ops S) (x g : ℕ) (ks : List S) (rs born : List Record) (is : Record) → AreOrdered rs → IsOrdered (chans_of is.pairs.items) → AreOfChildren o x ks born → AreOrdered (with_block g born (slice_set rs x is))
put_ordered o x g ks rs born is order its children i r e = elim (from_block g born (slice_set rs x is) i r e) [
  | inl w ↦
      let less = slice_get_within born w.0 r w.1 in
      let a = children.as_many in
      let k = there_is ks w.0 (omega (arith, a, less)) in
      subst (λ z. IsOrdered (chans_of z)) (sym (children.each w.0 k.0 r k.1 w.1).no_pairs) none_ordered
  | inr w ↦ elim (from_set rs x is i r w) [
    | inl v ↦ subst (λ (z : Record). IsOrdered (chans_of z.pairs.items)) v its
    | inr v ↦ order i r v
  ]
]
