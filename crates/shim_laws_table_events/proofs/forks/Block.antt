-- What stands where a process has forked: its own record, those of its children, and the others as before.
use Rattle.std.proofs.Common.{◌≡◌, ◌≢◌, ◌<◌, ◌≤◌, ◌+◌, ℕ, Some, List, map, length, slice_set, ap, subst, ◌∙◌, arith}
use Rattle.std.specs.Prelude.{slice_get}
use Rattle.std.proofs.lemmas.List.{length-set}
use Rattle.std.proofs.lemmas.Option.{slice_get_within}
use Rattle.shim_base.specs.Paths.{Path}
use Rattle.shim_local.specs.Process.{Ops, AtFork, Parted}
use Rattle.shim_local.specs.Laws.{LocalLaws, by_fork}
use Rattle.shim_semantics.specs.Nodes.{Live, Forked, all_live}
use Rattle.shim_semantics.specs.Acts.{nothing, act_live, parted}
use Rattle.shim_semantics.specs.Trees.{Tree, Own, after}
use Rattle.shim_laws_table.specs.NodeStatus.{ProcessStatus, lives, place}
use Rattle.shim_laws_table.specs.Agrees.{RecordView, Represents}
use Rattle.shim_laws_table.specs.Places.{IsReplaced}
use Rattle.shim_laws_table.specs.Changes.{HasForked}
use Rattle.shim_laws_table.proofs.Forking.{there_is}
use Rattle.shim_laws_table.proofs.Shown.{events_preserve}
use Rattle.shim_records.specs.Pairs.{record_view}
use Rattle.shim_records.specs.Blocks.{with_block}
use Rattle.shim_records.specs.Representing.{AllLive}
use Rattle.shim_records.specs.declared.record.Record.{Record}
use Rattle.shim_records.proofs.Stepping.{set_there, set_elsewhere}
use Rattle.shim_records.proofs.Representing.{block_in, block_out, blocks_are_events}
use Rattle.shim_laws_table_events.specs.keeping.Tables.{TableView, HasProcessState, TableInvariant}
use Rattle.shim_laws_table_events.specs.forks.Forking.{IsOfChild, ForksAt}
use Rattle.shim_laws_table_events.proofs.forks.OwnSteps.{is_sound, own_replaced}

module _ {S : Type 0} (o : Ops S) (law : LocalLaws o) (rp : Path) (t : Tree S) (before behind : TableView S) (x g f : ℕ) (l p : S) (ks : List S)
    (kept : TableInvariant o rp before t.root) (has : HasProcessState before x f l lives) (forked : ForksAt o x g p ks before behind) where
  abbrev pub old_views : List RecordView
  old_views = map record_view before.records

  -- the states after, and the records before the counts above were updated
  abbrev pub states : List S
  states = with_block g ks (slice_set before.states x p)

  abbrev pub records : List Record
  records = with_block g forked.born (slice_set before.records x forked.is)

  abbrev pub views : List RecordView
  views = map record_view records

  fits : g ≤ length (slice_set before.records x forked.is)
  fits = let a = length-set before.records x forked.is in let b = forked.inside in omega (arith, a, b)

  -- a record in use is none of the block's
  used_far : (j d : ℕ) (s : S) (k : ProcessStatus) → HasProcessState before j d s k → (b : ℕ) → b < length ks → j ≢ g + b
  used_far j d s k h b less e = forked.unused b d s k less (subst (λ z. HasProcessState before z d s k) e h)

  born_far : (j d : ℕ) (s : S) (k : ProcessStatus) → HasProcessState before j d s k → (b : ℕ) → b < length forked.born → j ≢ g + b
  born_far j d s k h b less = let a = forked.children.as_many in used_far j d s k h b (omega (arith, a, less))

  pub its_own : slice_get records x ≡ Some forked.is
  its_own = block_out g forked.born (slice_set before.records x forked.is) x fits (born_far x f l lives has) ∙ set_there before.records x forked.was forked.is forked.had

  pub as_before : (j d : ℕ) (s : S) (k : ProcessStatus) → HasProcessState before j d s k → j ≢ x → slice_get records j ≡ slice_get before.records j
  as_before j d s k h other = block_out g forked.born (slice_set before.records x forked.is) j fits (born_far j d s k h) ∙ set_elsewhere before.records x j forked.is other

  -- the record of a child
  pub record Born (b : ℕ) (k : S) : Type 0 where
    pub its : Record
    pub there : slice_get records (g + b) ≡ Some its
    pub says : IsOfChild o x k its

  pub born_at : (b : ℕ) (k : S) → slice_get ks b ≡ Some k → Born b k
  born_at b k e =
      let less = slice_get_within ks b k e in
      let a = forked.children.as_many in
      let r = there_is forked.born b (omega (arith, a, less)) in
      record { its = r.0; there = block_in g forked.born (slice_set before.records x forked.is) b r.0 fits r.1; says = forked.children.each b k r.0 e r.1 }

  all_new : AllLive forked.born
  all_new b r e =
      let less = slice_get_within forked.born b r e in
      let a = forked.children.as_many in
      let k = there_is ks b (omega (arith, a, less)) in
      (0, (forked.children.each b k.0 r k.1 e).lives_on)

  pub has_forked : HasForked before.states states old_views views x g p ks
  has_forked = (blocks_are_events o).fork before.states before.records forked.born x f g l p ks forked.is kept.beside forked.inside forked.children.as_many all_new has forked.unused forked.parent.forked

  -- ---- the tree

  pub sound : o.sound l
  sound = is_sound o law rp before.states old_views t x f l kept.represents has

  module _ (stop : o.stop l ≡ AtFork) (parts : o.fork l ≡ Parted p ks) where
    pub path : o.path p ≡ o.path l
    path = law.moved_path l p sound (by_fork ks stop parts)

    pub given : o.given p ≡ o.given l
    given = law.moved_given l p sound (by_fork ks stop parts)

    module _ (u : Tree S) (happens : after o (Own (o.path l)) t ≡ Some u) where
      pub shown : Represents o rp states views u.root
      shown = (events_preserve o law).forked rp before.states states old_views views t u x f g l p ks kept.represents has happens stop parts has_forked

      pub replaced : IsReplaced (place o rp l) (Live l) (Forked p (all_live ks)) t.root u.root
      replaced =
          own_replaced o law rp before.states old_views t x f l kept.represents has u (record { node = Forked p (all_live ks); effects = nothing }) happens
          (ap (act_live o l) stop ∙ ap (λ z. Some (record { node = parted z; effects = nothing })) parts)
