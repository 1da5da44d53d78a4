-- One process receives, or dies: the records show the tree after.
use Rattle.std.proofs.Common.{◌≡◌, ℕ, true, Some, List, [], ◌∷◌, length, drop, refl, sym, ap, subst, ◌∙◌}
use Rattle.shim_base.specs.Paths.{Path}
use Rattle.shim_local.specs.Process.{Ops}
use Rattle.shim_local.specs.Laws.{LocalLaws, by_receive}
use Rattle.shim_semantics.specs.Nodes.{Node, Live, Forked, Ended, Dead, state}
use Rattle.shim_semantics.specs.Places.{at, branches}
use Rattle.shim_semantics.specs.Sound.{IsSound}
use Rattle.shim_semantics.proofs.CallStays.{call_stays}
use Rattle.shim_semantics.proofs.ThrowStays.{death_stays}
use Rattle.shim_semantics.proofs.Follows.{Keeps, stays_keeps}
use Rattle.shim_semantics.proofs.ReplacedNodes.{put}
use Rattle.shim_semantics.proofs.Replaced.{sound_at, replaced}
use Rattle.shim_laws_schedules.proofs.Stood.{base_below}
use Rattle.shim_base.proofs.Facts.{some_same}
use Rattle.shim_laws_table.specs.NodeStatus.{lives, process_status, is_leaf, place}
use Rattle.shim_laws_table.specs.Agrees.{RecordView, Has, Agrees, Represents}
use Rattle.shim_laws_table.specs.Places.{IsReplaced}
use Rattle.shim_laws_table.specs.Changes.{HasChanged}
use Rattle.shim_laws_table.specs.Singles.{SingleChangesAreRepresented}
use Rattle.shim_laws_table.proofs.SameTrees.{is_put}
use Rattle.shim_laws_table.proofs.OneChange.{agrees_changed}
use Rattle.shim_laws_table.proofs.Shown.{rooted_changed}

module _ {S : Type 0} (o : Ops S) (law : LocalLaws o) where
  root_put : (q : List ℕ) (root m a : Node S) → at q root ≡ Some m → o.path (state a) ≡ o.path (state m) → o.path (state (put q a root)) ≡ o.path (state root)
  root_put [] root m a e same = same ∙ ap (λ z. o.path (state z)) (sym (some_same root m e))
  root_put (i ∷ q) (Live l) m a e same = refl
  root_put (i ∷ q) (Forked l ks) m a e same = refl
  root_put (i ∷ q) (Ended l) m a e same = refl
  root_put (i ∷ q) (Dead l d) m a e same = refl

  single : (rp : Path) (before behind : List S) (old_views views : List RecordView) (old new : Node S) (i f : ℕ) (l : S) (a : Node S) → Represents o rp before old_views old → Has before old_views i f l lives → Keeps o (Live l) a → is_leaf a ≡ true
      → IsReplaced (place o rp l) (Live l) a old new → HasChanged before behind old_views views i (state a) (process_status a) → Represents o rp behind views new
  single rp before behind old_views views old new i f l a s has keeps leaf rep changed =
      let q = place o rp l in
      let is = is_put q (Live l) a old new rep in
      let path = keeps.follows.path in
      record {
        sound = subst (IsSound o) (sym is) (replaced o law q old (Live l) a s.sound rep.was keeps);
        root_path = ap (λ z. o.path (state z)) is ∙ (root_put q old (Live l) a rep.was path ∙ s.root_path);
        rooted = rooted_changed o law rp before behind old_views views i f l (state a) lives (process_status a) s.rooted has path changed;
        agrees = subst (Agrees o rp behind views) (sym is) (agrees_changed o rp before behind old_views views old (Live l) a i f s.agrees has rep.was refl leaf (ap (λ z. branches (drop (length rp) z)) path) changed);
      }

  pub single_changes_are_represented : SingleChangesAreRepresented o
  single_changes_are_represented = record {
    received = λ rp before behind old_views views old new i f l c v s has stop rep changed.
        let sound = sound_at o (place o rp l) old (Live l) s.sound.below rep.was in
        single rp before behind old_views views old new i f l (Live (o.receive l v)) s has (stays_keeps o (Live l) (Live (o.receive l v)) (call_stays o law l (o.receive l v) sound (by_receive c v stop refl))) refl rep changed;
    died = λ rp before behind old_views views old new i f l d s has less rep changed.
        let sound = sound_at o (place o rp l) old (Live l) s.sound.below rep.was in
        single rp before behind old_views views old new i f l (Dead l d) s has (stays_keeps o (Live l) (Dead l d) (death_stays o l d sound less)) refl rep changed;
    handled = λ root m q l ks b r s e h.
        let sound = sound_at o q root (Forked l ks) s.below e in
        base_below o law l sound.number 0 ks b r m sound.children h;
  }
