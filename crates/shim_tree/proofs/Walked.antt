-- The events of a walk as they are listed, child by child.
use Rattle.std.proofs.Common.{◌≡◌, ℕ, ◌+◌, ◌<◌, ◌≤◌, Bool, true, false, Option, Some, None, List, [], ◌∷◌, ◌++◌, map, filter, length, get_or, cond, refl, sym, ap, ◌∙◌}
use Rattle.std.proofs.lemmas.List.{append_assoc, append-nil}
use Rattle.std.specs.Option.{option_map}
use Rattle.std.specs.declared.vec.Vec.{Vec}
use Rattle.std.specs.declared.alloc.Global.{Global}
use Rattle.shim_base.specs.Paths.{Path, same_path}
use Rattle.shim_local.specs.Process.{Ops, StopView, AtQuiet, AtNext, AtPut, AtFork, AtFinish, AtThrow, AtTrap}
use Rattle.shim_semantics.specs.Nodes.{Node, Nodes, Forked, all_done}
use Rattle.shim_tree.specs.NodeStatus.{node, nodes}
use Rattle.shim_tree.specs.Beside.{nth_child}
use Rattle.shim_semantics.specs.Trees as trees
use Rattle.shim_semantics.specs.Walks.{own_events, here, in_order, all_waited, waited, meets_here, poisons_of, walk, walk_all, head}
use Rattle.shim_tree.specs.Finding.{found_event}
use Rattle.shim_tree.specs.Searching.{found_list}
use Rattle.shim_tree.specs.declared.seek.Found.{Found}
use Rattle.shim_tree.specs.declared.node_status.NodeStatus.{NodeStatus}
use Rattle.shim_tree.specs.declared.node_status.NodeStatus.TheVariants as code
use Rattle.shim_tree.proofs.Beside.{is_forked, from, from_next, from_end}

-- ---- what a live process can do

-- what the search finds is the list of it, be it one event or none
is_listed : (x : Option Found) (e : trees.Event) → option_map found_event x ≡ Some e → found_list x ≡ e ∷ []
is_listed None e h = absurd cc
is_listed (Some f) e h = one (found_event f) e h
  where
    one : (d e : trees.Event) → Some d ≡ Some e → d ∷ [] ≡ e ∷ []
    one d e h = cc

not_listed : (x : Option Found) → option_map found_event x ≡ None → found_list x ≡ []
not_listed None h = refl
not_listed (Some f) h = absurd cc

either_listed : (x : Option Found) (b : Bool) (e : trees.Event) → option_map found_event x ≡ head (cond b (e ∷ []) []) → found_list x ≡ cond b (e ∷ []) []
either_listed x true e h = is_listed x e h
either_listed x false e h = not_listed x h

pub own_listed : (x : Option Found) (p : Path) (s : StopView) → option_map found_event x ≡ head (own_events p s) → found_list x ≡ own_events p s
own_listed x p AtQuiet h = is_listed x (trees.Own p) h
own_listed x p AtPut h = is_listed x (trees.Own p) h
own_listed x p AtFork h = is_listed x (trees.Own p) h
own_listed x p AtFinish h = is_listed x (trees.End p) h
own_listed x p (AtNext c) h = either_listed x (same_path c.channel.home p) (trees.Meet c.channel) h
own_listed x p (AtThrow label) h = is_listed x (trees.Own p) h
own_listed x p (AtTrap kind line) h = is_listed x (trees.Own p) h

-- ---- what a fork can do itself

-- its close, and then its rendezvous
pub fork_listed : {S : Type 0} (o : Ops S) (n : Node S) (l : S) (ks : Nodes S) (es before now : List trees.Event) → n ≡ Forked l ks
    → before ≡ es ++ cond (all_done ks) (trees.Close (o.path l) ∷ []) [] → now ≡ before ++ map trees.Meet (in_order (filter (meets_here o n) (waited o n))) → now ≡ es ++ here o n
fork_listed o n l ks es before now e f g =
    let close = cond (all_done ks) (trees.Close (o.path l) ∷ []) [] in
    let meets = map trees.Meet (in_order (filter (meets_here o (Forked l ks)) (all_waited o ks))) in
    g
    ∙ (ap (λ z. before ++ map trees.Meet (in_order (filter (meets_here o z) (waited o z)))) e
    ∙ (ap (λ z. z ++ meets) f
    ∙ (append_assoc es close meets
    ∙ ap (λ z. es ++ here o z) (sym e))))

-- ---- the walk

-- poisons and a walk that were added stand between what was there and what is to come
walk_more : (es a b p w r : List trees.Event) → a ≡ es ++ p → b ≡ a ++ w → b ++ r ≡ es ++ (p ++ (w ++ r))
walk_more es a b p w r h g = ap (λ z. z ++ r) (g ∙ ap (λ z. z ++ w) h) ∙ (append_assoc (es ++ p) w r ∙ append_assoc es p (w ++ r))

module _ {S : Type 0} (o : Ops S) (l : S) (ls : List S) (bs : List (NodeStatus S)) where
  -- one child more: its poisons, and its walk
  pub walked_child : (i : ℕ) (m : S) (was a b all : List trees.Event) → i < length ls → m ≡ get_or ls i m
      → a ≡ was ++ poisons_of o l (from 0 ls bs) i (nth_child m (nodes bs) i) → b ≡ a ++ walk o (nth_child m (nodes bs) i)
      → was ++ walk_all o l (from 0 ls bs) i (from i ls bs) ≡ all → b ++ walk_all o l (from 0 ls bs) (i + 1) (from (i + 1) ls bs) ≡ all
  walked_child i m was a b all h there f g inv =
      let k = nth_child m (nodes bs) i in
      walk_more was a b (poisons_of o l (from 0 ls bs) i k) (walk o k) (walk_all o l (from 0 ls bs) (i + 1) (from (i + 1) ls bs)) f g
      ∙ (ap (λ z. was ++ walk_all o l (from 0 ls bs) i z) (sym (from_next i ls bs m h there)) ∙ inv)

-- all children, and so the fork with what it can do itself
pub walked_all : {S : Type 0} (o : Ops S) (l : S) (b : NodeStatus S) (ls : Vec S Global) (bs : Vec (NodeStatus S) Global) (i : ℕ) (es own now : List trees.Event) → b ≡ code.Forked ls bs → length ls.items ≤ i
    → own ≡ es ++ here o (node l b)
    → now ++ walk_all o l (from 0 ls.items bs.items) i (from i ls.items bs.items) ≡ own ++ walk_all o l (from 0 ls.items bs.items) 0 (from 0 ls.items bs.items)
    → now ≡ es ++ walk o (node l b)
walked_all o l b ls bs i es own now is h f inv =
    let all = from 0 ls.items bs.items in
    let n = is_forked l b ls bs is in
    sym (append-nil now)
    ∙ (ap (λ z. now ++ walk_all o l all i z) (sym (from_end i ls.items bs.items h))
    ∙ (inv
    ∙ (ap (λ z. z ++ walk_all o l all 0 all) (f ∙ ap (λ z. es ++ here o z) n)
    ∙ (append_assoc es (here o (Forked l all)) (walk_all o l all 0 all)
    ∙ ap (λ z. es ++ walk o z) (sym n)))))
