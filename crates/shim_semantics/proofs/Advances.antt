-- Many quiet steps of one process are as many steps of its own, one after another.
use Rattle.std.proofs.Common.{◌≡◌, ℕ, zero, suc, true, Option, Some, None, List, [], ◌∷◌, ◌&&◌, ◌+◌, cond, refl, sym, ap, subst, ◌∙◌}
use Rattle.std.specs.Prelude.{replicate}
use Rattle.std.proofs.lemmas.List.{append-nil}
use Rattle.std.specs.FinMap.{FinMap}
use Rattle.shim_base.specs.Paths.{Path, path_order, same_path}
use Rattle.shim_local.specs.Process.{Ops, AtQuiet}
use Rattle.shim_local.specs.Laws.{LocalLaws, by_quiet}
use Rattle.shim_local.specs.Quiets.{QuietSteps}
use Rattle.shim_local.proofs.Quiets.{first_quiet}
use Rattle.shim_semantics.specs.Nodes.{Node, Nodes, Live, Forked, Ended, Dead, no_node, node_and, state}
use Rattle.shim_semantics.specs.Acts.{Acted, nothing, act, act_child, act_live, within, in_front, in_later}
use Rattle.shim_semantics.specs.Places.{at, child_at, route, at_route, SoundBelow, SoundChildren}
use Rattle.shim_semantics.specs.Trees.{Tree, Own, Steps, after, acts, count_own, is_its, act_route, same_own_action, own_action_at}
use Rattle.shim_semantics.specs.Systems.{run, on_some}
use Rattle.shim_semantics.specs.Quiets.{ComesBy, Advances}
use Rattle.shim_semantics.specs.Advancing.{with_state, with_state_at, with_state_in, steps_taken}
use Rattle.shim_base.proofs.Facts.{some_same, none_some}
use Rattle.shim_base.proofs.SamePaths.{same_path_refl}

-- the tree with this node as its root and these counts, in which all else is as in t
abbrev pub moved_on : {S : Type 0} → Tree S → Node S → FinMap path_order ℕ → Tree S
moved_on t n m = record { root = n; output = t.output; histories = t.histories; logs = t.logs; counts = m; events = t.events }

-- where a live process stands, by its route
pub record ProcessAt {S : Type 0} (root : Node S) (r : Option (List ℕ)) (l : S) : Type 0 where
  pub branches : List ℕ
  pub is : r ≡ Some branches
  pub there : at branches root ≡ Some (Live l)

pub process_at : {S : Type 0} (root : Node S) (r : Option (List ℕ)) (l : S) → at_route root r ≡ Some (Live l) → ProcessAt root r l
process_at root None l e = none_some (Live l) e
process_at root (Some q) l e = record { branches = q; is = refl; there = e }

module _ {S : Type 0} (o : Ops S) where
  mutual
    -- a live process at the branches, with another state, stands there so
    there_with : (m l : S) (q : List ℕ) (n : Node S) → at q n ≡ Some (Live l) → at q (with_state_at m q n) ≡ Some (Live m)
    there_with m l [] n e = ap (λ z. Some (with_state m z)) (some_same n (Live l) e)
    there_with m l (i ∷ q) (Live k) e = none_some (Live l) e
    there_with m l (i ∷ q) (Ended k) e = none_some (Live l) e
    there_with m l (i ∷ q) (Dead k x) e = none_some (Live l) e
    there_with m l (i ∷ q) (Forked k ks) e = there_with_in m l i q ks e

    there_with_in : (m l : S) (i : ℕ) (q : List ℕ) (ks : Nodes S) → child_at i q ks ≡ Some (Live l) → child_at i q (with_state_in m i q ks) ≡ Some (Live m)
    there_with_in m l i q no_node e = none_some (Live l) e
    there_with_in m l zero q (node_and k ks) e = there_with m l q k e
    there_with_in m l (suc i) q (node_and k ks) e = there_with_in m l i q ks e

  mutual
    with_twice : (m l : S) (q : List ℕ) (n : Node S) → with_state_at m q (with_state_at l q n) ≡ with_state_at m q n
    with_twice m l [] (Live k) = refl
    with_twice m l [] (Ended k) = refl
    with_twice m l [] (Dead k x) = refl
    with_twice m l [] (Forked k ks) = refl
    with_twice m l (i ∷ q) (Live k) = refl
    with_twice m l (i ∷ q) (Ended k) = refl
    with_twice m l (i ∷ q) (Dead k x) = refl
    with_twice m l (i ∷ q) (Forked k ks) = ap (Forked k) (with_twice_in m l i q ks)

    with_twice_in : (m l : S) (i : ℕ) (q : List ℕ) (ks : Nodes S) → with_state_in m i q (with_state_in l i q ks) ≡ with_state_in m i q ks
    with_twice_in m l i q no_node = refl
    with_twice_in m l zero q (node_and k ks) = ap (λ z. node_and z ks) (with_twice m l q k)
    with_twice_in m l (suc i) q (node_and k ks) = ap (node_and k) (with_twice_in m l i q ks)

  mutual
    with_its_own : (l : S) (q : List ℕ) (n : Node S) → at q n ≡ Some (Live l) → with_state_at l q n ≡ n
    with_its_own l [] n e = let w = some_same n (Live l) e in ap (with_state l) w ∙ sym w
    with_its_own l (i ∷ q) (Live k) e = refl
    with_its_own l (i ∷ q) (Ended k) e = refl
    with_its_own l (i ∷ q) (Dead k x) e = refl
    with_its_own l (i ∷ q) (Forked k ks) e = ap (Forked k) (with_its_own_in l i q ks e)

    with_its_own_in : (l : S) (i : ℕ) (q : List ℕ) (ks : Nodes S) → child_at i q ks ≡ Some (Live l) → with_state_in l i q ks ≡ ks
    with_its_own_in l i q no_node e = refl
    with_its_own_in l zero q (node_and k ks) e = ap (λ z. node_and z ks) (with_its_own l q k e)
    with_its_own_in l (suc i) q (node_and k ks) e = ap (node_and k) (with_its_own_in l i q ks e)

  mutual
    -- a quiet step of the process at the branches
    steps_there : (l : S) (q : List ℕ) (n : Node S) → at q n ≡ Some (Live l) → o.stop l ≡ AtQuiet → act o q n ≡ Some (record { node = with_state_at (o.quiet l) q n; effects = nothing })
    steps_there l [] n e stop =
        let w = some_same n (Live l) e in
        ap (act o []) w ∙ (ap (act_live o l) stop ∙ ap (λ z. let r : Acted S = record { node = with_state (o.quiet l) z; effects = nothing } in Some r) (sym w))
    steps_there l (i ∷ q) (Live k) e stop = none_some (Live l) e
    steps_there l (i ∷ q) (Ended k) e stop = none_some (Live l) e
    steps_there l (i ∷ q) (Dead k x) e stop = none_some (Live l) e
    steps_there l (i ∷ q) (Forked k ks) e stop = ap (within k) (steps_there_in l i q ks e stop)

    steps_there_in : (l : S) (i : ℕ) (q : List ℕ) (ks : Nodes S) → child_at i q ks ≡ Some (Live l) → o.stop l ≡ AtQuiet → act_child o i q ks ≡ Some (with_state_in (o.quiet l) i q ks, nothing)
    steps_there_in l i q no_node e stop = none_some (Live l) e
    steps_there_in l zero q (node_and k ks) e stop = ap (in_front ks) (steps_there l q k e stop)
    steps_there_in l (suc i) q (node_and k ks) e stop = ap (in_later k) (steps_there_in l i q ks e stop)

  mutual
    -- what stands in a sound tree is sound by itself
    sound_there : (l : S) (q : List ℕ) (n : Node S) → SoundBelow o n → at q n ≡ Some (Live l) → o.sound l
    sound_there l [] n s e = subst (SoundBelow o) (some_same n (Live l) e) s
    sound_there l (i ∷ q) (Live k) s e = none_some (Live l) e
    sound_there l (i ∷ q) (Ended k) s e = none_some (Live l) e
    sound_there l (i ∷ q) (Dead k x) s e = none_some (Live l) e
    sound_there l (i ∷ q) (Forked k ks) s e = sound_there_in l k s.number 0 i q ks s.children e

    sound_there_in : (l p : S) (f j i : ℕ) (q : List ℕ) (ks : Nodes S) → SoundChildren o p f j ks → child_at i q ks ≡ Some (Live l) → o.sound l
    sound_there_in l p f j i q no_node s e = none_some (Live l) e
    sound_there_in l p f j zero q (node_and k ks) s e = sound_there l q k s.1 e
    sound_there_in l p f j (suc i) q (node_and k ks) s e = sound_there_in l p f (j + 1) i q ks s.2 e

  -- the root's path stays
  path_with : (m l : S) (q : List ℕ) (n : Node S) → at q n ≡ Some (Live l) → o.path m ≡ o.path l → o.path (state (with_state_at m q n)) ≡ o.path (state n)
  path_with m l [] n e same = let w = some_same n (Live l) e in ap (λ z. o.path (state (with_state m z))) w ∙ (same ∙ sym (ap (λ z. o.path (state z)) w))
  path_with m l (i ∷ q) (Live k) e same = refl
  path_with m l (i ∷ q) (Ended k) e same = refl
  path_with m l (i ∷ q) (Dead k x) e same = refl
  path_with m l (i ∷ q) (Forked k ks) e same = refl

  -- one step
  one_step : (t : Tree S) (p : Path) (q : List ℕ) (l : S) → route (o.path (state t.root)) p ≡ Some q → at q t.root ≡ Some (Live l) → o.path l ≡ p → o.stop l ≡ AtQuiet
      → after o (Own p) t ≡ Some (moved_on t (with_state_at (o.quiet l) q t.root) (steps_taken t.counts p 1))
  one_step t p q l r there is stop =
      let a : Acted S = record { node = with_state_at (o.quiet l) q t.root; effects = nothing } in
      let acted : acts o Steps p t.root ≡ Some a =
      (λ i. cond (is_its o Steps p (at_route t.root (r i))) (act_route o t.root (r i)) None)
      ∙ ((λ i. cond (is_its o Steps p (there i)) (act o q t.root) None)
      ∙ ((λ i. cond (same_path (is i) p && same_own_action Steps (own_action_at (stop i))) (steps_there l q t.root there stop i) None)
      ∙ ap (λ b. cond (b && true) (Some a) None) (same_path_refl p))) in
      ap (count_own p t) acted
      ∙ ap (λ z. let u : Tree S = record { root = a.node; output = z; histories = t.histories; logs = t.logs; counts = steps_taken t.counts p 1; events = t.events } in Some u) (append-nil t.output)

  module _ (laws : LocalLaws o) where
    steps_run : (n : ℕ) (l last : S) (t : Tree S) (p : Path) (q : List ℕ) → QuietSteps o n l last → route (o.path (state t.root)) p ≡ Some q → at q t.root ≡ Some (Live l) → o.path l ≡ p → o.sound l
        → run (after o) (replicate n (Own p)) t ≡ Some (moved_on t (with_state_at last q t.root) (steps_taken t.counts p n))
    steps_run zero l last t p q steps r there is sound =
        let same : l ≡ last = some_same l last steps in
        ap (λ z. Some (moved_on t z t.counts)) (sym (with_its_own l q t.root there) ∙ ap (λ z. with_state_at z q t.root) same)
    steps_run (suc n) l last t p q taken r there is sound =
        let first = first_quiet o n l last taken in
        let at_quiet = first.0 in
        let m = o.quiet l in
        let moved = by_quiet at_quiet refl in
        let same = laws.moved_path l m sound moved in
        let u = moved_on t (with_state_at m q t.root) (steps_taken t.counts p 1) in
        ap (on_some (run (after o) (replicate n (Own p)))) (one_step t p q l r there is at_quiet)
        ∙ (steps_run n m last u p q first.1 (ap (λ z. route z p) (path_with m l q t.root there same) ∙ r) (there_with m l q t.root there) (same ∙ is) (laws.moved_sound l m sound moved)
        ∙ ap (λ z. Some (moved_on t z (steps_taken t.counts p (suc n)))) (with_twice last m q t.root))

    -- the state that so many quiet steps lead to, in its place, with as many steps counted
    pub advanced : (t u : Tree S) (n : ℕ) (last : S) → SoundBelow o t.root → ComesBy o t n last
        → ((q : List ℕ) → route (o.path (state t.root)) (o.path last) ≡ Some q → u ≡ moved_on t (with_state_at last q t.root) (steps_taken t.counts (o.path last) n))
        → Advances o (o.path last) n t u
    advanced t u n last sound comes is =
        let s = process_at t.root _ comes.start comes.in_tree.there in
        steps_run n comes.start last t (o.path last) s.branches comes.steps s.is s.there comes.in_tree.is_its (sound_there comes.start s.branches t.root sound s.there)
        ∙ ap Some (sym (is s.branches s.is))
