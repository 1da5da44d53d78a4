-- The counts of the processes of a tree.
use Rattle.std.proofs.Common.{◌≡◌, ℕ, zero, suc, Some, List, [], ◌∷◌, ◌++◌, sym, subst}
use Rattle.std.specs.FinMap.{FinMap}
use Rattle.shim_base.specs.Paths.{path_order}
use Rattle.shim_local.specs.Process.{Ops}
use Rattle.shim_local.specs.Laws.{AllOf}
use Rattle.shim_semantics.specs.Nodes.{Node, Nodes, Live, Forked, Ended, Dead, no_node, node_and, everyone, everyone_of, state}
use Rattle.shim_semantics.specs.Places.{at, child_at, route}
use Rattle.shim_semantics.specs.Trees.{Tree}
use Rattle.shim_semantics.specs.Quiets.{ComesBy}
use Rattle.shim_tree.specs.Advancing.{AllHaveCounts}
use Rattle.shim_run_log.specs.Reserved.{HasCount, KeepsCounts}
use Rattle.shim_semantics.specs.Advancing.{with_state, with_state_at, with_state_in}
use Rattle.shim_semantics.proofs.Advances.{process_at}
use Rattle.shim_base.proofs.Facts.{some_same, none_some}

pub all_left : {A : Type 0} (P : A → Type 0) (xs ys : List A) → AllOf P (xs ++ ys) → AllOf P xs
all_left P [] ys h = tt
all_left P (x ∷ xs) ys h = (h.0, all_left P xs ys h.1)

pub all_right : {A : Type 0} (P : A → Type 0) (xs ys : List A) → AllOf P (xs ++ ys) → AllOf P ys
all_right P [] ys h = h
all_right P (x ∷ xs) ys h = all_right P xs ys h.1

pub all_both : {A : Type 0} (P : A → Type 0) (xs ys : List A) → AllOf P xs → AllOf P ys → AllOf P (xs ++ ys)
all_both P [] ys h g = g
all_both P (x ∷ xs) ys h g = (h.0, all_both P xs ys h.1 g)

all_weaker : {A : Type 0} (P Q : A → Type 0) (xs : List A) → ((x : A) → P x → Q x) → AllOf P xs → AllOf Q xs
all_weaker P Q [] f h = tt
all_weaker P Q (x ∷ xs) f h = (f x h.0, all_weaker P Q xs f h.1)

module _ {S : Type 0} (o : Ops S) where
  abbrev pub Placed : FinMap path_order ℕ → S → Type 0
  Placed m l = HasCount m (o.path l)

  pub still_placed : (m m' : FinMap path_order ℕ) (n : Node S) → KeepsCounts m m' → AllHaveCounts o m n → AllHaveCounts o m' n
  still_placed m m' n keeps h = all_weaker (Placed m) (Placed m') (everyone n) (λ l. keeps (o.path l)) h

  mutual
    -- where a live process stands it has its place
    place_there : (m : FinMap path_order ℕ) (l : S) (q : List ℕ) (n : Node S) → at q n ≡ Some (Live l) → AllHaveCounts o m n → HasCount m (o.path l)
    place_there m l [] n e h = (subst (AllHaveCounts o m) (some_same n (Live l) e) h).0
    place_there m l (i ∷ q) (Live k) e h = none_some (Live l) e
    place_there m l (i ∷ q) (Ended k) e h = none_some (Live l) e
    place_there m l (i ∷ q) (Dead k x) e h = none_some (Live l) e
    place_there m l (i ∷ q) (Forked k ks) e h = place_there_in m l i q ks e h.1

    place_there_in : (m : FinMap path_order ℕ) (l : S) (i : ℕ) (q : List ℕ) (ks : Nodes S) → child_at i q ks ≡ Some (Live l) → AllOf (Placed m) (everyone_of ks) → HasCount m (o.path l)
    place_there_in m l i q no_node e h = none_some (Live l) e
    place_there_in m l zero q (node_and k ks) e h = place_there m l q k e (all_left (Placed m) (everyone k) (everyone_of ks) h)
    place_there_in m l (suc i) q (node_and k ks) e h = place_there_in m l i q ks e (all_right (Placed m) (everyone k) (everyone_of ks) h)

  module _ (m : FinMap path_order ℕ) (last l : S) (same : o.path last ≡ o.path l) where
    mutual
      -- another state of the same path needs no other place
      placed_with : (q : List ℕ) (n : Node S) → at q n ≡ Some (Live l) → AllHaveCounts o m n → AllHaveCounts o m (with_state_at last q n)
      placed_with [] n e h =
          let w = some_same n (Live l) e in
          subst (λ z. AllHaveCounts o m (with_state last z)) (sym w) (subst (HasCount m) (sym same) (subst (AllHaveCounts o m) w h).0, tt)
      placed_with (i ∷ q) (Live k) e h = h
      placed_with (i ∷ q) (Ended k) e h = h
      placed_with (i ∷ q) (Dead k x) e h = h
      placed_with (i ∷ q) (Forked k ks) e h = (h.0, placed_with_in i q ks e h.1)

      placed_with_in : (i : ℕ) (q : List ℕ) (ks : Nodes S) → child_at i q ks ≡ Some (Live l) → AllOf (Placed m) (everyone_of ks) → AllOf (Placed m) (everyone_of (with_state_in last i q ks))
      placed_with_in i q no_node e h = h
      placed_with_in zero q (node_and k ks) e h =
          all_both (Placed m) (everyone (with_state_at last q k)) (everyone_of ks) (placed_with q k e (all_left (Placed m) (everyone k) (everyone_of ks) h)) (all_right (Placed m) (everyone k) (everyone_of ks) h)
      placed_with_in (suc i) q (node_and k ks) e h =
          all_both (Placed m) (everyone k) (everyone_of (with_state_in last i q ks)) (all_left (Placed m) (everyone k) (everyone_of ks) h) (placed_with_in i q ks e (all_right (Placed m) (everyone k) (everyone_of ks) h))

  pub comes_placed : (m : FinMap path_order ℕ) (t : Tree S) (n : ℕ) (last : S) → ComesBy o t n last → AllHaveCounts o m t.root → HasCount m (o.path last)
  comes_placed m t n last comes h =
      let w = process_at t.root _ comes.start comes.in_tree.there in
      subst (HasCount m) comes.in_tree.is_its (place_there m comes.start w.branches t.root w.there h)

  pub advanced_placed : (m m' : FinMap path_order ℕ) (t : Tree S) (n : ℕ) (last : S) (new : Node S) → ComesBy o t n last → KeepsCounts m m'
      → ((q : List ℕ) → route (o.path (state t.root)) (o.path last) ≡ Some q → new ≡ with_state_at last q t.root)
      → AllHaveCounts o m t.root → AllHaveCounts o m' new
  advanced_placed m m' t n last new comes keeps is h =
      let w = process_at t.root _ comes.start comes.in_tree.there in
      subst (AllHaveCounts o m') (sym (is w.branches w.is))
      (still_placed m m' _ keeps (placed_with m last comes.start (sym comes.in_tree.is_its) w.branches t.root w.there h))
