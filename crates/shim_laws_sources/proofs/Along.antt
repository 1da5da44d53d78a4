-- What relates a node to what an event leaves in its place, where that holds of what one process does.
use Rattle.std.proofs.Common.{◌≡◌, ℕ, zero, suc, ℤ, Bool, true, Option, Some, None, List, [], ◌∷◌, ◌++◌, refl, sym, subst, ltb}
use Rattle.shim_local.specs.Process.{Ops, Trapped, AtQuiet, AtPut, AtFork}
use Rattle.shim_local.specs.Laws.{AllOf, Forks}
use Rattle.shim_semantics.specs.Nodes.{Node, Nodes, Live, Forked, Ended, Dead, Death, death_with, handed, no_node, node_and, states, all_live, all_done}
use Rattle.shim_semantics.specs.Acts.{Acted, thrown, throwing, catch_logged, nothing}
use Rattle.shim_semantics.specs.Places.{at, child_at}
use Rattle.shim_semantics.proofs.ReplacedNodes.{put, put_child}
use Rattle.shim_base.proofs.Facts.{some_same, none_some, choose}

-- these nodes and then those
abbrev pub behind : {S : Type 0} → List (Node S) → Nodes S → Nodes S
behind [] ks = ks
behind (n ∷ ns) ks = node_and n (behind ns ks)

-- The relation goes on through events and holds below a fork where one child changes. It holds of what each process does by itself, and of a rendezvous.
pub record Relates {S : Type 0} (o : Ops S) (R : Node S → Node S → Type 0) : Type 0 where
  pub same : (n : Node S) → R n n
  pub both : (a b c : Node S) → R a b → R b c → R a c
  pub within : (l : S) (ns : List (Node S)) (k m : Node S) (ks : Nodes S) → R k m → R (Forked l (behind ns (node_and k ks))) (Forked l (behind ns (node_and m ks)))
  pub quiet : (l : S) → o.sound l → o.stop l ≡ AtQuiet → R (Live l) (Live (o.quiet l))
  pub puts : (l : S) → o.sound l → o.stop l ≡ AtPut → R (Live l) (Live (o.put l))
  pub receives : (l : S) (v : ℤ) → o.sound l → R (Live l) (Live (o.receive l v))
  pub throws : (l : S) → o.sound l → R (Live l) (Live (o.thrown l))
  pub unwinds : (l : S) (x : ℕ) (v : ℤ) → o.sound l → R (Live l) (Live (o.unwind l x v))
  pub forks : (l p : S) (ks : List S) → o.sound l → Forks o l p ks → R (Live l) (Forked p (all_live ks))
  pub traps : (l m : S) → o.sound l → o.stop l ≡ AtFork → o.fork l ≡ Trapped m → R (Live l) (Live m)
  pub ends : (l : S) → R (Live l) (Ended l)
  pub dies : (l : S) (x : Death) → R (Live l) (Dead l x)
  pub joins : (l : S) (ks : Nodes S) (goes_on : Bool) → o.sound l → AllOf o.sound (states ks) → o.born l (states ks) → all_done ks ≡ true → R (Forked l ks) (Live (o.join l (states ks) goes_on))

pub behind_more : {S : Type 0} (ns : List (Node S)) (k : Node S) (ks : Nodes S) → behind (ns ++ k ∷ []) ks ≡ behind ns (node_and k ks)
behind_more [] k ks = refl
behind_more (n ∷ ns) k ks = λ i. node_and n (behind_more ns k ks i)

module _ {S : Type 0} (o : Ops S) (R : Node S → Node S → Type 0) where
  -- the same with one more of the children in front
  pub one_further : (l : S) (ns : List (Node S)) (k : Node S) (ks js : Nodes S) → R (Forked l (behind (ns ++ k ∷ []) ks)) (Forked l (behind (ns ++ k ∷ []) js)) → R (Forked l (behind ns (node_and k ks))) (Forked l (behind ns (node_and k js)))
  one_further l ns k ks js h = subst (λ z. R (Forked l (behind ns (node_and k ks))) (Forked l z)) (behind_more ns k js) (subst (λ z. R (Forked l z) (Forked l (behind (ns ++ k ∷ []) js))) (behind_more ns k ks) h)

  mutual
    -- another node in the place of one
    pub put_related : Relates o R → (q : List ℕ) (n m a : Node S) → at q n ≡ Some m → R m a → R n (put q a n)
    put_related r [] n m a e h = subst (λ z. R z a) (sym (some_same n m e)) h
    put_related r (i ∷ q) (Live l) m a e h = none_some m e
    put_related r (i ∷ q) (Ended l) m a e h = none_some m e
    put_related r (i ∷ q) (Dead l x) m a e h = none_some m e
    put_related r (i ∷ q) (Forked l ks) m a e h = put_in_related r l [] ks i q m a e h

    put_in_related : Relates o R → (l : S) (ns : List (Node S)) (ks : Nodes S) (i : ℕ) (q : List ℕ) (m a : Node S) → child_at i q ks ≡ Some m → R m a → R (Forked l (behind ns ks)) (Forked l (behind ns (put_child i q a ks)))
    put_in_related r l ns no_node i q m a e h = none_some m e
    put_in_related r l ns (node_and k ks) zero q m a e h = r.within l ns k (put q a k) ks (put_related r q k m a e h)
    put_in_related r l ns (node_and k ks) (suc i) q m a e h = one_further l ns k ks (put_child i q a ks) (put_in_related r l (ns ++ k ∷ []) ks i q m a e h)

  -- a throw
  pub thrown_related : Relates o R → (l : S) (x : Death) → o.sound l → R (Live l) (thrown o l x).node
  thrown_related r l x s =
      let dies : Acted S = record { node = Dead l x; effects = nothing } in
      let goes_on : Acted S = record { node = Live (o.unwind l x.label (handed x.given)); effects = catch_logged (o.handler l x.label) } in
      choose (λ (z : Acted S). R (Live l) z.node) (ltb x.label (o.base l)) dies goes_on (r.dies l x) (r.unwinds l x.label (handed x.given) s)

  pub throwing_related : Relates o R → (l : S) (x : ℕ) (v : Option ℤ) → o.sound l → R (Live l) (throwing o l x v).node
  throwing_related r l x None s = r.throws l s
  throwing_related r l x (Some v) s = thrown_related r l (death_with x v) s
