-- Two processes that act are apart: neither is above the other, and what the one leaves doesn't touch the other.
use Rattle.std.proofs.Common.{◌≡◌, ℕ, zero, suc, true, Some, List, [], ◌∷◌, refl, ap, ◌∙◌}
use Rattle.shim_local.specs.Process.{Ops}
use Rattle.shim_semantics.specs.Nodes.{Node, Nodes, Live, Forked, Ended, Dead, no_node, node_and, goes}
use Rattle.shim_semantics.specs.Acts.{Acted, act_here}
use Rattle.shim_semantics.specs.Places.{at, child_at}
use Rattle.shim_semantics.proofs.ReplacedNodes.{put, put_child}
use Rattle.shim_laws_schedules.proofs.Elsewhere.{none_goes_below}
use Rattle.shim_laws_schedules.proofs.Two.{bump}
use Rattle.shim_base.proofs.Facts.{some_same, none_some}

module _ {S : Type 0} (o : Ops S) where
  acts_goes : (m : Node S) (a : Acted S) → act_here o m ≡ Some a → goes m ≡ true
  acts_goes (Live l) a e = refl
  acts_goes (Forked l ks) a e = refl
  acts_goes (Ended l) a e = none_some a e
  acts_goes (Dead l x) a e = none_some a e

  -- Each is where it was once the other is replaced, and it is one which is replaced first.
  pub record Apart (p q : List ℕ) (n m k x y : Node S) : Type 0 where
    pub first : at p (put q y n) ≡ Some m
    pub second : at q (put p x n) ≡ Some k
    pub both : put q y (put p x n) ≡ put p x (put q y n)

  record ApartIn (i : ℕ) (p : List ℕ) (j : ℕ) (q : List ℕ) (ns : Nodes S) (m k x y : Node S) : Type 0 where
    pub first : child_at i p (put_child j q y ns) ≡ Some m
    pub second : child_at j q (put_child i p x ns) ≡ Some k
    pub both : put_child j q y (put_child i p x ns) ≡ put_child i p x (put_child j q y ns)

  mutual
    pub apart : (p q : List ℕ) (n m k x y : Node S) (a b : Acted S) → (p ≡ q → ⊥) → at p n ≡ Some m → at q n ≡ Some k → act_here o m ≡ Some a → act_here o k ≡ Some b → Apart p q n m k x y
    apart [] [] n m k x y a b d e f g h = absurd (d refl)
    apart [] (j ∷ q) n m k x y a b d e f g h = absurd (none_goes_below o j q n k a (ap (act_here o) (some_same n m e) ∙ g) f (acts_goes k b h))
    apart (i ∷ p) [] n m k x y a b d e f g h = absurd (none_goes_below o i p n m b (ap (act_here o) (some_same n k f) ∙ h) e (acts_goes m a g))
    apart (i ∷ p) (j ∷ q) (Live l) m k x y a b d e f g h = none_some m e
    apart (i ∷ p) (j ∷ q) (Ended l) m k x y a b d e f g h = none_some m e
    apart (i ∷ p) (j ∷ q) (Dead l z) m k x y a b d e f g h = none_some m e
    apart (i ∷ p) (j ∷ q) (Forked l ns) m k x y a b d e f g h =
        let w = apart_in i p j q ns m k x y a b d e f g h in
        record { first = w.first; second = w.second; both = ap (Forked l) w.both }

    apart_in : (i : ℕ) (p : List ℕ) (j : ℕ) (q : List ℕ) (ns : Nodes S) (m k x y : Node S) (a b : Acted S) → (i ∷ p ≡ j ∷ q → ⊥) → child_at i p ns ≡ Some m → child_at j q ns ≡ Some k → act_here o m ≡ Some a → act_here o k ≡ Some b → ApartIn i p j q ns m k x y
    apart_in i p j q no_node m k x y a b d e f g h = none_some m e
    apart_in zero p zero q (node_and n ns) m k x y a b d e f g h =
        let w = apart p q n m k x y a b (λ z. d (ap (λ t. zero ∷ t) z)) e f g h in
        record { first = w.first; second = w.second; both = ap (λ z. node_and z ns) w.both }
    apart_in zero p (suc j) q (node_and n ns) m k x y a b d e f g h = record { first = e; second = f; both = refl }
    apart_in (suc i) p zero q (node_and n ns) m k x y a b d e f g h = record { first = e; second = f; both = refl }
    apart_in (suc i) p (suc j) q (node_and n ns) m k x y a b d e f g h =
        let w = apart_in i p j q ns m k x y a b (λ z. d (ap bump z)) e f g h in
        record { first = w.first; second = w.second; both = ap (node_and n) w.both }
