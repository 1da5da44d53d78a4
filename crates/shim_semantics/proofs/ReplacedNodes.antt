-- A node in a tree, and another in its place.
use Rattle.std.proofs.Common.{◌≡◌, ℕ, zero, suc, Some, List, [], ◌∷◌, refl, ap, ◌∙◌}
use Rattle.shim_local.specs.Process.{Ops}
use Rattle.shim_semantics.specs.Nodes.{Node, Nodes, Live, Forked, Ended, Dead, no_node, node_and}
use Rattle.shim_semantics.specs.Acts.{Effects, Acted, act, act_child, act_here}
use Rattle.shim_semantics.specs.Places.{at, child_at}
use Rattle.shim_semantics.proofs.Options.{within_some, in_front_some, behind_some}
use Rattle.shim_base.proofs.Facts.{none_some}

abbrev mutual
  pub put : {S : Type 0} → List ℕ → Node S → Node S → Node S
  put [] m n = m
  put (b ∷ p) m (Forked l ks) = Forked l (put_child b p m ks)
  put (b ∷ p) m (Live l) = Live l
  put (b ∷ p) m (Ended l) = Ended l
  put (b ∷ p) m (Dead l x) = Dead l x

  pub put_child : {S : Type 0} → ℕ → List ℕ → Node S → Nodes S → Nodes S
  put_child b p m no_node = no_node
  put_child zero p m (node_and k ks) = node_and (put p m k) ks
  put_child (suc b) p m (node_and k ks) = node_and k (put_child b p m ks)

-- what acts by these branches is the node there
pub record ActsThere {S : Type 0} (o : Ops S) (p : List ℕ) (n : Node S) (a : Acted S) : Type 0 where
  pub old : Node S
  pub new : Acted S
  pub there : at p n ≡ Some old
  pub here : act_here o old ≡ Some new
  pub is : record { node = put p new.node n; effects = new.effects } ≡ a

pub record ActsThereIn {S : Type 0} (o : Ops S) (i : ℕ) (p : List ℕ) (ks : Nodes S) (r : Nodes S × Effects) : Type 0 where
  pub old : Node S
  pub new : Acted S
  pub there : child_at i p ks ≡ Some old
  pub here : act_here o old ≡ Some new
  pub is : (put_child i p new.node ks, new.effects) ≡ r

mutual
  pub acts_there : {S : Type 0} (o : Ops S) (p : List ℕ) (n : Node S) (a : Acted S) → act o p n ≡ Some a → ActsThere o p n a
  acts_there o [] n a e = record { old = n; new = a; there = refl; here = e; is = refl }
  acts_there o (i ∷ p) (Live l) a e = none_some a e
  acts_there o (i ∷ p) (Ended l) a e = none_some a e
  acts_there o (i ∷ p) (Dead l x) a e = none_some a e
  acts_there o (i ∷ p) (Forked l ks) a e =
      let x = within_some l (act_child o i p ks) a e in
      let r = acts_there_in o i p ks x.0 x.1 in
      record { old = r.old; new = r.new; there = r.there; here = r.here; is = ap (λ z. record { node = Forked l z.0; effects = z.1 }) r.is ∙ x.2 }

  pub acts_there_in : {S : Type 0} (o : Ops S) (i : ℕ) (p : List ℕ) (ks : Nodes S) (r : Nodes S × Effects) → act_child o i p ks ≡ Some r → ActsThereIn o i p ks r
  acts_there_in o i p no_node r e = none_some r e
  acts_there_in o zero p (node_and k ks) r e =
      let x = in_front_some ks (act o p k) r e in
      let y = acts_there o p k x.0 x.1 in
      record { old = y.old; new = y.new; there = y.there; here = y.here; is = ap (λ z. (node_and z.node ks, z.effects)) y.is ∙ x.2 }
  acts_there_in o (suc i) p (node_and k ks) r e =
      let x = behind_some k (act_child o i p ks) r e in
      let y = acts_there_in o i p ks x.0 x.1 in
      record { old = y.old; new = y.new; there = y.there; here = y.here; is = ap (λ z. (node_and k z.0, z.1)) y.is ∙ x.2 }
