-- Branches lead to tied nodes, and what is made of these shows above them as related.
use Rattle.std.proofs.Common.{◌≡◌, ℕ, zero, suc, List, [], ◌∷◌, Option, Some, None, subst}
use Rattle.shim_base.specs.Paths.{Path, Channel}
use Rattle.shim_local.specs.Process.{Ops}
use Rattle.shim_local.specs.Laws.{LocalLaws}
use Rattle.shim_semantics.specs.Nodes.{Node, Nodes, Live, Forked, Ended, Dead, no_node, node_and, state}
use Rattle.shim_semantics.specs.Descents.{Ascent, apply_at, apply_among}
use Rattle.shim_semantics.specs.Acts.{Effects, Acted, within, in_front, in_later, done_above, act_here}
use Rattle.shim_semantics.specs.Poison.{above, before_rest, after_one, changed_above, poison_node, poison_route, last_branch, to_fork}
use Rattle.shim_semantics.specs.Places.{found_above, at, at_route, route, led_to}
use Rattle.shim_semantics.specs.Trees.{act_route}
use Rattle.shim_laws_tied.specs.Ties.{KeepsTied}
use Rattle.shim_laws_tied.specs.TiedTrees.{NodesTied, ChildrenTied}
use Rattle.shim_laws_tied.proofs.Both.{BothOrNone}
use Rattle.shim_laws_tied.proofs.SoundTies.{Tied, EachTied, tied_alone, each_tied_alone}
use Rattle.shim_laws_tied.proofs.WalksAlike.{path_alike}
use Rattle.shim_laws_tied.proofs.ActsTied.{ActedTied, here_tied}
use Rattle.shim_laws_tied.proofs.NodesChanged.{poison_here_tied}

-- what is related below shows above as related
record AscentsTied {A B X Y Z W : Type 0} (R : A → B → Type 0) (w : Ascent A X Y) (v : Ascent B Z W) (P : X → Z → Type 0) (Q : Y → W → Type 0) : Type 0 where
  above : (l : A) (m : B) (y : Y) (z : W) → R l m → Q y z → P (w.above l y) (v.above m z)
  first : (ks : Nodes A) (js : Nodes B) (x : X) (z : Z) → ChildrenTied R ks js → P x z → Q (w.first ks x) (v.first js z)
  later : (k : Node A) (j : Node B) (y : Y) (z : W) → NodesTied R k j → Q y z → Q (w.later k y) (v.later j z)
  nowhere : (n : Node A) (m : Node B) → P (w.nowhere n) (v.nowhere m)
  no_child : Q w.no_child v.no_child

-- the children that an event leaves are tied, with the same effects
abbrev RestTied : {A B : Type 0} → (A → B → Type 0) → Nodes A × Effects → Nodes B × Effects → Type 0
RestTied R a b = ChildrenTied R a.0 b.0 × (a.1 ≡ b.1)

module _ {A B : Type 0} (o : Ops A) (p : Ops B) (R : A → B → Type 0) where
  module _ {X Y Z W : Type 0} (w : Ascent A X Y) (v : Ascent B Z W) (P : X → Z → Type 0) (Q : Y → W → Type 0) (tied : AscentsTied R w v P Q)
      (f : Node A → X) (g : Node B → Z) (made : (n : Node A) (m : Node B) → Tied o p R n m → P (f n) (g m)) where
    mutual
      applied_tied : (q : List ℕ) (n : Node A) (m : Node B) → Tied o p R n m → P (apply_at w f q n) (apply_at v g q m)
      applied_tied [] n m h = made n m h
      applied_tied (b ∷ q) (Live l) (Live m) h = tied.nowhere (Live l) (Live m)
      applied_tied (b ∷ q) (Ended l) (Ended m) h = tied.nowhere (Ended l) (Ended m)
      applied_tied (b ∷ q) (Dead l d) (Dead m e) h = tied.nowhere (Dead l d) (Dead m e)
      applied_tied (b ∷ q) (Forked l ks) (Forked m js) h = tied.above l m (apply_among w f b q ks) (apply_among v g b q js) h.0.tied.2 (among_tied b q ks js h.1)
      applied_tied (b ∷ q) n m h = absurd h

      among_tied : (b : ℕ) (q : List ℕ) (ks : Nodes A) (js : Nodes B) → EachTied o p R ks js → Q (apply_among w f b q ks) (apply_among v g b q js)
      among_tied b q no_node no_node h = tied.no_child
      among_tied zero q (node_and k ks) (node_and j js) h = tied.first ks js (apply_at w f q k) (apply_at v g q j) (each_tied_alone o p R ks js h.1) (applied_tied q k j h.0)
      among_tied (suc b) q (node_and k ks) (node_and j js) h = tied.later k j (apply_among w f b q ks) (apply_among v g b q js) (tied_alone o p R k j h.0) (among_tied b q ks js h.1)
      among_tied b q ks js h = absurd h

  found_tied : AscentsTied R found_above found_above (BothOrNone (Tied o p R)) (BothOrNone (Tied o p R))
  found_tied = record { above = λ l m y z h g. g; first = λ ks js x z h g. g; later = λ k j y z h g. g; nowhere = λ n m. tt; no_child = tt }

  at_tied : (q : List ℕ) (n : Node A) (m : Node B) → Tied o p R n m → BothOrNone (Tied o p R) (at q n) (at q m)
  at_tied q n m h = applied_tied found_above found_above (BothOrNone (Tied o p R)) (BothOrNone (Tied o p R)) found_tied Some Some (λ x y g. g) q n m h

  at_route_tied : (q : Option (List ℕ)) (n : Node A) (m : Node B) → Tied o p R n m → BothOrNone (Tied o p R) (at_route n q) (at_route m q)
  at_route_tied None n m h = tt
  at_route_tied (Some q) n m h = at_tied q n m h

  within_tied : (l : A) (m : B) (x : Option (Nodes A × Effects)) (y : Option (Nodes B × Effects)) → R l m → BothOrNone (RestTied R) x y → BothOrNone (ActedTied R) (within l x) (within m y)
  within_tied l m (Some x) (Some y) h g = record { node = (h, g.0); effects = g.1 }
  within_tied l m None None h g = tt
  within_tied l m (Some x) None h g = absurd g
  within_tied l m None (Some y) h g = absurd g

  in_front_tied : (ks : Nodes A) (js : Nodes B) (x : Option (Acted A)) (y : Option (Acted B)) → ChildrenTied R ks js → BothOrNone (ActedTied R) x y → BothOrNone (RestTied R) (in_front ks x) (in_front js y)
  in_front_tied ks js (Some x) (Some y) h g = ((g.node, h), g.effects)
  in_front_tied ks js None None h g = tt
  in_front_tied ks js (Some x) None h g = absurd g
  in_front_tied ks js None (Some y) h g = absurd g

  behind_tied : (k : Node A) (j : Node B) (x : Option (Nodes A × Effects)) (y : Option (Nodes B × Effects)) → NodesTied R k j → BothOrNone (RestTied R) x y → BothOrNone (RestTied R) (in_later k x) (in_later j y)
  behind_tied k j (Some x) (Some y) h g = ((h, g.0), g.1)
  behind_tied k j None None h g = tt
  behind_tied k j (Some x) None h g = absurd g
  behind_tied k j None (Some y) h g = absurd g

  done_tied : AscentsTied R done_above done_above (BothOrNone (ActedTied R)) (BothOrNone (RestTied R))
  done_tied = record { above = within_tied; first = in_front_tied; later = behind_tied; nowhere = λ n m. tt; no_child = tt }

  above_tied : (l : A) (m : B) (x : Option (Nodes A)) (y : Option (Nodes B)) → R l m → BothOrNone (ChildrenTied R) x y → BothOrNone (NodesTied R) (above l x) (above m y)
  above_tied l m (Some x) (Some y) h g = (h, g)
  above_tied l m None None h g = tt
  above_tied l m (Some x) None h g = absurd g
  above_tied l m None (Some y) h g = absurd g

  before_rest_tied : (ks : Nodes A) (js : Nodes B) (x : Option (Node A)) (y : Option (Node B)) → ChildrenTied R ks js → BothOrNone (NodesTied R) x y → BothOrNone (ChildrenTied R) (before_rest ks x) (before_rest js y)
  before_rest_tied ks js (Some x) (Some y) h g = (g, h)
  before_rest_tied ks js None None h g = tt
  before_rest_tied ks js (Some x) None h g = absurd g
  before_rest_tied ks js None (Some y) h g = absurd g

  after_one_tied : (k : Node A) (j : Node B) (x : Option (Nodes A)) (y : Option (Nodes B)) → NodesTied R k j → BothOrNone (ChildrenTied R) x y → BothOrNone (ChildrenTied R) (after_one k x) (after_one j y)
  after_one_tied k j (Some x) (Some y) h g = (h, g)
  after_one_tied k j None None h g = tt
  after_one_tied k j (Some x) None h g = absurd g
  after_one_tied k j None (Some y) h g = absurd g

  changed_tied : AscentsTied R changed_above changed_above (BothOrNone (NodesTied R)) (BothOrNone (ChildrenTied R))
  changed_tied = record { above = above_tied; first = before_rest_tied; later = after_one_tied; nowhere = λ n m. tt; no_child = tt }

  module _ (keeps : KeepsTied o p R) where
    pub led_to_tied : (x : Path) (n : Node A) (m : Node B) → Tied o p R n m → BothOrNone (Tied o p R) (led_to o n x) (led_to p m x)
    led_to_tied x n m h =
        subst (λ r. BothOrNone (Tied o p R) (led_to o n x) (at_route m (route r x))) (path_alike o p R keeps n m h) (at_route_tied (route (o.path (state n)) x) n m h)

    route_poison_tied : (c : Channel) (q : Option (List ℕ)) (n : Node A) (m : Node B) → Tied o p R n m → BothOrNone (NodesTied R) (poison_route o c n q) (poison_route p c m q)
    route_poison_tied c None n m h = tt
    route_poison_tied c (Some []) n m h = tt
    route_poison_tied c (Some (i ∷ q)) n m h =
        applied_tied changed_above changed_above (BothOrNone (NodesTied R)) (BothOrNone (ChildrenTied R)) changed_tied (poison_node o c (last_branch i q)) (poison_node p c (last_branch i q))
        (poison_here_tied o p R keeps c (last_branch i q)) (to_fork i q) n m h

    pub path_poison_tied : (c : Channel) (x : Path) (n : Node A) (m : Node B) → Tied o p R n m
        → BothOrNone (NodesTied R) (poison_route o c n (route (o.path (state n)) x)) (poison_route p c m (route (p.path (state m)) x))
    path_poison_tied c x n m h =
        subst (λ r. BothOrNone (NodesTied R) (poison_route o c n (route (o.path (state n)) x)) (poison_route p c m (route r x))) (path_alike o p R keeps n m h)
        (route_poison_tied c (route (o.path (state n)) x) n m h)

    module _ (one : LocalLaws o) (other : LocalLaws p) where
      route_act_tied : (q : Option (List ℕ)) (n : Node A) (m : Node B) → Tied o p R n m → BothOrNone (ActedTied R) (act_route o n q) (act_route p m q)
      route_act_tied None n m h = tt
      route_act_tied (Some q) n m h =
          applied_tied done_above done_above (BothOrNone (ActedTied R)) (BothOrNone (RestTied R)) done_tied (act_here o) (act_here p) (here_tied o p R one other keeps) q n m h

      pub path_act_tied : (x : Path) (n : Node A) (m : Node B) → Tied o p R n m
          → BothOrNone (ActedTied R) (act_route o n (route (o.path (state n)) x)) (act_route p m (route (p.path (state m)) x))
      path_act_tied x n m h =
          subst (λ r. BothOrNone (ActedTied R) (act_route o n (route (o.path (state n)) x)) (act_route p m (route r x))) (path_alike o p R keeps n m h)
          (route_act_tied (route (o.path (state n)) x) n m h)
