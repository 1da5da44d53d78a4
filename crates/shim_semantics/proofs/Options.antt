-- Facts of options and of what an event gives, taken apart.
use Rattle.std.proofs.Common.{◌≡◌, Option, Some, None, refl}
use Rattle.shim_semantics.specs.Nodes.{Node, Nodes, Forked, node_and}
use Rattle.shim_semantics.specs.Acts.{Effects, Acted, within, in_front, in_later}
use Rattle.shim_base.proofs.Facts.{some_same, none_some}

pub within_some : {S : Type 0} (l : S) (x : Option (Nodes S × Effects)) (a : Acted S) → within l x ≡ Some a
    → (r : Nodes S × Effects) × (x ≡ Some r) × (record { node = Forked l r.0; effects = r.1 } ≡ a)
within_some l None a e = none_some a e
within_some l (Some r) a e = (r, refl, some_same _ a e)

pub in_front_some : {S : Type 0} (ks : Nodes S) (x : Option (Acted S)) (r : Nodes S × Effects) → in_front ks x ≡ Some r
    → (a : Acted S) × (x ≡ Some a) × ((node_and a.node ks, a.effects) ≡ r)
in_front_some ks None r e = none_some r e
in_front_some ks (Some a) r e = (a, refl, some_same _ r e)

pub behind_some : {S : Type 0} (k : Node S) (x : Option (Nodes S × Effects)) (r : Nodes S × Effects) → in_later k x ≡ Some r
    → (s : Nodes S × Effects) × (x ≡ Some s) × ((node_and k s.0, s.1) ≡ r)
behind_some k None r e = none_some r e
behind_some k (Some s) r e = (s, refl, some_same _ r e)
