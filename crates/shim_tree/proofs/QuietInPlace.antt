-- Quiet steps of the live process to which branches lead, child by child.
use Rattle.std.proofs.Common.{◌≡◌, ℕ, ◌<◌, ◌≤◌, None, List, [], ◌∷◌, get_or, refl, sym, ap, ◌∙◌}
use Rattle.std.specs.Vec.{vec_len, with_item}
use Rattle.std.specs.declared.vec.Vec.{Vec}
use Rattle.std.specs.declared.alloc.Global.{Global}
use Rattle.shim_base.specs.Paths.{Path}
use Rattle.shim_local.specs.Process.{Ops}
use Rattle.shim_local.specs.declared.local.Quiet.{Quiet}
use Rattle.shim_semantics.specs.Nodes as model
use Rattle.shim_semantics.specs.Nodes.{Node, Live}
use Rattle.shim_semantics.specs.Places.{at, child_at, branches}
use Rattle.shim_tree.specs.NodeStatus.{node, nodes, together}
use Rattle.shim_tree.specs.Stepping.{QuietAt}
use Rattle.shim_tree.specs.declared.node_status.NodeStatus.{NodeStatus}
use Rattle.shim_tree.specs.declared.node_status.NodeStatus.TheVariants as code
use Rattle.shim_tree.proofs.Beside.{is_forked, place_in, place_past, inside, outside}
use Rattle.shim_tree.proofs.LiveNodes.{child_in_place, no_child}
use Rattle.shim_tree.proofs.Swaps.{swapped_child, swapped_live_child}
use Rattle.shim_base.proofs.Facts.{none_some}

-- a live process alone has nothing below it
pub alone_below : {S : Type 0} (l : S) (p : Path) → (p ≡ [] → ⊥) → at (branches p) (Live l) ≡ None
alone_below l [] n = absurd (n refl)
alone_below l (x ∷ p) n = refl

module _ {S : Type 0} (o : Ops S) (most : ℕ) (r : Quiet) where
  -- where the branches lead to no node, nothing is to be shown
  pub nowhere : (q : List ℕ) (before after : Node S) → at q before ≡ None → QuietAt o q most r before after
  nowhere q before after e = λ first h. none_some (Live first) (sym e ∙ h)

  -- at a child; the children as the code has them, ls and bs, are those that it takes apart, rs and cs
  module _ (l : S) (b : NodeStatus S) (ls rs : Vec S Global) (bs cs : Vec (NodeStatus S) Global) (is : b ≡ code.Forked ls bs) (same : rs ≡ ls) (alike : cs ≡ bs)
      (i : ℕ) (p q : List ℕ) (goes_on : i ∷ p ≡ q) (n : ℕ) (len : n ≡ vec_len rs) where
    below : at q (node l b) ≡ child_at i p (together rs.items (nodes cs.items))
    below = ap (at q) (is_forked l b ls bs is) ∙ λ t. at (sym goes_on t) (model.Forked l (together (sym same t).items (nodes (sym alike t).items)))

    pub past_children : n ≤ i → (after : Node S) → QuietAt o q most r (node l b) after
    past_children past after = nowhere q (node l b) after (below ∙ no_child i p rs.items cs.items (outside rs n i len past))

    pub quiet_child : i < n → (k : ℕ) → k ≡ vec_len cs → i < k → (x x' : S) (y y' : NodeStatus S) → x ≡ get_or rs.items i x → y ≡ get_or cs.items i y
        → QuietAt o p most r (node x y) (node x' y') → QuietAt o q most r (node l b) (node l (code.Forked (with_item rs i x') (with_item cs i y')))
    quiet_child there k is_k there_k x x' y y' e f quiet = λ first h.
        let found : at q (node l b) ≡ at p (node x y) = below ∙ (child_in_place i p rs.items cs.items x (inside rs n i len there) e ∙ ap (at p) (place_in x cs.items i y (inside cs k i is_k there_k) f)) in
        let w = quiet first (sym found ∙ h) in
        record {
          last = w.last;
          steps = w.steps;
          within = w.within;
          fewer = w.fewer;
          put = swapped_child w.last l b ls rs bs cs is same alike i p q goes_on n len there k is_k there_k x x' y y' e f w.put;
        }

    pub quiet_live_child : i < n → (k : ℕ) → k ≡ vec_len cs → k ≤ i → (x x' : S) → x ≡ get_or rs.items i x
        → QuietAt o p most r (Live x) (Live x') → QuietAt o q most r (node l b) (node l (code.Forked (with_item rs i x') cs))
    quiet_live_child there k is_k past x x' e quiet = λ first h.
        let found : at q (node l b) ≡ at p (Live x) = below ∙ (child_in_place i p rs.items cs.items x (inside rs n i len there) e ∙ ap (at p) (place_past x cs.items i (outside cs k i is_k past))) in
        let w = quiet first (sym found ∙ h) in
        record {
          last = w.last;
          steps = w.steps;
          within = w.within;
          fewer = w.fewer;
          put = swapped_live_child w.last l b ls rs bs cs is same alike i p q goes_on n len there k is_k past x x' e w.put;
        }
