-- Where a path leads to a live process, child by child.
use Rattle.std.proofs.Common.{◌≡◌, ℕ, zero, suc, ◌<◌, ◌≤◌, Bool, true, false, Option, Some, None, List, [], ◌∷◌, length, vec_len, drop, get_or, refl, sym, ap, ◌∙◌, arith}
use Rattle.std.specs.Bool.{◌==◌}
use Rattle.std.proofs.lemmas.Bool.{eqb-true, eq-eqb, true≢false}
use Rattle.std.specs.declared.vec.Vec.{Vec}
use Rattle.std.specs.declared.alloc.Global.{Global}
use Rattle.shim_base.specs.Paths.{Path}
use Rattle.shim_local.specs.Process.{Ops}
use Rattle.shim_semantics.specs.Nodes.{Node, Live}
use Rattle.shim_semantics.specs.Places.{at, child_at, branches, route, at_route}
use Rattle.shim_semantics.specs.Trees.{act_route}
use Rattle.shim_tree.specs.NodeStatus.{node, nodes, together}
use Rattle.shim_tree.specs.Beside.{nth_child}
use Rattle.shim_tree.specs.ChildCounts.{live_in}
use Rattle.shim_tree.specs.declared.node_status.NodeStatus.{NodeStatus}
use Rattle.shim_tree.specs.declared.node_status.NodeStatus.TheVariants as code
use Rattle.shim_semantics.proofs.Leading.{route_rest}
use Rattle.shim_tree.proofs.Beside.{is_forked, place_in, place_past, inside, outside}
use Rattle.shim_base.proofs.Facts.{no_items}

-- the child in a place, by the branches that begin there
pub child_in_place : {S : Type 0} (i : ℕ) (q : List ℕ) (ls : List S) (bs : List (NodeStatus S)) (l : S) → i < length ls → l ≡ get_or ls i l → child_at i q (together ls (nodes bs)) ≡ at q (nth_child l (nodes bs) i)
child_in_place i q [] bs l h e = absurd (omega (arith, h))
child_in_place zero q (m ∷ ls) [] l h e = ap (λ z. at q (Live z)) (sym e)
child_in_place zero q (m ∷ ls) (b ∷ bs) l h e = ap (λ z. at q (node z b)) (sym e)
child_in_place (suc i) q (m ∷ ls) [] l h e = child_in_place i q ls [] l (omega (arith, h)) e
child_in_place (suc i) q (m ∷ ls) (b ∷ bs) l h e = child_in_place i q ls bs l (omega (arith, h)) e

-- after the last child there is none
pub no_child : {S : Type 0} (i : ℕ) (q : List ℕ) (ls : List S) (bs : List (NodeStatus S)) → length ls ≤ i → child_at i q (together ls (nodes bs)) ≡ None
no_child i q [] bs h = refl
no_child zero q (m ∷ ls) bs h = absurd (omega (arith, h))
no_child (suc i) q (m ∷ ls) [] h = no_child i q ls [] (omega (arith, h))
no_child (suc i) q (m ∷ ls) (b ∷ bs) h = no_child i q ls bs (omega (arith, h))

-- what the code asks of a list's length
pub is_empty_list : {A : Type 0} (xs : List A) (b : Bool) → b ≡ (length xs == 0) → b ≡ true → xs ≡ []
is_empty_list xs b e t = no_items xs (eqb-true (length xs) 0 (sym e ∙ t))

pub is_no_empty_list : {A : Type 0} (xs : List A) (b : Bool) → b ≡ (length xs == 0) → b ≡ false → xs ≡ [] → ⊥
is_no_empty_list xs b e f n = true≢false (sym (eq-eqb (length xs) 0 (ap length n)) ∙ (sym e ∙ f))

-- a live process alone has nothing below it
live_alone : {S : Type 0} (l : S) (q : List ℕ) → q ≡ [] → Some l ≡ live_in (at q (Live l))
live_alone l [] e = refl
live_alone l (i ∷ q) e = absurd cc

none_below_live : {S : Type 0} (l : S) (p : Path) → (p ≡ [] → ⊥) → None ≡ live_in (at (branches p) (Live l))
none_below_live l [] n = absurd (n refl)
none_below_live l (x ∷ p) n = refl

-- the search for a live process goes on at a child of a fork
module _ {S : Type 0} (l : S) (b : NodeStatus S) (ls : Vec S Global) (bs : Vec (NodeStatus S) Global) (is : b ≡ code.Forked ls bs) (pairs : Path) (x : ℕ × ℕ) (p : Path) (e : pairs ≡ x ∷ p) where
  goes_on : live_in (at (branches pairs) (node l b)) ≡ live_in (child_at x.1 (branches p) (together ls.items (nodes bs.items)))
  goes_on = λ t. live_in (at (branches (e t)) (is_forked l b ls bs is t))

  -- where there is no such child
  pub none_there : (n : ℕ) → n ≡ vec_len ls → n ≤ x.1 → None ≡ live_in (at (branches pairs) (node l b))
  none_there n k h = sym (goes_on ∙ ap live_in (no_child x.1 (branches p) ls.items bs.items (outside ls n x.1 k h)))

  module _ (n : ℕ) (k : n ≡ vec_len ls) (h : x.1 < n) (m : S) (there : m ≡ get_or ls.items x.1 m) where
    at_place : live_in (at (branches pairs) (node l b)) ≡ live_in (at (branches p) (nth_child m (nodes bs.items) x.1))
    at_place = goes_on ∙ ap live_in (child_in_place x.1 (branches p) ls.items bs.items m (inside ls n x.1 k h) there)

    -- where it is said what came of the child
    pub found_below : (j : ℕ) (c : NodeStatus S) (r : Option S) → j ≡ vec_len bs → x.1 < j → c ≡ get_or bs.items x.1 c → r ≡ live_in (at (branches p) (node m c)) → r ≡ live_in (at (branches pairs) (node l b))
    found_below j c r f g said found = found ∙ sym (at_place ∙ ap (λ z. live_in (at (branches p) z)) (place_in m bs.items x.1 c (inside bs j x.1 f g) said))

    module _ (j : ℕ) (f : j ≡ vec_len bs) (g : j ≤ x.1) where
      at_live : live_in (at (branches pairs) (node l b)) ≡ live_in (at (branches p) (Live m))
      at_live = at_place ∙ ap (λ z. live_in (at (branches p) z)) (place_past m bs.items x.1 (outside bs j x.1 f g))

      -- where nothing is said, so that it lives
      pub child_lives : p ≡ [] → Some m ≡ live_in (at (branches pairs) (node l b))
      child_lives z = live_alone m (branches p) (ap branches z) ∙ sym at_live

      pub none_below : (p ≡ [] → ⊥) → None ≡ live_in (at (branches pairs) (node l b))
      none_below z = none_below_live m p z ∙ sym at_live

-- where a path acts, it leads to the node that its pairs after the root's lead to
pub on_node : {S : Type 0} (o : Ops S) (n : Node S) (r p : Path) → (act_route o n (route r p) ≡ None → ⊥) → at_route n (route r p) ≡ at (branches (drop (length r) p)) n
on_node {S} o n r p h = at_branches (route r p) refl h
  where
    at_branches : (s : Option (List ℕ)) → route r p ≡ s → (act_route o n s ≡ None → ⊥) → at_route n s ≡ at (branches (drop (length r) p)) n
    at_branches None e h = absurd (h refl)
    at_branches (Some q) e h = ap (λ z. at z n) (route_rest r p q e).1
