-- Whether children are ready on a channel, one after the other.
use Rattle.std.proofs.Common.{◌≡◌, ℕ, ◌+◌, ◌<◌, ◌≤◌, Bool, true, false, not, ◌&&◌, ◌||◌, List, length, get_or, refl, sym, ap, ◌∙◌}
use Rattle.std.specs.declared.vec.Vec.{Vec}
use Rattle.std.specs.declared.alloc.Global.{Global}
use Rattle.shim_base.specs.Paths.{Channel}
use Rattle.shim_local.specs.Process.{Ops}
use Rattle.shim_semantics.specs.Nodes.{Node, Live, Forked, Ended, Dead, goes, is_dead, has_ended, ready, any_sharer, all_ready}
use Rattle.shim_tree.specs.NodeStatus.{node, nodes}
use Rattle.shim_tree.specs.Beside.{nth_child}
use Rattle.shim_tree.specs.declared.node_status.NodeStatus.{NodeStatus}
use Rattle.shim_tree.specs.declared.node_status.NodeStatus.TheVariants as code
use Rattle.shim_tree.proofs.Beside.{is_forked, state_place, from, from_next, from_end}

-- what is ready goes
ready_goes : {S : Type 0} (o : Ops S) (c : Channel) (k : Node S) → ready o c k ≡ true → goes k ≡ true
ready_goes o c (Live l) e = refl
ready_goes o c (Forked l ks) e = refl
ready_goes o c (Ended l) e = absurd cc
ready_goes o c (Dead l x) e = absurd cc

-- a child that doesn't share the channel, or has ended, changes nothing
passed : {S : Type 0} (k : Node S) (s r x y : Bool) → s && not (has_ended k) ≡ false → (((goes k && s) || x) ≡ x) × (((not (s && (goes k || is_dead k)) || r) && y) ≡ y)
passed (Live l) true r x y e = absurd cc
passed (Live l) false r x y e = (refl, refl)
passed (Forked l ks) true r x y e = absurd cc
passed (Forked l ks) false r x y e = (refl, refl)
passed (Ended l) true r x y e = (refl, refl)
passed (Ended l) false r x y e = (refl, refl)
passed (Dead l z) true r x y e = absurd cc
passed (Dead l z) false r x y e = (refl, refl)

-- one that shares it and is ready is one that goes
counted : {S : Type 0} (k : Node S) (s r x y : Bool) → s && not (has_ended k) ≡ true → r ≡ true → goes k ≡ true → (((goes k && s) || x) ≡ true) × (((not (s && (goes k || is_dead k)) || r) && y) ≡ y)
counted (Live l) true r x y e f g = (refl, ap (λ z. z && y) f)
counted (Live l) false r x y e f g = absurd cc
counted (Forked l ks) true r x y e f g = (refl, ap (λ z. z && y) f)
counted (Forked l ks) false r x y e f g = absurd cc
counted (Ended l) s r x y e f g = absurd cc
counted (Dead l z) s r x y e f g = absurd cc

-- and one that isn't holds the others up
held_up : {S : Type 0} (k : Node S) (s r y : Bool) → s && not (has_ended k) ≡ true → r ≡ false → ((not (s && (goes k || is_dead k)) || r) && y) ≡ false
held_up (Live l) true r y e f = ap (λ z. z && y) f
held_up (Live l) false r y e f = absurd cc
held_up (Forked l ks) true r y e f = ap (λ z. z && y) f
held_up (Forked l ks) false r y e f = absurd cc
held_up (Ended l) true r y e f = absurd cc
held_up (Ended l) false r y e f = absurd cc
held_up (Dead l z) true r y e f = ap (λ z. z && y) f
held_up (Dead l z) false r y e f = absurd cc

-- true on either side makes an "or" true
or_true : (b : Bool) → (b || true) ≡ true
or_true true = refl
or_true false = refl

module _ {S : Type 0} (o : Ops S) (c : Channel) (i : ℕ) (ls : List S) (bs : List (NodeStatus S)) (l : S) (h : i < length ls) (e : l ≡ get_or ls i l) where
  -- the two questions about the children from a place on, as one about the first and the rest
  any_here : any_sharer o c (from i ls bs) ≡ ((goes (nth_child l (nodes bs) i) && o.shares l c) || any_sharer o c (from (i + 1) ls bs))
  any_here =
      ap (any_sharer o c) (from_next i ls bs l h e)
      ∙ ap (λ z. (goes (nth_child l (nodes bs) i) && o.shares z c) || any_sharer o c (from (i + 1) ls bs)) (state_place l bs i)

  all_here : all_ready o c (from i ls bs) ≡ ((not (o.shares l c && (goes (nth_child l (nodes bs) i) || is_dead (nth_child l (nodes bs) i))) || ready o c (nth_child l (nodes bs) i)) && all_ready o c (from (i + 1) ls bs))
  all_here =
      ap (all_ready o c) (from_next i ls bs l h e)
      ∙ ap (λ z. (not (o.shares z c && (goes (nth_child l (nodes bs) i) || is_dead (nth_child l (nodes bs) i))) || ready o c (nth_child l (nodes bs) i)) && all_ready o c (from (i + 1) ls bs)) (state_place l bs i)

  module _ (any sharer all concerned : Bool) (f : concerned ≡ o.shares l c && not (has_ended (nth_child l (nodes bs) i))) (some : (any || any_sharer o c (from i ls bs)) ≡ sharer) (each : all_ready o c (from i ls bs) ≡ all) where
    -- what the loop has come to after a child of each kind
    pub unconcerned : concerned ≡ false → ((any || any_sharer o c (from (i + 1) ls bs)) ≡ sharer) × (all_ready o c (from (i + 1) ls bs) ≡ all)
    unconcerned n =
        let w = passed (nth_child l (nodes bs) i) (o.shares l c) (ready o c (nth_child l (nodes bs) i)) (any_sharer o c (from (i + 1) ls bs)) (all_ready o c (from (i + 1) ls bs)) (sym f ∙ n) in
        (ap (λ z. any || z) (sym w.0) ∙ (ap (λ z. any || z) (sym any_here) ∙ some), sym w.1 ∙ (sym all_here ∙ each))

    pub one_ready : concerned ≡ true → ready o c (nth_child l (nodes bs) i) ≡ true → (true ≡ sharer) × (all_ready o c (from (i + 1) ls bs) ≡ all)
    one_ready n r =
        let w = counted (nth_child l (nodes bs) i) (o.shares l c) (ready o c (nth_child l (nodes bs) i)) (any_sharer o c (from (i + 1) ls bs)) (all_ready o c (from (i + 1) ls bs)) (sym f ∙ n) r (ready_goes o c (nth_child l (nodes bs) i) r) in
        (sym (or_true any) ∙ (ap (λ z. any || z) (sym w.0) ∙ (ap (λ z. any || z) (sym any_here) ∙ some)), sym w.1 ∙ (sym all_here ∙ each))

    pub one_holds_up : concerned ≡ true → ready o c (nth_child l (nodes bs) i) ≡ false → false ≡ all
    one_holds_up n r =
        sym (held_up (nth_child l (nodes bs) i) (o.shares l c) (ready o c (nth_child l (nodes bs) i)) (all_ready o c (from (i + 1) ls bs)) (sym f ∙ n) r) ∙ (sym all_here ∙ each)

-- false on the right makes an "and" false
and_false : (x : Bool) → false ≡ (x && false)
and_false true = refl
and_false false = refl

module _ {S : Type 0} (o : Ops S) (c : Channel) (l : S) (b : NodeStatus S) (ls : Vec S Global) (bs : Vec (NodeStatus S) Global) (is : b ≡ code.Forked ls bs) where
  -- the answer for the fork, as soon as one holds the others up, and after all
  pub not_ready : false ≡ all_ready o c (from 0 ls.items bs.items) → false ≡ ready o c (node l b)
  not_ready h =
      let a = any_sharer o c (from 0 ls.items bs.items) in
      and_false a ∙ (ap (λ z. a && z) h ∙ sym (ap (ready o c) (is_forked l b ls bs is)))

  pub ready_end : (any : Bool) (i : ℕ) → length ls.items ≤ i
      → (any || any_sharer o c (from i ls.items bs.items)) ≡ any_sharer o c (from 0 ls.items bs.items)
      → all_ready o c (from i ls.items bs.items) ≡ all_ready o c (from 0 ls.items bs.items)
      → any ≡ ready o c (node l b)
  ready_end any i h e f =
      let p = from_end i ls.items bs.items h in
      both any _ _ (ap (λ z. any || any_sharer o c z) (sym p) ∙ e) (ap (all_ready o c) (sym p) ∙ f) ∙ sym (ap (ready o c) (is_forked l b ls bs is))
    where
      both : (a x y : Bool) → (a || false) ≡ x → true ≡ y → a ≡ (x && y)
      both true x y e f = λ t. e t && f t
      both false x y e f = λ t. e t && f t
