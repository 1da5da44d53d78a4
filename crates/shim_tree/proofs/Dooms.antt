-- Whether another child dooms one, one child after the other.
use Rattle.std.proofs.Common.{◌≡◌, ℕ, zero, suc, ◌+◌, ◌<◌, ◌≤◌, Bool, true, false, not, ◌&&◌, ◌||◌, List, length, get_or, refl, sym, ap, ◌∙◌, arith, eqb, eqb-true, eq-eqb}
use Rattle.std.specs.declared.vec.Vec.{Vec}
use Rattle.std.specs.declared.alloc.Global.{Global}
use Rattle.shim_base.specs.Paths.{Channel}
use Rattle.shim_local.specs.Process.{Ops}
use Rattle.shim_semantics.specs.Nodes.{Nodes, no_node, node_and}
use Rattle.shim_semantics.specs.Poison.{dooms, any_dooms, is_doomed}
use Rattle.shim_tree.specs.NodeStatus.{node, nodes}
use Rattle.shim_tree.specs.Beside.{nth_child}
use Rattle.shim_tree.specs.declared.node_status.NodeStatus.{NodeStatus}
use Rattle.shim_tree.specs.declared.node_status.NodeStatus.TheVariants as code
use Rattle.shim_tree.proofs.Beside.{is_forked, from, from_next, from_end}

-- of two tests joined by "or", the first one decides where it holds, and else the second
any_more : (d r x : Bool) → (d || r) ≡ x → d ≡ false → r ≡ x
any_more true r x e h = absurd cc
any_more false r x e h = e

any_there : (d r x : Bool) → (d || r) ≡ x → d ≡ true → true ≡ x
any_there true r x e h = e
any_there false r x e h = absurd cc

-- ---- whether one of them dooms

module _ {S : Type 0} (o : Ops S) (h : ℕ) (c : Channel) where
  module _ (i : ℕ) (ls : List S) (bs : List (NodeStatus S)) (l : S) (in_list : i < length ls) (there : l ≡ get_or ls i l) (x : Bool) (inv : any_dooms o h c (from i ls bs) ≡ x) where
    dooms_from : (dooms o h c (nth_child l (nodes bs) i) || any_dooms o h c (from (i + 1) ls bs)) ≡ x
    dooms_from = sym (ap (any_dooms o h c) (from_next i ls bs l in_list there)) ∙ inv

    -- a child that dooms decides, and one that doesn't leaves it to the others
    pub dooms_there : dooms o h c (nth_child l (nodes bs) i) ≡ true → true ≡ x
    dooms_there d = any_there (dooms o h c (nth_child l (nodes bs) i)) (any_dooms o h c (from (i + 1) ls bs)) x dooms_from d

    pub dooms_later : dooms o h c (nth_child l (nodes bs) i) ≡ false → any_dooms o h c (from (i + 1) ls bs) ≡ x
    dooms_later d = any_more (dooms o h c (nth_child l (nodes bs) i)) (any_dooms o h c (from (i + 1) ls bs)) x dooms_from d

  -- all children, and so the fork
  pub any_is : (l : S) (b : NodeStatus S) (ls : Vec S Global) (bs : Vec (NodeStatus S) Global) → b ≡ code.Forked ls bs → any_dooms o h c (from 0 ls.items bs.items) ≡ dooms o h c (node l b)
  any_is l b ls bs is = sym (ap (dooms o h c) (is_forked l b ls bs is))

  pub none_dooms : (l : S) (b : NodeStatus S) (ls : Vec S Global) (bs : Vec (NodeStatus S) Global) (i : ℕ) → b ≡ code.Forked ls bs → length ls.items ≤ i → any_dooms o h c (from i ls.items bs.items) ≡ any_dooms o h c (from 0 ls.items bs.items) → false ≡ dooms o h c (node l b)
  none_dooms l b ls bs i is past inv = sym (ap (any_dooms o h c) (from_end i ls.items bs.items past)) ∙ (inv ∙ any_is l b ls bs is)

-- whether one of them but that in place a dooms, the first of them being in place j
abbrev pub doomed_from : {S : Type 0} → Ops S → ℕ → Channel → ℕ → ℕ → Nodes S → Bool
doomed_from o h c j a no_node = false
doomed_from o h c j a (node_and k ks) = (not (eqb j a) && dooms o h c k) || doomed_from o h c (j + 1) a ks

-- numbers that differ do so as a test, too
not_eqb : (j i : ℕ) → (j ≡ i → ⊥) → eqb j i ≡ false
not_eqb j i n = go (eqb j i) refl
  where
    go : (b : Bool) → eqb j i ≡ b → b ≡ false
    go true e = absurd (n (eqb-true j i e))
    go false e = refl

-- past the child's own place each that dooms counts
doomed_past : {S : Type 0} (o : Ops S) (h : ℕ) (c : Channel) (j a : ℕ) (ks : Nodes S) → a < j → doomed_from o h c j a ks ≡ any_dooms o h c ks
doomed_past o h c j a no_node e = refl
doomed_past o h c j a (node_and k ks) e =
    ap (λ b. (not b && dooms o h c k) || doomed_from o h c (j + 1) a ks) (not_eqb j a (λ z. omega (arith, z, e)))
    ∙ ap (λ b. dooms o h c k || b) (doomed_past o h c (j + 1) a ks (omega (arith, e)))

-- so the count of places agrees with the definition's descent
doomed_all : {S : Type 0} (o : Ops S) (h : ℕ) (c : Channel) (j a : ℕ) (ks : Nodes S) → doomed_from o h c j (j + a) ks ≡ is_doomed o h c a ks
doomed_all o h c j a no_node = refl
doomed_all o h c j zero (node_and k ks) =
    ap (λ b. (not b && dooms o h c k) || doomed_from o h c (j + 1) (j + zero) ks) (eq-eqb j (j + zero) (omega arith))
    ∙ doomed_past o h c (j + 1) (j + zero) ks (omega arith)
doomed_all o h c j (suc a) (node_and k ks) =
    let w : j + suc a ≡ j + 1 + a = omega arith in
    ap (λ b. (not b && dooms o h c k) || doomed_from o h c (j + 1) (j + suc a) ks) (not_eqb j (j + suc a) (λ z. omega (arith, z)))
    ∙ (ap (λ z. dooms o h c k || doomed_from o h c (j + 1) z ks) w ∙ ap (λ b. dooms o h c k || b) (doomed_all o h c (j + 1) a ks))

doomed_is : {S : Type 0} (o : Ops S) (h : ℕ) (c : Channel) (a : ℕ) (ks : Nodes S) → doomed_from o h c 0 a ks ≡ is_doomed o h c a ks
doomed_is o h c a ks =
    let w : a ≡ 0 + a = omega arith in
    ap (λ z. doomed_from o h c 0 z ks) w ∙ doomed_all o h c 0 a ks

-- another child, and the child itself
pub other_dooms : (i a : ℕ) (r d : Bool) → (i ≡ a → ⊥) → r ≡ d → r ≡ (not (eqb i a) && d)
other_dooms i a r d n e = e ∙ sym (ap (λ b. not b && d) (not_eqb i a n))

pub same_dooms : (i a : ℕ) (d : Bool) → i ≡ a → not (eqb i a) ≡ (not (eqb i a) && d)
same_dooms i a d e = ap not (eq-eqb i a e) ∙ sym (ap (λ b. not b && d) (eq-eqb i a e))

module _ {S : Type 0} (o : Ops S) (h : ℕ) (c : Channel) (i a : ℕ) (ls : List S) (bs : List (NodeStatus S)) (inv : doomed_from o h c i a (from i ls bs) ≡ doomed_from o h c 0 a (from 0 ls bs)) where
  module _ (l : S) (in_list : i < length ls) (there : l ≡ get_or ls i l) (r : Bool) (is : r ≡ (not (eqb i a) && dooms o h c (nth_child l (nodes bs) i))) where
    spoils_from : (r || doomed_from o h c (i + 1) a (from (i + 1) ls bs)) ≡ doomed_from o h c 0 a (from 0 ls bs)
    spoils_from = ap (λ z. z || doomed_from o h c (i + 1) a (from (i + 1) ls bs)) is ∙ (sym (ap (doomed_from o h c i a) (from_next i ls bs l in_list there)) ∙ inv)

    -- another that dooms decides, and one that doesn't leaves it to those after it
    pub doomed_there : r ≡ true → true ≡ is_doomed o h c a (from 0 ls bs)
    doomed_there d = any_there r (doomed_from o h c (i + 1) a (from (i + 1) ls bs)) (doomed_from o h c 0 a (from 0 ls bs)) spoils_from d ∙ doomed_is o h c a (from 0 ls bs)

    pub doomed_later : r ≡ false → doomed_from o h c (i + 1) a (from (i + 1) ls bs) ≡ doomed_from o h c 0 a (from 0 ls bs)
    doomed_later d = any_more r (doomed_from o h c (i + 1) a (from (i + 1) ls bs)) (doomed_from o h c 0 a (from 0 ls bs)) spoils_from d

  -- where none is left, none doomed it
  pub not_doomed : length ls ≤ i → false ≡ is_doomed o h c a (from 0 ls bs)
  not_doomed past = sym (ap (doomed_from o h c i a) (from_end i ls bs past)) ∙ (inv ∙ doomed_is o h c a (from 0 ls bs))
