-- The search for a process by its number, child by child.
use Rattle.std.proofs.Common.{◌≡◌, ℕ, zero, suc, ◌+◌, ◌<◌, ◌≤◌, Some, None, List, [], ◌∷◌, ◌++◌, ◌⊎◌, inl, inr, length, get_or, refl, sym, ap, ◌∙◌}
use Rattle.std.specs.Prelude.{slice_get}
use Rattle.std.specs.declared.vec.Vec.{Vec}
use Rattle.std.specs.declared.alloc.Global.{Global}
use Rattle.shim_local.specs.Process.{Ops}
use Rattle.shim_semantics.specs.Nodes.{Node}
use Rattle.shim_semantics.specs.Quiets.{quiets, all_quiets}
use Rattle.shim_tree.specs.NodeStatus.{node, nodes}
use Rattle.shim_tree.specs.Beside.{nth_child}
use Rattle.shim_tree.specs.Sought.{seek}
use Rattle.shim_tree.specs.declared.node_status.NodeStatus.{NodeStatus}
use Rattle.shim_tree.specs.declared.node_status.NodeStatus.TheVariants as code
use Rattle.shim_tree.proofs.Beside.{is_forked, from, from_next, from_end}

-- the search in the list of a node, as a function of the node
abbrev pub sought_from : {S : Type 0} → Ops S → ℕ → Node S → S ⊎ ℕ
sought_from o left n = seek (quiets o n) left

same_left : {A : Type 0} (n m : ℕ) → ◌≡◌ {A = A ⊎ ℕ} (inr n) (inr m) → n ≡ m
same_left n m e = cc

same_found : {A : Type 0} (x y : A) → ◌≡◌ {A = A ⊎ ℕ} (inl y) (inl x) → x ≡ y
same_found x y e = cc

not_both : {A : Type 0} {B : Type 0} (n : ℕ) (x : A) → ◌≡◌ {A = A ⊎ ℕ} (inr n) (inl x) → B
not_both n x e = absurd cc

-- in two lists one after the other, what is found in the first one is found, and else the search goes on in the second
seek_here : {A : Type 0} (xs ys : List A) (n : ℕ) (x : A) → seek xs n ≡ inl x → seek (xs ++ ys) n ≡ inl x
seek_here [] ys n x e = not_both n x e
seek_here (y ∷ xs) ys zero x e = e
seek_here (y ∷ xs) ys (suc n) x e = seek_here xs ys n x e

seek_behind : {A : Type 0} (xs ys : List A) (n m : ℕ) → seek xs n ≡ inr m → seek (xs ++ ys) n ≡ seek ys m
seek_behind [] ys n m e = ap (seek ys) (same_left n m e)
seek_behind (y ∷ xs) ys zero m e = not_both m y (sym e)
seek_behind (y ∷ xs) ys (suc n) m e = seek_behind xs ys n m e

-- the search finds what stands in the place, and nothing where the list ends before it
pub got_here : {A : Type 0} (xs : List A) (n : ℕ) (x : A) → inl x ≡ seek xs n → Some x ≡ slice_get xs n
got_here [] n x e = not_both n x (sym e)
got_here (y ∷ xs) zero x e = ap Some (same_found x y (sym e))
got_here (y ∷ xs) (suc n) x e = got_here xs n x e

pub got_none : {A : Type 0} (xs : List A) (n m : ℕ) → inr m ≡ seek xs n → None ≡ slice_get xs n
got_none [] n m e = refl
got_none (y ∷ xs) zero m e = not_both m y e
got_none (y ∷ xs) (suc n) m e = got_none xs n m e

module _ {S : Type 0} (o : Ops S) where
  module _ (i : ℕ) (ls : List S) (bs : List (NodeStatus S)) (l : S) (h : i < length ls) (e : l ≡ get_or ls i l) (left : ℕ) (s : S ⊎ ℕ) (is : s ≡ seek (quiets o (nth_child l (nodes bs) i)) left) where
    all_here : all_quiets o (from i ls bs) ≡ quiets o (nth_child l (nodes bs) i) ++ all_quiets o (from (i + 1) ls bs)
    all_here = ap (all_quiets o) (from_next i ls bs l h e)

    pub found_there : (x : S) (w : S ⊎ ℕ) → s ≡ inl x → seek (all_quiets o (from i ls bs)) left ≡ w → inl x ≡ w
    found_there x w f so_far =
        sym (seek_here (quiets o (nth_child l (nodes bs) i)) (all_quiets o (from (i + 1) ls bs)) left x (sym is ∙ f))
        ∙ (ap (λ z. seek z left) (sym all_here) ∙ so_far)

    pub found_later : (m : ℕ) (w : S ⊎ ℕ) → s ≡ inr m → seek (all_quiets o (from i ls bs)) left ≡ w → seek (all_quiets o (from (i + 1) ls bs)) m ≡ w
    found_later m w f so_far =
        sym (seek_behind (quiets o (nth_child l (nodes bs) i)) (all_quiets o (from (i + 1) ls bs)) left m (sym is ∙ f))
        ∙ (ap (λ z. seek z left) (sym all_here) ∙ so_far)

  module _ (l : S) (b : NodeStatus S) (ls : Vec S Global) (bs : Vec (NodeStatus S) Global) (is : b ≡ code.Forked ls bs) where
    pub from_first : (left : ℕ) → seek (all_quiets o (from 0 ls.items bs.items)) left ≡ seek (quiets o (node l b)) left
    from_first left = sym (ap (λ z. seek (quiets o z) left) (is_forked l b ls bs is))

    pub past_last : (i left more : ℕ) → length ls.items ≤ i → seek (all_quiets o (from i ls.items bs.items)) more ≡ seek (all_quiets o (from 0 ls.items bs.items)) left → inr more ≡ seek (quiets o (node l b)) left
    past_last i left more h so_far = ap (λ z. seek (all_quiets o z) more) (sym (from_end i ls.items bs.items h)) ∙ (so_far ∙ from_first left)
