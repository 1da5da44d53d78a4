-- What a search has come to at each of the children.
use Rattle.std.proofs.Common.{◌≡◌, ℕ, zero, suc, ◌+◌, ◌<◌, ◌≤◌, Bool, true, false, not, ◌&&◌, Option, Some, None, is_some, List, [], ◌∷◌, length, get_or, refl, sym, ap, ◌∙◌, arith}
use Rattle.std.specs.Option.{option_map}
use Rattle.std.specs.declared.vec.Vec.{Vec}
use Rattle.std.specs.declared.alloc.Global.{Global}
use Rattle.shim_base.specs.Paths.{Channel}
use Rattle.shim_local.specs.Process.{Ops}
use Rattle.shim_semantics.specs.Nodes.{goes, all_done}
use Rattle.shim_tree.specs.NodeStatus.{node, nodes}
use Rattle.shim_tree.specs.Beside.{nth_child}
use Rattle.shim_semantics.specs.Trees.{Event}
use Rattle.shim_semantics.specs.Walks.{waited, all_waited, poisons_of, here, walk, walk_all, head}
use Rattle.shim_tree.specs.Finding.{least}
use Rattle.shim_tree.specs.declared.node_status.NodeStatus.{NodeStatus}
use Rattle.shim_tree.specs.declared.node_status.NodeStatus.TheVariants as code
use Rattle.shim_tree.proofs.Beside.{is_forked, from, from_next, from_end}
use Rattle.shim_tree.proofs.Firsts.{least_append, here_first, here_next, poison_first, child_first, child_next}

-- in a place of the list stands something
pub item_there : {A : Type 0} (i : ℕ) (xs : List A) → i < length xs → (x : A) × (x ≡ get_or xs i x)
item_there i [] h = absurd (omega (arith, h))
item_there zero (x ∷ xs) h = (x, refl)
item_there (suc i) (x ∷ xs) h = item_there i xs (omega (arith, h))

-- ---- whether all are done

-- a child that is done leaves it to the others, and one that goes decides
done_from : {S : Type 0} (i : ℕ) (ls : List S) (bs : List (NodeStatus S)) (r : Bool) → i < length ls → ((l : S) → r ≡ goes (nth_child l (nodes bs) i)) → all_done (from i ls bs) ≡ (not r && all_done (from (i + 1) ls bs))
done_from i ls bs r h f =
    let x = item_there i ls h in
    ap all_done (from_next i ls bs x.0 h x.1) ∙ ap (λ z. not z && all_done (from (i + 1) ls bs)) (sym (f x.0))

pub one_done : {S : Type 0} (i : ℕ) (ls : List S) (bs : List (NodeStatus S)) (r all : Bool) → i < length ls → ((l : S) → r ≡ goes (nth_child l (nodes bs) i)) → all_done (from i ls bs) ≡ all → r ≡ false → all_done (from (i + 1) ls bs) ≡ all
one_done i ls bs r all h f each e = ap (λ z. not z && all_done (from (i + 1) ls bs)) (sym e) ∙ (sym (done_from i ls bs r h f) ∙ each)

pub one_goes : {S : Type 0} (i : ℕ) (ls : List S) (bs : List (NodeStatus S)) (r all : Bool) → i < length ls → ((l : S) → r ≡ goes (nth_child l (nodes bs) i)) → all_done (from i ls bs) ≡ all → r ≡ true → false ≡ all
one_goes i ls bs r all h f each e = ap (λ z. not z && all_done (from (i + 1) ls bs)) (sym e) ∙ (sym (done_from i ls bs r h f) ∙ each)

-- ---- the least channel

module _ {S : Type 0} (o : Ops S) (passes : Channel → Bool) where
  -- of one child more, and of all
  pub least_more : (i : ℕ) (ls : List S) (bs : List (NodeStatus S)) (l : S) (was now best : Option Channel) → i < length ls → l ≡ get_or ls i l
      → now ≡ least passes was (waited o (nth_child l (nodes bs) i)) → least passes was (all_waited o (from i ls bs)) ≡ best → least passes now (all_waited o (from (i + 1) ls bs)) ≡ best
  least_more i ls bs l was now best h e f inv =
      let k = nth_child l (nodes bs) i in
      ap (λ z. least passes z (all_waited o (from (i + 1) ls bs))) f
      ∙ (sym (least_append passes was (waited o k) (all_waited o (from (i + 1) ls bs)))
      ∙ (ap (λ z. least passes was (all_waited o z)) (sym (from_next i ls bs l h e)) ∙ inv))

  pub least_all : (l : S) (b : NodeStatus S) (ls : Vec S Global) (bs : Vec (NodeStatus S) Global) (i : ℕ) (was best : Option Channel) → b ≡ code.Forked ls bs → length ls.items ≤ i
      → least passes was (all_waited o (from i ls.items bs.items)) ≡ least passes best (all_waited o (from 0 ls.items bs.items)) → was ≡ least passes best (waited o (node l b))
  least_all l b ls bs i was best is h inv =
      ap (λ z. least passes was (all_waited o z)) (sym (from_end i ls.items bs.items h))
      ∙ (inv ∙ ap (λ z. least passes best (waited o z)) (sym (is_forked l b ls bs is)))

-- ---- the first event

-- mapping says nothing of whether there is one
some_map : {A B : Type 0} (f : A → B) (x : Option A) → is_some (option_map f x) ≡ is_some x
some_map f (Some x) = refl
some_map f None = refl

-- what a search for the first event found: what the fork itself can do, or nothing
module _ {S A : Type 0} (o : Ops S) (f : A → Event) (l : S) (b : NodeStatus S) (ls : Vec S Global) (bs : Vec (NodeStatus S) Global) (is : b ≡ code.Forked ls bs)
    (own : Option A) (of_fork : option_map f own ≡ head (here o (node l b))) where
  pub found_here : is_some own ≡ true → option_map f own ≡ head (walk o (node l b))
  found_here s = here_first o (node l b) l (from 0 ls.items bs.items) (option_map f own) (is_forked l b ls bs is) of_fork (some_map f own ∙ s)

  below_fork : is_some own ≡ false → head (walk_all o l (from 0 ls.items bs.items) 0 (from 0 ls.items bs.items)) ≡ head (walk o (node l b))
  below_fork s = here_next o (node l b) l (from 0 ls.items bs.items) (option_map f own) (is_forked l b ls bs is) of_fork (some_map f own ∙ s)

  pub found_none : (i : ℕ) → length ls.items ≤ i → is_some own ≡ false
      → head (walk_all o l (from 0 ls.items bs.items) i (from i ls.items bs.items)) ≡ head (walk_all o l (from 0 ls.items bs.items) 0 (from 0 ls.items bs.items)) → None ≡ head (walk o (node l b))
  found_none i h s inv = ap (λ z. head (walk_all o l (from 0 ls.items bs.items) i z)) (sym (from_end i ls.items bs.items h)) ∙ (inv ∙ below_fork s)

  -- and at the child in place i its poison, or the first event of the walk from it, or nothing
  module _ (none : is_some own ≡ false) (i : ℕ) (m : S) (h : i < length ls.items) (there : m ≡ get_or ls.items i m)
      (inv : head (walk_all o l (from 0 ls.items bs.items) i (from i ls.items bs.items)) ≡ head (walk_all o l (from 0 ls.items bs.items) 0 (from 0 ls.items bs.items)))
      (x y : Option A) (of_poison : option_map f x ≡ head (poisons_of o l (from 0 ls.items bs.items) i (nth_child m (nodes bs.items) i))) where
    at_place : head (walk_all o l (from 0 ls.items bs.items) i (from i ls.items bs.items)) ≡ head (walk o (node l b))
    at_place = inv ∙ below_fork none

    pub found_poison : is_some x ≡ true → option_map f x ≡ head (walk o (node l b))
    found_poison s =
        poison_first o l (from 0 ls.items bs.items) i (nth_child m (nodes bs.items) i) (from (i + 1) ls.items bs.items) (option_map f x) (option_map f y) of_poison (some_map f x ∙ s)
        ∙ (ap (λ z. head (walk_all o l (from 0 ls.items bs.items) i z)) (sym (from_next i ls.items bs.items m h there)) ∙ at_place)

    pub found_there : is_some x ≡ false → option_map f y ≡ head (walk o (nth_child m (nodes bs.items) i)) → is_some y ≡ true → option_map f y ≡ head (walk o (node l b))
    found_there s e t =
        child_first o l (from 0 ls.items bs.items) i (nth_child m (nodes bs.items) i) (from (i + 1) ls.items bs.items) (option_map f x) (option_map f y) of_poison (some_map f x ∙ s) e (some_map f y ∙ t)
        ∙ (ap (λ z. head (walk_all o l (from 0 ls.items bs.items) i z)) (sym (from_next i ls.items bs.items m h there)) ∙ at_place)

    pub found_later : is_some x ≡ false → option_map f y ≡ head (walk o (nth_child m (nodes bs.items) i)) → is_some y ≡ false
        → head (walk_all o l (from 0 ls.items bs.items) (i + 1) (from (i + 1) ls.items bs.items)) ≡ head (walk_all o l (from 0 ls.items bs.items) 0 (from 0 ls.items bs.items))
    found_later s e t =
        child_next o l (from 0 ls.items bs.items) i (nth_child m (nodes bs.items) i) (from (i + 1) ls.items bs.items) (option_map f x) (option_map f y) of_poison (some_map f x ∙ s) e (some_map f y ∙ t)
        ∙ (ap (λ z. head (walk_all o l (from 0 ls.items bs.items) i z)) (sym (from_next i ls.items bs.items m h there)) ∙ inv)
