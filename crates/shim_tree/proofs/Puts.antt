-- A channel put into its place among others, and those of all processes.
use Rattle.std.proofs.Common.{◌≡◌, ℕ, zero, suc, ◌+◌, ◌<◌, ◌≤◌, Bool, true, false, List, [], ◌∷◌, ◌++◌, filter, length, take, drop, get_or, cond, refl, sym, ap, ◌∙◌, arith, Bor}
use Rattle.std.specs.declared.cmp.Ordering.TheVariants.{Equal}
use Rattle.std.specs.declared.vec.Vec.{Vec}
use Rattle.std.specs.declared.alloc.Global.{Global}
use Rattle.shim_base.specs.Paths.{Channel, NamedChannel, channel_order}
use Rattle.shim_local.specs.Process.{Ops}
use Rattle.shim_tree.specs.NodeStatus.{node, nodes}
use Rattle.shim_tree.specs.Beside.{nth_child}
use Rattle.shim_semantics.specs.Walks.{waited, all_waited}
use Rattle.shim_tree.specs.Inserted.{put_before, inserted, all_inserted}
use Rattle.shim_tree.specs.Searching.{channels}
use Rattle.shim_tree.specs.declared.node_status.NodeStatus.{NodeStatus}
use Rattle.shim_tree.specs.declared.node_status.NodeStatus.TheVariants as code
use Rattle.shim_tree.proofs.Beside.{is_forked, from, from_next, from_end}

-- where the channel stands in a place already, putting it in before what is from there on changes nothing
place_same : (c : Channel) (p : ℕ) (xs : List (Bor NamedChannel)) (d : Bor NamedChannel) → p < length xs → d ≡ get_or xs p d → channel_order c d.now.channel ≡ Equal
    → channels xs ≡ channels (take p xs) ++ inserted c (channels (drop p xs))
place_same c p [] d h e g = absurd (omega (arith, h))
place_same c zero (x ∷ xs) d h e g = sym (ap (λ z. put_before z c x.now.channel (channels xs) (inserted c (channels xs))) (ap (λ z. channel_order c z.now.channel) (sym e) ∙ g))
place_same c (suc p) (x ∷ xs) d h e g = ap (λ z. x.now.channel ∷ z) (place_same c p xs d (omega (arith, h)) e g)

-- the same at the end of the search for its place, which keeps what the whole comes to
pub place_there : (c : Channel) (p : ℕ) (xs : List (Bor NamedChannel)) (d : Bor NamedChannel) (ys : List Channel) → p < length xs → d ≡ get_or xs p d → channel_order c d.now.channel ≡ Equal
    → ys ≡ channels (take p xs) ++ inserted c (channels (drop p xs)) → channels xs ≡ ys
place_there c p xs d ys h e g i = place_same c p xs d h e g ∙ sym i

-- of two lists one after the other those pass that pass of each
filter_append : {A : Type 0} (f : A → Bool) (xs ys : List A) → filter f (xs ++ ys) ≡ filter f xs ++ filter f ys
filter_append f [] ys = refl
filter_append f (x ∷ xs) ys = go (filter_append f xs ys) (f x)
  where
    go : filter f (xs ++ ys) ≡ filter f xs ++ filter f ys → (b : Bool) → cond b (x ∷ filter f (xs ++ ys)) (filter f (xs ++ ys)) ≡ cond b (x ∷ filter f xs) (filter f xs) ++ filter f ys
    go h true = ap (λ z. x ∷ z) h
    go h false = h

-- those of two lists are put in one list after the other
all_more : (done xs ys : List Channel) → all_inserted done (xs ++ ys) ≡ all_inserted (all_inserted done xs) ys
all_more done [] ys = refl
all_more done (x ∷ xs) ys = all_more (inserted x done) xs ys

-- and so are those that pass
passing_more : (f : Channel → Bool) (done xs ys : List Channel) → all_inserted done (filter f (xs ++ ys)) ≡ all_inserted (all_inserted done (filter f xs)) (filter f ys)
passing_more f done xs ys = ap (all_inserted done) (filter_append f xs ys) ∙ all_more done (filter f xs) (filter f ys)

module _ {S : Type 0} (o : Ops S) (f : Channel → Bool) where
  -- those of one child more
  pub put_more : (i : ℕ) (ls : List S) (bs : List (NodeStatus S)) (l : S) (was now all : List Channel) → i < length ls → l ≡ get_or ls i l
      → now ≡ all_inserted was (filter f (waited o (nth_child l (nodes bs) i))) → all_inserted was (filter f (all_waited o (from i ls bs))) ≡ all → all_inserted now (filter f (all_waited o (from (i + 1) ls bs))) ≡ all
  put_more i ls bs l was now all h e g inv =
      let k = nth_child l (nodes bs) i in
      ap (λ z. all_inserted z (filter f (all_waited o (from (i + 1) ls bs)))) g
      ∙ (sym (passing_more f was (waited o k) (all_waited o (from (i + 1) ls bs)))
      ∙ (ap (λ z. all_inserted was (filter f (all_waited o z))) (sym (from_next i ls bs l h e)) ∙ inv))

  -- all children, and so the fork
  pub put_all : (l : S) (b : NodeStatus S) (ls : Vec S Global) (bs : Vec (NodeStatus S) Global) (i : ℕ) (was start : List Channel) → b ≡ code.Forked ls bs → length ls.items ≤ i
      → all_inserted was (filter f (all_waited o (from i ls.items bs.items))) ≡ all_inserted start (filter f (all_waited o (from 0 ls.items bs.items))) → was ≡ all_inserted start (filter f (waited o (node l b)))
  put_all l b ls bs i was start is h inv =
      ap (λ z. all_inserted was (filter f (all_waited o z))) (sym (from_end i ls.items bs.items h))
      ∙ (inv ∙ ap (λ z. all_inserted start (filter f (waited o z))) (sym (is_forked l b ls bs is)))
