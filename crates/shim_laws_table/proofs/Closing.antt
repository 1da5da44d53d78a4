-- What is seen where a fork has closed.
use Rattle.std.proofs.Common.{◌≡◌, ◌≢◌, inl, inr, ℕ, zero, suc, ◌+◌, ◌<◌, true, Option, Some, None, List, [], ◌∷◌, ◌++◌, refl, sym, ap, subst, ◌∙◌}
use Rattle.std.specs.Prelude.{slice_get}
use Rattle.shim_base.specs.Paths.{Path}
use Rattle.shim_local.specs.Process.{Ops}
use Rattle.shim_semantics.specs.Nodes.{Node, Nodes, Live, Forked, Ended, Dead, no_node, node_and, state, all_done}
use Rattle.shim_semantics.specs.Places.{at, child_at}
use Rattle.shim_semantics.proofs.ReplacedNodes.{put}
use Rattle.shim_base.proofs.Facts.{some_same, none_some}
use Rattle.shim_laws_table.specs.NodeStatus.{ProcessStatus, forks, seen, process_status, is_leaf, place, how_many_nodes, IsAside}
use Rattle.shim_laws_table.specs.Agrees.{RecordView, Has, Agrees}
use Rattle.shim_laws_table.specs.Changes.{HasClosed}
use Rattle.shim_laws_table.proofs.Aside.{there, outside, at_split}
use Rattle.shim_laws_table.proofs.SameTrees.{same_or_not, no_fork, child_counted}

-- nothing is below a child that is done
done_leaf : {S : Type 0} (b : ℕ) (c : ℕ) (s : List ℕ) (ks : Nodes S) → all_done ks ≡ true → child_at b (c ∷ s) ks ≡ None
done_leaf b c s no_node e = refl
done_leaf zero c s (node_and (Live l) ks) e = refl
done_leaf zero c s (node_and (Forked l js) ks) e = absurd cc
done_leaf zero c s (node_and (Ended l) ks) e = refl
done_leaf zero c s (node_and (Dead l x) ks) e = refl
done_leaf (suc b) c s (node_and (Live l) ks) e = absurd cc
done_leaf (suc b) c s (node_and (Forked l js) ks) e = absurd cc
done_leaf (suc b) c s (node_and (Ended l) ks) e = done_leaf b c s ks e
done_leaf (suc b) c s (node_and (Dead l x) ks) e = done_leaf b c s ks e

-- without the last branch
pub one_less : (q p : List ℕ) (b c : ℕ) → q ++ b ∷ [] ≡ p ++ c ∷ [] → q ≡ p
one_less [] [] b c e = refl
one_less [] (x ∷ []) b c e = absurd cc
one_less [] (x ∷ y ∷ p) b c e = absurd cc
one_less (x ∷ []) [] b c e = absurd cc
one_less (x ∷ y ∷ q) [] b c e = absurd cc
one_less (x ∷ q) (y ∷ p) b c e = (λ i. heads i ∷ one_less q p b c tails i)
  where
    heads : x ≡ y
    heads = cc

    tails : q ++ b ∷ [] ≡ p ++ c ∷ []
    tails = cc

module _ {S : Type 0} (o : Ops S) (rp : Path) (before after : List S) (old_views views : List RecordView) (root : Node S) (i g : ℕ) (l : S) (ks : Nodes S) (new : Node S)
    (ok : Agrees o rp before old_views root) (has : Has before old_views i g l (forks (how_many_nodes ks))) (is : at (place o rp l) root ≡ Some (Forked l ks)) (done : all_done ks ≡ true)
    (closed : HasClosed before after old_views views i g (how_many_nodes ks) (state new) (process_status new)) (leaf : is_leaf new ≡ true) (stays : place o rp (state new) ≡ place o rp l) where
  abbrev pub q : List ℕ
  q = place o rp l

  abbrev pub root' : Node S
  root' = put q new root

  nil : (r : List ℕ) → r ++ [] ≡ r
  nil [] = refl
  nil (y ∷ r) = ap (λ z. y ∷ z) (nil r)

  abbrev NotBelow : ℕ → Type 0
  NotBelow j = (b : ℕ) → b < how_many_nodes ks → j ≢ g + b

  -- no other record that stays is there or below
  aside : (j d : ℕ) (t : S) (x : ProcessStatus) → j ≢ i → NotBelow j → Has before old_views j d t x → IsAside (place o rp t) q
  aside j d t x n far h [] e = n (ok.apart j i d g t l x (forks (how_many_nodes ks)) h has (e ∙ nil q))
  aside j d t x n far h (b ∷ c ∷ s) e =
      none_some (t, x) (sym (ap (λ z. seen (at z root)) e ∙ ap seen (at_split q (b ∷ c ∷ s) root (Forked l ks) is ∙ done_leaf b c s ks done)) ∙ ok.shown j d t x h)
  aside j d t x n far h (b ∷ []) e = on (child_at b [] ks) refl
    where
      represents : seen (child_at b [] ks) ≡ Some (t, x)
      represents = sym (ap (λ z. seen (at z root)) e ∙ ap seen (at_split q (b ∷ []) root (Forked l ks) is)) ∙ ok.shown j d t x h

      on : (k : Option (Node S)) → child_at b [] ks ≡ k → ⊥
      on None w = none_some (t, x) (sym (ap seen w) ∙ represents)
      on (Some k) w =
          let less = child_counted b [] ks k w in
          let z = ok.below i g (how_many_nodes ks) l has b less in
          far b less (ok.apart j (g + b) d z.0 t z.1 x z.2 h z.3 (e ∙ sym z.4))

  shown_now : (j d : ℕ) (t : S) (x : ProcessStatus) → Has after views j d t x → seen (at (place o rp t) root') ≡ Some (t, x)
  shown_now j d t x h = elim (closed.only j d t x h) [
    | inl (u, v, w) ↦ ap (λ z. seen (at z root')) (ap (place o rp) v ∙ stays) ∙ (ap seen (there q (Forked l ks) new root is) ∙ (λ z. Some (sym v z, sym w z)))
    | inr (u, far, v) ↦ outside q (Forked l ks) new root is (place o rp t) (aside j d t x u far v) ∙ ok.shown j d t x v
  ]

  apart_now : (j c d e : ℕ) (s t : S) (x y : ProcessStatus) → Has after views j d s x → Has after views c e t y → place o rp s ≡ place o rp t → j ≡ c
  apart_now j c d e s t x y a b w = elim (closed.only j d s x a) [
    | inl (u, v, z) ↦ elim (closed.only c e t y b) [
      | inl (u', v', z') ↦ u ∙ sym u'
      | inr (n, far, h) ↦ absurd (aside c e t y n far h [] (sym w ∙ (ap (place o rp) v ∙ (stays ∙ sym (nil q)))))
    ]
    | inr (n, far, h) ↦ elim (closed.only c e t y b) [
      | inl (u', v', z') ↦ absurd (aside j d s x n far h [] (w ∙ (ap (place o rp) v' ∙ (stays ∙ sym (nil q)))))
      | inr (n', far', h') ↦ ok.apart j c d e s t x y h h' w
    ]
  ]

  abbrev Child : S → ℕ → ℕ → Type 0
  Child s c b = (d : ℕ) × (t : S) × (k : ProcessStatus) × Has after views c d t k × (place o rp t ≡ place o rp s ++ b ∷ [])

  -- a child of another fork stays: it is not one of those that go
  old_child : (j d n b : ℕ) (s : S) → j ≢ i → Has before old_views j d s (forks n) → (e : ℕ) (t : S) (k : ProcessStatus) → Has before old_views (d + b) e t k → place o rp t ≡ place o rp s ++ b ∷ [] → Child s (d + b) b
  old_child j d n b s other mine e t k h its = elim (same_or_not (d + b) i) [
    | inl w ↦
        let same : t ≡ l = some_same t l (sym h.state_is ∙ (ap (slice_get before) w ∙ has.state_is)) in
        (closed.first, state new, process_status new, subst (λ z. Has after views z closed.first (state new) (process_status new)) (sym w) closed.parent, stays ∙ (ap (place o rp) (sym same) ∙ its))
    | inr away ↦ (e, t, k, closed.others (d + b) e t k away far h, its)
  ]
    where
      far : NotBelow (d + b)
      far c less w =
          let z = ok.below i g (how_many_nodes ks) l has c less in
          let same : t ≡ z.1 = some_same t z.1 (sym h.state_is ∙ (ap (slice_get before) w ∙ z.3.state_is)) in
          let one : place o rp s ≡ q = one_less (place o rp s) q b c (sym its ∙ (ap (place o rp) same ∙ z.4)) in
          other (ok.apart j i d g s l (forks n) (forks (how_many_nodes ks)) mine has one)

  below_now : (j d n : ℕ) (s : S) → Has after views j d s (forks n) → (b : ℕ) → b < n → Child s (d + b) b
  below_now j d n s h b less = elim (closed.only j d s (forks n) h) [
    | inl (u, v, w) ↦ no_fork new n leaf (sym w)
    | inr (other, far, mine) ↦ let z = ok.below j d n s mine b less in old_child j d n b s other mine z.0 z.1 z.2 z.3 z.4
  ]

  pub agrees_closed : Agrees o rp after views root'
  agrees_closed = record { shown = shown_now; apart = apart_now; below = below_now }
