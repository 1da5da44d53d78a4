-- What is seen where a process has forked.
use Rattle.std.proofs.Common.{◌≡◌, ◌≢◌, ◌⊎◌, inl, inr, ℕ, zero, suc, ◌+◌, ◌<◌, Some, List, [], ◌∷◌, ◌++◌, length, refl, sym, ap, subst, ◌∙◌, arith}
use Rattle.std.specs.Prelude.{slice_get}
use Rattle.shim_base.specs.Paths.{Path}
use Rattle.shim_local.specs.Process.{Ops}
use Rattle.shim_semantics.specs.Nodes.{Node, Live, Forked, all_live}
use Rattle.shim_semantics.specs.Places.{at, child_at}
use Rattle.shim_semantics.proofs.ReplacedNodes.{put}
use Rattle.shim_base.proofs.Facts.{some_same, none_some}
use Rattle.shim_laws_table.specs.NodeStatus.{ProcessStatus, lives, forks, seen, place, how_many_nodes, IsAside}
use Rattle.shim_laws_table.specs.Agrees.{RecordView, used, Has, Agrees}
use Rattle.shim_laws_table.specs.Changes.{HasForked}
use Rattle.shim_laws_table.proofs.Aside.{there, outside, at_split}
use Rattle.shim_laws_table.proofs.SameTrees.{same_or_not, seen_live}

pub so_many : {S : Type 0} (ks : List S) → how_many_nodes (all_live ks) ≡ length ks
so_many [] = refl
so_many (k ∷ ks) = ap suc (so_many ks)

pub born_at : {S : Type 0} (b : ℕ) (ks : List S) (k : S) → slice_get ks b ≡ Some k → child_at b [] (all_live ks) ≡ Some (Live k)
born_at b [] k e = none_some k e
born_at zero (j ∷ ks) k e = ap (λ z. Some (Live z)) (some_same j k e)
born_at (suc b) (j ∷ ks) k e = born_at b ks k e

pub there_is : {A : Type 0} (xs : List A) (b : ℕ) → b < length xs → (x : A) × (slice_get xs b ≡ Some x)
there_is [] b h = absurd (omega (arith, h))
there_is (x ∷ xs) zero h = (x, refl)
there_is (x ∷ xs) (suc b) h = there_is xs b (omega (arith, h))

-- one more branch
pub one_branch : (q : List ℕ) (b c : ℕ) → q ++ b ∷ [] ≡ q ++ c ∷ [] → b ≡ c
one_branch [] b c e = cc
one_branch (x ∷ q) b c e = one_branch q b c cc

pub no_shorter : (q : List ℕ) (b : ℕ) → q ≢ q ++ b ∷ []
no_shorter [] b e = absurd cc
no_shorter (x ∷ q) b e = no_shorter q b cc

module _ {S : Type 0} (o : Ops S) (rp : Path) (before after : List S) (old_views views : List RecordView) (root : Node S) (i f g : ℕ) (l p : S) (ks : List S)
    (ok : Agrees o rp before old_views root) (has : Has before old_views i f l lives) (forked : HasForked before after old_views views i g p ks)
    (stays : place o rp p ≡ place o rp l) (its : (b : ℕ) (k : S) → slice_get ks b ≡ Some k → place o rp k ≡ place o rp l ++ b ∷ []) where
  abbrev pub q : List ℕ
  q = place o rp l

  abbrev pub fork : Node S
  fork = Forked p (all_live ks)

  abbrev pub root' : Node S
  root' = put q fork root

  is_there : at q root ≡ Some (Live l)
  is_there = seen_live (at q root) l (ok.shown i f l lives has)

  fork_there : at q root' ≡ Some fork
  fork_there = there q (Live l) fork root is_there

  -- no other record is there or below
  aside : (j d : ℕ) (t : S) (x : ProcessStatus) → j ≢ i → Has before old_views j d t x → IsAside (place o rp t) q
  aside j d t x n h [] e = n (ok.apart j i d f t l x lives h has (e ∙ append_nil' q))
    where
      append_nil' : (r : List ℕ) → r ++ [] ≡ r
      append_nil' [] = refl
      append_nil' (y ∷ r) = ap (λ z. y ∷ z) (append_nil' r)
  aside j d t x n h (b ∷ s) e = none_some (t, x) (sym (ap (λ z. seen (at z root)) e ∙ ap seen (at_split q (b ∷ s) root (Live l) is_there)) ∙ ok.shown j d t x h)

  shown_now : (j d : ℕ) (t : S) (x : ProcessStatus) → Has after views j d t x → seen (at (place o rp t) root') ≡ Some (t, x)
  shown_now j d t x h = elim (forked.only j d t x h) [
    | inl (u, v, w) ↦ ap (λ z. seen (at z root')) (ap (place o rp) v ∙ stays) ∙ (ap seen fork_there ∙ (λ z. Some (sym v z, (ap forks (so_many ks) ∙ sym w) z)))
    | inr (inl (b, u, v, w)) ↦
        ap (λ z. seen (at z root')) (its b t u) ∙ (ap seen (at_split q (b ∷ []) root' fork fork_there ∙ born_at b ks t u) ∙ (λ z. Some (t, sym w z)))
    | inr (inr (u, v)) ↦ outside q (Live l) fork root is_there (place o rp t) (aside j d t x u v) ∙ ok.shown j d t x v
  ]

  -- which of the three a record is decides its place
  abbrev Kind : ℕ → S → Type 0
  Kind j t = ((j ≡ i) × (place o rp t ≡ q)) ⊎ (((b : ℕ) × (place o rp t ≡ q ++ b ∷ []) × (j ≡ g + b)) ⊎ ((d : ℕ) × (x : ProcessStatus) × (j ≢ i) × Has before old_views j d t x))

  kind : (j d : ℕ) (t : S) (x : ProcessStatus) → Has after views j d t x → Kind j t
  kind j d t x h = elim (forked.only j d t x h) [
    | inl (u, v, w) ↦ inl (u, ap (place o rp) v ∙ stays)
    | inr (inl (b, u, v, w)) ↦ inr (inl (b, its b t u, v))
    | inr (inr (u, v)) ↦ inr (inr (d, x, u, v))
  ]

  nil : (r : List ℕ) → r ≡ r ++ []
  nil [] = refl
  nil (y ∷ r) = ap (λ z. y ∷ z) (nil r)

  two : (j c : ℕ) (s t : S) → Kind j s → Kind c t → place o rp s ≡ place o rp t → j ≡ c
  two j c s t (inl a) (inl b) e = a.0 ∙ sym b.0
  two j c s t (inl a) (inr (inl b)) e = absurd (no_shorter q b.0 (sym a.1 ∙ (e ∙ b.1)))
  two j c s t (inl a) (inr (inr b)) e = absurd (aside c b.0 t b.1 b.2 b.3 [] (sym e ∙ (a.1 ∙ nil q)))
  two j c s t (inr (inl a)) (inl b) e = absurd (no_shorter q a.0 (sym b.1 ∙ (sym e ∙ a.1)))
  two j c s t (inr (inl a)) (inr (inl b)) e = a.2 ∙ (ap (λ z. g + z) (one_branch q a.0 b.0 (sym a.1 ∙ (e ∙ b.1))) ∙ sym b.2)
  two j c s t (inr (inl a)) (inr (inr b)) e = absurd (aside c b.0 t b.1 b.2 b.3 (a.0 ∷ []) (sym e ∙ a.1))
  two j c s t (inr (inr a)) (inl b) e = absurd (aside j a.0 s a.1 a.2 a.3 [] (e ∙ (b.1 ∙ nil q)))
  two j c s t (inr (inr a)) (inr (inl b)) e = absurd (aside j a.0 s a.1 a.2 a.3 (b.0 ∷ []) (e ∙ b.1))
  two j c s t (inr (inr a)) (inr (inr b)) e = ok.apart j c a.0 b.0 s t a.1 b.1 a.3 b.3 e

  abbrev Child : S → ℕ → ℕ → Type 0
  Child s c b = (d : ℕ) × (t : S) × (k : ProcessStatus) × Has after views c d t k × (place o rp t ≡ place o rp s ++ b ∷ [])

  old_child : (s : S) (c b d : ℕ) (t : S) (k : ProcessStatus) → Has before old_views c d t k → place o rp t ≡ place o rp s ++ b ∷ [] → Child s c b
  old_child s c b d t k h e = elim (same_or_not c i) [
    | inl w ↦
        let same : t ≡ l = some_same t l (sym h.state_is ∙ (ap (slice_get before) w ∙ has.state_is)) in
        (g, p, forks (length ks), subst (λ z. Has after views z g p (forks (length ks))) (sym w) forked.parent, stays ∙ (ap (place o rp) (sym same) ∙ e))
    | inr n ↦ (d, t, k, forked.others c d t k n h, e)
  ]

  same_fork : (m n : ℕ) → forks m ≡ forks n → m ≡ n
  same_fork m n e = cc

  below_now : (j d n : ℕ) (s : S) → Has after views j d s (forks n) → (b : ℕ) → b < n → Child s (d + b) b
  below_now j d n s h b less = elim (forked.only j d s (forks n) h) [
    | inl (u, v, w) ↦
        let same : d ≡ g = first_same (some_same _ _ (sym h.view_is ∙ (ap (slice_get views) u ∙ forked.parent.view_is))) in
        let e = there_is ks b (subst (λ z. b < z) (same_fork n (length ks) w) less) in
        let k = forked.born b e.0 e.1 in
        (k.0, e.0, lives, subst (λ z. Has after views (z + b) k.0 e.0 lives) (sym same) k.1, its b e.0 e.1 ∙ ap (λ z. z ++ b ∷ []) (sym (ap (place o rp) v ∙ stays)))
    | inr (inl (c, u, v, w)) ↦ absurd (lives_forks n (sym w))
    | inr (inr (u, v)) ↦ let z = ok.below j d n s v b less in old_child s (d + b) b z.0 z.1 z.2 z.3 z.4
  ]
    where
      first_same : {m : ℕ} {k h : ProcessStatus} → used d k ≡ used m h → d ≡ m
      first_same e = cc

      lives_forks : (m : ℕ) → lives ≡ forks m → ⊥
      lives_forks m e = absurd cc

  pub agrees_forked : Agrees o rp after views root'
  agrees_forked = record { shown = shown_now; apart = λ j c d e s t x y a b w. two j c s t (kind j d s x a) (kind c e t y b) w; below = below_now }
