-- One record changes with the node at its place.
use Rattle.std.proofs.Common.{◌≡◌, ◌≢◌, ℕ, ◌+◌, ◌<◌, true, Some, List, [], ◌∷◌, ◌++◌, sym, ap, subst, ◌∙◌, inl, inr}
use Rattle.std.proofs.lemmas.List.{append-nil}
use Rattle.shim_base.specs.Paths.{Path}
use Rattle.shim_local.specs.Process.{Ops}
use Rattle.shim_semantics.specs.Nodes.{Node, state}
use Rattle.shim_semantics.specs.Places.{at}
use Rattle.shim_semantics.proofs.ReplacedNodes.{put}
use Rattle.shim_base.proofs.Facts.{some_same, none_some}
use Rattle.shim_laws_table.specs.NodeStatus.{ProcessStatus, forks, seen, process_status, is_leaf, place, IsAside}
use Rattle.shim_laws_table.specs.Agrees.{RecordView, free, used, Has, Agrees}
use Rattle.shim_laws_table.specs.Changes.{HasChanged}
use Rattle.shim_laws_table.proofs.Aside.{there, outside, none_below, at_split}
use Rattle.shim_laws_table.proofs.SameTrees.{same_or_not, no_fork}

abbrev status_of : RecordView → ProcessStatus → ProcessStatus
status_of free d = d
status_of (used f k) d = k

-- a number has one record
pub one_state : {S : Type 0} (states : List S) (views : List RecordView) (i f g : ℕ) (s t : S) (k h : ProcessStatus) → Has states views i f s k → Has states views i g t h → s ≡ t
one_state states views i f g s t k h a b = some_same s t (sym a.state_is ∙ b.state_is)

pub one_status : {S : Type 0} (states : List S) (views : List RecordView) (i f g : ℕ) (s t : S) (k h : ProcessStatus) → Has states views i f s k → Has states views i g t h → k ≡ h
one_status states views i f g s t k h a b = ap (λ z. status_of z k) (some_same (used f k) (used g h) (sym a.view_is ∙ b.view_is))

module _ {S : Type 0} (o : Ops S) (rp : Path) (before behind : List S) (old_views views : List RecordView) (root m a : Node S) (i f : ℕ)
    (ok : Agrees o rp before old_views root) (has : Has before old_views i f (state m) (process_status m)) (is : at (place o rp (state m)) root ≡ Some m)
    (leaf : is_leaf m ≡ true) (leaf' : is_leaf a ≡ true) (stays : place o rp (state a) ≡ place o rp (state m)) (changed : HasChanged before behind old_views views i (state a) (process_status a)) where
  abbrev pub q : List ℕ
  q = place o rp (state m)

  abbrev pub root' : Node S
  root' = put q a root

  abbrev After : ℕ → ℕ → S → ProcessStatus → Type 0
  After j e t x = Has behind views j e t x

  its : (j : ℕ) (e : ℕ) (t : S) (x : ProcessStatus) → j ≡ i → After j e t x → (t ≡ state a) × (x ≡ process_status a)
  its j e t x w h =
      let mine : Has behind views j changed.first (state a) (process_status a) = subst (λ z. Has behind views z changed.first (state a) (process_status a)) (sym w) changed.mine in
      (one_state behind views j e changed.first t (state a) x (process_status a) h mine, one_status behind views j e changed.first t (state a) x (process_status a) h mine)

  -- no other record is there or below
  aside : (j d : ℕ) (t : S) (x : ProcessStatus) → j ≢ i → Has before old_views j d t x → IsAside (place o rp t) q
  aside j d t x n h [] e = n (ok.apart j i d f t (state m) x (process_status m) h has (e ∙ append-nil q))
  aside j d t x n h (b ∷ s) e = none_some (t, x) (sym (ap (λ z. seen (at z root)) e ∙ ap seen (at_split q (b ∷ s) root m is ∙ none_below b s m leaf)) ∙ ok.shown j d t x h)

  own_place : (t : S) → t ≡ state a → place o rp t ≡ q
  own_place t e = ap (place o rp) e ∙ stays

  shown_now : (j e : ℕ) (t : S) (x : ProcessStatus) → After j e t x → seen (at (place o rp t) root') ≡ Some (t, x)
  shown_now j e t x y = elim (same_or_not j i) [
    | inl w ↦
        let z = its j e t x w y in
        ap (λ q. seen (at q root')) (own_place t z.0) ∙ (ap seen (there q m a root is) ∙ sym (λ r. Some (z.0 r, z.1 r)))
    | inr n ↦
        let z = changed.only j e t x n y in
        outside q m a root is (place o rp t) (aside j e t x n z) ∙ ok.shown j e t x z
  ]

  not_there : (j d : ℕ) (t : S) (x : ProcessStatus) → j ≢ i → Has before old_views j d t x → place o rp t ≢ q
  not_there j d t x n h e = aside j d t x n h [] (e ∙ sym (append-nil q))

  apart_now : (j l e d : ℕ) (s t : S) (x y : ProcessStatus) → After j e s x → After l d t y → place o rp s ≡ place o rp t → j ≡ l
  apart_now j l e d s t x y a b w = elim (same_or_not j i) [
    | inl u ↦ elim (same_or_not l i) [
      | inl v ↦ u ∙ sym v
      | inr v ↦ absurd (not_there l d t y v (changed.only l d t y v b) (sym w ∙ own_place s (its j e s x u a).0))
    ]
    | inr u ↦ elim (same_or_not l i) [
      | inl v ↦ absurd (not_there j e s x u (changed.only j e s x u a) (w ∙ own_place t (its l d t y v b).0))
      | inr v ↦ ok.apart j l e d s t x y (changed.only j e s x u a) (changed.only l d t y v b) w
    ]
  ]

  abbrev Child : S → ℕ → ℕ → Type 0
  Child s c b = (d : ℕ) × (t : S) × (k : ProcessStatus) × After c d t k × (place o rp t ≡ place o rp s ++ b ∷ [])

  child_now : (s : S) (c b d : ℕ) (t : S) (k : ProcessStatus) → Has before old_views c d t k → place o rp t ≡ place o rp s ++ b ∷ [] → Child s c b
  child_now s c b d t k h p = elim (same_or_not c i) [
    | inl w ↦
        let same : t ≡ state m = one_state before old_views c d f t (state m) k (process_status m) h (subst (λ z. Has before old_views z f (state m) (process_status m)) (sym w) has) in
        (changed.first, state a, process_status a, subst (λ z. After z changed.first (state a) (process_status a)) (sym w) changed.mine, stays ∙ (ap (place o rp) (sym same) ∙ p))
    | inr n ↦ (d, t, k, changed.others c d t k n h, p)
  ]

  below_now : (j e n : ℕ) (s : S) → After j e s (forks n) → (b : ℕ) → b < n → Child s (e + b) b
  below_now j e n s y b less = elim (same_or_not j i) [
    | inl w ↦ no_fork a n leaf' (sym (its j e s (forks n) w y).1)
    | inr w ↦ let z = ok.below j e n s (changed.only j e s (forks n) w y) b less in child_now s (e + b) b z.0 z.1 z.2 z.3 z.4
  ]

  pub agrees_changed : Agrees o rp behind views root'
  agrees_changed = record { shown = shown_now; apart = apart_now; below = below_now }
