-- What a new fork knows of who shares a channel, and of who took its own variable.
use Rattle.std.proofs.Common.{◌≡◌, ◌≢◌, ◌≤◌, ◌<◌, ◌↔◌, ℕ, zero, suc, Bool, true, false, Some, List, [], ◌∷◌, length, refl, sym, ap, subst, ◌∙◌, arith}
use Rattle.std.specs.Prelude.{slice_get, if◌then◌else◌}
use Rattle.shim_base.specs.Paths.{Channel}
use Rattle.shim_base.proofs.Facts.{some_same, none_some}
use Rattle.shim_local.specs.Process.{Ops}
use Rattle.shim_local.specs.Laws.{LocalLaws, Forks, AllOf, IsGiven, how_many}
use Rattle.shim_semantics.specs.Nodes.{Node, Live, all_live, state}
use Rattle.shim_semantics.specs.Places.{child_at}
use Rattle.shim_semantics.specs.Sound.{carriers}
use Rattle.shim_laws_table.specs.NodeStatus.{how_many_nodes}
use Rattle.shim_records.specs.Fresh.{FreshSharing}
use Rattle.shim_records.specs.declared.pair.Sharing.{Sharing}
use Rattle.shim_laws_table_events.specs.keeping.Knowing.{Knows}

-- ---- lists

all_at : {S : Type 0} (P : S → Type 0) (ks : List S) (b : ℕ) (s : S) → AllOf P ks → slice_get ks b ≡ Some s → P s
all_at P [] b s h e = none_some s e
all_at P (k ∷ ks) zero s h e = subst P (some_same k s e) h.0
all_at P (k ∷ ks) (suc b) s h e = all_at P ks b s h.1 e

module _ {S : Type 0} (f : S → Bool) where
  none_of : (ks : List S) (b : ℕ) (s : S) → how_many f ks ≡ 0 → slice_get ks b ≡ Some s → f s ≡ false
  none_of [] b s none e = none_some s e
  none_of (k ∷ ks) b s none e = on (f k) refl none b e (λ d z g. none_of ks d s z g)
    where
      on : (t : Bool) → f k ≡ t → (if t then suc (how_many f ks) else how_many f ks) ≡ 0 → (b : ℕ) → slice_get (k ∷ ks) b ≡ Some s → ((d : ℕ) → how_many f ks ≡ 0 → slice_get ks d ≡ Some s → f s ≡ false) → f s ≡ false
      on true w some b e rest = absurd (let z : ⊥ = omega (arith, some) in z)
      on false w none zero e rest = ap f (sym (some_same k s e)) ∙ w
      on false w none (suc b) e rest = rest b none e

  only_first : (p : S) (ks : List S) → how_many f (p ∷ ks) ≡ 1 → f p ≡ true → how_many f ks ≡ 0
  only_first p ks one has = let e : suc (how_many f ks) ≡ 1 = ap (λ t. if t then suc (how_many f ks) else how_many f ks) (sym has) ∙ one in omega (arith, e)

  one_of : (s : S) → 1 ≤ how_many f (s ∷ []) → f s ≡ true
  one_of s some = on (f s) refl some
    where
      on : (t : Bool) → f s ≡ t → 1 ≤ (if t then suc 0 else 0) → f s ≡ true
      on true w some = w
      on false w some = absurd (let z : ⊥ = omega (arith, some) in z)

-- ---- new children

live_child : {S : Type 0} (ks : List S) (b : ℕ) (m : Node S) → child_at b [] (all_live ks) ≡ Some m → (s : S) × (slice_get ks b ≡ Some s) × (m ≡ Live s)
live_child [] b m e = none_some m e
live_child (k ∷ ks) zero m e = (k, refl, sym (some_same (Live k) m e))
live_child (k ∷ ks) (suc b) m e = live_child ks b m e

as_many_live : {S : Type 0} (ks : List S) → how_many_nodes (all_live ks) ≡ length ks
as_many_live [] = refl
as_many_live (k ∷ ks) = ap suc (as_many_live ks)

first_child : {S : Type 0} (ks : List S) → ks ≢ [] → (s : S) × (slice_get ks 0 ≡ Some s)
first_child [] some = absurd (some refl)
first_child (k ∷ ks) some = (k, refl)

module _ {S : Type 0} (o : Ops S) (law : LocalLaws o) (l p : S) (ks : List S) (c : Channel) (k : Sharing) (sound : o.sound l) (forked : Forks o l p ks) (fresh : FreshSharing o c ks k)
    (once : (b d : ℕ) (s t : S) → slice_get ks b ≡ Some s → slice_get ks d ≡ Some t → o.carries s c ≡ true → o.carries t c ≡ true → b ≡ d) where
  given_shares : (b : ℕ) (s : S) → slice_get ks b ≡ Some s → IsGiven o s c → o.shares s c ≡ true
  given_shares b s e given = (all_at (λ z. (o.shares z c ≡ true) ↔ IsGiven o z c) ks b s (law.children_given l p ks c sound forked) e).1 given

  carrier_shares : (b : ℕ) (s : S) → slice_get ks b ≡ Some s → o.carries s c ≡ true → o.shares s c ≡ true
  carrier_shares b s e has = law.carries_shares s c (all_at o.sound ks b s (law.fork_sound l p ks sound forked) e) has

  between : (b : ℕ) (m : Node S) → child_at b [] (all_live ks) ≡ Some m → IsGiven o (state m) c → (k.first ≤ b) × (b ≤ k.last)
  between b m e given = let w = live_child ks b m e in fresh.between b w.0 w.1 (given_shares b w.0 w.1 (subst (λ z. IsGiven o (state z) c) w.2 given))

  kept_own : o.carries p c ≡ true → how_many_nodes (all_live ks) ≤ k.source
  kept_own has =
      let one = law.fork_hands_on l p ks c sound forked (law.fork_carries l p ks c sound forked has) in
      let none = only_first (λ s. o.carries s c) p ks one has in
      subst (λ z. z ≤ k.source) (sym (as_many_live ks)) (fresh.nobody (λ b s e. none_of (λ s. o.carries s c) ks b s none e))

  handed_on : (b : ℕ) (m : Node S) → child_at b [] (all_live ks) ≡ Some m → 1 ≤ carriers o c m → k.source ≡ b
  handed_on b m e some =
      let w = live_child ks b m e in
      let has : o.carries w.0 c ≡ true = one_of (λ s. o.carries s c) w.0 (subst (λ z. 1 ≤ carriers o c z) w.2 some) in
      let v = fresh.carrier b w.0 w.1 (carrier_shares b w.0 w.1 has) has in
      once k.source b v.0 w.0 v.1 w.1 v.2 has

  pub knows : Knows o c p (all_live ks) k
  knows = record {
    within = let w = first_child ks (law.fork_some l p ks sound forked) in subst (λ z. k.last < z) (sym (as_many_live ks)) (fresh.within 0 w.0 w.1);
    between = between;
    kept_own = kept_own;
    handed_on = handed_on;
  }
