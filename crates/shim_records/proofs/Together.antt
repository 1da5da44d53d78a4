-- Records that lie together, one after another.
use Rattle.std.proofs.Common.{◌≡◌, ◌≢◌, ◌<◌, ◌≤◌, ◌+◌, ◌-◌, ℕ, zero, suc, Some, List, [], ◌∷◌, ◌++◌, length, slice_set, inl, inr, refl, sym, ap, ◌∙◌, arith}
use Rattle.std.specs.Prelude.{slice_get}
use Rattle.shim_base.proofs.Facts.{some_same}
use Rattle.shim_laws_table.specs.Agrees.{free}
use Rattle.shim_laws_table.proofs.SameTrees.{same_or_not}
use Rattle.shim_records.specs.Pairs.{record_view}
use Rattle.shim_records.specs.Blocks.{with_one, IsFreed}
use Rattle.shim_records.specs.declared.record.Record.{Record}
use Rattle.shim_records.proofs.Stepping.{set_there, set_elsewhere}

pub one_set : {A : Type 0} (ys : List A) (g : ℕ) (x : A) → g < length ys → slice_set ys g x ≡ with_one g x ys
one_set [] g x h = absurd (omega (arith, h))
one_set (y ∷ ys) zero x h = refl
one_set (y ∷ ys) (suc g) x h = ap (λ z. y ∷ z) (one_set ys g x (omega (arith, h)))

pub one_behind : {A : Type 0} (ys : List A) (g : ℕ) (x : A) → g ≡ length ys → ys ++ x ∷ [] ≡ with_one g x ys
one_behind [] g x h = refl
one_behind (y ∷ ys) zero x h = absurd (omega (arith, h))
one_behind (y ∷ ys) (suc g) x h = ap (λ z. y ∷ z) (one_behind ys g x (omega (arith, h)))

pub freed_one : (first at : ℕ) (before now : List Record) (r new : Record) → IsFreed first (at - first) before now → first ≤ at → slice_get now at ≡ Some r → record_view new ≡ free → IsFreed first (at + 1 - first) before (slice_set now at new)
freed_one first at before now r new h less e is = record {
  inside = λ b x within there. elim (same_or_not (first + b) at) [
    | inl w ↦
        let same : x ≡ new = some_same x new (sym there ∙ (ap (slice_get (slice_set now at new)) w ∙ set_there now at r new e)) in
        ap record_view same ∙ is
    | inr n ↦ h.inside b x (nearer b within n) (sym (set_elsewhere now at (first + b) new n) ∙ there)
  ];
  outside = λ j far. set_elsewhere now at j new (λ w. far (at - first) (last less) (w ∙ there_last less)) ∙ h.outside j (λ b within w. far b (further b within) w);
}
  where
    nearer : (b : ℕ) → b < at + 1 - first → first + b ≢ at → b < at - first
    nearer b w n = elim (same_or_not b (at - first)) [ inl u ↦ absurd (n (omega (arith, u, less))) | inr u ↦ smaller b u w ]
      where
        smaller : (b : ℕ) → b ≢ at - first → b < at + 1 - first → b < at - first
        smaller b u w = between b (at - first) u (omega (arith, w, less))
          where
            between : (b n : ℕ) → b ≢ n → b ≤ n → b < n
            between zero zero u w = absurd (u refl)
            between zero (suc n) u w = omega arith
            between (suc b) zero u w = absurd (omega (arith, w))
            between (suc b) (suc n) u w = let v = between b n (λ z. u (ap suc z)) (omega (arith, w)) in omega (arith, v)

    last : first ≤ at → at - first < at + 1 - first
    last w = omega (arith, w)

    there_last : first ≤ at → at ≡ first + (at - first)
    there_last w = omega (arith, w)

    further : (b : ℕ) → b < at - first → b < at + 1 - first
    further b w = omega (arith, w)
