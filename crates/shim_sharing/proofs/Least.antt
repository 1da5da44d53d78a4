-- The least number that passes is the first that is found from 0 on.
use Rattle.std.proofs.Common.{◌≡◌, ◌∙◌, ℕ, ◌<◌, zero, suc, Some, None, Bool, true, sym, ap, subst, arith, inl, inr}
use Rattle.std.specs.Option.{option_or}
use Rattle.std.proofs.lemmas.Bool.{cases_lt}
use Rattle.shim_sharing.specs.Sharing.{least_below, if_true}

pub least_found : (n x : ℕ) (p : ℕ → Bool) → least_below x p ≡ None → p x ≡ true → x < n → least_below n p ≡ Some x
least_found zero x p none here lt = absurd (omega arith)
least_found (suc n) x p none here lt =
    elim (cases_lt x n) [
      | inl below ↦ ap (λ o. option_or o (if_true n (p n))) (least_found n x p none here below)
      | inr above ↦
          let e : n ≡ x = omega arith in
          subst (λ k. option_or (least_below k p) (if_true k (p k)) ≡ Some x) (sym e) (ap (λ o. option_or o (if_true x (p x))) none ∙ ap (if_true x) here)
    ]
