-- A number reduced into a range around 0, from its remainder.
use Rattle.std.proofs.Common.{ℕ, ◌+◌, ◌-◌, ◌*◌, ◌/◌, ◌%◌, ◌<◌, ◌≤◌, ◌≡◌, suc, ℤ, pos, negsuc, ◌+ℤ◌, ◌-ℤ◌, ◌<ℤ◌, ◌≤ℤ◌, refl, ap, ◌∙◌, arith}
use Rattle.std.specs.Int.{int_rem_euclid}
use Rattle.std.proofs.lemmas.Int.{ints, int_rem_euclid_is}
use Rattle.std.proofs.Math.Nat.{add-mul-mod_self_right, mod-eq_of_lt, mod-add-div', mod-lt}

-- v is r and so many times n, after k times n are added
pub record IsRest (v : ℤ) (n r : ℕ) : Type 0 where
  pub times : ℕ
  pub added : ℕ
  pub is : v +ℤ pos (added * n) ≡ pos (r + times * n)
  pub below : r < n
  pub rest : int_rem_euclid v (pos n) ≡ pos r

pub rest_of : (v : ℤ) (n : ℕ) → 0 < n → (r : ℕ) × IsRest v n r
rest_of (pos a) n some = (
  a % n,
  record {
    times = a / n;
    added = 0;
    is = let e : a % n + a / n * n ≡ a = mod-add-div' a n in omega (arith, ints, e);
    below = mod-lt a some;
    rest = refl;
  },
)
rest_of (negsuc a) n some = (
  n - 1 - a % n,
  record {
    times = 0;
    added = suc (a / n);
    is = let e : a % n + a / n * n ≡ a = mod-add-div' a n in let l : a % n < n = mod-lt a some in omega (arith, ints, e, l);
    below = omega arith;
    rest = refl;
  },
)

shifted : (v : ℤ) (half r : ℕ) → 0 < half → IsRest v (half + half) r → int_rem_euclid (v +ℤ pos half) (pos (half + half)) ≡ pos ((r + half) % (half + half))
shifted v half r some h =
    let n : ℕ = half + half in
    let e : (v +ℤ pos half) +ℤ pos (h.added * (half + half)) ≡ pos (r + half + h.times * (half + half)) = omega (arith, ints, h.is) in
    int_rem_euclid_is (v +ℤ pos half) (pos (half + half)) (half + half) h.added (r + half + h.times * (half + half)) (omega arith) refl e
    ∙ ap (λ (m : ℕ). pos m) (add-mul-mod_self_right (r + half) h.times (half + half))

pub lower : (v : ℤ) (half : ℕ) (r : ℤ) → 0 < half → r ≡ int_rem_euclid v (pos (half + half)) → r <ℤ pos half →
    r ≡ int_rem_euclid (v +ℤ pos half) (pos (half + half)) -ℤ pos half
lower v half r some e small =
    let h = rest_of v (half + half) (let p : 0 < half + half = omega arith in p) in
    let same : r ≡ pos h.0 = e ∙ h.1.rest in
    let less : h.0 + half < half + half = omega (arith, ints, same) in
    let m : (h.0 + half) % (half + half) ≡ h.0 + half = mod-eq_of_lt less in
    let s = shifted v half h.0 some h.1 in
    omega (arith, ints, same, m, s)

pub upper : (v : ℤ) (half : ℕ) (r : ℤ) → 0 < half → r ≡ int_rem_euclid v (pos (half + half)) → pos half ≤ℤ r →
    (r -ℤ pos half) -ℤ pos half ≡ int_rem_euclid (v +ℤ pos half) (pos (half + half)) -ℤ pos half
upper v half r some e large =
    let h = rest_of v (half + half) (let p : 0 < half + half = omega arith in p) in
    let same : r ≡ pos h.0 = e ∙ h.1.rest in
    let below = h.1.below in
    let least : half ≤ h.0 = omega (arith, ints, same) in
    let split : h.0 + half ≡ (h.0 - half) + 1 * (half + half) = omega arith in
    let less : h.0 - half < half + half = omega (arith, below) in
    let m : (h.0 + half) % (half + half) ≡ h.0 - half =
    ap (λ (k : ℕ). k % (half + half)) split ∙ add-mul-mod_self_right (h.0 - half) 1 (half + half) ∙ mod-eq_of_lt less in
    let s = shifted v half h.0 some h.1 in
    omega (arith, ints, same, m, s)
