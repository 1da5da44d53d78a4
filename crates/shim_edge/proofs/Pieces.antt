-- Pieces that a sink took one after another.
use Rattle.std.proofs.Common.{◌≡◌, ℕ, ◌+◌, ◌-◌, List, ◌++◌, length, take, drop, Option, Some, None, refl, ap, sym, ◌∙◌, append_assoc, ◌≤◌, subst, arith}
use Rattle.std.proofs.Math.Seq.{take-add}
use Rattle.std.proofs.lemmas.List.{length-drop, take_rest}
use Rattle.shim_edge.specs.Sink.{then_bytes}

-- The first `at` of the bytes were written: they were taken, and the count of faults stayed.
pub record Wrote (taken : Option (List ℕ)) (faults : ℕ) (bytes : List ℕ) (at : ℕ) (taken_now : Option (List ℕ)) (faults_now : ℕ) : Type 0 where
  pub within : at ≤ length bytes
  pub took : taken_now ≡ then_bytes taken (take at bytes)
  pub uncounted : faults_now ≡ faults

then_bytes-then_bytes : (taken : Option (List ℕ)) (xs ys : List ℕ) → then_bytes (then_bytes taken xs) ys ≡ then_bytes taken (xs ++ ys)
then_bytes-then_bytes None xs ys = refl
then_bytes-then_bytes (Some front) xs ys = ap (λ (l : List ℕ). Some l) (append_assoc front xs ys)

took_more : (taken between now : Option (List ℕ)) (at n : ℕ) (bytes : List ℕ) → between ≡ then_bytes taken (take at bytes) →
    now ≡ then_bytes between (take n (take (length bytes - at) (drop at bytes))) → now ≡ then_bytes taken (take (at + n) bytes)
took_more taken between now at n bytes e f =
    f ∙ ap (λ (l : List ℕ). then_bytes between (take n l)) (take_rest bytes at)
    ∙ ap (λ (t : Option (List ℕ)). then_bytes t (take n (drop at bytes))) e ∙ then_bytes-then_bytes taken (take at bytes) (take n (drop at bytes))
    ∙ ap (λ (l : List ℕ). then_bytes taken l) (sym (take-add at n bytes))

fits_more : (at n : ℕ) (bytes : List ℕ) → at ≤ length bytes → n ≤ length (take (length bytes - at) (drop at bytes)) → at + n ≤ length bytes
fits_more at n bytes within most =
    let room : n ≤ length bytes - at = let P : List ℕ → Type 0 = λ l. n ≤ length l in rw (length-drop at bytes) at (subst P (take_rest bytes at) most) in
    omega arith

-- a write of n bytes from there on
pub wrote_more : (taken : Option (List ℕ)) (faults : ℕ) (bytes : List ℕ) (at n : ℕ) (between now : Option (List ℕ)) (faults_between faults_now : ℕ) →
    Wrote taken faults bytes at between faults_between →
    n ≤ length (take (length bytes - at) (drop at bytes)) → now ≡ then_bytes between (take n (take (length bytes - at) (drop at bytes))) →
    faults_now ≡ faults_between → Wrote taken faults bytes (at + n) now faults_now
wrote_more taken faults bytes at n between now faults_between faults_now before most took uncounted = record {
  within = fits_more at n bytes before.within most;
  took = took_more taken between now at n bytes before.took took;
  uncounted = uncounted ∙ before.uncounted;
}
