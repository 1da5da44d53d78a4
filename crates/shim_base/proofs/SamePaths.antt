-- The tests of paths and channels decide whether they are the same.
use Rattle.std.proofs.Common.{◌≡◌, ℕ, true, [], ◌∷◌, refl, eq-eqb, eqb-true, eqb}
use Rattle.shim_base.specs.Paths.{Path, Channel, same_pair, same_path, same_channel}
use Rattle.shim_base.proofs.Facts.{first_holds, second_holds, both_hold}

pub same_pair_refl : (x : ℕ × ℕ) → same_pair x x ≡ true
same_pair_refl x = both_hold _ _ (eq-eqb x.0 x.0 refl) (eq-eqb x.1 x.1 refl)

pub same_path_refl : (p : Path) → same_path p p ≡ true
same_path_refl [] = refl
same_path_refl (x ∷ p) = both_hold _ _ (same_pair_refl x) (same_path_refl p)

pub same_path_is : (p q : Path) → same_path p q ≡ true → p ≡ q
same_path_is [] [] e = refl
same_path_is [] (y ∷ q) e = absurd cc
same_path_is (x ∷ p) [] e = absurd cc
same_path_is (x ∷ p) (y ∷ q) e =
    let here = first_holds (same_pair x y) (same_path p q) e in
    let a = eqb-true x.0 y.0 (first_holds (eqb x.0 y.0) _ here) in
    let b = eqb-true x.1 y.1 (second_holds (eqb x.0 y.0) _ here) in
    let t = same_path_is p q (second_holds (same_pair x y) _ e) in
    let xy : x ≡ y = λ i. (a i, b i) in
    λ i. xy i ∷ t i

pub same_channel_is : (c d : Channel) → same_channel c d ≡ true → c ≡ d
same_channel_is c d e =
    let a = same_path_is c.home d.home (first_holds (same_path c.home d.home) _ e) in
    let b = eqb-true c.serial d.serial (second_holds (same_path c.home d.home) _ e) in
    λ i. record { home = a i; serial = b i }

pub same_channel_refl : (c : Channel) → same_channel c c ≡ true
same_channel_refl c = both_hold _ _ (same_path_refl c.home) (eq-eqb c.serial c.serial refl)
