-- Pairs that are read one after the other.
use Rattle.std.proofs.Common.{◌≡◌, ◌≤◌, ◌<◌, ◌∙◌, ℕ, zero, suc, ◌+◌, ◌-◌, true, false, eqb, List, [], ◌∷◌, ◌++◌, drop, Option, Some, None, refl, sym, ap, append_assoc, arith}
use Rattle.std.specs.Prelude.{codes}
use Rattle.std.specs.List.{starts_with}
use Rattle.std.proofs.lemmas.List.{append-nil}
use Rattle.shim_base.specs.Paths.{Path}
use Rattle.shim_replay.specs.Scanning.{◌>>=◌, FailsAs, scan_pair, scan_pairs}
use Rattle.shim_replay.specs.declared.fault.ReadFault.{ReadFault}
use Rattle.shim_replay.specs.declared.fault.ReadFault.TheVariants as faults

-- what was read before, and what is still read
abbrev pub with_pairs : Path → Option (Path × List ℕ) → Option (Path × List ℕ)
with_pairs front read = read >>= λ x. Some (front ++ x.0, x.1)

regroup : (front : Path) (p : ℕ × ℕ) (read : Option (Path × List ℕ)) → with_pairs front (read >>= λ x. Some (p ∷ x.0, x.1)) ≡ with_pairs (front ++ p ∷ []) read
regroup front p (Some x) = ap (λ (ps : Path). Some (ps, x.1)) (simp append_assoc)
regroup front p None = refl

pub one_more : (n : ℕ) (bytes : List ℕ) (p : ℕ × ℕ) (after : List ℕ) → starts_with eqb bytes (codes "/") ≡ true → scan_pair (drop 1 bytes) ≡ Some (p, after) → scan_pairs (suc n) bytes ≡ (scan_pairs n after >>= λ x. Some (p ∷ x.0, x.1))
unfolding scan_pairs
one_more n bytes p after slash e = rw (slash, e) refl

pub goes_on : (front : Path) (count i : ℕ) (bytes : List ℕ) (p : ℕ × ℕ) (after : List ℕ) (total : Option (Path × List ℕ)) → i < count → starts_with eqb bytes (codes "/") ≡ true → scan_pair (drop 1 bytes) ≡ Some (p, after)
    → with_pairs front (scan_pairs (count - i) bytes) ≡ total → with_pairs (front ++ p ∷ []) (scan_pairs (count - (i + 1)) after) ≡ total
goes_on front count i bytes p after total lt slash h so_far =
    let k : count - i ≡ suc (count - (i + 1)) = omega arith in
    let one : with_pairs front (scan_pairs (count - i) bytes) ≡ with_pairs (front ++ p ∷ []) (scan_pairs (count - (i + 1)) after) = rw (k, one_more (count - (i + 1)) bytes p after slash h) (regroup front p (scan_pairs (count - (i + 1)) after)) in
    sym one ∙ so_far

pub no_more : (n : ℕ) (bytes : List ℕ) → starts_with eqb bytes (codes "/") ≡ true → scan_pair (drop 1 bytes) ≡ None → scan_pairs (suc n) bytes ≡ None
unfolding scan_pairs
no_more n bytes slash e = rw (slash, e) refl

pub fails : (e : ReadFault) (front : Path) (count i : ℕ) (bytes : List ℕ) (total : Option (Path × List ℕ)) → i < count → starts_with eqb bytes (codes "/") ≡ true → FailsAs e (scan_pair (drop 1 bytes))
    → with_pairs front (scan_pairs (count - i) bytes) ≡ total → FailsAs e total
fails faults.NoMemory front count i bytes total lt slash h so_far = tt
fails faults.Malformed front count i bytes total lt slash h so_far =
    let k : count - i ≡ suc (count - (i + 1)) = omega arith in
    let one : with_pairs front (scan_pairs (count - i) bytes) ≡ None = rw (k, no_more (count - (i + 1)) bytes slash h) refl in
    sym so_far ∙ one

pub other : (n : ℕ) (bytes : List ℕ) → starts_with eqb bytes (codes "/") ≡ false → scan_pairs n bytes ≡ Some ([], bytes)
unfolding scan_pairs
other zero bytes slash = refl
other (suc n) bytes slash = rw slash refl

pub stops : (front : Path) (n : ℕ) (bytes : List ℕ) (total : Option (Path × List ℕ)) → starts_with eqb bytes (codes "/") ≡ false → with_pairs front (scan_pairs n bytes) ≡ total → total ≡ Some (front, bytes)
stops front n bytes total slash so_far =
    let one : with_pairs front (scan_pairs n bytes) ≡ Some (front, bytes) = rw (other n bytes slash) (ap (λ (ps : Path). Some (ps, bytes)) (append-nil front)) in
    sym so_far ∙ one

zeroth : (bytes : List ℕ) → scan_pairs 0 bytes ≡ Some ([], bytes)
unfolding scan_pairs
zeroth bytes = refl

pub done : (front : Path) (count i : ℕ) (bytes : List ℕ) (total : Option (Path × List ℕ)) → count ≤ i → with_pairs front (scan_pairs (count - i) bytes) ≡ total → total ≡ Some (front, bytes)
done front count i bytes total le so_far =
    let k : count - i ≡ 0 = omega arith in
    let one : with_pairs front (scan_pairs (count - i) bytes) ≡ Some (front, bytes) = rw (k, zeroth bytes) (ap (λ (ps : Path). Some (ps, bytes)) (append-nil front)) in
    sym so_far ∙ one
