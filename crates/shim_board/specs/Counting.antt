-- Pairs and numbers counted in lists.
use Rattle.std.specs.Prelude.{ℕ, ◌==◌, cond, ◌+◌, ◌-◌, List, [], ◌∷◌, Option, Some, None}
use Rattle.shim_base.specs.Lists.{one_at}

-- 1 where x is below n, and else 0
abbrev pub one_below : ℕ → ℕ → ℕ
one_below x n = 1 - (1 - (n - x))

-- 1 where the pair is (k, r), and else 0
abbrev pub one_pair : ℕ → ℕ → ℕ × ℕ → ℕ
one_pair k r p = 1 - (((k - p.0) + (p.0 - k)) + ((r - p.1) + (p.1 - r)))

-- how often (k, r) stands in the list
abbrev pub times : ℕ → ℕ → List (ℕ × ℕ) → ℕ
times k r [] = 0
times k r (p ∷ ps) = one_pair k r p + times k r ps

-- how often x stands in the list
abbrev pub occurs : ℕ → List ℕ → ℕ
occurs x [] = 0
occurs x (n ∷ ns) = one_at x n + occurs x ns

-- 1 where there is the pair (k, r), and else 0
abbrev pub one_if : ℕ → ℕ → Option (ℕ × ℕ) → ℕ
one_if k r (Some p) = one_pair k r p
one_if k r None = 0

-- the pairs of other slots than k
abbrev pub without : ℕ → List (ℕ × ℕ) → List (ℕ × ℕ)
without k [] = []
without k (p ∷ ps) = cond (p.0 == k) (without k ps) (p ∷ without k ps)

-- P holds of each
abbrev pub Each : {V : Type 0} → (V → Type 0) → List V → Type 0
Each P [] = Unit {0}
Each P (x ∷ xs) = P x × Each P xs
