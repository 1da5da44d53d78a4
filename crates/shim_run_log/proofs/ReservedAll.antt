-- Processes of a list get their counts one after another.
use Rattle.std.proofs.Common.{◌≡◌, ℕ, zero, suc, ◌+◌, ◌≤◌, List, [], ◌∷◌, length, drop, refl, sym, ap, subst, ◌∙◌, arith}
use Rattle.std.specs.FinMap.{FinMap}
use Rattle.shim_base.specs.Paths.{Path, path_order}
use Rattle.shim_local.specs.Process.{Ops}
use Rattle.shim_local.specs.Laws.{AllOf}
use Rattle.shim_run_log.specs.Reserved.{HasCount, KeepsCounts, with_count, stepped}
use Rattle.shim_run_log.proofs.Reserved.{placed, places_stay, steps_placed}

pub none_from : {A : Type 0} (P : A → Type 0) (xs : List A) (i : ℕ) → length xs ≤ i → AllOf P (drop i xs)
none_from P [] zero h = tt
none_from P [] (suc i) h = tt
none_from P (x ∷ xs) zero h = absurd (omega (arith, h))
none_from P (x ∷ xs) (suc i) h = none_from P xs i (omega (arith, h))

module _ {S : Type 0} (o : Ops S) where
  abbrev Placed : FinMap path_order ℕ → S → Type 0
  Placed m l = HasCount m (o.path l)

  -- of all processes of a list: what is placed so far, and what is left
  pub record PlacedSoFar (all : List S) (first now : FinMap path_order ℕ) (i : ℕ) : Type 0 where
    pub rest : (m : FinMap path_order ℕ) → KeepsCounts now m → AllOf (Placed m) (drop i all) → AllOf (Placed m) all
    pub keeps : KeepsCounts first now
    pub same : stepped now ≡ stepped first

  pub none_placed : (all : List S) (m : FinMap path_order ℕ) → PlacedSoFar all m m 0
  none_placed all m = record { rest = λ n keeps h. h; keeps = λ p h. h; same = refl }

  pub one_placed : (all : List S) (first now next : FinMap path_order ℕ) (i : ℕ) (l : S) (p : Path) → drop i all ≡ l ∷ drop (i + 1) all → p ≡ o.path l → next ≡ with_count now p → PlacedSoFar all first now i → PlacedSoFar all first next (i + 1)
  one_placed all first now next i l p d its is so_far =
      let is_next = is ∙ ap (with_count now) its in
      let keeps : KeepsCounts now next = subst (KeepsCounts now) (sym is_next) (places_stay now (o.path l)) in
      let there : HasCount next (o.path l) = subst (λ m. HasCount m (o.path l)) (sym is_next) (placed now (o.path l)) in
      record {
        rest = λ m more left. so_far.rest m (λ q g. more q (keeps q g)) (subst (AllOf (Placed m)) (sym d) (more (o.path l) there, left));
        keeps = λ q g. keeps q (so_far.keeps q g);
        same = ap stepped is_next ∙ (steps_placed now (o.path l) ∙ so_far.same);
      }

  pub all_placed : (all : List S) (first now : FinMap path_order ℕ) (i : ℕ) → length all ≤ i → PlacedSoFar all first now i → AllOf (Placed now) all
  all_placed all first now i h so_far = so_far.rest now (λ q g. g) (none_from (Placed now) all i h)
