-- Chairs that count for the same chairs as all chairs of a board are all of them, too.
use Rattle.std.proofs.Common.{◌≡◌, ℕ, zero, suc, ◌<◌, List, [], ◌∷◌, ◌++◌, All, length, slice_index_or, refl, sym, ap, ◌∙◌, subst, arith}
use Rattle.shim_base.specs.declared.named.Named.{Ghosts}
use Rattle.shim_board.specs.declared.chair.Chair.{Chair}
use Rattle.shim_board.specs.Counting.{one_below, occurs, Each}
use Rattle.shim_base.specs.Lists.{total}
use Rattle.shim_board.specs.Chairs.{view_of, chairs_counted, AreAll, StandsAs}
use Rattle.shim_board.proofs.Totals.{total-snoc, each-add, each-snoc, each-all, all-each}

same_total : {V : Type 0} (f : V → ℕ) (xs ys : List V) → length ys ≡ length xs → ((i : ℕ) (x : V) → i < length xs → f (slice_index_or ys i x) ≡ f (slice_index_or xs i x)) → total f ys ≡ total f xs
same_total f [] [] long same = refl
same_total f [] (y ∷ ys) long same = absurd (omega arith)
same_total f (x ∷ xs) [] long same = absurd (omega arith)
same_total f (x ∷ xs) (y ∷ ys) long same = let a = same zero x (omega arith) in let b = same_total f xs ys (omega arith) (λ i d inside. same (suc i) d (omega arith)) in omega arith

-- what holds of each still does when the last is another one
pub all_but_last : {V : Type 0} (P : V → Type 0) (xs was now : List V) (x y : V) → was ≡ xs ++ x ∷ [] → now ≡ xs ++ y ∷ [] → All P was → P y → All P now
all_but_last P xs was now x y before after h p = each-all P now (subst (Each P) (sym after) (each-add P xs y (each-snoc P xs x (subst (Each P) before (all-each P was h))).0 p))

module _ {T N M : Type 0} {g : Ghosts N M} where
  same_numbers : (cs ds : List (Chair T N M g)) → chairs_counted ds ≡ chairs_counted cs → ((x : ℕ) → total (λ c. occurs x (view_of c).numbers) ds ≡ total (λ c. occurs x (view_of c).numbers) cs) → AreAll cs → AreAll ds
  same_numbers cs ds count_is same all = ((let some_told = all.0 in omega arith), λ x. same x ∙ all.1 x ∙ ap (one_below x) (sym count_is))

  -- each counts for the same chairs as the one at its place in the first list
  abbrev pub AllStandAs : List (Chair T N M g) → List (Chair T N M g) → Type 0
  AllStandAs cs ds = (length ds ≡ length cs) × ((i : ℕ) (c : Chair T N M g) → i < length cs → StandsAs (slice_index_or cs i c) (slice_index_or ds i c))

  pub stand_as_all : (cs ds : List (Chair T N M g)) → AllStandAs cs ds → AreAll cs → AreAll ds
  stand_as_all cs ds same = same_numbers cs ds
      (same_total (λ c. (view_of c).count) cs ds same.0 (λ i d inside. (same.1 i d inside).1))
      (λ x. same_total (λ c. occurs x (view_of c).numbers) cs ds same.0 (λ i d inside. ap (occurs x) (same.1 i d inside).0))

  -- the last one is another, which counts for the same chairs
  pub last_stands_as : (cs was now : List (Chair T N M g)) (c d : Chair T N M g) → was ≡ cs ++ c ∷ [] → now ≡ cs ++ d ∷ [] → StandsAs c d → AreAll was → AreAll now
  last_stands_as cs was now c d before after same = same_numbers was now (sums (λ e. (view_of e).count) same.1) (λ x. sums (λ e. occurs x (view_of e).numbers) (ap (occurs x) same.0))
    where
      sums : (f : Chair T N M g → ℕ) → f d ≡ f c → total f now ≡ total f was
      sums f e = ap (total f) after ∙ (let a = total-snoc f cs d in let b = total-snoc f cs c in omega arith) ∙ ap (total f) (sym before)
