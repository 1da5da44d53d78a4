-- A board begins within what each step keeps.
use Rattle.std.proofs.Common.{zero, suc, map, replicate, ◌≡◌, ℕ, ◌+◌, ◌<◌, List, [], ◌∷◌, get_or, refl, sym, ap, ◌∙◌, subst, arith, Some, None}
use mathlib.Core.Option.{some, some-injective, some-ne-none}
use lib.ListN.{get_elem?, length-map, length-replicate}
use Rattle.atomic_table.specs.Table.{opening}
use Rattle.shim_board.specs.declared.view.View.{View}
use Rattle.shim_board.specs.declared.content.Content.{Content}
use Rattle.shim_board.specs.declared.content.Content.TheVariants.{Nothing, Net}
use Rattle.shim_board.specs.Counting.{times}
use Rattle.shim_board.specs.Views.{first_chair}
use Rattle.shim_board.specs.Kept.{CountsKept, Kept}

pub zeros : (n i : ℕ) → ◌≡◌ {A = ℕ} (get_or (replicate n 0) i 0) 0
zeros zero i = refl
zeros (suc n) zero = refl
zeros (suc n) (suc i) = zeros n i

module _ {M : Type 0} where
  pub only : (v u : View M) (j : ℕ) → get_elem? (v ∷ []) j ≡ some u → v ≡ u
  only v u zero e = some-injective v u e
  only v u (suc j) e = absurd (some-ne-none u (sym e))

  pub starts : (name : M) (n : ℕ) → CountsKept (replicate n 0) (first_chair name ∷ [])
  starts name n = let v : View M = first_chair name in record {
    puts = λ k r. let z = zeros n (k + 1) in omega arith;
    claims = λ k r. let z = zeros n (k + 1) in omega arith;
    collections = λ k r. let z = zeros n (k + 1) in omega arith;
    claimed = λ k r. let z = zeros n (k + 1) in omega arith;
    owned = λ j u e k r h. absurd (let a : None ≡ Some (k, r) = ap (λ (z : View M). z.claimed) (only v u j e) ∙ h in cc);
    turns = sym (zeros n 0);
    turn = let z = zeros n 0 in omega arith;
    bounded = λ k. let z = zeros n (k + 1) in omega arith;
    noted = λ j u e k r h. absurd (let a : 0 < times k r v.noted = subst (λ (z : View M). 0 < times k r z.noted) (sym (only v u j e)) h in omega arith);
    hand = λ j u e k x h. absurd (let a : None ≡ Some (k, x) = ap (λ (z : View M). z.hand) (only v u j e) ∙ h in cc);
    seen = λ j u e k x h. absurd (let a : 0 < times k x v.seen = subst (λ (z : View M). 0 < times k x z.seen) (sym (only v u j e)) h in omega arith);
    numbers = λ x. omega arith;
    unspent = λ j u e none_left. absurd (let a : 0 ∷ [] ≡ [] = ap (λ (z : View M). z.numbers) (only v u j e) ∙ none_left in cc);
  }

blank : {A : Type 0} (c : A) (n k : ℕ) → k < n → get_elem? (map some (replicate n c)) k ≡ some (some c)
blank c zero k h = absurd (omega arith)
blank c (suc n) zero h = refl
blank c (suc n) (suc k) h = blank c n k (omega arith)

module _ {T N M : Type 0} (label : N → M) where
  pub opens : (n : ℕ) (net : N) → Kept {T = T} label (label net) (opening (replicate (n + 1) 0) (Net net ∷ replicate n Nothing) (first_chair (label net)))
  opens n net = let c : Content T N = Nothing in let xs : List (Content T N) = Net net ∷ replicate n c in let a = length-map (replicate n c) (λ x. some x) in let b = length-replicate n c in (
    starts (label net) (n + 1),
    record {
      one_each = let d = length-replicate {A = ℕ} (n + 1) 0 in omega arith;
      slots = λ k i. let z = zeros (n + 1) (k + 1) in
          ((λ e. absurd (omega arith)), (λ _ _. subst (λ (j : ℕ). get_elem? (map some xs) j ≡ some (some c)) (let j : suc k ≡ k + 1 = omega arith in j) (blank c n k (omega arith))), (λ e. absurd (omega arith)));
      net = λ _. (net, refl, refl);
      net_out = λ e. absurd (let z = zeros (n + 1) 0 in omega arith);
      names = λ j u e sits. ap (λ (a : View M). a.name) (sym (only (first_chair (label net)) u j e));
    },
  )

  pub opens_as : (n : ℕ) (net : N) (board : M) (words : List ℕ) (cells : List (Content T N)) → board ≡ label net → words ≡ replicate (n + 1) 0 → cells ≡ Net net ∷ replicate n Nothing → Kept label board (opening words cells (first_chair board))
  opens_as n net board words cells b w c = subst (λ (z : M × List ℕ × List (Content T N)). Kept label z.0 (opening z.1 z.2 (first_chair z.0))) (λ i. (sym b i, sym w i, sym c i)) (opens n net)
