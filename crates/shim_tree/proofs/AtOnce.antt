-- Many quiet steps at once, as the code does them: the state is put in its place, and its count grows.
use Rattle.std.proofs.Common.{◌≡◌, ◌≤◌, ◌<◌, ◌+◌, ℕ, List, Some, sym, ap, subst, ◌∙◌, arith}
use Rattle.std.specs.Prelude.{◌^◌, replicate}
use Rattle.std.specs.FinMap.{FinMap, values}
use Rattle.shim_base.specs.Paths.{Path, path_order}
use Rattle.shim_local.specs.Process.{Ops}
use Rattle.shim_local.specs.Laws.{LocalLaws}
use Rattle.shim_semantics.specs.Nodes.{Node, state}
use Rattle.shim_semantics.specs.Places.{route}
use Rattle.shim_semantics.specs.Trees.{Tree, Own, steps, sum, count_of}
use Rattle.shim_semantics.specs.Quiets.{ComesBy, Advances}
use Rattle.shim_semantics.specs.Laws.{RunsStaySound}
use Rattle.shim_semantics.specs.Sound.{IsSound}
use Rattle.shim_tree.specs.Advancing.{AllHaveCounts}
use Rattle.shim_run_log.specs.Reserved.{stepped, HasCount, more_steps}
use Rattle.shim_semantics.specs.Advancing.{steps_taken, with_state_at}
use Rattle.shim_run_log.proofs.Reserved.{few_steps, more_stay, steps_more}
use Rattle.shim_tree.proofs.Placed.{comes_placed, advanced_placed}
use Rattle.shim_semantics.proofs.Advances.{moved_on, advanced}

-- t is the tree that the code's parts mean, where m are the counts with their places
module _ {S : Type 0} (o : Ops S) (t : Tree S) (m : FinMap path_order ℕ) (counts : t.counts ≡ stepped m) (n : ℕ) (last : S) where
  pub at_its_place : (u : Tree S) → t ≡ u → ComesBy o u n last → AllHaveCounts o m t.root → (p : Path) → p ≡ o.path last → HasCount m p
  at_its_place u e comes h p is = subst (HasCount m) (sym is) (comes_placed o m t n last (subst (λ z. ComesBy o z n last) (sym e) comes) h)

  pub within_bounds : (u : Tree S) → t ≡ u → steps u + n ≤ 4000000 → (p : Path) → count_of m p + n < 2 ^ 64
  within_bounds u e few p =
      let all : sum (values t.counts) + t.events ≡ steps u = ap steps e in
      let same : sum (values t.counts) ≡ sum (values (stepped m)) = ap (λ z. sum (values z)) counts in
      omega (arith, all, same, few, few_steps m p)

  -- the root that the code leaves, and the counts
  module _ (new : Node S) (is : (q : List ℕ) → route (o.path (state t.root)) (o.path last) ≡ Some q → new ≡ with_state_at last q t.root)
      (p : Path) (its : p ≡ o.path last) (more : FinMap path_order ℕ) (grown : more ≡ more_steps m p n) where
    grown_at : more ≡ more_steps m (o.path last) n
    grown_at = grown ∙ ap (λ z. more_steps m z n) its

    counted : stepped more ≡ steps_taken t.counts (o.path last) n
    counted = ap stepped grown_at ∙ (steps_more m (o.path last) n ∙ ap (λ z. steps_taken z (o.path last) n) (sym counts))

    module _ (laws : LocalLaws o) (sound : IsSound o t.root) where
      advances : ComesBy o t n last → Advances o (o.path last) n t (moved_on t new (stepped more))
      advances comes = advanced o laws t (moved_on t new (stepped more)) n last sound.below comes (λ q r i. moved_on t (is q r i) (counted i))

      pub advances_from : (u : Tree S) → t ≡ u → ComesBy o u n last → Advances o (o.path last) n u (moved_on t new (stepped more))
      advances_from u e comes =
          subst (λ z. Advances o (o.path last) n z (moved_on t new (stepped more))) e
          (advances (subst (λ z. ComesBy o z n last) (sym e) comes))

      -- the new tree is sound, and each of its processes has its place
      pub stays_whole : RunsStaySound o → (u : Tree S) → t ≡ u → ComesBy o u n last → AllHaveCounts o m t.root → IsSound o new × AllHaveCounts o more new
      stays_whole stays u e comes h =
          let here = subst (λ z. ComesBy o z n last) (sym e) comes in (
            stays t (moved_on t new (stepped more)) (replicate n (Own (o.path last))) sound (advances here),
            advanced_placed o m more t n last new here (subst (λ z. (q : Path) → HasCount m q → HasCount z q) (sym grown_at) (more_stay m (o.path last) n)) is h,
          )
