-- A run that always does the first event is a run: each event that it does is enabled in its turn.
use Rattle.std.proofs.Common.{◌≡◌, ℕ, zero, suc, ◌+◌, ◌≤◌, Option, Some, None, List, [], ◌∷◌, length, refl, ap, ◌∙◌, arith}
use Rattle.shim_local.specs.Process.{Ops}
use Rattle.shim_process.specs.Forks.{root}
use Rattle.shim_process.specs.OwnSlots.{UsesOwnSlots}
use Rattle.shim_process.specs.Ops.{process_ops}
use Rattle.shim_semantics.specs.Systems.{run, on_some}
use Rattle.shim_semantics.specs.Trees.{Tree, Event, after, start, steps}
use Rattle.shim_semantics.specs.Walks.{first_event, after_first, or_stay, meaning}
use Rattle.shim_semantics.proofs.Counting.{event_counts, none_counted}
use Rattle.shim_reference.specs.Reference.{meaning_of}
use Rattle.shim_results.specs.RunEnds.{Execution, tree_of, status_of, IsReachedIn}
use Rattle.shim_results.proofs.Causes.{spent_steps}

-- a run of at most so many events leads from the first tree to the second, and counts them
abbrev Reaches : {S : Type 0} → Ops S → ℕ → Tree S → Tree S → Type 0
Reaches o b t u = (es : List Event) × (run (after o) es t ≡ Some u) × (steps u ≡ steps t + length es) × (length es ≤ b)

module _ {S : Type 0} (o : Ops S) where
  one_longer : (b : ℕ) (t u : Tree S) → Reaches o b t u → Reaches o (suc b) t u
  one_longer b t u (es, leads, counts, few) = (es, leads, counts, omega (arith, few))

  one_first : (b : ℕ) (t v u : Tree S) (e : Event) → after o e t ≡ Some v → Reaches o b v u → Reaches o (suc b) t u
  one_first b t v u e is (es, leads, counts, few) =
      (e ∷ es, ap (on_some (run (after o) es)) is ∙ leads, omega (arith, counts, event_counts o e t v is), omega (arith, few))

  module _ (b : ℕ) (rest : (v : Tree S) → Reaches o b v (meaning o b v)) where
    by_event : (t : Tree S) (e : Event) (x : Option (Tree S)) → after o e t ≡ x → Reaches o (suc b) t (meaning o b (or_stay t x))
    by_event t e None is = one_longer b t (meaning o b t) (rest t)
    by_event t e (Some v) is = one_first b t v (meaning o b v) e is (rest v)

    by_first : (t : Tree S) (f : Option Event) → Reaches o (suc b) t (meaning o b (after_first o t f))
    by_first t None = one_longer b t (meaning o b t) (rest t)
    by_first t (Some e) = by_event t e (after o e t) refl

  reached : (b : ℕ) (t : Tree S) → Reaches o b t (meaning o b t)
  unfolding meaning
  reached zero t = ([], refl, omega arith, omega arith)
  reached (suc b) t = by_first b (reached b) t (first_event o t)

-- the run of a source
tree_reached : (x : Execution) → Reaches process_ops x.budget (start (root x.source x.input)) (tree_of x)
unfolding tree_of meaning_of
tree_reached x = reached process_ops x.budget (start (root x.source x.input))

-- the tree to which a run comes is reached within the budget
pub is_reached : (x : Execution) → (n : ℕ) × (n ≤ x.budget) × IsReachedIn n x
is_reached x = let w = tree_reached x in (length w.0, w.3, (w.0, w.1, refl))

-- and where it was stopped, by as many events as the budget has
pub is_reached_whole : (x : Execution) → UsesOwnSlots x.source → status_of x ≡ 4 → IsReachedIn x.budget x
is_reached_whole x own is = whole (tree_reached x) (spent_steps x own is)
  where
    whole : Reaches process_ops x.budget (start (root x.source x.input)) (tree_of x) → steps (tree_of x) ≡ x.budget → IsReachedIn x.budget x
    whole (es, leads, counts, few) full = (es, leads, omega (arith, counts, full, none_counted (root x.source x.input) (start (root x.source x.input)) refl))
