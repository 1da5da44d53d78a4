-- The meaning of a source comes to rest within the budget, or is stopped by it.
use Rattle.std.proofs.Common.{◌≡◌, ℕ, inl, inr, Option, Some, None, length, refl, sym, arith}
use Rattle.shim_local.specs.Process.{Ops}
use Rattle.shim_local.specs.Laws.{LocalLaws}
use Rattle.shim_process.specs.Forks.{root}
use Rattle.shim_process.specs.OwnSlots.{UsesOwnSlots}
use Rattle.shim_process.specs.Ops.{process_ops}
use Rattle.shim_process.proofs.AllLaws.{process_laws}
use Rattle.shim_process.proofs.PlaceRoot.{root_sound}
use Rattle.shim_semantics.specs.Laws.{IsSoundTree}
use Rattle.shim_semantics.specs.Sound.{SharesItsOwn}
use Rattle.shim_semantics.specs.Trees.{Tree, Event, start, steps, IsQuiescent}
use Rattle.shim_semantics.specs.Walks.{first_event, meaning}
use Rattle.shim_semantics.proofs.Counting.{none_counted}
use Rattle.shim_semantics.proofs.Enabled.{first_enabled, none_first}
use Rattle.shim_semantics.proofs.SoundEvents.{events_keep_sound, runs_stay_sound}
use Rattle.shim_laws_replay.proofs.Ends.{EndsWithin, meaning_ends}
use Rattle.shim_laws_replay.proofs.Runs.{run_counts}
use Rattle.shim_reference.specs.Reference.{meaning_of}
use Rattle.shim_reference.specs.Runs.{IsEndOfRun}
use Rattle.shim_reference.proofs.RootChannels.{main_shares_its_own}
use Rattle.shim_results.specs.RunEnds.{Execution, tree_of}

module _ {S : Type 0} (o : Ops S) where
  -- the tree to which the meaning comes is at rest, or something can happen in it and the budget is used up
  came : (root : S) (b : ℕ) (t : Tree S) → IsSoundTree o t → EndsWithin o b (start root) t → (f : Option Event) → first_event o t ≡ f → IsEndOfRun o b t
  came root b t s w None is = inl (is, none_first o t (sym is))
  came root b t s w (Some e) is = inr (some, busy, elim w.ends [ inl q ↦ absurd (busy q) | inr n ↦ full n ])
    where
      some : first_event o t ≡ None → ⊥
      some n = absurd (cc (is, n))

      busy : IsQuiescent o t → ⊥
      busy q = first_enabled o t e s.below (sym is) (q e)

      full : length w.events ≡ b → steps t ≡ b
      full n = let counts = run_counts o w.events (start root) t w.leads in omega (arith, n, counts, none_counted root (start root) refl)

  meaning_came : LocalLaws o → (root : S) (b : ℕ) → o.sound root → SharesItsOwn o root → IsEndOfRun o b (meaning o b (start root))
  meaning_came law root b sound own =
      let s = (events_keep_sound o law).starts root sound own in
      let w = meaning_ends o law b (start root) s in
      came root b (meaning o b (start root)) (runs_stay_sound o law (start root) (meaning o b (start root)) w.events s w.leads) w (first_event o (meaning o b (start root))) refl

-- the tree to which a source comes is the end of a run of first events
pub was_run : (x : Execution) → UsesOwnSlots x.source → IsEndOfRun process_ops x.budget (tree_of x)
unfolding tree_of meaning_of
was_run x own = meaning_came process_ops process_laws (root x.source x.input) x.budget (root_sound x.source x.input own) (main_shares_its_own (root x.source x.input) x.source x.input refl)
