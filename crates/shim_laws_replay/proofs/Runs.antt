-- The events of a journal are a run, which is as long as the tree has steps; and a journal with an entry more is a run that goes on.
use Rattle.std.proofs.Common.{◌≡◌, ℕ, zero, suc, ◌+◌, Option, Some, List, [], ◌∷◌, ◌++◌, length, refl, ap, ◌∙◌, arith}
use Rattle.std.specs.Prelude.{replicate}
use Rattle.shim_base.specs.Paths.{Path}
use Rattle.shim_local.specs.Process.{Ops}
use Rattle.shim_local.specs.Laws.{LocalLaws}
use Rattle.shim_semantics.specs.Places.{led_to}
use Rattle.shim_semantics.specs.Trees.{Tree, Event, Own, after, start, steps}
use Rattle.shim_semantics.specs.Systems.{run, on_some}
use Rattle.shim_semantics.specs.Sound.{SharesItsOwn}
use Rattle.shim_semantics.specs.Laws.{IsSoundTree}
use Rattle.shim_semantics.proofs.Counting.{event_counts, none_counted}
use Rattle.shim_semantics.proofs.SoundEvents.{events_keep_sound, runs_stay_sound}
use Rattle.shim_laws_schedules.proofs.Lengths.{went_on}
use Rattle.shim_laws_schedules.proofs.Rounds.{run_on, run_one}
use Rattle.shim_base.proofs.Facts.{some_same, chosen}
use Rattle.shim_laws_replay.specs.Journals.{Entry, Quiet, Did, is_before_quiet, quiet_step, quiet_steps, entry_after, replay, events_of, all_events, JournalsAreRuns}
use Rattle.shim_laws_replay.specs.Moves.{JournalsGoOn}

-- a run of some events and then of others, taken apart
run_apart : {E T : Type 0} (step : E → T → Option T) (es gs : List E) (t v : T) → run step (es ++ gs) t ≡ Some v → (u : T) × (run step es t ≡ Some u) × (run step gs u ≡ Some v)
run_apart step [] gs t v r = (t, refl, r)
run_apart step (e ∷ es) gs t v r =
    let x = went_on (run step (es ++ gs)) (step e t) v r in
    let w = run_apart step es gs x.0 v x.2 in
    (w.0, ap (on_some (run step es)) x.1 ∙ w.1, w.2)

module _ {S : Type 0} (o : Ops S) where
  -- a run counts as many steps as it has events
  pub run_counts : (es : List Event) (t u : Tree S) → run (after o) es t ≡ Some u → steps u ≡ steps t + length es
  run_counts [] t u e = let same : steps t ≡ steps u = ap steps (some_same t u e) in omega (arith, same)
  run_counts (f ∷ es) t u e =
      let x = went_on (run (after o) es) (after o f t) u e in
      let one = event_counts o f t x.0 x.1 in
      let rest = run_counts es x.0 u x.2 in
      omega (arith, one, rest)

  pub starts_at_none : (root : S) → steps (start root) ≡ 0
  starts_at_none root = none_counted root (start root) refl

  -- an entry of quiet steps is a run of own steps
  pub quiet_steps_run : (p : Path) (n : ℕ) (t u : Tree S) → quiet_steps o p n t ≡ Some u → run (after o) (replicate n (Own p)) t ≡ Some u
  quiet_steps_run p zero t u e = e
  quiet_steps_run p (suc n) t u e =
      let x = went_on (quiet_steps o p n) (quiet_step o p t) u e in
      let own = (chosen (is_before_quiet o p (led_to o t.root p)) (after o (Own p) t) x.0 x.1).1 in
      ap (on_some (run (after o) (replicate n (Own p)))) own ∙ quiet_steps_run p n x.0 u x.2

  pub entry_run : (j : Entry) (t u : Tree S) → entry_after o j t ≡ Some u → run (after o) (events_of j) t ≡ Some u
  entry_run (Quiet p n) t u e = quiet_steps_run p n t u e
  entry_run (Did f) t u e = run_one (after o) f t u e

  entries_run : (js : List Entry) (t u : Tree S) → run (entry_after o) js t ≡ Some u → run (after o) (all_events js) t ≡ Some u
  entries_run [] t u e = e
  entries_run (j ∷ js) t u e =
      let x = went_on (run (entry_after o) js) (entry_after o j t) u e in
      run_on (after o) (events_of j) (all_events js) t x.0 u (entry_run j t x.0 x.1) (entries_run js x.0 u x.2)

  pub journal_run : (root : S) (js : List Entry) (t : Tree S) → replay o root js ≡ Some t → run (after o) (all_events js) (start root) ≡ Some t
  unfolding replay
  journal_run root js t e = entries_run js (start root) t e

  pub journals_are_runs : JournalsAreRuns o
  journals_are_runs root js t e =
      let leads = journal_run root js t e in
      let many = run_counts (all_events js) (start root) t leads in
      record { leads = leads; counted = omega (arith, many, starts_at_none root) }

  pub replay_none : (root : S) → replay o root [] ≡ Some (start root)
  unfolding replay
  replay_none root = refl

  pub replay_more : (root : S) (js : List Entry) (j : Entry) (t u : Tree S) → replay o root js ≡ Some t → entry_after o j t ≡ Some u → replay o root (js ++ j ∷ []) ≡ Some u
  unfolding replay
  replay_more root js j t u e h = run_on (entry_after o) js (j ∷ []) (start root) t u e (run_one (entry_after o) j t u h)

  replay_earlier : (root : S) (js ks : List Entry) (u : Tree S) → replay o root (js ++ ks) ≡ Some u → (t : Tree S) × (replay o root js ≡ Some t) × (run (entry_after o) ks t ≡ Some u)
  unfolding replay
  replay_earlier root js ks u e = run_apart (entry_after o) js ks (start root) u e

  pub replay_sound : LocalLaws o → (root : S) (js : List Entry) (t : Tree S) → o.sound root → SharesItsOwn o root → replay o root js ≡ Some t → IsSoundTree o t
  replay_sound law root js t sound own e = runs_stay_sound o law (start root) t (all_events js) ((events_keep_sound o law).starts root sound own) (journal_run root js t e)

  pub journals_go_on : LocalLaws o → JournalsGoOn o
  journals_go_on law = record {
    empty = replay_none;
    one_more = replay_more;
    earlier = replay_earlier;
    sound = replay_sound law;
  }
