-- Entries have the steps that they lead on by.
use Rattle.std.proofs.Common.{◌≡◌, ◌≤◌, ◌∙◌, ℕ, ◌+◌, Option, Some, List, [], ◌∷◌, ◌++◌, length, refl, ap, arith}
use Rattle.std.proofs.lemmas.List.{length-append, length-replicate}
use Rattle.shim_base.proofs.Facts.{some_same}
use Rattle.shim_local.specs.Process.{Ops}
use Rattle.shim_semantics.specs.Trees.{Tree, Own, start, steps}
use Rattle.shim_semantics.specs.Systems.{run, on_some}
use Rattle.shim_laws_schedules.proofs.Lengths.{went_on}
use Rattle.shim_laws_replay.specs.Journals.{Entry, Quiet, Did, replay, entry_after, events_of, all_events}
use Rattle.shim_laws_replay.proofs.Runs.{run_counts, entry_run}
use Rattle.shim_laws_journals.specs.Ranges.{steps_in, steps_in_all}

events_counted : (e : Entry) → length (events_of e) ≡ steps_in e
events_counted (Quiet p n) = length-replicate n (Own p)
events_counted (Did e) = refl

pub all_counted : (es : List Entry) → length (all_events es) ≡ steps_in_all es
all_counted [] = refl
all_counted (e ∷ es) =
    let a = length-append (events_of e) (all_events es) in
    let b = events_counted e in
    let c = all_counted es in
    omega (arith, a, b, c)

run_apart : {E T : Type 0} (step : E → T → Option T) (es gs : List E) (t v : T) → run step (es ++ gs) t ≡ Some v → (u : T) × (run step es t ≡ Some u) × (run step gs u ≡ Some v)
run_apart step [] gs t v r = (t, refl, r)
run_apart step (e ∷ es) gs t v r =
    let x = went_on (run step (es ++ gs)) (step e t) v r in
    let w = run_apart step es gs x.0 v x.2 in
    (w.0, ap (on_some (run step es)) x.1 ∙ w.1, w.2)

module _ {S : Type 0} (o : Ops S) where
  pub replay_earlier : (root : S) (js ks : List Entry) (u : Tree S) → replay o root (js ++ ks) ≡ Some u → (t : Tree S) × (replay o root js ≡ Some t) × (run (entry_after o) ks t ≡ Some u)
  unfolding replay
  replay_earlier root js ks u e = run_apart (entry_after o) js ks (start root) u e

  -- an entry adds its steps
  pub entry_counts : (e : Entry) (t u : Tree S) → entry_after o e t ≡ Some u → steps u ≡ steps t + steps_in e
  entry_counts e t u h =
      let a = run_counts o (events_of e) t u (entry_run o e t u h) in
      let b = events_counted e in
      omega (arith, a, b)

  -- and none takes any back
  pub entries_go_on : (es : List Entry) (t u : Tree S) → run (entry_after o) es t ≡ Some u → steps t ≤ steps u
  entries_go_on [] t u e = let same : steps t ≡ steps u = ap steps (some_same t u e) in omega (arith, same)
  entries_go_on (e ∷ es) t u h =
      let x = went_on (run (entry_after o) es) (entry_after o e t) u h in
      let a = entry_counts e t x.0 x.1 in
      let b = entries_go_on es x.0 u x.2 in
      omega (arith, a, b)
