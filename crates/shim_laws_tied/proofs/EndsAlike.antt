-- The same is read off tied trees.
use Rattle.std.proofs.Common.{◌≡◌, ◌+◌, map, cond, refl, ap, ◌∙◌}
use Rattle.std.specs.FinMap as finite
use Rattle.shim_base.specs.Paths.{path_order}
use Rattle.shim_local.specs.Process.{Ops}
use Rattle.shim_local.specs.declared.Outcome.{Outcome}
use Rattle.shim_local.specs.declared.Outcome.TheVariants.{Done, Uncaught, Trapped, Blocked, Spent}
use Rattle.shim_semantics.specs.Nodes.{Node, Live, Forked, Ended, Dead}
use Rattle.shim_semantics.specs.Trees.{Tree, sum}
use Rattle.shim_semantics.specs.Endings.{is_empty, outcome, outcome_of_label, outcome_of_root, wait_at, waits_of, history_of, own_steps, all_logs, ended}
use Rattle.shim_laws_tied.specs.Ties.{KeepsTied}
use Rattle.shim_laws_tied.specs.TiedTrees.{TreesTied}
use Rattle.shim_laws_tied.proofs.SoundTies.{Tied}
use Rattle.shim_laws_tied.proofs.WalksAlike.{walk_alike, waiting_alike}

module _ {A B : Type 0} (o : Ops A) (p : Ops B) (R : A → B → Type 0) (keeps : KeepsTied o p R) where
  roots_alike : (n : Node A) (m : Node B) → Tied o p R n m → outcome_of_root n ≡ outcome_of_root m
  roots_alike (Live l) (Live m) h = refl
  roots_alike (Ended l) (Ended m) h = refl
  roots_alike (Dead l d) (Dead m e) h = ap (λ x. outcome_of_label x.label) h.1
  roots_alike (Forked l ks) (Forked m js) h = refl
  roots_alike n m h = absurd h

  outcomes_alike : (n : Node A) (m : Node B) → Tied o p R n m → outcome o n ≡ outcome p m
  outcomes_alike n m h = λ i. cond (is_empty (walk_alike o p R keeps n m h i)) (roots_alike n m h i) Spent

  waits_alike : (n : Node A) (m : Node B) → Tied o p R n m → (x : Outcome) → waits_of o n x ≡ waits_of p m x
  waits_alike n m h Blocked = ap (λ ws. map wait_at (finite.entries (finite.from_entries {R = path_order} ws))) (waiting_alike o p R keeps n m h)
  waits_alike n m h Done = refl
  waits_alike n m h (Uncaught x) = refl
  waits_alike n m h Trapped = refl
  waits_alike n m h Spent = refl

  pub ends_alike : (t : Tree A) (u : Tree B) → TreesTied R t u → Tied o p R t.root u.root → ended o t ≡ ended p u
  unfolding ended
  ends_alike t u h g =
      let outcomes = outcomes_alike t.root u.root g in
      let waits : waits_of o t.root (outcome o t.root) ≡ waits_of p u.root (outcome p u.root) = waits_alike t.root u.root g (outcome o t.root) ∙ ap (waits_of p u.root) outcomes in
      λ i. record {
        output = h.output i;
        histories = map history_of (finite.entries (h.histories i));
        logs = all_logs (finite.entries (h.logs i));
        waits = waits i;
        own = map own_steps (finite.entries (h.counts i));
        events = h.events i;
        steps = sum (finite.values (h.counts i)) + h.events i;
        outcome = outcomes i;
      }
