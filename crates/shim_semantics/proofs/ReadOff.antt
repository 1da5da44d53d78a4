-- What is read off a tree, put together of its parts.
use Rattle.std.proofs.Common.{◌≡◌, ◌+◌, Bool, map, cond, ap, ◌∙◌}
use Rattle.std.specs.FinMap as finite
use Rattle.shim_local.specs.Process.{Ops}
use Rattle.shim_local.specs.declared.Ended.{Ended as Read}
use Rattle.shim_local.specs.declared.Outcome.TheVariants.{Spent}
use Rattle.shim_semantics.specs.Trees.{Tree, sum}
use Rattle.shim_semantics.specs.Walks.{walk}
use Rattle.shim_semantics.specs.Endings.{ended, is_empty, outcome, outcome_of_root, waits_of, history_of, own_steps, all_logs}

pub read_off : {S : Type 0} (o : Ops S) (t : Tree S) (r : Read) (quiescent : Bool) → quiescent ≡ is_empty (walk o t.root)
    → r.output ≡ t.output
    → r.histories ≡ map history_of (finite.entries t.histories)
    → r.logs ≡ all_logs (finite.entries t.logs)
    → r.waits ≡ waits_of o t.root r.outcome
    → r.own ≡ map own_steps (finite.entries t.counts)
    → r.events ≡ t.events
    → r.steps ≡ sum (finite.values t.counts) + t.events
    → r.outcome ≡ cond quiescent (outcome_of_root t.root) Spent
    → r ≡ ended o t
unfolding ended
read_off o t r quiescent is output histories logs waits own events steps came =
    let all : r.outcome ≡ outcome o t.root = came ∙ ap (λ b. cond b (outcome_of_root t.root) Spent) is in
    λ i. record {
      output = output i;
      histories = histories i;
      logs = logs i;
      waits = (waits ∙ ap (waits_of o t.root) all) i;
      own = own i;
      events = events i;
      steps = steps i;
      outcome = all i;
    }
