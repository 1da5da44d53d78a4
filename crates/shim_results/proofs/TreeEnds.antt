-- What a run comes to, from a tree at which a schedule has ended, and from the meaning itself.
use Rattle.std.proofs.Common.{◌≡◌, ◌≢◌, ◌⊎◌, inl, inr, refl, sym, ap, subst, ◌∙◌, arith}
use Rattle.shim_local.specs.declared.Ended.{Ended}
use Rattle.shim_local.specs.declared.Outcome.{Outcome}
use Rattle.shim_local.specs.declared.Outcome.TheVariants.{Done, Uncaught, Trapped, Blocked, Spent}
use Rattle.shim_process.specs.Forks.{root}
use Rattle.shim_process.specs.LocalState.{LocalState}
use Rattle.shim_process.specs.OwnSlots.{UsesOwnSlots}
use Rattle.shim_process.specs.Ops.{process_ops}
use Rattle.shim_semantics.specs.Endings.{ended}
use Rattle.shim_semantics.specs.Trees.{Tree, start, IsQuiescent}
use Rattle.shim_semantics.specs.Walks.{meaning}
use Rattle.shim_laws_replay.specs.Ends.{AgreesWithMeaning}
use Rattle.shim_laws_replay.specs.ReadOff.{IsReadOffAs}
use Rattle.shim_reference.specs.Naming.{named}
use Rattle.shim_reference.specs.Reference.{meaning_of, reference_of}
use Rattle.shim_results.specs.RunEnds.{Execution, tree_of, end_of, read_off, status_of, status_of_outcome, IsEnd, IsStoppedAt, as_meant, stopped}
use Rattle.shim_command.specs.declared.mode.Course.TheVariants.{ByFirstEvents, InSomeOrder}
use Rattle.shim_results.proofs.Causes.{rests_unless_spent, status_named, decides_spent}

-- an outcome is that of a run that was stopped, or has another status
spent_or_not : (o : Outcome) → (o ≡ Spent) ⊎ ((o ≢ Spent) × (status_of_outcome o ≢ 4))
spent_or_not Done = inr ((λ e. absurd (cc e)), λ e. omega (arith, e))
spent_or_not (Uncaught i) = inr ((λ e. absurd (cc e)), λ e. omega (arith, e))
spent_or_not Trapped = inr ((λ e. absurd (cc e)), λ e. omega (arith, e))
spent_or_not Blocked = inr ((λ e. absurd (cc e)), λ e. omega (arith, e))
spent_or_not Spent = inl refl

-- the tree of the meaning, as the laws of journals name it
abbrev meant : Execution → Tree LocalState
meant x = meaning process_ops x.budget (start (root x.source x.input))

pub tree_is : (x : Execution) → tree_of x ≡ meant x
unfolding tree_of meaning_of
tree_is x = refl

pub end_is : (x : Execution) → end_of x ≡ read_off x (meant x)
unfolding end_of reference_of meaning_of
end_is x = refl

status_is : (x : Execution) → status_of x ≡ status_of_outcome (ended process_ops (meant x)).outcome
status_is x = ap (λ (e : Ended). status_of_outcome e.outcome) (end_is x) ∙ status_named x.source.main_throws (ended process_ops (meant x)).outcome

-- a tree at which a schedule has ended, where the meaning is stopped
module _ (x : Execution) (t : Tree LocalState) (own : UsesOwnSlots x.source) (agrees : AgreesWithMeaning process_ops (root x.source x.input) x.budget t) (ends_agree : IsReadOffAs process_ops (root x.source x.input) x.budget t) where
  goes_on : status_of x ≡ 4 → IsQuiescent process_ops t → ⊥
  goes_on four q =
      let P : Tree LocalState → Type 0 = λ u. IsQuiescent process_ops u in
      decides_spent.only x own four (subst P (sym (tree_is x)) (agrees.alike.rests.0 q))

  spent_there : (ended process_ops t).outcome ≡ Spent → status_of x ≡ 4 → IsStoppedAt x t
  spent_there here four = let whole = ends_agree.whole here in record { reached = whole.0; counted = whole.1; goes_on = goes_on four }

  -- is one at which the run is stopped
  pub stopped_there : status_of x ≡ 4 → IsStoppedAt x t
  stopped_there four = by_outcome (spent_or_not (ended process_ops (meant x)).outcome)
    where
      by_outcome : ((ended process_ops (meant x)).outcome ≡ Spent) ⊎ (((ended process_ops (meant x)).outcome ≢ Spent) × (status_of_outcome (ended process_ops (meant x)).outcome ≢ 4)) → IsStoppedAt x t
      by_outcome (inl spent) = spent_there (ends_agree.spent.1 spent) four
      by_outcome (inr (other, apart)) = absurd (apart (sym (status_is x) ∙ four))

  -- and where it isn't, just the tree of the meaning
  pub rested_there : (status_of x ≡ 4 → ⊥) → t ≡ tree_of x
  rested_there whole =
      let P : Tree LocalState → Type 0 = λ u. IsQuiescent process_ops u in
      agrees.alike.same (subst P (tree_is x) (rests_unless_spent x own whole)) ∙ sym (tree_is x)

  -- so it gives what a run may come to
  pub tree_end : IsEnd InSomeOrder x (read_off x t)
  tree_end = by_outcome (spent_or_not (ended process_ops (meant x)).outcome)
    where
      by_outcome : ((ended process_ops (meant x)).outcome ≡ Spent) ⊎ (((ended process_ops (meant x)).outcome ≢ Spent) × (status_of_outcome (ended process_ops (meant x)).outcome ≢ 4)) → IsEnd InSomeOrder x (read_off x t)
      by_outcome (inl spent) =
          let four : status_of x ≡ 4 = status_is x ∙ ap status_of_outcome spent in
          let here = ends_agree.spent.1 spent in
          stopped four (t, spent_there here four, refl) (status_named x.source.main_throws (ended process_ops t).outcome ∙ ap status_of_outcome here)
      by_outcome (inr (other, apart)) = as_meant (λ four. apart (sym (status_is x) ∙ four)) (ap (named x.source.main_throws) (ends_agree.same other) ∙ sym (end_is x))

-- and the meaning is what a run by first events comes to
pub meaning_end : (x : Execution) (e : Ended) → e ≡ end_of x → IsEnd ByFirstEvents x e
meaning_end x e is = by_outcome (spent_or_not (end_of x).outcome)
  where
    by_outcome : ((end_of x).outcome ≡ Spent) ⊎ (((end_of x).outcome ≢ Spent) × (status_of_outcome (end_of x).outcome ≢ 4)) → IsEnd ByFirstEvents x e
    by_outcome (inl spent) = stopped (ap status_of_outcome spent) is (ap (λ (y : Ended). status_of_outcome y.outcome) is ∙ ap status_of_outcome spent)
    by_outcome (inr (other, apart)) = as_meant apart is
