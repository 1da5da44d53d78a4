-- What the status of the meaning says of the tree to which it came.
use Rattle.std.proofs.Common.{◌≡◌, ◌≢◌, ◌↔◌, ℕ, zero, suc, ◌+◌, inl, inr, Bool, IsTrue, None, List, [], ◌∷◌, map, cond, refl, sym, ap, ◌∙◌, arith}
use Rattle.std.specs.FinMap as finite
use Rattle.shim_base.specs.Paths.{Path}
use Rattle.shim_local.specs.Process.{Ops}
use Rattle.shim_local.specs.declared.Outcome.{Outcome}
use Rattle.shim_local.specs.declared.Outcome.TheVariants.{Done, Uncaught, Trapped, Blocked, Spent}
use Rattle.shim_process.specs.OwnSlots.{UsesOwnSlots}
use Rattle.shim_process.specs.Ops.{process_ops}
use Rattle.shim_process.specs.LocalState.{LocalState}
use Rattle.shim_semantics.specs.Nodes.{Node, Live, Forked, Ended, Dead, has_ended, is_dead, goes}
use Rattle.shim_semantics.specs.Trees.{Tree, Event, steps, sum, IsQuiescent}
use Rattle.shim_semantics.specs.Walks.{walk, first_event, head}
use Rattle.shim_semantics.specs.Endings.{ended, own_steps, is_empty, outcome, outcome_of_label, outcome_of_root}
use Rattle.shim_reference.specs.Naming.{named, named_outcome}
use Rattle.shim_reference.specs.Reference.{reference_of}
use Rattle.shim_reference.specs.Runs.{IsEndOfRun}
use Rattle.shim_results.specs.RunEnds.{Execution, tree_of, end_of, status_of, status_of_outcome, printed_steps, IsDone, IsFailed, IsBlocked, IsSpent}
use Rattle.shim_results.proofs.MeaningEnds.{was_run}

-- a name in a label's place changes no status
pub status_named : (throws : List ℕ) (e : Outcome) → status_of_outcome (named_outcome throws e) ≡ status_of_outcome e
status_named throws Done = refl
status_named throws (Uncaught label) = refl
status_named throws Trapped = refl
status_named throws Blocked = refl
status_named throws Spent = refl

-- how a tree has ended whose walk finds nothing
at_rest : {S : Type 0} (root : Node S) (es : List Event) → head es ≡ None → cond (is_empty es) (outcome_of_root root) Spent ≡ outcome_of_root root
at_rest root [] none = refl
at_rest root (e ∷ es) none = absurd (cc)

-- and how one has whose walk finds something
still_going : {S : Type 0} (root : Node S) (es : List Event) → head es ≢ None → cond (is_empty es) (outcome_of_root root) Spent ≡ Spent
still_going root [] some = absurd (some refl)
still_going root (e ∷ es) some = refl

-- the outcome that is printed of a run is that of its tree, named
outcome_named : {S : Type 0} (o : Ops S) (throws : List ℕ) (t : Tree S) → (named throws (ended o t)).outcome ≡ named_outcome throws (outcome o t.root)
unfolding ended
outcome_named o throws t = refl

-- the status of the meaning is that of the outcome of its tree
status_named_as : (x : Execution) → status_of x ≡ status_of_outcome (outcome process_ops (tree_of x).root)
unfolding end_of reference_of tree_of
status_named_as x =
    let t = tree_of x in
    ap status_of_outcome (outcome_named process_ops x.source.main_throws t) ∙ status_named x.source.main_throws (outcome process_ops t.root)

status_at_rest : (x : Execution) → first_event process_ops (tree_of x) ≡ None → status_of x ≡ status_of_outcome (outcome_of_root (tree_of x).root)
status_at_rest x none =
    let t = tree_of x in
    status_named_as x ∙ ap status_of_outcome (at_rest t.root (walk process_ops t.root) none)

status_stopped : (x : Execution) → first_event process_ops (tree_of x) ≢ None → status_of x ≡ 4
status_stopped x some =
    let t = tree_of x in
    status_named_as x ∙ ap status_of_outcome (still_going t.root (walk process_ops t.root) some)

-- a root that died has the status 1, whatever its label
dead_status : (x : ℕ) → status_of_outcome (outcome_of_label x) ≡ 1
dead_status zero = refl
dead_status (suc x) = refl

-- what the status of a root at rest says of it
root_ended : {S : Type 0} (n : Node S) → IsTrue (has_ended n) ↔ (status_of_outcome (outcome_of_root n) ≡ 0)
root_ended (Live l) = (λ h. absurd (cc), λ e. absurd (omega (arith, e)))
root_ended (Forked l ks) = (λ h. absurd (cc), λ e. absurd (omega (arith, e)))
root_ended (Ended l) = (λ h. refl, λ e. refl)
root_ended (Dead l d) = (λ h. absurd (cc), λ e. let one = dead_status d.label in absurd (omega (arith, e, one)))

root_died : {S : Type 0} (n : Node S) → IsTrue (is_dead n) ↔ (status_of_outcome (outcome_of_root n) ≡ 1)
root_died (Live l) = (λ h. absurd (cc), λ e. absurd (omega (arith, e)))
root_died (Forked l ks) = (λ h. absurd (cc), λ e. absurd (omega (arith, e)))
root_died (Ended l) = (λ h. absurd (cc), λ e. absurd (omega (arith, e)))
root_died (Dead l d) = (λ h. dead_status d.label, λ e. refl)

root_goes : {S : Type 0} (n : Node S) → IsTrue (goes n) ↔ (status_of_outcome (outcome_of_root n) ≡ 3)
root_goes (Live l) = (λ h. refl, λ e. refl)
root_goes (Forked l ks) = (λ h. refl, λ e. refl)
root_goes (Ended l) = (λ h. absurd (cc), λ e. absurd (omega (arith, e)))
root_goes (Dead l d) = (λ h. absurd (cc), λ e. let one = dead_status d.label in absurd (omega (arith, e, one)))

-- no root at rest has the status of a run that was stopped
never_spent : {S : Type 0} (n : Node S) → status_of_outcome (outcome_of_root n) ≡ 4 → ⊥
never_spent (Live l) e = omega (arith, e)
never_spent (Forked l ks) e = omega (arith, e)
never_spent (Ended l) e = omega (arith, e)
never_spent (Dead l d) e = let one = dead_status d.label in omega (arith, e, one)

-- of a source whose units use slots of their own, the status comes exactly where this is so
pub record DecidesCause (status : ℕ) (Cause : Execution → Type 0) : Type 0 where
  pub only : (x : Execution) → UsesOwnSlots x.source → status_of x ≡ status → Cause x
  pub when : (x : Execution) → UsesOwnSlots x.source → Cause x → status_of x ≡ status

-- nothing can happen any more, and the root is of this kind
abbrev RestsSo : (Node LocalState → Bool) → Execution → Type 0
RestsSo kind x = IsQuiescent process_ops (tree_of x) × IsTrue (kind (tree_of x).root)

rest_decides : (status : ℕ) (kind : Node LocalState → Bool) → (status ≡ 4 → ⊥) → ((n : Node LocalState) → IsTrue (kind n) ↔ (status_of_outcome (outcome_of_root n) ≡ status)) → DecidesCause status (RestsSo kind)
rest_decides status kind apart decides = record { only = λ x own is. only x (was_run x own) is; when = λ x own cause. when x (was_run x own) cause } where
  only : (x : Execution) → IsEndOfRun process_ops x.budget (tree_of x) → status_of x ≡ status → RestsSo kind x
  only x (inl (none, quiet)) is = (quiet, (decides (tree_of x).root).1 (sym (status_at_rest x none) ∙ is))
  only x (inr (some, busy, full)) is = absurd (apart (sym is ∙ status_stopped x some))

  when : (x : Execution) → IsEndOfRun process_ops x.budget (tree_of x) → RestsSo kind x → status_of x ≡ status
  when x (inl (none, quiet)) cause = status_at_rest x none ∙ (decides (tree_of x).root).0 cause.1
  when x (inr (some, busy, full)) cause = absurd (busy cause.0)

pub decides_done : DecidesCause 0 IsDone
decides_done = rest_decides 0 has_ended (λ e. omega (arith, e)) root_ended

pub decides_failed : DecidesCause 1 IsFailed
decides_failed = rest_decides 1 is_dead (λ e. omega (arith, e)) root_died

pub decides_blocked : DecidesCause 3 IsBlocked
decides_blocked = rest_decides 3 goes (λ e. omega (arith, e)) root_goes

-- so a run of first events that comes to be blocked came to rest, and its root goes on
pub blocked_rests : (x : Execution) → IsEndOfRun process_ops x.budget (tree_of x) → (end_of x).outcome ≡ Blocked → IsBlocked x
blocked_rests x (inl (none, quiet)) is = (quiet, (root_goes (tree_of x).root).1 (sym (status_at_rest x none) ∙ ap status_of_outcome is))
blocked_rests x (inr (some, busy, full)) is = absurd (let three : status_of x ≡ 3 = ap status_of_outcome is in omega (arith, three, status_stopped x some))

pub decides_spent : DecidesCause 4 IsSpent
decides_spent = record { only = λ x own is. only x (was_run x own) is; when = λ x own cause. when x (was_run x own) cause } where
  only : (x : Execution) → IsEndOfRun process_ops x.budget (tree_of x) → status_of x ≡ 4 → IsSpent x
  only x (inl (none, quiet)) is = absurd (never_spent (tree_of x).root (sym (status_at_rest x none) ∙ is))
  only x (inr (some, busy, full)) is = busy

  when : (x : Execution) → IsEndOfRun process_ops x.budget (tree_of x) → IsSpent x → status_of x ≡ 4
  when x (inl (none, quiet)) cause = absurd (cause quiet)
  when x (inr (some, busy, full)) cause = status_stopped x some

-- a meaning that isn't stopped comes to rest
pub rests_unless_spent : (x : Execution) → UsesOwnSlots x.source → (status_of x ≡ 4 → ⊥) → IsQuiescent process_ops (tree_of x)
rests_unless_spent x own whole = rests (was_run x own)
  where
    rests : IsEndOfRun process_ops x.budget (tree_of x) → IsQuiescent process_ops (tree_of x)
    rests (inl (none, quiet)) = quiet
    rests (inr (some, busy, full)) = absurd (whole (status_stopped x some))

-- the counts that are printed are those of the tree
counts_of : (es : List (Path × ℕ)) → map (λ s. s.count) (map own_steps es) ≡ map (λ e. e.1) es
counts_of [] = refl
counts_of (e ∷ es) = ap (λ (ns : List ℕ). e.1 ∷ ns) (counts_of es)

-- so they add up to its steps
pub printed : {S : Type 0} (o : Ops S) (throws : List ℕ) (t : Tree S) → printed_steps (named throws (ended o t)) ≡ steps t
unfolding ended
printed o throws t = ap (λ (ns : List ℕ). sum ns + t.events) (counts_of (finite.entries t.counts))

-- where the meaning is stopped, it did as many events as the budget has
pub spent_steps : (x : Execution) → UsesOwnSlots x.source → status_of x ≡ 4 → steps (tree_of x) ≡ x.budget
spent_steps x own is = full (was_run x own)
  where
    full : IsEndOfRun process_ops x.budget (tree_of x) → steps (tree_of x) ≡ x.budget
    full (inl (none, quiet)) = absurd (never_spent (tree_of x).root (sym (status_at_rest x none) ∙ is))
    full (inr (some, busy, n)) = n
