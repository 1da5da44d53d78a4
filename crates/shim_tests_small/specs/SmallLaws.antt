-- The small process meets the laws of processes.
use Rattle.std.specs.Prelude.{◌≡◌, ◌<◌, ◌≤◌, ℕ, ℤ, Bool, true, false, ltb, Some, None, List, [], ◌∷◌, ◌++◌, ◌&&◌, map, refl}
use Rattle.std.proofs.Common.{ap, sym, subst, ◌∙◌, inl, arith, true≢false}
use Rattle.std.proofs.lemmas.Bool.{and_parts}
use Rattle.std.proofs.lemmas.Bool.Decides.{Decides-ltb}
use Rattle.shim_base.specs.Paths.{Path, Channel, NamedChannel, same_channel}
use Rattle.shim_base.specs.declared.operators.Trap.TheVariants.{Zero}
use Rattle.shim_local.specs.Process.{AtNext, AtPut, AtThrow}
use Rattle.shim_local.specs.Laws.{LocalLaws, Moved, Called, Unwound, IsGiven, by_quiet, by_call, by_unwind, by_fork, by_trap, by_join, by_put, by_receive, by_thrown, by_label}
use Rattle.shim_local.specs.Sameness.{channel_decides}
use Rattle.shim_tests_small.specs.Small.{SmallView, IsSoundSmall, AreOfLastFork, at_trap, byte_put, computed, given_to, in_force, is_root, identity_of, number_at, number_computed, put_stop, small_ops, stop_at, throw_stop, trap_behind}
use Rattle.shim_tests_small.specs.SmallForks as forks
use Rattle.shim_tests_small.specs.declared.small.Step.{Step}
use Rattle.shim_tests_small.specs.declared.small.Step.TheVariants as step

-- what no call changes
abbrev kept : SmallView → Path × (ℕ × NamedChannel)
kept s = (s.path, (s.base, s.chan))

called_kept : (l m : SmallView) → Called small_ops l m → kept m ≡ kept l
called_kept l m (by_put at e) = ap kept e
called_kept l m (by_receive c v at e) = ap kept e
called_kept l m (by_thrown label at e) = ap kept e

unwound_kept : (l m : SmallView) → Unwound small_ops l m → kept m ≡ kept l
unwound_kept l m (by_label label v least most e) = ap kept e

moved_kept : (l m : SmallView) → Moved small_ops l m → kept m ≡ kept l
moved_kept l m (by_quiet at e) = ap kept e
moved_kept l m (by_call called) = called_kept l m called
moved_kept l m (by_unwind unwound) = unwound_kept l m unwound
moved_kept l m (by_fork children at e) = ap kept (forks.parent_is l m children e)
moved_kept l m (by_trap at e) = ap kept (forks.trapped_is l m e)
moved_kept l m (by_join children goes_on sound born e) = ap kept e

moved_sound : (l m : SmallView) → IsSoundSmall l → Moved small_ops l m → IsSoundSmall m
moved_sound l m sound moved = subst (λ b. 1 ≤ b) (sym (ap (λ k. k.1.0) (moved_kept l m moved))) sound

same_identities : (k m : SmallView) (before after : List SmallView) → kept m ≡ kept k
    → map identity_of (before ++ m ∷ after) ≡ map identity_of (before ++ k ∷ after)
same_identities k m [] after e = ap (λ x. (let y : Path × ℕ = (x.0, x.1.0) in y) ∷ map identity_of after) e
same_identities k m (s ∷ before) after e = ap (λ xs. identity_of s ∷ xs) (same_identities k m before after e)

born_moved : (l k m : SmallView) (before after : List SmallView) → AreOfLastFork l (before ++ k ∷ after) → Moved small_ops k m → AreOfLastFork l (before ++ m ∷ after)
born_moved l k m before after (fork, n, is, identities) moved = (fork, n, is, same_identities k m before after (moved_kept k m moved) ∙ identities)

put_at_root : (b : Bool) → put_stop b ≡ AtPut → b ≡ true
put_at_root true e = refl
put_at_root false e = absurd cc

put_is_next : (b : Bool) (c : NamedChannel) → put_stop b ≡ AtNext c → ⊥
put_is_next true c e = absurd cc
put_is_next false c e = absurd cc

put_is_throw : (b : Bool) (x : ℕ) → put_stop b ≡ AtThrow x → ⊥
put_is_throw true x e = absurd cc
put_is_throw false x e = absurd cc

throw_is_next : (label : ℕ) (b : Bool) (c : NamedChannel) → throw_stop label b ≡ AtNext c → ⊥
throw_is_next label true c e = absurd cc
throw_is_next label false c e = absurd cc

throw_is_put : (label : ℕ) (b : Bool) → throw_stop label b ≡ AtPut → ⊥
throw_is_put label true e = absurd cc
throw_is_put label false e = absurd cc

throw_passes : (label x : ℕ) (b : Bool) → throw_stop label b ≡ AtThrow x → (label ≡ x) × (b ≡ true)
throw_passes label x true e = (cc, refl)
throw_passes label x false e = absurd cc

next_is : (s : SmallView) (left : List Step) (c : NamedChannel) → stop_at s left ≡ AtNext c → c ≡ s.chan
next_is s [] c e = absurd cc
next_is s (step.Quiet ∷ left) c e = absurd cc
next_is s (step.Try name line ∷ left) c e = absurd cc
next_is s (step.Next ∷ left) c e = cc
next_is s (step.Put ∷ left) c e = absurd (put_is_next (is_root s.path) c e)
next_is s (step.Fork ∷ left) c e = absurd cc
next_is s (step.Three x y z ∷ left) c e = absurd cc
next_is s (step.Throw label number ∷ left) c e = absurd (throw_is_next label (ltb label (in_force s)) c e)
next_is s (step.ThrowTrap label ∷ left) c e = absurd (throw_is_next label (ltb label (in_force s)) c e)
next_is s (step.Trap ∷ left) c e = absurd cc

put_holds : (s : SmallView) (left : List Step) → stop_at s left ≡ AtPut → is_root s.path ≡ true
put_holds s [] e = absurd cc
put_holds s (step.Quiet ∷ left) e = absurd cc
put_holds s (step.Try name line ∷ left) e = absurd cc
put_holds s (step.Next ∷ left) e = absurd cc
put_holds s (step.Put ∷ left) e = put_at_root (is_root s.path) e
put_holds s (step.Fork ∷ left) e = absurd cc
put_holds s (step.Three x y z ∷ left) e = absurd cc
put_holds s (step.Throw label number ∷ left) e = absurd (throw_is_put label (ltb label (in_force s)) e)
put_holds s (step.ThrowTrap label ∷ left) e = absurd (throw_is_put label (ltb label (in_force s)) e)
put_holds s (step.Trap ∷ left) e = absurd cc

in_force_below : (s : SmallView) (label x : ℕ) → throw_stop label (ltb label (in_force s)) ≡ AtThrow x → x < in_force s
in_force_below s label x e =
    let is = throw_passes label x (ltb label (in_force s)) e in
    subst (λ n. n < in_force s) is.0 ((Decides-ltb label (in_force s)).0 is.1)

throw_below : (s : SmallView) (left : List Step) (x : ℕ) → stop_at s left ≡ AtThrow x → x < in_force s
throw_below s [] x e = absurd cc
throw_below s (step.Quiet ∷ left) x e = absurd cc
throw_below s (step.Try name line ∷ left) x e = absurd cc
throw_below s (step.Next ∷ left) x e = absurd cc
throw_below s (step.Put ∷ left) x e = absurd (put_is_throw (is_root s.path) x e)
throw_below s (step.Fork ∷ left) x e = absurd cc
throw_below s (step.Three a b c ∷ left) x e = absurd cc
throw_below s (step.Throw label number ∷ left) x e = in_force_below s label x e
throw_below s (step.ThrowTrap label ∷ left) x e = in_force_below s label x e
throw_below s (step.Trap ∷ left) x e = absurd cc

no_byte : (b : Bool) (s : SmallView) → byte_put b s.value ≡ None → b ≡ true
no_byte true s e = refl
no_byte false s e = absurd cc

some_byte : (b : Bool) (s : SmallView) (byte : ℕ) → byte_put b s.value ≡ Some byte → b ≡ false
some_byte true s byte e = absurd cc
some_byte false s byte e = refl

-- a throw that has a number stays as it is, and one without is a trap from then on
computed_same : (left : List Step) (v : ℤ) → number_at left ≡ Some v → computed left ≡ left
computed_same (step.ThrowTrap label ∷ left) v e = absurd cc
computed_same _ v e = refl

computed_traps : (s : SmallView) (left : List Step) → number_at left ≡ None → stop_at s (computed left) ≡ at_trap
computed_traps s (step.ThrowTrap label ∷ left) e = refl
computed_traps s _ e = absurd cc

carries_shares : (s : SmallView) (c : Channel) → small_ops.carries s c ≡ true → small_ops.shares s c ≡ true
carries_shares s c e = (and_parts (is_root s.path) (same_channel c s.chan.channel) e).1

-- two states with the same path and channel carry the same
kept_carries : (l m : SmallView) (c : Channel) → kept m ≡ kept l → small_ops.carries m c ≡ small_ops.carries l c
kept_carries l m c same = ap (λ k. is_root k.0 && same_channel c k.1.1.channel) same

not_root : (p : Path) → (p ≡ [] → ⊥) → is_root p ≡ false
not_root [] below = absurd (below refl)
not_root (pair ∷ path) below = refl

pub small_laws : LocalLaws small_ops
small_laws = record {
  moved_sound = moved_sound;
  fork_sound = forks.fork_sound;
  moved_path = λ l m sound moved. ap (λ k. k.0) (moved_kept l m moved);
  moved_base = λ l m sound moved. ap (λ k. k.1.0) (moved_kept l m moved);
  moved_given = λ l m sound moved. ap (λ k. given_to (is_root k.0) k.1.1) (moved_kept l m moved);
  root_given = λ l sound at. ap (λ p. given_to (is_root p) l.chan) at;
  given_shared = λ l c sound below other. forks.channel_given l c (not_root l.path below);
  base_least = λ l sound. sound;
  base_most = λ l sound. omega arith;
  fork_handlers = λ l p ks sound forked. ap in_force (forks.parent_is l p ks forked.1);
  fork_trap_handlers = λ l m sound at e. ap in_force (forks.trapped_is l m e);
  join_handlers = λ l ks sound all born. refl;
  next_shares = λ l c sound at. (channel_decides c.channel l.chan.channel).1 (ap (λ d. d.channel) (next_is l l.left c at));
  carries_shares = λ l c sound e. carries_shares l c e;
  put_holds = λ l sound at. put_holds l l.left at;
  throw_below = λ l x sound at. throw_below l l.left x at;
  put_traps = λ l sound at none. forks.is_trapped l (no_byte (trap_behind l l.left) l none);
  put_goes = λ l b sound at some trapped. forks.not_trapped l (some_byte (trap_behind l l.left) l b some) trapped;
  fork_traps = λ l m sound at e. forks.fork_traps l m e;
  thrown_same = λ l x v sound at some. ap (λ left. (let s : SmallView = record l { left = left } in s)) (computed_same l.left v some);
  throw_traps = λ l x sound at none. (Zero, 1, computed_traps (number_computed l) l.left none);
  quiet_shares = λ l c sound at e. e;
  quiet_adds = λ l c sound at not e. absurd (true≢false (sym e ∙ not));
  call_shares = λ l m c sound called. ap (λ k. same_channel c k.1.1.channel) (called_kept l m called);
  unwind_shares = λ l m c sound unwound e. ap (λ k. same_channel c k.1.1.channel) (unwound_kept l m unwound) ∙ e;
  unwind_adds = λ l m c sound unwound not e. absurd (true≢false (sym e ∙ (ap (λ k. same_channel c k.1.1.channel) (unwound_kept l m unwound) ∙ not)));
  fork_shares = λ l p ks c sound forked. ap (λ s. small_ops.shares s c) (forks.parent_is l p ks forked.1);
  fork_trap_shares = λ l m c sound at e. ap (λ s. small_ops.shares s c) (forks.trapped_is l m e);
  join_shares = λ l ks goes_on c sound all born. refl;
  fork_some = λ l p ks sound forked. forks.fork_some l p ks forked;
  fork_children = λ l p ks sound forked. forks.fork_children l p ks forked;
  children_share = λ l p ks c sound forked. forks.children_share l p ks c forked;
  children_given = λ l p ks c sound forked. forks.children_given l p ks c forked;
  fork_born = λ l p ks sound forked. forks.fork_born l p ks forked;
  born_children = forks.born_children;
  born_moved = λ l k m before after sound born moved. born_moved l k m before after born moved;
  fork_hands_on = λ l p ks c sound forked e. forks.fork_hands_on l p ks c forked e;
  fork_hands_output = λ l p ks sound forked e. forks.fork_hands_output l p ks forked e;
  children_carry = λ l p ks c sound forked. forks.children_carry l p ks c forked;
  children_hold = λ l p ks sound forked. forks.children_hold l p ks forked;
  fork_carries = λ l p ks c sound forked e. sym (ap (λ s. small_ops.carries s c) (forks.parent_is l p ks forked.1)) ∙ e;
  fork_holds = λ l p ks sound forked e. sym (ap (λ s. small_ops.holds_output s) (forks.parent_is l p ks forked.1)) ∙ e;
  fork_trap_carries = λ l m c sound at is e. sym (ap (λ s. small_ops.carries s c) (forks.trapped_is l m is)) ∙ e;
  fork_trap_holds = λ l m sound at is e. sym (ap (λ s. small_ops.holds_output s) (forks.trapped_is l m is)) ∙ e;
  join_carries = λ l ks goes_on c sound all born e. inl e;
  join_holds = λ l ks goes_on sound all born e. inl e;
  quiet_carries = λ l c sound at e. inl e;
  call_carries = λ l m c sound called e. inl (sym (kept_carries l m c (called_kept l m called)) ∙ e);
  unwind_carries = λ l m c sound unwound e. inl (sym (kept_carries l m c (unwound_kept l m unwound)) ∙ e);
  quiet_holds = λ l sound at e. e;
  call_holds = λ l m sound called e. sym (ap (λ k. is_root k.0) (called_kept l m called)) ∙ e;
  unwind_holds = λ l m sound unwound e. sym (ap (λ k. is_root k.0) (unwound_kept l m unwound)) ∙ e;
}
