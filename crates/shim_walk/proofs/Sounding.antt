-- Each call leaves a walk in a state that a process comes to.
use Rattle.std.proofs.Common.{◌≡◌, ◌≤◌, ◌<◌, ◌+◌, ℕ, ℤ, Bool, List, [], ◌∷◌, ◌++◌, length, map, map-id, Result, Ok, Err, OnOk, OnErr, arith, refl, sym, ap, subst, ◌∙◌, append_assoc, append-nil}
use Rattle.shim_base.specs.declared.memory.NoMemory.{NoMemory}
use Rattle.shim_base.specs.Paths.{NamedChannel}
use Rattle.shim_base.specs.declared.operators.Trap.{Trap}
use Rattle.shim_local.specs.Laws.{AllOf, by_quiet, by_call, by_put, by_receive, by_thrown, by_unwind, by_label, by_fork, by_trap}
use Rattle.shim_local.specs.Process.{StopView, AtQuiet, AtNext, AtPut, AtThrow, AtFork, Parted, Trapped as TrappedFork}
use Rattle.shim_process.specs.Born.{Born}
use Rattle.shim_process.specs.Forks.{join}
use Rattle.shim_process.specs.LocalState.{LocalState, handlers, trapped}
use Rattle.shim_process.specs.Steps.{line_of, quiet}
use Rattle.shim_process.specs.Stops.{stop, put, throw_evaluated, receive}
use Rattle.shim_process.specs.Unwinding.{unwind}
use Rattle.shim_process.specs.Sound.{Sound}
use Rattle.shim_process.proofs.JoinKeeps.{join_joined, joined_sound}
use Rattle.shim_locations.specs.declared.remainder.Remainder.{Remainder}
use Rattle.shim_walk.specs.declared.process.ForkedProcess.{ForkedProcess}
use Rattle.shim_walk.specs.declared.process.ForkedProcess.TheVariants.{Children, Trapped}
use Rattle.shim_locations.specs.Lendings.{remainder_of}
use Rattle.shim_walk.specs.ForkResults.{IsForkResult}
use Rattle.shim_walk.specs.WalkLaws.{walk_laws}

stands_so : (l now : LocalState) (s : StopView) → l ≡ now → stop now ≡ s → stop l ≡ s
stands_so l now s e at = subst (λ k. stop k ≡ s) (sym e) at

pub step_sound : (l now m : LocalState) (r : Result (Unit {0}) NoMemory) → l ≡ now → Sound l → stop now ≡ AtQuiet → OnOk r (m ≡ quiet l) → OnErr r (m ≡ l) → Sound m
step_sound l now m (Ok x) e s at ok err = walk_laws.moved_sound l m s (by_quiet (stands_so l now AtQuiet e at) ok)
step_sound l now m (Err x) e s at ok err = subst Sound (sym err) s

pub put_sound : (l now m : LocalState) → l ≡ now → Sound l → stop now ≡ AtPut → m ≡ put l → Sound m
put_sound l now m e s at is = walk_laws.moved_sound l m s (by_call (by_put (stands_so l now AtPut e at) is))

pub thrown_sound : (l now m : LocalState) (z : ℕ) → l ≡ now → Sound l → stop now ≡ AtThrow z → m ≡ throw_evaluated l → Sound m
thrown_sound l now m z e s at is = walk_laws.moved_sound l m s (by_call (by_thrown z (stands_so l now (AtThrow z) e at) is))

pub receive_sound : (l now m : LocalState) (c : NamedChannel) (v : ℤ) → l ≡ now → Sound l → stop now ≡ AtNext c → m ≡ receive l v → Sound m
receive_sound l now m c v e s at is = walk_laws.moved_sound l m s (by_call (by_receive c v (stands_so l now (AtNext c) e at) is))

pub unwind_sound : (l now m : LocalState) (label : ℕ) (v : ℤ) → l ≡ now → Sound l → now.base ≤ label → label < handlers now → m ≡ unwind l label v → Sound m
unwind_sound l now m label v e s least most is =
    walk_laws.moved_sound l m s
    (by_unwind (by_label label v (subst (λ k. k.base ≤ label) (sym e) least) (subst (λ k. label < handlers k) (sym e) most) is))

pub join_sound : (l now m : LocalState) (ks : List LocalState) (goes_on : Bool) → l ≡ now → Sound l → Born now ks → m ≡ join l (map (λ k. k) ks) goes_on → Sound m
join_sound l now m ks goes_on e s born is =
    subst Sound (sym (is ∙ ap (λ cs. join l cs goes_on) (map-id ks)))
    (joined_sound l ks (join l ks goes_on) s (join_joined l ks goes_on s (subst (λ k. Born k ks) (sym e) born)))

pub trap_sound : (l now m : LocalState) (o : ForkedProcess) (t : Trap) → l ≡ now → Sound l → stop now ≡ AtFork → o ≡ Trapped t → IsForkResult o l → m ≡ trapped t (line_of l.frame.todo) l → Sound m
trap_sound l now m o t e s at is comes n =
    walk_laws.moved_sound l m s (by_trap (stands_so l now AtFork e at) (subst (λ o. IsForkResult o l) is comes ∙ ap TrappedFork (sym n)))

pub children_sound : (l now : LocalState) (o : ForkedProcess) (ks : List LocalState) (remainder : Remainder) → l ≡ now → Sound l → stop now ≡ AtFork → o ≡ Children ks remainder → IsForkResult o l → AllOf Sound ks
children_sound l now o ks remainder e s at is comes =
    walk_laws.fork_sound l (record (remainder_of l remainder) { forks = l.forks + 1 }) ks s (stands_so l now AtFork e at, subst (λ o. IsForkResult o l) is comes)

pub lend_sound : (l now m : LocalState) (o : ForkedProcess) (ks : List LocalState) (remainder : Remainder) (r : Result (Unit {0}) NoMemory) → l ≡ now → Sound l → stop now ≡ AtFork → o ≡ Children ks remainder → IsForkResult o l
    → OnOk r (m ≡ record (remainder_of l remainder) { forks = l.forks + 1 }) → OnErr r (m ≡ l) → Sound m
lend_sound l now m o ks remainder (Ok x) e s at is comes ok err =
    walk_laws.moved_sound l m s (by_fork ks (stands_so l now AtFork e at) (subst (λ o. IsForkResult o l) is comes ∙ ap (λ p. Parted p ks) (sym ok)))
lend_sound l now m o ks remainder (Err x) e s at is comes ok err = subst Sound (sym err) s

-- one process more is a walk
pub one_kept : (walks more rest after all : List LocalState) (p x : LocalState) → rest ≡ p ∷ after → x ≡ p → more ≡ walks ++ x ∷ [] → walks ++ rest ≡ all → more ++ after ≡ all
one_kept walks more rest after all p x er ex em e =
    ap (λ m. m ++ after) em
    ∙ append_assoc walks (x ∷ []) after
    ∙ ap (λ y. walks ++ y ∷ after) ex
    ∙ ap (λ r. walks ++ r) (sym er)
    ∙ e

no_more : (rest : List LocalState) → length rest ≡ 0 → rest ≡ []
no_more [] e = refl
no_more (x ∷ rest) e = absurd (omega arith)

pub all_kept : (walks rest all : List LocalState) → length rest ≡ 0 → walks ++ rest ≡ all → walks ≡ all
all_kept walks rest all none e = sym (append-nil walks) ∙ ap (λ r. walks ++ r) (sym (no_more rest none)) ∙ e
