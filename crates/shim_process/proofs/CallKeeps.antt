-- A put, a rendezvous, a throw that is caught and a trap at a fork keep what a call keeps, and make no channel.
use Rattle.std.proofs.Common.{◌≡◌, ℕ, ℤ, ◌||◌, List, Option, Some, None, Result, Ok, Err, sym, ap, subst}
use Rattle.shim_base.specs.declared.operators.Trap.{Trap}
use Rattle.shim_base.specs.declared.operators.Trap.TheVariants.{Depth}
use Rattle.shim_local.specs.Process.{ForkedView, Parted, Trapped}
use Rattle.shim_local.specs.Laws.{Called, by_put, by_receive, by_thrown, Unwound, by_label}
use Rattle.shim_units.specs.declared.unit.UBranch.{UBranch}
use Rattle.shim_units.specs.declared.unit.UStmt.{UStmt}
use Rattle.shim_units.specs.declared.unit.UWhat.{UWhat, UWhat-F, out-UWhat}
use Rattle.shim_process.specs.Values.{Value}
use Rattle.shim_process.specs.Todo.{On, next_stmt}
use Rattle.shim_process.specs.LocalState.{LocalState, is_full, trapped}
use Rattle.shim_process.specs.Arguments.{Argument}
use Rattle.shim_process.specs.Ends.{gone}
use Rattle.shim_process.specs.Forks.{fork, fork_result, parent, children_from, is_far, item_branches, all_arguments}
use Rattle.shim_process.specs.Steps.{line_of, stored_in, half}
use Rattle.shim_process.specs.Stops.{put_value, after_put, put, thrown_value, after_throw, throw_evaluated, what_receive, stmt_receive, receive}
use Rattle.shim_process.specs.Sound.{Sound}
use Rattle.shim_process.specs.Ops.{process_ops}
use Rattle.shim_process.proofs.LabelFrames.{HasExited, sound_frames, gone_left, half_left, trapped_left, none_left}
use Rattle.shim_process.proofs.FittingEnds.{GoesFitting, same_fitting, gone_fitting}
use Rattle.shim_process.proofs.FittingSteps.{trapped_fitting, stmt_fitting}
use Rattle.shim_process.proofs.QuietKeeps.{Keeps, keeps}
use Rattle.shim_process.proofs.QuietActions.{unchanged, store_changed}
use Rattle.shim_process.proofs.UnwindKeeps.{unwind_keeps}
use Rattle.shim_base.proofs.Facts.{choose}

-- the second state keeps what a call keeps of the first, and no channel was made
pub record MakesNone (l m : LocalState) : Type 0 where
  pub keeps : Keeps l m
  pub made : m.made ≡ l.made
  pub untaken : m.untaken ≡ l.untaken

left_makes_none : (l m : LocalState) → HasExited l.base l m → GoesFitting l m → MakesNone l m
left_makes_none l m h w = record { keeps = keeps l l m (unchanged l) h w; made = h.made; untaken = h.untaken }

stored_makes_none : (l m : LocalState) (x : ℕ) (v : ℤ) → HasExited l.base (stored_in x v l) m → GoesFitting l m → MakesNone l m
stored_makes_none l m x v h w = record { keeps = keeps l (stored_in x v l) m (store_changed l x v) h w; made = h.made; untaken = h.untaken }

trapped_makes_none : (kind : Trap) (line : ℕ) (l : LocalState) → Sound l → MakesNone l (trapped kind line l)
trapped_makes_none kind line l s = left_makes_none l (trapped kind line l) (trapped_left l.base kind line l (sound_frames l s)) (trapped_fitting kind line l s.fitting)

after_put_makes_none : (r : Value) (l : LocalState) → Sound l → MakesNone l (after_put r l)
after_put_makes_none (Ok v) l s = left_makes_none l (gone On l) (gone_left l.base On l (sound_frames l s)) (gone_fitting On l s.fitting)
after_put_makes_none (Err t) l s = trapped_makes_none t (line_of l.frame.todo) l s

put_makes_none : (l : LocalState) → Sound l → MakesNone l (put l)
unfolding put
put_makes_none l s = after_put_makes_none (put_value l) l s

what_makes_none : (w : UWhat-F UWhat UStmt) (v : ℤ) (l : LocalState) → Sound l → GoesFitting l (what_receive w v l) → MakesNone l (what_receive w v l)
what_makes_none (UWhat-F.Next x) v l s f = stored_makes_none l (gone On (stored_in x v l)) x v (gone_left l.base On (stored_in x v l) (record { below = s.labels; grow = s.places })) f
what_makes_none (UWhat-F.NextAssign x e) v l s f = stored_makes_none l (gone On (stored_in x v l)) x v (gone_left l.base On (stored_in x v l) (record { below = s.labels; grow = s.places })) f
what_makes_none (UWhat-F.AssignNext x y) v l s f = stored_makes_none l (record (stored_in y v l) { frame = half l.frame }) y v (half_left l.base (stored_in y v l) (record { below = s.labels; grow = s.places })) f
what_makes_none _ v l s f = left_makes_none l l (none_left l.base l (sound_frames l s)) f

stmt_makes_none : (o : Option UStmt) (v : ℤ) (l : LocalState) → Sound l → GoesFitting l (stmt_receive o v l) → MakesNone l (stmt_receive o v l)
stmt_makes_none None v l s f = left_makes_none l l (none_left l.base l (sound_frames l s)) f
stmt_makes_none (Some stmt) v l s f = what_makes_none (out-UWhat stmt.what) v l s f

receive_makes_none : (l : LocalState) (v : ℤ) → Sound l → MakesNone l (receive l v)
unfolding receive
receive_makes_none l v s = stmt_makes_none (next_stmt l.frame.todo) v l s (stmt_fitting (next_stmt l.frame.todo) v l s.fitting)

after_throw_makes_none : (r : Value) (l : LocalState) → Sound l → MakesNone l (after_throw r l)
after_throw_makes_none (Ok v) l s = left_makes_none l l (none_left l.base l (sound_frames l s)) (s.fitting, same_fitting l)
after_throw_makes_none (Err t) l s = trapped_makes_none t (line_of l.frame.todo) l s

thrown_makes_none : (l : LocalState) → Sound l → MakesNone l (throw_evaluated l)
unfolding throw_evaluated
thrown_makes_none l s = after_throw_makes_none (thrown_value l) l s

pub called_makes_none : (l m : LocalState) → Sound l → Called process_ops l m → MakesNone l m
called_makes_none l m s (by_put at e) = subst (MakesNone l) (sym e) (put_makes_none l s)
called_makes_none l m s (by_receive c v at e) = subst (MakesNone l) (sym e) (receive_makes_none l v s)
called_makes_none l m s (by_thrown x at e) = subst (MakesNone l) (sym e) (thrown_makes_none l s)

pub unwound_keeps : (l m : LocalState) → Sound l → Unwound process_ops l m → Keeps l m
unwound_keeps l m s (by_label label v least below e) = subst (Keeps l) (sym e) (unwind_keeps l label v s)

-- the process is trapped where it stood
abbrev pub StandsTrapped : LocalState → LocalState → Type 0
StandsTrapped l m = (kind : Trap) × (line : ℕ) × (m ≡ trapped kind line l)

abbrev trapped_or : LocalState → ForkedView LocalState → LocalState
trapped_or d (Parted l ks) = d
trapped_or d (Trapped l) = l

trapped_is : (l m : LocalState) (kind : Trap) (line : ℕ) → Trapped (trapped kind line l) ≡ Trapped m → StandsTrapped l m
trapped_is l m kind line e = (kind, line, sym (ap (trapped_or l) e))

parted_trapped : {A : Type 0} (l m : LocalState) (ks : List LocalState) → Parted l ks ≡ Trapped m → A
parted_trapped l m ks e = absurd (cc)

fork_result_trapped : (r : Result (List (List Argument)) Trap) (l m : LocalState) (branches : List UBranch) → fork_result r l branches ≡ Trapped m → StandsTrapped l m
fork_result_trapped (Ok given) l m branches =
    choose (λ p. p ≡ Trapped m → StandsTrapped l m) (is_far l || is_full l) (Trapped (trapped Depth (line_of l.frame.todo) l)) (Parted (parent l branches) (children_from l 0 branches given))
    (λ e. trapped_is l m Depth (line_of l.frame.todo) e) (λ e. parted_trapped (parent l branches) m (children_from l 0 branches given) e)
fork_result_trapped (Err t) l m branches = λ e. trapped_is l m t (line_of l.frame.todo) e

pub fork_trapped : (l m : LocalState) → fork l ≡ Trapped m → StandsTrapped l m
unfolding fork
fork_trapped l m e = fork_result_trapped (all_arguments l (item_branches l.frame.todo)) l m (item_branches l.frame.todo) e

pub fork_trapped_makes_none : (l m : LocalState) → Sound l → fork l ≡ Trapped m → MakesNone l m
fork_trapped_makes_none l m s e = let w = fork_trapped l m e in subst (MakesNone l) (sym w.2) (trapped_makes_none w.0 w.1 l s)
