-- The laws of a process's steps other than a fork that gives children, and a join.
use Rattle.std.proofs.Common.{◌≡◌, ◌≢◌, ◌↔◌, ◌∙◌, ◌≤◌, Bool, true, false, List, [], sym, ap, subst, arith}
use Rattle.shim_base.specs.Paths.{Channel}
use Rattle.shim_local.specs.Process.{AtQuiet, AtFork, Parted, Trapped}
use Rattle.shim_local.specs.Laws.{AllOf, Called, Unwound, Moved, by_quiet, by_call, by_unwind, by_fork, by_trap, by_join, IsTrapped, IsGiven, CarriesNoMore}
use Rattle.shim_process.specs.LocalState.{LocalState, handlers}
use Rattle.shim_process.specs.Forks.{fork, join}
use Rattle.shim_process.specs.Sharers.{shares, carries}
use Rattle.shim_process.specs.Steps.{quiet}
use Rattle.shim_process.specs.Stops.{stop}
use Rattle.shim_process.specs.Sound.{Sound}
use Rattle.shim_process.specs.Born.{Born}
use Rattle.shim_process.specs.Ops.{process_ops}
use Rattle.shim_process.proofs.CarryChannels.{shares_same, shares_given, given_shares, Carried, carried_at}
use Rattle.shim_process.proofs.FittingEnds.{HasParameters}
use Rattle.shim_process.proofs.PlaceStops.{trapped_stands}
use Rattle.shim_process.proofs.QuietKeeps.{Keeps, keeps_sound, keeps_shares, keeps_adds, keeps_carries, keeps_holds}
use Rattle.shim_process.proofs.QuietActions.{quiet_keeps}
use Rattle.shim_process.proofs.CallKeeps.{MakesNone, called_makes_none, unwound_keeps, fork_trapped, fork_trapped_makes_none, StandsTrapped}

-- What holds of each two states of which the second keeps what a call keeps, and of a fork and a join, holds of each call.
pub moved : (P : LocalState → LocalState → Type 0) → ((l m : LocalState) → Sound l → Keeps l m → P l m)
    → ((l m : LocalState) (ks : List LocalState) → Sound l → stop l ≡ AtFork → fork l ≡ Parted m ks → P l m)
    → ((l : LocalState) (ks : List LocalState) (goes_on : Bool) → Sound l → AllOf Sound ks → Born l ks → P l (join l ks goes_on))
    → (l m : LocalState) → Sound l → Moved process_ops l m → P l m
moved P each forks joins l m s (by_quiet at e) = subst (P l) (sym e) (each l (quiet l) s (quiet_keeps l s))
moved P each forks joins l m s (by_call c) = each l m s (called_makes_none l m s c).keeps
moved P each forks joins l m s (by_unwind u) = each l m s (unwound_keeps l m s u)
moved P each forks joins l m s (by_fork ks at e) = forks l m ks s at e
moved P each forks joins l m s (by_trap at e) = each l m s (fork_trapped_makes_none l m s e).keeps
moved P each forks joins l m s (by_join ks goes_on all born e) = subst (P l) (sym e) (joins l ks goes_on s all born)

pub moved_sound : ((l m : LocalState) (ks : List LocalState) → Sound l → stop l ≡ AtFork → fork l ≡ Parted m ks → Sound m)
    → ((l : LocalState) (ks : List LocalState) (goes_on : Bool) → Sound l → AllOf Sound ks → Born l ks → Sound (join l ks goes_on))
    → (l m : LocalState) → Sound l → Moved process_ops l m → Sound m
moved_sound forks joins = moved (λ l m. Sound m) (λ l m s k. keeps_sound l m s k) forks joins

pub moved_path : ((l m : LocalState) (ks : List LocalState) → Sound l → stop l ≡ AtFork → fork l ≡ Parted m ks → m.path ≡ l.path)
    → ((l : LocalState) (ks : List LocalState) (goes_on : Bool) → Sound l → AllOf Sound ks → Born l ks → (join l ks goes_on).path ≡ l.path)
    → (l m : LocalState) → Sound l → Moved process_ops l m → m.path ≡ l.path
moved_path forks joins = moved (λ l m. m.path ≡ l.path) (λ l m s k. k.changed.path) forks joins

pub moved_base : ((l m : LocalState) (ks : List LocalState) → Sound l → stop l ≡ AtFork → fork l ≡ Parted m ks → m.base ≡ l.base)
    → ((l : LocalState) (ks : List LocalState) (goes_on : Bool) → Sound l → AllOf Sound ks → Born l ks → (join l ks goes_on).base ≡ l.base)
    → (l m : LocalState) → Sound l → Moved process_ops l m → m.base ≡ l.base
moved_base forks joins = moved (λ l m. m.base ≡ l.base) (λ l m s k. k.changed.base) forks joins

pub moved_given : ((l m : LocalState) (ks : List LocalState) → Sound l → stop l ≡ AtFork → fork l ≡ Parted m ks → m.given ≡ l.given)
    → ((l : LocalState) (ks : List LocalState) (goes_on : Bool) → Sound l → AllOf Sound ks → Born l ks → (join l ks goes_on).given ≡ l.given)
    → (l m : LocalState) → Sound l → Moved process_ops l m → m.given ≡ l.given
moved_given forks joins = moved (λ l m. m.given ≡ l.given) (λ l m s k. k.changed.given) forks joins

pub moved_parameters : ((l m : LocalState) (ks : List LocalState) → Sound l → stop l ≡ AtFork → fork l ≡ Parted m ks → HasParameters l m)
    → ((l : LocalState) (ks : List LocalState) (goes_on : Bool) → Sound l → AllOf Sound ks → Born l ks → HasParameters l (join l ks goes_on))
    → (l m : LocalState) → Sound l → Moved process_ops l m → HasParameters l m
moved_parameters forks joins = moved HasParameters (λ l m s k. k.fitting.1) forks joins

pub root_given : (l : LocalState) → Sound l → l.path ≡ [] → l.given ≡ []
root_given l s e = s.root e

pub given_shared : (l : LocalState) (c : Channel) → Sound l → l.path ≢ [] → c.home ≢ l.path → (shares l c ≡ true) ↔ IsGiven process_ops l c
given_shared l c s below other = (λ e. shares_given l c other e, λ g. given_shares l g.0 g.1 c g.2 g.3)

pub base_least : (l : LocalState) → Sound l → 1 ≤ l.base
base_least l s = s.base

pub base_most : (l : LocalState) → Sound l → l.base ≤ handlers l
base_most l s = omega arith

pub carries_shares : (l : LocalState) (c : Channel) → Sound l → carries l c ≡ true → shares l c ≡ true
carries_shares l c s e =
    let w : Carried l.locations c = carried_at l c e in
    subst (λ d. shares l d ≡ true) w.channel (s.channels w.number w.location w.there)

pub fork_traps : (l m : LocalState) → Sound l → stop l ≡ AtFork → fork l ≡ Trapped m → IsTrapped process_ops m
fork_traps l m s at e =
    let w : StandsTrapped l m = fork_trapped l m e in
    (w.0, w.1, ap (λ k. stop k) w.2 ∙ trapped_stands w.0 w.1 l)

pub quiet_shares : (l : LocalState) (c : Channel) → Sound l → stop l ≡ AtQuiet → shares l c ≡ true → shares (quiet l) c ≡ true
quiet_shares l c s at e = keeps_shares l (quiet l) c (quiet_keeps l s) e

pub quiet_adds : (l : LocalState) (c : Channel) → Sound l → stop l ≡ AtQuiet → shares l c ≡ false → shares (quiet l) c ≡ true → c.home ≡ l.path
quiet_adds l c s at none e = keeps_adds l (quiet l) c (quiet_keeps l s) none e

none_made_shares : (l m : LocalState) (c : Channel) → MakesNone l m → shares m c ≡ shares l c
none_made_shares l m c h = shares_same l m c h.keeps.changed.path h.keeps.changed.given h.made h.untaken

pub call_shares : (l m : LocalState) (c : Channel) → Sound l → Called process_ops l m → shares m c ≡ shares l c
call_shares l m c s h = none_made_shares l m c (called_makes_none l m s h)

pub unwind_shares : (l m : LocalState) (c : Channel) → Sound l → Unwound process_ops l m → shares l c ≡ true → shares m c ≡ true
unwind_shares l m c s h e = keeps_shares l m c (unwound_keeps l m s h) e

pub unwind_adds : (l m : LocalState) (c : Channel) → Sound l → Unwound process_ops l m → shares l c ≡ false → shares m c ≡ true → c.home ≡ l.path
unwind_adds l m c s h n e = keeps_adds l m c (unwound_keeps l m s h) n e

-- a fork that traps leaves the exception places as they are
pub fork_trap_handlers : (l m : LocalState) → Sound l → stop l ≡ AtFork → fork l ≡ Trapped m → handlers m ≡ handlers l
fork_trap_handlers l m s at e = let w : StandsTrapped l m = fork_trapped l m e in ap (λ (k : LocalState). handlers k) w.2

pub fork_trap_shares : (l m : LocalState) (c : Channel) → Sound l → stop l ≡ AtFork → fork l ≡ Trapped m → shares m c ≡ shares l c
fork_trap_shares l m c s at e = none_made_shares l m c (fork_trapped_makes_none l m s e)

pub fork_trap_carries : (l m : LocalState) (c : Channel) → Sound l → stop l ≡ AtFork → fork l ≡ Trapped m → carries m c ≡ true → carries l c ≡ true
unfolding carries
fork_trap_carries l m c s at e h =
    let w : StandsTrapped l m = fork_trapped l m e in
    ap (λ k. carries k c) (sym w.2) ∙ h

pub fork_trap_holds : (l m : LocalState) → Sound l → stop l ≡ AtFork → fork l ≡ Trapped m → m.holds_output ≡ true → l.holds_output ≡ true
fork_trap_holds l m s at e h = keeps_holds l m (fork_trapped_makes_none l m s e).keeps h

pub quiet_carries : (l : LocalState) (c : Channel) → Sound l → stop l ≡ AtQuiet → CarriesNoMore process_ops l (quiet l) c
quiet_carries l c s at = λ e. keeps_carries l (quiet l) c s (quiet_keeps l s) e

pub call_carries : (l m : LocalState) (c : Channel) → Sound l → Called process_ops l m → CarriesNoMore process_ops l m c
call_carries l m c s h = λ e. keeps_carries l m c s (called_makes_none l m s h).keeps e

pub unwind_carries : (l m : LocalState) (c : Channel) → Sound l → Unwound process_ops l m → CarriesNoMore process_ops l m c
unwind_carries l m c s h = λ e. keeps_carries l m c s (unwound_keeps l m s h) e

pub quiet_holds : (l : LocalState) → Sound l → stop l ≡ AtQuiet → (quiet l).holds_output ≡ true → l.holds_output ≡ true
quiet_holds l s at e = keeps_holds l (quiet l) (quiet_keeps l s) e

pub call_holds : (l m : LocalState) → Sound l → Called process_ops l m → m.holds_output ≡ true → l.holds_output ≡ true
call_holds l m s h e = keeps_holds l m (called_makes_none l m s h).keeps e

pub unwind_holds : (l m : LocalState) → Sound l → Unwound process_ops l m → m.holds_output ≡ true → l.holds_output ≡ true
unwind_holds l m s h e = keeps_holds l m (unwound_keeps l m s h) e
