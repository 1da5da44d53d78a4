-- Quiet steps that are taken one after the other.
use Rattle.std.specs.Prelude.{◌≡◌, ℕ, zero, suc, ◌+◌, Bool, true, false, Some, None, cond, refl}
use Rattle.std.proofs.Common.{ap, subst, sym, ◌∙◌, arith}
use Rattle.shim_local.specs.Process.{Ops, StopView, AtQuiet, AtNext, AtPut, AtFork, AtFinish, AtThrow, AtTrap}
use Rattle.shim_local.specs.Quiets.{is_quiet, quiet_run, QuietSteps}

quiet_stop : (s : StopView) → is_quiet s ≡ true → s ≡ AtQuiet
quiet_stop AtQuiet e = refl
quiet_stop (AtNext c) e = absurd cc
quiet_stop AtPut e = absurd cc
quiet_stop AtFork e = absurd cc
quiet_stop AtFinish e = absurd cc
quiet_stop (AtThrow x) e = absurd cc
quiet_stop (AtTrap kind line) e = absurd cc

-- the first of some steps is quiet, and the others lead on from after it
pub first_quiet : {S : Type 0} (o : Ops S) (n : ℕ) (l m : S) → QuietSteps o (suc n) l m → (o.stop l ≡ AtQuiet) × QuietSteps o n (o.quiet l) m
first_quiet {S} o n l m e = (quiet_stop (o.stop l) (parts (is_quiet (o.stop l)) e).0, (parts (is_quiet (o.stop l)) e).1) where
  parts : (b : Bool) → cond b (quiet_run o n (o.quiet l)) None ≡ Some m → (b ≡ true) × (quiet_run o n (o.quiet l) ≡ Some m)
  parts true e = (refl, e)
  parts false e = absurd cc

one_behind : {S : Type 0} (o : Ops S) (n : ℕ) (l m : S) → QuietSteps o n l m → o.stop m ≡ AtQuiet → QuietSteps o (suc n) l (o.quiet m)
one_behind {S} o zero l m e at =
    let same : l ≡ m = cc in
    ap (λ s. cond (is_quiet (o.stop s)) (Some (o.quiet s)) None) same ∙ ap (λ s. cond (is_quiet s) (Some (o.quiet m)) None) at
one_behind {S} o (suc n) l m e at =
    let first = first_quiet o n l m e in
    ap (λ s. cond (is_quiet s) (quiet_run o (suc n) (o.quiet l)) None) first.0 ∙ one_behind o n (o.quiet l) m first.1 at

-- one step more at the end
pub one_after : {S : Type 0} (o : Ops S) (n : ℕ) (l m k : S) → QuietSteps o n l m → o.stop m ≡ AtQuiet → k ≡ o.quiet m → QuietSteps o (n + 1) l k
one_after o n l m k steps at is =
    let next : suc n ≡ n + 1 = omega arith in
    subst (λ s. QuietSteps o (n + 1) l s) (sym is) (subst (λ count. QuietSteps o count l (o.quiet m)) next (one_behind o n l m steps at))
