-- A run of steps keeps what each step of a deque keeps, and what was done is as the laws say.
use Rattle.std.proofs.Common.{◌≡◌, inl, inr, ⊎_elim, ℕ, suc, ◌+◌, ◌==◌, cond, Bool, true, false, List, [], ◌∷◌, ◌++◌, length, set, refl, sym, ap, ◌∙◌, subst, arith}
use mathlib.Core.Option.{some, none}
use mathlib.Core.Option as maybe
use lib.ListN.{get_elem?}
use Rattle.crossbeam_deque.proofs.Lists.{at_longer}
use Rattle.shim_steal.specs.declared.view.View.{View}
use Rattle.shim_steal.specs.Counting.{times, numbered, IsPart}
use Rattle.shim_base.specs.Lists.{IsAmong}
use Rattle.shim_steal.specs.Views.{after_pass, fresh}
use Rattle.shim_steal.specs.Kept.{Kept}
use Rattle.shim_steal.specs.Run.{DequeRun, DequeStepKind, pass, push, pop, steal, LaneStep, takes_first, by_view, port_of, after_step, after, new_deque, lanes_run, EachOnce}
use Rattle.shim_steal.proofs.Totals.{times-append, numbered-append}
use Rattle.shim_steal.proofs.Lists.{among-left, among-either}
use Rattle.shim_steal.proofs.Numbers.{numbered-length, numbered-at, numbered-once}
use Rattle.shim_steal.proofs.Allowed.{begins, pushes, taken, forks}

module _ {T : Type 0} where
  -- what each step of a run keeps
  abbrev Keeps : DequeRun T → Type 0
  Keeps d = (k : Kept d.items d.views) × (k.gone ≡ d.takes) × (numbered 0 k.pushed ≡ d.puts)

  opens : Keeps new_deque
  unfolding begins
  opens = (begins, refl, refl)

  passes : (d : DequeRun T) (v : View T) → Keeps d → get_elem? d.views 0 ≡ some v → Keeps record d { views = set d.views 0 (after_pass v) ++ fresh ∷ [] }
  unfolding forks
  passes d v k at = (forks v d.items d.views k.0 at, k.1, k.2)

  puts-in : (d : DequeRun T) (v : View T) (x : T) → Keeps d → get_elem? d.views 0 ≡ some v → Keeps (by_view d (push x) 0 (some v))
  unfolding pushes
  puts-in d v x k at = let l = numbered-length 0 k.0.pushed in let same = ap length k.2 in let mine = ap length (k.0.own v at).pushes in
      ((pushes v (length d.puts) x (omega arith) d.items d.views k.0 at).1, k.1, numbered-append 0 k.0.pushed x ∙ ap (λ n. numbered 0 k.0.pushed ++ (n, x) ∷ []) (let is : 0 + length k.0.pushed ≡ length d.puts = omega arith in is) ∙ ap (λ l. l ++ (length d.puts, x) ∷ []) k.2)

  takes-out : (items : List (ℕ × T)) (views : List (View T)) (puts takes : List (ℕ × T)) (port : ℕ) (v : View T) → get_elem? views port ≡ some v → Keeps record { items = items; views = views; puts = puts; takes = takes }
      → Keeps (takes_first record { items = items; views = views; puts = puts; takes = takes } port v items)
  unfolding taken
  takes-out [] views puts takes port v at k = k
  takes-out (p ∷ ps) views puts takes port v at k = (taken port v (p ∷ []) ps views k.0 at, ap (λ l. l ++ p ∷ []) k.1, k.2)

  step_keeps : (d : DequeRun T) (kind : DequeStepKind T) (o : maybe.Option (View T)) → get_elem? d.views (port_of kind) ≡ o → Keeps d → Keeps (by_view d kind (port_of kind) o)
  step_keeps d kind none e k = k
  step_keeps d pass (some v) e k = passes d v k e
  step_keeps d (push x) (some v) e k = puts-in d v x k e
  step_keeps d pop (some v) e k = takes-out d.items d.views d.puts d.takes 0 v e k
  step_keeps d (steal j) (some v) e k = takes-out d.items d.views d.puts d.takes (suc j) v e k

  one_of : (b : Bool) (d e : DequeRun T) → Keeps d → Keeps e → Keeps (cond b d e)
  one_of true d e k l = k
  one_of false d e k l = l

  goes_on : (steps : List (LaneStep T)) (s : ℕ → DequeRun T) → ((h : ℕ) → Keeps (s h)) → (h : ℕ) → Keeps (after s steps h)
  goes_on [] s k h = k h
  goes_on (step ∷ steps) s k h = goes_on steps (λ j. cond (j == step.home) (after_step (s j) step.kind) (s j)) (λ j. one_of (j == step.home) (after_step (s j) step.kind) (s j) (step_keeps (s j) step.kind (get_elem? (s j).views (port_of step.kind)) refl (k j)) (k j)) h

  each_once : (d : DequeRun T) → Keeps d → EachOnce d
  each_once d k = record {
    numbers = λ n p e. let r = (numbered-at 0 k.0.pushed n p (ap (λ l. get_elem? l n) k.2 ∙ e)).0 in omega arith;
    once = λ n. let o = numbered-once n 0 k.0.pushed in let a = times-append n k.0.gone d.items in let e = ap (times n) k.0.line in let f = ap (times n) k.1 in omega arith;
    lists = λ n. k.0.lists n ∙ ap (times n) k.1;
    order = λ n p e. let r = (numbered-at 0 k.0.pushed n p (ap (λ l. get_elem? l n) k.0.line ∙ at_longer k.0.gone d.items n p (ap (λ l. get_elem? l n) k.1 ∙ e))).0 in omega arith;
    each = λ j v at. subst (IsPart v.taken) k.1 (k.0.order j v at);
    same = λ p h. subst (IsAmong p) (sym k.0.line ∙ k.2) (among-left p k.0.gone d.items (subst (IsAmong p) (sym k.1) h));
    lost = λ p h. ⊎_elim (λ a. inl (subst (IsAmong p) k.1 a)) (λ b. inr b) (among-either p k.0.gone d.items (subst (IsAmong p) (sym k.2 ∙ k.0.line) h));
  }

  pub keeps_all : (steps : List (LaneStep T)) (home : ℕ) → EachOnce (lanes_run steps home)
  keeps_all steps home = each_once (lanes_run steps home) (goes_on steps (λ h. new_deque) (λ h. opens) home)
