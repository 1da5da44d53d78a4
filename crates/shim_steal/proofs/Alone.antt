-- What a lane without other passes learns.
use Rattle.std.proofs.Common.{◌≡◌, ⊎_elim, ℕ, List, [], ◌∷◌, ◌++◌, length, sym, ap, ◌∙◌, subst, append_assoc, append-nil, arith}
use mathlib.Core.Option.{some}
use lib.ListN.{get_elem?}
use Rattle.shim_steal.specs.declared.view.View.{View}
use Rattle.shim_steal.specs.declared.other_deque.OtherDeque.{OtherDeque}
use Rattle.shim_steal.specs.Counting.{numbered}
use Rattle.shim_base.specs.Lists.{IsAmong}
use Rattle.shim_steal.specs.Places.{from_home}
use Rattle.shim_steal.specs.Lanes.{takes_from}
use Rattle.shim_steal.specs.Steps.{MayBeEmptyAt, HasPopped}
use Rattle.shim_steal.proofs.Lists.{among-left, among-either}
use Rattle.shim_steal.proofs.Numbers.{at-numbered}
use Rattle.shim_steal.proofs.Takes.{numbered-next, into-home, out-home, not-by-others}

module _ {T : Type 0} where
  -- an empty deque of which it alone has a pass: it took all that it pushed
  pub all-taken : (v : View T) → MayBeEmptyAt 0 v → v.made ≡ 0 → v.taken ≡ numbered 0 v.pushed
  all-taken v e none = let k = e.1 in let mine = k.own v e.2 in mine.alone (sym mine.passes ∙ none) ∙ sym (append-nil k.gone) ∙ sym k.line ∙ ap (numbered 0) (sym mine.pushes)

  pub took-all : (home : ℕ) (v : View T) (ts : List (OtherDeque T)) → MayBeEmptyAt 0 v → v.made ≡ 0 → (n : ℕ) (x : T) → get_elem? v.pushed n ≡ some x → IsAmong (home, (n, x)) (from_home home v.taken ++ takes_from home 0 ts)
  took-all home v ts e none n x at = among-left (home, (n, x)) (from_home home v.taken) (takes_from home 0 ts) (into-home home (n, x) v.taken (subst (IsAmong (n, x)) (sym (all-taken v e none)) (at-numbered 0 v.pushed n (n, x) (omega arith) at)))

  -- a piece that it takes now didn't stand in its list
  pub not-all : (home : ℕ) (v w : View T) (ts : List (OtherDeque T)) (p : ℕ × T) → HasPopped v (p ∷ []) w → v.made ≡ 0 → ((n : ℕ) (x : T) → get_elem? v.pushed n ≡ some x → IsAmong (home, (n, x)) (from_home home v.taken ++ takes_from home 0 ts)) → ⊥
  not-all home v w ts p h none each = let r = h.1 none in let s = numbered-next 0 v.pushed v.taken r.0 p (r.1 ∙ append_assoc v.taken (p ∷ []) r.0) in
      ⊎_elim (λ a. let low = s.2 (length v.taken, p.1) (out-home home home (length v.taken, p.1) v.taken a).1 in omega arith) (λ a. not-by-others home 0 (length v.taken, p.1) ts a)
      (among-either (home, (length v.taken, p.1)) (from_home home v.taken) (takes_from home 0 ts) (each (length v.taken) p.1 s.1))
