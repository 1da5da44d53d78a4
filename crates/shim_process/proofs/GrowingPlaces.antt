-- The variables of exception places stay on channels that grow inwards, whatever places go out of force.
use Rattle.std.proofs.Common.{◌≡◌, ℕ, zero, suc, ◌-◌, ◌<◌, ◌≤◌, true, List, [], ◌∷◌, ◌++◌, length, take, Option, Some, None, refl, subst, arith, false}
use Rattle.std.specs.Prelude.{slice_get}
use Rattle.shim_base.specs.Paths.{Path}
use Rattle.shim_process.specs.declared.handler_variable.HandlerVariable.{HandlerVariable}
use Rattle.shim_process.specs.declared.serial_run.SerialRun.{SerialRun}
use Rattle.shim_process.specs.SerialRuns.{is_in_runs}
use Rattle.shim_process.specs.Todo.{Item, Do, Leave, Successor, followed}
use Rattle.shim_process.specs.LocalState.{Frame, ExceptionPlace}
use Rattle.shim_process.specs.Ends.{without_last, past_ends, went}
use Rattle.shim_process.specs.Sound.{VariableIsBelow, bound_by, VariablesGrow, inward}
use Rattle.shim_base.proofs.Facts.{some_same}

module _ (path : Path) (untaken : List SerialRun) where
  -- below a greater number
  wider_by : (o : Option HandlerVariable) (m n : ℕ) (ps : List ExceptionPlace) → m ≤ n → ((a b : ℕ) → a ≤ b → VariablesGrow path untaken a ps → VariablesGrow path untaken b ps)
      → VariableIsBelow path untaken m o × VariablesGrow path untaken (bound_by m o) ps → VariableIsBelow path untaken n o × VariablesGrow path untaken (bound_by n o) ps
  wider_by None m n ps l more h = (tt, more m n l h.1)
  wider_by (Some y) m n ps l more h = ((h.0.0, (let below = h.0.1 in omega (arith, below, l)), h.0.2), h.1)

  pub wider : (m n : ℕ) (ps : List ExceptionPlace) → m ≤ n → VariablesGrow path untaken m ps → VariablesGrow path untaken n ps
  wider m n [] l h = tt
  wider m n (p ∷ ps) l h = wider_by p.variable m n ps l (λ a b k. wider a b ps k) h

  -- the number below which those after a place are is no greater
  bound_least : (o : Option HandlerVariable) (m : ℕ) → VariableIsBelow path untaken m o → bound_by m o ≤ m
  bound_least None m h = omega arith
  bound_least (Some y) m h = let below = h.1 in omega (arith, below)

  pub without_first : (m : ℕ) (p : ExceptionPlace) (ps : List ExceptionPlace) → VariablesGrow path untaken m (p ∷ ps) → VariablesGrow path untaken m ps
  without_first m p ps h = wider (bound_by m p.variable) m ps (bound_least p.variable m h.0) h.1

  pub without_these : (m : ℕ) (ps outer : List ExceptionPlace) → VariablesGrow path untaken m (inward ps outer) → VariablesGrow path untaken m outer
  without_these m [] outer h = h
  without_these m (p ∷ ps) outer h = without_first m p outer (without_these m ps (p ∷ outer) h)

  pub first_places : (m i : ℕ) (ps outer : List ExceptionPlace) → VariablesGrow path untaken m (inward ps outer) → VariablesGrow path untaken m (inward (take i ps) outer)
  first_places m i [] outer h = take_none i h
    where
      take_none : (i : ℕ) → VariablesGrow path untaken m outer → VariablesGrow path untaken m (inward (take i []) outer)
      take_none zero h = h
      take_none (suc i) h = h
  first_places m zero (p ∷ ps) outer h = without_these m (p ∷ ps) outer h
  first_places m (suc i) (p ∷ ps) outer h = first_places m i ps (p ∷ outer) h

  -- a place with those around it
  pub at_place : (m i : ℕ) (ps outer : List ExceptionPlace) (p : ExceptionPlace) → slice_get ps i ≡ Some p → VariablesGrow path untaken m (inward ps outer) → VariablesGrow path untaken m (p ∷ inward (take i ps) outer)
  at_place m i [] outer p is h = absurd (cc is)
  at_place m zero (x ∷ ps) outer p is h = subst (λ (z : ExceptionPlace). VariablesGrow path untaken m (z ∷ outer)) (some_same x p is) (without_these m ps (x ∷ outer) h)
  at_place m (suc i) (x ∷ ps) outer p is h = at_place m i ps (x ∷ outer) p is h

  past_grow : (m : ℕ) (k : List Item) (places : List ExceptionPlace) (f : Frame) (outer : List ExceptionPlace) → VariablesGrow path untaken m (inward places outer)
      → VariablesGrow path untaken m (inward (past_ends k places f).places outer)
  past_grow m [] places f outer h = h
  past_grow m (Leave ∷ k) places f outer h = past_grow m k (without_last places) f outer (first_places m (length places - 1) places outer h)
  past_grow m (Do n s ∷ k) places f outer h = h

  pub went_grow : (m : ℕ) (successor : Successor) (f : Frame) (outer : List ExceptionPlace) → VariablesGrow path untaken m (inward f.places outer)
      → VariablesGrow path untaken m (inward (went successor f).places outer)
  unfolding went
  went_grow m successor f outer h = past_grow m (followed successor f.todo) f.places (record f { halfway = false }) outer h

  -- with other channels that no handler has taken, which are the same below this number
  other_by : (o : Option HandlerVariable) (others : List SerialRun) (m : ℕ) (ps : List ExceptionPlace) → ((n : ℕ) → n < m → is_in_runs n untaken ≡ true → is_in_runs n others ≡ true)
      → ((a : ℕ) → ((n : ℕ) → n < a → is_in_runs n untaken ≡ true → is_in_runs n others ≡ true) → VariablesGrow path untaken a ps → VariablesGrow path others a ps)
      → VariableIsBelow path untaken m o × VariablesGrow path untaken (bound_by m o) ps → VariableIsBelow path others m o × VariablesGrow path others (bound_by m o) ps
  other_by None others m ps keep more h = (tt, more m keep h.1)
  other_by (Some y) others m ps keep more h =
      ((h.0.0, h.0.1, keep y.channel.channel.serial h.0.1 h.0.2), more y.channel.channel.serial (λ n l. keep n (let below = h.0.1 in omega (arith, l, below))) h.1)

  pub other_runs : (others : List SerialRun) (m : ℕ) (ps : List ExceptionPlace) → ((n : ℕ) → n < m → is_in_runs n untaken ≡ true → is_in_runs n others ≡ true) → VariablesGrow path untaken m ps
      → VariablesGrow path others m ps
  other_runs others m [] keep h = tt
  other_runs others m (p ∷ ps) keep h = other_by p.variable others m ps keep (λ a k. other_runs others a ps k) h

-- one place more
pub inward_more : (ps : List ExceptionPlace) (p : ExceptionPlace) (outer : List ExceptionPlace) → inward (ps ++ p ∷ []) outer ≡ p ∷ inward ps outer
inward_more [] p outer = refl
inward_more (x ∷ ps) p outer = inward_more ps p (x ∷ outer)
