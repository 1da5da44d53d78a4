-- A run that always does the first event, one event at a time.
use Rattle.std.proofs.Common.{◌≡◌, ◌↔◌, ◌⊎◌, inl, inr, ℕ, zero, suc, ◌+◌, ◌-◌, ◌<◌, ◌≤◌, Option, Some, None, refl, sym, ap, ◌∙◌, subst, arith}
use Rattle.std.specs.Option.{option_map}
use Rattle.shim_local.specs.Process.{Ops}
use Rattle.shim_semantics.specs.Trees.{Tree, Event, after, IsQuiescent}
use Rattle.shim_semantics.specs.Walks.{first_event, after_first, or_stay, meaning}
use Rattle.shim_reference.specs.Runs.{HasRun, IsEndOfRun}

-- where nothing is enabled nothing more happens
pub stays : {S : Type 0} (o : Ops S) (b : ℕ) (t : Tree S) → first_event o t ≡ None → meaning o b t ≡ t
unfolding meaning
stays o zero t none = refl
stays o (suc b) t none = ap (λ e. meaning o b (after_first o t e)) none ∙ stays o b t none

-- else the first event happens, and one less is left
pub goes_on : {S : Type 0} (o : Ops S) (b : ℕ) (t u : Tree S) (e : Event) → first_event o t ≡ Some e → after o e t ≡ Some u → meaning o (suc b) t ≡ meaning o b u
unfolding meaning
goes_on o b t u e is happens = ap (λ e. meaning o b (after_first o t e)) is ∙ ap (λ v. meaning o b (or_stay t v)) happens

pub no_more : {S : Type 0} (o : Ops S) (t : Tree S) → meaning o zero t ≡ t
unfolding meaning
no_more o t = refl

-- of so many events one more is done
pub one_less : (b i : ℕ) → i < b → b - i ≡ suc (b - (i + 1))
one_less b i h = omega (arith, h)

-- a run that did its events, or came to rest, is at its end, whatever may happen next
at_end : {S F : Type 0} (o : Ops S) (b : ℕ) (t : Tree S) (event_of : F → Event) (next : Option F) → option_map event_of next ≡ first_event o t → (next ≡ None) ↔ IsQuiescent o t
    → HasRun o b t → IsEndOfRun o b t
at_end o b t event_of None is rests done = inl (sym is, rests.0 refl)
at_end o b t event_of (Some e) is rests (inl (few, quiet)) = absurd (let none = rests.1 quiet in cc)
at_end o b t event_of (Some e) is rests (inr full) = inr (
  λ none. absurd (cc (is, none)),
  λ quiet. absurd (let none = rests.1 quiet in cc),
  full,
)

-- so is one that leads to the same tree
pub run_ended : {S F : Type 0} (o : Ops S) (b : ℕ) (t u : Tree S) (event_of : F → Event) (next : Option F) → t ≡ u → option_map event_of next ≡ first_event o t → (next ≡ None) ↔ IsQuiescent o t
    → HasRun o b t → IsEndOfRun o b u
run_ended {S} o b t u event_of next is found rests done = subst (λ (v : Tree S). IsEndOfRun o b v) is (at_end o b t event_of next found rests done)
