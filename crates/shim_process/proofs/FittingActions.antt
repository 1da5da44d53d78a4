-- What a statement of a unit that uses slots of its own asks for: a declaration is of a slot of the unit's own, and a call has an argument for each parameter.
use Rattle.std.proofs.Common.{◌≡◌, ◌∙◌, pos, Bool, true, ◌||◌, List, [], ◌∷◌, length, Result, Ok, Err, cond, refl, sym}
use Rattle.std.proofs.lemmas.Bool.{and_parts}
use Rattle.shim_base.specs.declared.operators.Trap.{Trap}
use Rattle.shim_base.specs.declared.operators.Trap.TheVariants.{Depth}
use Rattle.shim_base.specs.Operators.{is_zero}
use Rattle.shim_units.specs.declared.unit.UCall.{UCall}
use Rattle.shim_units.specs.declared.unit.UStmt.{UStmt}
use Rattle.shim_units.specs.declared.unit.UWhat.{UWhat, UWhat-F, out-UWhat}
use Rattle.shim_process.specs.Values.{value}
use Rattle.shim_process.specs.Todo.{Item, Do, Leave, On, First, Second, next_stmt}
use Rattle.shim_process.specs.LocalState.{LocalState, unit_at, env_of, is_full, is_deep}
use Rattle.shim_process.specs.StatementViews.{statement_view, unit_in, passed_labels}
use Rattle.shim_process.specs.Arguments.{Argument, arguments}
use Rattle.shim_process.specs.Steps.{Action, Go, Store, StoreFirst, Make, Enter, Install, Trapped, Wait, action, limited, value_or, try_name, what_action, stmt_action, next_action}
use Rattle.shim_process.specs.OwnSlots.{is_own_slot, is_own_variable, has_arguments}
use Rattle.shim_process.specs.FittingFrames.{ItemsFit, FrameFits, parameters_of, IsFitting}
use Rattle.shim_process.proofs.CallSlots.{given_many}
use Rattle.shim_process.proofs.FittingItems.{fits_layer, fits_out}
use Rattle.shim_process.proofs.FittingFrames.{inner_fits}
use Rattle.shim_base.proofs.Facts.{choose}

abbrev pub ActionFits : LocalState → Action → Type 0
ActionFits l (Make t x v) = is_own_slot (unit_at l.program l.frame.unit) x ≡ true
ActionFits l (Install x name y) = is_own_variable (unit_at l.program l.frame.unit) y ≡ true
ActionFits l (Enter unit given labels) = length given ≡ length (unit_at l.program unit).params
ActionFits l _ = Unit {0}

action_fits : {A : Type 0} (l : LocalState) (f : A → Action) (r : Result A Trap) → ((v : A) → r ≡ Ok v → ActionFits l (f v)) → ActionFits l (action f r)
action_fits l f (Ok v) h = h v refl
action_fits l f (Err t) h = tt

limited_fits : (l : LocalState) (over : Bool) (d : Action) → ActionFits l d → ActionFits l (limited over d)
limited_fits l over d h = choose (ActionFits l) over (Trapped Depth) d tt h

-- the arguments of a call that fits are as many as its unit's parameters
call_given : (c : UCall) (given : List Argument) (l : LocalState) → has_arguments l.program c ≡ true → arguments l.locations l.frame.slots (unit_in (statement_view l) c.unit).params c.args ≡ Ok given
    → length given ≡ length (unit_at l.program c.unit).params
unfolding unit_at
call_given c given l suit e = given_many l.program l.locations l.frame.slots c given suit e

what_fits : (w : UWhat-F UWhat UStmt) (l : LocalState) → fits_layer l.program (unit_at l.program l.frame.unit) w ≡ true → ActionFits l (what_action w (statement_view l))
what_fits (UWhat-F.Declare t x e) l h = action_fits l (λ v. limited (is_full l) (Make t x v)) (value_or (pos 0) e (env_of l.locations l.frame.slots)) (λ v is. limited_fits l (is_full l) (Make t x v) h)
what_fits (UWhat-F.Assign x e) l h = action_fits l (Store x) (value e (env_of l.locations l.frame.slots)) (λ v is. tt)
what_fits (UWhat-F.NextAssign x e) l h =
    choose (ActionFits l) l.frame.halfway Wait (action (StoreFirst x) (value e (env_of l.locations l.frame.slots))) tt (action_fits l (StoreFirst x) (value e (env_of l.locations l.frame.slots)) (λ v is. tt))
what_fits (UWhat-F.AssignNext x y) l h = choose (ActionFits l) l.frame.halfway (Store x (env_of l.locations l.frame.slots y)) Wait tt tt
what_fits (UWhat-F.If e first second) l h = action_fits l (λ v. Go (cond (is_zero v) Second First)) (value e (env_of l.locations l.frame.slots)) (λ v is. tt)
what_fits (UWhat-F.While e body) l h = action_fits l (λ v. Go (cond (is_zero v) On First)) (value e (env_of l.locations l.frame.slots)) (λ v is. tt)
what_fits (UWhat-F.For first e step body) l h = action_fits l (λ v. Go (cond (is_zero v) On First)) (value_or (pos 1) e (env_of l.locations l.frame.slots)) (λ v is. tt)
what_fits (UWhat-F.Call c) l h =
    action_fits l (λ given. limited (is_deep l || is_full l) (Enter c.unit given (passed_labels (statement_view l) c.throws)))
    (arguments l.locations l.frame.slots (unit_in (statement_view l) c.unit).params c.args)
    (λ given is. limited_fits l (is_deep l || is_full l) (Enter c.unit given (passed_labels (statement_view l) c.throws)) (call_given c given l h is))
what_fits (UWhat-F.Try body x y handler) l h =
    limited_fits l (is_full l) (Install x (try_name (unit_in (statement_view l) l.frame.unit) x) y) (and_parts (is_own_variable (unit_at l.program l.frame.unit) y) _ (and_parts _ _ h).1).0
what_fits _ l h = tt

item_fits : (todo : List Item) (l : LocalState) → ItemsFit l.program (unit_at l.program l.frame.unit) todo → ActionFits l (stmt_action (next_stmt todo) (statement_view l))
item_fits [] l h = tt
item_fits (Leave ∷ k) l h = tt
item_fits (Do n st ∷ k) l h = what_fits (out-UWhat st.what) l (sym (fits_out l.program (unit_at l.program l.frame.unit) st) ∙ h.0)

pub next_fits : (l : LocalState) → IsFitting l → ActionFits l (next_action l)
unfolding next_action
next_fits l h = let inner : FrameFits l.program (parameters_of l) l.frame = inner_fits l.program (parameters_of l) l.frame l.callers h.fit in item_fits l.frame.todo l inner.todo
