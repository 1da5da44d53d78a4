-- What a fork answers, and what comes back.
use Rattle.std.proofs.Common.{◌≡◌, ℕ, ◌+◌, Bool, true, false, ◌||◌, List, Option, None, Result, Ok, Err, OnOk, sym, ap, ◌∙◌, if◌then◌else◌, slice_get}
use Rattle.shim_base.specs.declared.operators.Trap.{Trap}
use Rattle.shim_base.specs.declared.operators.Trap.TheVariants.{Depth}
use Rattle.shim_scopes.specs.declared.tree.UParam.{UParam}
use Rattle.shim_units.specs.declared.unit.UBranch.{UBranch}
use Rattle.shim_units.specs.declared.unit.Arg.{Arg}
use Rattle.shim_process.specs.Arguments.{Argument}
use Rattle.shim_process.specs.Locations.{Locations}
use Rattle.shim_process.specs.LocalState.{LocalState, unit_or, unit_at, is_full, trapped}
use Rattle.shim_process.specs.Steps.{line_of}
use Rattle.shim_local.specs.Process.{Parted, Trapped as TrappedFork}
use Rattle.shim_process.specs.Forks.{fork, fork_outcome, all_lending, keeping, lending, lending_given, takes_input, takes_output, parent, is_far, item_branches, lent, lent_by, joined, all_back, input_back, output_back}
use Rattle.shim_walk.specs.declared.process.ForkedProcess.TheVariants.{Children, Trapped}
use Rattle.shim_locations.specs.declared.remainder.Remainder.{Remainder}
use Rattle.shim_locations.specs.Lendings.{lent_at, remainder_of}
use Rattle.shim_walk.specs.ChildrenMade.{children_made}
use Rattle.shim_walk.specs.ForkResults.{IsForkResult}
use Rattle.shim_walk.proofs.MadeChildren.{parts}

-- the children as they are made of the process as it stood
of_start : (l start : LocalState) (branches : List UBranch) (r : Result (List LocalState) Trap) → start ≡ l → branches ≡ item_branches l.frame.todo → children_made l start 0 branches ≡ r → fork_outcome r l branches ≡ fork l
of_start l start branches r es e b = sym (ap (λ x. fork_outcome x l branches) b) ∙ ap (λ m. fork_outcome (children_made l m 0 branches) l branches) es ∙ parts l branches e

pub traps : (l start : LocalState) (branches : List UBranch) (t : Trap) → start ≡ l → branches ≡ item_branches l.frame.todo → children_made l start 0 branches ≡ Err t → IsForkResult (Trapped t) l
traps l start branches t es e b = sym (of_start l start branches (Err t) es e b)

pub too_deep : (l start : LocalState) (branches : List UBranch) (children : List LocalState) → start ≡ l → branches ≡ item_branches l.frame.todo → children_made l start 0 branches ≡ Ok children
    → (is_far l || is_full l) ≡ true → IsForkResult (Trapped Depth) l
too_deep l start branches children es e b deep =
    sym (sym (ap (λ x. if x then TrappedFork (trapped Depth (line_of l.frame.todo) l) else Parted (parent l branches) children) deep) ∙ of_start l start branches (Ok children) es e b)

pub forked : (l start : LocalState) (remainder : Remainder) (branches : List UBranch) (children : List LocalState) → start ≡ l → branches ≡ item_branches l.frame.todo → children_made l start 0 branches ≡ Ok children
    → (is_far l || is_full l) ≡ false → remainder_of l remainder ≡ all_lending start branches → IsForkResult (Children children remainder) l
forked l start remainder branches children es e b deep el =
    sym (of_start l start branches (Ok children) es e b)
    ∙ ap (λ x. if x then TrappedFork (trapped Depth (line_of l.frame.todo) l) else Parted (parent l branches) children) deep
    ∙ ap (λ (m : LocalState). Parted (record m { forks = l.forks + 1 }) children) (sym (el ∙ ap (λ m. all_lending m branches) es))

pub joined_by : (l : LocalState) (children : List LocalState) (branches : List UBranch) (locations : Locations) (input_at : Option ℕ) (output : Bool)
    → branches ≡ item_branches l.frame.todo → locations ≡ all_back l.frame.slots branches children l.locations → input_at ≡ input_back children l.input_at → output ≡ output_back children l.holds_output
    → record l { locations = locations; input_at = input_at; holds_output = output } ≡ joined l children
joined_by l children branches locations input_at output e ec ei eo =
    ap (λ x. record l { locations = x; input_at = input_at; holds_output = output }) (ec ∙ ap (λ b. all_back l.frame.slots b children l.locations) e)
    ∙ ap (λ x. record (joined l children) { input_at = x; holds_output = output }) ei
    ∙ ap (λ x. record (joined l children) { holds_output = x }) eo

-- what a branch leaves whose unit has these parameters
kept_by : (l : LocalState) (remainder after : Remainder) (unit : ℕ) (params : List UParam) (locations : Locations)
    → params ≡ (unit_or (slice_get l.program.units unit)).params → lent_at after.taken l.locations ≡ locations
    → after.input_at ≡ (if takes_input params then None else remainder.input_at) → after.holds_output ≡ (if takes_output params then false else remainder.holds_output)
    → remainder_of l after ≡ keeping (remainder_of l remainder) unit locations
unfolding unit_at
kept_by l remainder after unit params locations ep ec ei eo =
    let left = keeping (remainder_of l remainder) unit locations in
    ap (λ x. record l { locations = x; input_at = after.input_at; holds_output = after.holds_output }) ec
    ∙ ap (λ x. record left { input_at = x; holds_output = after.holds_output }) (ei ∙ ap (λ ps. if takes_input ps then None else remainder.input_at) ep)
    ∙ ap (λ x. record left { holds_output = x }) (eo ∙ ap (λ ps. if takes_output ps then false else remainder.holds_output) ep)

-- what it takes, from the parts of it
pub lending_by : (l : LocalState) (remainder after : Remainder) (b : UBranch) (slots : List ℕ) (args : List Arg) (params : List UParam)
    → slots ≡ l.frame.slots → args ≡ b.call.args → params ≡ (unit_or (slice_get l.program.units b.call.unit)).params
    → ((locations : Locations) → lent_at after.taken locations ≡ lent slots params args (lent_at remainder.taken locations))
    → after.input_at ≡ (if takes_input params then None else remainder.input_at) → after.holds_output ≡ (if takes_output params then false else remainder.holds_output)
    → remainder_of l after ≡ lending (remainder_of l remainder) b
unfolding unit_at
lending_by l remainder after b slots args params es ea ep ec ei eo =
    let left = lent_at remainder.taken l.locations in
    kept_by l remainder after b.call.unit params (lent l.frame.slots (unit_or (slice_get l.program.units b.call.unit)).params b.call.args left) ep
    (ec l.locations ∙ ap (λ s. lent s params args left) es ∙ ap (λ a. lent l.frame.slots params a left) ea ∙ ap (λ ps. lent l.frame.slots ps b.call.args left) ep)
    ei eo

-- and from its computed arguments
pub given_by : (l : LocalState) (remainder after : Remainder) (unit : ℕ) (given : List Argument) (params : List UParam)
    → params ≡ (unit_or (slice_get l.program.units unit)).params
    → ((locations : Locations) → lent_at after.taken locations ≡ lent_by given (lent_at remainder.taken locations))
    → after.input_at ≡ (if takes_input params then None else remainder.input_at) → after.holds_output ≡ (if takes_output params then false else remainder.holds_output)
    → remainder_of l after ≡ lending_given (remainder_of l remainder) unit given
given_by l remainder after unit given params ep ec ei eo = kept_by l remainder after unit params (lent_by given (lent_at remainder.taken l.locations)) ep (ec l.locations) ei eo

-- three facts of one success
pub on_three : {T E P Q R S : Type 0} (r : Result T E) → (P → Q → R → S) → OnOk r P → OnOk r Q → OnOk r R → OnOk r S
on_three (Ok x) f p q s = f p q s
on_three (Err e) f p q s = tt
