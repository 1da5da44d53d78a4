-- New processes, and the children of a fork.
use Rattle.std.proofs.Common.{◌≡◌, ℕ, suc, ◌+◌, ◌<◌, Bool, true, false, ◌&&◌, List, [], ◌∷◌, ◌++◌, map, length, drop, drop-cons, get_or, Option, Some, None, Result, Ok, Err, refl, sym, ap, ◌∙◌, append_assoc, arith, if◌then◌else◌, slice_get}
use Rattle.shim_base.specs.declared.operators.Trap.{Trap}
use Rattle.shim_base.specs.Paths.{Path, NamedChannel}
use Rattle.shim_units.specs.declared.form.Form.{Form}
use Rattle.shim_units.specs.declared.unit.UBranch.{UBranch}
use Rattle.shim_process.specs.Locations.{Locations}
use Rattle.shim_process.specs.LocalState.{LocalState, unit_or, unit_at, handlers}
use Rattle.shim_process.specs.StatementViews.{statement_view, label_of, passed_labels}
use Rattle.shim_process.specs.Arguments.{Argument, on_value, arguments, entered, numbers_from, branch_locations, channels_of, new_channels, empties, declared_slots}
use Rattle.shim_process.specs.Forks.{root, child, new_child, lending, all_lending, children_from, all_arguments, fork_outcome, fork_result, fork, item_branches, takes_input, takes_output, labels_from}
use Rattle.shim_walk_frames.specs.FrameViews.{FrameView}
use Rattle.shim_locations.specs.declared.remainder.Remainder.{Remainder}
use Rattle.shim_walk_frames.specs.Depths.{shown}
use Rattle.shim_process.specs.declared.serial_run.SerialRun.{SerialRun}
use Rattle.shim_walk.specs.States.{state_of}
use Rattle.shim_locations.specs.Lendings.{remainder_of}
use Rattle.shim_walk.specs.ChildrenMade.{children_made, children_before}

pub same_state : (l m : LocalState) → l.path ≡ m.path → l.base ≡ m.base → l.made ≡ m.made → l.forks ≡ m.forks → l.untaken ≡ m.untaken → l.given ≡ m.given → l.frame ≡ m.frame → l.callers ≡ m.callers → l.locations ≡ m.locations
    → l.input_at ≡ m.input_at → l.holds_output ≡ m.holds_output → l.trap ≡ m.trap → l.program ≡ m.program → l.input ≡ m.input → l ≡ m
same_state l m e1 e2 e3 e4 et e5 e6 e7 e8 e9 e10 e11 e12 e13 =
    ap (λ x. record l { path = x }) e1
    ∙ ap (λ x. record l { path = m.path; base = x }) e2
    ∙ ap (λ x. record l { path = m.path; base = m.base; made = x }) e3
    ∙ ap (λ x. record l { path = m.path; base = m.base; made = m.made; forks = x }) e4
    ∙ ap (λ x. record l { path = m.path; base = m.base; made = m.made; forks = m.forks; untaken = x }) et
    ∙ ap (λ x. record l { path = m.path; base = m.base; made = m.made; forks = m.forks; untaken = m.untaken; given = x }) e5
    ∙ ap (λ x. record l { path = m.path; base = m.base; made = m.made; forks = m.forks; untaken = m.untaken; given = m.given; frame = x }) e6
    ∙ ap (λ x. record m { callers = x; locations = l.locations; input_at = l.input_at; holds_output = l.holds_output; trap = l.trap; program = l.program; input = l.input }) e7
    ∙ ap (λ x. record m { locations = x; input_at = l.input_at; holds_output = l.holds_output; trap = l.trap; program = l.program; input = l.input }) e8
    ∙ ap (λ x. record m { input_at = x; holds_output = l.holds_output; trap = l.trap; program = l.program; input = l.input }) e9
    ∙ ap (λ x. record m { holds_output = x; trap = l.trap; program = l.program; input = l.input }) e10
    ∙ ap (λ x. record m { trap = x; program = l.program; input = l.input }) e11
    ∙ ap (λ x. record m { program = x; input = l.input }) e12
    ∙ ap (λ x. record m { input = x }) e13

-- what `main` begins with
pub root_by : (program : Form) (input : List ℕ) (home : Path) (base : ℕ) (runs : List SerialRun) (given : List NamedChannel) (top : FrameView) (callers : List FrameView) (locations : Locations) (input_at : Option ℕ) (output : Bool)
    → home ≡ [] → base ≡ 1 + length program.main_throws → runs ≡ [] → given ≡ []
    → shown program.units top ≡ entered (unit_or (slice_get program.units program.main)) program.main (numbers_from 0 (unit_or (slice_get program.units program.main)).slots) (labels_from 1 program.main_throws) 0 0
    → callers ≡ [] → locations ≡ empties (unit_or (slice_get program.units program.main)).slots
    → input_at ≡ (if takes_input (unit_or (slice_get program.units program.main)).params then Some 0 else None)
    → output ≡ takes_output (unit_or (slice_get program.units program.main)).params
    → state_of home base 0 0 runs given top callers locations input_at output None program input ≡ root program input
unfolding root unit_at
root_by program input home base runs given top callers locations input_at output e1 e2 et e5 e6 e7 e8 e9 e10 =
    same_state (state_of home base 0 0 runs given top callers locations input_at output None program input) (root program input) e1 e2 refl refl et e5 e6 (ap (map (shown program.units)) e7) e8 e9 e10 refl refl refl

-- what a child begins with
pub child_by : (l : LocalState) (i unit : ℕ) (labels : List ℕ) (args : List Argument) (home : Path) (base made : ℕ) (runs : List SerialRun) (given : List NamedChannel) (top : FrameView) (callers : List FrameView) (passed locations : Locations) (input_at : Option ℕ) (output : Bool) (program : Form) (input : List ℕ)
    → program ≡ l.program → input ≡ l.input
    → home ≡ l.path ++ (l.forks, i) ∷ [] → base ≡ handlers l → made ≡ new_channels args → runs ≡ []
    → passed ≡ branch_locations home l.locations 0 args → given ≡ channels_of passed
    → shown l.program.units top ≡ entered (unit_or (slice_get l.program.units unit)) unit (numbers_from 0 (unit_or (slice_get l.program.units unit)).slots) labels 0 0
    → callers ≡ [] → locations ≡ passed ++ empties (declared_slots (unit_or (slice_get l.program.units unit)))
    → input_at ≡ (if takes_input (unit_or (slice_get l.program.units unit)).params then l.input_at else None)
    → output ≡ (if takes_output (unit_or (slice_get l.program.units unit)).params then l.holds_output else false)
    → state_of home base made 0 runs given top callers locations input_at output None program input ≡ new_child l i unit labels args
unfolding unit_at
child_by l i unit labels args home base made runs given top callers passed locations input_at output program input ep ei e1 e2 e3 et eq e5 e6 e7 e8 e9 e10 =
    let p = eq ∙ ap (λ h. branch_locations h l.locations 0 args) e1 in
    same_state (state_of home base made 0 runs given top callers locations input_at output None program input) (new_child l i unit labels args) e1 e2 e3 refl et (e5 ∙ ap channels_of p)
    (ap (λ (q : Form). shown q.units top) ep ∙ e6) (ap (map (shown program.units)) e7)
    (e8 ∙ ap (λ x. x ++ empties (declared_slots (unit_or (slice_get l.program.units unit)))) p) e9 (e10 ∙ both_is (takes_output (unit_or (slice_get l.program.units unit)).params) l.holds_output) refl ep ei
  where
    both_is : (x y : Bool) → (if x then y else false) ≡ (x && y)
    both_is true y = refl
    both_is false y = refl

-- what is left doesn't change the labels that are passed on
pub labels_left : (l : LocalState) (remainder : Remainder) (xs : List ℕ) → passed_labels (statement_view (remainder_of l remainder)) xs ≡ passed_labels (statement_view l) xs
labels_left l remainder [] = refl
labels_left l remainder (x ∷ xs) = ap (λ ns. label_of (statement_view l) x ∷ ns) (labels_left l remainder xs)

behind_one : (children : List LocalState) (k : LocalState) (rest : Result (List LocalState) Trap) → children_before (children ++ k ∷ []) rest ≡ children_before children (on_value (λ others. Ok (k ∷ others)) rest)
behind_one children k (Err t) = refl
behind_one children k (Ok others) = ap (λ c. Ok c) (append_assoc children (k ∷ []) others)

-- the next child is there
pub one_born : (l remainder after : LocalState) (i j n : ℕ) (d : UBranch) (branches : List UBranch) (children more : List LocalState) (k : LocalState) (args : List Argument) (whole : Result (List LocalState) Trap) → n < length branches
    → arguments l.locations l.frame.slots (unit_at l.program (get_or branches n d).call.unit).params (get_or branches n d).call.args ≡ Ok args
    → k ≡ child remainder i (get_or branches n d) args → more ≡ children ++ k ∷ [] → after ≡ lending remainder (get_or branches n d) → j ≡ i + 1
    → children_before children (children_made l remainder i (drop n branches)) ≡ whole → children_before more (children_made l after j (drop (n + 1) branches)) ≡ whole
one_born l remainder after i j n d branches children more k args whole lt e ek em el ej so_far =
    let b = get_or branches n d in
    let rest = children_made l (lending remainder b) (i + 1) (drop (suc n) branches) in
    ap (λ m. children_before m (children_made l after j (drop (n + 1) branches))) em
    ∙ ap (λ m. children_before (children ++ k ∷ []) (children_made l m j (drop (n + 1) branches))) el
    ∙ ap (λ m. children_before (children ++ k ∷ []) (children_made l (lending remainder b) m (drop (n + 1) branches))) ej
    ∙ ap (λ m. children_before (children ++ k ∷ []) (children_made l (lending remainder b) (i + 1) (drop m branches))) (let z : n + 1 ≡ suc n = omega arith in z)
    ∙ behind_one children k rest
    ∙ ap (λ x. children_before children (on_value (λ others. Ok (x ∷ others)) rest)) ek
    ∙ sym (ap (λ r. children_before children (on_value (λ given. on_value (λ others. Ok (child remainder i b given ∷ others)) rest) r)) e)
    ∙ sym (ap (λ bs. children_before children (children_made l remainder i bs)) (drop-cons branches n d lt))
    ∙ so_far

-- and what it took is with it
pub one_lent : (remainder after whole : LocalState) (n : ℕ) (d : UBranch) (branches : List UBranch) → n < length branches → after ≡ lending remainder (get_or branches n d)
    → all_lending remainder (drop n branches) ≡ whole → all_lending after (drop (n + 1) branches) ≡ whole
one_lent remainder after whole n d branches lt el so_far =
    let b = get_or branches n d in
    ap (λ m. all_lending m (drop (n + 1) branches)) el
    ∙ ap (λ m. all_lending (lending remainder b) (drop m branches)) (let z : n + 1 ≡ suc n = omega arith in z)
    ∙ sym (ap (all_lending remainder) (drop-cons branches n d lt))
    ∙ so_far

-- the children are those of the arguments
children_made_is : (l remainder : LocalState) (i : ℕ) (branches : List UBranch) → children_made l remainder i branches ≡ on_value (λ given. Ok (children_from remainder i branches given)) (all_arguments l branches)
children_made_is l remainder i [] = refl
children_made_is l remainder i (b ∷ bs) =
    ap
    (λ r. on_value (λ given. on_value (λ others. Ok (child remainder i b given ∷ others)) r) (arguments l.locations l.frame.slots (unit_at l.program b.call.unit).params b.call.args))
    (children_made_is l (lending remainder b) (i + 1) bs)
    ∙ step (arguments l.locations l.frame.slots (unit_at l.program b.call.unit).params b.call.args) (all_arguments l bs)
  where
    step : (one : Result (List Argument) Trap) (rest : Result (List (List Argument)) Trap)
        → on_value (λ given. on_value (λ others. Ok (child remainder i b given ∷ others)) (on_value (λ given. Ok (children_from (lending remainder b) (i + 1) bs given)) rest)) one
        ≡ on_value (λ given. Ok (children_from remainder i (b ∷ bs) given)) (on_value (λ one. on_value (λ others. Ok (one ∷ others)) rest) one)
    step (Err t) rest = refl
    step (Ok given) (Err t) = refl
    step (Ok given) (Ok others) = refl

pub parts : (l : LocalState) (branches : List UBranch) → branches ≡ item_branches l.frame.todo → fork_outcome (children_made l l 0 branches) l branches ≡ fork l
unfolding fork
parts l branches e =
    ap (λ r. fork_outcome r l branches) (children_made_is l l 0 branches) ∙ ap (λ bs. fork_result (all_arguments l bs) l bs) e
