-- What has room for the whole of a part has room for each thing in it, and after what was lifted for the rest.
use Rattle.std.proofs.Common.{ℕ, ◌+◌, ◌^◌, ◌≡◌, ◌∙◌, ◌≤◌, ◌<◌, List, [], ◌∷◌, ◌++◌, Option, length, sym, ap, subst, arith, length-append, append_assoc}
use Rattle.shim_scopes.specs.declared.tree.UExpr.{UExpr}
use Rattle.shim_scopes.specs.declared.tree.RStmt.{RStmt}
use Rattle.shim_scopes.specs.declared.tree.RWhat.{RWhat}
use Rattle.shim_scopes.specs.declared.tree.RWhat.TheVariants as r
use Rattle.shim_scopes.specs.declared.tree.RBranch.{RBranch}
use Rattle.shim_scopes.specs.declared.tree.RFunction.{RFunction}
use Rattle.shim_units.specs.declared.branch.BranchCaptures.{BranchCaptures}
use Rattle.shim_units.specs.declared.unit.Unit.{Unit as UnitOf}
use Rattle.shim_units.specs.declared.slot_map.SlotMap.{SlotMap}
use Rattle.shim_units.specs.Lifting.{is_among, branch_captures, branch_slots, branch_exceptions}
use Rattle.shim_units.specs.PartFold.{part, parts, branch_part, lift_in}
use Rattle.shim_units.specs.BranchCapturing.{IsBranchCaptures}
use Rattle.shim_units.specs.Parts.{LiftContext, all_raises, all_declares, all_tries}
use Rattle.shim_sharing.specs.Room.{HasRoomToLift, FunctionHasRoom, FunctionsHaveRoom}
use Rattle.shim_units.specs.Sizes.{Extent, larger, sum_of_two, in_own_units, variable_extent, what_extent, stmt_extent, branch_extent, extent, fork_extent}
use Rattle.shim_units.specs.Captures.{is_taken}
use Rattle.shim_units.specs.Units.{upto, function_slot_map, lift_function, lift_functions}
use Rattle.shim_sharing.proofs.ExtentSteps.{of_stmt, at_if, at_for, at_try, at_par}
use Rattle.shim_sharing.proofs.FunctionSizes.{function_points}
use Rattle.shim_sharing.proofs.LiftedSizes.{stmt_within, branch_slot_map, body_within, fork_within, fewer_taken}
use Rattle.shim_units.proofs.Counting.{upto_length}

room_for_less : (w : SlotMap) (k n : ℕ) (x y : Extent) → y.inside ≤ x.inside → k + y.size ≤ n + x.size → HasRoomToLift w n x → HasRoomToLift w k y
room_for_less w k n x y inside size h = record { slots = omega (arith, inside, h.slots); exceptions = omega (arith, inside, h.exceptions); units = omega (arith, size, h.units) }

first_part : (w : SlotMap) (n : ℕ) (x y : Extent) → HasRoomToLift w n (sum_of_two x y) → HasRoomToLift w n x
first_part w n x y h = room_for_less w n n (sum_of_two x y) x (omega arith) (omega arith) h

second_part : (w : SlotMap) (n : ℕ) (x y : Extent) → HasRoomToLift w n (sum_of_two x y) → HasRoomToLift w n y
second_part w n x y h = room_for_less w n n (sum_of_two x y) y (omega arith) (omega arith) h

behind : (w : SlotMap) (n : ℕ) (us vs xs : List UnitOf) (x y : Extent) → vs ≡ us ++ xs → length xs ≤ x.size → HasRoomToLift w (n + length us) (sum_of_two x y) → HasRoomToLift w (n + length vs) y
behind w n us vs xs x y is few h = room_for_less w (n + length vs) (n + length us) (sum_of_two x y) y (omega arith) (omega (arith, few, ap (λ (l : List UnitOf). length l) is, length-append us xs)) h

what_in : (w : SlotMap) (n c : ℕ) (s : RStmt) (t : RWhat) (x : Extent) → s.what ≡ t → what_extent t ≡ larger c x → HasRoomToLift w n (stmt_extent s) → HasRoomToLift w n x
what_in w n c s t x is at h = room_for_less w n n (larger c x) x (omega arith) (omega arith) (subst (λ e. HasRoomToLift w n e) (of_stmt s.line s.what ∙ ap what_extent is ∙ at) h)

units_of_body : (context : LiftContext) (w : SlotMap) (n : ℕ) (body : List RStmt) → length (lift_in body context w n).units ≤ (extent body).size
units_of_body context w n body = omega (arith, (body_within body).lifts.points context w n)

pub room_for_other : (context : LiftContext) (w : SlotMap) (n : ℕ) (us vs : List UnitOf) (s : RStmt) (e : UExpr) (first other : List RStmt) → s.what ≡ r.If e first other
    → vs ≡ us ++ (lift_in first context w (n + length us)).units → HasRoomToLift w (n + length us) (stmt_extent s) → HasRoomToLift w (n + length vs) (extent other)
room_for_other context w n us vs s e first other kind made h =
    behind w n us vs _ (extent first) (extent other) made (units_of_body context w (n + length us) first) (what_in w (n + length us) _ s _ (sum_of_two (extent first) (extent other)) kind (at_if e first other) h)

pub room_for_handler : (context : LiftContext) (w : SlotMap) (n : ℕ) (us vs : List UnitOf) (s : RStmt) (body : List RStmt) (x : ℕ) (y : Option ℕ) (handler : List RStmt) → s.what ≡ r.Try body x y handler
    → vs ≡ us ++ (lift_in body context w (n + length us)).units → HasRoomToLift w (n + length us) (stmt_extent s) → HasRoomToLift w (n + length vs) (extent handler)
room_for_handler context w n us vs s body x y handler kind made h =
    second_part w (n + length vs) (variable_extent y) (extent handler)
    (behind w n us vs _ (extent body) (sum_of_two (variable_extent y) (extent handler)) made (units_of_body context w (n + length us) body)
    (what_in w (n + length us) _ s _ (sum_of_two (extent body) (sum_of_two (variable_extent y) (extent handler))) kind (at_try body x y handler) h))

room_behind_first : (context : LiftContext) (w : SlotMap) (n : ℕ) (us vs : List UnitOf) (s : RStmt) (first : List RStmt) (test : Option UExpr) (step body : List RStmt) → s.what ≡ r.For first test step body
    → vs ≡ us ++ (lift_in first context w (n + length us)).units → HasRoomToLift w (n + length us) (stmt_extent s) → HasRoomToLift w (n + length vs) (sum_of_two (extent step) (extent body))
room_behind_first context w n us vs s first test step body kind made h =
    behind w n us vs _ (extent first) (sum_of_two (extent step) (extent body)) made (units_of_body context w (n + length us) first)
    (what_in w (n + length us) _ s _ (sum_of_two (extent first) (sum_of_two (extent step) (extent body))) kind (at_for first test step body) h)

pub room_for_step : (context : LiftContext) (w : SlotMap) (n : ℕ) (us vs : List UnitOf) (s : RStmt) (first : List RStmt) (test : Option UExpr) (step body : List RStmt) → s.what ≡ r.For first test step body
    → vs ≡ us ++ (lift_in first context w (n + length us)).units → HasRoomToLift w (n + length us) (stmt_extent s) → HasRoomToLift w (n + length vs) (extent step)
room_for_step context w n us vs s first test step body kind made h = first_part w (n + length vs) (extent step) (extent body) (room_behind_first context w n us vs s first test step body kind made h)

pub room_for_loop : (context : LiftContext) (w : SlotMap) (n : ℕ) (us vs xs : List UnitOf) (s : RStmt) (first : List RStmt) (test : Option UExpr) (step body : List RStmt) → s.what ≡ r.For first test step body
    → vs ≡ us ++ (lift_in first context w (n + length us)).units → xs ≡ vs ++ (lift_in step context w (n + length vs)).units → HasRoomToLift w (n + length us) (stmt_extent s) → HasRoomToLift w (n + length xs) (extent body)
room_for_loop context w n us vs xs s first test step body kind made next h =
    behind w n vs xs _ (extent step) (extent body) next (units_of_body context w (n + length vs) step) (room_behind_first context w n us vs s first test step body kind made h)

pub room_for_fork : (w : SlotMap) (n : ℕ) (s : RStmt) (branches : List RBranch) → s.what ≡ r.Par branches → HasRoomToLift w n (stmt_extent s) → HasRoomToLift w n (fork_extent branches)
room_for_fork w n s branches kind h =
    room_for_less w n n (in_own_units (fork_extent branches)) (fork_extent branches) (omega (arith, (fork_within branches).slots)) (omega arith) (subst (λ e. HasRoomToLift w n e) (of_stmt s.line s.what ∙ ap what_extent kind ∙ at_par branches) h)

-- one of a list, and what stands after it

pub room_behind_stmt : (context : LiftContext) (w : SlotMap) (n : ℕ) (us vs : List UnitOf) (s : RStmt) (body : List RStmt) → vs ≡ us ++ ((part s).lift context w (n + length us)).units
    → HasRoomToLift w (n + length us) (extent (s ∷ body)) → HasRoomToLift w (n + length vs) (extent body)
room_behind_stmt context w n us vs s body made h = behind w n us vs _ (stmt_extent s) (extent body) made (omega (arith, (stmt_within s).lifts.points context w (n + length us))) h

pub room_behind_branch : (context : LiftContext) (w : SlotMap) (n : ℕ) (us vs : List UnitOf) (b : RBranch) (branches : List RBranch) → vs ≡ us ++ ((branch_part b).lift context w (n + length us)).units
    → HasRoomToLift w (n + length us) (fork_extent (b ∷ branches)) → HasRoomToLift w (n + length vs) (fork_extent branches)
room_behind_branch context w n us vs b branches made h = behind w n us vs _ (branch_extent b) (fork_extent branches) made (omega (arith, (branch_slot_map b).lifts.points context w (n + length us))) h

-- a block branch

pub room_in_branch : (context : LiftContext) (w : SlotMap) (body : List RStmt) (o : BranchCaptures) (n k : ℕ) → IsBranchCaptures o context w (parts body) → k ≡ n + 1 → HasRoomToLift w n (in_own_units (extent body)) → HasRoomToLift o.inner k (extent body)
room_in_branch context w body o n k captured next h =
    let slots = branch_slots context (parts body) w in
    let exceptions = branch_exceptions (parts body) w in
    let fewer : length slots ≤ length w.slots = fewer_taken (λ x. is_taken (branch_captures context (parts body) x)) w.slots in
    let less : length exceptions ≤ length w.exceptions = fewer_taken (is_among (all_raises (parts body))) w.exceptions in
    let inside = body_within body in
    subst (λ i. HasRoomToLift i k (extent body)) (sym captured.inner) (record {
      slots = omega (arith, fewer, h.slots, inside.slots, inside.declares, length-append slots (all_declares (parts body)));
      exceptions = omega (arith, less, h.exceptions, inside.tries, length-append exceptions (all_tries (parts body)));
      units = omega (arith, next, h.units);
    })

pub exceptions_in_branch : (context : LiftContext) (w : SlotMap) (body : List RStmt) (o : BranchCaptures) (n : ℕ) → IsBranchCaptures o context w (parts body) → HasRoomToLift w n (in_own_units (extent body)) → length o.exceptions < 2 ^ 32
exceptions_in_branch context w body o n captured h =
    let less : length (branch_exceptions (parts body) w) ≤ length w.exceptions = fewer_taken (is_among (all_raises (parts body))) w.exceptions in
    omega (arith, ap (λ (l : List ℕ). length l) captured.exceptions, less, h.exceptions)

-- a function, and the functions after it

pub room_in_function : (next : ℕ) (f : RFunction) (w : SlotMap) → w ≡ function_slot_map f → FunctionHasRoom next f → HasRoomToLift w next (extent f.body)
room_in_function next f w is h =
    let inside = body_within f.body in
    subst (λ v. HasRoomToLift v next (extent f.body)) (sym is) (record {
      slots = omega (arith, h.fits, inside.slots, inside.declares, upto_length (length f.params), length-append (upto (length f.params)) (all_declares (parts f.body)));
      exceptions = omega (arith, h.fits, inside.tries, upto_length (length f.throws), length-append (upto (length f.throws)) (all_tries (parts f.body)));
      units = omega (arith, h.fits);
    })

pub room_behind_function : (names : List (List ℕ)) (all : List RFunction) (number base : ℕ) (us vs : List UnitOf) (f : RFunction) (fs : List RFunction)
    → vs ≡ us ++ (lift_function names all number (base + length us) f).lifted → FunctionsHaveRoom (base + length us) (f ∷ fs) → FunctionsHaveRoom (base + length vs) fs
room_behind_function names all number base us vs f fs is h =
    let r = lift_function names all number (base + length us) f in
    record { fits = omega (arith, h.fits, function_points names all number (base + length us) f, ap (λ (l : List UnitOf). length l) is, length-append us r.lifted) }

pub own_goes_on : (names : List (List ℕ)) (all : List RFunction) (number base : ℕ) (us vs own now whole : List UnitOf) (u : UnitOf) (f : RFunction) (fs : List RFunction)
    → vs ≡ us ++ (lift_function names all number (base + length us) f).lifted → u ≡ (lift_function names all number (base + length us) f).own → now ≡ own ++ u ∷ []
    → own ++ (lift_functions names all number (base + length us) (f ∷ fs)).own ≡ whole → now ++ (lift_functions names all (number + 1) (base + length vs) fs).own ≡ whole
own_goes_on names all number base us vs own now whole u f fs is same pushed before =
    let r = lift_function names all number (base + length us) f in
    let rest = (lift_functions names all (number + 1) (base + length us + length r.lifted) fs).own in
    let k : base + length vs ≡ base + length us + length r.lifted = omega (arith, ap (λ (l : List UnitOf). length l) is, length-append us r.lifted) in
    ap (λ m. now ++ (lift_functions names all (number + 1) m fs).own) k ∙ ap (λ xs. xs ++ rest) pushed ∙ append_assoc own (u ∷ []) rest ∙ ap (λ x. own ++ x ∷ rest) same ∙ before

pub lifted_goes_on : (names : List (List ℕ)) (all : List RFunction) (number base : ℕ) (us vs whole : List UnitOf) (f : RFunction) (fs : List RFunction)
    → vs ≡ us ++ (lift_function names all number (base + length us) f).lifted
    → us ++ (lift_functions names all number (base + length us) (f ∷ fs)).lifted ≡ whole → vs ++ (lift_functions names all (number + 1) (base + length vs) fs).lifted ≡ whole
lifted_goes_on names all number base us vs whole f fs is before =
    let r = lift_function names all number (base + length us) f in
    let rest = (lift_functions names all (number + 1) (base + length us + length r.lifted) fs).lifted in
    let k : base + length vs ≡ base + length us + length r.lifted = omega (arith, ap (λ (l : List UnitOf). length l) is, length-append us r.lifted) in
    ap (λ m. vs ++ (lift_functions names all (number + 1) m fs).lifted) k ∙ ap (λ xs. xs ++ rest) is ∙ append_assoc us r.lifted rest ∙ before
