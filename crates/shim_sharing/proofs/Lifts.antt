-- Trees that are lifted one after another, each after the units of those before it.
use Rattle.std.proofs.Common.{◌≡◌, ◌∙◌, ℕ, ◌+◌, List, [], ◌∷◌, ◌++◌, length, sym, ap, arith, length-append, append_assoc}
use Rattle.shim_scopes.specs.declared.tree.RBranch.{RBranch, fold_out-RBranch}
use Rattle.shim_scopes.specs.declared.tree.RBranchWhat.{RBranchWhat-F, roll-RBranchWhat, fold-roll-RBranchWhat}
use Rattle.shim_scopes.specs.declared.tree.RBranchWhat.TheVariants as is
use Rattle.shim_scopes.specs.declared.tree.RStmt.{RStmt}
use Rattle.shim_units.specs.declared.branch.BranchCaptures.{BranchCaptures}
use Rattle.shim_units.specs.declared.unit.Unit.{Unit as UnitOf}
use Rattle.shim_units.specs.declared.unit.UCall.{UCall}
use Rattle.shim_units.specs.declared.unit.UStmt.{UStmt}
use Rattle.shim_units.specs.declared.unit.UWhat.{UWhat}
use Rattle.shim_units.specs.declared.unit.UBranch.{UBranch}
use Rattle.shim_units.specs.declared.slot_map.SlotMap.{SlotMap}
use Rattle.shim_units.specs.Parts.{LiftContext, Part, Lifted, Lifts, all_tries}
use Rattle.shim_units.specs.Usages.{captures_of}
use Rattle.shim_units.specs.Lifting.{lift_two, lift_three, lift_all, lift_branch, branch_unit, branch_captures, branch_slots, branch_exceptions, branch_inner}
use Rattle.shim_units.specs.PartFold.{branch_what_step, what_step, branch_step, stmt_step, in_line, parts, branch_part}
use Rattle.shim_units.specs.BranchCapturing.{IsBranchCaptures}
use Rattle.shim_units.proofs.PartSteps.{branch_what_part}

-- the number of the next unit, behind some
behind : (n : ℕ) (us vs xs : List UnitOf) → vs ≡ us ++ xs → n + length vs ≡ n + length us + length xs
behind n us vs xs is = omega (arith, ap length is ∙ length-append us xs)

pub two_tree : {R S T : Type 0} (g : R → S → T) (f : Lifts R) (h : Lifts S) (context : LiftContext) (w : SlotMap) (n : ℕ) (us vs : List UnitOf) (r : R) (q : S)
    → r ≡ (f context w (n + length us)).tree → vs ≡ us ++ (f context w (n + length us)).units → q ≡ (h context w (n + length vs)).tree
    → g r q ≡ (lift_two g f h context w (n + length us)).tree
two_tree g f h context w n us vs r q made is next =
    ap (λ a. g a q) made ∙ ap (λ b. g (f context w (n + length us)).tree b) (next ∙ ap (λ k. (h context w k).tree) (behind n us vs (f context w (n + length us)).units is))

pub two_units : {R S T : Type 0} (g : R → S → T) (f : Lifts R) (h : Lifts S) (context : LiftContext) (w : SlotMap) (n : ℕ) (us vs ws : List UnitOf)
    → vs ≡ us ++ (f context w (n + length us)).units → ws ≡ vs ++ (h context w (n + length vs)).units
    → ws ≡ us ++ (lift_two g f h context w (n + length us)).units
two_units g f h context w n us vs ws is next =
    let xs : List UnitOf = (f context w (n + length us)).units in
    next ∙ ap (λ k. vs ++ (h context w k).units) (behind n us vs xs is) ∙ ap (λ ys. ys ++ (h context w (n + length us + length xs)).units) is
    ∙ append_assoc us xs (h context w (n + length us + length xs)).units

-- three are one and then two
pub three_tree : {Q R S T : Type 0} (g : Q → R → S → T) (e : Lifts Q) (f : Lifts R) (h : Lifts S) (context : LiftContext) (w : SlotMap) (n : ℕ) (us vs ws : List UnitOf) (p : Q) (r : R) (q : S)
    → p ≡ (e context w (n + length us)).tree → vs ≡ us ++ (e context w (n + length us)).units
    → r ≡ (f context w (n + length vs)).tree → ws ≡ vs ++ (f context w (n + length vs)).units
    → q ≡ (h context w (n + length ws)).tree
    → g p r q ≡ (lift_three g e f h context w (n + length us)).tree
three_tree g e f h context w n us vs ws p r q made is made' is' next =
    let k : n + length vs ≡ n + length us + length (e context w (n + length us)).units = behind n us vs (e context w (n + length us)).units is in
    ap (λ a. g a r q) made
    ∙ two_tree (g (e context w (n + length us)).tree) f h context w n vs ws r q made' is' next
    ∙ ap (λ m. g (e context w (n + length us)).tree (f context w m).tree (h context w (m + length (f context w m).units)).tree) k

pub three_units : {Q R S T : Type 0} (g : Q → R → S → T) (e : Lifts Q) (f : Lifts R) (h : Lifts S) (context : LiftContext) (w : SlotMap) (n : ℕ) (us vs ws xs : List UnitOf)
    → vs ≡ us ++ (e context w (n + length us)).units → ws ≡ vs ++ (f context w (n + length vs)).units → xs ≡ ws ++ (h context w (n + length ws)).units
    → xs ≡ us ++ (lift_three g e f h context w (n + length us)).units
three_units g e f h context w n us vs ws xs is is' next =
    let p : List UnitOf = (e context w (n + length us)).units in
    let k : n + length vs ≡ n + length us + length p = behind n us vs p is in
    two_units (λ r q. g (e context w (n + length us)).tree r q) f h context w n vs ws xs is' next
    ∙ ap (λ m. vs ++ ((f context w m).units ++ (h context w (m + length (f context w m).units)).units)) k
    ∙ ap (λ ys. ys ++ ((f context w (n + length us + length p)).units ++ (h context w (n + length us + length p + length (f context w (n + length us + length p)).units)).units)) is
    ∙ append_assoc us p ((f context w (n + length us + length p)).units ++ (h context w (n + length us + length p + length (f context w (n + length us + length p)).units)).units)

-- one more of a list

pub tree_goes_on : {T : Type 0} (context : LiftContext) (w : SlotMap) (n : ℕ) (us vs : List UnitOf) (p : Part T) (ps : List (Part T)) (made now : List T) (t : T) (all : List T)
    → t ≡ (p.lift context w (n + length us)).tree → vs ≡ us ++ (p.lift context w (n + length us)).units → now ≡ made ++ t ∷ []
    → made ++ (lift_all (p ∷ ps) context w (n + length us)).tree ≡ all → now ++ (lift_all ps context w (n + length vs)).tree ≡ all
tree_goes_on context w n us vs p ps made now t all same is pushed whole =
    let r = p.lift context w (n + length us) in
    let rest = (lift_all ps context w (n + length us + length r.units)).tree in
    ap (λ k. now ++ (lift_all ps context w k).tree) (behind n us vs r.units is) ∙ ap (λ m. m ++ rest) pushed ∙ append_assoc made (t ∷ []) rest ∙ ap (λ x. made ++ x ∷ rest) same ∙ whole

pub units_go_on : {T : Type 0} (context : LiftContext) (w : SlotMap) (n : ℕ) (us vs : List UnitOf) (p : Part T) (ps : List (Part T)) (all : List UnitOf)
    → vs ≡ us ++ (p.lift context w (n + length us)).units
    → us ++ (lift_all (p ∷ ps) context w (n + length us)).units ≡ all → vs ++ (lift_all ps context w (n + length vs)).units ≡ all
units_go_on context w n us vs p ps all is whole =
    let r = p.lift context w (n + length us) in
    let rest = (lift_all ps context w (n + length us + length r.units)).units in
    ap (λ k. vs ++ (lift_all ps context w k).units) (behind n us vs r.units is) ∙ ap (λ xs. xs ++ rest) is ∙ append_assoc us r.units rest ∙ whole

-- a block branch

pub at_block_branch : (b : RBranch) (body : List RStmt) → b.what ≡ is.Block body
    → branch_part b ≡ in_line (λ c. record { line = b.line; call = c }) (branch_what_step (RBranchWhat-F.RBranchWhat::Block (parts body)) b.line)
unfolding roll-RBranchWhat denote.Hole.Carrier.roll
at_block_branch b body kind =
    fold_out-RBranch (ℕ → Part UCall) (ℕ → Part UWhat) (Part UBranch) (Part UStmt) branch_what_step what_step branch_step stmt_step b
    ∙ ap (λ v. in_line (λ c. record { line = b.line; call = c }) (branch_what_part v b.line)) kind
    ∙ ap (λ (q : ℕ → Part UCall). in_line (λ c. record { line = b.line; call = c }) (q b.line))
    (fold-roll-RBranchWhat (ℕ → Part UCall) (ℕ → Part UWhat) (Part UBranch) (Part UStmt) branch_what_step what_step branch_step stmt_step (RBranchWhat-F.RBranchWhat::Block body))

block_unit : (context : LiftContext) (w : SlotMap) (body : List (Part UStmt)) (o : BranchCaptures) (n : ℕ) (made : List UStmt) → IsBranchCaptures o context w body
    → branch_unit context n (captures_of o.captures) o.slots o.exceptions o.inner o.tries made
    ≡ branch_unit context n (branch_captures context body) (branch_slots context body w) (branch_exceptions body w) (branch_inner context body w) (all_tries body) made
block_unit context w body o n made captured =
    ap (λ t. branch_unit context n t o.slots o.exceptions o.inner o.tries made) captured.captures
    ∙ ap (λ xs. branch_unit context n (branch_captures context body) xs o.exceptions o.inner o.tries made) captured.slots
    ∙ ap (λ xs. branch_unit context n (branch_captures context body) (branch_slots context body w) xs o.inner o.tries made) captured.exceptions
    ∙ ap (λ i. branch_unit context n (branch_captures context body) (branch_slots context body w) (branch_exceptions body w) i o.tries made) captured.inner
    ∙ ap (λ xs. branch_unit context n (branch_captures context body) (branch_slots context body w) (branch_exceptions body w) (branch_inner context body w) xs made) captured.tries

-- the unit goes after the others, and then what was lifted out of it
pub block_units : (context : LiftContext) (w : SlotMap) (body : List (Part UStmt)) (o : BranchCaptures) (n u after : ℕ) (made : List UStmt) (unit : UnitOf) (us start nested vs ws : List UnitOf) → IsBranchCaptures o context w body
    → u ≡ n → after ≡ u + 1 → start ≡ [] → made ≡ (lift_all body context o.inner (after + length start)).tree → nested ≡ start ++ (lift_all body context o.inner (after + length start)).units
    → unit ≡ branch_unit context u (captures_of o.captures) o.slots o.exceptions o.inner o.tries made
    → vs ≡ us ++ unit ∷ [] → ws ≡ vs ++ nested
    → ws ≡ us ++ (lift_branch body context w n).units
block_units context w body o n u after made unit us start nested vs ws captured same next none is is' closed pushed appended =
    let inner : SlotMap = branch_inner context body w in
    let k : after + length start ≡ n + 1 = omega (arith, ap length none) in
    let there : lift_all body context o.inner (after + length start) ≡ lift_all body context inner (n + 1) = ap (λ i. lift_all body context i (after + length start)) captured.inner ∙ ap (λ m. lift_all body context inner m) k in
    let tree : made ≡ (lift_all body context inner (n + 1)).tree = is ∙ ap (λ (l : Lifted (List UStmt)). l.tree) there in
    let units : nested ≡ (lift_all body context inner (n + 1)).units = is' ∙ ap (λ xs. xs ++ (lift_all body context o.inner (after + length start)).units) none ∙ ap (λ (l : Lifted (List UStmt)). l.units) there in
    let unit' : unit ≡ branch_unit context n (branch_captures context body) (branch_slots context body w) (branch_exceptions body w) inner (all_tries body) (lift_all body context inner (n + 1)).tree =
    closed ∙ block_unit context w body o u made captured ∙ ap (λ m. branch_unit context m (branch_captures context body) (branch_slots context body w) (branch_exceptions body w) inner (all_tries body) made) same
    ∙ ap (λ b. branch_unit context n (branch_captures context body) (branch_slots context body w) (branch_exceptions body w) inner (all_tries body) b) tree in
    appended ∙ ap (λ xs. xs ++ nested) pushed ∙ append_assoc us (unit ∷ []) nested ∙ ap (λ x. us ++ x ∷ nested) unit'
    ∙ ap (λ xs. us ++ branch_unit context n (branch_captures context body) (branch_slots context body w) (branch_exceptions body w) inner (all_tries body) (lift_all body context inner (n + 1)).tree ∷ xs) units

-- and as a branch

pub branch_tree : (context : LiftContext) (w : SlotMap) (n : ℕ) (b : RBranch) (body : List RStmt) (call : UCall) → b.what ≡ is.Block body
    → call ≡ (lift_branch (parts body) context w n).tree → record { line = b.line; call = call } ≡ ((branch_part b).lift context w n).tree
branch_tree context w n b body call kind made =
    ap (λ (c : UCall). record { line = b.line; call = c }) made ∙ sym (ap (λ (p : Part UBranch). (p.lift context w n).tree) (at_block_branch b body kind))

pub branch_units : (context : LiftContext) (w : SlotMap) (n : ℕ) (b : RBranch) (body : List RStmt) (us vs : List UnitOf) → b.what ≡ is.Block body
    → vs ≡ us ++ (lift_branch (parts body) context w n).units → vs ≡ us ++ ((branch_part b).lift context w n).units
branch_units context w n b body us vs kind made =
    made ∙ sym (ap (λ (p : Part UBranch). us ++ (p.lift context w n).units) (at_block_branch b body kind))
