-- What holds for each way to lift holds for all that is lifted out of a function.
use Rattle.std.proofs.Common.{ℕ, List, [], ◌∷◌, sym, subst}
use Rattle.shim_scopes.specs.declared.tree.RFunction.{RFunction}
use Rattle.shim_scopes.specs.declared.tree.RStmt.{RStmt, fold-roll-RStmt}
use Rattle.shim_scopes.specs.declared.tree.RWhat.{RWhat, RWhat-F, fold-roll-RWhat, map-RWhat, roll-RWhat}
use Rattle.shim_scopes.specs.declared.tree.RBranch.{RBranch, fold-roll-RBranch}
use Rattle.shim_scopes.specs.declared.tree.RBranchWhat.{RBranchWhat, RBranchWhat-F, fold-roll-RBranchWhat, map-RBranchWhat, roll-RBranchWhat}
use Rattle.shim_syntax.proofs.FormInduction.{Each, each}
use Rattle.shim_scopes.proofs.FormInduction.{InBranchWhat, InWhat, each_stmt}
use Rattle.shim_units.specs.declared.unit.UCall.{UCall}
use Rattle.shim_units.specs.declared.unit.UStmt.{UStmt}
use Rattle.shim_units.specs.declared.unit.UWhat.{UWhat}
use Rattle.shim_units.specs.declared.unit.UWhat.TheVariants.{Declare, Assign, Next, NextAssign, AssignNext, Get, Put, If, While, For, Block, Call, Try, Throw, Par}
use Rattle.shim_units.specs.declared.unit.UBranch.{UBranch}
use Rattle.shim_units.specs.declared.slot_map.SlotMap.{SlotMap}
use Rattle.shim_units.specs.Moving.{slot_index_of, slot_index_of_option, renumbered, moved_option, moved_call}
use Rattle.shim_units.specs.Parts.{Part, Lifts}
use Rattle.shim_units.specs.Lifting.{lift_all, unlifted, on_tree, lift_two, lift_branch}
use Rattle.shim_units.specs.PartFold.{branch_what_step, what_step, branch_step, stmt_step, part, branch_part, parts, branch_parts, lift_in}
use Rattle.shim_units.proofs.PartSteps.{branch_what_part, what_part}

module _ (L : (T : Type 0) → Lifts T → Type 0)
    (alone : (T : Type 0) (f : List RFunction → SlotMap → T) → L T (λ context w n. unlifted (f context.functions w)))
    (around : (S T : Type 0) (g : SlotMap → S → T) (f : Lifts S) → L S f → L T (λ context w n. on_tree (g w) (f context w n)))
    (two : (R S T : Type 0) (g : SlotMap → R → S → T) (f : Lifts R) (h : Lifts S) → L R f → L S h → L T (λ context w n. lift_two (g w) f h context w n))
    (block_branch : (body : List (Part UStmt)) → L (List UStmt) (lift_all body) → L UCall (lift_branch body)) where
  abbrev BranchHolds : RBranch → Type 0
  BranchHolds b = L UBranch (branch_part b).lift

  abbrev StmtHolds : RStmt → Type 0
  StmtHolds s = L UStmt (part s).lift

  stmts_hold : (body : List RStmt) → Each StmtHolds body → L (List UStmt) (lift_in body)
  stmts_hold [] h = alone (List UStmt) (λ fs w. [])
  stmts_hold (s ∷ body) h = two UStmt (List UStmt) (List UStmt) (λ w t ts. t ∷ ts) (part s).lift (lift_in body) h.0 (stmts_hold body h.1)

  branches_hold : (bs : List RBranch) → Each BranchHolds bs → L (List UBranch) (lift_all (branch_parts bs))
  branches_hold [] h = alone (List UBranch) (λ fs w. [])
  branches_hold (b ∷ bs) h = two UBranch (List UBranch) (List UBranch) (λ w t ts. t ∷ ts) (branch_part b).lift (lift_all (branch_parts bs)) h.0 (branches_hold bs h.1)

  -- one block of statements after another in a statement
  two_blocks : (g : SlotMap → List UStmt → List UStmt → UWhat) (first other : List RStmt) → Each StmtHolds first → Each StmtHolds other → L UWhat (λ context w n. lift_two (g w) (lift_in first) (lift_in other) context w n)
  two_blocks g first other h k = two (List UStmt) (List UStmt) UWhat g (lift_in first) (lift_in other) (stmts_hold first h) (stmts_hold other k)

  branch_what_layer : (y : RBranchWhat-F RBranchWhat RWhat RBranch RStmt) → InBranchWhat StmtHolds y → (line : ℕ)
      → L UCall (branch_what_step (map-RBranchWhat RBranchWhat RWhat RBranch RStmt (ℕ → Part UCall) (ℕ → Part UWhat) (Part UBranch) (Part UStmt) branch_what_part what_part branch_part part y) line).lift
  branch_what_layer (RBranchWhat-F.RBranchWhat::Block body) h line = block_branch (parts body) (stmts_hold body h)
  branch_what_layer (RBranchWhat-F.RBranchWhat::Call c) h line = alone UCall (λ fs w. moved_call fs c w)

  what_layer : (y : RWhat-F RBranchWhat RWhat RBranch RStmt) → InWhat BranchHolds StmtHolds y → (line : ℕ)
      → L UWhat (what_step (map-RWhat RBranchWhat RWhat RBranch RStmt (ℕ → Part UCall) (ℕ → Part UWhat) (Part UBranch) (Part UStmt) branch_what_part what_part branch_part part y) line).lift
  what_layer (RWhat-F.Declare ty x a) h line = alone UWhat (λ fs w. Declare ty (slot_index_of w.slots x) (moved_option w.slots a))
  what_layer (RWhat-F.Assign x a) h line = alone UWhat (λ fs w. Assign (slot_index_of w.slots x) (renumbered w.slots a))
  what_layer (RWhat-F.Next x) h line = alone UWhat (λ fs w. Next (slot_index_of w.slots x))
  what_layer (RWhat-F.NextAssign x a) h line = alone UWhat (λ fs w. NextAssign (slot_index_of w.slots x) (renumbered w.slots a))
  what_layer (RWhat-F.AssignNext x y) h line = alone UWhat (λ fs w. AssignNext (slot_index_of w.slots x) (slot_index_of w.slots y))
  what_layer (RWhat-F.Get x y) h line = alone UWhat (λ fs w. Get (slot_index_of w.slots x) (slot_index_of w.slots y))
  what_layer (RWhat-F.Put x a) h line = alone UWhat (λ fs w. Put (slot_index_of w.slots x) (renumbered w.slots a))
  what_layer (RWhat-F.If a first other) h line = two_blocks (λ w r s. If (renumbered w.slots a) r s) first other h.0 h.1
  what_layer (RWhat-F.While a body) h line = around (List UStmt) UWhat (λ w t. While (renumbered w.slots a) t) (lift_in body) (stmts_hold body h)
  what_layer (RWhat-F.For first test step body) h line =
      two (List UStmt) (List UStmt × List UStmt) UWhat (λ w p q. For p (moved_option w.slots test) q.0 q.1) (lift_in first) (λ context w n. lift_two (λ r s. (r, s)) (lift_in step) (lift_in body) context w n) (stmts_hold first h.0)
      (two (List UStmt) (List UStmt) (List UStmt × List UStmt) (λ w r s. (r, s)) (lift_in step) (lift_in body) (stmts_hold step h.1) (stmts_hold body h.2))
  what_layer (RWhat-F.RWhat::Block body) h line = around (List UStmt) UWhat (λ w t. Block t) (lift_in body) (stmts_hold body h)
  what_layer (RWhat-F.RWhat::Call c) h line = alone UWhat (λ fs w. Call (moved_call fs c w))
  what_layer (RWhat-F.Try body x y handler) h line = two_blocks (λ w r s. Try r (slot_index_of w.exceptions x) (slot_index_of_option w.slots y) s) body handler h.0 h.1
  what_layer (RWhat-F.Throw x a) h line = alone UWhat (λ fs w. Throw (slot_index_of w.exceptions x) (moved_option w.slots a))
  what_layer (RWhat-F.Par bs) h line = around (List UBranch) UWhat (λ w t. Par t) (lift_all (branch_parts bs)) (branches_hold bs h)

  of_branch_what : (y : RBranchWhat-F RBranchWhat RWhat RBranch RStmt) → InBranchWhat StmtHolds y → (line : ℕ) → L UCall (branch_what_part (roll-RBranchWhat y) line).lift
  of_branch_what y h = subst (λ (q : ℕ → Part UCall). (line : ℕ) → L UCall (q line).lift)
      (sym (fold-roll-RBranchWhat (ℕ → Part UCall) (ℕ → Part UWhat) (Part UBranch) (Part UStmt) branch_what_step what_step branch_step stmt_step y)) (branch_what_layer y h)

  of_what : (y : RWhat-F RBranchWhat RWhat RBranch RStmt) → InWhat BranchHolds StmtHolds y → (line : ℕ) → L UWhat (what_part (roll-RWhat y) line).lift
  of_what y h = subst (λ (q : ℕ → Part UWhat). (line : ℕ) → L UWhat (q line).lift)
      (sym (fold-roll-RWhat (ℕ → Part UCall) (ℕ → Part UWhat) (Part UBranch) (Part UStmt) branch_what_step what_step branch_step stmt_step y)) (what_layer y h)

  of_branch : (line : ℕ) (x : RBranchWhat) → ((at : ℕ) → L UCall (branch_what_part x at).lift) → BranchHolds (record { line = line; what = x })
  of_branch line x h = subst (λ (q : Part UBranch). L UBranch q.lift)
      (sym (fold-roll-RBranch (ℕ → Part UCall) (ℕ → Part UWhat) (Part UBranch) (Part UStmt) branch_what_step what_step branch_step stmt_step (record { line = line; what = x })))
      (around UCall UBranch (λ w t. record { line = line; call = t }) (branch_what_part x line).lift (h line))

  of_stmt : (line : ℕ) (x : RWhat) → ((at : ℕ) → L UWhat (what_part x at).lift) → StmtHolds (record { line = line; what = x })
  of_stmt line x h = subst (λ (q : Part UStmt). L UStmt q.lift)
      (sym (fold-roll-RStmt (ℕ → Part UCall) (ℕ → Part UWhat) (Part UBranch) (Part UStmt) branch_what_step what_step branch_step stmt_step (record { line = line; what = x })))
      (around UWhat UStmt (λ w t. record { line = line; what = t }) (what_part x line).lift (h line))

  pub body_holds : (body : List RStmt) → L (List UStmt) (lift_in body)
  body_holds body = stmts_hold body (each StmtHolds
      (each_stmt (λ x. (line : ℕ) → L UCall (branch_what_part x line).lift) (λ x. (line : ℕ) → L UWhat (what_part x line).lift) BranchHolds StmtHolds of_branch_what of_what of_branch of_stmt) body)
