-- What is lifted out of a statement or a branch fits, by what is lifted out of its parts.
use Rattle.std.proofs.Common.{ℕ, ◌≡◌, ◌∙◌, Bool, true, ◌&&◌, List, [], ◌∷◌, ◌++◌, Option, Some, None, map, refl, sym, subst}
use Rattle.shim_scopes.specs.declared.tree.RStmt.{RStmt, RStmt-F, fold-roll-RStmt, ind-RStmt, map-RStmt, roll-RStmt}
use Rattle.shim_scopes.specs.declared.tree.RWhat.{RWhat, RWhat-F, fold-roll-RWhat, map-RWhat, roll-RWhat}
use Rattle.shim_scopes.specs.declared.tree.RBranch.{RBranch, RBranch-F, fold-roll-RBranch, map-RBranch, roll-RBranch}
use Rattle.shim_scopes.specs.declared.tree.RBranchWhat.{RBranchWhat, RBranchWhat-F, fold-roll-RBranchWhat, map-RBranchWhat, roll-RBranchWhat}
use Rattle.shim_units.specs.declared.form.Form.{Form}
use Rattle.shim_units.specs.declared.unit.Unit.{Unit as UnitOf}
use Rattle.shim_units.specs.declared.unit.UBranch.{UBranch}
use Rattle.shim_units.specs.declared.unit.UCall.{UCall}
use Rattle.shim_units.specs.declared.unit.UStmt.{UStmt}
use Rattle.shim_units.specs.declared.unit.UWhat.{UWhat}
use Rattle.shim_units.specs.declared.unit.UWhat.TheVariants.{Declare, Assign, Next, NextAssign, AssignNext, Get, Put, If, While, For, Block, Call, Try, Throw, Par}
use Rattle.shim_units.specs.declared.slot_map.SlotMap.{SlotMap}
use Rattle.shim_units.specs.Moving.{slot_index_of, slot_index_of_option, renumbered, moved_option, moved_call}
use Rattle.shim_units.specs.Parts.{LiftContext, Part, all_uses, all_declares, Lifts}
use Rattle.shim_units.specs.Uses.{names_in, names_in_option, variable_uses}
use Rattle.shim_units.specs.Own.{some_slot}
use Rattle.shim_units.specs.Lifting.{lift_all, unlifted, on_tree}
use Rattle.shim_units.specs.PartFold.{branch_what_step, what_step, branch_step, stmt_step, in_line, part, parts, branch_part, branch_parts}
use Rattle.shim_laws_binding.specs.HandedOn.{Calls, branch_what_calls, what_calls, stmt_calls, calls_among}
use Rattle.shim_laws_binding.proofs.CallSteps.{calls_of_branch_what, calls_of_what, calls_of_branch, calls_of_branches, calls_stmt, calls_branch}
use Rattle.shim_process.specs.OwnSlots.{has_arguments, all_suit, is_own_variable, fits, all_fit}
use Rattle.shim_laws_sources.proofs.FitSteps.{fits_what, fits_line, fits_declare, fits_assign, fits_next, fits_next_assign, fits_assign_next, fits_get, fits_put, fits_if, fits_while, fits_for, fits_block, fits_call, fits_try, fits_throw, fits_par}
use Rattle.shim_laws_sources.proofs.Lifting.{AreDeclared, IsOwn, declared_in_both, declared_behind, LiftFits, PartFits, PartsFit, alone, around, two, three, block_branch, moved_suits}
use Rattle.shim_laws_sources.proofs.Placing.{declares_it}
use Rattle.shim_laws_binding.proofs.Lists.{Each, each_of_first, each_of_second}
use Rattle.shim_base.proofs.Facts.{both_hold}
use Rattle.shim_units.proofs.PartSteps.{branch_what_part, what_part}

-- a handler's variable is declared where it stands
variable_declared : (y : Option ℕ) → AreDeclared (variable_uses y) (some_slot y)
variable_declared None = tt
variable_declared (Some x) = (declares_it x [], tt)

own_variable : (form : Form) (u : UnitOf) (w : SlotMap) (y : Option ℕ) → Each (IsOwn form u w) (some_slot y) → is_own_variable u (slot_index_of_option w.slots y) ≡ true
own_variable form u w None h = refl
own_variable form u w (Some x) h = h.0

-- a handler fits with its variable
abbrev fit_handler : Form → UnitOf → Option ℕ × List UStmt → Bool
fit_handler form u p = is_own_variable u p.0 && all_fit form u p.1

handler_fits : (form : Form) (y : Option ℕ) (ds : List ℕ) (cs : Calls) (f : Lifts (List UStmt)) → LiftFits form (all_fit form) ds cs f
    → LiftFits form (fit_handler form) (some_slot y ++ ds) cs (λ context w n. on_tree (λ t. (slot_index_of_option w.slots y, t)) (f context w n))
handler_fits form y ds cs f h = record {
  tree = λ context w n u own given stand.
      both_hold _ _ (own_variable form u w y (each_of_first (IsOwn form u w) (some_slot y) ds own)) (h.tree context w n u (each_of_second (IsOwn form u w) (some_slot y) ds own) given stand);
  units = λ context w n given stand. h.units context w n given stand;
}

module _ (form : Form) where
  abbrev fit_call : UnitOf → UCall → Bool
  fit_call u c = has_arguments form c

  abbrev fit_what : UnitOf → UWhat → Bool
  fit_what u t = fits_what form u t

  abbrev fit_branch : UnitOf → UBranch → Bool
  fit_branch u b = has_arguments form b.call

  abbrev fit_fork : UnitOf → List UBranch → Bool
  fit_fork u bs = all_suit form bs

  abbrev BranchWhatFits : Calls → (ℕ → Part UCall) → Type 0
  BranchWhatFits cs p = (line : ℕ) → LiftFits form fit_call [] cs (p line).lift

  abbrev WhatFits : Calls → (ℕ → Part UWhat) → Type 0
  WhatFits cs p = (line : ℕ) → PartFits form fit_what cs (p line)

  abbrev BranchFits : Calls → Part UBranch → Type 0
  BranchFits cs p = LiftFits form fit_branch [] cs p.lift

  abbrev StmtFits : Calls → Part UStmt → Type 0
  StmtFits cs p = PartFits form (fits form) cs p

  abbrev FittingBranchWhat : Type 0
  FittingBranchWhat = (x : RBranchWhat) × BranchWhatFits (calls_of_branch_what x) (branch_what_part x)

  abbrev FittingWhat : Type 0
  FittingWhat = (x : RWhat) × WhatFits (calls_of_what x) (what_part x)

  abbrev FittingBranch : Type 0
  FittingBranch = (b : RBranch) × BranchFits (calls_of_branch b) (branch_part b)

  abbrev FittingStmt : Type 0
  FittingStmt = (s : RStmt) × StmtFits (stmt_calls s) (part s)

  abbrev stmts : List FittingStmt → List RStmt
  stmts ys = map (λ (e : FittingStmt). e.0) ys

  abbrev branches : List FittingBranch → List RBranch
  branches ys = map (λ (e : FittingBranch). e.0) ys

  no_parts : PartsFit form (all_fit form) [] []
  no_parts = record { declared = λ fs. tt; lifts = alone form (all_fit form) [] [] (λ context w. []) (λ context w u own given. refl) }

  more_parts : (cs bs : Calls) (p : Part UStmt) (ps : List (Part UStmt)) → StmtFits cs p → PartsFit form (all_fit form) bs ps → PartsFit form (all_fit form) (cs ++ bs) (p ∷ ps)
  more_parts cs bs p ps one rest = record {
    declared = λ fs. declared_in_both (p.uses fs) (all_uses fs ps) p.declares (all_declares ps) (one.declared fs) (rest.declared fs);
    lifts = two form (fits form) (all_fit form) (all_fit form) p.declares (all_declares ps) cs bs (λ w t ts. t ∷ ts) p.lift (lift_all ps) (λ u w t ts. refl) one.lifts rest.lifts;
  }

  stmts_fit : (ys : List FittingStmt) → PartsFit form (all_fit form) (calls_among (stmts ys)) (parts (stmts ys))
  stmts_fit [] = no_parts
  stmts_fit (y ∷ ys) = more_parts (stmt_calls y.0) (calls_among (stmts ys)) (part y.0) (parts (stmts ys)) y.1 (stmts_fit ys)

  branches_fit : (ys : List FittingBranch) → LiftFits form fit_fork [] (calls_of_branches (branches ys)) (lift_all (branch_parts (branches ys)))
  branches_fit [] = alone form fit_fork [] [] (λ context w. []) (λ context w u own given. refl)
  branches_fit (y ∷ ys) = two form fit_branch fit_fork fit_fork [] [] (calls_of_branch y.0) (calls_of_branches (branches ys)) (λ w b bs. b ∷ bs) (branch_part y.0).lift (lift_all (branch_parts (branches ys)))
      (λ u w b bs. refl) y.1 (branches_fit ys)

  abbrev branch_what_of : RBranchWhat-F FittingBranchWhat FittingWhat FittingBranch FittingStmt → RBranchWhat-F RBranchWhat RWhat RBranch RStmt
  branch_what_of y = map-RBranchWhat FittingBranchWhat FittingWhat FittingBranch FittingStmt RBranchWhat RWhat RBranch RStmt (λ e. e.0) (λ e. e.0) (λ e. e.0) (λ e. e.0) y

  abbrev what_of : RWhat-F FittingBranchWhat FittingWhat FittingBranch FittingStmt → RWhat-F RBranchWhat RWhat RBranch RStmt
  what_of y = map-RWhat FittingBranchWhat FittingWhat FittingBranch FittingStmt RBranchWhat RWhat RBranch RStmt (λ e. e.0) (λ e. e.0) (λ e. e.0) (λ e. e.0) y

  abbrev branch_of : RBranch-F FittingBranchWhat FittingWhat FittingBranch FittingStmt → RBranch-F RBranchWhat RWhat RBranch RStmt
  branch_of y = map-RBranch FittingBranchWhat FittingWhat FittingBranch FittingStmt RBranchWhat RWhat RBranch RStmt (λ e. e.0) (λ e. e.0) (λ e. e.0) (λ e. e.0) y

  abbrev stmt_of : RStmt-F FittingBranchWhat FittingWhat FittingBranch FittingStmt → RStmt-F RBranchWhat RWhat RBranch RStmt
  stmt_of y = map-RStmt FittingBranchWhat FittingWhat FittingBranch FittingStmt RBranchWhat RWhat RBranch RStmt (λ e. e.0) (λ e. e.0) (λ e. e.0) (λ e. e.0) y

  -- what has no declarations, no calls and no parts fits
  plain : (f : LiftContext → SlotMap → UWhat) → ((context : LiftContext) (w : SlotMap) (u : UnitOf) → fits_what form u (f context w) ≡ true) → LiftFits form fit_what [] [] (λ context w n. unlifted (f context w))
  plain f h = alone form fit_what [] [] f (λ context w u own given. h context w u)

  branch_what_layer : (y : RBranchWhat-F FittingBranchWhat FittingWhat FittingBranch FittingStmt)
      → BranchWhatFits (branch_what_calls (map-RBranchWhat RBranchWhat RWhat RBranch RStmt Calls Calls Calls Calls calls_of_branch_what calls_of_what calls_of_branch stmt_calls (branch_what_of y)))
      (branch_what_step (map-RBranchWhat RBranchWhat RWhat RBranch RStmt (ℕ → Part UCall) (ℕ → Part UWhat) (Part UBranch) (Part UStmt) branch_what_part what_part branch_part part (branch_what_of y)))
  branch_what_layer (RBranchWhat-F.RBranchWhat::Block body) line = block_branch form (calls_among (stmts body)) (parts (stmts body)) (stmts_fit body)
  branch_what_layer (RBranchWhat-F.RBranchWhat::Call c) line =
      alone form fit_call [] (c ∷ []) (λ context w. moved_call context.functions c w) (λ context w u own given. moved_suits form context.functions c w given.0)

  what_layer : (y : RWhat-F FittingBranchWhat FittingWhat FittingBranch FittingStmt)
      → WhatFits (what_calls (map-RWhat RBranchWhat RWhat RBranch RStmt Calls Calls Calls Calls calls_of_branch_what calls_of_what calls_of_branch stmt_calls (what_of y)))
      (what_step (map-RWhat RBranchWhat RWhat RBranch RStmt (ℕ → Part UCall) (ℕ → Part UWhat) (Part UBranch) (Part UStmt) branch_what_part what_part branch_part part (what_of y)))
  what_layer (RWhat-F.Declare ty x a) line = record {
    declared = λ fs. (declares_it x (names_in_option a), tt);
    lifts = alone form fit_what (x ∷ []) [] (λ context w. Declare ty (slot_index_of w.slots x) (moved_option w.slots a))
        (λ context w u own given. fits_declare form u ty (slot_index_of w.slots x) (moved_option w.slots a) ∙ own.0);
  }
  what_layer (RWhat-F.Assign x a) line = record { declared = λ fs. tt; lifts = plain (λ context w. Assign (slot_index_of w.slots x) (renumbered w.slots a)) (λ context w u. fits_assign form u (slot_index_of w.slots x) (renumbered w.slots a)) }
  what_layer (RWhat-F.Next x) line = record { declared = λ fs. tt; lifts = plain (λ context w. Next (slot_index_of w.slots x)) (λ context w u. fits_next form u (slot_index_of w.slots x)) }
  what_layer (RWhat-F.NextAssign x a) line =
      record { declared = λ fs. tt; lifts = plain (λ context w. NextAssign (slot_index_of w.slots x) (renumbered w.slots a)) (λ context w u. fits_next_assign form u (slot_index_of w.slots x) (renumbered w.slots a)) }
  what_layer (RWhat-F.AssignNext x y) line =
      record { declared = λ fs. tt; lifts = plain (λ context w. AssignNext (slot_index_of w.slots x) (slot_index_of w.slots y)) (λ context w u. fits_assign_next form u (slot_index_of w.slots x) (slot_index_of w.slots y)) }
  what_layer (RWhat-F.Get x y) line = record { declared = λ fs. tt; lifts = plain (λ context w. Get (slot_index_of w.slots x) (slot_index_of w.slots y)) (λ context w u. fits_get form u (slot_index_of w.slots x) (slot_index_of w.slots y)) }
  what_layer (RWhat-F.Put x a) line = record { declared = λ fs. tt; lifts = plain (λ context w. Put (slot_index_of w.slots x) (renumbered w.slots a)) (λ context w u. fits_put form u (slot_index_of w.slots x) (renumbered w.slots a)) }
  what_layer (RWhat-F.If a first other) line =
      let one = stmts_fit first in
      let rest = stmts_fit other in
      record {
        declared = λ fs. declared_behind (names_in a) _ _ (declared_in_both (all_uses fs (parts (stmts first))) (all_uses fs (parts (stmts other))) _ _ (one.declared fs) (rest.declared fs));
        lifts = two form (all_fit form) (all_fit form) fit_what (all_declares (parts (stmts first))) (all_declares (parts (stmts other))) (calls_among (stmts first)) (calls_among (stmts other))
            (λ w r s. If (renumbered w.slots a) r s) (lift_all (parts (stmts first))) (lift_all (parts (stmts other))) (λ u w r s. fits_if form u (renumbered w.slots a) r s) one.lifts rest.lifts;
      }
  what_layer (RWhat-F.While a body) line =
      let one = stmts_fit body in
      record {
        declared = λ fs. declared_behind (names_in a) _ _ (one.declared fs);
        lifts = around form (all_fit form) fit_what (all_declares (parts (stmts body))) (calls_among (stmts body)) (λ w s. While (renumbered w.slots a) s) (lift_all (parts (stmts body)))
            (λ u w s. fits_while form u (renumbered w.slots a) s) one.lifts;
      }
  what_layer (RWhat-F.For first test step body) line =
      let one = stmts_fit first in
      let next = stmts_fit step in
      let rest = stmts_fit body in
      record {
        declared = λ fs. declared_in_both (all_uses fs (parts (stmts first))) _ _ _ (one.declared fs)
            (declared_behind (names_in_option test) _ _ (declared_in_both (all_uses fs (parts (stmts step))) (all_uses fs (parts (stmts body))) _ _ (next.declared fs) (rest.declared fs)));
        lifts = three form (all_fit form) (all_fit form) (all_fit form) fit_what (all_declares (parts (stmts first))) (all_declares (parts (stmts step))) (all_declares (parts (stmts body)))
            (calls_among (stmts first)) (calls_among (stmts step)) (calls_among (stmts body)) (λ w p r s. For p (moved_option w.slots test) r s)
            (lift_all (parts (stmts first))) (lift_all (parts (stmts step))) (lift_all (parts (stmts body))) (λ u w p r s. fits_for form u p (moved_option w.slots test) r s) one.lifts next.lifts rest.lifts;
      }
  what_layer (RWhat-F.RWhat::Block body) line =
      let one = stmts_fit body in
      record {
        declared = one.declared;
        lifts = around form (all_fit form) fit_what (all_declares (parts (stmts body))) (calls_among (stmts body)) (λ w s. Block s) (lift_all (parts (stmts body))) (λ u w s. fits_block form u s) one.lifts;
      }
  what_layer (RWhat-F.RWhat::Call c) line = record {
    declared = λ fs. tt;
    lifts = alone form fit_what [] (c ∷ []) (λ context w. Call (moved_call context.functions c w)) (λ context w u own given. fits_call form u (moved_call context.functions c w) ∙ moved_suits form context.functions c w given.0);
  }
  what_layer (RWhat-F.Try body x y handler) line =
      let one = stmts_fit body in
      let rest = stmts_fit handler in
      record {
        declared = λ fs. declared_in_both (all_uses fs (parts (stmts body))) _ _ _ (one.declared fs)
            (declared_in_both (variable_uses y) (all_uses fs (parts (stmts handler))) (some_slot y) _ (variable_declared y) (rest.declared fs));
        lifts = two form (all_fit form) (fit_handler form) fit_what (all_declares (parts (stmts body))) (some_slot y ++ all_declares (parts (stmts handler))) (calls_among (stmts body)) (calls_among (stmts handler))
            (λ w r (s : Option ℕ × List UStmt). Try r (slot_index_of w.exceptions x) s.0 s.1) (lift_all (parts (stmts body))) (λ context w n. on_tree (λ t. (slot_index_of_option w.slots y, t)) (lift_all (parts (stmts handler)) context w n))
            (λ u w r s. fits_try form u r (slot_index_of w.exceptions x) s.0 s.1) one.lifts
            (handler_fits form y (all_declares (parts (stmts handler))) (calls_among (stmts handler)) (lift_all (parts (stmts handler))) rest.lifts);
      }
  what_layer (RWhat-F.Throw x a) line = record {
    declared = λ fs. tt;
    lifts = plain (λ context w. Throw (slot_index_of w.exceptions x) (moved_option w.slots a)) (λ context w u. fits_throw form u (slot_index_of w.exceptions x) (moved_option w.slots a));
  }
  what_layer (RWhat-F.Par bs) line = record {
    declared = λ fs. tt;
    lifts = around form fit_fork fit_what [] (calls_of_branches (branches bs)) (λ w s. Par s) (lift_all (branch_parts (branches bs))) (λ u w s. fits_par form u s) (branches_fit bs);
  }

  branch_what_case : (x : RBranchWhat-F RBranchWhat RWhat RBranch RStmt) (y : RBranchWhat-F FittingBranchWhat FittingWhat FittingBranch FittingStmt) → branch_what_of y ≡ x
      → BranchWhatFits (calls_of_branch_what (roll-RBranchWhat x)) (branch_what_part (roll-RBranchWhat x))
  branch_what_case x y is = subst (λ z. BranchWhatFits (calls_of_branch_what (roll-RBranchWhat z)) (branch_what_part (roll-RBranchWhat z))) is
      (subst (λ q. BranchWhatFits (calls_of_branch_what (roll-RBranchWhat (branch_what_of y))) q)
      (sym (fold-roll-RBranchWhat (ℕ → Part UCall) (ℕ → Part UWhat) (Part UBranch) (Part UStmt) branch_what_step what_step branch_step stmt_step (branch_what_of y)))
      (subst (λ e. BranchWhatFits e (branch_what_step (map-RBranchWhat RBranchWhat RWhat RBranch RStmt (ℕ → Part UCall) (ℕ → Part UWhat) (Part UBranch) (Part UStmt) branch_what_part what_part branch_part part (branch_what_of y))))
      (sym (fold-roll-RBranchWhat Calls Calls Calls Calls branch_what_calls what_calls (λ b. b.what) (λ s. s.what) (branch_what_of y))) (branch_what_layer y)))

  what_case : (x : RWhat-F RBranchWhat RWhat RBranch RStmt) (y : RWhat-F FittingBranchWhat FittingWhat FittingBranch FittingStmt) → what_of y ≡ x
      → WhatFits (calls_of_what (roll-RWhat x)) (what_part (roll-RWhat x))
  what_case x y is = subst (λ z. WhatFits (calls_of_what (roll-RWhat z)) (what_part (roll-RWhat z))) is
      (subst (λ q. WhatFits (calls_of_what (roll-RWhat (what_of y))) q)
      (sym (fold-roll-RWhat (ℕ → Part UCall) (ℕ → Part UWhat) (Part UBranch) (Part UStmt) branch_what_step what_step branch_step stmt_step (what_of y)))
      (subst (λ e. WhatFits e (what_step (map-RWhat RBranchWhat RWhat RBranch RStmt (ℕ → Part UCall) (ℕ → Part UWhat) (Part UBranch) (Part UStmt) branch_what_part what_part branch_part part (what_of y))))
      (sym (fold-roll-RWhat Calls Calls Calls Calls branch_what_calls what_calls (λ b. b.what) (λ s. s.what) (what_of y))) (what_layer y)))

  branch_case : (x : RBranch-F RBranchWhat RWhat RBranch RStmt) (y : RBranch-F FittingBranchWhat FittingWhat FittingBranch FittingStmt) → branch_of y ≡ x
      → BranchFits (calls_of_branch (roll-RBranch x)) (branch_part (roll-RBranch x))
  branch_case x y is = subst (λ z. BranchFits (calls_of_branch (roll-RBranch z)) (branch_part (roll-RBranch z))) is
      (subst (λ q. BranchFits (calls_of_branch (roll-RBranch (branch_of y))) q)
      (sym (fold-roll-RBranch (ℕ → Part UCall) (ℕ → Part UWhat) (Part UBranch) (Part UStmt) branch_what_step what_step branch_step stmt_step (branch_of y)))
      (subst (λ e. BranchFits e (in_line (λ (c : UCall). let b : UBranch = record { line = y.line; call = c } in b) (branch_what_part y.what.0 y.line)))
      (sym (calls_branch y.line y.what.0))
      (around form fit_call fit_branch [] (calls_of_branch_what y.what.0) (λ w c. record { line = y.line; call = c }) (branch_what_part y.what.0 y.line).lift (λ u w c. refl) (y.what.1 y.line))))

  in_its_line : (line : ℕ) (cs : Calls) (p : Part UWhat) → PartFits form fit_what cs p → StmtFits cs (in_line (λ (t : UWhat). let s : UStmt = record { line = line; what = t } in s) p)
  in_its_line line cs p h = record {
    declared = h.declared;
    lifts = around form fit_what (fits form) p.declares cs (λ w t. record { line = line; what = t }) p.lift (λ u w t. fits_line form u line t) h.lifts;
  }

  stmt_case : (x : RStmt-F RBranchWhat RWhat RBranch RStmt) (y : RStmt-F FittingBranchWhat FittingWhat FittingBranch FittingStmt) → stmt_of y ≡ x
      → StmtFits (stmt_calls (roll-RStmt x)) (part (roll-RStmt x))
  stmt_case x y is = subst (λ z. StmtFits (stmt_calls (roll-RStmt z)) (part (roll-RStmt z))) is
      (subst (λ q. StmtFits (stmt_calls (roll-RStmt (stmt_of y))) q)
      (sym (fold-roll-RStmt (ℕ → Part UCall) (ℕ → Part UWhat) (Part UBranch) (Part UStmt) branch_what_step what_step branch_step stmt_step (stmt_of y)))
      (subst (λ e. StmtFits e (in_line (λ (t : UWhat). let s : UStmt = record { line = y.line; what = t } in s) (what_part y.what.0 y.line)))
      (sym (calls_stmt y.line y.what.0))
      (in_its_line y.line (calls_of_what y.what.0) (what_part y.what.0 y.line) (y.what.1 y.line))))

  stmt_fits : (s : RStmt) → StmtFits (stmt_calls s) (part s)
  stmt_fits = ind-RStmt (λ x. BranchWhatFits (calls_of_branch_what x) (branch_what_part x)) (λ x. WhatFits (calls_of_what x) (what_part x))
      (λ b. BranchFits (calls_of_branch b) (branch_part b)) (λ s. StmtFits (stmt_calls s) (part s)) branch_what_case what_case branch_case stmt_case

  -- so is the text of a function
  pub body_fits : (body : List RStmt) → PartsFit form (all_fit form) (calls_among body) (parts body)
  body_fits [] = no_parts
  body_fits (s ∷ body) = more_parts (stmt_calls s) (calls_among body) (part s) (parts body) (stmt_fits s) (body_fits body)
