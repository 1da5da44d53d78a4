-- What is lifted out of a part has its sorts, where the part's declarations have theirs among the slots of the function.
use Rattle.std.proofs.Common.{ℕ, suc, ◌+◌, ◌≡◌, ◌∙◌, Bool, true, false, not, ◌||◌, List, [], ◌∷◌, ◌++◌, Option, Some, None, cond, length, map, nat_eq, slice_get, eqb-true, refl, sym, ap, subst, arith}
use Rattle.shim_base.specs.declared.types.Ty.{Ty}
use Rattle.shim_base.specs.declared.types.Ty.TheVariants.{Int32}
use Rattle.shim_syntax.specs.declared.tree.Sort.{Sort}
use Rattle.shim_syntax.specs.declared.tree.Sort.TheVariants.{Value}
use Rattle.shim_scopes.specs.declared.tree.RCall.{RCall}
use Rattle.shim_scopes.specs.declared.tree.UExpr.{UExpr}
use Rattle.shim_scopes.specs.declared.tree.RStmt.{RStmt, fold-roll-RStmt}
use Rattle.shim_scopes.specs.declared.tree.RWhat.{RWhat, RWhat-F, fold-roll-RWhat, map-RWhat, roll-RWhat}
use Rattle.shim_scopes.specs.declared.tree.RWhat.TheVariants as r
use Rattle.shim_scopes.specs.declared.tree.RBranch.{RBranch, fold-roll-RBranch}
use Rattle.shim_scopes.specs.declared.tree.RBranchWhat.{RBranchWhat, RBranchWhat-F, fold-roll-RBranchWhat, map-RBranchWhat, roll-RBranchWhat}
use Rattle.shim_scopes.specs.declared.tree.RBranchWhat.TheVariants as rb
use Rattle.shim_units.specs.declared.unit.UBranch.{UBranch}
use Rattle.shim_units.specs.declared.unit.UCall.{UCall}
use Rattle.shim_units.specs.declared.unit.UStmt.{UStmt}
use Rattle.shim_units.specs.declared.unit.UWhat.{UWhat}
use Rattle.shim_units.specs.declared.unit.UWhat.TheVariants as u
use Rattle.shim_units.specs.declared.slot_map.SlotMap.{SlotMap}
use Rattle.shim_units.specs.Moving.{slot_index_of, slot_index_of_option, renumbered, moved_option, moved_call}
use Rattle.shim_units.specs.Own.{some_slot}
use Rattle.shim_units.specs.Parts.{LiftContext, Part, Lifts, all_declares}
use Rattle.shim_units.specs.Lifting.{lift_all, unlifted, on_tree, lift_two, sort_of, sort_or_bool, is_among, branch_slots, branch_inner, lift_branch}
use Rattle.shim_units.specs.PartFold.{branch_what_step, what_step, branch_step, stmt_step, part, parts, branch_part, branch_parts, declares_in}
use Rattle.shim_units.proofs.PartSteps.{branch_what_part, what_part}
use Rattle.shim_laws_binding.proofs.Lists.{Each, each_of_both, each_of_first, each_of_second}
use Rattle.shim_laws_sources.proofs.Lists.{each_weaker}
use Rattle.shim_laws_sources.proofs.Placing.{all_among, among_more, index_of, found, place_is}
use Rattle.shim_laws_sources.proofs.SortedStmts.{AreSorted, VariableIsSorted, WhatIsSorted, IsSorted, UnitIsSorted, none_sorted, more_sorted, sorted_declare, sorted_assign, sorted_next, sorted_next_assign, sorted_assign_next, sorted_get, sorted_put, sorted_if, sorted_while, sorted_for, sorted_block, sorted_call, sorted_try, sorted_throw, sorted_par}

-- the sort of a variable, at its place in a unit

at_by : (b c : Bool) (g : ℕ → Sort) (x y : ℕ) (rest : List ℕ) (n : ℕ) → (b ≡ true → x ≡ y) → (c ≡ true → slice_get (map g rest) n ≡ Some (g y)) → (b || c) ≡ true
    → slice_get (g x ∷ map g rest) (cond (not b) (1 + n) 0) ≡ Some (g y)
at_by true c g x y rest n same f h = ap (λ z. Some (g z)) (same refl)
at_by false c g x y rest n same f h = let e : 1 + n ≡ suc n = omega arith in ap (slice_get (g x ∷ map g rest)) e ∙ f h

at_index : (g : ℕ → Sort) (all : List ℕ) (y : ℕ) → is_among all y ≡ true → slice_get (map g all) (index_of all y) ≡ Some (g y)
at_index g [] y h = absurd (cc h)
at_index g (x ∷ all) y h = at_by (nat_eq x y) (is_among all y) g x y all (index_of all y) (eqb-true x y) (at_index g all y) h

abbrev pub AreAmong : List ℕ → List ℕ → Type 0
AreAmong all ys = Each (λ y. is_among all y ≡ true) ys

among_behind : (xs ys : List ℕ) (y : ℕ) → is_among ys y ≡ true → is_among (xs ++ ys) y ≡ true
among_behind [] ys y h = h
among_behind (x ∷ xs) ys y h = among_more (nat_eq x y) (is_among (xs ++ ys) y) (among_behind xs ys y h)

-- each number of the second list
pub second_among : (xs ys : List ℕ) → AreAmong (xs ++ ys) ys
second_among xs ys = each_weaker (λ y. is_among ys y ≡ true) (λ y. is_among (xs ++ ys) y ≡ true) (among_behind xs ys) ys (all_among ys)

-- the slots of a unit that has these of its function's
abbrev pub slots_of : LiftContext → SlotMap → List Sort
slots_of context w = map (sort_of context.function) w.slots

has_sort : (context : LiftContext) (w : SlotMap) (ty : Ty) (x : ℕ) → slice_get context.function.slots x ≡ Some (Value ty) → is_among w.slots x ≡ true
    → slice_get (slots_of context w) (slot_index_of w.slots x) ≡ Some (Value ty)
has_sort context w ty x h among =
    ap (slice_get (slots_of context w)) (place_is w.slots x (found w.slots x among)) ∙ at_index (sort_of context.function) w.slots x among ∙ ap (λ o. Some (sort_or_bool o)) h

-- A part that declares these, in a function with these slots. Its tree is good in each unit that has what it declares, and the units that are lifted out of it have their sorts.
pub record LiftsSorted {T : Type 0} (good : List Sort → T → Type 0) (all : List Sort) (ds : List ℕ) (f : Lifts T) : Type 0 where
  pub tree : (context : LiftContext) (w : SlotMap) (n : ℕ) → context.function.slots ≡ all → AreAmong w.slots ds → good (slots_of context w) (f context w n).tree
  pub units : (context : LiftContext) (w : SlotMap) (n : ℕ) → context.function.slots ≡ all → Each UnitIsSorted (f context w n).units

-- a part that nothing is lifted out of
alone : {T : Type 0} (good : List Sort → T → Type 0) (all : List Sort) (ds : List ℕ) (f : LiftContext → SlotMap → T)
    → ((context : LiftContext) (w : SlotMap) → context.function.slots ≡ all → AreAmong w.slots ds → good (slots_of context w) (f context w)) → LiftsSorted good all ds (λ context w n. unlifted (f context w))
alone good all ds f h = record { tree = λ context w n is among. h context w is among; units = λ context w n is. tt }

-- with something around the tree
around : {S T : Type 0} (good : List Sort → S → Type 0) (better : List Sort → T → Type 0) (all : List Sort) (ds : List ℕ) (g : SlotMap → S → T) (f : Lifts S)
    → ((slots : List Sort) (w : SlotMap) (s : S) → good slots s → better slots (g w s)) → LiftsSorted good all ds f → LiftsSorted better all ds (λ context w n. on_tree (g w) (f context w n))
around good better all ds g f so h = record {
  tree = λ context w n is among. so (slots_of context w) w (f context w n).tree (h.tree context w n is among);
  units = λ context w n is. h.units context w n is;
}

-- two, one after the other
two : {R S T : Type 0} (good : List Sort → R → Type 0) (fine : List Sort → S → Type 0) (better : List Sort → T → Type 0) (all : List Sort) (ds es : List ℕ) (g : SlotMap → R → S → T) (f : Lifts R) (h : Lifts S)
    → ((slots : List Sort) (w : SlotMap) (q : R) (s : S) → good slots q → fine slots s → better slots (g w q s)) → LiftsSorted good all ds f → LiftsSorted fine all es h
    → LiftsSorted better all (ds ++ es) (λ context w n. lift_two (g w) f h context w n)
two good fine better all ds es g f h so a b = record {
  tree = λ context w n is among.
      let p = f context w n in
      let m : ℕ = n + length p.units in
      let q = h context w m in
      so (slots_of context w) w p.tree q.tree (a.tree context w n is (each_of_first (λ y. is_among w.slots y ≡ true) ds es among)) (b.tree context w m is (each_of_second (λ y. is_among w.slots y ≡ true) ds es among));
  units = λ context w n is.
      let p = f context w n in
      let m : ℕ = n + length p.units in
      let q = h context w m in
      each_of_both UnitIsSorted p.units q.units (a.units context w n is) (b.units context w m is);
}

-- so it is with some statements, with one, and with branches, of which only the units matter
abbrev pub BodySorted : List Sort → List RStmt → Type 0
BodySorted all body = LiftsSorted AreSorted all (declares_in body) (lift_all (parts body))

abbrev pub StmtSorted : List Sort → RStmt → Type 0
StmtSorted all s = LiftsSorted IsSorted all (part s).declares (part s).lift

abbrev PartSorted : List Sort → Part UWhat → Type 0
PartSorted all p = LiftsSorted WhatIsSorted all p.declares p.lift

abbrev pub WhatSorted : List Sort → RWhat → Type 0
WhatSorted all t = (line : ℕ) → PartSorted all (what_part t line)

abbrev any : {T : Type 0} → List Sort → T → Type 0
any slots t = Unit {0}

abbrev pub BranchWhatSorted : List Sort → RBranchWhat → Type 0
BranchWhatSorted all t = (line : ℕ) → LiftsSorted any all [] (branch_what_part t line).lift

abbrev pub BranchSorted : List Sort → RBranch → Type 0
BranchSorted all b = LiftsSorted any all [] (branch_part b).lift

abbrev pub ForkSorted : List Sort → List RBranch → Type 0
ForkSorted all bs = LiftsSorted any all [] (lift_all (branch_parts bs))

module _ (all : List Sort) where
  pub no_stmts : BodySorted all []
  no_stmts = alone AreSorted all [] (λ context w. []) (λ context w is among. none_sorted (slots_of context w))

  pub more_stmts : (s : RStmt) (body : List RStmt) → StmtSorted all s → BodySorted all body → BodySorted all (s ∷ body)
  more_stmts s body h k = two IsSorted AreSorted AreSorted all (part s).declares (declares_in body) (λ w t ts. t ∷ ts) (part s).lift (lift_all (parts body)) (λ slots w t ts i j. more_sorted slots t ts i j) h k

  pub no_branches : ForkSorted all []
  no_branches = alone any all [] (λ context w. []) (λ context w is among. tt)

  pub more_branches : (b : RBranch) (bs : List RBranch) → BranchSorted all b → ForkSorted all bs → ForkSorted all (b ∷ bs)
  more_branches b bs h k = two any any any all [] [] (λ w c cs. c ∷ cs) (branch_part b).lift (lift_all (branch_parts bs)) (λ slots w c cs i j. tt) h k

  at_part : (line : ℕ) (y : RWhat-F RBranchWhat RWhat RBranch RStmt)
      → PartSorted all (what_step (map-RWhat RBranchWhat RWhat RBranch RStmt (ℕ → Part UCall) (ℕ → Part UWhat) (Part UBranch) (Part UStmt) branch_what_part what_part branch_part part y) line)
      → PartSorted all (what_part (roll-RWhat y) line)
  at_part line y h = subst (λ (p : ℕ → Part UWhat). PartSorted all (p line)) (sym (fold-roll-RWhat (ℕ → Part UCall) (ℕ → Part UWhat) (Part UBranch) (Part UStmt) branch_what_step what_step branch_step stmt_step y)) h

  plain : (f : LiftContext → SlotMap → UWhat) → ((context : LiftContext) (w : SlotMap) → WhatIsSorted (slots_of context w) (f context w)) → LiftsSorted WhatIsSorted all [] (λ context w n. unlifted (f context w))
  plain f h = alone WhatIsSorted all [] f (λ context w is among. h context w)

  pub part_declare : (ty : Ty) (x : ℕ) (e : Option UExpr) → slice_get all x ≡ Some (Value ty) → WhatSorted all (r.Declare ty x e)
  unfolding roll-RWhat denote.Hole.Carrier.roll
  part_declare ty x e h line = at_part line (RWhat-F.Declare ty x e) (alone WhatIsSorted all (x ∷ []) (λ context w. u.Declare ty (slot_index_of w.slots x) (moved_option w.slots e))
      (λ context w is among. sorted_declare (slots_of context w) ty (slot_index_of w.slots x) (moved_option w.slots e) (has_sort context w ty x (ap (λ l. slice_get l x) is ∙ h) among.0)))

  pub part_assign : (x : ℕ) (e : UExpr) → WhatSorted all (r.Assign x e)
  unfolding roll-RWhat denote.Hole.Carrier.roll
  part_assign x e line = at_part line (RWhat-F.Assign x e) (plain (λ context w. u.Assign (slot_index_of w.slots x) (renumbered w.slots e)) (λ context w. sorted_assign (slots_of context w) (slot_index_of w.slots x) (renumbered w.slots e)))

  pub part_next : (x : ℕ) → WhatSorted all (r.Next x)
  unfolding roll-RWhat denote.Hole.Carrier.roll
  part_next x line = at_part line (RWhat-F.Next x) (plain (λ context w. u.Next (slot_index_of w.slots x)) (λ context w. sorted_next (slots_of context w) (slot_index_of w.slots x)))

  pub part_next_assign : (x : ℕ) (e : UExpr) → WhatSorted all (r.NextAssign x e)
  unfolding roll-RWhat denote.Hole.Carrier.roll
  part_next_assign x e line =
      at_part line (RWhat-F.NextAssign x e) (plain (λ context w. u.NextAssign (slot_index_of w.slots x) (renumbered w.slots e)) (λ context w. sorted_next_assign (slots_of context w) (slot_index_of w.slots x) (renumbered w.slots e)))

  pub part_assign_next : (x y : ℕ) → WhatSorted all (r.AssignNext x y)
  unfolding roll-RWhat denote.Hole.Carrier.roll
  part_assign_next x y line =
      at_part line (RWhat-F.AssignNext x y) (plain (λ context w. u.AssignNext (slot_index_of w.slots x) (slot_index_of w.slots y)) (λ context w. sorted_assign_next (slots_of context w) (slot_index_of w.slots x) (slot_index_of w.slots y)))

  pub part_get : (x y : ℕ) → WhatSorted all (r.Get x y)
  unfolding roll-RWhat denote.Hole.Carrier.roll
  part_get x y line = at_part line (RWhat-F.Get x y) (plain (λ context w. u.Get (slot_index_of w.slots x) (slot_index_of w.slots y)) (λ context w. sorted_get (slots_of context w) (slot_index_of w.slots x) (slot_index_of w.slots y)))

  pub part_put : (x : ℕ) (e : UExpr) → WhatSorted all (r.Put x e)
  unfolding roll-RWhat denote.Hole.Carrier.roll
  part_put x e line = at_part line (RWhat-F.Put x e) (plain (λ context w. u.Put (slot_index_of w.slots x) (renumbered w.slots e)) (λ context w. sorted_put (slots_of context w) (slot_index_of w.slots x) (renumbered w.slots e)))

  pub part_if : (e : UExpr) (a b : List RStmt) → BodySorted all a → BodySorted all b → WhatSorted all (r.If e a b)
  unfolding roll-RWhat denote.Hole.Carrier.roll
  part_if e a b h k line = at_part line (RWhat-F.If e a b) (two AreSorted AreSorted WhatIsSorted all (declares_in a) (declares_in b) (λ w q s. u.If (renumbered w.slots e) q s) (lift_all (parts a)) (lift_all (parts b))
      (λ slots w q s i j. sorted_if slots (renumbered w.slots e) q s i j) h k)

  pub part_while : (e : UExpr) (body : List RStmt) → BodySorted all body → WhatSorted all (r.While e body)
  unfolding roll-RWhat denote.Hole.Carrier.roll
  part_while e body h line = at_part line (RWhat-F.While e body) (around AreSorted WhatIsSorted all (declares_in body) (λ w s. u.While (renumbered w.slots e) s) (lift_all (parts body)) (λ slots w s i. sorted_while slots (renumbered w.slots e) s i) h)

  -- three parts are one and then two
  pub part_for : (a : List RStmt) (test : Option UExpr) (b c : List RStmt) → BodySorted all a → BodySorted all b → BodySorted all c → WhatSorted all (r.For a test b c)
  unfolding roll-RWhat denote.Hole.Carrier.roll
  part_for a test b c h k l line = at_part line (RWhat-F.For a test b c) (two AreSorted (λ slots (q : List UStmt × List UStmt). AreSorted slots q.0 × AreSorted slots q.1) WhatIsSorted all (declares_in a) (declares_in b ++ declares_in c)
      (λ w p (q : List UStmt × List UStmt). u.For p (moved_option w.slots test) q.0 q.1) (lift_all (parts a)) (λ context w n. lift_two (λ q s. (q, s)) (lift_all (parts b)) (lift_all (parts c)) context w n)
      (λ slots w p q i j. sorted_for slots p (moved_option w.slots test) q.0 q.1 i j.0 j.1) h
      (two AreSorted AreSorted (λ slots (q : List UStmt × List UStmt). AreSorted slots q.0 × AreSorted slots q.1) all (declares_in b) (declares_in c) (λ w q s. (q, s)) (lift_all (parts b)) (lift_all (parts c)) (λ slots w q s i j. (i, j)) k l))

  pub part_block : (body : List RStmt) → BodySorted all body → WhatSorted all (r.Block body)
  unfolding roll-RWhat denote.Hole.Carrier.roll
  part_block body h line = at_part line (RWhat-F.RWhat::Block body) (around AreSorted WhatIsSorted all (declares_in body) (λ w s. u.Block s) (lift_all (parts body)) (λ slots w s i. sorted_block slots s i) h)

  pub part_call : (c : RCall) → WhatSorted all (r.Call c)
  unfolding roll-RWhat denote.Hole.Carrier.roll
  part_call c line = at_part line (RWhat-F.RWhat::Call c) (plain (λ context w. u.Call (moved_call context.functions c w)) (λ context w. sorted_call (slots_of context w) (moved_call context.functions c w)))

  variable_sort : (context : LiftContext) (w : SlotMap) (y : Option ℕ) → context.function.slots ≡ all → VariableIsSorted all y → AreAmong w.slots (some_slot y) → VariableIsSorted (slots_of context w) (slot_index_of_option w.slots y)
  variable_sort context w None is h among = tt
  variable_sort context w (Some x) is h among = has_sort context w Int32 x (ap (λ l. slice_get l x) is ∙ h) among.0

  -- a handler with its variable
  handler_sorted : (y : Option ℕ) (b : List RStmt) → VariableIsSorted all y → BodySorted all b
      → LiftsSorted (λ slots (p : Option ℕ × List UStmt). VariableIsSorted slots p.0 × AreSorted slots p.1) all (some_slot y ++ declares_in b)
      (λ context w n. on_tree (λ t. (slot_index_of_option w.slots y, t)) (lift_all (parts b) context w n))
  handler_sorted y b v k = record {
    tree = λ context w n is among. (
      variable_sort context w y is v (each_of_first (λ x. is_among w.slots x ≡ true) (some_slot y) (declares_in b) among),
      k.tree context w n is (each_of_second (λ x. is_among w.slots x ≡ true) (some_slot y) (declares_in b) among),
    );
    units = λ context w n is. k.units context w n is;
  }

  pub part_try : (a : List RStmt) (x : ℕ) (y : Option ℕ) (b : List RStmt) → BodySorted all a → VariableIsSorted all y → BodySorted all b → WhatSorted all (r.Try a x y b)
  unfolding roll-RWhat denote.Hole.Carrier.roll
  part_try a x y b h v k line = at_part line (RWhat-F.Try a x y b) (two AreSorted (λ slots (p : Option ℕ × List UStmt). VariableIsSorted slots p.0 × AreSorted slots p.1) WhatIsSorted all (declares_in a) (some_slot y ++ declares_in b)
      (λ w q (p : Option ℕ × List UStmt). u.Try q (slot_index_of w.exceptions x) p.0 p.1) (lift_all (parts a)) (λ context w n. on_tree (λ t. (slot_index_of_option w.slots y, t)) (lift_all (parts b) context w n))
      (λ slots w q p i j. sorted_try slots q (slot_index_of w.exceptions x) p.0 p.1 i j.0 j.1) h (handler_sorted y b v k))

  pub part_throw : (x : ℕ) (e : Option UExpr) → WhatSorted all (r.Throw x e)
  unfolding roll-RWhat denote.Hole.Carrier.roll
  part_throw x e line = at_part line (RWhat-F.Throw x e)
      (plain (λ context w. u.Throw (slot_index_of w.exceptions x) (moved_option w.slots e)) (λ context w. sorted_throw (slots_of context w) (slot_index_of w.exceptions x) (moved_option w.slots e)))

  pub part_par : (bs : List RBranch) → ForkSorted all bs → WhatSorted all (r.Par bs)
  unfolding roll-RWhat denote.Hole.Carrier.roll
  part_par bs h line = at_part line (RWhat-F.Par bs) (around any WhatIsSorted all [] (λ w s. u.Par s) (lift_all (branch_parts bs)) (λ slots w s i. sorted_par slots s) h)

  at_branch_part : (line : ℕ) (y : RBranchWhat-F RBranchWhat RWhat RBranch RStmt)
      → LiftsSorted any all [] (branch_what_step (map-RBranchWhat RBranchWhat RWhat RBranch RStmt (ℕ → Part UCall) (ℕ → Part UWhat) (Part UBranch) (Part UStmt) branch_what_part what_part branch_part part y) line).lift
      → LiftsSorted any all [] (branch_what_part (roll-RBranchWhat y) line).lift
  at_branch_part line y h =
      subst (λ (p : ℕ → Part UCall). LiftsSorted any all [] (p line).lift) (sym (fold-roll-RBranchWhat (ℕ → Part UCall) (ℕ → Part UWhat) (Part UBranch) (Part UStmt) branch_what_step what_step branch_step stmt_step y)) h

  block_branch : (ps : List (Part UStmt)) → LiftsSorted AreSorted all (all_declares ps) (lift_all ps) → LiftsSorted any all [] (lift_branch ps)
  block_branch ps h = record {
    tree = λ context w n is among. tt;
    units = λ context w n is.
        let own : SlotMap = branch_inner context ps w in
        (h.tree context own (n + 1) is (second_among (branch_slots context ps w) (all_declares ps)), h.units context own (n + 1) is);
  }

  pub part_block_branch : (body : List RStmt) → BodySorted all body → BranchWhatSorted all (rb.Block body)
  unfolding roll-RBranchWhat denote.Hole.Carrier.roll
  part_block_branch body h line = at_branch_part line (RBranchWhat-F.RBranchWhat::Block body) (block_branch (parts body) h)

  pub part_call_branch : (c : RCall) → BranchWhatSorted all (rb.Call c)
  unfolding roll-RBranchWhat denote.Hole.Carrier.roll
  part_call_branch c line = at_branch_part line (RBranchWhat-F.RBranchWhat::Call c) (alone any all [] (λ context w. moved_call context.functions c w) (λ context w is among. tt))

  -- with their lines

  pub part_stmt : (line : ℕ) (t : RWhat) → WhatSorted all t → StmtSorted all (record { line = line; what = t })
  part_stmt line t h = subst (λ (p : Part UStmt). LiftsSorted IsSorted all p.declares p.lift)
      (sym (fold-roll-RStmt (ℕ → Part UCall) (ℕ → Part UWhat) (Part UBranch) (Part UStmt) branch_what_step what_step branch_step stmt_step (record { line = line; what = t })))
      (around WhatIsSorted IsSorted all (what_part t line).declares (λ w v. record { line = line; what = v }) (what_part t line).lift (λ slots w v i. i) (h line))

  pub part_branch : (line : ℕ) (t : RBranchWhat) → BranchWhatSorted all t → BranchSorted all (record { line = line; what = t })
  part_branch line t h = subst (λ (p : Part UBranch). LiftsSorted any all [] p.lift)
      (sym (fold-roll-RBranch (ℕ → Part UCall) (ℕ → Part UWhat) (Part UBranch) (Part UStmt) branch_what_step what_step branch_step stmt_step (record { line = line; what = t })))
      (around any any all [] (λ w c. record { line = line; call = c }) (branch_what_part t line).lift (λ slots w c i. tt) (h line))
