-- What is lifted out of a part of a function, with the tree that is left, is not much larger than the part.
use Rattle.std.proofs.Common.{ℕ, suc, ◌+◌, ◌*◌, ◌≡◌, ◌∙◌, ◌≤◌, List, [], ◌∷◌, ◌++◌, Option, Some, None, Bool, true, false, not, length, map, filter, refl, sym, ap, subst, arith, length-append}
use Rattle.std.proofs.lemmas.List.{length-map}
use Rattle.std.proofs.lemmas.List.Filters.{length-filter_both}
use Rattle.shim_scopes.specs.declared.tree.UExpr.{UExpr, UExpr-F, roll-UExpr, fold-roll-UExpr, ind-UExpr, map-UExpr}
use Rattle.shim_scopes.specs.declared.tree.UExpr.TheVariants as e
use Rattle.shim_scopes.specs.declared.tree.UParam.{UParam}
use Rattle.shim_scopes.specs.declared.tree.RCall.{RCall}
use Rattle.shim_scopes.specs.declared.tree.RFunction.{RFunction}
use Rattle.shim_scopes.specs.declared.tree.RStmt.{RStmt, fold-roll-RStmt}
use Rattle.shim_scopes.specs.declared.tree.RWhat.{RWhat, RWhat-F, fold-roll-RWhat, map-RWhat, roll-RWhat}
use Rattle.shim_scopes.specs.declared.tree.RBranch.{RBranch, fold-roll-RBranch}
use Rattle.shim_scopes.specs.declared.tree.RBranchWhat.{RBranchWhat, RBranchWhat-F, fold-roll-RBranchWhat, map-RBranchWhat, roll-RBranchWhat}
use Rattle.shim_syntax.specs.Sizes.{sum_of}
use Rattle.shim_syntax.proofs.FormInduction.{Each, each}
use Rattle.shim_scopes.proofs.FormInduction.{InBranchWhat, InWhat, each_stmt, each_branch}
use Rattle.shim_units.specs.declared.unit.Unit.{Unit as UnitOf}
use Rattle.shim_units.specs.declared.unit.UCall.{UCall}
use Rattle.shim_units.specs.declared.unit.UStmt.{UStmt}
use Rattle.shim_units.specs.declared.unit.UWhat.{UWhat, UWhat-F, roll-UWhat}
use Rattle.shim_units.specs.declared.unit.UWhat.TheVariants.{Declare, Assign, Next, NextAssign, AssignNext, Get, Put, If, While, For, Block, Call, Try, Throw, Par}
use Rattle.shim_units.specs.declared.unit.UBranch.{UBranch}
use Rattle.shim_units.specs.declared.slot_map.SlotMap.{SlotMap}
use Rattle.shim_units.specs.Calls.{bare, lends_first, behind_first, params_at}
use Rattle.shim_units.specs.Moving.{slot_index_of, slot_index_of_option, moved_step, renumbered, moved_option, by_mode, arg_of, args_of, moved_call}
use Rattle.shim_units.specs.Parts.{LiftContext, Part, Lifts, all_places, all_declares, all_tries}
use Rattle.shim_units.specs.Captures.{Captures, is_reference, is_taken}
use Rattle.shim_units.specs.Own.{some_slot}
use Rattle.shim_units.specs.Lifting.{lift_all, unlifted, on_tree, lift_two, lift_three, branch_arg, branch_param, branch_captures, branch_slots, branch_inner, lift_branch}
use Rattle.shim_units.specs.PartFold.{branch_what_step, what_step, branch_step, stmt_step, in_line, part, parts, branch_part, branch_parts}
use Rattle.shim_units.specs.Sizes.{Extent, plain, declaration, larger, sum_of_two, in_own_units, variable_extent, slot_size, expr_size, option_size, call_size, branch_extents, what_extents, branch_what_extent, what_extent, branch_extent, stmt_extent, extent, fork_extent, arg_size, args_size, unit_call_size, units_size, units_points}
use Rattle.shim_sharing.proofs.ForkSizes.{ForksWithin, forks_fewer, forks_of_both, uses_of_each}
use Rattle.shim_sharing.proofs.ExtentSteps as steps
use Rattle.shim_sharing.proofs.ExtentSteps.{number_size, variable_size, unary_size, binary_size}
use Rattle.shim_sharing.proofs.UnitSteps.{Measure, measure_what, measure_stmt, measure, measure_call, measure_branch, measure_fork, of_line, at_what}
use Rattle.shim_units.proofs.PartSteps.{branch_what_part, what_part}

-- an expression keeps its size

moved_number : (slots : List ℕ) (n : _) → renumbered slots (e.Number n) ≡ e.Number n
unfolding renumbered roll-UExpr denote.Hole.Carrier.roll
moved_number slots n = fold-roll-UExpr UExpr (moved_step slots) (UExpr-F.Number n)

moved_variable : (slots : List ℕ) (x : ℕ) → renumbered slots (e.Var x) ≡ e.Var (slot_index_of slots x)
unfolding renumbered roll-UExpr denote.Hole.Carrier.roll
moved_variable slots x = fold-roll-UExpr UExpr (moved_step slots) (UExpr-F.Var x)

moved_unary : (slots : List ℕ) (op : _) (a : UExpr) → renumbered slots (e.Unary op a) ≡ e.Unary op (renumbered slots a)
unfolding renumbered roll-UExpr denote.Hole.Carrier.roll
moved_unary slots op a = fold-roll-UExpr UExpr (moved_step slots) (UExpr-F.Unary op a)

moved_binary : (slots : List ℕ) (op : _) (a b : UExpr) → renumbered slots (e.Binary op a b) ≡ e.Binary op (renumbered slots a) (renumbered slots b)
unfolding renumbered roll-UExpr denote.Hole.Carrier.roll
moved_binary slots op a b = fold-roll-UExpr UExpr (moved_step slots) (UExpr-F.Binary op a b)

record KeepsSize (a : UExpr) : Type 0 where
  pub some : 1 ≤ expr_size a
  pub same : (slots : List ℕ) → expr_size (renumbered slots a) ≡ expr_size a

abbrev KeptExpr : Type 0
KeptExpr = (a : UExpr) × KeepsSize a

expr_layer : (y : UExpr-F KeptExpr) → KeepsSize (roll-UExpr (map-UExpr KeptExpr UExpr (λ e. e.0) y))
unfolding roll-UExpr denote.Hole.Carrier.roll
expr_layer (UExpr-F.Number n) = record { some = omega (arith, number_size n); same = λ slots. ap expr_size (moved_number slots n) }
expr_layer (UExpr-F.Var x) = record { some = omega (arith, variable_size x); same = λ slots. ap expr_size (moved_variable slots x) ∙ variable_size (slot_index_of slots x) ∙ sym (variable_size x) }
expr_layer (UExpr-F.Unary op a) = record {
  some = omega (arith, unary_size op a.0);
  same = λ slots. ap expr_size (moved_unary slots op a.0) ∙ unary_size op (renumbered slots a.0) ∙ ap suc (a.1.same slots) ∙ sym (unary_size op a.0);
}
expr_layer (UExpr-F.Binary op a b) = record {
  some = omega (arith, binary_size op a.0 b.0);
  same = λ slots. ap expr_size (moved_binary slots op a.0 b.0) ∙ binary_size op (renumbered slots a.0) (renumbered slots b.0)
      ∙ ap (λ n. suc (n + expr_size (renumbered slots b.0))) (a.1.same slots) ∙ ap (λ n. suc (expr_size a.0 + n)) (b.1.same slots) ∙ sym (binary_size op a.0 b.0);
}

kept : (a : UExpr) → KeepsSize a
kept = ind-UExpr KeepsSize (λ x y is. subst (λ z. KeepsSize (roll-UExpr z)) is (expr_layer y))

moved_option_size : (slots : List ℕ) (a : Option UExpr) → option_size (moved_option slots a) ≡ option_size a
moved_option_size slots None = refl
moved_option_size slots (Some a) = (kept a).same slots

moved_slot_size : (slots : List ℕ) (y : Option ℕ) → slot_size (slot_index_of_option slots y) ≡ slot_size y
moved_slot_size slots None = refl
moved_slot_size slots (Some x) = refl

by_mode_size : (lent : Bool) (x : ℕ) → arg_size (by_mode lent x) ≡ 1
by_mode_size true x = refl
by_mode_size false x = refl

arg_within : (slots : List ℕ) (lent : Bool) (o : Option ℕ) (a : UExpr) → arg_size (arg_of slots lent o a) ≤ expr_size a
arg_within slots lent None a = omega (arith, (kept a).same slots)
arg_within slots lent (Some x) a = omega (arith, (kept a).some, by_mode_size lent (slot_index_of slots x))

args_within : (slots : List ℕ) (ps : List UParam) (es : List UExpr) → args_size (args_of slots ps es) ≤ sum_of (map expr_size es)
args_within slots ps [] = omega arith
args_within slots ps (a ∷ es) = omega (arith, arg_within slots (lends_first ps) (bare a) a, args_within slots (behind_first ps) es)

call_within : (fs : List RFunction) (c : RCall) (w : SlotMap) → unit_call_size (moved_call fs c w) ≤ call_size c
call_within fs c w = omega (arith, args_within w.slots (params_at fs c.function) c.args)

-- the units that are lifted, one list after another

pub joined_sizes : (us vs : List UnitOf) → units_size (us ++ vs) ≡ units_size us + units_size vs
joined_sizes [] vs = omega arith
joined_sizes (u ∷ us) vs = omega (arith, joined_sizes us vs)

pub joined_points : (us vs : List UnitOf) → units_points (us ++ vs) ≡ units_points us + units_points vs
joined_points [] vs = omega arith
joined_points (u ∷ us) vs = omega (arith, joined_points us vs)

-- A part of that extent, lifted by any function into any unit: the tree that is left and the units are so large at the most. A call of a lifted branch has an argument for each variable that the branch takes, and so the unit has parameters.
pub record LiftsWithin {T : Type 0} (m : T → Measure) (x : Extent) (f : Lifts T) : Type 0 where
  pub points : (context : LiftContext) (w : SlotMap) (n : ℕ) → (m (f context w n).tree).points + units_points (f context w n).units + length (f context w n).units ≤ x.size
  pub size : (context : LiftContext) (w : SlotMap) (n : ℕ) → length w.slots + x.forked ≤ 96 → (m (f context w n).tree).size + units_size (f context w n).units ≤ 194 * x.size

-- what the part declares and the exceptions of its `try` statements with its forks, the branches of these, and what is lifted out of it
pub record PartWithin {T : Type 0} (m : T → Measure) (x : Extent) (p : Part T) : Type 0 where
  pub declares : length p.declares ≡ x.own
  pub slots : x.own + x.inside ≤ x.size
  pub tries : length p.tries + x.inside ≤ x.size
  pub some : 1 ≤ x.size
  pub forks : (fs : List RFunction) → ForksWithin x.size (p.places fs)
  pub lifts : LiftsWithin m x p.lift

-- a measure that is at most n
record IsSmall (n : ℕ) (m : Measure) : Type 0 where
  pub size : m.size ≤ n
  pub points : m.points ≤ n

is_small : (n : ℕ) (m k : Measure) → m ≡ k → k.size ≤ n → k.points ≤ n → IsSmall n m
is_small n m k e s p = record { size = omega (arith, ap (λ (z : Measure). z.size) e, s); points = omega (arith, ap (λ (z : Measure). z.points) e, p) }

-- a part that nothing is lifted out of
alone : {T : Type 0} (m : T → Measure) (x : Extent) (f : LiftContext → SlotMap → T) → ((context : LiftContext) (w : SlotMap) → IsSmall x.size (m (f context w))) → LiftsWithin m x (λ context w n. unlifted (f context w))
alone m x f small = record {
  points = λ context w n. omega (arith, (small context w).points);
  size = λ context w n few. omega (arith, (small context w).size);
}

-- what is within an extent is within a larger one
as_large : {T : Type 0} (m : T → Measure) (x z : Extent) (f : Lifts T) → x.size ≤ z.size → x.forked ≤ z.forked → LiftsWithin m x f → LiftsWithin m z f
as_large m x z f long forked l = record { points = λ context w n. omega (arith, long, l.points context w n); size = λ context w n few. omega (arith, long, l.size context w n (omega (arith, few, forked))) }

-- with c around the tree, and at most d numbers
around : {S T : Type 0} (m : S → Measure) (k : T → Measure) (x z : Extent) (c d : ℕ) (g : SlotMap → S → T) (f : Lifts S)
    → ((w : SlotMap) (s : S) → (k (g w s)).points ≤ d + (m s).points) → ((w : SlotMap) (s : S) → (k (g w s)).size ≤ c + (m s).size) → d ≤ c → c + x.size ≤ z.size → x.forked ≤ z.forked
    → LiftsWithin m x f → LiftsWithin k z (λ context w n. on_tree (g w) (f context w n))
around m k x z c d g f points size h long forked l = record {
  points = λ context w n. omega (arith, h, long, points w (f context w n).tree, l.points context w n);
  size = λ context w n few. omega (arith, long, size w (f context w n).tree, l.size context w n (omega (arith, few, forked)));
}

-- two, one after the other
two : {R S T : Type 0} (m : R → Measure) (o : S → Measure) (k : T → Measure) (x y : Extent) (c : ℕ) (g : SlotMap → R → S → T) (f : Lifts R) (h : Lifts S)
    → ((w : SlotMap) (r : R) (s : S) → (k (g w r s)).points ≤ c + ((m r).points + (o s).points)) → ((w : SlotMap) (r : R) (s : S) → (k (g w r s)).size ≤ c + ((m r).size + (o s).size))
    → LiftsWithin m x f → LiftsWithin o y h → LiftsWithin k (larger c (sum_of_two x y)) (λ context w n. lift_two (g w) f h context w n)
two m o k x y c g f h points size a b = record {
  points = λ context w n.
      let r = f context w n in
      let q = h context w (n + length r.units) in
      omega (arith, points w r.tree q.tree, a.points context w n, b.points context w (n + length r.units), joined_points r.units q.units, length-append r.units q.units);
  size = λ context w n few.
      let r = f context w n in
      let q = h context w (n + length r.units) in
      omega (arith, size w r.tree q.tree, a.size context w n (omega (arith, few)), b.size context w (n + length r.units) (omega (arith, few)), joined_sizes r.units q.units);
}

-- three
three : {Q R S T : Type 0} (l : Q → Measure) (m : R → Measure) (o : S → Measure) (k : T → Measure) (v x y : Extent) (c : ℕ) (g : SlotMap → Q → R → S → T) (e : Lifts Q) (f : Lifts R) (h : Lifts S)
    → ((w : SlotMap) (q : Q) (r : R) (s : S) → (k (g w q r s)).points ≤ c + ((l q).points + ((m r).points + (o s).points)))
    → ((w : SlotMap) (q : Q) (r : R) (s : S) → (k (g w q r s)).size ≤ c + ((l q).size + ((m r).size + (o s).size)))
    → LiftsWithin l v e → LiftsWithin m x f → LiftsWithin o y h → LiftsWithin k (larger c (sum_of_two v (sum_of_two x y))) (λ context w n. lift_three (g w) e f h context w n)
three l m o k v x y c g e f h points size a b d = record {
  points = λ context w n.
      let p = e context w n in
      let r = f context w (n + length p.units) in
      let q = h context w (n + length p.units + length r.units) in
      omega (
        arith,
        points w p.tree r.tree q.tree,
        a.points context w n,
        b.points context w (n + length p.units),
        d.points context w (n + length p.units + length r.units),
        joined_points p.units (r.units ++ q.units),
        joined_points r.units q.units,
        length-append p.units (r.units ++ q.units),
        length-append r.units q.units,
      );
  size = λ context w n few.
      let p = e context w n in
      let r = f context w (n + length p.units) in
      let q = h context w (n + length p.units + length r.units) in
      omega (
        arith,
        size w p.tree r.tree q.tree,
        a.size context w n (omega (arith, few)),
        b.size context w (n + length p.units) (omega (arith, few)),
        d.size context w (n + length p.units + length r.units) (omega (arith, few)),
        joined_sizes p.units (r.units ++ q.units),
        joined_sizes r.units q.units,
      );
}

-- parts of a list
pub record PartsWithin {T : Type 0} (m : List T → Measure) (x : Extent) (ps : List (Part T)) : Type 0 where
  pub declares : length (all_declares ps) ≡ x.own
  pub slots : x.own + x.inside ≤ x.size
  pub tries : length (all_tries ps) + x.inside ≤ x.size
  pub some : length ps ≤ x.size
  pub forks : (fs : List RFunction) → ForksWithin x.size (all_places fs ps)
  pub lifts : LiftsWithin m x (lift_all ps)

no_parts : {T : Type 0} (m : List T → Measure) → IsSmall 0 (m []) → PartsWithin m (plain 0) []
no_parts m h = record { declares = omega arith; slots = omega arith; tries = omega arith; some = omega arith; forks = λ fs. tt; lifts = alone m (plain 0) (λ context w. []) (λ context w. h) }

more_parts : {T : Type 0} (m : T → Measure) (ms : List T → Measure) (x y : Extent) (p : Part T) (ps : List (Part T))
    → ((t : T) (ts : List T) → (ms (t ∷ ts)).points ≤ (m t).points + (ms ts).points) → ((t : T) (ts : List T) → (ms (t ∷ ts)).size ≤ (m t).size + (ms ts).size)
    → PartWithin m x p → PartsWithin ms y ps → PartsWithin ms (sum_of_two x y) (p ∷ ps)
more_parts m ms x y p ps points size one rest = record {
  declares = omega (arith, one.declares, rest.declares, length-append p.declares (all_declares ps));
  slots = omega (arith, one.slots, rest.slots);
  tries = omega (arith, one.tries, rest.tries, length-append p.tries (all_tries ps));
  some = omega (arith, one.some, rest.some);
  forks = λ fs. forks_of_both x.size y.size _ (p.places fs) (all_places fs ps) (omega arith) (omega arith) (one.forks fs) (rest.forks fs);
  lifts = as_large ms (larger 0 (sum_of_two x y)) (sum_of_two x y) (lift_all (p ∷ ps)) (omega arith) (omega arith)
      (two m ms ms x y 0 (λ w t ts. t ∷ ts) p.lift (lift_all ps) (λ w t ts. omega (arith, points t ts)) (λ w t ts. omega (arith, size t ts)) one.lifts rest.lifts);
}

-- a block branch, its unit and its call

pub fewer_taken : (p : ℕ → Bool) (xs : List ℕ) → length (filter p xs) ≤ length xs
fewer_taken p xs = omega (arith, length-filter_both p (λ x. not (p x)) (λ x. refl) xs)

given_size : (around : List ℕ) (t : Captures) (slots : List ℕ) → args_size (map (branch_arg around t) slots) ≡ length slots
given_size around t [] = omega arith
given_size around t (x ∷ slots) = omega (arith, by_mode_size (is_reference (t x)) (slot_index_of around x), given_size around t slots)

block_branch : (x : Extent) (body : List (Part UStmt)) → PartsWithin measure x body → LiftsWithin measure_call (in_own_units x) (lift_branch body)
block_branch x body k = record {
  points = λ context w n. omega (arith, k.lifts.points context (branch_inner context body w) (n + 1));
  size = λ context w n few.
      let slots = branch_slots context body w in
      let t = branch_captures context body in
      let taken : length slots ≤ length w.slots = fewer_taken (λ x. is_taken (t x)) w.slots in
      let inner : length (branch_inner context body w).slots ≡ length slots + x.own = length-append slots (all_declares body) ∙ ap (λ n. length slots + n) k.declares in
      omega (
        arith,
        few,
        taken,
        given_size w.slots t slots,
        length-map slots (branch_param context.function t),
        k.lifts.size context (branch_inner context body w) (n + 1) (omega (arith, few, taken, inner)),
      );
}

-- the kinds of statements and branches

abbrev BranchWhatFits : Extent → (ℕ → Part UCall) → Type 0
BranchWhatFits x p = (line : ℕ) → PartWithin measure_call x (p line)

abbrev WhatFits : Extent → (ℕ → Part UWhat) → Type 0
WhatFits x p = (line : ℕ) → PartWithin measure_what x (p line)

abbrev BranchFits : RBranch → Type 0
BranchFits b = PartWithin measure_branch (branch_extent b) (branch_part b)

abbrev StmtFits : RStmt → Type 0
StmtFits s = PartWithin measure_stmt (stmt_extent s) (part s)

stmts_within : (body : List RStmt) → Each StmtFits body → PartsWithin measure (extent body) (parts body)
stmts_within [] h = no_parts measure (record { size = omega arith; points = omega arith })
stmts_within (s ∷ body) h = more_parts measure_stmt measure (stmt_extent s) (extent body) (part s) (parts body) (λ t ts. omega arith) (λ t ts. omega arith) h.0 (stmts_within body h.1)

branches_within : (bs : List RBranch) → Each BranchFits bs → PartsWithin measure_fork (fork_extent bs) (branch_parts bs)
branches_within [] h = no_parts measure_fork (record { size = omega arith; points = omega arith })
branches_within (b ∷ bs) h = more_parts measure_branch measure_fork (branch_extent b) (fork_extent bs) (branch_part b) (branch_parts bs) (λ t ts. omega arith) (λ t ts. omega arith) h.0 (branches_within bs h.1)

branch_what_layer : (y : RBranchWhat-F RBranchWhat RWhat RBranch RStmt) → InBranchWhat StmtFits y
    → BranchWhatFits (branch_extents (map-RBranchWhat RBranchWhat RWhat RBranch RStmt Extent Extent Extent Extent branch_what_extent what_extent branch_extent stmt_extent y))
    (branch_what_step (map-RBranchWhat RBranchWhat RWhat RBranch RStmt (ℕ → Part UCall) (ℕ → Part UWhat) (Part UBranch) (Part UStmt) branch_what_part what_part branch_part part y))
branch_what_layer (RBranchWhat-F.RBranchWhat::Block body) h line =
    let one = stmts_within body h in
    record {
      declares = omega arith;
      slots = omega arith;
      tries = omega arith;
      some = omega arith;
      forks = λ fs. forks_fewer (extent body).size _ (all_places fs (parts body)) (omega arith) (one.forks fs);
      lifts = block_branch _ _ one;
    }
branch_what_layer (RBranchWhat-F.RBranchWhat::Call c) h line = record {
  declares = omega arith;
  slots = omega arith;
  tries = omega arith;
  some = omega arith;
  forks = λ fs. tt;
  lifts = alone measure_call (plain (call_size c)) (λ context w. moved_call context.functions c w) (λ context w. record { size = call_within context.functions c w; points = omega arith });
}

-- the variable of a handler
record OfVariable (y : Option ℕ) : Type 0 where
  pub size : (variable_extent y).size ≡ slot_size y
  pub own : length (some_slot y) ≡ (variable_extent y).own
  pub slots : (variable_extent y).own + (variable_extent y).inside ≤ (variable_extent y).size
  pub forked : (variable_extent y).forked ≡ 0

of_variable : (y : Option ℕ) → OfVariable y
of_variable None = record { size = refl; own = refl; slots = omega arith; forked = refl }
of_variable (Some x) = record { size = refl; own = refl; slots = omega arith; forked = refl }

what_layer : (y : RWhat-F RBranchWhat RWhat RBranch RStmt) → InWhat BranchFits StmtFits y
    → WhatFits (what_extents (map-RWhat RBranchWhat RWhat RBranch RStmt Extent Extent Extent Extent branch_what_extent what_extent branch_extent stmt_extent y))
    (what_step (map-RWhat RBranchWhat RWhat RBranch RStmt (ℕ → Part UCall) (ℕ → Part UWhat) (Part UBranch) (Part UStmt) branch_what_part what_part branch_part part y))
unfolding roll-UWhat denote.Hole.Carrier.roll
what_layer (RWhat-F.Declare ty x a) h line = record {
  declares = omega arith;
  slots = omega arith;
  tries = omega arith;
  some = omega arith;
  forks = λ fs. tt;
  lifts = alone measure_what (declaration (suc (option_size a))) (λ context w. Declare ty (slot_index_of w.slots x) (moved_option w.slots a))
      (λ context w. is_small _ _ _ (at_what (UWhat-F.Declare ty (slot_index_of w.slots x) (moved_option w.slots a))) (omega (arith, moved_option_size w.slots a)) (omega arith));
}
what_layer (RWhat-F.Assign x a) h line = record {
  declares = omega arith;
  slots = omega arith;
  tries = omega arith;
  some = omega arith;
  forks = λ fs. tt;
  lifts = alone measure_what (plain (suc (expr_size a))) (λ context w. Assign (slot_index_of w.slots x) (renumbered w.slots a))
      (λ context w. is_small _ _ _ (at_what (UWhat-F.Assign (slot_index_of w.slots x) (renumbered w.slots a))) (omega (arith, (kept a).same w.slots)) (omega arith));
}
what_layer (RWhat-F.Next x) h line = record {
  declares = omega arith;
  slots = omega arith;
  tries = omega arith;
  some = omega arith;
  forks = λ fs. tt;
  lifts = alone measure_what (plain 1) (λ context w. Next (slot_index_of w.slots x)) (λ context w. is_small _ _ _ (at_what (UWhat-F.Next (slot_index_of w.slots x))) (omega arith) (omega arith));
}
what_layer (RWhat-F.NextAssign x a) h line = record {
  declares = omega arith;
  slots = omega arith;
  tries = omega arith;
  some = omega arith;
  forks = λ fs. tt;
  lifts = alone measure_what (plain (suc (expr_size a))) (λ context w. NextAssign (slot_index_of w.slots x) (renumbered w.slots a))
      (λ context w. is_small _ _ _ (at_what (UWhat-F.NextAssign (slot_index_of w.slots x) (renumbered w.slots a))) (omega (arith, (kept a).same w.slots)) (omega arith));
}
what_layer (RWhat-F.AssignNext x y) h line = record {
  declares = omega arith;
  slots = omega arith;
  tries = omega arith;
  some = omega arith;
  forks = λ fs. tt;
  lifts = alone measure_what (plain 2) (λ context w. AssignNext (slot_index_of w.slots x) (slot_index_of w.slots y)) (λ context w. is_small _ _ _ (at_what (UWhat-F.AssignNext (slot_index_of w.slots x) (slot_index_of w.slots y))) (omega arith) (omega arith));
}
what_layer (RWhat-F.Get x y) h line = record {
  declares = omega arith;
  slots = omega arith;
  tries = omega arith;
  some = omega arith;
  forks = λ fs. tt;
  lifts = alone measure_what (plain 2) (λ context w. Get (slot_index_of w.slots x) (slot_index_of w.slots y)) (λ context w. is_small _ _ _ (at_what (UWhat-F.Get (slot_index_of w.slots x) (slot_index_of w.slots y))) (omega arith) (omega arith));
}
what_layer (RWhat-F.Put x a) h line = record {
  declares = omega arith;
  slots = omega arith;
  tries = omega arith;
  some = omega arith;
  forks = λ fs. tt;
  lifts = alone measure_what (plain (suc (expr_size a))) (λ context w. Put (slot_index_of w.slots x) (renumbered w.slots a))
      (λ context w. is_small _ _ _ (at_what (UWhat-F.Put (slot_index_of w.slots x) (renumbered w.slots a))) (omega (arith, (kept a).same w.slots)) (omega arith));
}
what_layer (RWhat-F.If a first other) h line =
    let one = stmts_within first h.0 in
    let rest = stmts_within other h.1 in
    record {
      declares = omega (arith, one.declares, rest.declares, length-append (all_declares (parts first)) (all_declares (parts other)));
      slots = omega (arith, one.slots, rest.slots);
      tries = omega (arith, one.tries, rest.tries, length-append (all_tries (parts first)) (all_tries (parts other)));
      some = omega arith;
      forks = λ fs. forks_of_both (extent first).size (extent other).size _ (all_places fs (parts first)) (all_places fs (parts other)) (omega arith) (omega arith) (one.forks fs) (rest.forks fs);
      lifts = two measure measure measure_what (extent first) (extent other) (suc (expr_size a)) (λ w r s. If (renumbered w.slots a) r s) (lift_all (parts first)) (lift_all (parts other))
          (λ w r s. omega (arith, ap (λ (z : Measure). z.points) (at_what (UWhat-F.If (renumbered w.slots a) r s))))
          (λ w r s. omega (arith, (kept a).same w.slots, ap (λ (z : Measure). z.size) (at_what (UWhat-F.If (renumbered w.slots a) r s))))
          one.lifts rest.lifts;
    }
what_layer (RWhat-F.While a body) h line =
    let one = stmts_within body h in
    record {
      declares = one.declares;
      slots = omega (arith, one.slots);
      tries = omega (arith, one.tries);
      some = omega arith;
      forks = λ fs. forks_fewer (extent body).size _ (all_places fs (parts body)) (omega arith) (one.forks fs);
      lifts = around measure measure_what (extent body) (larger (suc (expr_size a)) (extent body)) (suc (expr_size a)) 1 (λ w s. While (renumbered w.slots a) s) (lift_all (parts body))
          (λ w s. omega (arith, ap (λ (z : Measure). z.points) (at_what (UWhat-F.While (renumbered w.slots a) s))))
          (λ w s. omega (arith, (kept a).same w.slots, ap (λ (z : Measure). z.size) (at_what (UWhat-F.While (renumbered w.slots a) s))))
          (omega arith) (omega arith) (omega arith) one.lifts;
    }
what_layer (RWhat-F.For first test step body) h line =
    let one = stmts_within first h.0 in
    let next = stmts_within step h.1 in
    let rest = stmts_within body h.2 in
    record {
      declares = omega (
        arith,
        one.declares,
        next.declares,
        rest.declares,
        length-append (all_declares (parts first)) (all_declares (parts step) ++ all_declares (parts body)),
        length-append (all_declares (parts step)) (all_declares (parts body)),
      );
      slots = omega (arith, one.slots, next.slots, rest.slots);
      tries = omega (
        arith,
        one.tries,
        next.tries,
        rest.tries,
        length-append (all_tries (parts first)) (all_tries (parts step) ++ all_tries (parts body)),
        length-append (all_tries (parts step)) (all_tries (parts body)),
      );
      some = omega arith;
      forks = λ fs. forks_of_both (extent first).size (sum_of_two (extent step) (extent body)).size _ (all_places fs (parts first)) (all_places fs (parts step) ++ all_places fs (parts body)) (omega arith) (omega arith) (one.forks fs)
          (forks_of_both (extent step).size (extent body).size _ (all_places fs (parts step)) (all_places fs (parts body)) (omega arith) (omega arith) (next.forks fs) (rest.forks fs));
      lifts = three measure measure measure measure_what (extent first) (extent step) (extent body) (suc (option_size test)) (λ w p r s. For p (moved_option w.slots test) r s)
          (lift_all (parts first)) (lift_all (parts step)) (lift_all (parts body))
          (λ w p r s. omega (arith, ap (λ (z : Measure). z.points) (at_what (UWhat-F.For p (moved_option w.slots test) r s))))
          (λ w p r s. omega (arith, moved_option_size w.slots test, ap (λ (z : Measure). z.size) (at_what (UWhat-F.For p (moved_option w.slots test) r s))))
          one.lifts next.lifts rest.lifts;
    }
what_layer (RWhat-F.RWhat::Block body) h line =
    let one = stmts_within body h in
    record {
      declares = one.declares;
      slots = omega (arith, one.slots);
      tries = omega (arith, one.tries);
      some = omega arith;
      forks = λ fs. forks_fewer (extent body).size _ (all_places fs (parts body)) (omega arith) (one.forks fs);
      lifts = around measure measure_what (extent body) (larger 1 (extent body)) 1 1 (λ w s. Block s) (lift_all (parts body))
          (λ w s. omega (arith, ap (λ (z : Measure). z.points) (at_what (UWhat-F.Block s)))) (λ w s. omega (arith, ap (λ (z : Measure). z.size) (at_what (UWhat-F.Block s))))
          (omega arith) (omega arith) (omega arith) one.lifts;
    }
what_layer (RWhat-F.RWhat::Call c) h line = record {
  declares = omega arith;
  slots = omega arith;
  tries = omega arith;
  some = omega arith;
  forks = λ fs. tt;
  lifts = alone measure_what (plain (call_size c)) (λ context w. Call (moved_call context.functions c w))
      (λ context w. is_small _ _ _ (at_what (UWhat-F.Call (moved_call context.functions c w))) (omega (arith, call_within context.functions c w)) (omega arith));
}
what_layer (RWhat-F.Try body x y handler) h line =
    let one = stmts_within body h.0 in
    let slot = of_variable y in
    let rest = stmts_within handler h.1 in
    record {
      declares = omega (
        arith,
        one.declares,
        slot.own,
        rest.declares,
        length-append (all_declares (parts body)) (some_slot y ++ all_declares (parts handler)),
        length-append (some_slot y) (all_declares (parts handler)),
      );
      slots = omega (arith, one.slots, slot.slots, rest.slots);
      tries = omega (arith, one.tries, slot.slots, rest.tries, length-append (all_tries (parts body)) (all_tries (parts handler)));
      some = omega arith;
      forks = λ fs. forks_of_both (extent body).size (extent handler).size _ (all_places fs (parts body)) (all_places fs (parts handler)) (omega arith) (omega arith) (one.forks fs) (rest.forks fs);
      lifts = as_large measure_what (larger (suc (slot_size y)) (sum_of_two (extent body) (extent handler))) _ _ (omega (arith, slot.size)) (omega arith)
          (two measure measure measure_what (extent body) (extent handler) (suc (slot_size y)) (λ w r s. Try r (slot_index_of w.exceptions x) (slot_index_of_option w.slots y) s)
          (lift_all (parts body)) (lift_all (parts handler))
          (λ w r s. omega (arith, ap (λ (z : Measure). z.points) (at_what (UWhat-F.Try r (slot_index_of w.exceptions x) (slot_index_of_option w.slots y) s))))
          (λ w r s. omega (arith, moved_slot_size w.slots y, ap (λ (z : Measure). z.size) (at_what (UWhat-F.Try r (slot_index_of w.exceptions x) (slot_index_of_option w.slots y) s))))
          one.lifts rest.lifts);
    }
what_layer (RWhat-F.Throw x a) h line = record {
  declares = omega arith;
  slots = omega arith;
  tries = omega arith;
  some = omega arith;
  forks = λ fs. tt;
  lifts = alone measure_what (plain (suc (option_size a))) (λ context w. Throw (slot_index_of w.exceptions x) (moved_option w.slots a))
      (λ context w. is_small _ _ _ (at_what (UWhat-F.Throw (slot_index_of w.exceptions x) (moved_option w.slots a))) (omega (arith, moved_option_size w.slots a)) (omega arith));
}
what_layer (RWhat-F.Par bs) h line =
    let one = branches_within bs h in
    record {
      declares = omega arith;
      slots = omega arith;
      tries = omega arith;
      some = omega arith;
      forks = λ fs. (omega (arith, one.some, uses_of_each fs (branch_parts bs)), forks_fewer (fork_extent bs).size _ (all_places fs (branch_parts bs)) (omega arith) (one.forks fs));
      lifts = around measure_fork measure_what (fork_extent bs) (in_own_units (fork_extent bs)) 1 1 (λ w s. Par s) (lift_all (branch_parts bs))
          (λ w s. omega (arith, ap (λ (z : Measure). z.points) (at_what (UWhat-F.Par s)))) (λ w s. omega (arith, ap (λ (z : Measure). z.size) (at_what (UWhat-F.Par s))))
          (omega arith) (omega arith) (omega arith) one.lifts;
    }

-- in its line, a statement or a branch is what it does
in_its_line : {S T : Type 0} (m : S → Measure) (k : T → Measure) (x y : Extent) (g : S → T) (p : Part S) → ((s : S) → k (g s) ≡ m s) → y ≡ x → PartWithin m x p → PartWithin k y (in_line g p)
in_its_line m k x y g p same e h = subst (λ z. PartWithin k z (in_line g p)) (sym e) (record {
  declares = h.declares;
  slots = h.slots;
  tries = h.tries;
  some = h.some;
  forks = h.forks;
  lifts = around m k x x 0 0 (λ w s. g s) p.lift
      (λ w s. omega (arith, ap (λ (z : Measure). z.points) (same s))) (λ w s. omega (arith, ap (λ (z : Measure). z.size) (same s)))
      (omega arith) (omega arith) (omega arith) h.lifts;
})

of_branch_what : (y : RBranchWhat-F RBranchWhat RWhat RBranch RStmt) → InBranchWhat StmtFits y → BranchWhatFits (branch_what_extent (roll-RBranchWhat y)) (branch_what_part (roll-RBranchWhat y))
of_branch_what y h =
    subst (λ q. BranchWhatFits (branch_what_extent (roll-RBranchWhat y)) q) (sym (fold-roll-RBranchWhat (ℕ → Part UCall) (ℕ → Part UWhat) (Part UBranch) (Part UStmt) branch_what_step what_step branch_step stmt_step y))
    (subst (λ e. BranchWhatFits e (branch_what_step (map-RBranchWhat RBranchWhat RWhat RBranch RStmt (ℕ → Part UCall) (ℕ → Part UWhat) (Part UBranch) (Part UStmt) branch_what_part what_part branch_part part y))) (sym (steps.at_branch y)) (branch_what_layer y h))

of_what : (y : RWhat-F RBranchWhat RWhat RBranch RStmt) → InWhat BranchFits StmtFits y → WhatFits (what_extent (roll-RWhat y)) (what_part (roll-RWhat y))
of_what y h =
    subst (λ q. WhatFits (what_extent (roll-RWhat y)) q) (sym (fold-roll-RWhat (ℕ → Part UCall) (ℕ → Part UWhat) (Part UBranch) (Part UStmt) branch_what_step what_step branch_step stmt_step y))
    (subst (λ e. WhatFits e (what_step (map-RWhat RBranchWhat RWhat RBranch RStmt (ℕ → Part UCall) (ℕ → Part UWhat) (Part UBranch) (Part UStmt) branch_what_part what_part branch_part part y))) (sym (steps.at_what y)) (what_layer y h))

of_branch : (line : ℕ) (x : RBranchWhat) → BranchWhatFits (branch_what_extent x) (branch_what_part x) → BranchFits (record { line = line; what = x })
of_branch line x h = subst (λ q. PartWithin measure_branch (branch_extent (record { line = line; what = x })) q) (sym (fold-roll-RBranch (ℕ → Part UCall) (ℕ → Part UWhat) (Part UBranch) (Part UStmt) branch_what_step what_step branch_step stmt_step (record { line = line; what = x })))
    (in_its_line measure_call measure_branch _ _ (λ c. record { line = line; call = c }) _ (λ c. refl) (steps.of_branch line x) (h line))

of_stmt : (line : ℕ) (x : RWhat) → WhatFits (what_extent x) (what_part x) → StmtFits (record { line = line; what = x })
of_stmt line x h = subst (λ q. PartWithin measure_stmt (stmt_extent (record { line = line; what = x })) q) (sym (fold-roll-RStmt (ℕ → Part UCall) (ℕ → Part UWhat) (Part UBranch) (Part UStmt) branch_what_step what_step branch_step stmt_step (record { line = line; what = x })))
    (in_its_line measure_what measure_stmt _ _ (λ t. record { line = line; what = t }) _ (λ t. of_line line t) (steps.of_stmt line x) (h line))

pub stmt_within : (s : RStmt) → PartWithin measure_stmt (stmt_extent s) (part s)
stmt_within = each_stmt (λ x. BranchWhatFits (branch_what_extent x) (branch_what_part x)) (λ x. WhatFits (what_extent x) (what_part x)) BranchFits StmtFits of_branch_what of_what of_branch of_stmt

pub body_within : (body : List RStmt) → PartsWithin measure (extent body) (parts body)
body_within body = stmts_within body (each StmtFits stmt_within body)

pub branch_slot_map : (b : RBranch) → PartWithin measure_branch (branch_extent b) (branch_part b)
branch_slot_map = each_branch (λ x. BranchWhatFits (branch_what_extent x) (branch_what_part x)) (λ x. WhatFits (what_extent x) (what_part x)) BranchFits StmtFits of_branch_what of_what of_branch of_stmt

pub fork_within : (bs : List RBranch) → PartsWithin measure_fork (fork_extent bs) (branch_parts bs)
fork_within bs = branches_within bs (each BranchFits branch_slot_map bs)
