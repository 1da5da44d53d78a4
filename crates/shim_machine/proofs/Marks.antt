-- At each mark of a unit's code stands what is left from the mark's number on.
use Rattle.std.proofs.Common.{◌≡◌, ◌<◌, ℕ, zero, suc, pos, ◌+◌, ◌-◌, false, true, List, [], ◌∷◌, ◌++◌, length, map, Option, Some, None, refl, sym, ap, ◌∙◌, subst, arith, append_assoc, append-nil, length-append}
use Rattle.std.specs.Prelude.{slice_get}
use Rattle.shim_scopes.specs.declared.tree.UExpr.{UExpr}
use Rattle.shim_units.specs.Numbering.{size_of, size_all}
use Rattle.shim_units.specs.declared.unit.UBranch.{UBranch}
use Rattle.shim_units.specs.declared.unit.UCall.{UCall}
use Rattle.shim_units.specs.declared.unit.UStmt.{UStmt, ind-UStmt, roll-UStmt}
use Rattle.shim_units.specs.declared.unit.UWhat.{UWhat, UWhat-F, map-UWhat, out-UWhat, out-roll-UWhat, para-UWhat, roll-UWhat}
use Rattle.shim_process.specs.Todo.{Do, Item, ItemsFrom, First, Leave, On, Second, Successor, follow_what, followed, items, items_all, what_items, whole_size}
use Rattle.shim_process.proofs.TodoItems.{items_roll, line_of}
use Rattle.shim_walk_frames.specs.Pieces.{left_all}
use Rattle.shim_code.specs.declared.instr.MarkKind.{MarkKind}
use Rattle.shim_code.specs.declared.instr.MarkKind.TheVariants as kind
use Rattle.shim_code.specs.declared.machine_instr.Mark.{Mark as MarkOf}
use Rattle.shim_code.specs.declared.machine_instr.MachineInstr.{MachineInstr}
use Rattle.shim_code.specs.declared.machine_instr.MachineInstr.TheVariants.{Mark, Num, Var, Un, Bin, Bool, Jump, JumpZ, Declare, Set, Get, Put, Next, Ref, Pass, Fresh, Call, Branch, Fork, Try, TryInto, Untry, Throw, End}
use Rattle.shim_code.specs.Layout.{sequence, one}
use Rattle.shim_code.specs.MachineCode.{MachineCode, begin_mark, begun, callee_of, machine_args, machine_branch, machine_branches, machine_call, machine_expr, machine_expr_or, machine_fork, machine_looped, machine_stmt, machine_stmts, machine_unit, numbered, params_in, statements_in, try_instr, with_number}
use Rattle.shim_code.proofs.StatementNumbers.{stmt_counts}
use Rattle.shim_machine.specs.Machine.{CodedUnit, fetch}
use Rattle.shim_machine.specs.Correspondence.{AtHalf, HasStatement, HasAt, HasHalves, IsPlaceOf, IsRestOf, IsCodeOf, at_do, at_half, first_kind, half_what, kind_code, point_code, point_what, code_back, code_do, code_end, code_jump, code_leave}
use Rattle.shim_machine.proofs.Computing.{AllCompute, AllGather, Gathering, args_gather, expr_computes, option_computes}
use Rattle.shim_machine.proofs.Enters.{code_roll, count_all, count_both, enters_list, point_roll}
use Rattle.shim_machine.proofs.Exprs.{has_back, has_front}
use Rattle.shim_machine.proofs.Steps.{no_stmts, no_stmts_or, renumber}
use Rattle.shim_machine.proofs.RestOfBody.{rest_followed}
use Rattle.shim_machine.proofs.Tried.{tried_begun}
use Rattle.shim_machine.proofs.UnitStarts.{rest_first, unit_has}

-- what is to be done begins at this place with the statement of the mark's number, and has the property
record Found (P : List Item → Type 0) (u : CodedUnit) (pc : ℕ) (m : MarkOf) : Type 0 where
  pub stmt : UStmt
  pub rest : List Item
  pub has_property : P (Do m.number stmt ∷ rest)
  pub here : IsPlaceOf u pc (Do m.number stmt ∷ rest) m.halfway

-- so at a mark; and the end has the number of all statements
abbrev IsFoundAt : (List Item → Type 0) → CodedUnit → ℕ → MachineInstr → Type 0
IsFoundAt P u pc (Mark m) = Found P u pc m
IsFoundAt P u pc (End n) = n ≡ size_all u.body
IsFoundAt P u pc _ = Unit {0}

-- A property of what is to be done that stays wherever a process goes from a statement.
module _ (P : List Item → Type 0) (stays : (c : Successor) (k : List Item) → P k → P (followed c k)) where
  abbrev IsFound : CodedUnit → ℕ → MachineInstr → Type 0
  IsFound = IsFoundAt P

  -- so at each of these instructions
  abbrev AllFound : CodedUnit → ℕ → ℕ → List MachineInstr → Type 0
  AllFound u n pc [] = Unit {0}
  AllFound u n pc (i ∷ is) = IsFound u pc (with_number n i) × AllFound u (n + begun i) (pc + 1) is

  found_both : (u : CodedUnit) (n pc : ℕ) (a b : List MachineInstr) → AllFound u n pc a → AllFound u (n + statements_in a) (pc + length a) b → AllFound u n pc (a ++ b)
  found_both u n pc [] b ha hb =
      let e : pc + 0 ≡ pc = omega arith in
      let z : n + 0 ≡ n = omega arith in
      subst (λ m. AllFound u m pc b) z (subst (λ p. AllFound u (n + 0) p b) e hb)
  found_both u n pc (i ∷ a) b ha hb =
      let e : pc + length (i ∷ a) ≡ pc + 1 + length a = omega arith in
      let z : n + statements_in (i ∷ a) ≡ n + begun i + statements_in a = omega arith in
      (ha.0, found_both u (n + begun i) (pc + 1) a b ha.1 (subst (λ m. AllFound u m (pc + 1 + length a) b) z (subst (λ p. AllFound u (n + statements_in (i ∷ a)) p b) e hb)))

  found_as : (u : CodedUnit) (n n' pc : ℕ) (is : List MachineInstr) → n' ≡ n → AllFound u n pc is → AllFound u n' pc is
  found_as u n n' pc is e h = subst (λ m. AllFound u m pc is) (sym e) h

  no_mark : (u : CodedUnit) (n pc : ℕ) (i : MachineInstr) → Gathering i → IsFound u pc (with_number n i)
  no_mark u n pc (Num v) h = tt
  no_mark u n pc (Var x) h = tt
  no_mark u n pc (Un op) h = tt
  no_mark u n pc (Bin op) h = tt
  no_mark u n pc Bool h = tt
  no_mark u n pc (Jump t) h = tt
  no_mark u n pc (JumpZ t) h = tt
  no_mark u n pc (Ref x) h = tt
  no_mark u n pc (Pass x s) h = tt
  no_mark u n pc (Fresh s x) h = tt
  no_mark u n pc (Mark m) h = absurd h
  no_mark u n pc (Declare t x) h = tt
  no_mark u n pc (Set x) h = tt
  no_mark u n pc (Get x) h = tt
  no_mark u n pc (Put x) h = tt
  no_mark u n pc (Next x) h = tt
  no_mark u n pc (Call c) h = tt
  no_mark u n pc (Branch c) h = tt
  no_mark u n pc (Fork c) h = tt
  no_mark u n pc (Try t x) h = tt
  no_mark u n pc (TryInto t x y) h = tt
  no_mark u n pc Untry h = tt
  no_mark u n pc (Throw x) h = tt
  no_mark u n pc (End c) h = absurd h

  tried_found : (u : CodedUnit) (n pc h x : ℕ) (y : Option ℕ) → IsFound u pc (with_number n (try_instr h x y))
  tried_found u n pc h x None = tt
  tried_found u n pc h x (Some y) = tt

  found_gathering : (u : CodedUnit) (n pc : ℕ) (is : List MachineInstr) → AllGather is → AllFound u n pc is
  found_gathering u n pc [] h = tt
  found_gathering u n pc (i ∷ is) h = (no_mark u n pc i h.0, found_gathering u (n + begun i) (pc + 1) is h.1)

  found_computing : (u : CodedUnit) (n pc : ℕ) (is : List MachineInstr) → AllCompute is → AllFound u n pc is
  found_computing u n pc [] h = tt
  found_computing u n pc (Num v ∷ is) h = (tt, found_computing u (n + 0) (pc + 1) is h.1)
  found_computing u n pc (Var x ∷ is) h = (tt, found_computing u (n + 0) (pc + 1) is h.1)
  found_computing u n pc (Un op ∷ is) h = (tt, found_computing u (n + 0) (pc + 1) is h.1)
  found_computing u n pc (Bin op ∷ is) h = (tt, found_computing u (n + 0) (pc + 1) is h.1)
  found_computing u n pc (Bool ∷ is) h = (tt, found_computing u (n + 0) (pc + 1) is h.1)
  found_computing u n pc (Jump t ∷ is) h = (tt, found_computing u (n + 0) (pc + 1) is h.1)
  found_computing u n pc (JumpZ t ∷ is) h = (tt, found_computing u (n + 0) (pc + 1) is h.1)
  found_computing u n pc (Mark m ∷ is) h = absurd h.0
  found_computing u n pc (Declare t x ∷ is) h = absurd h.0
  found_computing u n pc (Set x ∷ is) h = absurd h.0
  found_computing u n pc (Get x ∷ is) h = absurd h.0
  found_computing u n pc (Put x ∷ is) h = absurd h.0
  found_computing u n pc (Next x ∷ is) h = absurd h.0
  found_computing u n pc (Ref x ∷ is) h = absurd h.0
  found_computing u n pc (Pass x s ∷ is) h = absurd h.0
  found_computing u n pc (Fresh s x ∷ is) h = absurd h.0
  found_computing u n pc (Call c ∷ is) h = absurd h.0
  found_computing u n pc (Branch c ∷ is) h = absurd h.0
  found_computing u n pc (Fork c ∷ is) h = absurd h.0
  found_computing u n pc (Try t x ∷ is) h = absurd h.0
  found_computing u n pc (TryInto t x y ∷ is) h = absurd h.0
  found_computing u n pc (Untry ∷ is) h = absurd h.0
  found_computing u n pc (Throw x ∷ is) h = absurd h.0
  found_computing u n pc (End c ∷ is) h = absurd h.0

  module _ (u : CodedUnit) where
    branch_found : (b : UBranch) (n pc : ℕ) → AllFound u n pc (machine_branch u.units b pc)
    branch_found b n pc =
        let c = machine_args (params_in u.units b.call.unit) b.call.args pc in
        found_both u n pc c (Branch (callee_of b.call) ∷ []) (found_gathering u n pc c (args_gather (params_in u.units b.call.unit) b.call.args pc)) (tt, tt)

    branches_found : (bs : List UBranch) (n pc : ℕ) → AllFound u n pc (machine_branches u.units bs pc)
    branches_found [] n pc = tt
    branches_found (b ∷ bs) n pc =
        let c = machine_branch u.units b pc in
        found_both u n pc c (machine_branches u.units bs (pc + length c)) (branch_found b n pc) (branches_found bs _ _)

    -- with what follows it, a statement's code has what is left at each of its marks; what follows is known by its number, too
    abbrev MarksOf : UStmt → Type 0
    MarksOf s = (pc n : ℕ) (k : List Item) → HasAt u n pc (machine_stmt u.units s pc) → IsCodeOf u (pc + length (machine_stmt u.units s pc)) k → P (items s n ++ k) → P k × AllFound u n pc (machine_stmt u.units s pc)

    abbrev AllMarks : List UStmt → Type 0
    AllMarks [] = Unit {0}
    AllMarks (s ∷ ss) = MarksOf s × AllMarks ss

    in_list : (ss : List UStmt) → AllMarks ss → (pc n : ℕ) (k : List Item) → HasAt u n pc (machine_stmts u.units ss pc) → IsCodeOf u (pc + length (machine_stmts u.units ss pc)) k → P (items_all ss n ++ k)
        → P k × AllFound u n pc (machine_stmts u.units ss pc)
    in_list [] h pc n k has st has_property = (has_property, tt)
    in_list (s ∷ ss) h pc n k has st has_property =
        let cs = machine_stmt u.units s pc in
        let cr = machine_stmts u.units ss (pc + length cs) in
        let e : pc + length (cs ++ cr) ≡ pc + length cs + length cr = omega (arith, length-append cs cr) in
        let has_rest = subst (λ m. HasAt u (n + m) (pc + length cs) cr) (stmt_counts u.units s pc) (has_back u n pc cs cr has) in
        let behind_rest = subst (λ p. IsCodeOf u p k) e st in
        let rest_stands = enters_list u ss (pc + length cs) (n + size_of s) k has_rest behind_rest in
        let one = h.0 pc n (items_all ss (n + size_of s) ++ k) (has_front u n pc cs cr has) rest_stands (subst (P) (append_assoc (items s n) (items_all ss (n + size_of s)) k) has_property) in
        let others = in_list ss h.1 (pc + length cs) (n + size_of s) k has_rest behind_rest one.0 in
        (others.0, found_both u n pc cs cr one.1 (found_as u (n + size_of s) (n + statements_in cs) (pc + length cs) cr (ap (λ m. n + m) (stmt_counts u.units s pc)) others.1))

    at_items : (l : ℕ) (x : UWhat-F UWhat UStmt) (n : ℕ) → items (line_of l (roll-UWhat x)) n ≡ what_items (map-UWhat UWhat UStmt _ _ (λ y. (y, para-UWhat (UStmt → ItemsFrom) ItemsFrom what_items (λ s. s.what.1 (record { line = s.line; what = s.what.0 })) y)) (λ y. (y, items y)) x) (line_of l (roll-UWhat x)) n
    at_items l x n = ap (λ f. f n) (items_roll l x)

    rest_after : (l n : ℕ) (x : UWhat-F UWhat UStmt) (k : List Item) (c : Successor) → P (Do n (line_of l (roll-UWhat x)) ∷ k) → P (follow_what x c n (line_of l (roll-UWhat x)) k)
    rest_after l n x k c has_property = let s = line_of l (roll-UWhat x) in subst (λ z. P (follow_what z c n s k)) (out-roll-UWhat x) (stays c (Do n s ∷ k) has_property)

    -- a statement that begins with its mark
    marked : (l : ℕ) (x : UWhat-F UWhat UStmt) (kd : MarkKind) → kd ≡ first_kind x → (rest : ℕ → List MachineInstr) → ((pc : ℕ) → kind_code u.units x l pc ≡ point_what u.units x l pc) → ((pc : ℕ) → point_what u.units x l pc ≡ begin_mark kd l false ∷ rest pc)
        → ((n : ℕ) → items (line_of l (roll-UWhat x)) n ≡ Do n (line_of l (roll-UWhat x)) ∷ []) → ((n : ℕ) (k : List Item) → follow_what x On n (line_of l (roll-UWhat x)) k ≡ k)
        → ((pc n stop : ℕ) (k : List Item) → (let s = line_of l (roll-UWhat x) in HasStatement u pc n s stop → HasAt u (n + 1) (pc + 1) (rest pc) → stop ≡ pc + 1 + length (rest pc) → IsCodeOf u stop k → P (Do n s ∷ k) → AllFound u (n + 1) (pc + 1) (rest pc)))
        → MarksOf (line_of l (roll-UWhat x))
    marked l x kd kd_is rest same begun_by is on inner pc n k has st has_property =
        let s = line_of l (roll-UWhat x) in
        let c : machine_stmt u.units s pc ≡ point_what u.units x l pc = ap (λ f. f pc) (code_roll u.units l x) ∙ same pc in
        let p : machine_stmt u.units s pc ≡ point_code u.units s pc = c ∙ sym (ap (λ f. f pc) (point_roll u.units l x)) in
        let whole = c ∙ begun_by pc in
        let h = subst (HasAt u n pc) whole has in
        let stop = pc + length (machine_stmt u.units s pc) in
        let has_s : HasStatement u pc n s stop = record { kind = kd; is_kind = kd_is ∙ ap first_kind (sym (out-roll-UWhat x)); all = subst (HasAt u n pc) p has; ends = ap (λ c. pc + length c) p; marked = h.0 } in
        let t : P (Do n s ∷ k) = subst (λ i. P (i ++ k)) (is n) has_property in
        let ends : stop ≡ pc + 1 + length (rest pc) = ap (λ c. pc + length c) whole ∙ (let z : pc + length (begin_mark kd l false ∷ rest pc) ≡ pc + 1 + length (rest pc) = omega arith in z) in
        let found : Found P u pc (record { kind = kd; line = l; number = n; halfway = false }) = record { stmt = s; rest = k; has_property = t; here = at_do pc n stop s k has_s st } in
        (subst (P) (on n k) (rest_after l n x k On t), subst (AllFound u n pc) (sym whole) (found, inner pc n stop k has_s h.1 ends st t))

    -- one that has no other mark
    plain : (l : ℕ) (x : UWhat-F UWhat UStmt) (kd : MarkKind) → kd ≡ first_kind x → (rest : ℕ → List MachineInstr) → ((pc : ℕ) → kind_code u.units x l pc ≡ point_what u.units x l pc) → ((pc : ℕ) → point_what u.units x l pc ≡ begin_mark kd l false ∷ rest pc)
        → ((n : ℕ) → items (line_of l (roll-UWhat x)) n ≡ Do n (line_of l (roll-UWhat x)) ∷ []) → ((n : ℕ) (k : List Item) → follow_what x On n (line_of l (roll-UWhat x)) k ≡ k) → ((n pc : ℕ) → AllFound u n (pc + 1) (rest pc)) → MarksOf (line_of l (roll-UWhat x))
    plain l x kd kd_is rest same begun_by is on none = marked l x kd kd_is rest same begun_by is on (λ pc n stop k whole has ends st has_property. none (n + 1) pc)

    -- an expression and an instruction after it
    then_one : (n pc : ℕ) (c : List MachineInstr) (i : MachineInstr) → AllCompute c → ((n pc : ℕ) → IsFound u pc (with_number n i)) → AllFound u n pc (c ++ i ∷ [])
    then_one n pc c i h none = found_both u n pc c (i ∷ []) (found_computing u n pc c h) (none (n + statements_in c) (pc + length c), tt)

    abbrev WhatMarks : UWhat → Type 0
    WhatMarks w = (l : ℕ) → MarksOf (line_of l w)

    abbrev Such : Type 0
    Such = (s : UStmt) × MarksOf s

    abbrev SuchWhat : Type 0
    SuchWhat = (w : UWhat) × WhatMarks w

    abbrev bare : UWhat-F SuchWhat Such → UWhat-F UWhat UStmt
    bare = map-UWhat SuchWhat Such UWhat UStmt (λ e. e.0) (λ e. e.0)

    all_marks : (y : List Such) → AllMarks (map (λ e. e.0) y)
    all_marks [] = tt
    all_marks (e ∷ es) = (e.1, all_marks es)

    -- two arms after a test
    if_marks : (l : ℕ) (e : UExpr) (a b : List UStmt) → AllMarks a → AllMarks b → MarksOf (line_of l (roll-UWhat (UWhat-F.If e a b)))
    if_marks l e a b ma mb = marked l x kind.Quiet refl _ (λ pc. refl) (λ pc. refl) (at_items l x) (λ n k. refl) inner
      where
        x : UWhat-F UWhat UStmt
        x = UWhat-F.If e a b

        inner : (pc n stop : ℕ) (k : List Item) → (let s = line_of l (roll-UWhat (UWhat-F.If e a b)) in
            let t = machine_expr e (pc + 1) in
            let first = pc + 1 + length t + 1 in
            let ca = machine_stmts u.units a first in
            let second = first + length ca + 1 in
            let cb = machine_stmts u.units b second in
            let rest = t ++ JumpZ second ∷ (ca ++ Jump (second + length cb) ∷ cb) in
            HasStatement u pc n s stop → HasAt u (n + 1) (pc + 1) rest → stop ≡ pc + 1 + length rest → IsCodeOf u stop k → P (Do n s ∷ k) → AllFound u (n + 1) (pc + 1) rest)
        inner pc n stop k whole h ends rest has_property =
            let t = machine_expr e (pc + 1) in
            let pc1 = pc + 1 + length t in
            let first = pc1 + 1 in
            let ca = machine_stmts u.units a first in
            let second = first + length ca + 1 in
            let cb = machine_stmts u.units b second in
            let end = second + length cb in
            let more = JumpZ second ∷ (ca ++ Jump end ∷ cb) in
            let h1 = has_back u (n + 1) (pc + 1) t more h in
            let na : n + 1 + statements_in t + 0 ≡ n + 1 = omega (arith, no_stmts u.units e pc) in
            let ha = renumber u _ (n + 1) first (ca ++ Jump end ∷ cb) na h1.1 in
            let h2 = has_back u (n + 1) first ca (Jump end ∷ cb) ha in
            let nb : n + 1 + statements_in ca + 0 ≡ n + 1 + size_all a = omega (arith, count_all u.units a first) in
            let hb = renumber u _ (n + 1 + size_all a) second cb nb h2.1 in
            let e1 : stop ≡ end = omega (arith, ends, length-append t more, length-append ca (Jump end ∷ cb)) in
            let there = subst (λ p. IsCodeOf u p k) e1 rest in
            let lt : first + length ca < end = omega arith in
            let fa = (in_list a ma first (n + 1) k (has_front u (n + 1) first ca (Jump end ∷ cb) ha) (code_jump (first + length ca) end k h2.0 lt there) (rest_after l n x k First has_property)).1 in
            let fb = (in_list b mb second (n + 1 + size_all a) k hb there (rest_after l n x k Second has_property)).1 in
            let f2 = found_both u (n + 1) first ca (Jump end ∷ cb) fa (tt, found_as u (n + 1 + size_all a) _ second cb nb fb) in
            found_both u (n + 1) (pc + 1) t more (found_computing u (n + 1) (pc + 1) t (expr_computes e (pc + 1))) (tt, found_as u (n + 1) _ first (ca ++ Jump end ∷ cb) na f2)

    -- a loop from its mark on
    loop_marks : (l : ℕ) (x : UWhat-F UWhat UStmt) (test body : MachineCode) (inner : List Item → List Item) (pc n stop : ℕ) (k : List Item) → (let s = line_of l (roll-UWhat x) in
        AllCompute (test (pc + 1)) → statements_in (test (pc + 1)) ≡ 0 → follow_what x First n s k ≡ inner (Do n s ∷ k)
        → ((at : ℕ) (k : List Item) → HasAt u (n + 1) at (body at) → IsCodeOf u (at + length (body at)) k → P (inner k) → AllFound u (n + 1) at (body at))
        → HasStatement u pc n s stop → HasAt u n pc (machine_looped l test body pc) → IsCodeOf u stop k → P (Do n s ∷ k) → AllFound u n pc (machine_looped l test body pc))
    loop_marks l x test body inner pc n stop k computes none first found_in whole has rest has_property =
        let s = line_of l (roll-UWhat x) in
        let t = test (pc + 1) in
        let pc1 = pc + 1 + length t in
        let first_at = pc1 + 1 in
        let ca = body first_at in
        let end = first_at + length ca + 1 in
        let more = JumpZ end ∷ (ca ++ Jump pc ∷ []) in
        let h1 = has_back u (n + 1) (pc + 1) t more has.1 in
        let na : n + 1 + statements_in t + 0 ≡ n + 1 = omega (arith, none) in
        let ha = renumber u _ (n + 1) first_at (ca ++ Jump pc ∷ []) na h1.1 in
        let h2 = has_back u (n + 1) first_at ca (Jump pc ∷ []) ha in
        let fa = found_in first_at (Do n s ∷ k) (has_front u (n + 1) first_at ca (Jump pc ∷ []) ha) (code_back (first_at + length ca) pc n stop s k h2.0 whole rest) (subst (P) first (rest_after l n x k First has_property)) in
        let f2 = found_both u (n + 1) first_at ca (Jump pc ∷ []) fa (tt, tt) in
        let found : Found P u pc (record { kind = kind.Quiet; line = l; number = n; halfway = false }) = record { stmt = s; rest = k; has_property = has_property; here = at_do pc n stop s k whole rest } in
        (found, found_both u (n + 1) (pc + 1) t more (found_computing u (n + 1) (pc + 1) t computes) (tt, found_as u (n + 1) _ first_at (ca ++ Jump pc ∷ []) na f2))

    while_marks : (l : ℕ) (e : UExpr) (a : List UStmt) → AllMarks a → MarksOf (line_of l (roll-UWhat (UWhat-F.While e a)))
    while_marks l e a ma pc n k has st has_property =
        let x : UWhat-F UWhat UStmt = UWhat-F.While e a in
        let s = line_of l (roll-UWhat x) in
        let c : machine_stmt u.units s pc ≡ point_what u.units x l pc = ap (λ f. f pc) (code_roll u.units l x) in
        let p : machine_stmt u.units s pc ≡ point_code u.units s pc = c ∙ sym (ap (λ f. f pc) (point_roll u.units l x)) in
        let h = subst (HasAt u n pc) c has in
        let stop = pc + length (machine_stmt u.units s pc) in
        let whole : HasStatement u pc n s stop = record { kind = kind.Quiet; is_kind = ap first_kind (sym (out-roll-UWhat x)); all = subst (HasAt u n pc) p has; ends = ap (λ c. pc + length c) p; marked = h.0 } in
        let t : P (Do n s ∷ k) = subst (λ i. P (i ++ k)) (at_items l x n) has_property in (
          rest_after l n x k On t,
          subst (AllFound u n pc) (sym c)
              (loop_marks l x (machine_expr e) (machine_stmts u.units a) (λ k. items_all a (n + 1) ++ k) pc n stop k (expr_computes e (pc + 1)) (no_stmts u.units e pc) refl
              (λ at k h st has_property. (in_list a ma at (n + 1) k h st has_property).1) whole h st t),
        )

    same_items : (ss : List UStmt) → map (λ (y : UStmt × ItemsFrom). y.0) (map (λ y. (y, items y)) ss) ≡ ss
    same_items [] = refl
    same_items (s ∷ ss) = ap (λ r. s ∷ r) (same_items ss)

    for_marks : (l : ℕ) (first : List UStmt) (e : Option UExpr) (step body : List UStmt) → AllMarks first → AllMarks step → AllMarks body → MarksOf (line_of l (roll-UWhat (UWhat-F.For first e step body)))
    for_marks l first e step body mf ms mb pc n k has st has_property =
        let x : UWhat-F UWhat UStmt = UWhat-F.For first e step body in
        let s = line_of l (roll-UWhat x) in
        let ca = machine_stmts u.units first pc in
        let at = pc + length ca in
        let test = machine_expr_or (pos 1) e in
        let cl = machine_looped l test (sequence (machine_stmts u.units body) (machine_stmts u.units step)) at in
        let c : machine_stmt u.units s pc ≡ ca ++ cl = ap (λ f. f pc) (code_roll u.units l x) in
        let p : point_code u.units s at ≡ cl = ap (λ f. f at) (point_roll u.units l x) in
        let h : HasAt u n pc (ca ++ cl) = subst (HasAt u n pc) c has in
        let counted : statements_in ca ≡ whole_size (map (λ y. (y, items y)) first) = count_all u.units first pc ∙ ap size_all (sym (same_items first)) in
        let m = n + whole_size (map (λ y. (y, items y)) first) in
        let same_m : n + statements_in ca ≡ m = ap (λ c. n + c) counted in
        let hl = renumber u _ m at cl same_m (has_back u n pc ca cl h) in
        let i : items s n ≡ items_all first n ++ Do m s ∷ [] = at_items l x n in
        let stop = at + length cl in
        let e1 : pc + length (machine_stmt u.units s pc) ≡ stop = ap (λ c. pc + length c) c ∙ (let z : pc + length (ca ++ cl) ≡ pc + length ca + length cl = omega (arith, length-append ca cl) in z) in
        let behind_it = subst (λ q. IsCodeOf u q k) e1 st in
        let whole : HasStatement u at m s stop = record { kind = kind.Quiet; is_kind = ap first_kind (sym (out-roll-UWhat x)); all = subst (HasAt u m at) (sym p) hl; ends = ap (λ c. at + length c) (sym p); marked = hl.0 } in
        let t = subst (P) (append_assoc (items_all first n) (Do m s ∷ []) k) (subst (λ j. P (j ++ k)) i has_property) in
        let of_first = in_list first mf pc n (Do m s ∷ k) (has_front u n pc ca cl h) (code_do at m stop s k whole behind_it) t in
        let of_loop = loop_marks l x test (sequence (machine_stmts u.units body) (machine_stmts u.units step)) (λ k. items_all body (m + 1) ++ (items_all step (m + 1 + size_all body) ++ k)) at m stop k (option_computes (pos 1) e (at + 1)) (no_stmts_or u.units (pos 1) e at) refl
        (λ place k h is_code has_property.
        let cb = machine_stmts u.units body place in
        let cs = machine_stmts u.units step (place + length cb) in
        let z : place + length (cb ++ cs) ≡ place + length cb + length cs = omega (arith, length-append cb cs) in
        let counted : m + 1 + statements_in cb ≡ m + 1 + size_all body = ap (λ c. m + 1 + c) (count_all u.units body place) in
        let hs = renumber u _ (m + 1 + size_all body) (place + length cb) cs counted (has_back u (m + 1) place cb cs h) in
        let behind_step = subst (λ p. IsCodeOf u p k) z is_code in
        let stands_step = enters_list u step (place + length cb) (m + 1 + size_all body) k hs behind_step in
        let of_body = in_list body mb place (m + 1) (items_all step (m + 1 + size_all body) ++ k) (has_front u (m + 1) place cb cs h) stands_step has_property in
        let of_step = in_list step ms (place + length cb) (m + 1 + size_all body) k hs behind_step of_body.0 in
        found_both u (m + 1) place cb cs of_body.1 (found_as u (m + 1 + size_all body) _ (place + length cb) cs counted of_step.1))
        whole hl behind_it of_first.0 in
        (rest_after l m x k On of_first.0, subst (AllFound u n pc) (sym c) (found_both u n pc ca cl of_first.1 (found_as u m _ at cl same_m of_loop)))

    -- the block of a `try`, and its handler
    try_marks : (l : ℕ) (a : List UStmt) (y : ℕ) (z : Option ℕ) (b : List UStmt) → AllMarks a → AllMarks b → MarksOf (line_of l (roll-UWhat (UWhat-F.Try a y z b)))
    try_marks l a y z b ma mb = marked l x kind.Quiet refl _ (λ pc. refl) (λ pc. refl) (at_items l x) (λ n k. refl) inner
      where
        x : UWhat-F UWhat UStmt
        x = UWhat-F.Try a y z b

        inner : (pc n stop : ℕ) (k : List Item) → (let s = line_of l (roll-UWhat (UWhat-F.Try a y z b)) in
            let first = pc + 1 + 1 in
            let body = sequence (machine_stmts u.units a) (one Untry) first in
            let handler = first + length body + 1 in
            let cb = machine_stmts u.units b handler in
            let rest = try_instr handler y z ∷ (body ++ Jump (handler + length cb) ∷ cb) in
            HasStatement u pc n s stop → HasAt u (n + 1) (pc + 1) rest → stop ≡ pc + 1 + length rest → IsCodeOf u stop k → P (Do n s ∷ k) → AllFound u (n + 1) (pc + 1) rest)
        inner pc n stop k whole h ends rest has_property =
            let first = pc + 1 + 1 in
            let ca = machine_stmts u.units a first in
            let body = sequence (machine_stmts u.units a) (one Untry) first in
            let handler = first + length body + 1 in
            let cb = machine_stmts u.units b handler in
            let end = handler + length cb in
            let n1 : n + 1 + begun (try_instr handler y z) ≡ n + 1 = omega (arith, tried_begun handler y z) in
            let h0 = renumber u _ (n + 1) first (body ++ Jump end ∷ cb) n1 h.1 in
            let h2 = has_back u (n + 1) first body (Jump end ∷ cb) h0 in
            let hb = has_front u (n + 1) first body (Jump end ∷ cb) h0 in
            let hu = has_back u (n + 1) first ca (Untry ∷ []) hb in
            let lb : length body ≡ length ca + 1 = length-append ca (Untry ∷ []) in
            let nb : n + 1 + statements_in body + 0 ≡ n + 1 + size_all a = omega (arith, count_both ca (Untry ∷ []), count_all u.units a first) in
            let hh = renumber u _ (n + 1 + size_all a) handler cb nb h2.1 in
            let e1 : stop ≡ end = omega (arith, ends, length-append body (Jump end ∷ cb)) in
            let e2 : first + length ca + 1 ≡ first + length body = omega (arith, lb) in
            let there = subst (λ p. IsCodeOf u p k) e1 rest in
            let lt : first + length body < end = omega arith in
            let at_leave = code_leave (first + length ca) k hu.0 (subst (λ p. IsCodeOf u p k) (sym e2) (code_jump (first + length body) end k h2.0 lt there)) in
            let fa = (in_list a ma first (n + 1) (Leave ∷ k) (has_front u (n + 1) first ca (Untry ∷ []) hb) at_leave (rest_after l n x k First has_property)).1 in
            let fb = (in_list b mb handler (n + 1 + size_all a) k hh there (rest_after l n x k Second has_property)).1 in
            let f1 = found_both u (n + 1) first ca (Untry ∷ []) fa (tt, tt) in
            let f2 = found_both u (n + 1) first body (Jump end ∷ cb) f1 (tt, found_as u (n + 1 + size_all a) _ handler cb nb fb) in
            (tried_found u (n + 1) (pc + 1) handler y z, found_as u (n + 1) _ first (body ++ Jump end ∷ cb) n1 f2)

    -- at the second mark of a statement
    half_here : (x : UWhat-F UWhat UStmt) (s : UStmt) (n stop at : ℕ) (k : List Item) → out-UWhat s.what ≡ x → HasHalves x → HasAt u (n + 1) at (half_what x s.line at) → stop ≡ at + length (half_what x s.line at) → IsCodeOf u stop k → AtHalf u at (Do n s ∷ k)
    half_here x s n stop at k ex ih has ends rest =
        subst (λ z. HasHalves z → (let c = half_what z s.line at in HasAt u (n + 1) at c × (stop ≡ at + length c)) → AtHalf u at (Do n s ∷ k)) ex (λ i h. at_half at n stop s k i h rest) ih (has, ends)

    -- a statement with two parts
    assign_next_marks : (l y z : ℕ) → MarksOf (line_of l (roll-UWhat (UWhat-F.AssignNext y z)))
    assign_next_marks l y z =
        let x : UWhat-F UWhat UStmt = UWhat-F.AssignNext y z in
        let s = line_of l (roll-UWhat x) in
        marked l x kind.Next refl _ (λ pc. refl) (λ pc. refl) (at_items l x) (λ n k. refl)
        (λ pc n stop k whole h ends rest has_property.
        let at = pc + 1 + 1 in
        let e : n + 1 + 0 - 1 ≡ n = omega arith in
        let z0 : n + 1 + 0 ≡ n + 1 = omega arith in
        let second = renumber u _ (n + 1) at (half_what x l at) z0 h.1 in
        let stops : stop ≡ at + 3 = omega (arith, ends) in
        let found : Found P u at (record { kind = kind.Quiet; line = l; number = n; halfway = true }) = record { stmt = s; rest = k; has_property = has_property; here = half_here x s n stop at k (out-roll-UWhat x) tt second stops rest } in
        (tt, (subst (λ i. Found P u at (record { kind = kind.Quiet; line = l; number = i; halfway = true })) (sym e) found, (tt, (tt, tt)))))

    next_assign_marks : (l y : ℕ) (e : UExpr) → MarksOf (line_of l (roll-UWhat (UWhat-F.NextAssign y e)))
    next_assign_marks l y e =
        let x : UWhat-F UWhat UStmt = UWhat-F.NextAssign y e in
        let s = line_of l (roll-UWhat x) in
        marked l x kind.Quiet refl _ (λ pc. refl) (λ pc. refl) (at_items l x) (λ n k. refl)
        (λ pc n stop k whole h ends rest has_property.
        let c = machine_expr e (pc + 1) in
        let cs = c ++ Set y ∷ [] in
        let at = pc + 1 + length cs in
        let m = n + 1 + statements_in cs in
        let second = half_what x l at in
        let same_m : m ≡ n + 1 = omega (arith, count_both c (Set y ∷ []), no_stmts u.units e pc) in
        let e : m - 1 ≡ n = omega (arith, same_m) in
        let there = renumber u _ (n + 1) at second same_m (has_back u (n + 1) (pc + 1) cs second h) in
        let stops : stop ≡ at + 2 = omega (arith, ends, length-append cs second) in
        let found : Found P u at (record { kind = kind.Next; line = l; number = n; halfway = true }) = record { stmt = s; rest = k; has_property = has_property; here = half_here x s n stop at k (out-roll-UWhat x) tt there stops rest } in
        found_both u (n + 1) (pc + 1) cs second (then_one (n + 1) (pc + 1) c (Set y) (expr_computes e_of (pc + 1)) (λ n pc. tt))
        (subst (λ i. Found P u at (record { kind = kind.Next; line = l; number = i; halfway = true })) (sym e) found, (tt, tt)))
      where
        e_of : UExpr
        e_of = e

    call_found : (c : UCall) (n pc : ℕ) → AllFound u n pc (machine_call u.units c pc)
    call_found c n pc =
        let a = machine_args (params_in u.units c.unit) c.args pc in
        found_both u n pc a (Call (callee_of c) ∷ []) (found_gathering u n pc a (args_gather (params_in u.units c.unit) c.args pc)) (tt, tt)

    fork_found : (bs : List UBranch) (n pc : ℕ) → AllFound u n pc (machine_fork u.units bs pc)
    fork_found bs n pc = let c = machine_branches u.units bs pc in found_both u n pc c (Fork (length bs) ∷ []) (branches_found bs n pc) (tt, tt)

    by_kind : (y : UWhat-F SuchWhat Such) → WhatMarks (roll-UWhat (bare y))
    by_kind (UWhat-F.Declare t x e) l = let w = bare (UWhat-F.Declare t x e) in plain l w kind.Quiet refl _ (λ pc. refl) (λ pc. refl) (at_items l w) (λ n k. refl) (λ n pc. then_one n (pc + 1) (machine_expr_or (pos 0) e (pc + 1)) (Declare t x) (option_computes (pos 0) e (pc + 1)) (λ n pc. tt))
    by_kind (UWhat-F.Assign x e) l = let w = bare (UWhat-F.Assign x e) in plain l w kind.Quiet refl _ (λ pc. refl) (λ pc. refl) (at_items l w) (λ n k. refl) (λ n pc. then_one n (pc + 1) (machine_expr e (pc + 1)) (Set x) (expr_computes e (pc + 1)) (λ n pc. tt))
    by_kind (UWhat-F.Next x) l = let w = bare (UWhat-F.Next x) in plain l w kind.Next refl _ (λ pc. refl) (λ pc. refl) (at_items l w) (λ n k. refl) (λ n pc. (tt, tt))
    by_kind (UWhat-F.NextAssign x e) l = next_assign_marks l x e
    by_kind (UWhat-F.AssignNext x z) l = assign_next_marks l x z
    by_kind (UWhat-F.Get x i) l = let w = bare (UWhat-F.Get x i) in plain l w kind.Quiet refl _ (λ pc. refl) (λ pc. refl) (at_items l w) (λ n k. refl) (λ n pc. (tt, (tt, tt)))
    by_kind (UWhat-F.Put o e) l = let w = bare (UWhat-F.Put o e) in plain l w kind.Put refl _ (λ pc. refl) (λ pc. refl) (at_items l w) (λ n k. refl) (λ n pc. then_one n (pc + 1) (machine_expr e (pc + 1)) (Put o) (expr_computes e (pc + 1)) (λ n pc. tt))
    by_kind (UWhat-F.If e a b) l = if_marks l e (map (λ e. e.0) a) (map (λ e. e.0) b) (all_marks a) (all_marks b)
    by_kind (UWhat-F.While e a) l = while_marks l e (map (λ e. e.0) a) (all_marks a)
    by_kind (UWhat-F.For first e step body) l = for_marks l (map (λ e. e.0) first) e (map (λ e. e.0) step) (map (λ e. e.0) body) (all_marks first) (all_marks step) (all_marks body)
    by_kind (UWhat-F.Block a) l = λ pc n k has st has_property.
        let w = bare (UWhat-F.Block a) in
        let ss = map (λ e. e.0) a in
        let c : machine_stmt u.units (line_of l (roll-UWhat w)) pc ≡ machine_stmts u.units ss pc = ap (λ f. f pc) (code_roll u.units l w) in
        let i : items (line_of l (roll-UWhat w)) n ≡ items_all ss n = at_items l w n in
        let inner = in_list ss (all_marks a) pc n k (subst (HasAt u n pc) c has) (subst (λ c. IsCodeOf u (pc + length c) k) c st) (subst (λ j. P (j ++ k)) i has_property) in
        (inner.0, subst (AllFound u n pc) (sym c) inner.1)
    by_kind (UWhat-F.Call c) l = let w = bare (UWhat-F.Call c) in plain l w kind.Quiet refl _ (λ pc. refl) (λ pc. refl) (at_items l w) (λ n k. refl) (λ n pc. call_found c n (pc + 1))
    by_kind (UWhat-F.Try a x y b) l = try_marks l (map (λ e. e.0) a) x y (map (λ e. e.0) b) (all_marks a) (all_marks b)
    by_kind (UWhat-F.Throw x e) l = let w = bare (UWhat-F.Throw x e) in plain l w kind.Throw refl _ (λ pc. refl) (λ pc. refl) (at_items l w) (λ n k. refl) (λ n pc. then_one n (pc + 1) (machine_expr_or (pos 0) e (pc + 1)) (Throw x) (option_computes (pos 0) e (pc + 1)) (λ n pc. tt))
    by_kind (UWhat-F.Par bs) l = let w = bare (UWhat-F.Par bs) in plain l w kind.Fork refl _ (λ pc. refl) (λ pc. refl) (at_items l w) (λ n k. refl) (λ n pc. fork_found bs n (pc + 1))

    marks_of : (s : UStmt) → MarksOf s
    marks_of = ind-UStmt WhatMarks MarksOf
        (λ x y is. subst (λ z. WhatMarks (roll-UWhat z)) is (by_kind y))
        (λ x y is. subst (λ z. MarksOf (roll-UStmt z)) is (y.what.1 y.line))

    each_marks : (ss : List UStmt) → AllMarks ss
    each_marks [] = tt
    each_marks (s ∷ ss) = (marks_of s, each_marks ss)

    -- an instruction of the list is found at its place
    looked_up : (is : List MachineInstr) (n pc i : ℕ) (x : MachineInstr) → AllFound u n pc is → slice_get (numbered n is) i ≡ Some x → IsFound u (pc + i) x
    looked_up [] n pc i x h e = absurd (none_some x e)
      where
        none_some : (x : MachineInstr) → None ≡ Some x → ⊥
        none_some x e = cc
    looked_up (y ∷ is) n pc zero x h e =
        let z : pc + 0 ≡ pc = omega arith in
        subst (IsFound u (pc + 0)) (same_instr (with_number n y) x e) (subst (λ p. IsFound u p (with_number n y)) (sym z) h.0)
      where
        same_instr : (y x : MachineInstr) → Some y ≡ Some x → y ≡ x
        same_instr y x e = cc
    looked_up (y ∷ is) n pc (suc i) x h e =
        let z : pc + 1 + i ≡ pc + suc i = omega arith in
        subst (λ p. IsFound u p x) z (looked_up is (n + begun y) (pc + 1) i x h.1 e)

    unit_found : u.code ≡ machine_unit u.units u.body → P (items_all u.body 0) → AllFound u 0 0 (machine_stmts u.units u.body 0 ++ End 0 ∷ [])
    unit_found e first =
        let body = machine_stmts u.units u.body 0 in
        let has = unit_has u e in
        let end = (has_back u 0 0 body (End 0 ∷ []) has).0 in
        let st = code_end (0 + length body) (0 + statements_in body) end in
        let has_property = subst P (sym (append-nil (items_all u.body 0))) first in
        let counted : 0 + statements_in body ≡ size_all u.body = omega (arith, count_all u.units u.body 0) in
        found_both u 0 0 body (End 0 ∷ []) (in_list u.body (each_marks u.body) 0 0 [] (has_front u 0 0 body (End 0 ∷ []) has) st has_property).1 (counted, tt)

    found_at : u.code ≡ machine_unit u.units u.body → P (items_all u.body 0) → (pc : ℕ) (i : MachineInstr) → fetch u pc ≡ Some i → IsFoundAt P u pc i
    found_at e first pc i h =
        let z : 0 + pc ≡ pc = omega arith in
        let there : slice_get (machine_unit u.units u.body) pc ≡ Some i = ap (λ c. slice_get c pc) (sym e) ∙ h in
        subst (λ p. IsFoundAt P u p i) z (looked_up (machine_stmts u.units u.body 0 ++ End 0 ∷ []) 0 0 pc i (unit_found e first) there)

pub mark_place : (u : CodedUnit) → u.code ≡ machine_unit u.units u.body → (pc : ℕ) (m : MarkOf) → fetch u pc ≡ Some (Mark m) → IsPlaceOf u pc (left_all u.body m.number) m.halfway
mark_place u e pc m h =
    let found : Found (IsRestOf u.body) u pc m = found_at (IsRestOf u.body) (rest_followed u.body) u e (rest_first u.body) pc (Mark m) h in
    subst (λ k. IsPlaceOf u pc k m.halfway) (sym found.has_property) found.here

pub end_number : (u : CodedUnit) → u.code ≡ machine_unit u.units u.body → (pc n : ℕ) → fetch u pc ≡ Some (End n) → n ≡ size_all u.body
end_number u e pc n h = found_at (IsRestOf u.body) (rest_followed u.body) u e (rest_first u.body) pc (End n) h
