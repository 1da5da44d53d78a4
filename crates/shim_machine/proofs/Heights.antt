-- Each place of a unit's code has its height of the stack, by whatever way it is come to.
use Rattle.std.proofs.Common.{◌≡◌, ℕ, ℤ, zero, suc, pos, ◌+◌, ◌-◌, ◌≤◌, false, true, List, [], ◌∷◌, ◌++◌, length, map, take, Option, Some, None, refl, sym, ap, ◌∙◌, subst, arith, length-append}
use Rattle.std.specs.Prelude.{Bool as TruthValue, slice_get}
use Rattle.std.proofs.Math.Seq.{take-suc}
use Rattle.std.proofs.lemmas.Option.{get_or_from_slice_get, slice_get_within}
use Rattle.shim_base.specs.declared.operators.BinOp.{BinOp}
use Rattle.shim_base.specs.declared.operators.BinOp.TheVariants.{Mul, Div, Rem, Add, Sub, Shl, Shr, Lt, Le, Gt, Ge, Eq, Ne, BitAnd, BitXor, BitOr, And, Or}
use Rattle.shim_scopes.specs.declared.tree.UExpr.{UExpr, UExpr-F, map-UExpr, fold-roll-UExpr, ind-UExpr}
use Rattle.shim_scopes.specs.declared.tree.UParam.{UParam}
use Rattle.shim_units.specs.Calls.{behind_first}
use Rattle.shim_units.specs.declared.unit.Arg.{Arg}
use Rattle.shim_units.specs.declared.unit.Arg.TheVariants.{Ref as ByRef, Pass as ByPass, Fresh as ByFresh}
use Rattle.shim_units.specs.declared.unit.UBranch.{UBranch}
use Rattle.shim_units.specs.declared.unit.UStmt.{UStmt, ind-UStmt, roll-UStmt}
use Rattle.shim_units.specs.declared.unit.UWhat.{UWhat, UWhat-F, map-UWhat, roll-UWhat}
use Rattle.shim_process.proofs.TodoItems.{line_of}
use Rattle.shim_code.specs.declared.instr.MarkKind.{MarkKind}
use Rattle.shim_code.specs.declared.instr.MarkKind.TheVariants as kind
use Rattle.shim_code.specs.declared.machine_instr.MachineInstr.{MachineInstr}
use Rattle.shim_code.specs.declared.machine_instr.MachineInstr.TheVariants.{Num, Var, Un, Bin, Bool, Jump, JumpZ, Declare, Set, Get, Put, Next, Ref, Pass, Fresh, Call, Branch, Fork, Untry, Throw, End}
use Rattle.shim_code.specs.Layout.{all, arms, sequence, loop, one}
use Rattle.shim_code.specs.MachineCode.{MachineCode, begin_mark, begun, callee_of, first_name, first_sort, machine_arg, machine_args, machine_branch, machine_branches, machine_call, machine_expr, machine_expr_or, machine_expr_step, machine_fork, machine_looped, machine_marked, machine_stmt, machine_stmts, machine_unit, numbered, params_in, statements_in, try_instr, with_number}
use Rattle.shim_machine.specs.Machine.{CodedUnit, fetch}
use Rattle.shim_machine.specs.Correspondence.{HasAt, kind_code}
use Rattle.shim_machine.specs.StackHeights.{HasHeight, height_after, height_at, height_of}
use Rattle.shim_machine.proofs.Enters.{code_roll}
use Rattle.shim_machine.proofs.Exprs.{has_back, has_front}
use Rattle.shim_machine.proofs.Tried.{tried_number, tried_height, tried_has}
use Rattle.shim_machine.proofs.UnitStarts.{unit_has}

behind_one : (h : ℕ) (is : List MachineInstr) (i : MachineInstr) → height_of h (is ++ i ∷ []) ≡ height_after (height_of h is) i
behind_one h [] i = refl
behind_one h (x ∷ is) i = behind_one (height_after h x) is i

module _ (u : CodedUnit) where
  abbrev H : ℕ → ℕ
  H = height_at u

  -- at the next place
  next : (pc : ℕ) (i : MachineInstr) → fetch u pc ≡ Some i → H (pc + 1) ≡ height_after (H pc) i
  next pc i h =
      let z : pc + 1 ≡ suc pc = omega arith in
      ap (λ p. height_of 0 (take p u.code)) z
      ∙ ap (height_of 0) (take-suc u.code pc i (slice_get_within u.code pc i h) ∙ ap (λ x. take pc u.code ++ x ∷ []) (get_or_from_slice_get u.code pc i i h))
      ∙ behind_one 0 (take pc u.code) i

  -- so at each of these instructions
  abbrev AllHigh : ℕ → ℕ → List MachineInstr → Type 0
  AllHigh n pc [] = Unit {0}
  AllHigh n pc (i ∷ is) = HasHeight u pc (with_number n i) × AllHigh (n + begun i) (pc + 1) is

  both : (n pc : ℕ) (a b : List MachineInstr) → AllHigh n pc a → AllHigh (n + statements_in a) (pc + length a) b → AllHigh n pc (a ++ b)
  both n pc [] b ha hb =
      let e : pc + 0 ≡ pc = omega arith in
      let z : n + 0 ≡ n = omega arith in
      subst (λ m. AllHigh m pc b) z (subst (λ p. AllHigh (n + 0) p b) e hb)
  both n pc (i ∷ a) b ha hb =
      let e : pc + length (i ∷ a) ≡ pc + 1 + length a = omega arith in
      let z : n + statements_in (i ∷ a) ≡ n + begun i + statements_in a = omega arith in
      (ha.0, both (n + begun i) (pc + 1) a b ha.1 (subst (λ m. AllHigh m (pc + 1 + length a) b) z (subst (λ p. AllHigh (n + statements_in (i ∷ a)) p b) e hb)))

  -- these instructions stand at a place, and after them is this height
  abbrev EndsAtHeight : ℕ → ℕ → List MachineInstr → ℕ → Type 0
  EndsAtHeight n pc is h = (H (pc + length is) ≡ h) × AllHigh n pc is

  -- one instruction after others
  then_one : (n pc h after : ℕ) (c : List MachineInstr) (i : MachineInstr) → HasAt u n pc (c ++ i ∷ []) → EndsAtHeight n pc c h → ((p m : ℕ) → H p ≡ h → HasHeight u p (with_number m i)) → ((m : ℕ) → height_after h (with_number m i) ≡ after) → EndsAtHeight n pc (c ++ i ∷ []) after
  then_one n pc h after c i has l fits is =
      let p = pc + length c in
      let m = n + statements_in c in
      let at = (has_back u n pc c (i ∷ []) has).0 in
      let e : pc + length (c ++ i ∷ []) ≡ p + 1 = omega (arith, length-append c (i ∷ [])) in
      (ap H e ∙ next p (with_number m i) at ∙ ap (λ h. height_after h (with_number m i)) l.0 ∙ is m, both n pc c (i ∷ []) l.1 (fits p m l.0, tt))

  -- one piece after another
  then_more : (n pc h : ℕ) (a b : List MachineInstr) → AllHigh n pc a → EndsAtHeight (n + statements_in a) (pc + length a) b h → EndsAtHeight n pc (a ++ b) h
  then_more n pc h a b ha hb =
      let e : pc + length (a ++ b) ≡ pc + length a + length b = omega (arith, length-append a b) in
      (ap H e ∙ hb.0, both n pc a b ha hb.1)

  -- a piece that leaves so many more
  abbrev Rises : ℕ → MachineCode → Type 0
  Rises more c = (n pc h : ℕ) → HasAt u n pc (c pc) → H pc ≡ h → EndsAtHeight n pc (c pc) (h + more)

  abbrev Such : Type 0
  Such = (e : UExpr) × Rises 1 (machine_expr e)

  abbrev bare : UExpr-F Such → UExpr-F UExpr
  bare = map-UExpr Such UExpr (λ e. e.0)

  abbrev layer : UExpr-F UExpr → Type 0
  layer y = Rises 1 (machine_expr_step (map-UExpr UExpr MachineCode machine_expr y))

  num_rises : (v : ℤ) → Rises 1 (one (Num v))
  num_rises v n pc h has e = (next pc (Num v) has.0 ∙ ap (λ h. h + 1) e, (tt, tt))

  -- an instruction that leaves a number in place of one
  same_rises : (c : MachineCode) (i : MachineInstr) → ((p m : ℕ) → 1 ≤ H p → HasHeight u p (with_number m i)) → ((h m : ℕ) → height_after h (with_number m i) ≡ h) → Rises 1 c → Rises 1 (sequence c (one i))
  same_rises c i fits is r n pc h has e =
      then_one n pc (h + 1) (h + 1) (c pc) i has (r n pc h (has_front u n pc (c pc) (i ∷ []) has) e) (λ p m e. fits p m (let z : 1 ≤ H p = omega (arith, e) in z)) (is (h + 1))

  operator : (op : BinOp) (a b : Such) → Rises 1 (sequence (machine_expr a.0) (sequence (machine_expr b.0) (one (Bin op))))
  operator op a b n pc h has e =
      let ca = machine_expr a.0 pc in
      let at = pc + length ca in
      let cb = machine_expr b.0 at in
      let na = n + statements_in ca in
      let la = a.1 n pc h (has_front u n pc ca (cb ++ Bin op ∷ []) has) e in
      let hb = has_back u n pc ca (cb ++ Bin op ∷ []) has in
      let lb = b.1 na at (h + 1) (has_front u na at cb (Bin op ∷ []) hb) la.0 in
      let less : h + 1 + 1 - 1 ≡ h + 1 = omega arith in
      then_more n pc (h + 1) ca (cb ++ Bin op ∷ []) la.1 (then_one na at (h + 1 + 1) (h + 1) cb (Bin op) hb lb (λ p m e. let z : 2 ≤ H p = omega (arith, e) in z) (λ m. less))

  -- a piece that begins with so many and leaves so many
  abbrev Between : ℕ → ℕ → MachineCode → Type 0
  Between h after c = (n pc : ℕ) → HasAt u n pc (c pc) → H pc ≡ h → EndsAtHeight n pc (c pc) after

  -- two pieces of which a number that is taken off decides
  arms_leave : (a b : MachineCode) (h after : ℕ) → Between h after a → Between h after b → after - 1 ≡ h → Between (h + 1) after (arms Jump JumpZ a b)
  arms_leave a b h after ra rb jumps n pc has e =
      let ca = a (pc + 1) in
      let jump = pc + 1 + length ca in
      let second = jump + 1 in
      let cb = b second in
      let end = second + length cb in
      let n0 = n + 0 in
      let zero : h + 1 - 1 ≡ h = omega arith in
      let at_first : H (pc + 1) ≡ h = next pc (JumpZ second) has.0 ∙ ap (λ h. h - 1) e ∙ zero in
      let la = ra n0 (pc + 1) (has_front u n0 (pc + 1) ca (Jump end ∷ cb) has.1) at_first in
      let hj = has_back u n0 (pc + 1) ca (Jump end ∷ cb) has.1 in
      let at_second : H second ≡ h = next jump (Jump end) hj.0 ∙ ap (λ h. h - 1) la.0 ∙ jumps in
      let lb = rb (n0 + statements_in ca + 0) second hj.1 at_second in
      let to_end : H end ≡ H jump = lb.0 ∙ sym la.0 in
      let to_second : H second + 1 ≡ H pc = ap (λ h. h + 1) at_second ∙ sym e in
      let z : pc + length (arms Jump JumpZ a b pc) ≡ end = omega (arith, length-append ca (Jump end ∷ cb)) in
      (ap H z ∙ lb.0, (to_second, both n0 (pc + 1) ca (Jump end ∷ cb) la.1 (to_end, lb.1)))

  chosen : (c : Such) (a b : MachineCode) → Rises 1 a → Rises 1 b → Rises 1 (sequence (machine_expr c.0) (arms Jump JumpZ a b))
  chosen c a b ra rb n pc h has e =
      let ce = machine_expr c.0 pc in
      let at = pc + length ce in
      let lc = c.1 n pc h (has_front u n pc ce (arms Jump JumpZ a b at) has) e in
      let less : h + 1 - 1 ≡ h = omega arith in
      then_more n pc (h + 1) ce (arms Jump JumpZ a b at) lc.1 (arms_leave a b h (h + 1) (λ n pc has e. ra n pc h has e) (λ n pc has e. rb n pc h has e) less (n + statements_in ce) at (has_back u n pc ce (arms Jump JumpZ a b at) has) lc.0)

  as_truth : (b : Such) → Rises 1 (sequence (machine_expr b.0) (one Bool))
  as_truth b = same_rises (machine_expr b.0) Bool (λ p m e. e) (λ h m. refl) b.1

  by_kind : (y : UExpr-F Such) → layer (bare y)
  by_kind (UExpr-F.Number v) n pc h has e = num_rises v n pc h has e
  by_kind (UExpr-F.Var x) n pc h has e = (next pc (Var x) has.0 ∙ ap (λ h. h + 1) e, (tt, tt))
  by_kind (UExpr-F.Unary op a) n pc h has e = same_rises (machine_expr a.0) (Un op) (λ p m e. e) (λ h m. refl) a.1 n pc h has e
  by_kind (UExpr-F.Binary And a b) n pc h has e = chosen a (sequence (machine_expr b.0) (one Bool)) (one (Num (pos 0))) (as_truth b) (num_rises (pos 0)) n pc h has e
  by_kind (UExpr-F.Binary Or a b) n pc h has e = chosen a (one (Num (pos 1))) (sequence (machine_expr b.0) (one Bool)) (num_rises (pos 1)) (as_truth b) n pc h has e
  by_kind (UExpr-F.Binary Mul a b) n pc h has e = operator Mul a b n pc h has e
  by_kind (UExpr-F.Binary Div a b) n pc h has e = operator Div a b n pc h has e
  by_kind (UExpr-F.Binary Rem a b) n pc h has e = operator Rem a b n pc h has e
  by_kind (UExpr-F.Binary Add a b) n pc h has e = operator Add a b n pc h has e
  by_kind (UExpr-F.Binary Sub a b) n pc h has e = operator Sub a b n pc h has e
  by_kind (UExpr-F.Binary Shl a b) n pc h has e = operator Shl a b n pc h has e
  by_kind (UExpr-F.Binary Shr a b) n pc h has e = operator Shr a b n pc h has e
  by_kind (UExpr-F.Binary Lt a b) n pc h has e = operator Lt a b n pc h has e
  by_kind (UExpr-F.Binary Le a b) n pc h has e = operator Le a b n pc h has e
  by_kind (UExpr-F.Binary Gt a b) n pc h has e = operator Gt a b n pc h has e
  by_kind (UExpr-F.Binary Ge a b) n pc h has e = operator Ge a b n pc h has e
  by_kind (UExpr-F.Binary Eq a b) n pc h has e = operator Eq a b n pc h has e
  by_kind (UExpr-F.Binary Ne a b) n pc h has e = operator Ne a b n pc h has e
  by_kind (UExpr-F.Binary BitAnd a b) n pc h has e = operator BitAnd a b n pc h has e
  by_kind (UExpr-F.Binary BitXor a b) n pc h has e = operator BitXor a b n pc h has e
  by_kind (UExpr-F.Binary BitOr a b) n pc h has e = operator BitOr a b n pc h has e

  -- an expression leaves its value
  expr_rises : (e : UExpr) → Rises 1 (machine_expr e)
  expr_rises = ind-UExpr (λ e. Rises 1 (machine_expr e)) (λ x y is.
      subst (Rises 1) (sym (fold-roll-UExpr MachineCode machine_expr_step x)) (subst layer is (by_kind y)))

  option_rises : (v : ℤ) (e : Option UExpr) → Rises 1 (machine_expr_or v e)
  option_rises v None = num_rises v
  option_rises v (Some e) = expr_rises e

  -- what begins with an empty stack and leaves none
  abbrev Level : MachineCode → Type 0
  Level c = Between 0 0 c

  -- an expression and an instruction that takes its value off
  takes : (c : MachineCode) (i : MachineInstr) → ((p m : ℕ) → H p ≡ 1 → HasHeight u p (with_number m i)) → ((m : ℕ) → height_after 1 (with_number m i) ≡ 0) → Rises 1 c → Level (sequence c (one i))
  takes c i fits is r n pc has e = then_one n pc 1 0 (c pc) i has (r n pc 0 (has_front u n pc (c pc) (i ∷ []) has) e) fits is

  behind_level : (a b : MachineCode) → Level a → Level b → Level (sequence a b)
  behind_level a b la lb n pc has e =
      let ca = a pc in
      let at = pc + length ca in
      let l = la n pc (has_front u n pc ca (b at) has) e in
      then_more n pc 0 ca (b at) l.1 (lb (n + statements_in ca) at (has_back u n pc ca (b at) has) l.0)

  -- one instruction that leaves the stack
  one_level : (i : MachineInstr) → ((p m : ℕ) → H p ≡ 0 → HasHeight u p (with_number m i)) → ((m : ℕ) → height_after 0 (with_number m i) ≡ 0) → Level (one i)
  one_level i fits is n pc has e = (next pc (with_number n i) has.0 ∙ ap (λ h. height_after h (with_number n i)) e ∙ is n, (fits pc n e, tt))

  none_level : Level (all [])
  none_level n pc has e = let z : pc + 0 ≡ pc = omega arith in (ap H z ∙ e, tt)

  arg_level : (ps : List UParam) (a : Arg) → Level (machine_arg ps a)
  arg_level ps (ByRef x) = one_level (Ref x) (λ p m e. tt) (λ m. refl)
  arg_level ps (ByPass x) = one_level (Pass x (first_sort ps)) (λ p m e. tt) (λ m. refl)
  arg_level ps (ByFresh e) = takes (machine_expr e) (Fresh (first_sort ps) (first_name ps)) (λ p m e. let z : 1 ≤ H p = omega (arith, e) in z) (λ m. refl) (expr_rises e)

  args_level : (ps : List UParam) (args : List Arg) → Level (machine_args ps args)
  args_level ps [] = none_level
  args_level ps (a ∷ args) = behind_level (machine_arg ps a) (machine_args (behind_first ps) args) (arg_level ps a) (args_level (behind_first ps) args)

  branch_level : (b : UBranch) → Level (machine_branch u.units b)
  branch_level b = behind_level (machine_args (params_in u.units b.call.unit) b.call.args) (one (Branch (callee_of b.call))) (args_level (params_in u.units b.call.unit) b.call.args) (one_level (Branch (callee_of b.call)) (λ p m e. tt) (λ m. refl))

  branches_level : (bs : List UBranch) → Level (machine_branches u.units bs)
  branches_level [] = none_level
  branches_level (b ∷ bs) = behind_level (machine_branch u.units b) (machine_branches u.units bs) (branch_level b) (branches_level bs)

  -- after a mark
  marked : (k : MarkKind) (line : ℕ) (half : TruthValue) (c : MachineCode) → Level c → Level (machine_marked k line half c)
  marked k line half c l n pc has e =
      let m = n + begun (begin_mark k line half) in
      let inner = l m (pc + 1) has.1 (next pc (with_number n (begin_mark k line half)) has.0 ∙ e) in
      let z : pc + length (begin_mark k line half ∷ c (pc + 1)) ≡ pc + 1 + length (c (pc + 1)) = omega arith in
      (ap H z ∙ inner.0, (e, inner.1))

  -- a test and two pieces
  tested : (c a b : MachineCode) → Rises 1 c → Level a → Level b → Level (sequence c (arms Jump JumpZ a b))
  tested c a b rc la lb n pc has e =
      let t = c pc in
      let at = pc + length t in
      let lc = rc n pc 0 (has_front u n pc t (arms Jump JumpZ a b at) has) e in
      let less : 0 - 1 ≡ 0 = omega arith in
      then_more n pc 0 t (arms Jump JumpZ a b at) lc.1 (arms_leave a b 0 0 la lb less (n + statements_in t) at (has_back u n pc t (arms Jump JumpZ a b at) has) lc.0)

  -- a test and a body, with the way back to a place where the stack is empty
  looped : (start : ℕ) (c body : MachineCode) → H start ≡ 0 → Rises 1 c → Level body → Level (sequence c (loop Jump JumpZ start body))
  looped start c body begun_at rc lb n pc has e =
      let t = c pc in
      let at = pc + length t in
      let first = at + 1 in
      let cb = body first in
      let jump = first + length cb in
      let end = jump + 1 in
      let inner = cb ++ Jump start ∷ [] in
      let more = JumpZ end ∷ inner in
      let lc = rc n pc 0 (has_front u n pc t more has) e in
      let hz = has_back u n pc t more has in
      let n1 = n + statements_in t + 0 in
      let less : 0 - 1 ≡ 0 = omega arith in
      let at_first : H first ≡ 0 = next at (JumpZ end) hz.0 ∙ ap (λ h. h - 1) lc.0 in
      let l = lb n1 first (has_front u n1 first cb (Jump start ∷ []) hz.1) at_first in
      let hj = has_back u n1 first cb (Jump start ∷ []) hz.1 in
      let at_end : H end ≡ 0 = next jump (Jump start) hj.0 ∙ ap (λ h. h - 1) l.0 ∙ less in
      let to_start : H start ≡ H jump = begun_at ∙ sym l.0 in
      let to_end : H end + 1 ≡ H at = ap (λ h. h + 1) at_end ∙ sym lc.0 in
      let z : pc + length (t ++ more) ≡ end = omega (arith, length-append t more, length-append cb (Jump start ∷ [])) in
      (ap H z ∙ at_end, both n pc t more lc.1 (to_end, both n1 first cb (Jump start ∷ []) l.1 (to_start, tt)))

  loop_level : (line : ℕ) (c body : MachineCode) → Rises 1 c → Level body → Level (machine_looped line c body)
  loop_level line c body rc lb n pc has e =
      let i = begin_mark kind.Quiet line false in
      let rest = sequence c (loop Jump JumpZ pc body) (pc + 1) in
      let inner = looped pc c body e rc lb (n + begun i) (pc + 1) has.1 (next pc (with_number n i) has.0 ∙ e) in
      let z : pc + length (i ∷ rest) ≡ pc + 1 + length rest = omega arith in
      (ap H z ∙ inner.0, (e, inner.1))

  -- the block of a `try`, and its handler
  try_level : (x : ℕ) (y : Option ℕ) (a b : MachineCode) → Level a → Level b → Level (arms Jump (λ h. try_instr h x y) (sequence a (one Untry)) b)
  try_level x y a b la lb n pc has e =
      let body = sequence a (one Untry) in
      let ca = body (pc + 1) in
      let jump = pc + 1 + length ca in
      let second = jump + 1 in
      let cb = b second in
      let end = second + length cb in
      let n0 = n + begun (try_instr second x y) in
      let less : 0 - 1 ≡ 0 = omega arith in
      let at_first : H (pc + 1) ≡ 0 = next pc (try_instr second x y) (has.0 ∙ ap Some (tried_number n second x y)) ∙ tried_height (H pc) second x y ∙ e in
      let l = behind_level a (one Untry) la (one_level Untry (λ p m e. e) (λ m. refl)) n0 (pc + 1) (has_front u n0 (pc + 1) ca (Jump end ∷ cb) has.1) at_first in
      let hj = has_back u n0 (pc + 1) ca (Jump end ∷ cb) has.1 in
      let at_second : H second ≡ 0 = next jump (Jump end) hj.0 ∙ ap (λ h. h - 1) l.0 ∙ less in
      let r = lb (n0 + statements_in ca + 0) second hj.1 at_second in
      let to_end : H end ≡ H jump = r.0 ∙ sym l.0 in
      let z : pc + length (arms Jump (λ h. try_instr h x y) body b pc) ≡ end = omega (arith, length-append ca (Jump end ∷ cb)) in
      (ap H z ∙ r.0, (tried_has u n pc second x y e at_second, both n0 (pc + 1) ca (Jump end ∷ cb) l.1 (to_end, r.1)))

  -- statements

  abbrev StmtLevel : UStmt → Type 0
  StmtLevel s = Level (machine_stmt u.units s)

  abbrev WhatLevel : UWhat → Type 0
  WhatLevel w = (l : ℕ) → StmtLevel (line_of l w)

  abbrev SuchStmt : Type 0
  SuchStmt = (s : UStmt) × StmtLevel s

  abbrev SuchWhat : Type 0
  SuchWhat = (w : UWhat) × WhatLevel w

  abbrev bare_what : UWhat-F SuchWhat SuchStmt → UWhat-F UWhat UStmt
  bare_what = map-UWhat SuchWhat SuchStmt UWhat UStmt (λ e. e.0) (λ e. e.0)

  abbrev plain : List SuchStmt → List UStmt
  plain ss = map (λ s. s.0) ss

  such_level : (ss : List SuchStmt) → Level (machine_stmts u.units (plain ss))
  such_level [] = none_level
  such_level (s ∷ ss) = behind_level (machine_stmt u.units s.0) (machine_stmts u.units (plain ss)) s.1 (such_level ss)

  store_level : (c : MachineCode) (x : ℕ) → Rises 1 c → Level (sequence c (one (Set x)))
  store_level c x r = takes c (Set x) (λ p m e. let z : 1 ≤ H p = omega (arith, e) in z) (λ m. refl) r

  next_level : (x : ℕ) → Level (one (Next x))
  next_level x = one_level (Next x) (λ p m e. tt) (λ m. refl)

  var_rises : (x : ℕ) → Rises 1 (one (Var x))
  var_rises x n pc h has e = (next pc (Var x) has.0 ∙ ap (λ h. h + 1) e, (tt, tt))

  get_rises : (x : ℕ) → Rises 1 (one (Get x))
  get_rises x n pc h has e = (next pc (Get x) has.0 ∙ ap (λ h. h + 1) e, (tt, tt))

  abbrev KindLevel : UWhat-F UWhat UStmt → Type 0
  KindLevel x = (l : ℕ) → Level (kind_code u.units x l)

  kind_level : (y : UWhat-F SuchWhat SuchStmt) → KindLevel (bare_what y)
  kind_level (UWhat-F.Declare t x e) l = marked kind.Quiet l false (sequence (machine_expr_or (pos 0) e) (one (Declare t x))) (takes (machine_expr_or (pos 0) e) (Declare t x) (λ p m e. let z : 1 ≤ H p = omega (arith, e) in z) (λ m. refl) (option_rises (pos 0) e))
  kind_level (UWhat-F.Assign x e) l = marked kind.Quiet l false (sequence (machine_expr e) (one (Set x))) (store_level (machine_expr e) x (expr_rises e))
  kind_level (UWhat-F.Next x) l = marked kind.Next l false (one (Next x)) (next_level x)
  kind_level (UWhat-F.NextAssign x e) l =
      behind_level (machine_marked kind.Quiet l false (sequence (machine_expr e) (one (Set x)))) (machine_marked kind.Next l true (one (Next x)))
      (marked kind.Quiet l false (sequence (machine_expr e) (one (Set x))) (store_level (machine_expr e) x (expr_rises e))) (marked kind.Next l true (one (Next x)) (next_level x))
  kind_level (UWhat-F.AssignNext x y) l =
      behind_level (machine_marked kind.Next l false (one (Next y))) (machine_marked kind.Quiet l true (sequence (one (Var y)) (one (Set x))))
      (marked kind.Next l false (one (Next y)) (next_level y)) (marked kind.Quiet l true (sequence (one (Var y)) (one (Set x))) (store_level (one (Var y)) x (var_rises y)))
  kind_level (UWhat-F.Get x i) l = marked kind.Quiet l false (sequence (one (Get i)) (one (Set x))) (store_level (one (Get i)) x (get_rises i))
  kind_level (UWhat-F.Put o e) l = marked kind.Put l false (sequence (machine_expr e) (one (Put o))) (takes (machine_expr e) (Put o) (λ p m e. let z : 1 ≤ H p = omega (arith, e) in z) (λ m. refl) (expr_rises e))
  kind_level (UWhat-F.If e a b) l = marked kind.Quiet l false (sequence (machine_expr e) (arms Jump JumpZ (machine_stmts u.units (plain a)) (machine_stmts u.units (plain b)))) (tested (machine_expr e) (machine_stmts u.units (plain a)) (machine_stmts u.units (plain b)) (expr_rises e) (such_level a) (such_level b))
  kind_level (UWhat-F.While e a) l = loop_level l (machine_expr e) (machine_stmts u.units (plain a)) (expr_rises e) (such_level a)
  kind_level (UWhat-F.For first e step body) l =
      let ms = sequence (machine_stmts u.units (plain body)) (machine_stmts u.units (plain step)) in
      behind_level (machine_stmts u.units (plain first)) (machine_looped l (machine_expr_or (pos 1) e) ms) (such_level first)
      (loop_level l (machine_expr_or (pos 1) e) ms (option_rises (pos 1) e) (behind_level (machine_stmts u.units (plain body)) (machine_stmts u.units (plain step)) (such_level body) (such_level step)))
  kind_level (UWhat-F.Block a) l = such_level a
  kind_level (UWhat-F.Call c) l =
      let ps = params_in u.units c.unit in
      marked kind.Quiet l false (machine_call u.units c) (behind_level (machine_args ps c.args) (one (Call (callee_of c))) (args_level ps c.args) (one_level (Call (callee_of c)) (λ p m e. e) (λ m. refl)))
  kind_level (UWhat-F.Try a x y b) l =
      let ma = machine_stmts u.units (plain a) in
      let mb = machine_stmts u.units (plain b) in
      marked kind.Quiet l false (arms Jump (λ h. try_instr h x y) (sequence ma (one Untry)) mb) (try_level x y ma mb (such_level a) (such_level b))
  kind_level (UWhat-F.Throw x e) l =
      marked kind.Throw l false (sequence (machine_expr_or (pos 0) e) (one (Throw x))) (takes (machine_expr_or (pos 0) e) (Throw x) (λ p m e. let z : 1 ≤ H p = omega (arith, e) in z) (λ m. refl) (option_rises (pos 0) e))
  kind_level (UWhat-F.Par bs) l = marked kind.Fork l false (machine_fork u.units bs) (behind_level (machine_branches u.units bs) (one (Fork (length bs))) (branches_level bs) (one_level (Fork (length bs)) (λ p m e. tt) (λ m. refl)))

  what_level : (x : UWhat-F UWhat UStmt) → KindLevel x → WhatLevel (roll-UWhat x)
  what_level x h l = subst Level (sym (code_roll u.units l x)) (h l)

  stmt_level : (s : UStmt) → StmtLevel s
  stmt_level = ind-UStmt WhatLevel StmtLevel
      (λ x y is. what_level x (subst KindLevel is (kind_level y)))
      (λ x y is. subst (λ z. StmtLevel (roll-UStmt z)) is (y.what.1 y.line))

  stmts_level : (ss : List UStmt) → Level (machine_stmts u.units ss)
  stmts_level [] = none_level
  stmts_level (s ∷ ss) = behind_level (machine_stmt u.units s) (machine_stmts u.units ss) (stmt_level s) (stmts_level ss)

  -- an instruction of the list has its height at its place
  looked_up : (is : List MachineInstr) (n pc i : ℕ) (x : MachineInstr) → AllHigh n pc is → slice_get (numbered n is) i ≡ Some x → HasHeight u (pc + i) x
  looked_up [] n pc i x h e = absurd (none_some x e)
    where
      none_some : (x : MachineInstr) → None ≡ Some x → ⊥
      none_some x e = cc
  looked_up (y ∷ is) n pc zero x h e =
      let z : pc + 0 ≡ pc = omega arith in
      subst (HasHeight u (pc + 0)) (same_instr (with_number n y) x e) (subst (λ p. HasHeight u p (with_number n y)) (sym z) h.0)
    where
      same_instr : (y x : MachineInstr) → Some y ≡ Some x → y ≡ x
      same_instr y x e = cc
  looked_up (y ∷ is) n pc (suc i) x h e =
      let z : pc + 1 + i ≡ pc + suc i = omega arith in
      subst (λ p. HasHeight u p x) z (looked_up is (n + begun y) (pc + 1) i x h.1 e)

  unit_high : u.code ≡ machine_unit u.units u.body → AllHigh 0 0 (machine_stmts u.units u.body 0 ++ End 0 ∷ [])
  unit_high e = (behind_level (machine_stmts u.units u.body) (one (End 0)) (stmts_level u.body) (one_level (End 0) (λ p m e. e) (λ m. refl)) 0 0 (unit_has u e) refl).1

  pub has_height : u.code ≡ machine_unit u.units u.body → (pc : ℕ) (i : MachineInstr) → fetch u pc ≡ Some i → HasHeight u pc i × (height_at u (pc + 1) ≡ height_after (height_at u pc) i)
  has_height e pc i h =
      let z : 0 + pc ≡ pc = omega arith in
      let there : slice_get (machine_unit u.units u.body) pc ≡ Some i = ap (λ c. slice_get c pc) (sym e) ∙ h in
      (subst (λ p. HasHeight u p i) z (looked_up (machine_stmts u.units u.body 0 ++ End 0 ∷ []) 0 0 pc i (unit_high e) there), next pc i h)
