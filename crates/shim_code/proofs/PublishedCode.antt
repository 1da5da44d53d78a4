-- What the machine runs is the code, without what only running it takes.
use Rattle.std.proofs.Common.{◌≡◌, ◌∙◌, ◌≤◌, ℕ, ℤ, pos, ◌+◌, List, [], ◌∷◌, ◌++◌, append-nil, drop, length, map, Option, Some, None, Bool, true, false, refl, sym, ap, subst}
use Rattle.std.proofs.lemmas.List.{drop_all, length-map, map-append}
use Rattle.shim_base.specs.declared.operators.BinOp.TheVariants.{Mul, Div, Rem, Add, Sub, Shl, Shr, Lt, Le, Gt, Ge, Eq, Ne, BitAnd, BitXor, BitOr, And, Or}
use Rattle.shim_scopes.specs.declared.tree.UExpr.{UExpr, UExpr-F, roll-UExpr, map-UExpr, fold-roll-UExpr, ind-UExpr}
use Rattle.shim_scopes.specs.declared.tree.UParam.{UParam}
use Rattle.shim_units.specs.Calls.{behind_first}
use Rattle.shim_units.specs.declared.unit.Arg.{Arg}
use Rattle.shim_units.specs.declared.unit.Arg.TheVariants.{Ref as ByRef, Pass as ByPass, Fresh as ByFresh}
use Rattle.shim_units.specs.declared.unit.UBranch.{UBranch}
use Rattle.shim_units.specs.declared.unit.UCall.{UCall}
use Rattle.shim_units.specs.declared.unit.UStmt.{UStmt, UStmt-F, ind-UStmt, roll-UStmt, fold-roll-UStmt}
use Rattle.shim_units.specs.declared.unit.UWhat.{UWhat, UWhat-F, roll-UWhat, map-UWhat, fold-UWhat, fold-roll-UWhat}
use Rattle.shim_units.specs.declared.unit.Unit.{Unit as UnitOf}
use Rattle.shim_code.specs.declared.instr.Instr.{Instr}
use Rattle.shim_code.specs.declared.instr.Instr.TheVariants as code
use Rattle.shim_code.specs.declared.instr.MarkKind.{MarkKind}
use Rattle.shim_code.specs.declared.instr.MarkKind.TheVariants as kind
use Rattle.shim_code.specs.declared.machine_instr.MachineInstr.{MachineInstr}
use Rattle.shim_code.specs.declared.machine_instr.MachineInstr.TheVariants as machine
use Rattle.shim_code.specs.declared.unit.CodeUnit.{CodeUnit}
use Rattle.shim_code.specs.Layout.{arms, sequence, loop, one}
use Rattle.shim_code.specs.Code.{Code, arg_code, args_code, branch_code, branches_code, call_code, expr_code, expr_or, compile_expr_step, fork_code, looped, marked_code, stmt_code, stmts_code, unit_code, what_code}
use Rattle.shim_code.specs.MachineCode.{MachineCode, begun, callee_of, first_name, first_sort, machine_arg, machine_args, machine_branch, machine_branches, machine_call, machine_expr, machine_expr_or, machine_expr_step, machine_fork, machine_looped, machine_marked, machine_stmt, machine_stmts, machine_unit, numbered, params_in, try_instr, what_machine, with_number}
use Rattle.shim_code.specs.Programs.{code_units, machine_units}
use Rattle.shim_code.specs.Published.{published, published_all}
use Rattle.shim_code.proofs.StatementKinds.{machine_what}

-- a piece of the one is shown as a piece of the other, wherever it stands
abbrev Shows : MachineCode → Code → Type 0
Shows m c = (pc : ℕ) → published_all (m pc) ≡ c pc

length_shown : (is : List MachineInstr) (js : List Instr) → published_all is ≡ js → length is ≡ length js
length_shown is js e = sym (length-map is published) ∙ ap length e

behind_shown : (a b : MachineCode) (c d : Code) → Shows a c → Shows b d → Shows (sequence a b) (sequence c d)
behind_shown a b c d ha hb pc =
    let n = length_shown (a pc) (c pc) (ha pc) in
    map-append published (a pc) (b (pc + length (a pc)))
    ∙ ap (λ l. l ++ published_all (b (pc + length (a pc)))) (ha pc)
    ∙ ap (λ l. c pc ++ l) (hb (pc + length (a pc)))
    ∙ ap (λ m. c pc ++ d (pc + m)) n

-- one instruction after a piece
then_shown : (a : MachineCode) (i : MachineInstr) (c : Code) → Shows a c → Shows (sequence a (one i)) (sequence c (one (published i)))
then_shown a i c h = behind_shown a (one i) c (one (published i)) h (λ pc. refl)

arms_shown : (head : ℕ → MachineInstr) (shown : ℕ → Instr) (a b : MachineCode) (c d : Code) → ((t : ℕ) → published (head t) ≡ shown t) → Shows a c → Shows b d
    → Shows (arms machine.Jump head a b) (arms code.Jump shown c d)
arms_shown head shown a b c d hh ha hb pc =
    let ca = a (pc + 1) in
    let second = pc + 1 + length ca + 1 in
    let cb = b second in
    let n = length_shown ca (c (pc + 1)) (ha (pc + 1)) in
    let other = pc + 1 + length (c (pc + 1)) + 1 in
    let at : second ≡ other = ap (λ m. pc + 1 + m + 1) n in
    let shown_b : published_all cb ≡ d other = hb second ∙ ap d at in
    let ends : second + length cb ≡ other + length (d other) = ap (λ m. m + length cb) at ∙ ap (λ m. other + m) (length_shown cb (d other) shown_b) in
    ap (λ i. i ∷ published_all (ca ++ machine.Jump (second + length cb) ∷ cb)) (hh second ∙ ap shown at)
    ∙ ap (λ l. shown other ∷ l) (map-append published ca (machine.Jump (second + length cb) ∷ cb))
    ∙ ap (λ l. shown other ∷ (l ++ code.Jump (second + length cb) ∷ published_all cb)) (ha (pc + 1))
    ∙ ap (λ l. shown other ∷ (c (pc + 1) ++ code.Jump (second + length cb) ∷ l)) shown_b
    ∙ ap (λ m. shown other ∷ (c (pc + 1) ++ code.Jump m ∷ d other)) ends

loop_shown : (start : ℕ) (a : MachineCode) (c : Code) → Shows a c → Shows (loop machine.Jump machine.JumpZ start a) (loop code.Jump code.JumpZ start c)
loop_shown start a c ha pc =
    let ca = a (pc + 1) in
    let n = length_shown ca (c (pc + 1)) (ha (pc + 1)) in
    ap (λ m. code.JumpZ (pc + 1 + m + 1) ∷ published_all (ca ++ machine.Jump start ∷ [])) n
    ∙ ap (λ l. code.JumpZ (pc + 1 + length (c (pc + 1)) + 1) ∷ l) (map-append published ca (machine.Jump start ∷ []) ∙ ap (λ l. l ++ code.Jump start ∷ []) (ha (pc + 1)))

marked_shown : (k : MarkKind) (line : ℕ) (halfway : Bool) (a : MachineCode) (c : Code) → Shows a c → Shows (machine_marked k line halfway a) (marked_code k line c)
marked_shown k line halfway a c h pc = ap (λ l. code.Mark k line ∷ l) (h (pc + 1))

looped_shown : (line : ℕ) (test body : MachineCode) (c d : Code) → Shows test c → Shows body d → Shows (machine_looped line test body) (looped line c d)
looped_shown line test body c d ht hb pc =
    ap (λ l. code.Mark kind.Quiet line ∷ l)
    (behind_shown test (loop machine.Jump machine.JumpZ pc body) c (loop code.Jump code.JumpZ pc d) ht (loop_shown pc body d hb) (pc + 1))

-- expressions

abbrev Such : Type 0
Such = (e : UExpr) × Shows (machine_expr e) (expr_code e)

abbrev bare : UExpr-F Such → UExpr-F UExpr
bare = map-UExpr Such UExpr (λ e. e.0)

abbrev Layer : UExpr-F UExpr → Type 0
Layer y = Shows (machine_expr_step (map-UExpr UExpr MachineCode machine_expr y)) (compile_expr_step (map-UExpr UExpr Code expr_code y))

operator : (i : MachineInstr) (a b : Such) → Shows (sequence (machine_expr a.0) (sequence (machine_expr b.0) (one i))) (sequence (expr_code a.0) (sequence (expr_code b.0) (one (published i))))
operator i a b = behind_shown (machine_expr a.0) (sequence (machine_expr b.0) (one i)) (expr_code a.0) (sequence (expr_code b.0) (one (published i))) a.1 (then_shown (machine_expr b.0) i (expr_code b.0) b.1)

chosen : (e : Such) (a b : MachineCode) (c d : Code) → Shows a c → Shows b d → Shows (sequence (machine_expr e.0) (arms machine.Jump machine.JumpZ a b)) (sequence (expr_code e.0) (arms code.Jump code.JumpZ c d))
chosen e a b c d ha hb = behind_shown (machine_expr e.0) (arms machine.Jump machine.JumpZ a b) (expr_code e.0) (arms code.Jump code.JumpZ c d) e.1 (arms_shown machine.JumpZ code.JumpZ a b c d (λ t. refl) ha hb)

expr_layer : (y : UExpr-F Such) → Layer (bare y)
expr_layer (UExpr-F.Number n) = λ pc. refl
expr_layer (UExpr-F.Var x) = λ pc. refl
expr_layer (UExpr-F.Unary op a) = then_shown (machine_expr a.0) (machine.Un op) (expr_code a.0) a.1
expr_layer (UExpr-F.Binary And a b) = chosen a (sequence (machine_expr b.0) (one machine.Bool)) (one (machine.Num (pos 0))) (sequence (expr_code b.0) (one code.Bool)) (one (code.Num (pos 0))) (then_shown (machine_expr b.0) machine.Bool (expr_code b.0) b.1) (λ pc. refl)
expr_layer (UExpr-F.Binary Or a b) = chosen a (one (machine.Num (pos 1))) (sequence (machine_expr b.0) (one machine.Bool)) (one (code.Num (pos 1))) (sequence (expr_code b.0) (one code.Bool)) (λ pc. refl) (then_shown (machine_expr b.0) machine.Bool (expr_code b.0) b.1)
expr_layer (UExpr-F.Binary Mul a b) = operator (machine.Bin Mul) a b
expr_layer (UExpr-F.Binary Div a b) = operator (machine.Bin Div) a b
expr_layer (UExpr-F.Binary Rem a b) = operator (machine.Bin Rem) a b
expr_layer (UExpr-F.Binary Add a b) = operator (machine.Bin Add) a b
expr_layer (UExpr-F.Binary Sub a b) = operator (machine.Bin Sub) a b
expr_layer (UExpr-F.Binary Shl a b) = operator (machine.Bin Shl) a b
expr_layer (UExpr-F.Binary Shr a b) = operator (machine.Bin Shr) a b
expr_layer (UExpr-F.Binary Lt a b) = operator (machine.Bin Lt) a b
expr_layer (UExpr-F.Binary Le a b) = operator (machine.Bin Le) a b
expr_layer (UExpr-F.Binary Gt a b) = operator (machine.Bin Gt) a b
expr_layer (UExpr-F.Binary Ge a b) = operator (machine.Bin Ge) a b
expr_layer (UExpr-F.Binary Eq a b) = operator (machine.Bin Eq) a b
expr_layer (UExpr-F.Binary Ne a b) = operator (machine.Bin Ne) a b
expr_layer (UExpr-F.Binary BitAnd a b) = operator (machine.Bin BitAnd) a b
expr_layer (UExpr-F.Binary BitXor a b) = operator (machine.Bin BitXor) a b
expr_layer (UExpr-F.Binary BitOr a b) = operator (machine.Bin BitOr) a b

expr_shown : (e : UExpr) → Shows (machine_expr e) (expr_code e)
expr_shown = ind-UExpr (λ e. Shows (machine_expr e) (expr_code e)) (λ x y is.
    let now : Layer x = subst Layer is (expr_layer y) in
    let of_machine = fold-roll-UExpr MachineCode machine_expr_step x in
    let of_code = fold-roll-UExpr Code compile_expr_step x in
    subst (λ m. Shows m (expr_code (roll-UExpr x))) (sym of_machine) (subst (λ c. Shows (machine_expr_step (map-UExpr UExpr MachineCode machine_expr x)) c) (sym of_code) now))

option_shown : (n : ℤ) (e : Option UExpr) → Shows (machine_expr_or n e) (expr_or n e)
option_shown n None = λ pc. refl
option_shown n (Some e) = expr_shown e

-- calls and forks

arg_shown : (ps : List UParam) (a : Arg) → Shows (machine_arg ps a) (arg_code a)
arg_shown ps (ByRef x) = λ pc. refl
arg_shown ps (ByPass x) = λ pc. refl
arg_shown ps (ByFresh e) = then_shown (machine_expr e) (machine.Fresh (first_sort ps) (first_name ps)) (expr_code e) (expr_shown e)

args_shown : (ps : List UParam) (args : List Arg) → Shows (machine_args ps args) (args_code args)
args_shown ps [] = λ pc. refl
args_shown ps (a ∷ args) = behind_shown (machine_arg ps a) (machine_args (behind_first ps) args) (arg_code a) (args_code args) (arg_shown ps a) (args_shown (behind_first ps) args)

call_shown : (units : List UnitOf) (c : UCall) → Shows (machine_call units c) (call_code c)
call_shown units c = then_shown (machine_args (params_in units c.unit) c.args) (machine.Call (callee_of c)) (args_code c.args) (args_shown (params_in units c.unit) c.args)

branch_shown : (units : List UnitOf) (b : UBranch) → Shows (machine_branch units b) (branch_code b)
branch_shown units b = then_shown (machine_args (params_in units b.call.unit) b.call.args) (machine.Branch (callee_of b.call)) (args_code b.call.args) (args_shown (params_in units b.call.unit) b.call.args)

branches_shown : (units : List UnitOf) (bs : List UBranch) → Shows (machine_branches units bs) (branches_code bs)
branches_shown units [] = λ pc. refl
branches_shown units (b ∷ bs) = behind_shown (machine_branch units b) (machine_branches units bs) (branch_code b) (branches_code bs) (branch_shown units b) (branches_shown units bs)

fork_shown : (units : List UnitOf) (bs : List UBranch) → Shows (machine_fork units bs) (fork_code bs)
fork_shown units bs = then_shown (machine_branches units bs) (machine.Fork (length bs)) (branches_code bs) (branches_shown units bs)

-- statements

abbrev code_what : UWhat → ℕ → Code
code_what = fold-UWhat (ℕ → Code) Code what_code (λ s. s.what s.line)

module _ (units : List UnitOf) where
  abbrev StmtShows : UStmt → Type 0
  StmtShows s = Shows (machine_stmt units s) (stmt_code s)

  abbrev WhatShows : UWhat → Type 0
  WhatShows w = (line : ℕ) → Shows (machine_what units w line) (code_what w line)

  abbrev SuchStmt : Type 0
  SuchStmt = (s : UStmt) × StmtShows s

  abbrev SuchWhat : Type 0
  SuchWhat = (w : UWhat) × WhatShows w

  abbrev bare_what : UWhat-F SuchWhat SuchStmt → UWhat-F UWhat UStmt
  bare_what = map-UWhat SuchWhat SuchStmt UWhat UStmt (λ e. e.0) (λ e. e.0)

  abbrev stmts_of : List SuchStmt → List UStmt
  stmts_of ss = map (λ s. s.0) ss

  such_shown : (ss : List SuchStmt) → Shows (machine_stmts units (stmts_of ss)) (stmts_code (stmts_of ss))
  such_shown [] = λ pc. refl
  such_shown (s ∷ ss) = behind_shown (machine_stmt units s.0) (machine_stmts units (stmts_of ss)) (stmt_code s.0) (stmts_code (stmts_of ss)) s.1 (such_shown ss)

  abbrev WhatLayer : UWhat-F UWhat UStmt → Type 0
  WhatLayer x = (line : ℕ) → Shows (what_machine units (map-UWhat UWhat UStmt (ℕ → MachineCode) MachineCode (machine_what units) (machine_stmt units) x) line) (what_code (map-UWhat UWhat UStmt (ℕ → Code) Code code_what stmt_code x) line)

  -- an expression and an instruction after it, in a statement of its own
  simple_shown : (k : MarkKind) (line : ℕ) (a : MachineCode) (i : MachineInstr) (c : Code) → Shows a c → Shows (machine_marked k line false (sequence a (one i))) (marked_code k line (sequence c (one (published i))))
  simple_shown k line a i c h = marked_shown k line false (sequence a (one i)) (sequence c (one (published i))) (then_shown a i c h)

  try_shown : (t x : ℕ) (y : Option ℕ) → published (try_instr t x y) ≡ code.Try t x y
  try_shown t x None = refl
  try_shown t x (Some y) = refl

  what_layer : (y : UWhat-F SuchWhat SuchStmt) → WhatLayer (bare_what y)
  what_layer (UWhat-F.Declare t x e) line = simple_shown kind.Quiet line (machine_expr_or (pos 0) e) (machine.Declare t x) (expr_or (pos 0) e) (option_shown (pos 0) e)
  what_layer (UWhat-F.Assign x e) line = simple_shown kind.Quiet line (machine_expr e) (machine.Set x) (expr_code e) (expr_shown e)
  what_layer (UWhat-F.Next x) line = λ pc. refl
  what_layer (UWhat-F.NextAssign x e) line =
      behind_shown (machine_marked kind.Quiet line false (sequence (machine_expr e) (one (machine.Set x)))) (machine_marked kind.Next line true (one (machine.Next x)))
      (marked_code kind.Quiet line (sequence (expr_code e) (one (code.Set x)))) (marked_code kind.Next line (one (code.Next x)))
      (simple_shown kind.Quiet line (machine_expr e) (machine.Set x) (expr_code e) (expr_shown e)) (λ pc. refl)
  what_layer (UWhat-F.AssignNext x z) line = λ pc. refl
  what_layer (UWhat-F.Get x i) line = λ pc. refl
  what_layer (UWhat-F.Put o e) line = simple_shown kind.Put line (machine_expr e) (machine.Put o) (expr_code e) (expr_shown e)
  what_layer (UWhat-F.If e a b) line =
      let ma = machine_stmts units (stmts_of a) in
      let mb = machine_stmts units (stmts_of b) in
      let ca = stmts_code (stmts_of a) in
      let cb = stmts_code (stmts_of b) in
      let m = arms machine.Jump machine.JumpZ ma mb in
      let c = arms code.Jump code.JumpZ ca cb in
      marked_shown kind.Quiet line false (sequence (machine_expr e) m) (sequence (expr_code e) c)
      (behind_shown (machine_expr e) m (expr_code e) c (expr_shown e) (arms_shown machine.JumpZ code.JumpZ ma mb ca cb (λ t. refl) (such_shown a) (such_shown b)))
  what_layer (UWhat-F.While e a) line = looped_shown line (machine_expr e) (machine_stmts units (stmts_of a)) (expr_code e) (stmts_code (stmts_of a)) (expr_shown e) (such_shown a)
  what_layer (UWhat-F.For first e step body) line =
      let mb = machine_stmts units (stmts_of body) in
      let ms = machine_stmts units (stmts_of step) in
      let cb = stmts_code (stmts_of body) in
      let cs = stmts_code (stmts_of step) in
      let test = machine_expr_or (pos 1) e in
      let shown = expr_or (pos 1) e in
      behind_shown (machine_stmts units (stmts_of first)) (machine_looped line test (sequence mb ms)) (stmts_code (stmts_of first)) (looped line shown (sequence cb cs)) (such_shown first)
      (looped_shown line test (sequence mb ms) shown (sequence cb cs) (option_shown (pos 1) e) (behind_shown mb ms cb cs (such_shown body) (such_shown step)))
  what_layer (UWhat-F.Block a) line = such_shown a
  what_layer (UWhat-F.Call c) line = marked_shown kind.Quiet line false (machine_call units c) (call_code c) (call_shown units c)
  what_layer (UWhat-F.Try a x y b) line =
      let ma = machine_stmts units (stmts_of a) in
      let mb = machine_stmts units (stmts_of b) in
      let ca = stmts_code (stmts_of a) in
      let cb = stmts_code (stmts_of b) in
      let m = sequence ma (one machine.Untry) in
      let c = sequence ca (one code.Untry) in
      marked_shown kind.Quiet line false (arms machine.Jump (λ h. try_instr h x y) m mb) (arms code.Jump (λ h. code.Try h x y) c cb)
      (arms_shown (λ h. try_instr h x y) (λ h. code.Try h x y) m mb c cb (λ t. try_shown t x y) (then_shown ma machine.Untry ca (such_shown a)) (such_shown b))
  what_layer (UWhat-F.Throw x e) line = simple_shown kind.Throw line (machine_expr_or (pos 0) e) (machine.Throw x) (expr_or (pos 0) e) (option_shown (pos 0) e)
  what_layer (UWhat-F.Par bs) line = marked_shown kind.Fork line false (machine_fork units bs) (fork_code bs) (fork_shown units bs)

  what_shown : (x : UWhat-F UWhat UStmt) → WhatLayer x → WhatShows (roll-UWhat x)
  what_shown x h line =
      let of_machine = ap (λ f. f line) (fold-roll-UWhat (ℕ → MachineCode) MachineCode (what_machine units) (λ s. s.what s.line) x) in
      let of_code = ap (λ f. f line) (fold-roll-UWhat (ℕ → Code) Code what_code (λ s. s.what s.line) x) in
      subst (λ m. Shows m (code_what (roll-UWhat x) line)) (sym of_machine)
      (subst (λ c. Shows (what_machine units (map-UWhat UWhat UStmt (ℕ → MachineCode) MachineCode (machine_what units) (machine_stmt units) x) line) c) (sym of_code) (h line))

  stmt_layer : (line : ℕ) (w : UWhat) → WhatShows w → StmtShows (record { line = line; what = w })
  stmt_layer line w h =
      let d : UStmt-F UWhat UStmt = record { line = line; what = w } in
      let of_machine = fold-roll-UStmt (ℕ → MachineCode) MachineCode (what_machine units) (λ s. s.what s.line) d in
      let of_code = fold-roll-UStmt (ℕ → Code) Code what_code (λ s. s.what s.line) d in
      subst (λ m. Shows m (stmt_code (record { line = line; what = w }))) (sym of_machine) (subst (λ c. Shows (machine_what units w line) c) (sym of_code) (h line))

  stmt_shown : (s : UStmt) → StmtShows s
  stmt_shown = ind-UStmt WhatShows StmtShows
      (λ x y is. what_shown x (subst WhatLayer is (what_layer y)))
      (λ x y is. subst (λ z. StmtShows (roll-UStmt z)) is (stmt_layer y.line y.what.0 y.what.1))

  stmts_shown : (ss : List UStmt) → Shows (machine_stmts units ss) (stmts_code ss)
  stmts_shown [] = λ pc. refl
  stmts_shown (s ∷ ss) = behind_shown (machine_stmt units s) (machine_stmts units ss) (stmt_code s) (stmts_code ss) (stmt_shown s) (stmts_shown ss)

-- numbers are not shown

one_numbered : (n : ℕ) (i : MachineInstr) → published (with_number n i) ≡ published i
one_numbered n (machine.Mark m) = refl
one_numbered n (machine.End m) = refl
one_numbered n _ = refl

numbered_shown : (n : ℕ) (is : List MachineInstr) → published_all (numbered n is) ≡ published_all is
numbered_shown n [] = refl
numbered_shown n (i ∷ is) = ap (λ j. j ∷ published_all (numbered (n + begun i) is)) (one_numbered n i) ∙ ap (λ l. published i ∷ l) (numbered_shown (n + begun i) is)

-- units and programs

pub unit_shown : (units : List UnitOf) (body : List UStmt) → published_all (machine_unit units body) ≡ unit_code body
unit_shown units body =
    numbered_shown 0 (sequence (machine_stmts units body) (one (machine.End 0)) 0)
    ∙ then_shown (machine_stmts units body) (machine.End 0) (stmts_code body) (stmts_shown units body) 0

pub machine_shows_units : (units us : List UnitOf) → map published_all (machine_units units us) ≡ map (λ (u : CodeUnit). u.code) (code_units us)
machine_shows_units units [] = refl
machine_shows_units units (u ∷ us) = ap (λ c. c ∷ map published_all (machine_units units us)) (unit_shown units u.body) ∙ ap (λ l. unit_code u.body ∷ l) (machine_shows_units units us)

-- the list is whole where no unit is left
pub all_machine : (units : List UnitOf) (i : ℕ) (made : List (List MachineInstr)) → length units ≤ i → made ++ machine_units units (drop i units) ≡ machine_units units units → made ≡ machine_units units units
all_machine units i made le e = sym (append-nil made) ∙ ap (λ us. made ++ machine_units units us) (sym (drop_all i units le)) ∙ e
