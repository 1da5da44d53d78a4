-- Each mark of a unit's code stands there once, and so does its end.
use Rattle.std.proofs.Common.{◌≡◌, ℕ, zero, suc, pos, ◌+◌, ◌-◌, ◌≤◌, false, true, not, List, [], ◌∷◌, ◌++◌, length, map, Option, Some, None, if◌then◌else◌, refl, sym, ap, ◌∙◌, subst, arith}
use Rattle.std.specs.Prelude.{Bool as TruthValue, slice_get}
use Rattle.shim_scopes.specs.declared.tree.UExpr.{UExpr}
use Rattle.shim_units.specs.declared.unit.UBranch.{UBranch}
use Rattle.shim_units.specs.declared.unit.UCall.{UCall}
use Rattle.shim_units.specs.declared.unit.UStmt.{UStmt, ind-UStmt, roll-UStmt}
use Rattle.shim_units.specs.declared.unit.Unit.{Unit as UnitOf}
use Rattle.shim_units.specs.declared.unit.UWhat.{UWhat, UWhat-F, map-UWhat, roll-UWhat}
use Rattle.shim_process.proofs.TodoItems.{line_of}
use Rattle.shim_code.specs.declared.instr.MarkKind.{MarkKind}
use Rattle.shim_code.specs.declared.instr.MarkKind.TheVariants as kind
use Rattle.shim_code.specs.declared.machine_instr.Mark.{Mark as MarkOf}
use Rattle.shim_code.specs.declared.machine_instr.MachineInstr.{MachineInstr}
use Rattle.shim_code.specs.declared.machine_instr.MachineInstr.TheVariants.{Mark, Var, Jump, JumpZ, Declare, Set, Get, Put, Next, Call, Branch, Fork, Untry, Throw, End}
use Rattle.shim_code.specs.Layout.{arms, sequence, loop, one}
use Rattle.shim_code.specs.MachineCode.{MachineCode, begin_mark, begun, callee_of, machine_args, machine_branch, machine_branches, machine_expr, machine_expr_or, machine_looped, machine_marked, machine_stmt, machine_stmts, machine_unit, numbered, params_in, try_instr, with_number}
use Rattle.shim_machine.specs.Machine.{CodedUnit, fetch}
use Rattle.shim_machine.specs.Correspondence.{kind_code}
use Rattle.shim_machine.proofs.Computing.{AllCompute, AllGather, Computes, Gathering, args_gather, expr_computes, option_computes}
use Rattle.shim_machine.proofs.Enters.{code_roll}

-- whether the last mark before an instruction is the first one of its statement
abbrev Open : Type 0
Open = TruthValue

-- a second mark stands after the first one; the unit's end is none of these instructions
abbrev IsAllowed : Open → MachineInstr → Type 0
IsAllowed o (Mark m) = m.halfway ≡ true → o ≡ true
IsAllowed o (End n) = ⊥
IsAllowed o _ = Unit {0}

abbrev opened : Open → MachineInstr → Open
opened o (Mark m) = not m.halfway
opened o _ = o

-- so each of these instructions: after one first mark stands one second mark at most
abbrev AreOrderly : Open → List MachineInstr → Type 0
AreOrderly o [] = Unit {0}
AreOrderly o (i ∷ is) = IsAllowed o i × AreOrderly (opened o i) is

both_orderly : (o : Open) (a b : List MachineInstr) → AreOrderly o a → ((o : Open) → AreOrderly o b) → AreOrderly o (a ++ b)
both_orderly o [] b ha hb = hb o
both_orderly o (i ∷ a) b ha hb = (ha.0, both_orderly (opened o i) a b ha.1 hb)

-- no mark, and no end
abbrev IsPlain : MachineInstr → Type 0
IsPlain (Mark m) = ⊥
IsPlain (End n) = ⊥
IsPlain _ = Unit {0}

abbrev ArePlain : List MachineInstr → Type 0
ArePlain [] = Unit {0}
ArePlain (i ∷ is) = IsPlain i × ArePlain is

both_plain : (a b : List MachineInstr) → ArePlain a → ArePlain b → ArePlain (a ++ b)
both_plain [] b ha hb = hb
both_plain (i ∷ a) b ha hb = (ha.0, both_plain a b ha.1 hb)

plain_allowed : (o : Open) (i : MachineInstr) → IsPlain i → IsAllowed o i
plain_allowed o (Mark m) h = absurd h
plain_allowed o (End n) h = absurd h
plain_allowed o i h = tt

plain_opened : (o : Open) (i : MachineInstr) → IsPlain i → opened o i ≡ o
plain_opened o (Mark m) h = absurd h
plain_opened o (End n) h = absurd h
plain_opened o i h = refl

plain_orderly : (o : Open) (is : List MachineInstr) → ArePlain is → AreOrderly o is
plain_orderly o [] h = tt
plain_orderly o (i ∷ is) h = (plain_allowed o i h.0, plain_orderly (opened o i) is h.1)

-- in front of others
then_orderly : (o : Open) (a b : List MachineInstr) → ArePlain a → AreOrderly o b → AreOrderly o (a ++ b)
then_orderly o [] b ha hb = hb
then_orderly o (i ∷ a) b ha hb = (plain_allowed o i ha.0, then_orderly (opened o i) a b ha.1 (subst (λ p. AreOrderly p b) (sym (plain_opened o i ha.0)) hb))

gathering_plain : (i : MachineInstr) → Gathering i → IsPlain i
gathering_plain (Mark m) h = h
gathering_plain (End n) h = h
gathering_plain i h = tt

all_plain : (is : List MachineInstr) → AllGather is → ArePlain is
all_plain [] h = tt
all_plain (i ∷ is) h = (gathering_plain i h.0, all_plain is h.1)

computing_plain : (i : MachineInstr) → Computes i → IsPlain i
computing_plain (Mark m) h = h
computing_plain (End n) h = h
computing_plain i h = tt

all_compute_plain : (is : List MachineInstr) → AllCompute is → ArePlain is
all_compute_plain [] h = tt
all_compute_plain (i ∷ is) h = (computing_plain i h.0, all_compute_plain is h.1)

-- Pieces of code, wherever they stand.

abbrev Plain : MachineCode → Type 0
Plain c = (pc : ℕ) → ArePlain (c pc)

abbrev Orderly : MachineCode → Type 0
Orderly c = (pc : ℕ) (o : Open) → AreOrderly o (c pc)

of_plain : (c : MachineCode) → Plain c → Orderly c
of_plain c h pc o = plain_orderly o (c pc) (h pc)

expr_plain : (e : UExpr) → Plain (machine_expr e)
expr_plain e pc = all_compute_plain (machine_expr e pc) (expr_computes e pc)

-- one instruction after a piece
then_plain : (c : MachineCode) (i : MachineInstr) → IsPlain i → Plain c → Plain (sequence c (one i))
then_plain c i hi h pc = both_plain (c pc) (i ∷ []) (h pc) (hi, tt)

behind_orderly : (a b : MachineCode) → Orderly a → Orderly b → Orderly (sequence a b)
behind_orderly a b ha hb pc o = both_orderly o (a pc) (b (pc + length (a pc))) (ha pc o) (hb (pc + length (a pc)))

tried_plain : (h x : ℕ) (y : Option ℕ) → IsPlain (try_instr h x y)
tried_plain h x None = tt
tried_plain h x (Some y) = tt

arms_orderly : (head : ℕ → MachineInstr) (a b : MachineCode) → ((t : ℕ) → IsPlain (head t)) → Orderly a → Orderly b → Orderly (arms Jump head a b)
arms_orderly head a b hh ha hb pc o =
    let ca = a (pc + 1) in
    let second = pc + 1 + length ca + 1 in
    let cb = b second in
    (plain_allowed o (head second) (hh second), both_orderly (opened o (head second)) ca (Jump (second + length cb) ∷ cb) (ha (pc + 1) _) (λ o. (tt, hb second o)))

loop_orderly : (start : ℕ) (a : MachineCode) → Orderly a → Orderly (loop Jump JumpZ start a)
loop_orderly start a ha pc o = (tt, both_orderly o (a (pc + 1)) (Jump start ∷ []) (ha (pc + 1) o) (λ o. (tt, tt)))

false_true : false ≡ true → ⊥
false_true e = cc

not_second : (o : Open) → false ≡ true → o ≡ true
not_second o e = absurd (false_true e)

-- after a first mark
marked : (k : MarkKind) (line : ℕ) (c : MachineCode) → Orderly c → Orderly (machine_marked k line false c)
marked k line c h pc o = (not_second o, h (pc + 1) true)

looped : (line : ℕ) (test body : MachineCode) → Plain test → Orderly body → Orderly (machine_looped line test body)
looped line test body ht hb pc o = (not_second o, behind_orderly test (loop Jump JumpZ pc body) (of_plain test ht) (loop_orderly pc body hb) (pc + 1) true)

-- a statement of two parts
halves : (k k' : MarkKind) (line : ℕ) (a b : MachineCode) → Plain a → Plain b → Orderly (sequence (machine_marked k line false a) (machine_marked k' line true b))
halves k k' line a b ha hb pc o =
    let ca = a (pc + 1) in
    let at = pc + length (begin_mark k line false ∷ ca) in
    (not_second o, then_orderly true ca (begin_mark k' line true ∷ b (at + 1)) (ha (pc + 1)) ((λ e. refl), plain_orderly false (b (at + 1)) (hb (at + 1))))

-- Statements.
module _ (units : List UnitOf) where
  args_plain : (c : UCall) → Plain (machine_args (params_in units c.unit) c.args)
  args_plain c pc = all_plain (machine_args (params_in units c.unit) c.args pc) (args_gather (params_in units c.unit) c.args pc)

  branches_plain : (bs : List UBranch) → Plain (machine_branches units bs)
  branches_plain [] pc = tt
  branches_plain (b ∷ bs) pc =
      let c = machine_branch units b pc in
      both_plain c (machine_branches units bs (pc + length c)) (then_plain (machine_args (params_in units b.call.unit) b.call.args) (Branch (callee_of b.call)) tt (args_plain b.call) pc) (branches_plain bs (pc + length c))

  abbrev StmtOrderly : UStmt → Type 0
  StmtOrderly s = Orderly (machine_stmt units s)

  abbrev WhatOrderly : UWhat → Type 0
  WhatOrderly w = (l : ℕ) → StmtOrderly (line_of l w)

  abbrev SuchStmt : Type 0
  SuchStmt = (s : UStmt) × StmtOrderly s

  abbrev SuchWhat : Type 0
  SuchWhat = (w : UWhat) × WhatOrderly w

  abbrev bare_what : UWhat-F SuchWhat SuchStmt → UWhat-F UWhat UStmt
  bare_what = map-UWhat SuchWhat SuchStmt UWhat UStmt (λ e. e.0) (λ e. e.0)

  abbrev plain : List SuchStmt → List UStmt
  plain ss = map (λ s. s.0) ss

  such_orderly : (ss : List SuchStmt) → Orderly (machine_stmts units (plain ss))
  such_orderly [] = λ pc o. tt
  such_orderly (s ∷ ss) = behind_orderly (machine_stmt units s.0) (machine_stmts units (plain ss)) s.1 (such_orderly ss)

  -- an expression and an instruction after it, in a statement of its own
  simple : (k : MarkKind) (l : ℕ) (c : MachineCode) (i : MachineInstr) → IsPlain i → Plain c → Orderly (machine_marked k l false (sequence c (one i)))
  simple k l c i hi h = marked k l (sequence c (one i)) (of_plain (sequence c (one i)) (then_plain c i hi h))

  single : (k : MarkKind) (l : ℕ) (i : MachineInstr) → IsPlain i → Orderly (machine_marked k l false (one i))
  single k l i h = marked k l (one i) (of_plain (one i) (λ pc. (h, tt)))

  abbrev KindOrderly : UWhat-F UWhat UStmt → Type 0
  KindOrderly x = (l : ℕ) → Orderly (kind_code units x l)

  kind_orderly : (y : UWhat-F SuchWhat SuchStmt) → KindOrderly (bare_what y)
  kind_orderly (UWhat-F.Declare t x e) l = simple kind.Quiet l (machine_expr_or (pos 0) e) (Declare t x) tt (λ pc. all_compute_plain (machine_expr_or (pos 0) e pc) (option_computes (pos 0) e pc))
  kind_orderly (UWhat-F.Assign x e) l = simple kind.Quiet l (machine_expr e) (Set x) tt (expr_plain e)
  kind_orderly (UWhat-F.Next x) l = single kind.Next l (Next x) tt
  kind_orderly (UWhat-F.NextAssign x e) l = halves kind.Quiet kind.Next l (sequence (machine_expr e) (one (Set x))) (one (Next x)) (then_plain (machine_expr e) (Set x) tt (expr_plain e)) (λ pc. (tt, tt))
  kind_orderly (UWhat-F.AssignNext x y) l = halves kind.Next kind.Quiet l (one (Next y)) (sequence (one (Var y)) (one (Set x))) (λ pc. (tt, tt)) (λ pc. (tt, (tt, tt)))
  kind_orderly (UWhat-F.Get x i) l = simple kind.Quiet l (one (Get i)) (Set x) tt (λ pc. (tt, tt))
  kind_orderly (UWhat-F.Put o e) l = simple kind.Put l (machine_expr e) (Put o) tt (expr_plain e)
  kind_orderly (UWhat-F.If e a b) l =
      let ma = machine_stmts units (plain a) in
      let mb = machine_stmts units (plain b) in
      marked kind.Quiet l (sequence (machine_expr e) (arms Jump JumpZ ma mb)) (behind_orderly (machine_expr e) (arms Jump JumpZ ma mb) (of_plain (machine_expr e) (expr_plain e)) (arms_orderly JumpZ ma mb (λ t. tt) (such_orderly a) (such_orderly b)))
  kind_orderly (UWhat-F.While e a) l = looped l (machine_expr e) (machine_stmts units (plain a)) (expr_plain e) (such_orderly a)
  kind_orderly (UWhat-F.For first e step body) l =
      let mf = machine_stmts units (plain first) in
      let mb = machine_stmts units (plain body) in
      let ms = machine_stmts units (plain step) in
      let test = machine_expr_or (pos 1) e in
      behind_orderly mf (machine_looped l test (sequence mb ms)) (such_orderly first) (looped l test (sequence mb ms) (λ pc. all_compute_plain (test pc) (option_computes (pos 1) e pc)) (behind_orderly mb ms (such_orderly body) (such_orderly step)))
  kind_orderly (UWhat-F.Block a) l = such_orderly a
  kind_orderly (UWhat-F.Call c) l = simple kind.Quiet l (machine_args (params_in units c.unit) c.args) (Call (callee_of c)) tt (args_plain c)
  kind_orderly (UWhat-F.Try a x y b) l =
      let ma = machine_stmts units (plain a) in
      let mb = machine_stmts units (plain b) in
      marked kind.Quiet l (arms Jump (λ h. try_instr h x y) (sequence ma (one Untry)) mb) (arms_orderly (λ h. try_instr h x y) (sequence ma (one Untry)) mb (λ t. tried_plain t x y) (behind_orderly ma (one Untry) (such_orderly a) (of_plain (one Untry) (λ pc. (tt, tt)))) (such_orderly b))
  kind_orderly (UWhat-F.Throw x e) l = simple kind.Throw l (machine_expr_or (pos 0) e) (Throw x) tt (λ pc. all_compute_plain (machine_expr_or (pos 0) e pc) (option_computes (pos 0) e pc))
  kind_orderly (UWhat-F.Par bs) l = simple kind.Fork l (machine_branches units bs) (Fork (length bs)) tt (branches_plain bs)

  what_orderly : (x : UWhat-F UWhat UStmt) → KindOrderly x → WhatOrderly (roll-UWhat x)
  what_orderly x h l = subst Orderly (sym (code_roll units l x)) (h l)

  stmt_orderly : (s : UStmt) → StmtOrderly s
  stmt_orderly = ind-UStmt WhatOrderly StmtOrderly
      (λ x y is. what_orderly x (subst KindOrderly is (kind_orderly y)))
      (λ x y is. subst (λ z. StmtOrderly (roll-UStmt z)) is (y.what.1 y.line))

  stmts_orderly : (ss : List UStmt) → Orderly (machine_stmts units ss)
  stmts_orderly [] = λ pc o. tt
  stmts_orderly (s ∷ ss) = behind_orderly (machine_stmt units s) (machine_stmts units ss) (stmt_orderly s) (stmts_orderly ss)

-- In a list where they are, each mark has a number and a half that no other has.

none_some : (x : MachineInstr) → None ≡ Some x → ⊥
none_some x e = cc

same_instr : (x y : MachineInstr) → Some x ≡ Some y → x ≡ y
same_instr x y e = cc

-- the number of a mark after so many statements
abbrev number_at : ℕ → TruthValue → ℕ
number_at n h = if h then n - 1 else n

-- an instruction becomes this mark after so many statements
record Becomes (n : ℕ) (i : MachineInstr) (m : MarkOf) : Type 0 where
  pub number : m.number ≡ number_at n m.halfway
  pub counted : begun i ≡ (if m.halfway then 0 else 1)
  pub opens : (o : Open) → opened o i ≡ not m.halfway
  pub behind_first : (o : Open) → IsAllowed o i → m.halfway ≡ true → o ≡ true

same_mark : (x y : MarkOf) → Mark x ≡ Mark y → x ≡ y
same_mark x y e = cc

becomes : (n : ℕ) (i : MachineInstr) (m : MarkOf) → with_number n i ≡ Mark m → Becomes n i m
becomes n (Mark x) m e =
    let y : MarkOf = record { kind = x.kind; line = x.line; number = if x.halfway then n - 1 else n; halfway = x.halfway } in
    subst (Becomes n (Mark x)) (same_mark y m e) (record { number = refl; counted = refl; opens = λ o. refl; behind_first = λ o h. h })
becomes n i m e = absurd (let z : ⊥ = cc in z)

-- what is known of a mark among instructions after so many statements
record IsLater (o : Open) (n : ℕ) (m : MarkOf) : Type 0 where
  pub first : m.halfway ≡ false → n ≤ m.number
  pub second : m.halfway ≡ true → n ≤ m.number + 1
  pub closed : m.halfway ≡ true → o ≡ false → n ≤ m.number

at_head : (o : Open) (n : ℕ) (i : MachineInstr) (m : MarkOf) → IsAllowed o i → Becomes n i m → IsLater o n m
at_head o n i m h b =
    record {
      first = λ e. let z : m.number ≡ n = b.number ∙ ap (number_at n) e in omega (arith, z);
      second = λ e. let z : m.number ≡ n - 1 = b.number ∙ ap (number_at n) e in omega (arith, z);
      closed = λ e c. absurd (false_true (sym c ∙ b.behind_first o h e));
    }

behind_head : (o : Open) (n : ℕ) (i : MachineInstr) (m : MarkOf) → IsLater (opened o i) (n + begun i) m → IsLater o n m
behind_head o n (Mark x) m l = by_half x.halfway refl
  where
    by_half : (h : TruthValue) → x.halfway ≡ h → IsLater o n m
    by_half false e =
        record {
          first = λ f. let z = l.first f in omega (arith, z);
          second = λ f. let z = l.second f in omega (arith, z);
          closed = λ f c. let z = l.second f in let one : begun (Mark x) ≡ 1 = ap (λ h. if h then 0 else 1) e in omega (arith, z, one);
        }
    by_half true e =
        record {
          first = λ f. let z = l.first f in omega (arith, z);
          second = λ f. let z = l.second f in omega (arith, z);
          closed = λ f c. let z = l.closed f (ap not e) in omega (arith, z);
        }
behind_head o n i m l =
    let z : n + 0 ≡ n = omega arith in
    subst (λ n. IsLater o n m) z l

later : (is : List MachineInstr) (o : Open) (n i : ℕ) (m : MarkOf) → AreOrderly o is → slice_get (numbered n is) i ≡ Some (Mark m) → IsLater o n m
later [] o n i m h e = absurd (none_some (Mark m) e)
later (x ∷ is) o n zero m h e = at_head o n x m h.0 (becomes n x m (same_instr (with_number n x) (Mark m) e))
later (x ∷ is) o n (suc i) m h e = behind_head o n x m (later is (opened o x) (n + begun x) i m h.1 e)

-- no later mark has the number and half of one that stands before
not_later : (o : Open) (n : ℕ) (x : MachineInstr) (a b : MarkOf) → IsAllowed o x → (o ≡ true → 1 ≤ n) → Becomes n x a → IsLater (opened o x) (n + begun x) b → a.number ≡ b.number → a.halfway ≡ b.halfway → ⊥
not_later o n x a b h some made l same half = by_half a.halfway refl
  where
    by_half : (h : TruthValue) → a.halfway ≡ h → ⊥
    by_half false e =
        let z = l.first (sym half ∙ e) in
        let one : begun x ≡ 1 = made.counted ∙ ap (λ h. if h then 0 else 1) e in
        let is : a.number ≡ n = made.number ∙ ap (number_at n) e in
        omega (arith, z, one, is, same)
    by_half true e =
        let z = l.closed (sym half ∙ e) (made.opens o ∙ ap not e) in
        let is : a.number ≡ n - 1 = made.number ∙ ap (number_at n) e in
        let one = some (made.behind_first o h e) in
        omega (arith, z, one, is, same)

-- after a first mark a statement has begun
still_some : (o : Open) (n : ℕ) (x : MachineInstr) → (o ≡ true → 1 ≤ n) → opened o x ≡ true → 1 ≤ n + begun x
still_some o n (Mark x) some e = by_half x.halfway refl
  where
    by_half : (h : TruthValue) → x.halfway ≡ h → 1 ≤ n + begun (Mark x)
    by_half false f = let one : begun (Mark x) ≡ 1 = ap (λ h. if h then 0 else 1) f in omega (arith, one)
    by_half true f = absurd (false_true (sym (ap not f) ∙ e))
still_some o n x some e = let z = some e in omega (arith, z)

once : (is : List MachineInstr) (o : Open) (n i j : ℕ) (a b : MarkOf) → AreOrderly o is → (o ≡ true → 1 ≤ n) → slice_get (numbered n is) i ≡ Some (Mark a) → slice_get (numbered n is) j ≡ Some (Mark b) → a.number ≡ b.number → a.halfway ≡ b.halfway → i ≡ j
once [] o n i j a b h some ea eb same half = absurd (none_some (Mark a) ea)
once (x ∷ is) o n zero zero a b h some ea eb same half = refl
once (x ∷ is) o n zero (suc j) a b h some ea eb same half = absurd (not_later o n x a b h.0 some (becomes n x a (same_instr (with_number n x) (Mark a) ea)) (later is (opened o x) (n + begun x) j b h.1 eb) same half)
once (x ∷ is) o n (suc i) zero a b h some ea eb same half = absurd (not_later o n x b a h.0 some (becomes n x b (same_instr (with_number n x) (Mark b) eb)) (later is (opened o x) (n + begun x) i a h.1 ea) (sym same) (sym half))
once (x ∷ is) o n (suc i) (suc j) a b h some ea eb same half = ap suc (once is (opened o x) (n + begun x) i j a b h.1 (still_some o n x some) ea eb same half)

-- the end is after them all
at_end : (is : List MachineInstr) (o : Open) (n i k : ℕ) → AreOrderly o is → slice_get (numbered n (is ++ End 0 ∷ [])) i ≡ Some (End k) → i ≡ length is
at_end [] o n zero k h e = refl
at_end [] o n (suc i) k h e = absurd (none_some (End k) e)
at_end (x ∷ is) o n zero k h e = absurd (no_end x (same_instr (with_number n x) (End k) e) h.0)
  where
    no_end : (x : MachineInstr) → with_number n x ≡ End k → IsAllowed o x → ⊥
    no_end (End m) e h = h
    no_end (Mark m) e h = cc
    no_end x e h = cc
at_end (x ∷ is) o n (suc i) k h e = ap suc (at_end is (opened o x) (n + begun x) i k h.1 e) ∙ (let z : suc (length is) ≡ length (x ∷ is) = refl in z)

-- no mark is the end
before_end : (is : List MachineInstr) (n i : ℕ) (m : MarkOf) → slice_get (numbered n (is ++ End 0 ∷ [])) i ≡ Some (Mark m) → slice_get (numbered n is) i ≡ Some (Mark m)
before_end [] n zero m e = absurd (end_mark e)
  where
    end_mark : Some (End n) ≡ Some (Mark m) → ⊥
    end_mark e = cc
before_end [] n (suc i) m e = e
before_end (x ∷ is) n zero m e = e
before_end (x ∷ is) n (suc i) m e = before_end is (n + begun x) i m e

module _ (u : CodedUnit) (e : u.code ≡ machine_unit u.units u.body) where
  there : (pc : ℕ) (i : MachineInstr) → fetch u pc ≡ Some i → slice_get (numbered 0 (machine_stmts u.units u.body 0 ++ End 0 ∷ [])) pc ≡ Some i
  there pc i h = ap (λ c. slice_get c pc) (sym e) ∙ h

  -- two places with marks of one number and one half are one place
  pub mark_once : (a b : ℕ) (m m' : MarkOf) → fetch u a ≡ Some (Mark m) → fetch u b ≡ Some (Mark m') → m.number ≡ m'.number → m.halfway ≡ m'.halfway → a ≡ b
  mark_once a b m m' ha hb =
      let is = machine_stmts u.units u.body 0 in
      once is false 0 a b m m' (stmts_orderly u.units u.body 0 false) (λ f. absurd (false_true f)) (before_end is 0 a m (there a (Mark m) ha)) (before_end is 0 b m' (there b (Mark m') hb))

  -- so are two places of the unit's end
  pub end_once : (a b n n' : ℕ) → fetch u a ≡ Some (End n) → fetch u b ≡ Some (End n') → a ≡ b
  end_once a b n n' ha hb =
      let is = machine_stmts u.units u.body 0 in
      let orderly = stmts_orderly u.units u.body 0 false in
      at_end is false 0 a n orderly (there a (End n) ha) ∙ sym (at_end is false 0 b n' orderly (there b (End n') hb))
