-- What a draft has after its pieces were written one after another, and its jumps closed.
use Rattle.std.proofs.Common.{◌≡◌, ℕ, ◌+◌, List, [], ◌∷◌, ◌++◌, length, sym, ap, ◌∙◌, arith, append_assoc, length-append, refl, Option}
use Rattle.std.specs.Prelude.{Bool, false, slice_set}
use Rattle.std.proofs.Math.Seq.{set-append_seam}
use Rattle.shim_code.specs.declared.machine_instr.MachineInstr.{MachineInstr}
use Rattle.shim_code.specs.declared.machine_instr.MachineInstr.TheVariants.{Jump, JumpZ}
use Rattle.shim_code.specs.declared.instr.MarkKind.{MarkKind}
use Rattle.shim_code.specs.declared.instr.MarkKind.TheVariants as kind
use Rattle.shim_code.specs.Layout.{arms, sequence, loop, one}
use Rattle.shim_code.specs.MachineCode.{MachineCode, begin_mark, machine_looped, machine_marked}
use Rattle.shim_code.specs.declared.draft.Caught.{Caught}
use Rattle.shim_code.specs.Drafts.{head_of, jumps_patched, closed_loop}

-- both places are written over
pub patched : (old ca cb : List MachineInstr) (x y i j : MachineInstr) → slice_set (slice_set ((((old ++ x ∷ []) ++ ca) ++ y ∷ []) ++ cb) (length old) i) (length old + 1 + length ca) j ≡ old ++ i ∷ (ca ++ j ∷ cb)
patched old ca cb x y i j =
    let flat : (((old ++ x ∷ []) ++ ca) ++ y ∷ []) ++ cb ≡ old ++ x ∷ (ca ++ y ∷ cb) = simp append_assoc in
    let e1 : slice_set (old ++ x ∷ (ca ++ y ∷ cb)) (length old) i ≡ old ++ i ∷ (ca ++ y ∷ cb) = set-append_seam old x (ca ++ y ∷ cb) i in
    let join : old ++ i ∷ (ca ++ y ∷ cb) ≡ (old ++ i ∷ ca) ++ y ∷ cb = sym (append_assoc old (i ∷ ca) (y ∷ cb)) in
    let n : length old + 1 + length ca ≡ length (old ++ i ∷ ca) = omega (arith, length-append old (i ∷ ca)) in
    ap (λ l. slice_set (slice_set l (length old) i) (length old + 1 + length ca) j) flat
    ∙ ap (λ l. slice_set l (length old + 1 + length ca) j) (e1 ∙ join)
    ∙ ap (λ m. slice_set ((old ++ i ∷ ca) ++ y ∷ cb) m j) n
    ∙ set-append_seam (old ++ i ∷ ca) y cb j
    ∙ append_assoc old (i ∷ ca) (j ∷ cb)

pub arms_made : (head : ℕ → MachineInstr) (a b : MachineCode) (old c1 c2 c3 c4 c5 : List MachineInstr) (h j end : ℕ) (x y i : MachineInstr)
    → h ≡ length old → c1 ≡ old ++ x ∷ [] → c2 ≡ c1 ++ a (length c1) → j ≡ length c2 → c3 ≡ c2 ++ y ∷ [] → c4 ≡ c3 ++ b (length c3) → end ≡ length c4
    → i ≡ head (j + 1) → c5 ≡ slice_set (slice_set c4 h i) j (Jump end) → c5 ≡ old ++ arms Jump head a b (length old)
arms_made head a b old c1 c2 c3 c4 c5 h j end x y i eh e1 e2 ej e3 e4 ee ei e5 =
    let pc = length old in
    let l1 : length c1 ≡ pc + 1 = omega (arith, ap length e1, length-append old (x ∷ [])) in
    let ca = a (pc + 1) in
    let f2 : c2 ≡ (old ++ x ∷ []) ++ ca = e2 ∙ ap (λ n. c1 ++ a n) l1 ∙ ap (λ l. l ++ ca) e1 in
    let l2 : length c2 ≡ pc + 1 + length ca = omega (arith, ap length f2, length-append (old ++ x ∷ []) ca, length-append old (x ∷ [])) in
    let second = pc + 1 + length ca + 1 in
    let l3 : length c3 ≡ second = omega (arith, ap length e3, length-append c2 (y ∷ []), l2) in
    let cb = b second in
    let f4 : c4 ≡ (((old ++ x ∷ []) ++ ca) ++ y ∷ []) ++ cb = e4 ∙ ap (λ n. c3 ++ b n) l3 ∙ ap (λ l. l ++ cb) e3 ∙ ap (λ l. (l ++ y ∷ []) ++ cb) f2 in
    let g4 : c4 ≡ c3 ++ cb = e4 ∙ ap (λ n. c3 ++ b n) l3 in
    let l4 : end ≡ second + length cb = omega (arith, ee, ap length g4, length-append c3 cb, l3) in
    let jj : j ≡ pc + 1 + length ca = omega (arith, ej, l2) in
    let is : i ≡ head second = ei ∙ ap head (let z : j + 1 ≡ second = omega arith in z) in
    e5
    ∙ ap (λ l. slice_set (slice_set l h i) j (Jump end)) f4
    ∙ ap (λ n. slice_set (slice_set ((((old ++ x ∷ []) ++ ca) ++ y ∷ []) ++ cb) n i) j (Jump end)) eh
    ∙ ap (λ n. slice_set (slice_set ((((old ++ x ∷ []) ++ ca) ++ y ∷ []) ++ cb) pc i) n (Jump end)) jj
    ∙ patched old ca cb x y i (Jump end)
    ∙ ap (λ k. old ++ k ∷ (ca ++ Jump end ∷ cb)) is
    ∙ ap (λ n. old ++ head second ∷ (ca ++ Jump n ∷ cb)) l4

-- as a draft closes them
pub arms_closed : (caught : Option Caught) (a b : MachineCode) (old c1 c2 c3 c4 c5 : List MachineInstr) (h j : ℕ) (x y : MachineInstr)
    → h ≡ length old → c1 ≡ old ++ x ∷ [] → c2 ≡ c1 ++ a (length c1) → j ≡ length c2 → c3 ≡ c2 ++ y ∷ [] → c4 ≡ c3 ++ b (length c3)
    → c5 ≡ jumps_patched caught h j c4 → c5 ≡ old ++ arms Jump (head_of caught) a b (length old)
arms_closed caught a b old c1 c2 c3 c4 c5 h j x y eh e1 e2 ej e3 e4 e5 =
    arms_made (head_of caught) a b old c1 c2 c3 c4 c5 h j (length c4) x y (head_of caught (j + 1)) eh e1 e2 ej e3 e4 refl refl e5

-- a piece, and one instruction after it
pub then_one : (a : MachineCode) (i : MachineInstr) (c1 c2 c3 : List MachineInstr) → c2 ≡ c1 ++ a (length c1) → c3 ≡ c2 ++ i ∷ [] → c3 ≡ c1 ++ sequence a (one i) (length c1)
then_one a i c1 c2 c3 e f = f ∙ ap (λ l. l ++ i ∷ []) e ∙ append_assoc c1 (a (length c1)) (i ∷ [])

pub then_more : (a b : MachineCode) (c1 c2 c3 : List MachineInstr) → c2 ≡ c1 ++ a (length c1) → c3 ≡ c2 ++ b (length c2) → c3 ≡ c1 ++ sequence a b (length c1)
then_more a b c1 c2 c3 e f =
    let ca = a (length c1) in
    let n : length c2 ≡ length c1 + length ca = ap length e ∙ length-append c1 ca in
    f ∙ ap (λ m. c2 ++ b m) n ∙ ap (λ l. l ++ b (length c1 + length ca)) e ∙ append_assoc c1 ca (b (length c1 + length ca))

pub then_marked : (k : MarkKind) (line : ℕ) (halfway : Bool) (a : MachineCode) (c1 c2 c3 : List MachineInstr) → c2 ≡ c1 ++ begin_mark k line halfway ∷ [] → c3 ≡ c2 ++ a (length c2) → c3 ≡ c1 ++ machine_marked k line halfway a (length c1)
then_marked k line halfway a c1 c2 c3 e f = then_more (one (begin_mark k line halfway)) a c1 c2 c3 e f

-- a loop, when its end is there
pub loop_closed : (start : ℕ) (a : MachineCode) (old c1 c2 c3 : List MachineInstr) (h : ℕ) (x : MachineInstr)
    → h ≡ length old → c1 ≡ old ++ x ∷ [] → c2 ≡ c1 ++ a (length c1) → c3 ≡ closed_loop start h c2 → c3 ≡ old ++ loop Jump JumpZ start a (length old)
loop_closed start a old c1 c2 c3 h x eh e1 e2 e3 =
    let pc = length old in
    let l1 : length c1 ≡ pc + 1 = omega (arith, ap length e1, length-append old (x ∷ [])) in
    let ca = a (pc + 1) in
    let f2 : c2 ≡ (old ++ x ∷ []) ++ ca = e2 ∙ ap (λ n. c1 ++ a n) l1 ∙ ap (λ l. l ++ ca) e1 in
    let whole = ((old ++ x ∷ []) ++ ca) ++ Jump start ∷ [] in
    let flat : whole ≡ old ++ x ∷ (ca ++ Jump start ∷ []) = simp append_assoc in
    let end = pc + 1 + length ca + 1 in
    let l3 : length whole ≡ end = omega (arith, length-append ((old ++ x ∷ []) ++ ca) (Jump start ∷ []), length-append (old ++ x ∷ []) ca, length-append old (x ∷ [])) in
    e3
    ∙ ap (λ l. closed_loop start h l) f2
    ∙ ap (λ n. slice_set whole h (JumpZ n)) l3
    ∙ ap (λ l. slice_set l h (JumpZ end)) flat
    ∙ ap (λ n. slice_set (old ++ x ∷ (ca ++ Jump start ∷ [])) n (JumpZ end)) eh
    ∙ set-append_seam old x (ca ++ Jump start ∷ []) (JumpZ end)

-- the whole loop, from its mark on
pub looped_closed : (line start : ℕ) (test body : MachineCode) (old c1 c2 c3 c4 c5 : List MachineInstr) (h : ℕ) (x : MachineInstr)
    → start ≡ length old → c1 ≡ old ++ begin_mark kind.Quiet line false ∷ [] → c2 ≡ c1 ++ test (length c1)
    → h ≡ length c2 → c3 ≡ c2 ++ x ∷ [] → c4 ≡ c3 ++ body (length c3) → c5 ≡ closed_loop start h c4 → c5 ≡ old ++ machine_looped line test body (length old)
looped_closed line start test body old c1 c2 c3 c4 c5 h x es e1 e2 eh e3 e4 e5 =
    then_marked kind.Quiet line false (sequence test (loop Jump JumpZ start body)) old c1 c5 e1 (then_more test (loop Jump JumpZ start body) c1 c2 c5 e2 (loop_closed start body c2 c3 c4 c5 h x eh e3 e4 e5))
    ∙ ap (λ n. old ++ machine_marked kind.Quiet line false (sequence test (loop Jump JumpZ n body)) (length old)) es
