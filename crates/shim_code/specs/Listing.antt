-- Code as text.
use Rattle.std.specs.Prelude.{ℕ, ◌+◌, List, [], ◌∷◌, ◌++◌, Option, Some, None, codes, decimal, flat_map}
use Rattle.std.specs.Fmt.{signed_decimal}
use Rattle.shim_base.specs.declared.operators.BinOp.{BinOp}
use Rattle.shim_base.specs.declared.operators.BinOp.TheVariants as op
use Rattle.shim_base.specs.declared.operators.UnOp.{UnOp}
use Rattle.shim_base.specs.declared.operators.UnOp.TheVariants as un
use Rattle.shim_code.specs.declared.instr.MarkKind.{MarkKind}
use Rattle.shim_code.specs.declared.instr.MarkKind.TheVariants as kind
use Rattle.shim_code.specs.declared.instr.Instr.{Instr}
use Rattle.shim_code.specs.declared.instr.Instr.TheVariants.{Mark, Num, Var, Un, Bin, Bool, Jump, JumpZ, Declare, Set, Get, Put, Next, Ref, Pass, Fresh, Call, Branch, Fork, Try, Untry, Throw, End}
use Rattle.shim_code.specs.declared.unit.CodeUnit.{CodeUnit}

-- the word of the kind of a mark
abbrev pub kind_word : MarkKind → List ℕ
kind_word kind.Quiet = codes "quiet"
kind_word kind.Next = codes "next"
kind_word kind.Put = codes "put"
kind_word kind.Fork = codes "fork"
kind_word kind.Throw = codes "throw"

-- the words of the instruction of an operator with one operand
abbrev pub un_word : UnOp → List ℕ
un_word un.Neg = codes "un neg"
un_word un.Not = codes "un not"
un_word un.Flip = codes "un flip"

-- The words of the instruction of an operator with two operands. `&&` and `||` have the words of the operators on bits; no code has an instruction of `&&` or `||`.
abbrev pub bin_word : BinOp → List ℕ
bin_word op.Mul = codes "bin mul"
bin_word op.Div = codes "bin div"
bin_word op.Rem = codes "bin rem"
bin_word op.Add = codes "bin add"
bin_word op.Sub = codes "bin sub"
bin_word op.Shl = codes "bin shl"
bin_word op.Shr = codes "bin shr"
bin_word op.Lt = codes "bin lt"
bin_word op.Le = codes "bin le"
bin_word op.Gt = codes "bin gt"
bin_word op.Ge = codes "bin ge"
bin_word op.Eq = codes "bin eq"
bin_word op.Ne = codes "bin ne"
bin_word op.BitAnd = codes "bin and"
bin_word op.BitXor = codes "bin xor"
bin_word op.BitOr = codes "bin or"
bin_word op.And = codes "bin and"
bin_word op.Or = codes "bin or"

-- the word, a space and the number
abbrev pub then_number : List ℕ → ℕ → List ℕ
then_number word n = word ++ (codes " " ++ decimal n)

-- the slot of a handler's variable stands last, where there is one
abbrev pub then_slot : List ℕ → Option ℕ → List ℕ
then_slot text None = text
then_slot text (Some y) = then_number text y

-- The word of an instruction and its operands, with a space before each operand. The exceptions of a call or of a branch are not printed.
abbrev pub instr_text : Instr → List ℕ
instr_text (Mark k line) = codes "mark " ++ then_number (kind_word k) line
instr_text (Num n) = codes "num " ++ signed_decimal n
instr_text (Var x) = then_number (codes "var") x
instr_text (Un o) = un_word o
instr_text (Bin o) = bin_word o
instr_text Bool = codes "bool"
instr_text (Jump t) = then_number (codes "jump") t
instr_text (JumpZ t) = then_number (codes "jumpz") t
instr_text (Declare x) = then_number (codes "declare") x
instr_text (Set x) = then_number (codes "set") x
instr_text (Get x) = then_number (codes "get") x
instr_text (Put x) = then_number (codes "put") x
instr_text (Next x) = then_number (codes "next") x
instr_text (Ref x) = then_number (codes "ref") x
instr_text (Pass x) = then_number (codes "pass") x
instr_text Fresh = codes "fresh"
instr_text (Call u n throws) = then_number (then_number (codes "call") u) n
instr_text (Branch u n throws) = then_number (then_number (codes "branch") u) n
instr_text (Fork n) = then_number (codes "fork") n
instr_text (Try t x y) = then_slot (then_number (then_number (codes "try") t) x) y
instr_text Untry = codes "untry"
instr_text (Throw x) = then_number (codes "throw") x
instr_text End = codes "end"

-- the line of an instruction: its place, a space and its text
abbrev pub line_text : ℕ → Instr → List ℕ
line_text n i = decimal n ++ (codes " " ++ (instr_text i ++ codes "\n"))

-- the lines of these instructions, of which the first has this place
abbrev pub lines_text : ℕ → List Instr → List ℕ
lines_text n [] = []
lines_text n (i ∷ is) = line_text n i ++ lines_text (n + 1) is

-- a line with the word `unit` and the title of the unit, and the lines of its instructions after it
abbrev pub unit_text : CodeUnit → List ℕ
unit_text u = codes "unit " ++ (u.title ++ (codes "\n" ++ lines_text 0 u.code))

-- the texts of the units, in their order
abbrev pub listing : List CodeUnit → List ℕ
listing units = flat_map unit_text units
