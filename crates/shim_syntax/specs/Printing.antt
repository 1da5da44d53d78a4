-- The canonical text of a program. It is made of pieces: tokens, after each of which a line ends or a space stands.
use Rattle.std.specs.Prelude.{ℕ, ℤ, pos, ◌==◌, List, [], ◌∷◌, ◌++◌, map, flat_map, Option, Some, None, Bool, true, false, if◌then◌else◌, nat_lt, nat_le, codes}
use Rattle.std.specs.Fmt.{signed_decimal}
use Rattle.shim_base.specs.declared.token.TokenKind.{TokenKind}
use Rattle.shim_base.specs.declared.token.TokenKind.TheVariants.{Word, Key, Number, Sign}
use Rattle.shim_base.specs.declared.token.Keyword.{Keyword}
use Rattle.shim_base.specs.declared.token.Keyword.TheVariants as k
use Rattle.shim_base.specs.declared.token.Sign.{Sign as SignOf}
use Rattle.shim_base.specs.declared.token.Sign.TheVariants as g
use Rattle.shim_base.specs.declared.types.Ty.{Ty}
use Rattle.shim_base.specs.declared.types.Ty.TheVariants.{Bool as BoolTy, Int8, Int16, Int32, Uint8, Uint16, Uint32, Int64}
use Rattle.shim_base.specs.declared.operators.BinOp.{BinOp}
use Rattle.shim_base.specs.declared.operators.BinOp.TheVariants as op
use Rattle.shim_base.specs.declared.operators.UnOp.{UnOp}
use Rattle.shim_base.specs.declared.operators.UnOp.TheVariants.{Neg, Not, Flip}
use Rattle.shim_syntax.specs.declared.tree.Sort.{Sort}
use Rattle.shim_syntax.specs.declared.tree.Sort.TheVariants.{Value, Input, Output}
use Rattle.shim_syntax.specs.declared.tree.Expr.{Expr, fold-Expr, Expr-F}
use Rattle.shim_syntax.specs.declared.tree.Call.{Call}
use Rattle.shim_syntax.specs.declared.tree.Stmt.{Stmt, fold-Stmt}
use Rattle.shim_syntax.specs.declared.tree.What.{What-F}
use Rattle.shim_syntax.specs.declared.tree.Branch.{Branch, fold-Branch}
use Rattle.shim_syntax.specs.declared.tree.BranchWhat.{BranchWhat-F}
use Rattle.shim_syntax.specs.declared.tree.Param.{Param}
use Rattle.shim_syntax.specs.declared.tree.Function.{Function}
use Rattle.shim_syntax.specs.declared.tree.Program.{Program}

-- a token of the canonical text, as it is printed
pub record PrintedPiece : Type 0 where
  pub kind : TokenKind
  pub text : List ℕ
  -- whether a line ends after the token
  pub ends_line : Bool
  -- whether it is a word that is a type in version 2 alone
  pub is_type : Bool

-- the bytes of a piece, with the line feed or the space after it
abbrev pub piece_text : PrintedPiece → List ℕ
piece_text p = p.text ++ (if p.ends_line then 10 else 32) ∷ []

-- the text of pieces, one after the other
abbrev pub pieces_text : List PrintedPiece → List ℕ
pieces_text pieces = flat_map piece_text pieces

abbrev pub key_text : Keyword → List ℕ
key_text k.Void = codes "void"
key_text k.Throws = codes "throws"
key_text k.Bool = codes "bool"
key_text k.Int = codes "int"
key_text k.Int8 = codes "int8"
key_text k.Int16 = codes "int16"
key_text k.Int32 = codes "int32"
key_text k.Uint8 = codes "uint8"
key_text k.Uint16 = codes "uint16"
key_text k.Uint32 = codes "uint32"
key_text k.Istream = codes "istream"
key_text k.Ostream = codes "ostream"
key_text k.Next = codes "next"
key_text k.Get = codes "get"
key_text k.Put = codes "put"
key_text k.If = codes "if"
key_text k.Else = codes "else"
key_text k.While = codes "while"
key_text k.For = codes "for"
key_text k.Try = codes "try"
key_text k.Catch = codes "catch"
key_text k.Throw = codes "throw"
key_text k.Par = codes "par"
key_text k.TrueKey = codes "true"
key_text k.FalseKey = codes "false"

abbrev pub sign_text : SignOf → List ℕ
sign_text g.Shl = codes "<<"
sign_text g.Shr = codes ">>"
sign_text g.Le = codes "<="
sign_text g.Ge = codes ">="
sign_text g.EqEq = codes "=="
sign_text g.NotEq = codes "!="
sign_text g.AndAnd = codes "&&"
sign_text g.OrOr = codes "||"
sign_text g.LeftParen = codes "("
sign_text g.RightParen = codes ")"
sign_text g.LeftBrace = codes "{"
sign_text g.RightBrace = codes "}"
sign_text g.Comma = codes ","
sign_text g.Semicolon = codes ";"
sign_text g.Equal = codes "="
sign_text g.Amp = codes "&"
sign_text g.Caret = codes "^"
sign_text g.Bar = codes "|"
sign_text g.Plus = codes "+"
sign_text g.Minus = codes "-"
sign_text g.Star = codes "*"
sign_text g.Slash = codes "/"
sign_text g.Percent = codes "%"
sign_text g.Tilde = codes "~"
sign_text g.Bang = codes "!"
sign_text g.Less = codes "<"
sign_text g.Greater = codes ">"

-- A keyword that a space follows. The same of a sign and of a name: `sign_piece`, `name_piece`.
abbrev pub key_piece : Keyword → PrintedPiece
key_piece word = record { kind = Key word; text = key_text word; ends_line = false; is_type = false }

abbrev pub sign_piece : SignOf → PrintedPiece
sign_piece s = record { kind = Sign s; text = sign_text s; ends_line = false; is_type = false }

abbrev pub name_piece : List ℕ → PrintedPiece
name_piece x = record { kind = Word; text = x; ends_line = false; is_type = false }

-- No text has a number below 0; one would be shown with its sign.
abbrev pub number_piece : ℤ → PrintedPiece
number_piece n = record { kind = Number n; text = signed_decimal n; ends_line = false; is_type = false }

-- a sign after which a line ends
abbrev pub line_end_piece : SignOf → PrintedPiece
line_end_piece s = record { kind = Sign s; text = sign_text s; ends_line = true; is_type = false }

-- the row of an operator with two operands, from the one that binds tightest
abbrev pub row_of_operator : BinOp → ℕ
row_of_operator op.Mul = 1
row_of_operator op.Div = 1
row_of_operator op.Rem = 1
row_of_operator op.Add = 2
row_of_operator op.Sub = 2
row_of_operator op.Shl = 3
row_of_operator op.Shr = 3
row_of_operator op.Lt = 4
row_of_operator op.Le = 4
row_of_operator op.Gt = 4
row_of_operator op.Ge = 4
row_of_operator op.Eq = 5
row_of_operator op.Ne = 5
row_of_operator op.BitAnd = 6
row_of_operator op.BitXor = 7
row_of_operator op.BitOr = 8
row_of_operator op.And = 9
row_of_operator op.Or = 10

-- the sign by which an operator with two operands is written
abbrev pub sign_of_operator : BinOp → SignOf
sign_of_operator op.Mul = g.Star
sign_of_operator op.Div = g.Slash
sign_of_operator op.Rem = g.Percent
sign_of_operator op.Add = g.Plus
sign_of_operator op.Sub = g.Minus
sign_of_operator op.Shl = g.Shl
sign_of_operator op.Shr = g.Shr
sign_of_operator op.Lt = g.Less
sign_of_operator op.Le = g.Le
sign_of_operator op.Gt = g.Greater
sign_of_operator op.Ge = g.Ge
sign_of_operator op.Eq = g.EqEq
sign_of_operator op.Ne = g.NotEq
sign_of_operator op.BitAnd = g.Amp
sign_of_operator op.BitXor = g.Caret
sign_of_operator op.BitOr = g.Bar
sign_of_operator op.And = g.AndAnd
sign_of_operator op.Or = g.OrOr

-- the sign by which an operator with one operand is written
abbrev pub sign_of_unary : UnOp → SignOf
sign_of_unary Neg = g.Minus
sign_of_unary Not = g.Bang
sign_of_unary Flip = g.Tilde

-- the word of a type: a keyword, or for `int64` a name that is a type in version 2 alone
abbrev pub type_piece : Ty → PrintedPiece
type_piece Int64 = record { kind = Word; text = codes "int64"; ends_line = false; is_type = true }
type_piece BoolTy = key_piece k.Bool
type_piece Int8 = key_piece k.Int8
type_piece Int16 = key_piece k.Int16
type_piece Int32 = key_piece k.Int32
type_piece Uint8 = key_piece k.Uint8
type_piece Uint16 = key_piece k.Uint16
type_piece Uint32 = key_piece k.Uint32

-- the word of a type or of a stream
abbrev pub sort_piece : Sort → PrintedPiece
sort_piece (Value ty) = type_piece ty
sort_piece Input = key_piece k.Istream
sort_piece Output = key_piece k.Ostream

-- the row of an expression's outermost operator where it has two operands, and else 0; and the pieces
pub record ExprShown : Type 0 where
  pub row : ℕ
  pub pieces : List PrintedPiece

-- the pieces, in parentheses where the truth value is `true`
abbrev pub wrapped : Bool → List PrintedPiece → List PrintedPiece
wrapped true ps = sign_piece g.LeftParen ∷ (ps ++ sign_piece g.RightParen ∷ [])
wrapped false ps = ps

-- How an expression is printed, given how its operands are. A left operand has parentheses if its row is greater than the operator's, a right one if its row isn't less. An only operand has them if its row isn't 0.
abbrev pub expr_step : Expr-F ExprShown → ExprShown
expr_step (Expr-F.Number n) = record { row = 0; pieces = number_piece n ∷ [] }
expr_step (Expr-F.Var x) = record { row = 0; pieces = name_piece x ∷ [] }
expr_step (Expr-F.Unary o a) = record { row = 0; pieces = sign_piece (sign_of_unary o) ∷ wrapped (nat_lt 0 a.row) a.pieces }
expr_step (Expr-F.Binary o a b) =
    record { row = row_of_operator o; pieces = wrapped (nat_lt (row_of_operator o) a.row) a.pieces ++ sign_piece (sign_of_operator o) ∷ wrapped (nat_le (row_of_operator o) b.row) b.pieces }

-- The row and the pieces of an expression. Each of the two alone: `expr_row`, `expr_pieces`.
abbrev pub expr_shown : Expr → ExprShown
expr_shown = fold-Expr ExprShown expr_step

abbrev pub expr_row : Expr → ℕ
expr_row e = (expr_shown e).row

abbrev pub expr_pieces : Expr → List PrintedPiece
expr_pieces e = (expr_shown e).pieces

-- arguments, each after a comma
abbrev pub more_args_pieces : List Expr → List PrintedPiece
more_args_pieces [] = []
more_args_pieces (e ∷ es) = sign_piece g.Comma ∷ (expr_pieces e ++ more_args_pieces es)

-- arguments with commas between them
abbrev pub args_pieces : List Expr → List PrintedPiece
args_pieces [] = []
args_pieces (e ∷ es) = expr_pieces e ++ more_args_pieces es

-- a call without a semicolon
abbrev pub call_pieces : Call → List PrintedPiece
call_pieces c = name_piece c.function ∷ sign_piece g.LeftParen ∷ (args_pieces c.args ++ sign_piece g.RightParen ∷ [])

-- `=` and a first value, where there is one
abbrev pub first_value_pieces : Option Expr → List PrintedPiece
first_value_pieces None = []
first_value_pieces (Some e) = sign_piece g.Equal ∷ expr_pieces e

-- the test of a `for`, where there is one
abbrev pub test_pieces : Option Expr → List PrintedPiece
test_pieces None = []
test_pieces (Some e) = expr_pieces e

-- the variable of a handler, where it has one
abbrev pub variable_pieces : Option (List ℕ) → List PrintedPiece
variable_pieces None = []
variable_pieces (Some x) = name_piece x ∷ []

-- the number of a throw in its parentheses, where it has one
abbrev pub thrown_number_pieces : Option Expr → List PrintedPiece
thrown_number_pieces None = []
thrown_number_pieces (Some e) = sign_piece g.LeftParen ∷ (expr_pieces e ++ sign_piece g.RightParen ∷ [])

-- a statement without the semicolon at its end, and whether it has one
pub record StmtShown : Type 0 where
  pub pieces : List PrintedPiece
  pub semicolon : Bool

-- the semicolon at the end of a statement, if the statement has one
abbrev pub end_pieces : Bool → List PrintedPiece
end_pieces true = line_end_piece g.Semicolon ∷ []
end_pieces false = []

-- statements one after another
abbrev pub all_pieces : List StmtShown → List PrintedPiece
all_pieces [] = []
all_pieces (s ∷ ss) = s.pieces ++ (end_pieces s.semicolon ++ all_pieces ss)

-- the first statement or the step of a `for`, without a semicolon after it
abbrev pub part_pieces : List StmtShown → List PrintedPiece
part_pieces [] = []
part_pieces (s ∷ ss) = s.pieces ++ part_pieces ss

-- statements in braces; a line ends after each brace
abbrev pub block_pieces : List StmtShown → List PrintedPiece
block_pieces body = line_end_piece g.LeftBrace ∷ (all_pieces body ++ line_end_piece g.RightBrace ∷ [])

-- `else` with its block, or nothing if the block has no statement
abbrev pub else_pieces : List StmtShown → List PrintedPiece
else_pieces [] = []
else_pieces (s ∷ ss) = key_piece k.Else ∷ block_pieces (s ∷ ss)

-- `par` before a branch, but nothing before the first one
abbrev pub par_pieces : Bool → List PrintedPiece
par_pieces true = []
par_pieces false = key_piece k.Par ∷ []

-- branches, each after a `par`; where `first` is `true`, no `par` stands before the first of them
abbrev pub fork_pieces : Bool → List (List PrintedPiece) → List PrintedPiece
fork_pieces first [] = []
fork_pieces first (b ∷ bs) = par_pieces first ++ (b ++ fork_pieces false bs)

-- the pieces of a branch, given how the statements of its block are printed
abbrev pub print_branch_step : BranchWhat-F (List PrintedPiece) StmtShown (List PrintedPiece) StmtShown → List PrintedPiece
print_branch_step (BranchWhat-F.BranchWhat::Block body) = block_pieces body
print_branch_step (BranchWhat-F.BranchWhat::Call call) = call_pieces call ++ line_end_piece g.Semicolon ∷ []

-- what a semicolon follows
abbrev pub simple : List PrintedPiece → StmtShown
simple ps = record { pieces = ps; semicolon = true }

-- what ends with a brace, or with a branch
abbrev pub without_semicolon : List PrintedPiece → StmtShown
without_semicolon ps = record { pieces = ps; semicolon = false }

-- how a statement is printed, given how the statements and the branches inside it are
abbrev pub print_stmt_step : What-F (List PrintedPiece) StmtShown (List PrintedPiece) StmtShown → StmtShown
print_stmt_step (What-F.Declare ty x value) = simple (type_piece ty ∷ name_piece x ∷ first_value_pieces value)
print_stmt_step (What-F.Assign x value) = simple (name_piece x ∷ sign_piece g.Equal ∷ expr_pieces value)
print_stmt_step (What-F.Next x) = simple (key_piece k.Next ∷ name_piece x ∷ [])
print_stmt_step (What-F.NextAssign x value) = simple (key_piece k.Next ∷ name_piece x ∷ sign_piece g.Equal ∷ expr_pieces value)
print_stmt_step (What-F.AssignNext x y) = simple (name_piece x ∷ sign_piece g.Equal ∷ key_piece k.Next ∷ name_piece y ∷ [])
print_stmt_step (What-F.Get x y) = simple (name_piece x ∷ sign_piece g.Equal ∷ key_piece k.Get ∷ name_piece y ∷ [])
print_stmt_step (What-F.Put x value) = simple (key_piece k.Put ∷ name_piece x ∷ sign_piece g.Comma ∷ expr_pieces value)
print_stmt_step (What-F.If test first other) = without_semicolon (key_piece k.If ∷ sign_piece g.LeftParen ∷ (expr_pieces test ++ sign_piece g.RightParen ∷ (block_pieces first ++ else_pieces other)))
print_stmt_step (What-F.While test body) = without_semicolon (key_piece k.While ∷ sign_piece g.LeftParen ∷ (expr_pieces test ++ sign_piece g.RightParen ∷ block_pieces body))
print_stmt_step (What-F.For first test step body) =
    without_semicolon (key_piece k.For ∷ sign_piece g.LeftParen ∷ (part_pieces first ++ sign_piece g.Semicolon ∷ (test_pieces test ++ sign_piece g.Semicolon ∷ (part_pieces step ++ sign_piece g.RightParen ∷ block_pieces body))))
print_stmt_step (What-F.What::Block body) = without_semicolon (block_pieces body)
print_stmt_step (What-F.What::Call call) = simple (call_pieces call)
print_stmt_step (What-F.Try body x y handler) =
    without_semicolon (key_piece k.Try ∷ (block_pieces body ++ key_piece k.Catch ∷ sign_piece g.LeftParen ∷ name_piece x ∷ (variable_pieces y ++ sign_piece g.RightParen ∷ block_pieces handler)))
print_stmt_step (What-F.Throw x e) = simple (key_piece k.Throw ∷ name_piece x ∷ thrown_number_pieces e)
print_stmt_step (What-F.Par branches) = without_semicolon (fork_pieces true branches)

-- the pieces of a statement, and whether a semicolon ends it
abbrev pub stmt_shown : Stmt → StmtShown
stmt_shown = fold-Stmt (List PrintedPiece) StmtShown (List PrintedPiece) StmtShown print_branch_step print_stmt_step (λ b. b.what) (λ s. s.what)

-- the pieces of a branch, with the semicolon of a call
abbrev pub branch_pieces : Branch → List PrintedPiece
branch_pieces = fold-Branch (List PrintedPiece) StmtShown (List PrintedPiece) StmtShown print_branch_step print_stmt_step (λ b. b.what) (λ s. s.what)

-- the `&` of a parameter that is by reference
abbrev pub reference_pieces : Bool → List PrintedPiece
reference_pieces true = sign_piece g.Amp ∷ []
reference_pieces false = []

abbrev pub param_pieces : Param → List PrintedPiece
param_pieces p = sort_piece p.sort ∷ (reference_pieces p.by_ref ++ name_piece p.name ∷ [])

-- parameters, each after a comma
abbrev pub more_params_pieces : List Param → List PrintedPiece
more_params_pieces [] = []
more_params_pieces (p ∷ ps) = sign_piece g.Comma ∷ (param_pieces p ++ more_params_pieces ps)

-- parameters with commas between them
abbrev pub params_pieces : List Param → List PrintedPiece
params_pieces [] = []
params_pieces (p ∷ ps) = param_pieces p ++ more_params_pieces ps

-- exceptions that a function throws, each after a comma
abbrev pub more_throws_pieces : List (List ℕ) → List PrintedPiece
more_throws_pieces [] = []
more_throws_pieces (x ∷ xs) = sign_piece g.Comma ∷ name_piece x ∷ more_throws_pieces xs

-- `throws` with its exceptions, or nothing if there are none
abbrev pub throws_pieces : List (List ℕ) → List PrintedPiece
throws_pieces [] = []
throws_pieces (x ∷ xs) = key_piece k.Throws ∷ name_piece x ∷ more_throws_pieces xs

abbrev pub function_pieces : Function → List PrintedPiece
function_pieces f =
    key_piece k.Void ∷ name_piece f.name ∷ sign_piece g.LeftParen ∷ (params_pieces f.params ++ sign_piece g.RightParen ∷ (throws_pieces f.throws ++ block_pieces (map stmt_shown f.body)))

abbrev pub functions_pieces : List Function → List PrintedPiece
functions_pieces [] = []
functions_pieces (f ∷ fs) = function_pieces f ++ functions_pieces fs

-- the number in the header of version 2
abbrev pub version_piece : PrintedPiece
version_piece = record { kind = Number (pos 2); text = codes "2"; ends_line = false; is_type = false }

-- the header `shim 2;` of version 2; any other version has none
abbrev pub header_pieces : ℕ → List PrintedPiece
header_pieces version = if version == 2 then name_piece (codes "shim") ∷ version_piece ∷ line_end_piece g.Semicolon ∷ [] else []

-- the pieces of a program, with its header
abbrev pub pieces : Program → List PrintedPiece
pieces program = header_pieces program.version ++ functions_pieces program.functions

-- the canonical text of a program
abbrev pub canonical : Program → List ℕ
canonical program = pieces_text (pieces program)
