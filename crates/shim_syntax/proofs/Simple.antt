-- The simple statements, each read from its own pieces.
use Rattle.std.proofs.Common.{ℕ, suc, ◌+◌, ◌≤◌, ◌≡◌, true, List, [], ◌∷◌, ◌++◌, map, Option, Some, None, refl, sym, ap, ◌∙◌, arith}
use Rattle.std.proofs.lemmas.List.{append_assoc}
use Rattle.shim_base.specs.declared.Keyword.TheVariants as kw
use Rattle.shim_base.specs.declared.Sign.TheVariants as g
use Rattle.shim_base.specs.declared.Ty.{Ty}
use Rattle.shim_base.specs.declared.Ty.TheVariants.{Bool as BoolTy, Int8, Int16, Int32, Uint8, Uint16, Uint32, Int64}
use Rattle.shim_base.specs.Tokens.{Place}
use Rattle.shim_syntax.specs.declared.limits.Many.TheVariants.{Locals}
use Rattle.shim_syntax.specs.declared.tree.Sort.{Sort as SortOf}
use Rattle.shim_syntax.specs.declared.tree.Sort.TheVariants.{Value, Input, Output}
use Rattle.shim_syntax.specs.declared.tree.Expr.{Expr}
use Rattle.shim_syntax.specs.declared.tree.Stmt.{Stmt}
use Rattle.shim_syntax.specs.declared.tree.What.TheVariants as st
use Rattle.shim_syntax.specs.Terminals.{Terminal, Name, Sort, Key, Sign}
use Rattle.shim_syntax.specs.Limits.{Count, Nesting, is_within, limits}
use Rattle.shim_syntax.specs.Grammar.{TextCounts, at_level, with_local, IsWhole, IsArguments, IsDeclared, IsDeclarations, IsFirst, IsTest, IsStep, IsThrowRest}
use Rattle.shim_syntax.specs.Grammar as gr
use Rattle.shim_syntax.specs.Printing.{PrintedPiece, StmtShown, stmt_shown, simple, key_piece, sign_piece, name_piece, line_end_piece, type_piece, sort_piece, expr_pieces, args_pieces, first_value_pieces, test_pieces, thrown_number_pieces, part_pieces}
use Rattle.shim_syntax.proofs.Standing.{ArePrefix, nothing, piece}
use Rattle.shim_syntax.proofs.Expressions.{IsAlike, level_of}
use Rattle.shim_syntax.proofs.StatementShapes.{AreSame, other_line, declare_shown, assign_shown, next_shown, next_assign_shown, assign_next_shown, get_shown, put_shown, call_shown, throw_shown}
use Rattle.shim_syntax.proofs.Parts.{ReadRelation, IsDone, IsPart, Both, both, IsPiece, here, front_name, front_key, front_type, front_sign, front_last, mapped, same_pieces, from_level, at_own_level, Whole, whole_part, Arguments, args_part}
use Rattle.shim_syntax.proofs.Readings.{One, IsStmtsPart, simple_pieces, one_stmt, stmts_more_behind}

-- the word of a sort
pub data IsSort (sort : SortOf) : ℕ → TextCounts → TextCounts → List Terminal → List Terminal → Type 0 where
  is_sort : {k : ℕ} {a : TextCounts} {q : List Terminal} (place : Place) → IsSort sort k a a (Sort sort place ∷ q) q

type_read : (ty : Ty) (k : ℕ) (a b : TextCounts) (t q : List Terminal) → IsPiece (type_piece ty) k a b t q → IsSort (Value ty) k a b t q
type_read BoolTy k a _ _ q (here place) = is_sort place
type_read Int8 k a _ _ q (here place) = is_sort place
type_read Int16 k a _ _ q (here place) = is_sort place
type_read Int32 k a _ _ q (here place) = is_sort place
type_read Uint8 k a _ _ q (here place) = is_sort place
type_read Uint16 k a _ _ q (here place) = is_sort place
type_read Uint32 k a _ _ q (here place) = is_sort place
type_read Int64 k a _ _ q (here place) = is_sort place

pub sort_read : (sort : SortOf) (k : ℕ) (a b : TextCounts) (t q : List Terminal) → IsPiece (sort_piece sort) k a b t q → IsSort sort k a b t q
sort_read (Value ty) k a b t q h = type_read ty k a b t q h
sort_read Input k a _ _ q (here place) = is_sort place
sort_read Output k a _ _ q (here place) = is_sort place

-- a name that is declared
pub data IsLocal (x : List ℕ) : ℕ → TextCounts → TextCounts → List Terminal → List Terminal → Type 0 where
  local : {k : ℕ} {a : TextCounts} {q : List Terminal} (place : Place) → is_within (Count Locals) (suc a.locals) ≡ true → IsLocal x k a (with_local a) (Name x place ∷ q) q

pub local_part : {l : ℕ} {v : TextCounts} {r : List Terminal} (x : List ℕ) (p : Place) → is_within (Count Locals) (suc v.locals) ≡ true → IsPart l v (with_local v) (Name x p ∷ r) r (name_piece x ∷ []) (IsLocal x)
local_part {l = l} {v = v} x p fits = record {
  deeper = omega arith;
  within = λ h. h;
  spelled = λ ver good. ((good.0.0, good.0.1, good.0.2, tt), good.1);
  read = read;
} where
  read : (k : ℕ) (a : TextCounts) (t q : List Terminal) → k + v.deepest ≤ l + 64 → IsAlike v a → ArePrefix (name_piece x ∷ []) t q → IsDone (IsLocal x) k (with_local v) a t q
  read k a _ q room alike (piece place nothing) = record {
    behind = with_local a;
    alike = (alike.0, ap suc alike.1, alike.2);
    is = local place (ap (λ (n : ℕ). is_within (Count Locals) (suc n)) alike.1 ∙ fits);
  }

abbrev pub Declared : List ℕ → Option Expr → ReadRelation
Declared x value k a b t q = IsDeclared limits k a b t q x value

-- a declared name
declared_part : {l : ℕ} {v w : TextCounts} {s r : List Terminal} {x : List ℕ} {value : Option Expr} → IsDeclared limits l v w s r x value →
    IsPart l v w s r (name_piece x ∷ first_value_pieces value) (Declared x value)
declared_part (gr.without_value {x = x} {p = p} fits) = mapped build (local_part x p fits) where
  build : (k : ℕ) (a b : TextCounts) (t q : List Terminal) → IsLocal x k a b t q → Declared x None k a b t q
  build k a _ _ q (local place count) = gr.without_value count
declared_part (gr.with_value {x = x} {p = p} {value = value} fits h) = mapped build (both (local_part x p fits) (both (front_sign g.Equal) (whole_part h))) where
  build : (k : ℕ) (a b : TextCounts) (t q : List Terminal) → Both (IsLocal x) (Both (IsPiece (sign_piece g.Equal)) (Whole value)) k a b t q → Declared x (Some value) k a b t q
  build k a b _ q (_, _, local place count, (_, _, here o, whole)) = gr.with_value count whole

abbrev declare_stmt : ℕ → Ty → List ℕ → Option Expr → Stmt
declare_stmt line ty x value = record { line = line; what = st.Declare ty x value }

-- one declared name is a statement
one_declared : {l : ℕ} {v w : TextCounts} {y : Terminal} {p : Place} {s r : List Terminal} (line : ℕ) (ty : Ty) (x : List ℕ) (value : Option Expr) → l ≤ v.deepest → IsDeclared limits l v w s (y ∷ r) x value →
    IsStmtsPart l v w (Sort (Value ty) p ∷ s) r (declare_stmt line ty x value ∷ [])
one_declared line ty x value some h =
    one_stmt (declare_stmt line ty x value) some
    (same_pieces (simple_pieces (declare_stmt line ty x value) (type_piece ty ∷ name_piece x ∷ first_value_pieces value) (declare_shown line ty x value))
    (mapped build (both (front_type ty) (both (declared_part h) (front_last g.Semicolon))))) where
      behind_type : (k : ℕ) (a c b : TextCounts) (t m q : List Terminal) → IsSort (Value ty) k a c t m → Both (Declared x value) (IsPiece (line_end_piece g.Semicolon)) k c b m q →
          One (declare_stmt line ty x value) k a b t q
      behind_type k a _ _ _ m q (is_sort place) (_, _, declared, here o) =
          (declare_stmt place.line ty x value, other_line place.line line (st.Declare ty x value), λ no_par no_else. gr.plain (gr.declare (gr.last_declared declared)))

      build : (k : ℕ) (a b : TextCounts) (t q : List Terminal) → Both (IsPiece (type_piece ty)) (Both (Declared x value) (IsPiece (line_end_piece g.Semicolon))) k a b t q →
          One (declare_stmt line ty x value) k a b t q
      build k a b t q (c, m, word, rest) = behind_type k a c b t m q (type_read ty k a c t m word) rest

-- the declarations after a type
declarations : (l line : ℕ) (ty : Ty) (v w : TextCounts) (p : Place) (s r : List Terminal) (xs : List Stmt) → l ≤ v.deepest → IsDeclarations limits l ty line v w s r xs
    → IsStmtsPart l v w (Sort (Value ty) p ∷ s) r xs
declarations l line ty v w p s r _ some (gr.last_declared {x = x} {value = value} h) = one_declared line ty x value some h
declarations l line ty v w p s r _ some (gr.declared {u = u} {m = m} {x = x} {value = value} {xs = xs} h more) =
    let here_part = one_declared {p = p} line ty x value some h in
    stmts_more_behind (declare_stmt line ty x value ∷ []) xs here_part (declarations l line ty u w p m r xs (omega (arith, some, here_part.deeper)) more)

pub declare_part : {l line : ℕ} {ty : Ty} {v w : TextCounts} {p : Place} {s r : List Terminal} {xs : List Stmt} → l ≤ v.deepest → IsDeclarations limits l ty line v w s r xs →
    IsStmtsPart l v w (Sort (Value ty) p ∷ s) r xs
declare_part {l = l} {line = line} {ty = ty} {v = v} {w = w} {p = p} {s = s} {r = r} {xs = xs} some h = declarations l line ty v w p s r xs some h

pub assign_part : {l : ℕ} {v w : TextCounts} {p e o : Place} {s r : List Terminal} {x : List ℕ} {value : Expr} (line : ℕ) → l ≤ v.deepest → IsWhole limits l v w s (Sign g.Semicolon o ∷ r) value →
    IsStmtsPart l v w (Name x p ∷ Sign g.Equal e ∷ s) r (record { line = line; what = st.Assign x value } ∷ [])
assign_part {p = p} {x = x} {value = value} line some h =
    one_stmt (record { line = line; what = st.Assign x value }) some
    (same_pieces (simple_pieces (record { line = line; what = st.Assign x value }) (name_piece x ∷ sign_piece g.Equal ∷ expr_pieces value) (assign_shown line x value))
    (mapped build (both (front_name x p) (both (front_sign g.Equal) (both (whole_part h) (front_last g.Semicolon)))))) where
      build : (k : ℕ) (a b : TextCounts) (t q : List Terminal) → Both (IsPiece (name_piece x)) (Both (IsPiece (sign_piece g.Equal)) (Both (Whole value) (IsPiece (line_end_piece g.Semicolon)))) k a b t q →
          One (record { line = line; what = st.Assign x value }) k a b t q
      build k a _ _ q (_, _, here i, (_, _, here j, (_, _, whole, here n))) =
          (record { line = i.line; what = st.Assign x value }, other_line i.line line (st.Assign x value), λ no_par no_else. gr.plain (gr.assign whole))

pub assign_next_part : {l : ℕ} {v : TextCounts} {p q o a b : Place} {r : List Terminal} {x y : List ℕ} (line : ℕ) → l ≤ v.deepest →
    IsStmtsPart l v v (Name x p ∷ Sign g.Equal q ∷ Key kw.Next o ∷ Name y a ∷ Sign g.Semicolon b ∷ r) r (record { line = line; what = st.AssignNext x y } ∷ [])
assign_next_part {p = p} {a = d} {x = x} {y = y} line some =
    one_stmt (record { line = line; what = st.AssignNext x y }) some
    (same_pieces (simple_pieces (record { line = line; what = st.AssignNext x y }) (name_piece x ∷ sign_piece g.Equal ∷ key_piece kw.Next ∷ name_piece y ∷ []) (assign_next_shown line x y))
    (mapped build (both (front_name x p) (both (front_sign g.Equal) (both (front_key kw.Next) (both (front_name y d) (front_last g.Semicolon))))))) where
      build : (k : ℕ) (a b : TextCounts) (t q : List Terminal) →
          Both (IsPiece (name_piece x)) (Both (IsPiece (sign_piece g.Equal)) (Both (IsPiece (key_piece kw.Next)) (Both (IsPiece (name_piece y)) (IsPiece (line_end_piece g.Semicolon))))) k a b t q →
          One (record { line = line; what = st.AssignNext x y }) k a b t q
      build k a _ _ q (_, _, here i, (_, _, here j, (_, _, here m, (_, _, here n, here z)))) =
          (record { line = i.line; what = st.AssignNext x y }, other_line i.line line (st.AssignNext x y), λ no_par no_else. gr.plain gr.assign_next)

pub get_part : {l : ℕ} {v : TextCounts} {p q o a b : Place} {r : List Terminal} {x y : List ℕ} (line : ℕ) → l ≤ v.deepest →
    IsStmtsPart l v v (Name x p ∷ Sign g.Equal q ∷ Key kw.Get o ∷ Name y a ∷ Sign g.Semicolon b ∷ r) r (record { line = line; what = st.Get x y } ∷ [])
get_part {p = p} {a = d} {x = x} {y = y} line some =
    one_stmt (record { line = line; what = st.Get x y }) some
    (same_pieces (simple_pieces (record { line = line; what = st.Get x y }) (name_piece x ∷ sign_piece g.Equal ∷ key_piece kw.Get ∷ name_piece y ∷ []) (get_shown line x y))
    (mapped build (both (front_name x p) (both (front_sign g.Equal) (both (front_key kw.Get) (both (front_name y d) (front_last g.Semicolon))))))) where
      build : (k : ℕ) (a b : TextCounts) (t q : List Terminal) →
          Both (IsPiece (name_piece x)) (Both (IsPiece (sign_piece g.Equal)) (Both (IsPiece (key_piece kw.Get)) (Both (IsPiece (name_piece y)) (IsPiece (line_end_piece g.Semicolon))))) k a b t q →
          One (record { line = line; what = st.Get x y }) k a b t q
      build k a _ _ q (_, _, here i, (_, _, here j, (_, _, here m, (_, _, here n, here z)))) =
          (record { line = i.line; what = st.Get x y }, other_line i.line line (st.Get x y), λ no_par no_else. gr.plain gr.get)

pub next_part : {l : ℕ} {v : TextCounts} {p q o : Place} {r : List Terminal} {x : List ℕ} (line : ℕ) → l ≤ v.deepest →
    IsStmtsPart l v v (Key kw.Next p ∷ Name x q ∷ Sign g.Semicolon o ∷ r) r (record { line = line; what = st.Next x } ∷ [])
next_part {q = d} {x = x} line some =
    one_stmt (record { line = line; what = st.Next x }) some
    (same_pieces (simple_pieces (record { line = line; what = st.Next x }) (key_piece kw.Next ∷ name_piece x ∷ []) (next_shown line x))
    (mapped build (both (front_key kw.Next) (both (front_name x d) (front_last g.Semicolon))))) where
      build : (k : ℕ) (a b : TextCounts) (t q : List Terminal) → Both (IsPiece (key_piece kw.Next)) (Both (IsPiece (name_piece x)) (IsPiece (line_end_piece g.Semicolon))) k a b t q →
          One (record { line = line; what = st.Next x }) k a b t q
      build k a _ _ q (_, _, here i, (_, _, here j, here z)) = (record { line = i.line; what = st.Next x }, other_line i.line line (st.Next x), λ no_par no_else. gr.plain gr.next)

pub next_assign_part : {l : ℕ} {v w : TextCounts} {p q o a : Place} {s r : List Terminal} {x : List ℕ} {value : Expr} (line : ℕ) → l ≤ v.deepest → IsWhole limits l v w s (Sign g.Semicolon a ∷ r) value →
    IsStmtsPart l v w (Key kw.Next p ∷ Name x q ∷ Sign g.Equal o ∷ s) r (record { line = line; what = st.NextAssign x value } ∷ [])
next_assign_part {q = d} {x = x} {value = value} line some h =
    one_stmt (record { line = line; what = st.NextAssign x value }) some
    (same_pieces (simple_pieces (record { line = line; what = st.NextAssign x value }) (key_piece kw.Next ∷ name_piece x ∷ sign_piece g.Equal ∷ expr_pieces value) (next_assign_shown line x value))
    (mapped build (both (front_key kw.Next) (both (front_name x d) (both (front_sign g.Equal) (both (whole_part h) (front_last g.Semicolon))))))) where
      build : (k : ℕ) (a b : TextCounts) (t q : List Terminal) →
          Both (IsPiece (key_piece kw.Next)) (Both (IsPiece (name_piece x)) (Both (IsPiece (sign_piece g.Equal)) (Both (Whole value) (IsPiece (line_end_piece g.Semicolon))))) k a b t q →
          One (record { line = line; what = st.NextAssign x value }) k a b t q
      build k a _ _ q (_, _, here i, (_, _, here j, (_, _, here m, (_, _, whole, here z)))) =
          (record { line = i.line; what = st.NextAssign x value }, other_line i.line line (st.NextAssign x value), λ no_par no_else. gr.plain (gr.next_assign whole))

pub put_part : {l : ℕ} {v w : TextCounts} {p q o a : Place} {s r : List Terminal} {x : List ℕ} {value : Expr} (line : ℕ) → l ≤ v.deepest → IsWhole limits l v w s (Sign g.Semicolon a ∷ r) value →
    IsStmtsPart l v w (Key kw.Put p ∷ Name x q ∷ Sign g.Comma o ∷ s) r (record { line = line; what = st.Put x value } ∷ [])
put_part {q = d} {x = x} {value = value} line some h =
    one_stmt (record { line = line; what = st.Put x value }) some
    (same_pieces (simple_pieces (record { line = line; what = st.Put x value }) (key_piece kw.Put ∷ name_piece x ∷ sign_piece g.Comma ∷ expr_pieces value) (put_shown line x value))
    (mapped build (both (front_key kw.Put) (both (front_name x d) (both (front_sign g.Comma) (both (whole_part h) (front_last g.Semicolon))))))) where
      build : (k : ℕ) (a b : TextCounts) (t q : List Terminal) →
          Both (IsPiece (key_piece kw.Put)) (Both (IsPiece (name_piece x)) (Both (IsPiece (sign_piece g.Comma)) (Both (Whole value) (IsPiece (line_end_piece g.Semicolon))))) k a b t q →
          One (record { line = line; what = st.Put x value }) k a b t q
      build k a _ _ q (_, _, here i, (_, _, here j, (_, _, here m, (_, _, whole, here z)))) =
          (record { line = i.line; what = st.Put x value }, other_line i.line line (st.Put x value), λ no_par no_else. gr.plain (gr.put whole))

-- what stands after the exception of a `throw`, with the semicolon
abbrev ThrowRest : Option Expr → ReadRelation
ThrowRest x k a b t q = IsThrowRest limits k a b t q x

-- what is read in version 2 alone, where the source is of version 2
pub where_two : {l : ℕ} {v w : TextCounts} {s r : List Terminal} {ps : List PrintedPiece} {R : ReadRelation} → v.two ≡ true → IsPart l v w s r ps R → IsPart l v w s r ps (λ k a b t q. (a.two ≡ true) × R k a b t q)
where_two two part = record {
  deeper = part.deeper;
  within = part.within;
  spelled = part.spelled;
  read = λ k a t q room alike prefix.
      let done = part.read k a t q room alike prefix in
      record { behind = done.behind; alike = done.alike; is = (alike.2 ∙ two, done.is) };
}

throw_rest_part : {l : ℕ} {v w : TextCounts} {s r : List Terminal} {x : Option Expr} → IsThrowRest limits l v w s r x →
    IsPart l v w s r (thrown_number_pieces x ++ line_end_piece g.Semicolon ∷ []) (ThrowRest x)
throw_rest_part gr.no_number = mapped build (front_last g.Semicolon) where
  build : (k : ℕ) (a b : TextCounts) (t q : List Terminal) → IsPiece (line_end_piece g.Semicolon) k a b t q → ThrowRest None k a b t q
  build k a _ _ q (here p) = gr.no_number
throw_rest_part (gr.thrown_number {x = x} two h) =
    same_pieces (ap (λ (ps : List PrintedPiece). sign_piece g.LeftParen ∷ ps) (sym (append_assoc (expr_pieces x) (sign_piece g.RightParen ∷ []) (line_end_piece g.Semicolon ∷ []))))
    (mapped build (where_two two (both (front_sign g.LeftParen) (both (whole_part h) (both (front_sign g.RightParen) (front_last g.Semicolon)))))) where
      build : (k : ℕ) (a b : TextCounts) (t q : List Terminal) →
          (a.two ≡ true) × Both (IsPiece (sign_piece g.LeftParen)) (Both (Whole x) (Both (IsPiece (sign_piece g.RightParen)) (IsPiece (line_end_piece g.Semicolon)))) k a b t q →
          ThrowRest (Some x) k a b t q
      build k a _ _ q (seen, (_, _, here i, (_, _, whole, (_, _, here j, here z)))) = gr.thrown_number seen whole

pub throw_part : {l : ℕ} {v w : TextCounts} {p q : Place} {s r : List Terminal} {x : List ℕ} {value : Option Expr} (line : ℕ) → l ≤ v.deepest → IsThrowRest limits l v w s r value →
    IsStmtsPart l v w (Key kw.Throw p ∷ Name x q ∷ s) r (record { line = line; what = st.Throw x value } ∷ [])
throw_part {q = d} {x = x} {value = value} line some h =
    one_stmt (record { line = line; what = st.Throw x value }) some
    (same_pieces (simple_pieces (record { line = line; what = st.Throw x value }) (key_piece kw.Throw ∷ name_piece x ∷ thrown_number_pieces value) (throw_shown line x value))
    (mapped build (both (front_key kw.Throw) (both (front_name x d) (throw_rest_part h))))) where
      build : (k : ℕ) (a b : TextCounts) (t q : List Terminal) → Both (IsPiece (key_piece kw.Throw)) (Both (IsPiece (name_piece x)) (ThrowRest value)) k a b t q →
          One (record { line = line; what = st.Throw x value }) k a b t q
      build k a _ _ q (_, _, here i, (_, _, here j, rest)) =
          (record { line = i.line; what = st.Throw x value }, other_line i.line line (st.Throw x value), λ no_par no_else. gr.plain (gr.throw rest))

pub call_part : {l : ℕ} {v w : TextCounts} {p q o : Place} {s r : List Terminal} {f : List ℕ} {xs : List Expr} (line : ℕ) → l ≤ v.deepest → IsArguments limits l v w s (Sign g.Semicolon o ∷ r) xs →
    IsStmtsPart l v w (Name f p ∷ Sign g.LeftParen q ∷ s) r (record { line = line; what = st.Call (record { function = f; args = xs }) } ∷ [])
call_part {p = p} {f = f} {xs = xs} line some h =
    one_stmt (record { line = line; what = st.Call (record { function = f; args = xs }) }) some
    (same_pieces
    (simple_pieces (record { line = line; what = st.Call (record { function = f; args = xs }) }) (name_piece f ∷ sign_piece g.LeftParen ∷ (args_pieces xs ++ sign_piece g.RightParen ∷ []))
    (call_shown line (record { function = f; args = xs })))
    (mapped build (both (front_name f p) (both (front_sign g.LeftParen) (both (args_part h) (front_last g.Semicolon)))))) where
      build : (k : ℕ) (a b : TextCounts) (t q : List Terminal) → Both (IsPiece (name_piece f)) (Both (IsPiece (sign_piece g.LeftParen)) (Both (Arguments xs) (IsPiece (line_end_piece g.Semicolon)))) k a b t q →
          One (record { line = line; what = st.Call (record { function = f; args = xs }) }) k a b t q
      build k a _ _ q (_, _, here i, (_, _, here j, (_, _, args, here n))) = (
        record { line = i.line; what = st.Call (record { function = f; args = xs }) },
        other_line i.line line (st.Call (record { function = f; args = xs })),
        λ no_par no_else.
            gr.plain (gr.call args no_par),
      )

abbrev pub First : List Stmt → ReadRelation
First xs k a b t q = (ys : List Stmt) × AreSame ys xs × IsFirst limits k a b t q ys

abbrev pub Step : List Stmt → ReadRelation
Step xs k a b t q = (ys : List Stmt) × AreSame ys xs × IsStep limits k a b t q ys

abbrev pub Test : Option Expr → ReadRelation
Test x k a b t q = IsTest limits k a b t q x

-- the pieces of a part of a `for` that is one statement
one_part : (x : Stmt) (ps rest : List PrintedPiece) → stmt_shown x ≡ simple ps → ps ++ rest ≡ part_pieces (map stmt_shown (x ∷ [])) ++ rest
one_part x ps rest is = sym (ap (λ (t : StmtShown). (t.pieces ++ []) ++ rest) is ∙ append_assoc ps [] rest)

-- the first statement of a `for`, with its semicolon
pub first_part : {l : ℕ} {v w : TextCounts} {s r : List Terminal} {xs : List Stmt} → IsFirst limits l v w s r xs → IsPart l v w s r (part_pieces (map stmt_shown xs) ++ sign_piece g.Semicolon ∷ []) (First xs)
first_part gr.no_first = mapped build (front_sign g.Semicolon) where
  build : (k : ℕ) (a b : TextCounts) (t q : List Terminal) → IsPiece (sign_piece g.Semicolon) k a b t q → First [] k a b t q
  build k a _ _ q (here p) = ([], refl, gr.no_first)
first_part {l = l} (gr.first_declare {ty = ty} {p = p} {x = x} {value = value} fits h) =
    let part = both (front_type ty) (both (declared_part h) (front_sign g.Semicolon)) in
    same_pieces (one_part (declare_stmt p.line ty x value) (type_piece ty ∷ name_piece x ∷ first_value_pieces value) (sign_piece g.Semicolon ∷ []) (declare_shown p.line ty x value))
    (mapped build (from_level l (level_of l fits) (at_own_level (omega (arith, part.deeper)) part))) where
      behind_type : (k : ℕ) (a c b : TextCounts) (t m q : List Terminal) → is_within Nesting k ≡ true → IsSort (Value ty) k (at_level k a) c t m →
          Both (Declared x value) (IsPiece (sign_piece g.Semicolon)) k c b m q →
          First (declare_stmt p.line ty x value ∷ []) k a b t q
      behind_type k a _ _ _ m q level (is_sort place) (_, _, declared, here o) =
          (declare_stmt place.line ty x value ∷ [], ap (λ (z : Stmt). z ∷ []) (other_line place.line p.line (st.Declare ty x value)), gr.first_declare level declared)

      build : (k : ℕ) (a b : TextCounts) (t q : List Terminal) →
          (is_within Nesting k ≡ true) × Both (IsPiece (type_piece ty)) (Both (Declared x value) (IsPiece (sign_piece g.Semicolon))) k (at_level k a) b t q →
          First (declare_stmt p.line ty x value ∷ []) k a b t q
      build k a b t q (level, (c, m, word, rest)) = behind_type k a c b t m q level (type_read ty k (at_level k a) c t m word) rest
first_part {l = l} (gr.first_assign {x = x} {p = p} {value = value} fits h) =
    let part = both (front_name x p) (both (front_sign g.Equal) (both (whole_part h) (front_sign g.Semicolon))) in
    same_pieces (one_part (record { line = p.line; what = st.Assign x value }) (name_piece x ∷ sign_piece g.Equal ∷ expr_pieces value) (sign_piece g.Semicolon ∷ []) (assign_shown p.line x value))
    (mapped build (from_level l (level_of l fits) (at_own_level (omega (arith, part.deeper)) part))) where
      build : (k : ℕ) (a b : TextCounts) (t q : List Terminal) →
          (is_within Nesting k ≡ true) × Both (IsPiece (name_piece x)) (Both (IsPiece (sign_piece g.Equal)) (Both (Whole value) (IsPiece (sign_piece g.Semicolon)))) k (at_level k a) b t q →
          First (record { line = p.line; what = st.Assign x value } ∷ []) k a b t q
      build k a _ _ q (level, (_, _, here i, (_, _, here j, (_, _, whole, here n)))) =
          (record { line = i.line; what = st.Assign x value } ∷ [], ap (λ (z : Stmt). z ∷ []) (other_line i.line p.line (st.Assign x value)), gr.first_assign level whole)

-- its test, with the semicolon
pub test_part : {l : ℕ} {v w : TextCounts} {s r : List Terminal} {x : Option Expr} → IsTest limits l v w s r x → IsPart l v w s r (test_pieces x ++ sign_piece g.Semicolon ∷ []) (Test x)
test_part gr.no_test = mapped build (front_sign g.Semicolon) where
  build : (k : ℕ) (a b : TextCounts) (t q : List Terminal) → IsPiece (sign_piece g.Semicolon) k a b t q → Test None k a b t q
  build k a _ _ q (here p) = gr.no_test
test_part (gr.test {x = x} h) = mapped build (both (whole_part h) (front_sign g.Semicolon)) where
  build : (k : ℕ) (a b : TextCounts) (t q : List Terminal) → Both (Whole x) (IsPiece (sign_piece g.Semicolon)) k a b t q → Test (Some x) k a b t q
  build k a _ t q (_, _, whole, here p) = gr.test whole

-- its step, with the right parenthesis
pub step_part : {l : ℕ} {v w : TextCounts} {s r : List Terminal} {xs : List Stmt} → IsStep limits l v w s r xs → IsPart l v w s r (part_pieces (map stmt_shown xs) ++ sign_piece g.RightParen ∷ []) (Step xs)
step_part gr.no_step = mapped build (front_sign g.RightParen) where
  build : (k : ℕ) (a b : TextCounts) (t q : List Terminal) → IsPiece (sign_piece g.RightParen) k a b t q → Step [] k a b t q
  build k a _ _ q (here p) = ([], refl, gr.no_step)
step_part {l = l} (gr.step {x = x} {p = p} {value = value} fits h) =
    let part = both (front_name x p) (both (front_sign g.Equal) (both (whole_part h) (front_sign g.RightParen))) in
    same_pieces (one_part (record { line = p.line; what = st.Assign x value }) (name_piece x ∷ sign_piece g.Equal ∷ expr_pieces value) (sign_piece g.RightParen ∷ []) (assign_shown p.line x value))
    (mapped build (from_level l (level_of l fits) (at_own_level (omega (arith, part.deeper)) part))) where
      build : (k : ℕ) (a b : TextCounts) (t q : List Terminal) →
          (is_within Nesting k ≡ true) × Both (IsPiece (name_piece x)) (Both (IsPiece (sign_piece g.Equal)) (Both (Whole value) (IsPiece (sign_piece g.RightParen)))) k (at_level k a) b t q →
          Step (record { line = p.line; what = st.Assign x value } ∷ []) k a b t q
      build k a _ _ q (level, (_, _, here i, (_, _, here j, (_, _, whole, here n)))) =
          (record { line = i.line; what = st.Assign x value } ∷ [], ap (λ (z : Stmt). z ∷ []) (other_line i.line p.line (st.Assign x value)), gr.step level whole)
