-- Parts of a text that were read, each of which is read from its own pieces too.
use Rattle.std.proofs.Common.{ℕ, suc, ◌+◌, ◌≤◌, ◌≡◌, Bool, true, List, [], ◌∷◌, ◌++◌, refl, sym, ap, subst, arith}
use Rattle.std.proofs.lemmas.List.{append_assoc}
use Rattle.shim_base.specs.declared.Keyword.{Keyword}
use Rattle.shim_base.specs.declared.Sign.{Sign as SignOf}
use Rattle.shim_base.specs.declared.Sign.TheVariants as g
use Rattle.shim_base.specs.declared.Keyword.TheVariants as kw
use Rattle.shim_base.specs.declared.Ty.{Ty}
use Rattle.shim_base.specs.declared.Ty.TheVariants.{Bool as BoolTy, Int8, Int16, Int32, Uint8, Uint16, Uint32, Int64}
use Rattle.shim_base.specs.Tokens.{Place, Spells, IsWithinLimits, keyword_of}
use Rattle.shim_syntax.specs.declared.tree.Sort.{Sort as SortOf}
use Rattle.shim_syntax.specs.declared.tree.Sort.TheVariants.{Value, Input, Output}
use Rattle.shim_syntax.specs.declared.tree.Expr.{Expr}
use Rattle.shim_syntax.specs.Terminals.{Terminal, Name, Sort}
use Rattle.shim_syntax.specs.Limits.{Nesting, is_within, limits}
use Rattle.shim_syntax.specs.Grammar.{TextCounts, at_level, new_expression, IsExpr, IsWhole, IsArguments, IsMoreArguments}
use Rattle.shim_syntax.specs.Grammar as gr
use Rattle.shim_syntax.specs.Printing.{PrintedPiece, key_piece, sign_piece, type_piece, sort_piece, name_piece, line_end_piece, expr_row, expr_pieces, more_args_pieces, args_pieces}
use Rattle.shim_syntax.proofs.Pieces.{AreTokens, IsSeen, shown_as}
use Rattle.shim_syntax.proofs.Standing.{ArePrefix, nothing, piece, split, tokens_of_both, AreGood, IsTypeOf, key_seen}
use Rattle.shim_syntax.proofs.Shapes.{sign_spells, key_spells}
use Rattle.shim_syntax.proofs.Expressions.{IsAlike, expr_kept, looser, level_is}

-- How terminals at the front are read: at which level, with what was counted before them and after them, and what follows.
abbrev pub ReadRelation : Type 1
ReadRelation = ℕ → TextCounts → TextCounts → List Terminal → List Terminal → Type 0

pub record IsDone (R : ReadRelation) (k : ℕ) (w a : TextCounts) (t q : List Terminal) : Type 0 where
  pub behind : TextCounts
  pub alike : IsAlike w behind
  pub is : R k a behind t q

-- Terminals that were read at the level l. Their names and numbers are those of the pieces, and the pieces are read in that way too, at each level at which there is room.
pub record IsPart (l : ℕ) (v w : TextCounts) (s r : List Terminal) (ps : List PrintedPiece) (R : ReadRelation) : Type 0 where
  pub deeper : v.deepest ≤ w.deepest
  pub within : v.deepest ≤ 64 → w.deepest ≤ 64
  pub spelled : (ver : Bool) → AreGood ver s → AreTokens ver ps × AreGood ver r
  pub read : (k : ℕ) (a : TextCounts) (t q : List Terminal) → k + w.deepest ≤ l + 64 → IsAlike v a → ArePrefix ps t q → IsDone R k w a t q

-- one thing and then another
abbrev pub Both : ReadRelation → ReadRelation → ReadRelation
Both R Q k a b t q = (c : TextCounts) × (m : List Terminal) × R k a c t m × Q k c b m q

pub both : {l : ℕ} {v u w : TextCounts} {s m r : List Terminal} {ps qs : List PrintedPiece} {R Q : ReadRelation} → IsPart l v u s m ps R → IsPart l u w m r qs Q → IsPart l v w s r (ps ++ qs) (Both R Q)
both {l = l} {v = v} {w = w} {s = s} {r = r} {ps = ps} {qs = qs} {R = R} {Q = Q} one two = record {
  deeper = omega (arith, one.deeper, two.deeper);
  within = λ h. two.within (one.within h);
  spelled = spelled;
  read = λ k a t q room alike prefix. by_parts k a t q room alike (split ps qs t q prefix);
} where
  spelled : (ver : Bool) → AreGood ver s → AreTokens ver (ps ++ qs) × AreGood ver r
  spelled ver good = let first = one.spelled ver good in let second = two.spelled ver first.1 in (tokens_of_both ver ps qs first.0 second.0, second.1)

  by_parts : (k : ℕ) (a : TextCounts) (t q : List Terminal) → k + w.deepest ≤ l + 64 → IsAlike v a → (m : List Terminal) × ArePrefix ps t m × ArePrefix qs m q → IsDone (Both R Q) k w a t q
  by_parts k a t q room alike (m, first, second) =
      let deeper = two.deeper in
      let here = one.read k a t m (omega (arith, room, deeper)) alike first in
      let there = two.read k here.behind m q room here.alike second in
      record { behind = there.behind; alike = there.alike; is = (here.behind, m, here.is, there.is) }

-- a piece alone
pub data IsPiece (p : PrintedPiece) : ℕ → TextCounts → TextCounts → List Terminal → List Terminal → Type 0 where
  here : {k : ℕ} {a : TextCounts} {q : List Terminal} (place : Place) → IsPiece p k a a (shown_as p place ∷ q) q

pub front : {l : ℕ} {v : TextCounts} {x : Terminal} {r : List Terminal} (p : PrintedPiece) → Spells p.text p.kind → IsWithinLimits p.text p.kind → ((ver : Bool) → IsSeen ver p) → IsPart l v v (x ∷ r) r (p ∷ []) (IsPiece p)
front {l = l} {v = v} p spells fits seen = record {
  deeper = omega arith;
  within = λ h. h;
  spelled = λ ver good. ((spells, fits, seen ver, tt), good.1);
  read = read;
} where
  read : (k : ℕ) (a : TextCounts) (t q : List Terminal) → k + v.deepest ≤ l + 64 → IsAlike v a → ArePrefix (p ∷ []) t q → IsDone (IsPiece p) k v a t q
  read k a _ q room alike (piece place nothing) = record { behind = a; alike = alike; is = here place }

-- a name, which is one in the source
pub front_name : {l : ℕ} {v : TextCounts} {r : List Terminal} (x : List ℕ) (p : Place) → IsPart l v v (Name x p ∷ r) r (name_piece x ∷ []) (IsPiece (name_piece x))
front_name {l = l} {v = v} x p = record {
  deeper = omega arith;
  within = λ h. h;
  spelled = λ ver good. ((good.0.0, good.0.1, good.0.2, tt), good.1);
  read = read;
} where
  read : (k : ℕ) (a : TextCounts) (t q : List Terminal) → k + v.deepest ≤ l + 64 → IsAlike v a → ArePrefix (name_piece x ∷ []) t q → IsDone (IsPiece (name_piece x)) k v a t q
  read k a _ q room alike (piece place nothing) = record { behind = a; alike = alike; is = here place }

pub front_key : {l : ℕ} {v : TextCounts} {x : Terminal} {r : List Terminal} (word : Keyword) → IsPart l v v (x ∷ r) r (key_piece word ∷ []) (IsPiece (key_piece word))
front_key word = front (key_piece word) (key_spells word) tt (λ ver place. key_seen ver word place)

pub front_sign : {l : ℕ} {v : TextCounts} {x : Terminal} {r : List Terminal} (o : SignOf) → IsPart l v v (x ∷ r) r (sign_piece o ∷ []) (IsPiece (sign_piece o))
front_sign o = front (sign_piece o) (sign_spells o) tt (λ ver place. refl)

pub front_last : {l : ℕ} {v : TextCounts} {x : Terminal} {r : List Terminal} (o : SignOf) → IsPart l v v (x ∷ r) r (line_end_piece o ∷ []) (IsPiece (line_end_piece o))
front_last o = front (line_end_piece o) (sign_spells o) tt (λ ver place. refl)

-- the word of a type of that version is a token
pub type_tokens : (ver : Bool) (ty : Ty) → IsTypeOf ver ty → AreTokens ver (type_piece ty ∷ [])
unfolding keyword_of
type_tokens ver BoolTy h = (key_spells kw.Bool, tt, (λ place. refl), tt)
type_tokens ver Int8 h = (key_spells kw.Int8, tt, (λ place. refl), tt)
type_tokens ver Int16 h = (key_spells kw.Int16, tt, (λ place. refl), tt)
type_tokens ver Int32 h = (key_spells kw.Int32, tt, (λ place. refl), tt)
type_tokens ver Uint8 h = (key_spells kw.Uint8, tt, (λ place. refl), tt)
type_tokens ver Uint16 h = (key_spells kw.Uint16, tt, (λ place. refl), tt)
type_tokens ver Uint32 h = (key_spells kw.Uint32, tt, (λ place. refl), tt)
type_tokens ver Int64 h = ((refl, refl), omega arith, (λ place. rw h refl), tt)

pub front_type : {l : ℕ} {v : TextCounts} {p : Place} {r : List Terminal} (ty : Ty) → IsPart l v v (Sort (Value ty) p ∷ r) r (type_piece ty ∷ []) (IsPiece (type_piece ty))
front_type {l = l} {v = v} ty = record {
  deeper = omega arith;
  within = λ h. h;
  spelled = λ ver good. (type_tokens ver ty good.0, good.1);
  read = read;
} where
  read : (k : ℕ) (a : TextCounts) (t q : List Terminal) → k + v.deepest ≤ l + 64 → IsAlike v a → ArePrefix (type_piece ty ∷ []) t q → IsDone (IsPiece (type_piece ty)) k v a t q
  read k a _ q room alike (piece place nothing) = record { behind = a; alike = alike; is = here place }

pub front_sort : {l : ℕ} {v : TextCounts} {p : Place} {r : List Terminal} (sort : SortOf) → IsPart l v v (Sort sort p ∷ r) r (sort_piece sort ∷ []) (IsPiece (sort_piece sort))
front_sort (Value ty) = front_type ty
front_sort Input = front_key kw.Istream
front_sort Output = front_key kw.Ostream

-- one thing and then another, which both stand after one terminal
pub both_after : {l : ℕ} {v u w : TextCounts} {x : Terminal} {s m r : List Terminal} {ps qs : List PrintedPiece} {R Q : ReadRelation} → IsPart l v u (x ∷ s) m ps R → IsPart l u w (x ∷ m) r qs Q
    → IsPart l v w (x ∷ s) r (ps ++ qs) (Both R Q)
both_after {l = l} {v = v} {w = w} {x = x} {s = s} {r = r} {ps = ps} {qs = qs} {R = R} {Q = Q} one two = record {
  deeper = omega (arith, one.deeper, two.deeper);
  within = λ h. two.within (one.within h);
  spelled = spelled;
  read = λ k a t q room alike prefix. by_parts k a t q room alike (split ps qs t q prefix);
} where
  spelled : (ver : Bool) → AreGood ver (x ∷ s) → AreTokens ver (ps ++ qs) × AreGood ver r
  spelled ver good = let first = one.spelled ver good in let second = two.spelled ver (good.0, first.1) in (tokens_of_both ver ps qs first.0 second.0, second.1)

  by_parts : (k : ℕ) (a : TextCounts) (t q : List Terminal) → k + w.deepest ≤ l + 64 → IsAlike v a → (m : List Terminal) × ArePrefix ps t m × ArePrefix qs m q → IsDone (Both R Q) k w a t q
  by_parts k a t q room alike (m, first, second) =
      let deeper = two.deeper in
      let here = one.read k a t m (omega (arith, room, deeper)) alike first in
      let there = two.read k here.behind m q room here.alike second in
      record { behind = there.behind; alike = there.alike; is = (here.behind, m, here.is, there.is) }

-- what is read in one way is read in another
pub mapped : {l : ℕ} {v w : TextCounts} {s r : List Terminal} {ps : List PrintedPiece} {R Q : ReadRelation} → ((k : ℕ) (a b : TextCounts) (t q : List Terminal) → R k a b t q → Q k a b t q) → IsPart l v w s r ps R →
    IsPart l v w s r ps Q
mapped implies part = record {
  deeper = part.deeper;
  within = part.within;
  spelled = part.spelled;
  read = λ k a t q room alike prefix.
      let done = part.read k a t q room alike prefix in
      record { behind = done.behind; alike = done.alike; is = implies k a done.behind t q done.is };
}

-- the same of pieces that are equal
pub same_pieces : {l : ℕ} {v w : TextCounts} {s r : List Terminal} {ps qs : List PrintedPiece} {R : ReadRelation} → ps ≡ qs → IsPart l v w s r ps R → IsPart l v w s r qs R
same_pieces {l = l} {v = v} {w = w} {s = s} {r = r} {R = R} same part = let P : List PrintedPiece → Type 0 = λ ps. IsPart l v w s r ps R in subst P same part

-- what stands one level deeper
pub inner : {l : ℕ} {v w : TextCounts} {s r : List Terminal} {ps : List PrintedPiece} {R : ReadRelation} → IsPart (suc l) v w s r ps R → IsPart l v w s r ps (λ k. R (suc k))
inner part = record {
  deeper = part.deeper;
  within = part.within;
  spelled = part.spelled;
  read = λ k a t q room alike prefix. let done = part.read (suc k) a t q (omega (arith, room)) alike prefix in record { behind = done.behind; alike = done.alike; is = done.is };
}

-- what begins with a thing of a level within the limit
pub from_level : {l : ℕ} {v w : TextCounts} {s r : List Terminal} {ps : List PrintedPiece} {R : ReadRelation} (m : ℕ) → m ≤ 64 → IsPart l (at_level m v) w s r ps R → IsPart l v w s r ps R
from_level m level part = record {
  deeper = omega (arith, part.deeper);
  within = λ h. part.within (omega (arith, level, h));
  spelled = part.spelled;
  read = λ k a t q room alike prefix. let done = part.read k a t q room alike prefix in record { behind = done.behind; alike = done.alike; is = done.is };
}

-- where a thing of the level of the part was read, the level at which it is read is within the limit
pub at_own_level : {l : ℕ} {v w : TextCounts} {s r : List Terminal} {ps : List PrintedPiece} {R : ReadRelation} → l ≤ w.deepest → IsPart l v w s r ps R →
    IsPart l v w s r ps (λ k a b t q. (is_within Nesting k ≡ true) × R k (at_level k a) b t q)
at_own_level {w = w} some part = record {
  deeper = part.deeper;
  within = part.within;
  spelled = part.spelled;
  read = λ k a t q room alike prefix.
      let done = part.read k (at_level k a) t q room alike prefix in
      record { behind = done.behind; alike = done.alike; is = (level_is k (omega (arith, room, some)), done.is) };
}

abbrev pub Whole : Expr → ReadRelation
Whole x k a b t q = IsWhole limits k a b t q x

-- a whole expression
pub whole_part : {l : ℕ} {v w : TextCounts} {s r : List Terminal} {x : Expr} → IsWhole limits l v w s r x → IsPart l v w s r (expr_pieces x) (Whole x)
whole_part {l = l} {v = v} {w = w} {s = s} {r = r} {x = x} h =
    let kept = expr_kept 10 l (new_expression v) w s r x h in
    record {
      deeper = kept.deeper;
      within = kept.within;
      spelled = kept.spelled;
      read = λ k a t q room alike prefix.
          let read = kept.bare k (new_expression a) t q room (refl, alike.1, alike.2) prefix in
          record { behind = read.behind; alike = read.alike; is = looser 10 (expr_row x) k (new_expression a) read.behind t q x kept.row_most read.is };
    }

abbrev pub MoreArguments : ℕ → List Expr → ReadRelation
MoreArguments n xs k a b t q = IsMoreArguments limits k n a b t q xs

abbrev pub Arguments : List Expr → ReadRelation
Arguments xs k a b t q = IsArguments limits k a b t q xs

-- the arguments after n of them
more_args_part : (l n : ℕ) (v w : TextCounts) (s r : List Terminal) (xs : List Expr) → IsMoreArguments limits l n v w s r xs →
    IsPart l v w s r (more_args_pieces xs ++ sign_piece g.RightParen ∷ []) (MoreArguments n xs)
more_args_part l n v _ _ r _ gr.arguments_end = mapped build (front_sign g.RightParen) where
  build : (k : ℕ) (a b : TextCounts) (t q : List Terminal) → IsPiece (sign_piece g.RightParen) k a b t q → MoreArguments n [] k a b t q
  build k a _ _ q (here p) = gr.arguments_end
more_args_part l n v w _ r _ (gr.argument {u = u} {m = m} {x = x} {xs = xs} fits h more) =
    same_pieces (ap (λ (ps : List PrintedPiece). sign_piece g.Comma ∷ ps) (sym (append_assoc (expr_pieces x) (more_args_pieces xs) (sign_piece g.RightParen ∷ []))))
    (mapped build (both (front_sign g.Comma) (both (whole_part h) (more_args_part l (suc n) u w m r xs more)))) where
      build : (k : ℕ) (a b : TextCounts) (t q : List Terminal) → Both (IsPiece (sign_piece g.Comma)) (Both (Whole x) (MoreArguments (suc n) xs)) k a b t q → MoreArguments n (x ∷ xs) k a b t q
      build k a b _ q (_, _, here p, (_, _, value, rest)) = gr.argument fits value rest

-- the arguments of a call, with the right parenthesis
pub args_part : {l : ℕ} {v w : TextCounts} {s r : List Terminal} {xs : List Expr} → IsArguments limits l v w s r xs → IsPart l v w s r (args_pieces xs ++ sign_piece g.RightParen ∷ []) (Arguments xs)
args_part gr.no_arguments = mapped build (front_sign g.RightParen) where
  build : (k : ℕ) (a b : TextCounts) (t q : List Terminal) → IsPiece (sign_piece g.RightParen) k a b t q → Arguments [] k a b t q
  build k a _ _ q (here p) = gr.no_arguments
args_part {l = l} {w = w} {r = r} (gr.arguments {u = u} {m = m} {x = x} {xs = xs} fits h more) =
    same_pieces (sym (append_assoc (expr_pieces x) (more_args_pieces xs) (sign_piece g.RightParen ∷ [])))
    (mapped build (both (whole_part h) (more_args_part l 1 u w m r xs more))) where
      build : (k : ℕ) (a b : TextCounts) (t q : List Terminal) → Both (Whole x) (MoreArguments 1 xs) k a b t q → Arguments (x ∷ xs) k a b t q
      build k a b t q (_, _, value, rest) = gr.arguments fits value rest
