-- An expression that a source has is read from its own pieces too, at no deeper levels, as long as there is room for the deepest of them.
use Rattle.std.proofs.Common.{ℕ, zero, suc, ◌+◌, ◌≤◌, ◌<◌, ◌≡◌, ℤ, Bool, true, false, List, [], ◌∷◌, refl, sym, ap, subst, ◌∙◌, arith, inl, inr, ◌⊎◌}
use Rattle.std.specs.Prelude.{nat_lt}
use Rattle.std.proofs.lemmas.Bool.{cases_lt}
use Rattle.std.proofs.lemmas.Bool.Decides.{nat_tests}
use Rattle.shim_base.specs.declared.Sign.{Sign as SignOf}
use Rattle.shim_base.specs.declared.Sign.TheVariants as g
use Rattle.shim_base.specs.declared.UnOp.{UnOp}
use Rattle.shim_base.specs.declared.UnOp.TheVariants.{Neg, Not, Flip}
use Rattle.shim_base.specs.Tokens.{Place}
use Rattle.shim_syntax.specs.declared.limits.Many.TheVariants.{Operators}
use Rattle.shim_syntax.specs.declared.tree.Expr.{Expr}
use Rattle.shim_syntax.specs.declared.tree.Expr.TheVariants as e
use Rattle.shim_syntax.specs.Terminals.{Terminal, Name, Number, Sign}
use Rattle.shim_syntax.specs.Limits.{Nesting, Count, is_within, limits}
use Rattle.shim_syntax.specs.Grammar.{TextCounts, at_level, with_operator, row_of_sign, operator_of_sign, IsExpr, IsChain}
use Rattle.shim_syntax.specs.Grammar as gr
use Rattle.shim_syntax.specs.Printing.{PrintedPiece, ExprShown, expr_shown, expr_row, expr_pieces, wrapped, sign_piece, sign_of_unary}
use Rattle.shim_syntax.specs.Printing as pr
use Rattle.shim_syntax.proofs.Pieces.{AreTokens}
use Rattle.shim_syntax.proofs.Standing.{ArePrefix, nothing, piece, split, tokens_of_both, AreGood}
use Rattle.shim_syntax.proofs.Shapes.{number_shown, variable_shown, unary_shown, binary_shown, both_pieces, operator_is, sign_spells}

-- the same number of operators and of declarations in the same version; the deepest level is left open
abbrev pub IsAlike : TextCounts → TextCounts → Type 0
IsAlike v a = (a.operators ≡ v.operators) × (a.locals ≡ v.locals) × (a.two ≡ v.two)

-- x is read in the row n at the level k; a is counted before it, and behind it as much as in w
pub record IsRead (n k : ℕ) (w a : TextCounts) (s r : List Terminal) (x : Expr) : Type 0 where
  pub behind : TextCounts
  pub alike : IsAlike w behind
  pub is : IsExpr limits n k a behind s r x

-- What shows as these pieces in that row is read from them. It was read at the level l; at the level k all stands deeper by as much as k is deeper than l.
abbrev pub IsReadFrom : ExprShown → ℕ → TextCounts → TextCounts → Expr → Type 0
IsReadFrom shown l v w x = (k : ℕ) (a : TextCounts) (s r : List Terminal) → k + w.deepest ≤ l + 64 → IsAlike v a → ArePrefix shown.pieces s r → IsRead shown.row k w a s r x

abbrev pub IsBare : ℕ → TextCounts → TextCounts → Expr → Type 0
IsBare l v w x = IsReadFrom (expr_shown x) l v w x

-- What is known of an expression of the row n that was read. Where its own row is looser, it stood in parentheses, and so one level deeper.
pub record IsReadBack (n l : ℕ) (v w : TextCounts) (s r : List Terminal) (x : Expr) : Type 0 where
  pub deeper : v.deepest ≤ w.deepest
  pub within : v.deepest ≤ 64 → w.deepest ≤ 64
  pub spelled : (ver : Bool) → AreGood ver s → AreTokens ver (expr_pieces x) × AreGood ver r
  pub row_most : expr_row x ≤ 10
  pub bare : IsBare l v w x
  pub inside : nat_lt n (expr_row x) ≡ true → IsBare (suc l) v w x × (suc l ≤ w.deepest)

-- the row of what is shown
row_of : (x : Expr) (shown : ExprShown) → expr_shown x ≡ shown → expr_row x ≡ shown.row
row_of x shown is = ap (λ (t : ExprShown). t.row) is

pieces_of : (ver : Bool) (x : Expr) (shown : ExprShown) → expr_shown x ≡ shown → AreTokens ver shown.pieces → AreTokens ver (expr_pieces x)
pieces_of ver x shown is h = let P : ExprShown → Type 0 = λ t. AreTokens ver t.pieces in subst P (sym is) h

bare_of : (x : Expr) (shown : ExprShown) (l : ℕ) (v w : TextCounts) → expr_shown x ≡ shown → IsReadFrom shown l v w x → IsBare l v w x
bare_of x shown l v w is h = let P : ExprShown → Type 0 = λ t. IsReadFrom t l v w x in subst P (sym is) h

no_looser : (n m : ℕ) → m ≤ n → nat_lt n m ≡ true → ⊥
no_looser n m le h = grind (arith, nat_tests)

not_looser : (n m : ℕ) → nat_lt n m ≡ false → m ≤ n
not_looser n m h = grind (arith, nat_tests)

looser_still : (n m : ℕ) → nat_lt (suc n) m ≡ true → nat_lt n m ≡ true
looser_still n m h = grind (arith, nat_tests)

-- a level within the limit
pub level_is : (k : ℕ) → k ≤ 64 → is_within Nesting k ≡ true
level_is k le = grind (arith, nat_tests)

pub level_of : (k : ℕ) → is_within Nesting k ≡ true → k ≤ 64
level_of k h = grind (arith, nat_tests)

-- an expression of one row is one of each looser row
pub looser : (n m l : ℕ) (v w : TextCounts) (s r : List Terminal) (x : Expr) → m ≤ n → IsExpr limits m l v w s r x → IsExpr limits n l v w s r x
looser zero m l v w s r x le h = let P : ℕ → Type 0 = λ j. IsExpr limits j l v w s r x in let same : m ≡ 0 = omega (arith, le) in subst P same h
looser (suc n) m l v w s r x le h = by_row (cases_lt n m) (λ more. looser n m l v w s r x more h) where
  by_row : (n < m) ⊎ (m ≤ n) → (m ≤ n → IsExpr limits n l v w s r x) → IsExpr limits (suc n) l v w s r x
  by_row (inl lt) again = let P : ℕ → Type 0 = λ j. IsExpr limits j l v w s r x in let same : m ≡ suc n = omega (arith, le, lt) in subst P same h
  by_row (inr more) again = gr.row (again more) gr.stop

-- one operator more at the end of a chain
chain_more : {n l : ℕ} {v u w : TextCounts} {o : SignOf} {p : Place} {s t r : List Terminal} {x y z : Expr} → IsChain limits n l v u s (Sign o p ∷ t) x y → row_of_sign o ≡ suc n →
    is_within (Count Operators) (suc u.operators) ≡ true → IsExpr limits n l (with_operator u) w t r z → IsChain limits n l v w s r x (e.Binary (operator_of_sign o) y z)
chain_more gr.stop is fits h = gr.join is fits h gr.stop
chain_more (gr.join first_is first_fits first chain) is fits h = gr.join first_is first_fits first (chain_more chain is fits h)

-- and of an expression
joined : {n l : ℕ} {v u w : TextCounts} {o : SignOf} {p : Place} {s t r : List Terminal} {y z : Expr} → IsExpr limits (suc n) l v u s (Sign o p ∷ t) y → row_of_sign o ≡ suc n →
    is_within (Count Operators) (suc u.operators) ≡ true → IsExpr limits n l (with_operator u) w t r z → IsExpr limits (suc n) l v w s r (e.Binary (operator_of_sign o) y z)
joined (gr.row first chain) is fits h = gr.row first (chain_more chain is fits h)

-- in parentheses
in_parens : (n l : ℕ) (v w : TextCounts) (x : Expr) (k : ℕ) (a : TextCounts) (s r : List Terminal) → expr_row x ≤ 10 → IsBare (suc l) v w x → suc l ≤ w.deepest → k + w.deepest ≤ l + 64 → IsAlike v a →
    ArePrefix (wrapped true (expr_pieces x)) s r → IsRead n k w a s r x
in_parens n l v w x k a _ r row_most bare deep room alike (piece p h) = by_end (split (expr_pieces x) (sign_piece g.RightParen ∷ []) _ r h) where
  by_end : {s : List Terminal} → (m : List Terminal) × ArePrefix (expr_pieces x) s m × ArePrefix (sign_piece g.RightParen ∷ []) m r → IsRead n k w a (Sign g.LeftParen p ∷ s) r x
  by_end (_, inner, piece q nothing) =
      let read = bare (suc k) (at_level (suc k) a) _ _ (omega (arith, room)) alike inner in
      let whole = looser 10 (expr_row x) (suc k) (at_level (suc k) a) read.behind _ _ x row_most read.is in
      record {
        behind = read.behind;
        alike = read.alike;
        is = looser n 0 k a read.behind _ r x (omega arith) (gr.parens (level_is (suc k) (omega (arith, room, deep))) whole);
      }

-- as an operand in the row n
pub operand : (n l : ℕ) (v w : TextCounts) (t q : List Terminal) (x : Expr) → IsReadBack n l v w t q x → (k : ℕ) (a : TextCounts) (s r : List Terminal) → k + w.deepest ≤ l + 64 → IsAlike v a →
    ArePrefix (wrapped (nat_lt n (expr_row x)) (expr_pieces x)) s r → IsRead n k w a s r x
operand n l v w t q x kept k a s r room alike prefix = by_row (nat_lt n (expr_row x)) refl prefix where
  by_row : (b : Bool) → nat_lt n (expr_row x) ≡ b → ArePrefix (wrapped b (expr_pieces x)) s r → IsRead n k w a s r x
  by_row true is h = let deep = kept.inside is in in_parens n l v w x k a s r kept.row_most deep.0 deep.1 room alike h
  by_row false is h =
      let read = kept.bare k a s r room alike h in
      record { behind = read.behind; alike = read.alike; is = looser n (expr_row x) k a read.behind s r x (not_looser n (expr_row x) is) read.is }

-- tokens with or without parentheses
pub wrapped_tokens : (ver b : Bool) (ps : List PrintedPiece) → AreTokens ver ps → AreTokens ver (wrapped b ps)
wrapped_tokens ver true ps h = (sign_spells g.LeftParen, tt, (λ place. refl), tokens_of_both ver ps (sign_piece g.RightParen ∷ []) h (sign_spells g.RightParen, tt, (λ place. refl), tt))
wrapped_tokens ver false ps h = h

number_kept : (l : ℕ) (v : TextCounts) (n : ℤ) (p : Place) (r : List Terminal) → IsReadBack 0 l v v (Number n p ∷ r) r (e.Number n)
number_kept l v n p r = record {
  deeper = omega arith;
  within = λ h. h;
  spelled = λ ver good. (pieces_of ver (e.Number n) (record { row = 0; pieces = pr.number_piece n ∷ [] }) (number_shown n) (good.0.0, good.0.1, (λ place. refl), tt), good.1);
  row_most = omega (arith, row);
  bare = bare_of (e.Number n) (record { row = 0; pieces = pr.number_piece n ∷ [] }) l v v (number_shown n) read;
  inside = λ h. absurd (no_looser 0 (expr_row (e.Number n)) (omega (arith, row)) h);
} where
  row : expr_row (e.Number n) ≡ 0
  row = row_of (e.Number n) (record { row = 0; pieces = pr.number_piece n ∷ [] }) (number_shown n)

  read : IsReadFrom (record { row = 0; pieces = pr.number_piece n ∷ [] }) l v v (e.Number n)
  read k a _ r room alike (piece q nothing) = record { behind = a; alike = alike; is = gr.number }

variable_kept : (l : ℕ) (v : TextCounts) (x : List ℕ) (p : Place) (r : List Terminal) → IsReadBack 0 l v v (Name x p ∷ r) r (e.Var x)
variable_kept l v x p r = record {
  deeper = omega arith;
  within = λ h. h;
  spelled = λ ver good. (pieces_of ver (e.Var x) (record { row = 0; pieces = pr.name_piece x ∷ [] }) (variable_shown x) (good.0.0, good.0.1, good.0.2, tt), good.1);
  row_most = omega (arith, row);
  bare = bare_of (e.Var x) (record { row = 0; pieces = pr.name_piece x ∷ [] }) l v v (variable_shown x) read;
  inside = λ h. absurd (no_looser 0 (expr_row (e.Var x)) (omega (arith, row)) h);
} where
  row : expr_row (e.Var x) ≡ 0
  row = row_of (e.Var x) (record { row = 0; pieces = pr.name_piece x ∷ [] }) (variable_shown x)

  read : IsReadFrom (record { row = 0; pieces = pr.name_piece x ∷ [] }) l v v (e.Var x)
  read k a _ r room alike (piece q nothing) = record { behind = a; alike = alike; is = gr.variable }

parens_kept : (l : ℕ) (v w : TextCounts) (p q : Place) (s r : List Terminal) (x : Expr) → is_within Nesting (suc l) ≡ true → IsReadBack 10 (suc l) (at_level (suc l) v) w s (Sign g.RightParen q ∷ r) x →
    IsReadBack 0 l v w (Sign g.LeftParen p ∷ s) r x
parens_kept l v w p q s r x fits kept =
    let deeper = kept.deeper in
    let level = level_of (suc l) fits in
    record {
      deeper = omega (arith, deeper);
      within = λ h. kept.within (omega (arith, level, h));
      spelled = λ ver good. let more = kept.spelled ver good.1 in (more.0, more.1.1);
      row_most = kept.row_most;
      bare = λ k a t m room alike prefix. kept.bare k a t m (omega (arith, room)) alike prefix;
      inside = λ h. (kept.bare, omega (arith, deeper));
    }

-- how an expression with one operand is made of its operand
abbrev Makes : UnOp → Expr → Type 0
Makes o x =
    (k : ℕ) (a b : TextCounts) (p : Place) (t r : List Terminal) → is_within (Count Operators) (suc a.operators) ≡ true → is_within Nesting (suc k) ≡ true →
    IsExpr limits 0 (suc k) (at_level (suc k) (with_operator a)) b t r x → IsExpr limits 0 k a b (Sign (sign_of_unary o) p ∷ t) r (e.Unary o x)

-- a count that is the same is within the same limits
pub count_is : (v a : ℕ) → a ≡ v → is_within (Count Operators) (suc v) ≡ true → is_within (Count Operators) (suc a) ≡ true
count_is v a same fits = ap (λ (n : ℕ). is_within (Count Operators) (suc n)) same ∙ fits

unary_kept : (o : UnOp) (l : ℕ) (v w : TextCounts) (p : Place) (s r : List Terminal) (x : Expr) → Makes o x → is_within (Count Operators) (suc v.operators) ≡ true → is_within Nesting (suc l) ≡ true →
    IsReadBack 0 (suc l) (at_level (suc l) (with_operator v)) w s r x → IsReadBack 0 l v w (Sign (sign_of_unary o) p ∷ s) r (e.Unary o x)
unary_kept o l v w p s r x makes count fits kept = record {
  deeper = omega (arith, kept.deeper);
  within = λ h. kept.within (omega (arith, level_of (suc l) fits, h));
  spelled = λ ver good.
      let more = kept.spelled ver good.1 in
      let all : AreTokens ver (sign_piece (sign_of_unary o) ∷ wrapped (nat_lt 0 (expr_row x)) (expr_pieces x)) = (sign_spells (sign_of_unary o), tt, (λ place. refl), wrapped_tokens ver (nat_lt 0 (expr_row x)) (expr_pieces x) more.0) in
      (pieces_of ver (e.Unary o x) shown (unary_shown o x) all, more.1);
  row_most = omega (arith, row);
  bare = bare_of (e.Unary o x) shown l v w (unary_shown o x) read;
  inside = λ h. absurd (no_looser 0 (expr_row (e.Unary o x)) (omega (arith, row)) h);
} where
  shown : ExprShown
  shown = record { row = 0; pieces = sign_piece (sign_of_unary o) ∷ wrapped (nat_lt 0 (expr_row x)) (expr_pieces x) }

  row : expr_row (e.Unary o x) ≡ 0
  row = row_of (e.Unary o x) shown (unary_shown o x)

  read : IsReadFrom (record { row = 0; pieces = sign_piece (sign_of_unary o) ∷ wrapped (nat_lt 0 (expr_row x)) (expr_pieces x) }) l v w (e.Unary o x)
  read k a _ r room alike (piece q h) =
      let deeper = kept.deeper in
      let inner = operand 0 (suc l) (at_level (suc l) (with_operator v)) w _ _ x kept (suc k) (at_level (suc k) (with_operator a)) _ r (omega (arith, room)) (ap suc alike.0, alike.1, alike.2) h in
      record {
        behind = inner.behind;
        alike = inner.alike;
        is = makes k a inner.behind q _ r (count_is v.operators a.operators alike.0 count) (level_is (suc k) (omega (arith, room, deeper))) inner.is;
      }

-- an expression of a row is known as one of the next row
row_kept : (n l : ℕ) (v w : TextCounts) (s r : List Terminal) (x : Expr) → IsReadBack n l v w s r x → IsReadBack (suc n) l v w s r x
row_kept n l v w s r x kept = record {
  deeper = kept.deeper;
  within = kept.within;
  spelled = kept.spelled;
  row_most = kept.row_most;
  bare = kept.bare;
  inside = λ h. kept.inside (looser_still n (expr_row x) h);
}

-- two operands, the first of which was read before the operator, and both after t
binary_kept : (n l : ℕ) (b v u : TextCounts) (o : SignOf) (p : Place) (t s m : List Terminal) (x z : Expr) → row_of_sign o ≡ suc n → is_within (Count Operators) (suc v.operators) ≡ true →
    IsReadBack (suc n) l b v t (Sign o p ∷ s) x → IsReadBack n l (with_operator v) u s m z → IsReadBack (suc n) l b u t m (e.Binary (operator_of_sign o) x z)
binary_kept n l b v u o p t s m x z is count left right = record {
  deeper = omega (arith, left.deeper, right.deeper);
  within = λ h. right.within (left.within h);
  spelled = spelled;
  row_most = omega (arith, row, (operator_is o n is).row_most);
  bare = bare_of (e.Binary (operator_of_sign o) x z) shown l b u (binary_shown o n x z is) read;
  inside = λ h. absurd (no_looser (suc n) (expr_row (e.Binary (operator_of_sign o) x z)) (omega (arith, row)) h);
} where
  shown : ExprShown
  shown = record { row = suc n; pieces = both_pieces (suc n) o (nat_lt n (expr_row z)) x z }

  row : expr_row (e.Binary (operator_of_sign o) x z) ≡ suc n
  row = row_of (e.Binary (operator_of_sign o) x z) shown (binary_shown o n x z is)

  spelled : (ver : Bool) → AreGood ver t → AreTokens ver (expr_pieces (e.Binary (operator_of_sign o) x z)) × AreGood ver m
  spelled ver good =
      let first = left.spelled ver good in
      let second = right.spelled ver first.1.1 in
      let tail : AreTokens ver (sign_piece o ∷ wrapped (nat_lt n (expr_row z)) (expr_pieces z)) = (sign_spells o, tt, (λ place. refl), wrapped_tokens ver (nat_lt n (expr_row z)) (expr_pieces z) second.0) in
      let front = wrapped_tokens ver (nat_lt (suc n) (expr_row x)) (expr_pieces x) first.0 in
      let all = tokens_of_both ver (wrapped (nat_lt (suc n) (expr_row x)) (expr_pieces x)) (sign_piece o ∷ wrapped (nat_lt n (expr_row z)) (expr_pieces z)) front tail in
      (pieces_of ver (e.Binary (operator_of_sign o) x z) shown (binary_shown o n x z is) all, second.1)

  behind_left : (k : ℕ) (a : TextCounts) (s2 r2 : List Terminal) → k + u.deepest ≤ l + 64 → IsAlike b a →
      (q : List Terminal) × ArePrefix (wrapped (nat_lt (suc n) (expr_row x)) (expr_pieces x)) s2 q × ArePrefix (sign_piece o ∷ wrapped (nat_lt n (expr_row z)) (expr_pieces z)) q r2 →
      IsRead (suc n) k u a s2 r2 (e.Binary (operator_of_sign o) x z)
  behind_left k a s2 r2 room alike (_, first, piece q second) =
      let deeper = right.deeper in
      let one = operand (suc n) l b v t (Sign o p ∷ s) x left k a s2 _ (omega (arith, room, deeper)) alike first in
      let two = operand n l (with_operator v) u s m z right k (with_operator one.behind) _ r2 room (ap suc one.alike.0, one.alike.1, one.alike.2) second in
      record { behind = two.behind; alike = two.alike; is = joined one.is is (count_is v.operators one.behind.operators one.alike.0 count) two.is }

  read : IsReadFrom (record { row = suc n; pieces = both_pieces (suc n) o (nat_lt n (expr_row z)) x z }) l b u (e.Binary (operator_of_sign o) x z)
  read k a s2 r2 room alike prefix =
      behind_left k a s2 r2 room alike (split (wrapped (nat_lt (suc n) (expr_row x)) (expr_pieces x)) (sign_piece o ∷ wrapped (nat_lt n (expr_row z)) (expr_pieces z)) s2 r2 prefix)

mutual
  pub expr_kept : (n l : ℕ) (v w : TextCounts) (s r : List Terminal) (x : Expr) → IsExpr limits n l v w s r x → IsReadBack n l v w s r x
  expr_kept _ l v _ _ r _ (gr.number {n = n} {p = p}) = number_kept l v n p r
  expr_kept _ l v _ _ r _ (gr.variable {x = x} {p = p}) = variable_kept l v x p r
  expr_kept _ l v w _ r x (gr.parens {p = p} {q = q} {s = s} fits h) = parens_kept l v w p q s r x fits (expr_kept 10 (suc l) (at_level (suc l) v) w s (Sign g.RightParen q ∷ r) x h)
  expr_kept _ l v w _ r _ (gr.negative {p = p} {s = s} {x = x} count fits h) =
      unary_kept Neg l v w p s r x (λ k a b q t i c f d. gr.negative c f d) count fits (expr_kept 0 (suc l) (at_level (suc l) (with_operator v)) w s r x h)
  expr_kept _ l v w _ r _ (gr.negation {p = p} {s = s} {x = x} count fits h) =
      unary_kept Not l v w p s r x (λ k a b q t i c f d. gr.negation c f d) count fits (expr_kept 0 (suc l) (at_level (suc l) (with_operator v)) w s r x h)
  expr_kept _ l v w _ r _ (gr.complement {p = p} {s = s} {x = x} count fits h) =
      unary_kept Flip l v w p s r x (λ k a b q t i c f d. gr.complement c f d) count fits (expr_kept 0 (suc l) (at_level (suc l) (with_operator v)) w s r x h)
  expr_kept _ l v w s r y (gr.row {n = n} {u = u} {m = m} {x = x} h chain) = chain_kept n l v u w s m r x y chain (row_kept n l v u s m x (expr_kept n l v u s m x h))

  -- an expression with what it is joined to
  chain_kept : (n l : ℕ) (b v w : TextCounts) (t s r : List Terminal) (x y : Expr) → IsChain limits n l v w s r x y → IsReadBack (suc n) l b v t s x → IsReadBack (suc n) l b w t r y
  chain_kept n l b v _ t _ r x _ gr.stop kept = kept
  chain_kept n l b v w t _ r x y (gr.join {u = u} {o = o} {p = p} {s = s} {m = m} {y = z} is count h chain) kept =
      chain_kept n l b u w t m r (e.Binary (operator_of_sign o) x z) y chain (binary_kept n l b v u o p t s m x z is count kept (expr_kept n l (with_operator v) u s m z h))
