-- The exits of the functions that read expressions.
use Rattle.std.proofs.Common.{◌≡◌, ◌≢◌, ◌≤◌, ℕ, ℤ, suc, List, [], ◌∷◌, ◌++◌, length, true, false, refl, sym, ◌∙◌, ap, subst, arith, lit≤}
use Rattle.std.specs.Prelude.{Result, Ok, Err, IfOk}
use Rattle.shim_base.specs.declared.operators.UnOp.{UnOp}
use Rattle.shim_base.specs.declared.operators.UnOp.TheVariants.{Neg, Not, Flip}
use Rattle.shim_base.specs.declared.token.Sign.{Sign as SignOf}
use Rattle.shim_base.specs.declared.token.Sign.TheVariants as g
use Rattle.shim_base.specs.Tokens.{Place}
use Rattle.shim_syntax.specs.declared.limits.Many.TheVariants as many
use Rattle.shim_syntax.specs.declared.Expr.{Expr}
use Rattle.shim_syntax.specs.declared.tree.Expr.TheVariants as tree
use Rattle.shim_syntax.specs.Terminals.{Terminal, Name, Number, Sign, first}
use Rattle.shim_syntax.specs.Limits.{Nesting, Count, limits, is_within}
use Rattle.shim_syntax.specs.Grammar as is
use Rattle.shim_syntax.specs.Grammar.{TextCounts, new_expression, with_operator, at_level, operator_row, row_of_sign, operator_of_sign, IsExpr, IsChain, IsWhole}
use Rattle.shim_grammar.specs.declared.punctuation.Punctuation.{Punctuation}
use Rattle.shim_grammar.specs.declared.punctuation.Punctuation.TheVariants as punctuation
use Rattle.shim_grammar.specs.Machine.{SymbolStack, Fixed, Operand, Inside, Expression, Operators, go, is_operator, run_parser}
use Rattle.shim_grammar.proofs.Runs.{asked, inside_runs, expression_runs, operator_runs, operators_skip, expr_runs, whole_runs, joins_of_row}
use Rattle.shim_parser.specs.declared.terminal.Terminal as read
use Rattle.shim_parser.specs.declared.terminal.Terminal.TheVariants as here
use Rattle.shim_parser.specs.TerminalView.{terminal_view}
use Rattle.shim_parser.specs.declared.fault.ParseFault.{ParseFault}
use Rattle.shim_parser.specs.Parts.{unary_sign, IsPunctuation, IsEntered, IsUnarySign, Stops}
use Rattle.shim_parser.specs.ReaderViews.{ReaderView, Fails, Reads, reader_with}
use Rattle.shim_parser.proofs.Exits.{Leads, Took, took, fails_as, fails_under, reads_as}

-- a terminal that was counted and then taken
pub record Counted (f : TextCounts → TextCounts) (t : Terminal) (a d : ReaderView) : Type 0 where
  pub rest : a.rest ≡ t ∷ d.rest
  pub counts : d.counts ≡ f a.counts

pub counted_took : (f : TextCounts → TextCounts) (t : Terminal) (a b d : ReaderView) → first a.rest ≡ t → b ≡ reader_with f a → b ≡ record { rest = first b.rest ∷ d.rest; counts = d.counts } → Counted f t a d
counted_took f t a b d h p q =
    let r : a.rest ≡ b.rest = ap (λ (u : ReaderView). u.rest) (sym p) in
    record {
      rest = r ∙ ap (λ (u : ReaderView). u.rest) q ∙ ap (λ u. first u ∷ d.rest) (sym r) ∙ ap (λ u. u ∷ d.rest) h;
      counts = ap (λ (u : ReaderView). u.counts) (sym q) ∙ ap (λ (u : ReaderView). u.counts) p;
    }

-- the machine takes an operator with one operand
unary_run : (op : UnOp) (l : ℕ) (p : Place) (s : List Terminal) (w : TextCounts) (k : SymbolStack) → is_within (Count many.Operators) (suc w.operators) ≡ true
    → run_parser limits (Sign (unary_sign op) p ∷ s) (Operand l ∷ k) w ≡ run_parser limits s (Inside (suc l) ∷ k) (with_operator w)
unary_run Neg l p s w k h = asked limits (Sign g.Minus p) s (Count many.Operators) (suc w.operators) (go (Inside (suc l) ∷ k) (with_operator w)) h
unary_run Not l p s w k h = asked limits (Sign g.Bang p) s (Count many.Operators) (suc w.operators) (go (Inside (suc l) ∷ k) (with_operator w)) h
unary_run Flip l p s w k h = asked limits (Sign g.Tilde p) s (Count many.Operators) (suc w.operators) (go (Inside (suc l) ∷ k) (with_operator w)) h

unary_leads : (op : UnOp) (l : ℕ) (p : Place) (a d : ReaderView) → is_within (Count many.Operators) (suc a.counts.operators) ≡ true → Counted with_operator (Sign (unary_sign op) p) a d
    → Leads (Operand l ∷ []) (Inside (suc l) ∷ []) a d
unary_leads op l p a d h c = λ k.
    ap (λ u. run_parser limits u (Operand l ∷ k) a.counts) c.rest ∙ unary_run op l p d.rest a.counts k h ∙ ap (λ u. run_parser limits d.rest (Inside (suc l) ∷ k) u) (sym c.counts)

entered_leads : (l : ℕ) (z : SymbolStack) (a b : ReaderView) → IsEntered l a.counts b.counts a.rest b.rest tt → Leads (Inside l ∷ z) (Operand l ∷ z) a b
entered_leads l z a b h = λ k.
    inside_runs limits a.rest l a.counts (z ++ k) h.0 ∙ ap (λ u. run_parser limits a.rest (Operand l ∷ (z ++ k)) u) (sym h.1) ∙ ap (λ u. run_parser limits u (Operand l ∷ (z ++ k)) b.counts) h.2

-- with the level that the code counts
module _ (op : UnOp) (l j : ℕ) (e : j ≡ suc l) (a b d : ReaderView) (s : IsUnarySign op (first a.rest)) (h : is_within (Count many.Operators) (suc a.counts.operators) ≡ true)
    (p : b ≡ reader_with with_operator a) (q : b ≡ record { rest = first b.rest ∷ d.rest; counts = d.counts }) where
  unary_began : Counted with_operator (Sign (unary_sign op) s.0) a d
  unary_began = counted_took with_operator (Sign (unary_sign op) s.0) a b d s.1 p q

  unary_began_leads : Leads (Operand l ∷ []) (Inside j ∷ []) a d
  unary_began_leads = subst (λ i. Leads (Operand l ∷ []) (Inside i ∷ []) a d) (sym e) (unary_leads op l s.0 a d h unary_began)

  pub unary_enter_fails : (at : ReaderView) (err : ParseFault) → Fails (Inside j ∷ []) d at err → Fails (Operand l ∷ []) a at err
  unary_enter_fails at err f = fails_as (Operand l ∷ []) (Inside j ∷ []) a d at err unary_began_leads f

  pub unary_operand_fails : (i at : ReaderView) (err : ParseFault) → IsEntered j d.counts i.counts d.rest i.rest tt → Fails (Operand j ∷ []) i at err → Fails (Operand l ∷ []) a at err
  unary_operand_fails i at err n f = fails_as (Operand l ∷ []) (Operand j ∷ []) a i at err (λ k. unary_began_leads k ∙ entered_leads j [] d i n k) f

  unary_is : (op : UnOp) (t : Place) (v w : TextCounts) (m r : List Terminal) (x : Expr) → is_within (Count many.Operators) (suc v.operators) ≡ true → is_within Nesting (suc l) ≡ true
      → IsExpr limits 0 (suc l) (at_level (suc l) (with_operator v)) w m r x → IsExpr limits 0 l v w (Sign (unary_sign op) t ∷ m) r (tree.Unary op x)
  unary_is Neg t v w m r x h n d = is.negative h n d
  unary_is Not t v w m r x h n d = is.negation h n d
  unary_is Flip t v w m r x h n d = is.complement h n d

  pub unary_reads : (i f : ReaderView) (x y : Expr) → IsEntered j d.counts i.counts d.rest i.rest tt → IsExpr limits 0 j i.counts f.counts i.rest f.rest x → y ≡ tree.Unary op x
      → IsExpr limits 0 l a.counts f.counts a.rest f.rest y
  unary_reads i f x y n r w =
      let v : i.counts ≡ at_level (suc l) (with_operator a.counts) = n.1 ∙ ap (λ u. at_level u d.counts) e ∙ ap (λ u. at_level (suc l) u) unary_began.counts in
      let r₁ : IsExpr limits 0 (suc l) i.counts f.counts i.rest f.rest x = subst (λ u. IsExpr limits 0 u i.counts f.counts i.rest f.rest x) e r in
      let r₂ : IsExpr limits 0 (suc l) (at_level (suc l) (with_operator a.counts)) f.counts d.rest f.rest x =
      subst (λ u. IsExpr limits 0 (suc l) (at_level (suc l) (with_operator a.counts)) f.counts u f.rest x) (sym n.2) (subst (λ u. IsExpr limits 0 (suc l) u f.counts i.rest f.rest x) v r₁) in
      subst (λ u. IsExpr limits 0 l a.counts f.counts u f.rest y) (sym unary_began.rest)
      (subst (λ u. IsExpr limits 0 l a.counts f.counts (Sign (unary_sign op) s.0 ∷ d.rest) f.rest u) (sym w)
      (unary_is op s.0 a.counts f.counts d.rest f.rest x h (subst (λ u. is_within Nesting u ≡ true) e n.0) r₂))

-- no operator follows where none of any row does
pub stops_joins : (r : List Terminal) → Stops 10 r → is_operator (first r) ≡ false
stops_joins [] h = refl
stops_joins (Sign g.Star p ∷ r) h = absurd (h 0 refl (lit≤ tt))
stops_joins (Sign g.Slash p ∷ r) h = absurd (h 0 refl (lit≤ tt))
stops_joins (Sign g.Percent p ∷ r) h = absurd (h 0 refl (lit≤ tt))
stops_joins (Sign g.Plus p ∷ r) h = absurd (h 1 refl (lit≤ tt))
stops_joins (Sign g.Minus p ∷ r) h = absurd (h 1 refl (lit≤ tt))
stops_joins (Sign g.Shl p ∷ r) h = absurd (h 2 refl (lit≤ tt))
stops_joins (Sign g.Shr p ∷ r) h = absurd (h 2 refl (lit≤ tt))
stops_joins (Sign g.Less p ∷ r) h = absurd (h 3 refl (lit≤ tt))
stops_joins (Sign g.Le p ∷ r) h = absurd (h 3 refl (lit≤ tt))
stops_joins (Sign g.Greater p ∷ r) h = absurd (h 3 refl (lit≤ tt))
stops_joins (Sign g.Ge p ∷ r) h = absurd (h 3 refl (lit≤ tt))
stops_joins (Sign g.EqEq p ∷ r) h = absurd (h 4 refl (lit≤ tt))
stops_joins (Sign g.NotEq p ∷ r) h = absurd (h 4 refl (lit≤ tt))
stops_joins (Sign g.Amp p ∷ r) h = absurd (h 5 refl (lit≤ tt))
stops_joins (Sign g.Caret p ∷ r) h = absurd (h 6 refl (lit≤ tt))
stops_joins (Sign g.Bar p ∷ r) h = absurd (h 7 refl (lit≤ tt))
stops_joins (Sign g.AndAnd p ∷ r) h = absurd (h 8 refl (lit≤ tt))
stops_joins (Sign g.OrOr p ∷ r) h = absurd (h 9 refl (lit≤ tt))
stops_joins (_ ∷ r) h = refl

pub number_reads : (l : ℕ) (a b : ReaderView) (n : ℤ) (p : Place) → Number n p ≡ first a.rest → a ≡ record { rest = first a.rest ∷ b.rest; counts = b.counts } → IsExpr limits 0 l a.counts b.counts a.rest b.rest (tree.Number n)
number_reads l a b n p h q = let w = took {t = Number n p} {a = a} {b = b} h q in rw (w.rest, w.counts) is.number

pub variable_reads : (l : ℕ) (a b : ReaderView) (x y : List ℕ) (p : Place) → Name x p ≡ first a.rest → a ≡ record { rest = first a.rest ∷ b.rest; counts = b.counts } → y ≡ x → IsExpr limits 0 l a.counts b.counts a.rest b.rest (tree.Var y)
variable_reads l a b x y p h q n = let w = took {t = Name x p} {a = a} {b = b} h q in rw (n, w.rest, w.counts) is.variable

-- what stands in parentheses
module _ (l j : ℕ) (e : j ≡ suc l) (p : Place) (a b : ReaderView) (h : Sign g.LeftParen p ≡ first a.rest) (q : a ≡ record { rest = first a.rest ∷ b.rest; counts = b.counts }) where
  opened : Took (Sign g.LeftParen p) a b
  opened = took h q

  opened_leads : Leads (Operand l ∷ []) (Inside j ∷ Operators j ∷ Fixed punctuation.RightParen ∷ []) a b
  opened_leads = subst (λ i. Leads (Operand l ∷ []) (Inside i ∷ Operators i ∷ Fixed punctuation.RightParen ∷ []) a b) (sym e)
      (λ k. ap (λ u. run_parser limits u (Operand l ∷ k) a.counts) opened.rest ∙ ap (λ u. run_parser limits b.rest (Inside (suc l) ∷ Operators (suc l) ∷ Fixed punctuation.RightParen ∷ k) u) opened.counts)

  pub parens_enter_fails : (at : ReaderView) (err : ParseFault) → Fails (Inside j ∷ []) b at err → Fails (Operand l ∷ []) a at err
  parens_enter_fails at err f = fails_under (Operand l ∷ []) (Inside j ∷ []) (Operators j ∷ Fixed punctuation.RightParen ∷ []) a b at err opened_leads f

  inside_leads : (d : ReaderView) → IsEntered j b.counts d.counts b.rest d.rest tt → Leads (Operand l ∷ []) (Operand j ∷ Operators j ∷ Fixed punctuation.RightParen ∷ []) a d
  inside_leads d n = λ k. opened_leads k ∙ entered_leads j (Operators j ∷ Fixed punctuation.RightParen ∷ []) b d n k

  pub parens_row_fails : (d at : ReaderView) (err : ParseFault) → IsEntered j b.counts d.counts b.rest d.rest tt → Fails (Operand j ∷ Operators j ∷ []) d at err → Fails (Operand l ∷ []) a at err
  parens_row_fails d at err n f = fails_under (Operand l ∷ []) (Operand j ∷ Operators j ∷ []) (Fixed punctuation.RightParen ∷ []) a d at err (inside_leads d n) f

  pub parens_punctuation_fails : (d f at : ReaderView) (x : Expr) (err : ParseFault) → IsEntered j b.counts d.counts b.rest d.rest tt → IsExpr limits 10 j d.counts f.counts d.rest f.rest x → Stops 10 f.rest
      → Fails (Fixed punctuation.RightParen ∷ []) f at err → Fails (Operand l ∷ []) a at err
  parens_punctuation_fails d f at x err n r s = fails_as (Operand l ∷ []) (Fixed punctuation.RightParen ∷ []) a f at err
      (λ k. inside_leads d n k ∙ expr_runs r (Fixed punctuation.RightParen ∷ k) ∙ operators_skip limits f.rest j f.counts (Fixed punctuation.RightParen ∷ k) (stops_joins f.rest s))

  pub parens_reads : (d f i : ReaderView) (x : Expr) → IsEntered j b.counts d.counts b.rest d.rest tt → IsExpr limits 10 j d.counts f.counts d.rest f.rest x → IsPunctuation punctuation.RightParen f.counts i.counts f.rest i.rest tt
      → IsExpr limits 0 l a.counts i.counts a.rest i.rest x
  parens_reads d f i x n r m =
      let v : d.counts ≡ at_level (suc l) a.counts = n.1 ∙ ap (λ u. at_level u b.counts) e ∙ ap (λ u. at_level (suc l) u) (sym opened.counts) in
      let r₁ : IsExpr limits 10 (suc l) d.counts f.counts d.rest f.rest x = subst (λ u. IsExpr limits 10 u d.counts f.counts d.rest f.rest x) e r in
      let r₂ : IsExpr limits 10 (suc l) (at_level (suc l) a.counts) i.counts b.rest (Sign g.RightParen m.0 ∷ i.rest) x =
      subst (λ u. IsExpr limits 10 (suc l) (at_level (suc l) a.counts) u b.rest (Sign g.RightParen m.0 ∷ i.rest) x) m.2
      (subst (λ u. IsExpr limits 10 (suc l) (at_level (suc l) a.counts) f.counts b.rest u x) m.1
      (subst (λ u. IsExpr limits 10 (suc l) (at_level (suc l) a.counts) f.counts u f.rest x) (sym n.2) (subst (λ u. IsExpr limits 10 (suc l) u f.counts d.rest f.rest x) v r₁))) in
      subst (λ u. IsExpr limits 0 l a.counts i.counts u i.rest x) (sym opened.rest) (is.parens (subst (λ u. is_within Nesting u ≡ true) e n.0) r₂)

-- what reads on from here, reads from the start
pub record ChainSoFar (k l : ℕ) (a b : ReaderView) (x : Expr) : Type 0 where
  pub row : ℕ
  pub is_row : k ≡ suc row
  pub reads : (w : TextCounts) (r : List Terminal) (z : Expr) → IsChain limits row l b.counts w b.rest r x z → IsExpr limits k l a.counts w a.rest r z
  pub runs : Leads (Operand l ∷ Operators l ∷ []) (Operators l ∷ []) a b
  pub stops : Stops row b.rest

pub chain_starts : (k l i : ℕ) (a b : ReaderView) (x : Expr) → k ≡ suc i → IsExpr limits i l a.counts b.counts a.rest b.rest x → Stops i b.rest → ChainSoFar k l a b x
chain_starts k l i a b x p d h = record {
  row = i;
  is_row = p;
  reads = λ w r z c. subst (λ u. IsExpr limits u l a.counts w a.rest r z) (sym p) (is.row d c);
  runs = λ k. expr_runs d k;
  stops = h;
}

pub chain_ends : (k l : ℕ) (a b : ReaderView) (x : Expr) → ChainSoFar k l a b x → operator_row (first b.rest) ≢ k → IsExpr limits k l a.counts b.counts a.rest b.rest x × Stops k b.rest
chain_ends k l a b x c h = (c.reads b.counts b.rest x is.stop, λ j e n. omega (arith, c.stops j e))

-- an operator of the row at b
module _ (k l : ℕ) (a b : ReaderView) (x : Expr) (c : ChainSoFar k l a b x) (o : SignOf) (p : Place) (h : Sign o p ≡ first b.rest) (s : row_of_sign o ≡ k) where
  module _ (b' d : ReaderView) (f : is_within (Count many.Operators) (suc b.counts.operators) ≡ true) (m : b' ≡ reader_with with_operator b)
      (q : b' ≡ record { rest = first b'.rest ∷ d.rest; counts = d.counts }) where
    operator_took : Counted with_operator (Sign o p) b d
    operator_took = counted_took with_operator (Sign o p) b b' d (sym h) m q

    operator_leads : Leads (Operand l ∷ Operators l ∷ []) (Operand l ∷ Operators l ∷ []) a d
    operator_leads = λ j. c.runs j ∙ ap (λ u. run_parser limits u (Operators l ∷ j) b.counts) operator_took.rest
        ∙ operator_runs limits (Sign o p) d.rest l b.counts j (joins_of_row o c.row (s ∙ c.is_row)) f ∙ ap (λ u. run_parser limits d.rest (Operand l ∷ Operators l ∷ j) u) (sym operator_took.counts)

    pub chain_fails : (at : ReaderView) (err : ParseFault) → Fails (Operand l ∷ Operators l ∷ []) d at err → Fails (Operand l ∷ Operators l ∷ []) a at err
    chain_fails at err w = fails_as (Operand l ∷ Operators l ∷ []) (Operand l ∷ Operators l ∷ []) a d at err operator_leads w

    pub chain_goes : (i : ℕ) (n : ReaderView) (y z : Expr) → k ≡ suc i → IsExpr limits i l d.counts n.counts d.rest n.rest y → Stops i n.rest → z ≡ tree.Binary (operator_of_sign o) x y → ChainSoFar k l a n z
    chain_goes i n y z t r w v =
        let same : i ≡ c.row = omega (arith, c.is_row) in
        let r₁ : IsExpr limits c.row l (with_operator b.counts) n.counts d.rest n.rest y =
        subst (λ u. IsExpr limits c.row l u n.counts d.rest n.rest y) operator_took.counts (subst (λ u. IsExpr limits u l d.counts n.counts d.rest n.rest y) same r) in
        record {
          row = c.row;
          is_row = c.is_row;
          reads = λ u q i f. c.reads u q i (subst (λ j. IsChain limits c.row l b.counts u j q x i) (sym operator_took.rest)
              (is.join (s ∙ c.is_row) f' r₁ (subst (λ j. IsChain limits c.row l n.counts u n.rest q j i) v f)));
          runs = λ j. operator_leads j ∙ expr_runs r j;
          stops = subst (λ u. Stops u n.rest) same w;
        }
      where
        f' : is_within (Count many.Operators) (suc b.counts.operators) ≡ true
        f' = f

mutual
  pub expr_shorter : {n l : ℕ} {v w : TextCounts} {s r : List Terminal} {x : Expr} → IsExpr limits n l v w s r x → suc (length r) ≤ length s
  expr_shorter is.number = omega arith
  expr_shorter is.variable = omega arith
  expr_shorter (is.parens h d) = omega (arith, expr_shorter d)
  expr_shorter (is.negative g h d) = omega (arith, expr_shorter d)
  expr_shorter (is.negation g h d) = omega (arith, expr_shorter d)
  expr_shorter (is.complement g h d) = omega (arith, expr_shorter d)
  expr_shorter (is.row d c) = omega (arith, expr_shorter d, chain_shorter c)

  pub chain_shorter : {n l : ℕ} {v w : TextCounts} {s r : List Terminal} {x y : Expr} → IsChain limits n l v w s r x y → length r ≤ length s
  chain_shorter is.stop = omega arith
  chain_shorter (is.join e h d c) = omega (arith, expr_shorter d, chain_shorter c)

-- a sign of another row
pub chain_ends_other : (k l : ℕ) (a b : ReaderView) (x : Expr) → ChainSoFar k l a b x → (o : SignOf) (p : Place) → Sign o p ≡ first b.rest → row_of_sign o ≢ k → IsExpr limits k l a.counts b.counts a.rest b.rest x × Stops k b.rest
chain_ends_other k l a b x c o p h n = chain_ends k l a b x c (λ e. n (ap operator_row h ∙ e))

-- no sign at all
pub no_row : (t : read.Terminal) (p : Place) (k : ℕ) → ((o : SignOf) → t ≡ here.Sign o → ⊥) → 1 ≤ k → operator_row (terminal_view t p) ≡ k → ⊥
no_row (here.Sign o) p k h n e = h o refl
no_row _ p k h n e = omega (arith, e)

-- a whole expression begins to count
pub whole_is : (l : ℕ) (a b d : ReaderView) (r : Result Expr ParseFault) → b ≡ reader_with new_expression a → Reads (IsExpr limits 10 l) (Operand l ∷ Operators l ∷ []) r b d
    → Reads (IsWhole limits l) (Expression l ∷ Operators l ∷ []) r a d
whole_is l a b d r p h = reads_as (IsExpr limits 10 l) (IsWhole limits l) (Operand l ∷ Operators l ∷ []) (Expression l ∷ Operators l ∷ []) [] a b d r
    (λ x f. let g : IsExpr limits 10 l (new_expression a.counts) d.counts b.rest d.rest x = subst (λ u. IsExpr limits 10 l u d.counts b.rest d.rest x) (ap (λ (u : ReaderView). u.counts) p) f in
    subst (λ u. IsExpr limits 10 l (new_expression a.counts) d.counts u d.rest x) (ap (λ (u : ReaderView). u.rest) p) g)
    (λ k. expression_runs limits a.rest l a.counts (Operators l ∷ k) ∙ ap (λ (u : ReaderView). run_parser limits u.rest (Operand l ∷ Operators l ∷ k) u.counts) (sym p)) h

pub whole_stops : (r : List Terminal) (v : Result Expr ParseFault) → IfOk v (λ x. Stops 10 r) → IfOk v (λ x. is_operator (first r) ≡ false)
whole_stops r (Ok x) h = stops_joins r h
whole_stops r (Err e) h = tt

-- what comes after a whole expression
pub whole_leads : (l : ℕ) (z : SymbolStack) (a b : ReaderView) (x : Expr) → IsWhole limits l a.counts b.counts a.rest b.rest x → is_operator (first b.rest) ≡ false → Leads (Expression l ∷ Operators l ∷ z) z a b
whole_leads l z a b x d s = λ k. whole_runs a.counts d (z ++ k) ∙ operators_skip limits b.rest l b.counts (z ++ k) s

pub whole_punctuation_fails : (f : Punctuation) (l : ℕ) (a b at : ReaderView) (x : Expr) (err : ParseFault) → IsWhole limits l a.counts b.counts a.rest b.rest x → is_operator (first b.rest) ≡ false
    → Fails (Fixed f ∷ []) b at err → Fails (Expression l ∷ Operators l ∷ Fixed f ∷ []) a at err
whole_punctuation_fails f l a b at x err d s = fails_as (Expression l ∷ Operators l ∷ Fixed f ∷ []) (Fixed f ∷ []) a b at err (whole_leads l (Fixed f ∷ []) a b x d s)
