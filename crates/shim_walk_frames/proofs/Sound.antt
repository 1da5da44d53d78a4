-- What is left to do from a number of a piece of text, and how it agrees with what follows the statement there.
use Rattle.std.proofs.Common.{◌≡◌, ℕ, zero, suc, ◌+◌, ◌-◌, ◌<◌, ◌≤◌, List, [], ◌∷◌, ◌++◌, Option, Some, refl, sym, ap, ◌∙◌, nat_lt, if◌then◌else◌, arith, append_assoc, ⊎_elim}
use Rattle.std.proofs.lemmas.Bool.Decides.{nat_tests}
use Rattle.std.proofs.lemmas.Bool.{cases_lt}
use Rattle.shim_units.specs.declared.unit.UStmt.{UStmt}
use Rattle.shim_process.specs.Todo.{Item, Do, Leave, follow}
use Rattle.shim_process.specs.Todo as todo
use Rattle.shim_walk_frames.specs.declared.successors.Successor.{Successor}
use Rattle.shim_walk_frames.specs.declared.successors.Successor.TheVariants.{On, First, Second}
use Rattle.shim_walk_frames.specs.declared.successors.Position.{Position}
use Rattle.shim_walk_frames.specs.Successors.{to, shifted, inside, into}
use Rattle.shim_walk_frames.specs.Pieces.{StmtPiece, leaves, no_piece, one_piece, joined_piece, two_piece, two_left, loop_piece, loop_left}
use Rattle.shim_walk_frames.specs.Turns.{successor_of}

-- at this number a statement is to be done, and what follows it is what is left at the next
pub record Goes (here : List Item) (at : Option UStmt) (num : ℕ) (c : Successor) (p : Position) (size : ℕ) (next : List Item) : Type 0 where
  pub stmt : UStmt
  pub rest : List Item
  pub here_is : here ≡ Do num stmt ∷ rest
  pub found : at ≡ Some stmt
  pub goes : follow (successor_of c) num stmt rest ≡ leaves p.left next
  pub at_most : p.at ≤ size

goes_by : (here here' : List Item) (at at' : Option UStmt) (num num' : ℕ) (c : Successor) (p p' : Position) (size size' : ℕ) (next next' : List Item)
    → here' ≡ here → at' ≡ at → num' ≡ num → p'.at ≤ size' → leaves p.left next ≡ leaves p'.left next' → Goes here at num c p size next → Goes here' at' num' c p' size' next'
goes_by here here' at at' num num' c p p' size size' next next' e1 e2 e3 e4 e5 g = record {
  stmt = g.stmt;
  rest = g.rest;
  here_is = e1 ∙ g.here_is ∙ ap (λ n. Do n g.stmt ∷ g.rest) (sym e3);
  found = e2 ∙ g.found;
  goes = ap (λ n. follow (successor_of c) n g.stmt g.rest) e3 ∙ g.goes ∙ e5;
  at_most = e4;
}

-- a piece that is over is followed by the rest
unfoldable pub past : StmtPiece → ℕ → List Item → ℕ → List Item
past p base k n = if nat_lt n p.successors.size then p.left base n k else k

pub pick : {A : Type 0} (n m : ℕ) (x y : A) → n < m → (if nat_lt n m then x else y) ≡ x
pick n m x y h = grind (arith, nat_tests)

pub skip : {A : Type 0} (n m : ℕ) (x y : A) → m ≤ n → (if nat_lt n m then x else y) ≡ y
skip n m x y h = grind (arith, nat_tests)

pub past_in : (p : StmtPiece) (base : ℕ) (k : List Item) (n : ℕ) → n < p.successors.size → past p base k n ≡ p.left base n k
unfolding past
past_in p base k n h = pick _ _ _ _ h

pub past_out : (p : StmtPiece) (base : ℕ) (k : List Item) (n : ℕ) → p.successors.size ≤ n → past p base k n ≡ k
unfolding past
past_out p base k n h = skip _ _ _ _ h

pub record Sound (p : StmtPiece) : Type 0 where
  pub goes : (base n : ℕ) (c : Successor) (k : List Item) → n < p.successors.size → Goes (p.left base n k) (p.at n) (base + n) c (p.successors.go c n) p.successors.size (past p base k (p.successors.go c n).at)
  pub starts : (base : ℕ) (k : List Item) → 0 < p.successors.size → p.left base 0 k ≡ p.items base ++ k
  pub nothing : (base : ℕ) → p.successors.size ≡ 0 → p.items base ≡ []

-- at its start all of it is left
pub begins : (p : StmtPiece) → Sound p → (base : ℕ) (k : List Item) → past p base k 0 ≡ p.items base ++ k
begins p s base k =
    ⊎_elim
    (λ lt. past_in p base k 0 lt ∙ s.starts base k lt)
    (λ le. let z : p.successors.size ≡ 0 = omega arith in past_out p base k 0 le ∙ ap (λ i. i ++ k) (sym (s.nothing base z)))
    (cases_lt 0 p.successors.size)

pub sound_none : Sound no_piece
sound_none = record {
  goes = λ base n c k h. absurd (omega arith);
  starts = λ base k h. absurd (omega arith);
  nothing = λ base z. refl;
}

pub sound_one : (s : UStmt) → ((c : Successor) (n : ℕ) (k : List Item) → follow (successor_of c) n s k ≡ k) → Sound (one_piece s)
sound_one s f = record {
  goes = λ base n c k h. one_goes base n c k h;
  starts = λ base k h. refl;
  nothing = λ base z. absurd (let no : 1 ≡ 0 = z in omega arith);
}
  where
    one_goes : (base n : ℕ) (c : Successor) (k : List Item) → n < 1 → Goes (Do base s ∷ k) (Some s) (base + n) c (to 1 0) 1 (past (one_piece s) base k 1)
    one_goes base n c k h =
        let z : base ≡ base + n = omega arith in
        let one : 1 ≤ 1 = omega arith in
        record {
          stmt = s;
          rest = k;
          here_is = ap (λ m. Do m s ∷ k) z;
          found = refl;
          goes = f c (base + n) k ∙ sym (past_out (one_piece s) base k 1 one);
          at_most = one;
        }

-- one piece after the other
module _ (a b : StmtPiece) (sa : Sound a) (sb : Sound b) where
  abbrev ab : StmtPiece
  ab = joined_piece a b

  first_past : (base : ℕ) (k : List Item) (n : ℕ) → n ≤ a.successors.size → past a base (b.items (base + a.successors.size) ++ k) n ≡ past ab base k n
  first_past base k n h =
      ⊎_elim
      (λ lt. let in_ab : n < ab.successors.size = omega arith in
      past_in a base _ n lt ∙ sym (past_in ab base k n in_ab ∙ pick _ _ _ _ lt))
      (λ le.
      let z : n - a.successors.size ≡ 0 = omega arith in
      past_out a base _ n le
      ∙ sym (begins b sb (base + a.successors.size) k)
      ∙ ⊎_elim
      (λ more. let in_ab : n < ab.successors.size = omega arith in
      past_in b (base + a.successors.size) k 0 more ∙ ap (λ m. b.left (base + a.successors.size) m k) (sym z) ∙ sym (past_in ab base k n in_ab ∙ skip _ _ _ _ le))
      (λ none. let out : ab.successors.size ≤ n = omega arith in past_out b (base + a.successors.size) k 0 none ∙ sym (past_out ab base k n out))
      (cases_lt 0 b.successors.size))
      (cases_lt n a.successors.size)

  second_past : (base : ℕ) (k : List Item) (n : ℕ) → past b (base + a.successors.size) k n ≡ past ab base k (a.successors.size + n)
  second_past base k n =
      ⊎_elim
      (λ lt.
      let in_ab : a.successors.size + n < ab.successors.size = omega arith in
      let le : a.successors.size ≤ a.successors.size + n = omega arith in
      let e : n ≡ a.successors.size + n - a.successors.size = omega arith in
      past_in b _ k n lt ∙ ap (λ m. b.left (base + a.successors.size) m k) e ∙ sym (past_in ab base k (a.successors.size + n) in_ab ∙ skip _ _ _ _ le))
      (λ le. let out : ab.successors.size ≤ a.successors.size + n = omega arith in past_out b _ k n le ∙ sym (past_out ab base k (a.successors.size + n) out))
      (cases_lt n b.successors.size)

  joined_goes : (base n : ℕ) (c : Successor) (k : List Item) → n < ab.successors.size → Goes (ab.left base n k) (ab.at n) (base + n) c (ab.successors.go c n) ab.successors.size (past ab base k (ab.successors.go c n).at)
  joined_goes base n c k h =
      ⊎_elim
      (λ here.
      let g = sa.goes base n c (b.items (base + a.successors.size) ++ k) here in
      let e : ab.successors.go c n ≡ a.successors.go c n = pick n a.successors.size (a.successors.go c n) (shifted a.successors.size (b.successors.go c (n - a.successors.size))) here in
      let bound = g.at_most in
      let most : (a.successors.go c n).at ≤ ab.successors.size = omega arith in
      goes_by _ _ _ _ _ _ c _ (ab.successors.go c n) _ ab.successors.size _ _ (pick _ _ _ _ here) (pick _ _ _ _ here) refl (rw e most)
      (ap (leaves (a.successors.go c n).left) (first_past base k (a.successors.go c n).at bound) ∙ ap (λ p. leaves p.left (past ab base k p.at)) (sym e)) g)
      (λ there.
      let m = n - a.successors.size in
      let lt : m < b.successors.size = omega arith in
      let g = sb.goes (base + a.successors.size) m c k lt in
      let q = b.successors.go c m in
      let e : ab.successors.go c n ≡ shifted a.successors.size q = skip n a.successors.size (a.successors.go c n) (shifted a.successors.size q) there in
      let bound = g.at_most in
      let most : a.successors.size + q.at ≤ ab.successors.size = omega arith in
      let num : base + n ≡ base + a.successors.size + m = omega arith in
      goes_by _ _ _ _ _ _ c q (ab.successors.go c n) _ ab.successors.size _ _ (skip _ _ _ _ there) (skip _ _ _ _ there) num (rw e most)
      (ap (leaves q.left) (second_past base k q.at) ∙ ap (λ p. leaves p.left (past ab base k p.at)) (sym e)) g)
      (cases_lt n a.successors.size)

  joined_starts : (base : ℕ) (k : List Item) → 0 < ab.successors.size → ab.left base 0 k ≡ ab.items base ++ k
  joined_starts base k h =
      ⊎_elim
      (λ pos. pick _ _ _ _ pos ∙ sa.starts base (b.items (base + a.successors.size) ++ k) pos ∙ sym (append_assoc (a.items base) (b.items (base + a.successors.size)) k))
      (λ none.
      let z : a.successors.size ≡ 0 = omega arith in
      let m : 0 - a.successors.size ≡ 0 = omega arith in
      let pos : 0 < b.successors.size = omega arith in
      skip _ _ _ _ none
      ∙ ap (λ n. b.left (base + a.successors.size) n k) m
      ∙ sb.starts (base + a.successors.size) k pos
      ∙ ap (λ l. (l ++ b.items (base + a.successors.size)) ++ k) (sym (sa.nothing base z)))
      (cases_lt 0 a.successors.size)

  joined_nothing : (base : ℕ) → ab.successors.size ≡ 0 → ab.items base ≡ []
  joined_nothing base z =
      let x : a.successors.size ≡ 0 = omega arith in
      let y : b.successors.size ≡ 0 = omega arith in
      ap (λ l. l ++ b.items (base + a.successors.size)) (sa.nothing base x) ∙ sb.nothing (base + a.successors.size) y

  pub sound_joined : Sound (joined_piece a b)
  sound_joined = record { goes = joined_goes; starts = joined_starts; nothing = joined_nothing }

leaves_add : (m n : ℕ) (k : List Item) → leaves m (leaves n k) ≡ leaves (n + m) k
leaves_add zero n k = ap (λ i. leaves i k) (let e : n ≡ n + 0 = omega arith in e)
leaves_add (suc m) n k = ap (λ l. Leave ∷ l) (leaves_add m n k) ∙ ap (λ i. leaves i k) (let e : suc (n + m) ≡ n + suc m = omega arith in e)

into_at : (from size m : ℕ) (p : Position) → from ≤ m → p.at ≤ m → (into from size p).at ≤ m
into_at from size m p h1 h2 =
    ⊎_elim (λ lt. rw (pick 0 size (to from 0) p lt) h1) (λ le. rw (skip 0 size (to from 0) p le) h2) (cases_lt 0 size)

inside_at : (from size m : ℕ) (end p : Position) → from + size ≤ m → end.at ≤ m → (inside from size end p).at ≤ m
inside_at from size m end p h1 h2 =
    ⊎_elim
    (λ lt. let le : from + p.at ≤ m = omega arith in rw (pick p.at size (shifted from p) (to end.at (end.left + p.left)) lt) le)
    (λ le. rw (skip p.at size (shifted from p) (to end.at (end.left + p.left)) le) h2)
    (cases_lt p.at size)

-- at the first number of a statement
at_zero : (s : UStmt) (w : StmtPiece) (base : ℕ) (c : Successor) (k : List Item) (p : Position) → w.left base 0 k ≡ Do base s ∷ k → w.at 0 ≡ Some s → w.successors.go c 0 ≡ p → p.at ≤ w.successors.size
    → follow (successor_of c) base s k ≡ leaves p.left (past w base k p.at)
    → Goes (w.left base 0 k) (w.at 0) (base + 0) c (w.successors.go c 0) w.successors.size (past w base k (w.successors.go c 0).at)
at_zero s w base c k p l a g b f =
    let e : base ≡ base + 0 = omega arith in
    record {
      stmt = s;
      rest = k;
      here_is = l ∙ ap (λ n. Do n s ∷ k) e;
      found = a;
      goes = ap (λ n. follow (successor_of c) n s k) (sym e) ∙ f ∙ ap (λ p. leaves p.left (past w base k p.at)) (sym g);
      at_most = rw g b;
    }

-- into a block of a statement, after which so many `try` blocks end
enters : (w l : StmtPiece) (sl : Sound l) (base from base1 v : ℕ) (k lk : List Item) (end : Position)
    → (0 < l.successors.size → past w base k from ≡ past l base1 lk 0) → lk ≡ leaves end.left (past w base k end.at)
    → l.items base1 ++ lk ≡ leaves (into from l.successors.size end).left (past w base k (into from l.successors.size end).at)
enters w l sl base from base1 v k lk end same e =
    ⊎_elim
    (λ lt.
    let p = pick 0 l.successors.size (to from 0) end lt in
    sym (begins l sl base1 lk) ∙ sym (same lt) ∙ ap (λ q. leaves q.left (past w base k q.at)) (sym p))
    (λ le.
    let p = skip 0 l.successors.size (to from 0) end le in
    let z : l.successors.size ≡ 0 = omega arith in
    ap (λ i. i ++ lk) (sl.nothing base1 z) ∙ e ∙ ap (λ q. leaves q.left (past w base k q.at)) (sym p))
    (cases_lt 0 l.successors.size)

-- how a statement of two blocks is followed
pub record TwoFollows (s : UStmt) (u : ℕ) (a b : StmtPiece) : Type 0 where
  pub on : (n : ℕ) (k : List Item) → follow todo.On n s k ≡ k
  pub first : (n : ℕ) (k : List Item) → follow todo.First n s k ≡ a.items (n + 1) ++ leaves u k
  pub second : (n : ℕ) (k : List Item) → follow todo.Second n s k ≡ b.items (n + 1 + a.successors.size) ++ k

module _ (s : UStmt) (u : ℕ) (a b : StmtPiece) (sa : Sound a) (sb : Sound b) (f : TwoFollows s u a b) (base : ℕ) (k : List Item) where
  abbrev tw : StmtPiece
  tw = two_piece s u a b

  abbrev two_end : ℕ → Position
  two_end v = to (1 + a.successors.size + b.successors.size) v

  two_past_first : (n : ℕ) → n < a.successors.size → past tw base k (1 + n) ≡ past a (base + 1) (leaves u k) n
  two_past_first n h =
      let e : 1 + n ≡ suc n = omega arith in
      let lt : 1 + n < tw.successors.size = omega arith in
      past_in tw base k (1 + n) lt ∙ ap (λ m. two_left s u a b base m k) e ∙ pick _ _ _ _ h ∙ sym (past_in a (base + 1) (leaves u k) n h)

  two_past_second : (n : ℕ) → n ≤ b.successors.size → past tw base k (1 + a.successors.size + n) ≡ past b (base + 1 + a.successors.size) k n
  two_past_second n h =
      ⊎_elim
      (λ lt.
      let e : 1 + a.successors.size + n ≡ suc (a.successors.size + n) = omega arith in
      let e2 : a.successors.size + n - a.successors.size ≡ n = omega arith in
      let in_s : 1 + a.successors.size + n < tw.successors.size = omega arith in
      let le : a.successors.size ≤ a.successors.size + n = omega arith in
      past_in tw base k (1 + a.successors.size + n) in_s ∙ ap (λ m. two_left s u a b base m k) e ∙ skip _ _ _ _ le ∙ ap (λ m. b.left (base + 1 + a.successors.size) m k) e2 ∙ sym (past_in b _ k n lt))
      (λ le. let out : tw.successors.size ≤ 1 + a.successors.size + n = omega arith in past_out tw base k _ out ∙ sym (past_out b _ k n le))
      (cases_lt n b.successors.size)

  two_past_end : past tw base k (1 + a.successors.size + b.successors.size) ≡ k
  two_past_end = let le : tw.successors.size ≤ 1 + a.successors.size + b.successors.size = omega arith in past_out tw base k _ le

  two_zero : (c : Successor) → Goes (tw.left base 0 k) (tw.at 0) (base + 0) c (tw.successors.go c 0) tw.successors.size (past tw base k (tw.successors.go c 0).at)
  two_zero On =
      let le : 1 + a.successors.size + b.successors.size ≤ tw.successors.size = omega arith in
      at_zero s tw base On k (two_end 0) refl refl refl le (f.on base k ∙ sym two_past_end)
  two_zero First =
      let le : 1 + a.successors.size + b.successors.size ≤ tw.successors.size = omega arith in
      let one : 1 ≤ tw.successors.size = omega arith in
      at_zero s tw base First k (into 1 a.successors.size (two_end u)) refl refl refl (into_at 1 a.successors.size tw.successors.size (two_end u) one le)
      (f.first base k ∙ enters tw a sa base 1 (base + 1) u k (leaves u k) (two_end u) (λ lt. two_past_first 0 lt) (ap (leaves u) (sym two_past_end)))
  two_zero Second =
      let le : 1 + a.successors.size + b.successors.size ≤ tw.successors.size = omega arith in
      let one : 1 + a.successors.size ≤ tw.successors.size = omega arith in
      let e : 1 + a.successors.size ≡ 1 + a.successors.size + 0 = omega arith in
      at_zero s tw base Second k (into (1 + a.successors.size) b.successors.size (two_end 0)) refl refl refl (into_at (1 + a.successors.size) b.successors.size tw.successors.size (two_end 0) one le)
      (f.second base k ∙ enters tw b sb base (1 + a.successors.size) (base + 1 + a.successors.size) 0 k k (two_end 0) (λ lt. ap (past tw base k) e ∙ two_past_second 0 (omega arith)) (sym two_past_end))

  two_leaves : (p : Position) → p.at ≤ a.successors.size → leaves p.left (past a (base + 1) (leaves u k) p.at) ≡ leaves (inside 1 a.successors.size (two_end u) p).left (past tw base k (inside 1 a.successors.size (two_end u) p).at)
  two_leaves p most =
      ⊎_elim
      (λ h.
      let e = pick p.at a.successors.size (shifted 1 p) (to (1 + a.successors.size + b.successors.size) (u + p.left)) h in
      ap (leaves p.left) (sym (two_past_first p.at h)) ∙ ap (λ q. leaves q.left (past tw base k q.at)) (sym e))
      (λ h.
      let e = skip p.at a.successors.size (shifted 1 p) (to (1 + a.successors.size + b.successors.size) (u + p.left)) h in
      ap (leaves p.left) (past_out a (base + 1) (leaves u k) p.at h) ∙ leaves_add p.left u k ∙ ap (leaves (u + p.left)) (sym two_past_end) ∙ ap (λ q. leaves q.left (past tw base k q.at)) (sym e))
      (cases_lt p.at a.successors.size)

  two_suc : (n : ℕ) (c : Successor) → suc n < tw.successors.size → Goes (tw.left base (suc n) k) (tw.at (suc n)) (base + suc n) c (tw.successors.go c (suc n)) tw.successors.size (past tw base k (tw.successors.go c (suc n)).at)
  two_suc n c lt =
      ⊎_elim
      (λ h.
      let g = sa.goes (base + 1) n c (leaves u k) h in
      let p = a.successors.go c n in
      let e : tw.successors.go c (suc n) ≡ inside 1 a.successors.size (two_end u) p = pick n a.successors.size (inside 1 a.successors.size (two_end u) p) (shifted (1 + a.successors.size) (b.successors.go c (n - a.successors.size))) h in
      let num : base + suc n ≡ base + 1 + n = omega arith in
      let bound = g.at_most in
      let fit = inside_at 1 a.successors.size tw.successors.size (two_end u) p (omega arith) (omega arith) in
      goes_by _ _ _ _ _ _ c p (tw.successors.go c (suc n)) _ tw.successors.size _ _ (pick _ _ _ _ h) (pick _ _ _ _ h) num (rw e fit)
      (two_leaves p bound ∙ ap (λ p. leaves p.left (past tw base k p.at)) (sym e)) g)
      (λ h.
      let m = n - a.successors.size in
      let in_b : m < b.successors.size = omega arith in
      let g = sb.goes (base + 1 + a.successors.size) m c k in_b in
      let q = b.successors.go c m in
      let e : tw.successors.go c (suc n) ≡ shifted (1 + a.successors.size) q = skip n a.successors.size (inside 1 a.successors.size (two_end u) (a.successors.go c n)) (shifted (1 + a.successors.size) q) h in
      let num : base + suc n ≡ base + 1 + a.successors.size + m = omega arith in
      let bound = g.at_most in
      let fit : 1 + a.successors.size + q.at ≤ tw.successors.size = omega arith in
      goes_by _ _ _ _ _ _ c q (tw.successors.go c (suc n)) _ tw.successors.size _ _ (skip _ _ _ _ h) (skip _ _ _ _ h) num (rw e fit)
      (ap (leaves q.left) (sym (two_past_second q.at bound)) ∙ ap (λ p. leaves p.left (past tw base k p.at)) (sym e)) g)
      (cases_lt n a.successors.size)

two_goes : (s : UStmt) (u : ℕ) (a b : StmtPiece) (sa : Sound a) (sb : Sound b) (f : TwoFollows s u a b) (base n : ℕ) (c : Successor) (k : List Item) → n < (two_piece s u a b).successors.size
    → Goes ((two_piece s u a b).left base n k) ((two_piece s u a b).at n) (base + n) c ((two_piece s u a b).successors.go c n) (two_piece s u a b).successors.size (past (two_piece s u a b) base k ((two_piece s u a b).successors.go c n).at)
two_goes s u a b sa sb f base zero c k lt = two_zero s u a b sa sb f base k c
two_goes s u a b sa sb f base (suc n) c k lt = two_suc s u a b sa sb f base k n c lt

pub sound_two : (s : UStmt) (u : ℕ) (a b : StmtPiece) → Sound a → Sound b → TwoFollows s u a b → Sound (two_piece s u a b)
sound_two s u a b sa sb f = record {
  goes = two_goes s u a b sa sb f;
  starts = λ base k h. refl;
  nothing = λ base z. absurd (let no : 1 + a.successors.size + b.successors.size ≡ 0 = z in omega arith);
}

-- how a loop is followed
pub record LoopFollows (s : UStmt) (a : StmtPiece) : Type 0 where
  pub on : (n : ℕ) (k : List Item) → follow todo.On n s k ≡ k
  pub first : (n : ℕ) (k : List Item) → follow todo.First n s k ≡ a.items (n + 1) ++ Do n s ∷ k
  pub second : (n : ℕ) (k : List Item) → follow todo.Second n s k ≡ k

module _ (s : UStmt) (a : StmtPiece) (sa : Sound a) (f : LoopFollows s a) (base : ℕ) (k : List Item) where
  abbrev lp : StmtPiece
  lp = loop_piece s a

  loop_begins : past lp base k 0 ≡ Do base s ∷ k
  loop_begins = let lt : 0 < lp.successors.size = omega arith in past_in lp base k 0 lt

  loop_end : past lp base k (1 + a.successors.size) ≡ k
  loop_end = let le : lp.successors.size ≤ 1 + a.successors.size = omega arith in past_out lp base k _ le

  loop_in : (n : ℕ) → n < a.successors.size → past lp base k (1 + n) ≡ past a (base + 1) (Do base s ∷ k) n
  loop_in n h =
      let e : 1 + n ≡ suc n = omega arith in
      let lt : 1 + n < lp.successors.size = omega arith in
      past_in lp base k (1 + n) lt ∙ ap (λ m. loop_left s a base m k) e ∙ sym (past_in a (base + 1) (Do base s ∷ k) n h)

  loop_zero : (c : Successor) → Goes (lp.left base 0 k) (lp.at 0) (base + 0) c (lp.successors.go c 0) lp.successors.size (past lp base k (lp.successors.go c 0).at)
  loop_zero On = let le : 1 + a.successors.size ≤ lp.successors.size = omega arith in at_zero s lp base On k (to (1 + a.successors.size) 0) refl refl refl le (f.on base k ∙ sym loop_end)
  loop_zero Second = let le : 1 + a.successors.size ≤ lp.successors.size = omega arith in at_zero s lp base Second k (to (1 + a.successors.size) 0) refl refl refl le (f.second base k ∙ sym loop_end)
  loop_zero First =
      let one : 1 ≤ lp.successors.size = omega arith in
      let none : 0 ≤ lp.successors.size = omega arith in
      at_zero s lp base First k (into 1 a.successors.size (to 0 0)) refl refl refl (into_at 1 a.successors.size lp.successors.size (to 0 0) one none)
      (f.first base k ∙ enters lp a sa base 1 (base + 1) 0 k (Do base s ∷ k) (to 0 0) (λ lt. loop_in 0 lt) (sym loop_begins))

  loop_back : (p : Position) → leaves p.left (past a (base + 1) (Do base s ∷ k) p.at) ≡ leaves (inside 1 a.successors.size (to 0 0) p).left (past lp base k (inside 1 a.successors.size (to 0 0) p).at)
  loop_back p =
      ⊎_elim
      (λ h.
      let e = pick p.at a.successors.size (shifted 1 p) (to 0 (0 + p.left)) h in
      ap (leaves p.left) (sym (loop_in p.at h)) ∙ ap (λ q. leaves q.left (past lp base k q.at)) (sym e))
      (λ h.
      let e = skip p.at a.successors.size (shifted 1 p) (to 0 (0 + p.left)) h in
      let zero_more : p.left ≡ 0 + p.left = omega arith in
      ap (leaves p.left) (past_out a (base + 1) (Do base s ∷ k) p.at h ∙ sym loop_begins) ∙ ap (λ i. leaves i (past lp base k 0)) zero_more ∙ ap (λ q. leaves q.left (past lp base k q.at)) (sym e))
      (cases_lt p.at a.successors.size)

  loop_suc : (n : ℕ) (c : Successor) → suc n < lp.successors.size → Goes (lp.left base (suc n) k) (lp.at (suc n)) (base + suc n) c (lp.successors.go c (suc n)) lp.successors.size (past lp base k (lp.successors.go c (suc n)).at)
  loop_suc n c lt =
      let h : n < a.successors.size = omega arith in
      let g = sa.goes (base + 1) n c (Do base s ∷ k) h in
      let p = a.successors.go c n in
      let num : base + suc n ≡ base + 1 + n = omega arith in
      let one : 1 + a.successors.size ≤ lp.successors.size = omega arith in
      let none : 0 ≤ lp.successors.size = omega arith in
      goes_by _ _ _ _ _ _ c p (lp.successors.go c (suc n)) _ lp.successors.size _ _ refl refl num (inside_at 1 a.successors.size lp.successors.size (to 0 0) p one none) (loop_back p) g

loop_goes : (s : UStmt) (a : StmtPiece) (sa : Sound a) (f : LoopFollows s a) (base n : ℕ) (c : Successor) (k : List Item) → n < (loop_piece s a).successors.size
    → Goes ((loop_piece s a).left base n k) ((loop_piece s a).at n) (base + n) c ((loop_piece s a).successors.go c n) (loop_piece s a).successors.size (past (loop_piece s a) base k ((loop_piece s a).successors.go c n).at)
loop_goes s a sa f base zero c k lt = loop_zero s a sa f base k c
loop_goes s a sa f base (suc n) c k lt = loop_suc s a sa f base k n c lt

pub sound_loop : (s : UStmt) (a : StmtPiece) → Sound a → LoopFollows s a → Sound (loop_piece s a)
sound_loop s a sa f = record {
  goes = loop_goes s a sa f;
  starts = λ base k h. refl;
  nothing = λ base z. absurd (let no : 1 + a.successors.size ≡ 0 = z in omega arith);
}
