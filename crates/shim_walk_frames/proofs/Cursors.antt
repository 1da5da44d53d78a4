-- The statement of a list in which a number stands has all that there is at that number.
use Rattle.std.proofs.Common.{◌≡◌, ℕ, zero, suc, ◌+◌, ◌-◌, ◌<◌, ◌≤◌, List, [], ◌∷◌, length, take, Some, None, refl, sym, ap, ◌∙◌, arith, slice_get, ⊎_elim}
use Rattle.std.proofs.lemmas.Bool.{cases_lt}
use Rattle.std.proofs.lemmas.Option.{slice_get_within}
use Rattle.shim_units.specs.declared.unit.UStmt.{UStmt}
use Rattle.shim_walk_frames.specs.declared.cursor.Cursor.{Cursor}
use Rattle.shim_walk_frames.specs.declared.successors.Successor.{Successor}
use Rattle.shim_walk_frames.specs.declared.successors.Position.{Position}
use Rattle.shim_walk_frames.specs.Cursors.{BeginsBefore, IsCursor}
use Rattle.shim_walk_frames.specs.Pieces.{at_all, stmt_at}
use Rattle.shim_walk_frames.specs.Successors.{successors, size_of, size_all, go_all, to, shifted}
use Rattle.shim_walk_frames.proofs.Goes.{none_at}
use Rattle.shim_walk_frames.proofs.Sound.{pick, skip}

same_some : (s t : UStmt) → Some s ≡ Some t → s ≡ t
same_some s t e = cc

-- one statement more
one_more : (body : List UStmt) (i : ℕ) (s : UStmt) → slice_get body i ≡ Some s → size_all (take (suc i) body) ≡ size_all (take i body) + size_of s
one_more [] i s e = absurd (cc)
one_more (x ∷ xs) zero s e = let z = ap size_of (same_some x s e) in omega arith
one_more (x ∷ xs) (suc i) s e = let z = one_more xs i s e in omega arith

-- a part takes no more numbers than the whole
no_more : (body : List UStmt) (i : ℕ) → size_all (take i body) ≤ size_all body
no_more [] zero = omega arith
no_more [] (suc i) = omega arith
no_more (x ∷ xs) zero = omega arith
no_more (x ∷ xs) (suc i) = let z = no_more xs i in omega arith

all_of_it : (body : List UStmt) (i : ℕ) → length body ≤ i → size_all (take i body) ≡ size_all body
all_of_it [] zero h = refl
all_of_it [] (suc i) h = refl
all_of_it (x ∷ xs) zero h = absurd (omega arith)
all_of_it (x ∷ xs) (suc i) h = let le : length xs ≤ i = omega arith in ap (λ n. size_of x + n) (all_of_it xs i le)

pub beyond : (body : List UStmt) (i : ℕ) → slice_get body i ≡ None → length body ≤ i
beyond [] i e = omega arith
beyond (x ∷ xs) zero e = absurd (cc)
beyond (x ∷ xs) (suc i) e = let z = beyond xs i e in omega arith

-- the statement at a number that stands in this one
at_one : (body : List UStmt) (i n : ℕ) (s : UStmt) → slice_get body i ≡ Some s → size_all (take i body) ≤ n → n < size_all (take (suc i) body) → at_all body n ≡ stmt_at s (n - size_all (take i body))
at_one [] i n s e le lt = absurd (cc)
at_one (x ∷ xs) zero n s e le lt =
    let h : n < size_of x = omega arith in
    let z : n ≡ n - 0 = omega arith in
    pick _ _ _ _ h ∙ ap (λ y. stmt_at y n) (same_some x s e) ∙ ap (stmt_at s) z
at_one (x ∷ xs) (suc i) n s e le lt =
    let h : size_of x ≤ n = omega arith in
    let le1 : size_all (take i xs) ≤ n - size_of x = omega arith in
    let lt1 : n - size_of x < size_all (take (suc i) xs) = omega arith in
    let z : n - size_of x - size_all (take i xs) ≡ n - (size_of x + size_all (take i xs)) = omega arith in
    skip _ _ _ _ h ∙ at_one xs i (n - size_of x) s e le1 lt1 ∙ ap (stmt_at s) z

further : (a b : ℕ) (p : Position) → shifted a (shifted b p) ≡ shifted (a + b) p
further a b p = ap (λ n. to n p.left) (let z : a + (b + p.at) ≡ a + b + p.at = omega arith in z)

-- each way from there
go_one : (body : List UStmt) (i n : ℕ) (c : Successor) (s : UStmt) → slice_get body i ≡ Some s → size_all (take i body) ≤ n → n < size_all (take (suc i) body)
    → go_all body c n ≡ shifted (size_all (take i body)) ((successors s).go c (n - size_all (take i body)))
go_one [] i n c s e le lt = absurd (cc)
go_one (x ∷ xs) zero n c s e le lt =
    let h : n < size_of x = omega arith in
    let z : n ≡ n - 0 = omega arith in
    let p = (successors x).go c n in
    let none : p.at ≡ 0 + p.at = omega arith in
    pick _ _ _ _ h ∙ ap (λ m. to m p.left) none ∙ ap (λ y. shifted 0 ((successors y).go c n)) (same_some x s e) ∙ ap (λ m. shifted 0 ((successors s).go c m)) z
go_one (x ∷ xs) (suc i) n c s e le lt =
    let h : size_of x ≤ n = omega arith in
    let le1 : size_all (take i xs) ≤ n - size_of x = omega arith in
    let lt1 : n - size_of x < size_all (take (suc i) xs) = omega arith in
    let z : n - size_of x - size_all (take i xs) ≡ n - (size_of x + size_all (take i xs)) = omega arith in
    let a = size_all (take i xs) in
    skip _ _ _ _ h
    ∙ ap (shifted (size_of x)) (go_one xs i (n - size_of x) c s e le1 lt1)
    ∙ further (size_of x) a ((successors s).go c (n - size_of x - a))
    ∙ ap (λ m. shifted (size_of x + a) ((successors s).go c m)) z

-- the statement's numbers fit where those of the list do
pub one_fits : (body : List UStmt) (f : Cursor) (at : ℕ) (s : UStmt) → BeginsBefore body f at → slice_get body f.index ≡ Some s → f.first + size_of s ≤ size_all body
one_fits body f at s b e = let x = one_more body f.index s e in let y = no_more body (suc f.index) in let z = b.first in omega arith

-- the next statement
pub one_behind : (body : List UStmt) (f : Cursor) (at : ℕ) (s : UStmt) → BeginsBefore body f at → slice_get body f.index ≡ Some s → size_of s ≤ at - f.first → BeginsBefore body (record { index = f.index + 1; first = f.first + size_of s }) at
one_behind body f at s b e h =
    let lt = slice_get_within body f.index s e in
    let x = one_more body f.index s e in
    let y = b.first in
    let r = b.reached in
    let next : suc f.index ≡ f.index + 1 = omega arith in
    record { within = omega arith; first = (let z : f.first + size_of s ≡ size_all (take (suc f.index) body) = omega arith in z ∙ ap (λ n. size_all (take n body)) next); reached = omega arith }

-- it is this one
pub here : (body : List UStmt) (f : Cursor) (at : ℕ) (s : UStmt) → BeginsBefore body f at → slice_get body f.index ≡ Some s → at - f.first < size_of s → IsCursor body f at
here body f at s b e h =
    let x = one_more body f.index s e in
    let y = b.first in
    let r = b.reached in
    record { begins = b; not_passed = λ lt. omega arith }

-- it is after all
pub at_end : (body : List UStmt) (f : Cursor) (at : ℕ) → BeginsBefore body f at → slice_get body f.index ≡ None → IsCursor body f at
at_end body f at b e = let le = beyond body f.index e in record { begins = b; not_passed = λ lt. absurd (omega arith) }

-- the first statement of all
pub at_start : (body : List UStmt) (at : ℕ) → BeginsBefore body (record { index = 0; first = 0 }) at
at_start body at = record { within = omega arith; first = refl; reached = omega arith }

pub over : (body : List UStmt) (f : Cursor) (at : ℕ) → IsCursor body f at → length body ≤ f.index → size_all body ≤ at
over body f at is le = let x = all_of_it body f.index le in let y = is.begins.first in let z = is.begins.reached in omega arith

pub not_over : (body : List UStmt) (f : Cursor) (at : ℕ) → IsCursor body f at → f.index < length body → at < size_all body
not_over body f at is lt = let x = is.not_passed lt in let y = no_more body (suc f.index) in omega arith

pub inside : (body : List UStmt) (f : Cursor) (at : ℕ) (s : UStmt) → IsCursor body f at → slice_get body f.index ≡ Some s → at < size_all body
inside body f at s is e = not_over body f at is (slice_get_within body f.index s e)

pub behind_all : (body : List UStmt) (f : Cursor) (at : ℕ) → IsCursor body f at → size_all body ≤ at → length body ≤ f.index
behind_all body f at is le =
    ⊎_elim
    (λ lt. let in_it = not_over body f at is lt in absurd (omega arith))
    (λ done. done)
    (cases_lt f.index (length body))

-- the number stands in the statement
pub in_one : (body : List UStmt) (f : Cursor) (at : ℕ) (s : UStmt) → IsCursor body f at → slice_get body f.index ≡ Some s → at - f.first < size_of s
in_one body f at s is e =
    let lt = slice_get_within body f.index s e in
    let x = is.not_passed lt in
    let y = one_more body f.index s e in
    let z = is.begins.first in
    let r = is.begins.reached in
    omega arith

pub found_here : (body : List UStmt) (f : Cursor) (at : ℕ) (s : UStmt) → IsCursor body f at → slice_get body f.index ≡ Some s → stmt_at s (at - f.first) ≡ at_all body at
found_here body f at s is e =
    let b = is.begins.first in
    let r = is.begins.reached in
    let le : size_all (take f.index body) ≤ at = omega arith in
    ap (λ n. stmt_at s (at - n)) b ∙ sym (at_one body f.index at s e le (is.not_passed (slice_get_within body f.index s e)))

pub found_nowhere : (body : List UStmt) (f : Cursor) (at : ℕ) → IsCursor body f at → slice_get body f.index ≡ None → None ≡ at_all body at
found_nowhere body f at is e = sym (none_at body at (over body f at is (beyond body f.index e)))

pub goes_here : (body : List UStmt) (f : Cursor) (c : Successor) (at : ℕ) (s : UStmt) → IsCursor body f at → slice_get body f.index ≡ Some s → shifted f.first ((successors s).go c (at - f.first)) ≡ go_all body c at
goes_here body f c at s is e =
    let b = is.begins.first in
    let r = is.begins.reached in
    let le : size_all (take f.index body) ≤ at = omega arith in
    ap (λ n. shifted n ((successors s).go c (at - n))) b ∙ sym (go_one body f.index at c s e le (is.not_passed (slice_get_within body f.index s e)))

-- what follows the number stands in the same statement, or after it
pub goes_behind : (body : List UStmt) (f : Cursor) (at to n : ℕ) → BeginsBefore body f at → to ≡ f.first + n → BeginsBefore body f to
goes_behind body f at to n b e = record { within = b.within; first = b.first; reached = omega arith }
