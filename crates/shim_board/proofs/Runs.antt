-- A run of steps keeps what each step of the table keeps, and what was done is as the laws say.
use Rattle.std.proofs.Common.{◌≡◌, ◌≢◌, ◌⊎◌, inl, inr, ◌==◌, ◌&&◌, nat_lt, ℕ, ◌+◌, ◌*◌, ◌/◌, ◌%◌, ◌<◌, eq-eqb, ne_eqb, cond, not, Bool, true, false, List, [], ◌∷◌, length, length-set, get_or-set_other, get_or-set_same, set, get_or, refl, sym, ap, ◌∙◌, subst, ⊎_elim, arith, Option, Some, None}
use Rattle.std.proofs.lemmas.Bool.{eqb-true, ltb-true}
use mathlib.Core.Logic.{dite}
use mathlib.Core.Option.{some, none, some-injective, some-ne-none}
use mathlib.Core.Option as maybe
use native.Mathlib.Decide.{ℕ_discrete}
use lib.ListN.{get_elem?, length-replicate}
use lib.Seq.{set-get_or}
use Rattle.atomic_table.proofs.Lists.{set_else}
use Rattle.shim_board.specs.declared.view.View.{View}
use Rattle.shim_board.specs.Counting.{times, one_if}
use Rattle.shim_board.specs.Views.{spent, after_join, after_look, after_turn_seen, after_reserve, after_put, after_claim, after_give, after_collect, after_take, after_leave}
use Rattle.shim_board.specs.Kept.{word_of, CountsKept}
use Rattle.shim_board.specs.Run.{BoardRun, StepKind, split, join, look, look_turn, reserve, put, claim, give, collect, take_turn, leave_turn, BoardStep, is_spent, is_none, is_slot, is_noted_below, changed_at, holds_nothing, with_view, moves, moves_out, joins, may, does, after_step, after, opened, board_run, Went, AtMostOnce, NothingLost}
use Rattle.shim_board.proofs.Totals.{total-two}
use Rattle.shim_board.proofs.Keeps.{Change, moved, moving, looks, takes_turn, leaves_turn, sees_turn}
use Rattle.shim_board.proofs.Keeps as changes
use Rattle.shim_board.proofs.Opening.{zeros, starts}
use Rattle.shim_board.proofs.Seats.{forks}
use Rattle.shim_board.proofs.Seats as chairs
use Rattle.shim_board.proofs.Logged.{Logged, goes_in, goes_out}
use Rattle.shim_board.proofs.Allowed.{taken}
use Rattle.shim_board.proofs.RuleHolds.{total-some, one_if_some}

both : (a b : Bool) → (a && b) ≡ true → (a ≡ true) × (b ≡ true)
both true b e = (refl, e)
both false b e = absurd (cc)

nots : (a : Bool) → not a ≡ true → a ≡ true → ⊥
nots true e h = cc
nots false e h = cc

sitting : (xs : List ℕ) → not (is_spent xs) ≡ true → xs ≢ []
sitting [] e h = cc
sitting (x ∷ xs) e h = cc

is_none-true : (o : Option (ℕ × ℕ)) → is_none o ≡ true → o ≡ None
is_none-true None e = refl
is_none-true (Some p) e = absurd (cc)

is_slot-true : (o : Option (ℕ × ℕ)) (k : ℕ) → is_slot o k ≡ true → (x : ℕ) × (o ≡ Some (k, x))
is_slot-true None k e = absurd (cc)
is_slot-true (Some p) k e = let l = eqb-true p.0 k e in (p.1, λ i. Some (l i, p.1))

round_below : (x q : ℕ) → x ≡ 4 * q → q < 4611686018427387903 → x / 4 < 4611686018427387903
round_below x q is below = omega arith

-- a slot that is noted so has such a round
noted_below : (k : ℕ) (notes : List (ℕ × ℕ)) → is_noted_below k notes ≡ true → (r : ℕ) × (0 < times k r notes) × (r < 4611686018427387903)
noted_below k [] e = absurd (cc)
noted_below k (p ∷ ps) e = at (noted_below k ps) ((p.0 == k) && nat_lt p.1 4611686018427387903) refl e
  where
    at : (is_noted_below k ps ≡ true → (r : ℕ) × (0 < times k r ps) × (r < 4611686018427387903)) → (b : Bool) → ((p.0 == k) && nat_lt p.1 4611686018427387903) ≡ b → cond b true (is_noted_below k ps) ≡ true → (r : ℕ) × (0 < times k r (p ∷ ps)) × (r < 4611686018427387903)
    at more true is h = let b = both _ _ is in let l = eqb-true p.0 k b.0 in let low = ltb-true p.1 4611686018427387903 b.1 in (p.1, omega arith, low)
    at more false is h = let later = more h in let there = later.1 in (later.0, omega arith, later.2)

not_eqb : (a b : ℕ) → not (a == b) ≡ true → a ≢ b
not_eqb a b e h = nots (a == b) e (eq-eqb a b h)

piece_here : {A : Type 0} (f : ℕ → A) (k : ℕ) (y : A) → changed_at f k y k ≡ y
piece_here f k y = ap (λ b. cond b y (f k)) (eq-eqb k k refl)

piece_else : {A : Type 0} (f : ℕ → A) (k : ℕ) (y : A) (j : ℕ) → j ≢ k → changed_at f k y j ≡ f j
piece_else f k y j other = ap (λ b. cond b y (f j)) (ne_eqb j k other)

module _ {T N M : Type 0} where
  -- what each step of a run keeps
  abbrev Keeps : BoardRun T N M → Type 0
  Keeps s = CountsKept s.words s.views × Logged (λ k. word_of s.words k) s.piece s.done × (0 < length s.words)

  module _ (s : BoardRun T N M) (r : Keeps s) (id : ℕ) (v : View M) (at : get_elem? s.views id ≡ some v) (sits : v.numbers ≢ []) where
    -- the words stay as they are
    same_word : (k : ℕ) (vs : List (View M)) → CountsKept (set s.words (k + 1) (word_of s.words k)) vs → CountsKept s.words vs
    same_word k vs c = subst (λ ws. CountsKept ws vs) (set-get_or s.words (k + 1) 0) c

    looks_on : (k : ℕ) → k + 1 < length s.words → (w : View M) → Change v w k (word_of s.words k) (word_of s.words k) → Keeps (with_view s id w)
    looks_on k inside w c = (same_word k (set s.views id w) (moved s.words s.views r.0 id v w k (word_of s.words k) at inside c (λ z. sits (sym c.numbers ∙ z))), r.1, r.2)

    -- the turn's word stands apart from those of the slots
    slots_same : (n : ℕ) → ◌≡◌ {A = ℕ → ℕ} (λ k. word_of (set s.words 0 n) k) (λ k. word_of s.words k)
    slots_same n = λ i k. get_or-set_other s.words 0 (k + 1) n 0 (λ e. omega arith) i

    turn_keeps : (n : ℕ) (net : Option N) (w : View M) → CountsKept (set s.words 0 n) (set s.views id w) → Keeps record s { words = set s.words 0 n; net = net; views = set s.views id w }
    turn_keeps n net w c = (c, subst (λ f. Logged f s.piece s.done) (sym (slots_same n)) r.1, let l = length-set s.words 0 n in let wide = r.2 in omega arith)

    -- the word of a slot goes on by one
    module _ (k : ℕ) (inside : k + 1 < length s.words) (w : View M) (c : Change v w k (word_of s.words k) (word_of s.words k + 1)) where
      x : ℕ
      x = word_of s.words k

      wide : 0 < length (set s.words (k + 1) (word_of s.words k + 1))
      wide = let l = length-set s.words (k + 1) (word_of s.words k + 1) in let h = r.2 in omega arith

      counts : CountsKept (set s.words (k + 1) (word_of s.words k + 1)) (set s.views id w)
      counts = moved s.words s.views r.0 id v w k (word_of s.words k + 1) at inside c (λ z. sits (sym c.numbers ∙ z))

      here : word_of (set s.words (k + 1) (word_of s.words k + 1)) k ≡ word_of s.words k + 1
      here = get_or-set_same s.words (k + 1) (word_of s.words k + 1) 0 inside

      else_ : (j : ℕ) → j ≢ k → word_of (set s.words (k + 1) (word_of s.words k + 1)) j ≡ word_of s.words j
      else_ j other = get_or-set_other s.words (k + 1) (j + 1) (word_of s.words k + 1) 0 (λ e. other (omega arith))

      in_keeps : (y : T) → word_of s.words k % 2 ≡ 0 → Keeps (moves s id w k (Some y) y)
      in_keeps y even = (counts, goes_in _ _ s.piece (changed_at s.piece k (Some y)) s.done r.1 k (word_of s.words k) y refl here else_ (piece_else s.piece k (Some y)) even (piece_here s.piece k (Some y)), wide)

      out_keeps : (o : Option T) → s.piece k ≡ o → word_of s.words k % 2 ≡ 1 → Keeps (moves_out s id w k o)
      out_keeps None is odd = r
      out_keeps (Some y) is odd = (counts, goes_out _ _ s.piece (changed_at s.piece k None) s.done r.1 k (word_of s.words k) y refl here else_ (piece_else s.piece k None) odd is, wide)

    -- a chair is taken in
    joins_keep : (other : ℕ) (o : maybe.Option (View M)) → get_elem? s.views other ≡ o → id ≡ 0 → Keeps (joins s v other o)
    joins_keep other none e first = r
    joins_keep other (some w) e first = by (not (other == 0) && not (is_spent w.numbers) && holds_nothing w) (λ m.
        let a = both _ _ m in let b = both _ _ a.0 in let apart = not_eqb other 0 b.0 in let idle = both _ _ a.1 in let free = both _ _ idle.0 in
        let at0 = subst (λ j. get_elem? s.views j ≡ some v) first at in
        (chairs.joins s.words s.views r.0 other v w at0 apart (set_else s.views 0 other (after_join v w) apart ∙ e) sits (eqb-true w.turn 0 free.0) (is_none-true w.claimed free.1), r.1, r.2))
      where
        by : (b : Bool) → (b ≡ true → Keeps record s { views = set (set s.views 0 (after_join v w)) other spent }) → Keeps (cond b record s { views = set (set s.views 0 (after_join v w)) other spent } s)
        by true hit = hit refl
        by false hit = r

    -- each kind of step, where it may be done
    step_keeps : (d : StepKind T N) → may s id v d ≡ true → Keeps (does s id v d)
    step_keeps split m = let first = eqb-true id 0 m in (forks s.words s.views r.0 v (subst (λ j. get_elem? s.views j ≡ some v) first at) sits, r.1, r.2)
    step_keeps (join other) m = joins_keep other (get_elem? s.views other) refl (eqb-true id 0 m)
    step_keeps (look k) m = looks_on k (ltb-true (k + 1) (length s.words) m) (after_look v k (word_of s.words k)) (looks v k (word_of s.words k))
    step_keeps look_turn m = (subst (λ ws. CountsKept ws (set s.views id (after_turn_seen v (get_or s.words 0 0)))) (set-get_or s.words 0 0) (sees_turn s.words s.views r.0 id v at r.2 sits), r.1, r.2)
    step_keeps (reserve k) m = let a = both _ _ m in let b = both _ _ a.0 in let d = both _ _ b.0 in let e = both _ _ d.0 in
        looks_on k (ltb-true (k + 1) (length s.words) e.0) (after_reserve v k (word_of s.words k))
        (changes.holds_slot v k (word_of s.words k) (eqb-true v.turn 1 e.1) ((λ one. not_eqb (word_of s.words k % 4) 1 b.1 one), (λ two. not_eqb (word_of s.words k % 4) 2 a.1 two)))
    step_keeps (put k y) m = let x : ℕ = word_of s.words k in let a = both _ _ m in let b = both _ _ a.0 in let d = both _ _ b.0 in let e = both _ _ d.0 in
        let empty : x % 4 ≡ 0 = eqb-true (x % 4) 0 b.1 in let note = noted_below k v.noted a.1 in
        let low : x / 4 < 4611686018427387903 = round_below x note.0 (r.0.noted id v at k note.0 note.1).1 note.2 in let is : 4 * (x / 4) ≡ x = omega arith in
        in_keeps k (ltb-true (k + 1) (length s.words) e.0) (after_put v k (x / 4)) (subst (λ (z : ℕ). Change v (after_put v k (x / 4)) k z (z + 1)) is (changes.puts_in v k (x / 4) (eqb-true v.turn 1 e.1) low)) y (omega arith)
    step_keeps (claim k) m = let x : ℕ = word_of s.words k in let a = both _ _ m in let b = both _ _ a.0 in
        let full : x % 4 ≡ 1 = eqb-true (x % 4) 1 b.1 in let is : 4 * (x / 4) + 1 ≡ x = omega arith in let next : 4 * (x / 4) + 2 ≡ x + 1 = omega arith in
        out_keeps k (ltb-true (k + 1) (length s.words) b.0) (after_claim v k (x / 4))
        (subst (λ (z : ℕ × ℕ). Change v (after_claim v k (x / 4)) k z.0 z.1) (λ i. (is i, next i)) (changes.claims v k (x / 4) (is_none-true v.claimed a.1) (moving s.words s.views r.0 id v k at (omega arith, omega arith))))
        (s.piece k) refl (omega arith)
    step_keeps (give k y) m = let x : ℕ = word_of s.words k in let a = both _ _ m in let b = both _ _ a.0 in
        let mine = is_slot-true v.claimed k a.1 in let q = mine.0 in let at_word = taken s.words s.views r.0 id v k q at mine.1 in let is : 4 * q + 2 ≡ x = omega arith in let next : 4 * q + 3 ≡ x + 1 = omega arith in
        in_keeps k (ltb-true (k + 1) (length s.words) b.0) (after_give v)
        (subst (λ (z : ℕ × ℕ). Change v (after_give v) k z.0 z.1) (λ i. (is i, next i)) (changes.gives v k q mine.1 (moving s.words s.views r.0 id v k at (omega arith, omega arith)))) y (omega arith)
    step_keeps (collect k) m = let x : ℕ = word_of s.words k in let a = both _ _ m in let b = both _ _ a.0 in let d = both _ _ b.0 in
        let back : x % 4 ≡ 3 = eqb-true (x % 4) 3 a.1 in let is : 4 * (x / 4) + 3 ≡ x = omega arith in let next : 4 * (x / 4) + 4 ≡ x + 1 = omega arith in
        out_keeps k (ltb-true (k + 1) (length s.words) d.0) (after_collect v k (x / 4))
        (subst (λ (z : ℕ × ℕ). Change v (after_collect v k (x / 4)) k z.0 z.1) (λ i. (is i, next i)) (changes.collects v k (x / 4) (eqb-true v.turn 1 d.1) (λ q some_note. let e = (r.0.noted id v at k q some_note).1 in absurd (omega arith))))
        (s.piece k) refl (omega arith)
    step_keeps take_turn m = turn_keeps 1 None (after_take v) (takes_turn s.words s.views r.0 id v at r.2 (eqb-true (get_or s.words 0 0) 0 m) sits)
    step_keeps (leave_turn net) m = let a = both _ _ m in turn_keeps 0 (Some net) (after_leave v) (leaves_turn s.words s.views r.0 id v at r.2 (eqb-true v.turn 1 a.0) (is_none-true v.hand a.1) sits)

  one_of : (b : Bool) (s t : BoardRun T N M) → (b ≡ true → Keeps t) → Keeps s → Keeps (cond b t s)
  one_of true s t hit miss = hit refl
  one_of false s t hit miss = miss

  goes_one : (s : BoardRun T N M) → Keeps s → (d : BoardStep T N) (o : maybe.Option (View M)) → get_elem? s.views d.chair ≡ o → Keeps (after_step s d o)
  goes_one s r d none e = r
  goes_one s r d (some v) e = one_of (not (is_spent v.numbers) && may s d.chair v d.kind) s (does s d.chair v d.kind) (λ m. let a = both _ _ m in step_keeps s r d.chair v e (sitting v.numbers a.0) d.kind a.1) r

  goes_on : (ds : List (BoardStep T N)) (s : BoardRun T N M) → Keeps s → Keeps (after s ds)
  goes_on [] s r = r
  goes_on (d ∷ ds) s r = goes_on ds (after_step s d (get_elem? s.views d.chair)) (goes_one s r d (get_elem? s.views d.chair) refl)

  opens_keeping : (label : N → M) (net : N) (slots : ℕ) → Keeps (opened {T = T} label net slots)
  opens_keeping label net slots = (
    starts (label net) (slots + 1),
    record {
      went = λ k x. let z = zeros (slots + 1) (k + 1) in omega arith;
      in_slot = λ k x even at. absurd (let z = zeros (slots + 1) (k + 1) in omega arith);
      came_out = λ k x y even h. absurd h;
      goes = λ k x y even h. absurd h;
      next = λ k x y odd h. absurd h;
    },
    let l = length-replicate {A = ℕ} (slots + 1) 0 in omega arith,
  )

  pub keeps_all : (label : N → M) (net : N) (slots : ℕ) (ds : List (BoardStep T N)) → Keeps (board_run label net slots ds)
  keeps_all label net slots ds = goes_on ds (opened label net slots) (opens_keeping label net slots)

  module _ (s : BoardRun T N M) (r : Keeps s) where
    pub once : AtMostOnce s
    once = record {
      once = λ k q. (let e = r.1.went k (4 * q) in omega arith, let e = r.1.went k (4 * q + 1) in omega arith, let e = r.1.went k (4 * q + 2) in omega arith, let e = r.1.went k (4 * q + 3) in omega arith);
      lists = λ k q. (r.0.puts k q ∙ sym (r.1.went k (4 * q)), r.0.claims k q ∙ sym (r.1.went k (4 * q + 1)), r.0.collections k q ∙ sym (r.1.went k (4 * q + 3)));
      claimed = λ k q y h. r.1.came_out k (4 * q) y (omega arith) h;
      collected = λ k q y h. r.1.came_out k (4 * q + 2) y (omega arith) (subst (λ x. Went s k x y) (let e : 4 * q + 3 ≡ 4 * q + 2 + 1 = omega arith in e) h);
      turn = λ i j u v at there mine theirs. dite (ℕ_discrete i j) (λ e. e) (λ other. absurd (let two = total-two (λ (a : View M). a.turn) s.views i j u v at there other in let all = r.0.turns in let one = r.0.turn in omega arith));
    }

    -- a piece that was given came out, or is there still
    given_goes : (k q : ℕ) (y : T) → Went s k (4 * q + 2) y → Went s k (4 * q + 3) y ⊎ ((word_of s.words k ≡ 4 * q + 3) × (s.piece k ≡ Some y))
    given_goes k q y h = let f : 4 * q + 2 + 1 ≡ 4 * q + 3 = omega arith in subst (λ x. Went s k x y ⊎ ((word_of s.words k ≡ x) × (s.piece k ≡ Some y))) f (r.1.goes k (4 * q + 2) y (omega arith) h)

    pub nothing_lost : NothingLost s
    nothing_lost = record {
      put = λ k q y h. r.1.goes k (4 * q) y (omega arith) h;
      given = given_goes;
      full = λ k q at. r.1.in_slot k (4 * q) (omega arith) at;
      back = λ k q at. r.1.in_slot k (4 * q + 2) (omega arith) (at ∙ (let e : 4 * q + 3 ≡ 4 * q + 2 + 1 = omega arith in e));
      claimed = λ k q y h. ⊎_elim
          (λ (is : word_of s.words k ≡ 4 * q + 1 + 1). let one = r.0.claimed k q in let has = total-some (λ (a : View M). one_if k q a.claimed) s.views (omega arith) in let mine = one_if_some k q has.1.claimed has.3 in inl (has.0, has.1, has.2, mine, r.0.owned has.0 has.1 has.2 k q mine))
          (λ (n : (z : T) × Went s k (4 * q + 1 + 1) z). let e : 4 * q + 1 + 1 ≡ 4 * q + 2 = omega arith in let given_ = subst (λ x. Went s k x n.0) e n.1 in inr (n.0, given_, given_goes k q n.0 given_))
          (r.1.next k (4 * q + 1) y (omega arith) h);
    }
