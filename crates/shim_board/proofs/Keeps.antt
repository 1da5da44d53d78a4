-- A change of one word and one view keeps the rule.
use Rattle.std.proofs.Common.{◌≡◌, ◌≢◌, ◌⊎◌, ℕ, ◌+◌, ◌*◌, ◌%◌, ◌<◌, ◌≤◌, List, [], ◌∷◌, length, set, get_or, refl, sym, ap, ◌∙◌, subst, ⊎_elim, inl, inr, arith, get_or-set_other, get_or-set_same, Some, None, Bool, true, false, ◌==◌, ◌&&◌, cond, ◌/◌}
use mathlib.Core.Logic.{dite}
use mathlib.Core.Option.{some}
use native.Mathlib.Decide.{ℕ_discrete}
use lib.ListN.{get_elem?}
use Rattle.std.proofs.lemmas.Bool.{eqb-true}
use Rattle.std.proofs.lemmas.Option.{none-some, same_Some}
use Rattle.atomic_table.proofs.Lists.{at_set}
use Rattle.shim_board.specs.declared.view.View.{View}
use Rattle.shim_board.specs.Counting.{one_below, one_pair, times, without, occurs, one_if}
use Rattle.shim_base.specs.Lists.{one_at, total}
use Rattle.shim_board.specs.Views.{noted_with, after_look, after_turn_seen, after_reserve, after_put, after_collect, after_take, after_leave, after_claim, after_give}
use Rattle.shim_board.specs.Kept.{IsEmptyOrBack, word_of, CountsKept}
use Rattle.shim_board.proofs.Totals.{total-set, total-has, total-two, without-same, without-else, times-append, count_of-set}

-- what a look notes: nothing, or an EMPTY slot with the turn
noted_by : (b c : Bool) (turn k x : ℕ) (ns : List (ℕ × ℕ)) (j q : ℕ) → (b ≡ true → x % 4 ≡ 0) → (c ≡ true → turn ≡ 1) → 0 < times j q (cond (b && c) ((k, x / 4) ∷ ns) ns) → (0 < times j q ns) ⊎ ((turn ≡ 1) × (j ≡ k) × (x ≡ 4 * q))
noted_by true true turn k x ns j q empty mine h = let e = empty refl in dite (ℕ_discrete (times j q ns) 0) (λ none_yet. inr (mine refl, omega arith, omega arith)) (λ some_yet. inl (omega arith))
noted_by true false turn k x ns j q empty mine h = inl h
noted_by false c turn k x ns j q empty mine h = inl h

pub noted_more : (turn k x : ℕ) (ns : List (ℕ × ℕ)) (j q : ℕ) → 0 < times j q (noted_with turn k x ns) → (0 < times j q ns) ⊎ ((turn ≡ 1) × (j ≡ k) × (x ≡ 4 * q))
noted_more turn k x ns j q h = noted_by (x % 4 == 0) (turn == 1) turn k x ns j q (eqb-true (x % 4) 0) (eqb-true turn 1) h

module _ {M : Type 0} where
  -- a view goes from v to w as the word of the slot k goes from x to y
  pub record Change (v w : (View M)) (k x y : ℕ) : Type 0 where
    pub grows : x ≤ y
    pub puts : (q : ℕ) → times k q w.puts + one_below (4 * q) x ≡ times k q v.puts + one_below (4 * q) y
    pub puts_else : (j q : ℕ) → j ≢ k → times j q w.puts ≡ times j q v.puts
    pub claims : (q : ℕ) → times k q w.claims + one_below (4 * q + 1) x ≡ times k q v.claims + one_below (4 * q + 1) y
    pub claims_else : (j q : ℕ) → j ≢ k → times j q w.claims ≡ times j q v.claims
    pub collections : (q : ℕ) → times k q w.collections + one_below (4 * q + 3) x ≡ times k q v.collections + one_below (4 * q + 3) y
    pub collections_else : (j q : ℕ) → j ≢ k → times j q w.collections ≡ times j q v.collections
    pub claimed : (q : ℕ) → one_if k q w.claimed + one_at (4 * q + 2) x ≡ one_if k q v.claimed + one_at (4 * q + 2) y
    pub claimed_else : (j q : ℕ) → j ≢ k → one_if j q w.claimed ≡ one_if j q v.claimed
    pub owned : (j q : ℕ) → w.claimed ≡ Some (j, q) → (v.claimed ≡ Some (j, q) → 0 < times j q v.claims) → 0 < times j q w.claims
    pub seen : (j z : ℕ) → 0 < times j z w.seen → (0 < times j z v.seen) ⊎ ((j ≡ k) × (z ≤ y))
    pub turn : w.turn ≡ v.turn
    pub bound : x ≤ 18446744073709551612 → y ≤ 18446744073709551612
    pub noted : (j q : ℕ) → 0 < times j q w.noted → ((0 < times j q v.noted) × (j ≡ k → x ≡ y)) ⊎ ((v.turn ≡ 1) × (j ≡ k) × (y ≡ 4 * q))
    pub hand : (j z : ℕ) → w.hand ≡ Some (j, z) → ((v.hand ≡ Some (j, z)) × (j ≡ k → x ≡ y)) ⊎ ((v.turn ≡ 1) × (j ≡ k) × (y ≡ z) × IsEmptyOrBack z)
    pub others : x ≢ y → v.turn ≢ 1 → (0 < x % 4) × (x % 4 < 3)
    pub numbers : w.numbers ≡ v.numbers
    pub name : w.name ≡ v.name
    pub count : w.count ≡ v.count

  -- one count over all views
  summed : (f : (View M) → ℕ) (g : ℕ → ℕ) (views : List (View M)) (id : ℕ) (v w : (View M)) (x y : ℕ) → get_elem? views id ≡ some v → total f views ≡ g x → f w + g x ≡ f v + g y → total f (set views id w) ≡ g y
  summed f g views id v w x y at was goes = let t = total-set f views id v w at in omega arith

  same_sum : (f : (View M) → ℕ) (views : List (View M)) (id : ℕ) (v w : (View M)) → get_elem? views id ≡ some v → f w ≡ f v → total f (set views id w) ≡ total f views
  same_sum f views id v w at same = let t = total-set f views id v w at in omega arith

  module _ (words : List ℕ) (views : List (View M)) (r : CountsKept words views) (id : ℕ) (v w : (View M)) (k y : ℕ) (at : get_elem? views id ≡ some v) (inside : k + 1 < length words) where
    abbrev ws : List ℕ
    ws = set words (k + 1) y

    here : word_of ws k ≡ y
    here = get_or-set_same words (k + 1) y 0 (omega arith)

    else_ : (j : ℕ) → j ≢ k → word_of ws j ≡ word_of words j
    else_ j other = get_or-set_other words (k + 1) (j + 1) y 0 (λ e. other (omega arith))

    -- a count that goes with the words
    each : (f : ℕ → ℕ → (View M) → ℕ) (g : ℕ → ℕ → ℕ) → ((j q : ℕ) → total (f j q) views ≡ g q (word_of words j)) → ((q : ℕ) → f k q w + g q (word_of words k) ≡ f k q v + g q y)
        → ((j q : ℕ) → j ≢ k → f j q w ≡ f j q v) → (j q : ℕ) → total (f j q) (set views id w) ≡ g q (word_of ws j)
    each f g was goes stays j q = dite (ℕ_discrete j k)
        (λ (e : j ≡ k). subst (λ (i : ℕ). total (f i q) (set views id w) ≡ g q (word_of ws i)) (sym e)
        (summed (f k q) (g q) views id v w (word_of words k) y at (was k q) (goes q) ∙ ap (g q) (sym here)))
        (λ other. same_sum (f j q) views id v w at (stays j q other) ∙ was j q ∙ ap (g q) (sym (else_ j other)))

    pub moved : Change v w k (word_of words k) y → w.numbers ≢ [] → CountsKept ws (set views id w)
    moved c sits = record {
      puts = each (λ j q u. times j q u.puts) (λ q n. one_below (4 * q) n) r.puts c.puts c.puts_else;
      claims = each (λ j q u. times j q u.claims) (λ q n. one_below (4 * q + 1) n) r.claims c.claims c.claims_else;
      collections = each (λ j q u. times j q u.collections) (λ q n. one_below (4 * q + 3) n) r.collections c.collections c.collections_else;
      claimed = each (λ j q u. one_if j q u.claimed) (λ q n. one_at (4 * q + 2) n) r.claimed c.claimed c.claimed_else;
      owned = λ j u e i q h. ⊎_elim
          (λ (t : (j ≡ id) × (w ≡ u)). subst (λ (a : (View M)). 0 < times i q a.claims) t.1 (c.owned i q (subst (λ (a : (View M)). a.claimed ≡ Some (i, q)) (sym t.1) h) (r.owned id v at i q)))
          (λ (t : (j ≢ id) × (get_elem? views j ≡ some u)). r.owned j u t.1 i q h)
          (at_set views id j w u e);
      turns = same_sum (λ u. u.turn) views id v w at c.turn ∙ r.turns ∙ sym first_word;
      turn = let h = first_word in let t = r.turn in omega arith;
      bounded = λ j. let b = r.bounded j in let b' = r.bounded k in let y' = c.bound b' in dite (ℕ_discrete j k)
          (λ (e : j ≡ k). subst (λ (i : ℕ). word_of ws i ≤ 18446744073709551612) (sym e) (let h = here in omega arith))
          (λ other. let h = else_ j other in omega arith);
      noted = λ j u e i q h. ⊎_elim
          (λ (t : (j ≡ id) × (w ≡ u)). subst (λ (a : (View M)). (a.turn ≡ 1) × (word_of ws i ≡ 4 * q)) t.1 (mine_noted i q (c.noted i q (subst (λ (a : (View M)). 0 < times i q a.noted) (sym t.1) h))))
          (λ (t : (j ≢ id) × (get_elem? views j ≡ some u)). let was = r.noted j u t.1 i q h in (was.0, kept j u t.0 t.1 was.0 i (4 * q) was.1 ((λ (z : 4 * q % 4 ≡ 1). absurd (omega arith)), (λ (z : 4 * q % 4 ≡ 2). absurd (omega arith)))))
          (at_set views id j w u e);
      hand = λ j u e i z h. ⊎_elim
          (λ (t : (j ≡ id) × (w ≡ u)). subst (λ (a : (View M)). (a.turn ≡ 1) × (word_of ws i ≡ z) × IsEmptyOrBack z) t.1 (mine_hand i z (c.hand i z (subst (λ (a : (View M)). a.hand ≡ Some (i, z)) (sym t.1) h))))
          (λ (t : (j ≢ id) × (get_elem? views j ≡ some u)). let was = r.hand j u t.1 i z h in (was.0, kept j u t.0 t.1 was.0 i z was.1 was.2, was.2))
          (at_set views id j w u e);
      seen = λ j u e i z h. ⊎_elim
          (λ (t : (j ≡ id) × (w ≡ u)). grown i z (⊎_elim (λ was. inl (r.seen id v at i z was)) (λ now. inr now) (c.seen i z (subst (λ (a : (View M)). 0 < times i z a.seen) (sym t.1) h))))
          (λ (t : (j ≢ id) × (get_elem? views j ≡ some u)). grown i z (inl (r.seen j u t.1 i z h)))
          (at_set views id j w u e);
      numbers = λ x. same_sum (λ u. occurs x u.numbers) views id v w at (ap (occurs x) c.numbers) ∙ r.numbers x ∙ ap (one_below x) (sym (count_of-set views id v w at c.count));
      unspent = λ j u e none_left. ⊎_elim
          (λ (t : (j ≡ id) × (w ≡ u)). absurd (sits (ap (λ (a : (View M)). a.numbers) t.1 ∙ none_left)))
          (λ (t : (j ≢ id) × (get_elem? views j ≡ some u)). r.unspent j u t.1 none_left)
          (at_set views id j w u e);
    }
      where
        first_word : get_or ws 0 0 ≡ get_or words 0 0
        first_word = get_or-set_other words (k + 1) 0 y 0 (λ e. omega arith)

        -- where the word that is written is the one that stood there
        unwritten : (i : ℕ) → (i ≡ k → word_of words k ≡ y) → word_of ws i ≡ word_of words i
        unwritten i same = dite (ℕ_discrete i k) (λ (e : i ≡ k). subst (λ (a : ℕ). word_of ws a ≡ word_of words a) (sym e) (here ∙ sym (same e))) (λ other. else_ i other)

        -- the word of a slot that another chair noted, or has in hand
        kept : (j : ℕ) (u : (View M)) → j ≢ id → get_elem? views j ≡ some u → u.turn ≡ 1 → (i z : ℕ) → word_of words i ≡ z → IsEmptyOrBack z → word_of ws i ≡ z
        kept j u other there turn i z is still = dite (ℕ_discrete i k)
            (λ (e : i ≡ k). let x : ℕ = word_of words k in let isk : x ≡ z = subst (λ (a : ℕ). word_of words a ≡ z) e is in dite (ℕ_discrete x y)
            (λ same. unwritten i (λ _. same) ∙ is)
            (λ differs. let two = total-two (λ a. a.turn) views j id u v there at other in let all = r.turns in let one = r.turn in
            let o = c.others differs (λ mine. absurd (omega arith)) in let s0 = still.0 in let s1 = still.1 in
            dite (ℕ_discrete (z % 4) 1) (λ a. absurd (s0 a)) (λ a. dite (ℕ_discrete (z % 4) 2) (λ b. absurd (s1 b)) (λ b. absurd (omega arith)))))
            (λ apart. else_ i apart ∙ is)

        mine_noted : (i q : ℕ) → ((0 < times i q v.noted) × (i ≡ k → word_of words k ≡ y)) ⊎ ((v.turn ≡ 1) × (i ≡ k) × (y ≡ 4 * q)) → (w.turn ≡ 1) × (word_of ws i ≡ 4 * q)
        mine_noted i q s = ⊎_elim
            (λ (t : (0 < times i q v.noted) × (i ≡ k → word_of words k ≡ y)). let was = r.noted id v at i q t.0 in (c.turn ∙ was.0, unwritten i t.1 ∙ was.1))
            (λ (t : (v.turn ≡ 1) × (i ≡ k) × (y ≡ 4 * q)). (c.turn ∙ t.0, subst (λ (a : ℕ). word_of ws a ≡ 4 * q) (sym t.1) (here ∙ t.2)))
            s

        mine_hand : (i z : ℕ) → ((v.hand ≡ Some (i, z)) × (i ≡ k → word_of words k ≡ y)) ⊎ ((v.turn ≡ 1) × (i ≡ k) × (y ≡ z) × IsEmptyOrBack z) → (w.turn ≡ 1) × (word_of ws i ≡ z) × IsEmptyOrBack z
        mine_hand i z s = ⊎_elim
            (λ (t : (v.hand ≡ Some (i, z)) × (i ≡ k → word_of words k ≡ y)). let was = r.hand id v at i z t.0 in (c.turn ∙ was.0, unwritten i t.1 ∙ was.1, was.2))
            (λ (t : (v.turn ≡ 1) × (i ≡ k) × (y ≡ z) × IsEmptyOrBack z). (c.turn ∙ t.0, subst (λ (a : ℕ). word_of ws a ≡ z) (sym t.1) (here ∙ t.2), t.3))
            s

        grown : (i z : ℕ) → (z ≤ word_of words i) ⊎ ((i ≡ k) × (z ≤ y)) → z ≤ word_of ws i
        grown i z either = let c' = c.grows in dite (ℕ_discrete i k)
            (λ (e : i ≡ k). ⊎_elim
            (λ (b : z ≤ word_of words i). let b' : z ≤ word_of words k = subst (λ (a : ℕ). z ≤ word_of words a) e b in subst (λ (a : ℕ). z ≤ word_of ws a) (sym e) (let h = here in omega arith))
            (λ (b : (i ≡ k) × (z ≤ y)). subst (λ (a : ℕ). z ≤ word_of ws a) (sym e) (let h = here in let b' = b.1 in omega arith))
            either)
            (λ other. ⊎_elim (λ (b : z ≤ word_of words i). let h = else_ i other in omega arith) (λ (b : (i ≡ k) × (z ≤ y)). absurd (other b.0)) either)

  -- the chair has not noted the slot, nor has it in hand
  abbrev pub Apart : View M → ℕ → Type 0
  Apart v k = ((q : ℕ) → 0 < times k q v.noted → ⊥) × ((z : ℕ) → v.hand ≡ Some (k, z) → ⊥)

  pub looks : (v : (View M)) (k x : ℕ) → Change v (after_look v k x) k x x
  looks v k x = record {
    grows = omega arith;
    puts = λ q. refl;
    puts_else = λ j q _. refl;
    claims = λ q. refl;
    claims_else = λ j q _. refl;
    collections = λ q. refl;
    collections_else = λ j q _. refl;
    claimed = λ q. refl;
    claimed_else = λ j q _. refl;
    owned = λ j q h was. was h;
    seen = λ j z h. let t = times-append j z v.seen ((k, x) ∷ []) in dite (ℕ_discrete (times j z v.seen) 0) (λ none_yet. inr (omega arith, omega arith)) (λ some_yet. inl (omega arith));
    turn = refl;
    bound = λ b. omega arith;
    noted = λ j q h. ⊎_elim (λ was. inl (was, λ _. refl)) (λ now. inr now) (noted_more v.turn k x v.noted j q h);
    hand = λ j z h. inl (h, λ _. refl);
    others = λ differs. absurd (differs refl);
    numbers = refl;
    name = refl;
    count = refl;
  }

  pub claims : (v : (View M)) (k r : ℕ) → v.claimed ≡ None → Apart v k → Change v (after_claim v k r) k (4 * r + 1) (4 * r + 2)
  claims v k r free away = record {
    grows = omega arith;
    puts = λ q. omega arith;
    puts_else = λ j q _. refl;
    claims = λ q. let t = times-append k q v.claims ((k, r) ∷ []) in omega arith;
    claims_else = λ j q other. let t = times-append j q v.claims ((k, r) ∷ []) in omega arith;
    collections = λ q. omega arith;
    collections_else = λ j q _. refl;
    claimed = λ q. let h : one_if k q v.claimed ≡ 0 = ap (one_if k q) free in omega arith;
    claimed_else = λ j q other. let h : one_if j q v.claimed ≡ 0 = ap (one_if j q) free in omega arith;
    owned = λ j q h was. let t = times-append j q v.claims ((k, r) ∷ []) in let e = same_Some (k, r) (j, q) h in let a : k ≡ j = ap (λ p. p.0) e in let b : r ≡ q = ap (λ p. p.1) e in omega arith;
    seen = λ j z h. inl h;
    turn = refl;
    bound = λ b. omega arith;
    noted = λ j q h. inl (h, λ e. absurd (away.0 q (subst (λ (i : ℕ). 0 < times i q v.noted) e h)));
    hand = λ j z h. inl (h, λ e. absurd (away.1 z (subst (λ (i : ℕ). v.hand ≡ Some (i, z)) e h)));
    others = λ _ _. (omega arith, omega arith);
    numbers = refl;
    name = refl;
    count = refl;
  }

  pub gives : (v : (View M)) (k r : ℕ) → v.claimed ≡ Some (k, r) → Apart v k → Change v (after_give v) k (4 * r + 2) (4 * r + 3)
  gives v k r has away = record {
    grows = omega arith;
    puts = λ q. omega arith;
    puts_else = λ j q _. refl;
    claims = λ q. omega arith;
    claims_else = λ j q _. refl;
    collections = λ q. omega arith;
    collections_else = λ j q _. refl;
    claimed = λ q. let h : one_if k q v.claimed ≡ one_pair k q (k, r) = ap (one_if k q) has in omega arith;
    claimed_else = λ j q other. let h : one_if j q v.claimed ≡ one_pair j q (k, r) = ap (one_if j q) has in omega arith;
    owned = λ j q h was. absurd (none-some _ h);
    seen = λ j z h. inl h;
    turn = refl;
    bound = λ b. omega arith;
    noted = λ j q h. inl (h, λ e. absurd (away.0 q (subst (λ (i : ℕ). 0 < times i q v.noted) e h)));
    hand = λ j z h. inl (h, λ e. absurd (away.1 z (subst (λ (i : ℕ). v.hand ≡ Some (i, z)) e h)));
    others = λ _ _. (omega arith, omega arith);
    numbers = refl;
    name = refl;
    count = refl;
  }

  -- a slot that is FULL or TAKEN is not noted, nor in hand
  pub moving : (words : List ℕ) (views : List (View M)) → CountsKept words views → (id : ℕ) (v : (View M)) (k : ℕ) → get_elem? views id ≡ some v → (0 < word_of words k % 4) × (word_of words k % 4 < 3) → Apart v k
  moving words views r id v k at m = let m0 = m.0 in let m1 = m.1 in (
    (λ q h. let was = (r.noted id v at k q h).1 in absurd (omega arith)),
    (λ z h. let was = r.hand id v at k z h in let is = was.1 in let s0 = was.2.0 in let s1 = was.2.1 in dite (ℕ_discrete (z % 4) 1) (λ a. absurd (s0 a)) (λ a. dite (ℕ_discrete (z % 4) 2) (λ b. absurd (s1 b)) (λ b. absurd (omega arith)))),
  )

  pub holds_slot : (v : (View M)) (k x : ℕ) → v.turn ≡ 1 → IsEmptyOrBack x → Change v (after_reserve v k x) k x x
  holds_slot v k x mine still = record {
    grows = omega arith;
    puts = λ q. refl;
    puts_else = λ j q _. refl;
    claims = λ q. refl;
    claims_else = λ j q _. refl;
    collections = λ q. refl;
    collections_else = λ j q _. refl;
    claimed = λ q. refl;
    claimed_else = λ j q _. refl;
    owned = λ j q h was. was h;
    seen = λ j z h. inl h;
    turn = refl;
    bound = λ b. b;
    noted = λ j p h. inl (h, λ _. refl);
    hand = λ j z h. let e = same_Some (k, x) (j, z) h in inr (mine, sym (ap (λ p. p.0) e), ap (λ p. p.1) e, subst IsEmptyOrBack (ap (λ p. p.1) e) still);
    others = λ differs. absurd (differs refl);
    numbers = refl;
    name = refl;
    count = refl;
  }

  pub puts_in : (v : (View M)) (k r : ℕ) → v.turn ≡ 1 → r < 4611686018427387903 → Change v (after_put v k r) k (4 * r) (4 * r + 1)
  puts_in v k r mine low = record {
    grows = omega arith;
    puts = λ q. let t = times-append k q v.puts ((k, r) ∷ []) in omega arith;
    puts_else = λ j q other. let t = times-append j q v.puts ((k, r) ∷ []) in omega arith;
    claims = λ q. omega arith;
    claims_else = λ j q _. refl;
    collections = λ q. omega arith;
    collections_else = λ j q _. refl;
    claimed = λ q. omega arith;
    claimed_else = λ j q _. refl;
    owned = λ j q h was. was h;
    seen = λ j z h. inl h;
    turn = refl;
    bound = λ b. omega arith;
    noted = λ j q h. let le = without-else k j q v.noted in let none_here = without-same k q v.noted in inl (omega arith, λ e. absurd (let z : times j q (without k v.noted) ≡ 0 = subst (λ (i : ℕ). times i q (without k v.noted) ≡ 0) (sym e) none_here in omega arith));
    hand = λ j z h. absurd (none-some _ h);
    others = λ _ not. absurd (not mine);
    numbers = refl;
    name = refl;
    count = refl;
  }

  pub collects : (v : (View M)) (k r : ℕ) → v.turn ≡ 1 → ((q : ℕ) → 0 < times k q v.noted → ⊥) → Change v (after_collect v k r) k (4 * r + 3) (4 * r + 4)
  collects v k r mine away = record {
    grows = omega arith;
    puts = λ q. omega arith;
    puts_else = λ j q _. refl;
    claims = λ q. omega arith;
    claims_else = λ j q _. refl;
    collections = λ q. let t = times-append k q v.collections ((k, r) ∷ []) in omega arith;
    collections_else = λ j q other. let t = times-append j q v.collections ((k, r) ∷ []) in omega arith;
    claimed = λ q. omega arith;
    claimed_else = λ j q _. refl;
    owned = λ j q h was. was h;
    seen = λ j z h. inl h;
    turn = refl;
    bound = λ b. omega arith;
    noted = λ j q h. inl (h, λ e. absurd (away q (subst (λ (i : ℕ). 0 < times i q v.noted) e h)));
    hand = λ j z h. absurd (none-some _ h);
    others = λ _ not. absurd (not mine);
    numbers = refl;
    name = refl;
    count = refl;
  }

  -- the turn's word becomes y, and the view of one chair w, with the same lists and slots
  pub record TurnChange (words : List ℕ) (v w : View M) (y : ℕ) : Type 0 where
    pub turn : w.turn + get_or words 0 0 ≡ v.turn + y
    pub small : y < 2
    pub puts : w.puts ≡ v.puts
    pub claims : w.claims ≡ v.claims
    pub collections : w.collections ≡ v.collections
    pub claimed : w.claimed ≡ v.claimed
    pub seen : w.seen ≡ v.seen
    pub numbers : w.numbers ≡ v.numbers
    pub count : w.count ≡ v.count
    pub noted : (k r : ℕ) → 0 < times k r w.noted → (w.turn ≡ 1) × (0 < times k r v.noted)
    pub hand : (k x : ℕ) → w.hand ≡ Some (k, x) → (w.turn ≡ 1) × (v.hand ≡ Some (k, x))

  pub turn_changes : (words : List ℕ) (views : List (View M)) → CountsKept words views → (id : ℕ) (v w : View M) (y : ℕ) → get_elem? views id ≡ some v → 0 < length words → v.numbers ≢ [] → TurnChange words v w y → CountsKept (set words 0 y) (set views id w)
  turn_changes words views r id v w y at wide sits c = record {
    puts = λ j q. same_sum (λ u. times j q u.puts) views id v w at (ap (times j q) c.puts) ∙ r.puts j q ∙ ap (one_below (4 * q)) (sym (other j));
    claims = λ j q. same_sum (λ u. times j q u.claims) views id v w at (ap (times j q) c.claims) ∙ r.claims j q ∙ ap (one_below (4 * q + 1)) (sym (other j));
    collections = λ j q. same_sum (λ u. times j q u.collections) views id v w at (ap (times j q) c.collections) ∙ r.collections j q ∙ ap (one_below (4 * q + 3)) (sym (other j));
    claimed = λ j q. same_sum (λ u. one_if j q u.claimed) views id v w at (ap (one_if j q) c.claimed) ∙ r.claimed j q ∙ ap (one_at (4 * q + 2)) (sym (other j));
    owned = λ j u e i q h. ⊎_elim
        (λ (t : (j ≡ id) × (w ≡ u)). subst (λ (l : List (ℕ × ℕ)). 0 < times i q l) (sym c.claims ∙ ap (λ (a : View M). a.claims) t.1) (r.owned id v at i q (sym c.claimed ∙ ap (λ (a : View M). a.claimed) t.1 ∙ h)))
        (λ (t : (j ≢ id) × (get_elem? views j ≡ some u)). r.owned j u t.1 i q h)
        (at_set views id j w u e);
    turns = let t = total-set (λ u. u.turn) views id v w at in let all = r.turns in let h = get_or-set_same words 0 y 0 wide in let e = c.turn in omega arith;
    turn = let h = get_or-set_same words 0 y 0 wide in let e = c.small in omega arith;
    bounded = λ j. let h = other j in let b = r.bounded j in omega arith;
    noted = λ j u e i q h. ⊎_elim
        (λ (t : (j ≡ id) × (w ≡ u)). let n = c.noted i q (subst (λ (a : View M). 0 < times i q a.noted) (sym t.1) h) in let was = r.noted id v at i q n.1 in subst (λ (a : View M). (a.turn ≡ 1) × (word_of (set words 0 y) i ≡ 4 * q)) t.1 (n.0, other i ∙ was.1))
        (λ (t : (j ≢ id) × (get_elem? views j ≡ some u)). let was = r.noted j u t.1 i q h in (was.0, other i ∙ was.1))
        (at_set views id j w u e);
    hand = λ j u e i z h. ⊎_elim
        (λ (t : (j ≡ id) × (w ≡ u)). let n = c.hand i z (subst (λ (a : View M). a.hand ≡ Some (i, z)) (sym t.1) h) in let was = r.hand id v at i z n.1 in subst (λ (a : View M). (a.turn ≡ 1) × (word_of (set words 0 y) i ≡ z) × IsEmptyOrBack z) t.1 (n.0, other i ∙ was.1, was.2))
        (λ (t : (j ≢ id) × (get_elem? views j ≡ some u)). let was = r.hand j u t.1 i z h in (was.0, other i ∙ was.1, was.2))
        (at_set views id j w u e);
    seen = λ j u e i z h. let o = other i in ⊎_elim
        (λ (t : (j ≡ id) × (w ≡ u)). let le = r.seen id v at i z (subst (λ (l : List (ℕ × ℕ)). 0 < times i z l) c.seen (subst (λ (a : View M). 0 < times i z a.seen) (sym t.1) h)) in omega arith)
        (λ (t : (j ≢ id) × (get_elem? views j ≡ some u)). let le = r.seen j u t.1 i z h in omega arith)
        (at_set views id j w u e);
    numbers = λ x. same_sum (λ u. occurs x u.numbers) views id v w at (ap (occurs x) c.numbers) ∙ r.numbers x ∙ ap (one_below x) (sym (count_of-set views id v w at c.count));
    unspent = λ j u e none_left. ⊎_elim
        (λ (t : (j ≡ id) × (w ≡ u)). absurd (sits (sym c.numbers ∙ ap (λ (a : View M). a.numbers) t.1 ∙ none_left)))
        (λ (t : (j ≢ id) × (get_elem? views j ≡ some u)). r.unspent j u t.1 none_left)
        (at_set views id j w u e);
  }
    where
      other : (i : ℕ) → word_of (set words 0 y) i ≡ word_of words i
      other i = get_or-set_other words 0 (i + 1) y 0 (λ e. omega arith)

  pub takes_turn : (words : List ℕ) (views : List (View M)) → CountsKept words views → (id : ℕ) (v : View M) → get_elem? views id ≡ some v → 0 < length words → get_or words 0 0 ≡ 0 → v.numbers ≢ [] → CountsKept (set words 0 1) (set views id (after_take v))
  takes_turn words views r id v at wide free sits = turn_changes words views r id v (after_take v) 1 at wide sits record {
    turn = let all = r.turns in let le = total-has (λ u. u.turn) views id v at in omega arith;
    small = omega arith;
    puts = refl;
    claims = refl;
    collections = refl;
    claimed = refl;
    seen = refl;
    numbers = refl;
    count = refl;
    noted = λ k q h. (refl, h);
    hand = λ k x h. (refl, h);
  }

  pub leaves_turn : (words : List ℕ) (views : List (View M)) → CountsKept words views → (id : ℕ) (v : View M) → get_elem? views id ≡ some v → 0 < length words → v.turn ≡ 1 → v.hand ≡ None → v.numbers ≢ [] → CountsKept (set words 0 0) (set views id (after_leave v))
  leaves_turn words views r id v at wide mine idle sits = turn_changes words views r id v (after_leave v) 0 at wide sits record {
    turn = let all = r.turns in let one = r.turn in let le = total-has (λ u. u.turn) views id v at in omega arith;
    small = omega arith;
    puts = refl;
    claims = refl;
    collections = refl;
    claimed = refl;
    seen = refl;
    numbers = refl;
    count = refl;
    noted = λ k q h. absurd (omega arith);
    hand = λ k x h. absurd (none-some _ (sym idle ∙ h));
  }

  pub sees_turn : (words : List ℕ) (views : List (View M)) → CountsKept words views → (id : ℕ) (v : View M) → get_elem? views id ≡ some v → 0 < length words → v.numbers ≢ [] → CountsKept (set words 0 (get_or words 0 0)) (set views id (after_turn_seen v (get_or words 0 0)))
  sees_turn words views r id v at wide sits = turn_changes words views r id v (after_turn_seen v (get_or words 0 0)) (get_or words 0 0) at wide sits record {
    turn = refl;
    small = r.turn;
    puts = refl;
    claims = refl;
    collections = refl;
    claimed = refl;
    seen = refl;
    numbers = refl;
    count = refl;
    noted = λ k q h. ((r.noted id v at k q h).0, h);
    hand = λ k x h. ((r.hand id v at k x h).0, h);
  }
