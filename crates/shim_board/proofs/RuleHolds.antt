-- The rule of a board follows from what each step keeps.
use Rattle.std.proofs.Common.{◌≡◌, ◌≢◌, ◌⊎◌, inl, inr, ℕ, suc, ◌+◌, ◌*◌, ◌/◌, ◌%◌, ◌<◌, List, [], ◌∷◌, get_or, refl, sym, ap, ◌∙◌, arith, Option, Some, None}
use mathlib.Core.Logic.{dite}
use mathlib.Core.Option.{some, some-injective, some-ne-none}
use native.Mathlib.Decide.{ℕ_discrete}
use lib.ListN.{get_elem?}
use Rattle.shim_board.specs.declared.content.Content.TheVariants.{Net}
use Rattle.shim_board.specs.declared.view.View.{View}
use Rattle.shim_board.specs.Counting.{one_pair, times, occurs, one_if}
use Rattle.shim_base.specs.Lists.{one_at, total}
use Rattle.shim_board.specs.Kept.{word_of, IsEmptyOrBack, in_hand, in_hands, Table, Kept}
use Rattle.shim_board.specs.Rule.{Rule, IsOutOfHand, TurnIsHeld, ExactlyOne, NothingDone, IsOpening}
use Rattle.shim_board.proofs.Totals.{total-has, total-two, total-none}
use Rattle.shim_board.proofs.Allowed.{taken}
use Rattle.shim_board.proofs.Ends.{same_net}

module _ {V : Type 0} (f : V → ℕ) where
  -- a sum that isn't 0 has a part that isn't
  pub total-some : (l : List V) → 0 < total f l → (j : ℕ) × (v : V) × (get_elem? l j ≡ some v) × (0 < f v)
  total-some [] h = absurd (omega arith)
  total-some (x ∷ xs) h = dite (ℕ_discrete (f x) 0)
      (λ none_here. let r = total-some xs (omega arith) in (suc r.0, r.1, r.2, r.3))
      (λ some_here. (0, x, refl, omega arith))

  -- of a sum of 1 just one part isn't 0
  pub total-one : (l : List V) → total f l ≡ 1 → (j : ℕ) × (v : V) × (get_elem? l j ≡ some v) × (0 < f v) × ((i : ℕ) (u : V) → get_elem? l i ≡ some u → 0 < f u → i ≡ j)
  total-one l one = let r = total-some l (omega arith) in (r.0, r.1, r.2, r.3, λ i u at here. dite (ℕ_discrete i r.0) (λ e. e) (λ other. absurd (let two = total-two f l i r.0 u r.1 at r.2 other in let there = r.3 in omega arith)))

-- how far a word stands after the step that it has passed
round_put : (r x : ℕ) → 4 * r < x → (r < x / 4) ⊎ ((r ≡ x / 4) × (x % 4 ≡ 0 → ⊥))
round_put r x l = dite (ℕ_discrete r (x / 4)) (λ e. inr (e, λ z. omega arith)) (λ other. inl (omega arith))

round_claimed : (r x : ℕ) → 4 * r + 1 < x → (r < x / 4) ⊎ ((r ≡ x / 4) × ((x % 4 ≡ 2) ⊎ (x % 4 ≡ 3)))
round_claimed r x l = dite (ℕ_discrete r (x / 4)) (λ e. inr (e, dite (ℕ_discrete (x % 4) 2) (λ two. inl two) (λ not. inr (omega arith)))) (λ other. inl (omega arith))

empty_or_back : (x : ℕ) → IsEmptyOrBack x → (x % 4 ≡ 0) ⊎ (x % 4 ≡ 3)
empty_or_back x s = dite (ℕ_discrete (x % 4) 0) (λ e. inl e) (λ a. dite (ℕ_discrete (x % 4) 3) (λ e. inr e)
    (λ b. absurd (dite (ℕ_discrete (x % 4) 1) (λ e. s.0 e) (λ d. s.1 (omega arith)))))

not_in : (k : ℕ) (h o : Option (ℕ × ℕ)) → h ≡ o → ((x : ℕ) → h ≢ Some (k, x)) → in_hand k h ≡ 0
not_in k h None is out = ap (in_hand k) is
not_in k h (Some p) is out = ap (in_hand k) is ∙ dite (ℕ_discrete k p.0)
    (λ (e : k ≡ p.0). absurd (out p.1 (is ∙ λ i. Some (sym e i, p.1))))
    (λ other. let z : one_at k p.0 ≡ 0 = omega arith in z)

-- a chair that is counted at a pair has claimed it
pub one_if_some : (k r : ℕ) (o : Option (ℕ × ℕ)) → 0 < one_if k r o → o ≡ Some (k, r)
one_if_some k r None h = absurd (omega arith)
one_if_some k r (Some p) h = let a : p.0 ≡ k = omega arith in let b : p.1 ≡ r = omega arith in λ i. Some (a i, b i)

module _ {T N M : Type 0} (label : N → M) (board : M) (s : Table T N M) (r : Kept label board s) where
  out_of_hand : (k : ℕ) → IsOutOfHand label board s k → in_hands k s.views ≡ 0
  out_of_hand k out = total-none (λ (u : View M). in_hand k u.hand) s.views (λ j u e. not_in k u.hand u.hand refl (out j u e))

  -- a pair in one chair's list is in those of all
  passed_put : (j : ℕ) (v : View M) → get_elem? s.views j ≡ some v → (k q : ℕ) → 0 < times k q v.puts → 4 * q < word_of s.words k
  passed_put j v at k q h = let le = total-has (λ u. times k q u.puts) s.views j v at in let e = r.0.puts k q in omega arith

  passed_claim : (j : ℕ) (v : View M) → get_elem? s.views j ≡ some v → (k q : ℕ) → 0 < times k q v.claims → 4 * q + 1 < word_of s.words k
  passed_claim j v at k q h = let le = total-has (λ u. times k q u.claims) s.views j v at in let e = r.0.claims k q in omega arith

  passed_collect : (j : ℕ) (v : View M) → get_elem? s.views j ≡ some v → (k q : ℕ) → 0 < times k q v.collections → 4 * q + 3 < word_of s.words k
  passed_collect j v at k q h = let le = total-has (λ u. times k q u.collections) s.views j v at in let e = r.0.collections k q in omega arith

  one_claimed : (i j : ℕ) (u v : View M) → get_elem? s.views i ≡ some u → get_elem? s.views j ≡ some v → (k p q : ℕ) → u.claimed ≡ Some (k, p) → v.claimed ≡ Some (k, q) → i ≡ j
  one_claimed i j u v at at' k p q has has' = dite (ℕ_discrete i j) (λ e. e) (λ other. absurd (
      let x = taken s.words s.views r.0 i u k p at has in let y = taken s.words s.views r.0 j v k q at' has' in let same : q ≡ p = omega arith in
      let a : one_if k p u.claimed ≡ one_pair k p (k, p) = ap (one_if k p) has in let b : one_if k p v.claimed ≡ one_pair k p (k, q) = ap (one_if k p) has' in
      let two = total-two (λ w. one_if k p w.claimed) s.views i j u v at at' other in let e = r.0.claimed k p in omega arith))

  one_turn : TurnIsHeld label board s → ExactlyOne label board s (λ v. v.turn ≡ 1)
  one_turn turn_held = let o = total-one (λ (v : View M). v.turn) s.views (r.0.turns ∙ turn_held) in let le = total-has (λ (v : View M). v.turn) s.views o.0 o.1 o.2 in let all = r.0.turns in
      (o.0, o.1, o.2, (let here = o.3 in omega arith), λ i u at mine. o.4 i u at (omega arith))

  one_claimant : (k : ℕ) → word_of s.words k % 4 ≡ 2 → ExactlyOne label board s (λ v. v.claimed ≡ Some (k, word_of s.words k / 4))
  one_claimant k is = let w : ℕ = word_of s.words k in let q : ℕ = w / 4 in let o = total-one (λ (v : View M). one_if k q v.claimed) s.views (let e = r.0.claimed k q in omega arith) in
      (o.0, o.1, o.2, one_if_some k q o.1.claimed o.3, λ i u at has. o.4 i u at (let e : one_if k q u.claimed ≡ one_pair k q (k, q) = ap (one_if k q) has in omega arith))

  net_named : (x : N) → get_elem? s.homes 0 ≡ some (some (Net x)) → label x ≡ board
  net_named x at = dite (ℕ_discrete (get_or s.words 0 0) 0)
      (λ free. let n = r.1.net free in ap label (same_net x n.0 _ _ refl refl (some-injective _ _ (some-injective _ _ (sym at ∙ n.1)))) ∙ n.2)
      (λ turn_held. let two = r.0.turn in absurd (some-ne-none _ (some-injective _ _ (sym at ∙ r.1.net_out (omega arith)))))

  pub holds : Rule label board s
  holds = record {
    full = λ k inside x. (r.1.slots k inside).0 x;
    empty = λ k inside x out. (r.1.slots k inside).1 x (out_of_hand k out);
    back = λ k inside x out. (r.1.slots k inside).2 x (out_of_hand k out);
    net = r.1.net;
    taken = λ j v at k q has. taken s.words s.views r.0 j v k q at has;
    claimed_once = one_claimed;
    differ = λ k q. (let e = r.0.puts k q in omega arith, let e = r.0.claims k q in omega arith, let e = r.0.collections k q in omega arith);
    puts = λ j v at k q h. round_put q (word_of s.words k) (passed_put j v at k q h);
    claims = λ j v at k q h. round_claimed q (word_of s.words k) (passed_claim j v at k q h);
    collections = λ j v at k q h. let l = passed_collect j v at k q h in omega arith;
    put_by_one = λ k q low. total-one (λ (v : View M). times k q v.puts) s.views (let e = r.0.puts k q in omega arith);
    claimed_by_one = λ k q low. total-one (λ (v : View M). times k q v.claims) s.views (let e = r.0.claims k q in omega arith);
    collected_by_one = λ k q low. total-one (λ (v : View M). times k q v.collections) s.views (let e = r.0.collections k q in omega arith);
    taken_by_one = one_claimant;
    turn = dite (ℕ_discrete (get_or s.words 0 0) 0) (λ e. inl e) (λ e. inr (let t = r.0.turn in omega arith));
    turn_held = one_turn;
    free = λ e j v at. let le = total-has (λ (u : View M). u.turn) s.views j v at in let all = r.0.turns in omega arith;
    noted = r.0.noted;
    hand = λ j v at k x h. let was = r.0.hand j v at k x h in (was.0, was.1, empty_or_back x was.2);
    seen = r.0.seen;
    named = net_named;
    names = r.1.names;
    numbers = λ x low. total-one (λ (v : View M). occurs x v.numbers) s.views (let e = r.0.numbers x in omega arith);
    no_others = λ x high j v at. let le = total-has (λ (u : View M). occurs x u.numbers) s.views j v at in let e = r.0.numbers x in omega arith;
    unspent = r.0.unspent;
    one_each = r.1.one_each;
    bounded = r.0.bounded;
  }

  -- where nothing was put and no chair has the turn, no word has grown
  pub opened : NothingDone s.views → IsOpening s
  opened new = (
    sym r.0.turns ∙ total-none (λ (u : View M). u.turn) s.views (λ j u e. (new j u e).1),
    λ k. let none_put = total-none (λ (u : View M). times k 0 u.puts) s.views (λ j u e. ap (times k 0) (new j u e).0) in let is = r.0.puts k 0 in omega arith,
  )
