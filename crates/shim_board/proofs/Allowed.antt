-- Each step of the table keeps what holds between two of them.
use Rattle.std.proofs.Common.{length-set, ◌≡◌, ◌≢◌, ℕ, ◌+◌, ◌*◌, ◌/◌, ◌%◌, ◌^◌, ◌<◌, eqb, ◌==◌, ◌&&◌, cond, List, [], ◌∷◌, ◌++◌, set, get_or, refl, sym, ap, ◌∙◌, subst, arith, eq-eqb, ne_eqb, Option, Some, None, append_assoc, append-nil}
use Rattle.std.proofs.lemmas.Option.{same_Some}
use mathlib.Core.Logic.{dite}
use mathlib.Core.Option.{none, some, some-injective}
use native.Mathlib.Decide.{ℕ_discrete}
use lib.ListN.{get_elem?}
use prog.Atomic.{either}
use Rattle.atomic_table.specs.Table.{step, keeps, takes, gives, stepped, put_back, rest, turned, Allows}
use Rattle.atomic_table.proofs.Lists.{set_else}
use Rattle.shim_board.specs.declared.view.View.{View}
use Rattle.shim_board.specs.declared.content.Content.{Content}
use Rattle.shim_board.specs.declared.content.Content.TheVariants.{Nothing, Piece, Net}
use Rattle.shim_board.specs.Counting.{one_pair, times, one_if}
use Rattle.shim_base.specs.Lists.{one_at}
use Rattle.shim_board.specs.Views.{noted_with, at_slot, after_look, after_turn_seen, after_claim, after_give, after_take, after_leave, after_reserve, after_put, after_collect, first_or, Ascends, seeing, HasLooked, HasClaimed, carried, out_claimed, out_turn}
use Rattle.shim_board.specs.Kept.{word_of, CountsKept, Table, Seated, ValuesKept, Kept, in_hand, in_hands, IsEmptyOrBack}
use Rattle.shim_board.specs.Steps.{HasLookedOnce, HasClaimedOrLooked, HasGiven, HasTakenOrLooked, HasLeftTurn, HoldsEmpty, HoldsBack, HasCollected, HasPut}
use Rattle.shim_board.proofs.Totals.{times-append, total-has, total-set, total-none, total-two}
use Rattle.shim_board.proofs.Keeps.{Change, moved, moving, looks, claims, takes_turn, leaves_turn, sees_turn}
use Rattle.shim_board.proofs.Keeps as changes
use Rattle.shim_board.proofs.Homes.{placed, stays, sets, turn_moves, turn_stays}

module _ {M : Type 0} where
  -- the claimed slot is TAKEN
  pub taken : (words : List ℕ) (views : List (View M)) → CountsKept words views → (id : ℕ) (v : (View M)) (k q : ℕ) → get_elem? views id ≡ some v → v.claimed ≡ Some (k, q) → word_of words k ≡ 4 * q + 2
  taken words views r id v k q at has = let one : one_if k q v.claimed ≡ one_pair k q (k, q) = ap (one_if k q) has in let le = total-has (λ u. one_if k q u.claimed) views id v at in let is = r.claimed k q in omega arith

module _ {T N M : Type 0} (label : N → M) (board : M) (slots id : ℕ) (me : Seated T N M) (sits : me.0.numbers ≢ []) where
  abbrev IsKept : Table T N M → Type 0
  IsKept = Kept label board

  pub looks_at : (k : ℕ) → k + 1 < slots → Allows IsKept slots id me (k + 1) (λ x. x) (HasLookedOnce (step slots (k + 1) 0 0 none) me)
  looks_at k inside s r one_each at small = let x : ℕ = get_or s.words (k + 1) 0 in let as_deep = r.1.one_each in let w = after_look me.0 k x in (
    w,
    keeps,
    tt,
    (moved s.words s.views r.0 id me.0 w k x at (omega arith) (looks me.0 k x) sits, stays label board s r.1 id me.0 w k x at (omega arith) refl refl refl refl),
    λ j e. let same : k ≡ j = omega arith in ap (λ (i : ℕ). (after_look me.0 i x, me.1)) same,
  )

  pub claims_at : (k old q : ℕ) → k + 1 < slots → me.0.claimed ≡ None → old ≡ 4 * q + 1 → Allows IsKept slots id me (k + 1) (λ x. either (eqb x old) (old + 1) x) (HasClaimedOrLooked (step slots (k + 1) old (old + 1) none) me)
  claims_at k old q inside free is s r one_each at small = let x : ℕ = get_or s.words (k + 1) 0 in let as_deep = r.1.one_each in dite (ℕ_discrete x old)
      (λ hit. let w = after_claim me.0 k q in let round : q ≡ x / 4 = omega arith in let two : 4 * q + 2 ≡ old + 1 = omega arith in
      let has = (r.1.slots k (omega arith)).0 (omega arith) in (
        w,
        takes (k + 1) (Piece has.0),
        has.1,
        subst (λ b. IsKept (stepped s (k + 1) (either b (old + 1) x) id me.1 w (takes (k + 1) (Piece has.0)))) (sym (eq-eqb x old hit)) (
          moved s.words s.views r.0 id me.0 w k (old + 1) at (omega arith)
              (subst (λ (z : ℕ × ℕ). Change me.0 w k z.0 z.1) (λ i. ((sym is ∙ sym hit) i, two i)) (claims me.0 k q free (moving s.words s.views r.0 id me.0 k at (omega arith, omega arith)))) sits,
          placed label board s r.1 id me.0 w k (old + 1) at (omega arith) (set s.homes (k + 1) none) (length-set s.homes (k + 1) none) (λ j other. set_else s.homes (k + 1) j none other) (λ _ _. refl)
              ((λ (z : (old + 1) % 4 ≡ 1). absurd (omega arith)), (λ (z : (old + 1) % 4 ≡ 0). absurd (omega arith)), (λ (z : (old + 1) % 4 ≡ 3). absurd (omega arith))) refl refl,
        ),
        λ j e. ((λ _. let same : k ≡ j = omega arith in (has.0, λ i. (after_claim me.0 (same i) (round i), (same i + 1, Piece has.0) ∷ me.1))), λ not. absurd (not hit)),
      ))
      (λ miss. let w = after_look me.0 k x in (
        w,
        keeps,
        tt,
        subst (λ b. IsKept (stepped s (k + 1) (either b (old + 1) x) id me.1 w keeps)) (sym (ne_eqb x old miss))
            (moved s.words s.views r.0 id me.0 w k x at (omega arith) (looks me.0 k x) sits, stays label board s r.1 id me.0 w k x at (omega arith) refl refl refl refl),
        λ j e. let same : k ≡ j = omega arith in
            ((λ hit. absurd (miss hit)), (λ _. (ap (λ (i : ℕ). (after_look me.0 i x, me.1)) same, (λ looked. let le = r.0.seen id me.0 at k old (subst (λ (i : ℕ). 0 < times i old me.0.seen) (sym same) looked) in omega arith)))),
      ))

  pub gives_at : (k q : ℕ) (y : T) → k + 1 < slots → me.0.claimed ≡ Some (k, q) → me.1 ≡ (k + 1, Piece y) ∷ rest me.1 → Allows IsKept slots id me (k + 1) (λ x. (x + 1) % 2 ^ 64) (HasGiven (step slots (k + 1) 1 0 none) me)
  gives_at k q y inside has out s r one_each at small = let x : ℕ = get_or s.words (k + 1) 0 in let as_deep = r.1.one_each in let w = after_give me.0 in let is = taken s.words s.views r.0 id me.0 k q at has in
      let next : 4 * q + 3 ≡ (x + 1) % 18446744073709551616 = omega arith in let x' : ℕ = (x + 1) % 18446744073709551616 in (
        w,
        gives,
        tt,
        (
          moved s.words s.views r.0 id me.0 w k x' at (omega arith) (subst (λ (z : ℕ × ℕ). Change me.0 w k z.0 z.1) (λ i. (sym is i, next i)) (changes.gives me.0 k q has (moving s.words s.views r.0 id me.0 k at (omega arith, omega arith)))) sits,
          subst (λ hs. ValuesKept label board record { words = set s.words (k + 1) x'; homes = hs; views = set s.views id w }) (sym (ap (put_back s.homes) out))
              (sets label board s r.1 id me.0 w k x' at (omega arith) (some (Piece y)) (λ _ _. refl)
              ((λ (z : x' % 4 ≡ 1). absurd (omega arith)), (λ (z : x' % 4 ≡ 0). absurd (omega arith)), (λ _ _. (y, refl))) refl refl),
        ),
        refl,
      )

  pub takes_turn_at : 0 < slots → Allows IsKept slots id me 0 (λ x. either (eqb x 0) 1 x) (HasTakenOrLooked label (step slots 0 0 1 none) me)
  takes_turn_at some_slots s r one_each at small = let x : ℕ = get_or s.words 0 0 in let as_deep = r.1.one_each in let two = r.0.turn in let named = r.1.names id me.0 at sits in dite (ℕ_discrete x 0)
      (λ free. let w = after_take me.0 in let net = r.1.net free in (
        w,
        takes 0 (Net net.0),
        net.1,
        subst (λ b. IsKept (stepped s 0 (either b 1 x) id me.1 w (takes 0 (Net net.0)))) (sym (eq-eqb x 0 free)) (takes_turn s.words s.views r.0 id me.0 at (omega arith) free sits, turn_moves label board s r.1 id me.0 w 1 at none (omega arith) refl refl refl (λ e. absurd (omega arith)) (λ _. refl)),
        ((λ _. (net.0, refl, named ∙ ap Some (sym net.2))), λ not. absurd (not free)),
      ))
      (λ taken. let w = after_turn_seen me.0 x in (
        w,
        keeps,
        tt,
        subst (λ b. IsKept (stepped s 0 (either b 1 x) id me.1 w keeps)) (sym (ne_eqb x 0 taken)) (sees_turn s.words s.views r.0 id me.0 at (omega arith) sits, turn_stays label board s r.1 id me.0 w x at refl refl refl),
        ((λ free. absurd (taken free)), λ _. (omega arith, refl)),
      ))

  -- no chair has a slot in hand but the one with the turn
  none_out : (s : Table T N M) → IsKept s → get_elem? s.views id ≡ some me.0 → me.0.turn ≡ 1 → me.0.hand ≡ None → (k : ℕ) → in_hands k s.views ≡ 0
  none_out s r at mine idle k = total-none (λ (u : View M). in_hand k u.hand) s.views (λ j u e. dite (ℕ_discrete j id)
      (λ (same : j ≡ id). ap (λ (a : View M). in_hand k a.hand) (some-injective u me.0 (sym e ∙ ap (get_elem? s.views) same ∙ at)) ∙ ap (in_hand k) idle)
      (λ other. let two = total-two (λ (a : View M). a.turn) s.views j id u me.0 e at other in let all = r.0.turns in let one = r.0.turn in nothing j u e (λ t. absurd (omega arith)) u.hand refl))
    where
      nothing : (j : ℕ) (u : View M) → get_elem? s.views j ≡ some u → (u.turn ≡ 1 → ⊥) → (o : Option (ℕ × ℕ)) → u.hand ≡ o → in_hand k u.hand ≡ 0
      nothing j u e not None is = ap (in_hand k) is
      nothing j u e not (Some p) is = absurd (not (r.0.hand j u e p.0 p.1 is).0)

  pub puts_at : (k q : ℕ) (y : T) → k + 1 < slots → me.0.turn ≡ 1 → q < 4611686018427387903 → me.0.hand ≡ Some (k, 4 * q) → me.1 ≡ (k + 1, Piece y) ∷ rest me.1
      → Allows IsKept slots id me (k + 1) (λ x. (x + 1) % 2 ^ 64) (HasPut (step slots (k + 1) 1 0 none) me)
  puts_at k q y inside mine low has out s r one_each at small = let x : ℕ = get_or s.words (k + 1) 0 in let as_deep = r.1.one_each in let w = after_put me.0 k q in let is = (r.0.hand id me.0 at k (4 * q) has).1 in
      let x' : ℕ = (x + 1) % 18446744073709551616 in let next : 4 * q + 1 ≡ x' = omega arith in let h : (j : ℕ) → in_hand j me.0.hand ≡ one_at j k = λ j. ap (in_hand j) has in (
        w,
        gives,
        tt,
        (
          moved s.words s.views r.0 id me.0 w k x' at (omega arith) (subst (λ (z : ℕ × ℕ). Change me.0 w k z.0 z.1) (λ i. (sym is i, next i)) (changes.puts_in me.0 k q mine low)) sits,
          subst (λ hs. ValuesKept label board record { words = set s.words (k + 1) x'; homes = hs; views = set s.views id w }) (sym (ap (put_back s.homes) out))
              (sets label board s r.1 id me.0 w k x' at (omega arith) (some (Piece y)) (λ j other. let e = h j in omega arith)
              ((λ _. (y, refl)), (λ (z : x' % 4 ≡ 0). absurd (omega arith)), (λ (z : x' % 4 ≡ 3). absurd (omega arith))) refl refl),
        ),
        λ j q' e. let same = same_Some (k, 4 * q) (j, 4 * q') (sym has ∙ e) in let a : k ≡ j = ap (λ z. z.0) same in let b : 4 * q ≡ 4 * q' = ap (λ z. z.1) same in let d : q ≡ q' = omega arith in λ i. (after_put me.0 (a i) (d i), rest me.1),
      )

  pub holds_empty_at : (k r : ℕ) → k + 1 < slots → me.0.turn ≡ 1 → me.0.hand ≡ None → 0 < times k r me.0.noted → Allows IsKept slots id me (k + 1) (λ x. x) (HoldsEmpty (step slots (k + 1) 0 0 none) me)
  holds_empty_at k q inside mine idle some_note s r one_each at small = let x : ℕ = get_or s.words (k + 1) 0 in let as_deep = r.1.one_each in let out = none_out s r at mine idle k in let h : (j : ℕ) → in_hand j me.0.hand ≡ 0 = λ j. ap (in_hand j) idle in
      let w = after_reserve me.0 k x in let sum = total-set (λ (a : View M). in_hand k a.hand) s.views id me.0 w at in let now : in_hands k (set s.views id w) ≡ 1 = let e = h k in omega arith in
      let is = (r.0.noted id me.0 at k q some_note).1 in let empty : x % 4 ≡ 0 = omega arith in let still : IsEmptyOrBack x = ((λ e. omega arith), (λ e. omega arith)) in (
        w,
        takes (k + 1) Nothing,
        (r.1.slots k (omega arith)).1 empty out,
        (
          moved s.words s.views r.0 id me.0 w k x at (omega arith) (changes.holds_slot me.0 k x mine still) sits,
          placed label board s r.1 id me.0 w k x at (omega arith) (set s.homes (k + 1) none) (length-set s.homes (k + 1) none) (λ j other. set_else s.homes (k + 1) j none other) (λ j other. let e = h j in omega arith)
              ((λ (z : x % 4 ≡ 1). absurd (still.0 z)), (λ _ (z : in_hands k (set s.views id w) ≡ 0). absurd (omega arith)), (λ _ (z : in_hands k (set s.views id w) ≡ 0). absurd (omega arith))) refl refl,
        ),
        λ j q' e there. let same : k ≡ j = omega arith in let is' : x ≡ 4 * q' = (r.0.noted id me.0 at k q' (subst (λ (i : ℕ). 0 < times i q' me.0.noted) (sym same) there)).1 in λ i. (after_reserve me.0 (same i) (is' i), (same i + 1, Nothing) ∷ me.1),
      )

  pub holds_back_at : (k : ℕ) → k + 1 < slots → me.0.turn ≡ 1 → me.0.hand ≡ None → Allows IsKept slots id me (k + 1) (λ x. x) (HoldsBack (step slots (k + 1) 0 0 none) me)
  holds_back_at k inside mine idle s r one_each at small = let x : ℕ = get_or s.words (k + 1) 0 in let as_deep = r.1.one_each in let out = none_out s r at mine idle k in let h : (j : ℕ) → in_hand j me.0.hand ≡ 0 = λ j. ap (in_hand j) idle in
      dite (ℕ_discrete (x % 4) 3)
      (λ back. let still : IsEmptyOrBack x = ((λ e. omega arith), (λ e. omega arith)) in let has = (r.1.slots k (omega arith)).2 back out in
      let w = after_reserve me.0 k x in let sum = total-set (λ (a : View M). in_hand k a.hand) s.views id me.0 w at in let now : in_hands k (set s.views id w) ≡ 1 = let e = h k in omega arith in (
        w,
        takes (k + 1) (Piece has.0),
        has.1,
        (
          moved s.words s.views r.0 id me.0 w k x at (omega arith) (changes.holds_slot me.0 k x mine still) sits,
          placed label board s r.1 id me.0 w k x at (omega arith) (set s.homes (k + 1) none) (length-set s.homes (k + 1) none) (λ j other. set_else s.homes (k + 1) j none other) (λ j other. let e = h j in omega arith)
              ((λ (z : x % 4 ≡ 1). absurd (still.0 z)), (λ _ (z : in_hands k (set s.views id w) ≡ 0). absurd (omega arith)), (λ _ (z : in_hands k (set s.views id w) ≡ 0). absurd (omega arith))) refl refl,
        ),
        λ j e. let same : k ≡ j = omega arith in ((λ _. (has.0, λ i. (after_reserve me.0 (same i) x, (same i + 1, Piece has.0) ∷ me.1))), (λ other. absurd (other back))),
      ))
      (λ not_back. let u = after_look me.0 k x in (
        u,
        keeps,
        tt,
        (moved s.words s.views r.0 id me.0 u k x at (omega arith) (looks me.0 k x) sits, stays label board s r.1 id me.0 u k x at (omega arith) refl refl refl refl),
        λ j e. let same : k ≡ j = omega arith in ((λ back. absurd (not_back back)), (λ _. ap (λ (i : ℕ). (after_look me.0 i x, me.1)) same)),
      ))

  pub collects_at : (k q : ℕ) → k + 1 < slots → me.0.turn ≡ 1 → me.0.hand ≡ Some (k, 4 * q + 3) → me.1 ≡ (k + 1, Nothing) ∷ rest me.1
      → Allows IsKept slots id me (k + 1) (λ x. (x + 1) % 2 ^ 64) (HasCollected (step slots (k + 1) 1 0 none) me)
  collects_at k q inside mine has out s r one_each at small = let x : ℕ = get_or s.words (k + 1) 0 in let as_deep = r.1.one_each in let w = after_collect me.0 k q in let is = (r.0.hand id me.0 at k (4 * q + 3) has).1 in let low = r.0.bounded k in
      let x' : ℕ = (x + 1) % 18446744073709551616 in let next : 4 * q + 4 ≡ x' = omega arith in let h : (j : ℕ) → in_hand j me.0.hand ≡ one_at j k = λ j. ap (in_hand j) has in
      let away : (p : ℕ) → 0 < times k p me.0.noted → ⊥ = λ p some_note. let e = (r.0.noted id me.0 at k p some_note).1 in absurd (omega arith) in (
        w,
        gives,
        tt,
        (
          moved s.words s.views r.0 id me.0 w k x' at (omega arith) (subst (λ (z : ℕ × ℕ). Change me.0 w k z.0 z.1) (λ i. (sym is i, next i)) (changes.collects me.0 k q mine away)) sits,
          subst (λ hs. ValuesKept label board record { words = set s.words (k + 1) x'; homes = hs; views = set s.views id w }) (sym (ap (put_back s.homes) out))
              (sets label board s r.1 id me.0 w k x' at (omega arith) (some Nothing) (λ j other. let e = h j in omega arith)
              ((λ (z : x' % 4 ≡ 1). absurd (omega arith)), (λ _ _. refl), (λ (z : x' % 4 ≡ 3). absurd (omega arith))) refl refl),
        ),
        λ j q' e. let same = same_Some (k, 4 * q + 3) (j, 4 * q' + 3) (sym has ∙ e) in let a : k ≡ j = ap (λ z. z.0) same in let b : 4 * q + 3 ≡ 4 * q' + 3 = ap (λ z. z.1) same in let d : q ≡ q' = omega arith in λ i. (after_collect me.0 (a i) (d i), rest me.1),
      )

  pub leaves_turn_at : (net : N) → 0 < slots → me.0.turn ≡ 1 → me.0.hand ≡ None → me.0.name ≡ Some (label net) → me.1 ≡ (0, Net net) ∷ rest me.1 → Allows IsKept slots id me 0 (λ _. 0) (λ _. HasLeftTurn (step slots 0 0 0 none) me 0)
  leaves_turn_at net some_slots mine idle named out s r one_each at small = let as_deep = r.1.one_each in let w = after_leave me.0 in let is = r.1.names id me.0 at sits in (
    w,
    gives,
    tt,
    (
      leaves_turn s.words s.views r.0 id me.0 at (omega arith) mine idle sits,
      subst (λ hs. ValuesKept label board record { words = set s.words 0 0; homes = hs; views = set s.views id w }) (sym (ap (put_back s.homes) out))
          (turn_moves label board s r.1 id me.0 w 0 at (some (Net net)) (omega arith) refl refl refl (λ _. (net, refl, same_Some (label net) board (sym named ∙ is))) (λ e. absurd (omega arith))),
    ),
    refl,
  )

module _ {S : Type 0} where
  front_or : S → List (ℕ × S) → S
  front_or d [] = d
  front_or d (x ∷ xs) = x.1

  -- the slot that was taken last is one
  pub one_front : (cs xs ys : List (ℕ × S)) (i j : ℕ) (a b : S) → cs ≡ (i, a) ∷ xs → cs ≡ (j, b) ∷ ys → a ≡ b
  unfolding front_or
  one_front cs xs ys i j a b e e' = ap (front_or a) (sym e ∙ e')

  pub in_front : (cs xs : List (ℕ × S)) (i : ℕ) (a : S) → cs ≡ (i, a) ∷ xs → (y : S) × (cs ≡ (i, y) ∷ rest cs)
  in_front cs xs i a e = (a, e ∙ ap (λ c. (i, a) ∷ rest c) (sym e))

module _ {T N M : Type 0} where
  -- after `turn` the net's place is in front
  pub net_front : (v : View M) (cs : List (ℕ × Content T N)) → cs ≡ carried v → v.turn ≡ 1 → turned cs ≡ (0, Nothing) ∷ out_claimed v.claimed []
  net_front v cs is mine = ap turned (is ∙ ap (λ n. out_claimed v.claimed (out_turn n)) mine) ∙ by v.claimed
    where
      by : (o : Option (ℕ × ℕ)) → turned (out_claimed o (out_turn 1)) ≡ (0, Nothing) ∷ out_claimed {T = T} {N = N} o []
      by None = refl
      by (Some p) = refl

  -- what is out with a chair that claims
  pub carries_claim : (v w u : View M) (k r : ℕ) (cs : List (ℕ × Content T N)) → v.claimed ≡ None → u ≡ after_claim w k r → w.turn ≡ v.turn → cs ≡ carried v → (k + 1, Nothing) ∷ cs ≡ carried u
  carries_claim v w u k r cs free is turn out = ap (λ c. (k + 1, Nothing) ∷ c) (out ∙ ap (λ o. out_claimed o (out_turn v.turn)) free) ∙ ap (λ n. (k + 1, Nothing) ∷ out_turn n) (sym turn) ∙ ap carried (sym is)

  -- what is out with a chair that gives
  pub gives_carried : (v : View M) (k r : ℕ) (cs : List (ℕ × Content T N)) → cs ≡ carried v → v.claimed ≡ Some (k, r) → rest cs ≡ carried (after_give v)
  gives_carried v k r cs is has = ap rest is ∙ ap (λ o. rest (out_claimed o (out_turn v.turn))) has

pub at_slot-append : (k : ℕ) (xs : List ℕ) (x : ℕ) → at_slot k (xs ++ x ∷ []) ≡ at_slot k xs ++ (k, x) ∷ []
at_slot-append k [] x = refl
at_slot-append k (y ∷ ys) x = ap (λ l. (k, y) ∷ l) (at_slot-append k ys x)

-- a FULL slot isn't noted
full_unnoted : (turn k x : ℕ) (ns : List (ℕ × ℕ)) → x % 4 ≡ 1 → noted_with turn k x ns ≡ ns
full_unnoted turn k x ns full = ap (λ b. cond (b && (turn == 1)) ((k, x / 4) ∷ ns) ns) (ne_eqb (x % 4) 0 (λ e. omega arith))

-- with the turn, an EMPTY slot is noted
pub note_made : (turn k x r : ℕ) (ns : List (ℕ × ℕ)) → turn ≡ 1 → x ≡ 4 * r → 0 < times k r (noted_with turn k x ns)
note_made turn k x r ns mine is = subst (λ b. 0 < times k r (cond (b && (turn == 1)) ((k, x / 4) ∷ ns) ns)) (sym (eq-eqb (x % 4) 0 (let e : x % 4 ≡ 0 = omega arith in e)))
    (subst (λ b. 0 < times k r (cond b ((k, x / 4) ∷ ns) ns)) (sym (eq-eqb turn 1 mine)) (omega arith))

first_more : (ws : List ℕ) (x y : ℕ) → first_or (ws ++ x ∷ []) y ≡ first_or ws x
first_more [] x y = refl
first_more (w ∷ ws) x y = refl

-- one FULL word more
ascends_more : (ws : List ℕ) (x y : ℕ) → Ascends ws x → x % 4 ≡ 1 → x < y → Ascends (ws ++ x ∷ []) y
ascends_more [] x y up full less = (full, less, tt)
ascends_more (w ∷ ws) x y up full less = (up.0, subst (λ (n : ℕ). w < n) (sym (first_more ws x y)) up.1, ascends_more ws x y up.2 full less)

module _ {M : Type 0} where
  -- what a call has seen
  pub looked_first : (v w : View M) (k x : ℕ) → w ≡ after_look v k x → HasLooked v w k x
  looked_first v w k x is = ([], tt, is ∙ ap (λ l. after_look record v { seen = l } k x) (sym (append-nil v.seen)))

  -- the word that was seen last is FULL, so it is one of those seen
  pub seen_full : (v w : View M) (k x : ℕ) → HasLooked v w k x → x % 4 ≡ 1 → (before : List ℕ) × Ascends before x × (w ≡ seeing v k (before ++ x ∷ []))
  seen_full v w k x s full = (
    s.0,
    s.1,
    s.2 ∙ ap (λ l. record (after_look (seeing v k s.0) k x) { noted = l }) (full_unnoted v.turn k x v.noted full)
        ∙ ap (λ l. record v { seen = l }) (append_assoc v.seen (at_slot k s.0) ((k, x) ∷ []) ∙ ap (λ l. v.seen ++ l) (sym (at_slot-append k s.0 x))),
  )

  pub looked_more : (v w u : View M) (k x y : ℕ) → HasLooked v w k x → x % 4 ≡ 1 → x < y → u ≡ after_look w k y → HasLooked v u k y
  looked_more v w u k x y s full less is = let f = seen_full v w k x s full in (f.0 ++ x ∷ [], ascends_more f.0 x y f.1 full less, is ∙ ap (λ z. after_look z k y) f.2)

  pub looked_claimed : (v w u : View M) (k x r : ℕ) → HasLooked v w k x → x ≡ 4 * r + 1 → u ≡ after_claim w k r → HasClaimed v u k r
  looked_claimed v w u k x r s of_round is = let f = seen_full v w k x s (omega arith) in
      (f.0, subst (Ascends f.0) of_round f.1, is ∙ ap (λ z. after_claim z k r) f.2 ∙ ap (λ (n : ℕ). after_claim (seeing v k (f.0 ++ n ∷ [])) k r) of_round)

  pub looked_in : (v w : View M) (k x : ℕ) → HasLooked v w k x → 0 < times k x w.seen
  looked_in v w k x s = let e = ap (λ (z : View M). times k x z.seen) s.2 in let t = times-append k x (v.seen ++ at_slot k s.0) ((k, x) ∷ []) in omega arith

  pub looked_numbers : (v w : View M) (k x : ℕ) → HasLooked v w k x → w.numbers ≡ v.numbers
  looked_numbers v w k x s = ap (λ (z : View M). z.numbers) s.2

  pub looked_count : (v w : View M) (k x : ℕ) → HasLooked v w k x → w.count ≡ v.count
  looked_count v w k x s = ap (λ (z : View M). z.count) s.2

  pub looked_name : (v w : View M) (k x : ℕ) → HasLooked v w k x → w.name ≡ v.name
  looked_name v w k x s = ap (λ (z : View M). z.name) s.2

  pub looked_claim : (v w : View M) (k x : ℕ) → HasLooked v w k x → w.claimed ≡ v.claimed
  looked_claim v w k x s = ap (λ (z : View M). z.claimed) s.2

  pub looked_turn : (v w : View M) (k x : ℕ) → HasLooked v w k x → w.turn ≡ v.turn
  looked_turn v w k x s = ap (λ (z : View M). z.turn) s.2

  pub looked_hand : (v w : View M) (k x : ℕ) → HasLooked v w k x → w.hand ≡ v.hand
  looked_hand v w k x s = ap (λ (z : View M). z.hand) s.2

-- a chair with a number isn't spent
pub sits : {xs : List ℕ} {n : ℕ} → xs ≡ n ∷ [] → xs ≢ []
sits {n = n} e none_left = let z : n ∷ [] ≡ [] = sym e ∙ none_left in cc
