-- Chairs that come and go.
use Rattle.std.proofs.Common.{◌≡◌, ◌≢◌, ℕ, zero, suc, ◌+◌, ◌*◌, ◌<◌, ◌≤◌, List, [], ◌∷◌, ◌++◌, length, take, drop, slice_get, set, get_or, refl, sym, ap, ◌∙◌, subst, ⊎_elim, arith, All, IfSome, Some, None}
use Rattle.std.proofs.lemmas.Option.{none-some}
use mathlib.Core.Option.{some, some-injective, some-ne-none}
use lib.ListN.{get_elem?}
use Rattle.atomic_table.specs.Table.{Splits, Joins}
use Rattle.atomic_table.proofs.Lists.{at_set, at_snoc, set_else}
use Rattle.shim_base.specs.declared.named.Named.{Ghosts}
use Rattle.shim_board.specs.declared.board.Board.{Board}
use Rattle.shim_board.specs.declared.chair.Chair.{Chair}
use Rattle.shim_board.specs.declared.view.View.{View}
use Rattle.shim_board.specs.Counting.{one_below, times, occurs, one_if, Each}
use Rattle.shim_base.specs.Lists.{one_at, total}
use Rattle.shim_board.specs.Views.{fresh, spent, after_split, split_off, after_join, carried, out_claimed, out_turn}
use Rattle.shim_board.specs.Chairs.{chairs_known, view_of, chairs_counted, IsIdleOn, AreAll}
use Rattle.shim_board.specs.Closing.{SameLists, HasAllOf}
use Rattle.shim_board.specs.Kept.{word_of, chair_count, CountsKept, IsEmptyOrBack, in_hand, SlotFits, Kept, HoldsNothing}
use Rattle.shim_board.proofs.Totals.{all-each, each-add, each-remove, total-remove, total-set, total-snoc, times-append, occurs-append}

long : (xs ys : List ℕ) → xs ≢ [] → xs ++ ys ≢ []
long [] ys h e = h refl
long (x ∷ xs) ys h e = absurd (cc)

module _ {M : Type 0} where
  pub count_first : (views : List (View M)) (v : View M) → get_elem? views 0 ≡ some v → chair_count views ≡ v.count
  count_first [] v e = absurd (some-ne-none v (sym e))
  count_first (x ∷ xs) v e = ap (λ (u : View M). u.count) (some-injective x v e)

  count_forked : (views : List (View M)) (v l r : View M) → get_elem? views 0 ≡ some v → chair_count (set views 0 l ++ r ∷ []) ≡ l.count
  count_forked [] v l r e = absurd (some-ne-none v (sym e))
  count_forked (x ∷ xs) v l r e = refl

  module _ (views : List (View M)) (id : ℕ) (v l r : View M) (at : get_elem? views id ≡ some v) where
    forked : (f : View M → ℕ) → f l ≡ f v → total f (set views id l ++ r ∷ []) ≡ total f views + f r
    forked f e = let a = total-set f views id v l at in let b = total-snoc f (set views id l) r in omega arith

    each_forked : (P : View M → Type 0) → ((j : ℕ) (u : View M) → get_elem? views j ≡ some u → P u) → P l → P r → (j : ℕ) (u : View M) → get_elem? (set views id l ++ r ∷ []) j ≡ some u → P u
    each_forked P was left right j u e = ⊎_elim
        (λ b. ⊎_elim (λ (t : (j ≡ id) × (l ≡ u)). subst P t.1 left) (λ (t : (j ≢ id) × (get_elem? views j ≡ some u)). was j u t.1) (at_set views id j l u b))
        (λ (same : r ≡ u). subst P same right)
        (at_snoc (set views id l) r u j e)

  pub forks : (words : List ℕ) (views : List (View M)) → CountsKept words views → (v : View M) → get_elem? views 0 ≡ some v → v.numbers ≢ [] → CountsKept words (set views 0 (after_split v) ++ split_off v ∷ [])
  forks words views r v at sits = let l = after_split v in let n = split_off v in record {
    puts = λ k q. forked views 0 v l n at (λ u. times k q u.puts) refl ∙ (let a = r.puts k q in omega arith);
    claims = λ k q. forked views 0 v l n at (λ u. times k q u.claims) refl ∙ (let a = r.claims k q in omega arith);
    collections = λ k q. forked views 0 v l n at (λ u. times k q u.collections) refl ∙ (let a = r.collections k q in omega arith);
    claimed = λ k q. forked views 0 v l n at (λ u. one_if k q u.claimed) refl ∙ (let a = r.claimed k q in omega arith);
    owned = λ j u e k q. each_forked views 0 v l n at (λ u. u.claimed ≡ Some (k, q) → 0 < times k q u.claims) (λ i a b. r.owned i a b k q) (r.owned 0 v at k q) (λ h. absurd (none-some _ h)) j u e;
    turns = forked views 0 v l n at (λ u. u.turn) refl ∙ (let a = r.turns in omega arith);
    turn = r.turn;
    bounded = r.bounded;
    noted = λ j u e k q. each_forked views 0 v l n at (λ u. 0 < times k q u.noted → (u.turn ≡ 1) × (word_of words k ≡ 4 * q)) (λ i a b. r.noted i a b k q) (r.noted 0 v at k q) (λ h. absurd (omega arith)) j u e;
    hand = λ j u e k x. each_forked views 0 v l n at (λ u. u.hand ≡ Some (k, x) → (u.turn ≡ 1) × (word_of words k ≡ x) × IsEmptyOrBack x) (λ i a b. r.hand i a b k x) (r.hand 0 v at k x) (λ h. absurd (none-some _ h)) j u e;
    seen = λ j u e k x. each_forked views 0 v l n at (λ u. 0 < times k x u.seen → x ≤ word_of words k) (λ i a b. r.seen i a b k x) (r.seen 0 v at k x) (λ h. absurd (omega arith)) j u e;
    numbers = λ x. forked views 0 v l n at (λ u. occurs x u.numbers) refl ∙ (let a = r.numbers x in let b = count_first views v at in let c = count_forked views v l n at in omega arith);
    unspent = λ j u e. each_forked views 0 v l n at (λ u. u.numbers ≡ [] → u ≡ spent) r.unspent (λ h. absurd (sits h)) (λ h. absurd (cc)) j u e;
  }

  -- a chair takes in another
  module _ (views : List (View M)) (id other : ℕ) (v w b n : View M) (at : get_elem? views id ≡ some v) (apart : other ≢ id) (there : get_elem? (set views id b) other ≡ some w) where
    glued : (f : View M → ℕ) → f b ≡ f v + f w → f n ≡ 0 → total f (set (set views id b) other n) ≡ total f views
    glued f e z = let a = total-set f views id v b at in let c = total-set f (set views id b) other w n there in omega arith

    was_there : get_elem? views other ≡ some w
    was_there = sym (set_else views id other b apart) ∙ there

    each_glued : (P : View M → Type 0) → ((j : ℕ) (u : View M) → get_elem? views j ≡ some u → P u) → P b → P n → (j : ℕ) (u : View M) → get_elem? (set (set views id b) other n) j ≡ some u → P u
    each_glued P was left right j u e = ⊎_elim
        (λ (t : (j ≡ other) × (n ≡ u)). subst P t.1 right)
        (λ (t : (j ≢ other) × (get_elem? (set views id b) j ≡ some u)). ⊎_elim (λ (s : (j ≡ id) × (b ≡ u)). subst P s.1 left) (λ (s : (j ≢ id) × (get_elem? views j ≡ some u)). was j u s.1) (at_set views id j b u t.1))
        (at_set (set views id b) other j n u e)

  count_glued : (views : List (View M)) (other : ℕ) (v b n : View M) → get_elem? views 0 ≡ some v → other ≢ 0 → chair_count (set (set views 0 b) other n) ≡ b.count
  count_glued [] other v b n e apart = absurd (some-ne-none v (sym e))
  count_glued (x ∷ xs) zero v b n e apart = absurd (apart refl)
  count_glued (x ∷ xs) (suc other) v b n e apart = refl

  pub joins : (words : List ℕ) (views : List (View M)) → CountsKept words views → (other : ℕ) (v w : View M) → get_elem? views 0 ≡ some v → other ≢ 0 → get_elem? (set views 0 (after_join v w)) other ≡ some w → v.numbers ≢ []
      → w.turn ≡ 0 → w.claimed ≡ None → CountsKept words (set (set views 0 (after_join v w)) other spent)
  joins words views r other v w at apart there sits idle free = let b = after_join v w in let n : View M = spent in let S = glued views 0 other v w b n at apart there in let E = each_glued views 0 other v w b n at apart there in record {
    puts = λ k q. S (λ u. times k q u.puts) (times-append k q v.puts w.puts) refl ∙ r.puts k q;
    claims = λ k q. S (λ u. times k q u.claims) (times-append k q v.claims w.claims) refl ∙ r.claims k q;
    collections = λ k q. S (λ u. times k q u.collections) (times-append k q v.collections w.collections) refl ∙ r.collections k q;
    claimed = λ k q. S (λ u. one_if k q u.claimed) (let h : one_if k q w.claimed ≡ 0 = ap (one_if k q) free in omega arith) refl ∙ r.claimed k q;
    owned = λ j u e k q. E (λ u. u.claimed ≡ Some (k, q) → 0 < times k q u.claims) (λ i a c. r.owned i a c k q) (λ h. let o = r.owned 0 v at k q h in let t = times-append k q v.claims w.claims in omega arith) (λ h. absurd (none-some _ h)) j u e;
    turns = S (λ u. u.turn) (omega arith) refl ∙ r.turns;
    turn = r.turn;
    bounded = r.bounded;
    noted = λ j u e k q. E (λ u. 0 < times k q u.noted → (u.turn ≡ 1) × (word_of words k ≡ 4 * q)) (λ i a c. r.noted i a c k q) (r.noted 0 v at k q) (λ h. absurd (omega arith)) j u e;
    hand = λ j u e k x. E (λ u. u.hand ≡ Some (k, x) → (u.turn ≡ 1) × (word_of words k ≡ x) × IsEmptyOrBack x) (λ i a c. r.hand i a c k x) (r.hand 0 v at k x) (λ h. absurd (none-some _ h)) j u e;
    seen = λ j u e k x. E (λ u. 0 < times k x u.seen → x ≤ word_of words k) (λ i a c. r.seen i a c k x) (r.seen 0 v at k x) (λ h. absurd (omega arith)) j u e;
    numbers = λ x. S (λ u. occurs x u.numbers) (occurs-append x v.numbers w.numbers) refl ∙ r.numbers x ∙ ap (one_below x) (count_first views v at ∙ sym (count_glued views other v b n at apart));
    unspent = λ j u e. E (λ u. u.numbers ≡ [] → u ≡ spent) r.unspent (λ h. absurd (long v.numbers w.numbers sits h)) (λ h. refl) j u e;
  }

module _ {T N M : Type 0} (label : N → M) (board : M) where
  pub splits_at : (v : View M) → v.numbers ≢ [] → Splits (Kept {T = T} label board) 0 v (after_split v) (split_off v)
  splits_at v sits s r at = (
    forks s.words s.views r.0 v at sits,
    record {
      one_each = r.1.one_each;
      slots = λ k i. subst (λ (o : ℕ). SlotFits {T = T} {N = N} (word_of s.words k) o (get_elem? s.homes (k + 1))) (sym (forked s.views 0 v (after_split v) (split_off v) at (λ u. in_hand k u.hand) refl ∙ (omega arith))) (r.1.slots k i);
      net = r.1.net;
      net_out = r.1.net_out;
      names = λ j u e. each_forked s.views 0 v (after_split v) (split_off v) at (λ u. u.numbers ≢ [] → u.name ≡ Some board) r.1.names (λ h. r.1.names 0 v at sits) (λ h. r.1.names 0 v at sits) j u e;
    },
  )

  pub joins_at : (other : ℕ) (v w : View M) → v.numbers ≢ [] → w.turn ≡ 0 → w.claimed ≡ None → w.hand ≡ None → Joins (Kept {T = T} label board) 0 v other w (after_join v w) spent
  joins_at other v w sits idle free empty s r at apart there = (
    joins s.words s.views r.0 other v w at apart there sits idle free,
    record {
      one_each = r.1.one_each;
      slots = λ k i. subst (λ (o : ℕ). SlotFits {T = T} {N = N} (word_of s.words k) o (get_elem? s.homes (k + 1)))
          (sym (glued s.views 0 other v w (after_join v w) spent at apart there (λ u. in_hand k u.hand) (let h : in_hand k w.hand ≡ 0 = ap (in_hand k) empty in omega arith) refl)) (r.1.slots k i);
      net = r.1.net;
      net_out = r.1.net_out;
      names = λ j u e. each_glued s.views 0 other v w (after_join v w) spent at apart there (λ u. u.numbers ≢ [] → u.name ≡ Some board) r.1.names (λ h. r.1.names 0 v at sits) (λ h. absurd (h refl)) j u e;
    },
  )

  pub splits_first : (id n : ℕ) (v : View M) → id ≡ 0 → v ≡ fresh (Some board) 0 n → Splits (Kept {T = T} label board) id v (after_split v) (split_off v)
  splits_first id n v zero_is is = subst (λ (j : ℕ). Splits (Kept {T = T} label board) j v (after_split v) (split_off v)) (sym zero_is) (splits_at v (λ e. let z : 0 ∷ [] ≡ [] = ap (λ (u : View M). u.numbers) (sym is) ∙ e in cc))

  pub joins_first : (id other : ℕ) (v w : View M) → id ≡ 0 → v.numbers ≢ [] → HoldsNothing w → Joins (Kept {T = T} label board) id v other w (after_join v w) spent
  joins_first id other v w zero_is sits rests = subst (λ (j : ℕ). Joins (Kept {T = T} label board) j v other w (after_join v w) spent) (sym zero_is) (joins_at other v w sits rests.0 rests.1 rests.2)

-- the chairs but chair 0 know no count
pub counts_no_more : (chairs number : ℕ) → 0 < number → chairs_known chairs number ≡ 0
counts_no_more chairs zero above = absurd (omega arith)
counts_no_more chairs (suc number) above = refl

module _ {T N M : Type 0} where
  pub nothing_out : (v : View M) → HoldsNothing v → carried {T = T} {N = N} v ≡ []
  nothing_out v r = ap (λ o. out_claimed o (out_turn v.turn)) r.1 ∙ ap out_turn r.0

module _ {M : Type 0} where
  pub joined_sits : (v w u : View M) → u ≡ after_join v w → v.numbers ≢ [] → u.numbers ≢ []
  joined_sits v w u is sits e = long v.numbers w.numbers sits (sym (ap (λ (z : View M). z.numbers) is) ∙ e)

  pub joined_rests : (v w u : View M) → u ≡ after_join v w → HoldsNothing v → HoldsNothing u
  joined_rests v w u is r = (ap (λ (z : View M). z.turn) is ∙ r.0, ap (λ (z : View M). z.claimed) is ∙ r.1, ap (λ (z : View M). z.hand) is ∙ r.2)

  pub joined_numbers : {C : Type 0} (f : C → View M) (v u : View M) (c : C) (cs all : List C) → u ≡ after_join v (f c) → all ≡ cs ++ c ∷ [] → ((x : ℕ) → occurs x v.numbers + total (λ c. occurs x (f c).numbers) all ≡ one_below x v.count)
      → (x : ℕ) → occurs x u.numbers + total (λ c. occurs x (f c).numbers) cs ≡ one_below x u.count
  joined_numbers f v u c cs all is items h x = let a = h x in let b = total-snoc (λ c. occurs x (f c).numbers) cs c in let d = ap (λ (z : View M). occurs x z.numbers) is in let e = occurs-append x v.numbers (f c).numbers in
      let i = ap (total (λ c. occurs x (f c).numbers)) items in let n = ap (λ (z : View M). z.count) is in let o = ap (one_below x) n in omega arith

  module _ {C : Type 0} (f : C → View M) (P : C → Type 0) (cs all : List C) (c : C) (n : ℕ) (is : all ≡ cs ++ c ∷ []) (here : P c) (each : Each P cs)
      (numbers : (x : ℕ) → one_at x 0 + total (λ c. occurs x (f c).numbers) cs ≡ one_below x n) (none_told : total (λ c. (f c).count) cs ≡ 0) where
    -- one chair more, with the next number
    pub dealt_more : (f c).numbers ≡ n ∷ [] → (f c).count ≡ 0 → Each P all × ((x : ℕ) → one_at x 0 + total (λ c. occurs x (f c).numbers) all ≡ one_below x (n + 1)) × (total (λ c. (f c).count) all ≡ 0)
    dealt_more own count = (
      subst (Each P) (sym is) (each-add P cs c each here),
      λ x. ap (λ l. one_at x 0 + total (λ c. occurs x (f c).numbers) l) is ∙ (let a = numbers x in let b = total-snoc (λ c. occurs x (f c).numbers) cs c in let d = ap (occurs x) own in omega arith),
      ap (total (λ c. (f c).count)) is ∙ (let t = total-snoc (λ c. (f c).count) cs c in omega arith),
    )

    -- with chair 0, which knows how many there are, these are all
    pub dealt_all : 0 < n → (f c).numbers ≡ 0 ∷ [] → (f c).count ≡ n → Each P all × (0 < total (λ c. (f c).count) all) × ((x : ℕ) → total (λ c. occurs x (f c).numbers) all ≡ one_below x (total (λ c. (f c).count) all))
    dealt_all some_chairs own count = let t = total-snoc (λ c. (f c).count) cs c in let count_is : total (λ c. (f c).count) all ≡ n = ap (total (λ c. (f c).count)) is ∙ omega arith in (
      subst (Each P) (sym is) (each-add P cs c each here),
      omega arith,
      λ x. ap (total (λ c. occurs x (f c).numbers)) is ∙ (let a = numbers x in let b = total-snoc (λ c. occurs x (f c).numbers) cs c in let d = ap (occurs x) own in omega arith) ∙ ap (one_below x) (sym count_is),
    )

  -- chairs that aren't chair 0 know no count
  others_counted : {C : Type 0} (f : C → View M) → ((d : C) → occurs 0 (f d).numbers ≡ 0 → (f d).count ≡ 0) → (ys : List C) → total (λ d. occurs 0 (f d).numbers) ys ≡ 0 → total (λ d. (f d).count) ys ≡ 0
  others_counted f h [] e = refl
  others_counted f h (y ∷ ys) e = let a = h y (omega arith) in let b = others_counted f h ys (omega arith) in omega arith

  -- chair 0 is taken out of all chairs
  pub first_out : {C : Type 0} (f : C → View M) (P : C → Type 0) (xs ys : List C) (at n : ℕ) (c : C) → ((d : C) → occurs 0 (f d).numbers ≡ 0 → (f d).count ≡ 0) → at < length xs → ys ≡ take at xs ++ drop (at + 1) xs → c ≡ get_or xs at c → occurs 0 (f c).numbers ≡ 1
      → Each P xs → n ≡ total (λ d. (f d).count) xs → ((x : ℕ) → total (λ d. occurs x (f d).numbers) xs ≡ one_below x n)
      → Each P ys × P c × ((x : ℕ) → occurs x (f c).numbers + total (λ d. occurs x (f d).numbers) ys ≡ one_below x (f c).count) × ((h : C → ℕ) → total h ys + h c ≡ total h xs)
  first_out f P xs ys at n c know inside rest is first each counts all = let split = each-remove P xs at c inside each in
      let left : (h : _ → ℕ) → total h ys + h c ≡ total h xs = λ h. subst (λ (z : List _ × _). total h z.0 + h z.1 ≡ total h xs) (λ i. (sym rest i, sym is i)) (total-remove h xs at c inside) in
      let none_first : total (λ d. occurs 0 (f d).numbers) ys ≡ 0 = let a = left (λ d. occurs 0 (f d).numbers) in let b = all 0 in omega arith in
      let count_is : n ≡ (f c).count = let a = left (λ d. (f d).count) in let b = others_counted f know ys none_first in omega arith in
      (subst (Each P) (sym rest) split.0, subst P (sym is) split.1, λ x. (let a = left (λ d. occurs x (f d).numbers) in let b = all x in omega arith) ∙ ap (one_below x) count_is, left)

pub get_some : {A : Type 0} (xs : List A) (at : ℕ) (d : A) → at < length xs → slice_get xs at ≡ Some (get_or xs at d)
get_some [] at d inside = absurd (omega arith)
get_some (x ∷ xs) zero d inside = refl
get_some (x ∷ xs) (suc at) d inside = get_some xs at d (omega arith)

module _ {T N M : Type 0} {g : Ghosts N M} where
  -- chair 0 is taken out of all chairs, at the place at which it was found
  pub first_taken : (b : Board T N M) (xs items ys : List (Chair T N M g)) (at : ℕ) (c : Chair T N M g) → items ≡ xs → at < length items → IfSome (slice_get items at) (λ d. d.number ≡ 0)
      → c ≡ get_or items at c → ys ≡ take at items ++ drop (at + 1) items → All (IsIdleOn b) xs → AreAll xs
      → Each (IsIdleOn b) ys × IsIdleOn b c × ((x : ℕ) → occurs x (view_of c).numbers + total (λ d. occurs x (view_of d).numbers) ys ≡ one_below x (view_of c).count) × ((h : Chair T N M g → ℕ) → total h ys + h c ≡ total h xs)
  first_taken b xs items ys at c same inside first is rest idle all = let long = ap length same in
      let zero_is : c.number ≡ 0 = subst (λ o. IfSome o (λ d. d.number ≡ 0)) (get_some items at c inside ∙ ap Some (sym is)) first in let own = ap (occurs 0) c.numbered in
      first_out (λ d. view_of d) (IsIdleOn b) xs ys at (chairs_counted xs) c (λ d none_here. d.counts (λ z. let e = ap (occurs 0) d.numbered in omega arith)) (omega arith)
      (rest ∙ ap (λ l. take at l ++ drop (at + 1) l) same) (is ∙ ap (λ l. get_or l at c) same) (omega arith) (all-each _ _ idle) refl all.1

  -- the lists of the chairs that chair 0 takes in
  pub joined_lists : (v u w : View M) (c : Chair T N M g) (cs all ds : List (Chair T N M g)) → u ≡ after_join v (view_of c) → all ≡ cs ++ c ∷ [] → SameLists v all w ds → SameLists u cs w ds
  joined_lists v u w c cs all ds is items h = (
    (λ k r. let a = h.0 k r in let b = total-snoc (λ d. times k r (view_of d).puts) cs c in let t = times-append k r v.puts (view_of c).puts in
        let n = ap (λ (z : View M). times k r z.puts) is in let i = ap (total (λ d. times k r (view_of d).puts)) items in omega arith),
    (λ k r. let a = h.1 k r in let b = total-snoc (λ d. times k r (view_of d).claims) cs c in let t = times-append k r v.claims (view_of c).claims in
        let n = ap (λ (z : View M). times k r z.claims) is in let i = ap (total (λ d. times k r (view_of d).claims)) items in omega arith),
    (λ k r. let a = h.2 k r in let b = total-snoc (λ d. times k r (view_of d).collections) cs c in let t = times-append k r v.collections (view_of c).collections in
        let n = ap (λ (z : View M). times k r z.collections) is in let i = ap (total (λ d. times k r (view_of d).collections)) items in omega arith),
  )

  -- chair 0 has taken in all the others
  pub has_all_counts : (v : View M) (c : Chair T N M g) (ys xs : List (Chair T N M g)) → SameLists v [] (view_of c) ys → ((h : Chair T N M g → ℕ) → total h ys + h c ≡ total h xs) → HoldsNothing v → HasAllOf v xs
  has_all_counts v c ys xs same left rests = record {
    puts = λ k r. let a = same.0 k r in let b = left (λ d. times k r (view_of d).puts) in omega arith;
    claims = λ k r. let a = same.1 k r in let b = left (λ d. times k r (view_of d).claims) in omega arith;
    collections = λ k r. let a = same.2 k r in let b = left (λ d. times k r (view_of d).collections) in omega arith;
    idle = rests;
  }
