-- Of how many of some states a test is true.
use Rattle.std.proofs.Common.{◌≡◌, ℕ, suc, ◌+◌, ◌≤◌, Bool, true, false, cond, List, [], ◌∷◌, ◌++◌, inl, inr, ap, refl, arith}
use Rattle.shim_local.specs.Laws.{AllOf, AnyOf, how_many}
use Rattle.shim_semantics.specs.Nodes.{Node, Nodes, Live, Forked, Ended, Dead, no_node, node_and, state, states, everyone, everyone_of}
use Rattle.shim_base.proofs.Facts.{true_or_false}

pub clash : {A : Type 0} (b : Bool) → b ≡ true → b ≡ false → A
clash true y n = absurd cc
clash false y n = absurd cc

abbrev pub bit : Bool → ℕ
bit true = 1
bit false = 0

one_more : (b : Bool) (n : ℕ) → cond b (suc n) n ≡ bit b + n
one_more true n = omega arith
one_more false n = omega arith

sum_with : (whole b rest front ys one : ℕ) → whole ≡ b + rest → rest ≡ front + ys → one ≡ b + front → whole ≡ one + ys
sum_with whole b rest front ys one e f g = omega arith

-- of two lists the first is no more, and one stands before each
more_with : (whole part b n k : ℕ) → whole ≡ b + n → part ≡ b + k → k ≤ n → part ≤ whole
more_with whole part b n k e f h = omega arith

pub no_less : (n : ℕ) → n ≤ n
no_less n = omega arith

pub no_less_than : (m n k : ℕ) → k ≤ n → n ≤ m → k ≤ m
no_less_than m n k e f = omega arith

one_within : (a b : ℕ) → a ≡ 1 → 1 ≤ b → a ≤ b
one_within a b e h = omega arith

none_within : (a b : ℕ) → a ≡ 0 → a ≤ b
none_within a b e = omega arith

bit_within : (whole b n : ℕ) → whole ≡ b + n → b ≤ whole
bit_within whole b n e = omega arith

bit_counts : (whole b n : ℕ) → whole ≡ b + n → b ≡ 1 → 1 ≤ whole
bit_counts whole b n e f = omega arith

tail_counts : (whole b n : ℕ) → whole ≡ b + n → n ≤ whole
tail_counts whole b n e = omega arith

sum_at_most : (a b x y whole : ℕ) → whole ≡ a + b → x ≤ a → y ≤ b → x + y ≤ whole
sum_at_most a b x y whole e f g = omega arith

part_at_most : (part x y whole : ℕ) → part ≡ x + y → x + y ≤ whole → part ≤ whole
part_at_most part x y whole e f = omega arith

none_more : (whole b n : ℕ) → whole ≡ b + n → b ≡ 0 → n ≡ 0 → whole ≡ 0
none_more whole b n e f g = omega arith

module _ {S : Type 0} (f : S → Bool) where
  pub count_one : (l : S) (ls : List S) → how_many f (l ∷ ls) ≡ bit (f l) + how_many f ls
  count_one l ls = one_more (f l) (how_many f ls)

  pub count_both : (xs ys : List S) → how_many f (xs ++ ys) ≡ how_many f xs + how_many f ys
  count_both [] ys = omega arith
  count_both (x ∷ xs) ys =
      sum_with (how_many f ((x ∷ xs) ++ ys)) (bit (f x)) (how_many f (xs ++ ys)) (how_many f xs) (how_many f ys) (how_many f (x ∷ xs))
      (count_one x (xs ++ ys)) (count_both xs ys) (count_one x xs)

  pub one_at_most : (l : S) → how_many f (l ∷ []) ≤ 1
  one_at_most l = elim (f l) as (λ b. cond b (suc 0) 0 ≤ 1) [ true ↦ omega arith | false ↦ omega arith ]

  -- a state of which it is true counts
  pub counts : (l : S) (ls : List S) → f l ≡ true → 1 ≤ how_many f (l ∷ ls)
  counts l ls y = bit_counts (how_many f (l ∷ ls)) (bit (f l)) (how_many f ls) (count_one l ls) (ap bit y)

  pub rest_counts : (l : S) (ls : List S) → how_many f ls ≤ how_many f (l ∷ ls)
  rest_counts l ls = tail_counts (how_many f (l ∷ ls)) (bit (f l)) (how_many f ls) (count_one l ls)

  pub any_counts : (ls : List S) → AnyOf (λ k. f k ≡ true) ls → 1 ≤ how_many f ls
  any_counts [] h = absurd h
  any_counts (k ∷ ks) (inl y) = counts k ks y
  any_counts (k ∷ ks) (inr y) = no_less_than (how_many f (k ∷ ks)) (how_many f ks) 1 (any_counts ks y) (rest_counts k ks)

  -- one of which it is false doesn't
  pub uncounted : (l : S) (ls : List S) → f l ≡ false → how_many f ls ≡ 0 → how_many f (l ∷ ls) ≡ 0
  uncounted l ls n e = none_more (how_many f (l ∷ ls)) (bit (f l)) (how_many f ls) (count_one l ls) (ap bit n) e

  -- one state is no more than what counts where it is true of it
  pub at_most : (m : S) (n : ℕ) → (f m ≡ true → 1 ≤ n) → how_many f (m ∷ []) ≤ n
  at_most m n h = elim (true_or_false (f m)) [
    | inl y ↦ one_within (how_many f (m ∷ [])) n (ap (λ b. cond b (suc 0) 0) y) (h y)
    | inr w ↦ none_within (how_many f (m ∷ [])) n (ap (λ b. cond b (suc 0) 0) w)
  ]

  pub one_for_one : (l m : S) → (f m ≡ true → f l ≡ true) → how_many f (m ∷ []) ≤ how_many f (l ∷ [])
  one_for_one l m h = at_most m (how_many f (l ∷ [])) (λ y. counts l [] (h y))

  -- where it is true of none
  pub none_count : (b : Bool) (ls : List S) → b ≡ false → AllOf (λ k. f k ≡ true → b ≡ true) ls → how_many f ls ≡ 0
  none_count b [] n h = refl
  none_count b (k ∷ ks) n h = elim (true_or_false (f k)) [
    | inl y ↦ clash b (h.0 y) n
    | inr w ↦ uncounted k ks w (none_count b ks n h.1)
  ]

  -- the same before each of two lists
  pub one_before : (l : S) (xs ys : List S) → how_many f xs ≤ how_many f ys → how_many f (l ∷ xs) ≤ how_many f (l ∷ ys)
  one_before l xs ys h = more_with (how_many f (l ∷ ys)) (how_many f (l ∷ xs)) (bit (f l)) (how_many f ys) (how_many f xs) (count_one l ys) (count_one l xs) h

  pub both_less : (xs ys us ws : List S) → how_many f us ≤ how_many f xs → how_many f ws ≤ how_many f ys → how_many f (us ++ ws) ≤ how_many f (xs ++ ys)
  both_less xs ys us ws h k =
      part_at_most (how_many f (us ++ ws)) (how_many f us) (how_many f ws) (how_many f (xs ++ ys)) (count_both us ws)
      (sum_at_most (how_many f xs) (how_many f ys) (how_many f us) (how_many f ws) (how_many f (xs ++ ys)) (count_both xs ys) h k)

  own_bit : (l : S) (ls : List S) → bit (f l) ≤ how_many f (l ∷ ls)
  own_bit l ls = bit_within (how_many f (l ∷ ls)) (bit (f l)) (how_many f ls) (count_one l ls)

  state_bit : (k : Node S) → bit (f (state k)) ≤ how_many f (everyone k)
  state_bit (Live l) = own_bit l []
  state_bit (Forked l ks) = own_bit l (everyone_of ks)
  state_bit (Ended l) = own_bit l []
  state_bit (Dead l x) = own_bit l []

  -- the states of the children are among all below
  pub states_count : (ks : Nodes S) → how_many f (states ks) ≤ how_many f (everyone_of ks)
  states_count no_node = no_less 0
  states_count (node_and k ks) =
      part_at_most (how_many f (state k ∷ states ks)) (bit (f (state k))) (how_many f (states ks)) (how_many f (everyone k ++ everyone_of ks)) (count_one (state k) (states ks))
      (sum_at_most (how_many f (everyone k)) (how_many f (everyone_of ks)) (bit (f (state k))) (how_many f (states ks)) (how_many f (everyone k ++ everyone_of ks)) (count_both (everyone k) (everyone_of ks)) (state_bit k) (states_count ks))
