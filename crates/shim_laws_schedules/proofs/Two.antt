-- Two processes of which a test is true count as two.
use Rattle.std.proofs.Common.{◌≡◌, ◌≤◌, ◌+◌, ℕ, zero, suc, Bool, true, Some, List, [], ◌∷◌, refl, ap, ◌∙◌, arith}
use Rattle.shim_local.specs.Laws.{how_many}
use Rattle.shim_semantics.specs.Nodes.{Node, Nodes, Live, Forked, Ended, Dead, no_node, node_and, state, everyone, everyone_of}
use Rattle.shim_semantics.specs.Places.{at, child_at}
use Rattle.shim_semantics.proofs.HowMany.{bit, no_less_than, count_one, count_both, counts, rest_counts}
use Rattle.shim_base.proofs.Facts.{some_same, none_some}

first_counts : (whole x y n : ℕ) → whole ≡ x + y → n ≤ x → n ≤ whole
first_counts whole x y n e f = omega arith

second_counts : (whole x y n : ℕ) → whole ≡ x + y → n ≤ y → n ≤ whole
second_counts whole x y n e f = omega arith

one_and_more : (whole x y : ℕ) → whole ≡ x + y → x ≡ 1 → 1 ≤ y → 2 ≤ whole
one_and_more whole x y e f g = omega arith

one_and_one : (whole x y : ℕ) → whole ≡ x + y → 1 ≤ x → 1 ≤ y → 2 ≤ whole
one_and_one whole x y e f g = omega arith

-- the branches with the first one counted from one place further on
abbrev pub bump : List ℕ → List ℕ
bump [] = []
bump (i ∷ p) = suc i ∷ p

module _ {S : Type 0} (f : S → Bool) where
  abbrev count : Node S → ℕ
  count n = how_many f (everyone n)

  abbrev count_of : Nodes S → ℕ
  count_of ks = how_many f (everyone_of ks)

  here_counts : (n : Node S) → f (state n) ≡ true → 1 ≤ count n
  here_counts (Live l) h = counts f l [] h
  here_counts (Ended l) h = counts f l [] h
  here_counts (Dead l x) h = counts f l [] h
  here_counts (Forked l ks) h = counts f l (everyone_of ks) h

  mutual
    -- one of which it is true counts
    pub one_counts : (p : List ℕ) (n m : Node S) → at p n ≡ Some m → f (state m) ≡ true → 1 ≤ count n
    one_counts [] n m e h = here_counts n (ap (λ z. f (state z)) (some_same n m e) ∙ h)
    one_counts (i ∷ p) (Live l) m e h = none_some m e
    one_counts (i ∷ p) (Ended l) m e h = none_some m e
    one_counts (i ∷ p) (Dead l x) m e h = none_some m e
    one_counts (i ∷ p) (Forked l ks) m e h = no_less_than (count (Forked l ks)) (count_of ks) 1 (one_counts_in i p ks m e h) (rest_counts f l (everyone_of ks))

    one_counts_in : (i : ℕ) (p : List ℕ) (ks : Nodes S) (m : Node S) → child_at i p ks ≡ Some m → f (state m) ≡ true → 1 ≤ count_of ks
    one_counts_in i p no_node m e h = none_some m e
    one_counts_in zero p (node_and k ks) m e h = first_counts (count_of (node_and k ks)) (count k) (count_of ks) 1 (count_both f (everyone k) (everyone_of ks)) (one_counts p k m e h)
    one_counts_in (suc i) p (node_and k ks) m e h = second_counts (count_of (node_and k ks)) (count k) (count_of ks) 1 (count_both f (everyone k) (everyone_of ks)) (one_counts_in i p ks m e h)

  -- one, and another below it
  above_count : (j : ℕ) (q : List ℕ) (n m k : Node S) → n ≡ m → at (j ∷ q) n ≡ Some k → f (state m) ≡ true → f (state k) ≡ true → 2 ≤ count n
  above_count j q (Live l) m k d e g h = none_some k e
  above_count j q (Ended l) m k d e g h = none_some k e
  above_count j q (Dead l x) m k d e g h = none_some k e
  above_count j q (Forked l ks) m k d e g h =
      one_and_more (count (Forked l ks)) (bit (f l)) (count_of ks) (count_one f l (everyone_of ks)) (ap bit (ap (λ z. f (state z)) d ∙ g)) (one_counts_in j q ks k e h)

  mutual
    -- two at different places count as two
    pub two_count : (p q : List ℕ) (n m k : Node S) → (p ≡ q → ⊥) → at p n ≡ Some m → at q n ≡ Some k → f (state m) ≡ true → f (state k) ≡ true → 2 ≤ count n
    two_count [] [] n m k d e w g h = absurd (d refl)
    two_count [] (j ∷ q) n m k d e w g h = above_count j q n m k (some_same n m e) w g h
    two_count (i ∷ p) [] n m k d e w g h = above_count i p n k m (some_same n k w) e h g
    two_count (i ∷ p) (j ∷ q) (Live l) m k d e w g h = none_some m e
    two_count (i ∷ p) (j ∷ q) (Ended l) m k d e w g h = none_some m e
    two_count (i ∷ p) (j ∷ q) (Dead l x) m k d e w g h = none_some m e
    two_count (i ∷ p) (j ∷ q) (Forked l ks) m k d e w g h = no_less_than (count (Forked l ks)) (count_of ks) 2 (two_count_in i p j q ks m k d e w g h) (rest_counts f l (everyone_of ks))

    two_count_in : (i : ℕ) (p : List ℕ) (j : ℕ) (q : List ℕ) (ks : Nodes S) (m k : Node S) → (i ∷ p ≡ j ∷ q → ⊥) → child_at i p ks ≡ Some m → child_at j q ks ≡ Some k → f (state m) ≡ true → f (state k) ≡ true → 2 ≤ count_of ks
    two_count_in i p j q no_node m k d e w g h = none_some m e
    two_count_in zero p zero q (node_and n ns) m k d e w g h =
        first_counts (count_of (node_and n ns)) (count n) (count_of ns) 2 (count_both f (everyone n) (everyone_of ns)) (two_count p q n m k (λ z. d (ap (λ t. zero ∷ t) z)) e w g h)
    two_count_in zero p (suc j) q (node_and n ns) m k d e w g h =
        one_and_one (count_of (node_and n ns)) (count n) (count_of ns) (count_both f (everyone n) (everyone_of ns)) (one_counts p n m e g) (one_counts_in j q ns k w h)
    two_count_in (suc i) p zero q (node_and n ns) m k d e w g h =
        one_and_one (count_of (node_and n ns)) (count n) (count_of ns) (count_both f (everyone n) (everyone_of ns)) (one_counts q n k w h) (one_counts_in i p ns m e g)
    two_count_in (suc i) p (suc j) q (node_and n ns) m k d e w g h =
        second_counts (count_of (node_and n ns)) (count n) (count_of ns) 2 (count_both f (everyone n) (everyone_of ns)) (two_count_in i p j q ns m k (λ z. d (ap bump z)) e w g h)
