-- A tree stays sound where a node is replaced by what an event leaves in its place.
use Rattle.std.proofs.Common.{◌≡◌, ◌≢◌, ◌≤◌, ℕ, zero, suc, ◌+◌, Bool, Some, List, [], ◌∷◌, ◌++◌, inl, inr, refl, sym, ap, subst, ◌∙◌, arith}
use Rattle.std.proofs.lemmas.List.{append_assoc}
use Rattle.shim_local.specs.Process.{Ops}
use Rattle.shim_local.specs.Laws.{LocalLaws, AllOf, how_many}
use Rattle.shim_semantics.specs.Nodes.{Node, Nodes, Live, Forked, Ended, Dead, no_node, node_and, state, states, everyone, everyone_of}
use Rattle.shim_semantics.specs.Places.{at, child_at, IsChild, SoundBelow, SoundChildren}
use Rattle.shim_semantics.specs.Sound.{IsSound, SharesItsOwn, carriers, holders}
use Rattle.shim_semantics.proofs.ReplacedNodes.{put, put_child}
use Rattle.shim_semantics.proofs.HowMany.{bit, count_one, count_both}
use Rattle.shim_semantics.proofs.Follows.{Follows, Keeps, Stays, follows_same}
use Rattle.shim_semantics.proofs.NewChannels.{nobody_carries}
use Rattle.shim_base.proofs.Facts.{some_same, none_some}

swapped : (a b c : ℕ) → c ≡ b → a + b ≡ c + a
swapped a b c e = omega arith

one_before_both : (whole old b n k x y : ℕ) → whole ≡ b + n → old ≡ b + k → n + x ≡ k + y → whole + x ≡ old + y
one_before_both whole old b n k x y e f g = omega arith

some_behind_both : (whole old a b n x y : ℕ) → whole ≡ a + n → old ≡ b + n → a + x ≡ b + y → whole + x ≡ old + y
some_behind_both whole old a b n x y e f g = omega arith

still_one : (new old n m : ℕ) → new + m ≡ old + n → n ≤ m → old ≤ 1 → new ≤ 1
still_one new old n m e h k = omega arith

now_one : (new old n m : ℕ) → new + m ≡ old + n → n ≤ 1 → old ≡ 0 → new ≤ 1
now_one new old n m e h k = omega arith

at_most_one : (new old : ℕ) → new ≤ old → old ≤ 1 → new ≤ 1
at_most_one new old e f = omega arith

some_put : {S : Type 0} (i : ℕ) (p : List ℕ) (m a : Node S) (ks : Nodes S) → child_at i p ks ≡ Some a → put_child i p m ks ≢ no_node
some_put i p m a no_node e = none_some a e
some_put zero p m a (node_and k ks) e = λ w. absurd cc
some_put (suc i) p m a (node_and k ks) e = λ w. absurd cc

-- a count over all, where a node is replaced
module _ {S : Type 0} (f : S → Bool) where
  mutual
    pub put_count : (q : List ℕ) (n m a : Node S) → at q n ≡ Some m → how_many f (everyone (put q a n)) + how_many f (everyone m) ≡ how_many f (everyone n) + how_many f (everyone a)
    put_count [] n m a e = swapped (how_many f (everyone a)) (how_many f (everyone m)) (how_many f (everyone n)) (ap (λ z. how_many f (everyone z)) (some_same n m e))
    put_count (i ∷ q) (Live l) m a e = none_some m e
    put_count (i ∷ q) (Ended l) m a e = none_some m e
    put_count (i ∷ q) (Dead l x) m a e = none_some m e
    put_count (i ∷ q) (Forked l ks) m a e =
        one_before_both (how_many f (l ∷ everyone_of (put_child i q a ks))) (how_many f (l ∷ everyone_of ks)) (bit (f l)) (how_many f (everyone_of (put_child i q a ks))) (how_many f (everyone_of ks)) (how_many f (everyone m)) (how_many f (everyone a))
        (count_one f l (everyone_of (put_child i q a ks))) (count_one f l (everyone_of ks)) (put_count_in i q ks m a e)

    put_count_in : (i : ℕ) (q : List ℕ) (ks : Nodes S) (m a : Node S) → child_at i q ks ≡ Some m → how_many f (everyone_of (put_child i q a ks)) + how_many f (everyone m) ≡ how_many f (everyone_of ks) + how_many f (everyone a)
    put_count_in i q no_node m a e = none_some m e
    put_count_in zero q (node_and k ks) m a e =
        some_behind_both (how_many f (everyone (put q a k) ++ everyone_of ks)) (how_many f (everyone k ++ everyone_of ks)) (how_many f (everyone (put q a k))) (how_many f (everyone k)) (how_many f (everyone_of ks)) (how_many f (everyone m)) (how_many f (everyone a))
        (count_both f (everyone (put q a k)) (everyone_of ks)) (count_both f (everyone k) (everyone_of ks)) (put_count q k m a e)
    put_count_in (suc i) q (node_and k ks) m a e =
        one_before_both (how_many f (everyone k ++ everyone_of (put_child i q a ks))) (how_many f (everyone k ++ everyone_of ks)) (how_many f (everyone k)) (how_many f (everyone_of (put_child i q a ks))) (how_many f (everyone_of ks)) (how_many f (everyone m)) (how_many f (everyone a))
        (count_both f (everyone k) (everyone_of (put_child i q a ks))) (count_both f (everyone k) (everyone_of ks)) (put_count_in i q ks m a e)

module _ {S : Type 0} (o : Ops S) where
  -- a child that does anything stays a child
  pub child_follows : (l k m : S) (f i : ℕ) → IsChild o l f i k → Follows o k m → IsChild o l f i m
  child_follows l k m f i s h = record {
    path = h.path ∙ s.path;
    base = h.base ∙ s.base;
    shares = λ c y. elim (h.shares c y) [
      | inl z ↦ elim (s.shares c z) [ inl w ↦ inl w | inr w ↦ inr (w ∙ sym h.path) ]
      | inr z ↦ inr (z ∙ sym h.path)
    ];
  }

  -- one child further to the left
  pub born_shift : (l k : S) (xs ys zs : List S) → (o.born l ((xs ++ k ∷ []) ++ ys) → o.born l ((xs ++ k ∷ []) ++ zs)) → o.born l (xs ++ k ∷ ys) → o.born l (xs ++ k ∷ zs)
  born_shift l k xs ys zs f b = subst (o.born l) (append_assoc xs (k ∷ []) zs) (f (subst (o.born l) (sym (append_assoc xs (k ∷ []) ys)) b))

  mutual
    sound_put : (q : List ℕ) (n m a : Node S) → SoundBelow o n → at q n ≡ Some m → SoundBelow o a → Follows o (state m) (state a) → SoundBelow o (put q a n) × Follows o (state n) (state (put q a n))
    sound_put [] n m a s e t h = (t, subst (λ z. Follows o (state z) (state a)) (sym (some_same n m e)) h)
    sound_put (i ∷ q) (Live l) m a s e t h = none_some m e
    sound_put (i ∷ q) (Ended l) m a s e t h = none_some m e
    sound_put (i ∷ q) (Dead l x) m a s e t h = none_some m e
    sound_put (i ∷ q) (Forked l ks) m a s e t h =
        let w = sound_put_in l s.number 0 ks i q m a s.children e t h in
        (record { number = s.number; children = w.0; some = some_put i q a m ks e; born = w.1 [] s.born; sound = s.sound }, follows_same o l l refl)

    sound_put_in : (l : S) (f j : ℕ) (ks : Nodes S) (i : ℕ) (q : List ℕ) (m a : Node S) → SoundChildren o l f j ks → child_at i q ks ≡ Some m → SoundBelow o a → Follows o (state m) (state a)
        → SoundChildren o l f j (put_child i q a ks) × ((xs : List S) → o.born l (xs ++ states ks) → o.born l (xs ++ states (put_child i q a ks)))
    sound_put_in l f j no_node i q m a s e t h = none_some m e
    sound_put_in l f j (node_and k ks) zero q m a s e t h =
        let w = sound_put q k m a s.1 e t h in
        ((child_follows l (state k) (state (put q a k)) f j s.0 w.1, w.0, s.2), λ xs b. w.1.stays l xs (states ks) b)
    sound_put_in l f j (node_and k ks) (suc i) q m a s e t h =
        let w = sound_put_in l f (j + 1) ks i q m a s.2 e t h in (
          (s.0, s.1, w.0),
          λ xs b. born_shift l (state k) xs (states ks) (states (put_child i q a ks)) (w.1 (xs ++ state k ∷ [])) b,
        )

  mutual
    -- what stands in a sound tree is sound
    pub sound_at : (q : List ℕ) (n m : Node S) → SoundBelow o n → at q n ≡ Some m → SoundBelow o m
    sound_at [] n m s e = subst (SoundBelow o) (some_same n m e) s
    sound_at (i ∷ q) (Live l) m s e = none_some m e
    sound_at (i ∷ q) (Ended l) m s e = none_some m e
    sound_at (i ∷ q) (Dead l x) m s e = none_some m e
    sound_at (i ∷ q) (Forked l ks) m s e = sound_at_in l s.number 0 ks i q m s.children e

    sound_at_in : (l : S) (f j : ℕ) (ks : Nodes S) (i : ℕ) (q : List ℕ) (m : Node S) → SoundChildren o l f j ks → child_at i q ks ≡ Some m → SoundBelow o m
    sound_at_in l f j no_node i q m s e = none_some m e
    sound_at_in l f j (node_and k ks) zero q m s e = sound_at q k m s.1 e
    sound_at_in l f j (node_and k ks) (suc i) q m s e = sound_at_in l f (j + 1) ks i q m s.2 e

  -- the states of sound nodes
  pub state_sound : (n : Node S) → SoundBelow o n → o.sound (state n)
  state_sound (Live l) s = s
  state_sound (Forked l ks) s = s.sound
  state_sound (Ended l) s = s
  state_sound (Dead l x) s = s.sound

  pub states_sound : (l : S) (f j : ℕ) (ks : Nodes S) → SoundChildren o l f j ks → AllOf o.sound (states ks)
  states_sound l f j no_node s = tt
  states_sound l f j (node_and k ks) s = (state_sound k s.1, states_sound l f (j + 1) ks s.2)

  -- the root's channels are its own
  own_follows : (l m : S) → SharesItsOwn o l → Follows o l m → SharesItsOwn o m
  own_follows l m own h = λ c y. elim (h.shares c y) [ inl z ↦ own c z ∙ sym h.path | inr z ↦ z ∙ sym h.path ]

  -- a root that an event changes leaves a sound tree
  pub stays_sound : (root n : Node S) → IsSound o root → Stays o root n → IsSound o n
  stays_sound root n s h = record {
    below = h.below;
    own = own_follows (state root) (state n) s.own h.follows;
    carrying = λ c. at_most_one (carriers o c n) (carriers o c root) (h.carried c) (s.carrying c);
    one_holder = at_most_one (holders o n) (holders o root) h.no_more_holders s.one_holder;
  }

  -- and so does a node in it
  pub replaced : LocalLaws o → (q : List ℕ) (root m n : Node S) → IsSound o root → at q root ≡ Some m → Keeps o m n → IsSound o (put q n root)
  replaced law q root m n s e h =
      let w = sound_put q root m n s.below e h.below h.follows in record {
        below = w.0;
        own = own_follows (state root) (state (put q n root)) s.own w.1;
        carrying = λ c. elim (h.carried c) [
          | inl less ↦ still_one (carriers o c (put q n root)) (carriers o c root) (carriers o c n) (carriers o c m) (put_count (λ z. o.carries z c) q root m n e) less (s.carrying c)
          | inr new ↦ now_one (carriers o c (put q n root)) (carriers o c root) (carriers o c n) (carriers o c m) (put_count (λ z. o.carries z c) q root m n e) new.0 (nobody_carries o law root m q s.below s.own e c new.1)
        ];
        one_holder = still_one (holders o (put q n root)) (holders o root) (holders o n) (holders o m) (put_count o.holds_output q root m n e) h.no_more_holders s.one_holder;
      }
