-- The processes that share a channel stand at and below the one that declared it; so its rendezvous is enabled exactly where the whole tree waits at it and has a sharer.
use Rattle.std.proofs.Common.{◌≡◌, ◌≤◌, ◌↔◌, ℕ, zero, suc, ◌+◌, Bool, true, false, Option, Some, None, List, [], ◌∷◌, ◌++◌, ◌&&◌, ◌||◌, inl, inr, not, refl, sym, ap, ◌∙◌, arith}
use Rattle.std.proofs.lemmas.List.{append_cancel_left, append-nil}
use Rattle.shim_base.specs.Paths.{Path, Channel, same_path}
use Rattle.shim_local.specs.Process.{Ops}
use Rattle.shim_local.specs.Laws.{LocalLaws}
use Rattle.shim_semantics.specs.Nodes.{Node, Nodes, Live, Forked, Ended, Dead, no_node, node_and, state, goes, is_dead, any_sharer, is_next, ready, all_ready}
use Rattle.shim_semantics.specs.Places.{at, child_at, route, at_route, home_is_ready, meets, SoundBelow, SoundChildren, IsChild}
use Rattle.shim_semantics.specs.Sound.{IsSound}
use Rattle.shim_semantics.proofs.HowMany.{clash, no_less}
use Rattle.shim_semantics.proofs.Sameness.{further}
use Rattle.shim_semantics.proofs.Routes.{at_path, route_of}
use Rattle.shim_semantics.proofs.Replaced.{sound_at}
use Rattle.shim_laws_schedules.specs.Waiting.{all_wait, all_wait_below, has_sharer, any_has_sharer, is_unshared, all_unshared}
use Rattle.shim_laws_schedules.proofs.Unshared.{stands_shares, unshared_all_wait, all_unshared_all_wait}
use Rattle.shim_base.proofs.Facts.{some_same, none_some, first_holds, second_holds, both_hold, either_holds, true_or_false, or_left, or_right, not_false, false_not, or_false, and_false, left_or}
use Rattle.shim_base.proofs.SamePaths.{same_path_refl, same_path_is}
use Rattle.shim_semantics.proofs.ForkKeeps.{le_next}

-- the channel is declared neither by the process of this path nor by one below it
abbrev pub Outside : Channel → Path → Type 0
Outside c p = (r : Path) → c.home ≡ p ++ r → ⊥

-- it is declared by none below it
abbrev pub NotBelow : Channel → Path → Type 0
NotBelow c p = (x : ℕ × ℕ) (r : Path) → c.home ≡ p ++ x ∷ r → ⊥

pub no_further : (p : Path) (x : ℕ × ℕ) (r : Path) → p ≡ p ++ x ∷ r → ⊥
no_further p x r e = let h = append_cancel_left p [] (x ∷ r) (append-nil p ∙ e) in cc

-- the place of the first child on the way
abbrev first_place : Path → ℕ
first_place [] = 0
first_place (x ∷ p) = x.1

-- after a path the place of the child gives the way
pub same_branch : (p : Path) (f i j : ℕ) (r s : Path) → p ++ (f, i) ∷ r ≡ p ++ (f, j) ∷ s → i ≡ j
same_branch p f i j r s e = ap first_place (append_cancel_left p ((f, i) ∷ r) ((f, j) ∷ s) e)

earlier : {A : Type 0} (j a : ℕ) → j + zero ≡ a → j + 1 ≤ a → A
earlier j a e h = absurd (omega arith)

later : {A : Type 0} (j i : ℕ) → j + suc i ≡ j → A
later j i e = absurd (omega arith)

-- of one that shares, a test says that it has ended
neither : (a x y : Bool) → a ≡ true → not (a && (x || y)) ≡ true → (x ≡ false) × (y ≡ false)
neither true true y e f = absurd cc
neither true false true e f = absurd cc
neither true false false e f = (refl, refl)
neither false x y e f = absurd cc

module _ {S : Type 0} (o : Ops S) where
  -- what a child of one that doesn't share the channel shares, is its own
  pub child_own : (l k : S) (f j : ℕ) (c : Channel) → IsChild o l f j k → o.shares l c ≡ false → o.shares k c ≡ true → c.home ≡ o.path k
  child_own l k f j c h n y = elim (h.shares c y) [ inl z ↦ clash (o.shares l c) z n | inr z ↦ z ]

  -- so it doesn't share one that isn't its own
  child_shares : (l k : S) (f j : ℕ) (c : Channel) → IsChild o l f j k → o.shares l c ≡ false → Outside c (o.path k) → o.shares k c ≡ false
  child_shares l k f j c h n out = elim (true_or_false (o.shares k c)) [
    | inl y ↦ absurd (out [] (child_own l k f j c h n y ∙ sym (append-nil (o.path k))))
    | inr w ↦ w
  ]

  -- a child's own path and further
  pub child_further : (l k : S) (f j : ℕ) (r : Path) → IsChild o l f j k → o.path k ++ r ≡ o.path l ++ (f, j) ∷ r
  child_further l k f j r h = further (o.path l) (f, j) (o.path k) r h.path

  -- a channel that is declared by none below a process is outside its children
  pub child_outside : (l k : S) (f j : ℕ) (c : Channel) → IsChild o l f j k → NotBelow c (o.path l) → Outside c (o.path k)
  child_outside l k f j c h n r e = n (f, j) r (e ∙ child_further l k f j r h)

  -- the path of a node below the children from the place j on
  child_path : (l : S) (f j : ℕ) (ks : Nodes S) (m : Node S) (i : ℕ) (q : List ℕ) → SoundChildren o l f j ks → child_at i q ks ≡ Some m → (r : Path) × (o.path (state m) ≡ o.path l ++ (f, j + i) ∷ r)
  child_path l f j no_node m i q s e = none_some m e
  child_path l f j (node_and k ks) m zero q s e =
      let h = at_path o k m q s.1 e in
      let w : j ≡ j + zero = omega arith in
      (h.0, h.1 ∙ (child_further l (state k) f j h.0 s.0 ∙ ap (λ z. o.path l ++ (f, z) ∷ h.0) w))
  child_path l f j (node_and k ks) m (suc i) q s e =
      let h = child_path l f (j + 1) ks m i q s.2 e in
      let w : j + 1 + i ≡ j + suc i = omega arith in
      (h.0, h.1 ∙ ap (λ z. o.path l ++ (f, z) ∷ h.0) w)

  mutual
    -- where a process doesn't share a channel that is declared neither there nor below, the node is unshared on it
    pub unshared_is_unshared : (c : Channel) (n : Node S) → SoundBelow o n → o.shares (state n) c ≡ false → Outside c (o.path (state n)) → is_unshared o c n ≡ true
    unshared_is_unshared c (Live l) s n out = false_not (o.shares l c) n
    unshared_is_unshared c (Ended l) s n out = false_not (o.shares l c) n
    unshared_is_unshared c (Dead l x) s n out = false_not (o.shares l c) n
    unshared_is_unshared c (Forked l ks) s n out = both_hold _ _ (false_not (o.shares l c) n) (unshared_all c l s.number 0 ks s.children n (λ i r w e. out ((s.number, i) ∷ r) e))

    -- no child from the place j on has declared it, and none below them
    unshared_all : (c : Channel) (l : S) (f j : ℕ) (ks : Nodes S) → SoundChildren o l f j ks → o.shares l c ≡ false → ((i : ℕ) (r : Path) → j ≤ i → c.home ≡ o.path l ++ (f, i) ∷ r → ⊥) → all_unshared o c ks ≡ true
    unshared_all c l f j no_node s n out = refl
    unshared_all c l f j (node_and k ks) s n out =
        let outside : Outside c (o.path (state k)) = λ r e. out j r (no_less j) (e ∙ child_further l (state k) f j r s.0) in
        both_hold _ _ (unshared_is_unshared c k s.1 (child_shares l (state k) f j c s.0 n outside) outside)
        (unshared_all c l f (j + 1) ks s.2 n (λ i r w e. out i r (le_next j i w) e))

  ended_all_wait : (c : Channel) (k : Node S) → goes k ≡ false → is_dead k ≡ false → all_wait o c k ≡ true
  ended_all_wait c (Live l) g d = absurd cc
  ended_all_wait c (Forked l ks) g d = absurd cc
  ended_all_wait c (Ended l) g d = refl
  ended_all_wait c (Dead l x) g d = absurd cc

  mutual
    -- a node that is ready on a channel which is declared by none below it waits at it
    pub ready_all_wait : (c : Channel) (n : Node S) → SoundBelow o n → NotBelow c (o.path (state n)) → ready o c n ≡ true → all_wait o c n ≡ true
    ready_all_wait c (Live l) s out r = or_right _ _ r
    ready_all_wait c (Ended l) s out r = refl
    ready_all_wait c (Dead l x) s out r = absurd cc
    ready_all_wait c (Forked l ks) s out r =
        both_hold _ _ (or_right (not (o.shares l c)) (any_sharer o c ks) (first_holds (any_sharer o c ks) (all_ready o c ks) r))
        (all_ready_all_wait c l s.number 0 ks s.children out (second_holds (any_sharer o c ks) (all_ready o c ks) r))

    all_ready_all_wait : (c : Channel) (l : S) (f j : ℕ) (ks : Nodes S) → SoundChildren o l f j ks → NotBelow c (o.path l) → all_ready o c ks ≡ true → all_wait_below o c ks ≡ true
    all_ready_all_wait c l f j no_node s out r = refl
    all_ready_all_wait c l f j (node_and k ks) s out r =
        let outside = child_outside l (state k) f j c s.0 out in
        let hasnt = not (o.shares (state k) c && (goes k || is_dead k)) in
        let first = hasnt || ready o c k in
        let here : all_wait o c k ≡ true =
        elim (true_or_false (o.shares (state k) c)) [
          | inr n ↦ unshared_all_wait o c k (unshared_is_unshared c k s.1 n outside)
          | inl y ↦ elim (either_holds hasnt (ready o c k) (first_holds first (all_ready o c ks) r)) [
            | inl z ↦ let w = neither (o.shares (state k) c) (goes k) (is_dead k) y z in ended_all_wait c k w.0 w.1
            | inr z ↦ ready_all_wait c k s.1 (λ x w. outside (x ∷ w)) z
          ]
        ] in
        both_hold _ _ here (all_ready_all_wait c l f (j + 1) ks s.2 out (second_holds first (all_ready o c ks) r))

  all_wait_dead : (c : Channel) (k : Node S) → all_wait o c k ≡ true → o.shares (state k) c ≡ true → is_dead k ≡ false
  all_wait_dead c (Live l) h y = refl
  all_wait_dead c (Forked l ks) h y = refl
  all_wait_dead c (Ended l) h y = refl
  all_wait_dead c (Dead l x) h y = clash (o.shares l c) y (not_false (o.shares l c) h)

  mutual
    -- a node that waits at a channel and goes is ready on it, where its process shares it
    pub all_wait_ready : (c : Channel) (n : Node S) → all_wait o c n ≡ true → o.shares (state n) c ≡ true → goes n ≡ true → ready o c n ≡ true
    all_wait_ready c (Live l) h y g = left_or (o.shares l c) (is_next (o.stop l) c) y h
    all_wait_ready c (Ended l) h y g = absurd cc
    all_wait_ready c (Dead l x) h y g = absurd cc
    all_wait_ready c (Forked l ks) h y g =
        let first = not (o.shares l c) || any_sharer o c ks in
        both_hold _ _ (left_or (o.shares l c) (any_sharer o c ks) y (first_holds first (all_wait_below o c ks) h)) (all_wait_below_ready c ks (second_holds first (all_wait_below o c ks) h))

    all_wait_below_ready : (c : Channel) (ks : Nodes S) → all_wait_below o c ks ≡ true → all_ready o c ks ≡ true
    all_wait_below_ready c no_node h = refl
    all_wait_below_ready c (node_and k ks) h =
        let hasnt = not (o.shares (state k) c && (goes k || is_dead k)) in
        let here : (hasnt || ready o c k) ≡ true =
        elim (true_or_false (o.shares (state k) c)) [
          | inr n ↦ or_left hasnt (ready o c k) (ap (λ b. not (b && (goes k || is_dead k))) n)
          | inl y ↦ elim (true_or_false (goes k)) [
            | inl g ↦ or_right hasnt (ready o c k) (all_wait_ready c k (first_holds (all_wait o c k) (all_wait_below o c ks) h) y g)
            | inr g ↦ or_left hasnt (ready o c k)
                (ap (λ b. not b) (and_false (o.shares (state k) c) (goes k || is_dead k) (or_false (goes k) (is_dead k) g (all_wait_dead c k (first_holds (all_wait o c k) (all_wait_below o c ks) h) y))))
          ]
        ] in
        both_hold _ _ here (all_wait_below_ready c ks (second_holds (all_wait o c k) (all_wait_below o c ks) h))

  -- ---- a node that is ready goes, and has a sharer

  pub ready_goes : (c : Channel) (n : Node S) → ready o c n ≡ true → goes n ≡ true
  ready_goes c (Live l) h = refl
  ready_goes c (Forked l ks) h = refl
  ready_goes c (Ended l) h = absurd cc
  ready_goes c (Dead l x) h = absurd cc

  sharer_is_one : (c : Channel) (k : Node S) → goes k && o.shares (state k) c ≡ true → has_sharer o c k ≡ true
  sharer_is_one c (Live l) h = h
  sharer_is_one c (Forked l ks) h = or_left (o.shares l c) (any_has_sharer o c ks) h
  sharer_is_one c (Ended l) h = absurd cc
  sharer_is_one c (Dead l x) h = absurd cc

  sharers_are_some : (c : Channel) (ks : Nodes S) → any_sharer o c ks ≡ true → any_has_sharer o c ks ≡ true
  sharers_are_some c no_node h = absurd cc
  sharers_are_some c (node_and k ks) h = elim (either_holds (goes k && o.shares (state k) c) (any_sharer o c ks) h) [
    | inl y ↦ or_left (has_sharer o c k) (any_has_sharer o c ks) (sharer_is_one c k y)
    | inr y ↦ or_right (has_sharer o c k) (any_has_sharer o c ks) (sharers_are_some c ks y)
  ]

  pub ready_has_sharer : LocalLaws o → (c : Channel) (n : Node S) → SoundBelow o n → ready o c n ≡ true → has_sharer o c n ≡ true
  ready_has_sharer law c (Live l) s h = stands_shares o law c l s h
  ready_has_sharer law c (Forked l ks) s h = or_right (o.shares l c) (any_has_sharer o c ks) (sharers_are_some c ks (first_holds (any_sharer o c ks) (all_ready o c ks) h))
  ready_has_sharer law c (Ended l) s h = absurd cc
  ready_has_sharer law c (Dead l x) s h = absurd cc

  mutual
    -- and so does each above it
    has_sharer_at : (c : Channel) (q : List ℕ) (n m : Node S) → at q n ≡ Some m → has_sharer o c m ≡ true → has_sharer o c n ≡ true
    has_sharer_at c [] n m e h = ap (has_sharer o c) (some_same n m e) ∙ h
    has_sharer_at c (i ∷ q) (Live l) m e h = none_some m e
    has_sharer_at c (i ∷ q) (Ended l) m e h = none_some m e
    has_sharer_at c (i ∷ q) (Dead l x) m e h = none_some m e
    has_sharer_at c (i ∷ q) (Forked l ks) m e h = or_right (o.shares l c) (any_has_sharer o c ks) (has_sharer_in c i q ks m e h)

    has_sharer_in : (c : Channel) (i : ℕ) (q : List ℕ) (ks : Nodes S) (m : Node S) → child_at i q ks ≡ Some m → has_sharer o c m ≡ true → any_has_sharer o c ks ≡ true
    has_sharer_in c i q no_node m e h = none_some m e
    has_sharer_in c zero q (node_and k ks) m e h = or_left (has_sharer o c k) (any_has_sharer o c ks) (has_sharer_at c q k m e h)
    has_sharer_in c (suc i) q (node_and k ks) m e h = or_right (has_sharer o c k) (any_has_sharer o c ks) (has_sharer_in c i q ks m e h)

  -- ---- from the home to all nodes

  mutual
    -- where the home of a channel is ready on it, all sharers wait
    home_all_wait : (c : Channel) (n m : Node S) (q : List ℕ) → SoundBelow o n → (o.shares (state n) c ≡ true → c.home ≡ o.path (state n)) → at q n ≡ Some m → o.path (state m) ≡ c.home → ready o c m ≡ true → all_wait o c n ≡ true
    home_all_wait c n m [] s own e h r =
        let same = some_same n m e in
        let below : NotBelow c (o.path (state n)) = λ x w z. no_further (o.path (state n)) x w (ap (λ k. o.path (state k)) same ∙ (h ∙ z)) in
        ready_all_wait c n s below (ap (ready o c) same ∙ r)
    home_all_wait c (Live l) m (i ∷ q) s own e h r = none_some m e
    home_all_wait c (Ended l) m (i ∷ q) s own e h r = none_some m e
    home_all_wait c (Dead l x) m (i ∷ q) s own e h r = none_some m e
    home_all_wait c (Forked l ks) m (i ∷ q) s own e h r =
        let w = child_path l s.number 0 ks m i q s.children e in
        let n : o.shares l c ≡ false = elim (true_or_false (o.shares l c)) [
          | inl y ↦ absurd (no_further (o.path l) (s.number, 0 + i) w.0 (sym (own y) ∙ (sym h ∙ w.1)))
          | inr n ↦ n
        ] in
        both_hold _ _ (or_left (not (o.shares l c)) (any_sharer o c ks) (false_not (o.shares l c) n)) (home_all_wait_in c l s.number 0 ks m i q s.children n e h r)

    home_all_wait_in : (c : Channel) (l : S) (f j : ℕ) (ks : Nodes S) (m : Node S) (i : ℕ) (q : List ℕ) → SoundChildren o l f j ks → o.shares l c ≡ false → child_at i q ks ≡ Some m → o.path (state m) ≡ c.home → ready o c m ≡ true → all_wait_below o c ks ≡ true
    home_all_wait_in c l f j no_node m i q s n e h r = none_some m e
    home_all_wait_in c l f j (node_and k ks) m zero q s n e h r =
        let w = child_path l f j (node_and k ks) m zero q s e in
        both_hold _ _ (home_all_wait c k m q s.1 (child_own l (state k) f j c s.0 n) e h r)
        (all_unshared_all_wait o c ks (unshared_all c l f (j + 1) ks s.2 n (λ a t b z. earlier j a (same_branch (o.path l) f (j + zero) a w.0 t (sym w.1 ∙ (h ∙ z))) b)))
    home_all_wait_in c l f j (node_and k ks) m (suc i) q s n e h r =
        let w = child_path l f j (node_and k ks) m (suc i) q s e in
        let outside : Outside c (o.path (state k)) = λ t z. later j i (same_branch (o.path l) f (j + suc i) j w.0 t (sym w.1 ∙ (h ∙ (z ∙ child_further l (state k) f j t s.0)))) in
        both_hold _ _ (unshared_all_wait o c k (unshared_is_unshared c k s.1 (child_shares l (state k) f j c s.0 n outside) outside)) (home_all_wait_in c l f (j + 1) ks m i q s.2 n e h r)

  -- ---- and back

  -- the node of the process that declared the channel: it is ready on the channel, and shares it
  pub record ReadyHome (c : Channel) (n : Node S) : Type 0 where
    pub branches : List ℕ
    pub node : Node S
    pub there : at branches n ≡ Some node
    pub path : o.path (state node) ≡ c.home
    pub is_ready : ready o c node ≡ true
    pub shared : o.shares (state node) c ≡ true

  -- the same among the children of a fork
  record ReadyHomeIn (c : Channel) (ks : Nodes S) : Type 0 where
    which : ℕ
    branches : List ℕ
    node : Node S
    there : child_at which branches ks ≡ Some node
    path : o.path (state node) ≡ c.home
    is_ready : ready o c node ≡ true
    shared : o.shares (state node) c ≡ true

  mutual
    pub all_wait_home : (c : Channel) (n : Node S) → SoundBelow o n → (o.shares (state n) c ≡ true → c.home ≡ o.path (state n)) → all_wait o c n ≡ true → has_sharer o c n ≡ true → ReadyHome c n
    all_wait_home c (Ended l) s own h t = absurd cc
    all_wait_home c (Dead l x) s own h t = absurd cc
    all_wait_home c (Live l) s own h t = record { branches = []; node = Live l; there = refl; path = sym (own t); is_ready = all_wait_ready c (Live l) h t refl; shared = t }
    all_wait_home c (Forked l ks) s own h t =
        elim (true_or_false (o.shares l c)) [
          | inl y ↦ record { branches = []; node = Forked l ks; there = refl; path = sym (own y); is_ready = all_wait_ready c (Forked l ks) h y refl; shared = y }
          | inr n ↦
              let any : any_has_sharer o c ks ≡ true = elim (either_holds (o.shares l c) (any_has_sharer o c ks) t) [ inl z ↦ clash (o.shares l c) z n | inr z ↦ z ] in
              let w = all_wait_home_in c l s.number 0 ks s.children n (second_holds (not (o.shares l c) || any_sharer o c ks) (all_wait_below o c ks) h) any in
              record { branches = w.which ∷ w.branches; node = w.node; there = w.there; path = w.path; is_ready = w.is_ready; shared = w.shared }
        ]

    all_wait_home_in : (c : Channel) (l : S) (f j : ℕ) (ks : Nodes S) → SoundChildren o l f j ks → o.shares l c ≡ false → all_wait_below o c ks ≡ true → any_has_sharer o c ks ≡ true → ReadyHomeIn c ks
    all_wait_home_in c l f j no_node s n h t = absurd cc
    all_wait_home_in c l f j (node_and k ks) s n h t =
        elim (either_holds (has_sharer o c k) (any_has_sharer o c ks) t) [
          | inl y ↦
              let w = all_wait_home c k s.1 (child_own l (state k) f j c s.0 n) (first_holds (all_wait o c k) (all_wait_below o c ks) h) y in
              record { which = zero; branches = w.branches; node = w.node; there = w.there; path = w.path; is_ready = w.is_ready; shared = w.shared }
          | inr y ↦
              let w = all_wait_home_in c l f (j + 1) ks s.2 n (second_holds (all_wait o c k) (all_wait_below o c ks) h) y in
              record { which = suc w.which; branches = w.branches; node = w.node; there = w.there; path = w.path; is_ready = w.is_ready; shared = w.shared }
        ]

  -- ---- where a channel meets

  pub meets_all_wait : LocalLaws o → (c : Channel) (n : Node S) → IsSound o n → meets o c n ≡ true → (all_wait o c n ≡ true) × (has_sharer o c n ≡ true)
  meets_all_wait law c n s h = by_route (route (o.path (state n)) c.home) h
    where
      found : (q : List ℕ) (x : Option (Node S)) → at q n ≡ x → home_is_ready o c x ≡ true → (all_wait o c n ≡ true) × (has_sharer o c n ≡ true)
      found q None e h = absurd cc
      found q (Some m) e h =
          let path = same_path_is (o.path (state m)) c.home (first_holds (same_path (o.path (state m)) c.home) (ready o c m) h) in
          let r = second_holds (same_path (o.path (state m)) c.home) (ready o c m) h in
          (home_all_wait c n m q s.below (s.own c) e path r, has_sharer_at c q n m e (ready_has_sharer law c m (sound_at o q n m s.below e) r))

      by_route : (q : Option (List ℕ)) → home_is_ready o c (at_route n q) ≡ true → (all_wait o c n ≡ true) × (has_sharer o c n ≡ true)
      by_route None h = absurd cc
      by_route (Some q) h = found q (at q n) refl h

  pub home_meets : (c : Channel) (n : Node S) → SoundBelow o n → ReadyHome c n → meets o c n ≡ true
  home_meets c n s x =
      ap (λ z. home_is_ready o c (at_route n z)) (route_of o n x.node x.branches c.home s x.there x.path)
      ∙ (ap (home_is_ready o c) x.there ∙ both_hold _ _ (ap (λ z. same_path z c.home) x.path ∙ same_path_refl c.home) x.is_ready)

  pub all_wait_meets : (c : Channel) (n : Node S) → IsSound o n → all_wait o c n ≡ true → has_sharer o c n ≡ true → meets o c n ≡ true
  all_wait_meets c n s h t = home_meets c n s.below (all_wait_home c n s.below (s.own c) h t)

  pub meets_exactly : LocalLaws o → (c : Channel) (n : Node S) → IsSound o n → (meets o c n ≡ true) ↔ ((all_wait o c n ≡ true) × (has_sharer o c n ≡ true))
  meets_exactly law c n s = (λ h. meets_all_wait law c n s h, λ w. all_wait_meets c n s w.0 w.1)
