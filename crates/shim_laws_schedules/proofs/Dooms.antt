-- A fork where a child is poisoned shares the channel, and a death that dooms a child goes on dooming it whatever happens elsewhere.
use Rattle.std.proofs.Common.{◌≡◌, ◌<◌, ◌≤◌, ◌⊎◌, ℕ, zero, suc, ◌+◌, Bool, true, false, Option, Some, None, List, [], ◌∷◌, ◌++◌, ◌&&◌, inl, inr, not, cond, refl, sym, ap, ◌∙◌, arith, ltb, ltb-true, min}
use Rattle.std.proofs.lemmas.Bool.{lt-ltb}
use Rattle.std.proofs.lemmas.List.{append-nil}
use Rattle.shim_base.specs.Paths.{Path, Channel}
use Rattle.shim_local.specs.Process.{Ops}
use Rattle.shim_local.specs.Laws.{LocalLaws, AllOf, Moved, by_join}
use Rattle.shim_semantics.specs.Nodes.{handed, Node, Nodes, Live, Forked, Ended, Dead, outermost, Death, no_node, node_and, state, states, all_done, prevailing_death, prevailing, ready}
use Rattle.shim_semantics.specs.Acts.{Acted, act_here, thrown, closed, nothing, catch_logged}
use Rattle.shim_semantics.specs.Poison.{dooms, any_dooms, is_doomed, is_ready_child}
use Rattle.shim_semantics.specs.Places.{at, child_at, SoundBelow, SoundChildren}
use Rattle.shim_semantics.proofs.HowMany.{clash, no_less, no_less_than}
use Rattle.shim_semantics.proofs.ReplacedNodes.{put, put_child}
use Rattle.shim_semantics.proofs.Replaced.{states_sound}
use Rattle.shim_laws_schedules.specs.Waiting.{is_unshared, all_unshared}
use Rattle.shim_laws_schedules.proofs.Unshared.{is_unshared_still}
use Rattle.shim_laws_schedules.proofs.Homes.{Outside, NotBelow, same_branch, child_own, child_further, child_outside, ready_has_sharer}
use Rattle.shim_laws_schedules.proofs.Elsewhere.{closing}
use Rattle.shim_base.proofs.Facts.{some_same, none_some, first_holds, second_holds, both_hold, either_holds, true_or_false, or_left, or_right, not_false, false_not, or_false}
use Rattle.shim_semantics.proofs.ForkKeeps.{le_next}

and_either : (a b : Bool) → a && b ≡ false → (a ≡ false) ⊎ (b ≡ false)
and_either true b e = inr e
and_either false b e = inl refl

after_zero : (j a : ℕ) → j + 1 ≤ a → a ≡ j + zero → ⊥
after_zero j a h e = omega arith

before_suc : (j i : ℕ) → j ≡ j + suc i → ⊥
before_suc j i e = omega arith

one_further : (j i a : ℕ) → a ≡ j + suc i → a ≡ j + 1 + i
one_further j i a e = omega arith

pub same_bound : (h l b : ℕ) → h ≤ l → b ≡ l → h ≤ b
same_bound h l b e f = omega arith

label_below_base : (y h b : ℕ) → y < h → h ≤ b → y < b
label_below_base y h b e f = omega arith

min_below : (x y h : ℕ) → y < h → min x y < h
min_below x y h e = omega arith

min_below_first : (x y h : ℕ) → x < h → min x y < h
min_below_first x y h e = omega arith

module _ {S : Type 0} (o : Ops S) where
  mutual
    is_unshared_undoomed : (h : ℕ) (c : Channel) (n : Node S) → is_unshared o c n ≡ true → dooms o h c n ≡ false
    is_unshared_undoomed h c (Live l) e = refl
    is_unshared_undoomed h c (Ended l) e = refl
    is_unshared_undoomed h c (Dead l x) e = ap (λ b. b && ltb x.label h) (not_false (o.shares l c) e)
    is_unshared_undoomed h c (Forked l ks) e = all_unshared_undoomed h c ks (second_holds (not (o.shares l c)) (all_unshared o c ks) e)

    all_unshared_undoomed : (h : ℕ) (c : Channel) (ks : Nodes S) → all_unshared o c ks ≡ true → any_dooms o h c ks ≡ false
    all_unshared_undoomed h c no_node e = refl
    all_unshared_undoomed h c (node_and k ks) e =
        or_false (dooms o h c k) (any_dooms o h c ks) (is_unshared_undoomed h c k (first_holds (is_unshared o c k) (all_unshared o c ks) e)) (all_unshared_undoomed h c ks (second_holds (is_unshared o c k) (all_unshared o c ks) e))

  -- who dooms, or is ready, is not unshared
  dooms_loud : (h : ℕ) (c : Channel) (k : Node S) → dooms o h c k ≡ true → is_unshared o c k ≡ false
  dooms_loud h c k e = elim (true_or_false (is_unshared o c k)) [ inl y ↦ clash (dooms o h c k) e (is_unshared_undoomed h c k y) | inr n ↦ n ]

  ready_loud : LocalLaws o → (c : Channel) (n : Node S) → SoundBelow o n → ready o c n ≡ true → is_unshared o c n ≡ false
  ready_loud law c n s e = elim (true_or_false (is_unshared o c n)) [ inl y ↦ clash _ (ready_has_sharer o law c n s e) (is_unshared_still o c n y) | inr z ↦ z ]

  loud_live : (c : Channel) (l : S) → not (o.shares l c) ≡ false → o.shares l c ≡ true
  loud_live c l e = elim (true_or_false (o.shares l c)) [ inl y ↦ y | inr n ↦ clash (not (o.shares l c)) (false_not (o.shares l c) n) e ]

  -- a process that shares only its own, and does
  own_home : (c : Channel) (l : S) → (o.shares l c ≡ true → c.home ≡ o.path l) → o.shares l c ≡ true → (r : Path) × (c.home ≡ o.path l ++ r)
  own_home c l own y = ([], own y ∙ sym (append-nil (o.path l)))

  mutual
    -- where one that may share only its own shares a channel, or one below it does, that is declared there or below
    loud_home : (c : Channel) (n : Node S) → SoundBelow o n → (o.shares (state n) c ≡ true → c.home ≡ o.path (state n)) → is_unshared o c n ≡ false → (r : Path) × (c.home ≡ o.path (state n) ++ r)
    loud_home c (Live l) s own e = own_home c l own (loud_live c l e)
    loud_home c (Ended l) s own e = own_home c l own (loud_live c l e)
    loud_home c (Dead l x) s own e = own_home c l own (loud_live c l e)
    loud_home c (Forked l ks) s own e = elim (true_or_false (o.shares l c)) [
      | inl y ↦ own_home c l own y
      | inr n ↦ elim (and_either (not (o.shares l c)) (all_unshared o c ks) e) [
        | inl z ↦ clash (o.shares l c) (loud_live c l z) n
        | inr z ↦ let w = loud_home_in c l s.number 0 ks s.children n z in ((s.number, w.0) ∷ w.1, w.2)
      ]
    ]

    loud_home_in : (c : Channel) (l : S) (f j : ℕ) (ks : Nodes S) → SoundChildren o l f j ks → o.shares l c ≡ false → all_unshared o c ks ≡ false → (a : ℕ) × (r : Path) × (c.home ≡ o.path l ++ (f, a) ∷ r)
    loud_home_in c l f j no_node s n e = absurd cc
    loud_home_in c l f j (node_and k ks) s n e = elim (and_either (is_unshared o c k) (all_unshared o c ks) e) [
      | inl z ↦ let w = loud_home c k s.1 (child_own o l (state k) f j c s.0 n) z in (j, w.0, w.1 ∙ child_further o l (state k) f j w.0 s.0)
      | inr z ↦ loud_home_in c l f (j + 1) ks s.2 n z
    ]

  -- of the children of one that doesn't share it, the one that dooms has declared the channel, or one below it has
  dooms_home : (h : ℕ) (c : Channel) (l : S) (f j : ℕ) (k : Node S) (ks : Nodes S) → SoundChildren o l f j (node_and k ks) → o.shares l c ≡ false → dooms o h c k ≡ true → (r : Path) × (c.home ≡ o.path l ++ (f, j) ∷ r)
  dooms_home h c l f j k ks s n y = let w = loud_home c k s.1 (child_own o l (state k) f j c s.0 n) (dooms_loud h c k y) in (w.0, w.1 ∙ child_further o l (state k) f j w.0 s.0)

  any_home : (h : ℕ) (c : Channel) (l : S) (f j : ℕ) (ks : Nodes S) → SoundChildren o l f j ks → o.shares l c ≡ false → any_dooms o h c ks ≡ true → (a : ℕ) × (r : Path) × (c.home ≡ o.path l ++ (f, a) ∷ r) × (j ≤ a)
  any_home h c l f j no_node s n e = absurd cc
  any_home h c l f j (node_and k ks) s n e = elim (either_holds (dooms o h c k) (any_dooms o h c ks) e) [
    | inl y ↦ let w = dooms_home h c l f j k ks s n y in (j, w.0, w.1, no_less j)
    | inr y ↦ let w = any_home h c l f (j + 1) ks s.2 n y in (w.0, w.1, w.2, le_next j w.0 w.3)
  ]

  others_home : (h : ℕ) (c : Channel) (l : S) (f j i : ℕ) (ks : Nodes S) → SoundChildren o l f j ks → o.shares l c ≡ false → is_doomed o h c i ks ≡ true → (a : ℕ) × (r : Path) × (c.home ≡ o.path l ++ (f, a) ∷ r) × (a ≡ j + i → ⊥)
  others_home h c l f j i no_node s n e = absurd cc
  others_home h c l f j zero (node_and k ks) s n e = let w = any_home h c l f (j + 1) ks s.2 n e in (w.0, w.1, w.2, λ z. after_zero j w.0 w.3 z)
  others_home h c l f j (suc i) (node_and k ks) s n e = elim (either_holds (dooms o h c k) (is_doomed o h c i ks) e) [
    | inl y ↦ let w = dooms_home h c l f j k ks s n y in (j, w.0, w.1, λ z. before_suc j i z)
    | inr y ↦ let w = others_home h c l f (j + 1) i ks s.2 n y in (w.0, w.1, w.2, λ z. w.3 (one_further j i w.0 z))
  ]

  ready_home : LocalLaws o → (c : Channel) (l : S) (f j i : ℕ) (ks : Nodes S) → SoundChildren o l f j ks → o.shares l c ≡ false → is_ready_child o c i ks ≡ true → (r : Path) × (c.home ≡ o.path l ++ (f, j + i) ∷ r)
  ready_home law c l f j i no_node s n e = absurd cc
  ready_home law c l f j zero (node_and k ks) s n e =
      let w = loud_home c k s.1 (child_own o l (state k) f j c s.0 n) (ready_loud law c k s.1 e) in
      let z : j ≡ j + zero = omega arith in
      (w.0, w.1 ∙ (child_further o l (state k) f j w.0 s.0 ∙ ap (λ t. o.path l ++ (f, t) ∷ w.0) z))
  ready_home law c l f j (suc i) (node_and k ks) s n e =
      let w = ready_home law c l f (j + 1) i ks s.2 n e in
      let z : j + 1 + i ≡ j + suc i = omega arith in
      (w.0, w.1 ∙ ap (λ t. o.path l ++ (f, t) ∷ w.0) z)

  -- a fork one of whose children is ready on a channel and doomed on it shares the channel
  pub poisoned_shares : LocalLaws o → (h : ℕ) (c : Channel) (i : ℕ) (l : S) (ks : Nodes S) → SoundBelow o (Forked l ks) → is_ready_child o c i ks ≡ true → is_doomed o h c i ks ≡ true → o.shares l c ≡ true
  poisoned_shares law h c i l ks s r d = elim (true_or_false (o.shares l c)) [
    | inl y ↦ y
    | inr n ↦
        let x = ready_home law c l s.number 0 i ks s.children n r in
        let y = others_home h c l s.number 0 i ks s.children n d in
        absurd (y.3 (same_branch (o.path l) s.number y.0 (0 + i) y.1 x.0 (sym y.2 ∙ x.1)))
  ]

  -- ---- a death that dooms goes on dooming

  -- the prevailing death of children that are done dooms as they did
  least_dooms : (h : ℕ) (c : Channel) (l : S) (f j : ℕ) (ks : Nodes S) → SoundChildren o l f j ks → NotBelow c (o.path l) → all_done ks ≡ true → any_dooms o h c ks ≡ true → (y : Death) × (prevailing_death ks ≡ Some y) × (y.label < h) × (o.shares l c ≡ true)
  least_dooms h c l f j no_node s n d e = absurd cc
  least_dooms h c l f j (node_and (Live k) ks) s n d e = absurd cc
  least_dooms h c l f j (node_and (Forked k js) ks) s n d e = absurd cc
  least_dooms h c l f j (node_and (Ended k) ks) s n d e = least_dooms h c l f (j + 1) ks s.2 n d e
  least_dooms h c l f j (node_and (Dead k x) ks) s n d e = elim (either_holds (o.shares k c && ltb x.label h) (any_dooms o h c ks) e) [
    | inl y ↦
        let shared : o.shares l c ≡ true = elim (s.0.shares c (first_holds (o.shares k c) (ltb x.label h) y)) [ inl z ↦ z | inr z ↦ absurd (child_outside o l k f j c s.0 n [] (z ∙ sym (append-nil (o.path k)))) ] in
        here (prevailing_death ks) (ltb-true x.label h (second_holds (o.shares k c) (ltb x.label h) y)) shared
    | inr y ↦
        let w = least_dooms h c l f (j + 1) ks s.2 n d y in
        (outermost x w.0, ap (prevailing x) w.1, min_below x.label w.0.label h w.2, w.3)
  ]
    where
      here : (m : Option Death) → x.label < h → o.shares l c ≡ true → (y : Death) × (prevailing x m ≡ Some y) × (y.label < h) × (o.shares l c ≡ true)
      here None z w = (x, refl, z, w)
      here (Some y) z w = (outermost x y, refl, min_below_first x.label y.label h z, w)

  -- who dies of a throw dooms
  thrown_dooms : (h : ℕ) (c : Channel) (y : Death) (m : S) → y.label < h → h ≤ o.base m → o.shares m c ≡ true → dooms o h c (thrown o m y).node ≡ true
  thrown_dooms h c y m a b e =
      let dies : Acted S = record { node = Dead m y; effects = nothing } in
      let goes_on : Acted S = record { node = Live (o.unwind m y.label (handed y.given)); effects = catch_logged (o.handler m y.label) } in
      ap (λ z. dooms o h c (cond z dies goes_on).node) (lt-ltb y.label (o.base m) (label_below_base y.label h (o.base m) a b)) ∙ both_hold (o.shares m c) (ltb y.label h) e (lt-ltb y.label h a)

  close_dooms : LocalLaws o → (h : ℕ) (c : Channel) (l : S) (ks : Nodes S) (a : Acted S) → SoundBelow o (Forked l ks) → NotBelow c (o.path l) → h ≤ o.base l → any_dooms o h c ks ≡ true → act_here o (Forked l ks) ≡ Some a → dooms o h c a.node ≡ true
  close_dooms law h c l ks a s n b d e =
      let w = closing o l ks a e in
      let x = least_dooms h c l s.number 0 ks s.children n w.0 d in
      let all : AllOf o.sound (states ks) = states_sound o l s.number 0 ks s.children in
      let m : S = o.join l (states ks) false in
      let moved : Moved o l (o.join l (states ks) false) = by_join (states ks) false all s.born refl in
      let kept : o.shares m c ≡ true = law.join_shares l (states ks) false c s.sound all s.born ∙ x.3 in
      ap (λ z. dooms o h c z.node) (sym w.1)
      ∙ (ap (λ z. dooms o h c (closed o l (states ks) z).node) x.1 ∙ thrown_dooms h c x.0 m x.2 (same_bound h (o.base l) (o.base m) b (law.moved_base l m s.sound moved)) kept)

  mutual
    act_dooms : LocalLaws o → (h : ℕ) (c : Channel) (q : List ℕ) (n m : Node S) (a : Acted S) → SoundBelow o n → Outside c (o.path (state n)) → h ≤ o.base (state n) → dooms o h c n ≡ true → at q n ≡ Some m → act_here o m ≡ Some a → dooms o h c (put q a.node n) ≡ true
    act_dooms law h c q (Live l) m a s n b d e f = absurd cc
    act_dooms law h c q (Ended l) m a s n b d e f = absurd cc
    act_dooms law h c [] (Dead l x) m a s n b d e f = none_some a (ap (act_here o) (some_same (Dead l x) m e) ∙ f)
    act_dooms law h c (i ∷ q) (Dead l x) m a s n b d e f = none_some m e
    act_dooms law h c [] (Forked l ks) m a s n b d e f = close_dooms law h c l ks a s (λ x r z. n (x ∷ r) z) b d (ap (act_here o) (some_same (Forked l ks) m e) ∙ f)
    act_dooms law h c (i ∷ q) (Forked l ks) m a s n b d e f =
        act_dooms_in law h c l s.number 0 i q ks m a s.children (λ x r z. n (x ∷ r) z) (no_less_than (o.handlers l) (o.base l) h b (law.base_most l s.sound)) d e f

    act_dooms_in : LocalLaws o → (h : ℕ) (c : Channel) (l : S) (f j : ℕ) (i : ℕ) (q : List ℕ) (ks : Nodes S) (m : Node S) (a : Acted S) → SoundChildren o l f j ks → NotBelow c (o.path l) → h ≤ o.handlers l → any_dooms o h c ks ≡ true → child_at i q ks ≡ Some m → act_here o m ≡ Some a
        → any_dooms o h c (put_child i q a.node ks) ≡ true
    act_dooms_in law h c l f j i q no_node m a s n b d e g = none_some m e
    act_dooms_in law h c l f j zero q (node_and k ks) m a s n b d e g = elim (either_holds (dooms o h c k) (any_dooms o h c ks) d) [
      | inl y ↦ or_left (dooms o h c (put q a.node k)) (any_dooms o h c ks) (act_dooms law h c q k m a s.1 (child_outside o l (state k) f j c s.0 n) (same_bound h (o.handlers l) (o.base (state k)) b s.0.base) y e g)
      | inr y ↦ or_right (dooms o h c (put q a.node k)) (any_dooms o h c ks) y
    ]
    act_dooms_in law h c l f j (suc i) q (node_and k ks) m a s n b d e g = elim (either_holds (dooms o h c k) (any_dooms o h c ks) d) [
      | inl y ↦ or_left (dooms o h c k) (any_dooms o h c (put_child i q a.node ks)) y
      | inr y ↦ or_right (dooms o h c k) (any_dooms o h c (put_child i q a.node ks)) (act_dooms_in law h c l f (j + 1) i q ks m a s.2 n b y e g)
    ]

  -- a child that is doomed stays so whatever is done by a process below its parent
  pub act_doomed : LocalLaws o → (h : ℕ) (c : Channel) (l : S) (f j : ℕ) (i b : ℕ) (q : List ℕ) (ks : Nodes S) (m : Node S) (a : Acted S) → SoundChildren o l f j ks → NotBelow c (o.path l) → h ≤ o.handlers l → is_doomed o h c i ks ≡ true → child_at b q ks ≡ Some m → act_here o m ≡ Some a
      → is_doomed o h c i (put_child b q a.node ks) ≡ true
  act_doomed law h c l f j i b q no_node m a s n w d e g = none_some m e
  act_doomed law h c l f j zero zero q (node_and k ks) m a s n w d e g = d
  act_doomed law h c l f j zero (suc b) q (node_and k ks) m a s n w d e g = act_dooms_in law h c l f (j + 1) b q ks m a s.2 n w d e g
  act_doomed law h c l f j (suc i) zero q (node_and k ks) m a s n w d e g = elim (either_holds (dooms o h c k) (is_doomed o h c i ks) d) [
    | inl y ↦ or_left (dooms o h c (put q a.node k)) (is_doomed o h c i ks) (act_dooms law h c q k m a s.1 (child_outside o l (state k) f j c s.0 n) (same_bound h (o.handlers l) (o.base (state k)) w s.0.base) y e g)
    | inr y ↦ or_right (dooms o h c (put q a.node k)) (is_doomed o h c i ks) y
  ]
  act_doomed law h c l f j (suc i) (suc b) q (node_and k ks) m a s n w d e g = elim (either_holds (dooms o h c k) (is_doomed o h c i ks) d) [
    | inl y ↦ or_left (dooms o h c k) (is_doomed o h c i (put_child b q a.node ks)) y
    | inr y ↦ or_right (dooms o h c k) (is_doomed o h c i (put_child b q a.node ks)) (act_doomed law h c l f (j + 1) i b q ks m a s.2 n w y e g)
  ]
