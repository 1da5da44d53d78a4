-- A fork keeps a tree sound, be it that it traps.
use Rattle.std.proofs.Common.{◌≡◌, ◌≢◌, ◌≤◌, ◌⊎◌, ℕ, ◌+◌, true, false, List, [], ◌∷◌, ◌++◌, inl, inr, refl, sym, ap, subst, ◌∙◌, arith}
use Rattle.shim_base.specs.Paths.{Path, Channel}
use Rattle.shim_local.specs.Process.{Ops, ForkedView, AtFork, Parted, Trapped}
use Rattle.shim_local.specs.Laws.{LocalLaws, AllOf, AreChildren, Moved, by_fork, by_trap, how_many}
use Rattle.shim_semantics.specs.Nodes.{Live, Forked, no_node, states, everyone_of, all_live}
use Rattle.shim_semantics.specs.Acts.{parted}
use Rattle.shim_semantics.specs.Places.{after_front, SoundChildren}
use Rattle.shim_semantics.specs.Sound.{carriers, holders}
use Rattle.shim_semantics.proofs.Sameness.{after_front_of}
use Rattle.shim_semantics.proofs.HowMany.{clash, bit, count_one, counts, uncounted, one_for_one, none_count}
use Rattle.shim_semantics.proofs.Follows.{Keeps, Stays, IsNew, by_child, follows_moved, stays_keeps}
use Rattle.shim_base.proofs.Facts.{some_same, true_or_false}

some_live : {S : Type 0} (ks : List S) → ks ≢ [] → all_live ks ≢ no_node
some_live [] n = λ e. n refl
some_live (k ∷ ks) n = λ e. absurd cc

states_live : {S : Type 0} (ks : List S) → states (all_live ks) ≡ ks
states_live [] = refl
states_live (k ∷ ks) = ap (λ z. k ∷ z) (states_live ks)

everyone_live : {S : Type 0} (ks : List S) → everyone_of (all_live ks) ≡ ks
everyone_live [] = refl
everyone_live (k ∷ ks) = ap (λ z. k ∷ z) (everyone_live ks)

abbrev last_place : Path → ℕ
last_place [] = 0
last_place (x ∷ p) = x.1

same_place : (p : Path) (f i j : ℕ) → p ++ (f, i) ∷ [] ≡ p ++ (f, j) ∷ [] → i ≡ j
same_place p f i j e = ap last_place (some_same ((f, i) ∷ []) ((f, j) ∷ []) (sym (after_front_of p ((f, i) ∷ [])) ∙ (ap (after_front p) e ∙ after_front_of p ((f, j) ∷ []))))

one_is_one : (n m : ℕ) → n ≡ 1 → 1 ≤ m → n ≤ m
one_is_one n m e h = omega arith

none_is_less : (n m : ℕ) → n ≡ 0 → n ≤ m
none_is_less n m e = omega arith

first_one : (whole b n : ℕ) → whole ≡ b + n → b ≡ 1 → n ≡ 0 → whole ≤ 1
first_one whole b n e f g = omega arith

none_and_rest : (whole b n : ℕ) → whole ≡ b + n → b ≡ 0 → whole ≡ n
none_and_rest whole b n e f = omega arith

le_self : (j : ℕ) → j ≤ j
le_self j = omega arith

pub le_next : (j i : ℕ) → j + 1 ≤ i → j ≤ i
le_next j i h = omega arith

not_itself : {A : Type 0} (i j : ℕ) → i ≡ j → i + 1 ≤ j → A
not_itself i j e h = absurd (omega (arith, e, h))

module _ {S : Type 0} (o : Ops S) where
  forked_sound : (l m : S) (f j : ℕ) (ks : List S) → o.path m ≡ o.path l → o.handlers m ≡ o.handlers l → ((c : Channel) → o.shares m c ≡ o.shares l c)
      → AllOf o.sound ks → AreChildren o (o.path l) (o.handlers l) f j ks → ((c : Channel) → AllOf (λ k. o.shares k c ≡ true → (o.shares l c ≡ true) ⊎ (c.home ≡ o.path k)) ks)
      → SoundChildren o m f j (all_live ks)
  forked_sound l m f j [] e d n a h w = tt
  forked_sound l m f j (k ∷ ks) e d n a h w = (
    record {
      path = h.0 ∙ ap (λ z. z ++ (f, j) ∷ []) (sym e);
      base = h.1 ∙ sym d;
      shares = λ c y. elim ((w c).0 y) [ inl z ↦ inl (n c ∙ z) | inr z ↦ inr z ];
    },
    a.0,
    forked_sound l m f (j + 1) ks e d n a.1 h.2 (λ c. (w c).1),
  )

  -- of the children from this place on, at most one carries a channel that its parent didn't, and that is one of its own
  record CarriesNew (c : Channel) (p : Path) (f j : ℕ) (ks : List S) : Type 0 where
    pub place : ℕ
    pub from : j ≤ place
    pub one : how_many (λ k. o.carries k c) ks ≤ 1
    pub home : c.home ≡ p ++ (f, place) ∷ []

  carries_new : (l : S) (c : Channel) (p : Path) (base f j : ℕ) (ks : List S) → o.carries l c ≡ false → AreChildren o p base f j ks → AllOf (λ k. o.carries k c ≡ true → (o.carries l c ≡ true) ⊎ (c.home ≡ o.path k)) ks
      → (how_many (λ k. o.carries k c) ks ≡ 0) ⊎ CarriesNew c p f j ks
  carries_new l c p base f j [] n h w = inl refl
  carries_new l c p base f j (k ∷ ks) n h w =
      elim (true_or_false (o.carries k c)) [
        | inl y ↦
            let home : c.home ≡ p ++ (f, j) ∷ [] = elim (w.0 y) [ inl z ↦ clash (o.carries l c) z n | inr z ↦ z ∙ h.0 ] in
            elim (carries_new l c p base f (j + 1) ks n h.2 w.1) [
              | inl none ↦ inr (record {
                place = j;
                from = le_self j;
                one = first_one (how_many (λ z. o.carries z c) (k ∷ ks)) (bit (o.carries k c)) (how_many (λ z. o.carries z c) ks) (count_one (λ z. o.carries z c) k ks) (ap bit y) none;
                home = home;
              })
              | inr more ↦ not_itself j more.place (same_place p f j more.place (sym home ∙ more.home)) more.from
            ]
        | inr none_here ↦
            let same : how_many (λ z. o.carries z c) (k ∷ ks) ≡ how_many (λ z. o.carries z c) ks =
            none_and_rest (how_many (λ z. o.carries z c) (k ∷ ks)) (bit (o.carries k c)) (how_many (λ z. o.carries z c) ks) (count_one (λ z. o.carries z c) k ks) (ap bit none_here) in
            elim (carries_new l c p base f (j + 1) ks n h.2 w.1) [
              | inl none ↦ inl (same ∙ none)
              | inr more ↦ inr (record { place = more.place; from = le_next j more.place more.from; one = subst (λ z. z ≤ 1) (sym same) more.one; home = more.home })
            ]
      ]

  -- who carries a channel after a fork
  forked_carriers : LocalLaws o → (l m : S) (ks : List S) → o.sound l → (at : o.stop l ≡ AtFork) (e : o.fork l ≡ Parted m ks) (c : Channel)
      → (how_many (λ k. o.carries k c) (m ∷ ks) ≤ carriers o c (Live l)) ⊎ ((how_many (λ k. o.carries k c) (m ∷ ks) ≤ 1) × IsNew o c (Live l))
  forked_carriers law l m ks s at e c =
      elim (true_or_false (o.carries l c)) [
        | inl y ↦ inl (one_is_one (how_many (λ k. o.carries k c) (m ∷ ks)) (carriers o c (Live l)) (law.fork_hands_on l m ks c s (at, e) y) (counts (λ k. o.carries k c) l [] y))
        | inr n ↦
            let parent : o.carries m c ≡ false = elim (true_or_false (o.carries m c)) [ inl y ↦ clash (o.carries l c) (law.fork_carries l m ks c s (at, e) y) n | inr w ↦ w ] in
            let same : how_many (λ k. o.carries k c) (m ∷ ks) ≡ how_many (λ k. o.carries k c) ks =
            none_and_rest (how_many (λ k. o.carries k c) (m ∷ ks)) (bit (o.carries m c)) (how_many (λ k. o.carries k c) ks) (count_one (λ k. o.carries k c) m ks) (ap bit parent) in
            let children = law.fork_children l m ks s (at, e) in
            elim (carries_new l c (o.path l) (o.handlers l) children.0 0 ks n children.1 (law.children_carry l m ks c s (at, e))) [
              | inl none ↦ inl (none_is_less (how_many (λ k. o.carries k c) (m ∷ ks)) (carriers o c (Live l)) (same ∙ none))
              | inr new ↦ inr (subst (λ z. z ≤ 1) (sym same) new.one, by_child l (children.0, new.place) refl new.home)
            ]
      ]

  -- and who holds the output
  forked_holders : LocalLaws o → (l m : S) (ks : List S) → o.sound l → (at : o.stop l ≡ AtFork) (e : o.fork l ≡ Parted m ks) → how_many o.holds_output (m ∷ ks) ≤ holders o (Live l)
  forked_holders law l m ks s at e =
      elim (true_or_false (o.holds_output l)) [
        | inl y ↦ one_is_one (how_many o.holds_output (m ∷ ks)) (holders o (Live l)) (law.fork_hands_output l m ks s (at, e) y) (counts o.holds_output l [] y)
        | inr n ↦
            let parent : o.holds_output m ≡ false = elim (true_or_false (o.holds_output m)) [ inl y ↦ clash (o.holds_output l) (law.fork_holds l m ks s (at, e) y) n | inr w ↦ w ] in
            none_is_less (how_many o.holds_output (m ∷ ks)) (holders o (Live l)) (uncounted o.holds_output m ks parent (none_count o.holds_output (o.holds_output l) ks n (law.children_hold l m ks s (at, e))))
      ]

  parted_keeps : LocalLaws o → (l m : S) (ks : List S) → o.sound l → (at : o.stop l ≡ AtFork) (e : o.fork l ≡ Parted m ks) → Keeps o (Live l) (Forked m (all_live ks))
  parted_keeps law l m ks s at e =
      let children = law.fork_children l m ks s (at, e) in
      let moved : Moved o l m = by_fork ks at e in
      let shares : (c : Channel) → o.shares m c ≡ o.shares l c = λ c. law.fork_shares l m ks c s (at, e) in record {
        below = record {
          number = children.0;
          children = forked_sound l m children.0 0 ks (law.moved_path l m s moved) (law.fork_handlers l m ks s (at, e)) shares (law.fork_sound l m ks s (at, e)) children.1 (λ c. law.children_share l m ks c s (at, e));
          some = some_live ks (law.fork_some l m ks s (at, e));
          born = subst (o.born m) (sym (states_live ks)) (law.fork_born l m ks s (at, e));
          sound = law.moved_sound l m s moved;
        };
        follows = follows_moved o law l m s moved (λ c y. inl (sym (shares c) ∙ y));
        carried = λ c. subst (λ z. (how_many (λ k. o.carries k c) (m ∷ z) ≤ carriers o c (Live l)) ⊎ ((how_many (λ k. o.carries k c) (m ∷ z) ≤ 1) × IsNew o c (Live l))) (sym (everyone_live ks)) (forked_carriers law l m ks s at e c);
        no_more_holders = subst (λ z. how_many o.holds_output (m ∷ z) ≤ holders o (Live l)) (sym (everyone_live ks)) (forked_holders law l m ks s at e);
      }

  trapped_stays : LocalLaws o → (l m : S) → o.sound l → (at : o.stop l ≡ AtFork) (e : o.fork l ≡ Trapped m) → Stays o (Live l) (Live m)
  trapped_stays law l m s at e =
      let moved : Moved o l m = by_trap at e in record {
        below = law.moved_sound l m s moved;
        follows = follows_moved o law l m s moved (λ c y. inl (sym (law.fork_trap_shares l m c s at e) ∙ y));
        carried = λ c. one_for_one (λ k. o.carries k c) l m (law.fork_trap_carries l m c s at e);
        no_more_holders = one_for_one o.holds_output l m (law.fork_trap_holds l m s at e);
      }

  pub fork_keeps : LocalLaws o → (l : S) → o.sound l → o.stop l ≡ AtFork → (r : ForkedView S) → o.fork l ≡ r → Keeps o (Live l) (parted r)
  fork_keeps law l s at (Parted m ks) e = parted_keeps law l m ks s at e
  fork_keeps law l s at (Trapped m) e = stays_keeps o (Live l) (Live m) (trapped_stays law l m s at e)
