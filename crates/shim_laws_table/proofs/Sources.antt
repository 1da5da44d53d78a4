-- Who carries a channel, and whose name comes first, found by records.
use Rattle.std.proofs.Common.{◌≡◌, ◌≤◌, ◌<◌, ◌⊎◌, ℕ, zero, suc, Bool, true, false, ◌&&◌, Option, Some, None, List, [], ◌∷◌, cond, inl, inr, refl, sym, ap, subst, ◌∙◌, ltb, arith}
use Rattle.std.specs.Prelude.{eqb}
use Rattle.std.proofs.lemmas.Bool.{lt-ltb, eq-eqb}
use Rattle.shim_base.specs.Paths.{Path, Channel, same_channel}
use Rattle.shim_local.specs.Process.{Ops}
use Rattle.shim_semantics.specs.Nodes.{Node, Nodes, Live, Forked, Ended, Dead, no_node, node_and, state, is_next, next_channel, name_for, or_else, source, source_among, first_name, first_name_among}
use Rattle.shim_semantics.specs.Places.{at, child_at}
use Rattle.shim_semantics.proofs.HowMany.{clash}
use Rattle.shim_laws_schedules.proofs.Two.{two_count}
use Rattle.shim_laws_schedules.proofs.Unshared.{no_name}
use Rattle.shim_base.proofs.Facts.{some_same, none_some, true_or_false, false_unless, or_left, or_right}
use Rattle.shim_base.proofs.SamePaths.{same_channel_refl}
use Rattle.shim_laws_table.specs.NodeStatus.{ProcessStatus, lives, process_status, place}
use Rattle.shim_laws_table.specs.Agrees.{RecordView, Has, Represents}
use Rattle.shim_laws_table.specs.Sources.{is_before, SourcesByRecords}
use Rattle.shim_laws_table.proofs.SameTrees.{seen_live, seen_some}
use Rattle.shim_laws_table.proofs.OneTree.{covered}

two_is_more : (n : ℕ) → 2 ≤ n → n ≤ 1 → ⊥
two_is_more n e f = omega (arith, e, f)

same_places : (p q : List ℕ) → (p ≡ q → ⊥) ⊎ (p ≡ q)
same_places [] [] = inr refl
same_places [] (y ∷ q) = inl (λ e. absurd cc)
same_places (x ∷ p) [] = inl (λ e. absurd cc)
same_places (x ∷ p) (y ∷ q) = elim (same_number x y) [
  | inl n ↦ inl (λ e. n cc)
  | inr e ↦ elim (same_places p q) [ inl n ↦ inl (λ w. n cc) | inr w ↦ inr (λ t. e t ∷ w t) ]
]
  where
    same_number : (x y : ℕ) → (x ≡ y → ⊥) ⊎ (x ≡ y)
    same_number zero zero = inr refl
    same_number zero (suc y) = inl (λ e. absurd cc)
    same_number (suc x) zero = inl (λ e. absurd cc)
    same_number (suc x) (suc y) = elim (same_number x y) [ inl n ↦ inl (λ e. n cc) | inr e ↦ inr (ap suc e) ]

module _ {S : Type 0} (o : Ops S) (c : Channel) where
  -- ---- the source

  record Carries (n : Node S) (x : S) : Type 0 where
    pub branches : List ℕ
    pub node : Node S
    pub there : at branches n ≡ Some node
    pub is : state node ≡ x
    pub carries : o.carries x c ≡ true

  record CarriesIn (ks : Nodes S) (x : S) : Type 0 where
    pub which : ℕ
    pub branches : List ℕ
    pub node : Node S
    pub there : child_at which branches ks ≡ Some node
    pub is : state node ≡ x
    pub carries : o.carries x c ≡ true

  here : (l x : S) (b : Bool) → o.carries l c ≡ b → cond b (Some l) None ≡ Some x → (l ≡ x) × (o.carries x c ≡ true)
  here l x true w e = let same = some_same l x e in (same, ap (λ z. o.carries z c) (sym same) ∙ w)
  here l x false w e = none_some x e

  mutual
    source_found : (n : Node S) (x : S) → source o c n ≡ Some x → Carries n x
    source_found (Live l) x e = let w = here l x (o.carries l c) refl e in record { branches = []; node = Live l; there = refl; is = w.0; carries = w.1 }
    source_found (Ended l) x e = let w = here l x (o.carries l c) refl e in record { branches = []; node = Ended l; there = refl; is = w.0; carries = w.1 }
    source_found (Dead l d) x e = let w = here l x (o.carries l c) refl e in record { branches = []; node = Dead l d; there = refl; is = w.0; carries = w.1 }
    source_found (Forked l ks) x e = elim (true_or_false (o.carries l c)) [
      | inl y ↦
          let same : l ≡ x = some_same l x (ap (λ b. cond b (Some l) (source_among o c ks)) (sym y) ∙ e) in
          record { branches = []; node = Forked l ks; there = refl; is = same; carries = ap (λ z. o.carries z c) (sym same) ∙ y }
      | inr y ↦
          let w = source_in ks x (ap (λ b. cond b (Some l) (source_among o c ks)) (sym y) ∙ e) in
          record { branches = w.which ∷ w.branches; node = w.node; there = w.there; is = w.is; carries = w.carries }
    ]

    source_in : (ks : Nodes S) (x : S) → source_among o c ks ≡ Some x → CarriesIn ks x
    source_in no_node x e = none_some x e
    source_in (node_and k ks) x e = elim (either (source o c k) (source_among o c ks) e) [
      | inl y ↦ let w = source_found k x y in record { which = 0; branches = w.branches; node = w.node; there = w.there; is = w.is; carries = w.carries }
      | inr y ↦ let w = source_in ks x y in record { which = suc w.which; branches = w.branches; node = w.node; there = w.there; is = w.is; carries = w.carries }
    ]
      where
        either : (a b : Option S) → or_else a b ≡ Some x → (a ≡ Some x) ⊎ (b ≡ Some x)
        either (Some z) b h = inl h
        either None b h = inr h

  no_option : (a b : Option S) → or_else a b ≡ None → (a ≡ None) × (b ≡ None)
  no_option (Some z) b h = absurd cc
  no_option None b h = (refl, h)

  not_here : (l : S) (b : Bool) (x : Option S) → o.carries l c ≡ b → cond b (Some l) x ≡ None → (o.carries l c ≡ false) × (x ≡ None)
  not_here l true x w e = absurd cc
  not_here l false x w e = (w, e)

  mutual
    source_none : (n : Node S) → source o c n ≡ None → (q : List ℕ) (m : Node S) → at q n ≡ Some m → o.carries (state m) c ≡ false
    source_none (Live l) e [] m f = ap (λ z. o.carries (state z) c) (sym (some_same (Live l) m f)) ∙ (not_here l (o.carries l c) None refl e).0
    source_none (Ended l) e [] m f = ap (λ z. o.carries (state z) c) (sym (some_same (Ended l) m f)) ∙ (not_here l (o.carries l c) None refl e).0
    source_none (Dead l d) e [] m f = ap (λ z. o.carries (state z) c) (sym (some_same (Dead l d) m f)) ∙ (not_here l (o.carries l c) None refl e).0
    source_none (Forked l ks) e [] m f = ap (λ z. o.carries (state z) c) (sym (some_same (Forked l ks) m f)) ∙ (not_here l (o.carries l c) (source_among o c ks) refl e).0
    source_none (Live l) e (i ∷ q) m f = none_some m f
    source_none (Ended l) e (i ∷ q) m f = none_some m f
    source_none (Dead l d) e (i ∷ q) m f = none_some m f
    source_none (Forked l ks) e (i ∷ q) m f = source_none_in ks (not_here l (o.carries l c) (source_among o c ks) refl e).1 i q m f

    source_none_in : (ks : Nodes S) → source_among o c ks ≡ None → (i : ℕ) (q : List ℕ) (m : Node S) → child_at i q ks ≡ Some m → o.carries (state m) c ≡ false
    source_none_in no_node e i q m f = none_some m f
    source_none_in (node_and k ks) e zero q m f = source_none k (no_option (source o c k) (source_among o c ks) e).0 q m f
    source_none_in (node_and k ks) e (suc i) q m f = source_none_in ks (no_option (source o c k) (source_among o c ks) e).1 i q m f

  module _ (rp : Path) (records : List S) (views : List RecordView) (root : Node S) (s : Represents o rp records views root) where
    -- two that carry it are in one place
    one_place : (p q : List ℕ) (m k : Node S) → at p root ≡ Some m → at q root ≡ Some k → o.carries (state m) c ≡ true → o.carries (state k) c ≡ true → p ≡ q
    one_place p q m k e f g h = elim (same_places p q) [
      | inl n ↦ absurd (two_is_more _ (two_count (λ z. o.carries z c) p q root m k n e f g h) (s.sound.carrying c))
      | inr w ↦ w
    ]

    source_is : (i f : ℕ) (l : S) (k : ProcessStatus) → Has records views i f l k → o.carries l c ≡ true → source o c root ≡ Some l
    source_is i f l k has carries = on (source o c root) refl
      where
        on : (x : Option S) → source o c root ≡ x → source o c root ≡ Some l
        on None e =
            let w = seen_some (at (place o rp l) root) l k (s.agrees.shown i f l k has) in
            clash (o.carries l c) carries (ap (λ z. o.carries z c) (sym w.2) ∙ source_none root e (place o rp l) w.0 w.1)
        on (Some x) e =
            let w = seen_some (at (place o rp l) root) l k (s.agrees.shown i f l k has) in
            let y = source_found root x e in
            let places = one_place y.branches (place o rp l) y.node w.0 y.there w.1 (ap (λ z. o.carries z c) y.is ∙ y.carries) (ap (λ z. o.carries z c) w.2 ∙ carries) in
            let same : y.node ≡ w.0 = some_same y.node w.0 (sym y.there ∙ (ap (λ z. at z root) places ∙ w.1)) in
            e ∙ ap Some (sym y.is ∙ (ap state same ∙ w.2))

    no_source : ((i f : ℕ) (l : S) (k : ProcessStatus) → Has records views i f l k → o.carries l c ≡ false) → source o c root ≡ None
    no_source none = on (source o c root) refl
      where
        on : (x : Option S) → source o c root ≡ x → source o c root ≡ None
        on None e = e
        on (Some x) e =
            let y = source_found root x e in
            let w = covered o rp records views s.rooted root s.agrees y.branches y.node y.there in
            let same : w.state_is ≡ x = ap (λ z. z.0) (some_same (w.state_is, w.status_is) (state y.node, process_status y.node) w.is_seen) ∙ y.is in
            clash (o.carries x c) y.carries (ap (λ z. o.carries z c) (sym same) ∙ none w.number w.first w.state_is w.status_is w.has)

    carry_once : (i j f g : ℕ) (l m : S) (k h : ProcessStatus) → Has records views i f l k → Has records views j g m h → o.carries l c ≡ true → o.carries m c ≡ true → i ≡ j
    carry_once i j f g l m k h a b x y =
        let v = seen_some (at (place o rp l) root) l k (s.agrees.shown i f l k a) in
        let w = seen_some (at (place o rp m) root) m h (s.agrees.shown j g m h b) in
        s.agrees.apart i j f g l m k h a b (one_place (place o rp l) (place o rp m) v.0 w.0 v.1 w.1 (ap (λ z. o.carries z c) v.2 ∙ x) (ap (λ z. o.carries z c) w.2 ∙ y))

  -- ---- the first name

  abbrev StandsAt : S → Type 0
  StandsAt t = is_next (o.stop t) c ≡ true

  mutual
    nobody_named : (n : Node S) → ((p : List ℕ) (t : S) → at p n ≡ Some (Live t) → StandsAt t → ⊥) → first_name o c n ≡ None
    nobody_named (Live l) h = no_name (o.stop l) c (false_unless (is_next (o.stop l) c) (λ y. h [] l refl y))
    nobody_named (Ended l) h = refl
    nobody_named (Dead l d) h = refl
    nobody_named (Forked l ks) h = nobody_in ks (λ i p t e y. h (i ∷ p) t e y)

    nobody_in : (ks : Nodes S) → ((i : ℕ) (p : List ℕ) (t : S) → child_at i p ks ≡ Some (Live t) → StandsAt t → ⊥) → first_name_among o c ks ≡ None
    nobody_in no_node h = refl
    nobody_in (node_and k ks) h = ap (λ z. or_else z (first_name_among o c ks)) (nobody_named k (λ p t e y. h 0 p t e y)) ∙ nobody_in ks (λ i p t e y. h (suc i) p t e y)

  module _ (l : S) (x : ℕ) (named : name_for c (next_channel (o.stop l)) ≡ Some x) where
    mutual
      first_is : (q : List ℕ) (n : Node S) → at q n ≡ Some (Live l) → ((p : List ℕ) (t : S) → at p n ≡ Some (Live t) → StandsAt t → is_before p q ≡ false) → first_name o c n ≡ Some x
      first_is [] n e h = ap (first_name o c) (some_same n (Live l) e) ∙ named
      first_is (i ∷ q) (Live m) e h = none_some (Live l) e
      first_is (i ∷ q) (Ended m) e h = none_some (Live l) e
      first_is (i ∷ q) (Dead m d) e h = none_some (Live l) e
      first_is (i ∷ q) (Forked m ks) e h = first_in i q ks e (λ j p t w y. (earlier j p (h (j ∷ p) t w y), later j p (h (j ∷ p) t w y)))
        where
          earlier : (j : ℕ) (p : List ℕ) → is_before (j ∷ p) (i ∷ q) ≡ false → j < i → ⊥
          earlier j p w less = clash (is_before (j ∷ p) (i ∷ q)) (or_left (ltb j i) (eqb j i && is_before p q) (lt-ltb j i less)) w

          later : (j : ℕ) (p : List ℕ) → is_before (j ∷ p) (i ∷ q) ≡ false → j ≡ i → is_before p q ≡ false
          later j p w same = false_unless (is_before p q) (λ y. clash (is_before (j ∷ p) (i ∷ q)) (or_right (ltb j i) (eqb j i && is_before p q) ((λ t. eq-eqb j i same t && y t))) w)

      first_in : (i : ℕ) (q : List ℕ) (ks : Nodes S) → child_at i q ks ≡ Some (Live l) → ((j : ℕ) (p : List ℕ) (t : S) → child_at j p ks ≡ Some (Live t) → StandsAt t → (j < i → ⊥) × (j ≡ i → is_before p q ≡ false)) → first_name_among o c ks ≡ Some x
      first_in i q no_node e h = none_some (Live l) e
      first_in zero q (node_and k ks) e h = ap (λ z. or_else z (first_name_among o c ks)) (first_is q k e (λ p t w y. (h 0 p t w y).1 refl))
      first_in (suc i) q (node_and k ks) e h =
          ap (λ z. or_else z (first_name_among o c ks)) (nobody_named k (λ p t w y. (h 0 p t w y).0 (omega arith)))
          ∙ first_in i q ks e (λ j p t w y. let z = h (suc j) p t w y in ((λ less. z.0 (omega (arith, less))), (λ same. z.1 (ap suc same))))

module _ {S : Type 0} (o : Ops S) where
  pub sources_by_records : SourcesByRecords o
  sources_by_records = record {
    carrier = λ rp records views root c i f l k s has carries. source_is o c rp records views root s i f l k has carries;
    none = λ rp records views root c s none. no_source o c rp records views root s none;
    once = λ rp records views root c i j f g l m k h s a b x y. carry_once o c rp records views root s i j f g l m k h a b x y;
    name = λ rp records views root c i f l d s has stop is first.
        let named : name_for c (next_channel (o.stop l)) ≡ Some d.name = ap (λ z. name_for c (next_channel z)) stop ∙ ap (λ b. cond b (Some d.name) None) (ap (same_channel d.channel) (sym is) ∙ same_channel_refl d.channel) in
        first_is o c l d.name named (place o rp l) root (seen_live (at (place o rp l) root) l (s.agrees.shown i f l lives has))
        (λ p t e y.
        let w = covered o rp records views s.rooted root s.agrees p (Live t) e in
        let same = some_same (w.state_is, w.status_is) (t, lives) w.is_seen in
        let has' : Has records views w.number w.first t lives = subst (λ z. Has records views w.number w.first t z) (ap (λ z. z.1) same) (subst (λ z. Has records views w.number w.first z w.status_is) (ap (λ z. z.0) same) w.has) in
        let placed : place o rp t ≡ p = ap (place o rp) (sym (ap (λ z. z.0) same)) ∙ w.is_there in
        ap (λ z. is_before z (place o rp l)) (sym placed) ∙ first w.number w.first t has' y);
  }
