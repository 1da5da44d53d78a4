-- What a descent through the records finds: all that share the channel, each before those after it on a walk.
use Rattle.std.proofs.Common.{◌≡◌, ◌<◌, ◌⊎◌, ℕ, zero, suc, ◌+◌, true, false, ◌&&◌, not, Some, List, [], ◌∷◌, ◌++◌, map, inl, inr, refl, sym, ap, subst, ◌∙◌, ltb, arith}
use Rattle.std.specs.Prelude.{eqb}
use Rattle.std.proofs.lemmas.Bool.{lt-ltb, eq-eqb}
use Rattle.std.proofs.lemmas.List.{append_assoc, append-nil}
use Rattle.shim_base.specs.Paths.{Path, Channel}
use Rattle.shim_base.proofs.Facts.{some_same, none_some, or_left, or_right, both_hold, first_holds, second_holds, not_false}
use Rattle.shim_local.specs.Process.{Ops}
use Rattle.shim_semantics.specs.Nodes.{Node, Nodes, Live, Forked, Ended, Dead, no_node, node_and, state}
use Rattle.shim_semantics.specs.Places.{at, child_at}
use Rattle.shim_semantics.proofs.Replaced.{sound_at}
use Rattle.shim_semantics.proofs.HowMany.{clash}
use Rattle.shim_laws_schedules.specs.Waiting.{is_unshared, all_unshared}
use Rattle.shim_laws_schedules.proofs.Homes.{Outside, unshared_is_unshared}
use Rattle.shim_laws_table.specs.NodeStatus.{ProcessStatus, lives, forks, ends, dies, seen, place, how_many_nodes}
use Rattle.shim_laws_table.specs.Sources.{is_before}
use Rattle.shim_laws_table.proofs.Aside.{at_split}
use Rattle.shim_laws_table.proofs.SameTrees.{child_counted, seen_some, seen_fork}
use Rattle.shim_laws_table.proofs.OneChange.{one_state}
use Rattle.shim_laws_table.proofs.PlacesAbove.{fork_above}
use Rattle.shim_laws_table.proofs.MinLabels.{child_sound, shared_not_below}
use Rattle.shim_records.specs.Members.{IsAmong}
use Rattle.shim_records.specs.Pairs.{record_view}
use Rattle.shim_laws_table_events.specs.keeping.Tables.{TableView, HasProcessState, TableInvariant}
use Rattle.shim_laws_table_events.specs.meetings.Sharers.{SharesFrom, Precedes, InOrder}
use Rattle.shim_laws_table_events.specs.meetings.Descents.{children, numbers_of_length, Descends, at_end, passes, finds, DescentsFind}
use Rattle.shim_laws_table_events.proofs.meetings.Among.{none_among, among_later, among_split}

-- ---- lists

pub among_parts : {A : Type 0} (x : A) (xs ys : List A) → IsAmong x (xs ++ ys) → IsAmong x xs ⊎ IsAmong x ys
among_parts x [] ys g = inr g
among_parts x (y ∷ xs) ys g = elim (among_split x y (xs ++ ys) g) [
  | inl e ↦ inl (0, ap Some e)
  | inr h ↦ elim (among_parts x xs ys h) [ inl w ↦ inl (among_later x y xs w) | inr w ↦ inr w ]
]

pub among_left : {A : Type 0} (x : A) (xs ys : List A) → IsAmong x xs → IsAmong x (xs ++ ys)
among_left x [] ys g = none_among x g
among_left x (y ∷ xs) ys (zero, e) = (zero, e)
among_left x (y ∷ xs) ys (suc i, e) = among_later x y (xs ++ ys) (among_left x xs ys (i, e))

pub among_right : {A : Type 0} (x : A) (xs ys : List A) → IsAmong x ys → IsAmong x (xs ++ ys)
among_right x [] ys g = g
among_right x (y ∷ xs) ys g = among_later x y (xs ++ ys) (among_right x xs ys g)

pub both_in_order : {A : Type 0} (R : A → A → Type 0) (xs ys : List A) → InOrder R xs → InOrder R ys → ((x y : A) → IsAmong x xs → IsAmong y ys → R x y) → InOrder R (xs ++ ys)
both_in_order R [] ys f g h = g
both_in_order R (x ∷ xs) ys f g h = (
  (λ y w. elim (among_parts y xs ys w) [ inl u ↦ f.0 y u | inr u ↦ h x y (0, refl) u ]),
  both_in_order R xs ys f.1 g (λ z y u w. h z y (among_later z x xs u) w),
)

-- ---- places

-- each place from the first one on comes before each from the second one on
abbrev pub LeftOf : List ℕ → List ℕ → Type 0
LeftOf p q = (r s : List ℕ) → is_before (p ++ r) (q ++ s) ≡ true

eqb_same : (x : ℕ) → eqb x x ≡ true
eqb_same x = eq-eqb x x refl

before_below : (q : List ℕ) (b : ℕ) (r : List ℕ) → is_before q (q ++ b ∷ r) ≡ true
before_below [] b r = refl
before_below (x ∷ q) b r = or_right (ltb x x) (eqb x x && is_before q (q ++ b ∷ r)) (both_hold (eqb x x) (is_before q (q ++ b ∷ r)) (eqb_same x) (before_below q b r))

same_front : (q p r : List ℕ) → is_before p r ≡ true → is_before (q ++ p) (q ++ r) ≡ true
same_front [] p r e = e
same_front (x ∷ q) p r e = or_right (ltb x x) (eqb x x && is_before (q ++ p) (q ++ r)) (both_hold (eqb x x) (is_before (q ++ p) (q ++ r)) (eqb_same x) (same_front q p r e))

pub left_child : (q : List ℕ) (b d : ℕ) → b < d → LeftOf (q ++ b ∷ []) (q ++ d ∷ [])
left_child q b d less r s =
    let near : is_before (b ∷ r) (d ∷ s) ≡ true = or_left (ltb b d) (eqb b d && is_before r s) (lt-ltb b d less) in
    (λ i. is_before (append_assoc q (b ∷ []) r i) (append_assoc q (d ∷ []) s i)) ∙ same_front q (b ∷ r) (d ∷ s) near

pub child_left : (q p : List ℕ) (b : ℕ) → LeftOf q p → LeftOf (q ++ b ∷ []) p
child_left q p b h r s = ap (λ z. is_before z (p ++ s)) (append_assoc q (b ∷ []) r) ∙ h (b ∷ r) s

-- the places of children
abbrev pub places_from : List ℕ → ℕ → ℕ → List (List ℕ)
places_from q b zero = []
places_from q b (suc n) = (q ++ b ∷ []) ∷ places_from q (suc b) n

pub place_of_child : (q p : List ℕ) (b n : ℕ) → IsAmong p (places_from q b n) → (d : ℕ) × (p ≡ q ++ (b + d) ∷ [])
place_of_child q p b zero g = none_among p g
place_of_child q p b (suc n) g = elim (among_split p (q ++ b ∷ []) (places_from q (suc b) n) g) [
  | inl e ↦ (0, sym e ∙ ap (λ z. q ++ z ∷ []) (here b))
  | inr h ↦ let w = place_of_child q p (suc b) n h in (suc w.0, w.1 ∙ ap (λ z. q ++ z ∷ []) (next b w.0))
]
  where
    here : (b : ℕ) → b ≡ b + 0
    here b = omega arith

    next : (b d : ℕ) → suc b + d ≡ b + suc d
    next b d = omega arith

pub child_place : (q : List ℕ) (b n d : ℕ) → d < n → IsAmong (q ++ (b + d) ∷ []) (places_from q b n)
child_place q b zero d less = absurd (omega (arith, less))
child_place q b (suc n) zero less = (0, ap (λ z. Some (q ++ z ∷ [])) (here b))
  where
    here : (b : ℕ) → b ≡ b + 0
    here b = omega arith
child_place q b (suc n) (suc d) less = among_later (q ++ (b + suc d) ∷ []) (q ++ b ∷ []) (places_from q (suc b) n) (subst (λ z. IsAmong (q ++ z ∷ []) (places_from q (suc b) n)) (next b d) (child_place q (suc b) n d (omega (arith, less))))
  where
    next : (b d : ℕ) → suc b + d ≡ b + suc d
    next b d = omega arith

zero_and : (n : ℕ) → 0 + n ≡ n
zero_and n = omega arith

any_child : (q p : List ℕ) (n : ℕ) → IsAmong p (places_from q 0 n) → (d : ℕ) × (p ≡ q ++ d ∷ [])
any_child q p n g = let w = place_of_child q p 0 n g in (0 + w.0, w.1)

each_child : (q : List ℕ) (n d : ℕ) → d < n → IsAmong (q ++ d ∷ []) (places_from q 0 n)
each_child q n d less = subst (λ z. IsAmong (q ++ z ∷ []) (places_from q 0 n)) (zero_and d) (child_place q 0 n d less)

pub children_in_order : (q : List ℕ) (b n : ℕ) → InOrder LeftOf (places_from q b n)
children_in_order q b zero = tt
children_in_order q b (suc n) = (
  (λ p g. let w = place_of_child q p (suc b) n g in subst (LeftOf (q ++ b ∷ [])) (sym w.1) (left_child q b (suc b + w.0) (omega arith))),
  children_in_order q (suc b) n,
)

-- ---- nobody shares it

module _ {S : Type 0} (o : Ops S) (c : Channel) where
  unshared_here : (n : Node S) → is_unshared o c n ≡ true → o.shares (state n) c ≡ false
  unshared_here (Live l) h = not_false (o.shares l c) h
  unshared_here (Ended l) h = not_false (o.shares l c) h
  unshared_here (Dead l x) h = not_false (o.shares l c) h
  unshared_here (Forked l ks) h = not_false (o.shares l c) (first_holds (not (o.shares l c)) (all_unshared o c ks) h)

  mutual
    unshared_at : (p : List ℕ) (n m : Node S) → at p n ≡ Some m → is_unshared o c n ≡ true → o.shares (state m) c ≡ false
    unshared_at [] n m e h = ap (λ z. o.shares (state z) c) (sym (some_same n m e)) ∙ unshared_here n h
    unshared_at (i ∷ p) (Live l) m e h = none_some m e
    unshared_at (i ∷ p) (Ended l) m e h = none_some m e
    unshared_at (i ∷ p) (Dead l x) m e h = none_some m e
    unshared_at (i ∷ p) (Forked l ks) m e h = unshared_in i p ks m e (second_holds (not (o.shares l c)) (all_unshared o c ks) h)

    unshared_in : (i : ℕ) (p : List ℕ) (ks : Nodes S) (m : Node S) → child_at i p ks ≡ Some m → all_unshared o c ks ≡ true → o.shares (state m) c ≡ false
    unshared_in i p no_node m e h = none_some m e
    unshared_in zero p (node_and k ks) m e h = unshared_at p k m e (first_holds (is_unshared o c k) (all_unshared o c ks) h)
    unshared_in (suc i) p (node_and k ks) m e h = unshared_in i p ks m e (second_holds (is_unshared o c k) (all_unshared o c ks) h)

-- ---- what is found

module _ {S : Type 0} (o : Ops S) (rp : Path) (v : TableView S) (c : Channel) (root : Node S) (kept : TableInvariant o rp v root) where
  -- the record of a number is in this place, and if its process doesn't share the channel nobody below does
  pub record IsPlaced (i : ℕ) (q : List ℕ) : Type 0 where
    pub first : ℕ
    pub state_is : S
    pub status : ProcessStatus
    pub has : HasProcessState v i first state_is status
    pub is_there : place o rp state_is ≡ q
    pub outside : o.shares state_is c ≡ false → Outside c (o.path state_is)

  abbrev pub ArePlaced : List ℕ → List (List ℕ) → Type 0
  ArePlaced [] [] = Unit {0}
  ArePlaced (i ∷ is) (q ∷ qs) = IsPlaced i q × ArePlaced is qs
  ArePlaced _ _ = ⊥

  pub both_placed : (is js : List ℕ) (ps qs : List (List ℕ)) → ArePlaced is ps → ArePlaced js qs → ArePlaced (is ++ js) (ps ++ qs)
  both_placed [] js [] qs f g = g
  both_placed [] js (p ∷ ps) qs f g = absurd f
  both_placed (i ∷ is) js [] qs f g = absurd f
  both_placed (i ∷ is) js (p ∷ ps) qs f g = (f.0, both_placed is js ps qs f.1 g)

  abbrev From : List ℕ → ℕ → Type 0
  From q i = SharesFrom o rp v c q i

  -- the node of a record
  node_at : (i f : ℕ) (s : S) (k : ProcessStatus) → HasProcessState v i f s k → (n : Node S) × (at (place o rp s) root ≡ Some n) × (state n ≡ s)
  node_at i f s k has = let w = seen_some (at (place o rp s) root) s k (kept.represents.agrees.shown i f s k has) in (w.0, w.1, w.2)

  -- below a process that doesn't share it nobody does
  pub none_below : (i f : ℕ) (s : S) (k : ProcessStatus) (j : ℕ) → HasProcessState v i f s k → o.shares s c ≡ false → Outside c (o.path s) → From (place o rp s) j → ⊥
  none_below i f s k j has lacks out from =
      let n = node_at i f s k has in
      let m = node_at j from.first from.state from.status from.has in
      let sound = sound_at o (place o rp s) root n.0 kept.represents.sound.below n.1 in
      let quiet = unshared_is_unshared o c n.0 sound (ap (λ z. o.shares z c) n.2 ∙ lacks) (λ r e. out r (e ∙ ap (λ z. o.path z ++ r) n.2)) in
      clash (o.shares from.state c) from.shares (ap (λ z. o.shares z c) (sym m.2) ∙ unshared_at o c from.further n.0 m.0 (sym (at_split (place o rp s) from.further root n.0 n.1) ∙ (ap (λ z. at z root) (sym from.is_there) ∙ m.1)) quiet)

  -- the children of a process that shares it are in their places
  module _ (i f : ℕ) (s : S) (k : ProcessStatus) (has : HasProcessState v i f s k) (shares : o.shares s c ≡ true) where
    abbrev its_place : List ℕ
    its_place = place o rp s

    pub child_outside : (n b : ℕ) (g : ℕ) (t : S) (h : ProcessStatus) → HasProcessState v i f s (forks n) → HasProcessState v (f + b) g t h → place o rp t ≡ its_place ++ b ∷ [] → Outside c (o.path t)
    child_outside n b g t h fork child is r e =
        let w = seen_fork (at its_place root) s n (kept.represents.agrees.shown i f s (forks n) fork) in
        let m = node_at (f + b) g t h child in
        let sound = sound_at o its_place root (Forked s w.0) kept.represents.sound.below w.1 in
        let y = child_sound o s sound.number 0 b w.0 m.0 sound.children (sym (at_split its_place (b ∷ []) root (Forked s w.0) w.1) ∙ (ap (λ z. at z root) (sym is) ∙ m.1)) in
        shared_not_below o root its_place (Forked s w.0) c kept.represents.sound w.1 shares (sound.number, y.1) r (e ∙ (ap (λ z. o.path z ++ r) (sym m.2) ∙ y.2 r))

    fork_children : (n b m : ℕ) → HasProcessState v i f s (forks n) → b + m ≡ n → ArePlaced (numbers_of_length (f + b) m) (places_from its_place b m)
    fork_children n b zero fork e = tt
    fork_children n b (suc m) fork e =
        let z = kept.represents.agrees.below i f n s fork b (omega (arith, e)) in (
          record { first = z.0; state_is = z.1; status = z.2; has = z.3; is_there = z.4; outside = λ lacks. child_outside n b z.0 z.1 z.2 fork z.3 z.4 },
          subst (λ y. ArePlaced (numbers_of_length y m) (places_from its_place (suc b) m)) (next f b) (fork_children n (suc b) m fork (omega (arith, e))),
        )
      where
        next : (f b : ℕ) → f + suc b ≡ suc (f + b)
        next f b = omega arith

    children_placed : ArePlaced (numbers_of_length f (children k)) (places_from its_place 0 (children k))
    children_placed = on k has
      where
        start : (f : ℕ) → f + 0 ≡ f
        start f = omega arith

        on : (k : ProcessStatus) → HasProcessState v i f s k → ArePlaced (numbers_of_length f (children k)) (places_from its_place 0 (children k))
        on lives h = tt
        on (forks n) h = subst (λ y. ArePlaced (numbers_of_length y n) (places_from its_place 0 n)) (start f) (fork_children n 0 n h (zero_and n))
        on ends h = tt
        on (dies d) h = tt

    -- who is below it is at or below a child
    below_child : (j : ℕ) (b : ℕ) (r : List ℕ) (g : ℕ) (t : S) (h : ProcessStatus) → HasProcessState v j g t h → place o rp t ≡ its_place ++ b ∷ r → IsAmong (its_place ++ b ∷ []) (places_from its_place 0 (children k))
    below_child j b r g t h there is =
        let m = node_at j g t h there in
        let w = fork_above its_place b r root m.0 (ap (λ z. at z root) (sym is) ∙ m.1) in
        let see : (w.state, forks (how_many_nodes w.children)) ≡ (s, k) = some_same _ _ (sym (ap seen w.there) ∙ kept.represents.agrees.shown i f s k has) in
        subst (λ z. IsAmong (its_place ++ b ∷ []) (places_from its_place 0 (children z))) (ap (λ z. z.1) see) (each_child its_place (how_many_nodes w.children) b (child_counted b r w.children m.0 w.child))

  -- what is found is at or below one of the places
  found_there : {ahead found : List ℕ} → Descends o v c ahead found → (qs : List (List ℕ)) → ArePlaced ahead qs → (j : ℕ) → IsAmong j found → (q : List ℕ) × IsAmong q qs × From q j
  found_there at_end qs placed j g = none_among j g
  found_there (passes i ahead found none more) [] placed j g = absurd placed
  found_there (passes i ahead found none more) (q ∷ qs) placed j g = let w = found_there more qs placed.1 j g in (w.0, among_later w.0 q qs w.1, w.2)
  found_there (finds i f s k ahead found has shares more) [] placed j g = absurd placed
  found_there (finds i f s k ahead found has shares more) (q ∷ qs) placed j g =
      let same : s ≡ placed.0.state_is = one_state v.states (map record_view v.records) i f placed.0.first s placed.0.state_is k placed.0.status has placed.0.has in
      let here : place o rp s ≡ q = ap (place o rp) same ∙ placed.0.is_there in
      elim (among_split j i found g) [
        | inl e ↦ (q, (0, refl), subst (From q) e (record { first = f; state = s; status = k; has = has; shares = shares; further = []; is_there = here ∙ sym (append-nil q) }))
        | inr h ↦ let w = found_there more (places_from (place o rp s) 0 (children k) ++ qs) (both_placed (numbers_of_length f (children k)) ahead (places_from (place o rp s) 0 (children k)) qs (children_placed i f s k has shares) placed.1) j h in
            elim (among_parts w.0 (places_from (place o rp s) 0 (children k)) qs w.1) [
              | inl u ↦
                  let b = any_child (place o rp s) w.0 (children k) u in (
                    q,
                    (0, refl),
                    record {
                      first = w.2.first;
                      state = w.2.state;
                      status = w.2.status;
                      has = w.2.has;
                      shares = w.2.shares;
                      further = b.0 ∷ w.2.further;
                      is_there = w.2.is_there ∙ (ap (λ z. z ++ w.2.further) b.1 ∙ (append_assoc (place o rp s) (b.0 ∷ []) w.2.further ∙ ap (λ z. z ++ b.0 ∷ w.2.further) here));
                    },
                  )
              | inr u ↦ (w.0, among_later w.0 q qs u, w.2)
            ]
      ]

  -- and who is there and shares the channel is found
  all_found : {ahead found : List ℕ} → Descends o v c ahead found → (qs : List (List ℕ)) → ArePlaced ahead qs → (q : List ℕ) → IsAmong q qs → (j : ℕ) → From q j → IsAmong j found
  all_found at_end [] placed q g j from = none_among q g
  all_found at_end (p ∷ qs) placed q g j from = absurd placed
  all_found (passes i ahead found none more) [] placed q g j from = absurd placed
  all_found (passes i ahead found none more) (p ∷ qs) placed q g j from = elim (among_split q p qs g) [
    | inl e ↦
        let x = placed.0 in
        let lacks = none x.first x.state_is x.status x.has in
        absurd (none_below i x.first x.state_is x.status j x.has lacks (x.outside lacks) (subst (λ z. From z j) (sym e ∙ sym x.is_there) from))
    | inr h ↦ all_found more qs placed.1 q h j from
  ]
  all_found (finds i f s k ahead found has shares more) [] placed q g j from = absurd placed
  all_found (finds i f s k ahead found has shares more) (p ∷ qs) placed q g j from =
      let same : s ≡ placed.0.state_is = one_state v.states (map record_view v.records) i f placed.0.first s placed.0.state_is k placed.0.status has placed.0.has in
      let here : place o rp s ≡ p = ap (place o rp) same ∙ placed.0.is_there in
      let places = places_from (place o rp s) 0 (children k) in
      let next = both_placed (numbers_of_length f (children k)) ahead places qs (children_placed i f s k has shares) placed.1 in
      elim (among_split q p qs g) [
        | inl e ↦ on (all_found more) next from.further (from.is_there ∙ ap (λ z. z ++ from.further) (sym e ∙ sym here))
        | inr h ↦ among_later j i found (all_found more (places ++ qs) next q (among_right q places qs h) j from)
      ]
    where
      on : ((ps : List (List ℕ)) → ArePlaced (numbers_of_length f (children k) ++ ahead) ps → (y : List ℕ) → IsAmong y ps → (j : ℕ) → From y j → IsAmong j found) → ArePlaced (numbers_of_length f (children k) ++ ahead) (places_from (place o rp s) 0 (children k) ++ qs) → (r : List ℕ) → place o rp from.state ≡ place o rp s ++ r → IsAmong j (i ∷ found)
      on ih next [] is = (0, ap Some (kept.represents.agrees.apart i j f from.first s from.state k from.status has from.has (sym (is ∙ append-nil (place o rp s)))))
      on ih next (b ∷ r) is =
          let child = below_child i f s k has shares j b r from.first from.state from.status from.has is in
          among_later j i found (ih (places_from (place o rp s) 0 (children k) ++ qs) next (place o rp s ++ b ∷ []) (among_left (place o rp s ++ b ∷ []) (places_from (place o rp s) 0 (children k)) qs child) j
          (record { first = from.first; state = from.state; status = from.status; has = from.has; shares = from.shares; further = r; is_there = is ∙ sym (append_assoc (place o rp s) (b ∷ []) r) }))

  -- in order, where the places are
  found_in_order : {ahead found : List ℕ} → Descends o v c ahead found → (qs : List (List ℕ)) → ArePlaced ahead qs → InOrder LeftOf qs → InOrder (Precedes o rp v) found
  found_in_order at_end qs placed left = tt
  found_in_order (passes i ahead found none more) [] placed left = absurd placed
  found_in_order (passes i ahead found none more) (q ∷ qs) placed left = found_in_order more qs placed.1 left.1
  found_in_order (finds i f s k ahead found has shares more) [] placed left = absurd placed
  found_in_order (finds i f s k ahead found has shares more) (q ∷ qs) placed left =
      let same : s ≡ placed.0.state_is = one_state v.states (map record_view v.records) i f placed.0.first s placed.0.state_is k placed.0.status has placed.0.has in
      let here : place o rp s ≡ q = ap (place o rp) same ∙ placed.0.is_there in
      let places = places_from (place o rp s) 0 (children k) in
      let next = both_placed (numbers_of_length f (children k)) ahead places qs (children_placed i f s k has shares) placed.1 in
      let left' : (p : List ℕ) → IsAmong p qs → LeftOf (place o rp s) p = λ p g. subst (λ z. LeftOf z p) (sym here) (left.0 p g) in (
        (λ j g x y t u a b mine its.
            let w = found_there more (places ++ qs) next j g in
            let is_s : t ≡ s = one_state v.states (map record_view v.records) i x f t s a k mine has in
            let is_its : u ≡ w.2.state = one_state v.states (map record_view v.records) j y w.2.first u w.2.state b w.2.status its w.2.has in
            (λ z. is_before (place o rp (is_s z)) (place o rp (is_its z)))
            ∙ elim (among_parts w.0 places qs w.1) [
              | inl h ↦
                  let d = any_child (place o rp s) w.0 (children k) h in
                  ap (is_before (place o rp s)) (w.2.is_there ∙ (ap (λ z. z ++ w.2.further) d.1 ∙ append_assoc (place o rp s) (d.0 ∷ []) w.2.further)) ∙ before_below (place o rp s) d.0 w.2.further
              | inr h ↦ (λ z. is_before (sym (append-nil (place o rp s)) z) (w.2.is_there z)) ∙ left' w.0 h [] w.2.further
            ]),
        found_in_order more (places ++ qs) next
            (both_in_order LeftOf places qs (children_in_order (place o rp s) 0 (children k)) left.1 (λ p r g h.
            let d = any_child (place o rp s) p (children k) g in
            subst (λ z. LeftOf z r) (sym d.1) (child_left (place o rp s) r d.0 (left' r h)))),
      )

pub descents_find : {S : Type 0} (o : Ops S) → DescentsFind o
descents_find o v c i found descends rp root f s k kept has shares =
    let q = place o rp s in
    let placed : ArePlaced o rp v c root kept (i ∷ []) (q ∷ []) = (
      record { first = f; state_is = s; status = k; has = has; is_there = refl; outside = λ lacks. clash (o.shares s c) shares lacks },
      tt,
    ) in
    record {
      only = λ j g. let w = found_there o rp v c root kept descends (q ∷ []) placed j g in elim (among_split w.0 q [] w.1) [ inl e ↦ subst (λ z. SharesFrom o rp v c z j) (sym e) w.2 | inr h ↦ none_among w.0 h ];
      all = λ j from. all_found o rp v c root kept descends (q ∷ []) placed q (0, refl) j from;
      ordered = found_in_order o rp v c root kept descends (q ∷ []) placed ((λ p g. none_among p g), tt);
    }
