-- What a walk by the forks' knowledge finds: each number once, and all that are at the channel.
use Rattle.std.proofs.Common.{◌≡◌, ◌<◌, ◌≤◌, ℕ, zero, suc, ◌+◌, ◌-◌, true, false, Some, List, [], ◌∷◌, ◌++◌, map, inl, inr, refl, sym, ap, subst, ◌∙◌, arith}
use Rattle.std.proofs.lemmas.List.{append_assoc, append-nil}
use Rattle.shim_base.specs.Paths.{Path, Channel}
use Rattle.shim_base.proofs.Facts.{true_or_false}
use Rattle.shim_local.specs.Process.{Ops}
use Rattle.shim_local.specs.Laws.{LocalLaws}
use Rattle.shim_semantics.specs.Nodes.{Node, Live}
use Rattle.shim_semantics.specs.Places.{at}
use Rattle.shim_semantics.proofs.Replaced.{sound_at}
use Rattle.shim_semantics.proofs.HowMany.{clash}
use Rattle.shim_laws_schedules.proofs.Homes.{Outside}
use Rattle.shim_laws_schedules.proofs.Unshared.{stands_shares}
use Rattle.shim_laws_table.specs.NodeStatus.{ProcessStatus, lives, forks, place}
use Rattle.shim_laws_table.specs.Sources.{is_before}
use Rattle.shim_laws_table.proofs.SameTrees.{seen_live, seen_fork}
use Rattle.shim_laws_table.proofs.OneChange.{one_state, one_status}
use Rattle.shim_laws_table.proofs.Hanging.{tree_of}
use Rattle.shim_records.specs.Members.{IsAmong}
use Rattle.shim_records.specs.Pairs.{record_view, known_in}
use Rattle.shim_records.specs.declared.pair.Sharing.{Sharing}
use Rattle.shim_laws_table_events.specs.keeping.Tables.{TableView, HasProcessState, TableInvariant}
use Rattle.shim_laws_table_events.proofs.keeping.Knowing.{known_shares}
use Rattle.shim_laws_table_events.specs.meetings.Descents.{numbers_of_length}
use Rattle.shim_laws_table_events.specs.meetings.Sharers.{InOrder, AreDistinct}
use Rattle.shim_laws_table_events.specs.meetings.Plans.{how_many_between, children_between, IsSkipped, Plans, at_end, passes, finds, goes_below, PlansFind}
use Rattle.shim_laws_table_events.proofs.meetings.Among.{none_among, among_later, among_split, not_before}
use Rattle.shim_laws_table_events.proofs.meetings.AtHome.{below_home, home_shares, can_meet}
use Rattle.shim_laws_table_events.proofs.meetings.BelowForks.{ForkOver, fork_over, fork_knows, child_between}
use Rattle.shim_laws_table_events.proofs.meetings.Descents.{among_parts, among_left, among_right, both_in_order, LeftOf, child_left, places_from, place_of_child, child_place, children_in_order, IsPlaced, ArePlaced, both_placed, none_below, child_outside}

not_both : {A : Type 0} (n : ℕ) → lives ≡ forks n → A
not_both n e = absurd cc

count_fits : (last first m n : ℕ) → (last + 1) - first ≡ suc m → last < n → first + suc m ≤ n
count_fits last first m n e less = omega (arith, e, less)

behind_first : (first b last : ℕ) → first ≤ b → b ≤ last → (d : ℕ) × (b ≡ first + d) × (d < (last + 1) - first)
behind_first first b last low high = (b - first, omega (arith, low), omega (arith, low, high))

module _ {S : Type 0} (o : Ops S) (law : LocalLaws o) (rp : Path) (v : TableView S) (c : Channel) (root : Node S) (kept : TableInvariant o rp v root) where
  -- the process with this number lives, and its place is q or further along
  pub record LivesFrom (q : List ℕ) (i : ℕ) : Type 0 where
    pub first : ℕ
    pub state : S
    pub has : HasProcessState v i first state lives
    pub further : List ℕ
    pub is_there : place o rp state ≡ q ++ further

  abbrev PlacedAt : ℕ → List ℕ → Type 0
  PlacedAt = IsPlaced o rp v c root kept

  abbrev AllPlaced : List ℕ → List (List ℕ) → Type 0
  AllPlaced = ArePlaced o rp v c root kept

  placed_state : (i f : ℕ) (s : S) (k : ProcessStatus) (q : List ℕ) → HasProcessState v i f s k → PlacedAt i q → place o rp s ≡ q
  placed_state i f s k q has placed = ap (place o rp) (one_state v.states (map record_view v.records) i f placed.first s placed.state_is k placed.status has placed.has) ∙ placed.is_there

  -- ---- the children of a fork between two branches

  module _ (i f n : ℕ) (s : S) (k : Sharing) (has : HasProcessState v i f s (forks n)) (knows : known_in c v.records i ≡ Some k) where
    shares : o.shares s c ≡ true
    shares = known_shares o rp v root c kept i f n s k has knows

    some_children : (b m : ℕ) → b + m ≤ n → AllPlaced (numbers_of_length (f + b) m) (places_from (place o rp s) b m)
    some_children b zero inside = tt
    some_children b (suc m) inside =
        let z = kept.represents.agrees.below i f n s has b (omega (arith, inside)) in (
          record { first = z.0; state_is = z.1; status = z.2; has = z.3; is_there = z.4; outside = λ lacks. child_outside o rp v c root kept i f s (forks n) has shares n b z.0 z.1 z.2 has z.3 z.4 },
          subst (λ y. AllPlaced (numbers_of_length y m) (places_from (place o rp s) (suc b) m)) (next f b) (some_children (suc b) m (omega (arith, inside))),
        )
      where
        next : (f b : ℕ) → f + suc b ≡ suc (f + b)
        next f b = omega arith

    abbrev its_places : List (List ℕ)
    its_places = places_from (place o rp s) k.first (how_many_between k)

    within : k.last < n
    within =
        let w = seen_fork (at (place o rp s) root) s n (kept.represents.agrees.shown i f s (forks n) has) in
        subst (λ z. k.last < z) w.2 (kept.known c i f n s k s w.0 has knows w.1).within

    children_placed : AllPlaced (children_between f k) its_places
    children_placed = on (how_many_between k) refl
      where
        on : (m : ℕ) → how_many_between k ≡ m → AllPlaced (numbers_of_length (f + k.first) m) (places_from (place o rp s) k.first m)
        on zero e = tt
        on (suc m) e = some_children k.first (suc m) (count_fits k.last k.first m n e within)

    -- a child's place is among these, where its branch is
    among_places : (b : ℕ) → k.first ≤ b → b ≤ k.last → IsAmong (place o rp s ++ b ∷ []) its_places
    among_places b low high =
        let w = behind_first k.first b k.last low high in
        subst (λ z. IsAmong (place o rp s ++ z ∷ []) its_places) (sym w.1) (child_place (place o rp s) k.first (how_many_between k) w.0 w.2)

    -- and whatever is from there on is below the fork
    from_there : (q : List ℕ) (j : ℕ) → IsAmong q its_places → LivesFrom q j → LivesFrom (place o rp s) j
    from_there q j g w =
        let d = place_of_child (place o rp s) q k.first (how_many_between k) g in
        record { first = w.first; state = w.state; has = w.has; further = (k.first + d.0) ∷ w.further; is_there = w.is_there ∙ (ap (λ z. z ++ w.further) d.1 ∙ append_assoc (place o rp s) ((k.first + d.0) ∷ []) w.further) }

  from_same : (q p : List ℕ) (j : ℕ) → q ≡ p → LivesFrom q j → LivesFrom p j
  from_same q p j e w = subst (λ z. LivesFrom z j) e w

  -- ---- what is found is at or below one of the places

  pub record FoundAt (qs : List (List ℕ)) (j : ℕ) : Type 0 where
    pub from : List ℕ
    pub among : IsAmong from qs
    pub lives_there : LivesFrom from j

  later : (q : List ℕ) (qs : List (List ℕ)) (j : ℕ) → FoundAt qs j → FoundAt (q ∷ qs) j
  later q qs j w = record { from = w.from; among = among_later w.from q qs w.among; lives_there = w.lives_there }

  found_there : {ahead found : List ℕ} → Plans v c ahead found → (qs : List (List ℕ)) → AllPlaced ahead qs → (j : ℕ) → IsAmong j found → FoundAt qs j
  found_there at_end qs placed j g = none_among j g
  found_there (passes i ahead found none more) [] placed j g = absurd placed
  found_there (passes i ahead found none more) (q ∷ qs) placed j g = later q qs j (found_there more qs placed.1 j g)
  found_there (finds i f s ahead found has more) [] placed j g = absurd placed
  found_there (finds i f s ahead found has more) (q ∷ qs) placed j g = elim (among_split j i found g) [
    | inl e ↦ record { from = q; among = (0, refl); lives_there = subst (LivesFrom q) e (record { first = f; state = s; has = has; further = []; is_there = placed_state i f s lives q has placed.0 ∙ sym (append-nil q) }) }
    | inr h ↦ later q qs j (found_there more qs placed.1 j h)
  ]
  found_there (goes_below i f n s k ahead found has knows more) [] placed j g = absurd placed
  found_there (goes_below i f n s k ahead found has knows more) (q ∷ qs) placed j g =
      let places = its_places i f n s k has knows in
      let w = found_there more (places ++ qs) (both_placed o rp v c root kept (children_between f k) ahead places qs (children_placed i f n s k has knows) placed.1) j g in
      elim (among_parts w.from places qs w.among) [
        | inl u ↦ record { from = q; among = (0, refl); lives_there = from_same (place o rp s) q j (placed_state i f s (forks n) q has placed.0) (from_there i f n s k has knows w.from j u w.lives_there) }
        | inr u ↦ later q qs j (record { from = w.from; among = u; lives_there = w.lives_there })
      ]

  -- ---- none twice

  distinct_found : {ahead found : List ℕ} → Plans v c ahead found → (qs : List (List ℕ)) → AllPlaced ahead qs → InOrder LeftOf qs → AreDistinct found
  distinct_found at_end qs placed left = tt
  distinct_found (passes i ahead found none more) [] placed left = absurd placed
  distinct_found (passes i ahead found none more) (q ∷ qs) placed left = distinct_found more qs placed.1 left.1
  distinct_found (finds i f s ahead found has more) [] placed left = absurd placed
  distinct_found (finds i f s ahead found has more) (q ∷ qs) placed left = (
    (λ j g same.
        let w = found_there more qs placed.1 j g in
        let u = w.lives_there in
        let is_s : u.state ≡ s = one_state v.states (map record_view v.records) j u.first f u.state s lives lives u.has (subst (λ z. HasProcessState v z f s lives) same has) in
        let here : place o rp s ≡ q = placed_state i f s lives q has placed.0 in
        let there : place o rp s ≡ w.from ++ u.further = ap (place o rp) (sym is_s) ∙ u.is_there in
        clash (is_before (place o rp s) (place o rp s)) ((λ z. is_before ((here ∙ sym (append-nil q)) z) (there z)) ∙ left.0 w.from w.among [] u.further) (not_before (place o rp s))),
    distinct_found more qs placed.1 left.1,
  )
  distinct_found (goes_below i f n s k ahead found has knows more) [] placed left = absurd placed
  distinct_found (goes_below i f n s k ahead found has knows more) (q ∷ qs) placed left =
      let places = its_places i f n s k has knows in
      let here : place o rp s ≡ q = placed_state i f s (forks n) q has placed.0 in
      distinct_found more (places ++ qs) (both_placed o rp v c root kept (children_between f k) ahead places qs (children_placed i f n s k has knows) placed.1)
      (both_in_order LeftOf places qs (children_in_order (place o rp s) k.first (how_many_between k)) left.1 (λ p r g h.
      let d = place_of_child (place o rp s) p k.first (how_many_between k) g in
      subst (λ z. LeftOf z r) (sym d.1) (child_left (place o rp s) r (k.first + d.0) (subst (λ z. LeftOf z r) (sym here) (left.0 r h)))))

  -- ---- all are found

  -- the process with this number lives and shares the channel, from the place q on
  pub record SharesAlive (q : List ℕ) (j : ℕ) : Type 0 where
    pub alive : LivesFrom q j
    pub shares_it : o.shares alive.state c ≡ true

  at_it : (i f : ℕ) (s : S) (k : ProcessStatus) (j : ℕ) → HasProcessState v i f s k → (w : LivesFrom (place o rp s) j) → w.further ≡ [] → j ≡ i
  at_it i f s k j has w e = kept.represents.agrees.apart j i w.first f w.state s lives k w.has has (w.is_there ∙ (ap (λ z. place o rp s ++ z) e ∙ append-nil (place o rp s)))

  over_it : (i f : ℕ) (s : S) (k : ProcessStatus) (j : ℕ) → HasProcessState v i f s k → (w : LivesFrom (place o rp s) j) (b : ℕ) (r : List ℕ) → w.further ≡ b ∷ r → ForkOver o law rp v root kept i f s k b
  over_it i f s k j has w b r e = fork_over o law rp v root kept i f s k has j w.first w.state lives w.has b r (w.is_there ∙ ap (λ z. place o rp s ++ z) e)

  -- nobody is at or below who was passed by
  not_passed : (i f : ℕ) (s : S) (k : ProcessStatus) (j : ℕ) → HasProcessState v i f s k → IsSkipped v c i → (o.shares s c ≡ false → Outside c (o.path s)) → SharesAlive (place o rp s) j → ⊥
  not_passed i f s k j has none outside w = on w.alive.further refl
    where
      on : (x : List ℕ) → w.alive.further ≡ x → ⊥
      on [] e = none.not_live w.alive.first w.alive.state (subst (λ z. HasProcessState v z w.alive.first w.alive.state lives) (at_it i f s k j has w.alive e) w.alive.has)
      on (b ∷ r) e = elim (true_or_false (o.shares s c)) [
        | inl shares ↦
            let over = over_it i f s k j has w.alive b r e in
            fork_knows o law rp v root kept c i f s k has shares j w.alive.first w.alive.state lives w.alive.has w.shares_it b r (w.alive.is_there ∙ ap (λ z. place o rp s ++ z) e)
            (none.unknown f over.many s (subst (HasProcessState v i f s) over.forked has))
        | inr lacks ↦
            none_below o rp v c root kept i f s k j has lacks (outside lacks)
            (record { first = w.alive.first; state = w.alive.state; status = lives; has = w.alive.has; shares = w.shares_it; further = w.alive.further; is_there = w.alive.is_there })
      ]

  all_found : {ahead found : List ℕ} → Plans v c ahead found → (qs : List (List ℕ)) → AllPlaced ahead qs → (q : List ℕ) → IsAmong q qs → (j : ℕ) → SharesAlive q j → IsAmong j found
  all_found at_end [] placed q g j w = none_among q g
  all_found at_end (p ∷ qs) placed q g j w = absurd placed
  all_found (passes i ahead found none more) [] placed q g j w = absurd placed
  all_found (passes i ahead found none more) (p ∷ qs) placed q g j w = elim (among_split q p qs g) [
    | inl e ↦
        let x = placed.0 in
        absurd (not_passed i x.first x.state_is x.status j x.has none x.outside (subst (λ z. SharesAlive z j) (sym e ∙ sym x.is_there) w))
    | inr h ↦ all_found more qs placed.1 q h j w
  ]
  all_found (finds i f s ahead found has more) [] placed q g j w = absurd placed
  all_found (finds i f s ahead found has more) (p ∷ qs) placed q g j w = elim (among_split q p qs g) [
    | inl e ↦ found_itself (subst (λ z. SharesAlive z j) (sym e ∙ sym (placed_state i f s lives p has placed.0)) w)
    | inr h ↦ among_later j i found (all_found more qs placed.1 q h j w)
  ]
    where
      found_itself : SharesAlive (place o rp s) j → IsAmong j (i ∷ found)
      found_itself u = on u.alive.further refl
        where
          on : (x : List ℕ) → u.alive.further ≡ x → IsAmong j (i ∷ found)
          on [] y = (0, ap Some (sym (at_it i f s lives j has u.alive y)))
          on (b ∷ r) y = let over = over_it i f s lives j has u.alive b r y in not_both over.many over.forked
  all_found (goes_below i f n s k ahead found has knows more) [] placed q g j w = absurd placed
  all_found (goes_below i f n s k ahead found has knows more) (p ∷ qs) placed q g j w =
      let places = its_places i f n s k has knows in
      let placed' = both_placed o rp v c root kept (children_between f k) ahead places qs (children_placed i f n s k has knows) placed.1 in
      elim (among_split q p qs g) [
        | inl e ↦
            let u = subst (λ z. SharesAlive z j) (sym e ∙ sym (placed_state i f s (forks n) p has placed.0)) w in
            let x = below_fork i f n s k has knows j u in
            all_found more (places ++ qs) placed' x.0 (among_left x.0 places qs x.1) j x.2
        | inr h ↦ all_found more (places ++ qs) placed' q (among_right q places qs h) j w
      ]
    where
      below_fork : (i f n : ℕ) (s : S) (k : Sharing) (has : HasProcessState v i f s (forks n)) (knows : known_in c v.records i ≡ Some k) (j : ℕ) → SharesAlive (place o rp s) j → (q : List ℕ) × IsAmong q (its_places i f n s k has knows) × SharesAlive q j
      below_fork i f n s k has knows j u = on u.alive.further refl
        where
          on : (x : List ℕ) → u.alive.further ≡ x → (q : List ℕ) × IsAmong q (its_places i f n s k has knows) × SharesAlive q j
          on [] y =
              let same = at_it i f s (forks n) j has u.alive y in
              not_both n (one_status v.states (map record_view v.records) i u.alive.first f u.alive.state s lives (forks n) (subst (λ z. HasProcessState v z u.alive.first u.alive.state lives) same u.alive.has) has)
          on (b ∷ r) y =
              let is : place o rp u.alive.state ≡ place o rp s ++ b ∷ r = u.alive.is_there ∙ ap (λ z. place o rp s ++ z) y in
              let w = child_between o law rp v root kept c i f s (forks n) has (shares i f n s k has knows) j u.alive.first u.alive.state lives u.alive.has u.shares_it b r is k knows in (
                place o rp s ++ b ∷ [],
                among_places i f n s k has knows b w.0 w.1,
                record { alive = record { first = u.alive.first; state = u.alive.state; has = u.alive.has; further = r; is_there = is ∙ sym (append_assoc (place o rp s) (b ∷ []) r) }; shares_it = u.shares_it },
              )

pub plans_find : {S : Type 0} (o : Ops S) → LocalLaws o → PlansFind o
plans_find {S} o law v c i found home enabled plans rp root kept =
    let views = map record_view v.records in
    let shares : o.shares home.state c ≡ true = home_shares o rp v.states views root kept.represents law c i home.first home.state home.status home.has home.its (can_meet o (tree_of o root) c (enabled rp (tree_of o root) kept)).0 in
    let q = place o rp home.state in
    let placed : ArePlaced o rp v c root kept (i ∷ []) (q ∷ []) = (
      record { first = home.first; state_is = home.state; status = home.status; has = home.has; is_there = refl; outside = λ lacks. clash (o.shares home.state c) shares lacks },
      tt,
    ) in
    record {
      distinct = distinct_found o law rp v c root kept plans (q ∷ []) placed ((λ p g. none_among p g), tt);
      all = λ j f l has e.
          let there = seen_live (at (place o rp l) root) l (kept.represents.agrees.shown j f l lives has) in
          let its = stands_shares o law c l (sound_at o (place o rp l) root (Live l) kept.represents.sound.below there) e in
          let w = below_home o rp v.states views root kept.represents c i j home.first f home.state l home.status lives home.has home.its has its in
          all_found o law rp v c root kept plans (q ∷ []) placed q (0, refl) j (record { alive = record { first = f; state = l; has = has; further = w.0; is_there = w.1 }; shares_it = its });
    }
