-- What a fork leaves: the parent has what a process has that waits for children, and each child is whole.
use Rattle.std.proofs.Common.{◌≡◌, ◌∙◌, ℕ, ◌+◌, ◌≤◌, ◌⊎◌, inl, inr, List, [], ◌∷◌, length, Some, Ok, refl, sym, ap, subst, arith}
use Rattle.std.specs.Prelude.{slice_get}
use Rattle.shim_base.specs.Paths.{Channel, NamedChannel}
use Rattle.shim_local.specs.Laws.{AllOf, Forks}
use Rattle.shim_semantics.specs.Nodes.{Forked, states, all_live}
use Rattle.shim_units.specs.declared.unit.Unit.{Unit as UnitOf}
use Rattle.shim_units.specs.declared.unit.UBranch.{UBranch}
use Rattle.shim_process.specs.Locations.{Location, Locations, Lent, at_number}
use Rattle.shim_process.specs.LocalState.{LocalState, Frame, unit_at}
use Rattle.shim_process.specs.Arguments.{Argument, branch_locations, declared_slots}
use Rattle.shim_process.specs.Forks.{lent, item_branches, all_arguments, child, children_from, lending, all_lending, parent}
use Rattle.shim_process.specs.Sound.{Sound}
use Rattle.shim_process.specs.Ops.{process_ops}
use Rattle.shim_process.proofs.ChildGiven.{Given, before_empties, given_where}
use Rattle.shim_process.proofs.ChildPlaces.{Taken, origin}
use Rattle.shim_process.proofs.ChildSound.{below, all_apart}
use Rattle.shim_process.proofs.ForkKeeps.{kept_sound}
use Rattle.shim_process.proofs.ForkLending.{given_away, Suit, all_suit, lends_one}
use Rattle.shim_laws_sources.proofs.Ownerships.{own_not_copy, own_not_lent, copy_not_lent}
use Rattle.shim_process.specs.FittingFrames.{parameters_of}
use Rattle.shim_laws_sources.specs.Anchored.{IsAnchored, IsAnchoredWhole, Stays}
use Rattle.shim_laws_sources.specs.Homes.{GivesBack, OneGivesBack, HasOn, IsGivenBy, IsHome, AreHome}
use Rattle.shim_laws_sources.proofs.AtPlaces.{Onward, onward_same, onward_both}
use Rattle.shim_process.proofs.ChildChannels.{stand_child}
use Rattle.shim_process.proofs.ChildFitting.{child_parameters, child_fitting}
use Rattle.shim_laws_sources.proofs.LendingPlaces.{lent_onward, WasLent, branch_back, branch_kind}
use Rattle.shim_laws_sources.proofs.WholeEnds.{stays_same, stays_both}
use Rattle.shim_laws_sources.proofs.WholeStores.{onward_anchored, onward_stays}
use Rattle.shim_process.proofs.ForkArguments.{AllMatch, fork_matches}
use Rattle.shim_process.proofs.ForkParts.{Parts, parts_of}
use Rattle.shim_process.proofs.ForkLaws.{lends_keeps}

-- the branches of the fork at which the process stands
abbrev branches : LocalState → List UBranch
branches l = item_branches l.frame.todo

-- what is left after branches

lending_sound : (m : LocalState) (b : UBranch) → Sound m → Sound (lending m b)
lending_sound m b s = kept_sound m (lending m b) (lends_keeps m (lending m b) (lends_one m b)) s

one_onward : (m : LocalState) (b : UBranch) → Onward m.locations (lending m b).locations
one_onward m b = lent_onward m.frame.slots (unit_at m.program b.call.unit).params b.call.args m.locations

all_onward : (m : LocalState) (bs : List UBranch) → Onward m.locations (all_lending m bs).locations
all_onward m [] = onward_same m.locations
all_onward m (b ∷ bs) = onward_both m.locations (lending m b).locations (all_lending (lending m b) bs).locations (one_onward m b) (all_onward (lending m b) bs)

lending_anchored : (m : LocalState) (b : UBranch) → IsAnchored m → IsAnchored (lending m b)
lending_anchored m b h = onward_anchored m (lending m b).locations h (one_onward m b)

all_anchored : (m : LocalState) (bs : List UBranch) → IsAnchored m → IsAnchored (all_lending m bs)
all_anchored m [] h = h
all_anchored m (b ∷ bs) h = all_anchored (lending m b) bs (lending_anchored m b h)

lending_stays : (m : LocalState) (b : UBranch) → Stays m (lending m b)
lending_stays m b = let w : Stays m (record m { locations = (lending m b).locations }) = onward_stays m (lending m b).locations (one_onward m b) in record { path = refl; given = refl; many = refl; owned = w.owned }

all_stays : (m : LocalState) (bs : List UBranch) → Stays m (all_lending m bs)
all_stays m [] = stays_same m
all_stays m (b ∷ bs) = stays_both m (lending m b) (all_lending (lending m b) bs) (lending_stays m b) (all_stays (lending m b) bs)

same_slots : (m : LocalState) (bs : List UBranch) → (all_lending m bs).frame ≡ m.frame
same_slots m [] = refl
same_slots m (b ∷ bs) = same_slots (lending m b) bs

-- a child

child_whole : (m : LocalState) (i : ℕ) (b : UBranch) (g : List Argument) → Sound m → IsAnchored m → length g ≡ length (unit_at m.program b.call.unit).params → IsAnchoredWhole (child m i b g)
child_whole m i b g s h many =
    let u : UnitOf = unit_at m.program b.call.unit in
    let passed : Locations = branch_locations (below m i) m.locations 0 g in (
      record {
        fitting = child_fitting m i b g h.fitting many;
        anchors = λ n x e ownership home. elim (branch_kind (below m i) m.locations 0 g n x (before_empties passed (declared_slots u) n x e)) [
          | inl is ↦ own_not_copy x.ownership is ownership
          | inr w ↦ absurd (all_apart m i s w.1.number w.1.place w.1.at (ap (λ (d : NamedChannel). d.channel.home) w.1.on ∙ home))
        ];
      },
      λ n x e lent. elim (branch_kind (below m i) m.locations 0 g n x (before_empties passed (declared_slots u) n x e)) [
        | inl is ↦ own_not_lent x.ownership is lent
        | inr w ↦ copy_not_lent x.ownership w.0 lent
      ],
    )

has_onward : (xs ys : Locations) (c : Channel) → Onward xs ys → HasOn xs c → HasOn ys c
has_onward xs ys c f w = let a = f.ahead w.number w.place w.at in record { number = w.number; place = a.place; at = a.at; on = ap (λ (d : NamedChannel). d.channel) a.channel ∙ w.on }

-- what a child is given is its own, or its parent has a location on it
child_given : (m : LocalState) (i : ℕ) (b : UBranch) (g : List Argument) (at : ℕ) (d : NamedChannel) → slice_get (child m i b g).given at ≡ Some d → (d.channel.home ≡ below m i) ⊎ HasOn m.locations d.channel
child_given m i b g at d e =
    let passed : Locations = branch_locations (below m i) m.locations 0 g in
    let w : Given passed d = given_where passed at d e in
    elim (origin (below m i) m.locations 0 g w.number w.place w.at) [
      | inl o ↦
          let t : Taken m.locations o.0 w.place = o.1 in
          inr (record { number = o.0; place = t.was; at = t.at; on = ap (λ (c : NamedChannel). c.channel) (t.channel ∙ w.on) })
      | inr o ↦ inl (sym (ap (λ (c : NamedChannel). c.channel.home) w.on) ∙ o.home)
    ]

abbrev IsWell : LocalState → LocalState → Type 0
IsWell p k = IsAnchoredWhole k × IsGivenBy p k

all_well : (m : LocalState) (i : ℕ) (bs : List UBranch) (given : List (List Argument)) → Sound m → IsAnchored m → AllMatch m.frame.slots m.program bs given → AllOf (IsWell (all_lending m bs)) (children_from m i bs given)
all_well m i [] given s h match = tt
all_well m i (b ∷ bs) [] s h match = tt
all_well m i (b ∷ bs) (g ∷ gs) s h match = (
  (
    child_whole m i b g s h match.0.many,
    λ at d e. elim (child_given m i b g at d e) [
      | inl here ↦ inl here
      | inr w ↦ inr (has_onward m.locations (all_lending m (b ∷ bs)).locations d.channel (all_onward m (b ∷ bs)) w)
    ],
  ),
  all_well (lending m b) (i + 1) bs gs (lending_sound m b s) (lending_anchored m b h) match.1,
)

-- what is lent comes back

within_parameters : (g p k : ℕ) → g ≡ p → k ≡ p → 0 + g ≤ k
within_parameters g p k e f = omega (arith, e, f)

-- the channel's own variable comes back from one of these, or it was lent before
lent_back : (m : LocalState) (i : ℕ) (bs : List UBranch) (given : List (List Argument)) (n : ℕ) (x : Location) → Suit m.frame.slots m.program bs given → AllMatch m.frame.slots m.program bs given
    → at_number (all_lending m bs).locations n ≡ Some x → x.ownership ≡ Lent → WasLent m.locations n x ⊎ OneGivesBack m.frame.slots bs (children_from m i bs given) n x.channel.channel
lent_back m i [] given n x suit match e lent = inl (record { place = x; at = e; channel = refl; lent = lent })
lent_back m i (b ∷ bs) [] n x suit match e lent = absurd suit
lent_back m i (b ∷ bs) (g ∷ gs) n x suit match e lent =
    let k : LocalState = child m i b g in
    let passed : Locations = branch_locations (below m i) m.locations 0 g in
    elim (lent_back (lending m b) (i + 1) bs gs n x suit.1 match.1 e lent) [
      | inl was ↦
          let there : at_number (given_away g m.locations) n ≡ Some was.place = ap (λ (xs : Locations). at_number xs n) (sym (suit.0 m.locations)) ∙ was.at in
          elim (branch_back m.frame.slots b.call.args g (below m i) m.locations 0 0 k n was.place match.0.matches (stand_child passed (declared_slots (unit_at m.program b.call.unit)))
          (within_parameters (length g) (length (unit_at m.program b.call.unit).params) (parameters_of k) match.0.many (child_parameters m i b g)) there was.lent) [
            | inl w ↦ inl (record { place = w.place; at = w.at; channel = w.channel ∙ was.channel; lent = w.lent })
            | inr w ↦ inr (inl (subst (λ (d : NamedChannel). GivesBack m.frame.slots 0 b.call.args k n d.channel) was.channel w))
          ]
      | inr w ↦ inr (inr w)
    ]

-- after the fork

all_whole : (p : LocalState) (ks : List LocalState) → AllOf (IsWell p) ks → AreHome (all_live ks)
all_whole p [] h = tt
all_whole p (k ∷ ks) h = (h.0.0, all_whole p ks h.1)

all_given : (p q : LocalState) (ks : List LocalState) → q.locations ≡ p.locations → AllOf (IsWell p) ks → AllOf (IsGivenBy q) (states (all_live ks))
all_given p q [] same h = tt
all_given p q (k ∷ ks) same h = (λ at d e. elim (h.0.1 at d e) [ inl here ↦ inl here | inr w ↦ inr (subst (λ (xs : Locations). HasOn xs d.channel) (sym same) w) ], all_given p q ks same h.1)

states_live : (ks : List LocalState) → states (all_live ks) ≡ ks
states_live [] = refl
states_live (k ∷ ks) = ap (λ z. k ∷ z) (states_live ks)

parted_waits : (l : LocalState) (given : List (List Argument)) → Sound l → IsAnchoredWhole l → all_arguments l (branches l) ≡ Ok given → IsHome (Forked (parent l (branches l)) (all_live (children_from l 0 (branches l) given)))
parted_waits l given s h e =
    let bs : List UBranch = branches l in
    let kids : List LocalState = children_from l 0 bs given in
    let match : AllMatch l.frame.slots l.program bs given = fork_matches l given h.0.fitting e in
    let suit : Suit l.frame.slots l.program bs given = all_suit l bs given e in
    let well : AllOf (IsWell (all_lending l bs)) kids = all_well l 0 bs given s h.0 match in (
      record {
        anchored = all_anchored l bs h.0;
        lent = λ n x at lent. elim (lent_back l 0 bs given n x suit match at lent) [
          | inl was ↦ absurd (h.1 n was.place was.at was.lent)
          | inr w ↦
              subst (λ (f : Frame). OneGivesBack f.slots (item_branches f.todo) (states (all_live kids)) n x.channel.channel) (sym (same_slots l bs))
              (subst (λ (ks : List LocalState). OneGivesBack l.frame.slots bs ks n x.channel.channel) (sym (states_live kids)) w)
        ];
        given = all_given (all_lending l bs) (parent l bs) kids refl well;
      },
      all_whole (all_lending l bs) kids well,
    )

one_more_fork : (l m : LocalState) (n : ℕ) → Stays l m → Stays l (record m { forks = n })
one_more_fork l m n s = record { path = s.path; given = s.given; many = s.many; owned = s.owned }

pub fork_home : (l p : LocalState) (ks : List LocalState) → Sound l → IsAnchoredWhole l → Forks process_ops l p ks → IsHome (Forked p (all_live ks)) × Stays l p
fork_home l p ks s h at =
    let w : Parts l p ks = parts_of l p ks at in
    let stays : Stays l (parent l (branches l)) = one_more_fork l (all_lending l (branches l)) (l.forks + 1) (all_stays l (branches l)) in (
      subst (λ (q : LocalState). IsHome (Forked q (all_live ks))) (sym w.parent_is)
          (subst (λ (js : List LocalState). IsHome (Forked (parent l (branches l)) (all_live js))) (sym w.children_are) (parted_waits l w.given s h w.computed)),
      subst (Stays l) (sym w.parent_is) stays,
    )
