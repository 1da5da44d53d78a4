-- A process that is whole is that after it calls a unit.
use Rattle.std.proofs.Common.{◌≡◌, ◌∙◌, ℕ, ◌+◌, ◌<◌, ◌≤◌, inl, inr, List, ◌∷◌, ◌++◌, length, Some, refl, sym, ap, subst, arith}
use Rattle.shim_base.specs.Paths.{Channel, NamedChannel}
use Rattle.shim_units.specs.declared.unit.Unit.{Unit as UnitOf}
use Rattle.shim_process.specs.Locations.{Location, Locations, Lent, Copy, at_number}
use Rattle.shim_process.specs.LocalState.{LocalState, Frame, unit_at}
use Rattle.shim_process.specs.Arguments.{Argument, new_channels, call_locations, call_slots, declared_slots, empties, entered}
use Rattle.shim_process.specs.Ends.{settled}
use Rattle.shim_process.specs.Steps.{pushed, called}
use Rattle.shim_process.specs.Sound.{IsOwned}
use Rattle.shim_process.proofs.CallLocations.{Passed, by_copy, by_value, at_passed}
use Rattle.shim_process.proofs.PlaceLocations.{at_append, at_empty}
use Rattle.shim_laws_sources.specs.Anchored.{Anchor, Anchored, IsAnchored, NoneLent, IsAnchoredWhole}
use Rattle.shim_laws_sources.proofs.AtPlaces.{at_below, at_before}
use Rattle.shim_process.proofs.FittingSteps.{fitting_called}
use Rattle.shim_laws_sources.proofs.WholeEnds.{Moves, moves_on, settled_whole}
use Rattle.shim_laws_sources.proofs.Ownerships.{own_not_copy, own_not_lent, copy_not_lent, by_ownership}

-- where a location that is copied was anchored, its copy is
copied_anchor : (l : LocalState) (g : Frame) (ys : Locations) (m k : ℕ) (y : Location) → IsAnchored l → g.floor ≡ length l.locations → length l.locations ≤ m → at_number l.locations k ≡ Some y → y.channel.channel.home ≡ l.path
    → Anchor g (l.frame ∷ l.callers) (l.locations ++ ys) m y.channel.channel
copied_anchor l g ys m k y h floor behind at home =
    let below : k < length l.locations = at_below l.locations k y at in
    by_ownership (λ ownership. y.ownership ≡ ownership → Anchor g (l.frame ∷ l.callers) (l.locations ++ ys) m y.channel.channel) y.ownership
    (λ owned is. record {
      number = k;
      owned = record { place = y; at = at_before l.locations ys k y at; owned = subst IsOwned (sym is) owned; on = refl };
      bound = length l.locations;
      floor = inl (sym floor);
      before = below;
      behind = behind;
    })
    (λ copy is.
    let a = h.anchors k y at (is ∙ copy) home in
    let before = a.before in
    let within = a.behind in record {
      number = a.number;
      owned = record { place = a.owned.place; at = at_before l.locations ys a.number a.owned.place a.owned.at; owned = a.owned.owned; on = a.owned.on };
      bound = length l.locations;
      floor = inl (sym floor);
      before = omega (arith, before, within, below);
      behind = behind;
    })
    refl

before_anchor : (f g : Frame) (cs : List Frame) (xs ys : Locations) (m : ℕ) (c : Channel) → Anchor f cs xs m c → Anchor g (f ∷ cs) (xs ++ ys) m c
before_anchor f g cs xs ys m c a = record {
  number = a.number;
  owned = record { place = a.owned.place; at = at_before xs ys a.number a.owned.place a.owned.at; owned = a.owned.owned; on = a.owned.on };
  bound = a.bound;
  floor = inr a.floor;
  before = a.before;
  behind = a.behind;
}

abbrev behind : LocalState → UnitOf → List Argument → LocalState
behind l u given = record l { locations = l.locations ++ (call_locations l.path l.locations l.made given ++ empties (declared_slots u)); made = l.made + new_channels given }

-- what an argument put there is anchored
passed_anchor : (l : LocalState) (g : Frame) (ys : Locations) (given : List Argument) (m j : ℕ) (x : Location) → IsAnchored l → g.floor ≡ length l.locations → length l.locations ≤ m → Passed l.path l.locations given l.made (length l.locations) j x
    → x.ownership ≡ Copy → x.channel.channel.home ≡ l.path → Anchor g (l.frame ∷ l.callers) (l.locations ++ ys) m x.channel.channel
passed_anchor l g ys given m j x h floor behind (by_copy k y at channel copy) ownership home =
    let same : y.channel.channel ≡ x.channel.channel = ap (λ (d : NamedChannel). d.channel) channel in
    subst (λ (c : Channel). Anchor g (l.frame ∷ l.callers) (l.locations ++ ys) m c) same
    (copied_anchor l g ys m k y h floor behind at (ap (λ (c : Channel). c.home) same ∙ home))
passed_anchor l g ys given m j x h floor behind (by_value own at least most is) ownership home = own_not_copy x.ownership own ownership

passed_ownership : (l : LocalState) (given : List Argument) (j : ℕ) (x : Location) → Passed l.path l.locations given l.made (length l.locations) j x → x.ownership ≡ Lent → ⊥
passed_ownership l given j x (by_copy k y at channel copy) lent = copy_not_lent x.ownership copy lent
passed_ownership l given j x (by_value own at least most is) lent = own_not_lent x.ownership own lent

at_least : (m n j : ℕ) → m ≡ n + j → n ≤ m
at_least m n j e = omega (arith, e)

pub called_whole : (unit : ℕ) (given : List Argument) (labels : List ℕ) (l : LocalState) → IsAnchoredWhole l → length given ≡ length (unit_at l.program unit).params → Moves l (called unit given labels l)
unfolding called pushed
called_whole unit given labels l h many =
    let u : UnitOf = unit_at l.program unit in
    let xs : Locations = l.locations in
    let passed : Locations = call_locations l.path xs l.made given in
    let ys : Locations = passed ++ empties (declared_slots u) in
    let f : Frame = entered u unit (call_slots (length xs) given (declared_slots u)) labels (length xs) (l.frame.outer + length l.frame.places) in
    let anchored : Anchored l.path l.program f (l.frame ∷ l.callers) (xs ++ ys) = record {
      fitting = fitting_called unit given labels l ys h.0.fitting many;
      anchors = λ m x e ownership home. elim (at_append xs ys m x e) [
        | inl there ↦ before_anchor l.frame f l.callers xs ys m x.channel.channel (h.0.anchors m x there ownership home)
        | inr w ↦ elim (at_append passed (empties (declared_slots u)) w.0 x w.2) [
          | inl there ↦ passed_anchor l f ys given m w.0 x h.0 refl (at_least m (length xs) w.0 w.1) (at_passed l.path xs l.made (length xs) given w.0 x there) ownership home
          | inr v ↦ absurd (at_empty (declared_slots u) v.0 x v.2)
        ]
      ];
    } in
    let none : NoneLent (xs ++ ys) = λ m x e lent. elim (at_append xs ys m x e) [
      | inl there ↦ h.1 m x there lent
      | inr w ↦ elim (at_append passed (empties (declared_slots u)) w.0 x w.2) [
        | inl there ↦ passed_ownership l given w.0 x (at_passed l.path xs l.made (length xs) given w.0 x there) lent
        | inr v ↦ at_empty (declared_slots u) v.0 x v.2
      ]
    ] in
    let k : LocalState = record (behind l u given) { frame = f; callers = l.frame ∷ l.callers } in
    moves_on l k (settled (l.frame ∷ l.callers) f k)
    (record {
      path = refl;
      given = refl;
      many = refl;
      owned = λ n c below o. record { place = o.place; at = at_before xs ys n o.place o.at; owned = o.owned; on = o.on };
    })
    (settled_whole (l.frame ∷ l.callers) f k anchored none)
