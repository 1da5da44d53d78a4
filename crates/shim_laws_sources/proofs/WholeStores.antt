-- A process that is whole is that after a value is stored, and after a declaration; and where its locations go on.
use Rattle.std.proofs.Common.{◌≡◌, ◌∙◌, ℕ, ℤ, ◌<◌, ◌≤◌, inl, inr, true, List, Option, Some, None, refl, sym, ap, subst, arith}
use Rattle.std.specs.Prelude.{slice_set}
use Rattle.shim_base.specs.declared.types.Ty.{Ty}
use Rattle.shim_base.specs.Paths.{Path, Channel, NamedChannel}
use Rattle.shim_process.specs.Locations.{Location, Locations, Own, at_number, with_value, store_at}
use Rattle.shim_process.specs.LocalState.{LocalState, Frame, unit_at, number_of}
use Rattle.shim_process.specs.Arguments.{new_location}
use Rattle.shim_process.specs.Steps.{stored_in, made_in, next_byte, read_in}
use Rattle.shim_process.proofs.PlaceLocations.{Was, at_store, at_set}
use Rattle.shim_process.specs.OwnSlots.{is_own_slot}
use Rattle.shim_process.specs.FittingFrames.{FrameFits, parameters_of}
use Rattle.shim_laws_sources.specs.Anchored.{IsFloor, Anchor, Anchored, IsAnchored, NoneLent, IsAnchoredWhole, Stays}
use Rattle.shim_laws_sources.proofs.AtPlaces.{still_at, Onward, IsGentle, onward_put, onward_owned}
use Rattle.shim_process.proofs.PlaceChannels.{length_put}
use Rattle.shim_process.proofs.FittingFrames.{inner_fits}
use Rattle.shim_process.proofs.FittingEnds.{fitting_over}
use Rattle.shim_laws_sources.proofs.Floors.{floors_below}
use Rattle.shim_laws_sources.proofs.WholeEnds.{Moves}
use Rattle.shim_laws_sources.proofs.Ownerships.{own_not_copy, own_not_lent}
use Rattle.shim_base.proofs.Facts.{some_same}

-- later locations of the same process

onward_anchor : (f : Frame) (cs : List Frame) (xs ys : Locations) (m : ℕ) (c : Channel) → Onward xs ys → Anchor f cs xs m c → Anchor f cs ys m c
onward_anchor f cs xs ys m c w a = record { number = a.number; owned = onward_owned xs ys a.number c w a.owned; bound = a.bound; floor = a.floor; before = a.before; behind = a.behind }

pub onward_anchored : (l : LocalState) (ys : Locations) → IsAnchored l → Onward l.locations ys → Anchored l.path l.program l.frame l.callers ys
onward_anchored l ys h w = record {
  fitting = fitting_over l.path l.program l.frame l.callers l.locations ys w.long h.fitting;
  anchors = λ m y e ownership home.
      let b = w.back m y e in
      let same : b.place.channel.channel ≡ y.channel.channel = ap (λ (d : NamedChannel). d.channel) b.channel in
      subst (λ (c : Channel). Anchor l.frame l.callers ys m c) same
      (onward_anchor l.frame l.callers l.locations ys m b.place.channel.channel w (h.anchors m b.place b.at (b.copy ownership) (ap (λ (c : Channel). c.home) same ∙ home)));
}

pub onward_stays : (l : LocalState) (ys : Locations) → Onward l.locations ys → Stays l (record l { locations = ys })
onward_stays l ys w = record { path = refl; given = refl; many = refl; owned = λ n c h o. onward_owned l.locations ys n c w o }

-- a value is stored

stored_gentle : (v : ℤ) (o : Option Location) → IsGentle o (with_value v o)
stored_gentle v None = tt
stored_gentle v (Some x) = record { channel = refl; owned = λ h. h; copy = λ h. h }

store_onward : (xs : Locations) (k : ℕ) (v : ℤ) → Onward xs (store_at xs k v)
unfolding store_at
store_onward xs k v = onward_put xs k (with_value v (at_number xs k)) (stored_gentle v (at_number xs k))

store_none : (xs : Locations) (k : ℕ) (v : ℤ) → NoneLent xs → NoneLent (store_at xs k v)
store_none xs k v h = λ n x e lent. let w : Was xs n x = at_store xs k v n x e in h n w.location w.there (w.ownership ∙ lent)

pub stored_whole : (x : ℕ) (v : ℤ) (l : LocalState) → IsAnchoredWhole l → Moves l (stored_in x v l)
stored_whole x v l h =
    let w = store_onward l.locations (number_of l.frame.slots x) v in
    ((onward_anchored l (store_at l.locations (number_of l.frame.slots x) v) h.0 w, store_none l.locations (number_of l.frame.slots x) v h.1), onward_stays l (store_at l.locations (number_of l.frame.slots x) v) w)

pub read_whole : (x : ℕ) (l : LocalState) → IsAnchoredWhole l → Moves l (read_in x l)
read_whole x l h =
    let v : ℤ = next_byte l.input_at l.input in
    let w = stored_whole x v l h in
    let s : Stays l (stored_in x v l) = w.1 in
    (w.0, record { path = s.path; given = s.given; many = s.many; owned = s.owned })

-- a declaration is executed

new_own : (home : Path) (serial name : ℕ) (t : Ty) (v : ℤ) (x : Location) → Some (new_location home serial name t v) ≡ Some x → x.ownership ≡ Own
new_own home serial name t v x e = sym (ap (λ (r : Location). r.ownership) (some_same (new_location home serial name t v) x e))

pub not_there : (k j : ℕ) (bound : ℕ) → bound ≤ k → j < bound → k ≡ j → ⊥
not_there k j bound a b e = omega (arith, a, b, e)

pub put_anchor : (f : Frame) (cs : List Frame) (xs : Locations) (k : ℕ) (o : Option Location) (m : ℕ) (c : Channel) → ((bound : ℕ) → IsFloor bound f cs → bound ≤ k) → Anchor f cs xs m c → Anchor f cs (slice_set xs k o) m c
put_anchor f cs xs k o m c most a = record {
  number = a.number;
  owned = record {
    place = a.owned.place;
    at = still_at o xs k a.number a.owned.place (not_there k a.number a.bound (most a.bound a.floor) a.before) a.owned.at;
    owned = a.owned.owned;
    on = a.owned.on;
  };
  bound = a.bound;
  floor = a.floor;
  before = a.before;
  behind = a.behind;
}

pub made_whole : (t : Ty) (x : ℕ) (v : ℤ) (l : LocalState) → IsAnchoredWhole l → is_own_slot (unit_at l.program l.frame.unit) x ≡ true → Moves l (made_in t x v l)
made_whole t x v l h own =
    let xs : Locations = l.locations in
    let k : ℕ = number_of l.frame.slots x in
    let name : ℕ = number_of (unit_at l.program l.frame.unit).slot_names x in
    let new : Option Location = Some (new_location l.path l.made name t v) in
    let inner : FrameFits l.program (parameters_of l) l.frame = inner_fits l.program (parameters_of l) l.frame l.callers h.0.fitting.fit in
    let at : (l.frame.floor ≤ number_of l.frame.slots x) × (parameters_of l ≤ number_of l.frame.slots x) = inner.slots x own in
    let floor : l.frame.floor ≤ k = at.0 in
    let kept : parameters_of l ≤ k = at.1 in (
      (
        record {
          fitting = fitting_over l.path l.program l.frame l.callers xs (slice_set xs k new) (length_put xs k new) h.0.fitting;
          anchors = λ m y e ownership home. elim (at_set xs k m new y e) [
            | inl w ↦ own_not_copy y.ownership (new_own l.path l.made name t v y w.1) ownership
            | inr there ↦ put_anchor l.frame l.callers xs k new m y.channel.channel
                (λ bound is. let b = floors_below l.program (parameters_of l) bound l.frame l.callers h.0.fitting.fit is in omega (arith, b, floor))
                (h.0.anchors m y there ownership home)
          ];
        },
        λ n y e lent. elim (at_set xs k n new y e) [
          | inl w ↦ own_not_lent y.ownership (new_own l.path l.made name t v y w.1) lent
          | inr there ↦ h.1 n y there lent
        ],
      ),
      record {
        path = refl;
        given = refl;
        many = refl;
        owned = λ n c below o. record { place = o.place; at = still_at new xs k n o.place (not_there k n (parameters_of l) kept below) o.at; owned = o.owned; on = o.on };
      },
    )
