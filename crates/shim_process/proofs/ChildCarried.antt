-- The own variable of a channel at a fork: it goes to a child, or it stays.
use Rattle.std.proofs.Common.{◌≡◌, ℕ, ◌+◌, List, [], ◌∷◌, Option, Some, ◌⊎◌, inl, inr, refl, sym, ap, ◌∙◌, subst}
use Rattle.std.proofs.lemmas.Bool.{cases_eq}
use Rattle.shim_base.specs.Paths.{Path, Channel, NamedChannel}
use Rattle.shim_process.specs.Locations.{Location, Locations, Own, at_number, lend_at, moved, with_moved}
use Rattle.shim_process.specs.Arguments.{Argument, ByReference, ByCopy, ByValue, copied_location, new_location, branch_locations}
use Rattle.shim_process.specs.Sound.{IsOwned}
use Rattle.shim_process.proofs.CarryChannels.{Carried}
use Rattle.shim_process.proofs.ForkPlaces.{IsOwn, owned, Place, within_lend, kept_owned, kept_own, lent_not_own, at_not_lent, carried_within, carried_none, carried_behind, carried_head, carried_rest}
use Rattle.shim_process.proofs.ForkLending.{given_away}
use Rattle.shim_process.proofs.ChildPlaces.{Taken, Once, moved_from, copied_not_owned, origin, once_within}
use Rattle.shim_base.proofs.Facts.{some_same}

-- a child carries what its parent carried, or a channel of its own
pub child_carries : (child : Path) (xs : Locations) (s : ℕ) (given : List Argument) (c : Channel) → Carried (branch_locations child xs s given) c → (Carried xs c) ⊎ (c.home ≡ child)
child_carries child xs s given c w =
    elim (origin child xs s given w.number w.location w.there) [
      | inl o ↦
          let t : Taken xs o.0 w.location = o.1 in
          inl (record { number = o.0; location = t.was; there = t.at; ownership = t.own (owned w.location.ownership w.ownership); channel = ap (λ (z : NamedChannel). z.channel) t.channel ∙ w.channel })
      | inr o ↦ inr (ap (λ (d : Channel). d.home) (sym w.channel) ∙ o.home)
    ]

-- what is left was there
pub away_carries : (given : List Argument) (xs : Locations) (c : Channel) → Carried (given_away given xs) c → Carried xs c
away_carries [] xs c w = w
away_carries (ByReference k ∷ rest) xs c w = carried_within c (lend_at xs k) xs (within_lend IsOwn kept_own xs k) (away_carries rest (lend_at xs k) c w)
away_carries (ByCopy t k ∷ rest) xs c w = away_carries rest xs c w
away_carries (ByValue t name v ∷ rest) xs c w = away_carries rest xs c w

-- one of both, and not the other one
abbrev pub OneOf : Type 0 → Type 0 → Type 0
OneOf A B = (A × (B → ⊥)) ⊎ ((A → ⊥) × B)

first_as : (A C B : Type 0) → (A → C) → (C → A) → OneOf A B → OneOf C B
first_as A C B f g (inl w) = inl (f w.0, w.1)
first_as A C B f g (inr w) = inr (λ h. w.0 (g h), w.1)

-- where the channel's own variable is lent, nothing else is that
nothing_left : (xs : Locations) (k : ℕ) (c : Channel) (x : Location) → Once xs → at_number xs k ≡ Some x → x.ownership ≡ Own → x.channel.channel ≡ c → Carried (lend_at xs k) c → ⊥
nothing_left xs k c x once at own on w =
    let p : Place IsOwn xs w.number w.location = within_lend IsOwn kept_own xs k w.number w.location w.there in
    let same : k ≡ w.number = once k w.number x p.was at p.at (owned x.ownership own) (owned p.was.ownership (p.marked w.ownership)) (on ∙ sym (ap (λ (z : NamedChannel). z.channel) p.channel ∙ w.channel)) in
    lent_not_own xs k w.number w.location w.there w.ownership same

pub handed : (child : Path) (xs : Locations) (s : ℕ) (given : List Argument) (c : Channel) → Once xs → (c.home ≡ child → ⊥) → Carried xs c
    → OneOf (Carried (branch_locations child xs s given) c) (Carried (given_away given xs) c)
handed child xs s [] c once far w = inr (carried_none c, w)
handed child xs s (ByReference k ∷ rest) c once far w =
    let head : Option Location = with_moved (at_number xs k) in
    let tail : Locations = branch_locations child (lend_at xs k) s rest in
    elim (cases_eq w.number k) [
      | inl same ↦
          let x : Location = w.location in
          let at : at_number xs k ≡ Some x = subst (λ (n : ℕ). at_number xs n ≡ Some x) same w.there in
          inl (
            carried_head c head tail (record x { ownership = moved x.ownership }) (ap with_moved at) (ap moved w.ownership) w.channel,
            λ h. nothing_left xs k c x once at w.ownership w.channel (away_carries rest (lend_at xs k) c h),
          )
      | inr ne ↦
          let still : Carried (lend_at xs k) c = record { number = w.number; location = w.location; there = at_not_lent xs k w.number w.location (λ e. ne (sym e)) w.there; ownership = w.ownership; channel = w.channel } in
          first_as (Carried tail c) (Carried (head ∷ tail) c) (Carried (given_away rest (lend_at xs k)) c)
          (carried_behind c head tail)
          (carried_rest c head tail (λ z e own on.
          let t : Taken xs k z = moved_from xs k (at_number xs k) z refl e in
          ne (once w.number k w.location t.was w.there t.at (owned w.location.ownership w.ownership) (owned t.was.ownership (t.own (owned z.ownership own))) (w.channel ∙ sym (ap (λ (d : NamedChannel). d.channel) t.channel ∙ on)))))
          (handed child (lend_at xs k) s rest c (once_within (lend_at xs k) xs (within_lend IsOwned kept_owned xs k) once) far still)
    ]
handed child xs s (ByCopy t k ∷ rest) c once far w =
    let head : Option Location = copied_location t (at_number xs k) in
    let tail : Locations = branch_locations child xs s rest in
    first_as (Carried tail c) (Carried (head ∷ tail) c) (Carried (given_away rest xs) c)
    (carried_behind c head tail)
    (carried_rest c head tail (λ z e own on. copied_not_owned t (at_number xs k) z e (owned z.ownership own)))
    (handed child xs s rest c once far w)
handed child xs s (ByValue t name v ∷ rest) c once far w =
    let x : Location = new_location child s name t v in
    let tail : Locations = branch_locations child xs (s + 1) rest in
    first_as (Carried tail c) (Carried (Some x ∷ tail) c) (Carried (given_away rest xs) c)
    (carried_behind c (Some x) tail)
    (carried_rest c (Some x) tail (λ z e own on. far (ap (λ (d : Channel). d.home) (sym on) ∙ ap (λ (l : Location). l.channel.channel.home) (sym (some_same x z e)))))
    (handed child xs (s + 1) rest c once far w)
