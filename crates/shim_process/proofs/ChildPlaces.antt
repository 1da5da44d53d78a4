-- The locations with which a child begins.
use Rattle.std.proofs.Common.{◌≡◌, ℕ, ℤ, zero, suc, ◌+◌, ◌<◌, ◌≤◌, List, [], ◌∷◌, Option, Some, None, ◌⊎◌, inl, inr, refl, sym, ap, ◌∙◌, subst, arith}
use Rattle.shim_base.specs.declared.types.Ty.{Ty}
use Rattle.shim_base.specs.Value.{stored}
use Rattle.shim_base.specs.Paths.{Path, Channel, NamedChannel}
use Rattle.shim_process.specs.Locations.{Location, Locations, Ownership, Own, Lent, Copy, at_number, lend_at, moved, with_moved}
use Rattle.shim_process.specs.Arguments.{Argument, ByReference, ByCopy, ByValue, copied_location, new_location, new_channels, branch_locations}
use Rattle.shim_process.specs.Sound.{IsOwned}
use Rattle.shim_process.proofs.ForkPlaces.{IsOwn, owned, Place, within_lend, kept_owned, kept_own, lent_not_own}
use Rattle.shim_base.proofs.Facts.{some_same}

-- a child's location, from that of its parent at this number
pub record Taken (xs : Locations) (k : ℕ) (x : Location) : Type 0 where
  pub was : Location
  pub at : at_number xs k ≡ Some was
  pub channel : was.channel ≡ x.channel
  pub own : IsOwned x.ownership → was.ownership ≡ Own

-- a child's location on a new channel
pub record New (child : Path) (first bound : ℕ) (x : Location) : Type 0 where
  pub home : x.channel.channel.home ≡ child
  pub least : first ≤ x.channel.channel.serial
  pub most : x.channel.channel.serial < bound

abbrev pub Origin : Path → Locations → ℕ → ℕ → Location → Type 0
Origin child xs first bound x = ((k : ℕ) × Taken xs k x) ⊎ New child first bound x

moved_own : (m : Ownership) → IsOwned (moved m) → m ≡ Own
moved_own Own h = refl
moved_own Lent h = absurd h
moved_own Copy h = absurd h

pub moved_from : (xs : Locations) (k : ℕ) (o : Option Location) (x : Location) → at_number xs k ≡ o → with_moved o ≡ Some x → Taken xs k x
moved_from xs k None x at e = absurd cc
moved_from xs k (Some y) x at e =
    let same : record y { ownership = moved y.ownership } ≡ x = some_same (record y { ownership = moved y.ownership }) x e in
    record {
      was = y;
      at = at;
      channel = ap (λ (z : Location). z.channel) same;
      own = λ h. moved_own y.ownership (subst IsOwned (ap (λ (z : Location). z.ownership) (sym same)) h);
    }

copied_from : (xs : Locations) (k : ℕ) (t : Ty) (o : Option Location) (x : Location) → at_number xs k ≡ o → copied_location t o ≡ Some x → Taken xs k x
copied_from xs k t None x at e = absurd cc
copied_from xs k t (Some y) x at e =
    let same : record y { ty = t; value = stored t y.value; ownership = Copy } ≡ x = some_same (record y { ty = t; value = stored t y.value; ownership = Copy }) x e in
    record {
      was = y;
      at = at;
      channel = ap (λ (z : Location). z.channel) same;
      own = λ h. absurd (subst IsOwned (ap (λ (z : Location). z.ownership) (sym same)) h);
    }

pub copied_not_owned : (t : Ty) (o : Option Location) (x : Location) → copied_location t o ≡ Some x → IsOwned x.ownership → ⊥
copied_not_owned t None x e h = absurd cc
copied_not_owned t (Some y) x e h = subst IsOwned (ap (λ (z : Location). z.ownership) (sym (some_same (record y { ty = t; value = stored t y.value; ownership = Copy }) x e))) h

new_from : (child : Path) (s : ℕ) (name : ℕ) (t : Ty) (v : ℤ) (bound : ℕ) (x : Location) → Some (new_location child s name t v) ≡ Some x → s < bound → New child s bound x
new_from child s name t v bound x e lt =
    let same : new_location child s name t v ≡ x = some_same (new_location child s name t v) x e in
    let number : s ≡ x.channel.channel.serial = ap (λ (z : Location). z.channel.channel.serial) same in
    record {
      home = ap (λ (z : Location). z.channel.channel.home) (sym same);
      least = omega (arith, number);
      most = omega (arith, number, lt);
    }

-- before the location at this number was lent
before_lent : (xs : Locations) (k j : ℕ) (x : Location) → Taken (lend_at xs k) j x → Taken xs j x
before_lent xs k j x w =
    let p : Place IsOwn xs j w.was = within_lend IsOwn kept_own xs k j w.was w.at in
    record { was = p.was; at = p.at; channel = p.channel ∙ w.channel; own = λ h. p.marked (w.own h) }

wider : (child : Path) (s t a b : ℕ) (x : Location) → t ≤ s → a ≤ b → New child s a x → New child t b x
wider child s t a b x le more w = let l = w.least in let m = w.most in record { home = w.home; least = omega (arith, l, le); most = omega (arith, m, more) }

-- where each of a child's locations comes from
pub origin : (child : Path) (xs : Locations) (s : ℕ) (given : List Argument) (n : ℕ) (x : Location) → at_number (branch_locations child xs s given) n ≡ Some x → Origin child xs s (s + new_channels given) x
unfolding at_number
origin child xs s [] n x e = absurd cc
origin child xs s (ByReference k ∷ rest) zero x e = inl (k, moved_from xs k (at_number xs k) x refl e)
origin child xs s (ByReference k ∷ rest) (suc n) x e =
    elim (origin child (lend_at xs k) s rest n x e) [
      | inl w ↦ inl (w.0, before_lent xs k w.0 x w.1)
      | inr w ↦ inr w
    ]
origin child xs s (ByCopy t k ∷ rest) zero x e = inl (k, copied_from xs k t (at_number xs k) x refl e)
origin child xs s (ByCopy t k ∷ rest) (suc n) x e = origin child xs s rest n x e
origin child xs s (ByValue t name v ∷ rest) zero x e = inr (new_from child s name t v (s + (1 + new_channels rest)) x e (omega arith))
origin child xs s (ByValue t name v ∷ rest) (suc n) x e =
    elim (origin child xs (s + 1) rest n x e) [
      | inl w ↦ inl w
      | inr w ↦ inr (wider child (s + 1) s (s + 1 + new_channels rest) (s + (1 + new_channels rest)) x (omega arith) (omega arith) w)
    ]

-- one location at most is a channel's own variable
abbrev pub Once : Locations → Type 0
Once xs = (n m : ℕ) (x y : Location) → at_number xs n ≡ Some x → at_number xs m ≡ Some y → IsOwned x.ownership → IsOwned y.ownership → x.channel.channel ≡ y.channel.channel → n ≡ m

-- none is on a channel of that home
abbrev pub Apart : Path → Locations → Type 0
Apart home xs = (n : ℕ) (x : Location) → at_number xs n ≡ Some x → x.channel.channel.home ≡ home → ⊥

pub once_within : (ys xs : Locations) → ((n : ℕ) (y : Location) → at_number ys n ≡ Some y → Place IsOwned xs n y) → Once xs
    → (n m : ℕ) (x y : Location) → at_number ys n ≡ Some x → at_number ys m ≡ Some y → IsOwned x.ownership → IsOwned y.ownership → x.channel.channel ≡ y.channel.channel → n ≡ m
once_within ys xs f once n m x y ex ey ox oy same =
    let p = f n x ex in
    let q = f m y ey in
    once n m p.was q.was p.at q.at (p.marked ox) (q.marked oy) (ap (λ (z : NamedChannel). z.channel) p.channel ∙ (same ∙ ap (λ (z : NamedChannel). z.channel) (sym q.channel)))

apart_lent : (home : Path) (xs : Locations) (k : ℕ) → Apart home xs → (n : ℕ) (x : Location) → at_number (lend_at xs k) n ≡ Some x → x.channel.channel.home ≡ home → ⊥
apart_lent home xs k apart n x e is =
    let p : Place IsOwned xs n x = within_lend IsOwned kept_owned xs k n x e in
    apart n p.was p.at (ap (λ (z : NamedChannel). z.channel.home) p.channel ∙ is)

once_cons : (o : Option Location) (xs : Locations)
    → ((x y : Location) (m : ℕ) → o ≡ Some x → at_number xs m ≡ Some y → IsOwned x.ownership → IsOwned y.ownership → x.channel.channel ≡ y.channel.channel → ⊥) → Once xs
    → (n m : ℕ) (x y : Location) → at_number (o ∷ xs) n ≡ Some x → at_number (o ∷ xs) m ≡ Some y → IsOwned x.ownership → IsOwned y.ownership → x.channel.channel ≡ y.channel.channel → n ≡ m
unfolding at_number
once_cons o xs head once zero zero x y ex ey ox oy same = refl
once_cons o xs head once zero (suc m) x y ex ey ox oy same = absurd (head x y m ex ey ox oy same)
once_cons o xs head once (suc n) zero x y ex ey ox oy same = absurd (head y x n ey ex oy ox (sym same))
once_cons o xs head once (suc n) (suc m) x y ex ey ox oy same = ap suc (once n m x y ex ey ox oy same)

-- what one argument takes no later one finds
reference_apart : (child : Path) (xs : Locations) (k s bound : ℕ) (x y : Location) → Once xs → Apart child xs → with_moved (at_number xs k) ≡ Some x → Origin child (lend_at xs k) s bound y
    → IsOwned x.ownership → IsOwned y.ownership → x.channel.channel ≡ y.channel.channel → ⊥
reference_apart child xs k s bound x y once apart ex (inl w) ox oy same =
    let p : Taken xs k x = moved_from xs k (at_number xs k) x refl ex in
    let t : Taken (lend_at xs k) w.0 y = w.1 in
    let q : Place IsOwn xs w.0 t.was = within_lend IsOwn kept_own xs k w.0 t.was t.at in
    let channels : p.was.channel.channel ≡ q.was.channel.channel = ap (λ (z : NamedChannel). z.channel) p.channel ∙ (same ∙ ap (λ (z : NamedChannel). z.channel) (sym (q.channel ∙ t.channel))) in
    let numbers : k ≡ w.0 = once k w.0 p.was q.was p.at q.at (owned p.was.ownership (p.own ox)) (owned q.was.ownership (q.marked (t.own oy))) channels in
    lent_not_own xs k w.0 t.was t.at (t.own oy) numbers
reference_apart child xs k s bound x y once apart ex (inr w) ox oy same =
    let p : Taken xs k x = moved_from xs k (at_number xs k) x refl ex in
    apart k p.was p.at (ap (λ (z : NamedChannel). z.channel.home) p.channel ∙ (ap (λ (c : Channel). c.home) same ∙ w.home))

new_apart : (child : Path) (xs : Locations) (s bound name : ℕ) (t : Ty) (v : ℤ) (x y : Location) → Apart child xs → Some (new_location child s name t v) ≡ Some x → Origin child xs (s + 1) bound y → x.channel.channel ≡ y.channel.channel → ⊥
new_apart child xs s bound name t v x y apart ex (inl w) same =
    let e : new_location child s name t v ≡ x = some_same (new_location child s name t v) x ex in
    let p : Taken xs w.0 y = w.1 in
    apart w.0 p.was p.at (ap (λ (z : NamedChannel). z.channel.home) p.channel ∙ (ap (λ (c : Channel). c.home) (sym same) ∙ ap (λ (z : Location). z.channel.channel.home) (sym e)))
new_apart child xs s bound name t v x y apart ex (inr w) same =
    let e : new_location child s name t v ≡ x = some_same (new_location child s name t v) x ex in
    let a : s ≡ x.channel.channel.serial = ap (λ (z : Location). z.channel.channel.serial) e in
    let b : x.channel.channel.serial ≡ y.channel.channel.serial = ap (λ (c : Channel). c.serial) same in
    let l : s + 1 ≤ y.channel.channel.serial = w.least in
    absurd (omega (arith, a, b, l))

pub once_child : (child : Path) (xs : Locations) (s : ℕ) (given : List Argument) → Once xs → Apart child xs
    → (n m : ℕ) (x y : Location) → at_number (branch_locations child xs s given) n ≡ Some x → at_number (branch_locations child xs s given) m ≡ Some y → IsOwned x.ownership → IsOwned y.ownership → x.channel.channel ≡ y.channel.channel → n ≡ m
unfolding at_number
once_child child xs s [] once apart n m x y ex ey ox oy same = absurd cc
once_child child xs s (ByReference k ∷ rest) once apart n m x y ex ey ox oy same =
    once_cons (with_moved (at_number xs k)) (branch_locations child (lend_at xs k) s rest)
    (λ a b j ea eb oa ob alike. reference_apart child xs k s (s + new_channels rest) a b once apart ea (origin child (lend_at xs k) s rest j b eb) oa ob alike)
    (once_child child (lend_at xs k) s rest (once_within (lend_at xs k) xs (within_lend IsOwned kept_owned xs k) once) (apart_lent child xs k apart))
    n m x y ex ey ox oy same
once_child child xs s (ByCopy t k ∷ rest) once apart n m x y ex ey ox oy same =
    once_cons (copied_location t (at_number xs k)) (branch_locations child xs s rest)
    (λ a b j ea eb oa ob alike. copied_not_owned t (at_number xs k) a ea oa)
    (once_child child xs s rest once apart)
    n m x y ex ey ox oy same
once_child child xs s (ByValue t name v ∷ rest) once apart n m x y ex ey ox oy same =
    once_cons (Some (new_location child s name t v)) (branch_locations child xs (s + 1) rest)
    (λ a b j ea eb oa ob alike. new_apart child xs s (s + 1 + new_channels rest) name t v a b apart ea (origin child xs (s + 1) rest j b eb) alike)
    (once_child child xs (s + 1) rest once apart)
    n m x y ex ey ox oy same
