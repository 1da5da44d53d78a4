-- What a fork leaves of locations, and what its children have of them.
use Rattle.std.proofs.Common.{◌≡◌, ◌∙◌, ℕ, zero, suc, ◌+◌, ◌≤◌, ◌⊎◌, inl, inr, List, [], ◌∷◌, length, Option, Some, None, refl, sym, ap, subst, arith}
use Rattle.shim_base.specs.declared.types.Ty.{Ty}
use Rattle.shim_base.specs.Value.{stored}
use Rattle.shim_base.specs.Paths.{Path, NamedChannel}
use Rattle.shim_scopes.specs.declared.tree.UParam.{UParam}
use Rattle.shim_units.specs.declared.unit.Arg.{Arg}
use Rattle.shim_units.specs.declared.unit.Arg.TheVariants.{Ref, Pass, Fresh}
use Rattle.shim_process.specs.Values.{value}
use Rattle.shim_process.specs.Locations.{Location, Locations, Ownership, Own, Lent, Copy, at_number, kept, with_kept, moved, with_moved, lend_at}
use Rattle.shim_process.specs.LocalState.{LocalState, number_of}
use Rattle.shim_process.specs.Arguments.{Argument, ByReference, ByCopy, ByValue, arguments, copied_location, new_location, branch_locations}
use Rattle.shim_process.specs.Forks.{lent}
use Rattle.shim_process.specs.Sound.{IsOwned}
use Rattle.shim_process.proofs.PlaceLocations.{at_set}
use Rattle.shim_process.proofs.ForkLending.{given_away}
use Rattle.shim_process.proofs.ForkPlaces.{Place, within_lend, kept_owned}
use Rattle.shim_process.proofs.ChildChannels.{Matches, StandFrom, stand_next, stand_first}
use Rattle.shim_process.proofs.ChildGiven.{Given}
use Rattle.shim_process.specs.FittingFrames.{parameters_of}
use Rattle.shim_laws_sources.specs.Anchored.{OwnedOn}
use Rattle.shim_laws_sources.specs.Homes.{GivesBack}
use Rattle.shim_laws_sources.proofs.AtPlaces.{Onward, IsGentle, onward_same, onward_both, onward_put}
use Rattle.shim_base.proofs.Facts.{some_same}

-- what is kept of what is lent is on the same channel, and owned where it was

owned_kept : (m : Ownership) → IsOwned m → IsOwned (kept m)
owned_kept Own h = tt
owned_kept Lent h = tt
owned_kept Copy h = h

copy_kept : (m : Ownership) → kept m ≡ Copy → m ≡ Copy
copy_kept Own e = absurd cc
copy_kept Lent e = absurd cc
copy_kept Copy e = refl

kept_gentle : (o : Option Location) → IsGentle o (with_kept o)
kept_gentle None = tt
kept_gentle (Some x) = record { channel = refl; owned = owned_kept x.ownership; copy = copy_kept x.ownership }

lend_onward : (xs : Locations) (k : ℕ) → Onward xs (lend_at xs k)
unfolding lend_at
lend_onward xs k = onward_put xs k (with_kept (at_number xs k)) (kept_gentle (at_number xs k))

pub lent_onward : (slots : List ℕ) (ps : List UParam) (args : List Arg) (xs : Locations) → Onward xs (lent slots ps args xs)
lent_onward slots [] args xs = onward_same xs
lent_onward slots (p ∷ ps) [] xs = onward_same xs
lent_onward slots (p ∷ ps) (Ref x ∷ rest) xs =
    let ys : Locations = lend_at xs (number_of slots x) in
    onward_both xs ys (lent slots ps rest ys) (lend_onward xs (number_of slots x)) (lent_onward slots ps rest ys)
lent_onward slots (p ∷ ps) (Pass x ∷ rest) xs = lent_onward slots ps rest xs
lent_onward slots (p ∷ ps) (Fresh v ∷ rest) xs = lent_onward slots ps rest xs

-- the location that is lent was lent before
pub record WasLent (xs : Locations) (n : ℕ) (x : Location) : Type 0 where
  pub place : Location
  pub at : at_number xs n ≡ Some place
  pub channel : place.channel ≡ x.channel
  pub lent : place.ownership ≡ Lent

-- what is lent of a location was owned by the process, or with a child already
kept_lent : (m : Ownership) → kept m ≡ Lent → (m ≡ Own) ⊎ (m ≡ Lent)
kept_lent Own e = inl refl
kept_lent Lent e = inr refl
kept_lent Copy e = absurd cc

-- what the child has then
moved_owned : (ys : Locations) (j : ℕ) (w x : Location) → at_number ys j ≡ with_moved (Some w) → w.ownership ≡ Own → w.channel ≡ x.channel → OwnedOn ys j x.channel.channel
moved_owned ys j w x at own channel = record {
  place = record w { ownership = moved w.ownership };
  at = at;
  owned = subst (λ (m : Ownership). IsOwned (moved m)) (sym own) tt;
  on = ap (λ (d : NamedChannel). d.channel) channel;
}

lent_now : (xs ys : Locations) (n j : ℕ) (o : Option Location) (x : Location) → at_number xs n ≡ o → with_kept o ≡ Some x → x.ownership ≡ Lent → at_number ys j ≡ with_moved o → WasLent xs n x ⊎ OwnedOn ys j x.channel.channel
lent_now xs ys n j None x at e lent there = absurd cc
lent_now xs ys n j (Some w) x at e lent there =
    let same : record w { ownership = kept w.ownership } ≡ x = some_same (record w { ownership = kept w.ownership }) x e in
    let channel : w.channel ≡ x.channel = ap (λ (r : Location). r.channel) same in
    elim (kept_lent w.ownership (ap (λ (r : Location). r.ownership) same ∙ lent)) [
      | inl own ↦ inr (moved_owned ys j w x there own channel)
      | inr was ↦ inl (record { place = w; at = at; channel = channel; lent = was })
    ]

-- of locations of which one is lent now
lend_back : (xs ys : Locations) (k n j : ℕ) (x : Location) → at_number (lend_at xs k) n ≡ Some x → x.ownership ≡ Lent → at_number ys j ≡ with_moved (at_number xs k) → WasLent xs n x ⊎ ((k ≡ n) × OwnedOn ys j x.channel.channel)
unfolding lend_at
lend_back xs ys k n j x e lent there = elim (at_set xs k n (with_kept (at_number xs k)) x e) [
  | inl w ↦ elim (lent_now xs ys k j (at_number xs k) x refl w.1 lent there) [
    | inl was ↦ inl (subst (λ (i : ℕ). WasLent xs i x) (sym w.0) was)
    | inr o ↦ inr (sym w.0, o)
  ]
  | inr same ↦ inl (record { place = x; at = same; channel = refl; lent = lent })
]

-- A location that is lent after a branch took its arguments was lent before, or the child gives its channel's own variable back.
pub branch_back : (slots : List ℕ) (args : List Arg) (given : List Argument) (child : Path) (xs : Locations) (s j : ℕ) (k : LocalState) (n : ℕ) (x : Location) → Matches slots args given
    → StandFrom k.locations j (branch_locations child xs s given) → j + length given ≤ parameters_of k → at_number (given_away given xs) n ≡ Some x → x.ownership ≡ Lent → WasLent xs n x ⊎ GivesBack slots j args k n x.channel.channel
branch_back slots [] [] child xs s j k n x match stand many e lent = inl (record { place = x; at = e; channel = refl; lent = lent })
branch_back slots [] (g ∷ given) child xs s j k n x match stand many e lent = absurd match
branch_back slots (Ref v ∷ rest) [] child xs s j k n x match stand many e lent = absurd match
branch_back slots (Pass v ∷ rest) [] child xs s j k n x match stand many e lent = absurd match
branch_back slots (Fresh v ∷ rest) [] child xs s j k n x match stand many e lent = absurd match
branch_back slots (Ref v ∷ rest) (ByReference i ∷ given) child xs s j k n x match stand many e lent =
    let tail : Locations = branch_locations child (lend_at xs i) s given in
    elim (branch_back slots rest given child (lend_at xs i) s (j + 1) k n x match.1 (stand_next k.locations j (with_moved (at_number xs i)) tail stand) (omega (arith, many)) e lent) [
      | inl was ↦ elim (lend_back xs k.locations i n j was.place was.at was.lent (stand_first k.locations j (with_moved (at_number xs i)) tail stand)) [
        | inl w ↦ inl (record { place = w.place; at = w.at; channel = w.channel ∙ was.channel; lent = w.lent })
        | inr w ↦ inr (inl (match.0 ∙ w.0, omega (arith, many), subst (λ (d : NamedChannel). OwnedOn k.locations j d.channel) was.channel w.1))
      ]
      | inr w ↦ inr (inr w)
    ]
branch_back slots (Ref v ∷ rest) (ByCopy t i ∷ given) child xs s j k n x match stand many e lent = absurd match
branch_back slots (Ref v ∷ rest) (ByValue t name w ∷ given) child xs s j k n x match stand many e lent = absurd match
branch_back slots (Pass v ∷ rest) (ByReference i ∷ given) child xs s j k n x match stand many e lent = absurd match
branch_back slots (Pass v ∷ rest) (ByCopy t i ∷ given) child xs s j k n x match stand many e lent =
    branch_back slots rest given child xs s (j + 1) k n x match.1 (stand_next k.locations j (copied_location t (at_number xs i)) (branch_locations child xs s given) stand) (omega (arith, many)) e lent
branch_back slots (Pass v ∷ rest) (ByValue t name w ∷ given) child xs s j k n x match stand many e lent = absurd match
branch_back slots (Fresh v ∷ rest) (ByReference i ∷ given) child xs s j k n x match stand many e lent = absurd match
branch_back slots (Fresh v ∷ rest) (ByCopy t i ∷ given) child xs s j k n x match stand many e lent = absurd match
branch_back slots (Fresh v ∷ rest) (ByValue t name w ∷ given) child xs s j k n x match stand many e lent =
    branch_back slots rest given child xs (s + 1) (j + 1) k n x match (stand_next k.locations j (Some (new_location child s name t w)) (branch_locations child xs (s + 1) given) stand) (omega (arith, many)) e lent

-- a child's location is a channel's own variable, or a copy of one that is on a channel of its parent's
abbrev pub IsKind : Locations → Location → Type 0
IsKind xs x = (x.ownership ≡ Own) ⊎ ((x.ownership ≡ Copy) × Given xs x.channel)

moved_kind : (m : Ownership) → (moved m ≡ Own) ⊎ (moved m ≡ Copy)
moved_kind Own = inl refl
moved_kind Lent = inr refl
moved_kind Copy = inr refl

reference_kind : (xs : Locations) (k : ℕ) (o : Option Location) (x : Location) → at_number xs k ≡ o → with_moved o ≡ Some x → IsKind xs x
reference_kind xs k None x at e = absurd cc
reference_kind xs k (Some w) x at e =
    let same : record w { ownership = moved w.ownership } ≡ x = some_same (record w { ownership = moved w.ownership }) x e in
    elim (moved_kind w.ownership) [
      | inl own ↦ inl (ap (λ (r : Location). r.ownership) (sym same) ∙ own)
      | inr copy ↦ inr (ap (λ (r : Location). r.ownership) (sym same) ∙ copy, record { number = k; place = w; at = at; on = ap (λ (r : Location). r.channel) same })
    ]

copy_kind : (xs : Locations) (k : ℕ) (t : Ty) (o : Option Location) (x : Location) → at_number xs k ≡ o → copied_location t o ≡ Some x → IsKind xs x
copy_kind xs k t None x at e = absurd cc
copy_kind xs k t (Some w) x at e =
    let same : record w { ty = t; value = stored t w.value; ownership = Copy } ≡ x = some_same (record w { ty = t; value = stored t w.value; ownership = Copy }) x e in
    inr (ap (λ (r : Location). r.ownership) (sym same), record { number = k; place = w; at = at; on = ap (λ (r : Location). r.channel) same })

-- before one was lent
kind_before : (xs : Locations) (k : ℕ) (x : Location) → IsKind (lend_at xs k) x → IsKind xs x
kind_before xs k x (inl own) = inl own
kind_before xs k x (inr w) =
    let p : Place IsOwned xs w.1.number w.1.place = within_lend IsOwned kept_owned xs k w.1.number w.1.place w.1.at in
    inr (w.0, record { number = w.1.number; place = p.was; at = p.at; on = p.channel ∙ w.1.on })

pub branch_kind : (child : Path) (xs : Locations) (s : ℕ) (given : List Argument) (n : ℕ) (x : Location) → at_number (branch_locations child xs s given) n ≡ Some x → IsKind xs x
unfolding at_number
branch_kind child xs s [] n x e = absurd cc
branch_kind child xs s (ByReference k ∷ rest) zero x e = reference_kind xs k (at_number xs k) x refl e
branch_kind child xs s (ByReference k ∷ rest) (suc n) x e = kind_before xs k x (branch_kind child (lend_at xs k) s rest n x e)
branch_kind child xs s (ByCopy t k ∷ rest) zero x e = copy_kind xs k t (at_number xs k) x refl e
branch_kind child xs s (ByCopy t k ∷ rest) (suc n) x e = branch_kind child xs s rest n x e
branch_kind child xs s (ByValue t name v ∷ rest) zero x e = inl (sym (ap (λ (r : Location). r.ownership) (some_same (new_location child s name t v) x e)))
branch_kind child xs s (ByValue t name v ∷ rest) (suc n) x e = branch_kind child xs (s + 1) rest n x e
