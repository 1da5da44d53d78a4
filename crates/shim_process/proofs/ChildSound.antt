-- The children of a sound process are sound.
use Rattle.std.proofs.Common.{◌≡◌, ℕ, ◌+◌, ◌<◌, true, List, [], ◌∷◌, ◌++◌, length, Some, ◌⊎◌, inl, inr, sym, ap, ◌∙◌, subst, arith, refl}
use Rattle.std.proofs.lemmas.Bool.{and_parts, or_cases, or_left, ltb-true}
use Rattle.std.specs.Prelude.{slice_get, nat_lt}
use Rattle.shim_base.specs.Paths.{Path, Channel, NamedChannel, same_path}
use Rattle.shim_units.specs.declared.unit.UBranch.{UBranch}
use Rattle.shim_process.specs.Locations.{Location, Locations, at_number}
use Rattle.shim_process.specs.LocalState.{LocalState, unit_at, handlers}
use Rattle.shim_process.specs.StatementViews.{statement_view, passed_labels}
use Rattle.shim_process.specs.Arguments.{Argument, new_channels, branch_locations, channels_of, declared_slots}
use Rattle.shim_process.specs.Forks.{child}
use Rattle.shim_process.specs.Sharers.{is_among, declared, shares}
use Rattle.shim_process.specs.Sound.{Sound, IsPathPrefix, LabelsBelow}
use Rattle.shim_process.proofs.CarryChannels.{among_at}
use Rattle.shim_process.proofs.LabelFrames.{passed_below}
use Rattle.shim_process.proofs.ForkNames.{leads_here, leads_on, leads_no_child}
use Rattle.shim_process.proofs.ChildFitting.{child_fitting}
use Rattle.shim_process.proofs.ChildPlaces.{Taken, origin, once_child}
use Rattle.shim_process.proofs.ChildGiven.{Given, before_empties, among_given, given_where, among_made}
use Rattle.shim_base.proofs.SamePaths.{same_path_is}

-- what a process shares is of a process on the way to it
pub shared_leads : (l : LocalState) (c : Channel) → Sound l → shares l c ≡ true → IsPathPrefix c.home l.path
unfolding shares
shared_leads l c s e =
    elim (or_cases (is_among c l.given) (declared l c) e) [
      | inl here ↦
          let w = among_at c l.given here in
          subst (λ (d : Channel). IsPathPrefix d.home l.path) w.3 (s.homes w.0 w.1 w.2)
      | inr made ↦ leads_here c.home l.path (same_path_is c.home l.path ((and_parts (same_path c.home l.path) _ made).0))
    ]

-- the path of a child
abbrev pub below : LocalState → ℕ → Path
below l i = l.path ++ (l.forks, i) ∷ []

-- no channel that the parent shares is the child's own
pub shared_not_own : (l : LocalState) (i : ℕ) (c : Channel) → Sound l → shares l c ≡ true → c.home ≡ below l i → ⊥
shared_not_own l i c s e h = leads_no_child c.home l.path (l.forks, i) (shared_leads l c s e) h

pub all_apart : (l : LocalState) (i : ℕ) → Sound l → (n : ℕ) (x : Location) → at_number l.locations n ≡ Some x → x.channel.channel.home ≡ below l i → ⊥
all_apart l i s n x e h = shared_not_own l i x.channel.channel s (s.channels n x e) h

-- the channels that a child is given

given_home : (l : LocalState) (i : ℕ) (given : List Argument) (at : ℕ) (c : NamedChannel) → Sound l → slice_get (channels_of (branch_locations (below l i) l.locations 0 given)) at ≡ Some c
    → (shares l c.channel ≡ true) ⊎ ((c.channel.home ≡ below l i) × (c.channel.serial < new_channels given))
given_home l i given at c s e =
    let w : Given (branch_locations (below l i) l.locations 0 given) c = given_where (branch_locations (below l i) l.locations 0 given) at c e in
    elim (origin (below l i) l.locations 0 given w.number w.place w.at) [
      | inl o ↦
          let t : Taken l.locations o.0 w.place = o.1 in
          inl (subst (λ (d : NamedChannel). shares l d.channel ≡ true) (t.channel ∙ w.on) (s.channels o.0 t.was t.at))
      | inr o ↦
          let most = o.most in
          let number : w.place.channel.channel.serial ≡ c.channel.serial = ap (λ (d : NamedChannel). d.channel.serial) w.on in
          inr (sym (ap (λ (d : NamedChannel). d.channel.home) w.on) ∙ o.home, omega (arith, most, number))
    ]

-- no child is the root
not_empty : (p : Path) (x : ℕ × ℕ) → p ++ x ∷ [] ≡ [] → ⊥
not_empty [] x e = cc
not_empty (y ∷ p) x e = cc

pub child_sound : (l : LocalState) (i : ℕ) (b : UBranch) (given : List Argument) → Sound l → length given ≡ length (unit_at l.program b.call.unit).params → Sound (child l i b given)
unfolding shares
child_sound l i b given s many =
    let passed : Locations = branch_locations (below l i) l.locations 0 given in
    let base = s.base in
    let outer : handlers l ≡ handlers l + 0 = omega arith in
    record {
      base = omega (arith, base);
      labels = (subst (λ (n : ℕ). LabelsBelow n (passed_labels (statement_view l) b.call.throws)) outer (passed_below l b.call.throws s), tt);
      channels = λ n x e. or_left _ _ (among_given passed n x (before_empties passed (declared_slots (unit_at l.program b.call.unit)) n x e));
      once = λ n m x y ex ey ox oy same.
          once_child (below l i) l.locations 0 given s.once (all_apart l i s) n m x y
          (before_empties passed (declared_slots (unit_at l.program b.call.unit)) n x ex)
          (before_empties passed (declared_slots (unit_at l.program b.call.unit)) m y ey)
          ox oy same;
      homes = λ at c e.
          elim (given_home l i given at c s e) [
            | inl shared ↦ leads_on c.channel.home l.path (l.forks, i) (shared_leads l c.channel s shared)
            | inr own ↦ leads_here c.channel.home (below l i) own.0
          ];
      serials = λ at c e h.
          elim (given_home l i given at c s e) [
            | inl shared ↦ absurd (shared_not_own l i c.channel s shared h)
            | inr own ↦ own.1
          ];
      made = λ n e. absurd (cc e);
      taken = λ at c e h. refl;
      places = tt;
      root = λ e. absurd (not_empty l.path (l.forks, i) e);
      fitting = child_fitting l i b given s.fitting many;
    }

-- what a child shares

pub child_shares : (l : LocalState) (i : ℕ) (b : UBranch) (given : List Argument) (c : Channel) → Sound l → shares (child l i b given) c ≡ true → (shares l c ≡ true) ⊎ (c.home ≡ below l i)
unfolding shares
child_shares l i b given c s e =
    let passed : Locations = branch_locations (below l i) l.locations 0 given in
    elim (or_cases (is_among c (channels_of passed)) (declared (child l i b given) c) e) [
      | inl here ↦
          let w = among_at c (channels_of passed) here in
          elim (given_home l i given w.0 w.1 s w.2) [
            | inl shared ↦ inl (subst (λ (d : Channel). shares l d ≡ true) w.3 shared)
            | inr own ↦ inr (ap (λ (d : Channel). d.home) (sym w.3) ∙ own.0)
          ]
      | inr made ↦ inr (same_path_is c.home (below l i) ((and_parts (same_path c.home (below l i)) _ made).0))
    ]

-- each channel that it shares was given to it
pub child_given : (l : LocalState) (i : ℕ) (b : UBranch) (given : List Argument) (c : Channel) → shares (child l i b given) c ≡ true
    → (at : ℕ) × (d : NamedChannel) × (slice_get (channels_of (branch_locations (below l i) l.locations 0 given)) at ≡ Some d) × (d.channel ≡ c)
unfolding shares
child_given l i b given c e =
    let passed : Locations = branch_locations (below l i) l.locations 0 given in
    elim (or_cases (is_among c (channels_of passed)) (declared (child l i b given) c) e) [
      | inl here ↦ among_at c (channels_of passed) here
      | inr made ↦
          let home : c.home ≡ below l i = same_path_is c.home (below l i) ((and_parts (same_path c.home (below l i)) _ made).0) in
          let number : c.serial < new_channels given = ltb-true c.serial (new_channels given) ((and_parts (nat_lt c.serial (new_channels given)) _ ((and_parts (same_path c.home (below l i)) _ made).1)).0) in
          among_at c (channels_of passed) (among_made (below l i) l.locations given c home number)
    ]
