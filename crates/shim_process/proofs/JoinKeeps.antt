-- What a join keeps of a state, and what it brings back.
use Rattle.std.proofs.Common.{◌≡◌, ◌∙◌, ℕ, ◌≤◌, ◌⊎◌, inl, inr, Bool, true, false, ◌||◌, List, [], ◌∷◌, Some, refl, sym, ap, subst, arith}
use Rattle.std.proofs.lemmas.Bool.{or_cases}
use Rattle.std.specs.Prelude.{slice_get}
use Rattle.shim_base.specs.Paths.{Channel, NamedChannel}
use Rattle.shim_local.specs.Laws.{AllOf, AnyOf}
use Rattle.shim_units.specs.declared.unit.UBranch.{UBranch}
use Rattle.shim_process.specs.Locations.{Location, Own, at_number}
use Rattle.shim_process.specs.Todo.{On}
use Rattle.shim_process.specs.LocalState.{LocalState, handlers}
use Rattle.shim_process.specs.Ends.{gone}
use Rattle.shim_process.specs.FittingFrames.{IsFitting}
use Rattle.shim_process.specs.Forks.{item_branches, all_back, output_back, joined, join}
use Rattle.shim_process.specs.Sharers.{shares, carries}
use Rattle.shim_process.specs.SerialRuns.{is_in_runs}
use Rattle.shim_process.specs.Sound.{IsPathPrefix, IsOwned, FramesBelow, PlacesGrow, Sound}
use Rattle.shim_process.specs.Born.{Born}
use Rattle.shim_process.proofs.CarryChannels.{shares_same, Carried, carried_at, carries_at}
use Rattle.shim_process.proofs.LabelFrames.{HasExited, gone_left, none_left}
use Rattle.shim_process.proofs.FittingEnds.{HasParameters, GoesFitting, then_fitting, fitting_over, gone_fitting}
use Rattle.shim_process.proofs.JoinLocations.{Kept, same_ownership, came_back, OneCarries, all_channel, all_length, all_kept, kept_owned, kept_channel}
use Rattle.shim_base.proofs.Facts.{choose}

-- one of the children has the output
abbrev pub OneHolds : List LocalState → Type 0
OneHolds ks = AnyOf (λ k. k.holds_output ≡ true) ks

-- the second state is the first with what came back from the children
pub record Joined (l : LocalState) (ks : List LocalState) (m : LocalState) : Type 0 where
  pub path : m.path ≡ l.path
  pub base : m.base ≡ l.base
  pub made : m.made ≡ l.made
  pub untaken : m.untaken ≡ l.untaken
  pub given : m.given ≡ l.given
  pub output : m.holds_output ≡ true → (l.holds_output ≡ true) ⊎ OneHolds ks
  pub kept : (n : ℕ) (x : Location) → at_number m.locations n ≡ Some x → Kept (OneCarries ks) l.locations n x
  pub labels : FramesBelow l.base (m.frame ∷ m.callers)
  pub places : PlacesGrow l.path l.untaken l.made (m.frame ∷ m.callers)
  pub fitting : GoesFitting l m

output_kept : (ks : List LocalState) (holds : Bool) → output_back ks holds ≡ true → (holds ≡ true) ⊎ OneHolds ks
output_kept [] holds e = inl e
output_kept (k ∷ ks) holds e = elim (output_kept ks (k.holds_output || holds) e) [
  | inl h ↦ elim (or_cases k.holds_output holds h) [ inl first ↦ inr (inl first) | inr second ↦ inl second ]
  | inr h ↦ inr (inr h)
]

-- and units may be left then
left_joined : (l : LocalState) (ks : List LocalState) (m : LocalState) → Born l ks → HasExited l.base (joined l ks) m → GoesFitting l m → Joined l ks m
left_joined l ks m born h fitting = record {
  path = h.path;
  base = h.base;
  made = h.made;
  untaken = h.untaken;
  given = h.given;
  output = λ e. output_kept ks l.holds_output (sym h.output ∙ e);
  kept = λ n x e. all_kept l born.fork 0 (item_branches l.frame.todo) ks l.locations n x born.places (λ j. refl) (h.at n x e);
  labels = h.labels;
  places = h.places;
  fitting = fitting;
}

joined_fitting : (l : LocalState) (ks : List LocalState) → IsFitting l → GoesFitting l (joined l ks)
joined_fitting l ks h =
    let bs : List UBranch = item_branches l.frame.todo in (
      fitting_over l.path l.program l.frame l.callers l.locations (all_back l.frame.slots bs ks l.locations) (all_length l.frame.slots bs ks l.locations) h,
      record { many = refl; channels = λ n below. all_channel l.frame.slots bs ks l.locations n },
    )

join_fitting : (l : LocalState) (ks : List LocalState) (goes_on : Bool) → IsFitting l → GoesFitting l (join l ks goes_on)
unfolding join
join_fitting l ks goes_on h =
    let w : GoesFitting l (joined l ks) = joined_fitting l ks h in
    choose (λ (z : LocalState). GoesFitting l z) goes_on (gone On (joined l ks)) (joined l ks) (then_fitting l (joined l ks) (gone On (joined l ks)) w.1 (gone_fitting On (joined l ks) w.0)) w

pub join_joined : (l : LocalState) (ks : List LocalState) (goes_on : Bool) → Sound l → Born l ks → Joined l ks (join l ks goes_on)
unfolding join
join_joined l ks goes_on s born =
    left_joined l ks (join l ks goes_on) born
    (choose (HasExited l.base (joined l ks)) goes_on (gone On (joined l ks)) (joined l ks) (gone_left l.base On (joined l ks) (record { below = s.labels; grow = s.places }))
    (none_left l.base (joined l ks) (record { below = s.labels; grow = s.places })))
    (join_fitting l ks goes_on s.fitting)

joined_shares : (l : LocalState) (ks : List LocalState) (m : LocalState) (c : Channel) → Joined l ks m → shares m c ≡ shares l c
joined_shares l ks m c h = shares_same l m c h.path h.given h.made h.untaken

joined_once : (l : LocalState) (ks : List LocalState) (n i : ℕ) (x y : Location) → Sound l → Kept (OneCarries ks) l.locations n x → Kept (OneCarries ks) l.locations i y → IsOwned x.ownership → IsOwned y.ownership
    → x.channel.channel ≡ y.channel.channel → n ≡ i
joined_once l ks n i x y s a b p q same =
    let v = kept_owned (OneCarries ks) l.locations n x a p in
    let w = kept_owned (OneCarries ks) l.locations i y b q in
    s.once n i v.0 w.0 v.1 w.1 v.2 w.2 (ap (λ (d : NamedChannel). d.channel) v.3 ∙ same ∙ sym (ap (λ (d : NamedChannel). d.channel) w.3))

joined_channel : (l : LocalState) (ks : List LocalState) (m : LocalState) (n : ℕ) (x : Location) → Sound l → Joined l ks m → at_number m.locations n ≡ Some x → shares m x.channel.channel ≡ true
joined_channel l ks m n x s h e =
    let w = kept_channel (OneCarries ks) l.locations n x (h.kept n x e) in
    joined_shares l ks m x.channel.channel h ∙ subst (λ (d : NamedChannel). shares l d.channel ≡ true) w.2 (s.channels n w.0 w.1)

pub joined_sound : (l : LocalState) (ks : List LocalState) (m : LocalState) → Sound l → Joined l ks m → Sound m
joined_sound l ks m s h = record {
  base = subst (λ b. 1 ≤ b) (sym h.base) s.base;
  labels = subst (λ b. FramesBelow b (m.frame ∷ m.callers)) (sym h.base) h.labels;
  channels = λ n x e. joined_channel l ks m n x s h e;
  once = λ n i x y e f p q same. joined_once l ks n i x y s (h.kept n x e) (h.kept i y f) p q same;
  homes = λ at d e. subst (IsPathPrefix d.channel.home) (sym h.path) (s.homes at d (ap (λ g. slice_get g at) (sym h.given) ∙ e));
  serials = λ at d e home.
      let below = s.serials at d (ap (λ g. slice_get g at) (sym h.given) ∙ e) (home ∙ h.path) in
      let made = h.made in
      omega (arith, below, made);
  made = λ n e. let below = s.made n (ap (is_in_runs n) (sym h.untaken) ∙ e) in let made = h.made in omega (arith, below, made);
  taken = λ at d e home. ap (is_in_runs d.channel.serial) h.untaken ∙ s.taken at d (ap (λ g. slice_get g at) (sym h.given) ∙ e) (home ∙ h.path);
  places = subst (λ path. PlacesGrow path m.untaken m.made (m.frame ∷ m.callers)) (sym h.path)
      (subst (λ runs. PlacesGrow l.path runs m.made (m.frame ∷ m.callers)) (sym h.untaken)
      (subst (λ made. PlacesGrow l.path l.untaken made (m.frame ∷ m.callers)) (sym h.made) h.places));
  root = λ e. h.given ∙ s.root (sym h.path ∙ e);
  fitting = h.fitting.0;
}

kept_carries : (l : LocalState) (ks : List LocalState) (n : ℕ) (x : Location) (c : Channel) → Kept (OneCarries ks) l.locations n x → x.ownership ≡ Own → x.channel.channel ≡ c
    → (carries l c ≡ true) ⊎ OneCarries ks c
kept_carries l ks n x c (same_ownership w) own on = inl (carries_at l c n w.location w.there (w.ownership ∙ own) (ap (λ (d : NamedChannel). d.channel) w.channel ∙ on))
kept_carries l ks n x c (came_back y there channel lent own away) ownership on = inr (subst (OneCarries ks) on away)

pub join_sound : (l : LocalState) (ks : List LocalState) (goes_on : Bool) → Sound l → AllOf Sound ks → Born l ks → Sound (join l ks goes_on)
join_sound l ks goes_on s all born = joined_sound l ks (join l ks goes_on) s (join_joined l ks goes_on s born)

pub join_path : (l : LocalState) (ks : List LocalState) (goes_on : Bool) → Sound l → AllOf Sound ks → Born l ks → (join l ks goes_on).path ≡ l.path
join_path l ks goes_on s all born = (join_joined l ks goes_on s born).path

pub join_base : (l : LocalState) (ks : List LocalState) (goes_on : Bool) → Sound l → AllOf Sound ks → Born l ks → (join l ks goes_on).base ≡ l.base
join_base l ks goes_on s all born = (join_joined l ks goes_on s born).base

pub join_given : (l : LocalState) (ks : List LocalState) (goes_on : Bool) → Sound l → AllOf Sound ks → Born l ks → (join l ks goes_on).given ≡ l.given
join_given l ks goes_on s all born = (join_joined l ks goes_on s born).given

pub join_parameters : (l : LocalState) (ks : List LocalState) (goes_on : Bool) → Sound l → AllOf Sound ks → Born l ks → HasParameters l (join l ks goes_on)
join_parameters l ks goes_on s all born = (join_joined l ks goes_on s born).fitting.1

-- the process still stands at the fork
pub join_handlers : (l : LocalState) (ks : List LocalState) → Sound l → AllOf Sound ks → Born l ks → handlers (join l ks false) ≡ handlers l
unfolding join
join_handlers l ks s all born = refl

pub join_shares : (l : LocalState) (ks : List LocalState) (goes_on : Bool) (c : Channel) → Sound l → AllOf Sound ks → Born l ks → shares (join l ks goes_on) c ≡ shares l c
join_shares l ks goes_on c s all born = joined_shares l ks (join l ks goes_on) c (join_joined l ks goes_on s born)

pub join_carries : (l : LocalState) (ks : List LocalState) (goes_on : Bool) (c : Channel) → Sound l → AllOf Sound ks → Born l ks → carries (join l ks goes_on) c ≡ true
    → (carries l c ≡ true) ⊎ OneCarries ks c
join_carries l ks goes_on c s all born e =
    let w : Carried (join l ks goes_on).locations c = carried_at (join l ks goes_on) c e in
    kept_carries l ks w.number w.location c ((join_joined l ks goes_on s born).kept w.number w.location w.there) w.ownership w.channel

pub join_holds : (l : LocalState) (ks : List LocalState) (goes_on : Bool) → Sound l → AllOf Sound ks → Born l ks → (join l ks goes_on).holds_output ≡ true
    → (l.holds_output ≡ true) ⊎ OneHolds ks
join_holds l ks goes_on s all born e = (join_joined l ks goes_on s born).output e
