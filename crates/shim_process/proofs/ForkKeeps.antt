-- A state after which a process is as sound as before.
use Rattle.std.proofs.Common.{◌≡◌, ℕ, ◌<◌, ◌≤◌, true, List, ◌∷◌, Some, sym, ap, ◌∙◌, subst}
use Rattle.std.specs.Prelude.{slice_get}
use Rattle.shim_base.specs.Paths.{Path, Channel, NamedChannel}
use Rattle.shim_process.specs.Locations.{Location, at_number}
use Rattle.shim_process.specs.LocalState.{LocalState}
use Rattle.shim_process.specs.Sharers.{shares}
use Rattle.shim_process.specs.FittingFrames.{IsFitting}
use Rattle.shim_process.specs.SerialRuns.{is_in_runs}
use Rattle.shim_process.specs.Sound.{Sound, IsPathPrefix, IsOwned, FramesBelow, PlacesGrow}
use Rattle.shim_process.proofs.CarryChannels.{shares_same}
use Rattle.shim_process.proofs.FittingEnds.{GoesFitting}
use Rattle.shim_process.proofs.ForkPlaces.{Place}

-- the second state is on the channels of the first one, and its own variables are among those
pub record Keeps (l m : LocalState) : Type 0 where
  pub path : m.path ≡ l.path
  pub base : m.base ≡ l.base
  pub made : m.made ≡ l.made
  pub untaken : m.untaken ≡ l.untaken
  pub given : m.given ≡ l.given
  pub frames : FramesBelow l.base (l.frame ∷ l.callers) → FramesBelow m.base (m.frame ∷ m.callers)
  pub grow : PlacesGrow l.path l.untaken l.made (l.frame ∷ l.callers) → PlacesGrow m.path m.untaken m.made (m.frame ∷ m.callers)
  pub places : (n : ℕ) (y : Location) → at_number m.locations n ≡ Some y → Place IsOwned l.locations n y
  pub fitting : IsFitting l → GoesFitting l m

pub shares_kept : (l m : LocalState) (c : Channel) → Keeps l m → shares m c ≡ shares l c
shares_kept l m c k = shares_same l m c k.path k.given k.made k.untaken

pub kept_sound : (l m : LocalState) → Keeps l m → Sound l → Sound m
kept_sound l m k s = record {
  base = subst (λ (n : ℕ). 1 ≤ n) (sym k.base) s.base;
  labels = k.frames s.labels;
  channels = λ n x e.
      let p = k.places n x e in
      shares_kept l m x.channel.channel k ∙ subst (λ (z : NamedChannel). shares l z.channel ≡ true) p.channel (s.channels n p.was p.at);
  once = λ n o x y ex ey ox oy same.
      let p = k.places n x ex in
      let q = k.places o y ey in
      s.once n o p.was q.was p.at q.at (p.marked ox) (q.marked oy) (ap (λ (z : NamedChannel). z.channel) p.channel ∙ (same ∙ ap (λ (z : NamedChannel). z.channel) (sym q.channel)));
  homes = λ at c e. subst (λ (p : Path). IsPathPrefix c.channel.home p) (sym k.path) (s.homes at c (ap (λ (g : List NamedChannel). slice_get g at) (sym k.given) ∙ e));
  serials = λ at c e h. subst (λ (n : ℕ). c.channel.serial < n) (sym k.made) (s.serials at c (ap (λ (g : List NamedChannel). slice_get g at) (sym k.given) ∙ e) (h ∙ k.path));
  made = λ n e. subst (λ (i : ℕ). n < i) (sym k.made) (s.made n (ap (is_in_runs n) (sym k.untaken) ∙ e));
  taken = λ at c e h.
      ap (is_in_runs c.channel.serial) k.untaken ∙ s.taken at c (ap (λ (g : List NamedChannel). slice_get g at) (sym k.given) ∙ e) (h ∙ k.path);
  places = k.grow s.places;
  root = λ e. k.given ∙ s.root (sym k.path ∙ e);
  fitting = (k.fitting s.fitting).0;
}
