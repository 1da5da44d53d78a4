-- What a call keeps of a state, and what follows from it.
use Rattle.std.proofs.Common.{◌≡◌, ◌∙◌, ℕ, ◌<◌, ◌≤◌, ◌⊎◌, inl, inr, Bool, true, false, List, ◌∷◌, Some, refl, sym, ap, subst, arith}
use Rattle.std.specs.Prelude.{slice_get}
use Rattle.shim_base.specs.Paths.{Channel, NamedChannel}
use Rattle.shim_process.specs.Locations.{Location, Own, Copy, at_number}
use Rattle.shim_process.specs.LocalState.{LocalState}
use Rattle.shim_process.specs.Sharers.{shares, carries}
use Rattle.shim_process.specs.declared.serial_run.SerialRun.{SerialRun}
use Rattle.shim_process.specs.SerialRuns.{is_in_runs}
use Rattle.shim_process.specs.Sound.{IsPathPrefix, IsOwned, FramesBelow, PlacesGrow, Sound}
use Rattle.shim_process.proofs.PlaceLocations.{Was}
use Rattle.shim_process.proofs.CarryChannels.{shares_more, shares_new, shares_made, shares_how, Carried, carried_at, carries_at}
use Rattle.shim_process.proofs.LabelFrames.{HasExited}
use Rattle.shim_process.proofs.FittingEnds.{GoesFitting}
use Rattle.shim_base.proofs.Facts.{false_unless}

-- What a location was before: the same, or one that is made, of an older channel or of a new one, or one of a channel that a handler takes. The new channels are those from l's count on to this one, those that no handler has taken are these, and each new or taken one has a place.
pub data From (l : LocalState) (made : ℕ) (untaken : List SerialRun) (place : ℕ → ℕ) (n : ℕ) (x : Location) : Type 0 where
  as_was : Was l.locations n x → From l made untaken place n x
  as_copy : x.ownership ≡ Copy → shares l x.channel.channel ≡ true → From l made untaken place n x
  as_new : x.ownership ≡ Own → x.channel.channel.home ≡ l.path → l.made ≤ x.channel.channel.serial → x.channel.channel.serial < made → is_in_runs x.channel.channel.serial untaken ≡ false
      → n ≡ place x.channel.channel.serial → From l made untaken place n x
  as_taken : x.ownership ≡ Own → x.channel.channel.home ≡ l.path → is_in_runs x.channel.channel.serial l.untaken ≡ true → is_in_runs x.channel.channel.serial untaken ≡ false
      → n ≡ place x.channel.channel.serial → From l made untaken place n x

-- all but the units that a process is in
pub record Changed (l m : LocalState) : Type 0 where
  pub path : m.path ≡ l.path
  pub base : m.base ≡ l.base
  pub given : m.given ≡ l.given
  pub output : m.holds_output ≡ l.holds_output
  pub made : l.made ≤ m.made
  pub untaken : (n : ℕ) → is_in_runs n m.untaken ≡ true → (is_in_runs n l.untaken ≡ true) ⊎ ((l.made ≤ n) × (n < m.made))
  pub place : ℕ → ℕ
  pub from : (n : ℕ) (x : Location) → at_number m.locations n ≡ Some x → From l m.made m.untaken place n x

pub record Keeps (l m : LocalState) : Type 0 where
  pub changed : Changed l m
  pub labels : FramesBelow l.base (m.frame ∷ m.callers)
  pub places : PlacesGrow m.path m.untaken m.made (m.frame ∷ m.callers)
  pub fitting : GoesFitting l m

-- a change, and then units left
pub keeps : (l k m : LocalState) → Changed l k → HasExited l.base k m → GoesFitting l m → Keeps l m
keeps l k m c e fitting = record {
  changed = record {
    path = e.path ∙ c.path;
    base = e.base ∙ c.base;
    given = e.given ∙ c.given;
    output = e.output ∙ c.output;
    made = (let a = c.made in let b = e.made in omega (arith, a, b));
    untaken = λ n there. subst (λ made. (is_in_runs n l.untaken ≡ true) ⊎ ((l.made ≤ n) × (n < made))) (sym e.made) (c.untaken n (ap (is_in_runs n) (sym e.untaken) ∙ there));
    place = c.place;
    from = λ n x there.
        subst (λ made. From l made m.untaken c.place n x) (sym e.made) (subst (λ runs. From l k.made runs c.place n x) (sym e.untaken) (c.from n x (e.at n x there)));
  };
  labels = e.labels;
  places = subst (λ path. PlacesGrow path m.untaken m.made (m.frame ∷ m.callers)) (sym e.path)
      (subst (λ runs. PlacesGrow k.path runs m.made (m.frame ∷ m.callers)) (sym e.untaken)
      (subst (λ made. PlacesGrow k.path k.untaken made (m.frame ∷ m.callers)) (sym e.made) e.places));
  fitting = fitting;
}

-- a channel of the process's own that it shares is one that it made, and a handler has taken it
serial_taken : (l : LocalState) (c : Channel) → Sound l → c.home ≡ l.path → shares l c ≡ true → (c.serial < l.made) × (is_in_runs c.serial l.untaken ≡ false)
serial_taken l c s home e = elim (shares_how l c e) [
  | inl w ↦
      let at_home = ap (λ (d : Channel). d.home) w.3 ∙ home in
      (subst (λ (d : Channel). d.serial < l.made) w.3 (s.serials w.0 w.1 w.2 at_home), subst (λ (d : Channel). is_in_runs d.serial l.untaken ≡ false) w.3 (s.taken w.0 w.1 w.2 at_home))
  | inr w ↦ w
]

-- those below the count of one state that no handler of the other has taken
older_untaken : (l m : LocalState) → Changed l m → (n : ℕ) → n < l.made → is_in_runs n m.untaken ≡ true → is_in_runs n l.untaken ≡ true
older_untaken l m c n below e = elim (c.untaken n e) [ inl there ↦ there | inr w ↦ absurd (let least = w.0 in omega (arith, least, below)) ]

from_shares : (l m : LocalState) (n : ℕ) (x : Location) → Sound l → (c : Changed l m) → From l m.made m.untaken c.place n x → shares m x.channel.channel ≡ true
from_shares l m n x s c (as_was w) =
    shares_more l m x.channel.channel c.path c.given c.made (older_untaken l m c) (subst (λ (d : NamedChannel). shares l d.channel ≡ true) w.channel (s.channels n w.location w.there))
from_shares l m n x s c (as_copy ownership e) = shares_more l m x.channel.channel c.path c.given c.made (older_untaken l m c) e
from_shares l m n x s c (as_new ownership home least below none is) = shares_made m x.channel.channel (home ∙ sym c.path) below none
from_shares l m n x s c (as_taken ownership home there none is) =
    let below = s.made x.channel.channel.serial there in
    let more = c.made in
    shares_made m x.channel.channel (home ∙ sym c.path) (omega (arith, below, more)) none

was_shared : (l : LocalState) (n : ℕ) (x : Location) → Sound l → Was l.locations n x → shares l x.channel.channel ≡ true
was_shared l n x s w = subst (λ (d : NamedChannel). shares l d.channel ≡ true) w.channel (s.channels n w.location w.there)

-- an older one isn't on a new channel
never_new : (l : LocalState) (n : ℕ) (x : Location) (c : Channel) → Sound l → Was l.locations n x → x.channel.channel ≡ c → c.home ≡ l.path → l.made ≤ c.serial → ⊥
never_new l n x c s w same home least =
    let shared : shares l c ≡ true = subst (λ d. shares l d ≡ true) same (was_shared l n x s w) in
    let below = (serial_taken l c s home shared).0 in
    omega (arith, below, least)

-- nor on one that a handler takes
never_taken : (l : LocalState) (n : ℕ) (x : Location) (c : Channel) → Sound l → Was l.locations n x → x.channel.channel ≡ c → c.home ≡ l.path → is_in_runs c.serial l.untaken ≡ true → ⊥
never_taken l n x c s w same home there =
    let shared : shares l c ≡ true = subst (λ d. shares l d ≡ true) same (was_shared l n x s w) in
    let none = (serial_taken l c s home shared).1 in
    cc (there, none)

-- and a new one is none of these
new_or_taken : (l : LocalState) (c d : Channel) → Sound l → c ≡ d → l.made ≤ c.serial → is_in_runs d.serial l.untaken ≡ true → ⊥
new_or_taken l c d s same least there =
    let below = s.made d.serial there in
    let number : c.serial ≡ d.serial = ap (λ (z : Channel). z.serial) same in
    omega (arith, least, below, number)

no_copy : (x : Location) → x.ownership ≡ Copy → IsOwned x.ownership → ⊥
no_copy x ownership owned = subst IsOwned ownership owned

from_once : (l : LocalState) (made : ℕ) (untaken : List SerialRun) (place : ℕ → ℕ) (n m : ℕ) (x y : Location) → Sound l → From l made untaken place n x → From l made untaken place m y
    → IsOwned x.ownership → IsOwned y.ownership → x.channel.channel ≡ y.channel.channel → n ≡ m
from_once l made untaken place n m x y s (as_copy ownership e) b p q same = absurd (no_copy x ownership p)
from_once l made untaken place n m x y s a (as_copy ownership e) p q same = absurd (no_copy y ownership q)
from_once l made untaken place n m x y s (as_was v) (as_was w) p q same =
    s.once n m v.location w.location v.there w.there (subst IsOwned (sym v.ownership) p) (subst IsOwned (sym w.ownership) q)
    (ap (λ (d : NamedChannel). d.channel) v.channel ∙ same ∙ sym (ap (λ (d : NamedChannel). d.channel) w.channel))
from_once l made untaken place n m x y s (as_was v) (as_new ownership home least below none is) p q same = absurd (never_new l n x y.channel.channel s v same home least)
from_once l made untaken place n m x y s (as_was v) (as_taken ownership home there none is) p q same = absurd (never_taken l n x y.channel.channel s v same home there)
from_once l made untaken place n m x y s (as_new ownership home least below none is) (as_was w) p q same = absurd (never_new l m y x.channel.channel s w (sym same) home least)
from_once l made untaken place n m x y s (as_taken ownership home there none is) (as_was w) p q same = absurd (never_taken l m y x.channel.channel s w (sym same) home there)
from_once l made untaken place n m x y s (as_new ownership home least below none is) (as_taken other_ownership other_home other_there other_none other_is) p q same =
    absurd (new_or_taken l x.channel.channel y.channel.channel s same least other_there)
from_once l made untaken place n m x y s (as_taken ownership home there none is) (as_new other_ownership other_home other_least other_below other_none other_is) p q same =
    absurd (new_or_taken l y.channel.channel x.channel.channel s (sym same) other_least there)
from_once l made untaken place n m x y s (as_new ownership home least below none is) (as_new other_ownership other_home other_least other_below other_none other_is) p q same =
    is ∙ ap (λ (d : Channel). place d.serial) same ∙ sym other_is
from_once l made untaken place n m x y s (as_taken ownership home there none is) (as_taken other_ownership other_home other_there other_none other_is) p q same =
    is ∙ ap (λ (d : Channel). place d.serial) same ∙ sym other_is

-- a state stays sound
pub keeps_sound : (l m : LocalState) → Sound l → Keeps l m → Sound m
keeps_sound l m s k =
    let c : Changed l m = k.changed in
    record {
      base = (let a = s.base in let b = c.base in omega (arith, a, b));
      labels = subst (λ b. FramesBelow b (m.frame ∷ m.callers)) (sym c.base) k.labels;
      channels = λ n x e. from_shares l m n x s c (c.from n x e);
      once = λ n i x y e f p q same. from_once l m.made m.untaken c.place n i x y s (c.from n x e) (c.from i y f) p q same;
      homes = λ at d e. subst (IsPathPrefix d.channel.home) (sym c.path) (s.homes at d (ap (λ g. slice_get g at) (sym c.given) ∙ e));
      serials = λ at d e home.
          let below = s.serials at d (ap (λ g. slice_get g at) (sym c.given) ∙ e) (home ∙ c.path) in
          let more = c.made in
          omega (arith, below, more);
      made = λ n e. elim (c.untaken n e) [
        | inl there ↦ let below = s.made n there in let more = c.made in omega (arith, below, more)
        | inr w ↦ w.1
      ];
      taken = λ at d e home.
          let was = ap (λ g. slice_get g at) (sym c.given) ∙ e in
          false_unless (is_in_runs d.channel.serial m.untaken) (λ t. elim (c.untaken d.channel.serial t) [
            | inl there ↦ let none = s.taken at d was (home ∙ c.path) in absurd (cc (there, none))
            | inr w ↦ let below = s.serials at d was (home ∙ c.path) in let least = w.0 in absurd (omega (arith, below, least))
          ]);
      places = k.places;
      root = λ e. c.given ∙ s.root (sym c.path ∙ e);
      fitting = k.fitting.0;
    }

pub keeps_shares : (l m : LocalState) (c : Channel) → Keeps l m → shares l c ≡ true → shares m c ≡ true
keeps_shares l m c k e = shares_more l m c k.changed.path k.changed.given k.changed.made (older_untaken l m k.changed) e

pub keeps_adds : (l m : LocalState) (c : Channel) → Keeps l m → shares l c ≡ false → shares m c ≡ true → c.home ≡ l.path
keeps_adds l m c k none e = shares_new l m c k.changed.path k.changed.given none e

unshared : (l : LocalState) (c : Channel) (b : Bool) → shares l c ≡ b → Sound l → c.home ≡ l.path → l.made ≤ c.serial → b ≡ false
unshared l c true e s home least = absurd (let below = (serial_taken l c s home e).0 in omega (arith, below, least))
unshared l c false e s home least = refl

-- one that no handler has taken isn't shared
pub untaken_unshared : (l : LocalState) (c : Channel) (b : Bool) → shares l c ≡ b → Sound l → c.home ≡ l.path → is_in_runs c.serial l.untaken ≡ true → b ≡ false
untaken_unshared l c true e s home there = absurd (let none = (serial_taken l c s home e).1 in cc (there, none))
untaken_unshared l c false e s home there = refl

not_copy : (x : Location) → x.ownership ≡ Own → x.ownership ≡ Copy → ⊥
not_copy x a b = subst IsOwned (sym a ∙ b) tt

from_carries : (l : LocalState) (made : ℕ) (untaken : List SerialRun) (place : ℕ → ℕ) (n : ℕ) (x : Location) (c : Channel) → Sound l → From l made untaken place n x → x.ownership ≡ Own → x.channel.channel ≡ c
    → (carries l c ≡ true) ⊎ ((c.home ≡ l.path) × (shares l c ≡ false))
from_carries l made untaken place n x c s (as_was w) own on = inl (carries_at l c n w.location w.there (w.ownership ∙ own) (ap (λ (d : NamedChannel). d.channel) w.channel ∙ on))
from_carries l made untaken place n x c s (as_copy ownership e) own on = absurd (not_copy x own ownership)
from_carries l made untaken place n x c s (as_new ownership home least below none is) own on =
    inr (subst (λ (d : Channel). d.home ≡ l.path) on home, unshared l c (shares l c) refl s (subst (λ (d : Channel). d.home ≡ l.path) on home) (subst (λ (d : Channel). l.made ≤ d.serial) on least))
from_carries l made untaken place n x c s (as_taken ownership home there none is) own on =
    let at_home = subst (λ (d : Channel). d.home ≡ l.path) on home in
    inr (at_home, untaken_unshared l c (shares l c) refl s at_home (subst (λ (d : Channel). is_in_runs d.serial l.untaken ≡ true) on there))

-- it carries no more, but for what is new and its own
pub keeps_carries : (l m : LocalState) (c : Channel) → Sound l → Keeps l m → carries m c ≡ true → (carries l c ≡ true) ⊎ ((c.home ≡ l.path) × (shares l c ≡ false))
keeps_carries l m c s k e =
    let w : Carried m.locations c = carried_at m c e in
    from_carries l m.made m.untaken k.changed.place w.number w.location c s (k.changed.from w.number w.location w.there) w.ownership w.channel

pub keeps_holds : (l m : LocalState) → Keeps l m → m.holds_output ≡ true → l.holds_output ≡ true
keeps_holds l m k e = sym k.changed.output ∙ e
