-- The laws of a fork.
use Rattle.std.proofs.Common.{◌≡◌, ◌≢◌, ◌↔◌, ◌⊎◌, ℕ, suc, ◌+◌, Bool, true, cond, List, [], ◌∷◌, length, inl, inr, refl, sym, ap, ◌∙◌, subst}
use Rattle.std.proofs.lemmas.Bool.{and_parts}
use Rattle.shim_base.specs.Paths.{Path, Channel}
use Rattle.shim_local.specs.Process.{AtFork, Parted}
use Rattle.shim_local.specs.Laws.{AllOf, Forks, AreChildren, IsGiven, how_many}
use Rattle.shim_units.specs.declared.unit.UBranch.{UBranch}
use Rattle.shim_process.specs.LocalState.{LocalState, Frame, unit_at, handlers}
use Rattle.shim_process.specs.Arguments.{Argument}
use Rattle.shim_process.specs.Sharers.{shares, carries}
use Rattle.shim_process.specs.Forks.{item_branches, takes_output, child, children_from, lending, all_lending, parent, fork}
use Rattle.shim_process.specs.Stops.{stop}
use Rattle.shim_process.specs.declared.serial_run.SerialRun.{SerialRun}
use Rattle.shim_process.specs.Sound.{Sound, FramesBelow, PlacesGrow}
use Rattle.shim_process.specs.Born.{Born, InBranches}
use Rattle.shim_process.specs.Ops.{process_ops}
use Rattle.shim_process.proofs.BornChildren.{born_children}
use Rattle.shim_process.proofs.CallLaws.{carries_shares}
use Rattle.shim_process.proofs.CarryChannels.{given_shares, Carried, carried_at}
use Rattle.shim_process.proofs.ForkPlaces.{carried_within}
use Rattle.shim_process.proofs.ForkKeeps.{Keeps, shares_kept, kept_sound}
use Rattle.shim_process.proofs.ForkLending.{as_many, Lends, lends_one, lends_all}
use Rattle.shim_process.proofs.ForkParts.{Parts, parts_of, parent_stands, branches_there, each_child}
use Rattle.shim_process.proofs.ForkBorn.{IsParent, born_in_branches}
use Rattle.shim_process.proofs.ForkArguments.{AllMatch, fork_matches}
use Rattle.shim_process.proofs.FittingEnds.{HasParameters, GoesFitting}
use Rattle.shim_process.proofs.ForkCounts.{bit, state_carries, child_carried, count_children, carries_balanced, output_balanced}
use Rattle.shim_process.proofs.ChildCarried.{child_carries}
use Rattle.shim_process.proofs.ChildSound.{below, child_sound, child_shares, child_given}
use Rattle.shim_base.proofs.Facts.{no_items}

-- the branches of the fork at which the process stands
abbrev branches : LocalState → List UBranch
branches l = item_branches l.frame.todo

-- the parent

pub lends_keeps : (l m : LocalState) → Lends l m → Keeps l m
lends_keeps l m w = record {
  path = w.path;
  base = w.base;
  made = w.made;
  untaken = w.untaken;
  given = w.given;
  grow = λ h.
      subst (λ (p : Path). PlacesGrow p m.untaken m.made (m.frame ∷ m.callers)) (sym w.path)
      (subst (λ (r : List SerialRun). PlacesGrow l.path r m.made (m.frame ∷ m.callers)) (sym w.untaken)
      (subst (λ (n : ℕ). PlacesGrow l.path l.untaken n (m.frame ∷ m.callers)) (sym w.made)
      (subst (λ (f : Frame). PlacesGrow l.path l.untaken l.made (f ∷ m.callers)) (sym w.frame)
      (subst (λ (fs : List Frame). PlacesGrow l.path l.untaken l.made (l.frame ∷ fs)) (sym w.callers) h))));
  frames = λ h.
      subst (λ (n : ℕ). FramesBelow n (m.frame ∷ m.callers)) (sym w.base)
      (subst (λ (f : Frame). FramesBelow l.base (f ∷ m.callers)) (sym w.frame) (subst (λ (fs : List Frame). FramesBelow l.base (l.frame ∷ fs)) (sym w.callers) h));
  places = w.owned;
  fitting = λ h. (w.fitting h, record { many = w.many; channels = λ n below. w.channels n });
}

-- the number of forks is none of what is kept
one_more_fits : (l m : LocalState) (n : ℕ) → GoesFitting l m → GoesFitting l (record m { forks = n })
one_more_fits l m n w = (w.0, record { many = w.1.many; channels = w.1.channels })

one_fork_more : (l m : LocalState) (n : ℕ) → Keeps l m → Keeps l (record m { forks = n })
one_fork_more l m n k =
    record { path = k.path; base = k.base; made = k.made; untaken = k.untaken; given = k.given; frames = k.frames; grow = k.grow; places = k.places; fitting = λ h. one_more_fits l m n (k.fitting h) }

fork_keeps : (l p : LocalState) (ks : List LocalState) → Forks process_ops l p ks → Keeps l p
fork_keeps l p ks h =
    let w : Parts l p ks = parts_of l p ks h in
    subst (Keeps l) (sym w.parent_is) (one_fork_more l (all_lending l (branches l)) (l.forks + 1) (lends_keeps l (all_lending l (branches l)) (lends_all l (branches l))))

pub parent_sound : (l p : LocalState) (ks : List LocalState) → Sound l → stop l ≡ AtFork → fork l ≡ Parted p ks → Sound p
parent_sound l p ks s at e = kept_sound l p (fork_keeps l p ks (at, e)) s

pub parent_path : (l p : LocalState) (ks : List LocalState) → Sound l → stop l ≡ AtFork → fork l ≡ Parted p ks → p.path ≡ l.path
parent_path l p ks s at e = (fork_keeps l p ks (at, e)).path

pub parent_base : (l p : LocalState) (ks : List LocalState) → Sound l → stop l ≡ AtFork → fork l ≡ Parted p ks → p.base ≡ l.base
parent_base l p ks s at e = (fork_keeps l p ks (at, e)).base

pub parent_parameters : (l p : LocalState) (ks : List LocalState) → Sound l → stop l ≡ AtFork → fork l ≡ Parted p ks → HasParameters l p
parent_parameters l p ks s at e = ((fork_keeps l p ks (at, e)).fitting s.fitting).1

pub parent_given : (l p : LocalState) (ks : List LocalState) → Sound l → stop l ≡ AtFork → fork l ≡ Parted p ks → p.given ≡ l.given
parent_given l p ks s at e = (fork_keeps l p ks (at, e)).given

pub fork_shares : (l p : LocalState) (ks : List LocalState) (c : Channel) → Sound l → Forks process_ops l p ks → shares p c ≡ shares l c
fork_shares l p ks c s h = shares_kept l p c (fork_keeps l p ks h)

lends_handlers : (l m : LocalState) → Lends l m → handlers m ≡ handlers l
lends_handlers l m w =
    let bases = w.base in
    let frames = w.frame in
    λ i. bases i + ((frames i).outer + length (frames i).places)

pub fork_handlers : (l p : LocalState) (ks : List LocalState) → Sound l → Forks process_ops l p ks → handlers p ≡ handlers l
fork_handlers l p ks s h =
    let w : Parts l p ks = parts_of l p ks h in
    ap (λ (m : LocalState). handlers m) w.parent_is ∙ lends_handlers l (all_lending l (branches l)) (lends_all l (branches l))

-- the children

lending_sound : (m : LocalState) (b : UBranch) → Sound m → Sound (lending m b)
lending_sound m b s = kept_sound m (lending m b) (lends_keeps m (lending m b) (lends_one m b)) s

all_sound : (m : LocalState) (i : ℕ) (bs : List UBranch) (given : List (List Argument)) → Sound m → AllMatch m.frame.slots m.program bs given → AllOf Sound (children_from m i bs given)
all_sound m i [] given s match = tt
all_sound m i (b ∷ bs) [] s match = tt
all_sound m i (b ∷ bs) (g ∷ gs) s match = (child_sound m i b g s match.0.many, all_sound (lending m b) (i + 1) bs gs (lending_sound m b s) match.1)

pub fork_sound : (l p : LocalState) (ks : List LocalState) → Sound l → Forks process_ops l p ks → AllOf Sound ks
fork_sound l p ks s h =
    let w : Parts l p ks = parts_of l p ks h in
    subst (AllOf Sound) (sym w.children_are) (all_sound l 0 (branches l) w.given s (fork_matches l w.given s.fitting w.computed))

pub fork_some : (l p : LocalState) (ks : List LocalState) → Sound l → Forks process_ops l p ks → ks ≢ []
fork_some l p ks s h none =
    let w : Parts l p ks = parts_of l p ks h in
    let long : length ks ≡ length (branches l) = ap length w.children_are ∙ as_many l 0 (branches l) w.given w.suit in
    branches_there l w.at (no_items (branches l) (sym long ∙ ap length none))

pub fork_born : (l p : LocalState) (ks : List LocalState) → Sound l → Forks process_ops l p ks → Born p ks
fork_born l p ks s h =
    let w : Parts l p ks = parts_of l p ks h in
    let m : LocalState = parent l (branches l) in
    let k : Lends l (all_lending l (branches l)) = lends_all l (branches l) in
    let is_parent : IsParent l m = record {
      path = sym k.path;
      handlers = sym (lends_handlers l (all_lending l (branches l)) k);
      slots = ap (λ (f : Frame). f.slots) (sym k.frame);
      channels = λ n. sym (k.channels n);
    } in
    let places : InBranches m l.forks 0 (branches l) ks = subst (InBranches m l.forks 0 (branches l)) (sym w.children_are) (born_in_branches l m 0 (branches l) w.given is_parent (fork_matches l w.given s.fitting w.computed)) in
    subst (λ (n : LocalState). Born n ks) (sym w.parent_is) (record {
      fork = l.forks;
      last = refl;
      stops_at_fork = parent_stands l m k.trap k.frame w.at;
      places = subst (λ (f : Frame). InBranches m l.forks 0 (item_branches f.todo) ks) (sym k.frame) places;
    })

pub fork_children : (l p : LocalState) (ks : List LocalState) → Sound l → Forks process_ops l p ks → (f : ℕ) × AreChildren process_ops l.path (handlers l) f 0 ks
fork_children l p ks s h =
    let w = born_children p ks (fork_born l p ks s h) in
    let paths : p.path ≡ l.path = (fork_keeps l p ks h).path in
    (w.0, subst (λ (q : Path). AreChildren process_ops q (handlers l) w.0 0 ks) paths (subst (λ (n : ℕ). AreChildren process_ops p.path n w.0 0 ks) (fork_handlers l p ks s h) w.1))

pub children_share : (l p : LocalState) (ks : List LocalState) (c : Channel) → Sound l → Forks process_ops l p ks → AllOf (λ (k : LocalState). shares k c ≡ true → (shares l c ≡ true) ⊎ (c.home ≡ k.path)) ks
children_share l p ks c s h =
    let w : Parts l p ks = parts_of l p ks h in
    let P : LocalState → Type 0 = λ k. shares k c ≡ true → (shares l c ≡ true) ⊎ (c.home ≡ k.path) in
    let I : LocalState → Type 0 = λ m. Sound m × (shares m c ≡ shares l c) in
    subst (AllOf P) (sym w.children_are)
    (each_child P I (λ m b k. on_lending m b k.0 k.1) (λ m i b g k e. of_child m i b g k.0 k.1 e) l 0 (branches l) w.given (s, refl))
  where
    on_lending : (m : LocalState) (b : UBranch) → Sound m → shares m c ≡ shares l c → Sound (lending m b) × (shares (lending m b) c ≡ shares l c)
    on_lending m b sm e =
        let k : Keeps m (lending m b) = lends_keeps m (lending m b) (lends_one m b) in
        (kept_sound m (lending m b) k sm, shares_kept m (lending m b) c k ∙ e)

    of_child : (m : LocalState) (i : ℕ) (b : UBranch) (g : List Argument) → Sound m → shares m c ≡ shares l c → shares (child m i b g) c ≡ true → (shares l c ≡ true) ⊎ (c.home ≡ below m i)
    of_child m i b g sm same e =
        elim (child_shares m i b g c sm e) [
          | inl shared ↦ inl (sym same ∙ shared)
          | inr own ↦ inr own
        ]

pub children_given : (l p : LocalState) (ks : List LocalState) (c : Channel) → Sound l → Forks process_ops l p ks → AllOf (λ (k : LocalState). (shares k c ≡ true) ↔ IsGiven process_ops k c) ks
children_given l p ks c s h =
    let w : Parts l p ks = parts_of l p ks h in
    let P : LocalState → Type 0 = λ k. (shares k c ≡ true) ↔ IsGiven process_ops k c in
    let I : LocalState → Type 0 = λ m. Unit {0} in
    subst (AllOf P) (sym w.children_are)
    (each_child P I (λ m b k. tt) (λ m i b g k. (λ e. child_given m i b g c e, λ v. given_shares (child m i b g) v.0 v.1 c v.2 v.3)) l 0 (branches l) w.given tt)

-- who carries a channel, and who holds the output

same_carries : (m : LocalState) (n : ℕ) (c : Channel) → carries (record m { forks = n }) c ≡ carries m c
unfolding carries
same_carries m n c = refl

lending_carried : (m : LocalState) (b : UBranch) (c : Channel) → Sound m → shares m c ≡ true → Sound (lending m b) × (shares (lending m b) c ≡ true)
lending_carried m b c sm e =
    let k : Keeps m (lending m b) = lends_keeps m (lending m b) (lends_one m b) in
    (kept_sound m (lending m b) k sm, shares_kept m (lending m b) c k ∙ e)

head_counts : (f : LocalState → Bool) (a b : LocalState) (ks : List LocalState) → f a ≡ f b → how_many f (a ∷ ks) ≡ how_many f (b ∷ ks)
head_counts f a b ks e = ap (λ (t : Bool). cond t (suc (how_many f ks)) (how_many f ks)) e

pub fork_hands_on : (l p : LocalState) (ks : List LocalState) (c : Channel) → Sound l → Forks process_ops l p ks → carries l c ≡ true → how_many (λ (k : LocalState). carries k c) (p ∷ ks) ≡ 1
fork_hands_on l p ks c s h e =
    let w : Parts l p ks = parts_of l p ks h in
    let f : LocalState → Bool = λ k. carries k c in
    let I : LocalState → Type 0 = λ m. Sound m × (shares m c ≡ true) in
    let ps = w.parent_is in
    let cs = w.children_are in
    let kids : List LocalState = children_from l 0 (branches l) w.given in
    (λ j. how_many f (ps j ∷ cs j))
    ∙ (head_counts f (parent l (branches l)) (all_lending l (branches l)) kids (same_carries (all_lending l (branches l)) (l.forks + 1) c)
    ∙ (count_children f I (λ m b k. lending_carried m b c k.0 k.1) (λ m i b g k suit. carries_balanced m i b g c k.0 k.1 suit) l 0 (branches l) w.given (s, carries_shares l c s e) w.suit
    ∙ ap bit e))

pub fork_hands_output : (l p : LocalState) (ks : List LocalState) → Sound l → Forks process_ops l p ks → l.holds_output ≡ true → how_many (λ (k : LocalState). k.holds_output) (p ∷ ks) ≡ 1
fork_hands_output l p ks s h e =
    let w : Parts l p ks = parts_of l p ks h in
    let f : LocalState → Bool = λ k. k.holds_output in
    let I : LocalState → Type 0 = λ m. Unit {0} in
    let ps = w.parent_is in
    let cs = w.children_are in
    let kids : List LocalState = children_from l 0 (branches l) w.given in
    (λ j. how_many f (ps j ∷ cs j))
    ∙ (head_counts f (parent l (branches l)) (all_lending l (branches l)) kids refl
    ∙ (count_children f I (λ m b k. tt) (λ m i b g k suit. output_balanced m i b g) l 0 (branches l) w.given tt w.suit
    ∙ ap bit e))

child_own : (m : LocalState) (i : ℕ) (b : UBranch) (g : List Argument) (c : Channel) → carries (child m i b g) c ≡ true → (Carried m.locations c) ⊎ (c.home ≡ below m i)
child_own m i b g c e = child_carries (below m i) m.locations 0 g c (child_carried m i b g c e)

pub children_carry : (l p : LocalState) (ks : List LocalState) (c : Channel) → Sound l → Forks process_ops l p ks → AllOf (λ (k : LocalState). carries k c ≡ true → (carries l c ≡ true) ⊎ (c.home ≡ k.path)) ks
children_carry l p ks c s h =
    let w : Parts l p ks = parts_of l p ks h in
    let P : LocalState → Type 0 = λ k. carries k c ≡ true → (carries l c ≡ true) ⊎ (c.home ≡ k.path) in
    let I : LocalState → Type 0 = λ m. Carried m.locations c → Carried l.locations c in
    subst (AllOf P) (sym w.children_are)
    (each_child P I (λ m b k v. k (lending_own m b v)) (λ m i b g k e. of_child m i b g k e) l 0 (branches l) w.given (λ v. v))
  where
    lending_own : (m : LocalState) (b : UBranch) → Carried (lending m b).locations c → Carried m.locations c
    lending_own m b v = let k : Lends m (lending m b) = lends_one m b in carried_within c (lending m b).locations m.locations k.own v

    of_child : (m : LocalState) (i : ℕ) (b : UBranch) (g : List Argument) → (Carried m.locations c → Carried l.locations c) → carries (child m i b g) c ≡ true → (carries l c ≡ true) ⊎ (c.home ≡ below m i)
    of_child m i b g k e =
        elim (child_own m i b g c e) [
          | inl v ↦ inl (state_carries l c (k v))
          | inr own ↦ inr own
        ]

pub children_hold : (l p : LocalState) (ks : List LocalState) → Sound l → Forks process_ops l p ks → AllOf (λ (k : LocalState). k.holds_output ≡ true → l.holds_output ≡ true) ks
children_hold l p ks s h =
    let w : Parts l p ks = parts_of l p ks h in
    let P : LocalState → Type 0 = λ k. k.holds_output ≡ true → l.holds_output ≡ true in
    subst (AllOf P) (sym w.children_are)
    (each_child P P (λ m b k e. k (lending_holds m b e)) (λ m i b g k e. k ((and_parts (takes_output (unit_at m.program b.call.unit).params) m.holds_output e).1)) l 0 (branches l) w.given (λ e. e))
  where
    lending_holds : (m : LocalState) (b : UBranch) → (lending m b).holds_output ≡ true → m.holds_output ≡ true
    lending_holds m b e = let k : Lends m (lending m b) = lends_one m b in k.output e

pub fork_carries : (l p : LocalState) (ks : List LocalState) (c : Channel) → Sound l → Forks process_ops l p ks → carries p c ≡ true → carries l c ≡ true
fork_carries l p ks c s h e =
    let w : Parts l p ks = parts_of l p ks h in
    let k : Lends l (all_lending l (branches l)) = lends_all l (branches l) in
    let there : carries (all_lending l (branches l)) c ≡ true = sym (ap (λ (m : LocalState). carries m c) w.parent_is ∙ same_carries (all_lending l (branches l)) (l.forks + 1) c) ∙ e in
    state_carries l c (carried_within c (all_lending l (branches l)).locations l.locations k.own (carried_at (all_lending l (branches l)) c there))

pub fork_holds : (l p : LocalState) (ks : List LocalState) → Sound l → Forks process_ops l p ks → p.holds_output ≡ true → l.holds_output ≡ true
fork_holds l p ks s h e =
    let w : Parts l p ks = parts_of l p ks h in
    let k : Lends l (all_lending l (branches l)) = lends_all l (branches l) in
    k.output (sym (ap (λ (m : LocalState). m.holds_output) w.parent_is) ∙ e)
