-- In a tree where each process has what it needs for its channels, each channel at which a live process stands is carried.
use Rattle.std.proofs.Common.{◌≡◌, ◌∙◌, ℕ, zero, suc, ◌+◌, ◌⊎◌, inl, inr, Bool, true, false, List, [], ◌∷◌, ◌++◌, Option, Some, None, refl, sym, ap, subst}
use Rattle.std.proofs.lemmas.Bool.{and_parts, or_cases, cases_Bool, true≢false}
use Rattle.std.specs.Prelude.{slice_get}
use Rattle.shim_base.specs.Paths.{Path, Channel, NamedChannel, same_path}
use Rattle.shim_local.specs.Process.{StopView, AtQuiet, AtNext}
use Rattle.shim_local.specs.Laws.{AllOf}
use Rattle.shim_semantics.specs.Nodes.{Node, Nodes, Live, Forked, Ended, Dead, no_node, node_and, state, states, everyone, everyone_of}
use Rattle.shim_semantics.specs.Places.{at, child_at, SoundBelow, SoundChildren}
use Rattle.shim_process.specs.Ops.{process_ops}
use Rattle.shim_process.specs.Sound.{Sound, IsOwned}
use Rattle.shim_process.proofs.CarryChannels.{among_at, carries_at}
use Rattle.shim_units.specs.declared.unit.Arg.{Arg}
use Rattle.shim_units.specs.declared.unit.Arg.TheVariants.{Ref, Pass, Fresh}
use Rattle.shim_units.specs.declared.unit.UBranch.{UBranch}
use Rattle.shim_units.specs.declared.unit.UStmt.{UStmt}
use Rattle.shim_units.specs.declared.unit.UWhat.{UWhat, UWhat-F, out-UWhat}
use Rattle.shim_process.specs.Forks.{item_branches}
use Rattle.shim_process.specs.Locations.{Location, Ownership, Lent, Copy, at_number}
use Rattle.shim_process.specs.LocalState.{LocalState, TrappedAt, location_of, number_of}
use Rattle.shim_process.specs.Sharers.{is_among, declared, shares, carries}
use Rattle.shim_process.specs.StatementViews.{statement_view}
use Rattle.shim_process.specs.Stops.{at_next, at_put, at_fork, what_stop, stmt_stop, stop_or, stop}
use Rattle.shim_process.specs.Todo.{next_stmt}
use Rattle.shim_laws_sources.proofs.Ownerships.{own_or_lent, by_ownership}
use Rattle.shim_laws_sources.specs.Anchored.{OwnedOn, IsAnchored, IsAnchoredWhole}
use Rattle.shim_laws_sources.specs.Homes.{GivesBack, OneGivesBack, HasOn, IsGivenBy, IsWaitingFor, IsHome, AreHome}
use Rattle.shim_base.proofs.Facts.{some_same, none_some, choose}
use Rattle.shim_base.proofs.SamePaths.{same_path_refl, same_path_is}
use Rattle.shim_process.proofs.JoinLocations.{OneCarries}

in_first : (ls ms : List LocalState) (c : Channel) → OneCarries ls c → OneCarries (ls ++ ms) c
in_first [] ms c h = absurd h
in_first (l ∷ ls) ms c (inl h) = inl h
in_first (l ∷ ls) ms c (inr h) = inr (in_first ls ms c h)

in_second : (ls ms : List LocalState) (c : Channel) → OneCarries ms c → OneCarries (ls ++ ms) c
in_second [] ms c h = h
in_second (l ∷ ls) ms c h = inr (in_second ls ms c h)

-- a channel's own variable, here or with a child, is carried here or below

whole_carries : (l : LocalState) (n : ℕ) (c : Channel) → IsAnchoredWhole l → OwnedOn l.locations n c → carries l c ≡ true
whole_carries l n c h w = elim (own_or_lent w.place.ownership w.owned) [
  | inl own ↦ carries_at l c n w.place w.at own w.on
  | inr lent ↦ absurd (h.1 n w.place w.at lent)
]

-- what a child gives back it owns
given_back : (slots : List ℕ) (j : ℕ) (args : List Arg) (k : LocalState) (n : ℕ) (c : Channel) → GivesBack slots j args k n c → (i : ℕ) × OwnedOn k.locations i c
given_back slots j [] k n c g = absurd g
given_back slots j (Ref x ∷ rest) k n c (inl g) = (j, g.2)
given_back slots j (Ref x ∷ rest) k n c (inr g) = given_back slots (j + 1) rest k n c g
given_back slots j (Pass x ∷ rest) k n c g = given_back slots (j + 1) rest k n c g
given_back slots j (Fresh e ∷ rest) k n c g = given_back slots (j + 1) rest k n c g

lent_of : (l : LocalState) (ks : Nodes LocalState) → IsWaitingFor l (states ks) → (n : ℕ) (x : Location) → at_number l.locations n ≡ Some x → x.ownership ≡ Lent → OneGivesBack l.frame.slots (item_branches l.frame.todo) (states ks) n x.channel.channel
lent_of l ks h n x e lent = h.lent n x e lent

mutual
  owned_carried : (m : Node LocalState) (n : ℕ) (c : Channel) → IsHome m → OwnedOn (state m).locations n c → OneCarries (everyone m) c
  owned_carried (Live l) n c h w = inl (whole_carries l n c h w)
  owned_carried (Ended l) n c h w = inl (whole_carries l n c h w)
  owned_carried (Dead l x) n c h w = inl (whole_carries l n c h w)
  owned_carried (Forked l ks) n c h w = elim (own_or_lent w.place.ownership w.owned) [
    | inl own ↦ inl (carries_at l c n w.place w.at own w.on)
    | inr lent ↦ inr (lent_carried l.frame.slots (item_branches l.frame.todo) ks n c h.1 (subst (λ (d : Channel). OneGivesBack l.frame.slots (item_branches l.frame.todo) (states ks) n d) w.on (lent_of l ks h.0 n w.place w.at lent)))
  ]

  lent_carried : (slots : List ℕ) (bs : List UBranch) (ks : Nodes LocalState) (n : ℕ) (c : Channel) → AreHome ks → OneGivesBack slots bs (states ks) n c → OneCarries (everyone_of ks) c
  lent_carried slots [] ks n c h g = absurd g
  lent_carried slots (b ∷ bs) no_node n c h g = absurd g
  lent_carried slots (b ∷ bs) (node_and k ks) n c h (inl g) =
      let w = given_back slots 0 b.call.args (state k) n c g in
      in_first (everyone k) (everyone_of ks) c (owned_carried k w.0 c h.0 w.1)
  lent_carried slots (b ∷ bs) (node_and k ks) n c h (inr g) = in_second (everyone k) (everyone_of ks) c (lent_carried slots bs ks n c h.1 g)

-- the channel was given to the process by its parent
record Foreign (l : LocalState) (c : Channel) : Type 0 where
  place : ℕ
  given : NamedChannel
  there : slice_get l.given place ≡ Some given
  is : given.channel ≡ c
  away : c.home ≡ l.path → ⊥

foreign : (l : LocalState) (c : Channel) → shares l c ≡ true → (c.home ≡ l.path → ⊥) → Foreign l c
unfolding shares
foreign l c e away = elim (or_cases (is_among c l.given) (declared l c) e) [
  | inl here ↦ let w = among_at c l.given here in record { place = w.0; given = w.1; there = w.2; is = w.3; away = away }
  | inr made ↦ absurd (away (same_path_is c.home l.path (and_parts (same_path c.home l.path) _ made).0))
]

sound_here : (n : Node LocalState) → SoundBelow process_ops n → Sound (state n)
sound_here (Live l) s = s
sound_here (Forked l ks) s = s.sound
sound_here (Ended l) s = s
sound_here (Dead l x) s = s.sound

anchored_here : (n : Node LocalState) → IsHome n → IsAnchored (state n)
anchored_here (Live l) h = h.0
anchored_here (Forked l ks) h = waiting l ks h.0
  where
    waiting : (l : LocalState) (ks : Nodes LocalState) → IsWaitingFor l (states ks) → IsAnchored l
    waiting l ks h = h.anchored
anchored_here (Ended l) h = h.0
anchored_here (Dead l x) h = h.0

-- a channel on which a process has a location is carried here or below, or it was given to the process
abbrev Answer : Node LocalState → Channel → Type 0
Answer n c = OneCarries (everyone n) c ⊎ Foreign (state n) c

copy_answer : (n : Node LocalState) (m : ℕ) (x : Location) → IsHome n → SoundBelow process_ops n → at_number (state n).locations m ≡ Some x → x.ownership ≡ Copy → Answer n x.channel.channel
copy_answer n m x h s e copy =
    let l : LocalState = state n in
    let c : Channel = x.channel.channel in
    elim (cases_Bool (same_path c.home l.path)) [
      | inl here ↦
          let a = (anchored_here n h).anchors m x e copy (same_path_is c.home l.path here) in
          inl (owned_carried n a.number c h a.owned)
      | inr away ↦ inr (foreign l c ((sound_here n s).channels m x e) (λ is. true≢false (sym (ap (λ (p : Path). same_path p l.path) is ∙ same_path_refl l.path) ∙ away)))
    ]

here_answer : (n : Node LocalState) (c : Channel) → IsHome n → SoundBelow process_ops n → HasOn (state n).locations c → Answer n c
here_answer n c h s w =
    subst (Answer n) w.on
    (by_ownership (λ (m : Ownership). w.place.ownership ≡ m → Answer n w.place.channel.channel) w.place.ownership
    (λ owned is. inl (owned_carried n w.number w.place.channel.channel h (record { place = w.place; at = w.at; owned = subst IsOwned (sym is) owned; on = refl })))
    (λ copy is. copy_answer n w.number w.place h s w.at (is ∙ copy))
    refl)

-- what a child was given, a location of its parent is on
parents : (p k : LocalState) (c : Channel) → IsGivenBy p k → Foreign k c → HasOn p.locations c
parents p k c h f = elim (h f.place f.given f.there) [
  | inl here ↦ absurd (f.away (ap (λ (d : Channel). d.home) (sym f.is) ∙ here))
  | inr w ↦ subst (HasOn p.locations) f.is w
]

given_of : (l : LocalState) (ks : List LocalState) → IsWaitingFor l ks → AllOf (IsGivenBy l) ks
given_of l ks h = h.given

mutual
  answered : (q : List ℕ) (n : Node LocalState) (l : LocalState) (c : Channel) → IsHome n → SoundBelow process_ops n → at q n ≡ Some (Live l) → HasOn l.locations c → Answer n c
  answered [] n l c h s e w = here_answer n c h s (subst (λ (z : Node LocalState). HasOn (state z).locations c) (sym (some_same n (Live l) e)) w)
  answered (i ∷ q) (Live p) l c h s e w = none_some (Live l) e
  answered (i ∷ q) (Ended p) l c h s e w = none_some (Live l) e
  answered (i ∷ q) (Dead p x) l c h s e w = none_some (Live l) e
  answered (i ∷ q) (Forked p ks) l c h s e w = elim (answered_in p s.number 0 ks i q l c (given_of p (states ks) h.0) h.1 s.children e w) [
    | inl below ↦ inl (inr below)
    | inr up ↦ here_answer (Forked p ks) c h s up
  ]

  answered_in : (p : LocalState) (f j : ℕ) (ks : Nodes LocalState) (i : ℕ) (q : List ℕ) (l : LocalState) (c : Channel) → AllOf (IsGivenBy p) (states ks) → AreHome ks → SoundChildren process_ops p f j ks → child_at i q ks ≡ Some (Live l) → HasOn l.locations c
      → OneCarries (everyone_of ks) c ⊎ HasOn p.locations c
  answered_in p f j no_node i q l c g h s e w = none_some (Live l) e
  answered_in p f j (node_and k ks) zero q l c g h s e w = elim (answered q k l c h.0 s.1 e w) [
    | inl here ↦ inl (in_first (everyone k) (everyone_of ks) c here)
    | inr up ↦ inr (parents p (state k) c g.0 up)
  ]
  answered_in p f j (node_and k ks) (suc i) q l c g h s e w = elim (answered_in p f (j + 1) ks i q l c g.1 h.1 s.2 e w) [
    | inl here ↦ inl (in_second (everyone k) (everyone_of ks) c here)
    | inr up ↦ inr up
  ]

none_given : (l : LocalState) (c : Channel) → l.given ≡ [] → Foreign l c → ⊥
none_given l c none f = no_place f.place f.given (ap (λ g. slice_get g f.place) (sym none) ∙ f.there)
  where
    no_place : (at : ℕ) (d : NamedChannel) → slice_get [] at ≡ Some d → ⊥
    no_place at d e = cc

-- of the whole tree
pub all_carried : (q : List ℕ) (n : Node LocalState) (l : LocalState) (c : Channel) → IsHome n → SoundBelow process_ops n → (state n).given ≡ [] → at q n ≡ Some (Live l) → HasOn l.locations c → OneCarries (everyone n) c
all_carried q n l c h s none e w = elim (answered q n l c h s e w) [ inl here ↦ here | inr f ↦ absurd (none_given (state n) c none f) ]

-- what a process stands at is one of its locations' channels

abbrev StandsOn : LocalState → StopView → Type 0
StandsOn l (AtNext c) = HasOn l.locations c.channel
StandsOn l _ = Unit {0}

on_next : (l : LocalState) (n : ℕ) (o : Option Location) → at_number l.locations n ≡ o → StandsOn l (at_next o)
on_next l n None e = tt
on_next l n (Some x) e = record { number = n; place = x; at = e; on = refl }

on_put : (l : LocalState) (b : Bool) → StandsOn l (at_put b)
on_put l true = tt
on_put l false = tt

on_fork : (l : LocalState) (bs : List UBranch) → StandsOn l (at_fork bs)
on_fork l [] = tt
on_fork l (b ∷ bs) = tt

on_what : (w : UWhat-F UWhat UStmt) (l : LocalState) → StandsOn l (what_stop w (statement_view l))
on_what (UWhat-F.Next x) l = on_next l (number_of l.frame.slots x) (location_of l.locations l.frame.slots x) refl
on_what (UWhat-F.NextAssign x e) l =
    choose (StandsOn l) l.frame.halfway (at_next (location_of l.locations l.frame.slots x)) AtQuiet (on_next l (number_of l.frame.slots x) (location_of l.locations l.frame.slots x) refl) tt
on_what (UWhat-F.AssignNext x y) l =
    choose (StandsOn l) l.frame.halfway AtQuiet (at_next (location_of l.locations l.frame.slots y)) tt (on_next l (number_of l.frame.slots y) (location_of l.locations l.frame.slots y) refl)
on_what (UWhat-F.Put o e) l = on_put l l.holds_output
on_what (UWhat-F.Throw x e) l = tt
on_what (UWhat-F.Par bs) l = on_fork l bs
on_what _ l = tt

on_stmt : (o : Option UStmt) (l : LocalState) → StandsOn l (stmt_stop o (statement_view l))
on_stmt None l = tt
on_stmt (Some stmt) l = on_what (out-UWhat stmt.what) l

on_or : (l : LocalState) (t : Option TrappedAt) (s : StopView) → StandsOn l s → StandsOn l (stop_or t s)
on_or l None s h = h
on_or l (Some t) s h = tt

on_stop : (l : LocalState) → StandsOn l (stop l)
unfolding stop
on_stop l = on_or l l.trap (stmt_stop (next_stmt l.frame.todo) (statement_view l)) (on_stmt (next_stmt l.frame.todo) l)

pub stands_on : (l : LocalState) (c : NamedChannel) → stop l ≡ AtNext c → HasOn l.locations c.channel
stands_on l c e = subst (StandsOn l) e (on_stop l)
