-- Who carries a channel and who holds the output after a fork: one of the parent and its children.
use Rattle.std.proofs.Common.{◌≡◌, ℕ, suc, ◌+◌, Bool, true, false, ◌&&◌, cond, List, [], ◌∷◌, ◌⊎◌, inl, inr, refl, sym, ap, ◌∙◌, subst, arith}
use Rattle.std.proofs.lemmas.Bool.{cases_Bool, false_from_ne_true, true≢false}
use Rattle.shim_base.specs.Paths.{Channel}
use Rattle.shim_local.specs.Laws.{how_many}
use Rattle.shim_units.specs.declared.unit.UBranch.{UBranch}
use Rattle.shim_process.specs.Locations.{Locations}
use Rattle.shim_process.specs.LocalState.{LocalState, unit_at}
use Rattle.shim_process.specs.Arguments.{Argument, branch_locations, declared_slots}
use Rattle.shim_process.specs.Sharers.{shares, carries}
use Rattle.shim_process.specs.Forks.{lent, takes_output, child, children_from, lending, all_lending}
use Rattle.shim_process.specs.Sound.{Sound}
use Rattle.shim_process.proofs.CarryChannels.{Carried, carried_at, carries_at}
use Rattle.shim_process.proofs.ForkLending.{Suit, given_away}
use Rattle.shim_process.proofs.ChildGiven.{before_empties, with_empties}
use Rattle.shim_process.proofs.ChildCarried.{child_carries, away_carries, handed}
use Rattle.shim_process.proofs.ChildSound.{below, shared_not_own}

abbrev pub bit : Bool → ℕ
bit true = 1
bit false = 0

pub one_bit : (b : Bool) → cond b (suc 0) 0 ≡ bit b
one_bit true = refl
one_bit false = refl

-- the one in the second place, counted first
second_first : (a k : Bool) (n : ℕ) → cond a (suc (cond k (suc n) n)) (cond k (suc n) n) ≡ bit k + cond a (suc n) n
second_first true true n = omega arith
second_first true false n = omega arith
second_first false true n = omega arith
second_first false false n = omega arith

-- what a branch takes of a process, that process keeps no more
abbrev pub Balanced : (LocalState → Bool) → LocalState → UBranch → LocalState → Type 0
Balanced f l b k = bit (f k) + bit (f (lending l b)) ≡ bit (f l)

pub count_children : (f : LocalState → Bool) (I : LocalState → Type 0) → ((l : LocalState) (b : UBranch) → I l → I (lending l b))
    → ((l : LocalState) (i : ℕ) (b : UBranch) (g : List Argument) → I l → ((xs : Locations) → lent l.frame.slots (unit_at l.program b.call.unit).params b.call.args xs ≡ given_away g xs) → Balanced f l b (child l i b g))
    → (l : LocalState) (i : ℕ) (bs : List UBranch) (given : List (List Argument)) → I l → Suit l.frame.slots l.program bs given
    → how_many f (all_lending l bs ∷ children_from l i bs given) ≡ bit (f l)
count_children f I on one l i [] [] h suit = one_bit (f l)
count_children f I on one l i [] (g ∷ gs) h suit = absurd suit
count_children f I on one l i (b ∷ bs) [] h suit = absurd suit
count_children f I on one l i (b ∷ bs) (g ∷ gs) h suit =
    let kept : LocalState = all_lending (lending l b) bs in
    let rest : List LocalState = children_from (lending l b) (i + 1) bs gs in
    second_first (f kept) (f (child l i b g)) (how_many f rest)
    ∙ (ap (λ (n : ℕ). bit (f (child l i b g)) + n) (count_children f I on one (lending l b) (i + 1) bs gs (on l b h) suit.1) ∙ one l i b g h suit.0)

-- a child's own variables are among the locations of its parameters
pub child_carried : (l : LocalState) (i : ℕ) (b : UBranch) (g : List Argument) (c : Channel) → carries (child l i b g) c ≡ true → Carried (branch_locations (below l i) l.locations 0 g) c
child_carried l i b g c e =
    let w : Carried (child l i b g).locations c = carried_at (child l i b g) c e in
    record { number = w.number; location = w.location; there = before_empties (branch_locations (below l i) l.locations 0 g) (declared_slots (unit_at l.program b.call.unit)) w.number w.location w.there; ownership = w.ownership; channel = w.channel }

carried_child : (l : LocalState) (i : ℕ) (b : UBranch) (g : List Argument) (c : Channel) → Carried (branch_locations (below l i) l.locations 0 g) c → carries (child l i b g) c ≡ true
carried_child l i b g c w =
    carries_at (child l i b g) c w.number w.location (with_empties (branch_locations (below l i) l.locations 0 g) (declared_slots (unit_at l.program b.call.unit)) w.number w.location w.there) w.ownership w.channel

pub state_carries : (l : LocalState) (c : Channel) → Carried l.locations c → carries l c ≡ true
state_carries l c w = carries_at l c w.number w.location w.there w.ownership w.channel

none_carried : (l : LocalState) (c : Channel) → (Carried l.locations c → ⊥) → carries l c ≡ false
none_carried l c f = false_from_ne_true (carries l c) (λ e. f (carried_at l c e))

one_of_two : (a b d : Bool) → d ≡ true → ((a ≡ true) × (b ≡ false)) ⊎ ((a ≡ false) × (b ≡ true)) → bit a + bit b ≡ bit d
one_of_two a b d e (inl w) = (λ i. bit (w.0 i) + bit (w.1 i)) ∙ ap bit (sym e)
one_of_two a b d e (inr w) = (λ i. bit (w.0 i) + bit (w.1 i)) ∙ ap bit (sym e)

none_of_two : (a b d : Bool) → d ≡ false → a ≡ false → b ≡ false → bit a + bit b ≡ bit d
none_of_two a b d e f g = (λ i. bit (f i) + bit (g i)) ∙ ap bit (sym e)

pub carries_balanced : (l : LocalState) (i : ℕ) (b : UBranch) (g : List Argument) (c : Channel) → Sound l → shares l c ≡ true
    → ((xs : Locations) → lent l.frame.slots (unit_at l.program b.call.unit).params b.call.args xs ≡ given_away g xs) → Balanced (λ k. carries k c) l b (child l i b g)
carries_balanced l i b g c s shared suit =
    let k : LocalState = child l i b g in
    let m : LocalState = lending l b in
    let passed : Locations = branch_locations (below l i) l.locations 0 g in
    let left : m.locations ≡ given_away g l.locations = suit l.locations in
    let to : Carried (given_away g l.locations) c → carries m c ≡ true = λ w. state_carries m c (subst (λ (xs : Locations). Carried xs c) (sym left) w) in
    let from : Carried m.locations c → Carried (given_away g l.locations) c = λ w. subst (λ (xs : Locations). Carried xs c) left w in
    let no_child : (Carried passed c → ⊥) → carries k c ≡ false = λ f. false_from_ne_true (carries k c) (λ e. f (child_carried l i b g c e)) in
    elim (cases_Bool (carries l c)) [
      | inl here ↦ one_of_two (carries k c) (carries m c) (carries l c) here (
          elim (handed (below l i) l.locations 0 g c s.once (shared_not_own l i c s shared) (carried_at l c here)) [
            | inl w ↦ inl (carried_child l i b g c w.0, none_carried m c (λ h. w.1 (from h)))
            | inr w ↦ inr (no_child w.0, to w.1)
          ])
      | inr away ↦
          let none : Carried l.locations c → ⊥ = λ w. true≢false (sym (state_carries l c w) ∙ away) in
          none_of_two (carries k c) (carries m c) (carries l c) away
          (no_child (λ w. elim (child_carries (below l i) l.locations 0 g c w) [ inl v ↦ none v | inr v ↦ shared_not_own l i c s shared v ]))
          (none_carried m c (λ h. none (away_carries g l.locations c (from h))))
    ]

output_bits : (takes holds : Bool) → bit (takes && holds) + bit (cond takes false holds) ≡ bit holds
output_bits true true = refl
output_bits true false = refl
output_bits false true = refl
output_bits false false = refl

pub output_balanced : (l : LocalState) (i : ℕ) (b : UBranch) (g : List Argument) → Balanced (λ k. k.holds_output) l b (child l i b g)
output_balanced l i b g = output_bits (takes_output (unit_at l.program b.call.unit).params) l.holds_output
