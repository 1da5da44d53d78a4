-- What branches take of a process, and what it keeps.
use Rattle.std.proofs.Common.{◌≡◌, ℕ, suc, ◌+◌, Bool, true, false, cond, List, [], ◌∷◌, length, Some, Result, Ok, Err, refl, ap, ◌∙◌, subst}
use Rattle.shim_base.specs.declared.operators.Trap.{Trap}
use Rattle.shim_scopes.specs.declared.tree.UParam.{UParam}
use Rattle.shim_units.specs.declared.form.Form.{Form}
use Rattle.shim_units.specs.declared.unit.UBranch.{UBranch}
use Rattle.shim_units.specs.declared.unit.Arg.{Arg}
use Rattle.shim_units.specs.declared.unit.Arg.TheVariants.{Ref, Pass, Fresh}
use Rattle.shim_process.specs.Values.{value}
use Rattle.shim_process.specs.Locations.{Location, Locations, at_number, channel_at, lend_at}
use Rattle.shim_process.specs.LocalState.{LocalState, unit_at, number_of, env_of, type_of}
use Rattle.shim_process.specs.Arguments.{Argument, ByReference, ByCopy, ByValue, on_value, arguments}
use Rattle.shim_process.specs.Forks.{lent, lending, all_lending, all_arguments, children_from}
use Rattle.shim_process.specs.FittingFrames.{parameters_of, IsFitting}
use Rattle.shim_process.specs.Sound.{IsOwned}
use Rattle.shim_process.proofs.PlaceChannels.{lend_channel, lend_length}
use Rattle.shim_process.proofs.FittingEnds.{fitting_over}
use Rattle.shim_process.proofs.ForkPlaces.{IsOwn, Place, within_both, within_lent, kept_owned, kept_own}

abbrev pub fine : {A : Type 0} → A → Result A Trap
fine x = Ok x

pub ok_same : {A : Type 0} (x y : A) → fine x ≡ fine y → x ≡ y
ok_same x y e = cc

-- what is computed from a value has one
pub from_value : {A B : Type 0} (f : A → Result B Trap) (r : Result A Trap) (b : B) → on_value f r ≡ Ok b → (a : A) × (r ≡ Ok a) × (f a ≡ Ok b)
from_value f (Ok a) b e = (a, refl, e)
from_value f (Err t) b e = absurd cc

-- the locations after these arguments were given
abbrev pub given_away : List Argument → Locations → Locations
given_away [] xs = xs
given_away (ByReference n ∷ rest) xs = given_away rest (lend_at xs n)
given_away (ByCopy t n ∷ rest) xs = given_away rest xs
given_away (ByValue t name v ∷ rest) xs = given_away rest xs

lent_is : (at : Locations) (slots : List ℕ) (ps : List UParam) (args : List Arg) (given : List Argument) → arguments at slots ps args ≡ Ok given → (xs : Locations) → lent slots ps args xs ≡ given_away given xs
lent_is at slots [] args given e xs = ap (λ (g : List Argument). given_away g xs) (ok_same [] given e)
lent_is at slots (p ∷ ps) [] given e xs = ap (λ (g : List Argument). given_away g xs) (ok_same [] given e)
lent_is at slots (p ∷ ps) (Ref x ∷ rest) given e xs =
    let w = from_value (λ others. Ok (ByReference (number_of slots x) ∷ others)) (arguments at slots ps rest) given e in
    lent_is at slots ps rest w.0 w.1 (lend_at xs (number_of slots x)) ∙ ap (λ (g : List Argument). given_away g xs) (ok_same (ByReference (number_of slots x) ∷ w.0) given w.2)
lent_is at slots (p ∷ ps) (Pass x ∷ rest) given e xs =
    let w = from_value (λ others. Ok (ByCopy (type_of p.sort) (number_of slots x) ∷ others)) (arguments at slots ps rest) given e in
    lent_is at slots ps rest w.0 w.1 xs ∙ ap (λ (g : List Argument). given_away g xs) (ok_same (ByCopy (type_of p.sort) (number_of slots x) ∷ w.0) given w.2)
lent_is at slots (p ∷ ps) (Fresh v ∷ rest) given e xs =
    let w = from_value (λ one. on_value (λ others. Ok (one ∷ others)) (arguments at slots ps rest)) (on_value (λ n. Ok (ByValue (type_of p.sort) p.name n)) (value v (env_of at slots))) given e in
    let u = from_value (λ n. Ok (ByValue (type_of p.sort) p.name n)) (value v (env_of at slots)) w.0 w.1 in
    let o = from_value (λ others. Ok (w.0 ∷ others)) (arguments at slots ps rest) given w.2 in
    let one : ByValue (type_of p.sort) p.name u.0 ≡ w.0 = ok_same (ByValue (type_of p.sort) p.name u.0) w.0 u.2 in
    lent_is at slots ps rest o.0 o.1 xs ∙ (ap (λ (a : Argument). given_away (a ∷ o.0) xs) one ∙ ap (λ (g : List Argument). given_away g xs) (ok_same (w.0 ∷ o.0) given o.2))

-- the arguments of each branch are those that it takes
abbrev pub Suit : List ℕ → Form → List UBranch → List (List Argument) → Type 0
Suit slots program [] [] = Unit {0}
Suit slots program [] (g ∷ gs) = ⊥
Suit slots program (b ∷ bs) [] = ⊥
Suit slots program (b ∷ bs) (g ∷ gs) = ((xs : Locations) → lent slots (unit_at program b.call.unit).params b.call.args xs ≡ given_away g xs) × Suit slots program bs gs

pub all_suit : (l : LocalState) (bs : List UBranch) (given : List (List Argument)) → all_arguments l bs ≡ Ok given → Suit l.frame.slots l.program bs given
all_suit l [] given e = subst (Suit l.frame.slots l.program []) (ok_same [] given e) tt
all_suit l (b ∷ bs) given e =
    let w = from_value (λ one. on_value (λ others. Ok (one ∷ others)) (all_arguments l bs)) (arguments l.locations l.frame.slots (unit_at l.program b.call.unit).params b.call.args) given e in
    let o = from_value (λ others. Ok (w.0 ∷ others)) (all_arguments l bs) given w.2 in
    subst (Suit l.frame.slots l.program (b ∷ bs)) (ok_same (w.0 ∷ o.0) given o.2)
    (lent_is l.locations l.frame.slots (unit_at l.program b.call.unit).params b.call.args w.0 w.1, all_suit l bs o.0 o.1)

pub as_many : (l : LocalState) (i : ℕ) (bs : List UBranch) (given : List (List Argument)) → Suit l.frame.slots l.program bs given → length (children_from l i bs given) ≡ length bs
as_many l i [] [] h = refl
as_many l i [] (g ∷ gs) h = absurd h
as_many l i (b ∷ bs) [] h = absurd h
as_many l i (b ∷ bs) (g ∷ gs) h = ap (λ (n : ℕ). suc n) (as_many (lending l b) (i + 1) bs gs h.1)

-- the process after these branches took of it
pub record Lends (l m : LocalState) : Type 0 where
  pub path : m.path ≡ l.path
  pub base : m.base ≡ l.base
  pub made : m.made ≡ l.made
  pub untaken : m.untaken ≡ l.untaken
  pub given : m.given ≡ l.given
  pub frame : m.frame ≡ l.frame
  pub callers : m.callers ≡ l.callers
  pub trap : m.trap ≡ l.trap
  pub owned : (n : ℕ) (y : Location) → at_number m.locations n ≡ Some y → Place IsOwned l.locations n y
  pub own : (n : ℕ) (y : Location) → at_number m.locations n ≡ Some y → Place IsOwn l.locations n y
  pub output : m.holds_output ≡ true → l.holds_output ≡ true
  pub channels : (n : ℕ) → channel_at m.locations n ≡ channel_at l.locations n
  pub many : parameters_of m ≡ parameters_of l
  pub fitting : IsFitting l → IsFitting m

lent_channel : (slots : List ℕ) (ps : List UParam) (args : List Arg) (xs : Locations) (n : ℕ) → channel_at (lent slots ps args xs) n ≡ channel_at xs n
lent_channel slots [] args xs n = refl
lent_channel slots (p ∷ ps) [] xs n = refl
lent_channel slots (p ∷ ps) (Ref x ∷ rest) xs n = lent_channel slots ps rest (lend_at xs (number_of slots x)) n ∙ lend_channel xs (number_of slots x) n
lent_channel slots (p ∷ ps) (Pass x ∷ rest) xs n = lent_channel slots ps rest xs n
lent_channel slots (p ∷ ps) (Fresh v ∷ rest) xs n = lent_channel slots ps rest xs n

lent_length : (slots : List ℕ) (ps : List UParam) (args : List Arg) (xs : Locations) → length (lent slots ps args xs) ≡ length xs
lent_length slots [] args xs = refl
lent_length slots (p ∷ ps) [] xs = refl
lent_length slots (p ∷ ps) (Ref x ∷ rest) xs = lent_length slots ps rest (lend_at xs (number_of slots x)) ∙ lend_length xs (number_of slots x)
lent_length slots (p ∷ ps) (Pass x ∷ rest) xs = lent_length slots ps rest xs
lent_length slots (p ∷ ps) (Fresh v ∷ rest) xs = lent_length slots ps rest xs

if_none : (b h : Bool) → cond b false h ≡ true → h ≡ true
if_none true h e = absurd cc
if_none false h e = e

pub lends_one : (l : LocalState) (b : UBranch) → Lends l (lending l b)
lends_one l b = record {
  path = refl;
  base = refl;
  made = refl;
  untaken = refl;
  given = refl;
  frame = refl;
  callers = refl;
  trap = refl;
  owned = within_lent IsOwned kept_owned l.frame.slots (unit_at l.program b.call.unit).params b.call.args l.locations;
  own = within_lent IsOwn kept_own l.frame.slots (unit_at l.program b.call.unit).params b.call.args l.locations;
  output = if_none _ l.holds_output;
  channels = lent_channel l.frame.slots (unit_at l.program b.call.unit).params b.call.args l.locations;
  many = refl;
  fitting = fitting_over l.path l.program l.frame l.callers l.locations (lending l b).locations (lent_length l.frame.slots (unit_at l.program b.call.unit).params b.call.args l.locations);
}

pub lends_both : (l m k : LocalState) → Lends l m → Lends m k → Lends l k
lends_both l m k f g = record {
  path = g.path ∙ f.path;
  base = g.base ∙ f.base;
  made = g.made ∙ f.made;
  untaken = g.untaken ∙ f.untaken;
  given = g.given ∙ f.given;
  frame = g.frame ∙ f.frame;
  callers = g.callers ∙ f.callers;
  trap = g.trap ∙ f.trap;
  owned = within_both IsOwned k.locations m.locations l.locations g.owned f.owned;
  own = within_both IsOwn k.locations m.locations l.locations g.own f.own;
  output = λ e. f.output (g.output e);
  channels = λ n. g.channels n ∙ f.channels n;
  many = g.many ∙ f.many;
  fitting = λ h. g.fitting (f.fitting h);
}

pub lends_all : (l : LocalState) (bs : List UBranch) → Lends l (all_lending l bs)
lends_all l [] = record {
  path = refl;
  base = refl;
  made = refl;
  untaken = refl;
  given = refl;
  frame = refl;
  callers = refl;
  trap = refl;
  owned = λ n y e. record { was = y; at = e; channel = refl; marked = λ h. h };
  own = λ n y e. record { was = y; at = e; channel = refl; marked = λ h. h };
  output = λ e. e;
  channels = λ n. refl;
  many = refl;
  fitting = λ h. h;
}
lends_all l (b ∷ bs) = lends_both l (lending l b) (all_lending (lending l b) bs) (lends_one l b) (lends_all (lending l b) bs)
