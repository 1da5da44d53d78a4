-- What binding gives the units of a program: each exception that a statement throws or hands on is in force there.
use Rattle.std.specs.Prelude.{◌≡◌, ℕ, nat_eq, Bool, true, ◌&&◌, List, [], ◌∷◌, length, map}
use Rattle.shim_units.specs.declared.form.Form.{Form}
use Rattle.shim_units.specs.declared.unit.Unit.{Unit as UnitOf}
use Rattle.shim_units.specs.declared.unit.UBranch.{UBranch}
use Rattle.shim_units.specs.declared.unit.UCall.{UCall}
use Rattle.shim_units.specs.declared.unit.UStmt.{UStmt, fold-UStmt}
use Rattle.shim_units.specs.declared.unit.UWhat.{UWhat-F}
use Rattle.shim_units.specs.Lifting.{is_among}
use Rattle.shim_units.specs.Units.{upto}
use Rattle.shim_process.specs.LocalState.{unit_at}

-- each of the second list is one of the first
abbrev pub are_among : List ℕ → List ℕ → Bool
are_among xs [] = true
are_among xs (y ∷ ys) = is_among xs y && are_among xs ys

-- the call hands on an exception for each that its unit is given, and these are in force
abbrev pub hands_on : Form → UCall → List ℕ → Bool
hands_on program c xs = are_among xs c.throws && nat_eq (length c.throws) (unit_at program c.unit).throws

-- the call of each branch hands on an exception for each that its unit is given, and these are in force
abbrev pub all_hand_on : Form → List UBranch → List ℕ → Bool
all_hand_on program [] xs = true
all_hand_on program (b ∷ branches) xs = hands_on program b.call xs && all_hand_on program branches xs

-- whether something is right where these exceptions are in force
abbrev pub InForce : Type 0
InForce = List ℕ → Bool

-- each of them is right where these exceptions are in force
abbrev pub all_right : List InForce → InForce
all_right [] xs = true
all_right (f ∷ fs) xs = f xs && all_right fs xs

-- Whether a statement is right where these exceptions are in force, from the same of the statements in it. In the body of a `try` its exception is in force, too.
abbrev pub what_throws : Form → UWhat-F InForce InForce → InForce
what_throws program (UWhat-F.If e first second) xs = all_right first xs && all_right second xs
what_throws program (UWhat-F.While e body) xs = all_right body xs
what_throws program (UWhat-F.For first test step body) xs = all_right first xs && (all_right step xs && all_right body xs)
what_throws program (UWhat-F.Block body) xs = all_right body xs
what_throws program (UWhat-F.Call c) xs = hands_on program c xs
what_throws program (UWhat-F.Try body x y handler) xs = all_right body (x ∷ xs) && all_right handler xs
what_throws program (UWhat-F.Throw x e) xs = is_among xs x
what_throws program (UWhat-F.Par branches) xs = all_hand_on program branches xs
what_throws _ _ _ = true

-- the statement throws and hands on what is in force
abbrev pub throws : Form → UStmt → InForce
throws program = fold-UStmt InForce InForce (what_throws program) (λ s. s.what)

-- each of the statements throws and hands on what is in force
abbrev pub all_throw : Form → List UStmt → InForce
all_throw program ss = all_right (map (throws program) ss)

-- where a unit begins, those are in force that it is given
abbrev pub ThrowsInForce : Form → UnitOf → Type 0
ThrowsInForce program u = all_throw program u.body (upto u.throws) ≡ true

-- in each unit of the program each statement throws and hands on only what is in force
abbrev pub AllInForce : Form → Type 0
AllInForce program = (n : ℕ) → ThrowsInForce program (unit_at program n)
