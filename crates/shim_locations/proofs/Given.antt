-- Arguments one after another.
use Rattle.std.proofs.Common.{◌≡◌, ℕ, ◌+◌, ◌<◌, List, [], ◌∷◌, ◌++◌, Result, Ok, Err, refl, sym, ap, ◌∙◌, append_assoc, append-nil, suc, length, drop, drop-cons, get_or, arith, subst}
use Rattle.std.specs.Result.{IsErr, IsErrAnd}
use Rattle.shim_locations.specs.declared.argument_fault.ArgumentFault.{ArgumentFault}
use Rattle.shim_locations.specs.declared.argument_fault.ArgumentFault.TheVariants.{Trapped}
use Rattle.shim_base.specs.declared.operators.Trap.{Trap}
use Rattle.shim_scopes.specs.declared.tree.UParam.{UParam}
use Rattle.shim_units.specs.declared.unit.Arg.{Arg}
use Rattle.shim_process.specs.Locations.{Locations}
use Rattle.shim_process.specs.Arguments.{Argument as ArgumentOf, on_value, argument, arguments}
use Rattle.shim_locations.specs.declared.argument.Argument.{Argument}
use Rattle.shim_locations.specs.Given.{argument_of, arguments_of}
use Rattle.shim_locations.specs.ArgumentFaults.{arguments_before, argument_result, Gives}

pub arguments_of-append : (xs ys : List Argument) → arguments_of (xs ++ ys) ≡ arguments_of xs ++ arguments_of ys
arguments_of-append [] ys = refl
arguments_of-append (x ∷ xs) ys = ap (λ l. argument_of x ∷ l) (arguments_of-append xs ys)

no_more : (locations : Locations) (slots : List ℕ) (params : List UParam) → arguments locations slots params [] ≡ Ok []
no_more locations slots [] = refl
no_more locations slots (p ∷ ps) = refl

behind_nothing : (given : List Argument) → arguments_before given (Ok []) ≡ Ok (arguments_of given)
behind_nothing given = ap (λ l. Ok l) (append-nil (arguments_of given))

-- no argument is left
pub all_given : (locations : Locations) (slots : List ℕ) (params : List UParam) (rest : List Arg) (given : List Argument) (whole : Result (List ArgumentOf) Trap)
    → rest ≡ [] → arguments_before given (arguments locations slots params rest) ≡ whole → whole ≡ Ok (arguments_of given)
all_given locations slots params rest given whole e i =
    sym i ∙ ap (λ r. arguments_before given (arguments locations slots params r)) e ∙ ap (arguments_before given) (no_more locations slots params) ∙ behind_nothing given

-- the next one traps
pub one_traps : (locations : Locations) (slots : List ℕ) (p : UParam) (ps params : List UParam) (a : Arg) (after rest : List Arg) (given : List Argument) (t : Trap) (whole : Result (List ArgumentOf) Trap)
    → params ≡ p ∷ ps → rest ≡ a ∷ after → Err t ≡ argument locations slots p a → arguments_before given (arguments locations slots params rest) ≡ whole → whole ≡ Err t
one_traps locations slots p ps params a after rest given t whole ep er e i =
    sym i
    ∙ ap (λ r. arguments_before given (arguments locations slots params r)) er
    ∙ ap (λ q. arguments_before given (arguments locations slots q (a ∷ after))) ep
    ∙ ap (λ r. arguments_before given (on_value (λ one. on_value (λ others. Ok (one ∷ others)) (arguments locations slots ps after)) r)) (sym e)

behind_more : (given : List Argument) (one : Argument) (rest : Result (List ArgumentOf) Trap) → arguments_before (given ++ one ∷ []) rest ≡ arguments_before given (on_value (λ others. Ok (argument_of one ∷ others)) rest)
behind_more given one (Err t) = refl
behind_more given one (Ok others) = ap (λ l. Ok (l ++ others)) (arguments_of-append given (one ∷ [])) ∙ ap (λ l. Ok l) (append_assoc (arguments_of given) (argument_of one ∷ []) others)

-- the next one has a value
pub one_given : (locations : Locations) (slots : List ℕ) (p : UParam) (ps params : List UParam) (a : Arg) (after rest : List Arg) (given more : List Argument) (one : Argument) (whole : Result (List ArgumentOf) Trap)
    → params ≡ p ∷ ps → rest ≡ a ∷ after → Ok (argument_of one) ≡ argument locations slots p a → more ≡ given ++ one ∷ [] → arguments_before given (arguments locations slots params rest) ≡ whole
    → arguments_before more (arguments locations slots ps after) ≡ whole
one_given locations slots p ps params a after rest given more one whole ep er e m i =
    ap (λ g. arguments_before g (arguments locations slots ps after)) m
    ∙ behind_more given one (arguments locations slots ps after)
    ∙ ap (λ r. arguments_before given (on_value (λ one. on_value (λ others. Ok (one ∷ others)) (arguments locations slots ps after)) r)) e
    ∙ sym (ap (λ q. arguments_before given (arguments locations slots q (a ∷ after))) ep)
    ∙ sym (ap (λ r. arguments_before given (arguments locations slots params r)) er)
    ∙ i

pub traps_at : (locations : Locations) (slots : List ℕ) (all : List UParam) (i : ℕ) (d : UParam) (a : Arg) (after rest : List Arg) (given : List Argument) (t : Trap) (whole : Result (List ArgumentOf) Trap)
    → i < length all → rest ≡ a ∷ after → argument_result (Err t) ≡ argument locations slots (get_or all i d) a → arguments_before given (arguments locations slots (drop i all) rest) ≡ whole → whole ≡ Err t
traps_at locations slots all i d a after rest given t whole lt er e k = one_traps locations slots (get_or all i d) (drop (suc i) all) (drop i all) a after rest given t whole (drop-cons all i d lt) er e k

pub given_at : (locations : Locations) (slots : List ℕ) (all : List UParam) (i : ℕ) (d : UParam) (a : Arg) (after rest : List Arg) (given more : List Argument) (one : Argument) (whole : Result (List ArgumentOf) Trap)
    → i < length all → rest ≡ a ∷ after → argument_result (Ok one) ≡ argument locations slots (get_or all i d) a → more ≡ given ++ one ∷ [] → arguments_before given (arguments locations slots (drop i all) rest) ≡ whole
    → arguments_before more (arguments locations slots (drop (i + 1) all) after) ≡ whole
given_at locations slots all i d a after rest given more one whole lt er e m k =
    ap (λ n. arguments_before more (arguments locations slots (drop n all) after)) (let z : i + 1 ≡ suc i = omega arith in z)
    ∙ one_given locations slots (get_or all i d) (drop (suc i) all) (drop i all) a after rest given more one whole (drop-cons all i d lt) er e m k

pub nil_of : (rest : List Arg) → length rest ≡ 0 → rest ≡ []
nil_of [] e = refl
nil_of (a ∷ rest) e = absurd (omega arith)

pub trap_given : (r : Result (List Argument) ArgumentFault) (t : Trap) (meant : Result (List ArgumentOf) Trap) → IsErr r → IsErrAnd r (λ e. e ≡ Trapped t) → meant ≡ Err t → Gives r meant
trap_given (Ok given) t meant is e m = cc
trap_given (Err h) t meant is e m = subst (λ x. Gives (Err x) meant) (sym e) m
