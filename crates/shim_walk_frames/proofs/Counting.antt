-- How many variables of handlers are left in force.
use Rattle.std.proofs.Common.{◌≡◌, ◌≤◌, ℕ, zero, suc, ◌+◌, List, [], ◌∷◌, ◌++◌, length, take, drop, drop_of_length-le, reverse, Option, Some, None, ◌∙◌, ap, sym, arith, slice_get}
use Rattle.std.proofs.lemmas.List.{reverse-append}
use Rattle.shim_process.specs.declared.handler_variable.HandlerVariable.{HandlerVariable}
use Rattle.shim_walk_frames.specs.declared.handler.Handler.{Handler}
use Rattle.shim_walk_frames.specs.FrameViews.{FrameView}
use Rattle.shim_walk_frames.specs.Unwinding.{variable_of}
use Rattle.shim_walk_frames.specs.Variables.{one_of, variables_in, variables_of}

one_few : (y : Option HandlerVariable) → one_of y ≤ 1
one_few None = omega arith
one_few (Some y) = omega arith

pub variables_few : (ps : List Handler) → variables_of ps ≤ length ps
variables_few [] = omega arith
variables_few (p ∷ ps) = let a = one_few p.variable in let b = variables_few ps in omega (arith, a, b)

-- those of the outermost places
pub variables_take : (k : ℕ) (ps : List Handler) → variables_of (take k ps) ≤ variables_of ps
variables_take zero ps = omega arith
variables_take (suc k) [] = omega arith
variables_take (suc k) (p ∷ ps) = let a = variables_take k ps in omega (arith, a)

-- without a place that goes out of force, too
pub variables_less : (k : ℕ) (ps : List Handler) → one_of (variable_of (slice_get ps k)) + variables_of (take k ps) ≤ variables_of ps
variables_less zero [] = omega arith
variables_less zero (p ∷ ps) = omega arith
variables_less (suc k) [] = omega arith
variables_less (suc k) (p ∷ ps) = let a = variables_less k ps in omega (arith, a)

-- with one more place
pub variables_more : (ps : List Handler) (p : Handler) → variables_of (ps ++ p ∷ []) ≡ variables_of ps + one_of p.variable
variables_more [] p = omega arith
variables_more (q ∷ ps) p = let a = variables_more ps p in omega (arith, a)

-- without a place that was taken
pub variables_taken : (k : ℕ) (ps left : List Handler) (p : Handler) → Some p ≡ slice_get ps k → left ≡ take k ps → one_of p.variable + variables_of left ≤ variables_of ps
variables_taken k ps left p at e =
    let less = variables_less k ps in
    let own : one_of (variable_of (slice_get ps k)) ≡ one_of p.variable = ap (λ o. one_of (variable_of o)) (sym at) in
    let others : variables_of left ≡ variables_of (take k ps) = ap variables_of e in
    omega (arith, less, own, others)

variables_both : (ss ts : List FrameView) → variables_in (ss ++ ts) ≡ variables_in ss + variables_in ts
variables_both [] ts = omega arith
variables_both (s ∷ ss) ts = let a = variables_both ss ts in omega (arith, a)

-- those of all frames don't hang on the frames' order
variables_turned : (ss : List FrameView) → variables_in (reverse ss) ≡ variables_in ss
variables_turned [] = omega arith
variables_turned (s ∷ ss) =
    let a = ap variables_in (reverse-append (s ∷ []) ss) ∙ variables_both (reverse ss) (s ∷ []) in
    let b = variables_turned ss in
    omega (arith, a, b)

-- all of them are counted
pub counted_all : (top : FrameView) (ss ts : List FrameView) (i many : ℕ) → length ss ≤ i → reverse ss ≡ ts → many + variables_in (drop i ss) ≡ variables_in (top ∷ ss) → many ≡ variables_in (top ∷ ts)
counted_all top ss ts i many le e so_far =
    let none : variables_in (drop i ss) ≡ 0 = ap variables_in (drop_of_length-le ss le) in
    let turned : variables_in ts ≡ variables_in ss = ap variables_in (sym e) ∙ variables_turned ss in
    omega (arith, none, turned, so_far)
