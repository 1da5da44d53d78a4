use Rattle.std.proofs.Common.{arith, ◌≡◌, ◌∙◌, ◌+◌, sym, ap, ℕ, List, [], ◌∷◌, ◌++◌, Ok, drop}
use Rattle.std.proofs.lemmas.Grind.{common_steps}
use Rattle.shim_scopes.specs.Statements.{Whole}
use Rattle.shim_scopes.specs.Functions.{bind_function, bind_functions}
use Rattle.shim_scopes.specs.State.{whole, after_some}
use Rattle.shim_syntax.specs.Sizes.{function_size}
use Rattle.shim_syntax.specs.declared.tree.Function.{Function}
use Rattle.shim_scopes.proofs.Joins.{one_bound}
use Rattle.shim_scopes.proofs.Room.{size_of_one}
use Rattle.shim_scopes.proofs.function.resolve_functions.Goals as goal

pub resolve_function-requires-clause-size : goal.resolve_function-requires-clause-size
resolve_function-requires-clause-size c =
    let one = size_of_one c.args.functions.now c.loop-function.function-index c.function-item.result c.loop-function-test.true in
    omega (arith, ap (λ (f : Function). function_size f) c.function-item.is, one, c.requires.size)

pub loop-function-preserved : goal.loop-function-preserved
loop-function-preserved c =
    let w : Whole = whole c.args.functions.now c.args.names.now in
    let f = c.function-item.result in
    let r = c.in_ok-resolve_function.field-0 in
    let rest = drop (c.loop-function.function-index + 1) c.args.functions.now in
    let e : bind_function w c.loop-function.earlier f ≡ Ok r = rw (← c.as_slice.ensures) c.in_ok-resolve_function.ensures in
    let d : drop c.loop-function.function-index c.args.functions.now ≡ f ∷ rest = grind (arith, common_steps) in
    let p : c.push.new.self ≡ c.loop-function.made ++ r ∷ [] = c.in_ok-push.ensures.ok in
    let q : c.push-in-loop-function.new.self ≡ c.loop-function.earlier ++ f.name ∷ [] = c.in_ok-push-2.ensures.ok ∙ ap (λ (n : List ℕ). c.loop-function.earlier ++ n ∷ []) c.in_ok-copy.ensures in
    rw (p, q) (sym (one_bound w c.loop-function.earlier f rest c.loop-function.made r e)
    ∙ ap (λ xs. after_some c.loop-function.made (bind_functions w c.loop-function.earlier xs)) (sym d) ∙ c.loop-function.invariant)
