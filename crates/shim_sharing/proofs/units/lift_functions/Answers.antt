use Rattle.std.proofs.Common.{rules, arith, ◌≡◌, ◌+◌, ◌∷◌, ◌++◌, ◌∙◌, List, ap, sym, subst, length, drop}
use Rattle.std.proofs.lemmas.Grind.{common_steps}
use Rattle.shim_scopes.specs.declared.tree.RFunction.{RFunction}
use Rattle.shim_sharing.specs.Room.{FunctionsHaveRoom}
use Rattle.shim_units.specs.Units.{lift_functions}
use Rattle.shim_sharing.proofs.Room.{room_behind_function, own_goes_on, lifted_goes_on}
use Rattle.shim_sharing.proofs.units.lift_functions.Goals as goal

pub loop-at-preserved : goal.loop-at-preserved
loop-at-preserved c =
    let at = c.loop-at.at in
    let fs = c.args.functions.now in
    let d : drop at fs ≡ c.index-functions-at.result ∷ drop (at + 1) fs = grind (arith, common_steps) in
    record {
      own = own_goes_on c.args.names.now fs at c.number-base.result c.loop-at.lifted c.lift_function.new.lifted c.loop-at.own c.push.new.self _ c.in_ok-lift_function.field-0 c.index-functions-at.result (drop (at + 1) fs)
          (rw (c.number-at.ensures) at c.in_ok-lift_function.ensures.lifted) (rw (c.number-at.ensures) at c.in_ok-lift_function.ensures.own) c.in_ok-push.ensures.ok
          (ap (λ (xs : List RFunction). c.loop-at.own ++ (lift_functions c.args.names.now fs at (c.number-base.result + length c.loop-at.lifted) xs).own) (sym d) ∙ c.loop-at.invariant.own);
      lifted = lifted_goes_on c.args.names.now fs at c.number-base.result c.loop-at.lifted c.lift_function.new.lifted _ c.index-functions-at.result (drop (at + 1) fs)
          (rw (c.number-at.ensures) at c.in_ok-lift_function.ensures.lifted)
          (ap (λ (xs : List RFunction). c.loop-at.lifted ++ (lift_functions c.args.names.now fs at (c.number-base.result + length c.loop-at.lifted) xs).lifted) (sym d) ∙ c.loop-at.invariant.lifted);
      base = search rules;
      room = room_behind_function c.args.names.now fs c.number-at.result c.number-base.result c.loop-at.lifted c.lift_function.new.lifted c.index-functions-at.result (drop (at + 1) fs) c.in_ok-lift_function.ensures.lifted
          (subst (λ (xs : List RFunction). FunctionsHaveRoom (c.number-base.result + length c.loop-at.lifted) xs) d c.loop-at.invariant.room);
    }
