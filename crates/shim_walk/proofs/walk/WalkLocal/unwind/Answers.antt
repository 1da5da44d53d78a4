use Rattle.std.proofs.Common.{◌∙◌, ap, rules, w64, FitsSigned}
use Rattle.std.proofs.lemmas.Int.{to_z-of_z}
use Rattle.shim_process.specs.Unwinding.{unwind}
use Rattle.shim_walk.proofs.Sounding.{unwind_sound}
use Rattle.shim_walk.proofs.walk.WalkLocal.unwind.Goals as goal

pub invariant_of-self : goal.invariant_of-self
invariant_of-self c =
    let fits : FitsSigned w64 c.args.value = search rules in
    unwind_sound c.self.inside.process c.args.self.now c.unwind.new.self c.args.label c.args.value c.self.view_is c.self.invariant c.requires.0 c.requires.1
    (c.unwind.ensures ∙ ap (λ v. unwind c.self.inside.process c.args.label v) (to_z-of_z w64 c.args.value fits))
