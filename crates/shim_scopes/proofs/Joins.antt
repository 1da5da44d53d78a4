-- One more function after those that are done.
use Rattle.std.proofs.Common.{◌≡◌, List, [], ◌∷◌, ◌++◌, Result, Ok, Err, refl, ap, sym}
use Rattle.std.proofs.lemmas.List.{append_assoc}
use Rattle.shim_scopes.specs.declared.tree.RFunction.{RFunction}
use Rattle.shim_scopes.specs.Refusals.{Refusal, and_then}
use Rattle.shim_syntax.specs.declared.tree.Function.{Function}
use Rattle.shim_syntax.specs.Names.{Texts}
use Rattle.shim_scopes.specs.Statements.{Whole}
use Rattle.shim_scopes.specs.Functions.{bind_function, bind_functions}
use Rattle.shim_scopes.specs.State.{after_some}

pub one_more : (done : List RFunction) (r : RFunction) (m : Result (List RFunction) Refusal)
    → after_some (done ++ r ∷ []) m ≡ after_some done (and_then m (λ rs. Ok (r ∷ rs)))
one_more done r (Ok rs) = ap Ok (append_assoc done (r ∷ []) rs)
one_more done r (Err e) = refl

pub one_bound : (w : Whole) (earlier : Texts) (f : Function) (fs : List Function) (done : List RFunction) (r : RFunction)
    → bind_function w earlier f ≡ Ok r
    → after_some done (bind_functions w earlier (f ∷ fs)) ≡ after_some (done ++ r ∷ []) (bind_functions w (earlier ++ f.name ∷ []) fs)
one_bound w earlier f fs done r e = rw e (sym (one_more done r (bind_functions w (earlier ++ f.name ∷ []) fs)))
