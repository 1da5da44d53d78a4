-- What running nets makes of them.
use Rattle.std.proofs.Common.{◌≡◌, ◌⊎◌, Result, Ok, Err, IfOk, List, [], ◌∷◌, ◌++◌, sym, ap, subst, ◌∙◌}
use Rattle.std.specs.List.{AllZip}
use Rattle.std.proofs.lemmas.List.{append_assoc, append-nil}
use Rattle.shim_local.specs.Process.{Ops}
use Rattle.shim_net.specs.Nets.{NetView, IsNet}
use Rattle.shim_net.specs.Standings.{IsQuiescentNet, IsSpentNet}
use Rattle.shim_batch.specs.Runs.{RunsToEnd}

pub has_run : {S E : Type 0} (o : Ops S) (net : NetView S) (r : Result (NetView S) E) → IfOk r (λ n. n.root ≡ net.root) → IfOk r (λ n. n.budget ≡ net.budget) → IfOk r (λ n. IsQuiescentNet o n ⊎ IsSpentNet o n)
    → IfOk r (λ n. IsNet o n) → IfOk r (λ n. RunsToEnd o net n)
has_run o net (Ok n) root budget quiescent_or_spent keeps = record { root = root; budget = budget; quiescent_or_spent = quiescent_or_spent; keeps = keeps }
has_run o net (Err e) root budget quiescent_or_spent keeps = tt

module _ {A B : Type 0} (R : A → B → Type 0) where
  -- what is held against the values that are left, stands after what was held against those before them
  abbrev pub ZipsOn : List A → List B → List A → Type 0
  ZipsOn xs ys rest = (later : List B) → AllZip R rest later → AllZip R xs (ys ++ later)

  pub zips_one : (xs : List A) (ys ys' : List B) (x : A) (y : B) (rest rest' : List A) → rest ≡ x ∷ rest' → R x y → ys' ≡ ys ++ y ∷ [] → ZipsOn xs ys rest → ZipsOn xs ys' rest'
  zips_one xs ys ys' x y rest rest' first holds more on later h =
      let here : AllZip R rest (y ∷ later) = subst (λ l. AllZip R l (y ∷ later)) (sym first) (holds, h) in
      subst (λ l. AllZip R xs l) (sym (ap (λ (l : List B). l ++ later) more ∙ append_assoc ys (y ∷ []) later)) (on (y ∷ later) here)

  pub zips_none : (xs : List A) (ys : List B) (rest : List A) → rest ≡ [] → ZipsOn xs ys rest → AllZip R xs ys
  zips_none xs ys rest none on = subst (λ l. AllZip R xs l) (append-nil ys) (on [] (subst (λ l. AllZip R l []) (sym none) tt))
