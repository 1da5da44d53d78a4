-- Answers whose refusals report the replaced names.
use Rattle.std.proofs.Common.{ℕ, ◌≡◌, ◌∙◌, List, Option, Some, None, Result, Ok, Err, ap}
use Rattle.std.specs.Option.{option_map}
use Rattle.shim_scopes.specs.declared.fault.ScopeKind.{ScopeKind}
use Rattle.shim_scopes.specs.Refusals.{Refusal, and_then, refused_for}
use Rattle.shim_up.specs.Renaming.{Renaming}
use Rattle.shim_laws_up.specs.Around.{answer_renamed}

module _ (f : Renaming) where
  pub refused : {A B : Type 0} (g : A → B) (line : ℕ) (kind : ScopeKind) (o p : Option (List ℕ)) (rest : Result A Refusal) (other : Result B Refusal)
      → p ≡ option_map f o → other ≡ answer_renamed f g rest → refused_for line kind p other ≡ answer_renamed f g (refused_for line kind o rest)
  refused g line kind None p rest other e h = ap (λ q. refused_for line kind q other) e ∙ h
  refused g line kind (Some x) p rest other e h = ap (λ q. refused_for line kind q other) e

  pub followed : {A B C D : Type 0} (g : A → B) (h : C → D) (m : Result A Refusal) (n : Result B Refusal) (k : A → Result C Refusal) (l : B → Result D Refusal)
      → n ≡ answer_renamed f g m → ((a : A) → l (g a) ≡ answer_renamed f h (k a)) → and_then n l ≡ answer_renamed f h (and_then m k)
  followed g h (Ok a) n k l e each = ap (λ q. and_then q l) e ∙ each a
  followed g h (Err r) n k l e each = ap (λ q. and_then q l) e
