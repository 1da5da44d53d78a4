-- The program in version 2, from one of that version and from another one.
use Rattle.std.proofs.Common.{ℕ, ◌≡◌, ◌≢◌, ◌∙◌, List, Result, Ok, Err, IfOk, ap, sym}
use Rattle.shim_syntax.specs.Terminals.{new_word}
use Rattle.shim_syntax.specs.declared.tree.Program.{Program}
use Rattle.shim_syntax.specs.Occurrences.{identifiers}
use Rattle.shim_up.specs.Up.{IsLeastNew, IsUp, changed, fresh_name, unchanged, with_name_for_word}
use Rattle.shim_up.proofs.SameNames.{same_functions}

with_the_word : (p : Program) → p.version ≡ 2 → with_name_for_word new_word p ≡ p
with_the_word p two = λ i. record { version = sym two i; functions = same_functions p.functions i }

module _ {E : Type 0} (p : Program) (x : List ℕ) where
  pub from_version_2 : (r : Result Program E) → p.version ≡ 2 → x ≡ new_word → IfOk r (λ q. q ≡ with_name_for_word x p) → IfOk r (λ q. IsUp p q)
  from_version_2 (Ok q) two word is = unchanged two (is ∙ ap (λ y. with_name_for_word y p) word ∙ with_the_word p two)
  from_version_2 (Err e) two word is = tt

  pub from_another : (r : Result Program E) → p.version ≢ 2 → (k : ℕ) → IsLeastNew (identifiers p.functions) k → x ≡ fresh_name k → IfOk r (λ q. q ≡ with_name_for_word x p) → IfOk r (λ q. IsUp p q)
  from_another (Ok q) other k least name is = changed other k least (is ∙ ap (λ y. with_name_for_word y p) name)
  from_another (Err e) other k least name is = tt
