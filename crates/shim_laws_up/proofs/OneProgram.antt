-- A program is one program in version 2.
use Rattle.std.proofs.Common.{ℕ, ◌<◌, ◌≤◌, ◌≡◌, ◌∙◌, ◌⊎◌, inl, inr, true, false, sym, ap, arith}
use Rattle.std.specs.Prelude.{nat_lt}
use Rattle.std.proofs.lemmas.Bool.{cases_Bool}
use Rattle.std.proofs.lemmas.Bool.Decides.{nat_tests}
use Rattle.shim_syntax.specs.Names.{Texts}
use Rattle.shim_syntax.specs.Occurrences.{identifiers}
use Rattle.shim_up.specs.Up.{IsLeastNew, IsUp, fresh_name, with_name_for_word, unchanged, changed}
use Rattle.shim_syntax.specs.declared.tree.Program.{Program}

one_least_by : (xs : Texts) (k m : ℕ) → IsLeastNew xs k → IsLeastNew xs m → (nat_lt k m ≡ true) ⊎ (nat_lt k m ≡ false) → (nat_lt m k ≡ true) ⊎ (nat_lt m k ≡ false) → k ≡ m
one_least_by xs k m a b (inl e) d = let lt : k < m = grind (arith, nat_tests) in absurd (b.least k lt a.new)
one_least_by xs k m a b (inr e) (inl d) = let lt : m < k = grind (arith, nat_tests) in absurd (a.least m lt b.new)
one_least_by xs k m a b (inr e) (inr d) =
    let le : m ≤ k = grind (arith, nat_tests) in
    let ge : k ≤ m = grind (arith, nat_tests) in
    omega (arith, le, ge)

one_least : (xs : Texts) (k m : ℕ) → IsLeastNew xs k → IsLeastNew xs m → k ≡ m
one_least xs k m a b = one_least_by xs k m a b (cases_Bool (nat_lt k m)) (cases_Bool (nat_lt m k))

pub one_program : (p q r : Program) → IsUp p q → IsUp p r → q ≡ r
one_program p q r (unchanged two is) (unchanged also same) = is ∙ sym same
one_program p q r (unchanged two is) (changed other m least same) = absurd (other two)
one_program p q r (changed other k least is) (unchanged two same) = absurd (other two)
one_program p q r (changed other k least is) (changed also m less same) =
    is ∙ ap (λ (n : ℕ). with_name_for_word (fresh_name n) p) (one_least (identifiers p.functions) k m least less) ∙ sym same
