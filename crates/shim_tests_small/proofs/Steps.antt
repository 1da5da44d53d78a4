-- The test of two steps tells whether they are the same.
use Rattle.std.proofs.Common.{◌≡◌, Bool, false, true, Decides, refl, ap, subst, eqb-true, eq-eqb}
use Rattle.std.proofs.lemmas.Bool.{and_parts, and_from}
use Rattle.shim_tests_small.specs.declared.small.Branch.{Branch}
use Rattle.shim_tests_small.specs.declared.small.Branch.TheVariants as branch
use Rattle.shim_tests_small.specs.declared.small.Step.{Step}
use Rattle.shim_tests_small.specs.declared.small.Step.TheVariants as step
use Rattle.shim_tests_small.specs.contracts.small.BranchPartialEq.TheImpl as branch_test
use Rattle.shim_tests_small.specs.contracts.small.StepPartialEq.TheImpl as test

-- the test of two variants that differ is `false`
not_same : false ≡ true → ⊥
not_same e = cc

abbrev same_branch : Branch → Branch → Bool
same_branch = branch_test.ghosts.eq

branch_refl : (a : Branch) → same_branch a a ≡ true
branch_refl branch.Next = refl
branch_refl branch.Quiet = refl
branch_refl (branch.Throw label number) = and_from _ _ (eq-eqb label label refl) (eq-eqb number number refl)
branch_refl (branch.Outer label number) = and_from _ _ (eq-eqb label label refl) (eq-eqb number number refl)
branch_refl branch.Nothing = refl

branch_is : (a b : Branch) → same_branch a b ≡ true → a ≡ b
branch_is branch.Next branch.Next e = refl
branch_is branch.Quiet branch.Quiet e = refl
branch_is (branch.Throw label number) (branch.Throw label1 number1) e =
    let both = and_parts _ _ e in
    λ i. branch.Throw (eqb-true label label1 both.0 i) (eqb-true number number1 both.1 i)
branch_is (branch.Outer label number) (branch.Outer label1 number1) e =
    let both = and_parts _ _ e in
    λ i. branch.Outer (eqb-true label label1 both.0 i) (eqb-true number number1 both.1 i)
branch_is branch.Nothing branch.Nothing e = refl
branch_is _ _ e = absurd (not_same e)

abbrev same_step : Step → Step → Bool
same_step = test.ghosts.eq

step_refl : (a : Step) → same_step a a ≡ true
step_refl step.Quiet = refl
step_refl (step.Try name line) = and_from _ _ (eq-eqb name name refl) (eq-eqb line line refl)
step_refl step.Next = refl
step_refl step.Put = refl
step_refl step.Fork = refl
step_refl (step.Three x y z) = and_from _ _ (branch_refl x) (and_from _ _ (branch_refl y) (branch_refl z))
step_refl (step.Throw label number) = and_from _ _ (eq-eqb label label refl) (eq-eqb number number refl)
step_refl (step.ThrowTrap label) = eq-eqb label label refl
step_refl step.Trap = refl

step_is : (a b : Step) → same_step a b ≡ true → a ≡ b
step_is step.Quiet step.Quiet e = refl
step_is (step.Try name line) (step.Try name1 line1) e =
    let both = and_parts _ _ e in
    λ i. step.Try (eqb-true name name1 both.0 i) (eqb-true line line1 both.1 i)
step_is step.Next step.Next e = refl
step_is step.Put step.Put e = refl
step_is step.Fork step.Fork e = refl
step_is (step.Three x y z) (step.Three x1 y1 z1) e =
    let first = and_parts _ _ e in
    let others = and_parts _ _ first.1 in
    λ i. step.Three (branch_is x x1 first.0 i) (branch_is y y1 others.0 i) (branch_is z z1 others.1 i)
step_is (step.Throw label number) (step.Throw label1 number1) e =
    let both = and_parts _ _ e in
    λ i. step.Throw (eqb-true label label1 both.0 i) (eqb-true number number1 both.1 i)
step_is (step.ThrowTrap label) (step.ThrowTrap label1) e = ap step.ThrowTrap (eqb-true label label1 e)
step_is step.Trap step.Trap e = refl
step_is _ _ e = absurd (not_same e)

pub step_decides : (a b : Step) → Decides (same_step a b) (a ≡ b)
step_decides a b = (step_is a b, λ e. subst (λ x. same_step a x ≡ true) e (step_refl a))
