use Rattle.std.proofs.Common.{◌≡◌, ℕ, ◌+◌, List, ap, sym, ◌∙◌, rules, arith}
use Rattle.std.specs.BTreeMap.{is_at}
use Rattle.std.specs.FinMap as finite
use Rattle.std.specs.Map.{lookup}
use Rattle.std.specs.Option.{unwrap_or}
use Rattle.shim_base.specs.Paths.{Path, path_order}
use Rattle.shim_base.specs.PathLaws.{path_order_total, exact_path}
use Rattle.shim_semantics.specs.Trees.{count_of}
use Rattle.shim_run_log.proofs.Mapped.{get_of, put_at}
use Rattle.shim_run_log.proofs.Summed.{taken_at_once}
use Rattle.shim_run_log.proofs.step_counts.StepCounts.try_add.Goals as goal

-- what entries have at a copy of the path is its count
at_copy : (es : List (Path × ℕ)) (m : finite.FinMap path_order ℕ) (p copy : Path) → finite.from_entries es ≡ m → copy ≡ p → unwrap_or (lookup (is_at (path_order copy)) es) 0 ≡ count_of m p
at_copy es m p copy is same = ap (λ x. unwrap_or x 0) ((λ i. lookup (is_at (path_order (same i))) es) ∙ sym (get_of path_order_total es p) ∙ ap (λ z. finite.get z p) is)

pub overflow_add-sum : goal.overflow_add-sum
overflow_add-sum c =
    let had : c.or_insert-sum.result.now ≡ count_of c.args.self.now c.args.path.now =
    c.or_insert-sum.ensures.value ∙ ap (λ x. unwrap_or x 0) c.in_ok-self-inside.ensures.value ∙ at_copy c.self.inside.kept.entries _ _ _ c.self.view_is c.in_ok-copy.ensures in
    let few = c.requires.few in
    omega (arith, had, few)

pub returns-clause-ok : goal.returns-clause-ok
returns-clause-ok c =
    let es = c.self.inside.kept.entries in
    let n = c.or_insert-sum.result.now + c.args.steps in
    let had : c.or_insert-sum.result.now ≡ count_of c.args.self.now c.args.path.now =
    c.or_insert-sum.ensures.value ∙ ap (λ x. unwrap_or x 0) c.in_ok-self-inside.ensures.value ∙ at_copy es _ _ _ c.self.view_is c.in_ok-copy.ensures in
    let written =
    put_at path_order_total exact_path es _ c.in_ok-copy.field-0 n (c.in_ok-self-inside.ensures.update.0 n).0
    ∙ (λ i. finite.insert (c.self.view_is i) (c.in_ok-copy.ensures i) (had i + c.args.steps))
    ∙ sym (taken_at_once c.args.steps c.args.self.now c.args.path.now c.if-steps-eq0.false) in
    search (rules, written)
