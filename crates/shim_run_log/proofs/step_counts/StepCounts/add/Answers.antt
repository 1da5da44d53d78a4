use Rattle.std.proofs.Common.{ap, sym, ◌∙◌, ◌≡◌, ◌+◌, rules, arith, Some}
use Rattle.std.specs.FinMap as finite
use Rattle.std.specs.Option.{unwrap_or, is_some}
use Rattle.std.proofs.lemmas.Bool.{true≢false}
use Rattle.shim_base.specs.PathLaws.{path_order_total, exact_path}
use Rattle.shim_run_log.specs.Maps.{counts_of}
use Rattle.shim_run_log.proofs.Mapped.{get_of, put_at}
use Rattle.shim_run_log.proofs.step_counts.StepCounts.add.Goals.{in-Some, in_default}
use Rattle.shim_run_log.proofs.step_counts.StepCounts.add.Goals as goal

pub overflow_add-count : goal.overflow_add-count
overflow_add-count c =
    let is : finite.get c.args.self.now c.args.path.now ≡ Some c.in-Some.count.now =
    ap (λ m. finite.get m c.args.path.now) (sym c.self.view_is) ∙ get_of path_order_total c.self.inside.kept.entries c.args.path.now ∙ sym c.in-Some.ensures.value in
    let here = ap (λ x. unwrap_or x 0) is in
    let few = c.requires.few in
    omega (arith, here, few)

pub returns : goal.returns
returns c =
    let p = c.args.path.now in
    let es = c.self.inside.kept.entries in
    let found = ap (λ m. finite.get m p) (sym c.self.view_is) ∙ get_of path_order_total es p in
    elim c.match-get_mut.branch [
      | in-Some w ↦
          (let n = w.in-Some.count.now + c.args.steps in
          let is : finite.get c.args.self.now p ≡ Some w.in-Some.count.now = found ∙ sym w.in-Some.ensures.value in
          ap (λ x. counts_of x.kept) w.self-inside-is
          ∙ put_at path_order_total exact_path es (c.get_mut.follows.lender n).entries p n ((c.get_mut.follows.holds n).3 (let value = w.in-Some.ensures.value in search rules)).0
          ∙ (λ i. finite.insert (c.self.view_is i) p (unwrap_or (sym is i) 0 + c.args.steps)))
      | in_default w ↦ absurd (true≢false (sym c.requires.place ∙ ap is_some (found ∙ sym w.in_default.ensures.value)))
    ]
