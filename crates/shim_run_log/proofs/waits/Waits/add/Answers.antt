use Rattle.std.proofs.Common.{ap, sym, ◌∙◌, cond}
use Rattle.std.specs.Option.{is_some}
use Rattle.std.specs.FinMap as finite
use Rattle.shim_base.specs.PathLaws.{path_order_total, exact_path}
use Rattle.shim_run_log.proofs.Mapped.{get_of, put_at}
use Rattle.shim_run_log.proofs.waits.Waits.add.Goals as goal

pub returns-then-contains_key-clause-ok : goal.returns-then-contains_key-clause-ok
returns-then-contains_key-clause-ok c =
    let m = c.args.self.now in
    let had = ap is_some (ap (λ n. finite.get n c.args.path.now) (sym c.self.view_is) ∙ get_of path_order_total c.self.inside.kept.entries c.args.path.now) ∙ sym c.contains_key.ensures ∙ c.if-contains_key.true in
    sym (ap (λ b. cond b m (finite.insert m c.args.path.now c.args.chan.now)) had)

pub returns-clause-ok : goal.returns-clause-ok
returns-clause-ok c =
    let m = c.args.self.now in
    let had = ap is_some (ap (λ n. finite.get n c.args.path.now) (sym c.self.view_is) ∙ get_of path_order_total c.self.inside.kept.entries c.args.path.now) ∙ sym c.contains_key.ensures ∙ c.if-contains_key.false in
    put_at path_order_total exact_path c.self.inside.kept.entries c.insert-2.new.self.entries c.in_ok-copy.field-0 c.in_ok-copy-2.field-0 c.in_ok-insert.ensures.updates.0
    ∙ (λ i. finite.insert (c.self.view_is i) (c.in_ok-copy.ensures i) (c.in_ok-copy-2.ensures i))
    ∙ sym (ap (λ b. cond b m (finite.insert m c.args.path.now c.args.chan.now)) had)
