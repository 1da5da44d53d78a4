use Rattle.std.proofs.Common.{ap, sym, ◌∙◌, ◌≡◌, ◌++◌, ◌∷◌, [], rules, Some, None}
use Rattle.std.specs.FinMap as finite
use Rattle.std.specs.Option.{unwrap_or}
use Rattle.std.specs.BTreeMap.{is_at}
use Rattle.std.specs.Map.{set_value}
use Rattle.std.proofs.lemmas.Result.{on_ok_weaker, on_err_weaker}
use Rattle.std.proofs.lemmas.Map.Steps.{set_value_same}
use Rattle.shim_base.specs.Paths.{path_order}
use Rattle.shim_base.specs.PathLaws.{path_order_total, exact_path}
use Rattle.shim_run_log.proofs.Mapped.{get_of, put_at}
use Rattle.shim_run_log.proofs.logs.Logs.add.Goals as goal

pub returns-in-Some-clause-ok : goal.returns-in-Some-clause-ok
returns-in-Some-clause-ok c =
    let p = c.args.path.now in
    let es = c.self.inside.kept.entries in
    let w = c.push.new.self in
    let is : finite.get c.args.self.now p ≡ Some c.in-Some.logged.now =
    ap (λ m. finite.get m p) (sym c.self.view_is) ∙ get_of path_order_total es p ∙ sym c.in-Some.ensures.value in
    on_ok_weaker c.push.result (λ pushed.
    put_at path_order_total exact_path es (c.get_mut.follows.lender w).entries p w ((c.get_mut.follows.holds w).3 (search rules)).0
    ∙ ap (finite.insert (finite.from_entries es) p) pushed
    ∙ (λ i. finite.insert (c.self.view_is i) p (unwrap_or (sym is i) [] ++ c.args.what ∷ []))) c.push.ensures.ok

pub returns-in-Some-clause-err : goal.returns-in-Some-clause-err
returns-in-Some-clause-err c =
    let p = c.args.path.now in
    let es = c.self.inside.kept.entries in
    on_err_weaker c.push.result (λ is.
    ap finite.from_entries ((c.get_mut.follows.holds c.push.new.self).0 ∙ ap (set_value (is_at (path_order p)) es) is ∙ set_value_same (is_at (path_order p)) es c.in-Some.logged.now (sym c.in-Some.ensures.value))
    ∙ c.self.view_is) c.push.ensures.err

pub returns-clause-ok : goal.returns-clause-ok
returns-clause-ok c =
    let p = c.args.path.now in
    let is : finite.get c.args.self.now p ≡ None =
    ap (λ m. finite.get m p) (sym c.self.view_is) ∙ get_of path_order_total c.self.inside.kept.entries p ∙ sym c.in_default.ensures.value in
    put_at path_order_total exact_path c.get_mut.follows.lender-at-none.entries c.insert.new.self.entries c.in_ok-copy.field-0 c.push-2.new.self c.in_ok-insert.ensures.updates.0
    ∙ (λ i. finite.insert (finite.from_entries (c.get_mut.follows.holds-at-none i).entries) (c.in_ok-copy.ensures i) ((c.in_ok-push.ensures.ok ∙ ap (λ z. z ++ c.args.what ∷ []) c.new-logged.ensures) i))
    ∙ (λ i. finite.insert (c.self.view_is i) p (unwrap_or (sym is i) [] ++ c.args.what ∷ []))
