use Rattle.std.proofs.Common.{sym, ap, ◌∙◌}
use Rattle.shim_base.specs.Paths.{same_path}
use Rattle.shim_base.proofs.SamePaths.{same_path_refl, same_path_is}
use Rattle.shim_waits.proofs.by_path.is_of.Goals as goal

pub returns : goal.returns
returns g c = (
  λ t. same_path_is (g.L.Local.ops.path c.args.process.now) c.args.path.now (ap (λ z. same_path z c.args.path.now) (sym c.path.ensures.path) ∙ (sym c.eq.ensures ∙ t)),
  λ e. c.eq.ensures ∙ (ap (λ z. same_path z c.args.path.now) (c.path.ensures.path ∙ e) ∙ same_path_refl c.args.path.now),
)
