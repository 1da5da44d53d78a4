use Rattle.std.proofs.Common.{IfOk, ◌≡◌, ◌∙◌, sym, subst}
use Rattle.shim_base.specs.Paths.{Path}
use Rattle.shim_base.proofs.SamePaths.{same_path_is}
use Rattle.shim_replay.proofs.recent_paths.RecentPaths.path_of.Goals as goal

pub returns-then-eq : goal.returns-then-eq
returns-then-eq c =
    let same : c.in-Some.path.now ≡ c.args.pairs.now = sym c.pairs.ensures ∙ same_path_is c.pairs.result.now c.args.pairs.now (sym c.eq.ensures ∙ c.if-eq.true) in
    subst (λ (ps : Path). IfOk c.copy.result (λ path. path ≡ ps)) same c.copy.ensures
