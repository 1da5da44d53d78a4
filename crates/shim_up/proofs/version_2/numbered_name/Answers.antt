use Rattle.std.proofs.Common.{rules, ◌≡◌, ◌≤◌, length, subst, sym}
use Rattle.shim_up.specs.Up.{fresh_name}
use Rattle.shim_up.proofs.LeastNew.{is_short}
use Rattle.shim_up.proofs.version_2.numbered_name.Goals as goal

pub new-requires-clause-short : goal.new-requires-clause-short
new-requires-clause-short c =
    let text : c.as_slice.result.now ≡ fresh_name c.args.number = search rules in
    subst (λ bytes. length bytes ≤ 64) (sym text) (is_short c.args.number c.ranges.number.fits)
