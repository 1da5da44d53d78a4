use Rattle.std.proofs.Common.{◌≡◌, ◌<◌, ◌∷◌, ◌++◌, [], Some, length, set, sym, subst, refl, arith}
use Rattle.std.specs.Prelude.{slice_get}
use Rattle.std.proofs.lemmas.Option.{slice_get_read}
use Rattle.shim_units.specs.Usages.{ShowUses}
use Rattle.shim_units.proofs.Usages.{shows_more}
use Rattle.shim_units.proofs.captures.add_use.Goals as goal

pub returns-then-at-len : goal.returns-then-at-len
returns-then-at-len c = λ n us h.
    let ms = c.args.usages.now.items in
    let u = c.args.found in
    let m = c.index-old.result.now in
    let lt : u.slot < length ms = omega (arith, c.args.usages.now.ok.0) in
    let at : slice_get ms u.slot ≡ Some m = slice_get_read ms (length ms) u.slot m refl lt c.index-old.ensures in
    subst (λ r. ShowUses (set ms u.slot r) n (us ++ u ∷ [])) (sym c.add.ensures) (shows_more ms u m lt at n us h)
