use Rattle.std.proofs.Common.{length, map, refl, sym, ◌∙◌}
use Rattle.std.proofs.lemmas.Option.{slice_get_read}
use Rattle.shim_waits.proofs.NumberedWaits.{copied_wait, of_lent}
use Rattle.shim_waits.proofs.waiting.numbered_wait.Goals as goal

pub returns : goal.returns
returns g c =
    let o = g.L.Local.ops in
    let path = c.in_ok-copy.ensures ∙ c.path.ensures.path in
    copied_wait o (map (λ x. x.now) c.args.lives.now) c.args.holders.now c.args.process.now c.in-Some.chan.now c.in-Some-stands_at.at.now c.in-Some-get.holder.now c.in-Some-get-2.by.now.now
    (record { path = c.in_ok-copy.field-0; chan = c.in_ok-copy-2.field-0; holder = c.in_ok-copy-3.field-0; by = c.in_ok-copy-4.field-0; at = c.in_ok-copy-5.field-0 }) (sym c.in-Some.ensures) (sym c.in-Some-get.ensures.value)
    (of_lent (λ x. x.now) c.args.lives.now c.in-Some-get.holder.now.number c.in-Some-get-2.by.now (slice_get_read c.args.lives.now (length c.args.lives.now) c.in-Some-get.holder.now.number c.in-Some-get-2.by.now refl c.in-Some-get-2.ensures.lookup.3.0 c.in-Some-get-2.ensures.lookup.1)) (sym c.in-Some-stands_at.ensures) path c.in_ok-copy-2.ensures c.in_ok-copy-3.ensures (c.in_ok-copy-4.ensures ∙ c.path-2.ensures.path) c.in_ok-copy-5.ensures
