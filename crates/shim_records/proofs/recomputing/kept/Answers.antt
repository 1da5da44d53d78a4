use Rattle.std.proofs.Common.{ap, sym, ◌∙◌, arith}
use Rattle.shim_records.specs.Pairs.{pair_index}
use Rattle.shim_records.proofs.Pairing.{place_within}
use Rattle.shim_records.proofs.ReadOff.{its_label, no_label}
use Rattle.shim_records.proofs.recomputing.kept.Goals as goal

pub index-requires : goal.index-requires
index-requires c =
    let ps = c.args.fork.now.pairs in
    let inside = place_within c.args.c.now.channel ps.items c.in-Some.place (ap (pair_index c.args.c.now.channel) (sym c.as_slice.ensures.value) ∙ (sym c.place_in.ensures ∙ c.in-Some.is)) in
    let same = ps.ok.0 in
    omega (arith, inside, same)

pub returns-in-None : goal.returns-in-None
returns-in-None c = no_label c.args.c.now.channel c.args.fork.now.pairs.items (ap (pair_index c.args.c.now.channel) (sym c.as_slice.ensures.value) ∙ (sym c.place_in.ensures ∙ c.in-None.is))

pub returns-in-Some : goal.returns-in-Some
returns-in-Some c =
    its_label c.args.c.now.channel c.args.fork.now.pairs.items c.in-Some.place c.index.result.now
    (ap (pair_index c.args.c.now.channel) (sym c.as_slice.ensures.value) ∙ (sym c.place_in.ensures ∙ c.in-Some.is)) c.index.ensures
