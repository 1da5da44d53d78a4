use Rattle.std.proofs.Common.{sym, ap, ◌∙◌, true, slice_set, false, arith}
use Rattle.std.specs.Prelude.{slice_get}
use Rattle.std.proofs.lemmas.Option.{slice_get_within}
use Rattle.shim_records.proofs.Waits.{taken}
use Rattle.shim_records.proofs.worklist.Worklist.take.Goals as goal

pub index_mut-requires : goal.index_mut-requires
index_mut-requires c =
    let w = c.self.inside in
    let all = taken w.numbers c.pop.new.self w.listed.items c.in-Some.number c.self.invariant c.in-Some.ensures.items c.pop.ensures.capacity in
    let inside = slice_get_within w.listed.items c.in-Some.number true all.0 in
    let same = w.listed.ok.0 in
    omega (arith, inside, same)

pub invariant_of-self-in-Some : goal.invariant_of-self-in-Some
invariant_of-self-in-Some c =
    let w = c.self.inside in
    (taken w.numbers c.pop.new.self w.listed.items c.in-Some.number c.self.invariant c.in-Some.ensures.items c.pop.ensures.capacity).1

pub returns-in-Some : goal.returns-in-Some
returns-in-Some c =
    let w = c.self.inside in
    let all = taken w.numbers c.pop.new.self w.listed.items c.in-Some.number c.self.invariant c.in-Some.ensures.items c.pop.ensures.capacity in
    (ap (λ z. slice_get z c.in-Some.number) (sym c.self.view_is) ∙ all.0, ap (λ z. slice_set z c.in-Some.number false) c.self.view_is)
