use Rattle.std.proofs.Common.{rules, ◌≡◌, ◌+◌, ◌<◌, FitsSigned, w64, to_z-of_z, length, Some, Ok, refl, sym, ap, ◌∙◌, subst, arith}
use Rattle.std.specs.Prelude.{slice_get}
use Rattle.std.proofs.lemmas.Option.{slice_get_read}
use Rattle.shim_process.specs.LocalState.{env_of}
use Rattle.shim_vm.specs.Computing.{Goes, progress}
use Rattle.shim_vm.specs.Putting.{PutBy, Stepped, at, stack_numbers}
use Rattle.shim_vm.proofs.Progress.{on_from}
use Rattle.shim_vm.proofs.PutSteps.{ends_put, ends_there, ends_without, lacks_none, leads_within, next_leads, traps_put}
use Rattle.shim_vm.proofs.putting.+put_from.Goals as goal

pub put_from-requires : goal.put_from-requires
put_from-requires t c =
    let code = c.args.code.now in
    let env = env_of c.args.locations.now c.args.slots.now in
    let i = c.index-code-place.result in
    let there : slice_get code c.args.place ≡ Some i = slice_get_read code (length code) c.args.place i refl (leads_within env c.args.slots.now code c.args.place c.requires) c.index-code-place.is in
    let goes : progress env c.args.slots.now (Some i) (at c.args.place c.args.numbers.now) ≡ Goes (at c.in-Some-On.next c.in-Some-On.numbers) = subst (Stepped (progress env c.args.slots.now (Some i) (at c.args.place c.args.numbers.now))) c.in-Some-On.field-0-is c.in-Some-On.ensures in
    let n = next_leads env c.args.slots.now code c.args.place i (stack_numbers c.args.numbers.now) (at c.in-Some-On.next c.in-Some-On.numbers) c.requires there goes in
    let within : c.in-Some-On.next < length code = leads_within env c.args.slots.now code c.in-Some-On.next n.1 in
    (omega (arith, n.0, within), n.1)

pub returns-in-Some-On : goal.returns-in-Some-On
returns-in-Some-On t c = λ r k.
    let code = c.args.code.now in
    let env = env_of c.args.locations.now c.args.slots.now in
    let i = c.index-code-place.result in
    let there : slice_get code c.args.place ≡ Some i = slice_get_read code (length code) c.args.place i refl (leads_within env c.args.slots.now code c.args.place c.requires) c.index-code-place.is in
    let goes : progress env c.args.slots.now (Some i) (at c.args.place c.args.numbers.now) ≡ Goes (at c.in-Some-On.next c.in-Some-On.numbers) = subst (Stepped (progress env c.args.slots.now (Some i) (at c.args.place c.args.numbers.now))) c.in-Some-On.field-0-is c.in-Some-On.ensures in
    c.put_from.ensures r (on_from env c.args.slots.now code (at c.args.place c.args.numbers.now) (at c.in-Some-On.next c.in-Some-On.numbers) r (ap (λ o. progress env c.args.slots.now o (at c.args.place c.args.numbers.now)) there ∙ goes) k)

pub returns-in-Some-Trapped : goal.returns-in-Some-Trapped
returns-in-Some-Trapped t c = λ r k.
    let code = c.args.code.now in
    let env = env_of c.args.locations.now c.args.slots.now in
    let i = c.index-code-place.result in
    let there : slice_get code c.args.place ≡ Some i = slice_get_read code (length code) c.args.place i refl (leads_within env c.args.slots.now code c.args.place c.requires) c.index-code-place.is in
    let traps = subst (Stepped (progress env c.args.slots.now (Some i) (at c.args.place c.args.numbers.now))) c.in-Some-Trapped.field-0-is c.in-Some-Trapped.ensures in
    traps_put env c.args.slots.now code (at c.args.place c.args.numbers.now) r c.in-Some-Trapped.trap (ap (λ o. progress env c.args.slots.now o (at c.args.place c.args.numbers.now)) there ∙ traps) k

pub returns-in-Some-Lacking : goal.returns-in-Some-Lacking
returns-in-Some-Lacking t c = λ r k.
    let code = c.args.code.now in
    let env = env_of c.args.locations.now c.args.slots.now in
    let i = c.index-code-place.result in
    let there : slice_get code c.args.place ≡ Some i = slice_get_read code (length code) c.args.place i refl (leads_within env c.args.slots.now code c.args.place c.requires) c.index-code-place.is in
    let lacks = subst (Stepped (progress env c.args.slots.now (Some i) (at c.args.place c.args.numbers.now))) c.in-Some-Lacking.field-0-is c.in-Some-Lacking.ensures in
    absurd (lacks_none env c.args.slots.now code (at c.args.place c.args.numbers.now) r (ap (λ o. progress env c.args.slots.now o (at c.args.place c.args.numbers.now)) there ∙ lacks) k)

pub returns-in-Some : goal.returns-in-Some
returns-in-Some t c = λ r k.
    let code = c.args.code.now in
    let env = env_of c.args.locations.now c.args.slots.now in
    let i = c.index-code-place.result in
    let there : slice_get code c.args.place ≡ Some i = slice_get_read code (length code) c.args.place i refl (leads_within env c.args.slots.now code c.args.place c.requires) c.index-code-place.is in
    let acts = ends_there env c.args.slots.now code c.args.place i (at c.args.place c.args.numbers.now) c.requires there c.in-None.ensures in
    let fits : FitsSigned w64 c.in-Some.value = search rules in
    subst (λ v. PutBy r (Ok (record { place = c.args.place + 1; value = v }))) (sym (to_z-of_z fits)) (ends_put env c.args.slots.now code (at c.args.place c.args.numbers.now) r c.in-Some.value (ap (λ o. progress env c.args.slots.now o (at c.args.place c.args.numbers.now)) there ∙ acts) c.in-Some.ensures k)

pub returns-in-None-top : goal.returns-in-None-top
returns-in-None-top t c = λ r k.
    let code = c.args.code.now in
    let env = env_of c.args.locations.now c.args.slots.now in
    let i = c.index-code-place.result in
    let there : slice_get code c.args.place ≡ Some i = slice_get_read code (length code) c.args.place i refl (leads_within env c.args.slots.now code c.args.place c.requires) c.index-code-place.is in
    let acts = ends_there env c.args.slots.now code c.args.place i (at c.args.place c.args.numbers.now) c.requires there c.in-None.ensures in
    ends_without env c.args.slots.now code (at c.args.place c.args.numbers.now) r _ (ap (λ o. progress env c.args.slots.now o (at c.args.place c.args.numbers.now)) there ∙ acts) c.in-None-top.ensures k
