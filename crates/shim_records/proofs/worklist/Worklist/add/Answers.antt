use Rattle.std.proofs.Common.{refl, ap, ◌∙◌, ◌≡◌, Some, arith, false, length}
use Rattle.std.specs.Prelude.{slice_get}
use Rattle.std.proofs.lemmas.Option.{slice_get_read}
use Rattle.shim_records.proofs.Waits.{has_room, added}
use Rattle.shim_records.proofs.worklist.Worklist.add.Goals as goal

pub push_reserved-requires : goal.push_reserved-requires
push_reserved-requires c =
    let w = c.self.inside in
    let inside = c.requires in
    let long = ap length c.self.view_is in
    let clear : slice_get w.listed.items c.args.number ≡ Some false = slice_get_read w.listed.items (length w.listed.items) c.args.number c.index.result.now refl (omega (arith, inside, long)) c.index.ensures ∙ ap Some c.if-index.false in
    let room = has_room w.numbers w.listed.items c.args.number c.self.invariant clear in
    let same = w.numbers.ok.0 in
    omega (arith, room, same)

pub invariant_of-self : goal.invariant_of-self
invariant_of-self c =
    let w = c.self.inside in
    let inside = c.requires in
    let long = ap length c.self.view_is in
    let clear : slice_get w.listed.items c.args.number ≡ Some false = slice_get_read w.listed.items (length w.listed.items) c.args.number c.index.result.now refl (omega (arith, inside, long)) c.index.ensures ∙ ap Some c.if-index.false in
    added w.numbers c.push_reserved.new.self w.listed.items c.args.number c.self.invariant clear c.push_reserved.ensures.items c.push_reserved.ensures.capacity
