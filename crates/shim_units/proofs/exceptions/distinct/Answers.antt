use Rattle.std.proofs.Common.{rules, ◌≡◌, ◌+◌, ◌<◌, ◌++◌, [], ◌∷◌, length, get_or, take, true, ap, arith}
use Rattle.std.proofs.lemmas.List.{take_more}
use Rattle.shim_units.proofs.Marks.{is_marked, new_one, old_one, same_marked, was_marked}
use Rattle.shim_units.proofs.exceptions.distinct.Goals as goal
use Rattle.shim_units.proofs.exceptions.distinct.Goals.{then-branch+in_ok-push, else-branch}

pub loop-one-preserved : goal.loop-one-preserved
loop-one-preserved c =
    let numbers = c.args.numbers.now in
    let i = c.loop-one.one-index in
    let r = get_or numbers i 0 in
    let old = c.loop-one.marks.items in
    let new = c.mark.new.marks.items in
    let inside : i < length numbers = omega arith in
    let more : take (i + 1) numbers ≡ take i numbers ++ r ∷ [] = take_more numbers i 0 inside in
    elim c.if-branch.branch [
      | then-branch+in_ok-push w ↦
          let made : c.if-branch.made.items ≡ c.loop-one.made.items ++ r ∷ [] = search rules in
          same_marked new made more (new_one old new c.loop-one.made.items (take i numbers) r c.loop-one.invariant c.in_ok-mark.ensures.marked)
      | else-branch w ↦
          let known : is_marked old r ≡ true = was_marked (is_marked old r) c.in_ok-mark.field-0 c.in_ok-mark.ensures.fresh w.if-branch.false in
          same_marked new (ap (λ v. v.items) w.made-is) more (old_one old new c.loop-one.made.items (take i numbers) r c.loop-one.invariant c.in_ok-mark.ensures.marked known)
    ]
