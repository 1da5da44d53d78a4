use Rattle.std.proofs.Common.{◌≡◌, ◌<◌, [], ◌∷◌, ◌++◌, length, get_or, replicate, true, false, rules, ap, ◌∙◌, arith}
use Rattle.std.proofs.lemmas.List.{length-set, length-replicate}
use Rattle.shim_waits.specs.Rings.{backwards}
use Rattle.shim_waits.proofs.NumberRings.{comes_again, goes_on, ends, there, same_read, pushed_last, none_passed, none_below, marks_one, none_marked, one_below, at_below, leads_to}
use Rattle.shim_waits.proofs.ring.follow.Goals as goal

pub loop-turn-init : goal.loop-turn-init
loop-turn-init c =
    let n = length c.args.next.now in
    let unmarked : c.in_ok-seen.seen.items ≡ replicate n false = search rules in
    let none : c.new-passed.result.items ≡ [] = c.new-passed.ensures.items in (
      none_passed c.args.next.now c.new-passed.result.items none,
      none_marked c.in_ok-seen.seen.items c.new-passed.result.items n unmarked none,
      ap length unmarked ∙ length-replicate n false,
      none_below n c.new-passed.result.items none,
      λ h. h,
    )

pub index-requires : goal.index-requires
index-requires c = let inv = c.loop-turn.invariant in let a = inv.4 (let h = c.loop-turn-test.true in omega (arith, h)) in let b = inv.2 in let k = c.loop-turn.seen.ok.0 in omega (arith, a, b, k)

pub returns-then-index-clause-ring : goal.returns-then-index-clause-ring
returns-then-index-clause-ring c =
    let inv = c.loop-turn.invariant in
    let n = length c.args.next.now in
    let at = c.loop-turn.at in
    let inside = inv.4 (let h = c.loop-turn-test.true in omega (arith, h)) in
    comes_again c.args.next.now (backwards (length c.loop-turn.passed.items) c.loop-turn.passed.items) n c.loop-turn._turn at c.loop-turn-test.true (there c.loop-turn.seen.items at _ _ c.index.ensures c.if-index.true (inv.1 at inside) (let b = inv.2 in omega (arith, inside, b))) inv.0

pub returns-then-index-clause-inside : goal.returns-then-index-clause-inside
returns-then-index-clause-inside c = c.loop-turn.invariant.3

pub index_mut-requires : goal.index_mut-requires
index_mut-requires c = let inv = c.loop-turn.invariant in let a = inv.4 (let h = c.loop-turn-test.true in omega (arith, h)) in let b = inv.2 in let k = c.loop-turn.seen.ok.0 in omega (arith, a, b, k)

pub bounds-next-at : goal.bounds-next-at
bounds-next-at c = c.loop-turn.invariant.4 (let h = c.loop-turn-test.true in omega (arith, h))

pub loop-turn-preserved : goal.loop-turn-preserved
loop-turn-preserved c =
    let inv = c.loop-turn.invariant in
    let next = c.args.next.now in
    let n = length next in
    let at = c.loop-turn.at in
    let turn = c.loop-turn._turn in
    let passed = c.loop-turn.passed.items in
    let more = c.push.new.self.items in
    let inside : at < n = inv.4 (let h = c.loop-turn-test.true in omega (arith, h)) in
    let to : get_or next at 0 ≡ get_or next at (get_or next at 0) = same_read next at inside in
    let pushed : more ≡ passed ++ at ∷ [] = c.in_ok-push.ensures.items in
    let is = pushed_last passed more at pushed in (
      goes_on next (backwards (length passed) passed) (backwards (length more) more) n turn at (get_or next at 0) c.loop-turn-test.true
          (there c.loop-turn.seen.items at _ _ c.index.ensures c.if-index.false (inv.1 at inside) (let b = inv.2 in omega (arith, inside, b))) (leads_to next at (get_or next at 0) inside to) is inv.0,
      marks_one c.loop-turn.seen.items (backwards (length passed) passed) (backwards (length more) more) n at inv.2 inside is inv.1,
      length-set c.loop-turn.seen.items at true ∙ inv.2,
      one_below n passed more at pushed inv.3 inside,
      λ h. at_below n next at (get_or next at 0) c.requires.inside inside to,
    )

pub returns-clause-ring : goal.returns-clause-ring
returns-clause-ring c = ends c.args.next.now (backwards (length c.loop-turn.passed.items) c.loop-turn.passed.items) (length c.args.next.now) c.loop-turn._turn c.loop-turn.at (let h = c.loop-turn-test.false in omega (arith, h)) c.loop-turn.invariant.0

pub returns-clause-inside : goal.returns-clause-inside
returns-clause-inside c = c.loop-turn.invariant.3
