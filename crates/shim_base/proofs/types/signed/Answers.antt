-- The two halves of the range.
use Rattle.std.proofs.Common.{arith, ◌≡◌, pos, ◌+◌, ◌<ℤ◌, ◌≤ℤ◌, to_z, of_z, w64, ◌+ℤ◌}
use Rattle.std.specs.Int.{int_rem_euclid}
use Rattle.std.proofs.lemmas.Int.{ints, to_z-of_z}
use Rattle.shim_base.proofs.Reduced.{lower, upper}
use Rattle.shim_base.proofs.types.signed.Goals as goal

pub returns-then-rest-half : goal.returns-then-rest-half
returns-then-rest-half c =
    let number : to_z w64 (of_z w64 c.args.v) ≡ c.args.v = to_z-of_z w64 c.args.v c.ranges.v in
    let twice : to_z w64 (of_z w64 (to_z w64 (of_z w64 c.from-half.result) +ℤ to_z w64 (of_z w64 c.from-half.result))) ≡ pos (c.args.half + c.args.half) = omega (arith, ints) in
    let rest : c.rem_euclid-rest.result ≡ int_rem_euclid c.args.v (pos (c.args.half + c.args.half)) = cc (number, twice, c.rem_euclid-rest.ensures.value) in
    let small : c.rem_euclid-rest.result <ℤ pos c.args.half = omega (arith, ints) in
    let l = lower c.args.v c.args.half c.rem_euclid-rest.result c.requires.positive rest small in
    omega (arith, ints, l)

pub returns-else-rest-half : goal.returns-else-rest-half
returns-else-rest-half c =
    let number : to_z w64 (of_z w64 c.args.v) ≡ c.args.v = to_z-of_z w64 c.args.v c.ranges.v in
    let twice : to_z w64 (of_z w64 (to_z w64 (of_z w64 c.from-half.result) +ℤ to_z w64 (of_z w64 c.from-half.result))) ≡ pos (c.args.half + c.args.half) = omega (arith, ints) in
    let rest : c.rem_euclid-rest.result ≡ int_rem_euclid c.args.v (pos (c.args.half + c.args.half)) = cc (number, twice, c.rem_euclid-rest.ensures.value) in
    let large : pos c.args.half ≤ℤ c.rem_euclid-rest.result = omega (arith, ints) in
    let u = upper c.args.v c.args.half c.rem_euclid-rest.result c.requires.positive rest large in
    omega (arith, ints, u)
