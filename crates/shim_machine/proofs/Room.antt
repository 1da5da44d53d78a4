-- The bound of the instructions past ends as a product.
use Rattle.std.proofs.Common.{◌≡◌, ℕ, zero, suc, ◌+◌, ◌*◌, sym, ap, ◌∙◌, arith}
use Rattle.std.proofs.Math.Nat.{suc-mul}
use Rattle.shim_machine.specs.Simulation.{room}

swapped : (x y : ℕ) → x + y ≡ y + x
swapped x y = omega arith

pub room_is : (most callers : ℕ) → room most callers ≡ (callers + 1) * (most + 1)
room_is most zero = let e : most + 1 ≡ 1 * (most + 1) = omega arith in e
room_is most (suc n) =
    let m = most + 1 in
    let z : suc n + 1 ≡ suc (n + 1) = omega arith in
    ap (λ r. m + r) (room_is most n) ∙ swapped m ((n + 1) * m) ∙ sym (ap (λ k. k * m) z ∙ suc-mul (n + 1) m)
