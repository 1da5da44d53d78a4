-- Where paths lead, and the channels of a list.
use Rattle.std.proofs.Common.{◌≡◌, ℕ, ◌+◌, true, [], ◌∷◌, ◌++◌, length, sym, ap, ◌∙◌, subst, arith, append_assoc, append-nil, length-append}
use Rattle.shim_base.specs.Paths.{Path, Channel, same_channel}
use Rattle.shim_process.specs.Sound.{IsPathPrefix}
use Rattle.shim_base.proofs.SamePaths.{same_channel_refl}

pub same_channel_of : (c d : Channel) → c ≡ d → same_channel c d ≡ true
same_channel_of c d e = subst (λ (z : Channel). same_channel c z ≡ true) e (same_channel_refl c)

pub leads_here : (p q : Path) → p ≡ q → IsPathPrefix p q
leads_here p q e = ([], append-nil p ∙ e)

pub leads_on : (p q : Path) (x : ℕ × ℕ) → IsPathPrefix p q → IsPathPrefix p (q ++ x ∷ [])
leads_on p q x (rest, e) = (rest ++ x ∷ [], sym (append_assoc p rest (x ∷ [])) ∙ ap (λ (z : Path). z ++ x ∷ []) e)

-- no child's path leads to its parent
pub leads_no_child : (p q : Path) (x : ℕ × ℕ) → IsPathPrefix p q → p ≡ q ++ x ∷ [] → ⊥
leads_no_child p q x (rest, e) h =
    let a : length (p ++ rest) ≡ length q = ap length e in
    let b : length p ≡ length (q ++ x ∷ []) = ap length h in
    let c : length (p ++ rest) ≡ length p + length rest = length-append p rest in
    let d : length (q ++ x ∷ []) ≡ length q + 1 = length-append q (x ∷ []) in
    absurd (omega (arith, a, b, c, d))
