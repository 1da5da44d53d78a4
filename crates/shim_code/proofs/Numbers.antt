-- How a draft's marks get their numbers, one after another.
use Rattle.std.proofs.Common.{◌≡◌, ◌∙◌, ◌<◌, ◌≤◌, ℕ, ◌+◌, List, [], ◌∷◌, ◌++◌, length, take, drop, sym, ap, arith, append_assoc, append-nil}
use Rattle.std.specs.Prelude.{slice_index_or, slice_set}
use Rattle.std.proofs.lemmas.List.{at_drop_more, drop_all, drop-set-lt, take_all, take_more_set}
use Rattle.shim_code.specs.declared.machine_instr.MachineInstr.{MachineInstr}
use Rattle.shim_code.specs.MachineCode.{begun, numbered, with_number}

-- the first instruction of those left is numbered
pub one_more : (xs : List MachineInstr) (i n after : ℕ) (x y : MachineInstr) → i < length xs → x ≡ slice_index_or xs i x → y ≡ with_number n x → after ≡ n + begun x
    → take (i + 1) (slice_set xs i y) ++ numbered after (drop (i + 1) (slice_set xs i y)) ≡ take i xs ++ numbered n (drop i xs)
one_more xs i n after x y lt at is counted =
    let on : i < i + 1 = omega arith in
    let rest = drop (i + 1) xs in
    ap (λ l. l ++ numbered after (drop (i + 1) (slice_set xs i y))) (take_more_set xs i y lt)
    ∙ ap (λ l. (take i xs ++ y ∷ []) ++ numbered after l) (drop-set-lt (i + 1) xs i y on)
    ∙ append_assoc (take i xs) (y ∷ []) (numbered after rest)
    ∙ ap (λ z. take i xs ++ z ∷ numbered after rest) is
    ∙ ap (λ m. take i xs ++ with_number n x ∷ numbered m rest) counted
    ∙ ap (λ z. take i xs ++ numbered n (z ∷ rest)) at
    ∙ ap (λ l. take i xs ++ l) (sym (at_drop_more (numbered n) xs i x lt))

-- none is left
pub all_numbered : (xs whole : List MachineInstr) (i n : ℕ) → length xs ≤ i → take i xs ++ numbered n (drop i xs) ≡ whole → xs ≡ whole
all_numbered xs whole i n le e =
    sym (append-nil xs)
    ∙ ap (λ l. l ++ []) (sym (take_all i xs le))
    ∙ ap (λ l. take i xs ++ numbered n l) (sym (drop_all i xs le))
    ∙ e
