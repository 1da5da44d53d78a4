-- What the list of what was done says of the words and of the pieces, and that each step of a slot keeps it.
use Rattle.std.proofs.Common.{◌≡◌, ◌≢◌, ◌⊎◌, inl, inr, ⊎_elim, ℕ, ◌+◌, ◌%◌, ◌<◌, List, [], ◌∷◌, refl, sym, ap, ◌∙◌, subst, arith, Option, Some}
use Rattle.std.proofs.lemmas.Option.{same_Some}
use mathlib.Core.Logic.{dite}
use native.Mathlib.Decide.{ℕ_discrete}
use Rattle.shim_board.specs.Counting.{one_below}
use Rattle.shim_board.specs.Run.{SlotEntry, passed}
use Rattle.shim_base.specs.Lists.{IsAmong}

abbrev pub entry : {T : Type 0} → ℕ → ℕ → T → SlotEntry T
entry k x y = record { slot = k; word = x; value = y }

pub same_entry : {T : Type 0} (j k z x : ℕ) (y y' : T) → j ≡ k → z ≡ x → y ≡ y' → entry j z y ≡ entry k x y'
same_entry j k z x y y' a b d = λ i. entry (a i) (b i) (d i)

-- what was done is counted
among_passed : {T : Type 0} (es : List (SlotEntry T)) (k x : ℕ) (y : T) → IsAmong (entry k x y) es → 0 < passed k x es
among_passed [] k x y h = absurd h
among_passed (e ∷ es) k x y h = ⊎_elim
    (λ (is : entry k x y ≡ e). let a : k ≡ e.slot = ap (λ z. z.slot) is in let b : x ≡ e.word = ap (λ z. z.word) is in omega arith)
    (λ later. let r = among_passed es k x y later in omega arith) h

-- Each word below the present one was passed once. A piece went in at an even word and came out at the odd one after it, and is in the slot in between
pub record Logged {T : Type 0} (w : ℕ → ℕ) (piece : ℕ → Option T) (done : List (SlotEntry T)) : Type 0 where
  pub went : (k x : ℕ) → passed k x done ≡ one_below x (w k)
  pub in_slot : (k x : ℕ) → x % 2 ≡ 0 → w k ≡ x + 1 → (y : T) × (piece k ≡ Some y) × IsAmong (entry k x y) done
  pub came_out : (k x : ℕ) (y : T) → x % 2 ≡ 0 → IsAmong (entry k (x + 1) y) done → IsAmong (entry k x y) done
  pub goes : (k x : ℕ) (y : T) → x % 2 ≡ 0 → IsAmong (entry k x y) done → IsAmong (entry k (x + 1) y) done ⊎ ((w k ≡ x + 1) × (piece k ≡ Some y))
  pub next : (k x : ℕ) (y : T) → x % 2 ≡ 1 → IsAmong (entry k x y) done → (w k ≡ x + 1) ⊎ ((z : T) × IsAmong (entry k (x + 1) z) done)

module _ {T : Type 0} (w w' : ℕ → ℕ) (piece piece' : ℕ → Option T) (done : List (SlotEntry T)) (r : Logged w piece done) (k x : ℕ) (y : T) (was : w k ≡ x) (now : w' k ≡ x + 1)
    (words_else : (j : ℕ) → j ≢ k → w' j ≡ w j) (pieces_else : (j : ℕ) → j ≢ k → piece' j ≡ piece j) where
  counted : (j z : ℕ) → passed j z (entry k x y ∷ done) ≡ one_below z (w' j)
  counted j z = let n = r.went j z in dite (ℕ_discrete j k)
      (λ (e : j ≡ k). let a : w j ≡ x = ap w e ∙ was in let b : w' j ≡ x + 1 = ap w' e ∙ now in omega arith)
      (λ other. let a = words_else j other in omega arith)

  -- a piece goes in
  pub goes_in : x % 2 ≡ 0 → piece' k ≡ Some y → Logged w' piece' (entry k x y ∷ done)
  goes_in even in_ = record {
    went = counted;
    in_slot = λ j z z_even at. dite (ℕ_discrete j k)
        (λ (e : j ≡ k). let b : w' j ≡ x + 1 = ap w' e ∙ now in let same : z ≡ x = omega arith in (y, ap piece' e ∙ in_, inl (same_entry j k z x y y e same refl)))
        (λ other. let a = words_else j other in let s = r.in_slot j z z_even (sym a ∙ at) in (s.0, pieces_else j other ∙ s.1, inr s.2));
    came_out = λ j z y' z_even h. ⊎_elim
        (λ (is : entry j (z + 1) y' ≡ entry k x y). absurd (let b : z + 1 ≡ x = ap (λ e. e.word) is in omega arith))
        (λ later. inr (r.came_out j z y' z_even later)) h;
    goes = λ j z y' z_even h. ⊎_elim
        (λ (is : entry j z y' ≡ entry k x y). let a : j ≡ k = ap (λ e. e.slot) is in let b : z ≡ x = ap (λ e. e.word) is in let d : y' ≡ y = ap (λ e. e.value) is in
        inr (ap w' a ∙ now ∙ (let n : x + 1 ≡ z + 1 = omega arith in n), ap piece' a ∙ in_ ∙ ap Some (sym d)))
        (λ later. ⊎_elim (λ out. inl (inr out))
        (λ (s : (w j ≡ z + 1) × (piece j ≡ Some y')). dite (ℕ_discrete j k)
        (λ (e : j ≡ k). absurd (let a : w j ≡ x = ap w e ∙ was in let b = s.0 in omega arith))
        (λ other. inr (words_else j other ∙ s.0, pieces_else j other ∙ s.1)))
        (r.goes j z y' z_even later)) h;
    next = λ j z y' z_odd h. ⊎_elim
        (λ (is : entry j z y' ≡ entry k x y). absurd (let b : z ≡ x = ap (λ e. e.word) is in omega arith))
        (λ later. ⊎_elim
        (λ (at : w j ≡ z + 1). dite (ℕ_discrete j k)
        (λ (e : j ≡ k). let a : w j ≡ x = ap w e ∙ was in let b : z + 1 ≡ x = sym at ∙ a in inr (y, inl (same_entry j k (z + 1) x y y e b refl)))
        (λ other. inl (words_else j other ∙ at)))
        (λ (n : (z' : T) × IsAmong (entry j (z + 1) z') done). inr (n.0, inr n.1))
        (r.next j z y' z_odd later)) h;
  }

  -- the piece that the slot has comes out
  pub goes_out : x % 2 ≡ 1 → piece k ≡ Some y → Logged w' piece' (entry k x y ∷ done)
  goes_out odd had = record {
    went = counted;
    in_slot = λ j z z_even at. dite (ℕ_discrete j k)
        (λ (e : j ≡ k). absurd (let b : w' j ≡ x + 1 = ap w' e ∙ now in omega arith))
        (λ other. let a = words_else j other in let s = r.in_slot j z z_even (sym a ∙ at) in (s.0, pieces_else j other ∙ s.1, inr s.2));
    came_out = λ j z y' z_even h. ⊎_elim
        (λ (is : entry j (z + 1) y' ≡ entry k x y). let a : j ≡ k = ap (λ e. e.slot) is in let b : z + 1 ≡ x = ap (λ e. e.word) is in let d : y' ≡ y = ap (λ e. e.value) is in
        let s = r.in_slot j z z_even (ap w a ∙ was ∙ sym b) in let same : s.0 ≡ y' = same_Some s.0 y' (sym s.1 ∙ ap piece a ∙ had ∙ ap Some (sym d)) in
        inr (subst (λ v. IsAmong (entry j z v) done) same s.2))
        (λ later. inr (r.came_out j z y' z_even later)) h;
    goes = λ j z y' z_even h. ⊎_elim
        (λ (is : entry j z y' ≡ entry k x y). absurd (let b : z ≡ x = ap (λ e. e.word) is in omega arith))
        (λ later. ⊎_elim (λ out. inl (inr out))
        (λ (s : (w j ≡ z + 1) × (piece j ≡ Some y')). dite (ℕ_discrete j k)
        (λ (e : j ≡ k). let b : z + 1 ≡ x = sym s.0 ∙ ap w e ∙ was in let same : y' ≡ y = same_Some y' y (sym s.1 ∙ ap piece e ∙ had) in inl (inl (same_entry j k (z + 1) x y' y e b same)))
        (λ other. inr (words_else j other ∙ s.0, pieces_else j other ∙ s.1)))
        (r.goes j z y' z_even later)) h;
    next = λ j z y' z_odd h. ⊎_elim
        (λ (is : entry j z y' ≡ entry k x y). let a : j ≡ k = ap (λ e. e.slot) is in let b : z ≡ x = ap (λ e. e.word) is in inl (ap w' a ∙ now ∙ (let n : x + 1 ≡ z + 1 = omega arith in n)))
        (λ later. ⊎_elim
        (λ (at : w j ≡ z + 1). dite (ℕ_discrete j k)
        (λ (e : j ≡ k). absurd (let a : w j ≡ x = ap w e ∙ was in omega arith))
        (λ other. inl (words_else j other ∙ at)))
        (λ (n : (z' : T) × IsAmong (entry j (z + 1) z') done). inr (n.0, inr n.1))
        (r.next j z y' z_odd later)) h;
  }
