-- Two names that change places: no two identifiers are mixed up, and where one of them is new this replaces the other.
use Rattle.std.proofs.Common.{ℕ, ◌≡◌, ◌∙◌, ◌⊎◌, inl, inr, List, [], ◌∷◌, Bool, true, false, refl, sym, ap, if◌then◌else◌}
use Rattle.std.specs.Prelude.{codes}
use Rattle.std.specs.Str.{bytes_eq}
use Rattle.std.proofs.lemmas.Bool.{cases_Bool}
use Rattle.std.proofs.lemmas.Slice.Eq.{bytes_eq-Decides}
use Rattle.shim_syntax.specs.Terminals.{new_word}
use Rattle.shim_syntax.specs.Distinct.{IsNew}
use Rattle.shim_syntax.specs.Names.{Texts}
use Rattle.shim_up.specs.Renaming.{Renaming}
use Rattle.shim_up.specs.Up.{fresh_name, replaced}
use Rattle.shim_laws_up.proofs.Agreeing.{Agree}

equal : (x y : List ℕ) → x ≡ y → bytes_eq x y ≡ true
equal x y = (bytes_eq-Decides x y).1

unequal_by : (x y : List ℕ) → (x ≡ y → ⊥) → (bytes_eq x y ≡ true) ⊎ (bytes_eq x y ≡ false) → bytes_eq x y ≡ false
unequal_by x y n (inl e) = absurd (n ((bytes_eq-Decides x y).0 e))
unequal_by x y n (inr e) = e

unequal : (x y : List ℕ) → (x ≡ y → ⊥) → bytes_eq x y ≡ false
unequal x y n = unequal_by x y n (cases_Bool (bytes_eq x y))

-- two tests that pass together are one
same_test : (b c : Bool) → (b ≡ true → c ≡ true) → (c ≡ true → b ≡ true) → b ≡ c
same_test true c h k = sym (h refl)
same_test false true h k = k refl
same_test false false h k = refl

module _ (v : List ℕ) where
  -- the new word and that name change places
  abbrev pub swapped : Renaming
  swapped x = if bytes_eq x new_word then v else (if bytes_eq x v then new_word else x)

  swapped_new : (x : List ℕ) → bytes_eq x new_word ≡ true → swapped x ≡ v
  swapped_new x e = rw e refl

  swapped_name : (x : List ℕ) → bytes_eq x new_word ≡ false → bytes_eq x v ≡ true → swapped x ≡ new_word
  swapped_name x e d = rw (e, d) refl

  swapped_other : (x : List ℕ) → bytes_eq x new_word ≡ false → bytes_eq x v ≡ false → swapped x ≡ x
  swapped_other x e d = rw (e, d) refl

  swapped_back_from_name : (bytes_eq v new_word ≡ true) ⊎ (bytes_eq v new_word ≡ false) → swapped v ≡ new_word
  swapped_back_from_name (inl e) = swapped_new v e ∙ (bytes_eq-Decides v new_word).0 e
  swapped_back_from_name (inr e) = swapped_name v e (equal v v refl)

  swapped_back_by : (x : List ℕ) → (bytes_eq x new_word ≡ true) ⊎ (bytes_eq x new_word ≡ false) → (bytes_eq x v ≡ true) ⊎ (bytes_eq x v ≡ false) → swapped (swapped x) ≡ x
  swapped_back_by x (inl e) d = ap swapped (swapped_new x e) ∙ swapped_back_from_name (cases_Bool (bytes_eq v new_word)) ∙ sym ((bytes_eq-Decides x new_word).0 e)
  swapped_back_by x (inr e) (inl d) = ap swapped (swapped_name x e d) ∙ swapped_new new_word (equal new_word new_word refl) ∙ sym ((bytes_eq-Decides x v).0 d)
  swapped_back_by x (inr e) (inr d) = ap swapped (swapped_other x e d) ∙ swapped_other x e d

  swapped_back : (x : List ℕ) → swapped (swapped x) ≡ x
  swapped_back x = swapped_back_by x (cases_Bool (bytes_eq x new_word)) (cases_Bool (bytes_eq x v))

  -- no two names become one, and none becomes two
  pub keeps_apart : (x y : List ℕ) → bytes_eq (swapped x) (swapped y) ≡ bytes_eq x y
  keeps_apart x y = same_test (bytes_eq (swapped x) (swapped y)) (bytes_eq x y)
      (λ e. equal x y (sym (swapped_back x) ∙ ap swapped ((bytes_eq-Decides (swapped x) (swapped y)).0 e) ∙ swapped_back y))
      (λ e. equal (swapped x) (swapped y) (ap swapped ((bytes_eq-Decides x y).0 e)))

  same_unless_name : (x : List ℕ) → bytes_eq x v ≡ false → (bytes_eq x new_word ≡ true) ⊎ (bytes_eq x new_word ≡ false) → replaced v x ≡ swapped x
  same_unless_name x d (inl e) = rw e refl
  same_unless_name x d (inr e) = rw (e, d) refl

  -- where the name is new, both replace each name by the same one
  pub agree_without_name : (xs : Texts) → IsNew v xs → Agree (replaced v) swapped xs
  agree_without_name [] h = tt
  agree_without_name (x ∷ xs) h = (same_unless_name x (unequal x v h.0) (cases_Bool (bytes_eq x new_word)), agree_without_name xs h.1)

-- `main` is neither
pub main_stays : (k : ℕ) → swapped (fresh_name k) (codes "main") ≡ codes "main"
main_stays k = swapped_other (fresh_name k) (codes "main") refl refl
