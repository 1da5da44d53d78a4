-- The index of entries by path, and the ring by it.
use Rattle.std.proofs.Common.{◌≡◌, ◌≢◌, ◌↔◌, ℕ, zero, suc, ◌+◌, ◌<◌, ◌≤◌, Bool, true, false, IsTrue, Option, Some, None, List, [], ◌∷◌, cond, drop, get_or, length, refl, sym, ap, subst, ◌∙◌, arith, ◌⊎◌, inl, inr}
use Rattle.std.specs.Prelude.{slice_get, is_some}
use Rattle.std.specs.Option.{option_map}
use Rattle.std.specs.BTreeMap.{BTreeMap, get, is_at}
use Rattle.std.proofs.lemmas.List.{drop_more}
use Rattle.std.proofs.lemmas.Option.{slice_get_within}
use Rattle.shim_base.specs.Paths.{Path, same_path, path_order}
use Rattle.shim_base.specs.PathLaws.{same_path_ties}
use Rattle.shim_base.proofs.Facts.{some_same, none_some}
use Rattle.shim_base.proofs.SamePaths.{same_path_refl, same_path_is}
use Rattle.shim_semantics.specs.Nodes.{or_else}
use Rattle.shim_waits.specs.Cycles.{by_of, WaitInTurn}
use Rattle.shim_waits.specs.Holds.{IsRing}
use Rattle.shim_waits.specs.Judging.{first_place, IsEntryIndex}
use Rattle.shim_waits.specs.declared.explained.Wait.{Wait}
use Rattle.shim_waits.proofs.Judging.{isnt_so, no_entry, entry_by}

-- ---- it is made entry by entry

-- what is in the map, and what comes of the entries that are left
abbrev pub IndexesRest : ℕ → BTreeMap Path ℕ → List Wait → Type 0
IndexesRest i index ws = (p : Path) → or_else (get path_order index p) (option_map (λ n. i + n) (first_place (drop i ws) p)) ≡ first_place ws p

one_on : (i : ℕ) (x : Option ℕ) → option_map (λ n. i + 1 + n) x ≡ option_map (λ n. i + n) (option_map suc x)
one_on i None = refl
one_on i (Some n) = let w : i + 1 + n ≡ i + suc n = omega arith in ap Some w

-- the path has an entry already
kept_one : (i : ℕ) (b : Bool) (x y : Option ℕ) → (b ≡ true → is_some x ≡ true) → or_else x (option_map (λ n. i + 1 + n) y) ≡ or_else x (option_map (λ n. i + n) (cond b (Some 0) (option_map suc y)))
kept_one i b (Some x) y h = refl
kept_one i true None y h = absurd (let w = h refl in cc)
kept_one i false None y h = one_on i y

-- or is put in
put_one : (i : ℕ) (b : Bool) (x y : Option ℕ) → (b ≡ true → is_some x ≡ false) → or_else (cond b (Some i) x) (option_map (λ n. i + 1 + n) y) ≡ or_else x (option_map (λ n. i + n) (cond b (Some 0) (option_map suc y)))
put_one i true (Some x) y h = absurd (let w = h refl in cc)
put_one i true None y h = let w : i ≡ i + 0 = omega arith in ap Some w
put_one i false (Some x) y h = refl
put_one i false None y h = one_on i y

module _ (i : ℕ) (index behind : BTreeMap Path ℕ) (ws : List Wait) (w : Wait) (d : drop i ws ≡ w ∷ drop (i + 1) ws) where
  rest_of : (p : Path) → option_map (λ n. i + n) (cond (same_path w.path p) (Some 0) (option_map suc (first_place (drop (i + 1) ws) p))) ≡ option_map (λ n. i + n) (first_place (drop i ws) p)
  rest_of p = ap (λ z. option_map (λ n. i + n) (first_place z p)) (sym d)

  pub indexed_before : is_some (get path_order index w.path) ≡ true → IndexesRest i index ws → IndexesRest (i + 1) index ws
  indexed_before h rest p =
      kept_one i (same_path w.path p) (get path_order index p) (first_place (drop (i + 1) ws) p) (λ y. ap (λ z. is_some (get path_order index z)) (sym (same_path_is w.path p y)) ∙ h)
      ∙ (ap (or_else (get path_order index p)) (rest_of p) ∙ rest p)

  pub indexed_one : (k : Path) → k ≡ w.path → is_some (get path_order index w.path) ≡ false → ((q : Path) → get path_order behind q ≡ cond (is_at (path_order k) q) (Some i) (get path_order index q)) → IndexesRest i index ws → IndexesRest (i + 1) behind ws
  indexed_one k is h put rest p =
      ap (λ z. or_else z (option_map (λ n. i + 1 + n) (first_place (drop (i + 1) ws) p))) (put p ∙ ((λ t. cond (is_at (path_order (is t)) p) (Some i) (get path_order index p)) ∙ ap (λ b. cond b (Some i) (get path_order index p)) (sym (same_path_ties w.path p))))
      ∙ (put_one i (same_path w.path p) (get path_order index p) (first_place (drop (i + 1) ws) p) (λ y. ap (λ z. is_some (get path_order index z)) (sym (same_path_is w.path p y)) ∙ h)
      ∙ (ap (or_else (get path_order index p)) (rest_of p) ∙ rest p))

or_none : {A : Type 0} (x : Option A) → or_else x None ≡ x
or_none None = refl
or_none (Some x) = refl

-- ---- what is found by it

module _ (index : BTreeMap Path ℕ) (p : Path) (place : ℕ) where
  pub none_first : None ≡ get path_order index p → (ws : List Wait) → IsEntryIndex index ws → IsTrue false ↔ (first_place ws p ≡ Some place)
  none_first e ws is = isnt_so (λ h. none_some place (e ∙ (is p ∙ h)))

  pub found_first : (n : ℕ) (b : Bool) → Some n ≡ get path_order index p → IsTrue b ↔ (n ≡ place) → (ws : List Wait) → IsEntryIndex index ws → IsTrue b ↔ (first_place ws p ≡ Some place)
  found_first n b e h ws is = (
    λ t. sym (e ∙ is p) ∙ ap Some (h.0 t),
    λ f. h.1 (some_same n place (e ∙ (is p ∙ f))),
  )

module _ (index : BTreeMap Path ℕ) (ws : List Wait) (is : IsEntryIndex index ws) (p q : Path) where
  pub nobody_waits : None ≡ get path_order index p → IsTrue false ↔ (by_of ws p ≡ Some q)
  nobody_waits e = isnt_so (λ h. none_some q (sym (no_entry ws p (sym (e ∙ is p))) ∙ h))

  pub past_waits : (n : ℕ) → Some n ≡ get path_order index p → length ws ≤ n → IsTrue false ↔ (by_of ws p ≡ Some q)
  past_waits n e h = absurd (let x = entry_by ws p n (sym (e ∙ is p)) in let k = slice_get_within ws n x.0 x.1 in omega (arith, h, k))

  pub one_waits : (n : ℕ) (w : Wait) (b : Bool) → Some n ≡ get path_order index p → slice_get ws n ≡ Some w → b ≡ same_path w.by q → IsTrue b ↔ (by_of ws p ≡ Some q)
  one_waits n w b e there h =
      let x = entry_by ws p n (sym (e ∙ is p)) in
      let by : by_of ws p ≡ Some w.by = x.3 ∙ ap (λ z. Some z.by) (some_same x.0 w (sym x.1 ∙ there)) in (
        λ t. by ∙ ap Some (same_path_is w.by q (sym h ∙ t)),
        λ f. h ∙ (ap (λ z. same_path z q) (some_same w.by q (sym by ∙ f)) ∙ same_path_refl q),
      )

-- ---- first entries

abbrev pub AreFirstTo : ℕ → List Wait → Type 0
AreFirstTo i ws = (j : ℕ) (w : Wait) → j < i → slice_get ws j ≡ Some w → first_place ws w.path ≡ Some j

last_or_before : (i j : ℕ) → j < i + 1 → (j ≡ i) ⊎ (j < i)
last_or_before zero zero h = inl refl
last_or_before zero (suc j) h = absurd (omega (arith, h))
last_or_before (suc i) zero h = inr (omega arith)
last_or_before (suc i) (suc j) h = elim (last_or_before i j (omega (arith, h))) [ inl e ↦ inl (ap suc e) | inr e ↦ inr (omega (arith, e)) ]

-- ---- the ring

-- from the path of a place on, as far as the first path
abbrev pub LeadsFrom : List Wait → List Path → ℕ → Type 0
LeadsFrom ws cycle i = WaitInTurn ws (get_or cycle i []) (drop (i + 1) cycle) (get_or cycle 0 [])

module _ (ws : List Wait) (cycle : List Path) (i : ℕ) where
  step_to : i + 1 < length cycle → LeadsFrom ws cycle i → (by_of ws (get_or cycle i []) ≡ Some (get_or cycle (i + 1) [])) × LeadsFrom ws cycle (i + 1)
  step_to h x = subst (λ z. WaitInTurn ws (get_or cycle i []) z (get_or cycle 0 [])) (drop_more cycle (i + 1) [] h) x

  step_back : i + 1 < length cycle → by_of ws (get_or cycle i []) ≡ Some (get_or cycle (i + 1) []) → LeadsFrom ws cycle (i + 1) → LeadsFrom ws cycle i
  step_back h e x = subst (λ z. WaitInTurn ws (get_or cycle i []) z (get_or cycle 0 [])) (sym (drop_more cycle (i + 1) [] h)) (e, x)

  pub leads_on : i + 1 < length cycle → by_of ws (get_or cycle i []) ≡ Some (get_or cycle (i + 1) []) → LeadsFrom ws cycle i ↔ IsRing ws cycle → LeadsFrom ws cycle (i + 1) ↔ IsRing ws cycle
  leads_on h e rest = (λ x. rest.0 (step_back h e x), λ r. (step_to h (rest.1 r)).1)

-- ---- whether a path has an entry

module _ (index : BTreeMap Path ℕ) (ws : List Wait) (is : IsEntryIndex index ws) (p q : Path) (same : p ≡ q) where
  pub has_entry : is_some (get path_order index p) ≡ true → first_place ws q ≢ None
  has_entry h e = let w = sym h ∙ ap is_some (ap (get path_order index) same ∙ (is q ∙ e)) in cc

  pub has_no_entry : is_some (get path_order index p) ≡ false → first_place ws q ≢ None → ⊥
  has_no_entry h f = f (nothing (first_place ws q) (ap is_some (sym (ap (get path_order index) same ∙ is q)) ∙ h))
    where
      nothing : (x : Option ℕ) → is_some x ≡ false → x ≡ None
      nothing None e = refl
      nothing (Some n) e = absurd cc
