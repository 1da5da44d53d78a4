-- What a lane's list of takes says of its pieces.
use Rattle.std.proofs.Common.{◌≡◌, ◌≢◌, inl, inr, ⊎_elim, ℕ, zero, suc, ◌+◌, ◌<◌, ◌≤◌, nat_lt, cond, Bool, true, false, List, [], ◌∷◌, ◌++◌, length, refl, sym, ap, ◌∙◌, subst, append_assoc, set, get_or, ◌-◌, arith}
use Rattle.std.proofs.lemmas.Bool.{ltb-true, ltb-false, le-ltb}
use mathlib.Core.Option.{some, some-injective, some-ne-none}
use lib.ListN.{get_elem?}
use Rattle.shim_steal.specs.declared.view.View.{View}
use Rattle.shim_steal.specs.declared.other_deque.OtherDeque.{OtherDeque}
use Rattle.shim_steal.specs.Counting.{numbered}
use Rattle.shim_base.specs.Lists.{IsAmong}
use Rattle.shim_steal.proofs.Lists.{among-either, head_same, tail_same, not_empty, at-place}
use Rattle.crossbeam_deque.specs.Handles.{view}
use Rattle.shim_steal.specs.Places.{lane_at, deque_index, from_home}
use Rattle.shim_steal.specs.Views.{after_take}
use Rattle.shim_steal.specs.Lanes.{takes_from}

-- the own lane is left out
pub lane_at-other : (home place : ℕ) → lane_at home place ≢ home
lane_at-other home place = by (nat_lt place home) refl
  where
    by : (b : Bool) → nat_lt place home ≡ b → cond b place (place + 1) ≢ home
    by true is e = let l = ltb-true place home is in omega arith
    by false is e = let l = ltb-false place home is in omega arith

module _ {T : Type 0} where
  -- the piece after the first ones has the next number, and the first ones have lower ones
  pub numbered-next : (n : ℕ) (xs : List T) (ps qs : List (ℕ × T)) (b : ℕ × T) → numbered n xs ≡ ps ++ b ∷ qs → (b.0 ≡ n + length ps) × (get_elem? xs (length ps) ≡ some b.1) × ((p : ℕ × T) → IsAmong p ps → p.0 < n + length ps)
  numbered-next n [] [] qs b e = absurd (not_empty b qs e)
  numbered-next n [] (a ∷ ps) qs b e = absurd (not_empty a (ps ++ b ∷ qs) e)
  numbered-next n (x ∷ xs) [] qs b e = let h = head_same (n, x) b (numbered (n + 1) xs) qs e in ((let z : n ≡ b.0 = ap (λ p. p.0) h in omega arith), ap (λ p. some p.1) h, λ p z. absurd z)
  numbered-next n (x ∷ xs) (a ∷ ps) qs b e = let h = head_same (n, x) a (numbered (n + 1) xs) (ps ++ b ∷ qs) e in let r = numbered-next (n + 1) xs ps qs b (tail_same (n, x) a (numbered (n + 1) xs) (ps ++ b ∷ qs) e) in
      ((let z = r.0 in omega arith), r.1, λ p z. ⊎_elim (λ (is : p ≡ a). let l : n ≡ a.0 = ap (λ q. q.0) h in let m : p.0 ≡ a.0 = ap (λ q. q.0) is in omega arith) (λ (t : IsAmong p ps). let l = r.2 p t in omega arith) z)

  pub from_home-append : (home : ℕ) (xs ys : List (ℕ × T)) → from_home home (xs ++ ys) ≡ from_home home xs ++ from_home home ys
  from_home-append home [] ys = refl
  from_home-append home (x ∷ xs) ys = ap (λ l. (home, x) ∷ l) (from_home-append home xs ys)

  pub into-home : (home : ℕ) (p : ℕ × T) (ps : List (ℕ × T)) → IsAmong p ps → IsAmong (home, p) (from_home home ps)
  into-home home p [] h = absurd h
  into-home home p (q ∷ qs) h = ⊎_elim (λ (e : p ≡ q). inl (ap (λ z. (home, z)) e)) (λ t. inr (into-home home p qs t)) h

  pub out-home : (home other : ℕ) (p : ℕ × T) (ps : List (ℕ × T)) → IsAmong (home, p) (from_home other ps) → (home ≡ other) × IsAmong p ps
  out-home home other p [] h = absurd h
  out-home home other p (q ∷ qs) h = ⊎_elim (λ (e : (home, p) ≡ (other, q)). (ap (λ z. z.0) e, inl (ap (λ z. z.1) e))) (λ t. let r = out-home home other p qs t in (r.0, inr r.1)) h

  pub not-by-others : (home place : ℕ) (p : ℕ × T) (ts : List (OtherDeque T)) → IsAmong (home, p) (takes_from home place ts) → ⊥
  not-by-others home place p [] h = h
  not-by-others home place p (t ∷ ts) h = ⊎_elim (λ a. lane_at-other home place (sym (out-home home (lane_at home place) p _ a).0)) (λ a. not-by-others home (place + 1) p ts a) (among-either (home, p) _ (takes_from home (place + 1) ts) h)

-- what a pop of the own deque says of the lane's lists
module _ {T : Type 0} where
  pub took-own : (home : ℕ) (old new taken : List (ℕ × T)) (others : List (ℕ × (ℕ × T))) (number : ℕ) (value : T) → new ≡ taken ++ (number, value) ∷ [] → old ≡ taken
      → (before : List (ℕ × (ℕ × T))) × (behind : List (ℕ × (ℕ × T))) × (from_home home old ++ others ≡ before ++ behind) × (from_home home new ++ others ≡ before ++ (home, (number, value)) ∷ behind)
  took-own home old new taken others number value is same = (
    from_home home taken,
    others,
    ap (λ l. from_home home l ++ others) same,
    ap (λ l. from_home home l ++ others) is ∙ ap (λ l. l ++ others) (from_home-append home taken ((number, value) ∷ [])) ∙ append_assoc (from_home home taken) ((home, (number, value)) ∷ []) others,
  )

-- what a steal says of the lane's lists
module _ {T : Type 0} where
  -- one piece more stands in the list
  abbrev pub IsOneMore : ℕ → ℕ → T → List (ℕ × (ℕ × T)) → List (ℕ × (ℕ × T)) → Type 0
  IsOneMore home number value old new = (before : List (ℕ × (ℕ × T))) × (behind : List (ℕ × (ℕ × T))) × (old ≡ before ++ behind) × (new ≡ before ++ (home, (number, value)) ∷ behind)

  pub more-behind : (home number : ℕ) (value : T) (xs old new : List (ℕ × (ℕ × T))) → IsOneMore home number value old new → IsOneMore home number value (xs ++ old) (xs ++ new)
  more-behind home number value xs old new m = (xs ++ m.0, m.1, ap (λ l. xs ++ l) m.2 ∙ sym (append_assoc xs m.0 m.1), ap (λ l. xs ++ l) m.3 ∙ sym (append_assoc xs m.0 ((home, (number, value)) ∷ m.1)))

  pub took-other : (home place : ℕ) (ts : List (OtherDeque T)) (i : ℕ) (t u : OtherDeque T) (number : ℕ) (value : T) → get_elem? ts i ≡ some t → (view u.pass).taken ≡ (view t.pass).taken ++ (number, value) ∷ []
      → IsOneMore (lane_at home (place + i)) number value (takes_from home place ts) (takes_from home place (set ts i u))
  took-other home place [] i t u number value at is = absurd (some-ne-none t (sym at))
  took-other home place (s ∷ ts) zero t u number value at is = let here : place ≡ place + 0 = omega arith in subst (λ p. IsOneMore (lane_at home p) number value (takes_from home place (s ∷ ts)) (takes_from home place (u ∷ ts))) here
      (took-own (lane_at home place) (view s.pass).taken (view u.pass).taken (view s.pass).taken (takes_from home (place + 1) ts) number value (is ∙ ap (λ (z : OtherDeque T). (view z.pass).taken ++ (number, value) ∷ []) (sym (some-injective s t at))) refl)
  took-other home place (s ∷ ts) (suc i) t u number value at is = let here : place + 1 + i ≡ place + suc i = omega arith in subst (λ p. IsOneMore (lane_at home p) number value (takes_from home place (s ∷ ts)) (takes_from home place (s ∷ set ts i u))) here
      (more-behind _ number value (from_home (lane_at home place) (view s.pass).taken) _ _ (took-other home (place + 1) ts i t u number value at is))

-- at the place of another lane stands its deque
pub place-goes : (home from : ℕ) → from ≢ home → lane_at home (deque_index home from) ≡ from
place-goes home from other = by (nat_lt from home) refl
  where
    again : (b : Bool) (place : ℕ) → nat_lt place home ≡ b → b ≡ true → lane_at home place ≡ place
    again b place is e = ap (λ c. cond c place (place + 1)) (is ∙ e)

    past : (place : ℕ) → nat_lt place home ≡ false → lane_at home place ≡ place + 1
    past place is = ap (λ c. cond c place (place + 1)) is

    by : (b : Bool) → nat_lt from home ≡ b → lane_at home (cond b from (from - 1)) ≡ from
    by true is = again true from is refl
    by false is = let l = ltb-false from home is in past (from - 1) (le-ltb (from - 1) home (omega arith)) ∙ (let e : from - 1 + 1 ≡ from = omega arith in e)

pub place-inside : (home from n : ℕ) → from ≢ home → from < n + 1 → home ≤ n → deque_index home from < n
place-inside home from n other a b = by (nat_lt from home) refl
  where
    by : (d : Bool) → nat_lt from home ≡ d → cond d from (from - 1) < n
    by true is = let l = ltb-true from home is in omega arith
    by false is = let l = ltb-false from home is in omega arith

module _ {T : Type 0} where
  -- the view stays, and so does the list of takes
  pub same-takes : (home place : ℕ) (ts : List (OtherDeque T)) (i : ℕ) (t u : OtherDeque T) → get_elem? ts i ≡ some t → view u.pass ≡ view t.pass → takes_from home place (set ts i u) ≡ takes_from home place ts
  same-takes home place [] i t u at is = refl
  same-takes home place (s ∷ ts) zero t u at is = ap (λ (v : View T). from_home (lane_at home place) v.taken ++ takes_from home (place + 1) ts) (is ∙ ap (λ (z : OtherDeque T). view z.pass) (sym (some-injective s t at)))
  same-takes home place (s ∷ ts) (suc i) t u at is = ap (λ l. from_home (lane_at home place) (view s.pass).taken ++ l) (same-takes home (place + 1) ts i t u at is)

  pub place-there : (home from : ℕ) (ts : List (OtherDeque T)) (i : ℕ) (t : OtherDeque T) → i ≡ deque_index home from → (from ≢ home) × (from < length ts + 1) → home ≤ length ts → t ≡ get_or ts i t → get_elem? ts i ≡ some t
  place-there home from ts i t is may among here = at-place ts i t (subst (λ p. p < length ts) (sym is) (place-inside home from (length ts) may.0 may.1 among)) here

  -- a piece that is taken at the place of another lane is of that lane
  pub stole : (home from : ℕ) (own : List (ℕ × (ℕ × T))) (ts : List (OtherDeque T)) (i : ℕ) (t u : OtherDeque T) (number : ℕ) (value : T) → i ≡ deque_index home from → from ≢ home → get_elem? ts i ≡ some t → (view u.pass) ≡ after_take (view t.pass) ((number, value) ∷ [])
      → IsOneMore from number value (own ++ takes_from home 0 ts) (own ++ takes_from home 0 (set ts i u))
  stole home from own ts i t u number value is other at took = more-behind from number value own _ _ (subst (λ h. IsOneMore h number value (takes_from home 0 ts) (takes_from home 0 (set ts i u))) (ap (lane_at home) (let z : 0 + i ≡ i = omega arith in z) ∙ ap (lane_at home) is ∙ place-goes home from other)
      (took-other home 0 ts i t u number value at (ap (λ (v : View T). v.taken) took)))
