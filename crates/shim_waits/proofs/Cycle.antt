-- Where each process waits for another one there is one cycle of waits to which one comes from the first.
use Rattle.std.proofs.Common.{◌≡◌, ◌≢◌, ◌≤◌, ℕ, zero, suc, true, Some, cond, map, List, [], ◌∷◌, ◌++◌, ◌⊎◌, inl, inr, length, refl, sym, ap, subst, ◌∙◌, arith}
use Rattle.std.specs.declared.cmp.Ordering.TheVariants.{Less}
use Rattle.shim_base.specs.Paths.{Path, same_path, path_order}
use Rattle.shim_base.proofs.Facts.{some_same, true_or_false, either_holds, or_left, or_right, choose}
use Rattle.shim_base.proofs.SamePaths.{same_path_refl, same_path_is}
use Rattle.std.proofs.lemmas.List.{append-nil}
use Rattle.shim_semantics.proofs.HowMany.{clash}
use Rattle.shim_semantics.proofs.Members.{among_either}
use Rattle.shim_local.specs.Laws.{AllOf}
use Rattle.shim_base.specs.Lists.{IsAmong}
use Rattle.shim_waits.specs.declared.explained.Wait.{Wait}
use Rattle.shim_waits.specs.Cycles.{by_of, WaitInTurn, ComesByWaits, here, further, first_path, IsCycle, has, passed_since, from_some, ring, ring_from, least_of, turned_to, from_least, cycle_of}
use Rattle.shim_waits.proofs.Following.{no_less_itself, not_both_less, least_is, join, comes_on, either_way, stays_on, back_again, same_rest}

-- each of these paths waits for another one of them
abbrev pub AllWait : List Wait → List Path → Type 0
AllWait ws ps = (p : Path) → IsAmong p ps → (q : Path) × (by_of ws p ≡ Some q) × IsAmong q ps × (q ≢ p)

-- a list without one of its members
record Without (x : Path) (rs : List Path) : Type 0 where
  rest : List Path
  shorter : length rs ≡ suc (length rest)
  others : (p : Path) → IsAmong p rs → (p ≡ x) ⊎ IsAmong p rest

without : (x : Path) (rs : List Path) → IsAmong x rs → Without x rs
without x [] i = absurd i
without x (r ∷ rs) (inl h) = record { rest = rs; shorter = refl; others = λ p i. elim i [ inl z ↦ inl (z ∙ sym h) | inr z ↦ inr z ] }
without x (r ∷ rs) (inr h) =
    let w = without x rs h in
    record {
      rest = r ∷ w.rest;
      shorter = ap suc w.shorter;
      others = λ p i. elim i [
        | inl z ↦ inr (inl z)
        | inr z ↦ elim (w.others p z) [ inl y ↦ inl y | inr y ↦ inr (inr y) ]
      ];
    }

less_left : (a b n : ℕ) → a ≡ suc b → a ≤ suc n → b ≤ n
less_left a b n e h = omega arith

none_left : (a b : ℕ) → a ≡ suc b → a ≤ zero → ⊥
none_left a b e h = omega arith

all_of : (P : Path → Type 0) (ps : List Path) → ((p : Path) → IsAmong p ps → P p) → AllOf P ps
all_of P [] f = tt
all_of P (p ∷ ps) f = (f p (inl refl), all_of P ps (λ q i. f q (inr i)))

of_all : (P : Path → Type 0) (ps : List Path) (q : Path) → AllOf P ps → IsAmong q ps → P q
of_all P [] q a i = absurd i
of_all P (p ∷ ps) q a (inl h) = subst P (sym h) a.0
of_all P (p ∷ ps) q a (inr h) = of_all P ps q a.1 h

-- ---- what was passed, in the order in which it was

-- no path twice
abbrev Differ : List Path → Type 0
Differ [] = Unit {0}
Differ (p ∷ ps) = (IsAmong p ps → ⊥) × Differ ps

has_among : (p : Path) (qs : List Path) → has p qs ≡ true → IsAmong p qs
has_among p [] h = absurd cc
has_among p (q ∷ qs) h = elim (either_holds (same_path q p) (has p qs) h) [ inl y ↦ inl (sym (same_path_is q p y)) | inr y ↦ inr (has_among p qs y) ]

among_has : (p : Path) (qs : List Path) → IsAmong p qs → has p qs ≡ true
among_has p [] i = absurd i
among_has p (q ∷ qs) (inl h) = or_left _ _ (ap (λ z. same_path z p) (sym h) ∙ same_path_refl p)
among_has p (q ∷ qs) (inr h) = or_right (same_path q p) _ (among_has p qs h)

differ_since : (p : Path) (ps more : List Path) → Differ ps → Differ more → ((q : Path) → IsAmong q ps → IsAmong q more → ⊥) → Differ (passed_since p ps more)
differ_since p [] more a b f = b
differ_since p (q ∷ qs) more a b f = choose Differ (same_path q p) (q ∷ more) (passed_since p qs (q ∷ more))
    (f q (inl refl), b)
    (differ_since p qs (q ∷ more) a.1 (f q (inl refl), b) (λ r i j. elim j [ inl h ↦ a.0 (subst (λ z. IsAmong z qs) h i) | inr h ↦ f r (inr i) h ]))

module _ (ws : List Wait) where
  -- those that were passed, the last one first, before x
  abbrev Trail : Path → List Path → Type 0
  Trail x [] = Unit {0}
  Trail x (v ∷ vs) = (by_of ws v ≡ Some x) × Trail v vs

  -- a ring: it begins at the path, which is among some, and to which one comes
  record Ring (start : Path) (ps : List Path) (ring' : List Path) : Type 0 where
    path : Path
    others : List Path
    is : ring' ≡ path ∷ others
    leads : WaitInTurn ws path others path
    reached : ComesByWaits ws start path
    among : IsAmong path ps
    differ : Differ ring'

  -- what leads on from z leads on from the path that was passed
  since : (x z : Path) (vs more : List Path) → Trail z vs → IsAmong x vs → ((v : Path) → by_of ws v ≡ Some z → WaitInTurn ws v more x) → (ys : List Path) × (passed_since x vs more ≡ x ∷ ys) × WaitInTurn ws x ys x
  since x z [] more t i f = absurd i
  since x z (v ∷ vs) more t i f = elim (true_or_false (same_path v x)) [
    | inl y ↦
        let same = same_path_is v x y in
        (more, ap (λ b. cond b (v ∷ more) (passed_since x vs (v ∷ more))) y ∙ ap (λ z. z ∷ more) same, subst (λ z. WaitInTurn ws z more x) same (f v t.0))
    | inr n ↦
        let further_on : IsAmong x vs = elim i [
          | inl h ↦ clash (same_path v x) (ap (λ z. same_path z x) (sym h) ∙ same_path_refl x) n
          | inr h ↦ h
        ] in
        let w = since x v vs (v ∷ more) t.1 further_on (λ u e. (e, f v t.0)) in
        (w.0, ap (λ b. cond b (v ∷ more) (passed_since x vs (v ∷ more))) n ∙ w.1, w.2)
  ]

  closes : (ps : List Path) (start : Path) (passed : List Path) (x : Path) → Trail x passed → Differ passed → ComesByWaits ws start x → IsAmong x ps → IsAmong x passed → Ring start ps (passed_since x passed [])
  closes ps start passed x t d c i z =
      let w = since x x passed [] t z (λ v e. e) in
      record { path = x; others = w.0; is = w.1; leads = w.2; reached = c; among = i; differ = differ_since x passed [] d tt (λ q j k. k) }

  -- from path to path, until one comes again: those that are left get fewer
  follow : (ps : List Path) → AllWait ws ps → (start : Path) (n : ℕ) (left passed : List Path) (x : Path) → length left ≤ n → ((p : Path) → IsAmong p ps → IsAmong p passed ⊎ IsAmong p left)
      → Trail x passed → Differ passed → ComesByWaits ws start x → IsAmong x ps → Ring start ps (ring n ws passed x)
  follow ps f start zero left passed x h cover t d c i = elim (cover x i) [
    | inl z ↦ closes ps start passed x t d c i z
    | inr z ↦ (let w = without x left z in absurd (none_left (length left) (length w.rest) w.shorter h))
  ]
  follow ps f start (suc n) left passed x h cover t d c i = elim (true_or_false (has x passed)) [
    | inl y ↦ subst (Ring start ps) (sym (ap (λ b. cond b (passed_since x passed []) (from_some (ring n ws (x ∷ passed)) (by_of ws x))) y)) (closes ps start passed x t d c i (has_among x passed y))
    | inr m ↦
        let there : IsAmong x left = elim (cover x i) [ inl z ↦ clash (has x passed) (among_has x passed z) m | inr z ↦ z ] in
        let w = without x left there in
        let next = f x i in
        subst (Ring start ps) (sym (ap (λ b. cond b (passed_since x passed []) (from_some (ring n ws (x ∷ passed)) (by_of ws x))) m ∙ ap (from_some (ring n ws (x ∷ passed))) next.1))
        (follow ps f start n w.rest (x ∷ passed) next.0 (less_left (length left) (length w.rest) n w.shorter h)
        (λ p j. elim (cover p j) [ inl y ↦ inl (inr y) | inr y ↦ elim (w.others p y) [ inl k ↦ inl (inl k) | inr k ↦ inr k ] ])
        (next.1, t) ((λ j. clash (has x passed) (among_has x passed j) m), d) (further x next.0 c next.1) next.2)
  ]

  -- those on a way from one of the paths are of them
  leads_among : (ps : List Path) → AllWait ws ps → (p : Path) (xs : List Path) (z : Path) → WaitInTurn ws p xs z → IsAmong p ps → (q : Path) → IsAmong q xs → IsAmong q ps
  leads_among ps f p [] z l i q j = absurd j
  leads_among ps f p (x ∷ xs) z l i q j =
      let next = f p i in
      let there : IsAmong x ps = subst (λ y. IsAmong y ps) (some_same next.0 x (sym next.1 ∙ l.0)) next.2 in
      elim j [ inl h ↦ subst (λ y. IsAmong y ps) (sym h) there | inr h ↦ leads_among ps f x xs z l.1 there q h ]

  not_alone : (ps : List Path) → AllWait ws ps → (m : Path) (xs : List Path) → IsAmong m ps → WaitInTurn ws m xs m → xs ≢ []
  not_alone ps f m xs i l e = let next = f m i in next.3 (some_same next.0 m (sym next.1 ∙ subst (λ y. WaitInTurn ws m y m) e l))

  -- ---- the same ring, from its least path on

  record Turned (m : Path) (front back : List Path) : Type 0 where
    others : List Path
    is : turned_to m front back ≡ m ∷ others
    leads : WaitInTurn ws m others m
    from : (q : Path) → IsAmong q others → IsAmong q front ⊎ IsAmong q back
    not_it : (q : Path) → IsAmong q others → q ≢ m

  -- the ring goes on from the front to p, and from what is after p to the front
  abbrev Around : List Path → Path → List Path → Type 0
  Around [] p ps = WaitInTurn ws p ps p
  Around (x ∷ fs) p ps = WaitInTurn ws x fs p × WaitInTurn ws p ps x

  one_on : (front : List Path) (p q : Path) (ps : List Path) → Around front p (q ∷ ps) → Around (front ++ p ∷ []) q ps
  one_on [] p q ps a = (a.0, a.1)
  one_on (x ∷ fs) p q ps a = (join ws x fs p [] q a.0 a.1.0, a.1.1)

  whole : (front : List Path) (p : Path) (ps : List Path) → Around front p ps → WaitInTurn ws p (ps ++ front) p
  whole [] p ps a = subst (λ z. WaitInTurn ws p z p) (sym (append-nil ps)) a
  whole (x ∷ fs) p ps a = join ws p ps x fs p a.1 a.0

  turn : (m p : Path) (front ps : List Path) → Around front p ps → IsAmong m (p ∷ ps) → Differ (p ∷ ps) → ((q : Path) → IsAmong q front → q ≢ m) → Turned m front (p ∷ ps)
  turn m p front [] a i d n = record {
    others = front;
    is = ap (λ b. cond b (p ∷ front) (front ++ p ∷ [])) (ap (λ z. same_path z m) (sym (only m p i)) ∙ same_path_refl m) ∙ ap (λ z. z ∷ front) (sym (only m p i));
    leads = subst (λ z. WaitInTurn ws z front z) (sym (only m p i)) (whole front p [] a);
    from = λ q j. inl j;
    not_it = n;
  }
    where
      only : (m p : Path) → IsAmong m (p ∷ []) → m ≡ p
      only m p (inl h) = h
      only m p (inr h) = absurd h
  turn m p front (r ∷ ps) a i d n = elim (true_or_false (same_path p m)) [
    | inl y ↦
        let same = same_path_is p m y in
        record {
          others = (r ∷ ps) ++ front;
          is = ap (λ b. cond b (p ∷ (r ∷ ps) ++ front) (turned_to m (front ++ p ∷ []) (r ∷ ps))) y ∙ ap (λ z. z ∷ (r ∷ ps) ++ front) same;
          leads = subst (λ z. WaitInTurn ws z ((r ∷ ps) ++ front) z) same (whole front p (r ∷ ps) a);
          from = λ q j. elim (among_either q (r ∷ ps) front j) [ inl h ↦ inr (inr h) | inr h ↦ inl h ];
          not_it = λ q j. elim (among_either q (r ∷ ps) front j) [
            | inl h ↦ λ e. d.0 (subst (λ z. IsAmong z (r ∷ ps)) (e ∙ sym same) h)
            | inr h ↦ n q h
          ];
        }
    | inr k ↦
        let behind : IsAmong m (r ∷ ps) = elim i [ inl h ↦ clash (same_path p m) (ap (λ z. same_path z m) (sym h) ∙ same_path_refl m) k | inr h ↦ h ] in
        let w = turn m r (front ++ p ∷ []) ps (one_on front p r ps a) behind d.1 (λ q j. elim (among_either q front (p ∷ []) j) [
          | inl h ↦ n q h
          | inr h ↦ elim h [
            | inl z ↦ λ e. clash (same_path p m) (ap (λ y. same_path y m) (sym z ∙ e) ∙ same_path_refl m) k
            | inr z ↦ absurd z
          ]
        ]) in
        record {
          others = w.others;
          is = ap (λ b. cond b (p ∷ (r ∷ ps) ++ front) (turned_to m (front ++ p ∷ []) (r ∷ ps))) k ∙ w.is;
          leads = w.leads;
          from = λ q j. elim (w.from q j) [
            | inl h ↦ elim (among_either q front (p ∷ []) h) [ inl z ↦ inl z | inr z ↦ elim z [ inl y ↦ inr (inl y) | inr y ↦ absurd y ] ]
            | inr h ↦ inr (inr h)
          ];
          not_it = w.not_it;
        }
  ]

  from_ring : (ps : List Path) → AllWait ws ps → (start p : Path) (others : List Path) → first_path ws ≡ Some start → WaitInTurn ws p others p → ComesByWaits ws start p → IsAmong p ps → Differ (p ∷ others) → IsCycle ws (from_least (p ∷ others))
  from_ring ps f start p others e leads reached among differ =
      let m = least_of p others in
      let low = least_is p others in
      let w = turn m p [] others leads low.among differ (λ q j. absurd j) in
      let comes : ComesByWaits ws start m = elim low.among [ inl h ↦ subst (ComesByWaits ws start) (sym h) reached | inr h ↦ comes_on ws start p others p m reached leads h ] in
      let its : IsAmong m ps = elim low.among [ inl h ↦ subst (λ y. IsAmong y ps) (sym h) among | inr h ↦ leads_among ps f p others p leads among m h ] in
      record {
        least = m;
        others = w.others;
        is = w.is;
        leads = w.leads;
        is_least = all_of (λ q. path_order m q ≡ Less) w.others (λ q j. elim (w.from q j) [
          | inl h ↦ absurd h
          | inr h ↦ elim (low.least q h) [ inl y ↦ absurd (w.not_it q j y) | inr y ↦ y ]
        ]);
        some = not_alone ps f m w.others its w.leads;
        start = start;
        begins = e;
        reached = comes;
      }

  same_length : (us : List Wait) → length us ≡ length (map (λ w. w.path) us)
  same_length [] = refl
  same_length (u ∷ us) = ap suc (same_length us)

  no_more : (a b : ℕ) → a ≡ b → b ≤ a
  no_more a b e = omega arith

  pub has_cycle : AllWait ws (map (λ w. w.path) ws) → (start : Path) → IsAmong start (map (λ w. w.path) ws) → first_path ws ≡ Some start → IsCycle ws (cycle_of ws)
  has_cycle f start i e =
      let ps = map (λ w. w.path) ws in
      let r = follow ps f start (length ws) ps [] start (no_more (length ws) (length ps) (same_length ws)) (λ p j. inr j) tt tt here i in
      subst (λ z. IsCycle ws (from_least z)) (sym (ap (ring_from ws) e ∙ r.is))
      (from_ring ps f start r.path r.others e r.leads r.reached r.among (subst Differ r.is r.differ))

  -- ---- and one alone

  least_not_among : (m : Path) (xs : List Path) → AllOf (λ p. path_order m p ≡ Less) xs → IsAmong m xs → ⊥
  least_not_among m xs a i = no_less_itself m m (of_all (λ p. path_order m p ≡ Less) xs m a i) refl

  -- the least path of one cycle, which lies on the other
  same_least : (a b : Path) (xs ys : List Path) → AllOf (λ p. path_order a p ≡ Less) xs → AllOf (λ p. path_order b p ≡ Less) ys → IsAmong b (a ∷ xs) → IsAmong a (b ∷ ys) → a ≡ b
  same_least a b xs ys f g (inl h) i = sym h
  same_least a b xs ys f g (inr h) (inl i) = i
  same_least a b xs ys f g (inr h) (inr i) = absurd (not_both_less a b (of_all (λ p. path_order a p ≡ Less) xs b f h) (of_all (λ p. path_order b p ≡ Less) ys a g i))

  one_least : (c d : List Path) (x : IsCycle ws c) (y : IsCycle ws d) → x.least ≡ y.least
  one_least c d x y =
      let begun : ComesByWaits ws x.start y.least = subst (λ z. ComesByWaits ws z y.least) (some_same y.start x.start (sym y.begins ∙ x.begins)) y.reached in
      elim (either_way ws x.start x.least y.least x.reached begun) [
        | inl z ↦
            let there = stays_on ws x.least x.others y.least x.leads z in
            same_least x.least y.least x.others y.others x.is_least y.is_least there (stays_on ws y.least y.others x.least y.leads (back_again ws x.least x.others y.least x.leads there))
        | inr z ↦
            let there = stays_on ws y.least y.others x.least y.leads z in
            same_least x.least y.least x.others y.others x.is_least y.is_least (stays_on ws x.least x.others y.least x.leads (back_again ws y.least y.others x.least y.leads there)) there
      ]

  same_others : (m n : Path) (xs ys : List Path) → m ≡ n → WaitInTurn ws m xs m → WaitInTurn ws n ys n → AllOf (λ p. path_order m p ≡ Less) xs → AllOf (λ p. path_order n p ≡ Less) ys → xs ≡ ys
  same_others m n xs ys e a b f g =
      let k = subst (λ z. WaitInTurn ws z ys z) (sym e) b in
      let h = subst (λ z. AllOf (λ p. path_order z p ≡ Less) ys) (sym e) g in
      same_rest ws m m xs ys a k (least_not_among m xs f) (least_not_among m ys h)

  pub one_cycle : (c d : List Path) → IsCycle ws c → IsCycle ws d → c ≡ d
  one_cycle c d x y =
      let m = one_least c d x y in
      let t = same_others x.least y.least x.others y.others m x.leads y.leads x.is_least y.is_least in
      x.is ∙ ((λ i. m i ∷ t i) ∙ sym y.is)
