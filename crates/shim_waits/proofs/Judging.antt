-- What is asked of an explanation, entry by entry.
use Rattle.std.proofs.Common.{◌≡◌, ◌≢◌, ◌↔◌, ℕ, zero, suc, ◌+◌, ◌<◌, Bool, true, false, IsTrue, if◌then◌else◌, Option, Some, None, List, [], ◌∷◌, ◌++◌, inl, inr, cond, take, drop, get_or, length, map, refl, sym, ap, subst, ◌∙◌, arith}
use Rattle.std.specs.Prelude.{slice_get}
use Rattle.std.specs.Option.{option_map}
use Rattle.std.proofs.lemmas.List.{drop_more}
use Rattle.shim_base.specs.Paths.{Path, NamedChannel, same_path, same_channel}
use Rattle.shim_base.proofs.Facts.{some_same, none_some, true_or_false}
use Rattle.shim_base.proofs.SamePaths.{same_path_refl, same_path_is, same_channel_refl, same_channel_is}
use Rattle.shim_local.specs.Process.{Ops}
use Rattle.shim_local.specs.Laws.{AllOf, how_many}
use Rattle.shim_base.specs.Lists.{IsAmong}
use Rattle.shim_semantics.specs.Nodes.{Node, Live, Forked, Ended, Dead, state, next_channel}
use Rattle.shim_semantics.specs.Places.{StandsAt, led_to, has_path}
use Rattle.shim_semantics.proofs.HowMany.{clash}
use Rattle.shim_semantics.proofs.Members.{among_map, among_mapped}
use Rattle.shim_tree.specs.ByPath.{its_node}
use Rattle.shim_tree.specs.ChildCounts.{live_in}
use Rattle.shim_waits.specs.Cycles.{by_of}
use Rattle.shim_waits.specs.Holding.{holds_up, lives}
use Rattle.shim_waits.specs.Holds.{IsRing, IsExplanation}
use Rattle.shim_waits.specs.Judging.{WaitsThere, IsHolder, IsAtOrBelow, first_place, AreFirst, HaveWaits}
use Rattle.shim_waits.specs.Waits.{StandsAtNext, IsWait}
use Rattle.shim_waits.specs.declared.explained.Explained.{Explained}
use Rattle.shim_waits.specs.declared.explained.Wait.{Wait}
use Rattle.shim_waits.proofs.Blocked.{stands_lives}
use Rattle.shim_waits.proofs.Explains.{stands_next}

-- a test that fails, of what isn't so, and one that holds
pub isnt_so : {P : Type 0} → (P → ⊥) → IsTrue false ↔ P
isnt_so f = (λ t. absurd (let w = t in cc), λ p. absurd (f p))

pub is_so : {P : Type 0} → P → IsTrue true ↔ P
is_so p = (λ t. p, λ q. refl)

pub unless_false : (b : Bool) → b ≡ false → IsTrue b → ⊥
unless_false b e t = let w : true ≡ false = sym t ∙ e in cc

-- ---- the process of a path

module _ {S : Type 0} (o : Ops S) (root : Node S) (p : Path) where
  its_by : (x : Option (Node S)) (n : Node S) → cond (has_path o p x) x None ≡ Some n → (x ≡ Some n) × (o.path (state n) ≡ p)
  its_by None n e = none_some n e
  its_by (Some m) n e = elim (true_or_false (same_path (o.path (state m)) p)) [
    | inl y ↦ (let w : Some m ≡ Some n = sym (ap (λ b. cond b (Some m) None) y) ∙ e in (w, ap (λ z. o.path (state z)) (sym (some_same m n w)) ∙ same_path_is (o.path (state m)) p y))
    | inr f ↦ none_some n (sym (ap (λ b. cond b (Some m) None) f) ∙ e)
  ]

  pub stands_its : (n : Node S) → its_node o root p ≡ Some n → StandsAt o root p n
  stands_its n e = let w = its_by (led_to o root p) n e in record { there = w.0; is_its = w.1 }

  pub its_stands : (n : Node S) → StandsAt o root p n → its_node o root p ≡ Some n
  its_stands n s = ap (λ x. cond (has_path o p x) x None) s.there ∙ (ap (λ z. cond (same_path z p) (Some n) None) s.is_its ∙ ap (λ b. cond b (Some n) None) (same_path_refl p))

  pub nobody_there : None ≡ its_node o root p → (c : NamedChannel) → IsTrue false ↔ WaitsThere o root p c
  nobody_there e c = isnt_so (λ w. none_some (Live w.0) (e ∙ its_stands (Live w.0) w.1))

  pub nobody_lives : (n : Node S) → Some n ≡ its_node o root p → None ≡ live_in (Some n) → (c : NamedChannel) → IsTrue false ↔ WaitsThere o root p c
  nobody_lives n e f c = isnt_so (λ w. none_some w.0 (f ∙ ap live_in (e ∙ its_stands (Live w.0) w.1)))

  live_is : (n : Node S) (l : S) → live_in (Some n) ≡ Some l → n ≡ Live l
  live_is (Live m) l e = ap Live (some_same m l e)
  live_is (Forked m ks) l e = none_some l e
  live_is (Ended m) l e = none_some l e
  live_is (Dead m d) l e = none_some l e

  one_live : (l m : S) → Live l ≡ Live m → l ≡ m
  one_live l m e = ap state e

  pub somebody_lives : (n : Node S) (l : S) (b : Bool) (c : NamedChannel) → Some n ≡ its_node o root p → Some l ≡ live_in (Some n) → IsTrue b ↔ StandsAtNext o l c → IsTrue b ↔ WaitsThere o root p c
  somebody_lives n l b c e f h =
      let is = live_is n l (sym f) in
      let in_tree = stands_its (Live l) (sym (e) ∙ ap Some is) in (
        λ t. (l, in_tree, h.0 t),
        λ w. h.1 (subst (λ z. StandsAtNext o z c) (one_live w.0 l (some_same (Live w.0) (Live l) (sym (its_stands (Live w.0) w.1) ∙ its_stands (Live l) in_tree))) w.2),
      )

  pub no_holder : None ≡ its_node o root p → (c : NamedChannel) → IsTrue false ↔ IsHolder o root p c
  no_holder e c = isnt_so (λ w. none_some w.0 (e ∙ its_stands w.0 w.1))

  pub some_holder : (n : Node S) (b : Bool) (c : NamedChannel) → Some n ≡ its_node o root p → b ≡ holds_up o c.channel n → IsTrue b ↔ IsHolder o root p c
  some_holder n b c e h = (
    λ t. (n, stands_its n (sym e), sym h ∙ t),
    λ w. h ∙ (ap (holds_up o c.channel) (some_same n w.0 (e ∙ its_stands w.0 w.1)) ∙ w.2),
  )

module _ {S : Type 0} (o : Ops S) (l : S) (c : NamedChannel) where
  pub stands_so : (d : NamedChannel) (b : Bool) → next_channel (o.stop l) ≡ Some d → b ≡ same_channel d.channel c.channel → IsTrue b ↔ StandsAtNext o l c
  stands_so d b e h = (
    λ t. (d, stands_next (o.stop l) d e, same_channel_is d.channel c.channel (sym h ∙ t)),
    λ w. let same : d ≡ w.0 = some_same d w.0 (sym e ∙ ap next_channel w.1) in
        h ∙ (ap (λ z. same_channel z c.channel) (ap (λ z. z.channel) same ∙ w.2) ∙ same_channel_refl c.channel),
  )

  pub stands_nowhere : next_channel (o.stop l) ≡ None → IsTrue false ↔ StandsAtNext o l c
  stands_nowhere e = isnt_so (λ w. none_some w.0 (sym e ∙ ap next_channel w.1))

-- ---- all of a list

module _ {A : Type 0} (P : A → Type 0) (xs : List A) where
  pub all_next : (i : ℕ) (x : A) → drop i xs ≡ x ∷ drop (i + 1) xs → P x → AllOf P (drop i xs) ↔ AllOf P xs → AllOf P (drop (i + 1) xs) ↔ AllOf P xs
  all_next i x d h rest = (λ a. rest.0 (subst (AllOf P) (sym d) (h, a)), λ a. (subst (AllOf P) d (rest.1 a)).1)

  pub all_fails : (i : ℕ) (x : A) → drop i xs ≡ x ∷ drop (i + 1) xs → (P x → ⊥) → AllOf P (drop i xs) ↔ AllOf P xs → IsTrue false ↔ AllOf P xs
  all_fails i x d h rest = isnt_so (λ a. h (subst (AllOf P) d (rest.1 a)).0)

  pub all_done : (i : ℕ) → drop i xs ≡ [] → AllOf P (drop i xs) ↔ AllOf P xs → IsTrue true ↔ AllOf P xs
  all_done i d rest = is_so (rest.0 (subst (AllOf P) (sym d) tt))

pub next_one : {A : Type 0} (xs : List A) (i : ℕ) (x : A) → i < length xs → x ≡ get_or xs i x → drop i xs ≡ x ∷ drop (i + 1) xs
next_one xs i x h is = drop_more xs i x h ∙ ap (λ z. z ∷ drop (i + 1) xs) (sym is)

-- ---- where the first wait of a path stands

some_suc : (x : Option ℕ) (i : ℕ) → option_map suc x ≡ Some (suc i) → x ≡ Some i
some_suc None i e = none_some (suc i) e
some_suc (Some j) i e = ap Some (let w = some_same (suc j) (suc i) e in omega (arith, w))

some_none : (x : Option ℕ) → option_map suc x ≡ None → x ≡ None
some_none None e = refl
some_none (Some j) e = absurd cc

zero_none : {A : Type 0} (x : Option ℕ) → option_map suc x ≡ Some 0 → A
zero_none None e = none_some 0 e
zero_none (Some j) e = absurd (let w = some_same (suc j) 0 e in omega (arith, w))

no_entry_by : (w : Wait) (ws : List Wait) (p : Path) (b : Bool) → (first_place ws p ≡ None → by_of ws p ≡ None) → cond b (Some 0) (option_map suc (first_place ws p)) ≡ None → cond b (Some w.by) (by_of ws p) ≡ None
no_entry_by w ws p true f e = none_some 0 (sym e)
no_entry_by w ws p false f e = f (some_none (first_place ws p) e)

pub no_entry : (ws : List Wait) (p : Path) → first_place ws p ≡ None → by_of ws p ≡ None
no_entry [] p e = refl
no_entry (w ∷ ws) p e = no_entry_by w ws p (same_path w.path p) (no_entry ws p) e

-- the entry of a path
abbrev pub EntryAt : List Wait → Path → ℕ → Option Path → Type 0
EntryAt ws p i by = (w : Wait) × (slice_get ws i ≡ Some w) × (w.path ≡ p) × (by ≡ Some w.by)

entry_by_one : (w : Wait) (ws : List Wait) (p : Path) (b : Bool) → same_path w.path p ≡ b → (j : ℕ) → ((i : ℕ) → first_place ws p ≡ Some i → EntryAt ws p i (by_of ws p)) → cond b (Some 0) (option_map suc (first_place ws p)) ≡ Some j
    → EntryAt (w ∷ ws) p j (cond b (Some w.by) (by_of ws p))
entry_by_one w ws p true y zero f e = (w, refl, same_path_is w.path p y, refl)
entry_by_one w ws p true y (suc j) f e = absurd (let z = some_same 0 (suc j) e in omega (arith, z))
entry_by_one w ws p false y zero f e = zero_none (first_place ws p) e
entry_by_one w ws p false y (suc j) f e = f j (some_suc (first_place ws p) j e)

pub entry_by : (ws : List Wait) (p : Path) (i : ℕ) → first_place ws p ≡ Some i → EntryAt ws p i (by_of ws p)
entry_by [] p i e = none_some i e
entry_by (w ∷ ws) p i e = entry_by_one w ws p (same_path w.path p) refl i (entry_by ws p) e

-- ---- once

counted : (b : Bool) (n : ℕ) → b ≡ true → (if b then suc n else n) ≡ suc n
counted true n e = refl
counted false n e = absurd cc

passed_over : (b : Bool) (n : ℕ) → b ≡ false → (if b then suc n else n) ≡ n
passed_over true n e = absurd cc
passed_over false n e = refl

none_counted : (ws : List Wait) (p : Path) → ((i : ℕ) (v : Wait) → slice_get ws i ≡ Some v → same_path v.path p ≡ false) → how_many (λ w. same_path w.path p) ws ≡ 0
none_counted [] p f = refl
none_counted (w ∷ ws) p f = passed_over (same_path w.path p) _ (f zero w refl) ∙ none_counted ws p (λ i. f (suc i))

-- of what comes after one
rest_first : (w : Wait) (ws : List Wait) → AreFirst (w ∷ ws) → (i : ℕ) (v : Wait) → slice_get ws i ≡ Some v → (same_path w.path v.path ≡ false) × (first_place ws v.path ≡ Some i)
rest_first w ws all i v e = by (same_path w.path v.path) (all (suc i) v e)
  where
    by : (b : Bool) → cond b (Some 0) (option_map suc (first_place ws v.path)) ≡ Some (suc i) → (b ≡ false) × (first_place ws v.path ≡ Some i)
    by true e = absurd (let z = some_same 0 (suc i) e in omega (arith, z))
    by false e = (refl, some_suc (first_place ws v.path) i e)

other_path : (w v : Wait) (p : Path) → same_path w.path v.path ≡ false → same_path w.path p ≡ true → same_path v.path p ≡ false
other_path w v p f y = elim (true_or_false (same_path v.path p)) [
  | inl z ↦ clash (same_path w.path v.path) (ap (same_path w.path) (same_path_is v.path p z) ∙ y) f
  | inr z ↦ z
]

later_place : (w : Wait) (ws : List Wait) (p : Path) (i : ℕ) → same_path w.path p ≡ false → first_place (w ∷ ws) p ≡ Some i → (j : ℕ) × (first_place ws p ≡ Some j)
later_place w ws p zero n e = zero_none (first_place ws p) (sym (ap (λ b. cond b (Some 0) (option_map suc (first_place ws p))) n) ∙ e)
later_place w ws p (suc j) n e = (j, some_suc (first_place ws p) j (sym (ap (λ b. cond b (Some 0) (option_map suc (first_place ws p))) n) ∙ e))

pub once_first : (ws : List Wait) (p : Path) (i : ℕ) → AreFirst ws → first_place ws p ≡ Some i → how_many (λ w. same_path w.path p) ws ≡ 1
once_first [] p i all e = none_some i e
once_first (w ∷ ws) p i all e = elim (true_or_false (same_path w.path p)) [
  | inl y ↦ counted (same_path w.path p) _ y ∙ ap suc (none_counted ws p (λ j v there. other_path w v p (rest_first w ws all j v there).0 y))
  | inr n ↦ (let j = later_place w ws p i n e in passed_over (same_path w.path p) _ n ∙ once_first ws p j.0 (λ k v there. (rest_first w ws all k v there).1) j.1)
]

one_counted : (ws : List Wait) (p : Path) (i : ℕ) (w : Wait) → slice_get ws i ≡ Some w → w.path ≡ p → how_many (λ v. same_path v.path p) ws ≡ 0 → ⊥
one_counted [] p i w e is h = none_some w e
one_counted (v ∷ ws) p zero w e is h =
    let y = ap (λ z. same_path z.path p) (some_same v w e) ∙ (ap (λ z. same_path z p) is ∙ same_path_refl p) in
    let k = sym (counted (same_path v.path p) (how_many (λ z. same_path z.path p) ws) y) ∙ h in
    omega (arith, k)
one_counted (v ∷ ws) p (suc i) w e is h = elim (true_or_false (same_path v.path p)) [
  | inl y ↦ (let k = sym (counted (same_path v.path p) (how_many (λ z. same_path z.path p) ws) y) ∙ h in absurd (omega (arith, k)))
  | inr n ↦ one_counted ws p i w e is (sym (passed_over (same_path v.path p) (how_many (λ z. same_path z.path p) ws) n) ∙ h)
]

one_less : (n : ℕ) → suc n ≡ 1 → n ≡ 0
one_less n e = omega (arith, e)

pub first_once : (ws : List Wait) (p : Path) (i : ℕ) (w : Wait) → slice_get ws i ≡ Some w → w.path ≡ p → how_many (λ v. same_path v.path p) ws ≡ 1 → first_place ws p ≡ Some i
first_once [] p i w e is h = none_some w e
first_once (v ∷ ws) p zero w e is h = ap (λ b. cond b (Some 0) (option_map suc (first_place ws p))) (ap (λ z. same_path z.path p) (some_same v w e) ∙ (ap (λ z. same_path z p) is ∙ same_path_refl p))
first_once (v ∷ ws) p (suc i) w e is h = elim (true_or_false (same_path v.path p)) [
  | inl y ↦ absurd (one_counted ws p i w e is (one_less _ (sym (counted (same_path v.path p) (how_many (λ z. same_path z.path p) ws) y) ∙ h)))
  | inr n ↦
      ap (λ b. cond b (Some 0) (option_map suc (first_place ws p))) n
      ∙ ap (option_map suc) (first_once ws p i w e is (sym (passed_over (same_path v.path p) (how_many (λ z. same_path z.path p) ws) n) ∙ h))
]

none_first : (ws : List Wait) (p : Path) → first_place ws p ≡ None → how_many (λ v. same_path v.path p) ws ≡ 0
none_first [] p e = refl
none_first (w ∷ ws) p e = elim (true_or_false (same_path w.path p)) [
  | inl y ↦ none_some 0 (sym e ∙ ap (λ b. cond b (Some 0) (option_map suc (first_place ws p))) y)
  | inr n ↦ passed_over (same_path w.path p) _ n ∙ none_first ws p (some_none (first_place ws p) (sym (ap (λ b. cond b (Some 0) (option_map suc (first_place ws p))) n) ∙ e))
]

pub has_one : (ws : List Wait) (p : Path) → how_many (λ v. same_path v.path p) ws ≡ 1 → first_place ws p ≢ None
has_one ws p h e = let k = sym h ∙ none_first ws p e in omega (arith, k)

there_first : (x : Option ℕ) → x ≢ None → (i : ℕ) × (x ≡ Some i)
there_first None f = absurd (f refl)
there_first (Some i) f = (i, refl)

-- ---- the whole

all_members : {A : Type 0} (P : A → Type 0) (xs : List A) → ((x : A) → IsAmong x xs → P x) → AllOf P xs
all_members P [] f = tt
all_members P (x ∷ xs) f = (f x (inl refl), all_members P xs (λ y i. f y (inr i)))

member_of_all : {A : Type 0} (P : A → Type 0) (xs : List A) (x : A) → AllOf P xs → IsAmong x xs → P x
member_of_all P [] x all i = absurd i
member_of_all P (y ∷ xs) x all (inl h) = subst P (sym h) all.0
member_of_all P (y ∷ xs) x all (inr h) = member_of_all P xs x all.1 h

at_member : {A : Type 0} (P : A → Type 0) (xs : List A) (i : ℕ) (x : A) → AllOf P xs → slice_get xs i ≡ Some x → P x
at_member P [] i x all e = none_some x e
at_member P (y ∷ xs) zero x all e = subst P (some_same y x e) all.0
at_member P (y ∷ xs) (suc i) x all e = at_member P xs i x all.1 e

module _ {S : Type 0} (o : Ops S) (root : Node S) (e : Explained) (each : AllOf (IsWait o root) e.waits) where
  pub is_explanation : AreFirst e.waits → HaveWaits e.waits (map o.path (lives root)) → IsRing e.waits e.cycle → IsExplanation o root e
  is_explanation first have ring = record {
    once = λ l i.
        let x = there_first (first_place e.waits (o.path l)) (member_of_all (λ p. first_place e.waits p ≢ None) (map o.path (lives root)) (o.path l) have (among_map o.path l (lives root) i)) in
        once_first e.waits (o.path l) x.0 first x.1;
    each = each;
    ring = ring;
  }

  pub are_first_of : IsExplanation o root e → AreFirst e.waits
  are_first_of x i w there =
      let wait = at_member (IsWait o root) e.waits i w each there in
      let path = wait.in_tree.is_its in
      first_once e.waits w.path i w there refl (subst (λ z. how_many (λ v. same_path v.path z) e.waits ≡ 1) path (x.once wait.process (stands_lives o root w.path wait.process wait.in_tree)))

  pub have_waits_of : IsExplanation o root e → HaveWaits e.waits (map o.path (lives root))
  have_waits_of x = all_members (λ p. first_place e.waits p ≢ None) (map o.path (lives root)) (λ p i.
      let y = among_mapped o.path p (lives root) i in
      has_one e.waits p (subst (λ z. how_many (λ v. same_path v.path z) e.waits ≡ 1) (sym y.1) (x.once y.0 y.2)))

-- ---- paths that go on

take_front : (p r : Path) → take (length p) (p ++ r) ≡ p
take_front [] r = refl
take_front (x ∷ p) r = ap (λ z. x ∷ z) (take_front p r)

front_back : (n : ℕ) (p : Path) → p ≡ take n p ++ drop n p
front_back zero p = refl
front_back (suc n) [] = refl
front_back (suc n) (x ∷ p) = ap (λ z. x ∷ z) (front_back n p)

pub starts : (front p : Path) (b : Bool) → b ≡ same_path front (take (length front) p) → IsTrue b ↔ IsAtOrBelow front p
starts front p b e = (
  λ t. (drop (length front) p, front_back (length front) p ∙ ap (λ z. z ++ drop (length front) p) (sym (same_path_is front (take (length front) p) (sym e ∙ t)))),
  λ r. e ∙ (ap (same_path front) (ap (take (length front)) r.1 ∙ take_front front r.0) ∙ same_path_refl front),
)

-- ---- and where one of them fails

module _ {S : Type 0} (o : Ops S) (root : Node S) (e : Explained) (ws : List Wait) (same : ws ≡ e.waits) where
  pub some_not : (b : Bool) → b ≡ false → IsTrue b ↔ AllOf (IsWait o root) ws → IsTrue false ↔ IsExplanation o root e
  some_not b f h = isnt_so (λ x. unless_false b f (h.1 (subst (AllOf (IsWait o root)) (sym same) x.each)))

  pub twice : (b : Bool) → b ≡ false → AllOf (IsWait o root) ws → IsTrue b ↔ AreFirst ws → IsTrue false ↔ IsExplanation o root e
  twice b f each h = isnt_so (λ x. unless_false b f (h.1 (subst AreFirst (sym same) (are_first_of o root e (subst (AllOf (IsWait o root)) same each) x))))

  pub lacking : (b : Bool) (ps : List Path) → ps ≡ map o.path (lives root) → b ≡ false → AllOf (IsWait o root) ws → IsTrue b ↔ HaveWaits ws ps → IsTrue false ↔ IsExplanation o root e
  lacking b ps are f each h = isnt_so (λ x. unless_false b f (h.1 (as_lent (have_waits_of o root e (subst (AllOf (IsWait o root)) same each) x))))
    where
      as_lent : HaveWaits e.waits (map o.path (lives root)) → HaveWaits ws ps
      as_lent x = subst (λ z. HaveWaits z ps) (sym same) (subst (HaveWaits e.waits) (sym are) x)

  pub by_ring : (b : Bool) (ps : List Path) (cycle : List Path) → ps ≡ map o.path (lives root) → cycle ≡ e.cycle → AllOf (IsWait o root) ws → AreFirst ws → HaveWaits ws ps → IsTrue b ↔ IsRing ws cycle → IsTrue b ↔ IsExplanation o root e
  by_ring b ps cycle are its each first have h = (
    λ t. is_explanation o root e (subst (AllOf (IsWait o root)) same each) (subst AreFirst same first) (subst (λ z. HaveWaits z (map o.path (lives root))) same (subst (HaveWaits ws) are have))
        (subst (λ z. IsRing z e.cycle) same (subst (IsRing ws) its (h.0 t))),
    λ x. h.1 (subst (IsRing ws) (sym its) (subst (λ z. IsRing z e.cycle) (sym same) x.ring)),
  )

twice_mapped : {A B C : Type 0} (f : B → C) (g : A → B) (xs : List A) → map (λ x. f (g x)) xs ≡ map f (map g xs)
twice_mapped f g [] = refl
twice_mapped f g (x ∷ xs) = ap (λ z. f (g x) ∷ z) (twice_mapped f g xs)

pub lent_paths : {A S : Type 0} (o : Ops S) (v : A → S) (root : Node S) (xs : List A) → map v xs ≡ lives root → map (λ x. o.path (v x)) xs ≡ map o.path (lives root)
lent_paths o v root xs e = twice_mapped o.path v xs ∙ ap (map o.path) e
