-- The numbers of histories, and the finite map that the histories mean.
use Rattle.std.specs.Prelude.{◌≡◌, ◌≢◌, ◌<◌, ◌⊎◌, ◌↔◌, ℕ, ℤ, Bool, true, false, IsTrue, Option, Some, None, List, [], ◌∷◌, ◌++◌, map, cond, length, slice_get, slice_set, unwrap_or}
use Rattle.std.proofs.Common.{refl, sym, ap, ◌∙◌, inl, inr, zero, suc, arith}
use Rattle.std.specs.Option.{option_map}
use Rattle.std.specs.Ordering.{eq_by_cmp}
use Rattle.std.specs.Cmp.{eq_by_cmp_equiv}
use Rattle.std.specs.BTreeMap.{BTreeMap, is_at}
use Rattle.std.specs.FinMap.{FinMap, find, get, insert, get-from_entries, get-insert, same_map}
use Rattle.std.specs.Map.{lookup}
use Rattle.std.proofs.lemmas.List.{get_or-set_other, get_or-set_same, get_or_append_left, get_or_push, length-append, length-set, set-get_or}
use Rattle.std.proofs.lemmas.Option.{get_or_from_slice_get, none-some, same_Some, slice_get-get_or, slice_get_cases, slice_get_past, slice_get_within}
use Rattle.std.proofs.lemmas.Bool.{true≢false}
use Rattle.std.proofs.lemmas.Bool.Decides.{eqb_tells}
use Rattle.shim_base.specs.Paths.{Channel, NamedChannel, channel_order, same_channel}
use Rattle.shim_base.specs.PathLaws.{channel_order_total, channel_ties, exact_channel}
use Rattle.shim_local.specs.declared.History.{History}
use Rattle.shim_semantics.specs.Trees.{Met, with_met, recorded}
use Rattle.shim_semantics.specs.Endings.{history_of}
use Rattle.shim_run_log.specs.Maps.{IsNumbered, history_channel, histories_of, met_at, met_of, number_in}
use Rattle.shim_run_log.proofs.Mapped.{tied}

abbrev same : Channel → Channel → Bool
same = eq_by_cmp channel_order

same_self : (c : Channel) → same c c ≡ true
same_self c = (eq_by_cmp_equiv channel_order_total).refl c

same_both_ways : (c d : Channel) → same c d ≡ same d c
same_both_ways c d = (eq_by_cmp_equiv channel_order_total).symm c d

exact_same : (c d : Channel) → same c d ≡ true → c ≡ d
exact_same c d t = exact_channel c d (tied (channel_order c d) t)

not_both : (c d : Channel) → same c d ≡ false → c ≢ d
not_both c d f e = true≢false (sym (same_self c) ∙ ap (same c) e ∙ f)

-- what a list has at a number where an element was changed or added
get_set : {A : Type 0} (xs : List A) (i : ℕ) (x y : A) → slice_get xs i ≡ Some x → slice_get (slice_set xs i y) i ≡ Some y
get_set xs i x y e =
    let below = slice_get_within xs i x e in
    slice_get-get_or (slice_set xs i y) i y (omega (arith, below, length-set xs i y)) ∙ ap Some (get_or-set_same xs i y y below)

put_there : {A : Type 0} (xs : List A) (i j : ℕ) (y : A) → j ≢ i → slice_get (slice_set xs i y) j ≡ slice_get xs j
put_there xs i j y other = elim (slice_get_cases xs j).1 [
  | inl h ↦ slice_get-get_or (slice_set xs i y) j h.0 (omega (arith, h.1, length-set xs i y)) ∙ ap Some (get_or-set_other xs i j y h.0 other) ∙ sym (slice_get-get_or xs j h.0 h.1)
  | inr h ↦ slice_get_past (slice_set xs i y) j (omega (arith, h.0, length-set xs i y)) ∙ sym h.1
]

pub put_same : {A : Type 0} (xs : List A) (i : ℕ) (x : A) → slice_get xs i ≡ Some x → slice_set xs i x ≡ xs
put_same xs i x e = ap (slice_set xs i) (sym (get_or_from_slice_get xs i x x e)) ∙ set-get_or xs i x

at_end : {A : Type 0} (xs : List A) (x : A) → slice_get (xs ++ x ∷ []) (length xs) ≡ Some x
at_end xs x = slice_get-get_or (xs ++ x ∷ []) (length xs) x (omega (arith, length-append xs (x ∷ []))) ∙ ap Some (get_or_push xs x x (length xs) refl)

before_end : {A : Type 0} (xs : List A) (x : A) (i : ℕ) (y : A) → slice_get xs i ≡ Some y → slice_get (xs ++ x ∷ []) i ≡ Some y
before_end xs x i y e =
    let below = slice_get_within xs i y e in
    slice_get-get_or (xs ++ x ∷ []) i y (omega (arith, below, length-append xs (x ∷ []))) ∙ ap Some (get_or_append_left xs (x ∷ []) y i below ∙ get_or_from_slice_get xs i y y e)

either_end : {A : Type 0} (xs : List A) (x : A) (i : ℕ) (y : A) → slice_get (xs ++ x ∷ []) i ≡ Some y → (slice_get xs i ≡ Some y) ⊎ ((i ≡ length xs) × (x ≡ y))
either_end [] x zero y e = inr (refl, same_Some x y e)
either_end [] x (suc i) y e = absurd (none-some y e)
either_end (z ∷ xs) x zero y e = inl e
either_end (z ∷ xs) x (suc i) y e = elim (either_end xs x i y e) [ inl h ↦ inl h | inr h ↦ inr (ap suc h.0, h.1) ]

-- A number at which a channel is has a history.
some_of : {A B : Type 0} (f : A → B) (o : Option A) (y : B) → option_map f o ≡ Some y → (x : A) × (o ≡ Some x) × (f x ≡ y)
some_of f None y e = absurd (none-some y e)
some_of f (Some x) y e = (x, refl, same_Some (f x) y e)

pub kept_at : (kept : List History) (i : ℕ) (c : Channel) → history_channel kept i ≡ Some c → (h : History) × (slice_get kept i ≡ Some h) × (h.chan.channel ≡ c)
kept_at kept i c = some_of (λ (h : History). h.chan.channel) (slice_get kept i) c

pub within : (kept : List History) (i : ℕ) (c : Channel) → history_channel kept i ≡ Some c → i < length kept
within kept i c e = let h = kept_at kept i c e in slice_get_within kept i h.0 h.1

pub met_there : (kept : List History) (i : ℕ) (h : History) → slice_get kept i ≡ Some h → met_at kept i ≡ met_of h
met_there kept i h e = ap (λ o. unwrap_or (option_map met_of o) (record { name = 0; values = [] })) e

pub history_is : (kept : List History) (i : ℕ) (h : History) (c : Channel) → slice_get kept i ≡ Some h → history_channel kept i ≡ Some c → h ≡ history_of (c, met_at kept i)
history_is kept i h c e at =
    let is : h.chan.channel ≡ c = same_Some h.chan.channel c (sym (ap (option_map (λ (h : History). h.chan.channel)) e) ∙ at) in
    λ k. history_of (is k, sym (met_there kept i h e) k)

-- An entry for each number, whatever its channel.
mapped : {A B : Type 0} (f : A → B) (b : Bool) (x : A) (o : Option A) → option_map f (cond b (Some x) o) ≡ cond b (Some (f x)) (option_map f o)
mapped f true x o = refl
mapped f false x o = refl

found : (f : ℕ → Met) (es : List (NamedChannel × ℕ)) (q : Channel) → find channel_order q (map (λ e. (e.0.channel, f e.1)) es) ≡ option_map f (lookup (is_at (λ k. channel_order q k.channel)) es)
found f [] q = refl
found f (e ∷ es) q =
    ap (cond (same q e.0.channel) (Some (f e.1))) (found f es q)
    ∙ sym (mapped f (same q e.0.channel) e.1 (lookup (is_at (λ k. channel_order q k.channel)) es))

pub shown : (numbers : BTreeMap NamedChannel ℕ) (kept : List History) (q : Channel) → get (histories_of numbers kept) q ≡ option_map (met_at kept) (number_in numbers q)
shown numbers kept q = get-from_entries channel_order_total (map (λ e. (e.0.channel, met_at kept e.1)) numbers.entries) q ∙ found (met_at kept) numbers.entries q

pub had : (numbers : BTreeMap NamedChannel ℕ) (kept : List History) (c : Channel) (i : ℕ) → number_in numbers c ≡ Some i → (h : History) → slice_get kept i ≡ Some h → get (histories_of numbers kept) c ≡ Some (met_of h)
had numbers kept c i at h there = shown numbers kept c ∙ ap (option_map (met_at kept)) at ∙ ap Some (met_there kept i h there)

pub had_none : (numbers : BTreeMap NamedChannel ℕ) (kept : List History) (c : Channel) → number_in numbers c ≡ None → get (histories_of numbers kept) c ≡ None
had_none numbers kept c absent = shown numbers kept c ∙ ap (option_map (met_at kept)) absent

-- One history is changed, and it stays that of its channel.
module _ (numbers : BTreeMap NamedChannel ℕ) (kept : List History) (numbered : IsNumbered numbers kept) (c : Channel) (i : ℕ) (at : number_in numbers c ≡ Some i) (h new : History) (there : slice_get kept i ≡ Some h) where
  pub put_met : (b : Bool) (q : Channel) (o : Option ℕ) → same q c ≡ b → number_in numbers q ≡ o → option_map (met_at (slice_set kept i new)) o ≡ cond b (Some (met_of new)) (option_map (met_at kept) o)
  put_met true q o t is =
      ap (option_map (met_at (slice_set kept i new))) (sym is ∙ ap (number_in numbers) (exact_same q c t) ∙ at)
      ∙ ap Some (met_there (slice_set kept i new) i new (get_set kept i h new there))
  put_met false q None f is = refl
  put_met false q (Some j) f is =
      let other : j ≢ i = λ e. not_both q c f (same_Some q c (sym ((numbered q j).0 is) ∙ ap (history_channel kept) e ∙ (numbered c i).0 at)) in
      ap (λ o. Some (unwrap_or (option_map met_of o) (record { name = 0; values = [] }))) (put_there kept i j new other)

  pub changed : histories_of numbers (slice_set kept i new) ≡ insert (histories_of numbers kept) c (met_of new)
  changed = same_map channel_order_total exact_channel _ _ (λ q.
      shown numbers (slice_set kept i new) q
      ∙ put_met (same q c) q (number_in numbers q) refl refl
      ∙ ap (cond (same q c) (Some (met_of new))) (sym (shown numbers kept q))
      ∙ sym (get-insert channel_order_total (histories_of numbers kept) c (met_of new) q))

  pub recorded_more : (name : ℕ) (v : ℤ) → new ≡ record { chan = h.chan; values = h.values ++ v ∷ [] } → histories_of numbers (slice_set kept i new) ≡ recorded (histories_of numbers kept) c name v
  recorded_more name v is = changed ∙ ap (λ n. insert (histories_of numbers kept) c (met_of n)) is ∙ ap (λ o. insert (histories_of numbers kept) c (with_met name v o)) (sym (had numbers kept c i at h there))

  same_channel_at : h.chan ≡ new.chan → (j : ℕ) → history_channel (slice_set kept i new) j ≡ history_channel kept j
  same_channel_at chan j = elim (eqb_tells j i) [
    | inl e ↦ ap (history_channel (slice_set kept i new)) e.1
        ∙ ap (option_map (λ (h : History). h.chan.channel)) (get_set kept i h new there)
        ∙ ap (λ k. Some k.channel) (sym chan)
        ∙ sym (ap (option_map (λ (h : History). h.chan.channel)) there)
        ∙ sym (ap (history_channel kept) e.1)
    | inr e ↦ ap (option_map (λ (h : History). h.chan.channel)) (put_there kept i j new e.1)
  ]

  pub numbered_more : h.chan ≡ new.chan → IsNumbered numbers (slice_set kept i new)
  numbered_more chan d j = (λ e. same_channel_at chan j ∙ (numbered d j).0 e, λ e. (numbered d j).1 (sym (same_channel_at chan j) ∙ e))

-- A history is added, of a channel that had none.
module _ (numbers after : BTreeMap NamedChannel ℕ) (kept : List History) (numbered : IsNumbered numbers kept) (first : History) (absent : number_in numbers first.chan.channel ≡ None)
    (updated : (q : Channel) → number_in after q ≡ cond (same first.chan.channel q) (Some (length kept)) (number_in numbers q)) where
  add_met : (b : Bool) (q : Channel) (o : Option ℕ) → number_in numbers q ≡ o → option_map (met_at (kept ++ first ∷ [])) (cond b (Some (length kept)) o) ≡ cond b (Some (met_of first)) (option_map (met_at kept) o)
  add_met true q o is = ap Some (met_there (kept ++ first ∷ []) (length kept) first (at_end kept first))
  add_met false q None is = refl
  add_met false q (Some j) is =
      let h = kept_at kept j q ((numbered q j).0 is) in
      ap Some (met_there (kept ++ first ∷ []) j h.0 (before_end kept first j h.0 h.1) ∙ sym (met_there kept j h.0 h.1))

  pub added : histories_of after (kept ++ first ∷ []) ≡ insert (histories_of numbers kept) first.chan.channel (met_of first)
  added = same_map channel_order_total exact_channel _ _ (λ q.
      shown after (kept ++ first ∷ []) q
      ∙ ap (option_map (met_at (kept ++ first ∷ []))) (updated q)
      ∙ add_met (same first.chan.channel q) q (number_in numbers q) refl
      ∙ ap (cond (same first.chan.channel q) (Some (met_of first))) (sym (shown numbers kept q))
      ∙ ap (λ b. cond b (Some (met_of first)) (get (histories_of numbers kept) q)) (same_both_ways first.chan.channel q)
      ∙ sym (get-insert channel_order_total (histories_of numbers kept) first.chan.channel (met_of first) q))

  place_is : (b : Bool) (q : Channel) (j : ℕ) → same first.chan.channel q ≡ b → cond b (Some (length kept)) (number_in numbers q) ≡ Some j → history_channel (kept ++ first ∷ []) j ≡ Some q
  place_is true q j t e =
      ap (history_channel (kept ++ first ∷ [])) (sym (same_Some (length kept) j e))
      ∙ ap (option_map (λ (h : History). h.chan.channel)) (at_end kept first)
      ∙ ap Some (exact_same first.chan.channel q t)
  place_is false q j f e =
      let h = kept_at kept j q ((numbered q j).0 e) in
      ap (option_map (λ (h : History). h.chan.channel)) (before_end kept first j h.0 h.1) ∙ ap Some h.2

  listed : (b : Bool) (q : Channel) (j : ℕ) (h : History) → same first.chan.channel q ≡ b → h.chan.channel ≡ q → (slice_get kept j ≡ Some h) ⊎ ((j ≡ length kept) × (first ≡ h)) → cond b (Some (length kept)) (number_in numbers q) ≡ Some j
  listed true q j h t is (inl e) =
      absurd (none-some j (sym absent ∙ ap (number_in numbers) (exact_same first.chan.channel q t) ∙ (numbered q j).1 (ap (option_map (λ (h : History). h.chan.channel)) e ∙ ap Some is)))
  listed true q j h t is (inr e) = ap Some (sym e.0)
  listed false q j h f is (inl e) = (numbered q j).1 (ap (option_map (λ (h : History). h.chan.channel)) e ∙ ap Some is)
  listed false q j h f is (inr e) = absurd (not_both first.chan.channel q f (ap (λ (h : History). h.chan.channel) e.1 ∙ is))

  pub numbered_added : IsNumbered after (kept ++ first ∷ [])
  numbered_added q j = (
    λ e. place_is _ q j refl (sym (updated q) ∙ e),
    λ e. let h = kept_at (kept ++ first ∷ []) j q e in
        updated q ∙ listed _ q j h.0 refl h.2 (either_end kept first j h.0 h.1),
  )

-- a channel that had no history has one with this value
pub recorded_first : (numbers : BTreeMap NamedChannel ℕ) (kept : List History) (first : History) (c : Channel) (name : ℕ) (v : ℤ) (m : FinMap channel_order Met) → number_in numbers c ≡ None → first ≡ record { chan = record { channel = c; name = name }; values = v ∷ [] }
    → m ≡ insert (histories_of numbers kept) first.chan.channel (met_of first) → m ≡ recorded (histories_of numbers kept) c name v
recorded_first numbers kept first c name v m absent is e =
    e ∙ ap (λ (h : History). insert (histories_of numbers kept) h.chan.channel (met_of h)) is
    ∙ ap (λ o. insert (histories_of numbers kept) c (with_met name v o)) (sym (had_none numbers kept c absent))

-- what the code's map says of a key that was put in, by channel
pub updated_at : (numbers after : BTreeMap NamedChannel ℕ) (kept : List History) (k first : NamedChannel) (n : ℕ)
    → ((q : NamedChannel) → number_in after q.channel ≡ cond (same k.channel q.channel) (Some n) (number_in numbers q.channel)) → k ≡ first → n ≡ length kept
    → (q : Channel) → number_in after q ≡ cond (same first.channel q) (Some (length kept)) (number_in numbers q)
updated_at numbers after kept k first n put is len q = put (record { channel = q; name = 0 }) ∙ (λ i. cond (same (is i).channel q) (Some (len i)) (number_in numbers q))

-- Whether the history at a number is a channel's.
pub is_of_there : (kept : List History) (i : ℕ) (h : History) (c : Channel) (b : Bool) → slice_get kept i ≡ Some h → b ≡ same_channel h.chan.channel c → IsTrue b ↔ (history_channel kept i ≡ Some c)
is_of_there kept i h c b there is =
    let at : history_channel kept i ≡ Some h.chan.channel = ap (option_map (λ (h : History). h.chan.channel)) there in (
      λ t. at ∙ ap Some (exact_same h.chan.channel c (sym (channel_ties h.chan.channel c) ∙ sym is ∙ t)),
      λ e. is ∙ channel_ties h.chan.channel c ∙ ap (same h.chan.channel) (sym (same_Some h.chan.channel c (sym at ∙ e))) ∙ same_self h.chan.channel,
    )

pub is_of_none : (kept : List History) (i : ℕ) (c : Channel) → slice_get kept i ≡ None → IsTrue false ↔ (history_channel kept i ≡ Some c)
is_of_none kept i c none = (
  λ t. absurd (true≢false (sym t)),
  λ e. absurd (none-some c (sym (ap (option_map (λ (h : History). h.chan.channel)) none) ∙ e)),
)
