-- Channels that were given and are shared, gathered and put in order; and their pairs.
use Rattle.std.proofs.Common.{◌≡◌, ◌≢◌, ◌↔◌, ◌⊎◌, ℕ, zero, suc, ◌+◌, ◌-◌, ◌<◌, ◌≤◌, Bool, true, false, Option, Some, None, List, [], ◌∷◌, ◌++◌, cond, drop, get_or, length, inl, inr, refl, sym, ap, subst, ◌∙◌, arith}
use Rattle.std.specs.Prelude.{slice_get, Result, Ok, Err, IfOk}
use Rattle.std.specs.Option.{option_map}
use Rattle.std.specs.List.Sorted.{IsPermutation, IsSorted}
use Rattle.std.specs.Ordering.{is_lt, is_eq, ordering_reverse}
use Rattle.std.specs.declared.cmp.Ordering.{Ordering}
use Rattle.std.specs.declared.cmp.Ordering.TheVariants.{Less, Equal, Greater}
use Rattle.std.proofs.lemmas.List.{append_assoc}
use Rattle.std.proofs.lemmas.List.Sorted.{Contains-permutation, IsPermutation-sym}
use Rattle.std.proofs.lemmas.Option.{slice_get_read, slice_get_within, get_or_from_slice_get}
use Rattle.shim_base.specs.Paths.{Channel, NamedChannel, same_channel, channel_order}
use Rattle.shim_base.specs.PathLaws.{channel_order_total, channel_ties}
use Rattle.shim_base.proofs.Facts.{some_same, none_some}
use Rattle.shim_base.proofs.SamePaths.{same_channel_is, same_channel_refl}
use Rattle.shim_local.specs.Process.{Ops}
use Rattle.shim_local.specs.Laws.{AnyOf, IsGiven}
use Rattle.shim_laws_table.specs.Counts.{Tally, fresh_tally}
use Rattle.shim_records.specs.Members.{IsAmong}
use Rattle.shim_records.specs.Pairs.{tally, chans_of, IsOrdered, pair_of, tally_for, min_label_of}
use Rattle.shim_records.specs.Fresh.{shared_of, shared_given, channels, RisesFrom, Rises, is_after, comes_after, IsOneMore, skipped, added, IsPaired, FreshPairs, FreshSharing}
use Rattle.shim_records.specs.declared.pair.Pair.{Pair}
use Rattle.shim_records.proofs.SharingFound.{known_pair}

-- ---- one of these

among_left : (c : Channel) (xs ys : List Channel) → IsAmong c xs → IsAmong c (xs ++ ys)
among_left c [] ys h = none_some c h.1
among_left c (x ∷ xs) ys (zero, e) = (zero, e)
among_left c (x ∷ xs) ys (suc i, e) = let w = among_left c xs ys (i, e) in (suc w.0, w.1)

among_right : (c : Channel) (xs ys : List Channel) → IsAmong c ys → IsAmong c (xs ++ ys)
among_right c [] ys h = h
among_right c (x ∷ xs) ys h = let w = among_right c xs ys h in (suc w.0, w.1)

among_either : (c : Channel) (xs ys : List Channel) → IsAmong c (xs ++ ys) → IsAmong c xs ⊎ IsAmong c ys
among_either c [] ys h = inr h
among_either c (x ∷ xs) ys (zero, e) = inl (zero, e)
among_either c (x ∷ xs) ys (suc i, e) = elim (among_either c xs ys (i, e)) [ inl w ↦ inl (suc w.0, w.1) | inr w ↦ inr w ]

channels_both : (xs ys : List NamedChannel) → channels (xs ++ ys) ≡ channels xs ++ channels ys
channels_both [] ys = refl
channels_both (x ∷ xs) ys = ap (λ z. x.channel ∷ z) (channels_both xs ys)

-- ---- what was given and is shared

module _ {S : Type 0} (o : Ops S) (p : S) where
  -- a channel is one of these named ones
  abbrev Named : Channel → List NamedChannel → Type 0
  Named c ds = (at : ℕ) × (d : NamedChannel) × (slice_get ds at ≡ Some d) × (d.channel ≡ c)

  shared_forth : (c : Channel) (ds : List NamedChannel) → IsAmong c (channels (shared_of o p ds)) → (o.shares p c ≡ true) × Named c ds
  shared_forth c [] h = none_some c h.1
  shared_forth c (d ∷ ds) h = on (o.shares p d.channel) refl h (shared_forth c ds)
    where
      further : Named c ds → Named c (d ∷ ds)
      further r = (suc r.0, r.1, r.2, r.3)

      on : (b : Bool) → o.shares p d.channel ≡ b → IsAmong c (channels (cond b (d ∷ shared_of o p ds) (shared_of o p ds))) → (IsAmong c (channels (shared_of o p ds)) → (o.shares p c ≡ true) × Named c ds) → (o.shares p c ≡ true) × Named c (d ∷ ds)
      on true w (zero, e) f = let same = some_same d.channel c e in (ap (o.shares p) (sym same) ∙ w, (0, d, refl, same))
      on true w (suc i, e) f = let r = f (i, e) in (r.0, further r.1)
      on false w y f = let r = f y in (r.0, further r.1)

  shared_back : (c : Channel) (ds : List NamedChannel) → o.shares p c ≡ true → Named c ds → IsAmong c (channels (shared_of o p ds))
  shared_back c [] s h = none_some h.1 h.2
  shared_back c (d ∷ ds) s (zero, e, f, g) =
      let same : d.channel ≡ c = ap (λ z. z.channel) (some_same d e f) ∙ g in
      subst (λ b. IsAmong c (channels (cond b (d ∷ shared_of o p ds) (shared_of o p ds)))) (sym (ap (o.shares p) same ∙ s)) (0, ap Some same)
  shared_back c (d ∷ ds) s (suc i, e, f, g) = on (o.shares p d.channel) (shared_back c ds s (i, e, f, g))
    where
      on : (b : Bool) → IsAmong c (channels (shared_of o p ds)) → IsAmong c (channels (cond b (d ∷ shared_of o p ds) (shared_of o p ds)))
      on true y = (suc y.0, y.1)
      on false y = y

  given_forth : (c : Channel) (ks : List S) → IsAmong c (channels (shared_given o p ks)) → (o.shares p c ≡ true) × AnyOf (λ k. IsGiven o k c) ks
  given_forth c [] h = none_some c h.1
  given_forth c (k ∷ ks) h =
      elim (among_either c (channels (shared_of o p (o.given k))) (channels (shared_given o p ks)) (subst (IsAmong c) (channels_both (shared_of o p (o.given k)) (shared_given o p ks)) h)) [
        | inl w ↦ let r = shared_forth c (o.given k) w in (r.0, inl r.1)
        | inr w ↦ let r = given_forth c ks w in (r.0, inr r.1)
      ]

  given_back : (c : Channel) (ks : List S) → o.shares p c ≡ true → AnyOf (λ k. IsGiven o k c) ks → IsAmong c (channels (shared_given o p ks))
  given_back c (k ∷ ks) s (inl h) =
      subst (IsAmong c) (sym (channels_both (shared_of o p (o.given k)) (shared_given o p ks))) (among_left c (channels (shared_of o p (o.given k))) (channels (shared_given o p ks)) (shared_back c (o.given k) s h))
  given_back c (k ∷ ks) s (inr h) =
      subst (IsAmong c) (sym (channels_both (shared_of o p (o.given k)) (shared_given o p ks))) (among_right c (channels (shared_of o p (o.given k))) (channels (shared_given o p ks)) (given_back c ks s h))
  given_back c [] s h = absurd h

-- ---- sorted

channel_at : (ds : List NamedChannel) (i : ℕ) (d : NamedChannel) → slice_get ds i ≡ Some d → slice_get (channels ds) i ≡ Some d.channel
channel_at [] i d e = none_some d e
channel_at (x ∷ ds) zero d e = ap (λ z. Some z.channel) (some_same x d e)
channel_at (x ∷ ds) (suc i) d e = channel_at ds i d e

named_at : (ds : List NamedChannel) (i : ℕ) (c : Channel) → slice_get (channels ds) i ≡ Some c → (d : NamedChannel) × (slice_get ds i ≡ Some d) × (d.channel ≡ c)
named_at [] i c e = none_some c e
named_at (x ∷ ds) zero c e = (x, refl, some_same x.channel c e)
named_at (x ∷ ds) (suc i) c e = named_at ds i c e

shuffled : (c : Channel) (old new : List NamedChannel) → IsPermutation old new → IsAmong c (channels old) → IsAmong c (channels new)
shuffled c old new same h =
    let d = named_at old h.0 c h.1 in
    let w = Contains-permutation old new d.0 same (h.0, slice_get_within old h.0 d.0 d.1, get_or_from_slice_get old h.0 d.0 d.0 d.1) in
    (w.0, channel_at new w.0 d.0 (slice_get_read new (length new) w.0 d.0 refl w.1 (sym w.2)) ∙ ap Some d.2)

pub shuffled_both : (c : Channel) (old new : List NamedChannel) → IsPermutation old new → IsAmong c (channels old) ↔ IsAmong c (channels new)
shuffled_both c old new same = (shuffled c old new same, shuffled c new old (IsPermutation-sym old new same))

abbrev pub chan_order : NamedChannel → NamedChannel → Ordering
chan_order a b = channel_order a.channel b.channel

rises_from : (d : NamedChannel) (ds : List NamedChannel) → IsSorted chan_order (d ∷ ds) → RisesFrom d.channel (channels ds)
rises_from d [] h = tt
rises_from d (e ∷ ds) h = (h 0 d (omega arith) (omega arith), rises_from e ds (λ k x min_dead_label most. later k x (h (suc k) x (omega arith) (omega (arith, most)))))
  where
    later : (k : ℕ) (x : NamedChannel) → is_lt (chan_order (get_or (d ∷ e ∷ ds) (suc k + 1) x) (get_or (d ∷ e ∷ ds) (suc k) x)) ≡ false → is_lt (chan_order (get_or (e ∷ ds) (k + 1) x) (get_or (e ∷ ds) k x)) ≡ false
    later k x w = let same : suc k + 1 ≡ suc (k + 1) = omega arith in ap (λ z. is_lt (chan_order (get_or (d ∷ e ∷ ds) z x) (get_or (e ∷ ds) k x))) (sym same) ∙ w

pub sorted_rises : (ds : List NamedChannel) → IsSorted chan_order ds → Rises (channels ds)
sorted_rises [] h = tt
sorted_rises (d ∷ ds) h = rises_from d ds h

-- ---- gathered one by one

module _ {S : Type 0} (o : Ops S) (p : S) where
  pub none_left : (ds : List NamedChannel) (at : ℕ) → slice_get ds at ≡ None → shared_of o p (drop at ds) ≡ []
  none_left [] zero e = refl
  none_left [] (suc at) e = refl
  none_left (d ∷ ds) zero e = absurd cc
  none_left (d ∷ ds) (suc at) e = none_left ds at e

  drop_one : {A : Type 0} (xs : List A) (at : ℕ) (x : A) → slice_get xs at ≡ Some x → drop at xs ≡ x ∷ drop (at + 1) xs
  drop_one [] at x e = none_some x e
  drop_one (y ∷ xs) zero x e = ap (λ z. z ∷ xs) (some_same y x e)
  drop_one (y ∷ xs) (suc at) x e = let same : suc at + 1 ≡ suc (at + 1) = omega arith in drop_one xs at x e ∙ ap (λ n. x ∷ drop n (y ∷ xs)) (sym same)

  pub one_gathered : (ds xs ys : List NamedChannel) (at : ℕ) (d : NamedChannel) → slice_get ds at ≡ Some d → ys ≡ xs ++ cond (o.shares p d.channel) (d ∷ []) [] → ys ++ shared_of o p (drop (at + 1) ds) ≡ xs ++ shared_of o p (drop at ds)
  one_gathered ds xs ys at d e is =
      ap (λ z. z ++ shared_of o p (drop (at + 1) ds)) is ∙ (append_assoc xs (cond (o.shares p d.channel) (d ∷ []) []) (shared_of o p (drop (at + 1) ds))
      ∙ (ap (λ z. xs ++ z) (on (o.shares p d.channel)) ∙ ap (λ z. xs ++ shared_of o p z) (sym (drop_one ds at d e))))
    where
      on : (b : Bool) → cond b (d ∷ []) [] ++ shared_of o p (drop (at + 1) ds) ≡ cond b (d ∷ shared_of o p (drop (at + 1) ds)) (shared_of o p (drop (at + 1) ds))
      on true = refl
      on false = refl

-- ---- pairs one by one

abbrev LastRises : Option Pair → List Channel → Type 0
LastRises None cs = Rises cs
LastRises (Some p) cs = RisesFrom p.chan.channel cs

abbrev last_pair : List Pair → Option Pair
last_pair ps = slice_get ps (length ps - 1)

last_is : (ps : List Pair) (p : Pair) → last_pair (ps ++ p ∷ []) ≡ Some p
last_is ps p = ap (slice_get (ps ++ p ∷ [])) (long ps p) ∙ at_end ps p
  where
    one_more : (ps : List Pair) (p : Pair) → length (ps ++ p ∷ []) ≡ suc (length ps)
    one_more [] p = refl
    one_more (x ∷ ps) p = ap suc (one_more ps p)

    long : (ps : List Pair) (p : Pair) → length (ps ++ p ∷ []) - 1 ≡ length ps
    long ps p = let w = one_more ps p in omega (arith, w)

    at_end : (ps : List Pair) (p : Pair) → slice_get (ps ++ p ∷ []) (length ps) ≡ Some p
    at_end [] p = refl
    at_end (x ∷ ps) p = at_end ps p

get_either : {A : Type 0} (xs : List A) (y x : A) (i : ℕ) → slice_get (xs ++ y ∷ []) i ≡ Some x → (slice_get xs i ≡ Some x) ⊎ ((i ≡ length xs) × (x ≡ y))
get_either [] y x zero e = inr (refl, sym (some_same y x e))
get_either [] y x (suc i) e = none_some x e
get_either (z ∷ xs) y x zero e = inl e
get_either (z ∷ xs) y x (suc i) e = elim (get_either xs y x i e) [ inl w ↦ inl w | inr w ↦ inr (ap suc w.0, w.1) ]

chans_both : (ps : List Pair) (p : Pair) → chans_of (ps ++ p ∷ []) ≡ chans_of ps ++ p.chan.channel ∷ []
chans_both [] p = refl
chans_both (x ∷ ps) p = ap (λ z. x.chan.channel ∷ z) (chans_both ps p)

chans_long : (ps : List Pair) → length (chans_of ps) ≡ length ps
chans_long [] = refl
chans_long (x ∷ ps) = ap suc (chans_long ps)

module _ {S : Type 0} (o : Ops S) (ks : List S) (whole : List Channel) where
  -- pairs of some of the channels, and the others that are left
  pub record SoFar (pairs : List Pair) (rest : List Channel) : Type 0 where
    pub ordered : IsOrdered (chans_of pairs)
    pub right : (i : ℕ) (p : Pair) → slice_get pairs i ≡ Some p → (tally p ≡ fresh_tally o p.chan.channel ks) × (p.min_dead_label ≡ None) × FreshSharing o p.chan.channel ks p.sharing
    pub forth : (c : Channel) → IsAmong c (chans_of pairs) ⊎ IsAmong c rest → IsAmong c whole
    pub back : (c : Channel) → IsAmong c whole → IsAmong c (chans_of pairs) ⊎ IsAmong c rest
    pub rises : LastRises (last_pair pairs) rest

  pub at_first : (pairs : List Pair) → pairs ≡ [] → Rises whole → SoFar pairs whole
  at_first pairs e h = subst (λ z. SoFar z whole) (sym e) (record {
    ordered = record { order = λ i j a b less x y. none_some a x };
    right = λ i p x. none_some p x;
    forth = λ c h. elim h [ inl w ↦ none_some c w.1 | inr w ↦ w ];
    back = λ c w. inr w;
    rises = h;
  })

  -- the last pair comes before the channel
  module _ (pairs : List Pair) (d : Channel) (rest : List Channel) (s : SoFar pairs (d ∷ rest)) where
    abbrev q : Option Pair
    q = last_pair pairs

    rises_on : (x : Option Pair) → LastRises x (d ∷ rest) → RisesFrom d rest
    rises_on None h = h
    rises_on (Some p) h = h.1

    all_before : comes_after pairs d ≡ true → (i : ℕ) (a : Channel) → slice_get (chans_of pairs) i ≡ Some a → channel_order a d ≡ Less
    all_before after i a e = on (last_pair pairs) refl
      where
        less_is : (r : Ordering) → is_lt r ≡ true → r ≡ Less
        less_is Less w = refl
        less_is Equal w = absurd cc
        less_is Greater w = absurd cc

        inside : i < length (chans_of pairs)
        inside = slice_get_within (chans_of pairs) i a e

        chan_at : (ps : List Pair) (k : ℕ) (p : Pair) → slice_get ps k ≡ Some p → slice_get (chans_of ps) k ≡ Some p.chan.channel
        chan_at [] k p f = none_some p f
        chan_at (x ∷ ps) zero p f = ap (λ z. Some z.chan.channel) (some_same x p f)
        chan_at (x ∷ ps) (suc k) p f = chan_at ps k p f

        same_or_not : (j k : ℕ) → (j ≡ k) ⊎ (j ≢ k)
        same_or_not zero zero = inl refl
        same_or_not zero (suc k) = inr (λ w. absurd cc)
        same_or_not (suc j) zero = inr (λ w. absurd cc)
        same_or_not (suc j) (suc k) = elim (same_or_not j k) [ inl w ↦ inl (ap suc w) | inr w ↦ inr (λ z. w cc) ]

        between : (j k : ℕ) → j ≢ k → j ≤ k → j < k
        between zero zero u w = absurd (u refl)
        between zero (suc k) u w = omega arith
        between (suc j) zero u w = absurd (omega (arith, w))
        between (suc j) (suc k) u w = let v = between j k (λ z. u (ap suc z)) (omega (arith, w)) in omega (arith, v)

        on : (x : Option Pair) → last_pair pairs ≡ x → channel_order a d ≡ Less
        on None w = none_left_out (length pairs) refl
          where
            none_left_out : (n : ℕ) → length pairs ≡ n → channel_order a d ≡ Less
            none_left_out n z = let long = chans_long pairs in let less = inside in absurd (there_is pairs (length pairs - 1) (omega (arith, long, less)) w)
              where
                there_is : (ps : List Pair) (k : ℕ) → k < length ps → slice_get ps k ≡ None → ⊥
                there_is [] k h f = omega (arith, h)
                there_is (x ∷ ps) zero h f = cc
                there_is (x ∷ ps) (suc k) h f = there_is ps k (omega (arith, h)) f
        on (Some p) w =
            let last_less : channel_order p.chan.channel d ≡ Less = less_is (channel_order p.chan.channel d) (ap (λ z. is_after z d) (sym w) ∙ after) in
            let at_last = chan_at pairs (length pairs - 1) p w in
            elim (same_or_not i (length pairs - 1)) [
              | inl z ↦ ap (λ v. channel_order v d) (some_same a p.chan.channel (sym e ∙ (ap (slice_get (chans_of pairs)) z ∙ at_last))) ∙ last_less
              | inr z ↦
                  let long = chans_long pairs in
                  let less = inside in
                  channel_order_total.trans a p.chan.channel d (s.ordered.order i (length pairs - 1) a p.chan.channel (between i (length pairs - 1) z (omega (arith, long, less))) e at_last) last_less
            ]

    pub one_added : (behind : List Pair) (p : Pair) → comes_after pairs d ≡ true → behind ≡ pairs ++ p ∷ [] → p.chan.channel ≡ d → tally p ≡ fresh_tally o d ks → p.min_dead_label ≡ None → FreshSharing o d ks p.sharing → SoFar behind rest
    one_added behind p after is chan says label sharing = subst (λ z. SoFar z rest) (sym is) (record {
      ordered = record {
        order = λ i j a b less x y.
            let x' = ap (λ z. slice_get z i) (sym (chans_both pairs p)) ∙ x in
            let y' = ap (λ z. slice_get z j) (sym (chans_both pairs p)) ∙ y in
            order_at i j a b less (get_either (chans_of pairs) p.chan.channel a i x') (get_either (chans_of pairs) p.chan.channel b j y');
      };
      right = λ i q e. elim (get_either pairs p q i e) [
        | inl w ↦ s.right i q w
        | inr w ↦ subst (λ z. (tally z ≡ fresh_tally o z.chan.channel ks) × (z.min_dead_label ≡ None) × FreshSharing o z.chan.channel ks z.sharing) (sym w.1) (says ∙ ap (λ z. fresh_tally o z ks) (sym chan), label, subst (λ z. FreshSharing o z ks p.sharing) (sym chan) sharing)
      ];
      forth = λ c h. s.forth c (elim h [
        | inl w ↦ elim (among_either c (chans_of pairs) (p.chan.channel ∷ []) (subst (IsAmong c) (chans_both pairs p) w)) [ inl v ↦ inl v | inr v ↦ inr (first v) ]
        | inr w ↦ inr (suc w.0, w.1)
      ]);
      back = λ c h. elim (s.back c h) [
        | inl w ↦ inl (subst (IsAmong c) (sym (chans_both pairs p)) (among_left c (chans_of pairs) (p.chan.channel ∷ []) w))
        | inr w ↦ later c w
      ];
      rises = subst (λ z. LastRises z rest) (sym (last_is pairs p)) (subst (λ z. RisesFrom z rest) (sym chan) (rises_on (last_pair pairs) s.rises));
    })
      where
        first : {c : Channel} → IsAmong c (p.chan.channel ∷ []) → IsAmong c (d ∷ rest)
        first (zero, e) = (0, ap Some (sym chan) ∙ e)
        first (suc i, e) = none_some _ e

        later : (c : Channel) → IsAmong c (d ∷ rest) → IsAmong c (chans_of (pairs ++ p ∷ [])) ⊎ IsAmong c rest
        later c (zero, e) = inl (subst (IsAmong c) (sym (chans_both pairs p)) (among_right c (chans_of pairs) (p.chan.channel ∷ []) (0, ap Some chan ∙ e)))
        later c (suc i, e) = inr (i, e)

        order_at : (i j : ℕ) (a b : Channel) → i < j → (slice_get (chans_of pairs) i ≡ Some a) ⊎ ((i ≡ length (chans_of pairs)) × (a ≡ p.chan.channel)) → (slice_get (chans_of pairs) j ≡ Some b) ⊎ ((j ≡ length (chans_of pairs)) × (b ≡ p.chan.channel)) → channel_order a b ≡ Less
        order_at i j a b less (inl x) (inl y) = s.ordered.order i j a b less x y
        order_at i j a b less (inl x) (inr y) = ap (channel_order a) (y.1 ∙ chan) ∙ all_before after i a x
        order_at i j a b less (inr x) (inl y) = let w = slice_get_within (chans_of pairs) j b y in let v = x.0 in absurd (omega (arith, less, w, v))
        order_at i j a b less (inr x) (inr y) = let w = x.0 in let v = y.0 in absurd (omega (arith, less, w, v))

    pub one_skipped : (behind : List Pair) → comes_after pairs d ≡ false → behind ≡ pairs → SoFar behind rest
    one_skipped behind after is = subst (λ z. SoFar z rest) (sym is) (on (last_pair pairs) refl s.rises)
      where
        equal_is : (r t : Ordering) → r ≡ ordering_reverse t → is_lt r ≡ false → is_lt t ≡ false → t ≡ Equal
        equal_is r Less e f g = absurd cc
        equal_is r Equal e f g = refl
        equal_is r Greater e f g = absurd (never (sym (ap is_lt e) ∙ f))
          where
            never : true ≡ false → ⊥
            never w = cc

        chan_at : (ps : List Pair) (k : ℕ) (p : Pair) → slice_get ps k ≡ Some p → slice_get (chans_of ps) k ≡ Some p.chan.channel
        chan_at [] k p f = none_some p f
        chan_at (x ∷ ps) zero p f = ap (λ z. Some z.chan.channel) (some_same x p f)
        chan_at (x ∷ ps) (suc k) p f = chan_at ps k p f

        later : (c : Channel) → IsAmong c (d ∷ rest) → slice_get (chans_of pairs) (length pairs - 1) ≡ Some d → IsAmong c (chans_of pairs) ⊎ IsAmong c rest
        later c (zero, e) there = inl (length pairs - 1, there ∙ e)
        later c (suc i, e) there = inr (i, e)

        on : (x : Option Pair) → last_pair pairs ≡ x → LastRises x (d ∷ rest) → SoFar pairs rest
        on None w h = absurd (never (sym (ap (λ z. is_after z d) w) ∙ after))
          where
            never : true ≡ false → ⊥
            never z = cc
        on (Some p) w h =
            let behind_not : is_lt (channel_order p.chan.channel d) ≡ false = ap (λ z. is_after z d) (sym w) ∙ after in
            let equal = equal_is (channel_order d p.chan.channel) (channel_order p.chan.channel d) (channel_order_total.antisymm d p.chan.channel) h.0 behind_not in
            let same : p.chan.channel ≡ d = same_channel_is p.chan.channel d (channel_ties p.chan.channel d ∙ ap is_eq equal) in
            let there = chan_at pairs (length pairs - 1) p w in
            record {
              ordered = s.ordered;
              right = s.right;
              forth = λ c y. s.forth c (elim y [ inl v ↦ inl v | inr v ↦ inr (suc v.0, v.1) ]);
              back = λ c y. elim (s.back c y) [ inl v ↦ inl v | inr v ↦ later c v (there ∙ ap Some same) ];
              rises = subst (λ z. LastRises z rest) (sym w) (subst (λ z. RisesFrom z rest) (sym same) h.1);
            }

    pub one_more_pair : (behind : List Pair) → IsOneMore o ks d pairs behind → SoFar behind rest
    one_more_pair behind (skipped after is) = one_skipped behind after is
    one_more_pair behind (added p after is chan says label sharing) = one_added behind p after is chan says label sharing

  pub all_paired : (pairs : List Pair) (rest : List Channel) → rest ≡ [] → SoFar pairs rest → IsPaired o ks whole pairs
  all_paired pairs rest e s = record {
    ordered = s.ordered;
    right = s.right;
    there = λ c. ((λ h. s.forth c (inl h)), (λ h. elim (s.back c h) [ inl w ↦ w | inr w ↦ none_some c (ap (λ z. slice_get z w.0) (sym e) ∙ w.1) ]));
  }

-- ---- as the pairs of a fork

pair_found : (c : Channel) (ps : List Pair) (p : Pair) → pair_of c ps ≡ Some p → (i : ℕ) × (slice_get ps i ≡ Some p) × (p.chan.channel ≡ c)
pair_found c [] p e = none_some p e
pair_found c (x ∷ ps) p e = on (same_channel x.chan.channel c) refl e (pair_found c ps p)
  where
    on : (b : Bool) → same_channel x.chan.channel c ≡ b → cond b (Some x) (pair_of c ps) ≡ Some p → (pair_of c ps ≡ Some p → (i : ℕ) × (slice_get ps i ≡ Some p) × (p.chan.channel ≡ c)) → (i : ℕ) × (slice_get (x ∷ ps) i ≡ Some p) × (p.chan.channel ≡ c)
    on true w e f = (0, e, ap (λ z. z.chan.channel) (sym (some_same x p e)) ∙ same_channel_is x.chan.channel c w)
    on false w e f = let r = f e in (suc r.0, r.1, r.2)

pair_there : (c : Channel) (ps : List Pair) → IsAmong c (chans_of ps) → (p : Pair) × (pair_of c ps ≡ Some p)
pair_there c [] h = none_some c h.1
pair_there c (x ∷ ps) (zero, e) = (x, ap (λ b. cond b (Some x) (pair_of c ps)) (ap (λ z. same_channel z c) (some_same x.chan.channel c e) ∙ same_channel_refl c))
pair_there c (x ∷ ps) (suc i, e) = on (same_channel x.chan.channel c) (pair_there c ps (i, e))
  where
    on : (b : Bool) → (p : Pair) × (pair_of c ps ≡ Some p) → (p : Pair) × (cond b (Some x) (pair_of c ps) ≡ Some p)
    on true h = (x, refl)
    on false h = h

chan_among : (c : Channel) (ps : List Pair) (i : ℕ) (p : Pair) → slice_get ps i ≡ Some p → p.chan.channel ≡ c → IsAmong c (chans_of ps)
chan_among c [] i p e f = none_some p e
chan_among c (x ∷ ps) zero p e f = (0, ap (λ z. Some z.chan.channel) (some_same x p e) ∙ ap Some f)
chan_among c (x ∷ ps) (suc i) p e f = let w = chan_among c ps i p e f in (suc w.0, w.1)

some_pair : (c : Channel) (ps : List Pair) → tally_for c ps ≢ None → (p : Pair) × (pair_of c ps ≡ Some p)
some_pair c ps h = on (pair_of c ps) refl
  where
    on : (x : Option Pair) → pair_of c ps ≡ x → (p : Pair) × (pair_of c ps ≡ Some p)
    on None e = absurd (h (ap (option_map tally) e))
    on (Some p) e = (p, e)

tally_found : (c : Channel) (ps : List Pair) (y : Tally) → tally_for c ps ≡ Some y → (p : Pair) × (pair_of c ps ≡ Some p) × (tally p ≡ y)
tally_found c ps y h = on (pair_of c ps) refl
  where
    on : (x : Option Pair) → pair_of c ps ≡ x → (p : Pair) × (pair_of c ps ≡ Some p) × (tally p ≡ y)
    on None e = none_some y (sym (ap (option_map tally) e) ∙ h)
    on (Some p) e = (p, e, some_same (tally p) y (sym (ap (option_map tally) e) ∙ h))

pub fresh_pairs : {S : Type 0} (o : Ops S) (p : S) (ks : List S) (given sorted : List NamedChannel) (pairs : List Pair) → given ≡ shared_given o p ks → IsPermutation given sorted → IsPaired o ks (channels sorted) pairs → FreshPairs o p ks pairs
fresh_pairs {S} o p ks given sorted pairs is same h = record {
  ordered = h.ordered;
  right = λ c y e.
      let w = tally_found c pairs y e in
      let v = pair_found c pairs w.0 w.1 in
      sym w.2 ∙ ((h.right v.0 w.0 v.1).0 ∙ ap (λ z. fresh_tally o z ks) v.2);
  there = λ c. (
    (λ some.
        let w = some_pair c pairs some in
        let v = pair_found c pairs w.0 w.1 in
        given_forth o p c ks (subst (λ z. IsAmong c (channels z)) is ((shuffled_both c given sorted same).1 ((h.there c).0 (chan_among c pairs v.0 w.0 v.1 v.2))))),
    (λ counted e.
        let w = (h.there c).1 ((shuffled_both c given sorted same).0 (subst (λ z. IsAmong c (channels z)) (sym is) (given_back o p c ks counted.0 counted.1))) in
        let v = pair_there c pairs w in
        none_some (tally v.0) (sym e ∙ ap (option_map tally) v.1)),
  );
  unlabelled = λ c. unlabelled_at c (pair_of c pairs) refl;
  known = λ c k e.
      let w = known_pair c pairs k e in
      let v = pair_found c pairs w.0 w.1 in
      subst (λ z. FreshSharing o c ks z) w.2 (subst (λ z. FreshSharing o z ks w.0.sharing) v.2 (h.right v.0 w.0 v.1).2);
}
  where
    unlabelled_at : (c : Channel) (x : Option Pair) → pair_of c pairs ≡ x → min_label_of (pair_of c pairs) ≡ None
    unlabelled_at c None e = ap min_label_of e
    unlabelled_at c (Some q) e = let v = pair_found c pairs q e in ap min_label_of e ∙ (h.right v.0 q v.1).1

-- what holds of a result that came
pub if_ok_weaker : {T E : Type 0} (r : Result T E) (P Q : T → Type 0) → ((x : T) → P x → Q x) → IfOk r P → IfOk r Q
if_ok_weaker (Ok x) P Q f h = f x h
if_ok_weaker (Err e) P Q f h = tt
