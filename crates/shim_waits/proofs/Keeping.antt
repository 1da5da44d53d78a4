-- Of each channel the first process is kept that was given it and holds it up.
use Rattle.std.proofs.Common.{◌≡◌, ℕ, ◌+◌, ◌≤◌, Bool, true, false, ◌&&◌, ◌||◌, Option, Some, None, List, [], ◌∷◌, ◌++◌, inl, inr, cond, drop, length, map, refl, sym, ap, ◌∙◌}
use Rattle.std.specs.Prelude.{slice_get, is_some}
use Rattle.std.specs.Option.{option_map}
use Rattle.std.specs.BTreeMap.{BTreeMap}
use Rattle.std.specs.Ordering.{is_eq}
use Rattle.std.proofs.lemmas.List.{append-nil, append_assoc, length-append, length-map, drop_more, drop_all}
use Rattle.std.proofs.lemmas.Option.{get_or_from_slice_get, slice_get_within, slice_get_cases}
use Rattle.shim_base.specs.Paths.{Channel, NamedChannel, same_channel, channel_order}
use Rattle.shim_base.specs.PathLaws.{channel_ties}
use Rattle.shim_base.proofs.Facts.{none_some, true_or_false}
use Rattle.shim_base.proofs.SamePaths.{same_channel_is}
use Rattle.shim_local.specs.Process.{Ops}
use Rattle.shim_semantics.specs.Nodes.{Node, Live, Forked, Ended, Dead, state, or_else}
use Rattle.shim_tree.specs.ChildCounts.{live_in}
use Rattle.shim_tree.specs.NodeRefs.{child_in, child_count}
use Rattle.shim_waits.specs.Holding.{holds_up, lives, all_lives}
use Rattle.shim_waits.specs.Numbers.{is_one_of, holds_given, first_with, first_with_among}
use Rattle.shim_waits.specs.Gathering.{holder_in, holder_of, holder_where, KeepsOne, KeepsGiven, KeepsFirst}
use Rattle.shim_waits.specs.declared.gathering.Holder.{Holder}
use Rattle.shim_waits.proofs.Children.{children_from, next_child, no_more}

or_none : {A : Type 0} (x : Option A) → or_else x None ≡ x
or_none None = refl
or_none (Some x) = refl

or_some : {A : Type 0} (x y : Option A) → is_some x ≡ true → or_else x y ≡ x
or_some None y e = absurd cc
or_some (Some x) y e = refl

unheld : {S : Type 0} (o : Ops S) (n : Node S) (number : ℕ) (a b : Bool) → (a ≡ true → b ≡ false) → holder_where o n number (a && b) ≡ None
unheld o n number true true f = absurd (let w = f refl in cc)
unheld o n number true false f = refl
unheld o n number false b f = refl

-- a value at one channel
put_one : {A : Type 0} (a b : Bool) (v : A) (x : Option A) → (a ≡ true → b ≡ true) → (a ≡ true → x ≡ None) → cond a (Some v) x ≡ or_else x (cond (a && b) (Some v) None)
put_one true true v x f g = sym (ap (λ z. or_else z (Some v)) (g refl))
put_one true false v x f g = absurd (let w = f refl in cc)
put_one false b v x f g = sym (or_none x)

none_of : {A : Type 0} (x : Option A) → is_some x ≡ false → x ≡ None
none_of None e = refl
none_of (Some x) e = absurd cc

one_more : {S : Type 0} (o : Ops S) (n : Node S) (number : ℕ) (x : Option Holder) (a b u : Bool) → or_else (or_else x (holder_where o n number (a && u))) (holder_where o n number (b && u)) ≡ or_else x (holder_where o n number ((a || b) && u))
one_more o n number (Some x) a b u = refl
one_more o n number None true b true = refl
one_more o n number None true true false = refl
one_more o n number None true false false = refl
one_more o n number None false b u = refl

module _ {S : Type 0} (o : Ops S) (n : Node S) (number : ℕ) where
  -- the channel has a holder already, or the process isn't one
  pub has_one : (c : Channel) (holders : BTreeMap NamedChannel Holder) → is_some (holder_in holders c) ≡ true → KeepsOne o n number c holders holders
  has_one c holders e q = elim (true_or_false (same_channel c q)) [
    | inl y ↦ sym (or_some (holder_in holders q) _ (ap (λ z. is_some (holder_in holders z)) (sym (same_channel_is c q y)) ∙ e))
    | inr f ↦ sym (ap (or_else (holder_in holders q)) (unheld o n number (same_channel c q) (holds_up o q n) (λ y. absurd (let w : true ≡ false = sym y ∙ f in cc))) ∙ or_none (holder_in holders q))
  ]

  pub isnt_one : (c : Channel) (holders : BTreeMap NamedChannel Holder) → holds_up o c n ≡ false → KeepsOne o n number c holders holders
  isnt_one c holders e q =
      sym (ap (or_else (holder_in holders q)) (unheld o n number (same_channel c q) (holds_up o q n) (λ y. ap (λ z. holds_up o z n) (sym (same_channel_is c q y)) ∙ e)) ∙ or_none (holder_in holders q))

  pub is_one : (k c : NamedChannel) (before behind : BTreeMap NamedChannel Holder) (h : Holder) → k ≡ c → h ≡ holder_of o (n, number) → is_some (holder_in before c.channel) ≡ false → holds_up o c.channel n ≡ true
      → ((q : NamedChannel) → holder_in behind q.channel ≡ cond (is_eq (channel_order k.channel q.channel)) (Some h) (holder_in before q.channel)) → KeepsOne o n number c.channel before behind
  is_one k c before behind h same its none holds put q =
      put (record { channel = q; name = 0 })
      ∙ ((λ i. cond (is_eq (channel_order (same i).channel q)) (Some (its i)) (holder_in before q))
      ∙ (ap (λ b. cond b (Some (holder_of o (n, number))) (holder_in before q)) (sym (channel_ties c.channel q))
      ∙ put_one (same_channel c.channel q) (holds_up o q n) (holder_of o (n, number)) (holder_in before q) (λ y. ap (λ z. holds_up o z n) (sym (same_channel_is c.channel q y)) ∙ holds)
      (λ y. none_of (holder_in before q) (ap (λ z. is_some (holder_in before z)) (sym (same_channel_is c.channel q y)) ∙ none))))

  -- ---- of the channels that it was given, those that are left

  abbrev pub KeepsRest : ℕ → BTreeMap NamedChannel Holder → BTreeMap NamedChannel Holder → Type 0
  KeepsRest at before now =
      (q : Channel) → or_else (holder_in now q) (holder_where o n number (is_one_of q (drop at (o.given (state n))) && holds_up o q n)) ≡ or_else (holder_in before q) (holder_where o n number (holds_given o q n))

  given_more : (at : ℕ) (d : NamedChannel) → slice_get (o.given (state n)) at ≡ Some d → drop at (o.given (state n)) ≡ d ∷ drop (at + 1) (o.given (state n))
  given_more at d e =
      drop_more (o.given (state n)) at d (slice_get_within (o.given (state n)) at d e) ∙ ap (λ z. z ∷ drop (at + 1) (o.given (state n))) (get_or_from_slice_get (o.given (state n)) at d d e)

  pub keeps_next : (at : ℕ) (d : NamedChannel) (before now behind : BTreeMap NamedChannel Holder) → slice_get (o.given (state n)) at ≡ Some d → KeepsOne o n number d.channel now behind → KeepsRest at before now → KeepsRest (at + 1) before behind
  keeps_next at d before now behind e one rest q =
      ap (λ z. or_else z (holder_where o n number (is_one_of q (drop (at + 1) (o.given (state n))) && holds_up o q n))) (one q)
      ∙ (one_more o n number (holder_in now q) (same_channel d.channel q) (is_one_of q (drop (at + 1) (o.given (state n)))) (holds_up o q n)
      ∙ (ap (λ z. or_else (holder_in now q) (holder_where o n number (is_one_of q z && holds_up o q n))) (sym (given_more at d e)) ∙ rest q))

  given_past : (at : ℕ) → None ≡ slice_get (o.given (state n)) at → drop at (o.given (state n)) ≡ []
  given_past at e = elim (slice_get_cases (o.given (state n)) at).1 [
    | inl h ↦ none_some h.0 (e ∙ h.2)
    | inr h ↦ drop_all at (o.given (state n)) h.0
  ]

  pub keeps_all : (at : ℕ) (before now : BTreeMap NamedChannel Holder) → None ≡ slice_get (o.given (state n)) at → KeepsRest at before now → KeepsGiven o n number before now
  keeps_all at before now e rest q =
      sym (or_none (holder_in now q)) ∙ (ap (λ z. or_else (holder_in now q) (holder_where o n number (is_one_of q z && holds_up o q n))) (sym (given_past at e)) ∙ rest q)

-- ---- and of all nodes

mapped_or : {A B : Type 0} (f : A → B) (x y : Option A) → option_map f (or_else x y) ≡ or_else (option_map f x) (option_map f y)
mapped_or f None y = refl
mapped_or f (Some x) y = refl

or_assoc : {A : Type 0} (x y z : Option A) → or_else (or_else x y) z ≡ or_else x (or_else y z)
or_assoc None y z = refl
or_assoc (Some x) y z = refl

one_node : {S : Type 0} (o : Ops S) (n : Node S) (number : ℕ) (b : Bool) (x : Option Holder) → or_else (or_else x (holder_where o n number b)) None ≡ or_else x (option_map (holder_of o) (cond b (Some (n, number)) None))
one_node o n number true x = or_none _
one_node o n number false x = or_none _

module _ {S : Type 0} (o : Ops S) where
  -- those from the children on that are left
  abbrev pub found_from : Channel → ℕ → ℕ → Node S → Option Holder
  found_from q number i n = option_map (holder_of o) (first_with_among (holds_given o q) number (children_from i n))

  alone : (q : Channel) (n : Node S) (l : S) (number : ℕ) → live_in (Some n) ≡ Some l → found_from q number 0 n ≡ None
  alone q (Live m) l number e = refl
  alone q (Forked m ks) l number e = none_some l e
  alone q (Ended m) l number e = none_some l e
  alone q (Dead m d) l number e = none_some l e

  -- what was kept before the children, with what is kept of those that are left
  abbrev pub KeepsFrom : ℕ → Node S → ℕ → ℕ → BTreeMap NamedChannel Holder → BTreeMap NamedChannel Holder → Type 0
  KeepsFrom i n number first before now = (q : Channel) → or_else (holder_in now q) (found_from q number i n) ≡ or_else (holder_in before q) (option_map (holder_of o) (first_with (holds_given o q) first n))

  pub keeps_child : (i : ℕ) (n k : Node S) (number first : ℕ) (before now behind : BTreeMap NamedChannel Holder) → child_in i n ≡ Some k → KeepsFirst o k number now behind → KeepsFrom i n number first before now → KeepsFrom (i + 1) n (number + length (lives k)) first before behind
  keeps_child i n k number first before now behind e one rest q =
      let more = first_with_among (holds_given o q) (number + length (lives k)) (children_from (i + 1) n) in
      ap (λ z. or_else z (option_map (holder_of o) more)) (one q)
      ∙ (or_assoc (holder_in now q) (option_map (holder_of o) (first_with (holds_given o q) number k)) (option_map (holder_of o) more)
      ∙ (ap (or_else (holder_in now q)) (sym (mapped_or (holder_of o) (first_with (holds_given o q) number k) more))
      ∙ (ap (λ z. or_else (holder_in now q) (option_map (holder_of o) (first_with_among (holds_given o q) number z))) (sym (next_child i n k e)) ∙ rest q)))

  pub keeps_to_end : (i : ℕ) (n : Node S) (number first : ℕ) (before now : BTreeMap NamedChannel Holder) → child_count n ≤ i → KeepsFrom i n number first before now → KeepsFirst o n first before now
  keeps_to_end i n number first before now h rest q =
      sym (or_none (holder_in now q)) ∙ (ap (λ z. or_else (holder_in now q) (option_map (holder_of o) (first_with_among (holds_given o q) number z))) (sym (no_more i n h)) ∙ rest q)

  -- ---- the live processes

  abbrev pub lives_from : ℕ → Node S → List S
  lives_from i n = all_lives (children_from i n)

  pub lives_next : (i : ℕ) (n k : Node S) (xs ys all : List S) → child_in i n ≡ Some k → ys ≡ xs ++ lives k → xs ++ lives_from i n ≡ all → ys ++ lives_from (i + 1) n ≡ all
  lives_next i n k xs ys all e more rest =
      ap (λ z. z ++ lives_from (i + 1) n) more ∙ (append_assoc xs (lives k) (lives_from (i + 1) n) ∙ (ap (λ z. xs ++ all_lives z) (sym (next_child i n k e)) ∙ rest))

  pub lives_to_end : (i : ℕ) (n : Node S) (xs all : List S) → child_count n ≤ i → xs ++ lives_from i n ≡ all → xs ≡ all
  lives_to_end i n xs all h rest = sym (append-nil xs) ∙ (ap (λ z. xs ++ all_lives z) (sym (no_more i n h)) ∙ rest)

-- how many there are, by what they are
pub as_many : {A B : Type 0} (f : A → B) (xs ys : List A) (zs : List B) → map f ys ≡ map f xs ++ zs → length ys ≡ length xs + length zs
as_many f xs ys zs e = sym (length-map ys f) ∙ (ap length e ∙ (length-append (map f xs) zs ∙ ap (λ z. z + length zs) (length-map xs f)))
