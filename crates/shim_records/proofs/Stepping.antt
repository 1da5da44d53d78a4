-- One step up through the records, by each way out of it.
use Rattle.std.proofs.Common.{◌≡◌, ◌≢◌, ◌≤◌, ℕ, zero, suc, ◌<◌, Bool, true, false, Option, Some, None, List, [], ◌∷◌, map, length, get_or, slice_set, inl, inr, refl, sym, ap, subst, ◌∙◌, arith}
use Rattle.std.specs.Prelude.{slice_get}
use Rattle.std.specs.Option.{option_map}
use Rattle.std.specs.Vec.{with_item}
use mathlib.Core.Bool.{beq}
use Rattle.std.proofs.lemmas.Option.{slice_get_read}
use Rattle.shim_base.specs.Paths.{Channel}
use Rattle.shim_base.proofs.Facts.{some_same, none_some}
use Rattle.shim_laws_table.specs.Counts.{going_child_status, fork_status, tally_ready, IsExchanged}
use Rattle.shim_laws_table.specs.Updating.{CanMove, AreMoved, UpdatedAbove, at_top, no_counts, stays, goes_on}
use Rattle.shim_laws_table.proofs.SameTrees.{same_or_not}
use Rattle.shim_records.specs.Pairs.{tally, child_status_of, pair_index, pair_of, counts_at, counts_in, counts_ready, min_label_of, min_label_at, min_labels_in, up_at, up_in, rest_of, chans_of, KnownPair, known_by, known_of}
use Rattle.shim_records.specs.Ways.{OnlyCounts, ChangesParent, BecomesUnready, ReadsParent, StepsUp}
use Rattle.shim_records.specs.declared.pair.Pair.{Pair}
use Rattle.shim_records.specs.declared.pair.ChildStatus.{ChildStatus}
use Rattle.shim_records.specs.declared.record.Record.{Record}
use Rattle.shim_records.specs.declared.upward.CountChange.{CountChange}
use Rattle.shim_records.proofs.Pairing.{Put, put_there, place_within}

pub set_there : {A : Type 0} (xs : List A) (i : ℕ) (x y : A) → slice_get xs i ≡ Some x → slice_get (slice_set xs i y) i ≡ Some y
set_there [] i x y e = none_some x e
set_there (z ∷ xs) zero x y e = refl
set_there (z ∷ xs) (suc i) x y e = set_there xs i x y e

pub set_elsewhere : {A : Type 0} (xs : List A) (i j : ℕ) (y : A) → j ≢ i → slice_get (slice_set xs i y) j ≡ slice_get xs j
set_elsewhere [] i j y h = refl
set_elsewhere (z ∷ xs) zero zero y h = absurd (h refl)
set_elsewhere (z ∷ xs) zero (suc j) y h = refl
set_elsewhere (z ∷ xs) (suc i) zero y h = refl
set_elsewhere (z ∷ xs) (suc i) (suc j) y h = set_elsewhere xs i j y (λ e. h (ap suc e))

pub same_items : {A : Type 0} (xs : List A) (i : ℕ) (x : A) → slice_get xs i ≡ Some x → slice_set xs i x ≡ xs
same_items [] i x e = refl
same_items (y ∷ xs) zero x e = ap (λ z. z ∷ xs) (sym (some_same y x e))
same_items (y ∷ xs) (suc i) x e = ap (λ z. y ∷ z) (same_items xs i x e)

-- a list of what items say, where another one says the same
pub map_set : {A B : Type 0} (f : A → B) (xs : List A) (i : ℕ) (x y : A) → slice_get xs i ≡ Some x → f y ≡ f x → map f (slice_set xs i y) ≡ map f xs
map_set f [] i x y e h = refl
map_set f (z ∷ xs) zero x y e h = ap (λ w. w ∷ map f xs) (h ∙ ap f (sym (some_same z x e)))
map_set f (z ∷ xs) (suc i) x y e h = ap (λ w. f z ∷ w) (map_set f xs i x y e h)

pub past_end : {A : Type 0} (xs : List A) (i : ℕ) → length xs ≤ i → slice_get xs i ≡ None
past_end [] i h = refl
past_end (x ∷ xs) zero h = absurd (omega (arith, h))
past_end (x ∷ xs) (suc i) h = past_end xs i (omega (arith, h))

pub same_bools : (b d : Bool) → beq b d ≡ true → b ≡ d
same_bools true true e = refl
same_bools true false e = absurd cc
same_bools false true e = absurd cc
same_bools false false e = refl

-- of two booleans that aren't the same
pub other_bool : (b d : Bool) → beq b d ≡ false → d ≡ false → b ≡ true
other_bool true true e f = refl
other_bool true false e f = refl
other_bool false true e f = absurd cc
other_bool false false e f = absurd cc

-- a record has no label where it has no counts
none_labelled : (x : Option Pair) → option_map tally x ≡ None → min_label_of x ≡ None
none_labelled None e = refl
none_labelled (Some p) e = absurd cc

pub unlabelled : (c : Channel) (x : Option Record) → counts_at c x ≡ None → min_label_at c x ≡ None
unlabelled c None e = refl
unlabelled c (Some r) e = none_labelled (pair_of c r.pairs.items) e

-- nothing has changed
pub nothing_changed : (c : Channel) (rs : List Record) → OnlyCounts c rs rs
nothing_changed c rs = record { rest = refl; elsewhere = λ d far i. refl; labels = λ d i. refl }

-- what is read of two pairs' counts in one record
abbrev pub with_pair : Record → ℕ → Pair → Record
with_pair r i q = record { status = r.status; first = r.first; parent = r.parent; path = r.path; going_children = r.going_children; pairs = with_item r.pairs i q }

-- a record whose pairs have the same channels, and know the same of them
pub rest_with : (r : Record) (cs : List Channel) (ks : List KnownPair) → cs ≡ chans_of r.pairs.items → ks ≡ known_of r.pairs.items
    → record { status = r.status; first = r.first; parent = r.parent; path = r.path; going_children = r.going_children; chans = cs; known = ks } ≡ rest_of r
rest_with r cs ks e f = λ i. record { status = r.status; first = r.first; parent = r.parent; path = r.path; going_children = r.going_children; chans = e i; known = f i }

-- a pair with the same channel knows the same of it
pub known_with : (p q : Pair) → q.chan ≡ p.chan → q.sharing ≡ p.sharing → known_by q ≡ known_by p
known_with p q chan sharing = λ i. record { chan = (chan i).channel; sharing = sharing i }

module _ (c : Channel) (rs : List Record) (here : CountChange) where
  none_moved : ChangesParent c rs here None rs
  none_moved = record { others = λ i out. refl; goes_on = λ above e. none_some above e }

  -- where nothing has changed, and a parent has no counts
  none_read : ((i : ℕ) → up_in rs here.at ≡ Some i → counts_in c rs i ≡ None) → ReadsParent c rs here None false rs
  none_read none = record {
    closed = λ e i u. (ap counts_ready (none i u), unlabelled c (slice_get rs i) (none i u));
    same = λ e i u. refl;
    unready = λ f i u. ap counts_ready (none i u);
    falls = λ f above e. none_some above e;
  }

  pub top : up_in rs here.at ≡ None → StepsUp c rs here None false rs
  top e = ((λ n. at_top n (counts_in c rs) here.at (child_status_of here.was) (child_status_of here.is) e), nothing_changed c rs, none_moved, none_read (λ i u. none_some i (sym e ∙ u)))

  pub uncounted : (j : ℕ) → up_in rs here.at ≡ Some j → counts_in c rs j ≡ None → StepsUp c rs here None false rs
  uncounted j e f = (
    (λ n. no_counts n (counts_in c rs) here.at j (child_status_of here.was) (child_status_of here.is) e f),
    nothing_changed c rs,
    none_moved,
    none_read (λ i u. ap (counts_in c rs) (some_same i j (sym u ∙ e)) ∙ f),
  )

  -- the record of a number within
  pub its : (n i : ℕ) (r : Record) → n ≡ length rs → i < n → r ≡ get_or rs i r → slice_get rs i ≡ Some r
  its n i r e less is = slice_get_read rs n i r e less is

  pub up_is : (r : Record) (j : Option ℕ) → slice_get rs here.at ≡ Some r → r.parent ≡ j → up_in rs here.at ≡ j
  up_is r j e f = ap up_at e ∙ f

  module _ (j i : ℕ) (r : Record) (p q : Pair) (up : up_in rs here.at ≡ Some j) (record_before : slice_get rs j ≡ Some r) (place : pair_index c r.pairs.items ≡ Some i) (is_p : p ≡ get_or r.pairs.items i p)
      (chan : q.chan ≡ p.chan) (sharing : q.sharing ≡ p.sharing) (label : q.min_dead_label ≡ p.min_dead_label)
      (moved : CanMove 4294967295 (child_status_of here.was) (child_status_of here.is) (tally p) → IsExchanged (child_status_of here.was) (child_status_of here.is) (tally p) (tally q)) where
    abbrev new : Record
    new = with_pair r i q

    abbrev now : List Record
    now = slice_set rs j new

    put : Put c r.pairs.items i p q
    put = put_there c r.pairs.items i p q place is_p chan label

    record_now : slice_get now j ≡ Some new
    record_now = set_there rs j r new record_before

    are_moved : AreMoved 4294967295 (counts_in c rs) j (child_status_of here.was) (child_status_of here.is) (tally p) (tally q) (counts_in c now)
    are_moved = record {
      old = ap (counts_at c) record_before ∙ ap (option_map tally) put.found;
      new = ap (counts_at c) record_now ∙ ap (option_map tally) put.finds;
      moved = moved;
      others = λ k far. ap (counts_at c) (set_elsewhere rs j k new far);
    }

    -- the channels of its pairs are as before
    same_chans : chans_of (slice_set r.pairs.items i q) ≡ chans_of r.pairs.items
    same_chans =
        map_set (λ z. z.chan.channel) r.pairs.items i p q (slice_get_read r.pairs.items (length r.pairs.items) i p refl (place_within c r.pairs.items i place) is_p) (ap (λ z. z.channel) chan)

    -- and so is what they know
    same_known : known_of (slice_set r.pairs.items i q) ≡ known_of r.pairs.items
    same_known =
        map_set known_by r.pairs.items i p q (slice_get_read r.pairs.items (length r.pairs.items) i p refl (place_within c r.pairs.items i place) is_p)
        (known_with p q chan sharing)

    only : OnlyCounts c rs now
    only = record {
      rest = map_set rest_of rs j r new record_before (rest_with r (chans_of (slice_set r.pairs.items i q)) (known_of (slice_set r.pairs.items i q)) same_chans same_known);
      elsewhere = λ d far k. elim (same_or_not k j) [
        | inl w ↦ ap (λ z. counts_at d (slice_get now z)) w ∙ (ap (counts_at d) record_now ∙ (ap (option_map tally) (put.elsewhere d far) ∙ (sym (ap (counts_at d) record_before) ∙ sym (ap (λ z. counts_at d (slice_get rs z)) w))))
        | inr w ↦ ap (counts_at d) (set_elsewhere rs j k new w)
      ];
      labels = λ d k. elim (same_or_not k j) [
        | inl w ↦ ap (λ z. min_label_at d (slice_get now z)) w ∙ (ap (min_label_at d) record_now ∙ (put.labels d ∙ (sym (ap (min_label_at d) record_before) ∙ sym (ap (λ z. min_label_at d (slice_get rs z)) w))))
        | inr w ↦ ap (min_label_at d) (set_elsewhere rs j k new w)
      ];
    }

    -- nor have other records' counts, and whatever goes on does so from here
    moves : (next : Option CountChange) → ((above : CountChange) → next ≡ Some above → above.at ≡ j) → ChangesParent c rs here next now
    moves next at = record {
      others = λ k far. ap (counts_at c) (set_elsewhere rs j k new (λ e. far (up ∙ ap Some (sym e))));
      goes_on = λ above e. up ∙ ap Some (sym (at above e));
    }

    -- how the parent is read by these counts
    module _ (due : Bool) (is_closed : due ≡ false → (tally_ready (tally q) ≡ false) × (q.min_dead_label ≡ None)) (unready : child_status_of here.was ≡ going_child_status true → child_status_of here.is ≡ going_child_status false → tally_ready (tally q) ≡ false) where
      its_place : (i : ℕ) → up_in rs here.at ≡ Some i → i ≡ j
      its_place i e = some_same i j (sym e ∙ up)

      ready_now : (i : ℕ) → up_in rs here.at ≡ Some i → counts_ready (counts_in c now i) ≡ tally_ready (tally q)
      ready_now i e = ap (λ z. counts_ready (counts_in c now z)) (its_place i e) ∙ ap counts_ready are_moved.new

      ready_then : (i : ℕ) → up_in rs here.at ≡ Some i → counts_ready (counts_in c rs i) ≡ tally_ready (tally p)
      ready_then i e = ap (λ z. counts_ready (counts_in c rs z)) (its_place i e) ∙ ap counts_ready are_moved.old

      label_then : (i : ℕ) → up_in rs here.at ≡ Some i → min_labels_in c rs i ≡ q.min_dead_label
      label_then i e = ap (min_labels_in c rs) (its_place i e) ∙ (ap (min_label_at c) record_before ∙ (ap min_label_of put.found ∙ sym label))

      reads : (next : Option CountChange) → (next ≡ None → tally_ready (tally p) ≡ tally_ready (tally q)) → (BecomesUnready here → (above : CountChange) → next ≡ Some above → BecomesUnready above) → ReadsParent c rs here next due now
      reads next same falls = record {
        closed = λ e i u. (ready_now i u ∙ (is_closed e).0, label_then i u ∙ (is_closed e).1);
        same = λ e i u. ready_now i u ∙ (sym (same e) ∙ sym (ready_then i u));
        unready = λ f i u. ready_now i u ∙ unready f.0 f.1;
        falls = falls;
      }

      pub ends : tally_ready (tally p) ≡ tally_ready (tally q) → StepsUp c rs here None due now
      ends same = (
        (λ n. stays n (counts_in c rs) (counts_in c now) here.at j (child_status_of here.was) (child_status_of here.is) (tally p) (tally q) up are_moved same),
        only,
        moves None (λ above e. none_some above e),
        reads None (λ e. same) (λ f above e. none_some above e),
      )

      pub goes : (next : CountChange) → (tally_ready (tally q) ≡ false → tally_ready (tally p) ≡ true) → next.at ≡ j → child_status_of next.was ≡ fork_status true (tally p) → child_status_of next.is ≡ fork_status true (tally q) → StepsUp c rs here (Some next) due now
      goes next other at was is = (
        (λ n behind rest. goes_on n (counts_in c rs) (counts_in c now) behind here.at j (child_status_of here.was) (child_status_of here.is) (tally p) (tally q) up are_moved
            (subst (λ z. UpdatedAbove (up_in rs) 4294967295 n (counts_in c now) j (fork_status true (tally p)) z behind) is (subst (λ z. UpdatedAbove (up_in rs) 4294967295 n (counts_in c now) j z (child_status_of next.is) behind) was
            (subst (λ z. UpdatedAbove (up_in rs) 4294967295 n (counts_in c now) z (child_status_of next.was) (child_status_of next.is) behind) at rest)))),
        only,
        moves (Some next) (λ above e. ap (λ z. z.at) (sym (some_same next above e)) ∙ at),
        reads (Some next) (λ e. none_some next (sym e)) (λ f above e. subst BecomesUnready (some_same next above e) (was ∙ ap going_child_status (other (unready f.0 f.1)), is ∙ ap going_child_status (unready f.0 f.1))),
      )

-- what is read of a fork that shares the channel
pub fork_read : (r : ChildStatus) (b : Bool) (p : Pair) → child_status_of r ≡ going_child_status b → b ≡ tally_ready (tally p) → child_status_of r ≡ fork_status true (tally p)
fork_read r b p e f = e ∙ ap going_child_status f

-- what isn't due has neither all there nor a label
pub closed_by : (due all : Bool) (p : Pair) → all ≡ tally_ready (tally p) → (due ≡ false → (all ≡ false) × (p.min_dead_label ≡ None)) → due ≡ false → (tally_ready (tally p) ≡ false) × (p.min_dead_label ≡ None)
closed_by due all p e h f = (sym e ∙ (h f).0, (h f).1)
