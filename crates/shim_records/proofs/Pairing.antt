-- The pair of a channel in its place, and what other channels have.
use Rattle.std.proofs.Common.{◌≡◌, ℕ, zero, suc, ◌<◌, Bool, true, false, Option, Some, None, List, [], ◌∷◌, cond, length, get_or, slice_set, refl, sym, ap, subst, ◌∙◌, arith}
use Rattle.std.specs.Option.{option_map}
use Rattle.shim_base.specs.Paths.{Channel, same_channel}
use Rattle.shim_base.proofs.Facts.{some_same, none_some}
use Rattle.shim_base.proofs.SamePaths.{same_channel_is}
use Rattle.shim_records.specs.Pairs.{tally, pair_index, pair_of, tally_for, min_label_of}
use Rattle.shim_records.specs.declared.pair.Pair.{Pair}

map_some : (o : Option ℕ) (i : ℕ) → option_map suc o ≡ Some i → (k : ℕ) × (o ≡ Some k) × (i ≡ suc k)
map_some None i e = none_some i e
map_some (Some k) i e = (k, refl, sym (some_same (suc k) i e))

pub no_place : (c : Channel) (ps : List Pair) → pair_index c ps ≡ None → tally_for c ps ≡ None
no_place c [] e = refl
no_place c (p ∷ ps) e = on (same_channel p.chan.channel c) (pair_index c ps) (λ h. no_place c ps h) e
  where
    on : (b : Bool) (o : Option ℕ) → (o ≡ None → tally_for c ps ≡ None) → cond b (Some 0) (option_map suc o) ≡ None → option_map tally (cond b (Some p) (pair_of c ps)) ≡ None
    on true o h e = absurd cc
    on false None h e = h refl
    on false (Some k) h e = absurd cc

-- the pair in the place of the channel, and another one with its channel and label put there
pub record Put (c : Channel) (ps : List Pair) (i : ℕ) (p q : Pair) : Type 0 where
  pub found : pair_of c ps ≡ Some p
  pub finds : pair_of c (slice_set ps i q) ≡ Some q
  pub elsewhere : (d : Channel) → same_channel c d ≡ false → pair_of d (slice_set ps i q) ≡ pair_of d ps
  pub labels : (d : Channel) → min_label_of (pair_of d (slice_set ps i q)) ≡ min_label_of (pair_of d ps)

pub put_there : (c : Channel) (ps : List Pair) (i : ℕ) (p q : Pair) → pair_index c ps ≡ Some i → p ≡ get_or ps i p → q.chan ≡ p.chan → q.min_dead_label ≡ p.min_dead_label → Put c ps i p q
put_there c [] i p q e g h l = none_some i e
put_there c (x ∷ ps) i p q e g h l = on (same_channel x.chan.channel c) refl i e g (λ k u v. put_there c ps k p q u v h l)
  where
    first : (d : Channel) → q.chan.channel ≡ x.chan.channel → q.min_dead_label ≡ x.min_dead_label → min_label_of (cond (same_channel q.chan.channel d) (Some q) (pair_of d ps)) ≡ min_label_of (cond (same_channel x.chan.channel d) (Some x) (pair_of d ps))
    first d same label = ap (λ z. min_label_of (cond (same_channel z d) (Some q) (pair_of d ps))) same ∙ either (same_channel x.chan.channel d)
      where
        either : (b : Bool) → min_label_of (cond b (Some q) (pair_of d ps)) ≡ min_label_of (cond b (Some x) (pair_of d ps))
        either true = label
        either false = refl

    later : (d : Channel) (o r : Option Pair) → min_label_of o ≡ min_label_of r → min_label_of (cond (same_channel x.chan.channel d) (Some x) o) ≡ min_label_of (cond (same_channel x.chan.channel d) (Some x) r)
    later d o r e = either (same_channel x.chan.channel d)
      where
        either : (b : Bool) → min_label_of (cond b (Some x) o) ≡ min_label_of (cond b (Some x) r)
        either true = refl
        either false = e

    on : (b : Bool) → same_channel x.chan.channel c ≡ b → (i : ℕ) → cond b (Some 0) (option_map suc (pair_index c ps)) ≡ Some i → p ≡ get_or (x ∷ ps) i p
        → ((k : ℕ) → pair_index c ps ≡ Some k → p ≡ get_or ps k p → Put c ps k p q) → Put c (x ∷ ps) i p q
    on true w zero e g f =
        let same : q.chan.channel ≡ x.chan.channel = ap (λ z. z.channel) h ∙ ap (λ z. z.chan.channel) g in
        let label : q.min_dead_label ≡ x.min_dead_label = l ∙ ap (λ z. z.min_dead_label) g in
        record {
          found = ap (λ z. cond z (Some x) (pair_of c ps)) w ∙ ap Some (sym g);
          finds = ap (λ z. cond (same_channel z c) (Some q) (pair_of c ps)) same ∙ ap (λ z. cond z (Some q) (pair_of c ps)) w;
          elsewhere = λ d far.
              let other : same_channel x.chan.channel d ≡ false = ap (λ z. same_channel z d) (same_channel_is x.chan.channel c w) ∙ far in
              ap (λ z. cond (same_channel z d) (Some q) (pair_of d ps)) same
              ∙ (ap (λ z. cond z (Some q) (pair_of d ps)) other ∙ sym (ap (λ z. cond z (Some x) (pair_of d ps)) other));
          labels = λ d. first d same label;
        }
    on true w (suc i) e g f = absurd cc
    on false w i e g f =
        let k = map_some (pair_index c ps) i e in
        subst (λ z. Put c (x ∷ ps) z p q) (sym k.2) (behind w k.0 (f k.0 k.1 (g ∙ ap (λ z. get_or (x ∷ ps) z p) k.2)))
      where
        behind : same_channel x.chan.channel c ≡ false → (k : ℕ) → Put c ps k p q → Put c (x ∷ ps) (suc k) p q
        behind w k y = record {
          found = ap (λ z. cond z (Some x) (pair_of c ps)) w ∙ y.found;
          finds = ap (λ z. cond z (Some x) (pair_of c (slice_set ps k q))) w ∙ y.finds;
          elsewhere = λ d far. ap (λ z. cond (same_channel x.chan.channel d) (Some x) z) (y.elsewhere d far);
          labels = λ d. later d (pair_of d (slice_set ps k q)) (pair_of d ps) (y.labels d);
        }

pub place_within : (c : Channel) (ps : List Pair) (i : ℕ) → pair_index c ps ≡ Some i → i < length ps
place_within c [] i e = none_some i e
place_within c (x ∷ ps) i e = on (same_channel x.chan.channel c) e (λ k h. place_within c ps k h)
  where
    on : (b : Bool) → cond b (Some 0) (option_map suc (pair_index c ps)) ≡ Some i → ((k : ℕ) → pair_index c ps ≡ Some k → k < length ps) → i < length (x ∷ ps)
    on true e h = let w = some_same 0 i e in omega (arith, w)
    on false e h = let k = map_some (pair_index c ps) i e in let w = h k.0 k.1 in let u = k.2 in omega (arith, w, u)
