-- Who shares a channel among new children, found child by child; and what pairs know of it.
use Rattle.std.proofs.Common.{◌≡◌, ◌<◌, ◌≤◌, ◌⊎◌, ◌+◌, ℕ, zero, suc, Bool, true, false, Option, Some, None, List, [], ◌∷◌, map, cond, drop, length, inl, inr, refl, sym, ap, subst, ◌∙◌, arith}
use Rattle.std.specs.Prelude.{slice_get, if◌then◌else◌}
use Rattle.std.specs.Option.{option_map}
use Rattle.std.proofs.lemmas.Option.{slice_get_within}
use Rattle.shim_base.specs.Paths.{Channel, same_channel}
use Rattle.shim_base.proofs.Facts.{some_same, none_some}
use Rattle.shim_local.specs.Process.{Ops}
use Rattle.shim_local.specs.Laws.{how_many}
use Rattle.shim_records.specs.Pairs.{pair_of, KnownPair, known_of, known_for, known_at, known_in, rest_of, UncountedRecord}
use Rattle.shim_records.specs.Fresh.{FreshSharing, SharingSoFar, LooksAt, unshared, shares, takes}
use Rattle.shim_records.specs.declared.pair.Pair.{Pair}
use Rattle.shim_records.specs.declared.pair.Sharing.{Sharing}
use Rattle.shim_records.specs.declared.record.Record.{Record}
use Rattle.shim_records.proofs.Representing.{map_get}

never : {A : Type 0} (b : Bool) → b ≡ true → b ≡ false → A
never true e f = absurd cc
never false e f = absurd cc

-- a number below the next one is below this one, or is this one
below_next : (b i : ℕ) → b < i + 1 → (b < i) ⊎ (b ≡ i)
below_next zero zero h = inr refl
below_next zero (suc i) h = inl (omega arith)
below_next (suc b) zero h = absurd (omega (arith, h))
below_next (suc b) (suc i) h = elim (below_next b i (omega (arith, h))) [ inl w ↦ inl (omega (arith, w)) | inr w ↦ inr (ap suc w) ]

-- the first of what is left of a list
drop_first : {A : Type 0} (xs : List A) (i : ℕ) (x : A) → slice_get xs i ≡ Some x → drop i xs ≡ x ∷ drop (i + 1) xs
drop_first [] i x e = none_some x e
drop_first (y ∷ xs) zero x e = ap (λ z. z ∷ xs) (some_same y x e)
drop_first (y ∷ xs) (suc i) x e = drop_first xs i x e ∙ ap (λ z. x ∷ drop z (y ∷ xs)) (next i)
  where
    next : (i : ℕ) → suc (i + 1) ≡ suc i + 1
    next i = omega arith

-- one item more is counted, where the test holds of it
pub counted_on : {S : Type 0} (f : S → Bool) (xs : List S) (i : ℕ) (x : S) (n m total : ℕ) → slice_get xs i ≡ Some x → m ≡ (if f x then suc n else n) → n + how_many f (drop i xs) ≡ total → m + how_many f (drop (i + 1) xs) ≡ total
counted_on f xs i x n m total there is so = on (f x) is (ap (λ z. n + how_many f z) (sym (drop_first xs i x there)) ∙ so)
  where
    on : (b : Bool) → m ≡ (if b then suc n else n) → n + (if b then suc (how_many f (drop (i + 1) xs)) else how_many f (drop (i + 1) xs)) ≡ total → m + how_many f (drop (i + 1) xs) ≡ total
    on true e g = omega (arith, e, g)
    on false e g = omega (arith, e, g)

module _ {S : Type 0} (o : Ops S) (c : Channel) (ks : List S) where
  pub at_first : (k : Sharing) → k.last ≡ 0 → k.source ≡ 4294967295 → SharingSoFar o c ks 0 k
  at_first k last source = record {
    last = omega (arith, last);
    between = λ b s less e sh. absurd (omega (arith, less));
    carrier = λ b s less e sh ca. absurd (omega (arith, less));
    nobody = λ none. omega (arith, source);
  }

  module _ (i : ℕ) (s : S) (before behind : Sharing) (there : slice_get ks i ≡ Some s) (so : SharingSoFar o c ks i before) where
    its : (b : ℕ) (t : S) → b ≡ i → slice_get ks b ≡ Some t → t ≡ s
    its b t e f = some_same t s (sym f ∙ (ap (slice_get ks) e ∙ there))

    passed_by : o.shares s c ≡ false → behind ≡ before → SharingSoFar o c ks (i + 1) behind
    passed_by out same = subst (λ z. SharingSoFar o c ks (i + 1) z) (sym same) (record {
      last = let w = so.last in omega (arith, w);
      between = λ b t less e sh. elim (below_next b i less) [
        | inl w ↦ so.between b t w e sh
        | inr w ↦ never (o.shares s c) (ap (λ z. o.shares z c) (sym (its b t w e)) ∙ sh) out
      ];
      carrier = λ b t less e sh ca. elim (below_next b i less) [
        | inl w ↦ so.carrier b t w e sh ca
        | inr w ↦ never (o.shares s c) (ap (λ z. o.shares z c) (sym (its b t w e)) ∙ sh) out
      ];
      nobody = so.nobody;
    })

    module _ (first : behind.first ≤ i) (first_was : behind.first ≤ before.first) (last : behind.last ≡ i) where
      between_now : (b : ℕ) (t : S) → b < i + 1 → slice_get ks b ≡ Some t → o.shares t c ≡ true → (behind.first ≤ b) × (b ≤ behind.last)
      between_now b t less e sh = elim (below_next b i less) [
        | inl w ↦ let was = (so.between b t w e sh).0 in (omega (arith, was, first_was), omega (arith, last, w))
        | inr w ↦ (omega (arith, w, first), omega (arith, w, last))
      ]

      found : o.carries s c ≡ false → behind.source ≡ before.source → SharingSoFar o c ks (i + 1) behind
      found lacks same = record {
        last = omega (arith, last);
        between = between_now;
        carrier = λ b t less e sh ca. elim (below_next b i less) [
          | inl w ↦ let v = so.carrier b t w e sh ca in (v.0, ap (slice_get ks) same ∙ v.1, v.2)
          | inr w ↦ never (o.carries s c) (ap (λ z. o.carries z c) (sym (its b t w e)) ∙ ca) lacks
        ];
        nobody = λ none. let w = so.nobody none in omega (arith, w, same);
      }

      taken : o.carries s c ≡ true → behind.source ≡ i → SharingSoFar o c ks (i + 1) behind
      taken has is = record {
        last = omega (arith, last);
        between = between_now;
        carrier = λ b t less e sh ca. (s, ap (slice_get ks) is ∙ there, has);
        nobody = λ none. never (o.carries s c) has (none i s there);
      }

    pub one_more : LooksAt o c i s before behind → SharingSoFar o c ks (i + 1) behind
    one_more (unshared out same) = passed_by out same
    one_more (shares first first_was last lacks same) = found first first_was last lacks same
    one_more (takes first first_was last has is) = taken first first_was last has is

  pub all_looked_at : (i : ℕ) (k : Sharing) → length ks ≤ 4294967295 → i ≡ length ks → SharingSoFar o c ks i k → FreshSharing o c ks k
  all_looked_at i k few is so = record {
    within = λ b s e. let w = slice_get_within ks b s e in let v = so.last in omega (arith, w, v, is);
    between = λ b s e sh. so.between b s (let w = slice_get_within ks b s e in omega (arith, w, is)) e sh;
    carrier = λ b s e sh ca. so.carrier b s (let w = slice_get_within ks b s e in omega (arith, w, is)) e sh ca;
    nobody = λ none. let w = so.nobody none in omega (arith, w, few);
  }

-- ---- what pairs know

-- what is known of a channel is known by its pair
pub known_pair : (c : Channel) (ps : List Pair) (k : Sharing) → known_for c (known_of ps) ≡ Some k → (p : Pair) × (pair_of c ps ≡ Some p) × (p.sharing ≡ k)
known_pair c [] k e = none_some k e
known_pair c (x ∷ ps) k e = on (same_channel x.chan.channel c) e (known_pair c ps k)
  where
    on : (b : Bool) → cond b (Some x.sharing) (known_for c (known_of ps)) ≡ Some k → (known_for c (known_of ps) ≡ Some k → (p : Pair) × (pair_of c ps ≡ Some p) × (p.sharing ≡ k)) → (p : Pair) × (cond b (Some x) (pair_of c ps) ≡ Some p) × (p.sharing ≡ k)
    on true e f = (x, refl, some_same x.sharing k e)
    on false e f = f e

pub pair_known : (c : Channel) (ps : List Pair) (p : Pair) → pair_of c ps ≡ Some p → known_for c (known_of ps) ≡ Some p.sharing
pair_known c [] p e = none_some p e
pair_known c (x ∷ ps) p e = on (same_channel x.chan.channel c) e (pair_known c ps p)
  where
    on : (b : Bool) → cond b (Some x) (pair_of c ps) ≡ Some p → (pair_of c ps ≡ Some p → known_for c (known_of ps) ≡ Some p.sharing) → cond b (Some x.sharing) (known_for c (known_of ps)) ≡ Some p.sharing
    on true e f = ap (λ z. Some z.sharing) (some_same x p e)
    on false e f = f e

abbrev pub knowledge : Record → List KnownPair
knowledge r = known_of r.pairs.items

abbrev sharing_in : Channel → Option (List KnownPair) → Option Sharing
sharing_in c None = None
sharing_in c (Some ps) = known_for c ps

known_of_record : (c : Channel) (x : Option Record) → known_at c x ≡ sharing_in c (option_map knowledge x)
known_of_record c None = refl
known_of_record c (Some r) = refl

-- records whose pairs know the same
pub same_known_at : (c : Channel) (x y : Option Record) → option_map knowledge x ≡ option_map knowledge y → known_at c x ≡ known_at c y
same_known_at c x y e = known_of_record c x ∙ (ap (sharing_in c) e ∙ sym (known_of_record c y))

pub same_known : (before behind : List Record) → map knowledge behind ≡ map knowledge before → (c : Channel) (i : ℕ) → known_in c behind i ≡ known_in c before i
same_known before behind h c i = same_known_at c (slice_get behind i) (slice_get before i) (sym (map_get knowledge behind i) ∙ (ap (λ z. slice_get z i) h ∙ map_get knowledge before i))

abbrev sharing_of_rest : Channel → Option UncountedRecord → Option Sharing
sharing_of_rest c None = None
sharing_of_rest c (Some z) = known_for c z.known

known_rest : (c : Channel) (x : Option Record) → known_at c x ≡ sharing_of_rest c (option_map rest_of x)
known_rest c None = refl
known_rest c (Some r) = refl

-- records that say the same beside their counts know the same
pub rest_known : (before behind : List Record) → map rest_of behind ≡ map rest_of before → (c : Channel) (i : ℕ) → known_in c behind i ≡ known_in c before i
rest_known before behind h c i = known_rest c (slice_get behind i) ∙ (ap (sharing_of_rest c) (sym (map_get rest_of behind i) ∙ (ap (λ z. slice_get z i) h ∙ map_get rest_of before i)) ∙ sym (known_rest c (slice_get before i)))
