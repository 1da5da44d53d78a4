-- A process takes back its children's values, and an exception is thrown in it where one died.
use Rattle.std.proofs.Common.{◌≡◌, ◌<◌, ℕ, zero, suc, Bool, true, false, not, Option, Some, None, List, [], ◌∷◌, length, get_or, slice_set, refl, sym, ap, subst, ◌∙◌, arith}
use Rattle.std.specs.Prelude.{slice_get}
use Rattle.std.specs.Option.{is_some}
use Rattle.std.proofs.lemmas.List.{length-set}
use Rattle.std.proofs.lemmas.Option.{get_or_from_slice_get, slice_get_read}
use Rattle.shim_base.proofs.Facts.{some_same, none_some}
use Rattle.shim_local.specs.Process.{Ops}
use Rattle.shim_semantics.specs.Nodes.{Live, Death}
use Rattle.shim_semantics.specs.Acts.{Acted, nothing, thrown, closed}
use Rattle.shim_laws_table.proofs.Forking.{there_is}
use Rattle.shim_records.proofs.Stepping.{set_there}
use Rattle.shim_process_table.specs.Closing.{acted_by}
use Rattle.shim_process_table.specs.declared.closing.CloseOutcome.{CloseOutcome}

pub set_twice : {A : Type 0} (xs : List A) (i : ℕ) (x y : A) → slice_set (slice_set xs i x) i y ≡ slice_set xs i y
set_twice [] i x y = refl
set_twice (z ∷ xs) zero x y = refl
set_twice (z ∷ xs) (suc i) x y = ap (λ w. z ∷ w) (set_twice xs i x y)

-- an item that was read is the one that is there
pub read_there : {A : Type 0} (xs : List A) (i : ℕ) (x y : A) → i < length xs → x ≡ get_or xs i x → slice_get xs i ≡ Some y → x ≡ y
read_there xs i x y less is there = some_same x y (sym (slice_get_read xs (length xs) i x refl less is) ∙ there)

pub still_within : {A : Type 0} (xs ys : List A) (p m : ℕ) (f : A → A) → p < length xs → ((l : A) → slice_get xs p ≡ Some l → ys ≡ slice_set xs p (f l)) → m ≡ length ys → p < m
still_within xs ys p m f less set is =
    let l = there_is xs p less in
    let long = ap length (set l.0 l.1) ∙ length-set xs p (f l.0) in
    omega (arith, less, long, is)

none_goes_on : (label : Option Death) (b : Bool) → is_some label ≡ not b → label ≡ None → b ≡ true
none_goes_on None true e f = refl
none_goes_on None false e f = absurd cc
none_goes_on (Some x) b e f = none_some x (sym f)

some_goes_not : (label : Option Death) (b : Bool) (x : Death) → is_some label ≡ not b → label ≡ Some x → b ≡ false
some_goes_not None b x e f = none_some x f
some_goes_not (Some y) true x e f = absurd cc
some_goes_not (Some y) false x e f = refl

module _ {S : Type 0} (o : Ops S) (xs ys blk : List S) (p : ℕ) (label : Option Death) (b : Bool) (label_is : is_some label ≡ not b) (joined : (l : S) → slice_get xs p ≡ Some l → ys ≡ slice_set xs p (o.join l blk b)) where
  pub goes : (l : S) → slice_get xs p ≡ Some l → label ≡ None → (x : S) × (ys ≡ slice_set xs p x) × (◌≡◌ {A = Acted S} (record { node = Live x; effects = nothing }) (closed o l blk label))
  goes l e none = (
    o.join l blk true,
    joined l e ∙ ap (λ z. slice_set xs p (o.join l blk z)) (none_goes_on label b label_is none),
    sym (ap (λ z. closed o l blk z) none),
  )

  module _ (x : Death) (died : label ≡ Some x) (y : S) (is : y ≡ get_or ys p y) where
    it_is : (l : S) → slice_get xs p ≡ Some l → y ≡ o.join l blk false
    it_is l e =
        let set = joined l e ∙ ap (λ z. slice_set xs p (o.join l blk z)) (some_goes_not label b x label_is died) in
        is ∙ get_or_from_slice_get ys p (o.join l blk false) y (ap (λ z. slice_get z p) set ∙ set_there xs p l (o.join l blk false) e)

    pub below : p < length xs → ((l : S) (x : Death) → slice_get xs p ≡ Some l → label ≡ Some x → x.label < o.handlers (o.join l blk false)) → x.label < o.handlers y
    below less asked = let l = there_is xs p less in subst (λ z. x.label < o.handlers z) (sym (it_is l.0 l.1)) (asked l.0 x l.1 died)

    pub throws : (outcome : CloseOutcome) (z l : S) → slice_get xs p ≡ Some l → acted_by outcome z ≡ thrown o y x → (w : S) × (slice_set ys p z ≡ slice_set xs p w) × (acted_by outcome w ≡ closed o l blk label)
    throws outcome z l e threw = (
      z,
      ap (λ w. slice_set w p z) (joined l e) ∙ set_twice xs p (o.join l blk b) z,
      threw ∙ (ap (λ w. thrown o w x) (it_is l e) ∙ sym (ap (λ w. closed o l blk w) died)),
    )
