-- A unit that is called or forked takes a stream where the one that hands it on does, and one of all branches at most.
use Rattle.std.proofs.Common.{◌≡◌, ◌∙◌, inl, inr, ℕ, zero, suc, Bool, true, false, not, ◌||◌, List, [], ◌∷◌, length, Option, Some, None, slice_get, refl, sym, ap, subst}
use Rattle.std.proofs.lemmas.Bool.{and_parts, true≢false}
use Rattle.shim_syntax.specs.declared.tree.Sort.{Sort}
use Rattle.shim_syntax.specs.declared.tree.Sort.TheVariants.{Value, Input, Output}
use Rattle.shim_scopes.specs.declared.tree.UParam.{UParam}
use Rattle.shim_units.specs.declared.form.Form.{Form}
use Rattle.shim_units.specs.declared.unit.Unit.{Unit as UnitOf}
use Rattle.shim_units.specs.declared.unit.Arg.{Arg}
use Rattle.shim_units.specs.declared.unit.Arg.TheVariants.{Ref, Pass, Fresh}
use Rattle.shim_units.specs.declared.unit.UBranch.{UBranch}
use Rattle.shim_units.specs.declared.unit.UCall.{UCall}
use Rattle.shim_units.specs.Units.{upto}
use Rattle.shim_process.specs.LocalState.{unit_at}
use Rattle.shim_base.proofs.Facts.{some_same, either_holds, or_left, or_right, first_holds, second_holds, not_false}
use Rattle.shim_laws_stops.specs.InScope.{is_number, same_kind, has_number, reads_right, argument_right, arguments_right, references, distinct, call_right, all_calls_right, are_apart, apart_from_all, branches_apart, all_numbers, slots_right, all_scoped, AllInScope}
use Rattle.shim_laws_stops.specs.StreamHolders.{Stream, TheInput, TheOutput, is_of_stream, is_at, takes_stream, takes, HasOneSlot}
use Rattle.shim_laws_stops.proofs.Among.{Among, first_of, among_behind}
use Rattle.shim_laws_stops.proofs.ScopeLists.{once_first, once_rest, apart_not}
use Rattle.shim_laws_stops.proofs.MainStreams.{stream_then, streams_once}

-- of each stream

number_not_stream : (stream : Stream) (o : Option Sort) → is_number o ≡ true → is_at stream o ≡ true → ⊥
number_not_stream stream None h k = cc h
number_not_stream TheInput (Some (Value t)) h k = cc k
number_not_stream TheOutput (Some (Value t)) h k = cc k
number_not_stream stream (Some Input) h k = cc h
number_not_stream stream (Some Output) h k = cc h

nothing_at : (stream : Stream) → is_at stream None ≡ true → ⊥
nothing_at TheInput h = cc h
nothing_at TheOutput h = cc h

kind_stream : (stream : Stream) (s r : Sort) → same_kind s (Some r) ≡ true → is_at stream (Some r) ≡ true → is_of_stream stream s ≡ true
kind_stream stream (Value t) r h k = absurd (number_not_stream stream (Some r) h k)
kind_stream TheInput Input r h k = refl
kind_stream TheInput Output (Value t) h k = absurd (cc h)
kind_stream TheInput Output Input h k = absurd (cc h)
kind_stream TheInput Output Output h k = absurd (cc k)
kind_stream TheOutput Output r h k = refl
kind_stream TheOutput Input (Value t) h k = absurd (cc h)
kind_stream TheOutput Input Input h k = absurd (cc k)
kind_stream TheOutput Input Output h k = absurd (cc h)

stream_kind : (stream : Stream) (s : Sort) (o : Option Sort) → is_of_stream stream s ≡ true → same_kind s o ≡ true → is_at stream o ≡ true
stream_kind TheInput Input o h k = k
stream_kind TheInput Output o h k = absurd (cc h)
stream_kind TheOutput Input o h k = absurd (cc h)
stream_kind TheOutput Output o h k = k
stream_kind TheInput (Value t) o h k = absurd (cc h)
stream_kind TheOutput (Value t) o h k = absurd (cc h)

stream_not_number : (stream : Stream) (s : Sort) → is_of_stream stream s ≡ true → is_number (Some s) ≡ true → ⊥
stream_not_number TheInput (Value t) h k = cc h
stream_not_number TheOutput (Value t) h k = cc h
stream_not_number stream Input h k = cc k
stream_not_number stream Output h k = cc k

none_take : (stream : Stream) → takes_stream stream [] ≡ true → ⊥
none_take TheInput h = cc h
none_take TheOutput h = cc h

takes_more : (stream : Stream) (p : UParam) (ps : List UParam) → takes_stream stream (p ∷ ps) ≡ (is_of_stream stream p.sort || takes_stream stream ps)
takes_more TheInput p ps = refl
takes_more TheOutput p ps = refl

-- the stream came before
came : Stream → Bool → Bool → Bool
came TheInput i o = i
came TheOutput i o = o

-- one parameter of `main` leaves others, before which these streams came
record AfterOne (stream : Stream) (s : Sort) (i o : Bool) (f : Bool → Bool → Bool) : Type 0 where
  input : Bool
  output : Bool
  rest : f input output ≡ true
  first : is_of_stream stream s ≡ true → (came stream i o ≡ false) × (came stream input output ≡ true)
  stays : came stream i o ≡ true → came stream input output ≡ true

after_one : (stream : Stream) (s : Sort) (i o : Bool) (f : Bool → Bool → Bool) → stream_then s i o f ≡ true → AfterOne stream s i o f
unfolding came
after_one stream (Value t) i o f h = absurd (cc h)
after_one TheInput Input i o f h = record { input = true; output = o; rest = second_holds (not i) (f true o) h; first = λ e. (not_false i (first_holds (not i) (f true o) h), refl); stays = λ e. refl }
after_one TheInput Output i o f h = record { input = i; output = true; rest = second_holds (not o) (f i true) h; first = λ e. absurd (cc e); stays = λ e. e }
after_one TheOutput Input i o f h = record { input = true; output = o; rest = second_holds (not i) (f true o) h; first = λ e. absurd (cc e); stays = λ e. e }
after_one TheOutput Output i o f h = record { input = i; output = true; rest = second_holds (not o) (f i true) h; first = λ e. (not_false o (first_holds (not o) (f i true) h), refl); stays = λ e. refl }

module _ (stream : Stream) where
  none_there : (x : ℕ) → is_at stream (slice_get [] x) ≡ true → ⊥
  none_there x h = by_none (slice_get [] x) refl h
    where
      by_none : (o : Option Sort) → slice_get [] x ≡ o → is_at stream o ≡ true → ⊥
      by_none None e k = nothing_at stream k
      by_none (Some s) e k = cc e

  -- a slot that holds the stream is that of a parameter

  record IsStreamParam (ps : List UParam) (x : ℕ) : Type 0 where
    param : UParam
    there : slice_get ps x ≡ Some param
    suits : is_of_stream stream param.sort ≡ true

  numbers_none : (ss : List Sort) (x : ℕ) → all_numbers ss ≡ true → is_at stream (slice_get ss x) ≡ true → ⊥
  numbers_none [] x h k = none_there x k
  numbers_none (s ∷ ss) zero h k = number_not_stream stream (Some s) (and_parts (is_number (Some s)) (all_numbers ss) h).0 k
  numbers_none (s ∷ ss) (suc x) h k = numbers_none ss x (and_parts (is_number (Some s)) (all_numbers ss) h).1 k

  stream_param : (ps : List UParam) (ss : List Sort) (x : ℕ) → slots_right ps ss ≡ true → is_at stream (slice_get ss x) ≡ true → IsStreamParam ps x
  stream_param [] ss x h k = absurd (numbers_none ss x h k)
  stream_param (p ∷ ps) [] x h k = absurd (cc h)
  stream_param (p ∷ ps) (s ∷ ss) zero h k = record { param = p; there = refl; suits = kind_stream stream p.sort s (and_parts (same_kind p.sort (Some s)) (slots_right ps ss) h).0 k }
  stream_param (p ∷ ps) (s ∷ ss) (suc x) h k = let w = stream_param ps ss x (and_parts (same_kind p.sort (Some s)) (slots_right ps ss) h).1 k in record { param = w.param; there = w.there; suits = w.suits }

  param_takes : (ps : List UParam) (x : ℕ) → IsStreamParam ps x → takes_stream stream ps ≡ true
  param_takes [] x w = absurd (cc w.there)
  param_takes (p ∷ ps) zero w = takes_more stream p ps ∙ or_left (is_of_stream stream p.sort) (takes_stream stream ps) (ap (λ (z : UParam). is_of_stream stream z.sort) (some_same p w.param w.there) ∙ w.suits)
  param_takes (p ∷ ps) (suc x) w = takes_more stream p ps ∙ or_right (is_of_stream stream p.sort) (takes_stream stream ps) (param_takes ps x (record { param = w.param; there = w.there; suits = w.suits }))

  -- so the unit takes the stream
  pub slot_takes : (program : Form) (n x : ℕ) → AllInScope program → is_at stream (slice_get (unit_at program n).slots x) ≡ true → takes stream program n ≡ true
  slot_takes program n x units h =
      let u : UnitOf = unit_at program n in
      param_takes u.params x (stream_param u.params u.slots x (and_parts (slots_right u.params u.slots) (all_scoped program u u.body (upto (length u.params))) (units n)).0 h)

  -- what is given for it is the stream of the unit around it: one of these references is a slot that holds the stream
  pub record GivesStream (u : UnitOf) (args : List Arg) : Type 0 where
    pub slot : ℕ
    pub among : Among (references args) slot
    pub suits : is_at stream (slice_get u.slots slot) ≡ true

  later_gives : (u : UnitOf) (a : Arg) (args : List Arg) → GivesStream u args → GivesStream u (a ∷ args)
  later_gives u (Ref x) args w = record { slot = w.slot; among = among_behind x (references args) w.slot w.among; suits = w.suits }
  later_gives u (Pass x) args w = record { slot = w.slot; among = w.among; suits = w.suits }
  later_gives u (Fresh e) args w = record { slot = w.slot; among = w.among; suits = w.suits }

  -- the argument for a parameter that takes the stream
  first_gives : (u : UnitOf) (xs : List ℕ) (p : UParam) (a : Arg) (args : List Arg) → is_of_stream stream p.sort ≡ true → argument_right u xs p a ≡ true → (x : ℕ) × (a ≡ Ref x) × (is_at stream (slice_get u.slots x) ≡ true)
  first_gives u xs p (Ref x) args h k = (x, refl, stream_kind stream p.sort (slice_get u.slots x) h (and_parts _ (same_kind p.sort (slice_get u.slots x)) k).1)
  first_gives u xs p (Pass x) args h k = absurd (stream_not_number stream p.sort h (and_parts (is_number (Some p.sort)) (has_number u xs x) k).0)
  first_gives u xs p (Fresh e) args h k = absurd (stream_not_number stream p.sort h (and_parts (is_number (Some p.sort)) (reads_right u xs e) k).0)

  reference_gives : (u : UnitOf) (a : Arg) (args : List Arg) (x : ℕ) → a ≡ Ref x → is_at stream (slice_get u.slots x) ≡ true → GivesStream u (a ∷ args)
  reference_gives u a args x e h = subst (λ (z : Arg). GivesStream u (z ∷ args)) (sym e) (record { slot = x; among = first_of x (references args); suits = h })

  param_gives : (u : UnitOf) (xs : List ℕ) (ps : List UParam) (args : List Arg) (i : ℕ) → arguments_right u xs ps args ≡ true → IsStreamParam ps i → GivesStream u args
  param_gives u xs [] args i h w = absurd (cc w.there)
  param_gives u xs (p ∷ ps) [] i h w = absurd (cc h)
  param_gives u xs (p ∷ ps) (a ∷ args) zero h w =
      let r = first_gives u xs p a args (ap (λ (z : UParam). is_of_stream stream z.sort) (some_same p w.param w.there) ∙ w.suits) (and_parts (argument_right u xs p a) (arguments_right u xs ps args) h).0 in
      reference_gives u a args r.0 r.1 r.2
  param_gives u xs (p ∷ ps) (a ∷ args) (suc i) h w =
      later_gives u a args (param_gives u xs ps args i (and_parts (argument_right u xs p a) (arguments_right u xs ps args) h).1 (record { param = w.param; there = w.there; suits = w.suits }))

  takes_param : (ps : List UParam) → takes_stream stream ps ≡ true → (i : ℕ) × IsStreamParam ps i
  takes_param [] h = absurd (none_take stream h)
  takes_param (p ∷ ps) h = elim (either_holds (is_of_stream stream p.sort) (takes_stream stream ps) (sym (takes_more stream p ps) ∙ h)) [
    | inl e ↦ (0, record { param = p; there = refl; suits = e })
    | inr e ↦ let w = takes_param ps e in (suc w.0, record { param = w.1.param; there = w.1.there; suits = w.1.suits })
  ]

  -- a unit that takes the stream is given it
  pub takes_gives : (u : UnitOf) (xs : List ℕ) (ps : List UParam) (args : List Arg) → arguments_right u xs ps args ≡ true → takes_stream stream ps ≡ true → GivesStream u args
  takes_gives u xs ps args h k = let w = takes_param ps k in param_gives u xs ps args w.0 h w.1

  -- and by one parameter

  rest_once : (a : Arg) (args : List Arg) → distinct (references (a ∷ args)) ≡ true → distinct (references args) ≡ true
  rest_once (Ref x) args h = once_rest x (references args) h
  rest_once (Pass x) args h = h
  rest_once (Fresh e) args h = h

  not_again : (u : UnitOf) (a : Arg) (args : List Arg) (x : ℕ) → HasOneSlot stream u → a ≡ Ref x → is_at stream (slice_get u.slots x) ≡ true → distinct (references (a ∷ args)) ≡ true → GivesStream u args → ⊥
  not_again u a args x one e h once g =
      let here : distinct (x ∷ references args) ≡ true = ap (λ (z : Arg). distinct (references (z ∷ args))) (sym e) ∙ once in
      once_first x (references args) here (subst (Among (references args)) (one g.slot x g.suits h) g.among)

  one_param : (u : UnitOf) (xs : List ℕ) (ps : List UParam) (args : List Arg) (i j : ℕ) → HasOneSlot stream u → arguments_right u xs ps args ≡ true → distinct (references args) ≡ true → IsStreamParam ps i → IsStreamParam ps j → i ≡ j
  one_param u xs [] args i j one h once w v = absurd (cc w.there)
  one_param u xs (p ∷ ps) [] i j one h once w v = absurd (cc h)
  one_param u xs (p ∷ ps) (a ∷ args) zero zero one h once w v = refl
  one_param u xs (p ∷ ps) (a ∷ args) zero (suc j) one h once w v =
      let s = and_parts (argument_right u xs p a) (arguments_right u xs ps args) h in
      let r = first_gives u xs p a args (ap (λ (z : UParam). is_of_stream stream z.sort) (some_same p w.param w.there) ∙ w.suits) s.0 in
      absurd (not_again u a args r.0 one r.1 r.2 once (param_gives u xs ps args j s.1 (record { param = v.param; there = v.there; suits = v.suits })))
  one_param u xs (p ∷ ps) (a ∷ args) (suc i) zero one h once w v =
      let s = and_parts (argument_right u xs p a) (arguments_right u xs ps args) h in
      let r = first_gives u xs p a args (ap (λ (z : UParam). is_of_stream stream z.sort) (some_same p v.param v.there) ∙ v.suits) s.0 in
      absurd (not_again u a args r.0 one r.1 r.2 once (param_gives u xs ps args i s.1 (record { param = w.param; there = w.there; suits = w.suits })))
  one_param u xs (p ∷ ps) (a ∷ args) (suc i) (suc j) one h once w v =
      ap suc (one_param u xs ps args i j one (and_parts (argument_right u xs p a) (arguments_right u xs ps args) h).1 (rest_once a args once) (record { param = w.param; there = w.there; suits = w.suits }) (record { param = v.param; there = v.there; suits = v.suits }))

  -- what a call or a branch hands on to its unit
  pub record Hands (program : Form) (from to : ℕ) : Type 0 where
    pub one : HasOneSlot stream (unit_at program to)
    pub takes_too : takes stream program to ≡ true → takes stream program from ≡ true

  pub call_hands : (program : Form) (from : ℕ) (xs : List ℕ) (c : UCall) → AllInScope program → HasOneSlot stream (unit_at program from) → call_right program (unit_at program from) xs c ≡ true → Hands program from c.unit
  call_hands program from xs c units one h =
      let u : UnitOf = unit_at program from in
      let v : UnitOf = unit_at program c.unit in
      let r = and_parts (arguments_right u xs v.params c.args) (distinct (references c.args)) h in
      let slots = (and_parts (slots_right v.params v.slots) (all_scoped program v v.body (upto (length v.params))) (units c.unit)).0 in
      record {
        one = λ x y a b. one_param u xs v.params c.args x y one r.0 r.1 (stream_param v.params v.slots x slots a) (stream_param v.params v.slots y slots b);
        takes_too = λ t. let g = takes_gives u xs v.params c.args r.0 t in slot_takes program from g.slot units g.suits;
      }

  -- of the branches of a fork

  branch_gives : (program : Form) (u : UnitOf) (xs : List ℕ) (c : UCall) → call_right program u xs c ≡ true → takes stream program c.unit ≡ true → GivesStream u c.args
  branch_gives program u xs c h t = takes_gives u xs (unit_at program c.unit).params c.args (and_parts (arguments_right u xs (unit_at program c.unit).params c.args) (distinct (references c.args)) h).0 t

  -- none of these takes the stream
  abbrev pub NoneTakes : Form → List UBranch → Type 0
  NoneTakes program [] = Unit {0}
  NoneTakes program (b ∷ bs) = (takes stream program b.call.unit ≡ true → ⊥) × NoneTakes program bs

  -- where one does, no other one after it
  abbrev pub OneAtMost : Form → List UBranch → Type 0
  OneAtMost program [] = Unit {0}
  OneAtMost program (b ∷ bs) = (takes stream program b.call.unit ≡ true → NoneTakes program bs) × OneAtMost program bs

  none_other : (program : Form) (u : UnitOf) (xs : List ℕ) (args : List Arg) (bs : List UBranch) → HasOneSlot stream u → GivesStream u args → apart_from_all (references args) bs ≡ true → all_calls_right program u xs bs ≡ true → NoneTakes program bs
  none_other program u xs args [] one g apart h = tt
  none_other program u xs args (b ∷ bs) one g apart h =
      let a = and_parts (are_apart (references args) (references b.call.args)) (apart_from_all (references args) bs) apart in
      let r = and_parts (call_right program u xs b.call) (all_calls_right program u xs bs) h in (
        λ t.
            let k = branch_gives program u xs b.call r.0 t in
            apart_not (references args) (references b.call.args) k.slot a.0 k.among (subst (Among (references args)) (one g.slot k.slot g.suits k.suits) g.among),
        none_other program u xs args bs one g a.1 r.1,
      )

  pub one_at_most : (program : Form) (u : UnitOf) (xs : List ℕ) (bs : List UBranch) → HasOneSlot stream u → branches_apart bs ≡ true → all_calls_right program u xs bs ≡ true → OneAtMost program bs
  one_at_most program u xs [] one apart h = tt
  one_at_most program u xs (b ∷ bs) one apart h =
      let a = and_parts (apart_from_all (references b.call.args) bs) (branches_apart bs) apart in
      let r = and_parts (call_right program u xs b.call) (all_calls_right program u xs bs) h in
      (λ t. none_other program u xs b.call.args bs one (branch_gives program u xs b.call r.0 t) a.0 r.1, one_at_most program u xs bs one a.1 r.1)

  -- `main` takes it once

  once_before : (ps : List UParam) (i o : Bool) (x : ℕ) → came stream i o ≡ true → streams_once i o ps ≡ true → IsStreamParam ps x → ⊥
  once_before [] i o x before h w = cc w.there
  once_before (p ∷ ps) i o zero before h w =
      let t = after_one stream p.sort i o (λ j k. streams_once j k ps) h in
      true≢false (sym before ∙ (t.first (ap (λ (z : UParam). is_of_stream stream z.sort) (some_same p w.param w.there) ∙ w.suits)).0)
  once_before (p ∷ ps) i o (suc x) before h w =
      let t = after_one stream p.sort i o (λ j k. streams_once j k ps) h in
      once_before ps t.input t.output x (t.stays before) t.rest (record { param = w.param; there = w.there; suits = w.suits })

  once_param : (ps : List UParam) (i o : Bool) (x y : ℕ) → streams_once i o ps ≡ true → IsStreamParam ps x → IsStreamParam ps y → x ≡ y
  once_param [] i o x y h w v = absurd (cc w.there)
  once_param (p ∷ ps) i o zero zero h w v = refl
  once_param (p ∷ ps) i o zero (suc y) h w v =
      let t = after_one stream p.sort i o (λ j k. streams_once j k ps) h in
      absurd (once_before ps t.input t.output y (t.first (ap (λ (z : UParam). is_of_stream stream z.sort) (some_same p w.param w.there) ∙ w.suits)).1 t.rest (record { param = v.param; there = v.there; suits = v.suits }))
  once_param (p ∷ ps) i o (suc x) zero h w v =
      let t = after_one stream p.sort i o (λ j k. streams_once j k ps) h in
      absurd (once_before ps t.input t.output x (t.first (ap (λ (z : UParam). is_of_stream stream z.sort) (some_same p v.param v.there) ∙ v.suits)).1 t.rest (record { param = w.param; there = w.there; suits = w.suits }))
  once_param (p ∷ ps) i o (suc x) (suc y) h w v =
      let t = after_one stream p.sort i o (λ j k. streams_once j k ps) h in
      ap suc (once_param ps t.input t.output x y t.rest (record { param = w.param; there = w.there; suits = w.suits }) (record { param = v.param; there = v.there; suits = v.suits }))

  pub main_one : (program : Form) → AllInScope program → streams_once false false (unit_at program program.main).params ≡ true → HasOneSlot stream (unit_at program program.main)
  main_one program units h x y a b =
      let u : UnitOf = unit_at program program.main in
      let slots = (and_parts (slots_right u.params u.slots) (all_scoped program u u.body (upto (length u.params))) (units program.main)).0 in
      once_param u.params false false x y h (stream_param u.params u.slots x slots a) (stream_param u.params u.slots y slots b)
