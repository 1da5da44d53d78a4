-- A process that has the locations of what it names has them for each `next`, for what it reads or stores in and for each argument, and a branch at each fork.
use Rattle.std.proofs.Common.{◌≡◌, ℕ, zero, suc, true, ◌&&◌, inl, inr, List, [], ◌∷◌, length, Option, Some, None, slice_get, refl, sym, subst, arith}
use Rattle.std.proofs.lemmas.Bool.{and_parts}
use Rattle.shim_syntax.specs.declared.tree.Sort.{Sort}
use Rattle.shim_units.specs.declared.unit.Unit.{Unit as UnitOf}
use Rattle.shim_scopes.specs.declared.tree.UParam.{UParam}
use Rattle.shim_units.specs.declared.unit.Arg.{Arg}
use Rattle.shim_units.specs.declared.unit.Arg.TheVariants.{Ref, Pass, Fresh}
use Rattle.shim_units.specs.declared.unit.UBranch.{UBranch}
use Rattle.shim_units.specs.declared.unit.UCall.{UCall}
use Rattle.shim_units.specs.declared.unit.UStmt.{UStmt}
use Rattle.shim_units.specs.declared.unit.UWhat.{UWhat, UWhat-F, out-UWhat}
use Rattle.shim_process.specs.Locations.{Locations, at_number}
use Rattle.shim_process.specs.LocalState.{LocalState, unit_at, number_or_any, number_of, location_of}
use Rattle.shim_process.specs.Todo.{Item, Do, Leave, next_stmt}
use Rattle.shim_base.proofs.Facts.{some_same, none_some, both_hold, first_holds, second_holds}
use Rattle.shim_laws_stops.specs.InScope.{is_number, same_kind, has_number, has_input, has_output, variables_read, variables_in_option, have_numbers, reads_right, option_right, argument_right, arguments_right, references, distinct, call_right, all_calls_right, are_some, branches_apart}
use Rattle.shim_laws_stops.specs.FrameLocations.{item_right, ItemsScoped, FrameScoped, HasLocations}
use Rattle.shim_laws_stops.specs.Named.{IsThere, IsAtStmt, HasItsLocation, IsNextOf, next, next_assign, assign_next, arguments_read, branches_read, variables_at, ArgumentHasLocation, AllHaveLocations, CallHasLocations, BranchesHaveLocations}
use Rattle.shim_laws_stops.proofs.Among.{Among, none_among, among_cases, among_either}
use Rattle.shim_laws_stops.proofs.ScopeEntries.{number_of_kind}
use Rattle.shim_laws_stops.proofs.ScopeFrames.{inner_scoped}
use Rattle.shim_laws_stops.proofs.LocationSteps.{Has}
use Rattle.shim_laws_stops.proofs.LocationForks.{known_here}

-- where two lists are equally long, the second has an element at each place at which the first has one
get_there : {A B : Type 0} (xs : List A) (ys : List B) (x : ℕ) (a : A) → length ys ≡ length xs → slice_get xs x ≡ Some a → (b : B) × (slice_get ys x ≡ Some b)
get_there [] ys x a many e = absurd (cc e)
get_there (z ∷ xs) [] x a many e = absurd (omega (arith, many))
get_there (z ∷ xs) (y ∷ ys) zero a many e = (y, refl)
get_there (z ∷ xs) (y ∷ ys) (suc x) a many e = get_there xs ys x a (omega (arith, many)) e

some_sort : (o : Option Sort) → is_number o ≡ true → (s : Sort) × (o ≡ Some s)
some_sort None h = absurd (cc h)
some_sort (Some s) h = (s, refl)

number_there : (locations : Locations) (o : Option ℕ) (n : ℕ) → o ≡ Some n → IsThere (at_number locations (number_or_any o)) → IsThere (at_number locations n)
number_there locations o n e h = subst (λ z. IsThere (at_number locations (number_or_any z))) e h

-- the slot has its location, where the unit has a number in it
abbrev IsLocated : LocalState → ℕ → Type 0
IsLocated l x = is_number (slice_get (unit_at l.program l.frame.unit).slots x) ≡ true → HasItsLocation l x

numbered : (l : LocalState) (x : ℕ) → length l.frame.slots ≡ length (unit_at l.program l.frame.unit).slots → Has l x → IsLocated l x
unfolding number_of
numbered l x many h is =
    let s = some_sort (slice_get (unit_at l.program l.frame.unit).slots x) is in
    let n = get_there (unit_at l.program l.frame.unit).slots l.frame.slots x s.0 many s.1 in
    (n.0, n.1, number_there l.locations (slice_get l.frame.slots x) n.0 n.1 (h is))

-- and so by the look-up that has a default
pub location_there : (l : LocalState) (x : ℕ) → HasItsLocation l x → IsThere (location_of l.locations l.frame.slots x)
unfolding number_of
location_there l x h = subst (λ z. IsThere (at_number l.locations (number_or_any z))) (sym h.1) h.2

-- what the statement names has its location
pub record IsRight (l : LocalState) (w : UWhat-F UWhat UStmt) : Type 0 where
  pub slots : List ℕ
  pub has : (x : ℕ) → Among slots x → IsLocated l x
  pub right : item_right l.program (unit_at l.program l.frame.unit) w slots ≡ true

item_is_right : (l : LocalState) (todo : List Item) (s : UStmt) → length l.frame.slots ≡ length (unit_at l.program l.frame.unit).slots → ItemsScoped l.program (unit_at l.program l.frame.unit) (Has l) [] todo → next_stmt todo ≡ Some s → IsRight l (out-UWhat s.what)
item_is_right l [] s many h e = none_some s e
item_is_right l (Leave ∷ k) s many h e = none_some s e
item_is_right l (Do n r ∷ k) s many h e =
    let same : r ≡ s = some_same r s e in
    subst (λ (z : UStmt). IsRight l (out-UWhat z.what)) same (record { slots = h.0.slots; has = λ x a. numbered l x many (known_here l r h.0 x a); right = h.0.right })

pub stands_right : (l : LocalState) (w : UWhat-F UWhat UStmt) → HasLocations l → IsAtStmt l w → IsRight l w
stands_right l w h (s, at, is) =
    let f : FrameScoped l.program l.locations l.frame = inner_scoped l.program l.locations l.frame l.callers h.frames in
    subst (IsRight l) is (item_is_right l l.frame.todo s f.slots f.todo at)

module _ (l : LocalState) where
  abbrev u : UnitOf
  u = unit_at l.program l.frame.unit

  a_number : (xs : List ℕ) (x : ℕ) → ((y : ℕ) → Among xs y → IsLocated l y) → has_number u xs x ≡ true → HasItsLocation l x
  a_number xs x has h = let w = and_parts _ (is_number (slice_get u.slots x)) h in has x w.0 w.1

  -- each of these that are read
  read_has : (xs ys : List ℕ) (x : ℕ) → ((y : ℕ) → Among xs y → IsLocated l y) → have_numbers u xs ys ≡ true → Among ys x → HasItsLocation l x
  read_has xs [] x has h a = none_among x a
  read_has xs (y ∷ ys) x has h a =
      let w = and_parts (has_number u xs y) (have_numbers u xs ys) h in
      elim (among_cases y ys x a) [ inl e ↦ subst (HasItsLocation l) e (a_number xs y has w.0) | inr b ↦ read_has xs ys x has w.1 b ]

  pub next_has : {w : UWhat-F UWhat UStmt} (x : ℕ) → IsNextOf x w → IsRight l w → HasItsLocation l x
  next_has x next r = a_number r.slots x r.has r.right
  next_has x (next_assign e) r = a_number r.slots x r.has (first_holds (has_number u r.slots x) (reads_right u r.slots e) r.right)
  next_has x (assign_next y) r = a_number r.slots x r.has (second_holds (has_number u r.slots y) (has_number u r.slots x) r.right)

  argument_has : (xs : List ℕ) (p : UParam) (a : Arg) → ((y : ℕ) → Among xs y → IsLocated l y) → argument_right u xs p a ≡ true → ArgumentHasLocation l p a
  argument_has xs p (Ref x) has h = λ number. let w = and_parts _ (same_kind p.sort (slice_get u.slots x)) h in has x w.0 (number_of_kind p.sort (slice_get u.slots x) number w.1)
  argument_has xs p (Pass x) has h = a_number xs x has (second_holds (is_number (Some p.sort)) (has_number u xs x) h)
  argument_has xs p (Fresh e) has h = tt

  arguments_have : (xs : List ℕ) (ps : List UParam) (args : List Arg) → ((y : ℕ) → Among xs y → IsLocated l y) → arguments_right u xs ps args ≡ true → AllHaveLocations l ps args
  arguments_have xs [] [] has h = tt
  arguments_have xs [] (a ∷ rest) has h = absurd (cc h)
  arguments_have xs (p ∷ ps) [] has h = absurd (cc h)
  arguments_have xs (p ∷ ps) (a ∷ rest) has h =
      let w = and_parts (argument_right u xs p a) (arguments_right u xs ps rest) h in
      (argument_has xs p a has w.0, arguments_have xs ps rest has w.1)

  call_has : (xs : List ℕ) (c : UCall) → ((y : ℕ) → Among xs y → IsLocated l y) → call_right l.program u xs c ≡ true → CallHasLocations l c
  call_has xs c has h = arguments_have xs (unit_at l.program c.unit).params c.args has (first_holds (arguments_right u xs (unit_at l.program c.unit).params c.args) (distinct (references c.args)) h)

  branches_have : (xs : List ℕ) (bs : List UBranch) → ((y : ℕ) → Among xs y → IsLocated l y) → all_calls_right l.program u xs bs ≡ true → BranchesHaveLocations l bs
  branches_have xs [] has h = tt
  branches_have xs (b ∷ bs) has h =
      let w = and_parts (call_right l.program u xs b.call) (all_calls_right l.program u xs bs) h in
      (call_has xs b.call has w.0, branches_have xs bs has w.1)

  -- what is read has its location

  arguments_read_there : (xs : List ℕ) (ps : List UParam) (args : List Arg) (x : ℕ) → ((y : ℕ) → Among xs y → IsLocated l y) → arguments_right u xs ps args ≡ true → Among (arguments_read args) x → HasItsLocation l x
  arguments_read_there xs [] [] x has h a = none_among x a
  arguments_read_there xs [] (b ∷ rest) x has h a = absurd (cc h)
  arguments_read_there xs (p ∷ ps) [] x has h a = absurd (cc h)
  arguments_read_there xs (p ∷ ps) (Ref y ∷ rest) x has h a = arguments_read_there xs ps rest x has (second_holds (argument_right u xs p (Ref y)) (arguments_right u xs ps rest) h) a
  arguments_read_there xs (p ∷ ps) (Pass y ∷ rest) x has h a =
      let w = and_parts (argument_right u xs p (Pass y)) (arguments_right u xs ps rest) h in
      elim (among_cases y (arguments_read rest) x a) [
        | inl e ↦ subst (HasItsLocation l) e (a_number xs y has (second_holds (is_number (Some p.sort)) (has_number u xs y) w.0))
        | inr b ↦ arguments_read_there xs ps rest x has w.1 b
      ]
  arguments_read_there xs (p ∷ ps) (Fresh e ∷ rest) x has h a =
      let w = and_parts (argument_right u xs p (Fresh e)) (arguments_right u xs ps rest) h in
      elim (among_either (variables_read e) (arguments_read rest) x a) [
        | inl b ↦ read_has xs (variables_read e) x has (second_holds (is_number (Some p.sort)) (reads_right u xs e) w.0) b
        | inr b ↦ arguments_read_there xs ps rest x has w.1 b
      ]

  call_reads_there : (xs : List ℕ) (c : UCall) (x : ℕ) → ((y : ℕ) → Among xs y → IsLocated l y) → call_right l.program u xs c ≡ true → Among (arguments_read c.args) x → HasItsLocation l x
  call_reads_there xs c x has h a = arguments_read_there xs (unit_at l.program c.unit).params c.args x has (first_holds (arguments_right u xs (unit_at l.program c.unit).params c.args) (distinct (references c.args)) h) a

  branches_read_there : (xs : List ℕ) (bs : List UBranch) (x : ℕ) → ((y : ℕ) → Among xs y → IsLocated l y) → all_calls_right l.program u xs bs ≡ true → Among (branches_read bs) x → HasItsLocation l x
  branches_read_there xs [] x has h a = none_among x a
  branches_read_there xs (b ∷ bs) x has h a =
      let w = and_parts (call_right l.program u xs b.call) (all_calls_right l.program u xs bs) h in
      elim (among_either (arguments_read b.call.args) (branches_read bs) x a) [ inl c ↦ call_reads_there xs b.call x has w.0 c | inr c ↦ branches_read_there xs bs x has w.1 c ]

  pub variables_there : (w : UWhat-F UWhat UStmt) (x : ℕ) → IsRight l w → Among (variables_at w) x → HasItsLocation l x
  variables_there (UWhat-F.Declare t y e) x r a = read_has r.slots (variables_in_option e) x r.has r.right a
  variables_there (UWhat-F.Assign y e) x r a = read_has r.slots (y ∷ variables_read e) x r.has r.right a
  variables_there (UWhat-F.Next y) x r a = elim (among_cases y [] x a) [ inl e ↦ subst (HasItsLocation l) e (a_number r.slots y r.has r.right) | inr b ↦ none_among x b ]
  variables_there (UWhat-F.NextAssign y e) x r a = read_has r.slots (y ∷ variables_read e) x r.has r.right a
  variables_there (UWhat-F.AssignNext y z) x r a =
      let w = and_parts (has_number u r.slots y) (has_number u r.slots z) r.right in
      read_has r.slots (y ∷ z ∷ []) x r.has (both_hold (has_number u r.slots y) (has_number u r.slots z && true) w.0 (both_hold (has_number u r.slots z) true w.1 refl)) a
  variables_there (UWhat-F.Get y i) x r a =
      elim (among_cases y [] x a) [ inl e ↦ subst (HasItsLocation l) e (a_number r.slots y r.has (first_holds (has_number u r.slots y) (has_input u r.slots i) r.right)) | inr b ↦ none_among x b ]
  variables_there (UWhat-F.Put o e) x r a = read_has r.slots (variables_read e) x r.has (second_holds (has_output u r.slots o) (reads_right u r.slots e) r.right) a
  variables_there (UWhat-F.If e first other) x r a = read_has r.slots (variables_read e) x r.has (first_holds (reads_right u r.slots e) _ r.right) a
  variables_there (UWhat-F.While e body) x r a = read_has r.slots (variables_read e) x r.has (first_holds (reads_right u r.slots e) _ r.right) a
  variables_there (UWhat-F.For first test step body) x r a = read_has r.slots (variables_in_option test) x r.has (first_holds (option_right u r.slots test) _ r.right) a
  variables_there (UWhat-F.Block body) x r a = none_among x a
  variables_there (UWhat-F.Call c) x r a = call_reads_there r.slots c x r.has r.right a
  variables_there (UWhat-F.Try body y z handler) x r a = none_among x a
  variables_there (UWhat-F.Throw y e) x r a = read_has r.slots (variables_in_option e) x r.has r.right a
  variables_there (UWhat-F.Par bs) x r a = branches_read_there r.slots bs x r.has (second_holds (branches_apart bs) (all_calls_right l.program u r.slots bs) (second_holds (are_some bs) _ r.right)) a

  pub at_call : (c : UCall) → IsRight l (UWhat-F.Call c) → CallHasLocations l c
  at_call c r = call_has r.slots c r.has r.right

  pub at_fork : (bs : List UBranch) → IsRight l (UWhat-F.Par bs) → BranchesHaveLocations l bs
  at_fork bs r = branches_have r.slots bs r.has (second_holds (branches_apart bs) (all_calls_right l.program u r.slots bs) (second_holds (are_some bs) _ r.right))

  pub some_branch : (bs : List UBranch) → IsRight l (UWhat-F.Par bs) → bs ≡ [] → ⊥
  some_branch [] r e = cc r.right
  some_branch (b ∷ bs) r e = cc e
