-- What is found by a name is found by the one that replaces it.
use Rattle.std.proofs.Common.{ℕ, ◌≡◌, ◌∙◌, List, [], ◌∷◌, ◌++◌, Option, Some, None, Bool, true, false, cond, not, ◌+◌, map, reverse, length, refl, sym, ap}
use Rattle.std.specs.Prelude.{position, nat_lt}
use Rattle.std.specs.List.{find, position_or_len}
use Rattle.std.specs.Option.{option_map, option_or}
use Rattle.std.specs.Str.{bytes_eq}
use Rattle.std.proofs.lemmas.List.{map-append, reverse-append, length-map}
use Rattle.shim_scopes.specs.declared.scope.Bound.{Bound}
use Rattle.shim_scopes.specs.declared.scope.LocalDeclaration.{LocalDeclaration}
use Rattle.shim_scopes.specs.declared.scope.Handled.{Handled}
use Rattle.shim_scopes.specs.Binding.{binding_of, exception_of, unless_bound, unknown, if_stream, unless_input, unless_output, if_bound, no_number, no_input, no_output, slot_at, slot_of, number_or_zero_of, exception_number, unless_handled, unhandled}
use Rattle.shim_scopes.specs.Statements.{if_found, declared_in}
use Rattle.shim_syntax.specs.declared.tree.Sort.{Sort}
use Rattle.shim_syntax.specs.declared.tree.Sort.TheVariants.{Value, Input, Output}
use Rattle.shim_syntax.specs.Names.{Texts, name_index, position_else}
use Rattle.shim_up.specs.Renaming.{Renaming}
use Rattle.shim_laws_up.specs.Around.{local_renamed, handled_renamed}

pub map-reverse : {A B : Type 0} (g : A → B) (xs : List A) → map g (reverse xs) ≡ reverse (map g xs)
map-reverse g [] = refl
map-reverse g (x ∷ xs) = ap (map g) (reverse-append (x ∷ []) xs) ∙ map-append g (reverse xs) (x ∷ []) ∙ ap (λ l. l ++ g x ∷ []) (map-reverse g xs) ∙ sym (reverse-append (g x ∷ []) (map g xs))

pub map_or : {A B : Type 0} (g : A → B) (o p : Option A) → option_or (option_map g o) (option_map g p) ≡ option_map g (option_or o p)
map_or g None p = refl
map_or g (Some x) p = refl

pub both_or : {A B : Type 0} (g : A → B) (o p : Option A) (q r : Option B) → q ≡ option_map g o → r ≡ option_map g p → option_or q r ≡ option_map g (option_or o p)
both_or g o p q r d e = ap (λ q. option_or q r) d ∙ ap (λ r. option_or (option_map g o) r) e ∙ map_or g o p

module _ (f : Renaming) (same : (x y : List ℕ) → bytes_eq (f x) (f y) ≡ bytes_eq x y) where
  module _ {T U : Type 0} (name : T → List ℕ) (other : U → List ℕ) (g : T → U) (named : (t : T) → other (g t) ≡ f (name t)) (x : List ℕ) where
    one_same : (t : T) → bytes_eq (other (g t)) (f x) ≡ bytes_eq (name t) x
    one_same t = ap (λ n. bytes_eq n (f x)) (named t) ∙ same (name t) x

    put_on : (b : Bool) (t : T) (o : Option T) → cond b (Some (g t)) (option_map g o) ≡ option_map g (cond b (Some t) o)
    put_on true t o = refl
    put_on false t o = refl

    pub find_same : (ts : List T) → find (λ u. bytes_eq (other u) (f x)) (map g ts) ≡ option_map g (find (λ t. bytes_eq (name t) x) ts)
    find_same [] = refl
    find_same (t ∷ ts) =
        ap (λ b. cond b (Some (g t)) (find (λ u. bytes_eq (other u) (f x)) (map g ts))) (one_same t)
        ∙ ap (λ o. cond (bytes_eq (name t) x) (Some (g t)) o) (find_same ts)
        ∙ put_on (bytes_eq (name t) x) t (find (λ t. bytes_eq (name t) x) ts)

    pub find_last_same : (ts : List T) → find (λ u. bytes_eq (other u) (f x)) (reverse (map g ts)) ≡ option_map g (find (λ t. bytes_eq (name t) x) (reverse ts))
    find_last_same ts = ap (λ l. find (λ u. bytes_eq (other u) (f x)) l) (sym (map-reverse g ts)) ∙ find_same (reverse ts)

  over_bound : (o : Option LocalDeclaration) → option_map (λ (l : LocalDeclaration). l.bound) (option_map (local_renamed f) o) ≡ option_map (λ (l : LocalDeclaration). l.bound) o
  over_bound None = refl
  over_bound (Some l) = refl

  over_number : (o : Option Handled) → option_map (λ (l : Handled). l.number) (option_map (handled_renamed f) o) ≡ option_map (λ (l : Handled). l.number) o
  over_number None = refl
  over_number (Some l) = refl

  pub binding_same : (around : List LocalDeclaration) (x : List ℕ) → binding_of (f x) (map (local_renamed f) around) ≡ binding_of x around
  binding_same around x =
      ap (λ (o : Option LocalDeclaration). option_map (λ (l : LocalDeclaration). l.bound) o) (find_last_same (λ (l : LocalDeclaration). l.name) (λ (l : LocalDeclaration). l.name) (local_renamed f) (λ l. refl) x around)
      ∙ over_bound (find (λ (l : LocalDeclaration). bytes_eq l.name x) (reverse around))

  pub exception_same : (around : List Handled) (x : List ℕ) → exception_of (f x) (map (handled_renamed f) around) ≡ exception_of x around
  exception_same around x =
      ap (λ (o : Option Handled). option_map (λ (l : Handled). l.number) o) (find_last_same (λ (l : Handled). l.name) (λ (l : Handled). l.name) (handled_renamed f) (λ l. refl) x around)
      ∙ over_number (find (λ (l : Handled). bytes_eq l.name x) (reverse around))

  unless_renamed : (x : List ℕ) (o : Option Bound) → unless_bound (f x) o ≡ option_map f (unless_bound x o)
  unless_renamed x None = refl
  unless_renamed x (Some b) = refl

  pub unknown_same : (around : List LocalDeclaration) (x : List ℕ) → unknown (map (local_renamed f) around) (f x) ≡ option_map f (unknown around x)
  unknown_same around x = ap (unless_bound (f x)) (binding_same around x) ∙ unless_renamed x (binding_of x around)

  unless_handled_renamed : (x : List ℕ) (o : Option ℕ) → unless_handled (f x) o ≡ option_map f (unless_handled x o)
  unless_handled_renamed x None = refl
  unless_handled_renamed x (Some b) = refl

  pub unhandled_same : (around : List Handled) (x : List ℕ) → unhandled (map (handled_renamed f) around) (f x) ≡ option_map f (unhandled around x)
  unhandled_same around x = ap (unless_handled (f x)) (exception_same around x) ∙ unless_handled_renamed x (exception_of x around)

  pub number_same : (around : List Handled) (x : List ℕ) → exception_number (map (handled_renamed f) around) (f x) ≡ exception_number around x
  number_same around x = ap number_or_zero_of (exception_same around x)

  pub slot_same : (around : List LocalDeclaration) (x : List ℕ) → slot_of (map (local_renamed f) around) (f x) ≡ slot_of around x
  slot_same around x = ap slot_at (binding_same around x)

  if_stream_renamed : (x : List ℕ) (s : Sort) → if_stream (f x) s ≡ option_map f (if_stream x s)
  if_stream_renamed x (Value ty) = refl
  if_stream_renamed x Input = refl
  if_stream_renamed x Output = refl

  unless_input_renamed : (x : List ℕ) (s : Sort) → unless_input (f x) s ≡ option_map f (unless_input x s)
  unless_input_renamed x (Value ty) = refl
  unless_input_renamed x Input = refl
  unless_input_renamed x Output = refl

  unless_output_renamed : (x : List ℕ) (s : Sort) → unless_output (f x) s ≡ option_map f (unless_output x s)
  unless_output_renamed x (Value ty) = refl
  unless_output_renamed x Input = refl
  unless_output_renamed x Output = refl

  if_bound_renamed : (t : List ℕ → Sort → Option (List ℕ)) → ((x : List ℕ) (s : Sort) → t (f x) s ≡ option_map f (t x s)) → (x : List ℕ) (o : Option Bound) → if_bound t (f x) o ≡ option_map f (if_bound t x o)
  if_bound_renamed t each x None = refl
  if_bound_renamed t each x (Some b) = each x b.sort

  pub no_number_same : (around : List LocalDeclaration) (x : List ℕ) → no_number (map (local_renamed f) around) (f x) ≡ option_map f (no_number around x)
  no_number_same around x = ap (if_bound if_stream (f x)) (binding_same around x) ∙ if_bound_renamed if_stream if_stream_renamed x (binding_of x around)

  pub no_input_same : (around : List LocalDeclaration) (x : List ℕ) → no_input (map (local_renamed f) around) (f x) ≡ option_map f (no_input around x)
  no_input_same around x = ap (if_bound unless_input (f x)) (binding_same around x) ∙ if_bound_renamed unless_input unless_input_renamed x (binding_of x around)

  pub no_output_same : (around : List LocalDeclaration) (x : List ℕ) → no_output (map (local_renamed f) around) (f x) ≡ option_map f (no_output around x)
  no_output_same around x = ap (if_bound unless_output (f x)) (binding_same around x) ∙ if_bound_renamed unless_output unless_output_renamed x (binding_of x around)

  if_found_renamed : (x : List ℕ) (o : Option LocalDeclaration) → if_found (f x) (option_map (local_renamed f) o) ≡ option_map f (if_found x o)
  if_found_renamed x None = refl
  if_found_renamed x (Some l) = refl

  pub declared_in_same : (own : List LocalDeclaration) (x : List ℕ) → declared_in (map (local_renamed f) own) (f x) ≡ option_map f (declared_in own x)
  declared_in_same own x =
      ap (if_found (f x)) (find_same (λ (l : LocalDeclaration). l.name) (λ (l : LocalDeclaration). l.name) (local_renamed f) (λ l. refl) x own) ∙ if_found_renamed x (find (λ (l : LocalDeclaration). bytes_eq l.name x) own)

  pub declared_name_same : (seen : List (List ℕ)) (x : List ℕ) → find (λ n. bytes_eq n (f x)) (map f seen) ≡ option_map f (find (λ n. bytes_eq n x) seen)
  declared_name_same seen x = find_same (λ n. n) (λ n. n) f (λ n. refl) x seen

  module _ {T U : Type 0} (name : T → List ℕ) (other : U → List ℕ) (g : T → U) (named : (t : T) → other (g t) ≡ f (name t)) (x : List ℕ) where
    place_same : (ts : List T) → position_or_len (λ u. bytes_eq (other u) (f x)) (map g ts) ≡ position_or_len (λ t. bytes_eq (name t) x) ts
    place_same [] = refl
    place_same (t ∷ ts) =
        ap (λ b. cond (not b) (1 + position_or_len (λ u. bytes_eq (other u) (f x)) (map g ts)) 0) (one_same name other g named x t)
        ∙ ap (λ (n : ℕ). cond (not (bytes_eq (name t) x)) (1 + n) 0) (place_same ts)

    pub position_same : (ts : List T) → position (λ u. bytes_eq (other u) (f x)) (map g ts) ≡ position (λ t. bytes_eq (name t) x) ts
    position_same ts =
        ap (λ (n : ℕ). cond (nat_lt n (length (map g ts))) (Some n) None) (place_same ts)
        ∙ ap (λ (l : ℕ). cond (nat_lt (position_or_len (λ t. bytes_eq (name t) x) ts) l) (Some (position_or_len (λ t. bytes_eq (name t) x) ts)) None) (length-map ts g)

  pub number_of_same : (names : Texts) (x : List ℕ) → name_index (map f names) (f x) ≡ name_index names x
  number_of_same names x = ap (λ (o : Option ℕ). position_else (length (map f names)) o) (position_same (λ n. n) (λ n. n) f (λ n. refl) x names) ∙ ap (λ (l : ℕ). position_else l (position (λ n. bytes_eq n x) names)) (length-map names f)
