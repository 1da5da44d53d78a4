-- Each identifier of a program stands in the list of its names, at its number.
use Rattle.std.proofs.Common.{ℕ, ◌≡◌, ◌∙◌, ◌<◌, ◌≤◌, ◌⊎◌, inl, inr, List, [], ◌∷◌, ◌++◌, Option, Some, None, Bool, true, false, cond, length, position, map, refl, sym, ap, subst}
use Rattle.std.specs.Prelude.{get_or}
use Rattle.std.specs.List.{find, position_or_len, slice_get}
use Rattle.std.specs.Option.{option_or}
use Rattle.std.specs.Str.{bytes_eq}
use Rattle.std.proofs.lemmas.Bool.{cases_Bool, le-ltb, lt-ltb}
use Rattle.std.proofs.lemmas.List.{get_or-map}
use Rattle.std.proofs.lemmas.List.Folds.{find-append, find_at}
use Rattle.std.proofs.lemmas.Option.{slice_get_cases, slice_get_within, get_or_from_slice_get}
use Rattle.std.proofs.lemmas.Slice.Eq.{bytes_eq-Decides}
use Rattle.shim_syntax.specs.declared.tree.Function.{Function}
use Rattle.shim_syntax.specs.Names.{Texts, unless_there, with_name, with_texts, with_functions, position_else, name_index}
use Rattle.shim_scopes.specs.Calls.{function_number, function_of}
use Rattle.shim_syntax.specs.Occurrences.{identifiers}
use Rattle.shim_syntax.proofs.OccurrenceLemmas.{names_are_the_identifiers}
use Rattle.shim_laws_binding.specs.Naming.{name_at, names_at}
use Rattle.shim_laws_binding.proofs.Lists.{Each}

passes_by : {X : Type 0} (p : X → Bool) (x : X) (rest : Option X) (y : X) → (rest ≡ Some y → p y ≡ true) → (p x ≡ true) ⊎ (p x ≡ false) → cond (p x) (Some x) rest ≡ Some y → p y ≡ true
passes_by {X = X} p x rest y more (inl e) h = let found : Some x ≡ Some y = ap (λ (b : Bool). cond b (Some x) rest) (sym e) ∙ h in let same : x ≡ y = cc found in ap p (sym same) ∙ e
passes_by p x rest y more (inr e) h = more (ap (λ (b : Bool). cond b (Some x) rest) (sym e) ∙ h)

found_passes : {X : Type 0} (p : X → Bool) (xs : List X) (y : X) → find p xs ≡ Some y → p y ≡ true
found_passes p [] y h = absurd (cc h)
found_passes p (x ∷ xs) y h = passes_by p x (find p xs) y (found_passes p xs y) (cases_Bool (p x)) h

-- what is found is at the place that is computed
record StandsAt {X : Type 0} (p : X → Bool) (xs : List X) (y : X) : Type 0 where
  within : position_or_len p xs < length xs
  place : position_else (length xs) (position p xs) ≡ position_or_len p xs
  at : slice_get xs (position_or_len p xs) ≡ Some y

stands_at : {X : Type 0} (p : X → Bool) (xs : List X) (y : X) → find p xs ≡ Some y → StandsAt p xs y
stands_at p xs y h =
    let at : slice_get xs (position_or_len p xs) ≡ Some y = sym (find_at p xs) ∙ h in
    let within = slice_get_within xs (position_or_len p xs) y at in
    record { within = within; place = ap (λ (b : Bool). position_else (length xs) (cond b (Some (position_or_len p xs)) None)) (lt-ltb (position_or_len p xs) (length xs) within); at = at }

position_by : {X : Type 0} (p : X → Bool) (xs : List X) (n : ℕ)
    → ((x : X) × (position_or_len p xs < length xs) × (slice_get xs (position_or_len p xs) ≡ Some x) × (get_or xs (position_or_len p xs) x ≡ x)) ⊎ ((length xs ≤ position_or_len p xs) × (slice_get xs (position_or_len p xs) ≡ None))
    → position p xs ≡ Some n → (y : X) × (slice_get xs n ≡ Some y) × (p y ≡ true)
position_by p xs n (inl i) h =
    let there : Some (position_or_len p xs) ≡ Some n = sym (ap (λ (b : Bool). cond b (Some (position_or_len p xs)) None) (lt-ltb (position_or_len p xs) (length xs) i.1)) ∙ h in
    let same : position_or_len p xs ≡ n = cc there in
    (i.0, ap (slice_get xs) (sym same) ∙ i.2, found_passes p xs i.0 (find_at p xs ∙ i.2))
position_by p xs n (inr i) h =
    let none : None ≡ Some n = sym (ap (λ (b : Bool). cond b (Some (position_or_len p xs)) None) (le-ltb (position_or_len p xs) (length xs) i.0)) ∙ h in
    absurd (cc none)

-- where the first that passes is said to be, one that passes is
pub position_stands : {X : Type 0} (p : X → Bool) (xs : List X) (n : ℕ) → position p xs ≡ Some n → (y : X) × (slice_get xs n ≡ Some y) × (p y ≡ true)
position_stands p xs n h = position_by p xs n (slice_get_cases xs (position_or_len p xs)).1 h

-- one of the names is this one
abbrev IsThere : Texts → List ℕ → Type 0
IsThere names x = (y : List ℕ) × (find (λ n. bytes_eq n x) names ≡ Some y)

-- the name stands at its number
abbrev pub IsKnown : Texts → List ℕ → Type 0
IsKnown names x = name_at names (name_index names x) ≡ x

is_known : (names : Texts) (x : List ℕ) → IsThere names x → IsKnown names x
is_known names x t =
    let s = stands_at (λ n. bytes_eq n x) names t.0 t.1 in
    let there : name_at names (position_or_len (λ n. bytes_eq n x) names) ≡ t.0 = get_or_from_slice_get names (position_or_len (λ n. bytes_eq n x) names) t.0 [] s.at in
    ap (name_at names) s.place ∙ there ∙ (bytes_eq-Decides t.0 x).0 (found_passes (λ n. bytes_eq n x) names t.0 t.1)

-- the function that is found has the name
pub function_named : (fs : List Function) (x : List ℕ) (f : Function) → function_of fs x ≡ Some f → f.name ≡ x
function_named fs x f h = (bytes_eq-Decides f.name x).0 (found_passes (λ (f : Function). bytes_eq f.name x) fs f h)

-- a function stands at its number, too
pub function_at : (fs : List Function) (x : List ℕ) (f : Function) → function_of fs x ≡ Some f → name_at (map (λ (f : Function). f.name) fs) (function_number fs x) ≡ x
function_at fs x f h =
    let p : Function → Bool = λ (f : Function). bytes_eq f.name x in
    let s = stands_at p fs f h in
    let there : name_at (map (λ (f : Function). f.name) fs) (position_or_len p fs) ≡ f.name =
    get_or-map (λ (f : Function). f.name) fs (position_or_len p fs) f [] s.within ∙ ap (λ (f : Function). f.name) (get_or_from_slice_get fs (position_or_len p fs) f f s.at) in
    ap (name_at (map (λ (f : Function). f.name) fs)) s.place ∙ there ∙ function_named fs x f h

there_still_by : (x y : List ℕ) (known : Texts) (o : Option (List ℕ)) → IsThere known x → IsThere (unless_there o (known ++ y ∷ []) known) x
there_still_by x y known None t = (t.0, find-append (λ n. bytes_eq n x) known (y ∷ []) ∙ ap (λ o. option_or o (find (λ n. bytes_eq n x) (y ∷ []))) t.1)
there_still_by x y known (Some z) t = t

there_still : (x y : List ℕ) (known : Texts) → IsThere known x → IsThere (with_name y known) x
there_still x y known t = there_still_by x y known (find (λ n. bytes_eq n y) known) t

there_now_by : (x : List ℕ) (known : Texts) (o : Option (List ℕ)) → find (λ n. bytes_eq n x) known ≡ o → IsThere (unless_there o (known ++ x ∷ []) known) x
there_now_by x known None e =
    (x, find-append (λ n. bytes_eq n x) known (x ∷ []) ∙ ap (λ o. option_or o (find (λ n. bytes_eq n x) (x ∷ []))) e ∙ ap (λ (b : Bool). cond b (Some x) None) ((bytes_eq-Decides x x).1 refl))
there_now_by x known (Some y) e = (y, e)

there_now : (x : List ℕ) (known : Texts) → IsThere (with_name x known) x
there_now x known = there_now_by x known (find (λ n. bytes_eq n x) known) refl

there_always : (x : List ℕ) (xs known : Texts) → IsThere known x → IsThere (with_texts xs known) x
there_always x [] known t = t
there_always x (y ∷ ys) known t = there_always x ys (with_name y known) (there_still x y known t)

all_found : (xs known : Texts) → Each (λ x. IsThere (with_texts xs known) x) xs
all_found [] known = tt
all_found (x ∷ xs) known = (there_always x xs (with_name x known) (there_now x known), all_found xs (with_name x known))

all_known : (names xs : Texts) → Each (IsThere names) xs → Each (IsKnown names) xs
all_known names [] h = tt
all_known names (x ∷ xs) h = (is_known names x h.0, all_known names xs h.1)

pub identifiers_known : (fs : List Function) → Each (IsKnown (with_functions fs [])) (identifiers fs)
identifiers_known fs =
    all_known (with_functions fs []) (identifiers fs)
    (subst (λ names. Each (IsThere names) (identifiers fs)) (sym (names_are_the_identifiers fs)) (all_found (identifiers fs) []))

-- the names at the numbers of known names are these
pub known_back : (names xs : Texts) → Each (IsKnown names) xs → names_at names (map (name_index names) xs) ≡ xs
known_back names [] h = refl
known_back names (x ∷ xs) h = ap (λ y. y ∷ names_at names (map (name_index names) xs)) h.0 ∙ ap (λ ys. x ∷ ys) (known_back names xs h.1)

pub function_stands_at : (fs : List Function) (x : List ℕ) (f : Function) → function_of fs x ≡ Some f → slice_get fs (function_number fs x) ≡ Some f
function_stands_at fs x f h = let s = stands_at (λ (f : Function). bytes_eq f.name x) fs f h in ap (slice_get fs) s.place ∙ s.at
