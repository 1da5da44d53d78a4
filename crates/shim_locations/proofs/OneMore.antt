-- Lists that a call makes, one element after the other.
use Rattle.std.proofs.Common.{◌≡◌, ℕ, suc, ◌+◌, ◌<◌, List, [], ◌∷◌, ◌++◌, length, drop, drop-cons, get_or, Option, None, Some, refl, sym, ap, ◌∙◌, append_assoc, arith}
use Rattle.shim_base.specs.Paths.{Path, NamedChannel}
use Rattle.shim_process.specs.Locations.{Location, Locations}
use Rattle.shim_process.specs.Arguments.{Argument as ArgumentOf, call_locations, new_channels, numbers_from, call_slots, empties, branch_locations, channels_of}
use Rattle.shim_syntax.specs.declared.tree.Sort.{Sort}
use Rattle.shim_syntax.specs.declared.tree.Sort.TheVariants as sort
use Rattle.shim_process.specs.Forks.{labels_from, lent_by}
use Rattle.shim_locations.specs.declared.argument.Argument.{Argument}
use Rattle.shim_locations.specs.Given.{argument_of, arguments_of}

next_is : {A : Type 0} (i : ℕ) (xs : List A) (d : A) → i < length xs → drop i xs ≡ get_or xs i d ∷ drop (i + 1) xs
next_is i xs d lt = drop-cons xs i d lt ∙ ap (λ n. get_or xs i d ∷ drop n xs) (let e : suc i ≡ i + 1 = omega arith in e)

pub one_more_call : (home : Path) (locations passed more : Locations) (made serial next : ℕ) (given : List Argument) (i : ℕ) (d : Argument) → i < length given
    → ((rest : List ArgumentOf) → more ++ call_locations home locations next rest ≡ passed ++ call_locations home locations serial (argument_of (get_or given i d) ∷ rest))
    → passed ++ call_locations home locations serial (arguments_of (drop i given)) ≡ call_locations home locations made (arguments_of given)
    → more ++ call_locations home locations next (arguments_of (drop (i + 1) given)) ≡ call_locations home locations made (arguments_of given)
one_more_call home locations passed more made serial next given i d lt step so_far =
    step (arguments_of (drop (i + 1) given)) ∙ ap (λ g. passed ++ call_locations home locations serial (arguments_of g)) (sym (next_is i given d lt)) ∙ so_far

pub one_more_made : (made serial next : ℕ) (given : List Argument) (i : ℕ) (d : Argument) → i < length given
    → ((rest : List ArgumentOf) → next + new_channels rest ≡ serial + new_channels (argument_of (get_or given i d) ∷ rest))
    → serial + new_channels (arguments_of (drop i given)) ≡ made + new_channels (arguments_of given)
    → next + new_channels (arguments_of (drop (i + 1) given)) ≡ made + new_channels (arguments_of given)
one_more_made made serial next given i d lt step so_far =
    step (arguments_of (drop (i + 1) given)) ∙ ap (λ g. serial + new_channels (arguments_of g)) (sym (next_is i given d lt)) ∙ so_far

pub one_number : (xs : List ℕ) (declared : List Sort) (next more i : ℕ) → more ≡ next + 1 → i < length declared → (xs ++ next ∷ []) ++ numbers_from more (drop (i + 1) declared) ≡ xs ++ numbers_from next (drop i declared)
one_number xs declared next more i e lt =
    append_assoc xs (next ∷ []) (numbers_from more (drop (i + 1) declared))
    ∙ ap (λ m. xs ++ (next ∷ numbers_from m (drop (i + 1) declared))) e
    ∙ ap (λ t. xs ++ numbers_from next t) (sym (next_is i declared sort.Input lt))

pub one_more_slot : (slots more : List ℕ) (first next after : ℕ) (given : List Argument) (declared : List Sort) (i : ℕ) (d : Argument) → i < length given
    → ((rest : List ArgumentOf) (declared : List Sort) → more ++ call_slots after rest declared ≡ slots ++ call_slots next (argument_of (get_or given i d) ∷ rest) declared)
    → slots ++ call_slots next (arguments_of (drop i given)) declared ≡ call_slots first (arguments_of given) declared
    → more ++ call_slots after (arguments_of (drop (i + 1) given)) declared ≡ call_slots first (arguments_of given) declared
one_more_slot slots more first next after given declared i d lt step so_far =
    step (arguments_of (drop (i + 1) given)) declared ∙ ap (λ g. slots ++ call_slots next (arguments_of g) declared) (sym (next_is i given d lt)) ∙ so_far

pub one_empty : (locations : Locations) (declared : List Sort) (i : ℕ) → i < length declared → (locations ++ None ∷ []) ++ empties (drop (i + 1) declared) ≡ locations ++ empties (drop i declared)
one_empty locations declared i lt = append_assoc locations (None ∷ []) (empties (drop (i + 1) declared)) ∙ ap (λ t. locations ++ empties t) (sym (next_is i declared sort.Input lt))

pub one_more_branch : (home : Path) (first locations after passed more : Locations) (made serial next : ℕ) (given : List Argument) (i : ℕ) (d : Argument) → i < length given
    → ((rest : List ArgumentOf) → more ++ branch_locations home after next rest ≡ passed ++ branch_locations home locations serial (argument_of (get_or given i d) ∷ rest))
    → passed ++ branch_locations home locations serial (arguments_of (drop i given)) ≡ branch_locations home first made (arguments_of given)
    → more ++ branch_locations home after next (arguments_of (drop (i + 1) given)) ≡ branch_locations home first made (arguments_of given)
one_more_branch home first locations after passed more made serial next given i d lt step so_far =
    step (arguments_of (drop (i + 1) given)) ∙ ap (λ g. passed ++ branch_locations home locations serial (arguments_of g)) (sym (next_is i given d lt)) ∙ so_far

pub one_more_lent : (x y whole : Locations) (given : List Argument) (i : ℕ) (d : Argument) → i < length given
    → ((rest : List ArgumentOf) → lent_by rest y ≡ lent_by (argument_of (get_or given i d) ∷ rest) x)
    → lent_by (arguments_of (drop i given)) x ≡ whole → lent_by (arguments_of (drop (i + 1) given)) y ≡ whole
one_more_lent x y whole given i d lt step so_far = step (arguments_of (drop (i + 1) given)) ∙ ap (λ g. lent_by (arguments_of g) x) (sym (next_is i given d lt)) ∙ so_far

channels_after : (location : Option Location) (locations : Locations) → channels_of (location ∷ locations) ≡ channels_of (location ∷ []) ++ channels_of locations
channels_after None locations = refl
channels_after (Some l) locations = refl

pub one_more_channel : (channels more : List NamedChannel) (locations : Locations) (i : ℕ) (d : Option Location) → i < length locations → more ≡ channels ++ channels_of (get_or locations i d ∷ [])
    → more ++ channels_of (drop (i + 1) locations) ≡ channels ++ channels_of (drop i locations)
one_more_channel channels more locations i d lt e =
    ap (λ m. m ++ channels_of (drop (i + 1) locations)) e
    ∙ append_assoc channels (channels_of (get_or locations i d ∷ [])) (channels_of (drop (i + 1) locations))
    ∙ ap (λ c. channels ++ c) (sym (channels_after (get_or locations i d) (drop (i + 1) locations)))
    ∙ ap (λ c. channels ++ channels_of c) (sym (next_is i locations d lt))

pub one_label_more : (xs : List ℕ) (names : List ℕ) (next more i : ℕ) → more ≡ next + 1 → i < length names → (xs ++ next ∷ []) ++ labels_from more (drop (i + 1) names) ≡ xs ++ labels_from next (drop i names)
one_label_more xs names next more i e lt =
    append_assoc xs (next ∷ []) (labels_from more (drop (i + 1) names))
    ∙ ap (λ m. xs ++ (next ∷ labels_from m (drop (i + 1) names))) e
    ∙ ap (λ t. xs ++ labels_from next t) (sym (next_is i names 0 lt))
