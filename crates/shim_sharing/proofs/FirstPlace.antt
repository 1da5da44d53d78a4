-- The offence that is reported is that of the first place that the rule refuses.
use Rattle.std.proofs.Common.{◌≡◌, ℕ, List, [], ◌∷◌, Option, Some, None, length, map, refl, ap, inl, inr}
use Rattle.shim_syntax.specs.declared.tree.Sort.{Sort}
use Rattle.shim_scopes.specs.declared.tree.RFunction.{RFunction}
use Rattle.shim_scopes.specs.declared.form.Form.{Form as Resolved}
use Rattle.shim_sharing.specs.declared.fault.ShareFault.{ShareFault}
use Rattle.shim_sharing.specs.declared.fork.Clash.{Clash}
use Rattle.shim_sharing.specs.declared.found.Offence.{Offence}
use Rattle.shim_sharing.specs.declared.found.Offence.TheVariants.{TwoWriters, Alias}
use Rattle.shim_sharing.specs.Laws.{IsOffenceOf, IsFirstOffence, IsFirstRefusalIn, IsFirstRefusal}
use Rattle.shim_sharing.specs.Refusals.{share_fault, fault_for, function_refusal, refusal_in, refusal}
use Rattle.shim_sharing.specs.Sharing.{clash_from, clash_offence, given_again, alias, offence_at, first_offence}
use Rattle.shim_units.specs.PartFold.{places_in}
use Rattle.shim_units.specs.Parts.{SharingPlace}
use Rattle.shim_units.specs.Parts.SharingPlace.{Fork, Called}
use Rattle.shim_units.specs.Rule.{ObeysAt}
use Rattle.shim_units.specs.Captures.{captures}
use Rattle.shim_sharing.proofs.Aliases.{leftmost_alias}
use Rattle.shim_sharing.proofs.LeastClash.{clash_is_least, some_or}
use Rattle.shim_sharing.proofs.Rule.{obeys_at, none_at, all_obey, refused_none}

two_of : (line : ℕ) (found : Option Clash) (o : Offence) → clash_offence line found ≡ Some o → (c : Clash) × (found ≡ Some c) × (o ≡ TwoWriters line c.first c.second c.slot)
two_of line None o e = cc
two_of line (Some c) o e = (c, refl, cc)

alias_of : (line : ℕ) (found : Option ℕ) (o : Offence) → alias line found ≡ Some o → (x : ℕ) × (found ≡ Some x) × (o ≡ Alias line x)
alias_of line None o e = cc
alias_of line (Some x) o e = (x, refl, cc)

offence_of : (sorts : List Sort) (p : SharingPlace) (o : Offence) → offence_at sorts p ≡ Some o → IsOffenceOf sorts p o
offence_of sorts (Fork line branches) o e =
    let w = two_of line (clash_from (length sorts) 0 (map (captures sorts) branches)) o e in
    let least = clash_is_least (length sorts) (map (captures sorts) branches) w.0 w.1 in
    (w.0, w.2, least.0, least.1)
offence_of sorts (Called line gs) o e =
    let w = alias_of line (given_again [] gs) o e in
    (w.0, w.2, leftmost_alias gs w.0 w.1)

not_obeyed : (sorts : List Sort) (p : SharingPlace) (o : Offence) → offence_at sorts p ≡ Some o → ObeysAt sorts p → ⊥
not_obeyed sorts p o e obeyed = let none : offence_at sorts p ≡ None = none_at sorts p obeyed in absurd (cc)

pub first_place : (sorts : List Sort) (ps : List SharingPlace) (o : Offence) → first_offence sorts ps ≡ Some o → IsFirstOffence sorts ps o
first_place sorts [] o e = cc
first_place sorts (p ∷ ps) o e =
    elim (some_or (offence_at sorts p) (first_offence sorts ps) o e) [
      | inl here ↦ record {
        before = [];
        place = p;
        after = ps;
        splits = refl;
        obeyed = tt;
        refused = not_obeyed sorts p o here;
        is_offence = offence_of sorts p o here;
      }
      | inr w ↦
          let h : IsFirstOffence sorts ps o = first_place sorts ps o w.1 in
          record {
            before = p ∷ h.before;
            place = h.place;
            after = h.after;
            splits = ap (λ qs. p ∷ qs) h.splits;
            obeyed = (obeys_at sorts p w.0, h.obeyed);
            refused = h.refused;
            is_offence = h.is_offence;
          }
    ]

refused_of : (names : List (List ℕ)) (f : RFunction) (found : Option Offence) (fault : ShareFault) → fault_for names f found ≡ Some fault → (o : Offence) × (found ≡ Some o) × (fault ≡ share_fault names f o)
refused_of names f None fault e = cc
refused_of names f (Some o) fault e = (o, refl, cc)

first_in : (names : List (List ℕ)) (all fs : List RFunction) (fault : ShareFault) → refusal_in names all fs ≡ Some fault → IsFirstRefusalIn names all fs fault
first_in names all [] fault e = cc
first_in names all (f ∷ fs) fault e =
    elim (some_or (function_refusal names all f) (refusal_in names all fs) fault e) [
      | inl here ↦
          let w = refused_of names f (first_offence f.slots (places_in all f.body)) fault here in
          record {
            before = [];
            function = f;
            after = fs;
            splits = refl;
            obeyed = tt;
            offence = w.0;
            first = first_place f.slots (places_in all f.body) w.0 w.1;
            named = w.2;
          }
      | inr w ↦
          let h : IsFirstRefusalIn names all fs fault = first_in names all fs fault w.1 in
          record {
            before = f ∷ h.before;
            function = h.function;
            after = h.after;
            splits = ap (λ gs. f ∷ gs) h.splits;
            obeyed = (all_obey f.slots (places_in all f.body) (refused_none names f (first_offence f.slots (places_in all f.body)) w.0), h.obeyed);
            offence = h.offence;
            first = h.first;
            named = h.named;
          }
    ]

pub first_refusal : (p : Resolved) (fault : ShareFault) → refusal p ≡ Some fault → IsFirstRefusal p fault
first_refusal p fault e = first_in p.names p.functions p.functions fault e
