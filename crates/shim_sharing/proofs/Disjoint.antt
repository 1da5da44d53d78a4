-- A program that obeys the rule has no two branches of a fork that take one variable by reference.
use Rattle.std.proofs.Common.{◌≡◌, ◌≢◌, ◌∙◌, ℕ, ◌<◌, zero, suc, List, [], ◌∷◌, Some, None, map, IsTrue, ap, subst, arith, inl, inr}
use Rattle.std.specs.Prelude.{slice_get}
use Rattle.std.specs.Option.{option_map}
use Rattle.std.proofs.lemmas.Bool.{cases_lt}
use Rattle.std.proofs.lemmas.Option.{slice_get-map}
use Rattle.shim_syntax.specs.declared.tree.Sort.{Sort}
use Rattle.shim_scopes.specs.declared.tree.RFunction.{RFunction}
use Rattle.shim_scopes.specs.declared.form.Form.{Form as Resolved}
use Rattle.shim_units.specs.declared.found.Use.{Use}
use Rattle.shim_units.specs.Parts.{SharingPlace}
use Rattle.shim_units.specs.Parts.SharingPlace.{Fork}
use Rattle.shim_units.specs.Captures.{Captures, captures, is_reference}
use Rattle.shim_units.specs.Rule.{AreDisjoint, IsDisjointFromAll, ArePairwiseDisjoint, ObeysAt, Obey}
use Rattle.shim_units.specs.PartFold.{places_in}
use Rattle.shim_units.specs.Rule.{ObeyAll}
use Rattle.shim_sharing.specs.Refusals.{refusal}
use Rattle.shim_sharing.specs.Laws.{HasTwoWriters}
use Rattle.shim_sharing.proofs.Rule.{obeys_unless_refused}

obeys_there : (sorts : List Sort) (ps : List SharingPlace) (m : ℕ) (p : SharingPlace) → Obey sorts ps → slice_get ps m ≡ Some p → ObeysAt sorts p
obeys_there sorts [] m p o e = cc
obeys_there sorts (q ∷ qs) zero p o e = let same : q ≡ p = cc in subst (ObeysAt sorts) same o.0
obeys_there sorts (q ∷ qs) (suc m) p o e = obeys_there sorts qs m p o.1 e

obeys_in : (all fs : List RFunction) (k : ℕ) (f : RFunction) → ObeyAll all fs → slice_get fs k ≡ Some f → Obey f.slots (places_in all f.body)
obeys_in all [] k f o e = cc
obeys_in all (g ∷ gs) zero f o e = let same : g ≡ f = cc in subst (λ (h : RFunction). Obey h.slots (places_in all h.body)) same o.0
obeys_in all (g ∷ gs) (suc k) f o e = obeys_in all gs k f o.1 e

one_of_all : (s : Captures) (ts : List Captures) (j : ℕ) (t : Captures) → IsDisjointFromAll s ts → slice_get ts j ≡ Some t → AreDisjoint s t
one_of_all s [] j t d e = cc
one_of_all s (u ∷ us) zero t d e = let same : u ≡ t = cc in subst (AreDisjoint s) same d.0
one_of_all s (u ∷ us) (suc j) t d e = one_of_all s us j t d.1 e

two_of_all : (ts : List Captures) (i j : ℕ) (s t : Captures) → ArePairwiseDisjoint ts → i < j → slice_get ts i ≡ Some s → slice_get ts j ≡ Some t → AreDisjoint s t
two_of_all [] i j s t d lt p q = cc
two_of_all (u ∷ us) zero zero s t d lt p q = absurd (omega arith)
two_of_all (u ∷ us) zero (suc j) s t d lt p q = let same : u ≡ s = cc in subst (λ (v : Captures). AreDisjoint v t) same (one_of_all u us j t d.0 q)
two_of_all (u ∷ us) (suc i) zero s t d lt p q = absurd (omega arith)
two_of_all (u ∷ us) (suc i) (suc j) s t d lt p q = two_of_all us i j s t d.1 (omega arith) p q

in_branches : (sorts : List Sort) (us : List (List Use)) (i : ℕ) (u : List Use) → slice_get us i ≡ Some u → slice_get (map (captures sorts) us) i ≡ Some (captures sorts u)
in_branches sorts us i u e = slice_get-map (captures sorts) us i ∙ ap (option_map (captures sorts)) e

pub no_two_writers : (p : Resolved) → refusal p ≡ None → HasTwoWriters p → ⊥
no_two_writers p none w =
    let sorts : List Sort = w.function.slots in
    let obeyed : ArePairwiseDisjoint (map (captures sorts) w.branches) =
    obeys_there sorts (places_in p.functions w.function.body) w.place (Fork w.line w.branches) (obeys_in p.functions p.functions w.number w.function (obeys_unless_refused p none) w.at_number) w.forks in
    let one : IsTrue (is_reference (captures sorts w.one w.slot)) = ap is_reference w.by_one in
    let other : IsTrue (is_reference (captures sorts w.other w.slot)) = ap is_reference w.by_other in
    elim (cases_lt w.first w.second) [
      | inl less ↦ two_of_all (map (captures sorts) w.branches) w.first w.second (captures sorts w.one) (captures sorts w.other) obeyed less (in_branches sorts w.branches w.first w.one w.is_first) (in_branches sorts w.branches w.second w.other w.is_second) w.slot one other
      | inr more ↦
          let ne : w.first ≢ w.second = w.apart in
          let less : w.second < w.first = omega arith in
          two_of_all (map (captures sorts) w.branches) w.second w.first (captures sorts w.other) (captures sorts w.one) obeyed less (in_branches sorts w.branches w.second w.other w.is_second) (in_branches sorts w.branches w.first w.one w.is_first) w.slot other one
    ]
