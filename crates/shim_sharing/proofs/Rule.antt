-- Nothing is refused exactly where the sharing rule is obeyed.
use Rattle.std.proofs.Common.{◌≡◌, ◌∙◌, ℕ, ◌+◌, ◌<◌, zero, suc, List, [], ◌∷◌, ◌++◌, Option, Some, None, Bool, true, false, ◌||◌, ◌&&◌, length, map, IsTrue, refl, sym, ap, subst, arith, inl, inr, append_assoc, append-nil}
use Rattle.std.specs.Option.{option_or}
use Rattle.std.proofs.lemmas.Bool.{cases_lt}
use Rattle.std.proofs.lemmas.Option.{slice_get_past}
use Rattle.shim_syntax.specs.declared.tree.Sort.{Sort}
use Rattle.shim_scopes.specs.declared.tree.RFunction.{RFunction}
use Rattle.shim_scopes.specs.declared.form.Form.{Form as Resolved}
use Rattle.shim_sharing.specs.declared.fork.Clash.{Clash}
use Rattle.shim_units.specs.declared.found.Given.{Given}
use Rattle.shim_sharing.specs.declared.found.Offence.{Offence}
use Rattle.shim_units.specs.declared.found.Use.{Use}
use Rattle.shim_units.specs.Parts.{SharingPlace}
use Rattle.shim_units.specs.Parts.SharingPlace.{Fork, Called}
use Rattle.shim_units.specs.Captures.{Captures, captures, taken_of, declares_variable, writes, names, is_reference}
use Rattle.shim_units.specs.Rule.{AreDisjoint, IsDisjointFromAll, ArePairwiseDisjoint, GivesOnce, ObeysAt, Obey, stands_in}
use Rattle.shim_sharing.specs.Sharing.{if_true, least_below, common, clash_at, clash_with, clash_from, clash_offence, again, given_again, alias, offence_at, first_offence}
use Rattle.shim_units.specs.PartFold.{places_in}
use Rattle.shim_units.specs.Rule.{ObeyAll, Obeys}
use Rattle.shim_sharing.specs.Refusals.{fault_for, function_refusal, refusal_in, refusal}
use Rattle.shim_base.proofs.Facts.{both_hold}

-- neither of two
pub first_none : {A : Type 0} (a b : Option A) → option_or a b ≡ None → a ≡ None
first_none None b e = refl
first_none (Some x) b e = cc

pub second_none : {A : Type 0} (a b : Option A) → option_or a b ≡ None → b ≡ None
second_none None b e = e
second_none (Some x) b e = cc

pub both_none : {A : Type 0} (a b : Option A) → a ≡ None → b ≡ None → option_or a b ≡ None
both_none a b p q = ap (λ o. option_or o b) p ∙ q

not_if_true : {A : Type 0} (a : A) (b : Bool) → if_true a b ≡ None → b ≡ true → ⊥
not_if_true a true e t = cc
not_if_true a false e t = cc

pub if_not_true : {A : Type 0} (a : A) (b : Bool) → (b ≡ true → ⊥) → if_true a b ≡ None
if_not_true a true f = absurd (f refl)
if_not_true a false f = refl

pub left_true : (a b : Bool) → (a && b) ≡ true → a ≡ true
left_true true b e = refl
left_true false b e = cc

pub right_true : (a b : Bool) → (a && b) ≡ true → b ≡ true
right_true true b e = e
right_true false b e = cc

pub none_below : (n : ℕ) (p : ℕ → Bool) → least_below n p ≡ None → (x : ℕ) → x < n → p x ≡ true → ⊥
none_below zero p e x lt t = absurd (omega arith)
none_below (suc n) p e x lt t =
    elim (cases_lt x n) [
      | inl less ↦ none_below n p (first_none (least_below n p) (if_true n (p n)) e) x less t
      | inr more ↦
          let is : x ≡ n = omega arith in
          not_if_true n (p n) (second_none (least_below n p) (if_true n (p n)) e) (ap p (sym is) ∙ t)
    ]

no_least : (n : ℕ) (p : ℕ → Bool) → ((x : ℕ) → p x ≡ true → ⊥) → least_below n p ≡ None
no_least zero p f = refl
no_least (suc n) p f = both_none (least_below n p) (if_true n (p n)) (no_least n p f) (if_not_true n (p n) (f n))

-- forks

-- nothing is taken past the slots
inside : (sorts : List Sort) (us : List Use) (x : ℕ) → is_reference (captures sorts us x) ≡ true → x < length sorts
inside sorts us x is =
    elim (cases_lt x (length sorts)) [
      | inl less ↦ less
      | inr past ↦
          let e : captures sorts us x ≡ taken_of None (declares_variable us x) (writes us x) (names us x) = ap (λ o. taken_of o (declares_variable us x) (writes us x) (names us x)) (slice_get_past sorts x past) in
          let f : is_reference (captures sorts us x) ≡ false = ap is_reference e in
          cc
    ]

apart : (sorts : List Sort) (us vs : List Use) → common (length sorts) (captures sorts us) (captures sorts vs) ≡ None → AreDisjoint (captures sorts us) (captures sorts vs)
apart sorts us vs none x p q =
    none_below (length sorts) (λ y. is_reference (captures sorts us y) && is_reference (captures sorts vs y)) none x (inside sorts us x p) (both_hold (is_reference (captures sorts us x)) (is_reference (captures sorts vs x)) p q)

none_common : (n : ℕ) (s t : Captures) → AreDisjoint s t → common n s t ≡ None
none_common n s t d = no_least n (λ x. is_reference (s x) && is_reference (t x)) (λ x e. d x (left_true (is_reference (s x)) (is_reference (t x)) e) (right_true (is_reference (s x)) (is_reference (t x)) e))

pub clash_none : (i j : ℕ) (o : Option ℕ) → clash_at i j o ≡ None → o ≡ None
clash_none i j None e = refl
clash_none i j (Some x) e = cc

pub none_clash : (i j : ℕ) (o : Option ℕ) → o ≡ None → clash_at i j o ≡ None
none_clash i j None e = refl
none_clash i j (Some x) e = cc

apart_from_all : (sorts : List Sort) (i j : ℕ) (us : List Use) (vs : List (List Use))
    → clash_with (length sorts) i (captures sorts us) j (map (captures sorts) vs) ≡ None → IsDisjointFromAll (captures sorts us) (map (captures sorts) vs)
apart_from_all sorts i j us [] e = tt
apart_from_all sorts i j us (v ∷ vs) e = (
  apart sorts us v (clash_none i j (common (length sorts) (captures sorts us) (captures sorts v)) (first_none (clash_at i j (common (length sorts) (captures sorts us) (captures sorts v))) (clash_with (length sorts) i (captures sorts us) (j + 1) (map (captures sorts) vs)) e)),
  apart_from_all sorts i (j + 1) us vs (second_none (clash_at i j (common (length sorts) (captures sorts us) (captures sorts v))) (clash_with (length sorts) i (captures sorts us) (j + 1) (map (captures sorts) vs)) e),
)

no_clash_with : (n i j : ℕ) (s : Captures) (ts : List Captures) → IsDisjointFromAll s ts → clash_with n i s j ts ≡ None
no_clash_with n i j s [] d = refl
no_clash_with n i j s (t ∷ ts) d = both_none (clash_at i j (common n s t)) (clash_with n i s (j + 1) ts) (none_clash i j (common n s t) (none_common n s t d.0)) (no_clash_with n i (j + 1) s ts d.1)

all_apart : (sorts : List Sort) (i : ℕ) (us : List (List Use)) → clash_from (length sorts) i (map (captures sorts) us) ≡ None → ArePairwiseDisjoint (map (captures sorts) us)
all_apart sorts i [] e = tt
all_apart sorts i (u ∷ us) e = (
  apart_from_all sorts i (i + 1) u us (first_none (clash_with (length sorts) i (captures sorts u) (i + 1) (map (captures sorts) us)) (clash_from (length sorts) (i + 1) (map (captures sorts) us)) e),
  all_apart sorts (i + 1) us (second_none (clash_with (length sorts) i (captures sorts u) (i + 1) (map (captures sorts) us)) (clash_from (length sorts) (i + 1) (map (captures sorts) us)) e),
)

no_clash : (n i : ℕ) (ts : List Captures) → ArePairwiseDisjoint ts → clash_from n i ts ≡ None
no_clash n i [] d = refl
no_clash n i (t ∷ ts) d = both_none (clash_with n i t (i + 1) ts) (clash_from n (i + 1) ts) (no_clash_with n i (i + 1) t ts d.0) (no_clash n (i + 1) ts d.1)

-- calls

pub not_again : (lent : Bool) (before after : List Given) (bare : Option ℕ) (x : ℕ) → again lent before after bare ≡ None → lent ≡ true → bare ≡ Some x → (stands_in x before || stands_in x after) ≡ true → ⊥
not_again true before after None x e l b t = cc
not_again true before after (Some y) x e l b t =
    let is : y ≡ x = cc in
    not_if_true y (stands_in y before || stands_in y after) e (ap (λ z. stands_in z before || stands_in z after) is ∙ t)
not_again false before after bare x e l b t = cc

again_none : (lent : Bool) (before after : List Given) (bare : Option ℕ) → ((x : ℕ) → lent ≡ true → bare ≡ Some x → (stands_in x before || stands_in x after) ≡ true → ⊥) → again lent before after bare ≡ None
again_none true before after None f = refl
again_none true before after (Some y) f = if_not_true y (stands_in y before || stands_in y after) (f y refl refl)
again_none false before after bare f = refl

-- what is given by reference in a part of a call's arguments, after others
OnceBehind : List Given → List Given → Type 0
OnceBehind before gs = (mid : List Given) (g : Given) (after : List Given) (x : ℕ) → gs ≡ mid ++ g ∷ after → IsTrue g.lent → g.bare ≡ Some x → IsTrue (stands_in x (before ++ mid) || stands_in x after) → ⊥

head_of : (g h : Given) (gs hs : List Given) → g ∷ gs ≡ h ∷ hs → g ≡ h
head_of g h gs hs e = cc

tail_of : (g h : Given) (gs hs : List Given) → g ∷ gs ≡ h ∷ hs → gs ≡ hs
tail_of g h gs hs e = cc

once_behind : (before gs : List Given) → given_again before gs ≡ None → OnceBehind before gs
unfolding OnceBehind
once_behind before [] e [] g after x is l b t = cc
once_behind before [] e (m ∷ mid) g after x is l b t = cc
once_behind before (h ∷ gs) e [] g after x is l b t =
    let same : h ≡ g = head_of h g gs after is in
    let rest : gs ≡ after = tail_of h g gs after is in
    not_again h.lent before gs h.bare x (first_none (again h.lent before gs h.bare) (given_again (before ++ h ∷ []) gs) e)
    (ap (λ (k : Given). k.lent) same ∙ l) (ap (λ (k : Given). k.bare) same ∙ b)
    (subst (λ ks. (stands_in x before || stands_in x ks) ≡ true) (sym rest) (subst (λ ks. (stands_in x ks || stands_in x after) ≡ true) (append-nil before) t))
once_behind before (h ∷ gs) e (m ∷ mid) g after x is l b t =
    let same : h ≡ m = head_of h m gs (mid ++ g ∷ after) is in
    let rest : gs ≡ mid ++ g ∷ after = tail_of h m gs (mid ++ g ∷ after) is in
    once_behind (before ++ h ∷ []) gs (second_none (again h.lent before gs h.bare) (given_again (before ++ h ∷ []) gs) e) mid g after x rest l b
    (subst (λ ks. (stands_in x ks || stands_in x after) ≡ true) (ap (λ k. before ++ k ∷ mid) (sym same) ∙ sym (append_assoc before (h ∷ []) mid)) t)

again_behind : (before gs : List Given) → OnceBehind before gs → given_again before gs ≡ None
unfolding OnceBehind
again_behind before [] f = refl
again_behind before (h ∷ gs) f =
    both_none (again h.lent before gs h.bare) (given_again (before ++ h ∷ []) gs)
    (again_none h.lent before gs h.bare (λ x l b t. f [] h gs x refl l b (subst (λ ks. (stands_in x ks || stands_in x gs) ≡ true) (sym (append-nil before)) t)))
    (again_behind (before ++ h ∷ []) gs (λ mid g after x is l b t. f (h ∷ mid) g after x (ap (λ ks. h ∷ ks) is) l b
    (subst (λ ks. (stands_in x ks || stands_in x after) ≡ true) (append_assoc before (h ∷ []) mid) t)))

gives_once : (gs : List Given) → given_again [] gs ≡ None → GivesOnce gs
unfolding OnceBehind
gives_once gs e = once_behind [] gs e

given_once : (gs : List Given) → GivesOnce gs → given_again [] gs ≡ None
unfolding OnceBehind
given_once gs f = again_behind [] gs f

-- all places

two_none : (line : ℕ) (o : Option Clash) → clash_offence line o ≡ None → o ≡ None
two_none line None e = refl
two_none line (Some c) e = cc

none_two : (line : ℕ) (o : Option Clash) → o ≡ None → clash_offence line o ≡ None
none_two line None e = refl
none_two line (Some c) e = cc

alias_none : (line : ℕ) (o : Option ℕ) → alias line o ≡ None → o ≡ None
alias_none line None e = refl
alias_none line (Some c) e = cc

none_alias : (line : ℕ) (o : Option ℕ) → o ≡ None → alias line o ≡ None
none_alias line None e = refl
none_alias line (Some c) e = cc

pub obeys_at : (sorts : List Sort) (p : SharingPlace) → offence_at sorts p ≡ None → ObeysAt sorts p
obeys_at sorts (Fork line branches) e = all_apart sorts 0 branches (two_none line (clash_from (length sorts) 0 (map (captures sorts) branches)) e)
obeys_at sorts (Called line gs) e = gives_once gs (alias_none line (given_again [] gs) e)

pub none_at : (sorts : List Sort) (p : SharingPlace) → ObeysAt sorts p → offence_at sorts p ≡ None
none_at sorts (Fork line branches) o = none_two line (clash_from (length sorts) 0 (map (captures sorts) branches)) (no_clash (length sorts) 0 (map (captures sorts) branches) o)
none_at sorts (Called line gs) o = none_alias line (given_again [] gs) (given_once gs o)

pub all_obey : (sorts : List Sort) (ps : List SharingPlace) → first_offence sorts ps ≡ None → Obey sorts ps
all_obey sorts [] e = tt
all_obey sorts (p ∷ ps) e =
    (obeys_at sorts p (first_none (offence_at sorts p) (first_offence sorts ps) e), all_obey sorts ps (second_none (offence_at sorts p) (first_offence sorts ps) e))

none_of : (sorts : List Sort) (ps : List SharingPlace) → Obey sorts ps → first_offence sorts ps ≡ None
none_of sorts [] o = refl
none_of sorts (p ∷ ps) o = both_none (offence_at sorts p) (first_offence sorts ps) (none_at sorts p o.0) (none_of sorts ps o.1)

pub refused_none : (ns : List (List ℕ)) (f : RFunction) (o : Option Offence) → fault_for ns f o ≡ None → o ≡ None
refused_none ns f None e = refl
refused_none ns f (Some c) e = cc

none_refused : (ns : List (List ℕ)) (f : RFunction) (o : Option Offence) → o ≡ None → fault_for ns f o ≡ None
none_refused ns f None e = refl
none_refused ns f (Some c) e = cc

program_obeys : (ns : List (List ℕ)) (all fs : List RFunction) → refusal_in ns all fs ≡ None → ObeyAll all fs
program_obeys ns all [] e = tt
program_obeys ns all (f ∷ fs) e = (
  all_obey f.slots (places_in all f.body) (refused_none ns f (first_offence f.slots (places_in all f.body)) (first_none (function_refusal ns all f) (refusal_in ns all fs) e)),
  program_obeys ns all fs (second_none (function_refusal ns all f) (refusal_in ns all fs) e),
)

none_in : (ns : List (List ℕ)) (all fs : List RFunction) → ObeyAll all fs → refusal_in ns all fs ≡ None
none_in ns all [] o = refl
none_in ns all (f ∷ fs) o =
    both_none (function_refusal ns all f) (refusal_in ns all fs) (none_refused ns f (first_offence f.slots (places_in all f.body)) (none_of f.slots (places_in all f.body) o.0)) (none_in ns all fs o.1)

-- no place of a program is refused exactly where the program obeys the rule
pub obeys_unless_refused : (p : Resolved) → refusal p ≡ None → Obeys p
obeys_unless_refused p e = program_obeys p.names p.functions p.functions e

pub none_where_obeyed : (p : Resolved) → Obeys p → refusal p ≡ None
none_where_obeyed p o = none_in p.names p.functions p.functions o
