-- What expressions and arguments name is around them, and of the kind that is asked for.
use Rattle.std.proofs.Common.{ℕ, ℤ, ◌<◌, ◌≡◌, ◌∙◌, Bool, true, false, ◌&&◌, ◌||◌, inl, inr, List, [], ◌∷◌, ◌++◌, Option, Some, None, map, reverse, nat_eq, eqb-true, slice_get, refl, sym, ap, subst}
use Rattle.std.specs.List.{find}
use Rattle.std.specs.Option.{option_map, option_or}
use Rattle.std.specs.Str.{bytes_eq}
use Rattle.std.proofs.lemmas.List.{reverse-append}
use Rattle.std.proofs.lemmas.List.Folds.{find-append}
use Rattle.shim_base.specs.declared.operators.BinOp.{BinOp}
use Rattle.shim_base.specs.declared.operators.UnOp.{UnOp}
use Rattle.shim_syntax.specs.declared.tree.Expr.{Expr, Expr-F, fold-roll-Expr, roll-Expr}
use Rattle.shim_syntax.specs.declared.tree.Expr.TheVariants as e
use Rattle.shim_syntax.specs.declared.tree.Param.{Param}
use Rattle.shim_syntax.specs.declared.tree.Sort.{Sort}
use Rattle.shim_syntax.specs.declared.tree.Sort.TheVariants.{Value, Input, Output}
use Rattle.shim_scopes.specs.declared.scope.Bound.{Bound}
use Rattle.shim_scopes.specs.declared.scope.LocalDeclaration.{LocalDeclaration}
use Rattle.shim_scopes.specs.declared.tree.UExpr.{UExpr, UExpr-F, fold-roll-UExpr, roll-UExpr}
use Rattle.shim_scopes.specs.declared.tree.UExpr.TheVariants as u
use Rattle.shim_scopes.specs.declared.tree.UParam.{UParam}
use Rattle.shim_scopes.specs.Binding as scopes
use Rattle.shim_scopes.specs.Binding.{binding_of, if_bound, if_stream, unless_input, unless_output, unknown, no_number, no_input, no_output, stream_step, stream_in, stream_in_option, slot_of}
use Rattle.shim_scopes.specs.Calls as sc
use Rattle.shim_scopes.specs.Calls.{same_type, same_sort, if_false, wrong_ref, wrong_by, wrong_arg}
use Rattle.shim_units.specs.declared.found.How.TheVariants.{Named, Written}
use Rattle.shim_units.specs.declared.found.Use.{Use}
use Rattle.shim_units.specs.Calls.{is_stream, lends, bare_step, bare}
use Rattle.shim_units.specs.Uses.{used, names_step, names_in, names_in_option, lent_uses, arg_uses}
use Rattle.shim_laws_binding.specs.Innermost.{local_name, IsSlotOfInnermost}
use Rattle.shim_laws_binding.specs.LexicalScope as is
use Rattle.shim_laws_binding.specs.LexicalScope.{BindsExpr, BindsOption}
use Rattle.shim_laws_binding.proofs.InnermostLemmas.{found, Found, is_found, innermost_found}
use Rattle.shim_laws_binding.proofs.Lists.{Each, at_place, neither}
use Rattle.shim_laws_stops.specs.InScope.{is_number, is_input_at, is_output_at, same_kind}
use Rattle.shim_laws_stops.proofs.Among.{Among, none_among, first_of, among_behind, among_cases}
use Rattle.shim_laws_stops.proofs.ScopeLists.{Names, names_either, declares_either}
use Rattle.shim_laws_stops.proofs.ScopeLifting.{OnlyNames, ReadsNumbers, IsAround}

-- the slots of declarations
abbrev pub slots : List LocalDeclaration → List ℕ
slots ls = map (λ (l : LocalDeclaration). l.bound.slot) ls

stands_among : (before inner : List LocalDeclaration) (at : LocalDeclaration) (n : ℕ) → at.bound.slot ≡ n → Among (slots (before ++ at ∷ inner)) n
stands_among [] inner at n e = subst (λ k. Among (slots (at ∷ inner)) k) e (first_of at.bound.slot (slots inner))
stands_among (l ∷ before) inner at n e = among_behind l.bound.slot (slots (before ++ at ∷ inner)) n (stands_among before inner at n e)

pub slot_among : (x : List ℕ) (ls : List LocalDeclaration) (n : ℕ) → IsSlotOfInnermost x ls n → Among (slots ls) n
slot_among x ls n i = subst (λ l. Among (slots l) n) (sym i.1.whole) (stands_among i.1.outer i.1.inner i.0 n i.2)

-- names

none_named : {A : Type 0} (y : ℕ) → Names [] y → A
none_named y h = absurd (cc h)

pub only_none : (around : List ℕ) → OnlyNames around []
only_none around = record { among = λ y h. none_named y h; none = λ y h. cc h }

pub only_both : (around : List ℕ) (us vs : List Use) → OnlyNames around us → OnlyNames around vs → OnlyNames around (us ++ vs)
only_both around us vs a b = record {
  among = λ y h. elim (names_either us vs y h) [ inl k ↦ a.among y k | inr k ↦ b.among y k ];
  none = λ y h. elim (declares_either us vs y h) [ inl k ↦ a.none y k | inr k ↦ b.none y k ];
}

named_is : (b : Bool) (x y : ℕ) → (b ≡ true → x ≡ y) → (b || false) ≡ true → x ≡ y
named_is true x y f h = f refl
named_is false x y f h = absurd (cc h)

none_declared : (b : Bool) → ((b && false) || false) ≡ true → ⊥
none_declared true h = cc h
none_declared false h = cc h

pub only_named : (around : List ℕ) (x : ℕ) → Among around x → OnlyNames around (used Named x ∷ [])
only_named around x a = record {
  among = λ y h. subst (Among around) (named_is (nat_eq x y) x y (eqb-true x y) h) a;
  none = λ y h. none_declared (nat_eq x y) h;
}

pub only_written : (around : List ℕ) (x : ℕ) → Among around x → OnlyNames around (used Written x ∷ [])
only_written around x a = record {
  among = λ y h. subst (Among around) (named_is (nat_eq x y) x y (eqb-true x y) h) a;
  none = λ y h. none_declared (nat_eq x y) h;
}

-- expressions

names_number : (n : ℤ) → names_in (u.Number n) ≡ []
unfolding names_in roll-UExpr denote.Hole.Carrier.roll
names_number n = fold-roll-UExpr (List Use) names_step (UExpr-F.Number n)

pub names_variable : (x : ℕ) → names_in (u.Var x) ≡ used Named x ∷ []
unfolding names_in roll-UExpr denote.Hole.Carrier.roll
names_variable x = fold-roll-UExpr (List Use) names_step (UExpr-F.Var x)

pub names_unary : (op : UnOp) (a : UExpr) → names_in (u.Unary op a) ≡ names_in a
unfolding names_in roll-UExpr denote.Hole.Carrier.roll
names_unary op a = fold-roll-UExpr (List Use) names_step (UExpr-F.Unary op a)

pub names_binary : (op : BinOp) (a b : UExpr) → names_in (u.Binary op a b) ≡ names_in a ++ names_in b
unfolding names_in roll-UExpr denote.Hole.Carrier.roll
names_binary op a b = fold-roll-UExpr (List Use) names_step (UExpr-F.Binary op a b)

bare_number : (n : ℤ) → bare (u.Number n) ≡ None
unfolding bare roll-UExpr denote.Hole.Carrier.roll
bare_number n = fold-roll-UExpr (Option ℕ) bare_step (UExpr-F.Number n)

bare_variable : (x : ℕ) → bare (u.Var x) ≡ Some x
unfolding bare roll-UExpr denote.Hole.Carrier.roll
bare_variable x = fold-roll-UExpr (Option ℕ) bare_step (UExpr-F.Var x)

bare_unary : (op : UnOp) (a : UExpr) → bare (u.Unary op a) ≡ None
unfolding bare roll-UExpr denote.Hole.Carrier.roll
bare_unary op a = fold-roll-UExpr (Option ℕ) bare_step (UExpr-F.Unary op a)

bare_binary : (op : BinOp) (a b : UExpr) → bare (u.Binary op a b) ≡ None
unfolding bare roll-UExpr denote.Hole.Carrier.roll
bare_binary op a b = fold-roll-UExpr (Option ℕ) bare_step (UExpr-F.Binary op a b)

name_number : (n : ℤ) → scopes.bare (e.Number n) ≡ None
unfolding scopes.bare roll-Expr denote.Hole.Carrier.roll
name_number n = fold-roll-Expr (Option (List ℕ)) scopes.bare_step (Expr-F.Number n)

name_variable : (x : List ℕ) → scopes.bare (e.Var x) ≡ Some x
unfolding scopes.bare roll-Expr denote.Hole.Carrier.roll
name_variable x = fold-roll-Expr (Option (List ℕ)) scopes.bare_step (Expr-F.Var x)

name_unary : (op : UnOp) (a : Expr) → scopes.bare (e.Unary op a) ≡ None
unfolding scopes.bare roll-Expr denote.Hole.Carrier.roll
name_unary op a = fold-roll-Expr (Option (List ℕ)) scopes.bare_step (Expr-F.Unary op a)

name_binary : (op : BinOp) (a b : Expr) → scopes.bare (e.Binary op a b) ≡ None
unfolding scopes.bare roll-Expr denote.Hole.Carrier.roll
name_binary op a b = fold-roll-Expr (Option (List ℕ)) scopes.bare_step (Expr-F.Binary op a b)

stream_variable : (ls : List LocalDeclaration) (x : List ℕ) → stream_in ls (e.Var x) ≡ no_number ls x
unfolding stream_in roll-Expr denote.Hole.Carrier.roll
stream_variable ls x = fold-roll-Expr (Option (List ℕ)) (stream_step ls) (Expr-F.Var x)

stream_unary : (ls : List LocalDeclaration) (op : UnOp) (a : Expr) → stream_in ls (e.Unary op a) ≡ stream_in ls a
unfolding stream_in roll-Expr denote.Hole.Carrier.roll
stream_unary ls op a = fold-roll-Expr (Option (List ℕ)) (stream_step ls) (Expr-F.Unary op a)

stream_binary : (ls : List LocalDeclaration) (op : BinOp) (a b : Expr) → stream_in ls (e.Binary op a b) ≡ option_or (stream_in ls a) (stream_in ls b)
unfolding stream_in roll-Expr denote.Hole.Carrier.roll
stream_binary ls op a b = fold-roll-Expr (Option (List ℕ)) (stream_step ls) (Expr-F.Binary op a b)

pub expr_names : {ls : List LocalDeclaration} {a : Expr} {r : UExpr} → BindsExpr ls a r → OnlyNames (slots ls) (names_in r)
expr_names {ls = ls} (is.number {n = n}) = subst (OnlyNames (slots ls)) (sym (names_number n)) (only_none (slots ls))
expr_names {ls = ls} (is.variable {x = x} {slot = slot} i) = subst (OnlyNames (slots ls)) (sym (names_variable slot)) (only_named (slots ls) slot (slot_among x ls slot i))
expr_names {ls = ls} (is.unary {op = op} {r = r} h) = subst (OnlyNames (slots ls)) (sym (names_unary op r)) (expr_names h)
expr_names {ls = ls} (is.binary {op = op} {r = r} {s = s} h k) = subst (OnlyNames (slots ls)) (sym (names_binary op r s)) (only_both (slots ls) (names_in r) (names_in s) (expr_names h) (expr_names k))

-- what an expression is, where it is a variable alone

none_is : (r : UExpr) (x : ℕ) → bare r ≡ None → bare r ≡ Some x → ⊥
none_is r x e f = cc (sym e ∙ f)

some_is : (r : UExpr) (slot x : ℕ) → bare r ≡ Some slot → bare r ≡ Some x → slot ≡ x
some_is r slot x e f = cc (sym e ∙ f)

itself_named : (x : ℕ) → Names (used Named x ∷ []) x
itself_named x = or_false (nat_eq x x) (same x)
  where
    or_false : (b : Bool) → (b || false) ≡ true → (b || false) ≡ true
    or_false b h = h

    same : (x : ℕ) → (nat_eq x x || false) ≡ true
    same x = first_of x []

pub bare_named : {ls : List LocalDeclaration} {a : Expr} {r : UExpr} → BindsExpr ls a r → (x : ℕ) → bare r ≡ Some x → Names (names_in r) x
bare_named (is.number {n = n}) x e = absurd (none_is (u.Number n) x (bare_number n) e)
bare_named (is.variable {slot = slot} i) x e = subst (λ us. Names us x) (sym (names_variable slot)) (subst (λ y. Names (used Named slot ∷ []) y) (some_is (u.Var slot) slot x (bare_variable slot) e) (itself_named slot))
bare_named (is.unary {op = op} {r = r} h) x e = absurd (none_is (u.Unary op r) x (bare_unary op r) e)
bare_named (is.binary {op = op} {r = r} {s = s} h k) x e = absurd (none_is (u.Binary op r s) x (bare_binary op r s) e)

-- what slots hold

-- the declaration has its slot below this one, with its sort among these
pub record IsPlaced (lo : ℕ) (all : List Sort) (l : LocalDeclaration) : Type 0 where
  pub sort : slice_get all l.bound.slot ≡ Some l.bound.sort
  pub below : l.bound.slot < lo

abbrev pub ArePlaced : ℕ → List Sort → List LocalDeclaration → Type 0
ArePlaced lo all ls = Each (IsPlaced lo all) ls

pub placed_around : (lo : ℕ) (all : List Sort) (ls : List LocalDeclaration) → ArePlaced lo all ls → IsAround (slots ls) lo all
placed_around lo all [] h y a = none_among y a
placed_around lo all (l ∷ ls) h y a = elim (among_cases l.bound.slot (slots ls) y a) [
  | inl same ↦ (subst (λ z. z < lo) same h.0.below, l.bound.sort, ap (slice_get all) (sym same) ∙ h.0.sort)
  | inr b ↦ placed_around lo all ls h.1 y b
]

-- what a name is bound to
pub record IsBoundTo (ls : List LocalDeclaration) (all : List Sort) (x : List ℕ) (slot : ℕ) : Type 0 where
  pub bound : Bound
  pub binding : binding_of x ls ≡ Some bound
  pub at : slice_get all slot ≡ Some bound.sort

pub its_binding : (ls : List LocalDeclaration) (lo : ℕ) (all : List Sort) (x : List ℕ) (slot : ℕ) → ArePlaced lo all ls → IsSlotOfInnermost x ls slot → IsBoundTo ls all x slot
its_binding ls lo all x slot h i = record {
  bound = i.0.bound;
  binding = ap (λ (o : Option LocalDeclaration). option_map (λ (l : LocalDeclaration). l.bound) o) (innermost_found local_name x ls i.0 i.1);
  at = ap (slice_get all) (sym i.2) ∙ (at_place (IsPlaced lo all) ls i.1.outer i.0 i.1.inner i.1.whole h).sort;
}

not_stream : (x : List ℕ) (s : Sort) → if_stream x s ≡ None → is_number (Some s) ≡ true
not_stream x (Value t) h = refl
not_stream x Input h = absurd (cc h)
not_stream x Output h = absurd (cc h)

is_input : (x : List ℕ) (s : Sort) → unless_input x s ≡ None → is_input_at (Some s) ≡ true
is_input x (Value t) h = absurd (cc h)
is_input x Input h = refl
is_input x Output h = absurd (cc h)

is_output : (x : List ℕ) (s : Sort) → unless_output x s ≡ None → is_output_at (Some s) ≡ true
is_output x (Value t) h = absurd (cc h)
is_output x Input h = absurd (cc h)
is_output x Output h = refl

bound_if : (f : List ℕ → Sort → Option (List ℕ)) (x : List ℕ) (o : Option Bound) (b : Bound) → o ≡ Some b → if_bound f x o ≡ None → f x b.sort ≡ None
bound_if f x None b e h = absurd (cc e)
bound_if f x (Some c) b e h = let same : c ≡ b = cc e in subst (λ (z : Bound). f x z.sort ≡ None) same h

pub number_bound : (ls : List LocalDeclaration) (lo : ℕ) (all : List Sort) (x : List ℕ) (slot : ℕ) → ArePlaced lo all ls → IsSlotOfInnermost x ls slot → no_number ls x ≡ None → is_number (slice_get all slot) ≡ true
number_bound ls lo all x slot h i none =
    let b = its_binding ls lo all x slot h i in
    ap is_number b.at ∙ not_stream x b.bound.sort (bound_if if_stream x (binding_of x ls) b.bound b.binding none)

pub input_bound : (ls : List LocalDeclaration) (lo : ℕ) (all : List Sort) (x : List ℕ) (slot : ℕ) → ArePlaced lo all ls → IsSlotOfInnermost x ls slot → no_input ls x ≡ None → is_input_at (slice_get all slot) ≡ true
input_bound ls lo all x slot h i none =
    let b = its_binding ls lo all x slot h i in
    ap is_input_at b.at ∙ is_input x b.bound.sort (bound_if unless_input x (binding_of x ls) b.bound b.binding none)

pub output_bound : (ls : List LocalDeclaration) (lo : ℕ) (all : List Sort) (x : List ℕ) (slot : ℕ) → ArePlaced lo all ls → IsSlotOfInnermost x ls slot → no_output ls x ≡ None → is_output_at (slice_get all slot) ≡ true
output_bound ls lo all x slot h i none =
    let b = its_binding ls lo all x slot h i in
    ap is_output_at b.at ∙ is_output x b.bound.sort (bound_if unless_output x (binding_of x ls) b.bound b.binding none)

-- what is no stream among some declarations is none after further ones, of numbers

abbrev pub IsNumber : LocalDeclaration → Type 0
IsNumber l = is_number (Some l.bound.sort) ≡ true

pub placed_numbers : (lo : ℕ) (all : List Sort) (ls : List LocalDeclaration) → ArePlaced lo all ls → ((y : ℕ) → Among (slots ls) y → is_number (slice_get all y) ≡ true) → Each IsNumber ls
placed_numbers lo all [] h f = tt
placed_numbers lo all (l ∷ ls) h f =
    (ap is_number (sym h.0.sort) ∙ f l.bound.slot (first_of l.bound.slot (slots ls)), placed_numbers lo all ls h.1 (λ y a. f y (among_behind l.bound.slot (slots ls) y a)))

number_not_stream : (x : List ℕ) (s : Sort) → is_number (Some s) ≡ true → if_stream x s ≡ None
number_not_stream x (Value t) h = refl
number_not_stream x Input h = absurd (cc h)
number_not_stream x Output h = absurd (cc h)

abbrev stream_found : List ℕ → Option LocalDeclaration → Option (List ℕ)
stream_found x o = if_bound if_stream x (option_map (λ (l : LocalDeclaration). l.bound) o)

number_by : (x : List ℕ) (ls more : List LocalDeclaration) (o : Option LocalDeclaration) → Found local_name x more o → Each IsNumber more → no_number ls x ≡ None → stream_found x (option_or o (found local_name x ls)) ≡ None
number_by x ls more None f h e = e
number_by x ls more (Some l) f h e = number_not_stream x l.bound.sort (at_place IsNumber more f.outer l f.inner f.whole h)

found_both : (x : List ℕ) (ls more : List LocalDeclaration) → found local_name x (ls ++ more) ≡ option_or (found local_name x more) (found local_name x ls)
found_both x ls more = ap (find (λ (l : LocalDeclaration). bytes_eq l.name x)) (reverse-append ls more) ∙ find-append (λ (l : LocalDeclaration). bytes_eq l.name x) (reverse more) (reverse ls)

pub number_behind : (ls more : List LocalDeclaration) → Each IsNumber more → (x : List ℕ) → no_number ls x ≡ None → no_number (ls ++ more) x ≡ None
number_behind ls more h x e = ap (stream_found x) (found_both x ls more) ∙ number_by x ls more (found local_name x more) (is_found local_name x more) h e

-- the variables of an expression are numbers, where what is one among the declarations `asked` is one among those around
module _ (asked ls : List LocalDeclaration) (lo : ℕ) (all : List Sort) (placed : ArePlaced lo all ls) (further : (x : List ℕ) → no_number asked x ≡ None → no_number ls x ≡ None) where
  pub expr_numbers : {a : Expr} {r : UExpr} → BindsExpr ls a r → stream_in asked a ≡ None → (y : ℕ) → Names (names_in r) y → is_number (slice_get all y) ≡ true
  expr_numbers (is.number {n = n}) h y k = none_named y (subst (λ us. Names us y) (names_number n) k)
  expr_numbers (is.variable {x = x} {slot = slot} i) h y k =
      let same : slot ≡ y = named_is (nat_eq slot y) slot y (eqb-true slot y) (subst (λ us. Names us y) (names_variable slot) k) in
      subst (λ z. is_number (slice_get all z) ≡ true) same (number_bound ls lo all x slot placed i (further x (sym (stream_variable asked x) ∙ h)))
  expr_numbers (is.unary {op = op} {a = a} {r = r} i) h y k = expr_numbers i (sym (stream_unary asked op a) ∙ h) y (subst (λ us. Names us y) (names_unary op r) k)
  expr_numbers (is.binary {op = op} {a = a} {b = b} {r = r} {s = s} i j) h y k =
      let none = neither (stream_in asked a) (stream_in asked b) (sym (stream_binary asked op a b) ∙ h) in
      elim (names_either (names_in r) (names_in s) y (subst (λ us. Names us y) (names_binary op r s) k)) [ inl m ↦ expr_numbers i none.0 y m | inr m ↦ expr_numbers j none.1 y m ]

  pub expr_reads : {a : Expr} {r : UExpr} → BindsExpr ls a r → stream_in asked a ≡ None → ReadsNumbers (slots ls) all (names_in r)
  expr_reads i h = record { names = expr_names i; numbers = expr_numbers i h }

  pub option_reads : {a : Option Expr} {r : Option UExpr} → BindsOption ls a r → stream_in_option asked a ≡ None → ReadsNumbers (slots ls) all (names_in_option r)
  option_reads is.missing h = record { names = only_none (slots ls); numbers = λ y k. none_named y k }
  option_reads (is.given i) h = expr_reads i h

-- arguments

-- the argument is of the kind that the parameter asks for
abbrev pub ArgSuits : Bool → List Sort → UParam → UExpr → Type 0
ArgSuits true all p a = (x : ℕ) × (bare a ≡ Some x) × (same_kind p.sort (slice_get all x) ≡ true)
ArgSuits false all p a = (is_number (Some p.sort) ≡ true) × ((x : ℕ) → Names (names_in a) x → is_number (slice_get all x) ≡ true)

same_sorts : (s r : Sort) → same_sort s r ≡ true → same_kind s (Some r) ≡ true
same_sorts (Value a) (Value b) h = refl
same_sorts (Value a) Input h = absurd (cc h)
same_sorts (Value a) Output h = absurd (cc h)
same_sorts Input (Value b) h = absurd (cc h)
same_sorts Input Input h = refl
same_sorts Input Output h = absurd (cc h)
same_sorts Output (Value b) h = absurd (cc h)
same_sorts Output Input h = absurd (cc h)
same_sorts Output Output h = refl

condition_is_true : (x : List ℕ) (b : Bool) → if_false x b ≡ None → b ≡ true
condition_is_true x true h = refl
condition_is_true x false h = absurd (cc h)

fits_bound : (s : Sort) (o : Option Bound) (b : Bound) → o ≡ Some b → sc.sort_fits s o ≡ true → same_sort s b.sort ≡ true
fits_bound s None b e h = absurd (cc e)
fits_bound s (Some c) b e h = let same : c ≡ b = cc e in subst (λ (z : Bound). same_sort s z.sort ≡ true) same h

no_name : {A : Type 0} (ls : List LocalDeclaration) (p : Param) (o : Option (List ℕ)) → o ≡ None → wrong_ref ls p o ≡ None → A
no_name ls p None e h = absurd (cc h)
no_name ls p (Some x) e h = absurd (cc e)

one_name : (ls : List LocalDeclaration) (p : Param) (o : Option (List ℕ)) (x : List ℕ) → o ≡ Some x → wrong_ref ls p o ≡ None → sc.sort_fits p.sort (binding_of x ls) ≡ true
one_name ls p None x e h = absurd (cc e)
one_name ls p (Some y) x e h = let same : y ≡ x = cc e in subst (λ z. sc.sort_fits p.sort (binding_of z ls) ≡ true) same (condition_is_true y (sc.sort_fits p.sort (binding_of y ls)) h)

module _ (ls : List LocalDeclaration) (lo : ℕ) (all : List Sort) (placed : ArePlaced lo all ls) where
  lent_suits : {a : Expr} {r : UExpr} → BindsExpr ls a r → (p : Param) (q : UParam) → q.sort ≡ p.sort → wrong_ref ls p (scopes.bare a) ≡ None → ArgSuits true all q r
  lent_suits (is.number {n = n}) p q same h = no_name ls p (scopes.bare (e.Number n)) (name_number n) h
  lent_suits (is.variable {x = x} {slot = slot} i) p q same h =
      let b = its_binding ls lo all x slot placed i in
      let kind : same_kind p.sort (Some b.bound.sort) ≡ true = same_sorts p.sort b.bound.sort (fits_bound p.sort (binding_of x ls) b.bound b.binding (one_name ls p (scopes.bare (e.Var x)) x (name_variable x) h)) in
      (slot, bare_variable slot, ap (λ (s : Sort). same_kind s (slice_get all slot)) same ∙ ap (same_kind p.sort) b.at ∙ kind)
  lent_suits (is.unary {op = op} {a = a} k) p q same h = no_name ls p (scopes.bare (e.Unary op a)) (name_unary op a) h
  lent_suits (is.binary {op = op} {a = a} {b = b} k l) p q same h = no_name ls p (scopes.bare (e.Binary op a b)) (name_binary op a b) h

  -- by the mode of the parameter
  by_mode : (b : Bool) (a : Expr) (r : UExpr) (p : Param) (q : UParam) → BindsExpr ls a r → q.sort ≡ p.sort → (b ≡ false → is_number (Some q.sort) ≡ true) → wrong_by b ls p a ≡ None → ArgSuits (b || is_stream q.sort) all q r
  by_mode true a r p q k same f h = lent_suits k p q same h
  by_mode false a r p q k same f h = subst (λ c. ArgSuits c all q r) (sym (no_stream q.sort (f refl))) (f refl, expr_numbers ls ls lo all placed (λ x none. none) k h)
    where
      no_stream : (s : Sort) → is_number (Some s) ≡ true → is_stream s ≡ false
      no_stream (Value t) h = refl
      no_stream Input h = absurd (cc h)
      no_stream Output h = absurd (cc h)

  pub arg_suits : (a : Expr) (r : UExpr) (p : Param) (q : UParam) → BindsExpr ls a r → q.sort ≡ p.sort → q.by_ref ≡ p.by_ref → (p.by_ref ≡ false → is_number (Some p.sort) ≡ true) → wrong_arg ls p a ≡ None → ArgSuits (lends q) all q r
  arg_suits a r p q k same mode f h =
      by_mode q.by_ref a r p q k same (λ e. ap (λ (s : Sort). is_number (Some s)) same ∙ f (sym mode ∙ e)) (ap (λ b. wrong_by b ls p a) mode ∙ h)

-- what an argument names

lent_names : (ls : List LocalDeclaration) (o : Option ℕ) (us : List Use) → OnlyNames (slots ls) us → ((x : ℕ) → o ≡ Some x → Among (slots ls) x) → OnlyNames (slots ls) (lent_uses o us)
lent_names ls None us h f = h
lent_names ls (Some x) us h f = only_written (slots ls) x (f x refl)

pub arg_names : (b : Bool) {ls : List LocalDeclaration} {a : Expr} {r : UExpr} → BindsExpr ls a r → OnlyNames (slots ls) (arg_uses b r)
arg_names true {ls = ls} {r = r} k = lent_names ls (bare r) (names_in r) (expr_names k) (λ x e. (expr_names k).among x (bare_named k x e))
arg_names false k = expr_names k
