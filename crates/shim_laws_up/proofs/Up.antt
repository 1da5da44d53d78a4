-- A program of version 1 that is accepted is accepted in version 2.
use Rattle.std.proofs.Common.{ℕ, ◌≡◌, ◌∙◌, List, [], Ok, Result, map, sym, ap}
use Rattle.shim_syntax.specs.Distinct.{IsNew}
use Rattle.shim_syntax.specs.Names.{with_functions}
use Rattle.shim_syntax.specs.Occurrences.{identifiers}
use Rattle.shim_up.specs.Renaming.{renamed}
use Rattle.shim_syntax.specs.ShortText.{HasText}
use Rattle.shim_up.specs.Up.{IsUp, fresh_name, replaced, with_name_for_word, unchanged, changed}
use Rattle.shim_syntax.specs.declared.tree.Program.{Program}
use Rattle.shim_syntax.specs.declared.tree.Function.{Function}
use Rattle.shim_scopes.specs.declared.form.Form.{Form as Resolved}
use Rattle.shim_scopes.specs.Refusals.{Refusal}
use Rattle.shim_scopes.specs.Functions.{bind_functions, main_of, bind_program}
use Rattle.shim_scopes.proofs.Refusals.{first_ok}
use Rattle.shim_units.specs.Rule.{Obeys}
use Rattle.shim_laws_up.specs.Around.{form_renamed, answer_renamed}
use Rattle.shim_laws_up.specs.Accepting.{IsAcceptedInVersion2}
use Rattle.shim_laws_up.proofs.Agreeing.{functions_agree, texts_agree, agree_on_names}
use Rattle.shim_laws_up.proofs.Functions.{program_follows}
use Rattle.shim_laws_up.proofs.Lifting.{lifted_alike}
use Rattle.shim_laws_up.proofs.Swapping.{swapped, keeps_apart, agree_without_name, main_stays}
use Rattle.shim_laws_up.proofs.LeastNumber.{has_text_in_version_2}

names_are : (p : Program) (form : Resolved) → bind_program p ≡ Ok form → form.names ≡ with_functions p.functions []
names_are p form e =
    let names = with_functions p.functions [] in
    let a = first_ok (bind_functions (record { functions = p.functions; names = names }) [] p.functions) _ form e in
    let b = first_ok (main_of p.functions) (λ main. Ok (record { functions = a.0; names = names; main = main })) form a.2 in
    let s : Resolved = record { functions = a.0; names = names; main = b.0 } in
    let same : s ≡ form = cc b.2 in
    sym (ap (λ (r : Resolved). r.names) same)

abbrev in_version_2 : List Function → Program
in_version_2 fs = record { version = 2; functions = fs }

-- the new name and the new word change places in all of the program, though only the word stands there
bound_in_version_2 : (p : Program) (form : Resolved) (k : ℕ) → IsNew (fresh_name k) (identifiers p.functions) → bind_program p ≡ Ok form
    → bind_program (with_name_for_word (fresh_name k) p) ≡ Ok (form_renamed (replaced (fresh_name k)) form)
bound_in_version_2 p form k new bound =
    let v = fresh_name k in
    let agrees = agree_without_name v (identifiers p.functions) new in
    let one : with_name_for_word v p ≡ renamed (swapped v) (in_version_2 p.functions) = ap in_version_2 (functions_agree (replaced v) (swapped v) p.functions agrees) in
    let names : map (swapped v) form.names ≡ map (replaced v) form.names =
    ap (map (swapped v)) (names_are p form bound) ∙ sym (texts_agree (replaced v) (swapped v) (with_functions p.functions []) (agree_on_names (replaced v) (swapped v) p.functions agrees))
    ∙ ap (map (replaced v)) (sym (names_are p form bound)) in
    let forms : form_renamed (swapped v) form ≡ form_renamed (replaced v) form = ap (λ ns. let r : Resolved = record { functions = form.functions; names = ns; main = form.main } in r) names in
    ap bind_program one ∙ program_follows (swapped v) (keeps_apart v) (main_stays k) (in_version_2 p.functions) ∙ ap (answer_renamed (swapped v) (form_renamed (swapped v))) bound
    ∙ ap (λ (r : Resolved). let o : Result Resolved Refusal = Ok r in o) forms

pub up_is_accepted : (p q : Program) (form : Resolved) → p.version ≡ 1 → HasText p → bind_program p ≡ Ok form → Obeys form → IsUp p q → IsAcceptedInVersion2 p q form
up_is_accepted p q form one has bound obeys (unchanged two same) = absurd (cc (one, two))
up_is_accepted p q form one has bound obeys (changed other k least is) =
    let t = has_text_in_version_2 p k one has least in
    record {
      bytes = t.0;
      text = rw is t.1;
      version = ap (λ (r : Program). r.version) is;
      number = k;
      least = least;
      bound = ap bind_program is ∙ bound_in_version_2 p form k least.new bound;
      obeys = obeys;
      alike = lifted_alike (replaced (fresh_name k)) form;
    }
