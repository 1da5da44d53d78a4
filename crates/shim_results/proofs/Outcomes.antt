-- What comes of the text of a source: it is a source and its action is done, or it is refused with one line.
use Rattle.std.proofs.Common.{◌≡◌, ℕ, List, Ok, Err, inl, inr, refl, ap, ◌∙◌, subst}
use Rattle.shim_syntax.specs.declared.Program.{Program}
use Rattle.shim_parser.specs.declared.ParseFault.{ParseFault}
use Rattle.shim_front_end.specs.declared.SourceFault.{SourceFault}
use Rattle.shim_front_end.specs.declared.SourceFault.TheVariants.{Parse}
use Rattle.shim_front_end.specs.FrontEnd.{IsOnlyText, IsOnlyFault}
use Rattle.shim_front_end.specs.Source.{Source, IsSource, checked}
use Rattle.shim_report.specs.Refusal.{refusal_text}
use Rattle.shim_results.specs.RunEnds.{Execution}
use Rattle.shim_results.specs.SourceActions.{SourceAction}
use Rattle.shim_results.specs.Answer.{Answer, AnswersProgram, AnswersSource, IsNoSource, IsRefusal}

pub data Outcome (action : SourceAction) (as_run : Source → Execution) (bytes : List ℕ) (answer : Answer) : Type 0 where
  does : (source : Source) (is : IsSource bytes source) → AnswersProgram action is.program (as_run source) answer → ((other : Source) (is_other : IsSource bytes other) → (other ≡ source) × (is_other.program ≡ is.program)) → ((line : List ℕ) → IsRefusal bytes line → ⊥)
      → Outcome action as_run bytes answer
  refuses : (line : List ℕ) → IsRefusal bytes line → ((other : List ℕ) → IsRefusal bytes other → other ≡ line) → IsNoSource bytes
      → answer ≡ record { status = 5; text = line } → Outcome action as_run bytes answer

-- the source of a text is one
pub one_source : (bytes : List ℕ) (program : Program) (source : Source) → IsOnlyText bytes program → checked program ≡ Ok source → (other : Source) → IsSource bytes other → other ≡ source
one_source bytes program source text units other h =
    let P : Program → Type 0 = λ q. checked q ≡ Ok other in
    let there : checked program ≡ Ok other = subst P (text.only h.program h.text) h.units in
    cc (units, there)

-- a program that is accepted has no fault
accepted_or_refused : (program : Program) (source : Source) (r : SourceFault) → checked program ≡ Ok source → checked program ≡ Err r → ⊥
accepted_or_refused program source r is refused = absurd (cc)

-- and one fault is the first
refused_once : (program : Program) (r s : SourceFault) → checked program ≡ Err r → checked program ≡ Err s → s ≡ r
refused_once program r s one two = cc

-- a source isn't refused
never_refused : (bytes : List ℕ) (program : Program) (source : Source) → IsOnlyText bytes program → checked program ≡ Ok source → (line : List ℕ) → IsRefusal bytes line → ⊥
never_refused bytes program source text units line (inl (other, is, r, refused, same)) =
    let P : Program → Type 0 = λ q. checked q ≡ Err r in
    accepted_or_refused program source r units (subst P (text.only other is) refused)
never_refused bytes program source text units line (inr (fault, is, same)) = text.faultless fault is

-- the text of a program with a fault is no source
pub no_acceptance : (bytes : List ℕ) (program : Program) (r : SourceFault) → IsOnlyText bytes program → checked program ≡ Err r → IsNoSource bytes
no_acceptance bytes program r text refused source h =
    let P : Program → Type 0 = λ q. checked q ≡ Ok source in
    accepted_or_refused program source r (subst P (text.only h.program h.text) h.units) refused

-- it has one line
line_of_refused : (bytes : List ℕ) (program : Program) (r : SourceFault) → IsOnlyText bytes program → checked program ≡ Err r → (line : List ℕ) → IsRefusal bytes line → line ≡ refusal_text r
line_of_refused bytes program r text refused line (inl (other, is, s, there, same)) =
    let P : Program → Type 0 = λ q. checked q ≡ Err s in
    same ∙ ap (λ (t : SourceFault). refusal_text t) (refused_once program r s refused (subst P (text.only other is) there))
line_of_refused bytes program r text refused line (inr (fault, is, same)) = absurd (text.faultless fault is)

-- and so have bytes with a fault
line_of_fault : (bytes : List ℕ) (fault : ParseFault) → IsOnlyFault bytes fault → (line : List ℕ) → IsRefusal bytes line → line ≡ refusal_text (Parse fault)
line_of_fault bytes fault h line (inl (program, is, r, refused, same)) = absurd (h.textless program is)
line_of_fault bytes fault h line (inr (other, is, same)) = same ∙ ap (λ (f : ParseFault). refusal_text (Parse f)) (h.only other is)

pub outcome : (action : SourceAction) (as_run : Source → Execution) (bytes : List ℕ) (answer : Answer) → AnswersSource action as_run bytes answer → Outcome action as_run bytes answer
outcome action as_run bytes answer (inl (program, text, inl (source, units, has_done))) =
    does source (record { program = program; text = text.text; units = units }) has_done (λ other is_other. (one_source bytes program source text units other is_other, text.only is_other.program is_other.text)) (never_refused bytes program source text units)
outcome action as_run bytes answer (inl (program, text, inr (r, refused, is))) =
    refuses (refusal_text r) (inl (program, text.text, r, refused, refl)) (line_of_refused bytes program r text refused) (no_acceptance bytes program r text refused) is
outcome action as_run bytes answer (inr (fault, h, is)) =
    refuses (refusal_text (Parse fault)) (inr (fault, h.faulty, refl)) (line_of_fault bytes fault h) (λ source has. h.textless has.program has.text) is
