-- From what the front end answers, and from the end of a run, to what the tool answers.
use Rattle.std.proofs.Common.{◌≡◌, ℕ, List, Result, Ok, Err, IfOk, inl, inr, refl, ◌∙◌, subst}
use Rattle.shim_local.specs.declared.Ended.{Ended}
use Rattle.shim_parser.specs.declared.ParseFault.TheVariants as parse
use Rattle.shim_scopes.specs.declared.ScopeFault.TheVariants as scope
use Rattle.shim_sharing.specs.declared.ShareFault.TheVariants as share
use Rattle.shim_syntax.specs.declared.Program.{Program}
use Rattle.shim_front_end.specs.declared.SourceFault.{SourceFault}
use Rattle.shim_front_end.specs.declared.SourceFault.TheVariants.{Parse, Scope, Share}
use Rattle.shim_front_end.specs.FrontEnd.{IsAnswerTo, IsFirstFault, IsProgramAnswerTo}
use Rattle.shim_front_end.specs.Source.{Source}
use Rattle.shim_reference.specs.Reference.{reference_of}
use Rattle.shim_command.specs.declared.mode.Course.{Course}
use Rattle.shim_command.specs.declared.mode.Course.TheVariants.{ByFirstEvents}
use Rattle.shim_results.specs.RunEnds.{Execution, IsEnd, end_of, status_of_outcome}
use Rattle.shim_results.proofs.TreeEnds.{meaning_end}
use Rattle.shim_results.specs.Answer.{AnswersRun, OfBytes}

-- what a program means is what it means under other names for it and its input
pub reference_is : (source program : Source) (input bytes : List ℕ) (budget : ℕ) (e : Ended) → program ≡ source → bytes ≡ input → e ≡ reference_of program bytes budget
    → e ≡ end_of (record { source = source; input = input; budget = budget })
unfolding end_of
reference_is source program input bytes budget e same read is = is ∙ λ i. reference_of (same i) (read i) budget

-- what follows from a fact of the value follows from it where there is a value
pub if_ok_weaker : {T E : Type 0} (r : Result T E) (P Q : T → Type 0) → ((x : T) → P x → Q x) → IfOk r P → IfOk r Q
if_ok_weaker (Ok x) P Q f p = f x p
if_ok_weaker (Err e) P Q f p = tt

-- a source and an input of which there are more owners are run as themselves
pub reference_was : {E : Type 0} (r : Result Ended E) (source program : Source) (input bytes : List ℕ) (budget : ℕ) → program ≡ source → bytes ≡ input
    → IfOk r (λ end. end ≡ reference_of program bytes budget) → IfOk r (IsEnd ByFirstEvents (record { source = source; input = input; budget = budget }))
reference_was (Ok e) source program input bytes budget same read is =
    meaning_end (record { source = source; input = input; budget = budget }) e (reference_is source program input bytes budget e same read is)
reference_was (Err e) source program input bytes budget same read is = tt

-- a run's status and text answer its source
pub answers_run : (course : Course) (shown : Execution → Ended → List ℕ) (s t : Source) (input : List ℕ) (budget : ℕ) (e : Ended) (status : ℕ) (text : List ℕ) → s ≡ t
    → IsEnd course (record { source = s; input = input; budget = budget }) e → status ≡ status_of_outcome e.outcome → text ≡ shown (record { source = s; input = input; budget = budget }) e
    → AnswersRun course shown (record { source = t; input = input; budget = budget }) (record { status = status; text = text })
answers_run course shown s t input budget e status text same end code written =
    subst (λ (b : Source). AnswersRun course shown (record { source = b; input = input; budget = budget }) (record { status = status; text = text })) same
    (e, end, (λ i. record { status = code i; text = written i }))

-- of an accepted program comes what comes of its source
pub of_accepted : {A : Type 0} (OfSource : Program → Source → A → Type 0) (OfFault : SourceFault → A → Type 0) (bytes : List ℕ) (source : Source) (a : A)
    → IsAnswerTo bytes (Ok source) → ((program : Program) → OfSource program source a) → OfBytes OfSource OfFault bytes a
of_accepted OfSource OfFault bytes source a (p, text, is) comes = inl (p, text, inl (source, is, comes p))

pub of_accepted_program : {A : Type 0} (OfSource : Program → Source → A → Type 0) (OfFault : SourceFault → A → Type 0) (bytes : List ℕ) (program : Program) (a : A)
    → IsProgramAnswerTo bytes (Ok program) → ((source : Source) → OfSource program source a) → OfBytes OfSource OfFault bytes a
of_accepted_program OfSource OfFault bytes program a (text, source, is) comes = inl (program, text, inl (source, is, comes source))

-- and of a source that is refused what comes of its fault
pub of_refused : {A : Type 0} (OfSource : Program → Source → A → Type 0) (OfFault : SourceFault → A → Type 0) (bytes : List ℕ) (fault : SourceFault) (a : A)
    → (fault ≡ Parse parse.NoMemory → ⊥) → (fault ≡ Scope scope.NoMemory → ⊥) → (fault ≡ Share share.NoMemory → ⊥)
    → IsFirstFault bytes fault → OfFault fault a → OfBytes OfSource OfFault bytes a
of_refused OfSource OfFault bytes (Parse (parse.Lex e)) a x y z is comes = inr (parse.Lex e, is, comes)
of_refused OfSource OfFault bytes (Parse (parse.Unexpected at line)) a x y z is comes = inr (parse.Unexpected at line, is, comes)
of_refused OfSource OfFault bytes (Parse (parse.TooDeep line)) a x y z is comes = inr (parse.TooDeep line, is, comes)
of_refused OfSource OfFault bytes (Parse (parse.TooMany what line)) a x y z is comes = inr (parse.TooMany what line, is, comes)
of_refused OfSource OfFault bytes (Parse parse.NoMemory) a x y z is comes = absurd (x refl)
of_refused OfSource OfFault bytes (Scope (scope.Refused line kind name)) a x y z (p, text, is) comes = inl (p, text, inr (Scope (scope.Refused line kind name), is, comes))
of_refused OfSource OfFault bytes (Scope scope.NoMemory) a x y z is comes = absurd (y refl)
of_refused OfSource OfFault bytes (Share (share.TwoWriters line name first second)) a x y z (p, text, is) comes = inl (p, text, inr (Share (share.TwoWriters line name first second), is, comes))
of_refused OfSource OfFault bytes (Share (share.Alias line name)) a x y z (p, text, is) comes = inl (p, text, inr (Share (share.Alias line name), is, comes))
of_refused OfSource OfFault bytes (Share share.NoMemory) a x y z is comes = absurd (z refl)
