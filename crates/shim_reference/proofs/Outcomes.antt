-- What holds of a run's answer.
use Rattle.std.proofs.Common.{◌≡◌, ℕ, List, Result, Ok, Err, IfOk, OnOk, subst, ap, ◌∙◌}
use Rattle.shim_local.specs.declared.Ended.{Ended}
use Rattle.shim_units.specs.declared.form.Form.{Form}
use Rattle.shim_process.specs.Forks.{root}
use Rattle.shim_process.specs.LocalState.{LocalState}
use Rattle.shim_process.specs.Ops.{process_ops}
use Rattle.shim_semantics.specs.Endings.{ended}
use Rattle.shim_semantics.specs.Trees.{Tree, start}
use Rattle.shim_semantics.specs.Walks.{meaning}
use Rattle.shim_reference.specs.Naming.{named}
use Rattle.shim_reference.specs.Reference.{meaning_of, reference_of}
use Rattle.shim_reference.specs.Runs.{IsEndOfRun}

-- the run of a program's root is that of the program
pub run_was : {T E : Type 0} (r : Result T E) (program : Form) (input : List ℕ) (b : ℕ) (l : LocalState) → l ≡ root program input
    → OnOk r (IsEndOfRun process_ops b (meaning process_ops b (start l))) → OnOk r (IsEndOfRun process_ops b (meaning_of program input b))
unfolding meaning_of
run_was r program input b l is ran = subst (λ (k : LocalState). OnOk r (IsEndOfRun process_ops b (meaning process_ops b (start k)))) is ran

-- and leads to the tree of the program
pub led_to : {E : Type 0} (r : Result (Tree LocalState) E) (program : Form) (input : List ℕ) (b : ℕ) (l : LocalState) → l ≡ root program input
    → IfOk r (λ tree. tree ≡ meaning process_ops b (start l)) → IfOk r (λ tree. tree ≡ meaning_of program input b)
unfolding meaning_of
led_to (Ok t) program input b l is leads = leads ∙ ap (λ (k : LocalState). meaning process_ops b (start k)) is
led_to (Err e) program input b l is leads = tt

-- what is read off that tree is what the program means, where these are the names after its `throws`
pub end_was : (program : Form) (input : List ℕ) (b : ℕ) (t : Tree LocalState) (read e : Ended) (throws : List ℕ) → t ≡ meaning_of program input b → throws ≡ program.main_throws
    → read ≡ ended process_ops t → e ≡ named throws read → e ≡ reference_of program input b
unfolding reference_of
end_was program input b t read e throws leads names is named_is = named_is ∙ (λ i. named (names i) (is i)) ∙ ap (λ (u : Tree LocalState). named program.main_throws (ended process_ops u)) leads
