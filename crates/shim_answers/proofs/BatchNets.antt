-- Nets of a source's runs, one on each of several inputs, and what is read off them.
use Rattle.std.proofs.Common.{◌≡◌, ◌⊎◌, ℕ, List, [], ◌∷◌, ◌++◌, length, map, All, inl, inr, refl, sym, ap, ◌∙◌, subst}
use Rattle.std.specs.List.{AllZip}
use Rattle.std.proofs.lemmas.List.{append_assoc, append-nil}
use Rattle.std.proofs.lemmas.List.Elements.{All-cons, All-head, All-nil, All-tail}
use Rattle.shim_command.specs.declared.mode.Course.TheVariants.{InSomeOrder}
use Rattle.shim_front_end.specs.Source.{Source}
use Rattle.shim_local.specs.declared.Ended.{Ended}
use Rattle.shim_process.specs.Forks.{root}
use Rattle.shim_process.specs.LocalState.{LocalState}
use Rattle.shim_process.specs.Ops.{process_ops}
use Rattle.shim_process.proofs.AllLaws.{process_laws}
use Rattle.shim_net.specs.Nets.{NetView, started}
use Rattle.shim_net.specs.Standings.{IsQuiescentNet, IsSpentNet}
use Rattle.shim_net.proofs.Ends as ends
use Rattle.shim_batch.specs.Runs.{RunsToEnd}
use Rattle.shim_results.specs.RunEnds.{Execution, report_of, IsEnd}
use Rattle.shim_answers.specs.EndedNets.{IsEndedNet, end_of_net}
use Rattle.shim_results.specs.Batches.{greatest, input_line, on_each, reports_of, statuses_of}
use Rattle.shim_results.specs.Answer.{AnswersEach}
use Rattle.shim_answers.proofs.NetEnds.{net_ended, net_of}

-- a net that came to its end gives what a run of its execution may come to
net_gives : (x : Execution) (n : NetView LocalState) → IsEndedNet x n → IsEnd InSomeOrder x (end_of_net x.source n)
net_gives x n net =
    net_ended x n (end_of_net x.source n) net (ends.agrees process_ops n net.keeps net.quiescent_or_spent process_laws) (ends.read_off process_ops n net.keeps net.quiescent_or_spent process_laws) refl

net_gave : (x : Execution) (before after : NetView LocalState) → before ≡ started (root x.source x.input) x.budget → RunsToEnd process_ops before after → IsEnd InSomeOrder x (end_of_net x.source after)
net_gave x before after begun ran = net_gives x after (net_of x (root x.source x.input) before after refl begun ran.root ran.budget ran.keeps ran.quiescent_or_spent)

-- so do several, each on its input
pub nets_gave : (x : Execution) (inputs : List (List ℕ)) (nets done : List (NetView LocalState)) → AllZip (λ input net. net ≡ started (root x.source input) x.budget) inputs nets → AllZip (RunsToEnd process_ops) nets done
    → AllZip (IsEnd InSomeOrder) (on_each x inputs) (map (λ net. end_of_net x.source net) done)
nets_gave x [] [] [] begun ran = tt
nets_gave x [] [] (m ∷ done) begun ran = absurd ran
nets_gave x [] (n ∷ nets) done begun ran = absurd begun
nets_gave x (i ∷ inputs) [] done begun ran = absurd begun
nets_gave x (i ∷ inputs) (n ∷ nets) [] begun ran = absurd ran
nets_gave x (i ∷ inputs) (n ∷ nets) (m ∷ done) begun ran = (net_gave (record x { input = i }) n m begun.0 ran.0, nets_gave x inputs nets done begun.1 ran.1)

-- each of these nets came to its end
abbrev pub HaveStopped : List (NetView LocalState) → Type 0
HaveStopped nets = All (λ net. IsQuiescentNet process_ops net ⊎ IsSpentNet process_ops net) nets

pub have_stopped : (nets done : List (NetView LocalState)) → AllZip (RunsToEnd process_ops) nets done → HaveStopped done
have_stopped [] [] ran = All-nil (λ net. IsQuiescentNet process_ops net ⊎ IsSpentNet process_ops net)
have_stopped [] (m ∷ done) ran = absurd ran
have_stopped (n ∷ nets) [] ran = absurd ran
have_stopped (n ∷ nets) (m ∷ done) ran = All-cons (λ net. IsQuiescentNet process_ops net ⊎ IsSpentNet process_ops net) m done ran.0.quiescent_or_spent (have_stopped nets done ran.1)

module _ (nets rest : List (NetView LocalState)) (n : NetView LocalState) (first : nets ≡ n ∷ rest) (stopped : HaveStopped nets) where
  pub stopped_first : IsQuiescentNet process_ops n ⊎ IsSpentNet process_ops n
  stopped_first = All-head (λ net. IsQuiescentNet process_ops net ⊎ IsSpentNet process_ops net) n rest (subst HaveStopped first stopped)

  pub rest_stopped : HaveStopped rest
  rest_stopped = All-tail (λ net. IsQuiescentNet process_ops net ⊎ IsSpentNet process_ops net) n rest (subst HaveStopped first stopped)

-- ---- loops, of which what is left follows what was done

module _ {A B : Type 0} (f : A → B) where
  -- what the values that are left give stands after what those before them gave
  abbrev pub MapsOn : List A → List B → List A → Type 0
  MapsOn xs ys rest = ys ++ map f rest ≡ map f xs

  pub maps_one : (xs : List A) (ys ys' : List B) (x : A) (rest rest' : List A) → rest ≡ x ∷ rest' → ys' ≡ ys ++ f x ∷ [] → MapsOn xs ys rest → MapsOn xs ys' rest'
  maps_one xs ys ys' x rest rest' first more on =
      ap (λ (l : List B). l ++ map f rest') more ∙ append_assoc ys (f x ∷ []) (map f rest') ∙ ap (λ (l : List A). ys ++ map f l) (sym first) ∙ on

  pub maps_none : (xs : List A) (ys : List B) (rest : List A) → rest ≡ [] → MapsOn xs ys rest → ys ≡ map f xs
  maps_none xs ys rest none on = sym (append-nil ys) ∙ ap (λ (l : List A). ys ++ map f l) (sym none) ∙ on

module _ (source : Source) where
  -- the reports that are left stand after those that were printed
  abbrev pub ReportsOn : List (List ℕ) → List Ended → List ℕ → List (List ℕ) → List Ended → Type 0
  ReportsOn names es lines rest left = lines ++ reports_of source rest left ≡ reports_of source names es

  pub reports_one : (names : List (List ℕ)) (es : List Ended) (lines lines' : List ℕ) (name : List ℕ) (e : Ended) (rest rest' : List (List ℕ)) (left left' : List Ended) → rest ≡ name ∷ rest' → left ≡ e ∷ left'
      → lines' ≡ lines ++ (input_line name ++ report_of source e) → ReportsOn names es lines rest left → ReportsOn names es lines' rest' left'
  reports_one names es lines lines' name e rest rest' left left' first next more on =
      ap (λ (l : List ℕ). l ++ reports_of source rest' left') more
      ∙ append_assoc lines (input_line name ++ report_of source e) (reports_of source rest' left')
      ∙ ap (λ (l : List ℕ). lines ++ l) (append_assoc (input_line name) (report_of source e) (reports_of source rest' left'))
      ∙ (λ i. lines ++ reports_of source (sym first i) (sym next i))
      ∙ on

  no_reports : (names : List (List ℕ)) → reports_of source names [] ≡ []
  no_reports [] = refl
  no_reports (name ∷ names) = refl

  pub reports_none : (names : List (List ℕ)) (es : List Ended) (lines : List ℕ) (rest : List (List ℕ)) (left : List Ended) → (rest ≡ []) ⊎ (left ≡ []) → ReportsOn names es lines rest left → lines ≡ reports_of source names es
  reports_none names es lines rest left (inl none) on = sym (append-nil lines) ∙ ap (λ (l : List (List ℕ)). lines ++ reports_of source l left) (sym none) ∙ on
  reports_none names es lines rest left (inr none) on = sym (append-nil lines) ∙ ap (λ (l : List ℕ). lines ++ l) (sym (no_reports rest)) ∙ ap (λ (l : List Ended). lines ++ reports_of source rest l) (sym none) ∙ on

-- what was read off the nets that ran answers all runs
pub each_answered : (names : List (List ℕ)) (x : Execution) (inputs : List (List ℕ)) (nets done : List (NetView LocalState)) (es : List Ended) (status : ℕ) (text : List ℕ)
    → length inputs ≡ length names → AllZip (λ input net. net ≡ started (root x.source input) x.budget) inputs nets → AllZip (RunsToEnd process_ops) nets done → es ≡ map (λ net. end_of_net x.source net) done
    → status ≡ greatest (statuses_of es) → text ≡ reports_of x.source names es → AnswersEach names x inputs (record { status = status; text = text })
each_answered names x inputs nets done es status text named begun ran read status_is written = (
  named,
  es,
  subst (λ (fs : List Ended). AllZip (IsEnd InSomeOrder) (on_each x inputs) fs) (sym read) (nets_gave x inputs nets done begun ran),
  λ i. record { status = status_is i; text = written i },
)
