-- What comes of a source that is accepted, in one go: how its action ended, with what is printed; that its journal is refused; or that it was run on several inputs.
use Rattle.std.proofs.Common.{◌≡◌, ◌<◌, ◌⊎◌, ℕ, List, inl, inr, refl, sym, ap, ◌∙◌, subst, arith}
use Rattle.shim_command.specs.declared.mode.Course.{Course}
use Rattle.shim_command.specs.declared.mode.Course.TheVariants.{InSomeOrder}
use Rattle.shim_local.specs.declared.Ended.{Ended}
use Rattle.shim_syntax.specs.declared.Program.{Program}
use Rattle.shim_process.specs.Forks.{root}
use Rattle.shim_process.specs.LocalState.{LocalState}
use Rattle.shim_process.specs.OwnSlots.{UsesOwnSlots}
use Rattle.shim_process.specs.Ops.{process_ops}
use Rattle.shim_process.proofs.AllLaws.{process_laws}
use Rattle.shim_process.proofs.PlaceRoot.{root_sound}
use Rattle.shim_semantics.specs.Trees.{Tree}
use Rattle.shim_laws_replay.specs.Ends.{AgreesWithMeaning}
use Rattle.shim_laws_replay.specs.Journals.{Entry}
use Rattle.shim_laws_replay.specs.ReadOff.{IsReadOffAs}
use Rattle.shim_laws_journals.specs.Accepting.{JournalRefusal}
use Rattle.shim_laws_journals.proofs.Accepting.{accepted_is_read_off, not_both, one_refusal}
use Rattle.shim_reference.proofs.RootChannels.{main_shares_its_own}
use Rattle.shim_results.specs.RunEnds.{Execution, end_of, printed_steps, read_off, report_of, status_of, status_of_outcome, tree_of, IsBeginning, IsEnd, IsEndStatus, IsReachedIn, IsStoppedAt, IsStoppedEnd, as_meant, stopped}
use Rattle.shim_results.specs.Recorded.{IsJournalOf, IsJournalRefused, IsNoJournal, IsNoRun, IsRecordOf, IsOnlyJournal, IsRunTo, execution_within, malformed_line, refusal_line}
use Rattle.shim_results.specs.SourceActions.{SourceAction, runs, describes, records, replays, runs_each}
use Rattle.shim_results.specs.Answer.{Answer, AnswersEach, AnswersProgram, AnswersRecord, AnswersReplay, AnswersRun, journal_refused, reported}
use Rattle.shim_results.specs.SourceActionEnds.{EndsBy, IsReached, IsRefusedBy, IsRunBy, IsShown, IsShownAt, IsStoppedBy, IsTextBy, status_by}
use Rattle.shim_results.proofs.Beginnings.{begins_by, stopped_tree}
use Rattle.shim_results.proofs.Causes.{DecidesCause, printed}
use Rattle.shim_results.proofs.FaultyLines.{never_faulty, one_faulty_line}
use Rattle.shim_results.proofs.TreeEnds.{end_is, tree_end, rested_there, stopped_there, tree_is}
use Rattle.shim_results.proofs.Reached.{is_reached, is_reached_whole}
use Rattle.shim_results.proofs.Statuses.{end_below, end_not_two, end_status, greatest_end}

-- what is printed of an execution that is stopped
pub record StoppedPrinted (action : SourceAction) (x : Execution) (text : List ℕ) : Type 0 where
  pub tree : Tree LocalState
  pub at : IsStoppedAt x tree
  pub begins : IsBeginning x tree
  pub may : IsStoppedBy action x (read_off x tree)
  pub shown : IsShown action x (read_off x tree) text
  pub shown_there : IsShownAt action x tree text

-- what is printed of an execution
pub record ActionPrinted (action : SourceAction) (program : Program) (x : Execution) (answer : Answer) : Type 0 where
  pub status : answer.status ≡ status_by action x
  pub whole : (status_by action x ≡ 4 → ⊥) → IsTextBy action program x answer.text
  pub part : status_by action x ≡ 4 → StoppedPrinted action x answer.text

-- a source is run once on each of several inputs
abbrev pub IsMany : SourceAction → Type 0
IsMany (runs course shown) = ⊥
IsMany (describes relation) = ⊥
IsMany records = ⊥
IsMany (replays journal) = ⊥
IsMany (runs_each names inputs) = Unit {0}

pub data ActionOutcome (action : SourceAction) (program : Program) (asked : Execution) (answer : Answer) : Type 0 where
  -- this execution was done, and no other may be
  ends : (x : Execution) → UsesOwnSlots x.source → IsRunBy action asked x → ((y : Execution) → IsRunBy action asked y → x ≡ y) → ((line : List ℕ) → IsRefusedBy action asked line → ⊥) → ActionPrinted action program x answer
      → ActionOutcome action program asked answer
  -- none was, and there is one line
  stays : (line : List ℕ) → IsRefusedBy action asked line → ((other : List ℕ) → IsRefusedBy action asked other → line ≡ other) → ((y : Execution) → IsRunBy action asked y → ⊥) → answer ≡ journal_refused line
      → ActionOutcome action program asked answer
  -- several were, each on its input, and none of them is the one that was asked for
  many : IsMany action → IsEndStatus answer.status → ((y : Execution) → IsRunBy action asked y → ⊥) → ((line : List ℕ) → IsRefusedBy action asked line → ⊥) → ActionOutcome action program asked answer

printed_run : (course : Course) (shown : Execution → Ended → List ℕ) (program : Program) (x : Execution) (answer : Answer) → UsesOwnSlots x.source → AnswersRun course shown x answer → ActionPrinted (runs course shown) program x answer
printed_run course shown program x answer own (e, end, is) = record {
  status = ap (λ (a : Answer). a.status) is ∙ end_status course x e end;
  whole = whole end;
  part = part end;
} where
  whole : IsEnd course x e → (status_of x ≡ 4 → ⊥) → answer.text ≡ shown x (end_of x)
  whole (as_meant apart same) not_four = ap (λ (a : Answer). a.text) is ∙ ap (λ (y : Ended). shown x y) same
  whole (stopped four may so) not_four = absurd (not_four four)

  part : IsEnd course x e → status_of x ≡ 4 → StoppedPrinted (runs course shown) x answer.text
  part (as_meant apart same) four = absurd (apart four)
  part (stopped four may so) _ =
      let s = stopped_tree course x e own four may in
      let text : answer.text ≡ shown x (read_off x s.0) = ap (λ (a : Answer). a.text) is ∙ ap (λ (y : Ended). shown x y) s.3 in
      record { tree = s.0; at = s.1; begins = s.2; may = subst (λ (y : Ended). IsStoppedEnd course x y) s.3 may; shown = text; shown_there = text }

-- a run that a journal leads ends as the meaning does
module _ (x : Execution) (es : List Entry) (t : Tree LocalState) (own : UsesOwnSlots x.source) (run : IsRunTo x es t) where
  agrees_read_off : AgreesWithMeaning process_ops (root x.source x.input) x.budget t × IsReadOffAs process_ops (root x.source x.input) x.budget t
  agrees_read_off =
      let h = accepted_is_read_off process_ops process_laws (root x.source x.input) x.budget es t (root_sound x.source x.input own) (main_shares_its_own (root x.source x.input) x.source x.input refl) run in
      (h.1, h.2)

  run_status : status_of_outcome (read_off x t).outcome ≡ status_of x
  run_status = end_status InSomeOrder x (read_off x t) (tree_end x t own agrees_read_off.0 agrees_read_off.1)

  run_rests : (status_of x ≡ 4 → ⊥) → t ≡ tree_of x
  run_rests whole = rested_there x t own agrees_read_off.0 agrees_read_off.1 whole

  run_stops : status_of x ≡ 4 → IsStoppedAt x t
  run_stops four = stopped_there x t own agrees_read_off.0 agrees_read_off.1 four

printed_record : (program : Program) (x : Execution) (answer : Answer) → UsesOwnSlots x.source → AnswersRecord x answer → ActionPrinted records program x answer
printed_record program x answer own (t, (es, text, run, apart), is) = record {
  status = is ∙ run_status x es t own run;
  whole = λ whole. subst (λ (u : Tree LocalState). IsRecordOf x u answer.text) (run_rests x es t own run whole) (es, text, run, apart);
  part = λ four.
      let at = run_stops x es t own run four in
      record { tree = t; at = at; begins = begins_by x t own at.reached; may = (t, at, refl); shown = (t, at, refl, (es, text, run, apart)); shown_there = (es, text, run, apart) };
}

-- what is read off the tree of the meaning
meaning_read : (x : Execution) → read_off x (tree_of x) ≡ end_of x
meaning_read x = ap (read_off x) (tree_is x) ∙ sym (end_is x)

printed_replay : (journal : List ℕ) (program : Program) (x : Execution) (t : Tree LocalState) (answer : Answer) → UsesOwnSlots x.source → IsJournalOf x t journal → answer ≡ reported x.source (read_off x t)
    → ActionPrinted (replays journal) program x answer
printed_replay journal program x t answer own (es, text, run) is = record {
  status = ap (λ (a : Answer). a.status) is ∙ run_status x es t own run;
  whole = λ whole.
      let same = run_rests x es t own run whole in (
        subst (λ (u : Tree LocalState). IsJournalOf x u journal) same (es, text, run),
        text_is ∙ ap (λ (u : Tree LocalState). report_of x.source (read_off x u)) same ∙ ap (report_of x.source) (meaning_read x),
      );
  part = λ four.
      let at = run_stops x es t own run four in
      record { tree = t; at = at; begins = begins_by x t own at.reached; may = (t, at, refl); shown = (t, at, refl, (es, text, run), text_is); shown_there = ((es, text, run), text_is) };
} where
  text_is : answer.text ≡ report_of x.source (read_off x t)
  text_is = ap (λ (a : Answer). a.text) is

-- ---- a journal that is replayed

-- this is a source on an input, and a journal of this budget and these entries
module _ (asked : Execution) (journal : List ℕ) (b : ℕ) (es : List Entry) (is : IsOnlyJournal journal b es) where
  abbrev AsPrinted : Execution
  AsPrinted = execution_within asked.source asked.input b

  same_execution : (y : Execution) → y.source ≡ asked.source → y.input ≡ asked.input → y.budget ≡ b → AsPrinted ≡ y
  same_execution y source input budget = λ i. record { source = sym source i; input = sym input i; budget = sym budget i }

  one_execution : (y : Execution) → IsRunBy (replays journal) asked y → AsPrinted ≡ y
  one_execution y (source, input, t, (fs, text, run)) = same_execution y source input (is.only y.budget fs text).0

  -- it isn't refused where it is a run
  not_refused : (t : Tree LocalState) → IsRunTo AsPrinted es t → (line : List ℕ) → IsJournalRefused asked.source asked.input journal line → ⊥
  not_refused t run line (inl (n, faulty, _)) = never_faulty journal n b es faulty is.is
  not_refused t run line (inr (c, fs, r, text, why, _)) = let same = is.only c fs text in not_both process_ops (root asked.source asked.input) b es t r run (there same.0 same.1 why)
    where
      there : c ≡ b → fs ≡ es → IsNoRun (execution_within asked.source asked.input c) fs r → IsNoRun AsPrinted es r
      there budget entries h = subst (λ (gs : List Entry). IsNoRun AsPrinted gs r) entries (subst (λ (m : ℕ). IsNoRun (execution_within asked.source asked.input m) fs r) budget h)

  -- and is no run where it is refused
  not_run : (r : JournalRefusal) → IsNoRun AsPrinted es r → (y : Execution) → IsRunBy (replays journal) asked y → ⊥
  not_run r why y (source, input, t, (fs, text, run)) =
      let same = is.only y.budget fs text in
      let there : IsRunTo AsPrinted fs t = subst (λ (z : Execution). IsRunTo z fs t) (sym (same_execution y source input same.0)) run in
      not_both process_ops (root asked.source asked.input) b es t r (subst (λ (gs : List Entry). IsRunTo AsPrinted gs t) same.1 there) why

  -- with one line
  one_line : (r : JournalRefusal) → IsNoRun AsPrinted es r → (other : List ℕ) → IsJournalRefused asked.source asked.input journal other → refusal_line r ≡ other
  one_line r why other (inl (n, faulty, _)) = absurd (never_faulty journal n b es faulty is.is)
  one_line r why other (inr (c, fs, s, text, reason, line)) = let same = is.only c fs text in ap refusal_line (one_refusal process_ops (root asked.source asked.input) b es r s why (there same.0 same.1 reason)) ∙ sym line
    where
      there : c ≡ b → fs ≡ es → IsNoRun (execution_within asked.source asked.input c) fs s → IsNoRun AsPrinted es s
      there budget entries h = subst (λ (gs : List Entry). IsNoRun AsPrinted gs s) entries (subst (λ (m : ℕ). IsNoRun (execution_within asked.source asked.input m) fs s) budget h)

-- a text that is no journal has one line
one_malformed : (asked : Execution) (journal : List ℕ) (n : ℕ) → IsNoJournal journal n → (other : List ℕ) → IsJournalRefused asked.source asked.input journal other → malformed_line n ≡ other
one_malformed asked journal n bad other (inl (m, faulty, line)) = sym (line ∙ ap malformed_line (one_faulty_line journal n m bad.faulty faulty))
one_malformed asked journal n bad other (inr (c, fs, s, text, reason, line)) = absurd (bad.none c fs text)

-- and is replayed for no execution
none_malformed : (asked : Execution) (journal : List ℕ) (n : ℕ) → IsNoJournal journal n → (y : Execution) → IsRunBy (replays journal) asked y → ⊥
none_malformed asked journal n bad y (source, input, t, (fs, text, run)) = bad.none y.budget fs text

replay_outcome : (journal : List ℕ) (program : Program) (asked : Execution) (answer : Answer) → UsesOwnSlots asked.source → AnswersReplay asked.source asked.input journal answer → ActionOutcome (replays journal) program asked answer
replay_outcome journal program asked answer own (inl (b, es, only, inl (t, run, is))) =
    ends (execution_within asked.source asked.input b) own (refl, refl, t, (es, only.is, run)) (one_execution asked journal b es only) (not_refused asked journal b es only t run)
    (printed_replay journal program (execution_within asked.source asked.input b) t answer own (es, only.is, run) is)
replay_outcome journal program asked answer own (inl (b, es, only, inr (r, why, is))) =
    stays (refusal_line r) (inr (b, es, r, only.is, why, refl)) (one_line asked journal b es only r why) (not_run asked journal b es only r why) is
replay_outcome journal program asked answer own (inr (n, bad, is)) =
    stays (malformed_line n) (inl (n, bad.faulty, refl)) (one_malformed asked journal n bad) (none_malformed asked journal n bad) is

-- the statuses of all runs give a status of runs
each_outcome : (names inputs : List (List ℕ)) (program : Program) (asked : Execution) (answer : Answer) → AnswersEach names asked inputs answer → ActionOutcome (runs_each names inputs) program asked answer
each_outcome names inputs program asked answer (named, es, ran, is) = many tt (subst IsEndStatus (sym (ap (λ (a : Answer). a.status) is)) (greatest_end es)) (λ y no. no) (λ line no. no)

pub action_outcome : (action : SourceAction) (program : Program) (asked : Execution) (answer : Answer) → UsesOwnSlots asked.source → AnswersProgram action program asked answer → ActionOutcome action program asked answer
action_outcome (runs course shown) program asked answer own done = ends asked own refl (λ y is. sym is) (λ line h. h) (printed_run course shown program asked answer own done)
action_outcome (describes relation) program asked answer own done = ends asked own refl (λ y is. sym is) (λ line h. h) (record { status = done.0; whole = λ _. done.1; part = λ four. absurd (omega (arith, four)) })
action_outcome records program asked answer own done = ends asked own refl (λ y is. sym is) (λ line h. h) (printed_record program asked answer own done)
action_outcome (replays journal) program asked answer own done = replay_outcome journal program asked answer own done
action_outcome (runs_each names inputs) program asked answer own done = each_outcome names inputs program asked answer done

-- what is printed of the execution that is done is printed of this one
pub action_printed : (action : SourceAction) (program : Program) (asked : Execution) (answer : Answer) → ActionOutcome action program asked answer → (x : Execution) → IsRunBy action asked x → UsesOwnSlots x.source × ActionPrinted action program x answer
action_printed action program asked answer (ends y own done only free as_printed) x is = subst (λ (z : Execution). UsesOwnSlots z.source × ActionPrinted action program z answer) (only x is) (own, as_printed)
action_printed action program asked answer (stays line why only none refused) x is = absurd (none x is)
action_printed action program asked answer (many several few none free) x is = absurd (none x is)

-- ---- statuses

pub action_below : (action : SourceAction) (x : Execution) → status_by action x < 5
action_below (runs course shown) x = end_below (end_of x).outcome
action_below (describes relation) x = omega arith
action_below records x = end_below (end_of x).outcome
action_below (replays journal) x = end_below (end_of x).outcome
action_below (runs_each names inputs) x = omega arith

action_not_two : (action : SourceAction) (x : Execution) → status_by action x ≡ 2 → ⊥
action_not_two (runs course shown) x e = end_not_two (end_of x).outcome e
action_not_two (describes relation) x e = omega (arith, e)
action_not_two records x e = end_not_two (end_of x).outcome e
action_not_two (replays journal) x e = end_not_two (end_of x).outcome e
action_not_two (runs_each names inputs) x e = omega (arith, e)

-- a status that a action may have: that of an end, or that of a journal that is refused
pub record IsActionStatus (status : ℕ) : Type 0 where
  pub few : (status < 5) ⊎ (status ≡ 9)
  pub apart : status ≡ 2 → ⊥

pub action_status : (action : SourceAction) (program : Program) (asked : Execution) (answer : Answer) → ActionOutcome action program asked answer → IsActionStatus answer.status
action_status action program asked answer (ends x own done only free as_printed) =
    record { few = inl (let h = action_below action x in let s = as_printed.status in omega (arith, h, s)); apart = λ two. action_not_two action x (sym as_printed.status ∙ two) }
action_status action program asked answer (stays line why only none is) =
    let nine : answer.status ≡ 9 = ap (λ (a : Answer). a.status) is in
    record { few = inr nine; apart = λ two. omega (arith, nine, two) }
action_status action program asked answer (many several status none free) = record { few = inl status.0; apart = status.1 }

-- ---- what a status says of the meaning

pub ends_by : (status : ℕ) (Cause : Execution → Type 0) → DecidesCause status Cause → (action : SourceAction) (asked x : Execution) → IsRunBy action asked x → UsesOwnSlots x.source → status_by action x ≡ status → EndsBy status Cause action x
ends_by status Cause tell (runs course shown) asked x run own e = tell.only x own e
ends_by status Cause tell (describes relation) asked x run own e = sym e
ends_by status Cause tell records asked x run own e = tell.only x own e
ends_by status Cause tell (replays journal) asked x run own e = tell.only x own e
ends_by status Cause tell (runs_each names inputs) asked x run own e = absurd run

pub status_is : (status : ℕ) (Cause : Execution → Type 0) → DecidesCause status Cause → (action : SourceAction) (x : Execution) → UsesOwnSlots x.source → EndsBy status Cause action x → status_by action x ≡ status
status_is status Cause tell (runs course shown) x own cause = tell.when x own cause
status_is status Cause tell (describes relation) x own cause = sym cause
status_is status Cause tell records x own cause = tell.when x own cause
status_is status Cause tell (replays journal) x own cause = tell.when x own cause
status_is status Cause tell (runs_each names inputs) x own cause = absurd cause

pub action_reached : (action : SourceAction) (asked x : Execution) → IsRunBy action asked x → IsReached action x
action_reached (runs course shown) asked x run = is_reached x
action_reached (describes relation) asked x run = tt
action_reached records asked x run = is_reached x
action_reached (replays journal) asked x run = is_reached x
action_reached (runs_each names inputs) asked x run = absurd run

pub action_spent : (action : SourceAction) (x : Execution) → UsesOwnSlots x.source → status_by action x ≡ 4 → IsReachedIn x.budget x
action_spent (runs course shown) x own four = is_reached_whole x own four
action_spent (describes relation) x own four = absurd (omega (arith, four))
action_spent records x own four = is_reached_whole x own four
action_spent (replays journal) x own four = is_reached_whole x own four
action_spent (runs_each names inputs) x own four = absurd (omega (arith, four))

-- the counts of a stopped run add up to the budget
pub stopped_counts : (x : Execution) (t : Tree LocalState) → IsStoppedAt x t → printed_steps (read_off x t) ≡ x.budget
stopped_counts x t at = printed process_ops x.source.main_throws t ∙ at.counted
