-- How entries that were done in turn answer for all of them.
use Rattle.std.proofs.Common.{◌≡◌, ◌≤◌, ◌<◌, ◌∙◌, inl, inr, ℕ, ◌+◌, ◌-◌, Bool, eqb, Some, None, Result, Ok, Err, List, ◌∷◌, ◌++◌, take, drop, get_or, length, sym, ap, subst, arith}
use Rattle.std.proofs.lemmas.List.{map_more, map-append, take-append-drop, at_drop_more, length-map, length-take, take_all}
use Rattle.std.proofs.lemmas.Bool.{cases_lt, eqb-true, eqb-false}
use Rattle.shim_local.specs.Process.{Ops}
use Rattle.shim_semantics.specs.Trees.{Tree, steps, IsQuiescent}
use Rattle.shim_laws_replay.specs.Journals as journals
use Rattle.shim_laws_replay.proofs.Runs.{replay_more}
use Rattle.shim_laws_journals.specs.Accepting.{IsRefusedJournal, Reaches, OverBudget, NotEnabled}
use Rattle.shim_laws_journals.specs.Ranges.{steps_in}
use Rattle.shim_laws_journals.proofs.Counts.{entry_counts}
use Rattle.shim_replay.specs.Entries.{entry_of, entries_of}
use Rattle.shim_replay.specs.Replaying.{AnswersEnd, ReplayAnswers}
use Rattle.shim_replay.specs.declared.fault.ReplayFault.{ReplayFault}
use Rattle.shim_replay.specs.declared.fault.ReplayFault.TheVariants as faults
use Rattle.shim_run_log.specs.declared.entry.Entry.{Entry}

-- the entries up to one, that one, and those after it
parted : (es : List Entry) (i : ℕ) (d : Entry) → i < length es → entries_of es ≡ entries_of (take i es) ++ entry_of (get_or es i d) ∷ entries_of (drop (i + 1) es)
parted es i d inside =
    ap entries_of (sym (take-append-drop i es) ∙ at_drop_more (λ (l : List Entry). take i es ++ l) es i d inside) ∙ map-append entry_of (take i es) (get_or es i d ∷ drop (i + 1) es)

taken : (es : List Entry) (i : ℕ) → i < length es → length (entries_of (take i es)) ≡ i
taken es i inside = let a = length-map (take i es) entry_of in let b = length-take i es in omega (arith, a, b, inside)

module _ {S : Type 0} (o : Ops S) where
  reaches : (root : S) (b i done : ℕ) (es : List Entry) (d : Entry) (t : Tree S) → i < length es → journals.replay o root (entries_of (take i es)) ≡ Some t → done ≡ steps t → done ≤ b
      → Reaches o root b (entries_of es) (entries_of (take i es)) (entry_of (get_or es i d)) t
  reaches root b i done es d t inside r counted within = record { back = entries_of (drop (i + 1) es); parts = parted es i d inside; replays = r; within = omega (arith, counted, within) }

  pub is_over : (root : S) (b i done line n : ℕ) (es : List Entry) (e d : Entry) (t : Tree S) → i < length es → e ≡ get_or es i d → n ≡ steps_in (entry_of e) → journals.replay o root (entries_of (take i es)) ≡ Some t → done ≡ steps t → done ≤ b → line ≡ i + 2
      → b - done < n → IsRefusedJournal o root b (entries_of es) (OverBudget line)
  is_over root b i done line n es e d t inside is counts r counted within number over =
      let c : n ≡ steps_in (entry_of (get_or es i d)) = counts ∙ ap (λ (x : Entry). steps_in (entry_of x)) is in
      (entries_of (take i es), entry_of (get_or es i d), t, reaches root b i done es d t inside r counted within, (let a = taken es i inside in omega (arith, number, a)), omega (arith, over, counted, c, within))

  pub is_not_enabled : (root : S) (b i done line n : ℕ) (es : List Entry) (e d : Entry) (t : Tree S) → i < length es → e ≡ get_or es i d → n ≡ steps_in (entry_of e) → journals.replay o root (entries_of (take i es)) ≡ Some t → done ≡ steps t → done ≤ b → line ≡ i + 2
      → n ≤ b - done → journals.entry_after o (entry_of e) t ≡ None → IsRefusedJournal o root b (entries_of es) (NotEnabled line)
  is_not_enabled root b i done line n es e d t inside is counts r counted within number fits none =
      let c : n ≡ steps_in (entry_of (get_or es i d)) = counts ∙ ap (λ (x : Entry). steps_in (entry_of x)) is in (
        entries_of (take i es),
        entry_of (get_or es i d),
        t,
        reaches root b i done es d t inside r counted within,
        (let a = taken es i inside in omega (arith, number, a)),
        omega (arith, fits, counted, c, within),
        ap (λ (x : Entry). journals.entry_after o (entry_of x) t) (sym is) ∙ none,
      )

  pub goes_on : (root : S) (i : ℕ) (es : List Entry) (e d : Entry) (t u : Tree S) → i < length es → e ≡ get_or es i d → journals.replay o root (entries_of (take i es)) ≡ Some t → journals.entry_after o (entry_of e) t ≡ Some u
      → journals.replay o root (entries_of (take (i + 1) es)) ≡ Some u
  goes_on root i es e d t u inside is r h =
      ap (journals.replay o root) (map_more entry_of es i d inside) ∙ replay_more o root (entries_of (take i es)) (entry_of (get_or es i d)) t u r (ap (λ (x : Entry). journals.entry_after o (entry_of x) t) (sym is) ∙ h)

  pub counts_on : (e : Entry) (t u : Tree S) (done n : ℕ) → done ≡ steps t → n ≡ steps_in (entry_of e) → journals.entry_after o (entry_of e) t ≡ Some u → done + n ≡ steps u
  counts_on e t u done n counted counts h = let a = entry_counts o (entry_of e) t u h in omega (arith, counted, counts, a)

  whole : (root : S) (i : ℕ) (es : List Entry) (t : Tree S) → length es ≤ i → journals.replay o root (entries_of (take i es)) ≡ Some t → journals.replay o root (entries_of es) ≡ Some t
  whole root i es t past r = ap (λ (l : List Entry). journals.replay o root (entries_of l)) (sym (take_all i es past)) ∙ r

  pub answers : (root : S) (b i done line : ℕ) (es : List Entry) (t : Tree S) (spent : Bool) (r : Result (Tree S) ReplayFault) → length es ≤ i → i ≤ length es → journals.replay o root (entries_of (take i es)) ≡ Some t → done ≡ steps t → done ≤ b → line ≡ i + 2
      → spent ≡ eqb done b → AnswersEnd o t spent line r → ReplayAnswers o root b (entries_of es) r
  answers root b i done line es t spent (Ok u) past inside rep counted within number is (same, inl rests) =
      record { replays = whole root i es t past rep ∙ ap (λ (x : Tree S). Some x) (sym same); ended = inl (let c = ap steps same in omega (arith, counted, within, c), subst (λ (x : Tree S). IsQuiescent o x) (sym same) rests) }
  answers root b i done line es t spent (Ok u) past inside rep counted within number is (same, inr h) =
      let e = eqb-true done b (sym is ∙ h.0) in
      record { replays = whole root i es t past rep ∙ ap (λ (x : Tree S). Some x) (sym same); ended = inr (let c = ap steps same in omega (arith, counted, e, c), subst (λ (x : Tree S). IsQuiescent o x → ⊥) (sym same) h.1) }
  answers root b i done line es t spent (Err (faults.OverBudget l)) past inside rep counted within number is h = absurd h
  answers root b i done line es t spent (Err (faults.NotEnabled l)) past inside rep counted within number is h = absurd h
  answers root b i done line es t spent (Err (faults.Unfinished l)) past inside rep counted within number is h =
      let e = eqb-false done b (sym is ∙ h.1) in
      let len = length-map es entry_of in
      let l-is = h.0 in
      let apart : steps t < b = below done (steps t) b counted within e in
      (t, whole root i es t past rep, omega (arith, l-is, number, len, past, inside), apart, h.2)
    where
      below : (x y z : ℕ) → x ≡ y → x ≤ z → (x ≡ z → ⊥) → y < z
      below x y z e l apart = elim (cases_lt y z) [ inl lt ↦ lt | inr le ↦ absurd (apart (omega (arith, e, l, le))) ]
  answers root b i done line es t spent (Err faults.NoMemory) past inside rep counted within number is h = tt
