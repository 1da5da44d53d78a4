-- An entry that is read is the one that was written, and what was written is read again.
use Rattle.std.proofs.Common.{◌≡◌, ◌≤◌, ◌<◌, ◌∙◌, inl, inr, ℕ, eqb, List, [], ◌∷◌, ◌++◌, drop, Option, Some, None, refl, sym, ap, subst, append_assoc, arith}
use Rattle.std.specs.Prelude.{codes, decimal}
use Rattle.std.specs.List.{starts_with}
use Rattle.shim_base.specs.Paths.{Path, Channel}
use Rattle.shim_semantics.specs.Trees.{Event, Own, Meet, Poison, Close, End}
use Rattle.shim_laws_replay.specs.Journals.{Entry, Quiet, Did}
use Rattle.shim_base.specs.PathTexts.{path_text, channel_text}
use Rattle.shim_replay.specs.JournalTexts.{FitsPath, FitsChannel, FitsEntry, entry_words, first_words, stop_words, line}
use Rattle.shim_replay.specs.Scanning.{◌>>=◌, step_limit, scan_count, scan_word, scan_path, scan_channel, scan_path_line, scan_of_path, scan_quiet, scan_meet, scan_poison, scan_entry, scan_budget, scan_steps_line}
use Rattle.shim_replay.proofs.NumbersRead.{bind_some, some_is, chosen, word_takes, word_again, begins_is, Takes, count_takes, count_again}
use Rattle.shim_replay.proofs.PathsRead.{path_takes, path_again, channel_takes, channel_again}

-- ---- what was read

-- after a first word, an entry
abbrev TakesEntry : List ℕ → List ℕ → Entry × List ℕ → Type 0
TakesEntry word bytes x = Takes (word ++ bytes) (line (entry_words x.0)) x.1 × FitsEntry x.0

path_line_takes : (bytes : List ℕ) (x : Path × List ℕ) → scan_path_line bytes ≡ Some x → (bytes ≡ path_text x.0 ++ (10 ∷ x.1)) × FitsPath x.0
path_line_takes bytes x e =
    let a = bind_some (scan_path bytes) (λ path. scan_word (codes "\n") path.1 >>= λ rest. Some (path.0, rest)) x e in
    let b = bind_some (scan_word (codes "\n") a.0.1) (λ rest. Some (a.0.0, rest)) x a.2 in
    let ta = path_takes bytes a.0 a.1 in
    let tb = word_takes (codes "\n") a.0.1 b.0 b.1 in
    subst (λ (y : Path × List ℕ). (bytes ≡ path_text y.0 ++ (10 ∷ y.1)) × FitsPath y.0) (some_is (a.0.0, b.0) x b.2) (ta.0 ∙ ap (λ (r : List ℕ). path_text a.0.0 ++ r) tb, ta.1)

own_takes : (bytes : List ℕ) (x : Entry × List ℕ) → scan_of_path Own bytes ≡ Some x → TakesEntry (codes "own ") bytes x
unfolding entry_words
own_takes bytes x e =
    let a = bind_some (scan_path_line bytes) (λ path. Some (Did (Own path.0), path.1)) x e in
    let t = path_line_takes bytes a.0 a.1 in
    subst (TakesEntry (codes "own ") bytes) (some_is (Did (Own a.0.0), a.0.1) x a.2) (ap (λ (r : List ℕ). codes "own " ++ r) t.0 ∙ sym (append_assoc (codes "own " ++ path_text a.0.0) (10 ∷ []) a.0.1), t.1)

close_takes : (bytes : List ℕ) (x : Entry × List ℕ) → scan_of_path Close bytes ≡ Some x → TakesEntry (codes "close ") bytes x
unfolding entry_words
close_takes bytes x e =
    let a = bind_some (scan_path_line bytes) (λ path. Some (Did (Close path.0), path.1)) x e in
    let t = path_line_takes bytes a.0 a.1 in
    subst (TakesEntry (codes "close ") bytes) (some_is (Did (Close a.0.0), a.0.1) x a.2) (ap (λ (r : List ℕ). codes "close " ++ r) t.0 ∙ sym (append_assoc (codes "close " ++ path_text a.0.0) (10 ∷ []) a.0.1), t.1)

end_takes : (bytes : List ℕ) (x : Entry × List ℕ) → scan_of_path End bytes ≡ Some x → TakesEntry (codes "end ") bytes x
unfolding entry_words
end_takes bytes x e =
    let a = bind_some (scan_path_line bytes) (λ path. Some (Did (End path.0), path.1)) x e in
    let t = path_line_takes bytes a.0 a.1 in
    subst (TakesEntry (codes "end ") bytes) (some_is (Did (End a.0.0), a.0.1) x a.2) (ap (λ (r : List ℕ). codes "end " ++ r) t.0 ∙ sym (append_assoc (codes "end " ++ path_text a.0.0) (10 ∷ []) a.0.1), t.1)

meet_takes : (bytes : List ℕ) (x : Entry × List ℕ) → scan_meet bytes ≡ Some x → TakesEntry (codes "meet ") bytes x
unfolding entry_words scan_meet
meet_takes bytes x e =
    let a = bind_some (scan_channel bytes) (λ chan. scan_word (codes "\n") chan.1 >>= λ rest. Some (Did (Meet chan.0), rest)) x e in
    let b = bind_some (scan_word (codes "\n") a.0.1) (λ rest. Some (Did (Meet a.0.0), rest)) x a.2 in
    let ta = channel_takes bytes a.0 a.1 in
    let tb = word_takes (codes "\n") a.0.1 b.0 b.1 in
    let t : bytes ≡ channel_text a.0.0 ++ (10 ∷ b.0) = ta.0 ∙ ap (λ (r : List ℕ). channel_text a.0.0 ++ r) tb in
    subst (TakesEntry (codes "meet ") bytes) (some_is (Did (Meet a.0.0), b.0) x b.2) (ap (λ (r : List ℕ). codes "meet " ++ r) t ∙ sym (append_assoc (codes "meet " ++ channel_text a.0.0) (10 ∷ []) b.0), ta.1)

quiet_takes : (bytes : List ℕ) (x : Entry × List ℕ) → scan_quiet bytes ≡ Some x → TakesEntry (codes "quiet ") bytes x
unfolding entry_words scan_quiet
quiet_takes bytes x e =
    let a = bind_some (scan_path bytes) (λ path. scan_word (codes " ") path.1 >>= λ behind. scan_count step_limit behind >>= λ steps. scan_word (codes "\n") steps.1 >>= λ rest. Some (Quiet path.0 steps.0, rest)) x e in
    let b = bind_some (scan_word (codes " ") a.0.1) (λ behind. scan_count step_limit behind >>= λ steps. scan_word (codes "\n") steps.1 >>= λ rest. Some (Quiet a.0.0 steps.0, rest)) x a.2 in
    let c = bind_some (scan_count step_limit b.0) (λ steps. scan_word (codes "\n") steps.1 >>= λ rest. Some (Quiet a.0.0 steps.0, rest)) x b.2 in
    let d = bind_some (scan_word (codes "\n") c.0.1) (λ rest. Some (Quiet a.0.0 c.0.0, rest)) x c.2 in
    let ta = path_takes bytes a.0 a.1 in
    let tb = word_takes (codes " ") a.0.1 b.0 b.1 in
    let tc = count_takes step_limit b.0 c.0 (omega arith) (omega arith) c.1 in
    let td = word_takes (codes "\n") c.0.1 d.0 d.1 in
    let tail : b.0 ≡ (decimal c.0.0 ++ (10 ∷ [])) ++ d.0 = tc.0 ∙ ap (λ (r : List ℕ). decimal c.0.0 ++ r) td ∙ sym (append_assoc (decimal c.0.0) (10 ∷ []) d.0) in
    let t : bytes ≡ path_text a.0.0 ++ (32 ∷ ((decimal c.0.0 ++ (10 ∷ [])) ++ d.0)) = ta.0 ∙ ap (λ (r : List ℕ). path_text a.0.0 ++ r) (tb ∙ ap (λ (r : List ℕ). 32 ∷ r) tail) in
    let whole : codes "quiet " ++ bytes ≡ line (codes "quiet " ++ (path_text a.0.0 ++ (32 ∷ decimal c.0.0))) ++ d.0 =
    ap (λ (r : List ℕ). codes "quiet " ++ r) (t ∙ sym (append_assoc (path_text a.0.0) (32 ∷ (decimal c.0.0 ++ (10 ∷ []))) d.0) ∙ ap (λ (r : List ℕ). r ++ d.0) (sym (append_assoc (path_text a.0.0) (32 ∷ decimal c.0.0) (10 ∷ [])))) in
    let few : c.0.0 ≤ 4000000 = omega (arith, tc.1) in
    subst (TakesEntry (codes "quiet ") bytes) (some_is (Quiet a.0.0 c.0.0, d.0) x d.2) (whole, (ta.1, tc.2, few))

poison_takes : (bytes : List ℕ) (x : Entry × List ℕ) → scan_poison bytes ≡ Some x → TakesEntry (codes "poison ") bytes x
unfolding entry_words scan_poison
poison_takes bytes x e =
    let a = bind_some (scan_path bytes) (λ path. scan_word (codes " ") path.1 >>= λ behind. scan_channel behind >>= λ chan. scan_word (codes "\n") chan.1 >>= λ rest. Some (Did (Poison path.0 chan.0), rest)) x e in
    let b = bind_some (scan_word (codes " ") a.0.1) (λ behind. scan_channel behind >>= λ chan. scan_word (codes "\n") chan.1 >>= λ rest. Some (Did (Poison a.0.0 chan.0), rest)) x a.2 in
    let c = bind_some (scan_channel b.0) (λ chan. scan_word (codes "\n") chan.1 >>= λ rest. Some (Did (Poison a.0.0 chan.0), rest)) x b.2 in
    let d = bind_some (scan_word (codes "\n") c.0.1) (λ rest. Some (Did (Poison a.0.0 c.0.0), rest)) x c.2 in
    let ta = path_takes bytes a.0 a.1 in
    let tb = word_takes (codes " ") a.0.1 b.0 b.1 in
    let tc = channel_takes b.0 c.0 c.1 in
    let td = word_takes (codes "\n") c.0.1 d.0 d.1 in
    let tail : b.0 ≡ (channel_text c.0.0 ++ (10 ∷ [])) ++ d.0 = tc.0 ∙ ap (λ (r : List ℕ). channel_text c.0.0 ++ r) td ∙ sym (append_assoc (channel_text c.0.0) (10 ∷ []) d.0) in
    let t : bytes ≡ path_text a.0.0 ++ (32 ∷ ((channel_text c.0.0 ++ (10 ∷ [])) ++ d.0)) = ta.0 ∙ ap (λ (r : List ℕ). path_text a.0.0 ++ r) (tb ∙ ap (λ (r : List ℕ). 32 ∷ r) tail) in
    let whole : codes "poison " ++ bytes ≡ line (codes "poison " ++ (path_text a.0.0 ++ (32 ∷ channel_text c.0.0))) ++ d.0 =
    ap (λ (r : List ℕ). codes "poison " ++ r) (t ∙ sym (append_assoc (path_text a.0.0) (32 ∷ (channel_text c.0.0 ++ (10 ∷ []))) d.0) ∙ ap (λ (r : List ℕ). r ++ d.0) (sym (append_assoc (path_text a.0.0) (32 ∷ channel_text c.0.0) (10 ∷ [])))) in
    subst (TakesEntry (codes "poison ") bytes) (some_is (Did (Poison a.0.0 c.0.0), d.0) x d.2) (whole, (ta.1, tc.1))

-- a line that is read is that of the entry
pub entry_takes : (bytes : List ℕ) (x : Entry × List ℕ) → scan_entry bytes ≡ Some x → Takes bytes (line (entry_words x.0)) x.1 × FitsEntry x.0
unfolding scan_entry
entry_takes bytes x e =
    elim (chosen (starts_with eqb bytes (codes "quiet ")) (scan_quiet (drop 6 bytes)) _ x e) [
      | inl h ↦ let t = quiet_takes (drop 6 bytes) x h.1 in (begins_is (codes "quiet ") bytes h.0 ∙ t.0, t.1)
      | inr r1 ↦ elim (chosen (starts_with eqb bytes (codes "meet ")) (scan_meet (drop 5 bytes)) _ x r1.1) [
        | inl h ↦ let t = meet_takes (drop 5 bytes) x h.1 in (begins_is (codes "meet ") bytes h.0 ∙ t.0, t.1)
        | inr r2 ↦ elim (chosen (starts_with eqb bytes (codes "own ")) (scan_of_path Own (drop 4 bytes)) _ x r2.1) [
          | inl h ↦ let t = own_takes (drop 4 bytes) x h.1 in (begins_is (codes "own ") bytes h.0 ∙ t.0, t.1)
          | inr r3 ↦ elim (chosen (starts_with eqb bytes (codes "end ")) (scan_of_path End (drop 4 bytes)) _ x r3.1) [
            | inl h ↦ let t = end_takes (drop 4 bytes) x h.1 in (begins_is (codes "end ") bytes h.0 ∙ t.0, t.1)
            | inr r4 ↦ elim (chosen (starts_with eqb bytes (codes "close ")) (scan_of_path Close (drop 6 bytes)) _ x r4.1) [
              | inl h ↦ let t = close_takes (drop 6 bytes) x h.1 in (begins_is (codes "close ") bytes h.0 ∙ t.0, t.1)
              | inr r5 ↦ elim (chosen (starts_with eqb bytes (codes "poison ")) (scan_poison (drop 7 bytes)) None x r5.1) [
                | inl h ↦ let t = poison_takes (drop 7 bytes) x h.1 in (begins_is (codes "poison ") bytes h.0 ∙ t.0, t.1)
                | inr r6 ↦ absurd (nothing x r6.1)
              ]
            ]
          ]
        ]
      ]
    ]
  where
    nothing : {A : Type 0} (x : A) → None ≡ Some x → ⊥
    nothing x e = absurd cc

-- ---- what was written

quiet_entry : (bytes : List ℕ) → scan_entry (codes "quiet " ++ bytes) ≡ scan_quiet bytes
unfolding scan_entry
quiet_entry bytes = refl

meet_entry : (bytes : List ℕ) → scan_entry (codes "meet " ++ bytes) ≡ scan_meet bytes
unfolding scan_entry
meet_entry bytes = refl

own_entry : (bytes : List ℕ) → scan_entry (codes "own " ++ bytes) ≡ scan_of_path Own bytes
unfolding scan_entry
own_entry bytes = refl

end_entry : (bytes : List ℕ) → scan_entry (codes "end " ++ bytes) ≡ scan_of_path End bytes
unfolding scan_entry
end_entry bytes = refl

close_entry : (bytes : List ℕ) → scan_entry (codes "close " ++ bytes) ≡ scan_of_path Close bytes
unfolding scan_entry
close_entry bytes = refl

poison_entry : (bytes : List ℕ) → scan_entry (codes "poison " ++ bytes) ≡ scan_poison bytes
unfolding scan_entry
poison_entry bytes = refl

-- the last line is that of no entry
pub stop_entry : (bytes : List ℕ) → scan_entry (codes "stop " ++ bytes) ≡ None
unfolding scan_entry
stop_entry bytes = refl

path_line_again : (p : Path) (rest : List ℕ) → FitsPath p → scan_path_line (path_text p ++ (10 ∷ rest)) ≡ Some (p, rest)
path_line_again p rest fits = rw (path_again p (10 ∷ rest) fits (refl, refl)) refl

quiet_again : (p : Path) (n : ℕ) (rest : List ℕ) → FitsPath p → 1 ≤ n → n ≤ 4000000 → scan_quiet (path_text p ++ (32 ∷ (decimal n ++ (10 ∷ rest)))) ≡ Some (Quiet p n, rest)
unfolding scan_quiet
quiet_again p n rest fits least most =
    let small : n < step_limit = omega (arith, most) in
    rw (path_again p (32 ∷ (decimal n ++ (10 ∷ rest))) fits (refl, refl), count_again step_limit n (10 ∷ rest) (omega arith) small least refl) refl

meet_again : (c : Channel) (rest : List ℕ) → FitsChannel c → scan_meet (channel_text c ++ (10 ∷ rest)) ≡ Some (Did (Meet c), rest)
unfolding scan_meet
meet_again c rest fits = rw (channel_again c (10 ∷ rest) fits refl) refl

poison_again : (p : Path) (c : Channel) (rest : List ℕ) → FitsPath p → FitsChannel c → scan_poison (path_text p ++ (32 ∷ (channel_text c ++ (10 ∷ rest)))) ≡ Some (Did (Poison p c), rest)
unfolding scan_poison
poison_again p c rest fits both = rw (path_again p (32 ∷ (channel_text c ++ (10 ∷ rest))) fits (refl, refl), channel_again c (10 ∷ rest) both refl) refl

-- a path, a space and a word, with the end of the line
two_words : (front word rest : List ℕ) → ((front ++ (32 ∷ word)) ++ (10 ∷ [])) ++ rest ≡ front ++ (32 ∷ (word ++ (10 ∷ rest)))
two_words front word rest = append_assoc (front ++ (32 ∷ word)) (10 ∷ []) rest ∙ append_assoc front (32 ∷ word) (10 ∷ rest)

of_path_again : (event : Path → Event) (p : Path) (rest : List ℕ) → FitsPath p → scan_of_path event (path_text p ++ (10 ∷ rest)) ≡ Some (Did (event p), rest)
of_path_again event p rest fits = ap (λ (o : Option (Path × List ℕ)). o >>= λ path. Some (Did (event path.0), path.1)) (path_line_again p rest fits)

-- the line of an entry is read as it
pub entry_again : (e : Entry) (rest : List ℕ) → FitsEntry e → scan_entry (line (entry_words e) ++ rest) ≡ Some (e, rest)
unfolding entry_words
entry_again (Quiet p n) rest fits =
    ap (λ (r : List ℕ). scan_entry (codes "quiet " ++ r)) (two_words (path_text p) (decimal n) rest) ∙ quiet_entry (path_text p ++ (32 ∷ (decimal n ++ (10 ∷ rest)))) ∙ quiet_again p n rest fits.0 fits.1 fits.2
entry_again (Did (Own p)) rest fits = ap (λ (r : List ℕ). scan_entry (codes "own " ++ r)) (append_assoc (path_text p) (10 ∷ []) rest) ∙ own_entry (path_text p ++ (10 ∷ rest)) ∙ of_path_again Own p rest fits
entry_again (Did (Meet c)) rest fits = ap (λ (r : List ℕ). scan_entry (codes "meet " ++ r)) (append_assoc (channel_text c) (10 ∷ []) rest) ∙ meet_entry (channel_text c ++ (10 ∷ rest)) ∙ meet_again c rest fits
entry_again (Did (Poison p c)) rest fits =
    ap (λ (r : List ℕ). scan_entry (codes "poison " ++ r)) (two_words (path_text p) (channel_text c) rest) ∙ poison_entry (path_text p ++ (32 ∷ (channel_text c ++ (10 ∷ rest)))) ∙ poison_again p c rest fits.0 fits.1
entry_again (Did (Close p)) rest fits = ap (λ (r : List ℕ). scan_entry (codes "close " ++ r)) (append_assoc (path_text p) (10 ∷ []) rest) ∙ close_entry (path_text p ++ (10 ∷ rest)) ∙ of_path_again Close p rest fits
entry_again (Did (End p)) rest fits = ap (λ (r : List ℕ). scan_entry (codes "end " ++ r)) (append_assoc (path_text p) (10 ∷ []) rest) ∙ end_entry (path_text p ++ (10 ∷ rest)) ∙ of_path_again End p rest fits

-- ---- the first line

pub budget_takes : (bytes : List ℕ) (x : ℕ × List ℕ) → scan_budget bytes ≡ Some x → Takes bytes (line (first_words x.0)) x.1 × (1 ≤ x.0) × (x.0 ≤ 4000000)
unfolding scan_budget
budget_takes bytes x e =
    let a = bind_some (scan_word (codes "journal ") bytes) (λ behind. scan_count step_limit behind >>= λ budget. scan_word (codes "\n") budget.1 >>= λ rest. Some (budget.0, rest)) x e in
    let b = bind_some (scan_count step_limit a.0) (λ budget. scan_word (codes "\n") budget.1 >>= λ rest. Some (budget.0, rest)) x a.2 in
    let c = bind_some (scan_word (codes "\n") b.0.1) (λ rest. Some (b.0.0, rest)) x b.2 in
    let ta = word_takes (codes "journal ") bytes a.0 a.1 in
    let tb = count_takes step_limit a.0 b.0 (omega arith) (omega arith) b.1 in
    let tc = word_takes (codes "\n") b.0.1 c.0 c.1 in
    let tail : a.0 ≡ (decimal b.0.0 ++ (10 ∷ [])) ++ c.0 = tb.0 ∙ ap (λ (r : List ℕ). decimal b.0.0 ++ r) tc ∙ sym (append_assoc (decimal b.0.0) (10 ∷ []) c.0) in
    let few : b.0.0 ≤ 4000000 = omega (arith, tb.1) in
    subst (λ (y : ℕ × List ℕ). Takes bytes (line (first_words y.0)) y.1 × (1 ≤ y.0) × (y.0 ≤ 4000000)) (some_is (b.0.0, c.0) x c.2) (ta ∙ ap (λ (r : List ℕ). codes "journal " ++ r) tail, tb.2, few)

budget_read : (b : ℕ) (rest : List ℕ) → 1 ≤ b → b ≤ 4000000 → scan_budget (codes "journal " ++ (decimal b ++ (10 ∷ rest))) ≡ Some (b, rest)
unfolding scan_budget
budget_read b rest least most =
    let small : b < step_limit = omega (arith, most) in
    rw (count_again step_limit b (10 ∷ rest) (omega arith) small least refl) refl

pub budget_again : (b : ℕ) (rest : List ℕ) → 1 ≤ b → b ≤ 4000000 → scan_budget (line (first_words b) ++ rest) ≡ Some (b, rest)
budget_again b rest least most = ap (λ (r : List ℕ). scan_budget (codes "journal " ++ r)) (append_assoc (decimal b) (10 ∷ []) rest) ∙ budget_read b rest least most

-- ---- the last line

pub steps_line_takes : (s : ℕ) (bytes rest : List ℕ) → scan_steps_line s bytes ≡ Some rest → codes "stop " ++ bytes ≡ line (stop_words s) ++ rest
steps_line_takes s bytes rest e =
    let a = bind_some (scan_word (decimal s) bytes) (λ behind. scan_word (codes "\n") behind) rest e in
    let ta = word_takes (decimal s) bytes a.0 a.1 in
    let tb = word_takes (codes "\n") a.0 rest a.2 in
    ap (λ (r : List ℕ). codes "stop " ++ r) (ta ∙ ap (λ (r : List ℕ). decimal s ++ r) tb ∙ sym (append_assoc (decimal s) (10 ∷ []) rest))

pub steps_line_again : (s : ℕ) (rest : List ℕ) → scan_steps_line s ((decimal s ++ (10 ∷ [])) ++ rest) ≡ Some rest
steps_line_again s rest =
    ap (scan_steps_line s) (append_assoc (decimal s) (10 ∷ []) rest) ∙ ap (λ (o : Option (List ℕ)). o >>= λ behind. scan_word (codes "\n") behind) (word_again (decimal s) (10 ∷ rest)) ∙ refl
