-- A journal has one answer, and an accepted one is reported as the meaning is.
use Rattle.std.proofs.Common.{◌≡◌, ◌≤◌, ◌<◌, ◌∙◌, ◌⊎◌, inl, inr, ℕ, ◌+◌, Option, Some, None, List, [], ◌∷◌, ◌++◌, refl, sym, ap, subst, arith}
use Rattle.shim_base.proofs.Facts.{some_same}
use Rattle.shim_local.specs.Process.{Ops}
use Rattle.shim_local.specs.Laws.{LocalLaws}
use Rattle.shim_semantics.specs.Trees.{Tree, steps, IsQuiescent}
use Rattle.shim_semantics.specs.Systems.{run}
use Rattle.shim_laws_schedules.proofs.Lengths.{went_on}
use Rattle.shim_laws_replay.specs.Journals.{Entry, replay, entry_after}
use Rattle.shim_laws_replay.specs.Ends.{HasEnded}
use Rattle.shim_laws_replay.proofs.Ends.{journals_mean}
use Rattle.shim_laws_replay.proofs.Moments.{ends_are_read_off}
use Rattle.shim_laws_journals.specs.Ranges.{steps_in}
use Rattle.shim_laws_journals.specs.Accepting.{IsAcceptedJournal, Reaches, JournalRefusal, OverBudget, NotEnabled, Unfinished, IsRefusedJournal, OneAnswer, AcceptedIsReadOff, line_after}
use Rattle.shim_laws_journals.proofs.Counts.{entry_counts, entries_go_on, replay_earlier}

none_some : {A : Type 0} (x : A) (o : Option A) → o ≡ None → o ≡ Some x → ⊥
none_some x (Some y) e f = absurd cc
none_some x None e f = absurd cc

-- ---- two places in one journal

head_same : (x y : Entry) (xs ys : List Entry) → x ∷ xs ≡ y ∷ ys → x ≡ y
head_same x y xs ys e = cc

tail_same : (x y : Entry) (xs ys : List Entry) → x ∷ xs ≡ y ∷ ys → xs ≡ ys
tail_same x y xs ys e = cc

-- two entries of a journal with what stands before each: they are one, or one stands before the other
data Compared (f g : List Entry) (e d : Entry) : Type 0 where
  same : f ≡ g → e ≡ d → Compared f g e d
  first : (m : List Entry) → g ≡ f ++ e ∷ m → Compared f g e d
  second : (m : List Entry) → f ≡ g ++ d ∷ m → Compared f g e d

with_one_more : (x y : Entry) (f g : List Entry) (e d : Entry) → x ≡ y → Compared f g e d → Compared (x ∷ f) (y ∷ g) e d
with_one_more x y f g e d is (same fronts entries) = same (ap (λ (z : Entry). z ∷ f) is ∙ ap (λ (l : List Entry). y ∷ l) fronts) entries
with_one_more x y f g e d is (first m parts) = first m (ap (λ (z : Entry). z ∷ g) (sym is) ∙ ap (λ (l : List Entry). x ∷ l) parts)
with_one_more x y f g e d is (second m parts) = second m (ap (λ (z : Entry). z ∷ f) is ∙ ap (λ (l : List Entry). y ∷ l) parts)

compared : (f g : List Entry) (e d : Entry) (k l : List Entry) → f ++ e ∷ k ≡ g ++ d ∷ l → Compared f g e d
compared [] [] e d k l is = same refl (head_same e d k l is)
compared [] (y ∷ g) e d k l is = first g (ap (λ (z : Entry). z ∷ g) (sym (head_same e y k (g ++ d ∷ l) is)))
compared (x ∷ f) [] e d k l is = second f (ap (λ (z : Entry). z ∷ f) (head_same x d (f ++ e ∷ k) l is))
compared (x ∷ f) (y ∷ g) e d k l is =
    with_one_more x y f g e d (head_same x y (f ++ e ∷ k) (g ++ d ∷ l) is) (compared f g e d k l (tail_same x y (f ++ e ∷ k) (g ++ d ∷ l) is))

-- ---- what an entry has that others follow

module _ {S : Type 0} (o : Ops S) where
  pub ended_within : (b : ℕ) (t : Tree S) → HasEnded o b t → steps t ≤ b
  ended_within b t (inl h) = h.0
  ended_within b t (inr h) = omega (arith, h.0)

  pub accepted_is_read_off : LocalLaws o → AcceptedIsReadOff o
  accepted_is_read_off laws root b es t sound own a =
      (ended_within b t a.ended, journals_mean o laws root b es t sound own a.replays a.ended, ends_are_read_off o laws root b es t sound own a.replays a.ended)

  -- the entry is enabled, and its steps don't pass the budget
  abbrev IsDone : ℕ → Entry → Tree S → Type 0
  IsDone b e t = (u : Tree S) × (entry_after o e t ≡ Some u) × (steps t + steps_in e ≤ b)

  done_before : (root : S) (b : ℕ) (es front back : List Entry) (e : Entry) (t u : Tree S) → es ≡ front ++ e ∷ back → replay o root es ≡ Some u → steps u ≤ b → replay o root front ≡ Some t → IsDone b e t
  done_before root b es front back e t u parts whole within r =
      let x = replay_earlier o root front (e ∷ back) u (ap (replay o root) (sym parts) ∙ whole) in
      let is : x.0 ≡ t = some_same x.0 t (sym x.1 ∙ r) in
      let y = went_on (run (entry_after o) back) (entry_after o e x.0) u x.2 in
      let h : entry_after o e t ≡ Some y.0 = ap (entry_after o e) (sym is) ∙ y.1 in
      let c = entry_counts o e t y.0 h in
      let d = entries_go_on o back y.0 u y.2 in
      (y.0, h, omega (arith, c, d, within))

  -- ---- what a refusal rules out

  not_over : (b : ℕ) (e : Entry) (t : Tree S) → b < steps t + steps_in e → IsDone b e t → ⊥
  not_over b e t over d = let w = d.2 in omega (arith, w, over)

  not_missing : (b : ℕ) (e : Entry) (t : Tree S) → entry_after o e t ≡ None → IsDone b e t → ⊥
  not_missing b e t none d = none_some d.0 (entry_after o e t) none d.1

  not_unfinished : (b : ℕ) (t : Tree S) → HasEnded o b t → steps t < b → (IsQuiescent o t → ⊥) → ⊥
  not_unfinished b t (inl h) less goes = goes h.1
  not_unfinished b t (inr h) less goes = omega (arith, h.0, less)

  pub one_tree : (root : S) (b : ℕ) (es : List Entry) (t u : Tree S) → IsAcceptedJournal o root b es t → IsAcceptedJournal o root b es u → t ≡ u
  one_tree root b es t u a c = some_same t u (sym a.replays ∙ c.replays)

  -- an entry at which a journal is refused isn't done in a run of the whole journal
  reached_in : (root : S) (b : ℕ) (es front : List Entry) (e : Entry) (t u : Tree S) → Reaches o root b es front e t → replay o root es ≡ Some u → steps u ≤ b → IsDone b e t
  reached_in root b es front e t u r whole within = done_before root b es front r.back e t u r.parts whole within r.replays

  pub not_both : (root : S) (b : ℕ) (es : List Entry) (t : Tree S) (r : JournalRefusal) → IsAcceptedJournal o root b es t → IsRefusedJournal o root b es r → ⊥
  not_both root b es t (OverBudget line) a r = not_over b r.1 r.2 r.5 (reached_in root b es r.0 r.1 r.2 t r.3 a.replays (ended_within b t a.ended))
  not_both root b es t (NotEnabled line) a r = not_missing b r.1 r.2 r.6 (reached_in root b es r.0 r.1 r.2 t r.3 a.replays (ended_within b t a.ended))
  not_both root b es t (Unfinished line) a r =
      let is : r.0 ≡ t = some_same r.0 t (sym r.1 ∙ a.replays) in
      not_unfinished b t a.ended (subst (λ (u : Tree S). steps u < b) is r.3) (subst (λ (u : Tree S). IsQuiescent o u → ⊥) is r.4)

  -- ---- two refusals

  -- one that stands before the other is done
  done_first : (root : S) (b : ℕ) (es f g m : List Entry) (e d : Entry) (t u : Tree S) → Reaches o root b es f e t → Reaches o root b es g d u → g ≡ f ++ e ∷ m → IsDone b e t
  done_first root b es f g m e d t u r s parts = done_before root b g f m e t u parts s.replays s.within r.replays

  -- two entries that aren't done are one
  one_place : (root : S) (b : ℕ) (es f g : List Entry) (e d : Entry) (t u : Tree S) → Reaches o root b es f e t → Reaches o root b es g d u → (IsDone b e t → ⊥) → (IsDone b d u → ⊥) → (f ≡ g) × (e ≡ d) × (t ≡ u)
  one_place root b es f g e d t u r s not_e not_d = by_place (compared f g e d r.back s.back (sym r.parts ∙ s.parts))
    where
      by_place : Compared f g e d → (f ≡ g) × (e ≡ d) × (t ≡ u)
      by_place (same fronts entries) = (fronts, entries, some_same t u (sym r.replays ∙ ap (replay o root) fronts ∙ s.replays))
      by_place (first m parts) = absurd (not_e (done_first root b es f g m e d t u r s parts))
      by_place (second m parts) = absurd (not_d (done_first root b es g f m d e u t s r parts))

  lines_same : (f g : List Entry) (l m : ℕ) → f ≡ g → l ≡ line_after f → m ≡ line_after g → l ≡ m
  lines_same f g l m is a c = a ∙ ap line_after is ∙ sym c

  over_and_missing : (b : ℕ) (e d : Entry) (t u : Tree S) → e ≡ d → t ≡ u → b < steps t + steps_in e → steps u + steps_in d ≤ b → ⊥
  over_and_missing b e d t u entries trees over fits =
      let x = ap steps_in entries in
      let y = ap steps trees in
      omega (arith, x, y, over, fits)

  pub one_refusal : (root : S) (b : ℕ) (es : List Entry) (r s : JournalRefusal) → IsRefusedJournal o root b es r → IsRefusedJournal o root b es s → r ≡ s
  one_refusal root b es (OverBudget l) (OverBudget m) r s =
      let p = one_place root b es r.0 s.0 r.1 s.1 r.2 s.2 r.3 s.3 (not_over b r.1 r.2 r.5) (not_over b s.1 s.2 s.5) in
      ap (λ (n : ℕ). OverBudget n) (lines_same r.0 s.0 l m p.0 r.4 s.4)
  one_refusal root b es (OverBudget l) (NotEnabled m) r s =
      let p = one_place root b es r.0 s.0 r.1 s.1 r.2 s.2 r.3 s.3 (not_over b r.1 r.2 r.5) (not_missing b s.1 s.2 s.6) in
      absurd (over_and_missing b r.1 s.1 r.2 s.2 p.1 p.2 r.5 s.5)
  one_refusal root b es (OverBudget l) (Unfinished m) r s = absurd (not_over b r.1 r.2 r.5 (reached_in root b es r.0 r.1 r.2 s.0 r.3 s.1 (let w = s.3 in omega (arith, w))))
  one_refusal root b es (NotEnabled l) (OverBudget m) r s =
      let p = one_place root b es s.0 r.0 s.1 r.1 s.2 r.2 s.3 r.3 (not_over b s.1 s.2 s.5) (not_missing b r.1 r.2 r.6) in
      absurd (over_and_missing b s.1 r.1 s.2 r.2 p.1 p.2 s.5 r.5)
  one_refusal root b es (NotEnabled l) (NotEnabled m) r s =
      let p = one_place root b es r.0 s.0 r.1 s.1 r.2 s.2 r.3 s.3 (not_missing b r.1 r.2 r.6) (not_missing b s.1 s.2 s.6) in
      ap (λ (n : ℕ). NotEnabled n) (lines_same r.0 s.0 l m p.0 r.4 s.4)
  one_refusal root b es (NotEnabled l) (Unfinished m) r s = absurd (not_missing b r.1 r.2 r.6 (reached_in root b es r.0 r.1 r.2 s.0 r.3 s.1 (let w = s.3 in omega (arith, w))))
  one_refusal root b es (Unfinished l) (OverBudget m) r s = absurd (not_over b s.1 s.2 s.5 (reached_in root b es s.0 s.1 s.2 r.0 s.3 r.1 (let w = r.3 in omega (arith, w))))
  one_refusal root b es (Unfinished l) (NotEnabled m) r s = absurd (not_missing b s.1 s.2 s.6 (reached_in root b es s.0 s.1 s.2 r.0 s.3 r.1 (let w = r.3 in omega (arith, w))))
  one_refusal root b es (Unfinished l) (Unfinished m) r s = ap (λ (n : ℕ). Unfinished n) (r.2 ∙ sym s.2)

  pub one_answer : OneAnswer o
  one_answer = record { one_tree = one_tree; not_both = not_both; one_refusal = one_refusal }
