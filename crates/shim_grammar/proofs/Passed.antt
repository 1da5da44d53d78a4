-- Runs that go through to the end of their terminals: up to where, and how they go on after.
use Rattle.std.proofs.Common.{◌≡◌, ℕ, List, [], ◌∷◌, ◌++◌, true, Option, Some, None, refl, sym, ◌∙◌, ap, arith, ◌⊎◌, inl, inr, length-append}
use Rattle.shim_base.specs.declared.token.LexKind.{LexKind}
use Rattle.shim_base.specs.Tokens.{Place}
use Rattle.shim_syntax.specs.Terminals.{Terminal, Broken}
use Rattle.shim_syntax.specs.Limits.{Limit, Limits, until}
use Rattle.shim_syntax.specs.Grammar.{TextCounts, nothing_read, behind_body}
use Rattle.shim_syntax.specs.Text.{BeginsProgram}
use Rattle.shim_grammar.specs.declared.punctuation.Punctuation.{Punctuation}
use Rattle.shim_grammar.specs.declared.punctuation.Punctuation.TheVariants as punctuation
use Rattle.shim_grammar.specs.Machine as m
use Rattle.shim_grammar.specs.Machine.{Source, SymbolStack, Want, At, Cause, Unwanted, Past, AllTaken, run_parser, wants}
use Rattle.shim_grammar.proofs.Gives.{Allowed}
use Rattle.shim_grammar.proofs.Runs.{run_on}
use Rattle.shim_grammar.proofs.RunsStmt.{program_runs}
use Rattle.shim_grammar.proofs.Judged.{judged, judge_allowed, judge_refused, allowed_more}
use Rattle.shim_grammar.proofs.Place.{Plain, until_same}

-- where a run goes through, all that its first terminal asks is allowed, and the rest goes through
pub whole_step : (c : Limits) (x : Terminal) (s : List Terminal) (n : Want) → run_on c x s (Some n) ≡ AllTaken → Allowed c (x ∷ s) n.asks × (run_parser c s n.stack n.counts ≡ AllTaken)
whole_step c x s n e = elim (judged c (x ∷ s) n.asks) [
  | inl a ↦ (a, sym (judge_allowed c (x ∷ s) n.asks (run_parser c s n.stack n.counts) a) ∙ e)
  | inr q ↦ let g : At (Past q.0) (x ∷ s) ≡ AllTaken = sym (judge_refused c (x ∷ s) n.asks (run_parser c s n.stack n.counts) q.0 q.1) ∙ e in absurd (cc)
]

-- limits that allow as much up to there let the terminals before others through
module _ (c d : Limits) (more : List Terminal) (pass : (x : Terminal) (b : List Terminal) (limit : Limit) (n : ℕ) → c (x ∷ b ++ more) limit n ≡ true → d (x ∷ b) limit n ≡ true) where
  up_to_step : (x : Terminal) (b : List Terminal) (o : Option Want) → run_on c x (b ++ more) o ≡ AllTaken
      → ((k : SymbolStack) (w : TextCounts) → run_parser c (b ++ more) k w ≡ AllTaken → run_parser d b k w ≡ AllTaken) → run_on d x b o ≡ AllTaken
  up_to_step x b None e h = absurd (cc)
  up_to_step x b (Some n) e h =
      let q = whole_step c x (b ++ more) n e in
      judge_allowed d (x ∷ b) n.asks (run_parser d b n.stack n.counts) (allowed_more c d (x ∷ b ++ more) (x ∷ b) (pass x b) n.asks q.0) ∙ h n.stack n.counts q.1

  up_to : (b : List Terminal) (k : SymbolStack) (w : TextCounts) → run_parser c (b ++ more) k w ≡ AllTaken → run_parser d b k w ≡ AllTaken
  up_to [] k w e = refl
  up_to (x ∷ b) k w e = up_to_step x b (wants k x w) e (up_to b)

-- terminals that begin a program go through
pub runs_through : (c : Limits) → Plain c → (b : List Terminal) → BeginsProgram c b → run_parser c b (Source ∷ []) nothing_read ≡ AllTaken
runs_through c p b (more, fs, d) =
    up_to (until more c) c more
    (λ x t limit n h. sym (until_same c p more (x ∷ t) (x ∷ t ++ more) limit n (omega (arith, length-append t more))) ∙ h)
    b (Source ∷ []) nothing_read (program_runs d)

-- where the terminals before x go through, the run halts at x, or goes through with it
module _ (c : Limits) (p : Plain c) (x : Terminal) (s : List Terminal) where
  next_here : (o : Option Want) → ((f : Cause) × (run_on c x s o ≡ At f (x ∷ s))) ⊎ (run_on c x [] o ≡ AllTaken)
  next_here None = inl (Unwanted, refl)
  next_here (Some n) = elim (judged c (x ∷ s) n.asks) [
    | inl a ↦ inr (judge_allowed c (x ∷ []) n.asks AllTaken (allowed_more c c (x ∷ s) (x ∷ []) (λ limit i h. p (x ∷ []) (x ∷ s) limit i ∙ h) n.asks a))
    | inr q ↦ inl (Past q.0, judge_refused c (x ∷ s) n.asks (run_parser c s n.stack n.counts) q.0 q.1)
  ]

  next_there : (y : Terminal) (b : List Terminal) (o : Option Want) → run_on c y b o ≡ AllTaken
      → ((k : SymbolStack) (w : TextCounts) → run_parser c b k w ≡ AllTaken → ((f : Cause) × (run_parser c (b ++ x ∷ s) k w ≡ At f (x ∷ s))) ⊎ (run_parser c (b ++ x ∷ []) k w ≡ AllTaken))
      → ((f : Cause) × (run_on c y (b ++ x ∷ s) o ≡ At f (x ∷ s))) ⊎ (run_on c y (b ++ x ∷ []) o ≡ AllTaken)
  next_there y b None e h = absurd (cc)
  next_there y b (Some n) e h =
      let q = whole_step c y b n e in
      let allowed : (t : List Terminal) → Allowed c t n.asks = λ t. allowed_more c c (y ∷ b) t (λ limit i j. p t (y ∷ b) limit i ∙ j) n.asks q.0 in
      elim (h n.stack n.counts q.1) [
        | inl r ↦ inl (r.0, judge_allowed c (y ∷ b ++ x ∷ s) n.asks (run_parser c (b ++ x ∷ s) n.stack n.counts) (allowed (y ∷ b ++ x ∷ s)) ∙ r.1)
        | inr r ↦ inr (judge_allowed c (y ∷ b ++ x ∷ []) n.asks (run_parser c (b ++ x ∷ []) n.stack n.counts) (allowed (y ∷ b ++ x ∷ [])) ∙ r)
      ]

  pub halts_or_passes : (b : List Terminal) (k : SymbolStack) (w : TextCounts) → run_parser c b k w ≡ AllTaken
      → ((f : Cause) × (run_parser c (b ++ x ∷ s) k w ≡ At f (x ∷ s))) ⊎ (run_parser c (b ++ x ∷ []) k w ≡ AllTaken)
  halts_or_passes [] k w e = next_here (wants k x w)
  halts_or_passes (y ∷ b) k w e = next_there y b (wants k y w) e (halts_or_passes b)

-- nothing wants a place where the text can't be cut
unwanted_fixed : (f : Punctuation) (kind : LexKind) (p : Place) (k : SymbolStack) (w : TextCounts) → m.fixed f (Broken kind p) k w ≡ None
unwanted_fixed punctuation.LeftParen kind p k w = refl
unwanted_fixed punctuation.RightParen kind p k w = refl
unwanted_fixed punctuation.LeftBrace kind p k w = refl
unwanted_fixed punctuation.Comma kind p k w = refl
unwanted_fixed punctuation.Semicolon kind p k w = refl
unwanted_fixed punctuation.Equal kind p k w = refl
unwanted_fixed punctuation.Catch kind p k w = refl

unwanted : (k : SymbolStack) (kind : LexKind) (p : Place) (w : TextCounts) → wants k (Broken kind p) w ≡ None
unwanted [] kind p w = refl
unwanted (m.Fixed f ∷ k) kind p w = unwanted_fixed f kind p k w
unwanted (m.Operators l ∷ k) kind p w = unwanted k kind p w
unwanted (m.Else l ∷ k) kind p w = unwanted k kind p w
unwanted (m.AfterBody l d ∷ k) kind p w = unwanted k kind p (behind_body d w)
unwanted (m.Pars l n ∷ k) kind p w = unwanted k kind p w
unwanted (_ ∷ k) kind p w = refl

-- so no run goes through it
module _ (c : Limits) (kind : LexKind) (p : Place) where
  broken_there : (y : Terminal) (s : List Terminal) (o : Option Want) → ((k : SymbolStack) (w : TextCounts) → run_parser c s k w ≡ AllTaken → ⊥) → run_on c y s o ≡ AllTaken → ⊥
  broken_there y s None h e = absurd (cc)
  broken_there y s (Some n) h e = h n.stack n.counts (whole_step c y s n e).1

  pub broken_ends : (b : List Terminal) (k : SymbolStack) (w : TextCounts) → run_parser c (b ++ Broken kind p ∷ []) k w ≡ AllTaken → ⊥
  broken_ends [] k w e = let g : At Unwanted (Broken kind p ∷ []) ≡ AllTaken = sym (ap (λ o. run_on c (Broken kind p) [] o) (unwanted k kind p w)) ∙ e in absurd (cc)
  broken_ends (y ∷ b) k w e = broken_there y (b ++ Broken kind p ∷ []) (wants k y w) (broken_ends b) e
