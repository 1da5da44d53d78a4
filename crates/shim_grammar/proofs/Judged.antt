-- How what a terminal asks is judged: all of it is allowed, or a limit is the first that refuses.
use Rattle.std.proofs.Common.{◌≡◌, ◌≤◌, ℕ, suc, List, [], ◌∷◌, ◌++◌, length, Bool, true, false, Option, Some, None, refl, sym, ◌∙◌, ap, subst, arith, ◌⊎◌, inl, inr, length-append}
use Rattle.shim_syntax.specs.declared.limits.Many.{Many}
use Rattle.shim_syntax.specs.Terminals.{Terminal}
use Rattle.shim_syntax.specs.Limits.{Limit, Count, Limits}
use Rattle.shim_syntax.specs.Grammar.{TextCounts}
use Rattle.shim_grammar.specs.Machine.{SymbolStack, Ask, Want, ParseEnd, At, Cause, Past, judge, run_parser, wants}
use Rattle.shim_grammar.proofs.Gives.{Allowed}
use Rattle.shim_grammar.proofs.Runs.{run_on}
use Rattle.shim_grammar.proofs.Asks.{NumbersAlone, LevelFirst}

-- that limit is the first that refuses
abbrev pub Refused : Limits → List Terminal → List Ask → Limit → Type 0
Refused c s [] limit = ⊥
Refused c s (a ∷ asks) limit = ((c s a.limit a.number ≡ false) × (a.limit ≡ limit)) ⊎ ((c s a.limit a.number ≡ true) × Refused c s asks limit)

judged_more : (c : Limits) (s : List Terminal) (a : Ask) (asks : List Ask) (b : Bool) → c s a.limit a.number ≡ b → Allowed c s asks ⊎ ((limit : Limit) × Refused c s asks limit)
    → Allowed c s (a ∷ asks) ⊎ ((limit : Limit) × Refused c s (a ∷ asks) limit)
judged_more c s a asks false e h = inr (a.limit, inl (e, refl))
judged_more c s a asks true e (inl h) = inl (e, h)
judged_more c s a asks true e (inr h) = inr (h.0, inr (e, h.1))

pub judged : (c : Limits) (s : List Terminal) (asks : List Ask) → Allowed c s asks ⊎ ((limit : Limit) × Refused c s asks limit)
judged c s [] = inl tt
judged c s (a ∷ asks) = judged_more c s a asks (c s a.limit a.number) refl (judged c s asks)

pub judge_allowed : (c : Limits) (s : List Terminal) (asks : List Ask) (h : ParseEnd) → Allowed c s asks → judge c s asks h ≡ h
judge_allowed c s [] h e = refl
judge_allowed c s (a ∷ asks) h e = rw e.0 (judge_allowed c s asks h e.1)

pub judge_refused : (c : Limits) (s : List Terminal) (asks : List Ask) (h : ParseEnd) (limit : Limit) → Refused c s asks limit → judge c s asks h ≡ At (Past limit) s
judge_refused c s [] h limit e = absurd e
judge_refused c s (a ∷ asks) h limit (inl e) = rw e.0 (ap (λ u. At (Past u) s) e.1)
judge_refused c s (a ∷ asks) h limit (inr e) = rw e.0 (judge_refused c s asks h limit e.1)

-- looser limits allow it, too
pub allowed_more : (c d : Limits) (s t : List Terminal) → ((limit : Limit) (n : ℕ) → c s limit n ≡ true → d t limit n ≡ true) → (asks : List Ask) → Allowed c s asks → Allowed d t asks
allowed_more c d s t pass [] e = tt
allowed_more c d s t pass (a ∷ asks) e = (pass a.limit a.number e.0, allowed_more c d s t pass asks e.1)

-- looser limits that agree on that one refuse it, too
pub refused_more : (c d : Limits) (s t : List Terminal) (limit : Limit) → ((other : Limit) (n : ℕ) → c s other n ≡ true → d t other n ≡ true)
    → ((other : Limit) (n : ℕ) → other ≡ limit → d t other n ≡ c s other n) → (asks : List Ask) → Refused c s asks limit → Refused d t asks limit
refused_more c d s t limit pass same [] e = e
refused_more c d s t limit pass same (a ∷ asks) (inl e) = inl (same a.limit a.number e.1 ∙ e.0, e.1)
refused_more c d s t limit pass same (a ∷ asks) (inr e) = inr (pass a.limit a.number e.0, refused_more c d s t limit pass same asks e.1)

numbers_allowed : (d : Limits) (t : List Terminal) → ((what : Many) (n : ℕ) → d t (Count what) n ≡ true) → (asks : List Ask) → NumbersAlone asks → Allowed d t asks
numbers_allowed d t numbers [] h = tt
numbers_allowed d t numbers (a ∷ asks) h = (subst (λ u. d t u a.number ≡ true) (sym h.1) (numbers h.0 a.number), numbers_allowed d t numbers asks h.2)

-- limits without that one and without numbers allow it
pub refused_passes : (c d : Limits) (s t : List Terminal) (limit : Limit) → ((other : Limit) (n : ℕ) → c s other n ≡ true → d t other n ≡ true)
    → ((other : Limit) (n : ℕ) → other ≡ limit → d t other n ≡ true) → ((what : Many) (n : ℕ) → d t (Count what) n ≡ true)
    → (asks : List Ask) → LevelFirst asks → Refused c s asks limit → Allowed d t asks
refused_passes c d s t limit pass here numbers [] h e = tt
refused_passes c d s t limit pass here numbers (a ∷ asks) h (inl e) = (here a.limit a.number e.1, numbers_allowed d t numbers asks h)
refused_passes c d s t limit pass here numbers (a ∷ asks) h (inr e) = (pass a.limit a.number e.0, numbers_allowed d t numbers asks h)

-- where it halts
abbrev pub left_of : ParseEnd → List Terminal
left_of (At f s) = s

shorter_judged : (c : Limits) (x : Terminal) (s : List Terminal) (asks : List Ask) (h : ParseEnd) → length (left_of h) ≤ length s → length (left_of (judge c (x ∷ s) asks h)) ≤ suc (length s)
shorter_judged c x s asks h e = elim (judged c (x ∷ s) asks) [
  | inl a ↦ rw (judge_allowed c (x ∷ s) asks h a) (omega (arith, e))
  | inr r ↦ rw (judge_refused c (x ∷ s) asks h r.0 r.1) (omega arith)
]

shorter_step : (c : Limits) (x : Terminal) (s : List Terminal) (o : Option Want) → ((k : SymbolStack) (w : TextCounts) → length (left_of (run_parser c s k w)) ≤ length s)
    → length (left_of (run_on c x s o)) ≤ suc (length s)
shorter_step c x s None f = omega arith
shorter_step c x s (Some n) f = shorter_judged c x s n.asks (run_parser c s n.stack n.counts) (f n.stack n.counts)

pub shorter : (c : Limits) (s : List Terminal) (k : SymbolStack) (w : TextCounts) → length (left_of (run_parser c s k w)) ≤ length s
shorter c [] k w = omega arith
shorter c (x ∷ s) k w = shorter_step c x s (wants k x w) (shorter c s)

pub no_later : (c : Limits) (f : Cause) (x : Terminal) (s : List Terminal) (k : SymbolStack) (w : TextCounts) → run_parser c s k w ≡ At f (x ∷ s) → ⊥
no_later c f x s k w e = omega (arith, shorter c s k w, ap (λ h. length (left_of h)) e)

pub no_sooner : (f g : Cause) (b s : List Terminal) (x y : Terminal) → At g (y ∷ b ++ x ∷ s) ≡ At f (x ∷ s) → ⊥
no_sooner f g b s x y e = omega (arith, ap (λ h. length (left_of h)) e, length-append b (x ∷ s))

-- a run that halts at x: there a limit refuses, and before all was allowed
pub halts_here : (c : Limits) (f : Cause) (x : Terminal) (s : List Terminal) (n : Want) → run_on c x s (Some n) ≡ At f (x ∷ s) → (limit : Limit) × (f ≡ Past limit) × Refused c (x ∷ s) n.asks limit
halts_here c f x s n e = elim (judged c (x ∷ s) n.asks) [
  | inl a ↦ absurd (no_later c f x s n.stack n.counts (sym (judge_allowed c (x ∷ s) n.asks _ a) ∙ e))
  | inr r ↦ let g = sym (judge_refused c (x ∷ s) n.asks (run_parser c s n.stack n.counts) r.0 r.1) ∙ e in (r.0, cc, r.1)
]

pub halts_later : (c : Limits) (f : Cause) (x y : Terminal) (r s : List Terminal) (asks : List Ask) (h : ParseEnd) → judge c (y ∷ r ++ x ∷ s) asks h ≡ At f (x ∷ s)
    → Allowed c (y ∷ r ++ x ∷ s) asks × (h ≡ At f (x ∷ s))
halts_later c f x y r s asks h e = elim (judged c (y ∷ r ++ x ∷ s) asks) [
  | inl a ↦ (a, sym (judge_allowed c (y ∷ r ++ x ∷ s) asks h a) ∙ e)
  | inr q ↦ absurd (no_sooner f (Past q.0) r s x y (sym (judge_refused c (y ∷ r ++ x ∷ s) asks h q.0 q.1) ∙ e))
]
