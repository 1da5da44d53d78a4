-- At one terminal one number at most is refused: limits that leave the refused one out let the run go through with that terminal.
use Rattle.std.proofs.Common.{◌≡◌, List, [], ◌∷◌, ◌++◌, Bool, true, false, Option, Some, None, refl, sym, ◌∙◌, subst, ◌⊎◌, inl, inr}
use Rattle.std.specs.Prelude.{IfSome, ◌||◌, not}
use Rattle.shim_syntax.specs.declared.limits.Many.{Many}
use Rattle.shim_syntax.specs.declared.limits.Many.TheVariants as many
use Rattle.shim_syntax.specs.Terminals.{Terminal}
use Rattle.shim_syntax.specs.Limits.{Limit, Nesting, Count, limits, nesting_and, is_same}
use Rattle.shim_syntax.specs.Grammar.{TextCounts}
use Rattle.shim_grammar.specs.Machine.{SymbolStack, Ask, Want, At, Unwanted, Past, AllTaken, run_parser, wants}
use Rattle.shim_grammar.proofs.Gives.{Allowed}
use Rattle.shim_grammar.proofs.Runs.{run_on}
use Rattle.shim_grammar.proofs.Judged.{Refused, judge_allowed, allowed_more, halts_here, halts_later, no_sooner}
use Rattle.shim_grammar.proofs.OneNumber.{ByLimit, OneNumber, one_number}
use Rattle.shim_grammar.proofs.Place.{nesting_and_passes}

-- equal kinds are one
pub same_many : (a b : Many) → is_same a b ≡ true → a ≡ b
same_many many.Functions many.Functions e = refl
same_many many.Parameters many.Parameters e = refl
same_many many.Arguments many.Arguments e = refl
same_many many.Throws many.Throws e = refl
same_many many.Locals many.Locals e = refl
same_many many.Branches many.Branches e = refl
same_many many.Operators many.Operators e = refl
same_many _ _ e = absurd (cc)

other_allowed : (a b : Bool) → a ≡ false → (not a || b) ≡ true
other_allowed true b h = absurd (cc)
other_allowed false b h = refl

-- which of the two it is
behind_limit : (limit : Limit) (P Q : Type 0) → ByLimit limit P Q → P ⊎ Q
behind_limit Nesting P Q h = inl h
behind_limit (Count what) P Q h = inr h

-- u is the kind whose number is refused, and a is another one
module _ (a u : Many) (other : is_same a u ≡ false) where
  small_allowed : (t : List Terminal) (asks : List Ask) → Allowed limits [] asks → Allowed (nesting_and a) t asks
  small_allowed t asks h = allowed_more limits (nesting_and a) [] t (nesting_and_passes a [] t) asks h

  refused_allowed : (s t : List Terminal) (asks : List Ask) → OneNumber asks → Refused limits s asks (Count u) → Allowed (nesting_and a) t asks
  refused_allowed s t [] h e = tt
  refused_allowed s t (q ∷ asks) h (inl e) = (
    subst (λ limit. nesting_and a t limit q.number ≡ true) (sym e.1) (other_allowed (is_same a u) _ other),
    small_allowed t asks (subst (λ limit. ByLimit limit (OneNumber asks) (Allowed limits [] asks)) e.1 h),
  )
  refused_allowed s t (q ∷ asks) h (inr e) = (
    nesting_and_passes a s t q.limit q.number e.0,
    elim (behind_limit q.limit (OneNumber asks) (Allowed limits [] asks) h) [ inl i ↦ refused_allowed s t asks i e.1 | inr i ↦ small_allowed t asks i ],
  )

  counted_here : (x : Terminal) (s : List Terminal) (o : Option Want) → IfSome o (λ n. OneNumber n.asks) → run_on limits x s o ≡ At (Past (Count u)) (x ∷ s)
      → run_on (nesting_and a) x [] o ≡ AllTaken
  counted_here x s None z e = absurd (cc)
  counted_here x s (Some n) z e =
      let h = halts_here limits (Past (Count u)) x s n e in
      let i : h.0 ≡ Count u = let g = h.1 in cc in
      judge_allowed (nesting_and a) (x ∷ []) n.asks AllTaken (refused_allowed (x ∷ s) (x ∷ []) n.asks z (subst (λ limit. Refused limits (x ∷ s) n.asks limit) i h.2))

  counted_there : (x : Terminal) (s : List Terminal) (y : Terminal) (r : List Terminal) (o : Option Want) → run_on limits y (r ++ x ∷ s) o ≡ At (Past (Count u)) (x ∷ s)
      → ((k : SymbolStack) (w : TextCounts) → run_parser limits (r ++ x ∷ s) k w ≡ At (Past (Count u)) (x ∷ s) → run_parser (nesting_and a) (r ++ x ∷ []) k w ≡ AllTaken)
      → run_on (nesting_and a) y (r ++ x ∷ []) o ≡ AllTaken
  counted_there x s y r None e h = absurd (no_sooner (Past (Count u)) Unwanted r s x y e)
  counted_there x s y r (Some n) e h =
      let q = halts_later limits (Past (Count u)) x y r s n.asks (run_parser limits (r ++ x ∷ s) n.stack n.counts) e in
      judge_allowed (nesting_and a) (y ∷ r ++ x ∷ []) n.asks (run_parser (nesting_and a) (r ++ x ∷ []) n.stack n.counts)
      (allowed_more limits (nesting_and a) (y ∷ r ++ x ∷ s) (y ∷ r ++ x ∷ []) (nesting_and_passes a (y ∷ r ++ x ∷ s) (y ∷ r ++ x ∷ [])) n.asks q.0)
      ∙ h n.stack n.counts q.1

  pub counted : (x : Terminal) (s r : List Terminal) (k : SymbolStack) (w : TextCounts) → run_parser limits (r ++ x ∷ s) k w ≡ At (Past (Count u)) (x ∷ s) → run_parser (nesting_and a) (r ++ x ∷ []) k w ≡ AllTaken
  counted x s [] k w e = counted_here x s (wants k x w) (one_number k x w) e
  counted x s (y ∷ r) k w e = counted_there x s y r (wants k y w) e (counted x s r)
