-- That a text has one answer only: no program besides a fault, and no two faults.
use Rattle.std.proofs.Common.{◌≡◌, ℕ, List, [], ◌∷◌, ◌++◌, Bool, true, false, refl, sym, ◌∙◌, ap, subst, inl, inr}
use Rattle.shim_base.specs.declared.token.LexKind.{LexKind}
use Rattle.shim_base.specs.Tokens.{Place}
use Rattle.shim_syntax.specs.declared.limits.Many.{Many}
use Rattle.shim_syntax.specs.declared.tree.Program.{Program}
use Rattle.shim_syntax.specs.Terminals.{Terminal, Name, Number, Sort, Key, Sign, End, Broken, terminal_place}
use Rattle.shim_syntax.specs.Limits.{Limit, Nesting, Count, Limits, limits, no_limits, nesting_alone, nesting_and, is_same}
use Rattle.shim_syntax.specs.Grammar.{nothing_read, Derives}
use Rattle.shim_syntax.specs.Text.{IsText, BeginsProgram, FaultCause, Lexical, Unexpected, TooDeep, TooMany, IsFaultAt, HasFault, HasCause as CauseOf}
use Rattle.shim_grammar.specs.Machine.{Source, At, Cause, Unwanted, Past, AllTaken, run_parser}
use Rattle.shim_grammar.proofs.RunsStmt.{program_runs}
use Rattle.shim_grammar.proofs.Goes.{sound, finish, finishes}
use Rattle.shim_grammar.proofs.Place.{Plain, fault_of, looser, begins_whole, cause, limits_plain, no_limits_plain, nesting_plain, nesting_and_plain, nesting_passes, nesting_and_passes}
use Rattle.shim_grammar.proofs.Passed.{runs_through, halts_or_passes, broken_ends}
use Rattle.shim_grammar.proofs.Counted.{same_many, counted}
use Rattle.shim_grammar.proofs.Once.{read_once}

-- what goes through begins a program
begins : (c : Limits) → Plain c → (s : List Terminal) → run_parser c s (Source ∷ []) nothing_read ≡ AllTaken → BeginsProgram c s
begins c p s e = begins_whole sound finish finishes c p s e

-- what begins a program begins one within looser limits
begins_looser : (c d : Limits) → Plain c → Plain d → ((u : List Terminal) (limit : Limit) (n : ℕ) → c u limit n ≡ true → d u limit n ≡ true)
    → (s : List Terminal) → BeginsProgram c s → BeginsProgram d s
begins_looser c d p q pass s h = begins d q s (looser c d Unwanted [] pass (λ u limit n e. absurd (cc)) s (Source ∷ []) nothing_read (runs_through c p s h))

begins_level : (s : List Terminal) → BeginsProgram limits s → BeginsProgram nesting_alone s
begins_level s h = begins_looser limits nesting_alone limits_plain nesting_plain (λ u. nesting_passes u u) s h

begins_number : (what : Many) (s : List Terminal) → BeginsProgram limits s → BeginsProgram (nesting_and what) s
begins_number what s h = begins_looser limits (nesting_and what) limits_plain (nesting_and_plain what) (λ u. nesting_and_passes what u u) s h

begins_free : (c : Limits) → Plain c → (s : List Terminal) → BeginsProgram c s → BeginsProgram no_limits s
begins_free c p s h = begins_looser c no_limits p no_limits_plain (λ u limit n e. refl) s h

-- no program begins with a place where the text can't be cut
no_broken : (c : Limits) → Plain c → (b : List Terminal) (x : Terminal) (kind : LexKind) → x ≡ Broken kind (terminal_place x) → BeginsProgram c (b ++ x ∷ []) → ⊥
no_broken c p b x kind e h =
    broken_ends c kind (terminal_place x) b (Source ∷ []) nothing_read (runs_through c p (b ++ Broken kind (terminal_place x) ∷ []) (subst (λ y. BeginsProgram c (b ++ y ∷ [])) e h))

-- with a terminal that has a cause no program within the limits begins
no_cause : (f : FaultCause) (b : List Terminal) (x : Terminal) → CauseOf f b x → BeginsProgram limits (b ++ x ∷ []) → ⊥
no_cause (Lexical kind) b x h i = no_broken limits limits_plain b x kind h i
no_cause Unexpected b x h i = h.1 (begins_free limits limits_plain (b ++ x ∷ []) i)
no_cause TooDeep b x h i = h.1 (begins_level (b ++ x ∷ []) i)
no_cause (TooMany what) b x h i = h.1 (begins_number what (b ++ x ∷ []) i)

-- two causes are one, where two counts are
same_cause : (f g : FaultCause) (b : List Terminal) (x : Terminal) → ((a u : Many) → f ≡ TooMany a → g ≡ TooMany u → a ≡ u) → CauseOf f b x → CauseOf g b x → f ≡ g
same_cause (Lexical kind) (Lexical other) b x same h i = let e : Broken kind (terminal_place x) ≡ Broken other (terminal_place x) = sym h ∙ i in cc
same_cause (Lexical kind) Unexpected b x same h i = absurd (i.0 kind (terminal_place x) h)
same_cause (Lexical kind) TooDeep b x same h i = absurd (no_broken no_limits no_limits_plain b x kind h i.0)
same_cause (Lexical kind) (TooMany u) b x same h i = absurd (no_broken nesting_alone nesting_plain b x kind h i.0)
same_cause Unexpected (Lexical other) b x same h i = absurd (h.0 other (terminal_place x) i)
same_cause Unexpected Unexpected b x same h i = refl
same_cause Unexpected TooDeep b x same h i = absurd (h.1 i.0)
same_cause Unexpected (TooMany u) b x same h i = absurd (h.1 (begins_free nesting_alone nesting_plain (b ++ x ∷ []) i.0))
same_cause TooDeep (Lexical other) b x same h i = absurd (no_broken no_limits no_limits_plain b x other i h.0)
same_cause TooDeep Unexpected b x same h i = absurd (i.1 h.0)
same_cause TooDeep TooDeep b x same h i = refl
same_cause TooDeep (TooMany u) b x same h i = absurd (h.1 i.0)
same_cause (TooMany a) (Lexical other) b x same h i = absurd (no_broken nesting_alone nesting_plain b x other i h.0)
same_cause (TooMany a) Unexpected b x same h i = absurd (i.1 (begins_free nesting_alone nesting_plain (b ++ x ∷ []) h.0))
same_cause (TooMany a) TooDeep b x same h i = absurd (i.1 h.0)
same_cause (TooMany a) (TooMany u) b x same h i = ap (λ y. TooMany y) (same a u refl refl)

-- a count is too great only where the machine halts for it
count_of : (f : Cause) (x : Terminal) (u : Many) → fault_of f x ≡ TooMany u → f ≡ Past (Count u)
count_of Unwanted (Broken kind p) u e = absurd (cc)
count_of Unwanted (Name y p) u e = absurd (cc)
count_of Unwanted (Number n p) u e = absurd (cc)
count_of Unwanted (Sort sort p) u e = absurd (cc)
count_of Unwanted (Key key p) u e = absurd (cc)
count_of Unwanted (Sign sign p) u e = absurd (cc)
count_of Unwanted (End p) u e = absurd (cc)
count_of (Past Nesting) x u e = absurd (cc)
count_of (Past (Count what)) x u e = let g : what ≡ u = cc in ap (λ y. Past (Count y)) g

-- a count that is too great is the one for which the machine halts
same_count : (a u : Many) (b : List Terminal) (x : Terminal) (s : List Terminal) → run_parser limits (b ++ x ∷ s) (Source ∷ []) nothing_read ≡ At (Past (Count u)) (x ∷ s)
    → CauseOf (TooMany a) b x → (same : Bool) → is_same a u ≡ same → a ≡ u
same_count a u b x s e h true i = same_many a u i
same_count a u b x s e h false i = absurd (h.1 (begins (nesting_and a) (nesting_and_plain a) (b ++ x ∷ []) (counted a u i x s b (Source ∷ []) nothing_read e)))

-- the cause of a fault is that for which the machine halts there
halts_for : (f : FaultCause) (g : Cause) (b : List Terminal) (x : Terminal) (s : List Terminal) → run_parser limits (b ++ x ∷ s) (Source ∷ []) nothing_read ≡ At g (x ∷ s)
    → CauseOf f b x → fault_of g x ≡ f
halts_for f g b x s e h =
    sym (same_cause f (fault_of g x) b x
    (λ a u i j. same_count a u b x s (e ∙ ap (λ y. At y (x ∷ s)) (count_of g x u j)) (subst (λ y. CauseOf y b x) i h) (is_same a u) refl)
    h (cause sound finish finishes g b x s e))

-- the machine halts at the place of a fault, for its cause
pub fault_halts : (ts : List Terminal) (f : FaultCause) (place : Place) → IsFaultAt f place ts → (cause : Cause) × (at : Terminal) × (behind : List Terminal)
    × (run_parser limits ts (Source ∷ []) nothing_read ≡ At cause (at ∷ behind)) × (fault_of cause at ≡ f) × (terminal_place at ≡ place)
fault_halts ts f place h = elim (halts_or_passes limits limits_plain h.at h.behind h.before (Source ∷ []) nothing_read (runs_through limits limits_plain h.before h.begins)) [
  | inl r ↦ (r.0, h.at, h.behind, ap (λ s. run_parser limits s (Source ∷ []) nothing_read) h.whole ∙ r.1, halts_for f r.0 h.before h.at h.behind r.1 h.cause, sym h.place_is)
  | inr r ↦ absurd (no_cause f h.before h.at h.cause (begins limits limits_plain (h.before ++ h.at ∷ []) r))
]

-- no terminals derive a program and have a fault
pub no_both : (ts : List Terminal) (fs : Program) (f : FaultCause) (place : Place) → Derives limits ts fs → IsFaultAt f place ts → ⊥
no_both ts fs f place d h =
    let (cause, at, behind, halts, fault_is, place_is) = fault_halts ts f place h in
    let g : AllTaken ≡ At cause (at ∷ behind) = sym (program_runs d) ∙ halts in
    cc

-- terminals have one fault at most
pub fault_once : (ts : List Terminal) (f g : FaultCause) (p q : Place) → IsFaultAt f p ts → IsFaultAt g q ts → (f ≡ g) × (p ≡ q)
fault_once ts f g p q h i =
    let (c, x, s, e, f_is, p_is) = fault_halts ts f p h in
    let (d, y, t, j, g_is, q_is) = fault_halts ts g q i in
    let halts : At c (x ∷ s) ≡ At d (y ∷ t) = sym e ∙ j in
    let causes : c ≡ d = cc in
    let places : x ≡ y = cc in
    (sym f_is ∙ ap (λ u. fault_of u x) causes ∙ ap (λ u. fault_of d u) places ∙ g_is, sym p_is ∙ ap (λ u. terminal_place u) places ∙ q_is)

-- a text of a program has no fault
pub text_or_fault : (bytes : List ℕ) (p : Program) (f : FaultCause) (place : Place) → IsText bytes p → HasFault bytes f place → ⊥
text_or_fault bytes p f place h (ts, r, i) =
    no_both ts p f place (subst (λ us. Derives limits us p) (read_once bytes h.terminals ts h.read r) h.derives) i

-- a text has one fault at most
pub one_fault : (bytes : List ℕ) (f g : FaultCause) (p q : Place) → HasFault bytes f p → HasFault bytes g q → (f ≡ g) × (p ≡ q)
one_fault bytes f g p q (ts, r, h) (us, t, i) = fault_once us f g p q (subst (λ vs. IsFaultAt f p vs) (read_once bytes ts us r t) h) i
