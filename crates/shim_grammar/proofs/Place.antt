-- Where the machine halts is the first terminal such that the terminals up to and with it begin no program within the limits.
use Rattle.std.proofs.Common.{◌≡◌, ◌≤◌, ◌<◌, ℕ, List, [], ◌∷◌, ◌++◌, length, Bool, true, false, Option, Some, None, refl, sym, ◌∙◌, ap, subst, arith, inl, inr, length-append, append_assoc}
use Rattle.std.proofs.lemmas.List.{append-nil}
use Rattle.std.proofs.lemmas.Bool.{le-leb}
use Rattle.std.proofs.lemmas.Bool.Decides.{leb_tells}
use Rattle.std.specs.Prelude.{IfSome, ◌||◌, nat_le, not}
use Rattle.shim_syntax.specs.declared.limits.Many.{Many}
use Rattle.shim_syntax.specs.declared.limits.Many.TheVariants as many
use Rattle.shim_syntax.specs.declared.tree.Program.{Program as ProgramTree}
use Rattle.shim_syntax.specs.Terminals.{Terminal, Name, Number, Sort, Key, Sign, End, Broken, terminal_place}
use Rattle.shim_syntax.specs.Limits.{Limit, Nesting, Count, Limits, limits, no_limits, nesting_alone, nesting_and, is_same, until}
use Rattle.shim_syntax.specs.Grammar.{TextCounts, nothing_read, IsProgram}
use Rattle.shim_syntax.specs.Text.{BeginsProgram, FaultCause, Lexical, Unexpected, TooDeep, TooMany, IsFaultAt, HasCause as CauseOf}
use Rattle.shim_grammar.specs.Machine.{Source, SymbolStack, Want, At, Cause, Unwanted, Past, AllTaken, run_parser, wants}
use Rattle.shim_grammar.proofs.Gives.{Takes, Step, Free}
use Rattle.shim_grammar.proofs.Runs.{run_on}
use Rattle.shim_grammar.proofs.RunsStmt.{program_runs}
use Rattle.shim_grammar.proofs.Asks.{LevelFirst, level_first}
use Rattle.shim_grammar.proofs.Judged.{judged, judge_allowed, judge_refused, allowed_more, refused_more, refused_passes, left_of, no_sooner, halts_here, halts_later}
use Rattle.shim_base.proofs.Facts.{or_left, or_right, or_of_false}

-- what the machine's halt comes to
abbrev pub fault_of : Cause → Terminal → FaultCause
fault_of Unwanted (Broken kind p) = Lexical kind
fault_of Unwanted _ = Unexpected
fault_of (Past Nesting) _ = TooDeep
fault_of (Past (Count what)) _ = TooMany what

le_true : (a b : ℕ) → a ≤ b → nat_le a b ≡ true
le_true a b h = le-leb a b h

le_false : (a b : ℕ) → b < a → nat_le a b ≡ false
le_false a b h = elim (leb_tells a b) [ inl e ↦ absurd (omega (arith, e.1)) | inr e ↦ e.0 ]

-- the limits do not depend on the place
abbrev pub Plain : Limits → Type 0
Plain c = (s t : List Terminal) (limit : Limit) (n : ℕ) → c s limit n ≡ c t limit n

until_free : (c : Limits) (t : List Terminal) → Free (until t c) t
until_free c t = λ s limit n h. or_right (c s limit n) _ (le_true _ _ h)

until_more : (c : Limits) → Plain c → (t s u : List Terminal) (limit : Limit) (n : ℕ) → c s limit n ≡ true → until t c u limit n ≡ true
until_more c p t s u limit n e = or_left (c u limit n) _ (p u s limit n ∙ e)

pub until_same : (c : Limits) → Plain c → (t s u : List Terminal) (limit : Limit) (n : ℕ) → length t < length u → until t c u limit n ≡ c s limit n
until_same c p t s u limit n h = or_of_false (c u limit n) _ (le_false _ _ h) ∙ p u s limit n

-- another run over other terminals after x, whose judgements are the same up to x
module _ (c d : Limits) (f : Cause) (x : Terminal) (s t : List Terminal) (same : (b : List Terminal) (limit : Limit) (n : ℕ) → d (b ++ x ∷ t) limit n ≡ c (b ++ x ∷ s) limit n) where
  same_here : (o : Option Want) → run_on c x s o ≡ At f (x ∷ s) → run_on d x t o ≡ At f (x ∷ t)
  same_here None e = let g : Unwanted ≡ f = cc in ap (λ u. At u (x ∷ t)) g
  same_here (Some n) e =
      let h = halts_here c f x s n e in
      judge_refused d (x ∷ t) n.asks (run_parser d t n.stack n.counts) h.0
      (refused_more c d (x ∷ s) (x ∷ t) h.0 (λ other j p. same [] other j ∙ p) (λ other j p. same [] other j) n.asks h.2)
      ∙ ap (λ u. At u (x ∷ t)) (sym h.1)

  same_there : (y : Terminal) (r : List Terminal) (o : Option Want) → run_on c y (r ++ x ∷ s) o ≡ At f (x ∷ s)
      → ((k : SymbolStack) (w : TextCounts) → run_parser c (r ++ x ∷ s) k w ≡ At f (x ∷ s) → run_parser d (r ++ x ∷ t) k w ≡ At f (x ∷ t)) → run_on d y (r ++ x ∷ t) o ≡ At f (x ∷ t)
  same_there y r None e h = absurd (no_sooner f Unwanted r s x y e)
  same_there y r (Some n) e h =
      let q = halts_later c f x y r s n.asks (run_parser c (r ++ x ∷ s) n.stack n.counts) e in
      judge_allowed d (y ∷ r ++ x ∷ t) n.asks _ (allowed_more c d (y ∷ r ++ x ∷ s) (y ∷ r ++ x ∷ t) (λ limit j p. same (y ∷ r) limit j ∙ p) n.asks q.0)
      ∙ h n.stack n.counts q.1

  same_place : (r : List Terminal) (k : SymbolStack) (w : TextCounts) → run_parser c (r ++ x ∷ s) k w ≡ At f (x ∷ s) → run_parser d (r ++ x ∷ t) k w ≡ At f (x ∷ t)
  same_place [] k w e = same_here (wants k x w) e
  same_place (y ∷ r) k w e = same_there y r (wants k y w) e (same_place r)

-- looser limits halt there, too, where they agree on the one that is passed
module _ (c d : Limits) (f : Cause) (at : List Terminal) (pass : (u : List Terminal) (limit : Limit) (n : ℕ) → c u limit n ≡ true → d u limit n ≡ true)
    (same : (u : List Terminal) (limit : Limit) (n : ℕ) → f ≡ Past limit → d u limit n ≡ c u limit n) where
  looser_step : (x : Terminal) (s : List Terminal) (o : Option Want) → run_on c x s o ≡ At f at → ((k : SymbolStack) (w : TextCounts) → run_parser c s k w ≡ At f at → run_parser d s k w ≡ At f at) → run_on d x s o ≡ At f at
  looser_step x s None e h = e
  looser_step x s (Some n) e h = elim (judged c (x ∷ s) n.asks) [
    | inl a ↦ judge_allowed d (x ∷ s) n.asks _ (allowed_more c d (x ∷ s) (x ∷ s) (pass (x ∷ s)) n.asks a) ∙ h n.stack n.counts (sym (judge_allowed c (x ∷ s) n.asks _ a) ∙ e)
    | inr q ↦ let g : At (Past q.0) (x ∷ s) ≡ At f at = sym (judge_refused c (x ∷ s) n.asks _ q.0 q.1) ∙ e in
        let i : f ≡ Past q.0 = cc in
        judge_refused d (x ∷ s) n.asks _ q.0 (refused_more c d (x ∷ s) (x ∷ s) q.0 (pass (x ∷ s)) (λ other j p. same (x ∷ s) other j (i ∙ ap (λ u. Past u) (sym p))) n.asks q.1) ∙ g
  ]

  pub looser : (s : List Terminal) (k : SymbolStack) (w : TextCounts) → run_parser c s k w ≡ At f at → run_parser d s k w ≡ At f at
  looser [] k w e = e
  looser (x ∷ s) k w e = looser_step x s (wants k x w) e (looser s)

-- limits without the one that is passed, and without numbers, take the terminal, too
module _ (c d : Limits) (f : Cause) (x : Terminal) (s : List Terminal) (wanted : f ≡ Unwanted → ⊥) (pass : (u v : List Terminal) (limit : Limit) (n : ℕ) → c u limit n ≡ true → d v limit n ≡ true)
    (here : (v : List Terminal) (limit : Limit) (n : ℕ) → f ≡ Past limit → d v limit n ≡ true) (numbers : (v : List Terminal) (what : Many) (n : ℕ) → d v (Count what) n ≡ true) where
  taken_here : (o : Option Want) → IfSome o (λ n. LevelFirst n.asks) → run_on c x s o ≡ At f (x ∷ s) → run_on d x [] o ≡ AllTaken
  taken_here None z e = let g : f ≡ Unwanted = cc in absurd (wanted g)
  taken_here (Some n) z e =
      let h = halts_here c f x s n e in
      judge_allowed d (x ∷ []) n.asks AllTaken (refused_passes c d (x ∷ s) (x ∷ []) h.0 (pass (x ∷ s) (x ∷ []))
      (λ other j p. here (x ∷ []) other j (h.1 ∙ ap (λ u. Past u) (sym p))) (numbers (x ∷ [])) n.asks z h.2)

  taken_there : (y : Terminal) (r : List Terminal) (o : Option Want) → run_on c y (r ++ x ∷ s) o ≡ At f (x ∷ s)
      → ((k : SymbolStack) (w : TextCounts) → run_parser c (r ++ x ∷ s) k w ≡ At f (x ∷ s) → run_parser d (r ++ x ∷ []) k w ≡ AllTaken) → run_on d y (r ++ x ∷ []) o ≡ AllTaken
  taken_there y r None e h = absurd (no_sooner f Unwanted r s x y e)
  taken_there y r (Some n) e h =
      let q = halts_later c f x y r s n.asks (run_parser c (r ++ x ∷ s) n.stack n.counts) e in
      judge_allowed d (y ∷ r ++ x ∷ []) n.asks _ (allowed_more c d (y ∷ r ++ x ∷ s) (y ∷ r ++ x ∷ []) (pass (y ∷ r ++ x ∷ s) (y ∷ r ++ x ∷ [])) n.asks q.0) ∙ h n.stack n.counts q.1

  taken : (r : List Terminal) (k : SymbolStack) (w : TextCounts) → run_parser c (r ++ x ∷ s) k w ≡ At f (x ∷ s) → run_parser d (r ++ x ∷ []) k w ≡ AllTaken
  taken [] k w e = taken_here (wants k x w) (level_first k x w) e
  taken (y ∷ r) k w e = taken_there y r (wants k y w) e (taken r)

-- within the limits the terminals up to and with x begin no program
ends : (c : Limits) → Plain c → (f : Cause) (b : List Terminal) (x : Terminal) (s : List Terminal) → run_parser c (b ++ x ∷ s) (Source ∷ []) nothing_read ≡ At f (x ∷ s) → BeginsProgram c (b ++ x ∷ []) → ⊥
ends c p f b x s e (more, fs, d) =
    let d' = rw append_assoc at d in
    let e' = same_place c (until more c) f x s more
    (λ r limit n. until_same c p more (r ++ x ∷ s) (r ++ x ∷ more) limit n (omega (arith, length-append r (x ∷ more))))
    b (Source ∷ []) nothing_read e in
    let w : AllTaken ≡ At f (x ∷ more) = sym (program_runs d') ∙ e' in
    cc

pub limits_plain : Plain limits
limits_plain s t limit n = refl

pub no_limits_plain : Plain no_limits
no_limits_plain s t limit n = refl

pub nesting_plain : Plain nesting_alone
nesting_plain s t Nesting n = refl
nesting_plain s t (Count what) n = refl

pub nesting_and_plain : (what : Many) → Plain (nesting_and what)
nesting_and_plain what s t Nesting n = refl
nesting_and_plain what s t (Count other) n = refl

-- what all limits allow, these allow
pub nesting_passes : (u v : List Terminal) (limit : Limit) (n : ℕ) → limits u limit n ≡ true → nesting_alone v limit n ≡ true
nesting_passes u v Nesting n h = h
nesting_passes u v (Count what) n h = refl

pub nesting_and_passes : (what : Many) (u v : List Terminal) (limit : Limit) (n : ℕ) → limits u limit n ≡ true → nesting_and what v limit n ≡ true
nesting_and_passes what u v Nesting n h = h
nesting_and_passes what u v (Count other) n h = or_right (not (is_same what other)) _ h

same_itself : (what : Many) → is_same what what ≡ true
same_itself many.Functions = refl
same_itself many.Parameters = refl
same_itself many.Arguments = refl
same_itself many.Throws = refl
same_itself many.Locals = refl
same_itself many.Branches = refl
same_itself many.Operators = refl

not_or : (a b : Bool) → a ≡ true → (not a || b) ≡ b
not_or true b h = refl
not_or false b h = absurd (cc)

nesting_same : (u : List Terminal) (limit : Limit) (n : ℕ) → Past Nesting ≡ Past limit → nesting_alone u limit n ≡ limits u limit n
nesting_same u Nesting n e = refl
nesting_same u (Count what) n e = absurd (cc)

nesting_no_number : (what : Many) (v : List Terminal) (limit : Limit) (n : ℕ) → Past (Count what) ≡ Past limit → nesting_alone v limit n ≡ true
nesting_no_number what v Nesting n e = absurd (cc)
nesting_no_number what v (Count other) n e = refl

nesting_and_same : (what : Many) (u : List Terminal) (limit : Limit) (n : ℕ) → Past (Count what) ≡ Past limit → nesting_and what u limit n ≡ limits u limit n
nesting_and_same what u Nesting n e = absurd (cc)
nesting_and_same what u (Count other) n e = let g : what ≡ other = cc in not_or (is_same what other) _ (ap (λ m. is_same what m) (sym g) ∙ same_itself what)

-- what a stack takes, its end, and that any stack can be ended
module _ (sound : (c : Limits) (k : SymbolStack) (x : Terminal) (w : TextCounts) → Step c x k w (wants k x w)) (finish : SymbolStack → List Terminal)
    (finishes : (c : Limits) (k : SymbolStack) (w : TextCounts) → Free c (finish k) → Takes c k w (finish k)) where
  -- the terminals before the place may go on to all that the stack wants
  record Viable (c : Limits) (k : SymbolStack) (w : TextCounts) (s at : List Terminal) : Type 0 where
    before : List Terminal
    whole : s ≡ before ++ at
    more : List Terminal
    takes : Takes (until more c) k w (before ++ more)

  viable_here : (c : Limits) (k : SymbolStack) (w : TextCounts) (s : List Terminal) → Viable c k w s s
  viable_here c k w s = record { before = []; whole = refl; more = finish k; takes = finishes (until (finish k) c) k w (until_free c (finish k)) }

  viable_judged : (c : Limits) → Plain c → (k : SymbolStack) (x : Terminal) (w : TextCounts) (s : List Terminal) (n : Want) → ((d : Limits) → Step d x k w (Some n))
      → Viable c n.stack n.counts s (left_of (run_parser c s n.stack n.counts)) → Viable c k w (x ∷ s) (left_of (run_on c x s (Some n)))
  viable_judged c p k x w s n h v = elim (judged c (x ∷ s) n.asks) [
    | inl a ↦ rw (judge_allowed c (x ∷ s) n.asks (run_parser c s n.stack n.counts) a) (record {
      before = x ∷ v.before;
      whole = ap (λ u. x ∷ u) v.whole;
      more = v.more;
      takes = h (until v.more c) (v.before ++ v.more) (allowed_more c (until v.more c) (x ∷ s) _ (until_more c p v.more (x ∷ s) _) n.asks a) v.takes;
    })
    | inr r ↦ rw (judge_refused c (x ∷ s) n.asks (run_parser c s n.stack n.counts) r.0 r.1) (viable_here c k w (x ∷ s))
  ]

  viable_step : (c : Limits) → Plain c → (k : SymbolStack) (x : Terminal) (w : TextCounts) (s : List Terminal) (o : Option Want) → ((d : Limits) → Step d x k w o)
      → ((l : SymbolStack) (v : TextCounts) → Viable c l v s (left_of (run_parser c s l v))) → Viable c k w (x ∷ s) (left_of (run_on c x s o))
  viable_step c p k x w s None h f = viable_here c k w (x ∷ s)
  viable_step c p k x w s (Some n) h f = viable_judged c p k x w s n h (f n.stack n.counts)

  viable : (c : Limits) → Plain c → (s : List Terminal) (k : SymbolStack) (w : TextCounts) → Viable c k w s (left_of (run_parser c s k w))
  viable c p [] k w = viable_here c k w []
  viable c p (x ∷ s) k w = viable_step c p k x w s (wants k x w) (λ d. sound d k x w) (viable c p s)

  begins_of : (c : Limits) (s at : List Terminal) → (v : Viable c (Source ∷ []) nothing_read s at) → BeginsProgram c v.before
  begins_of c s at v = (v.more, v.takes.2.0, subst (λ u. IsProgram (until v.more c) nothing_read (v.before ++ v.more) u v.takes.2.0) v.takes.3 v.takes.2.1)

  pub begins_whole : (c : Limits) → Plain c → (s : List Terminal) → run_parser c s (Source ∷ []) nothing_read ≡ AllTaken → BeginsProgram c s
  begins_whole c p s e =
      let v = viable c p s (Source ∷ []) nothing_read in
      let w : s ≡ v.before = v.whole ∙ ap (λ h. v.before ++ left_of h) e ∙ append-nil v.before in
      subst (λ u. BeginsProgram c u) (sym w) (begins_of c s _ v)

  unexpected : (b : List Terminal) (x : Terminal) (s : List Terminal) → run_parser limits (b ++ x ∷ s) (Source ∷ []) nothing_read ≡ At Unwanted (x ∷ s) → BeginsProgram no_limits (b ++ x ∷ []) → ⊥
  unexpected b x s e = ends no_limits no_limits_plain Unwanted b x s
      (looser limits no_limits Unwanted (x ∷ s) (λ u limit n h. refl) (λ u limit n h. absurd (cc)) (b ++ x ∷ s) (Source ∷ []) nothing_read e)

  pub cause : (f : Cause) (b : List Terminal) (x : Terminal) (s : List Terminal) → run_parser limits (b ++ x ∷ s) (Source ∷ []) nothing_read ≡ At f (x ∷ s) → CauseOf (fault_of f x) b x
  cause Unwanted b (Broken kind p) s e = refl
  cause Unwanted b (Name y p) s e = (λ kind q h. absurd (cc), unexpected b (Name y p) s e)
  cause Unwanted b (Number n p) s e = (λ kind q h. absurd (cc), unexpected b (Number n p) s e)
  cause Unwanted b (Sort sort p) s e = (λ kind q h. absurd (cc), unexpected b (Sort sort p) s e)
  cause Unwanted b (Key key p) s e = (λ kind q h. absurd (cc), unexpected b (Key key p) s e)
  cause Unwanted b (Sign sign p) s e = (λ kind q h. absurd (cc), unexpected b (Sign sign p) s e)
  cause Unwanted b (End p) s e = (λ kind q h. absurd (cc), unexpected b (End p) s e)
  cause (Past Nesting) b x s e = (
    begins_whole no_limits no_limits_plain (b ++ x ∷ [])
        (taken limits no_limits (Past Nesting) x s (λ g. cc) (λ u v limit n h. refl) (λ v limit n g. refl) (λ v what n. refl) b (Source ∷ []) nothing_read e),
    ends nesting_alone nesting_plain (Past Nesting) b x s
        (looser limits nesting_alone (Past Nesting) (x ∷ s) (λ u. nesting_passes u u) nesting_same (b ++ x ∷ s) (Source ∷ []) nothing_read e),
  )
  cause (Past (Count what)) b x s e = (
    begins_whole nesting_alone nesting_plain (b ++ x ∷ [])
        (taken limits nesting_alone (Past (Count what)) x s (λ g. cc) nesting_passes (nesting_no_number what) (λ v other n. refl) b (Source ∷ []) nothing_read e),
    ends (nesting_and what) (nesting_and_plain what) (Past (Count what)) b x s
        (looser limits (nesting_and what) (Past (Count what)) (x ∷ s) (λ u. nesting_and_passes what u u) (nesting_and_same what) (b ++ x ∷ s) (Source ∷ []) nothing_read e),
  )

  pub stops : (f : Cause) (s : List Terminal) (x : Terminal) (behind : List Terminal) → run_parser limits s (Source ∷ []) nothing_read ≡ At f (x ∷ behind) → IsFaultAt (fault_of f x) (terminal_place x) s
  stops f s x behind e =
      let v = viable limits limits_plain s (Source ∷ []) nothing_read in
      let w : s ≡ v.before ++ x ∷ behind = v.whole ∙ ap (λ h. v.before ++ left_of h) e in
      record {
        before = v.before;
        at = x;
        behind = behind;
        whole = w;
        place_is = refl;
        begins = begins_of limits s _ v;
        cause = cause f v.before x behind (subst (λ u. run_parser limits u (Source ∷ []) nothing_read ≡ At f (x ∷ behind)) w e);
      }
