-- The exits of the functions that read functions.
use Rattle.std.proofs.Common.{◌≡◌, ◌≤◌, ℕ, suc, List, [], ◌∷◌, ◌++◌, Bool, true, false, refl, sym, ◌∙◌, ap, subst, append_assoc, lit≤}
use Rattle.std.proofs.lemmas.Bool.{leb-true}
use Rattle.std.proofs.lemmas.List.{append-nil}
use Rattle.std.specs.Prelude.{nat_le}
use Rattle.shim_base.specs.declared.token.Keyword.TheVariants as k
use Rattle.shim_base.specs.declared.token.Sign.TheVariants as g
use Rattle.shim_base.specs.Tokens.{Place}
use Rattle.shim_syntax.specs.declared.limits.Many.TheVariants as many
use Rattle.shim_syntax.specs.declared.tree.Sort.{Sort as SortOf}
use Rattle.shim_syntax.specs.declared.tree.Param.{Param}
use Rattle.shim_syntax.specs.Terminals.{Terminal, Name, Sort, Key, Sign, first, terminal_place}
use Rattle.shim_syntax.specs.Limits.{Count, limits, is_within}
use Rattle.shim_syntax.specs.Grammar as is
use Rattle.shim_syntax.specs.Grammar.{TextCounts, is_stream, IsParam, IsParams, IsMoreParams, IsThrows, IsMoreThrows}
use Rattle.shim_grammar.specs.declared.punctuation.Punctuation.TheVariants as punctuation
use Rattle.shim_grammar.specs.Machine.{SymbolStack, Fixed, Word, Parameter, Parameters, MoreParameters, AfterSort, Thrown, Throws, MoreThrows, go, run_parser}
use Rattle.shim_grammar.proofs.Runs.{asked}
use Rattle.shim_parser.specs.declared.fault.ParseFault.{ParseFault}
use Rattle.shim_parser.specs.Functions.{is_ampersand, is_comma, is_sort, is_void, is_throws, IsParameter, IsParameters, IsThrown, IsThrowsHere}
use Rattle.shim_parser.specs.Parts.{IsName, IsPunctuation}
use Rattle.shim_parser.specs.ReaderViews.{ReaderView, Fails}
use Rattle.shim_parser.proofs.Exits.{Leads, Took, took, fails_as, fails_under}

pub at_most : (n m : ℕ) → nat_le n m ≡ true → n ≤ m
at_most n m h = leb-true n m h

-- the terminals that these functions ask for
reference_is : (t : Terminal) → is_ampersand t ≡ true → t ≡ Sign g.Amp (terminal_place t)
reference_is (Sign g.Amp p) h = refl
reference_is _ h = absurd (cc)

comma_is : (t : Terminal) → is_comma t ≡ true → t ≡ Sign g.Comma (terminal_place t)
comma_is (Sign g.Comma p) h = refl
comma_is _ h = absurd (cc)

pub void_is : (t : Terminal) → is_void t ≡ true → t ≡ Key k.Void (terminal_place t)
void_is (Key k.Void p) h = refl
void_is _ h = absurd (cc)

throws_is : (t : Terminal) → is_throws t ≡ true → t ≡ Key k.Throws (terminal_place t)
throws_is (Key k.Throws p) h = refl
throws_is _ h = absurd (cc)

-- where another terminal stands, what comes is what must come
after_sort_skips : (s : List Terminal) (w : TextCounts) (j : SymbolStack) → is_ampersand (first s) ≡ false → run_parser limits s (AfterSort ∷ j) w ≡ run_parser limits s (Word ∷ j) w
after_sort_skips [] w j h = refl
after_sort_skips (Sign g.Amp p ∷ s) w j h = absurd (cc)
after_sort_skips (_ ∷ s) w j h = refl

parameters_begin : (s : List Terminal) (w : TextCounts) (j : SymbolStack) → is_sort (first s) ≡ true → run_parser limits s (Parameters ∷ j) w ≡ run_parser limits s (Parameter 1 ∷ j) w
parameters_begin [] w j h = refl
parameters_begin (Sort sort p ∷ s) w j h = refl
parameters_begin (_ ∷ s) w j h = absurd (cc)

parameters_close : (s : List Terminal) (w : TextCounts) (j : SymbolStack) → is_void (first s) ≡ false → is_sort (first s) ≡ false → run_parser limits s (Parameters ∷ j) w ≡ run_parser limits s (Fixed punctuation.RightParen ∷ j) w
parameters_close [] w j h i = refl
parameters_close (Sort sort p ∷ s) w j h i = absurd (cc)
parameters_close (Key k.Void p ∷ s) w j h i = absurd (cc)
parameters_close (_ ∷ s) w j h i = refl

more_parameters_close : (n : ℕ) (s : List Terminal) (w : TextCounts) (j : SymbolStack) → is_comma (first s) ≡ false → run_parser limits s (MoreParameters n ∷ j) w ≡ run_parser limits s (Fixed punctuation.RightParen ∷ j) w
more_parameters_close n [] w j h = refl
more_parameters_close n (Sign g.Comma p ∷ s) w j h = absurd (cc)
more_parameters_close n (_ ∷ s) w j h = refl

throws_close : (s : List Terminal) (w : TextCounts) (j : SymbolStack) → is_throws (first s) ≡ false → run_parser limits s (Throws ∷ j) w ≡ run_parser limits s (Fixed punctuation.LeftBrace ∷ j) w
throws_close [] w j h = refl
throws_close (Key k.Throws p ∷ s) w j h = absurd (cc)
throws_close (_ ∷ s) w j h = refl

more_throws_close : (n : ℕ) (s : List Terminal) (w : TextCounts) (j : SymbolStack) → is_comma (first s) ≡ false → run_parser limits s (MoreThrows n ∷ j) w ≡ run_parser limits s (Fixed punctuation.LeftBrace ∷ j) w
more_throws_close n [] w j h = refl
more_throws_close n (Sign g.Comma p ∷ s) w j h = absurd (cc)
more_throws_close n (_ ∷ s) w j h = refl

-- a parameter from its sort on
module _ (n : ℕ) (sort : SortOf) (p : Place) (a b : ReaderView) (h : Sort sort p ≡ first a.rest) (f : is_within (Count many.Parameters) n ≡ true)
    (q : a ≡ record { rest = first a.rest ∷ b.rest; counts = b.counts }) where
  sort_took : Took (Sort sort p) a b
  sort_took = took h q

  sort_leads : Leads (Parameter n ∷ []) (AfterSort ∷ MoreParameters n ∷ []) a b
  sort_leads = λ j. ap (λ u. run_parser limits u (Parameter n ∷ j) a.counts) sort_took.rest
      ∙ asked limits (Sort sort p) b.rest (Count many.Parameters) n (go (AfterSort ∷ MoreParameters n ∷ j) a.counts) f
      ∙ ap (λ u. run_parser limits b.rest (AfterSort ∷ MoreParameters n ∷ j) u) sort_took.counts

  pub param_name_fails : (at : ReaderView) (err : ParseFault) → is_ampersand (first b.rest) ≡ false → Fails (Word ∷ []) b at err → Fails (Parameter n ∷ []) a at err
  param_name_fails at err i w = fails_under (Parameter n ∷ []) (Word ∷ []) (MoreParameters n ∷ []) a b at err
      (λ j. sort_leads j ∙ after_sort_skips b.rest b.counts (MoreParameters n ∷ j) i) w

  pub param_reads : (e : ReaderView) (x : List ℕ) (by_ref : Bool) → by_ref ≡ is_stream sort → IsName b.counts e.counts b.rest e.rest x
      → IsParameter n a.counts e.counts a.rest e.rest (record { sort = sort; by_ref = by_ref; name = x })
  param_reads e x by_ref i m = (
    f,
    subst (λ u. IsParam a.rest e.rest (record { sort = sort; by_ref = u; name = x })) (sym i)
        (subst (λ u. IsParam u e.rest (record { sort = sort; by_ref = is_stream sort; name = x })) (sym (sort_took.rest ∙ ap (λ u. Sort sort p ∷ u) m.1)) is.param),
    sort_took.counts ∙ m.2,
  )

  module _ (d : ReaderView) (i : is_ampersand (first b.rest) ≡ true) (t : b ≡ record { rest = first b.rest ∷ d.rest; counts = d.counts }) where
    reference_took : Took (Sign g.Amp (terminal_place (first b.rest))) b d
    reference_took = took (sym (reference_is (first b.rest) i)) t

    pub reference_reads : (e : ReaderView) (x : List ℕ) → IsName d.counts e.counts d.rest e.rest x → IsParameter n a.counts e.counts a.rest e.rest (record { sort = sort; by_ref = true; name = x })
    reference_reads e x m = (
      f,
      subst (λ u. IsParam u e.rest (record { sort = sort; by_ref = true; name = x }))
          (sym (sort_took.rest ∙ ap (λ u. Sort sort p ∷ u) (reference_took.rest ∙ ap (λ u. Sign g.Amp (terminal_place (first b.rest)) ∷ u) m.1))) is.reference,
      sort_took.counts ∙ reference_took.counts ∙ m.2,
    )

-- the machine takes a parameter
param_runs : {s r : List Terminal} {x : Param} → IsParam s r x → (n : ℕ) → is_within (Count many.Parameters) n ≡ true → (w : TextCounts) (j : SymbolStack) → run_parser limits s (Parameter n ∷ j) w ≡ run_parser limits r (MoreParameters n ∷ j) w
param_runs is.param n h w j = rw h refl
param_runs is.reference n h w j = rw h refl

param_leads : (n : ℕ) (a b : ReaderView) (x : Param) → IsParameter n a.counts b.counts a.rest b.rest x → Leads (Parameter n ∷ []) (MoreParameters n ∷ []) a b
param_leads n a b x h = λ j. param_runs h.1 n h.0 a.counts j ∙ ap (λ u. run_parser limits b.rest (MoreParameters n ∷ j) u) h.2

-- no parameters
module _ (a b : ReaderView) (h : is_void (first a.rest) ≡ true) (q : a ≡ record { rest = first a.rest ∷ b.rest; counts = b.counts }) where
  void_took : Took (Key k.Void (terminal_place (first a.rest))) a b
  void_took = took (sym (void_is (first a.rest) h)) q

  pub void_reads : (e : ReaderView) (xs : List Param) → xs ≡ [] → IsPunctuation punctuation.RightParen b.counts e.counts b.rest e.rest tt → IsParameters a.counts e.counts a.rest e.rest xs
  void_reads e xs i m = (
    subst (λ u. IsParams limits a.rest e.rest u) (sym i)
        (subst (λ u. IsParams limits u e.rest []) (sym (void_took.rest ∙ ap (λ u. Key k.Void (terminal_place (first a.rest)) ∷ u) m.1)) is.void_params),
    void_took.counts ∙ m.2,
  )

pub none_fails : (a at : ReaderView) (err : ParseFault) → is_void (first a.rest) ≡ false → is_sort (first a.rest) ≡ false → Fails (Fixed punctuation.RightParen ∷ []) a at err → Fails (Parameters ∷ []) a at err
none_fails a at err h i w = fails_as (Parameters ∷ []) (Fixed punctuation.RightParen ∷ []) a a at err (λ j. parameters_close a.rest a.counts j h i) w

pub none_reads : (a e : ReaderView) (xs : List Param) → xs ≡ [] → IsPunctuation punctuation.RightParen a.counts e.counts a.rest e.rest tt → IsParameters a.counts e.counts a.rest e.rest xs
none_reads a e xs i m = (subst (λ u. IsParams limits a.rest e.rest u) (sym i) (subst (λ u. IsParams limits u e.rest []) (sym m.1) is.no_params), m.2)

pub param_first_fails : (a at : ReaderView) (err : ParseFault) → is_sort (first a.rest) ≡ true → Fails (Parameter 1 ∷ []) a at err → Fails (Parameters ∷ []) a at err
param_first_fails a at err h w = fails_as (Parameters ∷ []) (Parameter 1 ∷ []) a a at err (λ j. parameters_begin a.rest a.counts j h) w

-- what reads on from here reads from the start
pub record ParamsSoFar (a b : ReaderView) (n : ℕ) (xs : List Param) : Type 0 where
  pub most : n ≤ 32
  pub counts : a.counts ≡ b.counts
  pub reads : (r : List Terminal) (ys : List Param) → IsMoreParams limits n b.rest r ys → IsParams limits a.rest r (xs ++ ys)
  pub runs : Leads (Parameters ∷ []) (MoreParameters n ∷ []) a b

pub params_start : (a b : ReaderView) (x : Param) (xs : List Param) → is_sort (first a.rest) ≡ true → IsParameter 1 a.counts b.counts a.rest b.rest x → xs ≡ x ∷ [] → ParamsSoFar a b 1 xs
params_start a b x xs h i e = record {
  most = lit≤ tt;
  counts = i.2;
  reads = λ r ys m. subst (λ u. IsParams limits a.rest r (u ++ ys)) (sym e) (is.params i.0 i.1 m);
  runs = λ j. parameters_begin a.rest a.counts j h ∙ param_leads 1 a b x i j;
}

module _ (a b : ReaderView) (n : ℕ) (xs : List Param) (c : ParamsSoFar a b n xs) where
  pub params_end_fails : (at : ReaderView) (err : ParseFault) → is_comma (first b.rest) ≡ false → Fails (Fixed punctuation.RightParen ∷ []) b at err → Fails (Parameters ∷ []) a at err
  params_end_fails at err h w = fails_as (Parameters ∷ []) (Fixed punctuation.RightParen ∷ []) a b at err (λ j. c.runs j ∙ more_parameters_close n b.rest b.counts j h) w

  pub params_end_reads : (e : ReaderView) → IsPunctuation punctuation.RightParen b.counts e.counts b.rest e.rest tt → IsParameters a.counts e.counts a.rest e.rest xs
  params_end_reads e m = (
    subst (λ u. IsParams limits a.rest e.rest u) (append-nil xs)
        (c.reads e.rest [] (subst (λ u. IsMoreParams limits n u e.rest []) (sym m.1) is.params_end)),
    c.counts ∙ m.2,
  )

  module _ (d : ReaderView) (h : is_comma (first b.rest) ≡ true) (q : b ≡ record { rest = first b.rest ∷ d.rest; counts = d.counts }) (i : ℕ) (s : i ≡ suc n) where
    params_comma : Took (Sign g.Comma (terminal_place (first b.rest))) b d
    params_comma = took (sym (comma_is (first b.rest) h)) q

    params_comma_leads : Leads (Parameters ∷ []) (Parameter i ∷ []) a d
    params_comma_leads = subst (λ y. Leads (Parameters ∷ []) (Parameter y ∷ []) a d) (sym s)
        (λ j. c.runs j ∙ ap (λ u. run_parser limits u (MoreParameters n ∷ j) b.counts) params_comma.rest ∙ ap (λ u. run_parser limits d.rest (Parameter (suc n) ∷ j) u) params_comma.counts)

    pub params_next_fails : (at : ReaderView) (err : ParseFault) → Fails (Parameter i ∷ []) d at err → Fails (Parameters ∷ []) a at err
    params_next_fails at err w = fails_as (Parameters ∷ []) (Parameter i ∷ []) a d at err params_comma_leads w

    pub params_go : (e : ReaderView) (x : Param) (ys : List Param) → IsParameter i d.counts e.counts d.rest e.rest x → ys ≡ xs ++ x ∷ [] → ParamsSoFar a e i ys
    params_go e x ys m t = record {
      most = at_most i 32 m.0;
      counts = c.counts ∙ params_comma.counts ∙ m.2;
      reads = λ r zs w. subst (λ u. IsParams limits a.rest r u) (sym (append_assoc xs (x ∷ []) zs) ∙ ap (λ u. u ++ zs) (sym t))
          (c.reads r (x ∷ zs) (subst (λ u. IsMoreParams limits n u r (x ∷ zs)) (sym params_comma.rest)
          (is.another_param (subst (λ u. is_within (Count many.Parameters) u ≡ true) s m.0) m.1 (subst (λ u. IsMoreParams limits u e.rest r zs) s w))));
      runs = λ j. params_comma_leads j ∙ param_leads i d e x m j;
    }

-- names that are thrown
thrown_leads : (n : ℕ) (a b : ReaderView) (x : List ℕ) → IsThrown n a.counts b.counts a.rest b.rest x → Leads (Thrown n ∷ []) (MoreThrows n ∷ []) a b
thrown_leads n a b x h = λ j. ap (λ u. run_parser limits u (Thrown n ∷ j) a.counts) h.1
    ∙ asked limits (Name x h.0) b.rest (Count many.Throws) n (go (MoreThrows n ∷ j) a.counts) h.2 ∙ ap (λ u. run_parser limits b.rest (MoreThrows n ∷ j) u) h.3

pub no_throws_fails : (a at : ReaderView) (err : ParseFault) → is_throws (first a.rest) ≡ false → Fails (Fixed punctuation.LeftBrace ∷ []) a at err → Fails (Throws ∷ []) a at err
no_throws_fails a at err h w = fails_as (Throws ∷ []) (Fixed punctuation.LeftBrace ∷ []) a a at err (λ j. throws_close a.rest a.counts j h) w

pub no_throws_reads : (a e : ReaderView) (xs : List (List ℕ)) → xs ≡ [] → IsPunctuation punctuation.LeftBrace a.counts e.counts a.rest e.rest tt → IsThrowsHere a.counts e.counts a.rest e.rest xs
no_throws_reads a e xs i m = (subst (λ u. IsThrows limits a.rest e.rest u) (sym i) (subst (λ u. IsThrows limits u e.rest []) (sym m.1) is.no_throws), m.2)

-- what reads on from here reads from the start
pub record ThrowsSoFar (a b : ReaderView) (n : ℕ) (xs : List (List ℕ)) : Type 0 where
  pub most : n ≤ 16
  pub counts : a.counts ≡ b.counts
  pub reads : (r : List Terminal) (ys : List (List ℕ)) → IsMoreThrows limits n b.rest r ys → IsThrows limits a.rest r (xs ++ ys)
  pub runs : Leads (Throws ∷ []) (MoreThrows n ∷ []) a b

module _ (a b : ReaderView) (h : is_throws (first a.rest) ≡ true) (q : a ≡ record { rest = first a.rest ∷ b.rest; counts = b.counts }) where
  throws_took : Took (Key k.Throws (terminal_place (first a.rest))) a b
  throws_took = took (sym (throws_is (first a.rest) h)) q

  throws_leads : Leads (Throws ∷ []) (Thrown 1 ∷ []) a b
  throws_leads = λ j. ap (λ u. run_parser limits u (Throws ∷ j) a.counts) throws_took.rest ∙ ap (λ u. run_parser limits b.rest (Thrown 1 ∷ j) u) throws_took.counts

  pub throws_start : (e : ReaderView) (x : List ℕ) (xs : List (List ℕ)) → IsThrown 1 b.counts e.counts b.rest e.rest x → xs ≡ x ∷ [] → ThrowsSoFar a e 1 xs
  throws_start e x xs i s = record {
    most = lit≤ tt;
    counts = throws_took.counts ∙ i.3;
    reads = λ r ys m. subst (λ u. IsThrows limits a.rest r (u ++ ys)) (sym s)
        (subst (λ u. IsThrows limits u r (x ∷ ys)) (sym (throws_took.rest ∙ ap (λ u. Key k.Throws (terminal_place (first a.rest)) ∷ u) i.1)) (is.throws i.2 m));
    runs = λ j. throws_leads j ∙ thrown_leads 1 b e x i j;
  }

module _ (a b : ReaderView) (n : ℕ) (xs : List (List ℕ)) (c : ThrowsSoFar a b n xs) where
  pub throws_end_fails : (at : ReaderView) (err : ParseFault) → is_comma (first b.rest) ≡ false → Fails (Fixed punctuation.LeftBrace ∷ []) b at err → Fails (Throws ∷ []) a at err
  throws_end_fails at err h w = fails_as (Throws ∷ []) (Fixed punctuation.LeftBrace ∷ []) a b at err (λ j. c.runs j ∙ more_throws_close n b.rest b.counts j h) w

  pub throws_end_reads : (e : ReaderView) → IsPunctuation punctuation.LeftBrace b.counts e.counts b.rest e.rest tt → IsThrowsHere a.counts e.counts a.rest e.rest xs
  throws_end_reads e m = (
    subst (λ u. IsThrows limits a.rest e.rest u) (append-nil xs)
        (c.reads e.rest [] (subst (λ u. IsMoreThrows limits n u e.rest []) (sym m.1) is.throws_end)),
    c.counts ∙ m.2,
  )

  module _ (d : ReaderView) (h : is_comma (first b.rest) ≡ true) (q : b ≡ record { rest = first b.rest ∷ d.rest; counts = d.counts }) (i : ℕ) (s : i ≡ suc n) where
    throws_comma : Took (Sign g.Comma (terminal_place (first b.rest))) b d
    throws_comma = took (sym (comma_is (first b.rest) h)) q

    throws_comma_leads : Leads (Throws ∷ []) (Thrown i ∷ []) a d
    throws_comma_leads = subst (λ y. Leads (Throws ∷ []) (Thrown y ∷ []) a d) (sym s)
        (λ j. c.runs j ∙ ap (λ u. run_parser limits u (MoreThrows n ∷ j) b.counts) throws_comma.rest ∙ ap (λ u. run_parser limits d.rest (Thrown (suc n) ∷ j) u) throws_comma.counts)

    pub throws_next_fails : (at : ReaderView) (err : ParseFault) → Fails (Thrown i ∷ []) d at err → Fails (Throws ∷ []) a at err
    throws_next_fails at err w = fails_as (Throws ∷ []) (Thrown i ∷ []) a d at err throws_comma_leads w

    pub throws_go : (e : ReaderView) (x : List ℕ) (ys : List (List ℕ)) → IsThrown i d.counts e.counts d.rest e.rest x → ys ≡ xs ++ x ∷ [] → ThrowsSoFar a e i ys
    throws_go e x ys m t = record {
      most = at_most i 16 m.2;
      counts = c.counts ∙ throws_comma.counts ∙ m.3;
      reads = λ r zs w. subst (λ u. IsThrows limits a.rest r u) (sym (append_assoc xs (x ∷ []) zs) ∙ ap (λ u. u ++ zs) (sym t))
          (c.reads r (x ∷ zs) (subst (λ u. IsMoreThrows limits n u r (x ∷ zs)) (sym (throws_comma.rest ∙ ap (λ u. Sign g.Comma (terminal_place (first b.rest)) ∷ u) m.1))
          (is.another_throws (subst (λ u. is_within (Count many.Throws) u ≡ true) s m.2) (subst (λ u. IsMoreThrows limits u e.rest r zs) s w))));
      runs = λ j. throws_comma_leads j ∙ thrown_leads i d e x m j;
    }
