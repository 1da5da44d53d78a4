-- The exits of the functions that read one function and all of them.
use Rattle.std.proofs.Common.{◌≡◌, ◌≤◌, ℕ, suc, List, [], ◌∷◌, ◌++◌, true, refl, sym, ◌∙◌, ap, subst, append_assoc}
use Rattle.std.proofs.lemmas.List.{append-nil}
use Rattle.shim_base.specs.declared.token.Keyword.TheVariants as k
use Rattle.shim_base.specs.Tokens.{Place}
use Rattle.shim_syntax.specs.declared.limits.Many.TheVariants as many
use Rattle.shim_syntax.specs.declared.tree.Param.{Param}
use Rattle.shim_syntax.specs.declared.Stmt.{Stmt}
use Rattle.shim_syntax.specs.declared.tree.Function.{Function}
use Rattle.shim_syntax.specs.Terminals.{Terminal, Key, End, first, terminal_place}
use Rattle.shim_syntax.specs.Limits.{Count, limits, is_within}
use Rattle.shim_syntax.specs.Grammar as is
use Rattle.shim_syntax.specs.Grammar.{TextCounts, new_function, IsThrows, IsBlock, IsFunction, IsFunctions}
use Rattle.shim_grammar.specs.declared.punctuation.Punctuation.TheVariants as punctuation
use Rattle.shim_grammar.specs.Machine.{SymbolStack, Fixed, Word, Block, Parameters, Throws, Functions, run_parser}
use Rattle.shim_grammar.proofs.RunsStmt.{params_runs, throws_runs, function_runs}
use Rattle.shim_parser.specs.declared.terminal.Terminal as read
use Rattle.shim_parser.specs.declared.terminal.Terminal.TheVariants as here
use Rattle.shim_parser.specs.TerminalView.{terminal_view}
use Rattle.shim_parser.specs.declared.fault.ParseFault.{ParseFault}
use Rattle.shim_parser.specs.Functions.{is_void, is_end, IsParameters, IsThrowsHere, IsFunctionAfter, AreAll}
use Rattle.shim_parser.specs.Parts.{IsNameBefore}
use Rattle.shim_parser.specs.ReaderViews.{ReaderView, Fails, reader_with, is_last}
use Rattle.shim_parser.proofs.Exits.{Leads, fails_as, fails_under}
use Rattle.shim_parser.proofs.ExprExits.{Counted, counted_took}
use Rattle.shim_parser.proofs.FunctionExits.{at_most, void_is}

-- a terminal stands where its token does
pub place_is : (t : read.Terminal) (p : Place) → terminal_place (terminal_view t p) ≡ p
place_is (here.Name text) p = refl
place_is _ p = refl

-- what a function has after its `void`
abbrev pub whole : SymbolStack
whole = Word ∷ Fixed punctuation.LeftParen ∷ Parameters ∷ Throws ∷ Block 1 ∷ []

-- a function, after its name and the left parenthesis
module _ (a b : ReaderView) (x : List ℕ) (m : IsNameBefore punctuation.LeftParen a.counts b.counts a.rest b.rest x) where
  name_leads : Leads whole (Parameters ∷ Throws ∷ Block 1 ∷ []) a b
  name_leads = λ j. ap (λ u. run_parser limits u (Word ∷ Fixed punctuation.LeftParen ∷ Parameters ∷ Throws ∷ Block 1 ∷ j) a.counts) m.2
      ∙ ap (λ u. run_parser limits b.rest (Parameters ∷ Throws ∷ Block 1 ∷ j) u) m.3

  module _ (d : ReaderView) (ps : List Param) (n : IsParameters b.counts d.counts b.rest d.rest ps) where
    params_lead : Leads whole (Throws ∷ Block 1 ∷ []) a d
    params_lead = λ j. name_leads j ∙ params_runs n.0 b.counts (Throws ∷ Block 1 ∷ j) ∙ ap (λ u. run_parser limits d.rest (Throws ∷ Block 1 ∷ j) u) n.1

    pub function_throws_fails : (at : ReaderView) (err : ParseFault) → Fails (Throws ∷ []) d at err → Fails whole a at err
    function_throws_fails at err w = fails_under whole (Throws ∷ []) (Block 1 ∷ []) a d at err params_lead w

    module _ (e : ReaderView) (ts : List (List ℕ)) (o : IsThrowsHere d.counts e.counts d.rest e.rest ts) where
      pub function_body_fails : (at : ReaderView) (err : ParseFault) → Fails (Block 1 ∷ []) e at err → Fails whole a at err
      function_body_fails at err w = fails_as whole (Block 1 ∷ []) a e at err
          (λ j. params_lead j ∙ throws_runs o.0 d.counts (Block 1 ∷ j) ∙ ap (λ u. run_parser limits e.rest (Block 1 ∷ j) u) o.1) w

      same_counts : a.counts ≡ e.counts
      same_counts = m.3 ∙ n.1 ∙ o.1

      pub function_reads : (f : ReaderView) (line : ℕ) (ys : List Stmt) → IsBlock limits 1 e.counts f.counts e.rest f.rest ys
          → IsFunctionAfter line a.counts f.counts a.rest f.rest (record { line = line; name = x; params = ps; throws = ts; body = ys })
      function_reads f line ys i = λ u at v.
          let p : Place = record { at = at; line = line } in
          let body : IsBlock limits 1 (new_function u) f.counts e.rest f.rest ys = subst (λ y. IsBlock limits 1 y f.counts e.rest f.rest ys) (sym same_counts ∙ v) i in
          subst (λ s. IsFunction limits u f.counts (Key k.Void p ∷ s) f.rest (record { line = line; name = x; params = ps; throws = ts; body = ys })) (sym m.2)
          (is.function n.0 o.0 body)

-- what reads on from here reads from the start
pub record FunctionsSoFar (a b : ReaderView) (n : ℕ) (fs : List Function) : Type 0 where
  pub most : n ≤ 1024
  pub reads : (r : List Terminal) (gs : List Function) → IsFunctions limits n b.counts b.rest r gs → IsFunctions limits 0 a.counts a.rest r (fs ++ gs)
  pub runs : Leads (Functions 0 ∷ []) (Functions n ∷ []) a b

end_is : (t : Terminal) → is_end t ≡ true → (t ≡ End (terminal_place t)) × (is_last t ≡ true)
end_is (End p) h = (refl, refl)
end_is _ h = absurd (cc)

module _ (a b : ReaderView) (n : ℕ) (fs : List Function) (c : FunctionsSoFar a b n fs) where
  pub functions_read : is_end (first b.rest) ≡ true → (is_last (first b.rest) ≡ true → b.rest ≡ first b.rest ∷ []) → AreAll a.counts b.counts a.rest b.rest fs
  functions_read h l =
      let e = end_is (first b.rest) h in
      let s : b.rest ≡ End (terminal_place (first b.rest)) ∷ [] = l e.1 ∙ ap (λ u. u ∷ []) e.0 in (
        terminal_place (first b.rest),
        s,
        subst (λ u. IsFunctions limits 0 a.counts a.rest [] u) (append-nil fs)
            (c.reads [] [] (subst (λ u. IsFunctions limits n b.counts u [] []) (sym s) is.program_end)),
      )

  module _ (h : is_void (first b.rest) ≡ true) (i : ℕ) (s : i ≡ suc n) where
    module _ (b' d : ReaderView) (f : is_within (Count many.Functions) i ≡ true) (q : b' ≡ reader_with new_function b) (t : b' ≡ record { rest = first b'.rest ∷ d.rest; counts = d.counts }) where
      functions_took : Counted new_function (Key k.Void (terminal_place (first b.rest))) b d
      functions_took = counted_took new_function (Key k.Void (terminal_place (first b.rest))) b b' d (void_is (first b.rest) h) q t

      within : is_within (Count many.Functions) (suc n) ≡ true
      within = subst (λ u. is_within (Count many.Functions) u ≡ true) s f

      pub functions_go : (e : ReaderView) (line : ℕ) (x : Function) (gs : List Function) → line ≡ (terminal_place (first b.rest)).line → IsFunctionAfter line d.counts e.counts d.rest e.rest x → gs ≡ fs ++ x ∷ []
          → FunctionsSoFar a e i gs
      functions_go e line x gs l m v =
          let at : ℕ = (terminal_place (first b.rest)).at in
          let one : IsFunction limits b.counts e.counts (Key k.Void (record { at = at; line = line }) ∷ d.rest) e.rest x = m b.counts at functions_took.counts in
          let here : b.rest ≡ Key k.Void (record { at = at; line = line }) ∷ d.rest = functions_took.rest ∙ ap (λ u. Key k.Void (record { at = at; line = u }) ∷ d.rest) (sym l) in
          let two : IsFunction limits b.counts e.counts b.rest e.rest x = subst (λ u. IsFunction limits b.counts e.counts u e.rest x) (sym here) one in
          record {
            most = at_most i 1024 f;
            reads = λ r hs w. subst (λ u. IsFunctions limits 0 a.counts a.rest r u) (sym (append_assoc fs (x ∷ []) hs) ∙ ap (λ u. u ++ hs) (sym v))
                (c.reads r (x ∷ hs) (is.another_function within two (subst (λ u. IsFunctions limits u e.counts e.rest r hs) s w)));
            runs = λ j. c.runs j ∙ function_runs two n within j ∙ ap (λ u. run_parser limits e.rest (Functions u ∷ j) e.counts) (sym s);
          }
