-- The exits of the function that reads a whole source.
use Rattle.std.proofs.Common.{◌≡◌, List, [], ◌∷◌, true, false, refl, sym, ◌∙◌, ap, subst}
use Rattle.shim_base.specs.declared.token.Sign.TheVariants as g
use Rattle.shim_syntax.specs.declared.tree.Function.{Function}
use Rattle.shim_syntax.specs.Terminals.{Terminal, Sign, first, is_shim, is_two}
use Rattle.shim_syntax.specs.Limits.{limits}
use Rattle.shim_syntax.specs.Grammar as is
use Rattle.shim_syntax.specs.Grammar.{TextCounts, in_version_2, IsFunctions, IsProgram}
use Rattle.shim_grammar.specs.declared.punctuation.Punctuation.TheVariants as punctuation
use Rattle.shim_grammar.specs.Machine.{SymbolStack, Fixed, Functions, Source, Version, go, run_parser, wants}
use Rattle.shim_grammar.proofs.Runs.{run_on}
use Rattle.shim_parser.specs.declared.fault.ParseFault.{ParseFault}
use Rattle.shim_parser.specs.Functions.{AreAll}
use Rattle.shim_parser.specs.Sources.{IsTwo, IsWholeSource}
use Rattle.shim_parser.specs.ReaderViews.{ReaderView, Fails, reader_with}
use Rattle.shim_parser.proofs.Exits.{Leads, Took, took, fails_as, fails_under}
use Rattle.shim_parser.proofs.Sequences.{same_run}

-- a text that doesn't begin as version 2 goes on as functions do
other_wanted : (t : Terminal) (k : SymbolStack) (w : TextCounts) → is_shim t ≡ false → wants (Source ∷ k) t w ≡ wants (Functions 0 ∷ k) t w
other_wanted t k w h = rw h refl

other_runs : (s : List Terminal) (k : SymbolStack) (w : TextCounts) → is_shim (first s) ≡ false → run_parser limits s (Source ∷ k) w ≡ run_parser limits s (Functions 0 ∷ k) w
other_runs [] k w h = refl
other_runs (t ∷ s) k w h = ap (λ o. run_on limits t s o) (other_wanted t k w h)

module _ (a b : ReaderView) where
  pub source_1_fails : (e : ParseFault) → is_shim (first a.rest) ≡ false → Fails (Functions 0 ∷ []) a b e → Fails (Source ∷ []) a b e
  source_1_fails e h w = fails_as (Source ∷ []) (Functions 0 ∷ []) a a b e (λ k. other_runs a.rest k a.counts h) w

  pub source_1_reads : (fs : List Function) → AreAll a.counts b.counts a.rest b.rest fs → IsWholeSource a.counts b.counts a.rest b.rest (record { version = 1; functions = fs })
  source_1_reads fs m = (m.0, m.1, is.version_1 m.2)

-- after the first word of version 2, at e as that version, what stands before the functions, and these
module _ (a b e c d : ReaderView) (h : is_shim (first a.rest) ≡ true) (q : a ≡ record { rest = first a.rest ∷ b.rest; counts = b.counts }) (s : e ≡ reader_with in_version_2 b) where
  shim_took : Took (first a.rest) a b
  shim_took = took refl q

  shim_counts : in_version_2 a.counts ≡ e.counts
  shim_counts = ap in_version_2 shim_took.counts ∙ ap (λ (u : ReaderView). u.counts) (sym s)

  shim_wanted : (t : Terminal) (k : SymbolStack) (w : TextCounts) → is_shim t ≡ true → wants (Source ∷ k) t w ≡ go (Version ∷ Fixed punctuation.Semicolon ∷ Functions 0 ∷ k) (in_version_2 w)
  shim_wanted t k w h = rw h refl

  shim_leads : Leads (Source ∷ []) (Version ∷ Fixed punctuation.Semicolon ∷ Functions 0 ∷ []) a e
  shim_leads = λ k. ap (λ u. run_parser limits u (Source ∷ k) a.counts) shim_took.rest ∙ ap (λ o. run_on limits (first a.rest) b.rest o) (shim_wanted (first a.rest) k a.counts h)
      ∙ same_run b.rest e.rest (Version ∷ Fixed punctuation.Semicolon ∷ Functions 0 ∷ k) (in_version_2 a.counts) e.counts (ap (λ (u : ReaderView). u.rest) (sym s)) shim_counts

  pub source_version_fails : (at : ReaderView) (err : ParseFault) → Fails (Version ∷ Fixed punctuation.Semicolon ∷ []) e at err → Fails (Source ∷ []) a at err
  source_version_fails at err f = fails_under (Source ∷ []) (Version ∷ Fixed punctuation.Semicolon ∷ []) (Functions 0 ∷ []) a e at err shim_leads f

  module _ (m : IsTwo e.counts c.counts e.rest c.rest tt) where
    two_wanted : (t : Terminal) (k : SymbolStack) (w : TextCounts) → is_two t ≡ true → wants (Version ∷ k) t w ≡ go k w
    two_wanted t k w h = rw h refl

    version_leads : Leads (Source ∷ []) (Functions 0 ∷ []) a c
    version_leads = λ k. shim_leads k ∙ ap (λ u. run_parser limits u (Version ∷ Fixed punctuation.Semicolon ∷ Functions 0 ∷ k) e.counts) m.2
        ∙ ap (λ o. run_on limits m.0 (Sign g.Semicolon m.1 ∷ c.rest) o) (two_wanted m.0 (Fixed punctuation.Semicolon ∷ Functions 0 ∷ k) e.counts m.3)
        ∙ ap (λ u. run_parser limits c.rest (Functions 0 ∷ k) u) m.4

    pub source_2_fails : (at : ReaderView) (err : ParseFault) → Fails (Functions 0 ∷ []) c at err → Fails (Source ∷ []) a at err
    source_2_fails at err f = fails_as (Source ∷ []) (Functions 0 ∷ []) a c at err version_leads f

    pub source_2_reads : (fs : List Function) → AreAll c.counts d.counts c.rest d.rest fs → IsWholeSource a.counts d.counts a.rest d.rest (record { version = 2; functions = fs })
    source_2_reads fs n =
        let counts : in_version_2 a.counts ≡ c.counts = shim_counts ∙ m.4 in
        let rest : a.rest ≡ first a.rest ∷ m.0 ∷ Sign g.Semicolon m.1 ∷ c.rest = shim_took.rest ∙ ap (λ (u : ReaderView). first a.rest ∷ u.rest) (sym s) ∙ ap (λ u. first a.rest ∷ u) m.2 in
        let whole : IsProgram limits a.counts (first a.rest ∷ m.0 ∷ Sign g.Semicolon m.1 ∷ c.rest) [] (record { version = 2; functions = fs }) =
        is.version_2 h m.3 (subst (λ u. IsFunctions limits 0 u c.rest [] fs) (sym counts) n.2) in
        (n.0, n.1, subst (λ u. IsProgram limits a.counts u [] (record { version = 2; functions = fs })) (sym rest) whole)
