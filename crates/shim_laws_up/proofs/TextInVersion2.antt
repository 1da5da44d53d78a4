-- A program that has a text of version 1 has one of version 2 with its names replaced, on the same lines.
use Rattle.std.proofs.Common.{ℕ, ◌≡◌, ◌∙◌, List, [], ◌∷◌, ◌++◌, true, false, Option, Some, None, map, refl, sym, ap, subst, arith, inl}
use Rattle.std.specs.Prelude.{codes, pos}
use Rattle.std.proofs.lemmas.Int.{ints}
use Rattle.shim_base.specs.declared.TokenKind.TheVariants.{Word, Number as NumberKind, Sign as SignKind}
use Rattle.shim_base.specs.declared.Sign.TheVariants as g
use Rattle.shim_base.specs.Tokens.{Token, Place, Fault, Spells, Cuts, place_after, start, keyword_of, sign_of}
use Rattle.shim_syntax.specs.declared.tree.Function.{Function}
use Rattle.shim_syntax.specs.declared.tree.Program.{Program}
use Rattle.shim_syntax.specs.Terminals.{Terminal, Name, Number, Sort, Key, Sign, End, Broken, of_token, of_tokens, of_end, of_version, in_version, begins_two}
use Rattle.shim_syntax.specs.Limits.{limits}
use Rattle.shim_syntax.specs.Grammar as is
use Rattle.shim_syntax.specs.Grammar.{in_version_2, nothing_read, IsFunctions, Derives}
use Rattle.shim_syntax.specs.Text.{IsText}
use Rattle.shim_syntax.proofs.Programs.{no_header}
use Rattle.shim_syntax.proofs.Standing.{header_seen}
use Rattle.shim_grammar.specs.Machine.{Source, run_parser}
use Rattle.shim_grammar.proofs.RunsStmt.{program_runs}
use Rattle.shim_grammar.proofs.Passed.{broken_ends}
use Rattle.shim_up.specs.Renaming.{Renaming, renamed_functions}
use Rattle.shim_laws_up.proofs.Derivations.{functions_rewritten}
use Rattle.shim_laws_up.specs.Keeping.{KeepsNames}
use Rattle.shim_laws_up.proofs.Respelling.{behind, token_and_space, respelled, places, aligned}

-- in version 1 each terminal is seen as it is written
as_written_one : (t : Terminal) → of_version false t ≡ t
as_written_one (Name x p) = refl
as_written_one (Number n p) = refl
as_written_one (Sort sort p) = refl
as_written_one (Key key p) = refl
as_written_one (Sign sign p) = refl
as_written_one (End p) = refl
as_written_one (Broken kind p) = refl

as_written : (ts : List Terminal) → map (of_version false) ts ≡ ts
as_written [] = refl
as_written (t ∷ ts) = ap (λ x. x ∷ map (of_version false) ts) (as_written_one t) ∙ ap (λ l. t ∷ l) (as_written ts)

of_version_1 : {ts : List Terminal} {p : Program} → Derives limits ts p → p.version ≡ 1 → IsFunctions limits 0 nothing_read ts [] p.functions
of_version_1 (is.version_1 d) e = d
of_version_1 (is.version_2 shim two d) e = absurd (cc e)

raw_is : (raw ts : List Terminal) (fs : List Function) → ts ≡ in_version raw → IsFunctions limits 0 nothing_read ts [] fs → ts ≡ raw
raw_is raw ts fs e d =
    let none : begins_two raw ≡ false = sym (header_seen (begins_two raw) raw) ∙ sym (ap begins_two e) ∙ no_header 0 nothing_read ts [] fs d in
    e ∙ ap (λ b. map (of_version b) raw) none ∙ as_written raw

ends_in_last : (tokens : List Token) (last : Terminal) → (b : List Terminal) × (of_tokens tokens last ≡ b ++ last ∷ [])
ends_in_last [] last = ([], refl)
ends_in_last (t ∷ tokens) last = let r = ends_in_last tokens last in (of_token t ∷ r.0, ap (λ l. of_token t ∷ l) r.1)

-- what derives a program is cut up to the end
cut_whole : (at : Place) (tokens : List Token) (end : Option Fault) (fs : List Function) → IsFunctions limits 0 nothing_read (of_tokens tokens (of_end at end)) [] fs → end ≡ None
cut_whole at tokens None fs d = refl
cut_whole at tokens (Some fault) fs d =
    let b = ends_in_last tokens (of_end at (Some fault)) in
    absurd (broken_ends limits fault.kind (record { at = fault.at; line = fault.line }) b.0 (Source ∷ []) nothing_read (sym (ap (λ s. run_parser limits s (Source ∷ []) nothing_read) b.1) ∙ program_runs (is.version_1 d)))

shim_spells : Spells (codes "shim") Word
unfolding keyword_of
shim_spells = (refl, refl)

two_spells : Spells (codes "2") (NumberKind (pos 2))
two_spells = (2, inl (refl, refl), refl)

semicolon_spells : Spells (codes ";") (SignKind g.Semicolon)
unfolding sign_of
semicolon_spells = refl

-- the first line of a text of version 2, a space after each token, and the text after it
header : List ℕ → List ℕ
header bytes = codes "shim" ++ 32 ∷ (codes "2" ++ 32 ∷ (codes ";" ++ 32 ∷ bytes))

abbrev at_two : Place
at_two = behind start (codes "shim")

abbrev at_semicolon : Place
at_semicolon = behind at_two (codes "2")

abbrev behind_header : Place
behind_header = behind at_semicolon (codes ";")

abbrev header_tokens : List Token → List Token
header_tokens us =
    record { kind = Word; text = codes "shim"; at = start.at; line = start.line } ∷ record { kind = NumberKind (pos 2); text = codes "2"; at = at_two.at; line = at_two.line }
    ∷ record { kind = SignKind g.Semicolon; text = codes ";"; at = at_semicolon.at; line = at_semicolon.line } ∷ us

header_cut : (bytes : List ℕ) (us : List Token) → Cuts behind_header bytes us None → Cuts start (header bytes) (header_tokens us) None
unfolding header
header_cut bytes us c =
    token_and_space start (codes "shim") (codes "2" ++ 32 ∷ (codes ";" ++ 32 ∷ bytes)) Word _ shim_spells (omega arith)
    (token_and_space at_two (codes "2") (codes ";" ++ 32 ∷ bytes) (NumberKind (pos 2)) _ two_spells (omega (arith, ints))
    (token_and_space at_semicolon (codes ";") bytes (SignKind g.Semicolon) us semicolon_spells tt c))

module _ (f : Renaming) (keeps : KeepsNames f) where
  pub text_in_version_2 : (bytes : List ℕ) (p : Program) → p.version ≡ 1 → IsText bytes p → (others : List ℕ) × IsText others (record { version = 2; functions = renamed_functions f p.functions })
  text_in_version_2 bytes p one h =
      let cut = h.read in
      let last = place_after start bytes in
      let raw = of_tokens cut.tokens (of_end last cut.end) in
      let functions = of_version_1 h.derives one in
      let of_raw = subst (λ ts. IsFunctions limits 0 nothing_read ts [] p.functions) (raw_is raw h.terminals p.functions cut.are functions) functions in
      let none = cut_whole last cut.tokens cut.end p.functions of_raw in
      let old = of_tokens cut.tokens (End last) in
      let derived : IsFunctions limits 0 nothing_read old [] p.functions = subst (λ end. IsFunctions limits 0 nothing_read (of_tokens cut.tokens (of_end last end)) [] p.functions) none of_raw in
      let r = respelled f keeps behind_header start bytes cut.tokens cut.end none (omega arith) cut.cut in
      let end = place_after start (header r.bytes) in
      let new = map (of_version true) (of_tokens r.others (End end)) in
      let is_new = aligned f keeps end (places f keeps new) old new (r.alike last end) (λ n lt. refl) in
      let done = subst (λ s. IsFunctions limits 0 (in_version_2 nothing_read) s [] (renamed_functions f p.functions)) is_new (functions_rewritten f true end (places f keeps new) derived) in (
        header r.bytes,
        record {
          terminals = in_version (of_tokens (header_tokens r.others) (End end));
          read = record { tokens = header_tokens r.others; end = None; cut = header_cut r.bytes r.others r.cut; are = refl };
          derives = is.version_2 refl refl done;
        },
      )
