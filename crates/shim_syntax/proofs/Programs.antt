-- The canonical text of a text's program is a text of a program that is the same but for lines.
use Rattle.std.proofs.Common.{ℕ, suc, ◌≤◌, ◌≡◌, Bool, true, false, List, [], ◌∷◌, ◌++◌, map, None, refl, sym, ap, subst, ◌∙◌, arith, ◌⊎◌, inl, inr}
use Rattle.std.proofs.lemmas.List.{append_assoc}
use Rattle.shim_base.specs.declared.Keyword.TheVariants as kw
use Rattle.shim_base.specs.declared.Sign.TheVariants as g
use Rattle.shim_base.specs.Tokens.{Place, start, place_after, Spells, keyword_of}
use Rattle.shim_syntax.specs.declared.limits.Many.TheVariants.{Functions as ManyFunctions}
use Rattle.shim_syntax.specs.declared.tree.Sort.{Sort as SortOf}
use Rattle.shim_syntax.specs.declared.tree.Sort.TheVariants.{Value, Input, Output}
use Rattle.shim_syntax.specs.declared.tree.Stmt.{Stmt}
use Rattle.shim_syntax.specs.declared.tree.Param.{Param}
use Rattle.shim_syntax.specs.declared.tree.Function.{Function}
use Rattle.shim_syntax.specs.declared.tree.Program.{Program}
use Rattle.std.specs.Prelude.{codes, pos}
use Rattle.std.proofs.lemmas.Int.{ints}
use Rattle.shim_base.specs.declared.TokenKind.TheVariants.{Word, Number as NumberKind}
use Rattle.shim_syntax.specs.Terminals.{Terminal, Name, Sort, End, of_tokens, of_end, of_version, in_version, begins_two}
use Rattle.shim_syntax.specs.Limits.{Count, is_within, limits}
use Rattle.shim_syntax.specs.Grammar.{TextCounts, nothing_read, in_version_2, new_function, is_stream, IsParam, IsParams, IsMoreParams, IsThrows, IsMoreThrows, IsFunction, IsFunctions, Derives}
use Rattle.shim_syntax.specs.Grammar as gr
use Rattle.shim_syntax.specs.Text.{IsText}
use Rattle.shim_syntax.specs.Printing.{PrintedPiece, piece_text, pieces_text, key_piece, sign_piece, name_piece, version_piece, line_end_piece, sort_piece, stmt_shown, all_pieces, param_pieces, params_pieces, more_params_pieces, throws_pieces, more_throws_pieces, function_pieces, functions_pieces, pieces, canonical}
use Rattle.shim_syntax.specs.Same.{function_without_lines, IsTextOfSame}
use Rattle.shim_syntax.proofs.Pieces.{AreTokens, tokens_of, behind_piece, pieces_are_cut}
use Rattle.shim_syntax.proofs.Standing.{ArePrefix, nothing, split, pieces_are_prefix, tokens_of_both, AreGood, cut_is_good, header_seen}
use Rattle.shim_syntax.proofs.Shapes.{sign_spells}
use Rattle.shim_syntax.proofs.Parts.{ReadRelation, IsPart, Both, both, IsPiece, here, front_name, front_key, front_type, front_sort, front_sign, front_last, mapped, same_pieces}
use Rattle.shim_syntax.proofs.Readings.{Block, own_piece, behind_terminal}
use Rattle.shim_syntax.proofs.Simple.{IsSort, is_sort, sort_read}
use Rattle.shim_syntax.proofs.Statements.{block_part}

-- what is read without counting
data IsSame (R : List Terminal → List Terminal → Type 0) : ℕ → TextCounts → TextCounts → List Terminal → List Terminal → Type 0 where
  uncounted : {k : ℕ} {a : TextCounts} {t q : List Terminal} → R t q → IsSame R k a a t q

abbrev OneParam : Param → ReadRelation
OneParam x = IsSame (λ t q. IsParam t q x)

abbrev Params : List Param → ReadRelation
Params xs = IsSame (λ t q. IsParams limits t q xs)

abbrev MoreParams : ℕ → List Param → ReadRelation
MoreParams n xs = IsSame (λ t q. IsMoreParams limits n t q xs)

abbrev Throws : List (List ℕ) → ReadRelation
Throws xs = IsSame (λ t q. IsThrows limits t q xs)

abbrev MoreThrows : ℕ → List (List ℕ) → ReadRelation
MoreThrows n xs = IsSame (λ t q. IsMoreThrows limits n t q xs)

-- a parameter with `&`
by_reference : (sort : SortOf) (x : List ℕ) (k : ℕ) (a b : TextCounts) (t q : List Terminal) → Both (IsPiece (sort_piece sort)) (Both (IsPiece (sign_piece g.Amp)) (IsPiece (name_piece x))) k a b t q →
    OneParam (record { sort = sort; by_ref = true; name = x }) k a b t q
by_reference sort x k a b t q (c, m, word, rest) = behind_sort k a c b t m q (sort_read sort k a c t m word) rest where
  behind_sort : (k : ℕ) (a c b : TextCounts) (t m q : List Terminal) → IsSort sort k a c t m → Both (IsPiece (sign_piece g.Amp)) (IsPiece (name_piece x)) k c b m q →
      OneParam (record { sort = sort; by_ref = true; name = x }) k a b t q
  behind_sort k a _ _ _ _ q (is_sort i) (_, _, here j, here n) = uncounted gr.reference

-- one without
by_value : (sort : SortOf) (x : List ℕ) (k : ℕ) (a b : TextCounts) (t q : List Terminal) → Both (IsPiece (sort_piece sort)) (IsPiece (name_piece x)) k a b t q →
    OneParam (record { sort = sort; by_ref = is_stream sort; name = x }) k a b t q
by_value sort x k a b t q (c, m, word, rest) = behind_sort k a c b t m q (sort_read sort k a c t m word) rest where
  behind_sort : (k : ℕ) (a c b : TextCounts) (t m q : List Terminal) → IsSort sort k a c t m → IsPiece (name_piece x) k c b m q → OneParam (record { sort = sort; by_ref = is_stream sort; name = x }) k a b t q
  behind_sort k a _ _ _ _ q (is_sort i) (here n) = uncounted gr.param

-- a stream is shown with `&`
plain_param : (l : ℕ) (v : TextCounts) (p q : Place) (r : List Terminal) (sort : SortOf) (x : List ℕ) →
    IsPart l v v (Sort sort p ∷ Name x q ∷ r) r (param_pieces (record { sort = sort; by_ref = is_stream sort; name = x })) (OneParam (record { sort = sort; by_ref = is_stream sort; name = x }))
plain_param l v p q r (Value ty) x = mapped (by_value (Value ty) x) (both (front_type ty) (front_name x q))
plain_param l v p q r Input x = mapped (by_reference Input x) (both (front_key kw.Istream) (both (own_piece (sign_piece g.Amp) (sign_spells g.Amp) tt (λ ver place. refl)) (front_name x q)))
plain_param l v p q r Output x = mapped (by_reference Output x) (both (front_key kw.Ostream) (both (own_piece (sign_piece g.Amp) (sign_spells g.Amp) tt (λ ver place. refl)) (front_name x q)))

param_part : {l : ℕ} {v : TextCounts} {s r : List Terminal} {x : Param} → IsParam s r x → IsPart l v v s r (param_pieces x) (OneParam x)
param_part {l = l} {v = v} {r = r} (gr.param {sort = sort} {x = x} {p = p} {q = q}) = plain_param l v p q r sort x
param_part (gr.reference {sort = sort} {x = x} {o = o}) = mapped (by_reference sort x) (both (front_sort sort) (both (front_sign g.Amp) (front_name x o)))

more_params_part : (l n : ℕ) (v : TextCounts) (s r : List Terminal) (xs : List Param) → IsMoreParams limits n s r xs → IsPart l v v s r (more_params_pieces xs ++ sign_piece g.RightParen ∷ []) (MoreParams n xs)
more_params_part l n v _ r _ gr.params_end = mapped build (front_sign g.RightParen) where
  build : (k : ℕ) (a b : TextCounts) (t q : List Terminal) → IsPiece (sign_piece g.RightParen) k a b t q → MoreParams n [] k a b t q
  build k a _ _ q (here p) = uncounted gr.params_end
more_params_part l n v _ r _ (gr.another_param {m = m} {x = x} {xs = xs} fits h more) =
    same_pieces (ap (λ (ps : List PrintedPiece). sign_piece g.Comma ∷ ps) (sym (append_assoc (param_pieces x) (more_params_pieces xs) (sign_piece g.RightParen ∷ []))))
    (mapped build (both (front_sign g.Comma) (both (param_part h) (more_params_part l (suc n) v m r xs more)))) where
      build : (k : ℕ) (a b : TextCounts) (t q : List Terminal) → Both (IsPiece (sign_piece g.Comma)) (Both (OneParam x) (MoreParams (suc n) xs)) k a b t q → MoreParams n (x ∷ xs) k a b t q
      build k a _ _ q (_, _, here i, (_, _, uncounted one, uncounted rest)) = uncounted (gr.another_param fits one rest)

-- the parameters, with the right parenthesis
params_part : {l : ℕ} {v : TextCounts} {s r : List Terminal} {xs : List Param} → IsParams limits s r xs → IsPart l v v s r (params_pieces xs ++ sign_piece g.RightParen ∷ []) (Params xs)
params_part gr.no_params = mapped build (front_sign g.RightParen) where
  build : (k : ℕ) (a b : TextCounts) (t q : List Terminal) → IsPiece (sign_piece g.RightParen) k a b t q → Params [] k a b t q
  build k a _ _ q (here p) = uncounted gr.no_params
params_part gr.void_params = behind_terminal (mapped build (front_sign g.RightParen)) where
  build : (k : ℕ) (a b : TextCounts) (t q : List Terminal) → IsPiece (sign_piece g.RightParen) k a b t q → Params [] k a b t q
  build k a _ _ q (here p) = uncounted gr.no_params
params_part {l = l} {v = v} {r = r} (gr.params {m = m} {x = x} {xs = xs} fits h more) =
    same_pieces (sym (append_assoc (param_pieces x) (more_params_pieces xs) (sign_piece g.RightParen ∷ []))) (mapped build (both (param_part h) (more_params_part l 1 v m r xs more))) where
      build : (k : ℕ) (a b : TextCounts) (t q : List Terminal) → Both (OneParam x) (MoreParams 1 xs) k a b t q → Params (x ∷ xs) k a b t q
      build k a _ t q (_, _, uncounted one, uncounted rest) = uncounted (gr.params fits one rest)

more_throws_part : (l n : ℕ) (v : TextCounts) (s r : List Terminal) (xs : List (List ℕ)) → IsMoreThrows limits n s r xs →
    IsPart l v v s r (more_throws_pieces xs ++ line_end_piece g.LeftBrace ∷ []) (MoreThrows n xs)
more_throws_part l n v _ r _ gr.throws_end = mapped build (front_last g.LeftBrace) where
  build : (k : ℕ) (a b : TextCounts) (t q : List Terminal) → IsPiece (line_end_piece g.LeftBrace) k a b t q → MoreThrows n [] k a b t q
  build k a _ _ q (here p) = uncounted gr.throws_end
more_throws_part l n v _ r _ (gr.another_throws {x = x} {q = o} {s = s} {xs = xs} fits more) =
    mapped build (both (front_sign g.Comma) (both (front_name x o) (more_throws_part l (suc n) v s r xs more))) where
      build : (k : ℕ) (a b : TextCounts) (t q : List Terminal) → Both (IsPiece (sign_piece g.Comma)) (Both (IsPiece (name_piece x)) (MoreThrows (suc n) xs)) k a b t q → MoreThrows n (x ∷ xs) k a b t q
      build k a _ _ q (_, _, here i, (_, _, here j, uncounted rest)) = uncounted (gr.another_throws fits rest)

-- what stands between the parameters and the body, with the left brace
throws_part : {l : ℕ} {v : TextCounts} {s r : List Terminal} {xs : List (List ℕ)} → IsThrows limits s r xs → IsPart l v v s r (throws_pieces xs ++ line_end_piece g.LeftBrace ∷ []) (Throws xs)
throws_part gr.no_throws = mapped build (front_last g.LeftBrace) where
  build : (k : ℕ) (a b : TextCounts) (t q : List Terminal) → IsPiece (line_end_piece g.LeftBrace) k a b t q → Throws [] k a b t q
  build k a _ _ q (here p) = uncounted gr.no_throws
throws_part {l = l} {v = v} {r = r} (gr.throws {x = x} {q = o} {s = s} {xs = xs} fits more) =
    mapped build (both (front_key kw.Throws) (both (front_name x o) (more_throws_part l 1 v s r xs more))) where
      build : (k : ℕ) (a b : TextCounts) (t q : List Terminal) → Both (IsPiece (key_piece kw.Throws)) (Both (IsPiece (name_piece x)) (MoreThrows 1 xs)) k a b t q → Throws (x ∷ xs) k a b t q
      build k a _ _ q (_, _, here i, (_, _, here j, uncounted rest)) = uncounted (gr.throws fits rest)

-- the parts of a function
abbrev Parts : Function → ReadRelation
Parts f = Both (IsPiece (key_piece kw.Void)) (Both (IsPiece (name_piece f.name)) (Both (IsPiece (sign_piece g.LeftParen)) (Both (Params f.params) (Both (Throws f.throws) (Block f.body)))))

parts_pieces : (params throws body : List PrintedPiece) → (params ++ sign_piece g.RightParen ∷ []) ++ ((throws ++ line_end_piece g.LeftBrace ∷ []) ++ body) ≡ params ++ sign_piece g.RightParen ∷ (throws ++ line_end_piece g.LeftBrace ∷ body)
parts_pieces params throws body =
    append_assoc params (sign_piece g.RightParen ∷ []) ((throws ++ line_end_piece g.LeftBrace ∷ []) ++ body)
    ∙ ap (λ (ps : List PrintedPiece). params ++ sign_piece g.RightParen ∷ ps) (append_assoc throws (line_end_piece g.LeftBrace ∷ []) body)

function_part : {v w : TextCounts} {s r : List Terminal} {f : Function} → IsFunction limits v w s r f → IsPart 1 (new_function v) w s r (function_pieces f) (Parts f)
function_part {v = v} {w = w} {r = r} (gr.function {f = f} {q = q} {i = i} {xs = xs} {ts = ts} {ys = ys} is_params is_throws block) =
    same_pieces
    (ap (λ (ps : List PrintedPiece). key_piece kw.Void ∷ name_piece f ∷ sign_piece g.LeftParen ∷ ps) (parts_pieces (params_pieces xs) (throws_pieces ts) (all_pieces (map stmt_shown ys) ++ line_end_piece g.RightBrace ∷ [])))
    (both (front_key kw.Void) (both (front_name f q) (both (front_sign g.LeftParen) (both (params_part is_params) (both (throws_part is_throws) (block_part 1 (new_function v) w i r ys block))))))

-- a function is read from its own pieces
record IsFunctionRead (a b : TextCounts) (t q : List Terminal) (f : Function) : Type 0 where
  read : Function
  same : function_without_lines read ≡ function_without_lines f
  is : IsFunction limits a b t q read

function_read : (a b : TextCounts) (t q : List Terminal) (f : Function) → Parts f 1 (new_function a) b t q → IsFunctionRead a b t q f
function_read a b _ q f (_, _, here i, (_, _, here j, (_, _, here n, (_, _, uncounted is_params, (_, _, uncounted is_throws, (ys, same, block)))))) = record {
  read = record { line = i.line; name = f.name; params = f.params; throws = f.throws; body = ys };
  same = ap (λ (body : List Stmt). record { line = 0; name = f.name; params = f.params; throws = f.throws; body = body }) same;
  is = gr.function is_params is_throws block;
}

-- functions are read from their own pieces
record AreFunctionsRead (n : ℕ) (a : TextCounts) (t : List Terminal) (fs : List Function) : Type 0 where
  read : List Function
  same : map function_without_lines read ≡ map function_without_lines fs
  are : IsFunctions limits n a t [] read

record AreKept (n : ℕ) (v : TextCounts) (s : List Terminal) (fs : List Function) : Type 0 where
  spelled : (ver : Bool) → AreGood ver s → AreTokens ver (functions_pieces fs)
  read : (a : TextCounts) (t : List Terminal) (p : Place) → a.operators ≡ v.operators → a.two ≡ v.two → ArePrefix (functions_pieces fs) t (End p ∷ []) → AreFunctionsRead n a t fs

none_kept : (n : ℕ) (v : TextCounts) (s : List Terminal) → AreKept n v s []
none_kept n v s = record { spelled = λ ver good. tt; read = read } where
  read : (a : TextCounts) (t : List Terminal) (p : Place) → a.operators ≡ v.operators → a.two ≡ v.two → ArePrefix [] t (End p ∷ []) → AreFunctionsRead n a t []
  read a _ p same version nothing = record { read = []; same = refl; are = gr.program_end }

one_kept : (n : ℕ) (v w : TextCounts) (s m : List Terminal) (f : Function) (fs : List Function) → is_within (Count ManyFunctions) (suc n) ≡ true → w.deepest ≤ 64 →
    IsPart 1 (new_function v) w s m (function_pieces f) (Parts f) → AreKept (suc n) w m fs → AreKept n v s (f ∷ fs)
one_kept n v w s m f fs fits deep part more = record { spelled = spelled; read = λ a t p same version prefix. by_parts a t p same version (split (function_pieces f) (functions_pieces fs) t (End p ∷ []) prefix) } where
  spelled : (ver : Bool) → AreGood ver s → AreTokens ver (functions_pieces (f ∷ fs))
  spelled ver good = let one = part.spelled ver good in tokens_of_both ver (function_pieces f) (functions_pieces fs) one.0 (more.spelled ver one.1)

  by_parts : (a : TextCounts) (t : List Terminal) (p : Place) → a.operators ≡ v.operators → a.two ≡ v.two → (q : List Terminal) × ArePrefix (function_pieces f) t q × ArePrefix (functions_pieces fs) q (End p ∷ []) →
      AreFunctionsRead n a t (f ∷ fs)
  by_parts a t p same version (q, one, rest) =
      let done = part.read 1 (new_function a) t q (omega (arith, deep)) (same, refl, version) one in
      let first = function_read a done.behind t q f done.is in
      let others = more.read done.behind q p done.alike.0 done.alike.2 rest in
      record {
        read = first.read ∷ others.read;
        same = ap (λ (x : Function). x ∷ map function_without_lines others.read) first.same ∙ ap (λ (l : List Function). function_without_lines f ∷ l) others.same;
        are = gr.another_function fits first.is others.are;
      }

functions_kept : (n : ℕ) (v : TextCounts) (s r : List Terminal) (fs : List Function) → v.deepest ≤ 64 → IsFunctions limits n v s r fs → AreKept n v s fs
functions_kept n v s r _ deep gr.program_end = none_kept n v s
functions_kept n v s r _ deep (gr.another_function {w = w} {m = m} {f = f} {fs = fs} fits h more) =
    let part = function_part h in
    let still = part.within deep in
    one_kept n v w s m f fs fits still part (functions_kept (suc n) w m r fs still more)

header_spells : Spells (codes "shim") Word
unfolding keyword_of
header_spells = (refl, refl)

two_spells : Spells (codes "2") (NumberKind (pos 2))
two_spells = (2, inl (refl, refl), refl)

-- no function begins as version 2 does
pub no_header : (n : ℕ) (v : TextCounts) (s r : List Terminal) (fs : List Function) → IsFunctions limits n v s r fs → begins_two s ≡ false
no_header n v _ r _ gr.program_end = refl
no_header n v _ r _ (gr.another_function fits (gr.function _ _ _) more) = refl

-- what derives a program begins as its version does
pub version_seen : (ts : List Terminal) (p : Program) → Derives limits ts p → ((begins_two ts ≡ true) × (p.version ≡ 2)) ⊎ ((begins_two ts ≡ false) × (p.version ≡ 1))
version_seen ts _ (gr.version_1 {fs = fs} h) = inr (no_header 0 nothing_read ts [] fs h, refl)
version_seen _ _ (gr.version_2 shim two_is h) = inl ((rw (shim, two_is) refl), refl)

no_header_shown : (place : Place) (end : Place) (fs : List Function) → begins_two (of_tokens (tokens_of place (functions_pieces fs)) (End end)) ≡ false
no_header_shown place end [] = refl
no_header_shown place end (f ∷ fs) = refl

-- the terminals of the canonical text
shown_terminals : Bool → Program → List Terminal
shown_terminals ver program = map (of_version ver) (of_tokens (tokens_of start (pieces program)) (End (place_after start (canonical program))))

is_shown : (ver : Bool) (program : Program) (fs : List Function) → AreTokens ver (pieces program) → begins_two (of_tokens (tokens_of start (pieces program)) (End (place_after start (canonical program)))) ≡ ver
    → Derives limits (shown_terminals ver program) (record { version = program.version; functions = fs }) → map function_without_lines fs ≡ map function_without_lines program.functions
    → IsTextOfSame program (canonical program)
unfolding shown_terminals
is_shown ver program fs are header derives same =
    let end = place_after start (canonical program) in
    let tokens = tokens_of start (pieces program) in (
      record { version = program.version; functions = fs },
      record {
        terminals = shown_terminals ver program;
        read = record { tokens = tokens; end = None; cut = pieces_are_cut ver start (pieces program) are; are = ap (λ b. map (of_version b) (of_tokens tokens (End end))) (sym header) };
        derives = derives;
      },
      ap (λ (l : List Function). let p : Program = record { version = program.version; functions = l } in p) (sym same),
    )

canonical_by : (ver : Bool) (ts : List Terminal) (program : Program) → begins_two ts ≡ ver → AreGood ver ts → Derives limits ts program → IsTextOfSame program (canonical program)
unfolding shown_terminals
canonical_by ver ts _ header good (gr.version_1 {fs = fs} h) =
    let program : Program = record { version = 1; functions = fs } in
    let kept = functions_kept 0 nothing_read ts [] fs (omega arith) h in
    let end = place_after start (canonical program) in
    let one : ver ≡ false = sym header ∙ no_header 0 nothing_read ts [] fs h in
    let are = subst (λ b. AreTokens b (functions_pieces fs)) one (kept.spelled ver good) in
    let read = kept.read nothing_read (map (of_version false) (of_tokens (tokens_of start (functions_pieces fs)) (End end))) end refl refl (pieces_are_prefix false start (functions_pieces fs) (End end) refl are) in
    is_shown false program read.read are (no_header_shown start end fs) (gr.version_1 read.are) read.same
canonical_by ver _ _ header good (gr.version_2 {x = x} {y = y} {s = s} {fs = fs} shim two_is h) =
    let program : Program = record { version = 2; functions = fs } in
    let kept = functions_kept 0 (in_version_2 nothing_read) s [] fs (omega arith) h in
    let end = place_after start (canonical program) in
    let one : ver ≡ true = sym header ∙ (rw (shim, two_is) refl) in
    let are = subst (λ b. AreTokens b (functions_pieces fs)) one (kept.spelled ver good.1.1.1) in
    let place = behind_piece (behind_piece (behind_piece start (name_piece (codes "shim"))) version_piece) (line_end_piece g.Semicolon) in
    let read = kept.read (in_version_2 nothing_read) (map (of_version true) (of_tokens (tokens_of place (functions_pieces fs)) (End end))) end refl refl (pieces_are_prefix true place (functions_pieces fs) (End end) refl are) in
    is_shown true program read.read (header_spells, omega arith, (λ p. refl), (two_spells, omega (arith, ints), (λ p. refl), (sign_spells g.Semicolon, tt, (λ p. refl), are))) refl (gr.version_2 refl refl read.are) read.same

-- the canonical text of a text's program is a text of the same program but for lines
pub canonical_is_text : (bytes : List ℕ) (program : Program) → IsText bytes program → IsTextOfSame program (canonical program)
canonical_is_text bytes program h =
    let cut = h.read in
    let raw = of_tokens cut.tokens (of_end (place_after start bytes) cut.end) in
    let ver = begins_two raw in
    let good : AreGood ver (in_version raw) = cut_is_good ver start bytes cut.tokens cut.end (place_after start bytes) cut.cut in
    canonical_by ver h.terminals program (ap begins_two cut.are ∙ header_seen ver raw) (subst (λ ts. AreGood ver ts) (sym cut.are) good) h.derives

-- the same of a text that is the canonical one
pub printed : (bytes : List ℕ) (program : Program) (text : List ℕ) → text ≡ canonical program → IsText bytes program → IsTextOfSame program text
printed bytes program text is h = let P : List ℕ → Type 0 = λ t. IsTextOfSame program t in subst P (sym is) (canonical_is_text bytes program h)

-- the text of two parts
pub text_of_both : (ps qs : List PrintedPiece) → pieces_text (ps ++ qs) ≡ pieces_text ps ++ pieces_text qs
text_of_both [] qs = refl
text_of_both (p ∷ ps) qs = ap (λ l. piece_text p ++ l) (text_of_both ps qs) ∙ sym (append_assoc (piece_text p) (pieces_text ps) (pieces_text qs))
