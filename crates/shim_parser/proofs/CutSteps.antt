-- The loop that cuts a text into its terminals: what holds of those that were read and of the rest.
use Rattle.std.proofs.Common.{ℕ, ◌≤◌, ◌≡◌, List, [], ◌∷◌, ◌++◌, length, drop, Option, Some, None, Result, Ok, Err, refl, sym, ◌∙◌, ap, subst, append_assoc}
use Rattle.std.proofs.lemmas.List.{append-nil}
use Rattle.std.specs.Prelude.{map}
use Rattle.shim_base.specs.Tokens.{Token, Fault, Cuts, start, place_after}
use Rattle.shim_lexer.specs.declared.LexFault.{LexFault}
use Rattle.shim_lexer.specs.declared.Token.{Token as Given}
use Rattle.shim_lexer.specs.Lexing.{Lexing, token_of, fault_of, place_behind, Finds, AnswersNext}
use Rattle.shim_parser.specs.declared.token.Token.{Token as Read}
use Rattle.shim_parser.specs.Cutting.{IsCut}
use Rattle.shim_parser.specs.TokenView.{token_view, token_views}
use Rattle.shim_syntax.specs.Terminals.{Terminal, End, Broken, of_token, of_tokens, of_end}

-- the text up to where the lexer stands is cut into the tokens, which are these terminals: each cutting of the rest is one of the text
pub record IsCutTo (text : List ℕ) (terminals : List Terminal) (lexing : Lexing) : Type 0 where
  pub text_is : lexing.text ≡ text
  pub no_fault : lexing.fault ≡ None
  pub within : lexing.place.at ≤ length text
  pub tokens : List Token
  pub are : terminals ≡ map of_token tokens
  pub joins : (more : List Token) (end : Option Fault) → Cuts lexing.place (drop lexing.place.at text) more end → Cuts start text (tokens ++ more) end

-- what the lexer found, where it has no fault
pub record HasFound (text : List ℕ) (old new : Lexing) (result : Result (Option Given) LexFault) : Type 0 where
  pub new_is : new ≡ place_behind old result
  pub found : Finds text old.place result

-- a lexer without a fault finds something
pub found_by : (text : List ℕ) (ts : List Terminal) (old new : Lexing) (result : Result (Option Given) LexFault) → IsCutTo text ts old → AnswersNext old.fault old new result → HasFound text old new result
found_by text ts old new result h a =
    let P : Option Fault → Type 0 = λ f. AnswersNext f old new result in
    let b : AnswersNext None old new result = subst P h.no_fault a in
    let Q : List ℕ → Type 0 = λ t. Finds t old.place result in
    record { new_is = b.0; found = subst Q h.text_is b.1 }

of_tokens_is : (tokens : List Token) (last : Terminal) → of_tokens tokens last ≡ map of_token tokens ++ last ∷ []
of_tokens_is [] last = refl
of_tokens_is (t ∷ tokens) last = ap (λ u. of_token t ∷ u) (of_tokens_is tokens last)

map_append : (xs ys : List Token) → map of_token (xs ++ ys) ≡ map of_token xs ++ map of_token ys
map_append [] ys = refl
map_append (x ∷ xs) ys = ap (λ u. of_token x ∷ u) (map_append xs ys)

ended : (text : List ℕ) (ts : List Terminal) (lexing : Lexing) (end : Option Fault) (c : IsCutTo text ts lexing) → Cuts start text (c.tokens ++ []) end → IsCut text (ts ++ of_end (place_after start text) end ∷ [])
ended text ts lexing end c d = record {
  tokens = c.tokens;
  end = end;
  cut = subst (λ l. Cuts start text l end) (append-nil c.tokens) d;
  are = ap (λ u. u ++ of_end (place_after start text) end ∷ []) c.are ∙ sym (of_tokens_is c.tokens (of_end (place_after start text) end));
}

-- where only spacing and comments are left, the end follows
pub cut_whole : (text : List ℕ) (ts : List Terminal) (old new : Lexing) → IsCutTo text ts old → AnswersNext old.fault old new (Ok None) → IsCut text (ts ++ End (place_after start text) ∷ [])
cut_whole text ts old new h a = ended text ts old None h (h.joins [] None (found_by text ts old new (Ok None) h a).found)

-- where a fault stands, it ends the terminals
pub cut_broken : (text : List ℕ) (ts : List Terminal) (old new : Lexing) (f : LexFault) → IsCutTo text ts old → AnswersNext old.fault old new (Err f)
    → IsCut text (ts ++ Broken f.kind (record { at = f.at; line = f.line }) ∷ [])
cut_broken text ts old new f h a = ended text ts old (Some (fault_of f)) h (h.joins [] (Some (fault_of f)) (found_by text ts old new (Err f) h a).found)

pub cut_more : (text : List ℕ) (ts us : List Terminal) (old new : Lexing) (t : Given) → IsCutTo text ts old → AnswersNext old.fault old new (Ok (Some t)) → us ≡ ts ++ of_token (token_of text t) ∷ [] → IsCutTo text us new
cut_more text ts us old new t h a e =
    let w = found_by text ts old new (Ok (Some t)) h a in
    rw w.new_is (record {
      text_is = h.text_is;
      no_fault = h.no_fault;
      within = w.found.within;
      tokens = h.tokens ++ token_of text t ∷ [];
      are = e ∙ ap (λ u. u ++ of_token (token_of text t) ∷ []) h.are ∙ sym (map_append h.tokens (token_of text t ∷ []));
      joins = λ more end d. rw append_assoc (h.joins (token_of text t ∷ more) end (w.found.cuts more end d));
    })

-- a token that is added at the end
pub views_push : (ts us : List Read) (t : Read) → us ≡ ts ++ t ∷ [] → token_views us ≡ token_views ts ++ token_view t ∷ []
views_push ts us t e = ap token_views e ∙ push ts t
  where
    push : (ts : List Read) (t : Read) → token_views (ts ++ t ∷ []) ≡ token_views ts ++ token_view t ∷ []
    push [] t = refl
    push (u ∷ ts) t = ap (λ v. token_view u ∷ v) (push ts t)
