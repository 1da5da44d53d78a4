-- A text has no more terminals than bytes, but for its end, and its program is no larger.
use Rattle.std.proofs.Common.{ℕ, suc, ◌≡◌, ◌≤◌, List, [], ◌∷◌, ◌++◌, Option, length, ap, ◌∙◌, arith}
use Rattle.std.proofs.lemmas.List.{length-append, length-map}
use Rattle.shim_base.specs.Tokens.{Token, Place, Fault, Skips, spacing, line_comment, block_comment, Cuts, ended, passed, token, faulty, block_closer}
use Rattle.shim_base.proofs.Cutting.{first_takes}
use Rattle.shim_syntax.specs.declared.tree.Program.{Program}
use Rattle.shim_syntax.specs.Terminals.{Terminal, of_tokens, of_version, IsRead}
use Rattle.shim_syntax.specs.Text.{IsText}
use Rattle.shim_syntax.specs.Sizes.{functions_size}
use Rattle.shim_syntax.specs.ShortText.{HasText}
use Rattle.shim_syntax.proofs.TextSizes.{program_read}

behind_passed : (bytes over rest : List ℕ) → Skips bytes over rest → length rest ≤ length bytes
behind_passed _ _ _ (spacing b rest is) = omega arith
behind_passed _ _ _ (line_comment inside rest no_feed ends) = omega (arith, length-append inside rest)
behind_passed _ _ _ (block_comment inside rest first) = omega (arith, length-append inside (block_closer ++ rest), length-append block_closer rest)

tokens_cut : (place : Place) (bytes : List ℕ) (tokens : List Token) (end : Option Fault) → Cuts place bytes tokens end → length tokens ≤ length bytes
tokens_cut _ _ _ _ (ended place) = omega arith
tokens_cut _ _ _ _ (passed place bytes over rest tokens end p more) = omega (arith, behind_passed bytes over rest p, tokens_cut _ rest tokens end more)
tokens_cut _ _ _ _ (token place bytes text rest kind tokens end no_comment is within more) =
    let takes = first_takes bytes text rest kind is in
    omega (arith, takes.0, takes.1, tokens_cut _ rest tokens end more)
tokens_cut _ _ _ _ (faulty place bytes kind no_pass is) = omega arith

with_last : (tokens : List Token) (last : Terminal) → length (of_tokens tokens last) ≡ suc (length tokens)
with_last [] last = omega arith
with_last (t ∷ tokens) last = omega (arith, with_last tokens last)

terminals_read : (bytes : List ℕ) (ts : List Terminal) → IsRead bytes ts → length ts ≤ suc (length bytes)
terminals_read bytes ts r =
    let long : length ts ≡ suc (length r.tokens) = ap (λ (l : List Terminal). length l) r.are ∙ length-map (of_tokens r.tokens _) (of_version _) ∙ with_last r.tokens _ in
    omega (arith, long, tokens_cut _ bytes r.tokens r.end r.cut)

pub text_size : (bytes : List ℕ) (p : Program) → IsText bytes p → functions_size p.functions ≤ suc (length bytes)
text_size bytes p t = omega (arith, program_read t.derives, terminals_read bytes t.terminals t.read)

pub size_is_bounded : (p : Program) → HasText p → functions_size p.functions ≤ 1048577
size_is_bounded p h = omega (arith, text_size h.bytes p h.text, h.short)
