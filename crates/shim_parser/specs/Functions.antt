-- What the functions for functions read, within the limits.
use Rattle.std.specs.Prelude.{ℕ, ◌≡◌, List, [], ◌∷◌, Bool, true, false}
use Rattle.shim_base.specs.declared.token.Keyword.TheVariants as k
use Rattle.shim_base.specs.declared.token.Keyword.TheVariants.{Void}
use Rattle.shim_base.specs.declared.token.Sign.TheVariants.{Amp, Comma}
use Rattle.shim_base.specs.Tokens.{Place}
use Rattle.shim_syntax.specs.declared.limits.Many.TheVariants.{Parameters, Throws}
use Rattle.shim_syntax.specs.declared.tree.Param.{Param}
use Rattle.shim_syntax.specs.declared.tree.Function.{Function}
use Rattle.shim_syntax.specs.Terminals.{Terminal, Name, Sort, Key, Sign, End}
use Rattle.shim_syntax.specs.Limits.{Count, limits, is_within}
use Rattle.shim_syntax.specs.Grammar.{TextCounts, new_function, IsParam, IsParams, IsThrows, IsFunction, IsFunctions}

-- whether the terminal is the sign `&`
abbrev pub is_ampersand : Terminal → Bool
is_ampersand (Sign Amp p) = true
is_ampersand _ = false

abbrev pub is_comma : Terminal → Bool
is_comma (Sign Comma p) = true
is_comma _ = false

-- whether a parameter begins with the terminal
abbrev pub is_sort : Terminal → Bool
is_sort (Sort sort p) = true
is_sort _ = false

abbrev pub is_void : Terminal → Bool
is_void (Key Void p) = true
is_void _ = false

abbrev pub is_throws : Terminal → Bool
is_throws (Key k.Throws p) = true
is_throws _ = false

abbrev pub is_end : Terminal → Bool
is_end (End p) = true
is_end _ = false

-- the parameter of that number, which is within the limit on parameters
abbrev pub IsParameter : ℕ → TextCounts → TextCounts → List Terminal → List Terminal → Param → Type 0
IsParameter n v w s r x = (is_within (Count Parameters) n ≡ true) × IsParam s r x × (v ≡ w)

-- the parameters with the right parenthesis, which change no count
abbrev pub IsParameters : TextCounts → TextCounts → List Terminal → List Terminal → List Param → Type 0
IsParameters v w s r xs = IsParams limits s r xs × (v ≡ w)

-- the exception of that number in a `throws`, which is within the limit on these and changes no count
abbrev pub IsThrown : ℕ → TextCounts → TextCounts → List Terminal → List Terminal → List ℕ → Type 0
IsThrown n v w s r x = (p : Place) × (s ≡ Name x p ∷ r) × (is_within (Count Throws) n ≡ true) × (v ≡ w)

-- what is between the parameters and the body, with the body's left brace; it changes no count
abbrev pub IsThrowsHere : TextCounts → TextCounts → List Terminal → List Terminal → List (List ℕ) → Type 0
IsThrowsHere v w s r xs = IsThrows limits s r xs × (v ≡ w)

-- the rest of a function after its `void`, which stands on that line; none of its declarations is counted before
abbrev pub IsFunctionAfter : ℕ → TextCounts → TextCounts → List Terminal → List Terminal → Function → Type 0
IsFunctionAfter line v w s r f = (u : TextCounts) (at : ℕ) → v ≡ new_function u → IsFunction limits u w (Key Void (record { at = at; line = line }) ∷ s) r f

-- all of a program's functions, before the end of the text, which is left
abbrev pub AreAll : TextCounts → TextCounts → List Terminal → List Terminal → List Function → Type 0
AreAll v w s r fs = (p : Place) × (r ≡ End p ∷ []) × IsFunctions limits 0 v s [] fs
