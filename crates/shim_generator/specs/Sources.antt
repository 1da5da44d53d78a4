-- The texts of the sources that are made. A template is a source line by line, with the letter N where the size stands.
use Rattle.std.specs.Prelude.{ℕ, List, [], ◌∷◌, ◌++◌, ◌==◌, if◌then◌else◌, codes, decimal}
use Rattle.std.specs.List.{flat_map}
use Rattle.shim_generator.specs.declared.kind.Kind.{Kind}
use Rattle.shim_generator.specs.declared.kind.Kind.TheVariants.{Pipe, Tree, Storm}

-- one branch sends 0, 1, 2, .., the next one passes three times each of them on, and the last one adds these up
unfoldable pub pipe : List (List ℕ)
pipe =
    codes "void main(ostream &o) {"
    ∷ codes "int a; int b; int s;"
    ∷ codes "{ int k; while (k < N) { next a = k; k = k + 1; } }"
    ∷ codes "par { int k; while (k < N) { next a; next b = a * 3; k = k + 1; } }"
    ∷ codes "par { int k; while (k < N) { next b; s = (s + b) % 1000000; k = k + 1; } }"
    ∷ codes "put o, s;"
    ∷ codes "put o, s >> 8;"
    ∷ codes "}"
    ∷ []

-- a call of more than one leaf forks into two calls, of a half each
unfoldable pub tree : List (List ℕ)
tree =
    codes "void node(int n, int &r) {"
    ∷ codes "if (n < 2) { r = 1; } else {"
    ∷ codes "int a; int b;"
    ∷ codes "node(n / 2, a); par node(n - n / 2, b);"
    ∷ codes "r = a + b;"
    ∷ codes "}"
    ∷ codes "}"
    ∷ codes "void main() { int r; node(N, r); next r; }"
    ∷ []

-- in each turn the process forks, one branch throws after one value, and the other one, which would wait for ever, is poisoned
unfoldable pub storm : List (List ℕ)
storm =
    codes "void main() {"
    ∷ codes "int c; int k;"
    ∷ codes "while (k < N) {"
    ∷ codes "try { { next c = k; throw T; } par { while (1) { next c; } } } catch (T) { k = k + 1; }"
    ∷ codes "}"
    ∷ codes "}"
    ∷ []

-- the template of a kind
abbrev pub template : Kind → List (List ℕ)
template Pipe = pipe
template Tree = tree
template Storm = storm

-- lines as one text, in which each ends with a line feed
abbrev text_of : List (List ℕ) → List ℕ
text_of = flat_map (λ line. line ++ codes "\n")

-- a text with the size, in decimal, for each letter N (78)
abbrev pub sized : ℕ → List ℕ → List ℕ
sized size = flat_map (λ byte. if byte == 78 then decimal size else byte ∷ [])

-- the source of a kind and a size
abbrev pub generated : Kind → ℕ → List ℕ
generated kind size = sized size (text_of (template kind))
