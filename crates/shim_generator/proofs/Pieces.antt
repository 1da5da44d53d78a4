-- Each source as the pieces of text between the places of its size.
use Rattle.std.proofs.Common.{◌≡◌, ◌++◌, ℕ, refl, codes}
use Rattle.std.specs.Prelude.{decimal}
use Rattle.shim_generator.specs.declared.kind.Kind.TheVariants.{Pipe, Tree, Storm}
use Rattle.shim_generator.specs.Sources.{generated, pipe, storm, tree}

pub pipe_pieces : (size : ℕ) → generated Pipe size ≡
    codes "void main(ostream &o) {\nint a; int b; int s;\n{ int k; while (k < " ++ (decimal size
    ++ (codes ") { next a = k; k = k + 1; } }\npar { int k; while (k < " ++ (decimal size
    ++ (codes ") { next a; next b = a * 3; k = k + 1; } }\npar { int k; while (k < " ++ (decimal size
    ++ codes ") { next b; s = (s + b) % 1000000; k = k + 1; } }\nput o, s;\nput o, s >> 8;\n}\n")))))
unfolding pipe
pipe_pieces size = refl

pub tree_pieces : (size : ℕ) → generated Tree size ≡
    codes "void node(int n, int &r) {\nif (n < 2) { r = 1; } else {\nint a; int b;\nnode(n / 2, a); par node(n - n / 2, b);\nr = a + b;\n}\n}\nvoid main() { int r; node("
    ++ (decimal size ++ codes ", r); next r; }\n")
unfolding tree
tree_pieces size = refl

pub storm_pieces : (size : ℕ) → generated Storm size ≡
    codes "void main() {\nint c; int k;\nwhile (k < " ++ (decimal size
    ++ codes ") {\ntry { { next c = k; throw T; } par { while (1) { next c; } } } catch (T) { k = k + 1; }\n}\n}\n")
unfolding storm
storm_pieces size = refl
