-- No source is longer than a source may be.
use Rattle.std.proofs.Common.{◌≡◌, ◌≤◌, ◌<◌, ◌+◌, ◌++◌, ◌^◌, ℕ, List, length, codes, arith}
use Rattle.std.specs.Prelude.{Err, IfOk, Ok, Result, decimal}
use Rattle.std.proofs.lemmas.Fmt.{length-decimal-le}
use Rattle.std.proofs.lemmas.Grind.{common_steps}
use Rattle.shim_generator.specs.declared.kind.Kind.{Kind}
use Rattle.shim_generator.specs.declared.kind.Kind.TheVariants.{Pipe, Tree, Storm}
use Rattle.shim_generator.specs.Sources.{generated}
use Rattle.shim_generator.proofs.Pieces.{pipe_pieces, storm_pieces, tree_pieces}

digits : (size : ℕ) → size < 2 ^ 64 → length (decimal size) ≤ 20
digits size fits = length-decimal-le 20 size (omega arith) (omega arith) fits

around : (a number b : List ℕ) → length number ≤ 20 → length (a ++ (number ++ b)) ≤ length a + 20 + length b
around a number b few = grind (arith, common_steps)

thrice : (a number b c d : List ℕ) (most : ℕ) → length number ≤ 20 → length a + length b + length c + length d + 60 ≤ most
    → length (a ++ (number ++ (b ++ (number ++ (c ++ (number ++ d)))))) ≤ most
thrice a number b c d most few fits =
    let last = around c number d few in
    let second = around b number (c ++ (number ++ d)) few in
    let first = around a number (b ++ (number ++ (c ++ (number ++ d)))) few in
    omega arith

once : (a number b : List ℕ) (most : ℕ) → length number ≤ 20 → length a + length b + 20 ≤ most → length (a ++ (number ++ b)) ≤ most
once a number b most few fits = let sum = around a number b few in omega arith

pub short : (kind : Kind) (size : ℕ) → size < 2 ^ 64 → length (generated kind size) ≤ 1048576
short Pipe size fits = rw (pipe_pieces size) (thrice
    (codes "void main(ostream &o) {\nint a; int b; int s;\n{ int k; while (k < ")
    (decimal size)
    (codes ") { next a = k; k = k + 1; } }\npar { int k; while (k < ")
    (codes ") { next a; next b = a * 3; k = k + 1; } }\npar { int k; while (k < ")
    (codes ") { next b; s = (s + b) % 1000000; k = k + 1; } }\nput o, s;\nput o, s >> 8;\n}\n")
    1048576 (digits size fits) (omega arith))
short Tree size fits = rw (tree_pieces size) (once
    (codes "void node(int n, int &r) {\nif (n < 2) { r = 1; } else {\nint a; int b;\nnode(n / 2, a); par node(n - n / 2, b);\nr = a + b;\n}\n}\nvoid main() { int r; node(")
    (decimal size) (codes ", r); next r; }\n") 1048576 (digits size fits) (omega arith))
short Storm size fits = rw (storm_pieces size) (once
    (codes "void main() {\nint c; int k;\nwhile (k < ")
    (decimal size)
    (codes ") {\ntry { { next c = k; throw T; } par { while (1) { next c; } } } catch (T) { k = k + 1; }\n}\n}\n")
    1048576 (digits size fits) (omega arith))

pub short_answer : {E : Type 0} (kind : Kind) (size : ℕ) (r : Result (List ℕ) E) → size < 2 ^ 64
    → IfOk r (λ text. text ≡ generated kind size) → IfOk r (λ text. length text ≤ 1048576)
short_answer kind size (Ok text) fits is = rw is (short kind size fits)
short_answer kind size (Err fault) fits is = tt
