-- The kinds of sources, by the words that name them.
use Rattle.std.specs.Prelude.{ℕ, List, Option, Some, None, if◌then◌else◌, bytes_eq, codes}
use Rattle.shim_generator.specs.declared.kind.Kind.{Kind}
use Rattle.shim_generator.specs.declared.kind.Kind.TheVariants.{Pipe, Tree, Storm}

-- the kind that a word names
unfoldable pub kind_named : List ℕ → Option Kind
kind_named word =
    if bytes_eq word (codes "pipe") then Some Pipe
    else (if bytes_eq word (codes "tree") then Some Tree
    else (if bytes_eq word (codes "storm") then Some Storm else None))
