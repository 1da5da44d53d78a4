-- What a read of a named file shows, and which names failed.
use Rattle.std.specs.Prelude.{◌≡◌, ◌<◌, ◌≤◌, ℕ, List, [], ◌∷◌, ◌++◌, length, Option, Some, None, Result, Ok, Err, IfSome, IsSomeAnd, IsSome, if◌then◌else◌, bytes_eq, ⊤}
use Rattle.shim_edge.specs.declared.files.Got.{Got}
use Rattle.shim_edge.specs.declared.files.Got.TheVariants.{Whole, Longer}
use Rattle.shim_edge.specs.declared.files.FileFault.{FileFault}
use Rattle.shim_edge.specs.declared.files.FileFault.TheVariants.{Failed, NoMemory}

-- the content of the first file of that name
abbrev pub file_of : List (List ℕ × List ℕ) → List ℕ → Option (List ℕ)
file_of [] name = None
file_of (file ∷ files) name = if bytes_eq file.0 name then Some file.1 else file_of files name

-- files that contracts don't know
abbrev pub no_files : Option (List (List ℕ × List ℕ))
no_files = None

-- the files are known, and one of them has that name
abbrev pub HasFile : Option (List (List ℕ × List ℕ)) → List ℕ → Type 0
HasFile held name = IsSomeAnd held (λ files. IsSome (file_of files name))

-- `Whole` has at most `most` bytes. Where the content is known, it is these bytes. At `Longer` a known content is longer than `most`.
abbrev pub ShowsContent : Option (List ℕ) → ℕ → Got → Type 0
ShowsContent content most (Whole bytes) = (length bytes ≤ most) × IfSome content (λ known. known ≡ bytes)
ShowsContent content most Longer = IfSome content (λ known. most < length known)

-- `Whole` has at most `most` bytes. Where the files are known, these bytes are the content of the first file of that name. At `Longer`, where the files are known, that content is longer than `most`. A fault claims nothing.
abbrev pub ShowsFile : Option (List (List ℕ × List ℕ)) → List ℕ → ℕ → Result Got FileFault → Type 0
ShowsFile held name most (Ok (Whole bytes)) = (length bytes ≤ most) × IfSome held (λ files. file_of files name ≡ Some bytes)
ShowsFile held name most (Ok Longer) = IfSome held (λ files. IsSomeAnd (file_of files name) (λ content. most < length content))
ShowsFile held name most (Err fault) = ⊤

-- A read that failed added its own name at the end of the failed ones. No other changed them.
abbrev pub AddsNameIfFailed : List (List ℕ) → List ℕ → List (List ℕ) → Result Got FileFault → Type 0
AddsNameIfFailed before name now (Ok got) = now ≡ before
AddsNameIfFailed before name now (Err Failed) = now ≡ before ++ name ∷ []
AddsNameIfFailed before name now (Err NoMemory) = now ≡ before
