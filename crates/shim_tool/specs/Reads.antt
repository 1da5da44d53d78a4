-- What reads of files give that are read one after the other, up to the first that can't be had.
use Rattle.std.specs.Prelude.{ℕ, ◌≡◌, ◌<◌, ◌≤◌, ◌⊎◌, IsTrue, List, [], ◌∷◌, ◌++◌, length, Option, Some, None, IfSome, IsSomeAnd}
use Rattle.shim_edge.specs.Files.{file_of, HasFile}
use Rattle.shim_tool.specs.Moments.{FilesAt, KeepsFiles}
use Rattle.shim_tool.specs.Modes.{FileView}

-- names and contents of files, where they are known
abbrev pub KnownFiles : Type 0
KnownFiles = Option (List (List ℕ × List ℕ))

-- what the read of one file gave
pub data FileResult : Type 0 where
  unread : FileResult
  longer : FileResult
  whole : List ℕ → FileResult

-- One read of this name failed: the name was added to the failed ones, and the files didn't hold it if they are sound.
abbrev pub ReadFailed : List ℕ → FilesAt → FilesAt → Type 0
ReadFailed name before now = (now.failed ≡ before.failed ++ name ∷ []) × (IsTrue before.sound → HasFile before.held name → ⊥)

-- where files are known, one of them has this name, and it has more bytes than the limit
abbrev pub IsTooLong : FileView → KnownFiles → Type 0
IsTooLong r held = IfSome held (λ files. IsSomeAnd (file_of files r.name) (λ content. r.limit < length content))

-- the bytes are those of the file, where it is known, and no more than it may have
abbrev pub IsContent : FileView → KnownFiles → List ℕ → Type 0
IsContent r held bytes = (length bytes ≤ r.limit) × IfSome held (λ files. file_of files r.name ≡ Some bytes)

-- one read gave this
abbrev pub ReadsOne : FileView → FilesAt → FilesAt → FileResult → Type 0
ReadsOne r before now unread = ReadFailed r.name before now
ReadsOne r before now longer = (now.failed ≡ before.failed) × IsTooLong r before.held
ReadsOne r before now (whole bytes) = (now.failed ≡ before.failed) × IsContent r before.held bytes

-- what the reads of several files gave: the contents of all; or one couldn't be read, or has more bytes than it may have
pub data FilesResult : Type 0 where
  all : List (List ℕ) → FilesResult
  failed_file : FileView → FilesResult
  longer_file : FileView → FilesResult

-- the content before those that the later reads gave, or the file at which these ended
abbrev pub then_read : List ℕ → FilesResult → FilesResult
then_read content (all rest) = all (content ∷ rest)
then_read content (failed_file r) = failed_file r
then_read content (longer_file r) = longer_file r

-- What reads give after the read of the file r, by what that read gave. Where it failed or the file was too long, the reads end. Else the files after r are read, by `on`.
abbrev pub Follows : FileView → (FilesAt → FilesAt → FilesResult → Type 0) → FilesAt → FilesAt → FilesResult → FileResult → Type 0
Follows r on between now files_read unread = (now ≡ between) × (files_read ≡ failed_file r)
Follows r on between now files_read longer = (now ≡ between) × (files_read ≡ longer_file r)
Follows r on between now files_read (whole bytes) = (rest : FilesResult) × on between now rest × (files_read ≡ then_read bytes rest)

-- the reads, one after the other, gave this
abbrev pub ReadsAll : List FileView → FilesAt → FilesAt → FilesResult → Type 0
ReadsAll [] before now files_read = (now ≡ before) × (files_read ≡ all [])
ReadsAll (r ∷ rs) before now files_read = (between : FilesAt) × (one : FileResult) × KeepsFiles before between × ReadsOne r before between one
    × Follows r (ReadsAll rs) between now files_read one

-- the files are known, and hold these bytes under the name
pub record Holds (held : KnownFiles) (name bytes : List ℕ) : Type 0 where
  pub files : List (List ℕ × List ℕ)
  pub known : held ≡ Some files
  pub found : file_of files name ≡ Some bytes

-- the files are known, and none of them has the name
pub record IsMissing (held : KnownFiles) (name : List ℕ) : Type 0 where
  pub files : List (List ℕ × List ℕ)
  pub known : held ≡ Some files
  pub absent : file_of files name ≡ None

-- each of these files is known, and holds the content at its place in `contents`, which is within its limit
abbrev pub HoldsAll : KnownFiles → List FileView → List (List ℕ) → Type 0
HoldsAll held [] [] = Unit {0}
HoldsAll held [] (content ∷ contents) = ⊥
HoldsAll held (r ∷ rs) [] = ⊥
HoldsAll held (r ∷ rs) (content ∷ contents) = Holds held r.name content × (length content ≤ r.limit) × HoldsAll held rs contents

-- Each content is within the limit of its file. Where the files are known, it is the content of its file.
abbrev pub AreContents : KnownFiles → List FileView → List (List ℕ) → Type 0
AreContents held [] [] = Unit {0}
AreContents held [] (content ∷ contents) = ⊥
AreContents held (r ∷ rs) [] = ⊥
AreContents held (r ∷ rs) (content ∷ contents) = IsContent r held content × AreContents held rs contents

-- r is one of the files, and each file before it has content within its limit, as far as the files are known
abbrev pub ComesToRead : KnownFiles → List FileView → FileView → Type 0
ComesToRead held [] r = ⊥
ComesToRead held (x ∷ xs) r = (r ≡ x) ⊎ ((content : List ℕ) × IsContent x held content × ComesToRead held xs r)

-- r is one of the files, and each file before it is known, with content within its limit
abbrev pub HoldsUpTo : KnownFiles → List FileView → FileView → Type 0
HoldsUpTo held [] r = ⊥
HoldsUpTo held (x ∷ xs) r = (r ≡ x) ⊎ ((content : List ℕ) × Holds held x.name content × (length content ≤ x.limit) × HoldsUpTo held xs r)

-- one of these files couldn't be read, after those before it were
abbrev pub OneReadFailed : List FileView → FilesAt → FilesAt → Type 0
OneReadFailed rs before now = (r : FileView) × ComesToRead before.held rs r × ReadFailed r.name before now

abbrev IsAmong : FileView → List FileView → Type 0
IsAmong r [] = ⊥
IsAmong r (x ∷ xs) = (r ≡ x) ⊎ IsAmong r xs

-- the failed names are those that they were, or the name of one of these files was added
abbrev pub GrewByOneOf : List FileView → FilesAt → FilesAt → Type 0
GrewByOneOf rs before now = (now.failed ≡ before.failed) ⊎ ((r : FileView) × IsAmong r rs × (now.failed ≡ before.failed ++ r.name ∷ []))
