-- Files that are listed, of which some were read.
use Rattle.std.proofs.Common.{ℕ, ◌≡◌, ◌≤◌, ◌<◌, ◌+◌, ◌++◌, List, [], ◌∷◌, drop, length, map, slice_index_or, refl, sym, ◌∙◌, subst, ap}
use Rattle.std.proofs.lemmas.List.{drop_all, drop_more}
use Rattle.shim_tool.specs.declared.files.FileToRead.{FileToRead}
use Rattle.shim_tool.specs.declared.files.Found.{Found}
use Rattle.shim_tool.specs.declared.files.Found.TheVariants.{Unread, Longer, Whole}
use Rattle.shim_tool.specs.Moments.{FilesAt, KeepsFiles}
use Rattle.shim_tool.specs.Modes.{FileView}
use Rattle.shim_tool.specs.Reads.{ReadsAll, FilesResult, ReadsOne, all, longer, longer_file, then_read, unread, failed_file, whole}
use Rattle.shim_tool.specs.Views.{found_view, reading_view}

-- what was seen behind these contents
abbrev pub behind : List (List ℕ) → FilesResult → FilesResult
behind [] files_read = files_read
behind (c ∷ cs) files_read = then_read c (behind cs files_read)

one_more : (cs : List (List ℕ)) (bytes : List ℕ) (files_read : FilesResult) → behind (cs ++ bytes ∷ []) files_read ≡ behind cs (then_read bytes files_read)
one_more [] bytes files_read = refl
one_more (c ∷ cs) bytes files_read = ap (then_read c) (one_more cs bytes files_read)

nothing_left : (cs : List (List ℕ)) → behind cs (all []) ≡ all cs
nothing_left [] = refl
nothing_left (c ∷ cs) = ap (then_read c) (nothing_left cs)

then_unread : (cs : List (List ℕ)) (r : FileView) → behind cs (failed_file r) ≡ failed_file r
then_unread [] r = refl
then_unread (c ∷ cs) r = ap (then_read c) (then_unread cs r)

then_longer : (cs : List (List ℕ)) (r : FileView) → behind cs (longer_file r) ≡ longer_file r
then_longer [] r = refl
then_longer (c ∷ cs) r = ap (then_read c) (then_longer cs r)

-- of the files the first gave these contents, and whatever is seen of the others is seen behind them
abbrev pub ReadsOn : List FileToRead → FilesAt → List (List ℕ) → List FileToRead → FilesAt → Type 0
ReadsOn files before contents left between = (now : FilesAt) (files_read : FilesResult) → ReadsAll (map reading_view left) between now files_read → ReadsAll (map reading_view files) before now (behind contents files_read)

module _ (files : List FileToRead) (before between later : FilesAt) (cs : List (List ℕ)) where
  -- the file at a place is looked at
  module _ (at : ℕ) (d : FileToRead) (below : at < length files) (on : ReadsOn files before cs (drop at files) between) (keeps : KeepsFiles between later) where
    next : ReadsOn files before cs (slice_index_or files at d ∷ drop (at + 1) files) between
    next = subst (λ (left : List FileToRead). ReadsOn files before cs left between) (drop_more files at d below) on

    -- it was seen so
    abbrev IsFound : Found → Type 0
    IsFound found = ReadsOne (reading_view (slice_index_or files at d)) between later (found_view found)

    pub one_read : (found : Found) (bytes : List ℕ) (more : List (List ℕ)) → found ≡ Whole bytes → IsFound found → more ≡ cs ++ bytes ∷ [] → ReadsOn files before more (drop (at + 1) files) later
    one_read found bytes more is reads pushed now files_read reads_all =
        let reads_one : IsFound (Whole bytes) = subst IsFound is reads in
        subst (λ (s : FilesResult). ReadsAll (map reading_view files) before now s) (sym (one_more cs bytes files_read) ∙ ap (λ (ds : List (List ℕ)). behind ds files_read) (sym pushed))
        (next now (then_read bytes files_read) (later, whole bytes, keeps, reads_one, (files_read, reads_all, refl)))

    pub one_unread : (found : Found) → found ≡ Unread → IsFound found → ReadsAll (map reading_view files) before later (failed_file (reading_view (slice_index_or files at d)))
    one_unread found is reads =
        let r = reading_view (slice_index_or files at d) in
        let reads_one : IsFound Unread = subst IsFound is reads in
        subst (λ (s : FilesResult). ReadsAll (map reading_view files) before later s) (then_unread cs r) (next later (failed_file r) (later, unread, keeps, reads_one, (refl, refl)))

    pub one_longer : (found : Found) → found ≡ Longer → IsFound found → ReadsAll (map reading_view files) before later (longer_file (reading_view (slice_index_or files at d)))
    one_longer found is reads =
        let r = reading_view (slice_index_or files at d) in
        let reads_one : IsFound Longer = subst IsFound is reads in
        subst (λ (s : FilesResult). ReadsAll (map reading_view files) before later s) (then_longer cs r) (next later (longer_file r) (later, longer, keeps, reads_one, (refl, refl)))

-- all were read
pub all_read : (files : List FileToRead) (before between : FilesAt) (cs : List (List ℕ)) (at : ℕ) → length files ≤ at → ReadsOn files before cs (drop at files) between
    → ReadsAll (map reading_view files) before between (all cs)
all_read files before between cs at past on =
    let end : ReadsOn files before cs [] between = subst (λ (left : List FileToRead). ReadsOn files before cs left between) (drop_all at files past) on in
    subst (λ (s : FilesResult). ReadsAll (map reading_view files) before between s) (nothing_left cs) (end between (all []) (refl, refl))
