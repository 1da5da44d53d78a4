-- What the reads of files gave, and what files that are known hold.
use Rattle.std.proofs.Common.{ℕ, ◌≡◌, ◌<◌, ◌≤◌, ◌++◌, List, [], ◌∷◌, length, Option, Some, None, IfSome, IsSomeAnd, IsSome, IsTrue, inl, inr, refl, sym, ◌∙◌, subst, ap, arith}
use Rattle.shim_edge.specs.Files.{file_of, HasFile}
use Rattle.shim_tool.specs.Moments.{FilesAt, KeepsFiles}
use Rattle.shim_tool.specs.Modes.{FileView}
use Rattle.shim_tool.specs.Reads.{AreContents, ComesToRead, GrewByOneOf, Holds, HoldsAll, HoldsUpTo, IsContent, IsTooLong, ReadsAll, OneReadFailed, ReadFailed, FilesResult, IsMissing, all, longer_file, then_read, failed_file, longer, unread, whole, KnownFiles}

-- the bytes that were read are those that the files hold
held_bytes : (held : KnownFiles) (r : FileView) (bytes content : List ℕ) → Holds held r.name content → IsContent r held bytes → bytes ≡ content
held_bytes held r bytes content h is = agree held h.known is.1 where
  agree : (o : KnownFiles) → o ≡ Some h.files → IfSome o (λ files. file_of files r.name ≡ Some bytes) → bytes ≡ content
  agree None e c = absurd (cc)
  agree (Some files) e c = let f : file_of files r.name ≡ Some content = ap (λ (l : List (List ℕ × List ℕ)). file_of l r.name) (let g : files ≡ h.files = cc in g) ∙ h.found in cc

-- a file that is known and too long has more bytes than it may have
held_too_long : (held : KnownFiles) (r : FileView) (content : List ℕ) → Holds held r.name content → IsTooLong r held → r.limit < length content
held_too_long held r content h long = agree held h.known long where
  agree : (o : KnownFiles) → o ≡ Some h.files → IfSome o (λ files. IsSomeAnd (file_of files r.name) (λ bytes. r.limit < length bytes)) → r.limit < length content
  agree None e c = absurd (cc)
  agree (Some files) e c =
      let f : file_of files r.name ≡ Some content = ap (λ (l : List (List ℕ × List ℕ)). file_of l r.name) (let g : files ≡ h.files = cc in g) ∙ h.found in
      let P : Option (List ℕ) → Type 0 = λ o. IsSomeAnd o (λ bytes. r.limit < length bytes) in subst P f c

is_held : (held : KnownFiles) (name content : List ℕ) → Holds held name content → HasFile held name
is_held held name content h = agree held h.known where
  agree : (o : KnownFiles) → o ≡ Some h.files → HasFile o name
  agree None e = absurd (cc)
  agree (Some files) e =
      let f : file_of files name ≡ Some content = ap (λ (l : List (List ℕ × List ℕ)). file_of l name) (let g : files ≡ h.files = cc in g) ∙ h.found in
      let P : Option (List ℕ) → Type 0 = λ o. IsSome o in subst P (sym f) refl

not_too_long : (held : KnownFiles) (r : FileView) (content : List ℕ) → Holds held r.name content → length content ≤ r.limit → IsTooLong r held → ⊥
not_too_long held r content h within long = let over : r.limit < length content = held_too_long held r content h long in omega (arith, within, over)

-- a read that failed after others had been done failed
failed_later : (name : List ℕ) (before between now : FilesAt) → KeepsFiles before between → between.failed ≡ before.failed → ReadFailed name between now → ReadFailed name before now
failed_later name before between now keeps same (grew, unheld) = (
  grew ∙ ap (λ (l : List (List ℕ)). l ++ name ∷ []) same,
  λ sound held. unheld (subst IsTrue (sym keeps.sound) sound) (subst (λ (o : KnownFiles). HasFile o name) (sym keeps.held) held),
)

-- What reads came to, in one go: all files were read; or one of them failed, or is too long, with those before it read.
abbrev pub ReadsGave : List FileView → FilesAt → FilesAt → FilesResult → Type 0
ReadsGave rs before now (all contents) = AreContents before.held rs contents × (now.failed ≡ before.failed)
ReadsGave rs before now (failed_file r) = ComesToRead before.held rs r × ReadFailed r.name before now
ReadsGave rs before now (longer_file r) = ComesToRead before.held rs r × (now.failed ≡ before.failed) × IsTooLong r before.held

gave_later : (r : FileView) (rs : List FileView) (before between now : FilesAt) (bytes : List ℕ) (rest : FilesResult) → KeepsFiles before between → between.failed ≡ before.failed → IsContent r before.held bytes
    → ReadsGave rs between now rest → ReadsGave (r ∷ rs) before now (then_read bytes rest)
gave_later r rs before between now bytes (all contents) keeps same is (are, later) = ((is, subst (λ (o : KnownFiles). AreContents o rs contents) keeps.held are), later ∙ same)
gave_later r rs before between now bytes (failed_file x) keeps same is (comes, read) =
    (inr (bytes, is, subst (λ (o : KnownFiles). ComesToRead o rs x) keeps.held comes), failed_later x.name before between now keeps same read)
gave_later r rs before between now bytes (longer_file x) keeps same is (comes, later, long) =
    (inr (bytes, is, subst (λ (o : KnownFiles). ComesToRead o rs x) keeps.held comes), later ∙ same, subst (λ (o : KnownFiles). IsTooLong x o) keeps.held long)

pub reads_gave : (rs : List FileView) (before now : FilesAt) (files_read : FilesResult) → ReadsAll rs before now files_read → ReadsGave rs before now files_read
reads_gave [] before now files_read (is, none) = subst (λ (s : FilesResult). ReadsGave [] before now s) (sym none) (tt, ap (λ (f : FilesAt). f.failed) is)
reads_gave (r ∷ rs) before now files_read (between, unread, keeps, reads_one, on) =
    subst (λ (s : FilesResult). ReadsGave (r ∷ rs) before now s) (sym on.1) (inl refl, subst (λ (f : FilesAt). ReadFailed r.name before f) (sym on.0) reads_one)
reads_gave (r ∷ rs) before now files_read (between, longer, keeps, reads_one, on) =
    subst (λ (s : FilesResult). ReadsGave (r ∷ rs) before now s) (sym on.1) (inl refl, ap (λ (f : FilesAt). f.failed) on.0 ∙ reads_one.0, reads_one.1)
reads_gave (r ∷ rs) before now files_read (between, whole b, keeps, reads_one, on) =
    subst (λ (s : FilesResult). ReadsGave (r ∷ rs) before now s) (sym on.2) (gave_later r rs before between now b on.0 keeps reads_one.0 reads_one.1 (reads_gave rs between now on.0 on.1))

-- contents that were read are those that the files hold
pub same_contents : (held : KnownFiles) (rs : List FileView) (read contents : List (List ℕ)) → AreContents held rs read → HoldsAll held rs contents → read ≡ contents
same_contents held [] [] [] are h = refl
same_contents held [] [] (c ∷ cs) are h = absurd h
same_contents held [] (b ∷ bs) contents are h = absurd are
same_contents held (r ∷ rs) [] contents are h = absurd are
same_contents held (r ∷ rs) (b ∷ bs) [] are h = absurd h
same_contents held (r ∷ rs) (b ∷ bs) (c ∷ cs) (is, are) (h, within, hs) =
    ap (λ (x : List ℕ). x ∷ bs) (held_bytes held r b c h is) ∙ ap (λ (xs : List (List ℕ)). c ∷ xs) (same_contents held rs bs cs are hs)

-- none of the files that are held is too long
pub none_too_long : (held : KnownFiles) (rs : List FileView) (contents : List (List ℕ)) (r : FileView) → HoldsAll held rs contents → ComesToRead held rs r → IsTooLong r held → ⊥
none_too_long held [] contents r h comes long = comes
none_too_long held (x ∷ xs) [] r h comes long = h
none_too_long held (x ∷ xs) (c ∷ cs) r (h, within, hs) (inl is) long = not_too_long held x c h within (subst (λ (q : FileView). IsTooLong q held) is long)
none_too_long held (x ∷ xs) (c ∷ cs) r (h, within, hs) (inr (b, content, comes)) long = none_too_long held xs cs r hs comes long

-- nor did a read fail, where the files are sound
pub none_failed : (rs : List FileView) (contents : List (List ℕ)) (before now : FilesAt) → IsTrue before.sound → HoldsAll before.held rs contents → OneReadFailed rs before now → ⊥
none_failed rs contents before now sound h (r, comes, read) = read.1 sound (one_is_held rs contents h comes) where
  one_is_held : (xs : List FileView) (cs : List (List ℕ)) → HoldsAll before.held xs cs → ComesToRead before.held xs r → HasFile before.held r.name
  one_is_held [] cs hs c = absurd c
  one_is_held (x ∷ xs) [] hs c = absurd hs
  one_is_held (x ∷ xs) (c ∷ cs) (held, within, hs) (inl is) = subst (λ (q : FileView). HasFile before.held q.name) (sym is) (is_held before.held x.name c held)
  one_is_held (x ∷ xs) (c ∷ cs) (held, within, hs) (inr (b, content, later)) = one_is_held xs cs hs later

-- a file that is too long, with those before it held, isn't read
pub not_all_read : (held : KnownFiles) (rs : List FileView) (read : List (List ℕ)) (r : FileView) (bytes : List ℕ) → HoldsUpTo held rs r → Holds held r.name bytes → r.limit < length bytes
    → AreContents held rs read → ⊥
not_all_read held [] read r bytes up h over are = up
not_all_read held (x ∷ xs) [] r bytes up h over are = are
not_all_read held (x ∷ xs) (b ∷ bs) r bytes (inl is) h over (content, are) =
    let its : IsContent r held b = subst (λ (q : FileView). IsContent q held b) (sym is) content in
    let size : length b ≡ length bytes = ap (λ (l : List ℕ). length l) (held_bytes held r b bytes h its) in
    omega (arith, its.0, size, over)
not_all_read held (x ∷ xs) (b ∷ bs) r bytes (inr (c, holds, within, up)) h over (content, are) = not_all_read held xs bs r bytes up h over are

-- and it is the one that was found too long
pub one_too_long : (held : KnownFiles) (rs : List FileView) (q r : FileView) (bytes : List ℕ) → HoldsUpTo held rs r → Holds held r.name bytes → r.limit < length bytes
    → ComesToRead held rs q → IsTooLong q held → q ≡ r
one_too_long held [] q r bytes up h over comes long = absurd up
one_too_long held (x ∷ xs) q r bytes (inl is) h over (inl its) long = its ∙ sym is
one_too_long held (x ∷ xs) q r bytes (inl is) h over (inr (b, content, comes)) long =
    let its : IsContent r held b = subst (λ (y : FileView). IsContent y held b) (sym is) content in
    let size : length b ≡ length bytes = ap (λ (l : List ℕ). length l) (held_bytes held r b bytes h its) in
    absurd (omega (arith, its.0, size, over))
one_too_long held (x ∷ xs) q r bytes (inr (c, holds, within, up)) h over (inl its) long = absurd (not_too_long held x c holds within (subst (λ (y : FileView). IsTooLong y held) its long))
one_too_long held (x ∷ xs) q r bytes (inr (c, holds, within, up)) h over (inr (b, content, comes)) long = one_too_long held xs q r bytes up h over comes long

-- a file that isn't there has no content that was read
missing_unread : (held : KnownFiles) (r : FileView) (bytes : List ℕ) → IsMissing held r.name → IsContent r held bytes → ⊥
missing_unread held r bytes m is = agree held m.known is.1 where
  agree : (o : KnownFiles) → o ≡ Some m.files → IfSome o (λ files. file_of files r.name ≡ Some bytes) → ⊥
  agree None e c = absurd (cc)
  agree (Some files) e c = let f : file_of files r.name ≡ None = ap (λ (l : List (List ℕ × List ℕ)). file_of l r.name) (let g : files ≡ m.files = cc in g) ∙ m.absent in absurd (cc)

missing_not_long : (held : KnownFiles) (r : FileView) → IsMissing held r.name → IsTooLong r held → ⊥
missing_not_long held r m long = agree held m.known long where
  agree : (o : KnownFiles) → o ≡ Some m.files → IfSome o (λ files. IsSomeAnd (file_of files r.name) (λ bytes. r.limit < length bytes)) → ⊥
  agree None e c = absurd (cc)
  agree (Some files) e c =
      let f : file_of files r.name ≡ None = ap (λ (l : List (List ℕ × List ℕ)). file_of l r.name) (let g : files ≡ m.files = cc in g) ∙ m.absent in
      let P : Option (List ℕ) → Type 0 = λ o. IsSomeAnd o (λ bytes. r.limit < length bytes) in subst P f c

-- where a file isn't there, with those before it held, not all were read
pub not_all_there : (held : KnownFiles) (rs : List FileView) (read : List (List ℕ)) (r : FileView) → HoldsUpTo held rs r → IsMissing held r.name → AreContents held rs read → ⊥
not_all_there held [] read r up m are = up
not_all_there held (x ∷ xs) [] r up m are = are
not_all_there held (x ∷ xs) (b ∷ bs) r (inl is) m (content, are) = missing_unread held r b m (subst (λ (q : FileView). IsContent q held b) (sym is) content)
not_all_there held (x ∷ xs) (b ∷ bs) r (inr (c, holds, within, up)) m (content, are) = not_all_there held xs bs r up m are

-- nor was one found too long
pub none_long_there : (held : KnownFiles) (rs : List FileView) (q r : FileView) → HoldsUpTo held rs r → IsMissing held r.name → ComesToRead held rs q → IsTooLong q held → ⊥
none_long_there held [] q r up m comes long = up
none_long_there held (x ∷ xs) q r (inl is) m (inl its) long = missing_not_long held r m (subst (λ (y : FileView). IsTooLong y held) (its ∙ sym is) long)
none_long_there held (x ∷ xs) q r (inl is) m (inr (b, content, comes)) long = missing_unread held r b m (subst (λ (y : FileView). IsContent y held b) (sym is) content)
none_long_there held (x ∷ xs) q r (inr (c, holds, within, up)) m (inl its) long = not_too_long held x c holds within (subst (λ (y : FileView). IsTooLong y held) its long)
none_long_there held (x ∷ xs) q r (inr (c, holds, within, up)) m (inr (b, content, comes)) long = none_long_there held xs q r up m comes long

-- where a read failed its name was added, and else the names are as they were
grew_later : (r : FileView) (rs : List FileView) (before between now : FilesAt) → between.failed ≡ before.failed → GrewByOneOf rs between now → GrewByOneOf (r ∷ rs) before now
grew_later r rs before between now same (inl e) = inl (e ∙ same)
grew_later r rs before between now same (inr (x, among, e)) = inr (x, inr among, e ∙ ap (λ (l : List (List ℕ)). l ++ x.name ∷ []) same)

pub reads_grew : (rs : List FileView) (before now : FilesAt) (files_read : FilesResult) → ReadsAll rs before now files_read → GrewByOneOf rs before now
reads_grew [] before now files_read (is, none) = inl (ap (λ (f : FilesAt). f.failed) is)
reads_grew (r ∷ rs) before now files_read (between, unread, keeps, reads_one, on) = inr (r, inl refl, ap (λ (f : FilesAt). f.failed) on.0 ∙ reads_one.0)
reads_grew (r ∷ rs) before now files_read (between, longer, keeps, reads_one, on) = inl (ap (λ (f : FilesAt). f.failed) on.0 ∙ reads_one.0)
reads_grew (r ∷ rs) before now files_read (between, whole b, keeps, reads_one, on) = grew_later r rs before between now reads_one.0 (reads_grew rs between now on.0 on.1)
