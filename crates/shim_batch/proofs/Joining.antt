-- Lists in parts: cut, joined, and held against another list value by value.
use Rattle.std.proofs.Common.{◌≡◌, ◌<◌, ℕ, Result, Ok, Err, IfOk, List, [], ◌∷◌, ◌++◌, length, suc, refl, sym, ap, subst, ◌∙◌, arith, slice_index_or}
use Rattle.std.specs.List.{AllZip}
use Rattle.std.proofs.lemmas.List.{append_assoc, append-nil}
use Rattle.shim_batch.specs.Parts.{concatenated, JoinsTo}

module _ {T E : Type 0} where
  -- what the parts that are left join to, stands after what was joined
  abbrev pub JoinsOn : List (Result (List T) E) → List T → List (Result (List T) E) → Type 0
  JoinsOn parts values rest = (later : List T) → JoinsTo rest later → JoinsTo parts (values ++ later)

  pub joins_one : (parts : List (Result (List T) E)) (values values' part : List T) (run : Result (List T) E) (rest rest' : List (Result (List T) E)) → rest ≡ run ∷ rest' → run ≡ Ok part → values' ≡ values ++ part
      → JoinsOn parts values rest → JoinsOn parts values' rest'
  joins_one parts values values' part run rest rest' first ok more on later h =
      let here : JoinsTo rest (part ++ later) = subst (λ l. JoinsTo l (part ++ later)) (sym (first ∙ ap (λ r. r ∷ rest') ok)) (later, refl, h) in
      subst (JoinsTo parts) (sym (ap (λ (l : List T). l ++ later) more ∙ append_assoc values part later)) (on (part ++ later) here)

  pub joins_none : (parts : List (Result (List T) E)) (values : List T) (rest : List (Result (List T) E)) → rest ≡ [] → JoinsOn parts values rest → JoinsTo parts values
  joins_none parts values rest none on = subst (JoinsTo parts) (append-nil values) (on [] (subst (λ l. JoinsTo l []) (sym none) refl))

module _ {A B : Type 0} (R : A → B → Type 0) where
  zips_append : (xs : List A) (ys : List B) (us : List A) (vs : List B) → AllZip R xs ys → AllZip R us vs → AllZip R (xs ++ us) (ys ++ vs)
  zips_append [] [] us vs h k = k
  zips_append [] (y ∷ ys) us vs h k = absurd h
  zips_append (x ∷ xs) [] us vs h k = absurd h
  zips_append (x ∷ xs) (y ∷ ys) us vs h k = (h.0, zips_append xs ys us vs h.1 k)

  -- where the values of each part are held against those of another, so are those of all
  pub zips_joined : {E : Type 0} (parts : List (List A)) (runs : List (Result (List B) E)) (all : List B) → AllZip (λ part run. IfOk run (λ done. AllZip R part done)) parts runs → JoinsTo runs all → AllZip R (concatenated parts) all
  zips_joined [] [] all h j = subst (λ l. AllZip R [] l) (sym j) tt
  zips_joined [] (run ∷ runs) all h j = absurd h
  zips_joined (part ∷ parts) [] all h j = absurd h
  zips_joined (part ∷ parts) (Ok done ∷ runs) all h j =
      subst (λ l. AllZip R (part ++ concatenated parts) l) (sym j.1) (zips_append part done (concatenated parts) j.0 h.0 (zips_joined parts runs j.0 h.1 j.2))
  zips_joined (part ∷ parts) (Err e ∷ runs) all h j = absurd j

  -- what holds at each place of two lists of one length
  pub zips_places : (xs : List A) (ys : List B) → length ys ≡ length xs → ((i : ℕ) (d : A) (e : B) → i < length xs → R (slice_index_or xs i d) (slice_index_or ys i e)) → AllZip R xs ys
  zips_places [] [] long h = tt
  zips_places [] (y ∷ ys) long h = let no : ⊥ = omega (arith, long) in absurd no
  zips_places (x ∷ xs) [] long h = let no : ⊥ = omega (arith, long) in absurd no
  zips_places (x ∷ xs) (y ∷ ys) long h = (h 0 x y (omega arith), zips_places xs ys (omega (arith, long)) (λ i d e below. h (suc i) d e (omega (arith, below))))
