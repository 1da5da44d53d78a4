-- The text of a journal, and the first line with which a text is none.
use Rattle.std.specs.Prelude.{◌≡◌, ◌≤◌, ◌<◌, ◌^◌, ℕ, ◌+◌, List, [], ◌∷◌, ◌++◌, length, codes, decimal, flat_map, map, nat_eq, if◌then◌else◌}
use Rattle.std.specs.List.{AllByRecursion}
use Rattle.shim_base.specs.Paths.{Path, Channel}
use Rattle.shim_laws_journals.specs.Ranges.{steps_in_all}
use Rattle.shim_semantics.specs.Trees.{Event, Own, Meet, Poison, Close, End}
use Rattle.shim_laws_replay.specs.Journals.{Entry, Quiet, Did}
use Rattle.shim_base.specs.PathTexts.{path_text, channel_text}

-- the line of an entry, without its line feed
unfoldable pub entry_words : Entry → List ℕ
entry_words (Quiet p n) = codes "quiet " ++ (path_text p ++ (codes " " ++ decimal n))
entry_words (Did (Own p)) = codes "own " ++ path_text p
entry_words (Did (Meet c)) = codes "meet " ++ channel_text c
entry_words (Did (Poison p c)) = codes "poison " ++ (path_text p ++ (codes " " ++ channel_text c))
entry_words (Did (Close p)) = codes "close " ++ path_text p
entry_words (Did (End p)) = codes "end " ++ path_text p

-- `journal B`
abbrev pub first_words : ℕ → List ℕ
first_words b = codes "journal " ++ decimal b

-- `stop S`
abbrev pub stop_words : ℕ → List ℕ
stop_words s = codes "stop " ++ decimal s

-- a line with its line feed
abbrev pub line : List ℕ → List ℕ
line words = words ++ codes "\n"

-- lines, each with its line feed
abbrev pub joined_lines : List (List ℕ) → List ℕ
joined_lines lines = flat_map line lines

-- the line of each entry, without its line feed
abbrev pub entry_lines : List Entry → List (List ℕ)
entry_lines es = map entry_words es

-- the text of a budget and entries: a line for the budget, one for each entry, and one for their steps
unfoldable pub journal_of : ℕ → List Entry → List ℕ
journal_of b es = line (first_words b) ++ (joined_lines (entry_lines es) ++ line (stop_words (steps_in_all es)))

-- the numbers of a path are below 2^32
abbrev pub FitsPath : Path → Type 0
FitsPath p = AllByRecursion (λ (pair : ℕ × ℕ). (pair.0 < 2 ^ 32) × (pair.1 < 2 ^ 32)) p

-- the numbers of a channel are below 2^32: those of its home, and its serial number
abbrev pub FitsChannel : Channel → Type 0
FitsChannel c = FitsPath c.home × (c.serial < 2 ^ 32)

-- the numbers of the path and of the channel of an event are below 2^32
abbrev pub FitsEvent : Event → Type 0
FitsEvent (Own p) = FitsPath p
FitsEvent (Meet c) = FitsChannel c
FitsEvent (Poison p c) = FitsPath p × FitsChannel c
FitsEvent (Close p) = FitsPath p
FitsEvent (End p) = FitsPath p

-- the numbers of the entry's path and channel are below 2^32, and an entry of quiet steps has 1 to 4,000,000 steps
abbrev pub FitsEntry : Entry → Type 0
FitsEntry (Quiet p n) = FitsPath p × (1 ≤ n) × (n ≤ 4000000)
FitsEntry (Did e) = FitsEvent e

-- the text is that of this budget and these entries, whose numbers are in range
pub record IsJournalText (text : List ℕ) (b : ℕ) (es : List Entry) : Type 0 where
  pub least : 1 ≤ b
  pub most : b ≤ 4000000
  pub fits : AllByRecursion FitsEntry es
  pub text_is : text ≡ journal_of b es

-- how many line feeds there are
abbrev pub line_feeds : List ℕ → ℕ
line_feeds [] = 0
line_feeds (c ∷ cs) = if nat_eq c 10 then 1 + line_feeds cs else line_feeds cs

-- the bytes up to the first line feed and with it; all of them, where there is none
abbrev pub first_line : List ℕ → List ℕ
first_line [] = []
first_line (c ∷ cs) = if nat_eq c 10 then c ∷ [] else c ∷ first_line cs

-- The line of this number, counted from 1, is the first one that no journal's text has after the lines before it. Where the text ends after these lines, no journal's text does.
pub record IsFaultyLine (text : List ℕ) (number : ℕ) : Type 0 where
  pub before : List (List ℕ)
  pub rest : List ℕ
  pub text_is : text ≡ joined_lines before ++ rest
  pub plain : AllByRecursion (λ (words : List ℕ). line_feeds words ≡ 0) before
  pub number_is : length before + 1 ≡ number
  -- some journal's text has the lines before it
  pub begun : (more : List ℕ) × (b : ℕ) × (es : List Entry) × IsJournalText (joined_lines before ++ more) b es
  -- no journal's text has this line after the lines before it
  pub wrong : (other : List ℕ) (b : ℕ) (es : List Entry) → first_line other ≡ first_line rest → IsJournalText (joined_lines before ++ other) b es → ⊥
