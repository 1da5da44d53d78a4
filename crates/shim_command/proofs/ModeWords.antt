-- The words of modes.
use Rattle.std.proofs.Common.{◌≡◌, Bool, true, false, cond, List, [], ◌∷◌, Some, refl, ap, ◌∙◌}
use Rattle.std.specs.Prelude.{bytes_eq}
use Rattle.std.proofs.lemmas.Slice.Eq.{bytes_eq-Decides}
use Rattle.clap.specs.Words.{Text}
use Rattle.shim_command.specs.declared.mode.Mode.{Mode}
use Rattle.shim_command.specs.declared.mode.Mode.TheVariants.{Run, Reference, Check, Code, Gen, Up, Trace, Replay, Why, Batch}
use Rattle.shim_command.specs.Modes.{mode_named, modes, named_among, row_of}

-- the word of a mode asks for that mode
pub asks : (mode : Mode) → mode_named (row_of mode).word ≡ Some mode
unfolding mode_named
asks Run = refl
asks Reference = refl
asks Check = refl
asks Code = refl
asks Gen = refl
asks Up = refl
asks Trace = refl
asks Replay = refl
asks Why = refl
asks Batch = refl

-- and no other word does
among : (ms : List Mode) (word : Text) (wanted : Mode) → named_among ms word ≡ Some wanted → word ≡ (row_of wanted).word
among [] word wanted is = absurd (cc is)
among (m ∷ ms) word wanted is = by_test (among ms word wanted) (bytes_eq word (row_of m).word) refl is where
  by_test : (named_among ms word ≡ Some wanted → word ≡ (row_of wanted).word) → (b : Bool) → bytes_eq word (row_of m).word ≡ b → cond b (Some m) (named_among ms word) ≡ Some wanted → word ≡ (row_of wanted).word
  by_test later true same found =
      let is_mode : m ≡ wanted = cc found in
      (bytes_eq-Decides word (row_of m).word).0 same ∙ ap (λ (n : Mode). (row_of n).word) is_mode
  by_test later false other found = later found

pub only : (word : Text) (wanted : Mode) → mode_named word ≡ Some wanted → word ≡ (row_of wanted).word
unfolding mode_named
only word wanted is = among modes word wanted is
