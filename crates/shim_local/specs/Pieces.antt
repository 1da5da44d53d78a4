-- What is kept of a piece of work, which is some quiet steps of one process.
use Rattle.std.specs.Prelude.{◌≡◌, ◌≢◌, ◌<◌, ℕ, Bool, false}
use Rattle.shim_local.specs.Process.{Ops, AtQuiet}

-- fewer steps than were granted are taken only where memory is wanted for one more, or where the process has come to another stop
abbrev pub FewerWithCause : {S : Type 0} → Ops S → ℕ → ℕ → Bool → S → Type 0
FewerWithCause o used grant short last = used < grant → short ≡ false → o.stop last ≢ AtQuiet
