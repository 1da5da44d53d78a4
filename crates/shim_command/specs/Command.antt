-- The command line, as `clap` reads it. What words a command takes, and what is found in them, is `clap`'s own definition.
use Rattle.std.specs.Prelude.{ℕ, true, List, [], ◌∷◌, Some, codes}
use Rattle.clap.specs.Words.{App, Rule, Text, new_rule}
use Rattle.clap.specs.Simple.{new_shape}
use Rattle.clap.specs.declared.builder.action.ArgAction.TheVariants.{Append, Set, SetTrue}
use Rattle.clap.specs.declared.builder.value_parser.ValueParser.TheVariants.{Unsigned}

-- a word that has to be there, by its place
abbrev pub positional : Text → Rule
positional name = record (new_rule name) { required = true; action = Some Set }

-- `--name TEXT` or `--name=TEXT`, at most once
abbrev pub option : Text → Rule
option name = record (new_rule name) { long = Some name }

-- the same with a number from `least` to `most`
abbrev pub number_option : Text → ℕ → ℕ → Rule
number_option name least most = record (new_rule name) { long = Some name; parser = Some (Unsigned least most) }

-- `--name` alone, at most once
abbrev pub flag : Text → Rule
flag name = record (new_rule name) { long = Some name; action = Some SetTrue }

-- words after the others, as many as there are
abbrev pub words_after : Text → Rule
words_after name = record (new_rule name) { action = Some Append }

-- the arguments of `shim`
unfoldable pub command_rules : List Rule
command_rules =
    positional (codes "MODE")
    ∷ positional (codes "FILE")
    ∷ option (codes "input")
    ∷ number_option (codes "workers") 1 16
    ∷ number_option (codes "budget") 1 4000000
    ∷ number_option (codes "quantum") 1 10000
    ∷ number_option (codes "size") 1 100000
    ∷ option (codes "journal")
    ∷ flag (codes "steal")
    ∷ words_after (codes "INPUT")
    ∷ []

-- the command: its arguments, no subcommand, and no flag for help
unfoldable pub shim_app : App
shim_app = record {
  top = record (new_shape (codes "shim")) { disable_help_flag = true; rules = command_rules };
  subs = [];
}
