-- Two states with the same parts are the same.
use Rattle.std.proofs.Common.{◌≡◌, ◌∙◌, ap}
use Rattle.shim_process.specs.LocalState.{LocalState}

pub one_state : (a b : LocalState)
    → a.path ≡ b.path → a.base ≡ b.base → a.made ≡ b.made → a.forks ≡ b.forks → a.untaken ≡ b.untaken → a.given ≡ b.given
    → a.frame ≡ b.frame → a.callers ≡ b.callers
    → a.locations ≡ b.locations → a.input_at ≡ b.input_at → a.holds_output ≡ b.holds_output → a.trap ≡ b.trap
    → a.program ≡ b.program → a.input ≡ b.input → a ≡ b
one_state a b path base made forks untaken given frame callers locations input_at holds_output trap program input =
    ap (λ x. record a { path = x }) path
    ∙ ap (λ x. record a { path = b.path; base = x }) base
    ∙ ap (λ x. record a { path = b.path; base = b.base; made = x }) made
    ∙ ap (λ x. record a { path = b.path; base = b.base; made = b.made; forks = x }) forks
    ∙ ap (λ x. record a { path = b.path; base = b.base; made = b.made; forks = b.forks; untaken = x }) untaken
    ∙ ap (λ x. record a { path = b.path; base = b.base; made = b.made; forks = b.forks; untaken = b.untaken; given = x }) given
    ∙ ap (λ x. record b { frame = x; callers = a.callers; locations = a.locations; input_at = a.input_at; holds_output = a.holds_output; trap = a.trap; program = a.program; input = a.input }) frame
    ∙ ap (λ x. record b { callers = x; locations = a.locations; input_at = a.input_at; holds_output = a.holds_output; trap = a.trap; program = a.program; input = a.input }) callers
    ∙ ap (λ x. record b { locations = x; input_at = a.input_at; holds_output = a.holds_output; trap = a.trap; program = a.program; input = a.input }) locations
    ∙ ap (λ x. record b { input_at = x; holds_output = a.holds_output; trap = a.trap; program = a.program; input = a.input }) input_at
    ∙ ap (λ x. record b { holds_output = x; trap = a.trap; program = a.program; input = a.input }) holds_output
    ∙ ap (λ x. record b { trap = x; program = a.program; input = a.input }) trap
    ∙ ap (λ x. record b { program = x; input = a.input }) program
    ∙ ap (λ x. record b { input = x }) input
