use Rattle.std.proofs.Common.{rules, ◌≡◌, ◌∙◌, ap, ap₂, codes, true}
use Rattle.clap.specs.Words.{App, app_of, new_app, rule_of, with_rule}
use Rattle.clap.specs.Simple.{app_of_fields, on_top}
use Rattle.shim_command.specs.Command.{command_rules, flag, positional, number_option, option, shim_app, words_after}
use Rattle.shim_command.proofs.command.command.Goals as goal

abbrev without_help : App → App
without_help = on_top (λ s. record s { disable_help_flag = true })

pub returns : goal.returns
unfolding command_rules shim_app
returns c =
    let mode : rule_of c.given.result ≡ positional (codes "MODE") = search rules in
    let file : rule_of c.given-2.result ≡ positional (codes "FILE") = search rules in
    let input : rule_of c.option.result ≡ option (codes "input") = search rules in
    let workers : rule_of c.number.result ≡ number_option (codes "workers") 1 16 = search rules in
    let budget : rule_of c.number-2.result ≡ number_option (codes "budget") 1 4000000 = search rules in
    let quantum : rule_of c.number-3.result ≡ number_option (codes "quantum") 1 10000 = search rules in
    let size : rule_of c.number-4.result ≡ number_option (codes "size") 1 100000 = search rules in
    let journal : rule_of c.option-2.result ≡ option (codes "journal") = search rules in
    let steal : rule_of c.flag.result ≡ flag (codes "steal") = search rules in
    let inputs : rule_of c.words_after.result ≡ words_after (codes "INPUT") = search rules in
    let plain : app_of c.disable_help_flag-plain.result ≡ without_help (new_app (codes "shim")) =
    ap app_of_fields c.disable_help_flag-plain.ensures ∙ ap without_help c.new.ensures.app in
    c.in_ok-command.ensures.shape (search rules) ∙ ap₂ with_rule
    (c.in_ok-arg-9.ensures.shape (search rules) ∙ ap₂ with_rule
    (c.in_ok-arg-8.ensures.shape (search rules) ∙ ap₂ with_rule
    (c.in_ok-arg-7.ensures.shape (search rules) ∙ ap₂ with_rule
    (c.in_ok-arg-6.ensures.shape (search rules) ∙ ap₂ with_rule
    (c.in_ok-arg-5.ensures.shape (search rules) ∙ ap₂ with_rule
    (c.in_ok-arg-4.ensures.shape (search rules) ∙ ap₂ with_rule
    (c.in_ok-arg-3.ensures.shape (search rules) ∙ ap₂ with_rule
    (c.in_ok-arg-2.ensures.shape (search rules) ∙ ap₂ with_rule
    (c.in_ok-arg.ensures.shape (search rules) ∙ ap₂ with_rule plain mode)
    file) input) workers) budget) quantum) size) journal) steal) inputs
