use Rattle.std.proofs.Common.{◌≡◌, ◌∙◌, length, map, true, sym, ap, subst, rules}
use Rattle.std.specs.Global.{Vec}
use Rattle.std.proofs.lemmas.List.{with_items_is}
use Rattle.shim_syntax.specs.Terminals.{IsRead, begins_two, of_version}
use Rattle.shim_parser.specs.declared.token.Token.{Token}
use Rattle.shim_parser.specs.TokenView.{token_views}
use Rattle.shim_parser.proofs.Versions.{read_as_1, read_as_2}
use Rattle.shim_parser.proofs.text.tokens_of.Goals as goal
use Rattle.shim_parser.proofs.text.tokens_of.Goals.{then-begins_two, else-begins_two}

pub returns : goal.returns
returns c =
    let text = c.args.text.now in
    let cut = token_views c.in_ok-tokens.tokens.items in
    let seen = token_views c.if-begins_two.tokens.items in
    let begins : begins_two cut ≡ c.begins_two.result = ap (λ l. begins_two (token_views l)) (sym c.deref.ensures.value) ∙ sym c.begins_two.ensures in
    elim c.if-begins_two.branch [
      | then-begins_two w ↦
          let long : length w.see_types.new.tokens ≡ c.in_ok-tokens.tokens.len = search rules in
          let is : seen ≡ token_views w.see_types.new.tokens =
          ap (λ (v : Vec Token). token_views v.items) w.tokens-is ∙ ap token_views (with_items_is c.in_ok-tokens.tokens w.see_types.new.tokens long) in
          read_as_2 text cut seen c.in_ok-tokens.ensures (begins ∙ w.if-begins_two.true) (is ∙ w.see_types.ensures ∙ ap (λ l. map (of_version true) (token_views l)) w.deref_mut.ensures.value)
      | else-begins_two w ↦
          let is : cut ≡ seen = ap (λ (v : Vec Token). token_views v.items) (sym w.tokens-is) in
          subst (λ u. IsRead text u) is (read_as_1 text cut c.in_ok-tokens.ensures (begins ∙ w.if-begins_two.false))
    ]
