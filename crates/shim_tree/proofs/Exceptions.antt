-- What an exception leaves that is thrown in a process, and the close of a fork.
use Rattle.std.proofs.Common.{◌≡◌, ℕ, pos, ◌<◌, Bool, true, false, not, Option, Some, None, List, is_none, sym, ap, subst, ◌∙◌}
use Rattle.shim_base.specs.declared.operators.Trap.{Trap}
use Rattle.shim_local.specs.Process.{Ops, AtThrow, AtTrap, AtPut}
use Rattle.shim_local.specs.Laws.{LocalLaws}
use Rattle.shim_semantics.specs.Nodes as model
use Rattle.shim_semantics.specs.Nodes.{Death, death_with, states, prevailing_death}
use Rattle.shim_semantics.specs.Acts.{Effects, Acted, nothing, putting, trapping, thrown, throwing, closed, act_here, act_live}
use Rattle.shim_semantics.specs.Places.{SoundBelow}
use Rattle.shim_tree.specs.declared.node_status.NodeStatus.{NodeStatus}
use Rattle.shim_tree.specs.declared.node_status.NodeStatus.TheVariants as code
use Rattle.shim_tree.specs.declared.node_status.NodeStatus.TheOpen as open_below
use Rattle.shim_tree.specs.declared.node_status.NodeStatus.TheFolds.{fold-roll-NodeStatus}
use Rattle.shim_tree.specs.NodeStatus.{node, nodes, node_step, together}
use Rattle.shim_tree.specs.Labels.{ThrowLeaves}
use Rattle.shim_tree.specs.Acting.{ActsAtNode}
use Rattle.shim_tree.proofs.Children.{node_live, at_forked, states_together, close_acts}
use Rattle.shim_tree.proofs.Labels.{each_sound, label_in_force}

pub node_dead : {S : Type 0} (l : S) (x : Death) → node l (code.Dead x) ≡ model.Dead l x
node_dead {S} l x = ap (node l) (sym (code.rolls-Dead x)) ∙ ap (λ f. f l) (fold-roll-NodeStatus S (S → model.Node S) node_step (open_below.Dead x))

-- a live process throws
pub throw_acts : {S : Type 0} (o : Ops S) (l : S) (b : NodeStatus S) (x : ℕ) (effects : Effects) (after : model.Node S) → b ≡ code.Live → o.stop l ≡ AtThrow x → throwing o l x (o.number l) ≡ record { node = after; effects = effects } → ActsAtNode o (node l b) effects after
throw_acts o l b x effects after e s leaves = ap (act_here o) (ap (node l) e ∙ node_live l) ∙ (ap (act_live o l) s ∙ ap Some leaves)

-- or stands trapped
pub trap_acts : {S : Type 0} (o : Ops S) (l : S) (b : NodeStatus S) (kind : Trap) (line : ℕ) → b ≡ code.Live → o.stop l ≡ AtTrap kind line → ActsAtNode o (node l b) (trapping kind line) (node l (code.Dead (death_with 0 (pos 0))))
trap_acts {S} o l b kind line e s =
    ap (act_here o) (ap (node l) e ∙ node_live l) ∙ (ap (act_live o l) s
    ∙ ap (λ z. let r : Acted S = record { node = z; effects = trapping kind line } in Some r) (sym (node_dead l (death_with 0 (pos 0)))))

-- or puts
pub put_acts : {S : Type 0} (o : Ops S) (l m : S) (b : NodeStatus S) (effects : Effects) → b ≡ code.Live → o.stop l ≡ AtPut → effects ≡ putting (o.byte l) → m ≡ o.put l → ActsAtNode o (node l b) effects (node m b)
put_acts {S} o l m b effects e s put_effects there =
    ap (act_here o) (ap (node l) e ∙ node_live l) ∙ (ap (act_live o l) s
    ∙ sym ((λ t. let r : Acted S = record { node = (ap (node m) e ∙ node_live m) t; effects = put_effects t } in Some r)
    ∙ ap (λ z. let r : Acted S = record { node = model.Live z; effects = putting (o.byte l) } in Some r) there))

-- the children's values, taken back as the code asks: they go on after the fork where no label is found
pub not_back : (r s : Bool) → s ≡ not r → r ≡ not s
not_back true s e = ap not (sym e)
not_back false s e = ap not (sym e)

-- A fork of these children closes, which the code has as two lists; this label was found, and the second state is that after their values came back.
module _ {S : Type 0} (o : Ops S) (l m : S) (b : NodeStatus S) (ls : _) (bs : _) (cs : List S) (es : List (NodeStatus S)) (label : Option Death)
    (is : b ≡ code.Forked ls bs) (states_are : cs ≡ ls.items) (belows_are : es ≡ bs.items)
    (found : label ≡ prevailing_death (together cs (nodes es))) (joined : m ≡ o.join l cs (is_none label)) where
  death_found : label ≡ prevailing_death (together ls.items (nodes bs.items))
  death_found = found ∙ λ t. prevailing_death (together (states_are t) (nodes (belows_are t)))

  after_join : (label' : Option Death) → label ≡ label' → m ≡ o.join l ls.items (is_none label')
  after_join label' e = joined ∙ λ t. o.join l (states_are t) (is_none (e t))

  pub close_goes_on : (act_here o (node l b) ≡ None → ⊥) → label ≡ None → ActsAtNode o (node l b) nothing (node m code.Live)
  close_goes_on acts none =
      close_acts o l b ls bs is acts ∙ (ap (λ z. Some (closed o l ls.items z)) (sym death_found ∙ none)
      ∙ ap (λ z. let r : Acted S = record { node = z; effects = nothing } in Some r) (sym (node_live m ∙ ap model.Live (after_join None none))))

  pub close_throws : (x : Death) (effects : Effects) (after : model.Node S) → (act_here o (node l b) ≡ None → ⊥) → label ≡ Some x → ThrowLeaves o m x effects after → ActsAtNode o (node l b) effects after
  close_throws x effects after acts some leaves =
      close_acts o l b ls bs is acts ∙ (ap (λ z. Some (closed o l ls.items z)) (sym death_found ∙ some)
      ∙ (ap (λ z. Some (thrown o z x)) (sym (after_join (Some x) some)) ∙ ap Some leaves))

  -- its process may be asked for the handler
  pub close_in_force : LocalLaws o → SoundBelow o (node l b) → (x : Death) → label ≡ Some x → x.label < o.handlers m
  close_in_force laws sound x some =
      let s = subst (SoundBelow o) (at_forked l b ls bs is) sound in
      let kept = laws.join_handlers l (states (together ls.items (nodes bs.items))) s.sound (each_sound o l s.number 0 _ s.children) s.born in
      let same : o.handlers m ≡ o.handlers l =
      ap o.handlers (after_join (Some x) some) ∙ (ap (λ z. o.handlers (o.join l z false)) (sym (states_together ls.items bs.items)) ∙ kept) in
      subst (λ z. x.label < z) (sym same) (label_in_force o l s.number 0 _ x s.children (sym death_found ∙ some))
