-- The same events are enabled in tied trees, and leave tied trees.
use Rattle.std.proofs.Common.{◌≡◌, ◌+◌, ◌++◌, ◌&&◌, Option, Some, None, unwrap_or, refl, ap, subst}
use Rattle.shim_base.specs.Paths.{Path, Channel, same_path}
use Rattle.shim_local.specs.Process.{Ops}
use Rattle.shim_local.specs.Laws.{LocalLaws}
use Rattle.shim_semantics.specs.Nodes.{Node, state, source, value_of}
use Rattle.shim_semantics.specs.Acts.{Acted}
use Rattle.shim_semantics.specs.Poison.{poison_route}
use Rattle.shim_semantics.specs.Places.{route, led_to, has_path, home_is_ready, meets}
use Rattle.shim_semantics.specs.Trees.{Tree, Event, Own, Meet, Poison, Close, End, OwnAction, Steps, Ends, Closes, same_own_action, is_its, act_route, acts, with_step_counted, with_logs, count_own, count_event, change_nodes, poisons, recorded, met, after}
use Rattle.shim_laws_tied.specs.Ties.{KeepsTied}
use Rattle.shim_laws_tied.specs.TiedTrees.{NodesTied, TreesTied}
use Rattle.shim_laws_tied.proofs.Both.{BothOrNone, both_chosen}
use Rattle.shim_laws_tied.proofs.SoundTies.{Tied}
use Rattle.shim_laws_tied.proofs.NodesAlike.{kind_alike}
use Rattle.shim_laws_tied.proofs.ReadyAlike.{ready_alike}
use Rattle.shim_laws_tied.proofs.SourcesAlike.{value_alike, name_alike}
use Rattle.shim_laws_tied.proofs.WalksAlike.{path_alike}
use Rattle.shim_laws_tied.proofs.ActsTied.{ActedTied}
use Rattle.shim_laws_tied.proofs.NodesChanged.{received_tied}
use Rattle.shim_laws_tied.proofs.DescentsTied.{led_to_tied, path_act_tied, path_poison_tied}

module _ {A B : Type 0} (R : A → B → Type 0) where
  own_counted : (x : Path) (t : Tree A) (u : Tree B) (a : Option (Acted A)) (b : Option (Acted B)) → TreesTied R t u → BothOrNone (ActedTied R) a b → BothOrNone (TreesTied R) (count_own x t a) (count_own x u b)
  own_counted x t u (Some a) (Some b) h g = record {
    root = g.node;
    output = λ i. h.output i ++ (g.effects i).bytes;
    histories = h.histories;
    logs = λ i. with_logs (h.logs i) x (g.effects i).logs;
    counts = λ i. with_step_counted (h.counts i) x;
    events = h.events;
  }
  own_counted x t u None None h g = tt
  own_counted x t u (Some a) None h g = absurd g
  own_counted x t u None (Some b) h g = absurd g

  event_counted : (x : Path) (t : Tree A) (u : Tree B) (a : Option (Acted A)) (b : Option (Acted B)) → TreesTied R t u → BothOrNone (ActedTied R) a b → BothOrNone (TreesTied R) (count_event x t a) (count_event x u b)
  event_counted x t u (Some a) (Some b) h g = record {
    root = g.node;
    output = λ i. h.output i ++ (g.effects i).bytes;
    histories = h.histories;
    logs = λ i. with_logs (h.logs i) x (g.effects i).logs;
    counts = h.counts;
    events = λ i. h.events i + 1;
  }
  event_counted x t u None None h g = tt
  event_counted x t u (Some a) None h g = absurd g
  event_counted x t u None (Some b) h g = absurd g

  change_counted : (t : Tree A) (u : Tree B) (n : Option (Node A)) (m : Option (Node B)) → TreesTied R t u → BothOrNone (NodesTied R) n m → BothOrNone (TreesTied R) (change_nodes t n) (change_nodes u m)
  change_counted t u (Some n) (Some m) h g = record { root = g; output = h.output; histories = h.histories; logs = h.logs; counts = h.counts; events = λ i. h.events i + 1 }
  change_counted t u None None h g = tt
  change_counted t u (Some n) None h g = absurd g
  change_counted t u None (Some m) h g = absurd g

module _ {A B : Type 0} (o : Ops A) (p : Ops B) (R : A → B → Type 0) (keeps : KeepsTied o p R) where
  its_alike : (k : OwnAction) (x : Path) (n : Option (Node A)) (m : Option (Node B)) → BothOrNone (Tied o p R) n m → is_its o k x n ≡ is_its p k x m
  its_alike k x (Some n) (Some m) h = λ i. same_path (path_alike o p R keeps n m h i) x && same_own_action k (kind_alike o p R keeps n m h i)
  its_alike k x None None h = refl
  its_alike k x (Some n) None h = absurd h
  its_alike k x None (Some m) h = absurd h

  there_alike : (x : Path) (n : Option (Node A)) (m : Option (Node B)) → BothOrNone (Tied o p R) n m → has_path o x n ≡ has_path p x m
  there_alike x (Some n) (Some m) h = ap (λ y. same_path y x) (path_alike o p R keeps n m h)
  there_alike x None None h = refl
  there_alike x (Some n) None h = absurd h
  there_alike x None (Some m) h = absurd h

  ready_at_alike : (c : Channel) (n : Option (Node A)) (m : Option (Node B)) → BothOrNone (Tied o p R) n m → home_is_ready o c n ≡ home_is_ready p c m
  ready_at_alike c (Some n) (Some m) h = λ i. same_path (path_alike o p R keeps n m h i) c.home && ready_alike o p R keeps c n m h i
  ready_at_alike c None None h = refl
  ready_at_alike c (Some n) None h = absurd h
  ready_at_alike c None (Some m) h = absurd h

  meets_alike : (c : Channel) (n : Node A) (m : Node B) → Tied o p R n m → meets o c n ≡ meets p c m
  meets_alike c n m h = ready_at_alike c (led_to o n c.home) (led_to p m c.home) (led_to_tied o p R keeps c.home n m h)

  poisons_tied : (x : Path) (c : Channel) (n : Node A) (m : Node B) → Tied o p R n m → BothOrNone (NodesTied R) (poisons o x c n) (poisons p x c m)
  poisons_tied x c n m h =
      both_chosen (BothOrNone (NodesTied R)) (has_path o x (led_to o n x)) (has_path p x (led_to p m x))
      (poison_route o c n (route (o.path (state n)) x)) None (poison_route p c m (route (p.path (state m)) x)) None
      (there_alike x (led_to o n x) (led_to p m x) (led_to_tied o p R keeps x n m h)) (λ e. path_poison_tied o p R keeps c x n m h) (λ e. tt)

  met_tied : (c : Channel) (t : Tree A) (u : Tree B) → TreesTied R t u → Tied o p R t.root u.root → TreesTied R (met o c (value_of o c (source o c t.root)) t) (met p c (value_of p c (source p c u.root)) u)
  met_tied c t u h g =
      let v = value_of o c (source o c t.root) in
      let values = value_alike o p R keeps c t.root u.root g in record {
        root = subst (λ z. NodesTied R (met o c v t).root (met p c z u).root) values (received_tied o p R keeps c v t.root u.root g);
        output = h.output;
        histories = λ i. recorded (h.histories i) c (unwrap_or (name_alike o p R keeps c t.root u.root g i) 0) (values i);
        logs = h.logs;
        counts = h.counts;
        events = λ i. h.events i + 1;
      }

  module _ (one : LocalLaws o) (other : LocalLaws p) where
    acts_tied : (k : OwnAction) (x : Path) (n : Node A) (m : Node B) → Tied o p R n m → BothOrNone (ActedTied R) (acts o k x n) (acts p k x m)
    acts_tied k x n m h =
        both_chosen (BothOrNone (ActedTied R)) (is_its o k x (led_to o n x)) (is_its p k x (led_to p m x))
        (act_route o n (route (o.path (state n)) x)) None (act_route p m (route (p.path (state m)) x)) None
        (its_alike k x (led_to o n x) (led_to p m x) (led_to_tied o p R keeps x n m h)) (λ e. path_act_tied o p R keeps one other x n m h) (λ e. tt)

    pub event_tied : (e : Event) (t : Tree A) (u : Tree B) → TreesTied R t u → Tied o p R t.root u.root → BothOrNone (TreesTied R) (after o e t) (after p e u)
    event_tied (Own x) t u h g = own_counted R x t u (acts o Steps x t.root) (acts p Steps x u.root) h (acts_tied Steps x t.root u.root g)
    event_tied (Close x) t u h g = event_counted R x t u (acts o Closes x t.root) (acts p Closes x u.root) h (acts_tied Closes x t.root u.root g)
    event_tied (End x) t u h g = event_counted R x t u (acts o Ends x t.root) (acts p Ends x u.root) h (acts_tied Ends x t.root u.root g)
    event_tied (Poison x c) t u h g = change_counted R t u (poisons o x c t.root) (poisons p x c u.root) h (poisons_tied x c t.root u.root g)
    event_tied (Meet c) t u h g =
        both_chosen (BothOrNone (TreesTied R)) (meets o c t.root) (meets p c u.root) (Some (met o c (value_of o c (source o c t.root)) t)) None (Some (met p c (value_of p c (source p c u.root)) u)) None
        (meets_alike c t.root u.root g) (λ e. met_tied c t u h g) (λ e. tt)
