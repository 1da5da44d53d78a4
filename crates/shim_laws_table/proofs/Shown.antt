-- Records that show a tree and have changed as an event does show the tree after it.
use Rattle.std.proofs.Common.{◌≡◌, ◌≤◌, ℕ, ℤ, zero, suc, ◌+◌, ◌-◌, ◌<◌, Bool, true, false, Option, Some, None, List, [], ◌∷◌, ◌++◌, inl, inr, cond, length, drop, refl, sym, ap, subst, ◌∙◌, arith, ltb}
use Rattle.std.specs.Prelude.{slice_get, replicate}
use Rattle.std.proofs.lemmas.List.{drop-append-le}
use Rattle.shim_base.specs.Paths.{Path, Channel}
use Rattle.shim_local.specs.Process.{Ops, Parted, AtFork}
use Rattle.shim_local.specs.Quiets.{QuietSteps}
use Rattle.shim_local.specs.Laws.{LocalLaws, AreChildren, by_quiet}
use Rattle.shim_local.proofs.Quiets.{first_quiet}
use Rattle.shim_semantics.specs.Nodes.{Node, Nodes, Live, Forked, Dead, Death, death, handed, state, states, all_live, all_done, prevailing_death, source, value_of, received}
use Rattle.shim_semantics.specs.Acts.{Acted, act_here, act_live, thrown, closed, parted, nothing, catch_logged}
use Rattle.shim_semantics.specs.Places.{at, branches, route}
use Rattle.shim_semantics.specs.Quiets.{Advances}
use Rattle.shim_semantics.specs.Systems.{run}
use Rattle.shim_semantics.specs.Sound.{IsSound}
use Rattle.shim_semantics.specs.Trees.{Tree, Event, Own, Meet, Poison, Close, after}
use Rattle.shim_semantics.proofs.Leading.{route_rest}
use Rattle.shim_semantics.proofs.Replaced.{sound_at}
use Rattle.shim_semantics.proofs.SoundEvents.{here_keeps, events_keep_sound, runs_stay_sound}
use Rattle.shim_semantics.proofs.MeetStays.{meeting_stays}
use Rattle.shim_laws_schedules.proofs.Lengths.{went_on}
use Rattle.shim_base.proofs.Facts.{some_same, none_some, cond_some}
use Rattle.shim_laws_table.specs.NodeStatus.{ProcessStatus, lives, forks, ends, dies, seen, process_status, is_leaf, place}
use Rattle.shim_laws_table.specs.Agrees.{RecordView, used, Has, Agrees, Rooted, Represents, StartRepresents}
use Rattle.shim_laws_table.specs.Places.{IsBy, IsReplaced, got, killed, seen_killed}
use Rattle.shim_laws_table.specs.Changes.{HasChanged, HasForked, HasClosed, HaveReceived, HaveDied, segment, prevailing_among, EventsPreserve, OneChangeIsRepresented}
use Rattle.shim_laws_table.proofs.SameTrees.{same_or_not, aside_or_further, is_put, seen_live, seen_fork}
use Rattle.shim_laws_table.proofs.OneChange.{one_state, agrees_changed}
use Rattle.shim_laws_table.proofs.Forking.{agrees_forked}
use Rattle.shim_laws_table.proofs.Closing.{one_less, agrees_closed}
use Rattle.shim_laws_table.proofs.Meeting.{agrees_met}
use Rattle.shim_laws_table.proofs.Poisoning.{agrees_poisoned}
use Rattle.shim_laws_table.proofs.Children.{children_are_represented}
use Rattle.shim_laws_table.proofs.EventPlaces.{has_met as met_root, events_show}

branches_both : (p q : Path) → branches (p ++ q) ≡ branches p ++ branches q
branches_both [] q = refl
branches_both (x ∷ p) q = ap (λ z. x.1 ∷ z) (branches_both p q)

-- the place of a path that goes on by one pair
pub place_further : (rp p r : Path) (x : ℕ × ℕ) → length rp ≤ length p → r ≡ p ++ x ∷ [] → branches (drop (length rp) r) ≡ branches (drop (length rp) p) ++ x.1 ∷ []
place_further rp p r x h e =
    ap (λ z. branches (drop (length rp) z)) e ∙ (ap branches (drop-append-le (length rp) p (x ∷ []) h) ∙ branches_both (drop (length rp) p) (x ∷ []))

nothing_before : (b : ℕ) (q : List ℕ) → [] ≡ q ++ b ∷ [] → ⊥
nothing_before b [] e = cc
nothing_before b (x ∷ q) e = cc

thrown_leaf : {S : Type 0} (o : Ops S) (l : S) (d : Death) → is_leaf (thrown o l d).node ≡ true
thrown_leaf {S = S} o l d = on (ltb d.label (o.base l))
  where
    on : (b : Bool) → is_leaf (cond {A = Acted S} b (record { node = Dead l d; effects = nothing }) (record { node = Live (o.unwind l d.label (handed d.given)); effects = catch_logged (o.handler l d.label) })).node ≡ true
    on true = refl
    on false = refl

closed_leaf : {S : Type 0} (o : Ops S) (l : S) (ks : List S) (d : Option Death) → is_leaf (closed o l ks d).node ≡ true
closed_leaf o l ks None = refl
closed_leaf o l ks (Some d) = thrown_leaf o (o.join l ks false) d

module _ {S : Type 0} (o : Ops S) (law : LocalLaws o) where
  -- what is known of a process that acts, by its record
  record Acts (rp : Path) (l : S) (m : Node S) (p : Path) (old new : Node S) : Type 0 where
    pub acted : Acted S
    pub acts : act_here o m ≡ Some acted
    pub within : length rp ≤ length p
    pub replaced : IsReplaced (place o rp l) m acted.node old new

  acts_by : (rp : Path) (l : S) (m : Node S) (t u : Tree S) (e : Event) → o.path (state t.root) ≡ rp → IsBy (o.path l) e → after o e t ≡ Some u → at (place o rp l) t.root ≡ Some m → Acts rp l m (o.path l) t.root u.root
  acts_by rp l m t u e root by h there =
      let x = (events_show o law).alone t u (o.path l) e by h in
      let r = route_rest rp (o.path l) x.place (ap (λ z. route z (o.path l)) (sym root) ∙ x.leads) in
      let same : x.node ≡ m = some_same x.node m (sym x.replaced.was ∙ (ap (λ z. at z t.root) r.1 ∙ there)) in
      record {
        acted = x.acted;
        acts = ap (act_here o) (sym same) ∙ x.acts;
        within = r.0;
        replaced = record {
          was = there;
          is = ap (λ z. at z u.root) (sym r.1) ∙ x.replaced.is;
          aside = λ p far. x.replaced.aside p (λ s w. far s (w ∙ ap (λ z. z ++ s) r.1));
        };
      }

  -- what a tree keeps through any event
  shows_after : (rp : Path) (before behind : List S) (old_views views : List RecordView) (t u : Tree S) (e : Event) → Represents o rp before old_views t.root → after o e t ≡ Some u → Rooted o rp behind views → Agrees o rp behind views u.root → Represents o rp behind views u.root
  shows_after rp before behind old_views views t u e s h r ok = record {
    sound = (events_keep_sound o law).kept t s.sound e u h;
    root_path = (events_show o law).root_path t u e s.sound h ∙ s.root_path;
    rooted = r;
    agrees = ok;
  }

  -- the path of what a process leaves in its place
  act_path : (q : List ℕ) (root m : Node S) (a : Acted S) → IsSound o root → at q root ≡ Some m → act_here o m ≡ Some a → o.path (state a.node) ≡ o.path (state m)
  act_path q root m a s e h = (here_keeps o law m a (sound_at o q root m s.below e) h).follows.path

  place_same : (rp : Path) (l m : S) → o.path m ≡ o.path l → place o rp m ≡ place o rp l
  place_same rp l m e = ap (λ z. branches (drop (length rp) z)) e

  -- ---- one record that has changed

  pub rooted_changed : (rp : Path) (before behind : List S) (old_views views : List RecordView) (i f : ℕ) (l m : S) (x k : ProcessStatus) → Rooted o rp before old_views → Has before old_views i f l x → o.path m ≡ o.path l → HasChanged before behind old_views views i m k → Rooted o rp behind views
  rooted_changed rp before behind old_views views i f l m x k r has same changed = elim (same_or_not 0 i) [
    | inl w ↦
        let old : r.state ≡ l = one_state before old_views 0 r.first f r.state l r.status x r.has (subst (λ z. Has before old_views z f l x) (sym w) has) in
        record { first = changed.first; state = m; status = k; has = subst (λ z. Has behind views z changed.first m k) (sym w) changed.mine; at_root = place_same rp l m same ∙ (ap (place o rp) (sym old) ∙ r.at_root) }
    | inr n ↦ record { first = r.first; state = r.state; status = r.status; has = changed.others 0 r.first r.state r.status n r.has; at_root = r.at_root }
  ]

  stepped : (rp : Path) (before behind : List S) (old_views views : List RecordView) (t u : Tree S) (e : Event) (i f : ℕ) (l : S) (a : Acted S)
      → Represents o rp before old_views t.root → Has before old_views i f l lives → IsBy (o.path l) e → after o e t ≡ Some u → act_live o l (o.stop l) ≡ Some a → is_leaf a.node ≡ true
      → HasChanged before behind old_views views i (state a.node) (process_status a.node) → Represents o rp behind views u.root
  stepped rp before behind old_views views t u e i f l a s has by h act leaf changed =
      let there : at (place o rp l) t.root ≡ Some (Live l) = seen_live (at (place o rp l) t.root) l (s.agrees.shown i f l lives has) in
      let x = acts_by rp l (Live l) t u e s.root_path by h there in
      let same : x.acted ≡ a = some_same x.acted a (sym x.acts ∙ act) in
      let path : o.path (state a.node) ≡ o.path l = act_path (place o rp l) t.root (Live l) a s.sound there act in
      let rest : IsReplaced (place o rp l) (Live l) a.node t.root u.root = subst (λ (z : Acted S). IsReplaced (place o rp l) (Live l) z.node t.root u.root) same x.replaced in
      let ok = agrees_changed o rp before behind old_views views t.root (Live l) a.node i f s.agrees has there refl leaf (place_same rp l (state a.node) path) changed in
      shows_after rp before behind old_views views t u e s h (rooted_changed rp before behind old_views views i f l (state a.node) lives (process_status a.node) s.rooted has path changed)
      (subst (Agrees o rp behind views) (sym (is_put (place o rp l) (Live l) a.node t.root u.root rest)) ok)

  -- ---- many quiet steps

  replaced_twice : (q : List ℕ) (m a b : Node S) (old mid new : Node S) → IsReplaced q m a old mid → IsReplaced q a b mid new → IsReplaced q m b old new
  replaced_twice q m a b old mid new x y = record { was = x.was; is = y.is; aside = λ p far. y.aside p far ∙ x.aside p far }

  quiet_path : (n : ℕ) (l m : S) → o.sound l → QuietSteps o n l m → o.path m ≡ o.path l
  quiet_path zero l m sound taken = ap o.path (sym (some_same l m taken))
  quiet_path (suc n) l m sound taken =
      let first = first_quiet o n l m taken in
      let moved = by_quiet first.0 refl in
      quiet_path n (o.quiet l) m (law.moved_sound l (o.quiet l) sound moved) first.1 ∙ law.moved_path l (o.quiet l) sound moved

  abbrev quieted : S → Acted S
  quieted l = record { node = Live (o.quiet l); effects = nothing }

  all_replaced : (rp : Path) (n : ℕ) (l last : S) (p : Path) (t u : Tree S) → QuietSteps o n l last → IsSound o t.root → o.path (state t.root) ≡ rp → p ≡ o.path l → at (place o rp l) t.root ≡ Some (Live l) → run (after o) (replicate n (Own p)) t ≡ Some u
      → IsReplaced (place o rp l) (Live l) (Live last) t.root u.root
  all_replaced rp zero l last p t u taken s root is there h =
      subst (λ z. IsReplaced (place o rp l) (Live l) (Live z) t.root u.root) (some_same l last taken)
      (subst (λ (z : Tree S). IsReplaced (place o rp l) (Live l) (Live l) t.root z.root) (some_same t u h) (record { was = there; is = there; aside = λ p far. refl }))
  all_replaced rp (suc n) l last p t u taken s root is there h =
      let first = first_quiet o n l last taken in
      let x = went_on (run (after o) (replicate n (Own p))) (after o (Own p) t) u h in
      let y = acts_by rp l (Live l) t x.0 (Own p) root is x.1 there in
      let does : act_here o (Live l) ≡ Some (quieted l) = ap (act_live o l) first.0 in
      let same : y.acted ≡ quieted l = some_same y.acted (quieted l) (sym y.acts ∙ does) in
      let one : IsReplaced (place o rp l) (Live l) (Live (o.quiet l)) t.root x.0.root = subst (λ (z : Acted S). IsReplaced (place o rp l) (Live l) z.node t.root x.0.root) same y.replaced in
      let path : o.path (o.quiet l) ≡ o.path l = law.moved_path l (o.quiet l) (sound_at o (place o rp l) t.root (Live l) s.below there) (by_quiet first.0 refl) in
      let stays = place_same rp l (o.quiet l) path in
      let rest = all_replaced rp n (o.quiet l) last p x.0 u first.1 ((events_keep_sound o law).kept t s (Own p) x.0 x.1) ((events_show o law).root_path t x.0 (Own p) s x.1 ∙ root) (is ∙ sym path)
      (ap (λ z. at z x.0.root) stays ∙ one.is) x.2 in
      replaced_twice (place o rp l) (Live l) (Live (o.quiet l)) (Live last) t.root x.0.root u.root one (subst (λ z. IsReplaced z (Live (o.quiet l)) (Live last) x.0.root u.root) stays rest)

  advanced : (rp : Path) (before behind : List S) (old_views views : List RecordView) (t u : Tree S) (i f n : ℕ) (l last : S)
      → Represents o rp before old_views t.root → Has before old_views i f l lives → QuietSteps o n l last → Advances o (o.path l) n t u
      → HasChanged before behind old_views views i last lives → Represents o rp behind views u.root
  advanced rp before behind old_views views t u i f n l last s has taken h changed =
      let there : at (place o rp l) t.root ≡ Some (Live l) = seen_live (at (place o rp l) t.root) l (s.agrees.shown i f l lives has) in
      let path = quiet_path n l last (sound_at o (place o rp l) t.root (Live l) s.sound.below there) taken in
      let x = all_replaced rp n l last (o.path l) t u taken s.sound s.root_path refl there h in
      let ok = agrees_changed o rp before behind old_views views t.root (Live l) (Live last) i f s.agrees has there refl refl (place_same rp l last path) changed in
      record {
        sound = runs_stay_sound o law t u (replicate n (Own (o.path l))) s.sound h;
        root_path = run_path (replicate n (Own (o.path l))) t u s.sound h ∙ s.root_path;
        rooted = rooted_changed rp before behind old_views views i f l last lives lives s.rooted has path changed;
        agrees = subst (Agrees o rp behind views) (sym (is_put (place o rp l) (Live l) (Live last) t.root u.root x)) ok;
      }
    where
      run_path : (es : List Event) (t u : Tree S) → IsSound o t.root → run (after o) es t ≡ Some u → o.path (state u.root) ≡ o.path (state t.root)
      run_path [] t u s e = ap (λ (z : Tree S). o.path (state z.root)) (sym (some_same t u e))
      run_path (e ∷ es) t u s h =
          let x = went_on (run (after o) es) (after o e t) u h in
          run_path es x.0 u ((events_keep_sound o law).kept t s e x.0 x.1) x.2 ∙ (events_show o law).root_path t x.0 e s x.1

  -- ---- a fork

  child_path : (p : Path) (base f i : ℕ) (ks : List S) → AreChildren o p base f i ks → (b : ℕ) (k : S) → slice_get ks b ≡ Some k → o.path k ≡ p ++ (f, i + b) ∷ []
  child_path p base f i [] h b k e = none_some k e
  child_path p base f i (j ∷ ks) h zero k e = let w : i ≡ i + zero = omega arith in ap o.path (sym (some_same j k e)) ∙ (h.0 ∙ ap (λ z. p ++ (f, z) ∷ []) w)
  child_path p base f i (j ∷ ks) h (suc b) k e = let w : i + 1 + b ≡ i + suc b = omega arith in child_path p base f (i + 1) ks h.2 b k e ∙ ap (λ z. p ++ (f, z) ∷ []) w

  abbrev forks_so : (p : S) (ks : List S) → S → Acted S
  forks_so p ks l = record { node = Forked p (all_live ks); effects = nothing }

  forked : (rp : Path) (before behind : List S) (old_views views : List RecordView) (t u : Tree S) (i f g : ℕ) (l p : S) (ks : List S)
      → Represents o rp before old_views t.root → Has before old_views i f l lives → after o (Own (o.path l)) t ≡ Some u → o.stop l ≡ AtFork → o.fork l ≡ Parted p ks
      → HasForked before behind old_views views i g p ks → Represents o rp behind views u.root
  forked rp before behind old_views views t u i f g l p ks s has h stop parts changed =
      let q = place o rp l in
      let there : at (place o rp l) t.root ≡ Some (Live l) = seen_live (at q t.root) l (s.agrees.shown i f l lives has) in
      let sound = sound_at o q t.root (Live l) s.sound.below there in
      let x = acts_by rp l (Live l) t u (Own (o.path l)) s.root_path refl h there in
      let does : act_here o (Live l) ≡ Some (forks_so p ks l) = ap (act_live o l) stop ∙ ap (λ z. Some (record { node = parted z; effects = nothing })) parts in
      let same : x.acted ≡ forks_so p ks l = some_same x.acted (forks_so p ks l) (sym x.acts ∙ does) in
      let rest : IsReplaced (place o rp l) (Live l) (Forked p (all_live ks)) t.root u.root = subst (λ (z : Acted S). IsReplaced q (Live l) z.node t.root u.root) same x.replaced in
      let path : o.path p ≡ o.path l = act_path q t.root (Live l) (forks_so p ks l) s.sound there does in
      let born = law.fork_children l p ks sound (stop, parts) in
      let its : (b : ℕ) (k : S) → slice_get ks b ≡ Some k → place o rp k ≡ place o rp l ++ b ∷ [] = λ b k e.
      place_further rp (o.path l) (o.path k) (born.0, 0 + b) x.within (child_path (o.path l) (o.handlers l) born.0 0 ks born.1 b k e) ∙ ap (λ z. place o rp l ++ z ∷ []) (zero_and b) in
      let ok = agrees_forked o rp before behind old_views views t.root i f g l p ks s.agrees has changed (place_same rp l p path) its in
      shows_after rp before behind old_views views t u (Own (o.path l)) s h (root path) (subst (Agrees o rp behind views) (sym (is_put q (Live l) (Forked p (all_live ks)) t.root u.root rest)) ok)
    where
      zero_and : (b : ℕ) → 0 + b ≡ b
      zero_and b = omega arith

      root : o.path p ≡ o.path l → Rooted o rp behind views
      root path = elim (same_or_not 0 i) [
        | inl w ↦
            let old : s.rooted.state ≡ l = one_state before old_views 0 s.rooted.first f s.rooted.state l s.rooted.status lives s.rooted.has (subst (λ z. Has before old_views z f l lives) (sym w) has) in
            record { first = g; state = p; status = forks (length ks); has = subst (λ z. Has behind views z g p (forks (length ks))) (sym w) changed.parent; at_root = place_same rp l p path ∙ (ap (place o rp) (sym old) ∙ s.rooted.at_root) }
        | inr n ↦ record { first = s.rooted.first; state = s.rooted.state; status = s.rooted.status; has = changed.others 0 s.rooted.first s.rooted.state s.rooted.status n s.rooted.has; at_root = s.rooted.at_root }
      ]

  -- ---- a close

  closed_there : (l : S) (ks : Nodes S) (a : Acted S) → act_here o (Forked l ks) ≡ Some a → (all_done ks ≡ true) × (closed o l (states ks) (prevailing_death ks) ≡ a)
  closed_there l ks a e = cond_some (all_done ks) (closed o l (states ks) (prevailing_death ks)) a e

  has_closed : (rp : Path) (before behind : List S) (old_views views : List RecordView) (t u : Tree S) (i g n : ℕ) (l : S) (a : Acted S)
      → Represents o rp before old_views t.root → Has before old_views i g l (forks n) → after o (Close (o.path l)) t ≡ Some u → a ≡ closed o l (segment g n before) (prevailing_among (segment g n old_views))
      → HasClosed before behind old_views views i g n (state a.node) (process_status a.node) → Represents o rp behind views u.root
  has_closed rp before behind old_views views t u i g n l a s has h is changed =
      let q = place o rp l in
      let k = seen_fork (at q t.root) l n (s.agrees.shown i g l (forks n) has) in
      let ks = k.0 in
      let there = k.1 in
      let kids = children_are_represented o rp before old_views t.root i g n l ks s.agrees has there in
      let x = acts_by rp l (Forked l ks) t u (Close (o.path l)) s.root_path refl h there in
      let w = closed_there l ks x.acted x.acts in
      let same : x.acted ≡ a = sym w.1 ∙ ((λ j. closed o l (kids.1 j) (kids.2 j)) ∙ sym is) in
      let rest : IsReplaced (place o rp l) (Forked l ks) a.node t.root u.root = subst (λ (z : Acted S). IsReplaced q (Forked l ks) z.node t.root u.root) same x.replaced in
      let path : o.path (state a.node) ≡ o.path l = act_path q t.root (Forked l ks) a s.sound there (x.acts ∙ ap Some same) in
      let leaf : is_leaf a.node ≡ true = ap (λ (z : Acted S). is_leaf z.node) is ∙ closed_leaf o l (segment g n before) (prevailing_among (segment g n old_views)) in
      let many = kids.0 in
      let ok = agrees_closed o rp before behind old_views views t.root i g l ks a.node s.agrees (subst (λ z. Has before old_views i g l (forks z)) (sym many) has) there w.0
      (subst (λ z. HasClosed before behind old_views views i g z (state a.node) (process_status a.node)) (sym many) changed) leaf (place_same rp l (state a.node) path) in
      shows_after rp before behind old_views views t u (Close (o.path l)) s h (root path) (subst (Agrees o rp behind views) (sym (is_put q (Forked l ks) a.node t.root u.root rest)) ok)
    where
      root : o.path (state a.node) ≡ o.path l → Rooted o rp behind views
      root path = elim (same_or_not 0 i) [
        | inl w ↦
            let old : s.rooted.state ≡ l = one_state before old_views 0 s.rooted.first g s.rooted.state l s.rooted.status (forks n) s.rooted.has (subst (λ z. Has before old_views z g l (forks n)) (sym w) has) in
            record { first = changed.first; state = state a.node; status = process_status a.node; has = subst (λ z. Has behind views z changed.first (state a.node) (process_status a.node)) (sym w) changed.parent; at_root = place_same rp l (state a.node) path ∙ (ap (place o rp) (sym old) ∙ s.rooted.at_root) }
        | inr other ↦ record {
          first = s.rooted.first;
          state = s.rooted.state;
          status = s.rooted.status;
          has = changed.others 0 s.rooted.first s.rooted.state s.rooted.status other
              (λ b less e. let z = s.agrees.below i g n l has b less in
              let same = one_state before old_views 0 s.rooted.first z.0 s.rooted.state z.1 s.rooted.status z.2 s.rooted.has (subst (λ y. Has before old_views y z.0 z.1 z.2) (sym e) z.3) in
              nothing_before b (place o rp l) (sym s.rooted.at_root ∙ (ap (place o rp) same ∙ z.4)))
              s.rooted.has;
          at_root = s.rooted.at_root;
        }
      ]

  -- ---- a rendezvous

  got_path : (rp : Path) (c : Channel) (v : ℤ) (s : S) (k : ProcessStatus) → (k ≡ lives → o.sound s) → o.path (got o c v k s) ≡ o.path s
  got_path rp c v s lives sound = (meeting_stays o law c v (Live s) (sound refl)).follows.path
  got_path rp c v s (forks n) sound = refl
  got_path rp c v s ends sound = refl
  got_path rp c v s (dies d) sound = refl

  has_met : (rp : Path) (before behind : List S) (views : List RecordView) (t u : Tree S) (c : Channel) (v : ℤ)
      → Represents o rp before views t.root → after o (Meet c) t ≡ Some u → v ≡ value_of o c (source o c t.root) → HaveReceived o c v views before behind → Represents o rp behind views u.root
  has_met rp before behind views t u c v s h is changed =
      let ok = agrees_met o c v rp before behind views t.root changed (λ i f l k has. stays i f l k has) s.agrees in
      let r = s.rooted in
      shows_after rp before behind views views t u (Meet c) s h
      (record { first = r.first; state = got o c v r.status r.state; status = r.status; has = record { state_is = changed.gets 0 r.first r.state r.status r.has; view_is = r.has.view_is }; at_root = stays 0 r.first r.state r.status r.has ∙ r.at_root })
      (subst (Agrees o rp behind views) (sym (met_root o t u c h ∙ ap (λ z. received o c z t.root) (sym is))) ok)
    where
      stays : (i f : ℕ) (l : S) (k : ProcessStatus) → Has before views i f l k → place o rp (got o c v k l) ≡ place o rp l
      stays i f l k has = place_same rp l (got o c v k l) (got_path rp c v l k (λ e.
          sound_at o (place o rp l) t.root (Live l) s.sound.below (seen_live (at (place o rp l) t.root) l (s.agrees.shown i f l k has ∙ ap (λ z. Some (l, z)) e))))

  -- ---- a poison

  has_poisoned : (rp : Path) (states' : List S) (old_views views : List RecordView) (t u : Tree S) (c : Channel) (i f g b n : ℕ) (l k : S) (x : ProcessStatus)
      → Represents o rp states' old_views t.root → Has states' old_views i g l (forks n) → b < n → Has states' old_views (g + b) f k x → after o (Poison (o.path k) c) t ≡ Some u
      → HaveDied o rp (place o rp k) c (death (o.handlers l - 1)) states' old_views views → Represents o rp states' views u.root
  has_poisoned rp states' old_views views t u c i f g b n l k x s has less child h changed =
      let y = (events_show o law).poisons t u (o.path k) c h in
      let r = route_rest rp (o.path k) (y.fork_place ++ y.branch ∷ []) (ap (λ z. route z (o.path k)) (sym s.root_path) ∙ y.leads) in
      let z = s.agrees.below i g n l has b less in
      let same : k ≡ z.1 = one_state states' old_views (g + b) f z.0 k z.1 x z.2 child z.3 in
      let at_child : y.fork_place ++ y.branch ∷ [] ≡ place o rp l ++ b ∷ [] = r.1 ∙ (ap (place o rp) same ∙ z.4) in
      let fork_is : y.fork_place ≡ place o rp l = one_less y.fork_place (place o rp l) y.branch b at_child in
      let w = seen_fork (at (place o rp l) t.root) l n (s.agrees.shown i g l (forks n) has) in
      let parent : y.parent ≡ l = ap state (some_same (Forked y.parent y.children) (Forked l w.0) (sym y.fork ∙ (ap (λ z. at z t.root) fork_is ∙ w.1))) in
      let d : death (o.handlers y.parent - 1) ≡ death (o.handlers l - 1) = ap (λ z. death (o.handlers z - 1)) parent in
      let ok = agrees_poisoned o c rp (place o rp k) (death (o.handlers l - 1)) states' old_views views t.root u.root s.agrees changed
      (λ r'. ap (λ z. seen (at (z ++ r') u.root)) (sym r.1) ∙ (y.killed r' ∙ (λ j. seen_killed o c (d j) (seen (at (r.1 j ++ r') t.root)))))
      (λ p far. y.aside p (λ r' e. far r' (e ∙ ap (λ z. z ++ r') r.1))) in
      shows_after rp states' states' old_views views t u (Poison (o.path k) c) s h (root changed) ok
    where
      root : HaveDied o rp (place o rp k) c (death (o.handlers l - 1)) states' old_views views → Rooted o rp states' views
      root changed = elim (aside_or_further (place o rp k) (place o rp s.rooted.state)) [
        | inl far ↦ record { first = s.rooted.first; state = s.rooted.state; status = s.rooted.status; has = record { state_is = s.rooted.has.state_is; view_is = changed.aside 0 s.rooted.first s.rooted.state s.rooted.status s.rooted.has far }; at_root = s.rooted.at_root }
        | inr far ↦ record { first = s.rooted.first; state = s.rooted.state; status = killed o c (death (o.handlers l - 1)) s.rooted.state s.rooted.status; has = record { state_is = s.rooted.has.state_is; view_is = changed.below 0 s.rooted.first s.rooted.state s.rooted.status far.0 s.rooted.has far.1 }; at_root = s.rooted.at_root }
      ]

  pub events_preserve : EventsPreserve o
  events_preserve = record {
    stepped = stepped;
    advanced = advanced;
    forked = forked;
    closed = has_closed;
    met = has_met;
    poisoned = has_poisoned;
  }

module _ {S : Type 0} (o : Ops S) where
  pub one_change_is_represented : OneChangeIsRepresented o
  one_change_is_represented rp before behind old_views views old new m a i f ok has leaf leaf' path x changed =
      subst (Agrees o rp behind views) (sym (is_put (place o rp (state m)) m a old new x))
      (agrees_changed o rp before behind old_views views old m a i f ok has x.was leaf leaf' (ap (λ z. branches (drop (length rp) z)) path) changed)

  own_branches : (p : Path) → branches (drop (length p) p) ≡ []
  own_branches [] = refl
  own_branches (x ∷ p) = own_branches p

  module _ (l : S) where
    abbrev One : ℕ → ℕ → S → ProcessStatus → Type 0
    One i f t k = Has (l ∷ []) (used 0 lives ∷ []) i f t k

    is_one : (i f : ℕ) (t : S) (k : ProcessStatus) → One i f t k → (i ≡ 0) × (t ≡ l) × (k ≡ lives)
    is_one zero f t k h = (refl, sym (some_same l t h.state_is), status_same (some_same (used 0 lives) (used f k) h.view_is))
      where
        status_same : used 0 lives ≡ used f k → k ≡ lives
        status_same e = cc
    is_one (suc i) f t k h = none_some t h.state_is

    no_forks : (n : ℕ) → forks n ≡ lives → ⊥
    no_forks n e = absurd cc

    agrees_one : Agrees o (o.path l) (l ∷ []) (used 0 lives ∷ []) (Live l)
    agrees_one = record {
      shown = λ i f t k h. let w = is_one i f t k h in
          ap (λ z. seen (at (place o (o.path l) z) (Live l))) w.1 ∙ (ap (λ z. seen (at z (Live l))) (own_branches (o.path l)) ∙ (λ j. Some (sym w.1 j, sym w.2 j)));
      apart = λ i j f g t u k h a b e. (is_one i f t k a).0 ∙ sym (is_one j g u h b).0;
      below = λ i f n t h. absurd (no_forks n (is_one i f t (forks n) h).2);
    }

  pub start_represents : StartRepresents o
  start_represents l s = record {
    sound = s;
    root_path = refl;
    rooted = record { first = 0; state = l; status = lives; has = record { state_is = refl; view_is = refl }; at_root = own_branches (o.path l) };
    agrees = agrees_one l;
  }
