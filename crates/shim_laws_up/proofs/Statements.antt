-- Each kind of statement binds as before with its names replaced, where its parts do.
use Rattle.std.proofs.Common.{ℕ, ◌+◌, ◌≡◌, ◌∙◌, List, [], ◌∷◌, ◌++◌, Option, Some, None, Ok, map, length, refl, sym, ap}
use Rattle.std.specs.Option.{option_map}
use Rattle.std.specs.Str.{bytes_eq}
use Rattle.std.proofs.lemmas.List.{map-append}
use Rattle.shim_base.specs.declared.types.Ty.{Ty}
use Rattle.shim_base.specs.declared.types.Ty.TheVariants.{Int32}
use Rattle.shim_syntax.specs.declared.tree.Sort.{Sort}
use Rattle.shim_syntax.specs.declared.tree.Sort.TheVariants.{Value}
use Rattle.shim_syntax.specs.declared.tree.Expr.{Expr}
use Rattle.shim_scopes.specs.declared.fault.ScopeKind.TheVariants.{UnknownName, UnknownException, Twice, WrongKind}
use Rattle.shim_scopes.specs.declared.scope.LocalDeclaration.{LocalDeclaration}
use Rattle.shim_scopes.specs.declared.tree.RStmt.{RStmt}
use Rattle.shim_scopes.specs.declared.tree.RWhat.{RWhat}
use Rattle.shim_scopes.specs.declared.tree.RWhat.TheVariants as bt
use Rattle.shim_scopes.specs.declared.tree.UExpr.{UExpr}
use Rattle.shim_scopes.specs.Binding.{unknown, unknown_in, unknown_in_option, stream_in, stream_in_option, no_number, no_input, no_output, slot_of, placed, placed_option, exception_number}
use Rattle.shim_syntax.specs.Names.{Texts, name_index}
use Rattle.shim_scopes.specs.Statements.{Whole, Around, Before, Bind, with_declaration, local_of, inside_block, opened, with_handled, tried, variable_declared, variable_slot, bind_handler, bind_declare, bind_store, bind_next, bind_assign_next, bind_get, bind_put, bind_throw, bind_block, on_tree, bind_two, bind_test, bind_if, bind_while, bind_try, bind_parts, bind_first_test, bind_for, visible}
use Rattle.shim_scopes.proofs.Refusals.{bound}
use Rattle.shim_up.specs.Renaming.{Renaming, renamed_expr, renamed_option, renamed_variable}
use Rattle.shim_laws_up.specs.Around.{local_renamed, handled_renamed, whole_renamed, around_renamed, before_renamed, bound_renamed, answer_renamed, Follows}
use Rattle.shim_laws_up.proofs.Around.{refused, followed}
use Rattle.shim_laws_up.proofs.Names.{both_or, unknown_same, unhandled_same, number_same, slot_same, no_number_same, no_input_same, no_output_same, declared_in_same, number_of_same}
use Rattle.shim_laws_up.proofs.Exprs.{expr_is, option_unknown, option_stream, option_placed}

-- the same tree and what then stands before the next place
pub bound_same : {T : Type 0} (t u : T) (b c : Before) → t ≡ u → b ≡ c → bound t b ≡ bound u c
bound_same t u b c p q = ap (λ x. bound x b) p ∙ ap (λ y. bound u y) q

module _ (f : Renaming) (same : (x y : List ℕ) → bytes_eq (f x) (f y) ≡ bytes_eq x y) where
  abbrev locals : List LocalDeclaration → List LocalDeclaration
  locals around = map (local_renamed f) around

  abbrev seen_by : Around → Before → List LocalDeclaration
  seen_by a b = visible (around_renamed f a) (before_renamed f b)

  pub seen : (a : Around) (b : Before) → seen_by a b ≡ locals (visible a b)
  seen a b = sym (map-append (local_renamed f) a.outer b.own)

  unknown_option : (a : Around) (b : Before) (e : Option Expr) → unknown_in_option (seen_by a b) (renamed_option f e) ≡ option_map f (unknown_in_option (visible a b) e)
  unknown_option a b e = ap (λ ls. unknown_in_option ls (renamed_option f e)) (seen a b) ∙ option_unknown f same (visible a b) e

  stream_option : (a : Around) (b : Before) (e : Option Expr) → stream_in_option (seen_by a b) (renamed_option f e) ≡ option_map f (stream_in_option (visible a b) e)
  stream_option a b e = ap (λ ls. stream_in_option ls (renamed_option f e)) (seen a b) ∙ option_stream f same (visible a b) e

  placed_opt : (a : Around) (b : Before) (e : Option Expr) → placed_option (seen_by a b) (renamed_option f e) ≡ placed_option (visible a b) e
  placed_opt a b e = ap (λ ls. placed_option ls (renamed_option f e)) (seen a b) ∙ option_placed f same (visible a b) e

  unknown_expr : (a : Around) (b : Before) (e : Expr) → unknown_in (seen_by a b) (renamed_expr f e) ≡ option_map f (unknown_in (visible a b) e)
  unknown_expr a b e = ap (λ ls. unknown_in ls (renamed_expr f e)) (seen a b) ∙ (expr_is f same e).unknown (visible a b)

  stream_expr : (a : Around) (b : Before) (e : Expr) → stream_in (seen_by a b) (renamed_expr f e) ≡ option_map f (stream_in (visible a b) e)
  stream_expr a b e = ap (λ ls. stream_in ls (renamed_expr f e)) (seen a b) ∙ (expr_is f same e).stream (visible a b)

  placed_expr : (a : Around) (b : Before) (e : Expr) → placed (seen_by a b) (renamed_expr f e) ≡ placed (visible a b) e
  placed_expr a b e = ap (λ ls. placed ls (renamed_expr f e)) (seen a b) ∙ (expr_is f same e).placed (visible a b)

  unknown_name : (a : Around) (b : Before) (x : List ℕ) → unknown (seen_by a b) (f x) ≡ option_map f (unknown (visible a b) x)
  unknown_name a b x = ap (λ ls. unknown ls (f x)) (seen a b) ∙ unknown_same f same (visible a b) x

  no_number_name : (a : Around) (b : Before) (x : List ℕ) → no_number (seen_by a b) (f x) ≡ option_map f (no_number (visible a b) x)
  no_number_name a b x = ap (λ ls. no_number ls (f x)) (seen a b) ∙ no_number_same f same (visible a b) x

  no_input_name : (a : Around) (b : Before) (x : List ℕ) → no_input (seen_by a b) (f x) ≡ option_map f (no_input (visible a b) x)
  no_input_name a b x = ap (λ ls. no_input ls (f x)) (seen a b) ∙ no_input_same f same (visible a b) x

  no_output_name : (a : Around) (b : Before) (x : List ℕ) → no_output (seen_by a b) (f x) ≡ option_map f (no_output (visible a b) x)
  no_output_name a b x = ap (λ ls. no_output ls (f x)) (seen a b) ∙ no_output_same f same (visible a b) x

  slot_name : (a : Around) (b : Before) (x : List ℕ) → slot_of (seen_by a b) (f x) ≡ slot_of (visible a b) x
  slot_name a b x = ap (λ ls. slot_of ls (f x)) (seen a b) ∙ slot_same f same (visible a b) x

  pub declared_same : (names : Texts) (x : List ℕ) (sort : Sort) (b : Before) → with_declaration (map f names) (f x) sort (before_renamed f b) ≡ before_renamed f (with_declaration names x sort b)
  declared_same names x sort b =
      ap (λ (n : ℕ). let c : Before = record { own = locals b.own ++ local_of (f x) sort (length b.slots) ∷ []; slots = b.slots ++ sort ∷ []; slot_names = b.slot_names ++ n ∷ []; tries = b.tries } in c) (number_of_same f same names x)
      ∙ ap (λ (ls : List LocalDeclaration). let c : Before = record { own = ls; slots = b.slots ++ sort ∷ []; slot_names = b.slot_names ++ name_index names x ∷ []; tries = b.tries } in c) (sym (map-append (local_renamed f) b.own (local_of x sort (length b.slots) ∷ [])))

  pub declare_follows : (w : Whole) (ty : Ty) (x : List ℕ) (e : Option Expr) (line : ℕ) → Follows f (bind_declare w ty x e line) (bind_declare (whole_renamed f w) ty (f x) (renamed_option f e) line)
  declare_follows w ty x e line a b =
      refused f (bound_renamed f) line UnknownName _ _ _ _ (unknown_option a b e)
      (refused f (bound_renamed f) line Twice _ _ _ _ (declared_in_same f same b.own x)
      (refused f (bound_renamed f) line WrongKind _ _ _ _ (stream_option a b e)
      (bound_same _ _ _ _ (ap (λ (o : Option UExpr). bt.Declare ty (length b.slots) o) (placed_opt a b e)) (declared_same w.names x (Value ty) b))))

  pub store_follows : (g : ℕ → UExpr → RWhat) (x : List ℕ) (e : Expr) (line : ℕ) → Follows f (bind_store g x e line) (bind_store g (f x) (renamed_expr f e) line)
  store_follows g x e line a b =
      refused f (bound_renamed f) line UnknownName _ _ _ _ (both_or f _ _ _ _ (unknown_name a b x) (unknown_expr a b e))
      (refused f (bound_renamed f) line WrongKind _ _ _ _ (both_or f _ _ _ _ (no_number_name a b x) (stream_expr a b e))
      (bound_same _ _ _ _ (ap (λ (s : ℕ). g s (placed (seen_by a b) (renamed_expr f e))) (slot_name a b x) ∙ ap (λ (u : UExpr). g (slot_of (visible a b) x) u) (placed_expr a b e)) refl))

  pub next_follows : (x : List ℕ) (line : ℕ) → Follows f (bind_next x line) (bind_next (f x) line)
  next_follows x line a b =
      refused f (bound_renamed f) line UnknownName _ _ _ _ (unknown_name a b x)
      (refused f (bound_renamed f) line WrongKind _ _ _ _ (no_number_name a b x)
      (bound_same _ _ _ _ (ap bt.Next (slot_name a b x)) refl))

  two_slots : (g : ℕ → ℕ → RWhat) (a : Around) (b : Before) (x y : List ℕ) → g (slot_of (seen_by a b) (f x)) (slot_of (seen_by a b) (f y)) ≡ g (slot_of (visible a b) x) (slot_of (visible a b) y)
  two_slots g a b x y = ap (λ (s : ℕ). g s (slot_of (seen_by a b) (f y))) (slot_name a b x) ∙ ap (λ (s : ℕ). g (slot_of (visible a b) x) s) (slot_name a b y)

  pub assign_next_follows : (x y : List ℕ) (line : ℕ) → Follows f (bind_assign_next x y line) (bind_assign_next (f x) (f y) line)
  assign_next_follows x y line a b =
      refused f (bound_renamed f) line UnknownName _ _ _ _ (both_or f _ _ _ _ (unknown_name a b x) (unknown_name a b y))
      (refused f (bound_renamed f) line WrongKind _ _ _ _ (both_or f _ _ _ _ (no_number_name a b x) (no_number_name a b y))
      (bound_same _ _ _ _ (two_slots bt.AssignNext a b x y) refl))

  pub get_follows : (x y : List ℕ) (line : ℕ) → Follows f (bind_get x y line) (bind_get (f x) (f y) line)
  get_follows x y line a b =
      refused f (bound_renamed f) line UnknownName _ _ _ _ (both_or f _ _ _ _ (unknown_name a b x) (unknown_name a b y))
      (refused f (bound_renamed f) line WrongKind _ _ _ _ (both_or f _ _ _ _ (no_number_name a b x) (no_input_name a b y))
      (bound_same _ _ _ _ (two_slots bt.Get a b x y) refl))

  pub put_follows : (x : List ℕ) (e : Expr) (line : ℕ) → Follows f (bind_put x e line) (bind_put (f x) (renamed_expr f e) line)
  put_follows x e line a b =
      refused f (bound_renamed f) line UnknownName _ _ _ _ (both_or f _ _ _ _ (unknown_name a b x) (unknown_expr a b e))
      (refused f (bound_renamed f) line WrongKind _ _ _ _ (both_or f _ _ _ _ (no_output_name a b x) (stream_expr a b e))
      (bound_same _ _ _ _ (ap (λ (s : ℕ). bt.Put s (placed (seen_by a b) (renamed_expr f e))) (slot_name a b x) ∙ ap (λ (u : UExpr). bt.Put (slot_of (visible a b) x) u) (placed_expr a b e)) refl))

  pub throw_follows : (x : List ℕ) (e : Option Expr) (line : ℕ) → Follows f (bind_throw x e line) (bind_throw (f x) (renamed_option f e) line)
  throw_follows x e line a b =
      refused f (bound_renamed f) line UnknownName _ _ _ _ (unknown_option a b e)
      (refused f (bound_renamed f) line UnknownException _ _ _ _ (unhandled_same f same a.handled x)
      (refused f (bound_renamed f) line WrongKind _ _ _ _ (stream_option a b e)
      (bound_same _ _ _ _ (ap (λ (n : ℕ). bt.Throw n (placed_option (seen_by a b) (renamed_option f e))) (number_same f same a.handled x)
      ∙ ap (λ (o : Option UExpr). bt.Throw (exception_number a.handled x) o) (placed_opt a b e)) refl)))

  within_same : (a : Around) (b : Before) → inside_block (around_renamed f a) (before_renamed f b) ≡ around_renamed f (inside_block a b)
  within_same a b = ap (λ (ls : List LocalDeclaration). let c : Around = record { outer = ls; handled = map (handled_renamed f) a.handled; throws = a.throws } in c) (seen a b)

  pub block_follows : {T : Type 0} (g h : Bind T) → Follows f g h → Follows f (bind_block g) (bind_block h)
  block_follows g h k a b =
      followed f (bound_renamed f) (bound_renamed f) (g (inside_block a b) (opened b)) _ _ _
      (ap (λ c. h c (opened (before_renamed f b))) (within_same a b) ∙ k (inside_block a b) (opened b)) (λ r. refl)

  pub tree_follows : {S T : Type 0} (t : S → T) (g h : Bind S) → Follows f g h → Follows f (on_tree t g) (on_tree t h)
  tree_follows t g h k a b = followed f (bound_renamed f) (bound_renamed f) (g a b) _ _ _ (k a b) (λ r. refl)

  pub two_follow : {R S T : Type 0} (t : R → S → T) (g h : Bind R) (i j : Bind S) → Follows f g h → Follows f i j → Follows f (bind_two t g i) (bind_two t h j)
  two_follow t g h i j k l a b =
      followed f (bound_renamed f) (bound_renamed f) (g a b) _ _ _ (k a b) (λ r. followed f (bound_renamed f) (bound_renamed f) (i a r.before) _ _ _ (l a r.before) (λ s. refl))

  test_follows : (e : Expr) (line : ℕ) (a : Around) (b : Before) → bind_test (renamed_expr f e) line (around_renamed f a) (before_renamed f b) ≡ answer_renamed f (λ (u : UExpr). u) (bind_test e line a b)
  test_follows e line a b =
      refused f (λ (u : UExpr). u) line UnknownName _ _ _ _ (unknown_expr a b e)
      (refused f (λ (u : UExpr). u) line WrongKind _ _ _ _ (stream_expr a b e)
      (ap Ok (placed_expr a b e)))

  pub if_follows : (e : Expr) (g h i j : Bind (List RStmt)) (line : ℕ) → Follows f g h → Follows f i j → Follows f (bind_if e g i line) (bind_if (renamed_expr f e) h j line)
  if_follows e g h i j line k l a b =
      followed f (λ (u : UExpr). u) (bound_renamed f) (bind_test e line a b) _ _ _ (test_follows e line a b)
      (λ test. two_follow (bt.If test) (bind_block g) (bind_block h) (bind_block i) (bind_block j) (block_follows g h k) (block_follows i j l) a b)

  pub while_follows : (e : Expr) (g h : Bind (List RStmt)) (line : ℕ) → Follows f g h → Follows f (bind_while e g line) (bind_while (renamed_expr f e) h line)
  while_follows e g h line k a b =
      followed f (λ (u : UExpr). u) (bound_renamed f) (bind_test e line a b) _ _ _ (test_follows e line a b)
      (λ test. tree_follows (bt.While test) (bind_block g) (bind_block h) (block_follows g h k) a b)

  caught_same : (x : List ℕ) (a : Around) (b : Before) → with_handled (f x) (around_renamed f a) (before_renamed f b) ≡ around_renamed f (with_handled x a b)
  caught_same x a b =
      ap (λ hs. let c : Around = record { outer = locals a.outer; handled = hs; throws = a.throws } in c)
      (sym (map-append (handled_renamed f) a.handled (record { name = x; number = a.throws + length b.tries } ∷ [])))

  tried_same : (w : Whole) (x : List ℕ) (b : Before) → tried (whole_renamed f w) (f x) (before_renamed f b) ≡ before_renamed f (tried w x b)
  tried_same w x b =
      ap (λ (n : ℕ). let c : Before = record { own = locals b.own; slots = b.slots; slot_names = b.slot_names; tries = b.tries ++ n ∷ [] } in c) (number_of_same f same w.names x)

  variable_same : (names : Texts) (y : Option (List ℕ)) (b : Before) → variable_declared (map f names) (renamed_variable f y) (before_renamed f b) ≡ before_renamed f (variable_declared names y b)
  variable_same names None b = refl
  variable_same names (Some y) b = declared_same names y (Value Int32) b

  variable_slot_same : (y : Option (List ℕ)) (b : Before) → variable_slot (renamed_variable f y) (before_renamed f b) ≡ variable_slot y b
  variable_slot_same None b = refl
  variable_slot_same (Some y) b = refl

  handler_follows : (w : Whole) (y : Option (List ℕ)) (g h : Bind (List RStmt)) → Follows f g h → Follows f (bind_handler w y g) (bind_handler (whole_renamed f w) (renamed_variable f y) h)
  handler_follows w y g h k a b = ap (λ c. h (around_renamed f a) c) (variable_same w.names y b) ∙ k a (variable_declared w.names y b)

  pub try_follows : (w : Whole) (x : List ℕ) (y : Option (List ℕ)) (g h i j : Bind (List RStmt)) → Follows f g h → Follows f i j
      → Follows f (bind_try w x y g i) (bind_try (whole_renamed f w) (f x) (renamed_variable f y) h j)
  try_follows w x y g h i j k l a b =
      followed f (bound_renamed f) (bound_renamed f) (bind_block g (with_handled x a b) (tried w x b)) _ _ _
      (ap (λ c. bind_block h c (tried (whole_renamed f w) (f x) (before_renamed f b))) (caught_same x a b)
      ∙ ap (λ c. bind_block h (around_renamed f (with_handled x a b)) c) (tried_same w x b)
      ∙ block_follows g h k (with_handled x a b) (tried w x b))
      (λ r. followed f (bound_renamed f) (bound_renamed f) (bind_block (bind_handler w y i) a r.before) _ _ _
      (block_follows (bind_handler w y i) (bind_handler (whole_renamed f w) (renamed_variable f y) j) (handler_follows w y i j l) a r.before)
      (λ s. bound_same _ _ _ _ (ap (λ (o : Option ℕ). bt.Try r.tree (a.throws + length b.tries) o s.tree) (variable_slot_same y r.before)) refl))

  parts_follow : (test : Option Expr) (g h i j k l : Bind (List RStmt)) → Follows f g h → Follows f i j → Follows f k l → Follows f (bind_parts test g i k) (bind_parts (renamed_option f test) h j l)
  parts_follow test g h i j k l p q s a b =
      followed f (bound_renamed f) (bound_renamed f) (g a b) _ _ _ (p a b) (λ r.
      followed f (bound_renamed f) (bound_renamed f) (i a r.before) _ _ _ (q a r.before) (λ t.
      followed f (bound_renamed f) (bound_renamed f) (bind_block k a t.before) _ _ _ (block_follows k l s a t.before) (λ u.
      bound_same _ _ _ _ (ap (λ (o : Option UExpr). bt.For r.tree o t.tree u.tree) (placed_opt a r.before test)) refl)))

  first_test_follows : (declares others : ℕ → List LocalDeclaration) → ((slot : ℕ) → others slot ≡ locals (declares slot)) → (test : Option Expr) (line : ℕ) (a : Around) (b : Before)
      → bind_first_test others (renamed_option f test) line (around_renamed f a) (before_renamed f b) ≡ answer_renamed f (λ (u : Unit {0}). u) (bind_first_test declares test line a b)
  first_test_follows declares others each test line a b =
      let around : seen_by a b ++ others (length b.slots) ≡ locals (visible a b ++ declares (length b.slots)) =
      ap (λ ls. seen_by a b ++ ls) (each (length b.slots)) ∙ ap (λ ls. ls ++ locals (declares (length b.slots))) (seen a b) ∙ sym (map-append (local_renamed f) (visible a b) (declares (length b.slots))) in
      refused f (λ (u : Unit {0}). u) line UnknownName _ _ _ _ (ap (λ ls. unknown_in_option ls (renamed_option f test)) around ∙ option_unknown f same (visible a b ++ declares (length b.slots)) test)
      (refused f (λ (u : Unit {0}). u) line WrongKind _ _ _ _ (ap (λ ls. stream_in_option ls (renamed_option f test)) around ∙ option_stream f same (visible a b ++ declares (length b.slots)) test)
      refl)

  pub for_follows : (declares others : ℕ → List LocalDeclaration) → ((slot : ℕ) → others slot ≡ locals (declares slot)) → (test : Option Expr) (g h i j k l : Bind (List RStmt)) (line : ℕ)
      → Follows f g h → Follows f i j → Follows f k l → Follows f (bind_for declares test g i k line) (bind_for others (renamed_option f test) h j l line)
  for_follows declares others each test g h i j k l line p q s a b =
      followed f (λ (u : Unit {0}). u) (bound_renamed f) (bind_first_test declares test line a b) _ _ _ (first_test_follows declares others each test line a b)
      (λ t. block_follows (bind_parts test g i k) (bind_parts (renamed_option f test) h j l) (parts_follow test g h i j k l p q s) a b)
