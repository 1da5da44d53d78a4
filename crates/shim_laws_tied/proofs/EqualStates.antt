-- Two kinds whose states and calls are the same are tied where their states are equal.
use Rattle.std.proofs.Common.{◌≡◌, List, [], ◌∷◌, refl, ap, subst}
use Rattle.shim_local.specs.Process.{Ops, ForkedView, Parted, Trapped}
use Rattle.shim_laws_tied.specs.Ties.{KeepsTied, AllTied, ForksTied}

abbrev pub AreEqual : {S : Type 0} → S → S → Type 0
AreEqual l m = l ≡ m

each_itself : {S : Type 0} (ls : List S) → AllTied AreEqual ls ls
each_itself [] = tt
each_itself (l ∷ ls) = (refl, each_itself ls)

fork_itself : {S : Type 0} (x : ForkedView S) → ForksTied AreEqual x x
fork_itself (Parted l ls) = (refl, each_itself ls)
fork_itself (Trapped l) = refl

all_equal : {S : Type 0} (ls ms : List S) → AllTied AreEqual ls ms → ls ≡ ms
all_equal [] [] h = refl
all_equal (l ∷ ls) (m ∷ ms) h = λ i. h.0 i ∷ all_equal ls ms h.1 i
all_equal [] (m ∷ ms) h = absurd h
all_equal (l ∷ ls) [] h = absurd h

pub equality_is_kept : {S : Type 0} (o : Ops S) → KeepsTied o o AreEqual
equality_is_kept o = record {
  stop = λ l m h. ap o.stop h.2;
  quiet = λ l m h at. ap o.quiet h.2;
  byte = λ l m h at. ap o.byte h.2;
  put = λ l m h at. ap o.put h.2;
  receive = λ l m c v h at. ap (λ s. o.receive s v) h.2;
  fork = λ l m h at. subst (λ s. ForksTied AreEqual (o.fork l) (o.fork s)) h.2 (fork_itself (o.fork l));
  join = λ l m ls ms goes_on h sound others each born too. λ i. o.join (h.2 i) (all_equal ls ms each i) goes_on;
  number = λ l m label h at. ap o.number h.2;
  thrown = λ l m label h at. ap o.thrown h.2;
  unwind = λ l m label v h least most. ap (λ s. o.unwind s label v) h.2;
  value = λ l m c h carries. ap (λ s. o.value s c) h.2;
  shares = λ l m c h. ap (λ s. o.shares s c) h.2;
  carries = λ l m c h. ap (λ s. o.carries s c) h.2;
  given = λ l m h. ap o.given h.2;
  holds_output = λ l m h. ap o.holds_output h.2;
  path = λ l m h. ap o.path h.2;
  base = λ l m h. ap o.base h.2;
  handlers = λ l m h. ap o.handlers h.2;
  handler = λ l m label h least most. ap (λ s. o.handler s label) h.2;
}
