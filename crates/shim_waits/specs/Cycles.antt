-- The cycle to which waits lead.
use Rattle.std.specs.Prelude.{◌≡◌, ◌≢◌, ℕ, zero, suc, Bool, false, ◌||◌, Option, Some, None, List, [], ◌∷◌, ◌++◌, length, cond}
use Rattle.std.specs.declared.cmp.Ordering.{Ordering}
use Rattle.std.specs.declared.cmp.Ordering.TheVariants.{Less, Equal, Greater}
use Rattle.shim_base.specs.Paths.{Path, same_path, path_order}
use Rattle.shim_local.specs.Laws.{AllOf}
use Rattle.shim_waits.specs.declared.explained.Wait.{Wait}

-- the path of the process for which that of path p waits, by the first of these waits that has the path p
abbrev pub by_of : List Wait → Path → Option Path
by_of [] p = None
by_of (w ∷ ws) p = cond (same_path w.path p) (Some w.by) (by_of ws p)

-- the path of the first wait
abbrev pub first_path : List Wait → Option Path
first_path [] = None
first_path (w ∷ ws) = Some w.path

-- ---- what a cycle is

-- p waits for the first of these, each of them for the next, and the last one for z; where there are none, p waits for z
abbrev pub WaitInTurn : List Wait → Path → List Path → Path → Type 0
WaitInTurn ws p [] z = by_of ws p ≡ Some z
WaitInTurn ws p (q ∷ qs) z = (by_of ws p ≡ Some q) × WaitInTurn ws q qs z

-- the path p is the other path, or a chain of waits leads from p to it
pub data ComesByWaits (ws : List Wait) (p : Path) : Path → Type 0 where
  here : ComesByWaits ws p p
  further : (q r : Path) → ComesByWaits ws p q → by_of ws q ≡ Some r → ComesByWaits ws p r

-- The cycle that is reached from the first of these waits: its first path is the least one on it.
pub record IsCycle (ws : List Wait) (cycle : List Path) : Type 0 where
  pub least : Path
  pub others : List Path
  pub is : cycle ≡ least ∷ others
  pub leads : WaitInTurn ws least others least
  pub is_least : AllOf (λ p. path_order least p ≡ Less) others
  -- there is another path on the cycle
  pub some : others ≢ []
  pub start : Path
  pub begins : first_path ws ≡ Some start
  pub reached : ComesByWaits ws start least

-- ---- and how it is found

-- the path is one of these
abbrev pub has : Path → List Path → Bool
has p [] = false
has p (q ∷ qs) = same_path q p || has p qs

-- The paths that were passed from p on, in the order of passing, and then `more`. The list of passed paths has the last one first. Where p isn't in it, these are all of them.
abbrev pub passed_since : Path → List Path → List Path → List Path
passed_since p [] more = more
passed_since p (q ∷ qs) more = cond (same_path q p) (q ∷ more) (passed_since p qs (q ∷ more))

-- f of the path, if there is one, else no path
abbrev pub from_some : (Path → List Path) → Option Path → List Path
from_some f None = []
from_some f (Some q) = f q

-- Waits lead from p to further paths until one is passed a second time. The ring is the paths from the first passing of that one on. At most n further paths are passed. Where a path has no wait, the ring is empty.
abbrev pub ring : ℕ → List Wait → List Path → Path → List Path
ring zero ws passed p = passed_since p passed []
ring (suc n) ws passed p = cond (has p passed) (passed_since p passed []) (from_some (ring n ws (p ∷ passed)) (by_of ws p))

-- the lesser of two paths
abbrev pub lesser_by : Ordering → Path → Path → Path
lesser_by Less p q = p
lesser_by Equal p q = p
lesser_by Greater p q = q

-- the least of p and the paths of the list
abbrev pub least_of : Path → List Path → Path
least_of p [] = p
least_of p (q ∷ qs) = lesser_by (path_order p (least_of q qs)) p (least_of q qs)

-- The list from m on, then `front`, then what stands before m in the list. Where m isn't in the list, `front` and then the list.
abbrev pub turned_to : Path → List Path → List Path → List Path
turned_to m front [] = front
turned_to m front (p ∷ ps) = cond (same_path p m) (p ∷ ps ++ front) (turned_to m (front ++ p ∷ []) ps)

-- the ring from its least path on, followed by what stands before that path
abbrev pub from_least : List Path → List Path
from_least [] = []
from_least (p ∷ ps) = turned_to (least_of p ps) [] (p ∷ ps)

-- the ring that is reached from the path, if there is one, by at most as many waits as the list has
abbrev pub ring_from : List Wait → Option Path → List Path
ring_from ws None = []
ring_from ws (Some p) = ring (length ws) ws [] p

-- the cycle that is reached from the first of these waits
abbrev pub cycle_of : List Wait → List Path
cycle_of ws = from_least (ring_from ws (first_path ws))
