-- Why a blocked run is blocked, as text.
use Rattle.std.specs.Prelude.{ℕ, List, ◌++◌, codes, flat_map}
use Rattle.shim_base.specs.Paths.{Path}
use Rattle.shim_base.specs.PathTexts.{channel_text, path_text}
use Rattle.shim_waits.specs.declared.explained.Explained.{Explained}
use Rattle.shim_waits.specs.declared.explained.Wait.{Wait}

-- a space, and then the path
unfoldable pub spaced_path : Path → List ℕ
spaced_path p = codes " " ++ path_text p

-- `because PATH HOLDER BY HOME#SERIAL`: the process PATH waits, and HOLDER holds it up. BY is the live process at or below HOLDER for which PATH waits, and HOME#SERIAL is the channel at which BY waits.
unfoldable pub because_line : Wait → List ℕ
because_line w = codes "because" ++ (spaced_path w.path ++ (spaced_path w.holder ++ (spaced_path w.by ++ (codes " " ++ (channel_text w.at.channel ++ codes "\n")))))

-- `cycle PATH PATH ..`
unfoldable pub cycle_line : List Path → List ℕ
cycle_line ps = codes "cycle" ++ (flat_map spaced_path ps ++ codes "\n")

-- The line of each wait, and then the line of the cycle. Each line ends with a line feed.
unfoldable pub reasons : Explained → List ℕ
reasons e = flat_map because_line e.waits ++ cycle_line e.cycle
