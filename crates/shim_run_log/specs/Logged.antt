-- What was logged in the order of the events, by process.
use Rattle.std.specs.Prelude.{List, [], ◌∷◌}
use Rattle.std.specs.FinMap as finite
use Rattle.shim_base.specs.Paths.{path_order}
use Rattle.shim_local.specs.declared.Log.{Log}
use Rattle.shim_local.specs.declared.LogWhat.{LogWhat}
use Rattle.shim_semantics.specs.Trees.{with_logs}

-- these are logged, one after another
abbrev pub with_each : finite.FinMap path_order (List LogWhat) → List Log → finite.FinMap path_order (List LogWhat)
with_each m [] = m
with_each m (e ∷ es) = with_each (with_logs m e.path (e.what ∷ [])) es

-- what was logged of each process, where these were logged and no others
abbrev pub logged : List Log → finite.FinMap path_order (List LogWhat)
logged es = with_each finite.empty es
