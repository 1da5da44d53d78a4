use Rattle.std.proofs.Common.{◌≢◌, rules}
use Rattle.std.specs.declared.io.ErrorKind.TheVariants.{OutOfMemory}
use Rattle.shim_main.proofs.NoWords.{ran_on_none}
use Rattle.shim_main.proofs.status_without_words.Goals as goal
use Rattle.shim_tool.specs.Moments.{files_at, sink_at}

pub returns-in-false : goal.returns-in-false
returns-in-false g c =
    let before = files_at g.F.Files.held g.F.Files.sound g.F.Files.failed c.args.files.now in
    let now = files_at g.F.Files.held g.F.Files.sound g.F.Files.failed c.shim.new.files in
    let ob = sink_at g.K.Sink.taken g.K.Sink.faults c.args.out.now in
    let on = sink_at g.K.Sink.taken g.K.Sink.faults c.shim.new.out in
    let apart : c.args.kind ≢ OutOfMemory = search rules in
    record { memory = λ is. absurd (apart is); nothing = λ other. ran_on_none before now ob on c.shim.result c.shim.ensures.ran }
