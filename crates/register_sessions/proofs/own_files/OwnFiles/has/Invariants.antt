use Rattle.std.proofs.Common.{map, take}
use Rattle.std.specs.Prelude.{string_bytes}
use Rattle.register_sessions.specs.own.OwnFiles.{NamesNoneOf}
use Rattle.register_sessions.proofs.own_files.OwnFiles.has.Given as goal

-- none of the paths so far names the file
abbrev pub invariant-loop-own : goal.invariant-loop-own
invariant-loop-own g l = NamesNoneOf g.M.Machine.tells l.machine (map string_bytes (take l.own-index l.own-items)) l.path
