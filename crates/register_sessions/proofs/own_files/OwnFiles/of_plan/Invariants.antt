use Rattle.std.proofs.Common.{◌≡◌, ◌++◌, take}
use Rattle.std.specs.List.{flat_map}
use Rattle.register_sessions.specs.own.OwnFiles.{desk_paths}
use Rattle.register_sessions.proofs.own_files.OwnFiles.of_plan.Given as goal

-- the paths of the desks so far are added
abbrev pub invariant-loop-name : goal.invariant-loop-name
invariant-loop-name g l = l.files ≡ l.initial.files ++ flat_map (λ name. desk_paths name.now) (take l.name-index l.name-items)
