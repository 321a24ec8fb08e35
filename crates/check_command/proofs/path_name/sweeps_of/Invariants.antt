use Rattle.std.proofs.Common.{◌≡◌, ◌++◌, drop, map}
use Rattle.std.specs.Option.{option_map, option_to_list}
use Rattle.check_command.specs.PathName.{sweeps_paths}
use Rattle.check_command.proofs.path_name.sweeps_of.Given as goal

abbrev pub invariant-loop-path : goal.invariant-loop-path
invariant-loop-path l =
    option_to_list (option_map (λ path. path.now) l.sweeps)
    ++ sweeps_paths (map (λ path. path.now) (drop l.path-index l.paths))
    ≡ sweeps_paths (map (λ path. path.now) l.paths)
