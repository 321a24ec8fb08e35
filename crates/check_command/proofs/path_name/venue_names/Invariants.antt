use Rattle.std.proofs.Common.{◌≡◌, ◌≤◌, ◌++◌, length, drop, map}
use Rattle.check_command.specs.PathName.{venue_name, venue_paths}
use Rattle.check_command.proofs.path_name.venue_names.Given as goal

abbrev pub invariant-loop-path : goal.invariant-loop-path
invariant-loop-path l = record {
  few : length l.names.items ≤ 16;
  names : l.names.items ++ map venue_name (venue_paths (map (λ path. path.now) (drop l.path-index l.paths)))
      ≡ map venue_name (venue_paths (map (λ path. path.now) l.paths));
}
