use Rattle.std.proofs.Common.{◌≡◌, length, take}
use Rattle.run_file.specs.Passwords.{HaveTheirPasswords}
use Rattle.run_file.proofs.passwords.read_passwords.Given as goal

abbrev pub invariant-loop-venue : goal.invariant-loop-venue
invariant-loop-venue g l = record {
  have : HaveTheirPasswords (take l.venue-index l.venues) l.secrets.items;
  each : length l.secrets.items ≡ l.venue-index;
}
