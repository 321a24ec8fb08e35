use Rattle.std.proofs.Common.{◌∙◌, ◌+◌, length, ap}
use Rattle.std.proofs.lemmas.List.{length_push}
use Rattle.run_file.proofs.Having.{one_more_has}
use Rattle.run_file.proofs.passwords.read_passwords.Goals as goal

pub loop-venue-preserved : goal.loop-venue-preserved
loop-venue-preserved g c =
    let so_far = c.loop-venue.invariant in
    let before = c.loop-venue.secrets.items in
    let secret = c.in_ok-secret.secret in
    let pushed = c.in_ok-add.ensures in
    record {
      have = one_more_has c.args.venues.now c.loop-venue.venue-index c.venue-item.result before _ secret
          c.loop-venue-test.true c.venue-item.is pushed c.in_ok-secret.ensures.has so_far.have;
      each = ap length pushed ∙ (length_push before secret ∙ ap (λ n. n + 1) so_far.each);
    }
