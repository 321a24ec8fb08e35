use Rattle.std.proofs.Common.{[], ◌∷◌, ◌++◌, ap, ◌∙◌}
use Rattle.desk_venues.specs.Addresses.{host_of}
use Rattle.desk_venues.proofs.Hosting.{hosts_more, hosts_all}
use Rattle.desk_venues.proofs.hosts.hosts_of.Goals as goal

pub loop-backup-init : goal.loop-backup-init
loop-backup-init c =
    c.in_ok-push.ensures.items
    ∙ (ap (λ hosts. hosts ++ c.in_ok-host_of.field-0 ∷ []) c.new-hosts.ensures.items
    ∙ ap (λ host. host ∷ []) c.in_ok-host_of.ensures)

pub loop-backup-preserved : goal.loop-backup-preserved
loop-backup-preserved c =
    hosts_more c.args.backups.now c.loop-backup.backup-index c.backup-item.result (host_of c.args.first.now)
    c.loop-backup.hosts.items _ c.loop-backup-test.true c.backup-item.is c.loop-backup.invariant
    c.in_ok-push_host.ensures

pub returns : goal.returns
returns c =
    hosts_all c.args.backups.now c.loop-backup.backup-index (host_of c.args.first.now) c.loop-backup.hosts.items
    c.loop-backup-test.false c.loop-backup.invariant
