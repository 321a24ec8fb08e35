use Rattle.std.proofs.Common.{◌∙◌}
use Rattle.embed.proofs.Packets.{one_more}
use Rattle.embed.proofs.said.Said.into_packets.Goals as goal

pub returns : goal.returns
returns c =
    one_more c.self.inside.full.items c.push.new.self.items c.self.inside.packet c.in_ok-push.ensures.items
    ∙ c.self.view_is
