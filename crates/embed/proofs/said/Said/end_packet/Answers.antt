use Rattle.std.proofs.Common.{◌∷◌, [], ◌++◌, ap, ◌∙◌}
use Rattle.embed.proofs.Packets.{one_full}
use Rattle.embed.proofs.said.Said.end_packet.Goals as goal

pub returns-in_ok-push : goal.returns-in_ok-push
returns-in_ok-push c =
    one_full c.self.inside.full.items c.push.new.self.items c.self.inside.packet c.replace-packet.new.dest.items
    (c.in_ok-push.ensures.items ∙ ap (λ packet. c.self.inside.full.items ++ packet ∷ []) c.replace-packet.ensures.value)
    (ap (λ packet. packet.items) c.replace-packet.ensures.after ∙ c.new.ensures.items)
    ∙ c.self.view_is
