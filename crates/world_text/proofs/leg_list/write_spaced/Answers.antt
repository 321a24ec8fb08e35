use Rattle.std.proofs.Common.{◌≡◌, ◌-◌, ◌++◌, take, drop, length, sym, ap, ◌∙◌, arith}
use Rattle.std.specs.Prelude.{string_bytes}
use Rattle.std.specs.List.{flat_map}
use Rattle.std.proofs.lemmas.List.{append_assoc, take_all, length-drop}
use Rattle.leg.specs.LegId.{leg_id_text}
use Rattle.world_text.proofs.SpacedLegs.{behind_space, spaced_ids}
use Rattle.world_text.proofs.leg_list.write_spaced.Goals as goal

pub returns : goal.returns
returns c =
    let ids = c.args.ids.now in
    let first = c.first-item.result in
    let others : take (length ids - 1) (drop 1 ids) ≡ drop 1 ids =
    take_all (length ids - 1) (drop 1 ids) (omega (arith, length-drop 1 ids)) in
    let all : take c.loop-id.id-index (take (length ids - 1) (drop 1 ids)) ≡ drop 1 ids =
    take_all c.loop-id.id-index (take (length ids - 1) (drop 1 ids)) c.loop-id-test.false ∙ others in
    let start : string_bytes c.write.new.self ≡ string_bytes c.args.text.now ++ leg_id_text first = c.in_ok-write.ensures.bytes in
    c.loop-id.invariant
    ∙ (ap (λ l. string_bytes c.write.new.self ++ flat_map behind_space l) all
    ∙ (ap (λ t. t ++ flat_map behind_space (drop 1 ids)) start
    ∙ (append_assoc (string_bytes c.args.text.now) (leg_id_text first) (flat_map behind_space (drop 1 ids))
    ∙ ap (λ t. string_bytes c.args.text.now ++ t) (sym (spaced_ids ids first c.in-len1-up.len_at_least c.first-item.is)))))
