use Rattle.std.proofs.Common.{◌≡◌, List, ap, ◌∙◌}
use Rattle.fix_text.specs.FrameFields.{fields_in}
use Rattle.fix_text.specs.Tagged.{Tagged, value_of, left_after}
use Rattle.fix_tags.proofs.Behind.{apps, behind_kind, behind_sender, behind_target, behind_number, behind_time, behind_poss_dup, sender_value, target_value, number_value, time_value, poss_dup_value, poss_resend_value, apps_behind}
use Rattle.fix_tags.proofs.header_fields.HeaderFields.of.Goals as goal

pub returns : goal.returns
returns c =
    let fields = fields_in c.args.frame in
    let kind : fields_in c.take-kind.new.self ≡ behind_kind fields = c.take-kind.ensures.left in
    let sender : fields_in c.take-sender.new.self ≡ behind_sender fields = c.take-sender.ensures.left ∙ ap (left_after 49) kind in
    let target : fields_in c.take-target.new.self ≡ behind_target fields = c.take-target.ensures.left ∙ ap (left_after 56) sender in
    let number : fields_in c.take-number.new.self ≡ behind_number fields = c.take-number.ensures.left ∙ ap (left_after 34) target in
    let time : fields_in c.take-sending_time.new.self ≡ behind_time fields = c.take-sending_time.ensures.left ∙ ap (left_after 52) number in
    let poss_dup : fields_in c.take-poss_dup.new.self ≡ behind_poss_dup fields = c.take-poss_dup.ensures.left ∙ ap (left_after 43) time in
    let poss_resend : fields_in c.take-poss_resend.new.self ≡ left_after 97 (behind_poss_dup fields) = c.take-poss_resend.ensures.left ∙ ap (left_after 97) poss_dup in
    record {
      kind = c.take-kind.ensures.value;
      sender = c.take-sender.ensures.value ∙ ap (λ (fs : List Tagged). value_of fs 49) kind ∙ sender_value fields;
      target = c.take-target.ensures.value ∙ ap (λ (fs : List Tagged). value_of fs 56) sender ∙ target_value fields;
      number = c.take-number.ensures.value ∙ ap (λ (fs : List Tagged). value_of fs 34) target ∙ number_value fields;
      sending_time = c.take-sending_time.ensures.value ∙ ap (λ (fs : List Tagged). value_of fs 52) number ∙ time_value fields;
      poss_dup = c.take-poss_dup.ensures.value ∙ ap (λ (fs : List Tagged). value_of fs 43) time ∙ poss_dup_value fields;
      poss_resend = c.take-poss_resend.ensures.value ∙ ap (λ (fs : List Tagged). value_of fs 97) poss_dup ∙ poss_resend_value fields;
      left = ap apps poss_resend ∙ apps_behind fields;
    }
