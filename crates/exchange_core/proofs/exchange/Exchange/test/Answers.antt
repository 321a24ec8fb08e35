use Rattle.std.proofs.Common.{◌≡◌, ◌∷◌, ◌++◌, [], true, List, sym, ap, ◌∙◌, subst}
use Rattle.exchange_core.specs.declared.sent_record.SentRecord.{SentRecord}
use Rattle.exchange_core.specs.declared.sent_record.SentRecord.TheVariants.{Admin}
use Rattle.exchange_core.specs.Exchange.{ExchangeParts}
use Rattle.exchange_core.specs.Kept.{exchange_seen, reports_of}
use Rattle.exchange_core.specs.SentRecord.{has_numbers}
use Rattle.exchange_core.specs.Sound.{IsSound}
use Rattle.exchange_core.proofs.Kept.{reports_silent}
use Rattle.exchange_core.proofs.Promises.{tested_is_sound}
use Rattle.exchange_core.proofs.exchange.Exchange.test.Goals as goal

pub invariant_of-self-2 : goal.invariant_of-self-2
invariant_of-self-2 c =
    let x : ExchangeParts = exchange_seen c.self.inside in
    let left : has_numbers 1 x.config x.own ≡ true =
    subst (λ (s : ExchangeParts). has_numbers 1 s.config s.own ≡ true) (sym c.self.view_is)
    (sym c.has_numbers.ensures.value ∙ c.if-not-has_numbers.false) in
    let own : c.push.new.self.items ≡ x.own ++ Admin ∷ [] = c.in_ok-push.ensures.items in
    record {
      sound = subst (λ (o : List SentRecord). IsSound (let y : ExchangeParts = record x { own = o } in y)) (sym own)
          (tested_is_sound x c.self.invariant.sound left);
      accepted = c.self.invariant.accepted;
      reports = c.self.invariant.reports ∙ (sym (reports_silent x.own) ∙ ap reports_of (sym own));
    }
