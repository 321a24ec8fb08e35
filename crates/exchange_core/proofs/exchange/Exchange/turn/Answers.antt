use Rattle.std.proofs.Common.{◌≡◌, sym, ap, ◌∙◌, subst}
use Rattle.exchange_core.specs.Exchange.{ExchangeParts}
use Rattle.exchange_core.specs.Kept.{exchange_seen, reports_of}
use Rattle.exchange_core.specs.Sound.{IsSound}
use Rattle.exchange_core.specs.Turn.{turn_own, turn_answer}
use Rattle.exchange_core.proofs.Turning.{turn_silent, seen_turned}
use Rattle.exchange_core.proofs.exchange.Exchange.turn.Goals as goal

pub invariant_of-self-2 : goal.invariant_of-self-2
invariant_of-self-2 g c =
    let x : ExchangeParts = exchange_seen c.self.inside in
    let own : c.use_numbers.new.own.items ≡ turn_own x.own c.args.turn.says =
    c.in_ok-use_numbers.ensures.ok ∙ c.used_by-used.ensures x.own in
    record {
      sound = subst IsSound
          (sym (seen_turned x c.args.turn c.use_numbers.new.own.items own
          ∙ ap (λ (s : ExchangeParts). (turn_answer s c.args.turn).1) c.self.view_is))
          c.requires.sound;
      accepted = c.self.invariant.accepted;
      reports = c.self.invariant.reports ∙ (sym (turn_silent x.own c.args.turn.says) ∙ ap reports_of (sym own));
    }
