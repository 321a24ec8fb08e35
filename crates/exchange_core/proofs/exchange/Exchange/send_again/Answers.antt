use Rattle.std.proofs.Common.{◌≡◌, ◌-◌, true, List, length, take, drop, All, None, sym, ap, ◌∙◌, subst, arith}
use Rattle.fix_tags.specs.Range.{range_end, is_range}
use Rattle.dialect.specs.Writable.{IsWritable}
use Rattle.exchange_core.specs.declared.sent_record.SentRecord.{SentRecord}
use Rattle.exchange_core.specs.Exchange.{ExchangeParts}
use Rattle.exchange_core.specs.Kept.{exchange_seen}
use Rattle.exchange_core.specs.SentRecord.{resent, resent_answer}
use Rattle.exchange_core.specs.Turn.{asked_answer}
use Rattle.exchange_core.proofs.Accepting.{range_writable}
use Rattle.exchange_core.proofs.exchange.Exchange.send_again.Goals as goal

pub resend-requires-clause-writable : goal.resend-requires-clause-writable
resend-requires-clause-writable g c =
    let x : ExchangeParts = exchange_seen c.self.inside in
    let begin = c.in-Some.asked.begin in
    let last = c.in-Some.asked.last in
    let count : c.len-count.result ≡ length x.own = omega (arith, c.len-count.ensures, c.self.inside.own.ok.0) in
    let is : is_range (length x.own) begin last ≡ true =
    ap (λ n. is_range n begin last) (sym count) ∙ (sym c.asks_for_some.ensures ∙ c.if-not-asks_for_some.false) in
    let end : c.last_asked-end.result ≡ range_end (length x.own) last =
    c.last_asked-end.ensures ∙ ap (λ n. range_end n last) count in
    let all : All IsWritable (resent_answer x.config x.own begin last) =
    subst (λ (s : ExchangeParts). All IsWritable (resent_answer s.config s.own begin last)) (sym c.self.view_is)
    (subst (λ asked. All IsWritable (asked_answer c.args.self.now asked)) c.in-Some.is c.requires) in
    subst (λ (own : List SentRecord). All IsWritable (resent x.config None begin
    (take (length (take c.last_asked-end.result own) - (begin - 1))
    (drop (begin - 1) (take c.last_asked-end.result own)))))
    (sym c.as_slice.ensures.value)
    (range_writable x.config x.own begin last c.last_asked-end.result is end all)
