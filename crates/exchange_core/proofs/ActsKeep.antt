-- What the exchange does by itself is what the rules allow.
use Rattle.std.proofs.Common.{◌≡◌, ℕ, zero, suc, ◌+◌, ◌≤◌, true, inl, inr, List, [], ◌∷◌, ◌++◌, map, Option, Some, None, Result, Ok, Err, IfOk, refl, sym, ap, subst, ◌∙◌, arith, length-append}
use Rattle.std.specs.List.{All}
use Rattle.std.specs.Option.{option_map}
use Rattle.std.proofs.lemmas.Bool.Decides.{nat_tests}
use Rattle.std.proofs.lemmas.List.Elements.{All-nil}
use Rattle.std.proofs.lemmas.Option.{slice_get-map}
use Rattle.leg.specs.Numbered.{numbered}
use Rattle.leg.specs.declared.leg.Leg.{Leg}
use Rattle.dialect.specs.declared.report.ReportKind.{ReportKind}
use Rattle.dialect.specs.declared.report.ReportKind.TheVariants.{Canceled, Rejected}
use Rattle.dialect.specs.declared.content.Content.TheVariants.{Session}
use Rattle.fix_tags.specs.declared.session_body.SessionBody.TheVariants.{TestRequest}
use Rattle.dialect.specs.declared.outgoing.Outgoing.{Outgoing}
use Rattle.exchange_core.specs.declared.exchange_fault.ExchangeFault.{ExchangeFault}
use Rattle.exchange_core.specs.Acceptance.{Intake, HasAccepted, MayWrite, May, IsLast}
use Rattle.exchange_core.specs.Acceptance as rules
use Rattle.exchange_core.specs.declared.ending.Ending.TheVariants.{ByCancel, ByReject}
use Rattle.exchange_core.specs.Order.{OrderParts, view_of}
use Rattle.exchange_core.specs.declared.sent_record.SentRecord.{SentRecord}
use Rattle.exchange_core.specs.declared.sent_record.SentRecord.TheVariants.{Admin, Reported}
use Rattle.exchange_core.specs.SentRecord.{next_own_number, has_numbers}
use Rattle.exchange_core.specs.declared.live_connection.LiveConnection.{LiveConnection}
use Rattle.exchange_core.specs.Exchange.{ExchangeParts, Answer, live_connection, next_report, next_execution_report, next_message, drop_connection, accepted_by}
use Rattle.exchange_core.specs.Acts.{answered, while_live, reported, trade_answer, trade, end_answer, cancel_rest, reject, bust_answer, bust, test_id, tested, test_answer, test}
use Rattle.exchange_core.specs.Keeping.{intake_of, rule_state, into, IsLastLive, IsDone, IsAct}
use Rattle.exchange_core.proofs.Step.{in_connection, silent, kept_next, written_next, MaySayNext}
use Rattle.exchange_core.proofs.ActsReport.{IsReported, AnyPx, same_leg, trade_reports, cancel_rest_reports, reject_reports, bust_reports, test_reports}
use Rattle.exchange_core.proofs.After.{after-refl, legs_kept, reported_after, tested_after}

-- the leg of an order at a place is accepted
pub is_accepted : (orders : List OrderParts) (place : ℕ) (order : OrderParts) → numbered place orders ≡ Some order → HasAccepted (map (λ (o : OrderParts). o.leg) orders) order.leg.id
is_accepted orders zero order there = cc
is_accepted orders (suc i) order there = record {
  place = i;
  leg = order.leg;
  there = slice_get-map (λ (o : OrderParts). o.leg) orders i ∙ ap (option_map (λ (o : OrderParts). o.leg)) there;
  same = refl;
}

-- one message under the next number, where a connection is live
written_live : (x y : ExchangeParts) (entry : SentRecord) (out : Outgoing) (live : Option LiveConnection) → IsLastLive x → x.live ≡ live → y.last ≡ x.last → y.own ≡ x.own ++ entry ∷ [] → out.message.number ≡ next_own_number x.own → ((connection : ℕ) → MaySayNext x None y entry connection out.message.content) → All (MayWrite (rule_state x) None (rule_state y)) (into (option_map (λ (l : LiveConnection). l.connection) live) (while_live live (out ∷ [])))
written_live x y entry out None sound is last own at says = All-nil (MayWrite (rule_state x) None (rule_state y))
written_live x y entry out (Some live) sound is last own at says =
    let here : IsLast x.last live.connection = sound live.connection (ap (option_map (λ (l : LiveConnection). l.connection)) is) in
    subst (λ number. All (MayWrite (rule_state x) None (rule_state y)) (in_connection live.connection number out.message.content ∷ [])) (sym at)
    (written_next x y None entry live.connection out.message.content own here.from (omega (arith, here.same, last)) (says live.connection))

-- one number more
pub one_more : (own : List SentRecord) (entry : SentRecord) (max_number : ℕ) → next_own_number own + 1 ≤ max_number → next_own_number (own ++ entry ∷ []) ≤ max_number
one_more own entry max_number left = omega (arith, length-append own (entry ∷ []))

-- a report on an order at a place
reported_keeps : (x : ExchangeParts) → IsLastLive x → (place : ℕ) (old new : OrderParts) (kind : ReportKind) → IsReported AnyPx x place old new kind → IsDone x (reported x place new kind)
reported_keeps x sound place old new kind is =
    let y : ExchangeParts = (reported x place new kind).1 in
    let report = next_report x new kind in
    let entry : SentRecord = Reported report (view_of place new) in
    let same : new.leg ≡ old.leg = same_leg AnyPx _ old new kind is.change in
    let legs : accepted_by y ≡ accepted_by x = legs_kept x.orders place old new is.there same in
    let stays : intake_of y ≡ intake_of x = ap (λ ls. let i : Intake = record (intake_of x) { accepted = ls } in i) legs in
    let accepted : HasAccepted (accepted_by x) new.leg.id = subst (λ (leg : Leg). HasAccepted (accepted_by x) leg.id) (sym same) (is_accepted x.orders place old is.there) in
    record {
      allowed = kept_next x y None entry (into (live_connection x) (while_live x.live (next_execution_report x place new kind ∷ [])))
          (rules.stays stays) refl
          (subst (λ ls. HasAccepted ls new.leg.id) (sym legs) accepted)
          (written_live x y entry (next_execution_report x place new kind) x.live sound refl refl refl refl (λ connection. inl refl));
      after = reported_after x place old new kind is.there same;
      taken = stays;
      live = sound;
      numbered = λ _. one_more x.own entry x.config.max_number (grind (arith, nat_tests, is.left));
    }

-- an act, refused or not
done_act : (x : ExchangeParts) (r : Result Answer ExchangeFault) → IfOk r (IsDone x) → IsAct x (answered x r)
done_act x (Ok answer) done = done
done_act x (Err fault) done = refl

pub trade_keeps : (x : ExchangeParts) (place shares : ℕ) (px : List ℕ) → IsLastLive x → IsAct x (trade x place shares px)
trade_keeps x place shares px sound = done_act x (trade_answer x place shares px) (trade_reports AnyPx x (IsDone x) (reported_keeps x sound) place shares px tt)

pub cancel_rest_keeps : (x : ExchangeParts) (place : ℕ) → IsLastLive x → IsAct x (cancel_rest x place)
cancel_rest_keeps x place sound = done_act x (end_answer x place ByCancel Canceled) (cancel_rest_reports AnyPx x (IsDone x) (reported_keeps x sound) place)

pub reject_keeps : (x : ExchangeParts) (place : ℕ) → IsLastLive x → IsAct x (reject x place)
reject_keeps x place sound = done_act x (end_answer x place ByReject Rejected) (reject_reports AnyPx x (IsDone x) (reported_keeps x sound) place)

pub bust_keeps : (x : ExchangeParts) (place which : ℕ) → IsLastLive x → IsAct x (bust x place which)
bust_keeps x place which sound = done_act x (bust_answer x place which) (bust_reports AnyPx x (IsDone x) (reported_keeps x sound) place which)

-- nothing goes nowhere
into_none : (live : Option ℕ) → into live [] ≡ []
into_none None = refl
into_none (Some connection) = refl

-- an act that does nothing
idle : (x : ExchangeParts) → IsLastLive x → IsDone x ([], x)
idle x sound = record {
  allowed = subst (May (rule_state x) None (rule_state x)) (sym (into_none (live_connection x))) (silent x x None (rules.stays refl) refl);
  after = after-refl x;
  taken = refl;
  live = sound;
  numbered = λ numbered. numbered;
}

-- what is written into the live connection goes there whether or not the act asks
always : (live : Option LiveConnection) (written : List Outgoing) (connection : LiveConnection) → live ≡ Some connection → while_live live written ≡ written
always live written connection is = rw is refl

tested_keeps : (x : ExchangeParts) (live : LiveConnection) → IsLastLive x → x.live ≡ Some live → has_numbers 1 x.config x.own ≡ true → IsDone x (tested x)
tested_keeps x live sound is left =
    let y : ExchangeParts = (tested x).1 in
    let out : Outgoing = next_message x (Session (TestRequest (test_id (next_own_number x.own)))) in
    record {
      allowed = kept_next x y None Admin (into (live_connection x) (out ∷ [])) (rules.stays refl) refl tt
          (subst (λ written. All (MayWrite (rule_state x) None (rule_state y)) (into (live_connection x) written)) (always x.live (out ∷ []) live is)
          (written_live x y Admin out x.live sound refl refl refl refl (λ connection. inr (refl, tt))));
      after = tested_after x;
      taken = refl;
      live = sound;
      numbered = λ _. one_more x.own Admin x.config.max_number (grind (arith, nat_tests, left));
    }

pub test_keeps : (x : ExchangeParts) → IsLastLive x → IsAct x (test x)
test_keeps x sound = done_act x (test_answer x x.live) (test_reports x (IsDone x) (idle x sound) (λ live is left. tested_keeps x live sound is left))

pub drop_keeps : (x : ExchangeParts) → May (rule_state x) None (rule_state (drop_connection x)) []
drop_keeps x = silent x (drop_connection x) None (rules.drops refl) refl
