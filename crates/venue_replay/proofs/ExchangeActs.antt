-- A venue after its exchange acted: what is read of its frames, and what it keeps.
use Rattle.std.proofs.Common.{◌≡◌, ℕ, All, List, [], ◌∷◌, ◌++◌, Option, Some, None, Ok, Err, refl, sym, ap, subst, ◌∙◌}
use Rattle.std.specs.Prelude.{IfOk, IfSome, Result}
use Rattle.std.specs.Option.{option_map}
use Rattle.std.specs.Global.{Vec}
use Rattle.std.specs.List.{AllByRecursion}
use Rattle.std.proofs.lemmas.List.{append-nil}
use Rattle.fix_tags.specs.Stamp.{StampParts}
use Rattle.dialect.specs.declared.report.ReportKind.{ReportKind}
use Rattle.dialect.specs.declared.report.ReportKind.TheVariants.{Canceled, Rejected}
use Rattle.dialect.specs.Framed.{AreFramed}
use Rattle.dialect.specs.Wording.{Decoding, Encoding}
use Rattle.dialect.specs.Writable.{IsWritable}
use Rattle.dialect.proofs.FrameBack.{Agrees}
use Rattle.exchange_core.specs.declared.ending.Ending.TheVariants.{ByCancel, ByReject}
use Rattle.exchange_core.specs.declared.exchange_fault.ExchangeFault.{ExchangeFault}
use Rattle.exchange_core.specs.declared.live_connection.LiveConnection.{LiveConnection}
use Rattle.exchange_core.specs.Acts.{ActAnswer, answered, while_live, reported, trade_answer, end_answer, bust_answer, test_answer}
use Rattle.exchange_core.specs.Exchange.{ExchangeParts, Answer, live_connection, next_execution_report}
use Rattle.exchange_core.specs.Frames.{ActResult, ActGives}
use Rattle.exchange_core.specs.Order.{OrderParts}
use Rattle.exchange_core.specs.Sound as exchange
use Rattle.exchange_core.proofs.ActsReport.{IsReported, AnyPx, trade_reports, cancel_rest_reports, reject_reports, bust_reports, test_reports}
use Rattle.exchange_core.proofs.Promises.{trade_is_sound, cancel_rest_is_sound, reject_is_sound, bust_is_sound, test_is_sound}
use Rattle.exchange_core.proofs.Written.{trade_said, cancel_rest_said, reject_said, bust_said, test_said}
use Rattle.session_core.specs.Session.{SessionParts}
use Rattle.schedule.specs.declared.act.Act.{Act}
use Rattle.schedule.specs.declared.act.Act.TheVariants as act
use Rattle.schedule.specs.World.{World, VenueParts, venue_in}
use Rattle.schedule.specs.Happening.{with_venue, exchange_did, act_of, acted_world}
use Rattle.venue_replay.specs.declared.frame.Frame.{Frame}
use Rattle.venue_replay.specs.Network.{moment, all_said, IsWritten}
use Rattle.venue_replay.specs.AtVenue.{written_in, acted, IsActInRange}
use Rattle.venue_replay.specs.Kept.{last_connection, IsKept}
use Rattle.venue_replay.proofs.FramesRead.{said_more, all_more}
use Rattle.venue_replay.proofs.ExchangeWrites.{said_written, are_written, last_written, if_some, some_if}
use Rattle.venue_replay.proofs.WorldAfter.{with_same}

-- an act leaves the connection, and writes only into a live one
abbrev pub InLive : ExchangeParts → Answer → Type 0
InLive x a = (a.1.live ≡ x.live) × (x.live ≡ None → a.0 ≡ [])

abbrev pub ActsInLive : ExchangeParts → ActAnswer → Type 0
ActsInLive x (Ok written, after) = InLive x (written, after)
ActsInLive x (Err fault, after) = after ≡ x

answered_in_live : (x : ExchangeParts) (r : Result Answer ExchangeFault) → IfOk r (InLive x) → ActsInLive x (answered x r)
answered_in_live x (Ok a) holds = holds
answered_in_live x (Err fault) holds = refl

report_in_live : (x : ExchangeParts) (place : ℕ) (old new : OrderParts) (kind : ReportKind) → IsReported AnyPx x place old new kind
    → InLive x (reported x place new kind)
report_in_live x place old new kind is =
    (refl, λ dead. ap (λ (live : Option LiveConnection). while_live live (next_execution_report x place new kind ∷ [])) dead)

pub act_in_live : (a : Act) (x : ExchangeParts) → ActsInLive x (act_of a x)
act_in_live (act.Trade order shares px) x =
    answered_in_live x (trade_answer x order shares px)
    (trade_reports AnyPx x (InLive x) (report_in_live x) order shares px tt)
act_in_live (act.CancelRest order) x =
    answered_in_live x (end_answer x order ByCancel Canceled) (cancel_rest_reports AnyPx x (InLive x) (report_in_live x) order)
act_in_live (act.Reject order) x =
    answered_in_live x (end_answer x order ByReject Rejected) (reject_reports AnyPx x (InLive x) (report_in_live x) order)
act_in_live (act.Bust order which) x =
    answered_in_live x (bust_answer x order which) (bust_reports AnyPx x (InLive x) (report_in_live x) order which)
act_in_live act.Test x =
    answered_in_live x (test_answer x x.live)
    (test_reports x (InLive x) (refl, λ dead. refl) (λ live is left. (refl, λ dead. absurd cc)))

-- the exchange keeps its promises, and what it writes can be written
pub act_sound : (a : Act) (x : ExchangeParts) → IsActInRange a → exchange.IsSound x → exchange.IsSound (act_of a x).1
act_sound (act.Trade order shares px) x range sound = trade_is_sound x order shares px sound range
act_sound (act.CancelRest order) x range sound = cancel_rest_is_sound x order sound
act_sound (act.Reject order) x range sound = reject_is_sound x order sound
act_sound (act.Bust order which) x range sound = bust_is_sound x order which sound
act_sound act.Test x range sound = test_is_sound x sound

pub act_said : (a : Act) (x : ExchangeParts) → IsActInRange a → exchange.IsSound x → IfOk (act_of a x).0 (All IsWritable)
act_said (act.Trade order shares px) x range sound = trade_said x order shares px sound range
act_said (act.CancelRest order) x range sound = cancel_rest_said x order sound
act_said (act.Reject order) x range sound = reject_said x order sound
act_said (act.Bust order which) x range sound = bust_said x order which sound
act_said act.Test x range sound = test_said x sound

-- the live connection is that of the last frame
same_live : (x now : ExchangeParts) → now.live ≡ x.live → live_connection now ≡ live_connection x
same_live x now is = ap (λ (live : Option LiveConnection). option_map (λ (at : LiveConnection). at.connection) live) is

is_live : (live : Option LiveConnection) (last : Option ℕ) (connection : ℕ) → (live ≡ None → ⊥)
    → IfSome (option_map (λ (at : LiveConnection). at.connection) live) (λ at. last ≡ Some at)
    → Some connection ≡ last
    → option_map (λ (at : LiveConnection). at.connection) live ≡ Some connection
is_live None last connection alive kept is = absurd (alive refl)
is_live (Some at) last connection alive kept is = sym kept ∙ sym is

is_not_last : (live : Option LiveConnection) (last : Option ℕ) → (live ≡ None → ⊥)
    → IfSome (option_map (λ (at : LiveConnection). at.connection) live) (λ at. last ≡ Some at)
    → None ≡ last
    → ⊥
is_not_last None last alive kept is = alive refl
is_not_last (Some at) last alive kept is = let never : None ≡ Some at.connection = is ∙ kept in absurd cc

-- what writes a frame does so in a live connection
wrote_alive : (w : Encoding) (at : StampParts) (x now : ExchangeParts) (answer : ActAnswer) (bytes : Vec ℕ) → ActsInLive x answer
    → ActGives w at x answer (Ok (Some bytes)) now
    → x.live ≡ None
    → ⊥
wrote_alive w at x now (Err refused, after) bytes acts gives dead = absurd (let e = gives.0 in cc)
wrote_alive w at x now (Ok [], after) bytes acts gives dead = absurd gives.0
wrote_alive w at x now (Ok (out ∷ more), after) bytes acts gives dead = let none_written = acts.1 dead in absurd cc

pub has_last : (w : Encoding) (at : StampParts) (s : SessionParts) (x now : ExchangeParts) (to from : List Frame)
    (answer : ActAnswer) (bytes : Vec ℕ) → IsKept w s x to from → ActsInLive x answer
    → ActGives w at x answer (Ok (Some bytes)) now
    → None ≡ last_connection from
    → ⊥
has_last w at s x now to from answer bytes kept acts gives is =
    is_not_last x.live (last_connection from) (wrote_alive w at x now answer bytes acts gives) kept.live is

-- the exchange keeps its promises and its connection, whatever the act gave
pub act_gave_sound : (w : Encoding) (at : StampParts) (x now : ExchangeParts) (answer : ActAnswer) (result : ActResult)
    → ActGives w at x answer result now → exchange.IsSound x → exchange.IsSound answer.1 → exchange.IsSound now
act_gave_sound w at x now (Ok written, after) (Ok frame) gives was is = subst exchange.IsSound (sym gives.1) is
act_gave_sound w at x now (Ok written, after) (Err fault) gives was is = subst exchange.IsSound (sym gives.1) was
act_gave_sound w at x now (Err refused, after) result gives was is = subst exchange.IsSound (sym gives.1) is

act_gave_live : (w : Encoding) (at : StampParts) (x now : ExchangeParts) (answer : ActAnswer) (result : ActResult)
    → ActGives w at x answer result now → ActsInLive x answer → now.live ≡ x.live
act_gave_live w at x now (Ok written, after) (Ok frame) gives acts = ap (λ (y : ExchangeParts). y.live) gives.1 ∙ acts.0
act_gave_live w at x now (Ok written, after) (Err fault) gives acts = ap (λ (y : ExchangeParts). y.live) gives.1
act_gave_live w at x now (Err refused, after) result gives acts = ap (λ (y : ExchangeParts). y.live) (gives.1 ∙ acts)

-- no frame was kept
pub act_still : (w : Encoding) (at : StampParts) (s : SessionParts) (x now : ExchangeParts) (to from new : List Frame)
    (answer : ActAnswer) (result : ActResult) → IsKept w s x to from → ActGives w at x answer result now
    → exchange.IsSound answer.1
    → ActsInLive x answer
    → new ≡ from
    → IsKept w s now to new
act_still w at s x now to from new answer result kept gives sound acts is = record {
  session = kept.session;
  exchange = act_gave_sound w at x now answer result gives kept.exchange sound;
  to_exchange = kept.to_exchange;
  from_exchange = subst (AllByRecursion (IsWritten w)) (sym is) kept.from_exchange;
  live = if_some (live_connection now) (λ connection. last_connection new ≡ Some connection)
      (λ connection here.
      ap last_connection is
      ∙ some_if (live_connection x) (λ live. last_connection from ≡ Some live) connection kept.live
      (sym (same_live x now (act_gave_live w at x now answer result gives acts)) ∙ here));
}

-- a frame was kept
act_framed : (w : Encoding) (at : StampParts) (x now : ExchangeParts) (connection : ℕ) (bytes : Vec ℕ) (answer : ActAnswer) → at ≡ moment
    → ActGives w at x answer (Ok (Some bytes)) now
    → IfOk answer.0 (All IsWritable)
    → AllByRecursion (IsWritten w) (written_in connection (bytes ∷ []))
act_framed w at x now connection bytes (Err refused, after) then gives can = absurd (let e = gives.0 in cc)
act_framed w at x now connection bytes (Ok written, after) then gives can =
    are_written w connection written (bytes ∷ []) can
    (subst (λ (stamp : StampParts). AreFramed w stamp written (bytes.items ∷ [])) then gives.0)

pub act_kept : (w : Encoding) (at : StampParts) (s : SessionParts) (x now : ExchangeParts) (to from new : List Frame) (connection : ℕ)
    (answer : ActAnswer) (bytes : Vec ℕ) → IsKept w s x to from → at ≡ moment
    → ActGives w at x answer (Ok (Some bytes)) now
    → exchange.IsSound answer.1
    → IfOk answer.0 (All IsWritable)
    → ActsInLive x answer
    → Some connection ≡ last_connection from
    → new ≡ from ++ record { connection = connection; bytes = bytes } ∷ []
    → IsKept w s now to new
act_kept w at s x now to from new connection answer bytes kept then gives sound can acts last is = record {
  session = kept.session;
  exchange = act_gave_sound w at x now answer (Ok (Some bytes)) gives kept.exchange sound;
  to_exchange = kept.to_exchange;
  from_exchange = subst (AllByRecursion (IsWritten w)) (sym is)
      (all_more (IsWritten w) from _ kept.from_exchange (act_framed w at x now connection bytes answer then gives can));
  live = if_some (live_connection now) (λ live. last_connection new ≡ Some live)
      (λ live here.
      ap last_connection is
      ∙ (last_written from connection bytes []
      ∙ (last
      ∙ some_if (live_connection x) (λ one. last_connection from ≡ Some one) live kept.live
      (sym (same_live x now (act_gave_live w at x now answer (Ok (Some bytes)) gives acts)) ∙ here))));
}

-- what became of the venue
did_nothing : (live : Option ℕ) (after : ExchangeParts) (venue : VenueParts)
    → record venue { exchange = after } ≡ exchange_did live [] after venue
did_nothing None after venue = refl
did_nothing (Some connection) after venue =
    λ k. record venue { exchange = after; from_exchange = sym (append-nil venue.from_exchange) k }

pub acted_silently : (w : Encoding) (at : StampParts) (venue : VenueParts) (answer : ActAnswer) (now : ExchangeParts)
    → ActGives w at venue.exchange answer (Ok None) now → record venue { exchange = now } ≡ acted venue answer
acted_silently w at venue (Err refused, after) now gives = absurd (let e = gives.0 in cc)
acted_silently w at venue (Ok [], after) now gives =
    (λ k. record venue { exchange = gives.1 k }) ∙ did_nothing (live_connection venue.exchange) after venue
acted_silently w at venue (Ok (out ∷ more), after) now gives = absurd gives.0

pub acted_said : (w : Encoding) (r : Decoding) → Agrees w r → (at : StampParts) (s : SessionParts) (venue : VenueParts)
    (to from new : List Frame) (connection : ℕ) (answer : ActAnswer) (bytes : Vec ℕ) (now : ExchangeParts)
    → IsKept w s venue.exchange to from
    → venue.from_exchange ≡ all_said r from
    → at ≡ moment
    → ActGives w at venue.exchange answer (Ok (Some bytes)) now
    → IfOk answer.0 (All IsWritable)
    → ActsInLive venue.exchange answer
    → Some connection ≡ last_connection from
    → new ≡ from ++ record { connection = connection; bytes = bytes } ∷ []
    → record venue { exchange = now; from_exchange = all_said r new } ≡ acted venue answer
acted_said w r agrees at s venue to from new connection (Err refused, after) bytes now kept said then gives can acts last is =
    absurd (let e = gives.0 in cc)
acted_said w r agrees at s venue to from new connection (Ok written, after) bytes now kept said then gives can acts last is =
    let x = venue.exchange in
    let alive : x.live ≡ None → ⊥ = wrote_alive w at x now (Ok written, after) bytes acts gives in
    let live : live_connection x ≡ Some connection = is_live x.live (last_connection from) connection alive kept.live last in
    let framed : AreFramed w moment written (bytes.items ∷ []) =
    subst (λ (stamp : StampParts). AreFramed w stamp written (bytes.items ∷ [])) then gives.0 in
    let here = said_written w r agrees connection written (bytes ∷ []) can framed in
    let more = ap (all_said r) is ∙ said_more r from (written_in connection (bytes ∷ [])) in
    (λ k. record venue { exchange = now; from_exchange = more k })
    ∙ ((λ k. record venue { exchange = gives.1 k; from_exchange = sym said k ++ here k })
    ∙ sym (ap (λ (one : Option ℕ). exchange_did one written after venue) live))

-- a refused act leaves the world
pub acted_is : (w : World) (v : ℕ) (venue : VenueParts) (answer : ActAnswer) → venue_in w v ≡ Some venue
    → ActsInLive venue.exchange answer
    → with_venue w v (acted venue answer) ≡ acted_world w v venue answer
acted_is w v venue (Ok written, after) there acts = refl
acted_is w v venue (Err fault, after) there acts =
    (λ k. with_venue w v (record venue { exchange = acts k })) ∙ with_same w v venue there
