-- An exchange keeps its promises of itself, over every call.
use Rattle.std.proofs.Common.{◌≡◌, ℕ, true, List, refl, sym, subst, arith}
use Rattle.std.proofs.lemmas.Bool.Decides.{nat_tests}
use Rattle.fix_tags.specs.Config.{ConfigParts, IsConfig}
use Rattle.dialect.specs.FreeText.{IsFreeText}
use Rattle.dialect.specs.declared.message.Message.{Message}
use Rattle.dialect.specs.declared.report.ReportKind.{ReportKind}
use Rattle.exchange_core.specs.Order.{OrderParts, view_of}
use Rattle.exchange_core.specs.declared.sent_record.SentRecord.{SentRecord}
use Rattle.exchange_core.specs.declared.sent_record.SentRecord.TheVariants.{Admin, Reported}
use Rattle.exchange_core.specs.SentRecord.{has_numbers}
use Rattle.exchange_core.specs.Exchange.{ExchangeParts, new_exchange, next_report, take, drop_connection}
use Rattle.exchange_core.specs.Acts.{reported, trade, cancel_rest, reject, bust, tested, test}
use Rattle.exchange_core.specs.Sound.{IsRead, IsSound}
use Rattle.exchange_core.proofs.After.{take_after}
use Rattle.exchange_core.proofs.Sound.{no_live, take_sound, take_numbered, take_in_range}
use Rattle.exchange_core.proofs.ActsReport.{IsReported, trade_is, cancel_rest_is, reject_is, bust_is, test_is}
use Rattle.exchange_core.proofs.ActsKeep.{one_more}
use Rattle.exchange_core.proofs.Keeps.{HasSoundParts, take_parts, reported_keeps_parts, tested_parts}

pub new_is_sound : (config : ConfigParts) → IsConfig config → IsSound (new_exchange config)
new_is_sound config is = record {
  config = is;
  live = no_live (new_exchange config) refl;
  numbered = (let limit = is.max_number_from in omega (arith, limit));
  expectable = record { from = omega arith; to = omega arith };
  orders = tt;
  few = omega arith;
  own = tt;
}

pub parts_of : (x : ExchangeParts) → IsSound x → HasSoundParts x
parts_of x sound = record { orders = sound.orders; few = sound.few; own = sound.own }

-- whatever comes in the ranges that are read
pub take_is_sound : (x : ExchangeParts) (connection : ℕ) (m : Message) → IsSound x → IsRead m → IsSound (take x connection m).1
take_is_sound x connection m sound read =
    let parts = take_parts x connection m (parts_of x sound) sound.config sound.expectable read.content in
    record {
      config = subst IsConfig (sym (take_after x connection m).config) sound.config;
      live = take_sound x connection m sound.live;
      numbered = take_numbered x connection m sound.numbered;
      expectable = take_in_range x connection m read.range sound.expectable;
      orders = parts.orders;
      few = parts.few;
      own = parts.own;
    }

-- whatever it does by itself
reported_is_sound : (x : ExchangeParts) → IsSound x → (place : ℕ) (old new : OrderParts) (kind : ReportKind) → IsReported (IsFreeText 20) x place old new kind → IsSound (reported x place new kind).1
reported_is_sound x sound place old new kind is =
    let parts = reported_keeps_parts x (parts_of x sound) sound.config place old new kind is in
    let entry : SentRecord = Reported (next_report x new kind) (view_of place new) in
    record {
      config = sound.config;
      live = sound.live;
      numbered = one_more x.own entry x.config.max_number (grind (arith, nat_tests, is.left));
      expectable = record { from = sound.expectable.from; to = sound.expectable.to };
      orders = parts.orders;
      few = parts.few;
      own = parts.own;
    }

pub tested_is_sound : (x : ExchangeParts) → IsSound x → has_numbers 1 x.config x.own ≡ true → IsSound (tested x).1
tested_is_sound x sound left =
    let parts = tested_parts x (parts_of x sound) in
    record {
      config = sound.config;
      live = sound.live;
      numbered = one_more x.own Admin x.config.max_number (grind (arith, nat_tests, left));
      expectable = record { from = sound.expectable.from; to = sound.expectable.to };
      orders = parts.orders;
      few = parts.few;
      own = parts.own;
    }

pub trade_is_sound : (x : ExchangeParts) (place shares : ℕ) (px : List ℕ) → IsSound x → IsFreeText 20 px → IsSound (trade x place shares px).1
trade_is_sound x place shares px sound is = trade_is (IsFreeText 20) x IsSound sound (reported_is_sound x sound) place shares px is

pub cancel_rest_is_sound : (x : ExchangeParts) (place : ℕ) → IsSound x → IsSound (cancel_rest x place).1
cancel_rest_is_sound x place sound = cancel_rest_is (IsFreeText 20) x IsSound sound (reported_is_sound x sound) place

pub reject_is_sound : (x : ExchangeParts) (place : ℕ) → IsSound x → IsSound (reject x place).1
reject_is_sound x place sound = reject_is (IsFreeText 20) x IsSound sound (reported_is_sound x sound) place

pub bust_is_sound : (x : ExchangeParts) (place which : ℕ) → IsSound x → IsSound (bust x place which).1
bust_is_sound x place which sound = bust_is (IsFreeText 20) x IsSound sound (reported_is_sound x sound) place which

pub test_is_sound : (x : ExchangeParts) → IsSound x → IsSound (test x).1
test_is_sound x sound = test_is x IsSound sound (tested_is_sound x sound)

pub drop_is_sound : (x : ExchangeParts) → IsSound x → IsSound (drop_connection x)
drop_is_sound x sound = record {
  config = sound.config;
  live = no_live (drop_connection x) refl;
  numbered = sound.numbered;
  expectable = record { from = sound.expectable.from; to = sound.expectable.to };
  orders = sound.orders;
  few = sound.few;
  own = sound.own;
}
