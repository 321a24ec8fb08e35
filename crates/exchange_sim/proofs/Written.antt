-- What stands behind the bytes that waited.
use Rattle.std.proofs.Common.{◌≡◌, ℕ, ◌+◌, ◌<◌, List, [], ◌∷◌, ◌++◌, length, get_or, drop, min, Ok, Err, Some, None, option_to_list, slice_get, refl, sym, ap, ◌∙◌, append_assoc}
use Rattle.std.specs.List.{concat}
use Rattle.std.proofs.lemmas.List.{at_drop_more}
use Rattle.std.specs.Global.{Vec}
use Rattle.fix_tags.specs.Price.{price_short}
use Rattle.fix_tags.specs.Stamp.{StampParts}
use Rattle.leg.specs.declared.leg.Leg.{Leg}
use Rattle.dialect.specs.Wording.{Encoding}
use Rattle.dialect.specs.declared.message.Message.{Message}
use Rattle.exchange_core.specs.Exchange.{ExchangeParts, Answer, accepted_by, take}
use Rattle.exchange_core.specs.Acts.{ActAnswer}
use Rattle.exchange_core.specs.Frames.{ActResult, ActGives, TakeGives, bytes_of}
use Rattle.exchange_sim.specs.Dealing.{IsKnown}
use Rattle.exchange_sim.specs.Sending.{frames_of, messages_of, Sends, Reports, Answers}

-- a frame more was put behind the others
pub put_more : (frames : List (Vec ℕ)) (i : ℕ) (frame : Vec ℕ) (old new all : List ℕ) → i < length frames
    → frame ≡ get_or frames i frame → new ≡ old ++ frame.items → old ++ concat (bytes_of (drop i frames)) ≡ all
    → new ++ concat (bytes_of (drop (i + 1) frames)) ≡ all
put_more frames i frame old new all inside is new_is before =
    let rest = concat (bytes_of (drop (i + 1) frames)) in
    let more : concat (bytes_of (drop i frames)) ≡ frame.items ++ rest =
    at_drop_more (λ (fs : List (Vec ℕ)). concat (bytes_of fs)) frames i frame inside
    ∙ ap (λ (f : Vec ℕ). f.items ++ rest) (sym is) in
    ap (λ (l : List ℕ). l ++ rest) new_is
    ∙ (append_assoc old frame.items rest ∙ (ap (λ (l : List ℕ). old ++ l) (sym more) ∙ before))

-- what an act writes is sent; one that is refused writes nothing
pub act_sends : (w : Encoding) (s at : StampParts) (x : ExchangeParts) (answer : ActAnswer) (given : ActResult) (y : ExchangeParts)
    (old new : List ℕ) → s ≡ at → ActGives w s x answer given y → IsKnown given → new ≡ old ++ concat (frames_of given)
    → Sends w at (messages_of answer.0) old new
act_sends w s at x (Err fault, after) given y old new moment gives known is =
    record { frames = []; framed = tt; behind = rw gives.0 at is }
act_sends w s at x (Ok written, after) (Ok frame) y old new moment gives known is =
    record { frames = bytes_of (option_to_list frame); framed = rw moment at gives.0; behind = is }
act_sends w s at x (Ok written, after) (Err fault) y old new moment gives known is = absurd (rw gives.0 at known)

-- what is answered to a message is sent
pub take_sends : (w : Encoding) (s at : StampParts) (x : ExchangeParts) (answer : Answer) (frames : Vec (Vec ℕ)) (y : ExchangeParts)
    (old new : List ℕ) → s ≡ at → TakeGives w s x answer (Ok frames) y → new ≡ old ++ concat (bytes_of frames.items)
    → Sends w at answer.0 old new
take_sends w s at x (written, after) frames y old new moment gives is =
    record { frames = bytes_of frames.items; framed = rw moment at gives.0; behind = is }

-- a message whose order was accepted: its answer, and then the reports
pub answers_and_reports : (w : Encoding) (fill connection : ℕ) (x y : ExchangeParts) (m : Message) (count shares : ℕ) (leg : Leg)
    (px : List ℕ) (at : StampParts) (old between new : List ℕ) → y ≡ (take x connection m).1 → count ≡ length (accepted_by x)
    → slice_get (accepted_by y) count ≡ Some leg → shares ≡ min fill leg.terms.shares → px ≡ price_short leg.terms.price
    → Sends w at (take x connection m).0 old between → Reports w (count + 1) shares px y between new
    → Answers w fill connection x m old new
answers_and_reports w fill connection x y m count shares leg px at old between new y_is count_is there shares_is px_is answered reports =
    let found = rw (y_is, count_is) at there in
    record {
      between = between;
      answered_at = at;
      answered = answered;
      reported = rw found (rw (shares_is, px_is, count_is, y_is) at reports);
    }

-- and one that brought no order: its answer alone
pub answers_alone : (w : Encoding) (fill connection : ℕ) (x y : ExchangeParts) (m : Message) (count : ℕ) (at : StampParts)
    (old new : List ℕ) → y ≡ (take x connection m).1 → count ≡ length (accepted_by x) → slice_get (accepted_by y) count ≡ None
    → Sends w at (take x connection m).0 old new → Answers w fill connection x m old new
answers_alone w fill connection x y m count at old new y_is count_is there answered =
    let found = rw (y_is, count_is) at there in
    record { between = new; answered_at = at; answered = answered; reported = rw found refl }
