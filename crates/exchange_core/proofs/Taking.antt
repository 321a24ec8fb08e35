-- A message that comes: what was decided is carried out.
use Rattle.std.proofs.Common.{◌≡◌, ℕ, List, [], ◌++◌, Ok, sym, ap, ◌∙◌, subst}
use Rattle.std.specs.List.{All}
use Rattle.std.specs.Global.{Vec}
use Rattle.fix_tags.specs.Stamp.{StampParts}
use Rattle.dialect.specs.Framed.{AreFramed}
use Rattle.dialect.specs.Wording.{Encoding}
use Rattle.dialect.specs.Writable.{IsWritable}
use Rattle.dialect.specs.declared.message.Message.{Message}
use Rattle.exchange_core.specs.declared.turn.Decision.{Decision}
use Rattle.exchange_core.specs.Exchange.{ExchangeParts, Answer, take}
use Rattle.exchange_core.specs.Frames.{bytes_of, Writes, TakeGives}
use Rattle.exchange_core.specs.Keeping.{IsAnswer}
use Rattle.exchange_core.specs.Sound.{IsRead, IsSound}
use Rattle.exchange_core.specs.Turn.{asked_answer, action_answer, decided}
use Rattle.exchange_core.proofs.Answers.{take_answers}
use Rattle.exchange_core.proofs.Promises.{take_is_sound}
use Rattle.exchange_core.proofs.Writing.{writes_both, writable_front, writable_back}
use Rattle.exchange_core.proofs.Written.{take_said}

-- what is written can be
pub asked_writable : (x : ExchangeParts) (connection : ℕ) (m : Message) (d : Decision) → take x connection m ≡ decided x d → IsSound x → IsRead m → All IsWritable (asked_answer x d.asked)
asked_writable x connection m d is sound read =
    writable_front (asked_answer x d.asked) (action_answer x d.action).0
    (subst (λ (a : Answer). All IsWritable a.0) is (take_said x connection m sound read))

pub action_writable : (x : ExchangeParts) (connection : ℕ) (m : Message) (d : Decision) → take x connection m ≡ decided x d → IsSound x → IsRead m → All IsWritable (action_answer x d.action).0
action_writable x connection m d is sound read =
    writable_back (asked_answer x d.asked) (action_answer x d.action).0
    (subst (λ (a : Answer). All IsWritable a.0) is (take_said x connection m sound read))

-- the exchange stays sound
pub action_sound : (x : ExchangeParts) (connection : ℕ) (m : Message) (d : Decision) → take x connection m ≡ decided x d → IsSound x → IsRead m → IsSound (action_answer x d.action).1
action_sound x connection m d is sound read =
    subst (λ (a : Answer). IsSound a.1) is (take_is_sound x connection m sound read)

-- the rules allow it
pub take_allowed : (x : ExchangeParts) (connection : ℕ) (m : Message) → IsSound x → IsAnswer x connection m (take x connection m)
take_allowed x connection m sound = take_answers x connection m sound.live

-- the frames of both parts, and the exchange afterwards
pub taken_gives : (w : Encoding) (stamp : StampParts) (x : ExchangeParts) (connection : ℕ) (m said : Message) (d : Decision) (start between : List (Vec ℕ)) (frames : Vec (Vec ℕ)) (after : ExchangeParts) → m ≡ said → take x connection m ≡ decided x d → start ≡ [] → Writes w stamp (asked_answer x d.asked) start between → Writes w stamp (action_answer x d.action).0 between frames.items → after ≡ (action_answer x d.action).1 → TakeGives w stamp x (take x connection said) (Ok frames) after
taken_gives w stamp x connection m said d start between frames after same is empty first second now =
    let both = writes_both w stamp (asked_answer x d.asked) (action_answer x d.action).0 start between frames.items first second in
    subst (λ (n : Message). TakeGives w stamp x (take x connection n) (Ok frames) after) same
    (subst (λ (a : Answer). TakeGives w stamp x a (Ok frames) after) (sym is)
    (subst (λ l. AreFramed w stamp (asked_answer x d.asked ++ (action_answer x d.action).0) (bytes_of l)) (sym (both.added ∙ ap (λ l. l ++ both.frames) empty)) both.framed, now))
