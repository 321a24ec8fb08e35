-- A line that was logged is read back.
use Rattle.std.proofs.Common.{◌≡◌, ℕ, ◌≤◌, List, [], ◌∷◌, ◌++◌, length, take, drop, Some, Ok, refl, ap, ◌∙◌, subst, arith, append_assoc, length-append}
use Rattle.std.proofs.lemmas.List.{append_cancel_right}
use Rattle.std.proofs.Math.Seq.{take-append_seam, drop-append_seam}
use Rattle.fix_tags.specs.Stamp.{StampParts, IsStamp, stamp_text, stamp_read}
use Rattle.fix_tags.proofs.ReadBack.{stamp_read-stamp_text}
use Rattle.message_log.specs.declared.direction.Direction.{Direction}
use Rattle.message_log.specs.declared.direction.Direction.TheVariants.{Sent, Received}
use Rattle.message_log.specs.Line.{line_text, logged, mark}
use Rattle.log_text.specs.Line.{direction_said, line_said}
use Rattle.log_text.specs.Message.{message_said}
use Rattle.log_text.proofs.LineParts.{said_of_parts}
use Rattle.log_text.proofs.ReadBack.{AreBytes, message_back}

-- what stands before a place, and behind it
take_head : (n : ℕ) (head rest : List ℕ) → length head ≡ n → take n (head ++ rest) ≡ head
take_head n head rest long = subst (λ (k : ℕ). take k (head ++ rest) ≡ head) long (take-append_seam head rest)

drop_head : (n : ℕ) (head rest : List ℕ) → length head ≡ n → drop n (head ++ rest) ≡ rest
drop_head n head rest long = subst (λ (k : ℕ). drop k (head ++ rest) ≡ rest) long (drop-append_seam head rest)

-- a stamp has 21 bytes, and a mark has three
stamp_length : (s : StampParts) → length (stamp_text s) ≡ 21
unfolding stamp_text
stamp_length s = refl

mark_length : (direction : Direction) → length (mark direction) ≡ 3
mark_length Sent = refl
mark_length Received = refl

-- a mark is read back
mark_back : (direction : Direction) → direction_said (mark direction) ≡ Some direction
mark_back Sent = refl
mark_back Received = refl

line_back : (stamp : StampParts) (direction : Direction) (message : List ℕ) → IsStamp stamp → AreBytes message
    → line_said ((stamp_text stamp ++ mark direction) ++ logged message)
    ≡ Ok (record { stamp = stamp; direction = direction; message = message })
line_back stamp direction message is_stamp small =
    let front = stamp_text stamp in
    let way = mark direction in
    let text = logged message in
    let line : List ℕ = (front ++ way) ++ text in
    let front_long : length front ≡ 21 = stamp_length stamp in
    let way_long : length way ≡ 3 = mark_length direction in
    let head_long : length (front ++ way) ≡ 24 = omega (arith, length-append front way) in
    let long : 24 ≤ length line = omega (arith, length-append (front ++ way) text) in
    let apart : line ≡ front ++ (way ++ text) = append_assoc front way text in
    let first : take 21 line ≡ front = ap (take 21) apart ∙ take_head 21 front (way ++ text) front_long in
    let second : take 3 (drop 21 line) ≡ way =
    ap (λ l. take 3 (drop 21 l)) apart ∙ ap (take 3) (drop_head 21 front (way ++ text) front_long) ∙ take_head 3 way text way_long in
    let third : drop 24 line ≡ text = drop_head 24 (front ++ way) text head_long in
    said_of_parts line message stamp direction long
    (ap stamp_read first ∙ stamp_read-stamp_text stamp is_stamp)
    (ap direction_said second ∙ mark_back direction)
    (ap message_said third ∙ message_back message small)

-- a line without the end that it was logged with
pub logged_line_back : (stamp : StampParts) (direction : Direction) (message line : List ℕ) → IsStamp stamp
    → AreBytes message → line ++ 10 ∷ [] ≡ line_text stamp direction message
    → line_said line ≡ Ok (record { stamp = stamp; direction = direction; message = message })
logged_line_back stamp direction message line is_stamp small logged_so =
    let text = (stamp_text stamp ++ mark direction) ++ logged message in
    ap line_said (append_cancel_right line text (10 ∷ []) logged_so) ∙ line_back stamp direction message is_stamp small
