-- The line of a deed says that deed.
use Rattle.std.proofs.Common.{◌≡◌, ◌==◌, ℕ, ◌+◌, ◌<◌, ◌≤◌, false, List, [], ◌∷◌, ◌++◌, length, take, drop, codes, decimal, Some, None, refl, sym, ap, ◌∙◌, arith, append_assoc, length-append}
use Rattle.std.specs.Prelude.{Ok, Err}
use Rattle.std.proofs.lemmas.Bool.{le-ltb}
use Rattle.fix_tags.specs.Stamp.{StampParts, IsStamp, stamp_text, stamp_read}
use Rattle.fix_tags.proofs.ReadBack.{number_of-decimal, stamp_read-stamp_text}
use Rattle.leg.specs.LegId.{leg_id_text}
use Rattle.leg.specs.declared.placed_leg.PlacedLeg.{PlacedLeg}
use Rattle.dialect.specs.Plain.{plain_id_of}
use Rattle.dialect.specs.Split.{parts_round}
use Rattle.dialect.specs.Lemmas.SplitLaws.{HasNo, parts_round-joined}
use Rattle.dialect.specs.Lemmas.PlainIdLaws.{plain_id_of-text}
use Rattle.message_log.specs.declared.direction.Direction.TheVariants.{Received}
use Rattle.message_log.specs.Line.{line_text, logged}
use Rattle.log_text.specs.Line.{direction_said, line_said}
use Rattle.log_text.specs.declared.fault.LineFault.TheVariants as log
use Rattle.log_text.proofs.LineBack.{logged_line_back}
use Rattle.sweep_text.specs.Written.{terms_text}
use Rattle.journal_words.specs.declared.act.Act.{Act}
use Rattle.journal_words.specs.declared.act.Act.TheVariants.{Connected, Confirmed, Quieted, Silenced, Closed, Broke, Abandoned}
use Rattle.journal_words.specs.declared.leg_act.LegAct.{LegAct}
use Rattle.journal_words.specs.declared.leg_act.LegAct.TheVariants.{Sent, Dropped, Failed}
use Rattle.journal_words.specs.Deed.{DeedSaid, Timed, timed}
use Rattle.journal_words.specs.Deed.DeedSaid.{Acts, OfLeg, Hears}
use Rattle.journal_words.specs.Words.{act_word, leg_word, leg_words, deed_text, deed_line}
use Rattle.journal_words.specs.Reading.{leg_act_of, leg_of, of_leg, leg_said, said_of_parts, words_said, behind_space, at_time, said_at, other_said, logged_said, timed_said}
use Rattle.journal_words.specs.Laws.{IsPlaced, IsReadable}
use Rattle.journal_words.proofs.Parts.{time_of, behind_time, line_length, one, more, no_space, no_space_in_id}
use Rattle.journal_words.proofs.Terms.{terms_back}

-- a line whose words are no message's
no_direction : (stamp : StampParts) (rest : List ℕ) → IsStamp stamp → 3 ≤ length rest
    → direction_said (take 3 rest) ≡ None → line_said (stamp_text stamp ++ rest) ≡ Err log.Direction
no_direction stamp rest is long none =
    let size : 24 ≤ length (stamp_text stamp ++ rest) = omega (arith, line_length stamp rest) in
    rw (
      le-ltb (length (stamp_text stamp ++ rest)) 24 size,
      time_of stamp rest,
      stamp_read-stamp_text stamp is,
      behind_time stamp rest,
      none,
    ) refl

other_line : (stamp : StampParts) (rest : List ℕ) (said : DeedSaid) → IsStamp stamp → 3 ≤ length rest
    → behind_space rest ≡ Ok said → other_said (stamp_text stamp ++ rest) ≡ Ok (timed stamp said)
unfolding other_said
other_line stamp rest said is long says =
    let size : 22 ≤ length (stamp_text stamp ++ rest) = omega (arith, line_length stamp rest) in
    rw (
      le-ltb (length (stamp_text stamp ++ rest)) 22 size,
      time_of stamp rest,
      stamp_read-stamp_text stamp is,
      behind_time stamp rest,
      says,
    ) refl

said_back : (stamp : StampParts) (rest : List ℕ) (said : DeedSaid) → IsStamp stamp → 3 ≤ length rest
    → direction_said (take 3 rest) ≡ None → behind_space rest ≡ Ok said
    → timed_said (stamp_text stamp ++ rest) ≡ Ok (timed stamp said)
said_back stamp rest said is long none says =
    let line : List ℕ = stamp_text stamp ++ rest in
    ap (λ r. logged_said r line) (no_direction stamp rest is long none) ∙ other_line stamp rest said is long says

-- a call
act_back : (act : Act) → behind_space (32 ∷ act_word act) ≡ Ok (Acts act)
act_back Connected = refl
act_back Confirmed = refl
act_back Quieted = refl
act_back Silenced = refl
act_back Closed = refl
act_back Broke = refl
act_back Abandoned = refl

no_mark : (act : Act) → direction_said (take 3 (32 ∷ act_word act)) ≡ None
no_mark Connected = refl
no_mark Confirmed = refl
no_mark Quieted = refl
no_mark Silenced = refl
no_mark Closed = refl
no_mark Broke = refl
no_mark Abandoned = refl

act_long : (act : Act) → 3 ≤ length (32 ∷ act_word act)
act_long Connected = omega arith
act_long Confirmed = omega arith
act_long Quieted = omega arith
act_long Silenced = omega arith
act_long Closed = omega arith
act_long Broke = omega arith
act_long Abandoned = omega arith

-- a leg
regroup : (a b c : List ℕ) → (((a ++ 32 ∷ []) ++ b) ++ 32 ∷ []) ++ c ≡ a ++ 32 ∷ (b ++ 32 ∷ c)
regroup a b c = simp append_assoc

leg_back : (placed : PlacedLeg) → IsPlaced placed → leg_of (leg_words placed) ≡ Ok placed
unfolding leg_of
leg_back placed is =
    let ordinal = decimal placed.ordinal in
    let id = leg_id_text placed.leg.id in
    let terms = terms_text placed.leg.terms in
    let high = is.ordinal in
    rw (
      regroup ordinal id terms,
      parts_round-joined 32 ordinal (id ++ 32 ∷ terms) (no_space placed.ordinal (omega arith)),
      number_of-decimal placed.ordinal is.ordinal,
      parts_round-joined 32 id terms (no_space_in_id placed.leg.id is.leg.id),
      plain_id_of-text placed.leg.id is.leg.id,
      terms_back placed.leg.terms is.leg.terms,
    ) refl

word_no_space : (act : LegAct) → HasNo 32 (leg_word act)
word_no_space Sent = more 115 (codes "end") refl (more 101 (codes "nd") refl (more 110 (codes "d") refl (one 100 refl)))
word_no_space Dropped = more 100 (codes "rop") refl (more 114 (codes "op") refl (more 111 (codes "p") refl (one 112 refl)))
word_no_space Failed = more 102 (codes "ail") refl (more 97 (codes "il") refl (more 105 (codes "l") refl (one 108 refl)))

word_back : (act : LegAct) → leg_act_of (leg_word act) ≡ Some act
word_back Sent = refl
word_back Dropped = refl
word_back Failed = refl

leg_line_back : (act : LegAct) (placed : PlacedLeg) → IsPlaced placed
    → behind_space (32 ∷ ((leg_word act ++ codes " ") ++ leg_words placed)) ≡ Ok (OfLeg act placed)
leg_line_back act placed is =
    rw (
      append_assoc (leg_word act) (32 ∷ []) (leg_words placed),
      parts_round-joined 32 (leg_word act) (leg_words placed) (word_no_space act),
      word_back act,
      leg_back placed is,
    ) refl

leg_mark : (act : LegAct) (words : List ℕ) → direction_said (take 3 (32 ∷ ((leg_word act ++ codes " ") ++ words))) ≡ None
leg_mark Sent words = refl
leg_mark Dropped words = refl
leg_mark Failed words = refl

leg_long : (act : LegAct) (words : List ℕ) → 3 ≤ length (32 ∷ ((leg_word act ++ codes " ") ++ words))
leg_long Sent words = omega arith
leg_long Dropped words = omega arith
leg_long Failed words = omega arith

-- a message
heard_line : (stamp : StampParts) (fields : List ℕ)
    → deed_line (timed stamp (Hears fields)) ++ 10 ∷ [] ≡ line_text stamp Received fields
heard_line stamp fields = simp append_assoc

by_deed : (stamp : StampParts) (said : DeedSaid) → IsStamp stamp → IsReadable said
    → timed_said (deed_line (timed stamp said)) ≡ Ok (timed stamp said)
by_deed stamp (Acts act) is readable =
    ap timed_said (append_assoc (stamp_text stamp) (32 ∷ []) (act_word act))
    ∙ said_back stamp (32 ∷ act_word act) (Acts act) is (act_long act) (no_mark act) (act_back act)
by_deed stamp (OfLeg act placed) is readable =
    let words : List ℕ = (leg_word act ++ codes " ") ++ leg_words placed in
    ap timed_said (append_assoc (stamp_text stamp) (32 ∷ []) words)
    ∙ said_back stamp (32 ∷ words) (OfLeg act placed) is (leg_long act (leg_words placed)) (leg_mark act (leg_words placed))
    (leg_line_back act placed readable)
by_deed stamp (Hears fields) is readable =
    let line = deed_line (timed stamp (Hears fields)) in
    ap (λ r. logged_said r line) (logged_line_back stamp Received fields line is readable (heard_line stamp fields))

pub deed_back : (t : Timed) → IsStamp t.stamp → IsReadable t.deed → timed_said (deed_line t) ≡ Ok t
deed_back t is readable = by_deed t.stamp t.deed is readable
