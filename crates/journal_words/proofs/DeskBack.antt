-- The line of the desk says what was done there.
use Rattle.std.proofs.Common.{◌≡◌, ◌==◌, ℕ, ◌+◌, ◌<◌, ◌≤◌, false, List, [], ◌∷◌, ◌++◌, length, take, drop, codes, decimal, Some, None, refl, sym, ap, ◌∙◌, arith, append_assoc, length-append}
use Rattle.std.specs.Prelude.{Ok}
use Rattle.std.proofs.lemmas.Bool.{le-ltb}
use Rattle.fix_tags.specs.Stamp.{StampParts, IsStamp, stamp_text, stamp_read}
use Rattle.fix_tags.proofs.ReadBack.{number_of-decimal, stamp_read-stamp_text}
use Rattle.dialect.specs.Split.{parts_round}
use Rattle.dialect.specs.Lemmas.SplitLaws.{HasNo, parts_round-joined}
use Rattle.journal_words.specs.Desk.{DeskSaid, desk_words, desk_text, placed_said, with_rest, desk_parts_said, desk_behind_space, desk_at, desk_said}
use Rattle.journal_words.specs.Desk.DeskSaid.{Places, Settles, Pauses, Resumes, Halts, Ends}
use Rattle.journal_words.specs.Laws.{IsReadableDesk}
use Rattle.journal_words.proofs.Parts.{time_of, behind_time, line_length, one, more, no_space}

said_back : (stamp : StampParts) (rest : List ℕ) (said : DeskSaid) → IsStamp stamp
    → desk_behind_space rest ≡ Ok said → desk_said (stamp_text stamp ++ rest) ≡ Ok (stamp, said)
unfolding desk_said
said_back stamp rest said is says =
    let size : 21 ≤ length (stamp_text stamp ++ rest) = omega (arith, line_length stamp rest) in
    rw (
      le-ltb (length (stamp_text stamp ++ rest)) 21 size,
      time_of stamp rest,
      stamp_read-stamp_text stamp is,
      behind_time stamp rest,
      says,
    ) refl

place_word : HasNo 32 (codes "place")
place_word =
    more 112 (codes "lace") refl (more 108 (codes "ace") refl (more 97 (codes "ce") refl (more 99 (codes "e") refl (one 101 refl))))

settle_word : HasNo 32 (codes "settle")
settle_word =
    more 115 (codes "ettle") refl (more 101 (codes "ttle") refl (more 116 (codes "tle") refl (more 116 (codes "le") refl (more 108 (codes "e") refl (one 101 refl)))))

pause_word : HasNo 32 (codes "pause")
pause_word =
    more 112 (codes "ause") refl (more 97 (codes "use") refl (more 117 (codes "se") refl (more 115 (codes "e") refl (one 101 refl))))

resume_word : HasNo 32 (codes "resume")
resume_word =
    more 114 (codes "esume") refl (more 101 (codes "sume") refl (more 115 (codes "ume") refl (more 117 (codes "me") refl (more 109 (codes "e") refl (one 101 refl)))))

placed : (number : ℕ) (line : List ℕ) → number ≤ 999_999_999_999
    → placed_said (parts_round 32 (decimal number ++ 32 ∷ line)) ≡ Ok (Places number line)
placed number line high =
    rw (
      parts_round-joined 32 (decimal number) line (no_space number (omega arith)),
      number_of-decimal number high,
    ) refl

place_is : (number : ℕ) (line : List ℕ)
    → 32 ∷ desk_words (Places number line) ≡ 32 ∷ (codes "place" ++ 32 ∷ (decimal number ++ 32 ∷ line))
place_is number line = ap (λ (l : List ℕ). codes " place " ++ l) (append_assoc (decimal number) (32 ∷ []) line)

words_back : (said : DeskSaid) → IsReadableDesk said → desk_behind_space (32 ∷ desk_words said) ≡ Ok said
words_back (Places number line) high =
    ap desk_behind_space (place_is number line)
    ∙ (ap (desk_parts_said (codes "place" ++ 32 ∷ (decimal number ++ 32 ∷ line)))
    (parts_round-joined 32 (codes "place") (decimal number ++ 32 ∷ line) place_word)
    ∙ placed number line high)
words_back (Settles line) high =
    ap (desk_parts_said (codes "settle" ++ 32 ∷ line)) (parts_round-joined 32 (codes "settle") line settle_word)
words_back (Pauses venue) high =
    ap (desk_parts_said (codes "pause" ++ 32 ∷ venue)) (parts_round-joined 32 (codes "pause") venue pause_word)
words_back (Resumes venue) high =
    ap (desk_parts_said (codes "resume" ++ 32 ∷ venue)) (parts_round-joined 32 (codes "resume") venue resume_word)
words_back Halts high = refl
words_back Ends high = refl

pub desk_back : (stamp : StampParts) (said : DeskSaid) → IsStamp stamp → IsReadableDesk said
    → desk_said (desk_text stamp said) ≡ Ok (stamp, said)
desk_back stamp said is readable =
    ap desk_said (append_assoc (stamp_text stamp) (32 ∷ []) (desk_words said))
    ∙ said_back stamp (32 ∷ desk_words said) said is (words_back said readable)
