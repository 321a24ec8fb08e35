-- What the desk's journal has kept of the sweeps released: it stays so while these are the same, and when one is placed.
use Rattle.std.proofs.Common.{◌≡◌, ℕ, suc, ◌+◌, List, [], ◌∷◌, ◌++◌, length, Option, Some, None, Result, Ok, Err, refl, ap, sym, ◌∙◌, arith}
use Rattle.std.proofs.lemmas.List.{append-nil}
use Rattle.fix_tags.specs.Stamp.{StampParts, IsStamp}
use Rattle.leg.specs.declared.sweep.Routed.{Routed}
use Rattle.sweep_release.specs.declared.receipt.Receipt.{Receipt}
use Rattle.sweep_release.specs.History.{KeptDesk, without_room}
use Rattle.sweep_release.proofs.KeptReleased.{number_left}
use Rattle.journal_tape.specs.Told.{LinesTold}
use Rattle.journal_words.specs.Desk.{DeskSaid, desk_text, desk_said}
use Rattle.journal_words.specs.Desk.DeskSaid.{Places, Settles, Pauses, Resumes, Halts, Ends}
use Rattle.journal_words.specs.declared.fault.WordsFault.{WordsFault}
use Rattle.journal_words.proofs.DeskBack.{desk_back}
use Rattle.kept_link.specs.Telling.{IsAllKept, TellsLines}
use Rattle.release_lock.specs.Queues.{Pumps}
use Rattle.release_lock.specs.Locked.{OnlyTurns}
use Rattle.release_lock.specs.Noted.{number_before, placed_in, numbers_from, IsNoted}
use Rattle.release_lock.proofs.Turning.{turned_sweeps, turns_none}
use Rattle.release_lock.proofs.Leaving.{pumped_sweeps}
use Rattle.release_lock.proofs.Placing.{IsReleased}

-- the sweeps are the same

noted_as : (before after : KeptDesk) (told : Option LinesTold) → after.desk.sweeps ≡ before.desk.sweeps
    → IsNoted before told → IsNoted after told
noted_as before after None same noted = tt
noted_as before after (Some told) same noted = (noted.0, noted.1 ∙ ap (numbers_from 1) (sym same))

pub turned_noted : (before after : KeptDesk) (told : Option LinesTold) → OnlyTurns before after → IsNoted before told
    → IsNoted after told
turned_noted before after told turns = noted_as before after told (turned_sweeps before after turns)

pub same_noted : (before after : KeptDesk) (told : Option LinesTold) → without_room after ≡ without_room before
    → IsNoted before told → IsNoted after told
same_noted before after told same = turned_noted before after told (turns_none before after same)

pub pumped_noted : (venue : ℕ) (before after : KeptDesk) (told : Option LinesTold) → Pumps venue before after
    → IsNoted before told → IsNoted after told
pumped_noted venue before after told pumps = noted_as before after told (pumped_sweeps venue before after pumps)

-- one more was

before_more : (said : Result (StampParts × DeskSaid) WordsFault) (numbers more : List ℕ)
    → number_before said (numbers ++ more) ≡ number_before said numbers ++ more
before_more (Ok (stamp, Places number line)) numbers more = refl
before_more (Ok (stamp, Settles line)) numbers more = refl
before_more (Ok (stamp, Pauses venue)) numbers more = refl
before_more (Ok (stamp, Resumes venue)) numbers more = refl
before_more (Ok (stamp, Halts)) numbers more = refl
before_more (Ok (stamp, Ends)) numbers more = refl
before_more (Err why) numbers more = refl

placed_push : (lines : List (List ℕ)) (line : List ℕ) (number : ℕ) → number_before (desk_said line) [] ≡ number ∷ []
    → placed_in (lines ++ line ∷ []) ≡ placed_in lines ++ number ∷ []
placed_push [] line number is = is
placed_push (first ∷ lines) line number is =
    ap (number_before (desk_said first)) (placed_push lines line number is)
    ∙ before_more (desk_said first) (placed_in lines) (number ∷ [])

numbers_push : (first : ℕ) (sweeps : List (List Routed)) (legs : List Routed)
    → numbers_from first (sweeps ++ legs ∷ []) ≡ numbers_from first sweeps ++ (length sweeps + first) ∷ []
numbers_push first [] legs =
    let same : first ≡ length {A = List Routed} [] + first = omega arith in ap (λ n. n ∷ []) same
numbers_push first (sweep ∷ sweeps) legs =
    let same : length sweeps + suc first ≡ length (sweep ∷ sweeps) + first = omega arith in
    ap (λ more. first ∷ more)
    (numbers_push (suc first) sweeps legs ∙ ap (λ n. numbers_from (suc first) sweeps ++ n ∷ []) same)

-- what is kept once a line more was told and all is kept
kept_more : (line : List ℕ) (a b : LinesTold) → b.kept ++ b.unkept ≡ (a.kept ++ a.unkept) ++ line ∷ [] → b.unkept ≡ []
    → a.unkept ≡ [] → b.kept ≡ a.kept ++ line ∷ []
kept_more line a b told kept was =
    sym (append-nil b.kept)
    ∙ (ap (λ (l : List (List ℕ)). b.kept ++ l) (sym kept)
    ∙ (told
    ∙ (ap (λ (l : List (List ℕ)). (a.kept ++ l) ++ line ∷ []) was
    ∙ ap (λ (l : List (List ℕ)). l ++ line ∷ []) (append-nil a.kept))))

says_number : (legs : List Routed) (before : KeptDesk) (receipt : Receipt) (after : KeptDesk) (stamp : StampParts)
    (line : List ℕ) → IsStamp stamp → IsReleased legs before receipt after
    → number_before (desk_said (desk_text stamp (Places receipt.number line))) [] ≡ receipt.number ∷ []
says_number legs before receipt after stamp line is it =
    let left = number_left before.desk legs it.fits in
    let number : receipt.number ≡ length before.desk.sweeps + 1 = ap (λ r. r.number) it.receipt_is in
    ap (λ said. number_before said []) (desk_back stamp (Places receipt.number line) is (omega (arith, left, number)))

pub placed_noted : (legs : List Routed) (before : KeptDesk) (receipt : Receipt) (after : KeptDesk) (stamp : StampParts)
    (line : List ℕ) (told now : Option LinesTold) → IsStamp stamp → IsReleased legs before receipt after
    → TellsLines (desk_text stamp (Places receipt.number line) ∷ []) told now → IsAllKept now → IsNoted before told
    → IsNoted after now
placed_noted legs before receipt after stamp line None None is it tells kept noted = tt
placed_noted legs before receipt after stamp line None (Some b) is it tells kept noted = absurd tells
placed_noted legs before receipt after stamp line (Some a) None is it tells kept noted = absurd tells
placed_noted legs before receipt after stamp line (Some a) (Some b) is it tells kept noted =
    let text = desk_text stamp (Places receipt.number line) in (
      kept,
      ap placed_in (kept_more text a b tells kept noted.0)
          ∙ (placed_push a.kept text receipt.number (says_number legs before receipt after stamp line is it)
          ∙ (ap (λ l. l ++ receipt.number ∷ []) noted.1
          ∙ (ap (λ r. numbers_from 1 before.desk.sweeps ++ r.number ∷ []) it.receipt_is
          ∙ (sym (numbers_push 1 before.desk.sweeps legs)
          ∙ ap (λ d. numbers_from 1 d.sweeps) (sym it.desk))))),
    )
