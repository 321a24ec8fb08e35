-- What was said, one phrase further.
use Rattle.std.proofs.Common.{◌≡◌, ◌+◌, ℕ, suc, ◌<◌, ◌≤◌, List, [], ◌∷◌, ◌++◌, length, drop, get_or, Option, Some, None, true, false, refl, sym, ap, ◌∙◌, arith}
use Rattle.std.proofs.lemmas.List.{drop_all, drop_more}
use Rattle.leg.specs.declared.leg.Leg.{Leg}
use Rattle.leg.specs.declared.leg_state.LegState.{LegState}
use Rattle.leg.specs.declared.leg_state.LegState.TheVariants as state
use Rattle.std.specs.Prelude.{codes}
use Rattle.share_ledger.specs.declared.book_entry.BookEntry.{BookEntry}
use Rattle.share_ledger.specs.declared.book_entry.BookEntry.TheVariants as entry
use Rattle.venue_replay.specs.declared.frame.Frame.{Frame}
use Rattle.event_text.specs.Deeds.{frame_phrases, frame_text, is_settled, settled_count, taken_phrase, taken_phrases, withdrawn_phrases}
use Rattle.event_text.specs.Says.{also, says}

-- the first phrase, and one more
pub also_first : (said phrase : List ℕ) → length said ≡ 0 → also said phrase ≡ said ++ phrase
also_first [] phrase none = refl
also_first (byte ∷ said) phrase none = absurd cc

pub also_more : (said phrase : List ℕ) → (length said ≡ 0 → ⊥) → also said phrase ≡ (said ++ codes "; ") ++ phrase
also_more [] phrase some = absurd (some refl)
also_more (byte ∷ said) phrase some = refl

-- a frame
pub frames_next : (direction : List ℕ) (v place : ℕ) (frames : List Frame) (d : Frame) (text now start : List ℕ)
    → place < length frames
    → now ≡ also text (frame_text direction v (place + 1) (get_or frames place d))
    → says text (frame_phrases direction v (place + 1) (drop place frames)) ≡ start
    → says now (frame_phrases direction v (place + 1 + 1) (drop (place + 1) frames)) ≡ start
frames_next direction v place frames d text now start within wrote before =
    let more = drop_more frames place d within in
    let one : place + 1 + 1 ≡ suc (place + 1) = omega arith in
    (λ k. says (wrote k) (frame_phrases direction v (one k) (drop (place + 1) frames)))
    ∙ (sym (ap (λ (rest : List Frame). says text (frame_phrases direction v (place + 1) rest)) more) ∙ before)

-- an entry of the book
entry_next : (text : List ℕ) (first : BookEntry) (rest : List BookEntry)
    → says text (withdrawn_phrases (first ∷ rest)) ≡ says (says text (withdrawn_phrases (first ∷ []))) (withdrawn_phrases rest)
entry_next text (entry.Opened sweep) rest = refl
entry_next text (entry.Withdrawn leg) rest = refl
entry_next text (entry.Moved venue note) rest = refl

pub entries_next : (place : ℕ) (entries : List BookEntry) (d : BookEntry) (text now start : List ℕ) → place < length entries
    → now ≡ says text (withdrawn_phrases (get_or entries place d ∷ []))
    → says text (withdrawn_phrases (drop place entries)) ≡ start
    → says now (withdrawn_phrases (drop (place + 1) entries)) ≡ start
entries_next place entries d text now start within wrote before =
    let more = drop_more entries place d within in
    ap (λ (t : List ℕ). says t (withdrawn_phrases (drop (place + 1) entries))) wrote
    ∙ (sym (entry_next text (get_or entries place d) (drop (place + 1) entries))
    ∙ (sym (ap (λ (rest : List BookEntry). says text (withdrawn_phrases rest)) more) ∙ before))

-- more phrases, in two parts
says_parts : (text : List ℕ) (first rest : List (List ℕ)) → says text (first ++ rest) ≡ says (says text first) rest
says_parts text [] rest = refl
says_parts text (phrase ∷ first) rest = says_parts (also text phrase) first rest

-- a leg that isn't settled isn't told
untold : (state : Option LegState) (leg : Leg) → is_settled state ≡ false → taken_phrase state leg ≡ []
untold None leg unsettled = refl
untold (Some state.Queued) leg unsettled = refl
untold (Some state.Doubt) leg unsettled = refl
untold (Some state.Taken) leg unsettled = absurd cc
untold (Some state.Withdrawn) leg unsettled = absurd cc

-- a leg that is settled, and one that isn't
module _ (state : ℕ → Option LegState) (place : ℕ) (legs : List Leg) (d : Leg) (within : place < length legs) where
  more : drop place legs ≡ get_or legs place d ∷ drop (place + 1) legs
  more = drop_more legs place d within

  taken_here : is_settled (state (place + 1)) ≡ true → taken_phrases state (place + 1) (drop place legs)
      ≡ taken_phrase (state (place + 1)) (get_or legs place d) ++ taken_phrases state (place + 1 + 1) (drop (place + 1) legs)
  taken_here settled = ap (taken_phrases state (place + 1)) more ∙ rw settled refl

  pub taken_next : (text now start : List ℕ) → is_settled (state (place + 1)) ≡ true
      → now ≡ says text (taken_phrase (state (place + 1)) (get_or legs place d))
      → says text (taken_phrases state (place + 1) (drop place legs)) ≡ start
      → says now (taken_phrases state (place + 1 + 1) (drop (place + 1) legs)) ≡ start
  taken_next text now start settled wrote before =
      ap (λ (t : List ℕ). says t (taken_phrases state (place + 1 + 1) (drop (place + 1) legs))) wrote
      ∙ (sym (says_parts text (taken_phrase (state (place + 1)) (get_or legs place d))
      (taken_phrases state (place + 1 + 1) (drop (place + 1) legs)))
      ∙ (ap (says text) (sym (taken_here settled)) ∙ before))

  pub settled_next : (start : ℕ) → is_settled (state (place + 1)) ≡ true
      → place + settled_count state (place + 1) (drop place legs) ≡ start
      → place + 1 + settled_count state (place + 1 + 1) (drop (place + 1) legs) ≡ start
  settled_next start settled before =
      let here : settled_count state (place + 1) (drop place legs)
      ≡ suc (settled_count state (place + 1 + 1) (drop (place + 1) legs))
      = ap (settled_count state (place + 1)) more ∙ rw settled refl in
      omega (arith, here, before)

  -- it ends at a leg that isn't settled
  pub taken_stops : (text now start : List ℕ) → is_settled (state (place + 1)) ≡ false
      → now ≡ says text (taken_phrase (state (place + 1)) (get_or legs place d))
      → says text (taken_phrases state (place + 1) (drop place legs)) ≡ start
      → now ≡ start
  taken_stops text now start unsettled wrote before =
      let none : taken_phrases state (place + 1) (drop place legs) ≡ []
      = ap (taken_phrases state (place + 1)) more ∙ rw unsettled refl in
      wrote ∙ (ap (says text) (untold (state (place + 1)) (get_or legs place d) unsettled)
      ∙ (sym (ap (says text) none) ∙ before))

  pub settled_stops : (start : ℕ) → is_settled (state (place + 1)) ≡ false
      → place + settled_count state (place + 1) (drop place legs) ≡ start → place ≡ start
  settled_stops start unsettled before =
      let none : settled_count state (place + 1) (drop place legs) ≡ 0
      = ap (settled_count state (place + 1)) more ∙ rw unsettled refl in
      omega (arith, none, before)

-- behind the last leg
pub taken_end : (state : ℕ → Option LegState) (ordinal place : ℕ) (legs : List Leg) → length legs ≤ place
    → taken_phrases state ordinal (drop place legs) ≡ []
taken_end state ordinal place legs past = ap (taken_phrases state ordinal) (drop_all place legs past)

pub settled_end : (state : ℕ → Option LegState) (ordinal place : ℕ) (legs : List Leg) → length legs ≤ place
    → settled_count state ordinal (drop place legs) ≡ 0
settled_end state ordinal place legs past = ap (settled_count state ordinal) (drop_all place legs past)
