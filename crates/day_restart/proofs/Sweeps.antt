-- The sweeps that lines say were placed: one line more, and what is noted of them.
use Rattle.std.proofs.Common.{◌≡◌, ℕ, zero, suc, ◌+◌, List, [], ◌∷◌, ◌++◌, length, map, min, Option, Some, None, Result, Ok, Err, refl, ap, sym, subst, ◌∙◌, append_assoc, arith, true, false, Bool, ◌==◌, if◌then◌else◌}
use Rattle.std.specs.Prelude.{sum_by}
use Rattle.std.proofs.lemmas.List.{append-nil, length-map, map-append}
use Rattle.std.proofs.lemmas.List.Sums.{sum_by_push}
use Rattle.std.proofs.lemmas.Bool.Decides.{nat_tests}
use Rattle.fix_tags.specs.Stamp.{StampParts}
use Rattle.leg.specs.declared.sweep.Routed.{Routed}
use Rattle.share_ledger.specs.Entries.{sweep_shares}
use Rattle.sweep_refs.specs.Placed.{Entry}
use Rattle.sweep_refs.specs.declared.submission.Submission.{Submission}
use Rattle.sweep_text.specs.declared.command.Command.TheVariants.{Sweep}
use Rattle.sweep_text.specs.Line.{line_says}
use Rattle.sweep_release.specs.declared.receipt.Receipt.{Receipt}
use Rattle.sweep_release.specs.Desk.{DeskParts}
use Rattle.sweep_release.specs.History.{KeptDesk}
use Rattle.journal_words.specs.Desk.{DeskSaid, desk_said}
use Rattle.journal_words.specs.Desk.DeskSaid.{Places, Settles, Pauses, Resumes, Halts, Ends}
use Rattle.journal_words.specs.declared.fault.WordsFault.{WordsFault}
use Rattle.release_lock.specs.Locked.{BecomesOf, Releases, ReleasesWithin, day_dollars}
use Rattle.release_lock.specs.Noted.{number_before, numbers_from, placed_in}
use Rattle.order_limits.specs.declared.dollars.Dollars.{Dollars}
use Rattle.order_limits.specs.declared.over.Excess.{Excess}
use Rattle.order_limits.specs.Day.{judged_if}
use Rattle.order_limits.specs.Limits.{LimitParts}
use Rattle.release_lock.specs.Queues.{PumpsEach, PumpsIf, is_for}
use Rattle.release_lock.proofs.Leaving.{pumped_sweeps}
use Rattle.release_lock.proofs.Placing.{outcome}
use Rattle.day_restart.specs.Placing.{ArePlaced, IsPlacing, PlacedParts, PlacesLine, none_placed, with_placed}
use Rattle.day_restart.specs.Restored.{behind, entries_from, entries_of, entry_of, legs_in, legs_placed, placed_as, restored_desk, shares_in, submissions_from, submitted, up_to_most}

-- ---- a line more

-- both are there
record BothThere (first : Option Submission) (rest : Option (List Submission)) (all : List Submission) : Type 0 where
  one : Submission
  more : List Submission
  first_is : first ≡ Some one
  rest_is : rest ≡ Some more
  all_is : all ≡ one ∷ more

both_there : (first : Option Submission) (rest : Option (List Submission)) (all : List Submission)
    → behind first rest ≡ Some all → BothThere first rest all
both_there None None all e = absurd cc
both_there None (Some rest) all e = absurd cc
both_there (Some one) None all e = absurd cc
both_there (Some one) (Some more) all e =
    record { one = one; more = more; first_is = refl; rest_is = refl; all_is = (let same = e in cc) }

submissions_push : (names : List (List ℕ)) (number : ℕ) (lines : List (List ℕ)) (line : List ℕ) (sub : Submission)
    (all : List Submission) (k : ℕ) → submissions_from names number lines ≡ Some all → k ≡ length all + number
    → placed_as names k (desk_said line) ≡ Some sub
    → submissions_from names number (lines ++ line ∷ []) ≡ Some (all ++ sub ∷ [])
submissions_push names number [] line sub all k e k_is placed =
    let none : all ≡ [] = (let same = e in cc) in
    let long : length all ≡ 0 = ap length none in
    let here : k ≡ number = omega arith in
    ap (λ n. behind (placed_as names n (desk_said line)) (Some [])) (sym here)
    ∙ (ap (λ o. behind o (Some [])) placed ∙ ap (λ l. Some (l ++ sub ∷ [])) (sym none))
submissions_push names number (first ∷ lines) line sub all k e k_is placed =
    let both = both_there (placed_as names number (desk_said first)) (submissions_from names (suc number) lines) all e in
    let long : length all ≡ suc (length both.more) = ap length both.all_is in
    let here : k ≡ length both.more + suc number = omega arith in
    ap (λ o. behind o (submissions_from names (suc number) (lines ++ line ∷ []))) both.first_is
    ∙ (ap (behind (Some both.one))
    (submissions_push names (suc number) lines line sub both.more k both.rest_is here placed)
    ∙ ap (λ l. Some (l ++ sub ∷ [])) (sym both.all_is))

entries_push : (number : ℕ) (all : List Submission) (sub : Submission) (k : ℕ) → k ≡ length all + number
    → entries_from number (all ++ sub ∷ []) ≡ entries_from number all ++ entry_of k sub
entries_push number [] sub k k_is =
    let here : number ≡ k = omega arith in
    append-nil (entry_of number sub) ∙ ap (λ n. entry_of n sub) here
entries_push number (first ∷ all) sub k k_is =
    let here : k ≡ length all + suc number = omega arith in
    ap (λ l. entry_of number first ++ l) (entries_push (suc number) all sub k here)
    ∙ sym (append_assoc (entry_of number first) (entries_from (suc number) all) (entry_of k sub))

up_more : (a s n : ℕ) → a ≡ up_to_most s → up_to_most (a + n) ≡ up_to_most (s + n)
up_more a s n e = omega (arith, e)

pub none_again : (names : List (List ℕ)) (desk : DeskParts) → desk.sweeps ≡ [] → ArePlaced names [] desk none_placed
none_again names desk none =
    record { submissions = []; said = refl; released = none; entries = refl; legs = refl; shares = refl }

pub placed_more : (names lines : List (List ℕ)) (line : List ℕ) (desk after : DeskParts) (placed now : PlacedParts)
    → ArePlaced names lines desk placed → PlacesLine names line desk placed after now
    → ArePlaced names (lines ++ line ∷ []) after now
placed_more names lines line desk after placed now are more =
    let sub : Submission = more.0 in
    let all : List Submission = are.submissions in
    let k : ℕ = length desk.sweeps + 1 in
    let long : length desk.sweeps ≡ length all = ap length are.released ∙ simp length-map in
    let k_is : k ≡ length all + 1 = omega arith in
    let now_is : now ≡ with_placed k sub placed = more.3 in
    record {
      submissions = all ++ sub ∷ [];
      said = submissions_push names 1 lines line sub all k are.said k_is more.1;
      released = more.2 ∙ (ap (λ l. l ++ sub.sweep.legs ∷ []) are.released
          ∙ sym (map-append (λ (s : Submission). s.sweep.legs) all (sub ∷ [])));
      entries = ap (λ p. p.entries) now_is ∙ (ap (λ l. l ++ entry_of k sub) are.entries
          ∙ sym (entries_push 1 all sub k k_is));
      legs = ap (λ p. p.legs) now_is ∙ (up_more placed.legs (legs_in all) (length sub.sweep.legs) are.legs
          ∙ ap up_to_most (sym (sum_by_push (λ (s : Submission). length s.sweep.legs) all sub)));
      shares = ap (λ p. p.shares) now_is ∙ (up_more placed.shares (shares_in all) (sweep_shares sub.sweep.legs) are.shares
          ∙ ap up_to_most (sym (sum_by_push (λ (s : Submission). sweep_shares s.sweep.legs) all sub)));
    }

-- ---- what the journal says of them

if_same : (b : Bool) (x : Option Submission) (sub : Submission) → (if b then x else None) ≡ Some sub → b ≡ true
if_same true x sub e = refl
if_same false x sub e = absurd cc

says_number : (names : List (List ℕ)) (number : ℕ) (said : Result (StampParts × DeskSaid) WordsFault) (sub : Submission)
    (rest : List ℕ) → placed_as names number said ≡ Some sub → number_before said rest ≡ number ∷ rest
says_number names number (Ok (stamp, Places given line)) sub rest e =
    let same : (given == number) ≡ true = if_same (given == number) _ sub e in
    let is : given ≡ number = grind (arith, nat_tests) in
    ap (λ n. n ∷ rest) is
says_number names number (Ok (stamp, Settles line)) sub rest e = absurd cc
says_number names number (Ok (stamp, Pauses venue)) sub rest e = absurd cc
says_number names number (Ok (stamp, Resumes venue)) sub rest e = absurd cc
says_number names number (Ok (stamp, Halts)) sub rest e = absurd cc
says_number names number (Ok (stamp, Ends)) sub rest e = absurd cc
says_number names number (Err why) sub rest e = absurd cc

noted_from : (names : List (List ℕ)) (number : ℕ) (lines : List (List ℕ)) (all : List Submission)
    → submissions_from names number lines ≡ Some all → placed_in lines ≡ numbers_from number (legs_placed all)
noted_from names number [] all e =
    let none : all ≡ [] = (let same = e in cc) in ap (λ l. numbers_from number (legs_placed l)) (sym none)
noted_from names number (line ∷ lines) all e =
    let both = both_there (placed_as names number (desk_said line)) (submissions_from names (suc number) lines) all e in
    says_number names number (desk_said line) both.one (placed_in lines) both.first_is
    ∙ (ap (λ l. number ∷ l) (noted_from names (suc number) lines both.more both.rest_is)
    ∙ ap (λ l. numbers_from number (legs_placed l)) (sym both.all_is))

-- the numbers that the lines say are those of the sweeps
pub noted_again : (names lines : List (List ℕ)) (desk : DeskParts) (placed : PlacedParts)
    → ArePlaced names lines desk placed → placed_in lines ≡ numbers_from 1 desk.sweeps
noted_again names lines desk placed are =
    noted_from names 1 lines are.submissions are.said ∙ ap (numbers_from 1) (sym are.released)

-- each line says of one sweep that it was placed
pub one_each : (names : List (List ℕ)) (number : ℕ) (lines : List (List ℕ)) (all : List Submission)
    → submissions_from names number lines ≡ Some all → length lines ≡ length all
one_each names number [] all e = let none : all ≡ [] = (let same = e in cc) in ap length (sym none)
one_each names number (line ∷ lines) all e =
    let both = both_there (placed_as names number (desk_said line)) (submissions_from names (suc number) lines) all e in
    ap suc (one_each names (suc number) lines both.more both.rest_is) ∙ ap length (sym both.all_is)

-- ---- a line that says what was placed

-- what it says
record SaysPlaced (names : List (List ℕ)) (said : Result (StampParts × DeskSaid) WordsFault) (number : ℕ)
    (sub : Submission) : Type 0 where
  stamp : StampParts
  line : List ℕ
  is : said ≡ Ok (stamp, Places number line)
  asked : submitted (line_says names line) ≡ Some sub

if_true : (b : Bool) (x : Option Submission) (sub : Submission) → (if b then x else None) ≡ Some sub → x ≡ Some sub
if_true true x sub e = e
if_true false x sub e = absurd cc

says_placed : (names : List (List ℕ)) (number : ℕ) (said : Result (StampParts × DeskSaid) WordsFault) (sub : Submission)
    → placed_as names number said ≡ Some sub → SaysPlaced names said number sub
says_placed names number (Ok (stamp, Places given line)) sub e =
    let same : (given == number) ≡ true = if_same (given == number) _ sub e in
    let is : given ≡ number = grind (arith, nat_tests) in
    record {
      stamp = stamp;
      line = line;
      is = ap (λ n. Ok (stamp, Places n line)) is;
      asked = if_true (given == number) _ sub e;
    }
says_placed names number (Ok (stamp, Settles line)) sub e = absurd cc
says_placed names number (Ok (stamp, Pauses venue)) sub e = absurd cc
says_placed names number (Ok (stamp, Resumes venue)) sub e = absurd cc
says_placed names number (Ok (stamp, Halts)) sub e = absurd cc
says_placed names number (Ok (stamp, Ends)) sub e = absurd cc
says_placed names number (Err why) sub e = absurd cc

abbrev line_in : Result (StampParts × DeskSaid) WordsFault → List ℕ
line_in (Ok (stamp, Places number line)) = line
line_in (Ok (stamp, Settles line)) = line
line_in (Ok (stamp, Pauses venue)) = venue
line_in (Ok (stamp, Resumes venue)) = venue
line_in (Ok (stamp, Halts)) = []
line_in (Ok (stamp, Ends)) = []
line_in (Err why) = []

-- it is read as one sweep each time
pub same_placing : (names : List (List ℕ)) (text : List ℕ) (one other : ℕ) (a b : Submission)
    → IsPlacing names text one a → IsPlacing names text other b → a ≡ b
same_placing names text one other a b first next =
    let x = says_placed names one (desk_said text) a first in
    let y = says_placed names other (desk_said text) b next in
    let lines : x.line ≡ y.line = sym (ap line_in x.is) ∙ ap line_in y.is in
    let both : Some a ≡ Some b = sym x.asked ∙ (ap (λ l. submitted (line_says names l)) lines ∙ y.asked) in
    cc

same_number : (n : ℕ) → (n == n) ≡ true
same_number n = grind (arith, nat_tests)

pub is_placing : (names : List (List ℕ)) (text : List ℕ) (stamp : StampParts) (number : ℕ) (asked : List ℕ)
    (sub : Submission) → desk_said text ≡ Ok (stamp, Places number asked) → line_says names asked ≡ Ok (Sweep sub)
    → IsPlacing names text number sub
is_placing names text stamp number asked sub is asks =
    ap (placed_as names number) is
    ∙ (ap (λ b. if b then submitted (line_says names asked) else None) (same_number number) ∙ ap submitted asks)

-- ---- a sweep that is released

pumped_if : (b : Bool) (venue : ℕ) (before after : KeptDesk) → PumpsIf b venue before after
    → after.desk.sweeps ≡ before.desk.sweeps
pumped_if true venue before after pumps = pumped_sweeps venue before after pumps.pumps
pumped_if false venue before after same = ap (λ d. d.desk.sweeps) same

pumped_each : (named : ℕ → Bool) (venues : ℕ) (before after : KeptDesk) → PumpsEach named venues before after
    → after.desk.sweeps ≡ before.desk.sweeps
pumped_each named zero before after same = ap (λ d. d.desk.sweeps) same
pumped_each named (suc venue) before after pumps =
    pumped_if (named venue) venue pumps.0 after pumps.2 ∙ pumped_each named venue before pumps.0 pumps.1

pub record IsOneMore (legs : List Routed) (before : KeptDesk) (receipt : Receipt) (after : KeptDesk) : Type 0 where
  pub sweeps : after.desk.sweeps ≡ before.desk.sweeps ++ legs ∷ []
  pub number : receipt.number ≡ length before.desk.sweeps + 1

one_more : (legs : List Routed) (before : KeptDesk) (receipt : Receipt) (after : KeptDesk)
    → Releases legs before (Ok receipt) after → IsOneMore legs before receipt after
one_more legs before receipt after it =
    let placed = outcome legs before it.between (Ok receipt) it.placed in
    record {
      sweeps = pumped_each (λ venue. is_for venue legs) (length it.between.desk.venues) it.between after it.pumped
          ∙ ap (λ d. d.sweeps) placed.desk;
      number = ap (λ r. r.number) placed.receipt_is;
    }

-- what was judged and placed was released
was_released : (day : Result Dollars Excess) (legs : List Routed) (before : KeptDesk) (receipt : Receipt)
    (after : KeptDesk) → BecomesOf day legs before (Ok receipt) after → Releases legs before (Ok receipt) after
was_released (Ok day) legs before receipt after becomes = becomes.0
was_released (Err excess) legs before receipt after becomes = absurd (let never = becomes.0 in cc)

pub one_judged : (limits : Option LimitParts) (legs : List Routed) (before : KeptDesk) (receipt : Receipt)
    (after : KeptDesk) → ReleasesWithin limits legs before (Ok receipt) after → IsOneMore legs before receipt after
one_judged limits legs before receipt after releases =
    one_more legs before receipt after
    (was_released (judged_if limits (day_dollars before) legs) legs before receipt after releases)
