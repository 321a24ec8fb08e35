-- A resend request, answered number by number.
use Rattle.std.proofs.Common.{◌≡◌, ℕ, suc, ◌+◌, ◌≤◌, ◌<◌, All, true, List, [], ◌∷◌, ◌++◌, length, drop, get_or, Option, None, Result, Ok, Err, OnOk, OnErr, refl, sym, ap, ◌∙◌, subst, arith, append_assoc, length-append}
use Rattle.std.proofs.lemmas.List.{drop_more, drop_all}
use Rattle.std.specs.Global.{Vec}
use Rattle.fix_tags.specs.Config.{ConfigParts}
use Rattle.fix_tags.specs.Stamp.{StampParts}
use Rattle.dialect.specs.Wording.{Encoding}
use Rattle.dialect.specs.declared.outgoing.Outgoing.{Outgoing}
use Rattle.exchange_core.specs.declared.sent_record.SentRecord.{SentRecord}
use Rattle.exchange_core.specs.declared.sent_record.SentRecord.TheVariants.{Admin, Reported, Refused}
use Rattle.exchange_core.specs.SentRecord.{closing_fill, execution_report, again, resent}
use Rattle.dialect.specs.declared.content.Content.TheVariants.{Session}
use Rattle.fix_tags.specs.declared.session_body.SessionBody.TheVariants.{Reject}
use Rattle.dialect.specs.Writable.{IsWritable}
use Rattle.exchange_core.specs.Frames.{Writes}
use Rattle.exchange_core.specs.Resending.{resent_one, run_after}
use Rattle.exchange_core.proofs.Writing.{writes_none, writes_both, writable_front, writable_back}

-- so far this was written, and what is said of the rest makes it what is said of all
pub record IsResent (w : Encoding) (stamp : StampParts) (config : ConfigParts) (begin : ℕ) (own : List SentRecord) (index : ℕ) (run : Option ℕ) (number : ℕ) (old new : List (Vec ℕ)) : Type 0 where
  pub done : List Outgoing
  pub at : number ≡ begin + index
  pub writes : Writes w stamp done old new
  pub rest : done ++ resent config run number (drop index own) ≡ resent config None begin own

-- one number, and then the rest
pub one_and_rest : (config : ConfigParts) (run : Option ℕ) (number : ℕ) (entry : SentRecord) (own : List SentRecord) → resent config run number (entry ∷ own) ≡ resent_one config run number entry ++ resent config (run_after run number entry) (suc number) own
one_and_rest config run number Admin own = refl
one_and_rest config run number (Reported report view) own =
    sym (append_assoc (closing_fill config run number) (execution_report config number true report view ∷ []) (resent config None (suc number) own))
one_and_rest config run number (Refused refused) own =
    sym (append_assoc (closing_fill config run number) (again config number (Session (Reject refused)) ∷ []) (resent config None (suc number) own))

-- what is left of a list, where one of it is looked at
left : (own : List SentRecord) (index : ℕ) (entry : SentRecord) → index < length own → entry ≡ get_or own index entry → drop index own ≡ entry ∷ drop (index + 1) own
left own index entry below is = drop_more own index entry below ∙ ap (λ e. e ∷ drop (index + 1) own) (sym is)

pub nothing_resent : (w : Encoding) (stamp : StampParts) (config : ConfigParts) (begin : ℕ) (own : List SentRecord) (frames : List (Vec ℕ)) → IsResent w stamp config begin own 0 None begin frames frames
nothing_resent w stamp config begin own frames =
    record { done = []; at = omega arith; writes = writes_none w stamp frames; rest = refl }

-- what is written for the next number can be
pub one_writable : (w : Encoding) (stamp : StampParts) (config : ConfigParts) (begin : ℕ) (own : List SentRecord) (index : ℕ) (run : Option ℕ) (number : ℕ) (old new : List (Vec ℕ)) (entry : SentRecord) → IsResent w stamp config begin own index run number old new → index < length own → entry ≡ get_or own index entry → All IsWritable (resent config None begin own) → All IsWritable (resent_one config run number entry)
one_writable w stamp config begin own index run number old new entry so_far below is all =
    let rest : All IsWritable (so_far.done ++ resent config run number (drop index own)) =
    subst (λ l. All IsWritable l) (sym so_far.rest) all in
    let here : All IsWritable (resent config run number (drop index own)) = writable_back so_far.done (resent config run number (drop index own)) rest in
    let one : All IsWritable (resent config run number (entry ∷ drop (index + 1) own)) =
    subst (λ l. All IsWritable (resent config run number l)) (left own index entry below is) here in
    writable_front (resent_one config run number entry) (resent config (run_after run number entry) (suc number) (drop (index + 1) own))
    (subst (λ l. All IsWritable l) (one_and_rest config run number entry (drop (index + 1) own)) one)

-- one number more
pub one_resent : (w : Encoding) (stamp : StampParts) (config : ConfigParts) (begin : ℕ) (own : List SentRecord) (index : ℕ) (run : Option ℕ) (number : ℕ) (old new : List (Vec ℕ)) (entry : SentRecord) (next_index : ℕ) (next_run : Option ℕ) (next_number : ℕ) (newer : List (Vec ℕ)) → IsResent w stamp config begin own index run number old new → index < length own → entry ≡ get_or own index entry → Writes w stamp (resent_one config run number entry) new newer → next_index ≡ index + 1 → next_run ≡ run_after run number entry → next_number ≡ number + 1 → IsResent w stamp config begin own next_index next_run next_number old newer
one_resent w stamp config begin own index run number old new entry next_index next_run next_number newer so_far below is wrote index_is run_is number_is =
    let at = so_far.at in
    let next : next_number ≡ suc number = omega (arith, number_is) in
    rw (index_is, run_is, next) (record {
      done = so_far.done ++ resent_one config run number entry;
      at = omega (arith, at);
      writes = writes_both w stamp so_far.done (resent_one config run number entry) old new newer so_far.writes wrote;
      rest = append_assoc so_far.done (resent_one config run number entry) (resent config (run_after run number entry) (suc number) (drop (index + 1) own))
          ∙ (ap (λ l. so_far.done ++ l)
          (sym (one_and_rest config run number entry (drop (index + 1) own)) ∙ ap (λ l. resent config run number l) (sym (left own index entry below is)))
          ∙ so_far.rest);
    })

-- behind the last number
pub closing_writable : (w : Encoding) (stamp : StampParts) (config : ConfigParts) (begin : ℕ) (own : List SentRecord) (index : ℕ) (run : Option ℕ) (number : ℕ) (old new : List (Vec ℕ)) → IsResent w stamp config begin own index run number old new → length own ≤ index → All IsWritable (resent config None begin own) → All IsWritable (closing_fill config run number)
closing_writable w stamp config begin own index run number old new so_far past all =
    let rest : All IsWritable (so_far.done ++ resent config run number (drop index own)) =
    subst (λ l. All IsWritable l) (sym so_far.rest) all in
    writable_back so_far.done (closing_fill config run number)
    (subst (λ l. All IsWritable (so_far.done ++ resent config run number l)) (drop_all index own past) rest)

pub all_resent : (w : Encoding) (stamp : StampParts) (config : ConfigParts) (begin : ℕ) (own : List SentRecord) (index : ℕ) (run : Option ℕ) (number : ℕ) (old new : List (Vec ℕ)) (newest : List (Vec ℕ)) → IsResent w stamp config begin own index run number old new → length own ≤ index → Writes w stamp (closing_fill config run number) new newest → Writes w stamp (resent config None begin own) old newest
all_resent w stamp config begin own index run number old new newest so_far past wrote =
    subst (λ l. Writes w stamp l old newest)
    (ap (λ l. so_far.done ++ resent config run number l) (sym (drop_all index own past)) ∙ so_far.rest)
    (writes_both w stamp so_far.done (closing_fill config run number) old new newest so_far.writes wrote)

pub closed_all : {X E : Type 0} (w : Encoding) (stamp : StampParts) (config : ConfigParts) (begin : ℕ) (own : List SentRecord) (index : ℕ) (run : Option ℕ) (number : ℕ) (old new : List (Vec ℕ)) (newest : List (Vec ℕ)) (result : Result X E) → IsResent w stamp config begin own index run number old new → length own ≤ index → OnOk result (Writes w stamp (closing_fill config run number) new newest) → OnOk result (Writes w stamp (resent config None begin own) old newest)
closed_all w stamp config begin own index run number old new newest (Ok x) so_far past wrote = all_resent w stamp config begin own index run number old new newest so_far past wrote
closed_all w stamp config begin own index run number old new newest (Err e) so_far past wrote = tt

-- where a number wants a frame, something is sent again
pub one_some : {X E : Type 0} (w : Encoding) (stamp : StampParts) (config : ConfigParts) (begin : ℕ) (own : List SentRecord) (index : ℕ) (run : Option ℕ) (number : ℕ) (old new : List (Vec ℕ)) (entry : SentRecord) (result : Result X E) → IsResent w stamp config begin own index run number old new → index < length own → entry ≡ get_or own index entry → 0 < length (resent_one config run number entry) → OnErr result (0 < length (resent config None begin own))
one_some w stamp config begin own index run number old new entry (Ok x) so_far below is some = tt
one_some w stamp config begin own index run number old new entry (Err e) so_far below is some =
    let more = resent config (run_after run number entry) (suc number) (drop (index + 1) own) in
    let one : resent config run number (drop index own) ≡ resent_one config run number entry ++ more =
    ap (λ l. resent config run number l) (left own index entry below is) ∙ one_and_rest config run number entry (drop (index + 1) own) in
    let all : so_far.done ++ (resent_one config run number entry ++ more) ≡ resent config None begin own =
    ap (λ l. so_far.done ++ l) (sym one) ∙ so_far.rest in
    subst (λ l. 0 < length l) all
    (omega (arith, some, length-append so_far.done (resent_one config run number entry ++ more), length-append (resent_one config run number entry) more))

pub closing_some : {X E : Type 0} (w : Encoding) (stamp : StampParts) (config : ConfigParts) (begin : ℕ) (own : List SentRecord) (index : ℕ) (run : Option ℕ) (number : ℕ) (old new : List (Vec ℕ)) (result : Result X E) → IsResent w stamp config begin own index run number old new → length own ≤ index → OnErr result (0 < length (closing_fill config run number)) → OnErr result (0 < length (resent config None begin own))
closing_some w stamp config begin own index run number old new (Ok x) so_far past some = tt
closing_some w stamp config begin own index run number old new (Err e) so_far past some =
    let all : so_far.done ++ closing_fill config run number ≡ resent config None begin own =
    ap (λ l. so_far.done ++ resent config run number l) (sym (drop_all index own past)) ∙ so_far.rest in
    subst (λ l. 0 < length l) all (omega (arith, some, length-append so_far.done (closing_fill config run number)))
