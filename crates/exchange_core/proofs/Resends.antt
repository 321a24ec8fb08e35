-- What a resend request is answered with is what the rules allow: reports again, and gap fills over numbers that carry none.
use Rattle.std.proofs.Common.{◌≡◌, ◌==◌, ℕ, zero, suc, ◌+◌, ◌-◌, ◌≤◌, ◌<◌, ◌⊎◌, min, Bool, true, false, ◌&&◌, ◌||◌, nat_le, inl, inr, List, [], ◌∷◌, ◌++◌, length, map, take, drop, Option, Some, None, refl, sym, ap, subst, ◌∙◌, if◌then◌else◌, arith, length-take, length-append, append_assoc, take-append-drop}
use Rattle.std.specs.List.{All}
use Rattle.std.proofs.lemmas.Bool.{and_parts}
use Rattle.std.proofs.lemmas.Bool.Decides.{nat_tests}
use Rattle.std.proofs.lemmas.List.{map-append}
use Rattle.std.proofs.lemmas.List.Elements.{All-nil, All-cons, All-append}
use Rattle.std.proofs.lemmas.Option.{slice_get_within}
use Rattle.fix_tags.specs.Config.{ConfigParts}
use Rattle.fix_tags.specs.Range.{range_end, is_range}
use Rattle.leg.specs.Numbered.{numbered}
use Rattle.dialect.specs.declared.content.Content.{Content}
use Rattle.dialect.specs.declared.content.Content.TheVariants.{Session}
use Rattle.fix_tags.specs.declared.session_body.SessionBody.TheVariants.{GapFill, Reject}
use Rattle.dialect.specs.declared.outgoing.Outgoing.{Outgoing}
use Rattle.exchange_core.specs.Acceptance.{Carried, RuleState, MayWrite}
use Rattle.exchange_core.specs.declared.sent_record.SentRecord.{SentRecord}
use Rattle.exchange_core.specs.declared.sent_record.SentRecord.TheVariants.{Admin, Reported, Refused}
use Rattle.exchange_core.specs.SentRecord.{execution_report, again, closing_fill, run_from, resent, resent_answer}
use Rattle.exchange_core.specs.Keeping.{kept, written_in}
use Rattle.exchange_core.proofs.Entries.{chosen, numbered-seam}

-- the own numbers from this one on carry what these entries do
abbrev pub AreFrom : List (Option Content) → ℕ → List SentRecord → Type 0
AreFrom own number [] = Unit {0}
AreFrom own number (entry ∷ entries) = (numbered number own ≡ Some (kept entry)) × AreFrom own (suc number) entries

-- a number that is used is at most the last one
pub used : (own : List (Option Content)) (number : ℕ) (entry : Option Content) → numbered number own ≡ Some entry → number ≤ length own
used own zero entry there = omega arith
used own (suc before) entry there = let within = slice_get_within own before entry there in omega (arith, within)

-- no number of these carries anything
abbrev pub ArePlain : List (Option Content) → ℕ → ℕ → Type 0
ArePlain own first end = (number : ℕ) → first ≤ number → number < end → numbered number own ≡ Some None

-- an open run of numbers that carry nothing
abbrev pub IsRun : List (Option Content) → Option ℕ → ℕ → Type 0
IsRun own None number = Unit {0}
IsRun own (Some first) number = (first < number) × ArePlain own first number × (number ≤ length own + 1)

-- below the next number: below this one, or this one
below_suc : (k n : ℕ) → k < suc n → (k < n) ⊎ (k ≡ n)
below_suc zero zero h = inr refl
below_suc zero (suc n) h = inl (omega arith)
below_suc (suc k) zero h = absurd (omega arith)
below_suc (suc k) (suc n) h = elim (below_suc k n (omega arith)) [ inl below ↦ inl (omega arith) | inr same ↦ inr (ap suc same) ]

module _ (s : RuleState) (coming : Option Carried) (t : RuleState) (connection : ℕ) (from : 1 ≤ connection) (to : connection ≤ t.intake.last) (config : ConfigParts) where
  fill_written : (first number : ℕ) → IsRun t.own (Some first) number → MayWrite s coming t (written_in connection (again config first (Session (GapFill number))))
  fill_written first number run = record {
    from = from;
    to = inl to;
    content = inr (run.1 first (omega arith) run.0, record { above = run.0; used = run.2; plain = run.1 });
  }

  closing_written : (run : Option ℕ) (number : ℕ) → IsRun t.own run number → All (MayWrite s coming t) (map (written_in connection) (closing_fill config run number))
  closing_written None number is = All-nil (MayWrite s coming t)
  closing_written (Some first) number is = All-cons (MayWrite s coming t) (written_in connection (again config first (Session (GapFill number)))) [] (fill_written first number is) (All-nil (MayWrite s coming t))

  -- a report or a refusal, again
  again_written : (out : Outgoing) → numbered out.message.number t.own ≡ Some (Some out.message.content) → MayWrite s coming t (written_in connection out)
  again_written out there = record { from = from; to = inl to; content = inl there }

  longer_by : (first number k : ℕ) → ArePlain t.own first number → numbered number t.own ≡ Some None → first ≤ k → k < suc number → (k < number) ⊎ (k ≡ number) → numbered k t.own ≡ Some None
  longer_by first number k plain here low high (inl below) = plain k low below
  longer_by first number k plain here low high (inr same) = subst (λ n. numbered n t.own ≡ Some None) (sym same) here

  longer : (run : Option ℕ) (number : ℕ) → IsRun t.own run number → numbered number t.own ≡ Some None → IsRun t.own (Some (run_from run number)) (suc number)
  longer None number is here =
      let last = used t.own number None here in
      (omega arith, λ k low high. (let same : k ≡ number = omega arith in subst (λ n. numbered n t.own ≡ Some None) (sym same) here), omega (arith, last))
  longer (Some first) number is here =
      let last = used t.own number None here in
      (omega (arith, is.0), λ k low high. longer_by first number k is.1 here low high (below_suc k number high), omega (arith, last))

  closed_then : (run : Option ℕ) (number : ℕ) (out : Outgoing) (more : List Outgoing) → IsRun t.own run number → numbered out.message.number t.own ≡ Some (Some out.message.content) → All (MayWrite s coming t) (map (written_in connection) more) → All (MayWrite s coming t) (map (written_in connection) (closing_fill config run number ++ out ∷ more))
  closed_then run number out more is here rest =
      subst (All (MayWrite s coming t)) (sym (map-append (written_in connection) (closing_fill config run number) (out ∷ more)))
      (All-append (MayWrite s coming t) (map (written_in connection) (closing_fill config run number)) (written_in connection out ∷ map (written_in connection) more)
      (closing_written run number is)
      (All-cons (MayWrite s coming t) (written_in connection out) (map (written_in connection) more) (again_written out here) rest))

  pub resent_written : (run : Option ℕ) (number : ℕ) (entries : List SentRecord) → IsRun t.own run number → AreFrom t.own number entries → All (MayWrite s coming t) (map (written_in connection) (resent config run number entries))
  resent_written run number [] is are = closing_written run number is
  resent_written run number (Admin ∷ entries) is are = resent_written (Some (run_from run number)) (suc number) entries (longer run number is are.0) are.1
  resent_written run number (Reported report view ∷ entries) is are =
      closed_then run number (execution_report config number true report view) (resent config None (suc number) entries) is are.0 (resent_written None (suc number) entries tt are.1)
  resent_written run number (Refused refused ∷ entries) is are =
      closed_then run number (again config number (Session (Reject refused))) (resent config None (suc number) entries) is are.0 (resent_written None (suc number) entries tt are.1)

-- the entries behind some others
pub are_from : (front entries back : List SentRecord) → AreFrom (map kept (front ++ (entries ++ back))) (suc (length front)) entries
are_from front [] back = tt
are_from front (entry ∷ entries) back =
    let more : AreFrom (map kept (front ++ entry ∷ [] ++ (entries ++ back))) (suc (length (front ++ entry ∷ []))) entries = are_from (front ++ entry ∷ []) entries back in
    let shape : front ++ entry ∷ [] ++ (entries ++ back) ≡ front ++ entry ∷ (entries ++ back) = append_assoc front (entry ∷ []) (entries ++ back) in
    let size : length (front ++ entry ∷ []) ≡ suc (length front) = omega (arith, length-append front (entry ∷ [])) in
    (numbered-seam kept front entry (entries ++ back), rw (shape, size) at more)

-- a list in three parts, and more behind it
parts_of : (start end : ℕ) (own extra : List SentRecord) → take start (take end own) ++ (drop start (take end own) ++ (drop end own ++ extra)) ≡ own ++ extra
parts_of start end own extra =
    sym (append_assoc (take start (take end own)) (drop start (take end own)) (drop end own ++ extra))
    ∙ ap (λ front. front ++ (drop end own ++ extra)) (take-append-drop start (take end own))
    ∙ sym (append_assoc (take end own) (drop end own) extra)
    ∙ ap (λ front. front ++ extra) (take-append-drop end own)

-- a range of own numbers, where more may be behind them
in_range : (begin end : ℕ) (own extra : List SentRecord) → 1 ≤ begin → begin ≤ end → begin ≤ length own → AreFrom (map kept (own ++ extra)) begin (drop (begin - 1) (take end own))
in_range begin end own extra low high within =
    let start : ℕ = begin - 1 in
    let size : suc (length (take start (take end own))) ≡ begin = omega (arith, length-take start (take end own), length-take end own) in
    let are = are_from (take start (take end own)) (drop start (take end own)) (drop end own ++ extra) in
    rw (parts_of start end own extra, size) at are

end_of : (sent begin last : ℕ) (b : Bool) → (last == 0) ≡ b → begin ≤ sent → (b || nat_le begin last) ≡ true → begin ≤ (if b then sent else min sent last)
end_of sent begin last true is within either = within
end_of sent begin last false is within either = let ask : begin ≤ last = grind (arith, nat_tests) in omega arith

-- what a request is answered with, after which own numbers may have been added
pub answer_written : (s : RuleState) (coming : Option Carried) (t : RuleState) (connection : ℕ) → 1 ≤ connection → connection ≤ t.intake.last → (config : ConfigParts) (own extra : List SentRecord) (begin last : ℕ) → t.own ≡ map kept (own ++ extra) → All (MayWrite s coming t) (map (written_in connection) (resent_answer config own begin last))
answer_written s coming t connection from to config own extra begin last grown =
    chosen (λ messages. All (MayWrite s coming t) (map (written_in connection) messages)) (is_range (length own) begin last) (resent config None begin (drop (begin - 1) (take (range_end (length own) last) own))) []
    (λ is.
    let parts = and_parts (nat_le 1 begin && nat_le begin (length own)) (last == 0 || nat_le begin last) is in
    let bounds = and_parts (nat_le 1 begin) (nat_le begin (length own)) parts.0 in
    let low : 1 ≤ begin = grind (arith, nat_tests, bounds.0) in
    let high : begin ≤ length own = grind (arith, nat_tests, bounds.1) in
    let are = in_range begin (range_end (length own) last) own extra low (end_of (length own) begin last (last == 0) refl high parts.1) high in
    resent_written s coming t connection from to config None begin (drop (begin - 1) (take (range_end (length own) last) own)) tt
    (subst (λ o. AreFrom o begin (drop (begin - 1) (take (range_end (length own) last) own))) (sym grown) are))
    (λ is. All-nil (MayWrite s coming t))
