-- Steps of the exchange as the rules see them: by what is written and what the own numbers are used for.
use Rattle.std.proofs.Common.{◌≡◌, ℕ, suc, ◌≤◌, ◌⊎◌, inl, inr, List, [], ◌∷◌, ◌++◌, map, Option, Some, None, refl, sym}
use Rattle.std.specs.List.{All, Contains}
use Rattle.std.proofs.lemmas.List.{append-nil, map-append}
use Rattle.std.proofs.lemmas.List.Elements.{All-nil, All-cons}
use Rattle.leg.specs.Numbered.{numbered}
use Rattle.dialect.specs.declared.content.Content.{Content}
use Rattle.exchange_core.specs.Acceptance.{Carried, MayMove, MayAnswer, MayRefuse, MayRefuseOther, MayKeep, MaySay, MayWrite, MayBeUnasked, May}
use Rattle.exchange_core.specs.declared.sent_record.SentRecord.{SentRecord}
use Rattle.exchange_core.specs.declared.sent_record.SentRecord.TheVariants.{Admin}
use Rattle.exchange_core.specs.SentRecord.{next_own_number}
use Rattle.exchange_core.specs.Exchange.{ExchangeParts}
use Rattle.exchange_core.specs.Keeping.{kept, intake_of, rule_state}
use Rattle.exchange_core.proofs.Entries.{numbered-seam, numbered-second}

-- a step that writes nothing and uses no number
pub silent : (x y : ExchangeParts) (coming : Option Carried) → MayMove (intake_of x) coming (intake_of y) → y.own ≡ x.own → May (rule_state x) coming (rule_state y) []
silent x y coming moves own = record {
  moves = moves;
  tests = All-nil (MayAnswer (rule_state x) coming (rule_state y));
  refusable = All-nil (MayRefuse (rule_state x) coming (rule_state y));
  others = All-nil (MayRefuseOther (rule_state x) coming);
  own = ([], All-nil (MayKeep (rule_state x) coming (rule_state y)), rw own (sym (append-nil (map kept x.own))));
  writes = All-nil (MayWrite (rule_state x) coming (rule_state y));
  unasked = All-nil (Contains []);
  only = All-nil (MayBeUnasked (rule_state x) []);
}

-- a message in a connection
abbrev pub in_connection : ℕ → ℕ → Content → Carried
in_connection connection number content = record { connection = connection; number = number; content = content }

-- what may be said under the next number, by what the number is kept for
abbrev pub MaySayNext : ExchangeParts → Option Carried → ExchangeParts → SentRecord → ℕ → Content → Type 0
MaySayNext x coming y entry connection said =
    (kept entry ≡ Some said)
    ⊎ ((kept entry ≡ None) × MaySay (rule_state x) coming (rule_state y) connection (next_own_number x.own) said)

content_next : (x y : ExchangeParts) (coming : Option Carried) (entry : SentRecord) (connection : ℕ) (said : Content) (there : numbered (next_own_number x.own) (map kept y.own) ≡ Some (kept entry)) → MaySayNext x coming y entry connection said → (numbered (next_own_number x.own) (map kept y.own) ≡ Some (Some said)) ⊎ ((numbered (next_own_number x.own) (map kept y.own) ≡ Some None) × MaySay (rule_state x) coming (rule_state y) connection (next_own_number x.own) said)
content_next x y coming entry connection said there (inl is) = inl (rw there (rw is refl))
content_next x y coming entry connection said there (inr says) = inr (rw there (rw says.0 refl), says.1)

-- a step that uses the next number, whether or not it writes under it
pub kept_next : (x y : ExchangeParts) (coming : Option Carried) (entry : SentRecord) (written : List Carried) → MayMove (intake_of x) coming (intake_of y) → y.own ≡ x.own ++ entry ∷ [] → MayKeep (rule_state x) coming (rule_state y) (kept entry) → All (MayWrite (rule_state x) coming (rule_state y)) written → May (rule_state x) coming (rule_state y) written
kept_next x y coming entry written moves own keeps writes = record {
  moves = moves;
  tests = All-nil (MayAnswer (rule_state x) coming (rule_state y));
  refusable = All-nil (MayRefuse (rule_state x) coming (rule_state y));
  others = All-nil (MayRefuseOther (rule_state x) coming);
  own = (
    kept entry ∷ [],
    All-cons (MayKeep (rule_state x) coming (rule_state y)) (kept entry) [] keeps (All-nil (MayKeep (rule_state x) coming (rule_state y))),
    rw own (map-append kept x.own (entry ∷ [])),
  );
  writes = writes;
  unasked = All-nil (Contains []);
  only = All-nil (MayBeUnasked (rule_state x) written);
}

-- a message under the next number
pub written_next : (x y : ExchangeParts) (coming : Option Carried) (entry : SentRecord) (connection : ℕ) (said : Content) → y.own ≡ x.own ++ entry ∷ [] → 1 ≤ connection → connection ≤ y.last → MaySayNext x coming y entry connection said → All (MayWrite (rule_state x) coming (rule_state y)) (in_connection connection (next_own_number x.own) said ∷ [])
written_next x y coming entry connection said own from to says =
    let there : numbered (next_own_number x.own) (map kept y.own) ≡ Some (kept entry) = rw own (numbered-seam kept x.own entry []) in
    All-cons (MayWrite (rule_state x) coming (rule_state y)) (in_connection connection (next_own_number x.own) said) []
    (record { from = from; to = inl to; content = content_next x y coming entry connection said there says })
    (All-nil (MayWrite (rule_state x) coming (rule_state y)))

-- a step that writes one message under the next number
pub one : (x y : ExchangeParts) (coming : Option Carried) (entry : SentRecord) (connection : ℕ) (said : Content) → MayMove (intake_of x) coming (intake_of y) → y.own ≡ x.own ++ entry ∷ [] → MayKeep (rule_state x) coming (rule_state y) (kept entry) → 1 ≤ connection → connection ≤ y.last → MaySayNext x coming y entry connection said → May (rule_state x) coming (rule_state y) (in_connection connection (next_own_number x.own) said ∷ [])
one x y coming entry connection said moves own keeps from to says =
    kept_next x y coming entry (in_connection connection (next_own_number x.own) said ∷ []) moves own keeps (written_next x y coming entry connection said own from to says)

-- a step that writes two messages of the session under the next two numbers
pub two : (x y : ExchangeParts) (coming : Option Carried) (connection : ℕ) (first second : Content) → MayMove (intake_of x) coming (intake_of y) → y.own ≡ x.own ++ Admin ∷ Admin ∷ [] → 1 ≤ connection → connection ≤ y.last → MaySay (rule_state x) coming (rule_state y) connection (next_own_number x.own) first → MaySay (rule_state x) coming (rule_state y) connection (suc (next_own_number x.own)) second → May (rule_state x) coming (rule_state y) (in_connection connection (next_own_number x.own) first ∷ in_connection connection (suc (next_own_number x.own)) second ∷ [])
two x y coming connection first second moves own from to says says_second =
    let Keep : Option Content → Type 0 = MayKeep (rule_state x) coming (rule_state y) in
    let Write : Carried → Type 0 = MayWrite (rule_state x) coming (rule_state y) in
    let here : numbered (next_own_number x.own) (map kept y.own) ≡ Some None = rw own (numbered-seam kept x.own Admin (Admin ∷ [])) in
    let next : numbered (suc (next_own_number x.own)) (map kept y.own) ≡ Some None = rw own (numbered-second kept x.own Admin Admin []) in
    record {
      moves = moves;
      tests = All-nil (MayAnswer (rule_state x) coming (rule_state y));
      refusable = All-nil (MayRefuse (rule_state x) coming (rule_state y));
      others = All-nil (MayRefuseOther (rule_state x) coming);
      own = (
        None ∷ None ∷ [],
        All-cons Keep None (None ∷ []) tt (All-cons Keep None [] tt (All-nil Keep)),
        rw own (map-append kept x.own (Admin ∷ Admin ∷ [])),
      );
      writes = All-cons Write (in_connection connection (next_own_number x.own) first) (in_connection connection (suc (next_own_number x.own)) second ∷ [])
          (record { from = from; to = inl to; content = inr (here, says) })
          (All-cons Write (in_connection connection (suc (next_own_number x.own)) second) [] (record { from = from; to = inl to; content = inr (next, says_second) }) (All-nil Write));
      unasked = All-nil (Contains []);
      only = All-nil (MayBeUnasked (rule_state x) (in_connection connection (next_own_number x.own) first ∷ in_connection connection (suc (next_own_number x.own)) second ∷ []));
    }
