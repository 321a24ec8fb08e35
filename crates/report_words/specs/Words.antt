-- What a message says in words beside its note (FIX 4.4 Volume 4, ExecutionReport and BusinessMessageReject; Volume 2,
-- Reject).
use Rattle.std.specs.Prelude.{ℕ, Bool, List, [], ◌∷◌, length, take, unwrap_or, nat_lt, ◌==◌, if◌then◌else◌}
use Rattle.fix_text.specs.Tagged.{Tagged, value_of}

-- the first bytes of a text, and whether it has more
pub record Words : Type 0 where
  pub text : List ℕ
  pub is_cut : Bool

-- a text of which at most so many bytes are kept
abbrev pub first_of : ℕ → List ℕ → Words
first_of most text = record { text = take most text; is_cut = nat_lt most (length text) }

-- what fields say under a tag; nothing where none has it
abbrev pub said : List Tagged → ℕ → List ℕ
said fields tag = unwrap_or (value_of fields tag) []

-- the tag of the reason that a message of this kind (35) gives: SessionRejectReason (373) of a Reject,
-- BusinessRejectReason (380) of a BusinessMessageReject, and else OrdRejReason (103)
abbrev pub reason_tag : List ℕ → ℕ
reason_tag [] = 103
reason_tag (kind ∷ []) = if kind == 51 then 373 else (if kind == 106 then 380 else 103)
reason_tag (kind ∷ other ∷ others) = 103
