-- What the last breaks were named for, so that what follows from one is told as broken again.
use Rattle.std.specs.Prelude.{ℕ, ◌-◌, Bool, true, false, not, ◌&&◌, ◌||◌, List, [], ◌∷◌, Option, Some, None, slice_get, nat_le, nat_lt, ◌==◌, if◌then◌else◌}
use Rattle.std.specs.List.{list_any, slice_split}
use Rattle.std.specs.Str.{bytes_eq}
use Rattle.message_log.specs.declared.direction.Direction.{Direction}
use Rattle.message_log.specs.declared.direction.Direction.TheVariants.{Sent, Received}
use Rattle.log_rules.specs.declared.entry.Entry.{Entry}
use Rattle.log_rules.specs.declared.says.Says.{Says}
use Rattle.log_rules.specs.declared.says.Says.TheVariants.{Logon, Report}
use Rattle.log_rules.specs.declared.verdict.Verdict.{Verdict}
use Rattle.log_rules.specs.declared.verdict.Verdict.TheVariants.{Broken}
use Rattle.log_rules.specs.Verdict.{left_broken, one_more}

-- whether messages come and go before a Logon is answered; whether the exchange's numbers go back; the order of the
-- last report that is on none, or on one that was withdrawn; which of the two it was named for; how many messages that
-- were sent since the last new one can't be read; and the bytes of the last of these
pub record ChainsParts : Type 0 where
  pub is_early : Bool
  pub goes_back : Bool
  pub order : Option (List ℕ)
  pub is_withdrawn : Bool
  pub unread : ℕ
  pub damaged : List ℕ

abbrev pub no_chains : ChainsParts
no_chains =
    record { is_early = false; goes_back = false; order = None; is_withdrawn = false; unread = 0; damaged = [] }

-- whether a report is on the order of the last one that was named
abbrev pub is_of_same : Option (List ℕ) → Says → Bool
is_of_same (Some id) (Report said) = bytes_eq id said.id
is_of_same order says = false

-- a field is the ClOrdID (11) of this order
abbrev pub carries_id : List ℕ → List ℕ → Bool
carries_id (a ∷ b ∷ c ∷ value) id = (a == 49) && (b == 49) && (c == 61) && bytes_eq value id
carries_id field id = false

-- one of the fields in some bytes is the ClOrdID of this order
abbrev pub names_order : List ℕ → List ℕ → Bool
names_order bytes id = list_any (λ field. carries_id field id) (slice_split (λ c. c == 1) bytes)

-- whether a report is on an order whose message can't be read
abbrev pub is_of_damaged : List ℕ → Says → Bool
is_of_damaged bytes (Report said) = names_order bytes said.id
is_of_damaged bytes says = false

-- whether it was told before why a report is on no order that was sent
abbrev pub is_told_on : ChainsParts → Says → Bool
is_told_on c says = (not c.is_withdrawn && is_of_same c.order says) || is_of_damaged c.damaged says

-- the numbers between the last one that was sent and this one are no more than the messages that can't be read
abbrev pub is_filled : ℕ → Option ℕ → ℕ → Bool
is_filled unread None number = false
is_filled unread (Some last) number = nat_lt last number && nat_le (number - last - 1) unread

abbrev pub is_logon : Says → Bool
is_logon (Logon heart reset next) = true
is_logon says = false

-- what is said of a rule, behind which it is broken or not
abbrev pub broken_after : Bool → Option Verdict → Bool
broken_after was_broken None = was_broken
broken_after was_broken (Some verdict) = left_broken was_broken verdict

abbrev pub is_named : Option Verdict → Bool
is_named (Some Broken) = true
is_named verdict = false

-- the order of a report that is named
abbrev pub order_if : Bool → Says → Option (List ℕ)
order_if true (Report said) = Some said.id
order_if named says = None

abbrev pub newer : Option (List ℕ) → Option (List ℕ) → Option (List ℕ)
newer None order = order
newer (Some id) order = Some id

-- whether the order named last was withdrawn, behind a message of which this is said (of known-order and not-withdrawn)
abbrev pub withdrawn_after : List Verdict → Bool → Bool
withdrawn_after said was = is_named (slice_get said 12) || (was && not (is_named (slice_get said 11)))

-- the order that a message is named for, of which this is said
abbrev pub order_named : List Verdict → Says → Option (List ℕ)
order_named said says = order_if (is_named (slice_get said 11) || is_named (slice_get said 12)) says

abbrev pub is_new : Direction → Bool → Bool
is_new Sent poss_dup = not poss_dup
is_new Received poss_dup = false

abbrev pub unread_after : Entry → ℕ → ℕ
unread_after e unread = if is_new e.direction e.poss_dup then 0 else unread

-- behind a message of which this is said (of logon-first and logon-answered, and of numbers-rise), and which is named
-- for this order
abbrev pub chains_after : List Verdict → Option (List ℕ) → Entry → ChainsParts → ChainsParts
chains_after said order e c = record {
  is_early = broken_after (broken_after c.is_early (slice_get said 4)) (slice_get said 6);
  goes_back = broken_after c.goes_back (slice_get said 14);
  order = newer order c.order;
  is_withdrawn = withdrawn_after said c.is_withdrawn;
  unread = unread_after e c.unread;
  damaged = c.damaged;
}

-- behind a message of which this is said
abbrev pub chained : List Verdict → Entry → ChainsParts → ChainsParts
chained said e c = chains_after said (order_named said e.says) e c

-- behind a message that can't be read
abbrev pub chained_unread : Direction → List ℕ → ChainsParts → ChainsParts
chained_unread Received bytes c = c
chained_unread Sent bytes c = record c { unread = one_more c.unread; damaged = bytes }
