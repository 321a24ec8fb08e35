-- What an order that was read says.
use Rattle.std.proofs.Common.{◌≡◌, ◌==◌, ℕ, Bool, true, false, cond, List, [], ◌∷◌, codes, Option, Some, None, Result, Ok, Err, IsSome, IfOk, refl, sym, ap, subst, ◌∙◌}
use Rattle.std.specs.Option.{ok_or, option_map_or}
use Rattle.std.proofs.lemmas.Bool.{eqb-true}
use Rattle.std.proofs.lemmas.Option.{same_Some, cond_some, option_and_then_some}
use Rattle.std.proofs.lemmas.Slice.Eq.{bytes_eq-Decides}
use Rattle.fix_text.specs.Then.{unless}
use Rattle.fix_text.specs.Tagged.{Tagged, value_of}
use Rattle.fix_tags.specs.Shares.{shares_of}
use Rattle.fix_tags.specs.Price.{price_of}
use Rattle.leg.specs.declared.leg.Leg.{Leg}
use Rattle.leg.specs.LegId.{LegIdParts}
use Rattle.leg.specs.Symbol.{SymbolParts}
use Rattle.leg.specs.declared.side.Side.{Side}
use Rattle.leg.specs.declared.side.Side.TheVariants.{Buy, Sell}
use Rattle.dialect.specs.declared.limit.Limit.{Limit}
use Rattle.dialect.specs.declared.fault.DialectFault.{DialectFault}
use Rattle.dialect.specs.declared.fault.DialectFault.TheVariants.{Missing, Bad, NotIoc, NotMarked}
use Rattle.dialect.specs.Fields.{required, required_as, ReadsAs, has_value, is_text}
use Rattle.dialect.specs.Limit.{order_shares_of, side_of, side_text, limit_order_in, limit_in, leg_of}
use Rattle.dialect.specs.Time.{immediate_in}
use Rattle.dialect.specs.Spelling.{SpellingParts, IsSpelling}
use Rattle.dialect.specs.Order.{IsReadingOf, order_read_of}
use Rattle.dialect.specs.Lemmas.StepLaws.{bind_ok, step, same_ok, unless_ok, was_some, required_as-Ok}

is_there : (o : Option (List ℕ)) (fault : DialectFault) (text : List ℕ) → ok_or o fault ≡ Ok text → IsSome o
is_there (Some value) fault text e = refl
is_there None fault text e = cc

has_text : (wanted : List ℕ) (o : Option (List ℕ)) → option_map_or (is_text wanted) o false ≡ true → o ≡ Some wanted
has_text wanted None e = cc
has_text wanted (Some text) e = ap Some ((bytes_eq-Decides text wanted).0 e)

side_of-byte : (b d : Bool) (c : ℕ) (side : Side) → (c == 49) ≡ b → (c == 50) ≡ d
    → cond b (Some Buy) (cond d (Some Sell) None) ≡ Some side → c ∷ [] ≡ side_text side
side_of-byte true d c side buys sells e = subst (λ (side : Side). c ∷ [] ≡ side_text side) (same_Some Buy side e) (ap (λ x. x ∷ []) (eqb-true c 49 buys))
side_of-byte false true c side buys sells e = subst (λ (side : Side). c ∷ [] ≡ side_text side) (same_Some Sell side e) (ap (λ x. x ∷ []) (eqb-true c 50 sells))
side_of-byte false false c side buys sells e = cc

side_of-Some : (text : List ℕ) (side : Side) → side_of text ≡ Some side → text ≡ side_text side
side_of-Some [] side e = cc
side_of-Some (c ∷ []) side e = side_of-byte (c == 49) (c == 50) c side refl refl e
side_of-Some (c ∷ d ∷ ds) side e = cc

-- what the fields 40 and 54 say
limit_order_in-Ok : (fields : List Tagged) (u : Unit {0}) → limit_order_in fields ≡ Ok u
    → value_of fields 40 ≡ Some (codes "2")
limit_order_in-Ok fields u e =
    let b = bind_ok (required fields 40) (λ text. unless (is_text (codes "2") text) (Bad 40)) u e in
    was_some _ _ _ b.1 ∙ ap Some ((bytes_eq-Decides b.0 (codes "2")).0 (unless_ok _ _ u b.2))

order_shares_of-Some : (text : List ℕ) (shares : ℕ) → order_shares_of text ≡ Some shares → shares_of text ≡ Some shares
order_shares_of-Some text shares e =
    option_and_then_some _ (shares_of text) shares e (λ n is test. is ∙ ap Some (cond_some _ n shares test).1)

-- the fields 38 to 54
record SaysLimit (fields : List Tagged) (limit : Limit) : Type 0 where
  shares : ReadsAs shares_of fields 38 limit.shares
  kind : value_of fields 40 ≡ Some (codes "2")
  price : ReadsAs price_of fields 44 limit.price
  side : value_of fields 54 ≡ Some (side_text limit.side)

limit_says : (fields : List Tagged) (limit : Limit) (u : Unit {0})
    → required_as order_shares_of fields 38 ≡ Ok limit.shares → limit_order_in fields ≡ Ok u
    → required_as price_of fields 44 ≡ Ok limit.price → required_as side_of fields 54 ≡ Ok limit.side
    → SaysLimit fields limit
limit_says fields limit u first second third fourth =
    let shares = required_as-Ok order_shares_of fields 38 limit.shares first in
    let side = required_as-Ok side_of fields 54 limit.side fourth in
    record {
      shares = record { text = shares.text; there = shares.there; reads_as = order_shares_of-Some shares.text limit.shares shares.reads_as };
      kind = limit_order_in-Ok fields u second;
      price = required_as-Ok price_of fields 44 limit.price third;
      side = side.there ∙ ap Some (side_of-Some side.text limit.side side.reads_as);
    }

limit_in-Ok : (fields : List Tagged) (limit : Limit) → limit_in fields ≡ Ok limit → SaysLimit fields limit
unfolding limit_in
limit_in-Ok fields limit e =
    step _ (required_as order_shares_of fields 38) limit e (λ shares first e1.
    step _ (limit_order_in fields) limit e1 (λ u second e2.
    step _ (required_as price_of fields 44) limit e2 (λ price third e3.
    step _ (required_as side_of fields 54) limit e3 (λ side fourth e4.
    let read : Limit = record { shares = shares; price = price; side = side } in
    subst (SaysLimit fields) (same_ok read limit e4) (limit_says fields read u first second third fourth)))))

-- the fields 59 and 60
record SaysTime (fields : List Tagged) : Type 0 where
  immediate : value_of fields 59 ≡ Some (codes "3")
  timed : IsSome (value_of fields 60)

immediate_in-Ok : (fields : List Tagged) (u : Unit {0}) → immediate_in fields ≡ Ok u → SaysTime fields
unfolding immediate_in
immediate_in-Ok fields u e =
    step _ (unless (has_value (is_text (codes "3")) fields 59) NotIoc) u e (λ v first e1.
    step _ (required fields 60) u e1 (λ text second e2.
    record {
      immediate = has_text (codes "3") (value_of fields 59) (unless_ok _ NotIoc v first);
      timed = is_there (value_of fields 60) (Missing 60) text second;
    }))

-- what is known of the parts that were read
parts_say : (s : SpellingParts) (fields : List Tagged) (id : LegIdParts) (limit : Limit) (symbol : SymbolParts)
    (u v : Unit {0}) → IsSpelling s → required_as s.id_of fields 11 ≡ Ok id
    → unless (s.is_marked fields) NotMarked ≡ Ok u → limit_in fields ≡ Ok limit → s.symbol_in fields ≡ Ok symbol
    → immediate_in fields ≡ Ok v → IsReadingOf s (leg_of id symbol limit) fields
parts_say s fields id limit symbol u v laws first second third fourth fifth =
    let id_read = required_as-Ok s.id_of fields 11 id first in
    let limit_read = limit_in-Ok fields limit third in
    let time_read = immediate_in-Ok fields v fifth in
    record {
      id = id_read.there ∙ ap Some (laws.id_says id_read.text id id_read.reads_as).1;
      marked = laws.mark_is_there fields (unless_ok _ NotMarked u second);
      shares = limit_read.shares;
      limit = limit_read.kind;
      price = limit_read.price;
      side = limit_read.side;
      symbol = laws.symbol_says symbol fields fourth;
      immediate = time_read.immediate;
      timed = time_read.timed;
    }

order_read_of-Ok : (s : SpellingParts) (fields : List Tagged) (leg : Leg) → IsSpelling s
    → order_read_of s fields ≡ Ok leg → IsReadingOf s leg fields
unfolding order_read_of
order_read_of-Ok s fields leg laws e =
    step _ (required_as s.id_of fields 11) leg e (λ id first e1.
    step _ (unless (s.is_marked fields) NotMarked) leg e1 (λ u second e2.
    step _ (limit_in fields) leg e2 (λ limit third e3.
    step _ (s.symbol_in fields) leg e3 (λ symbol fourth e4.
    step _ (immediate_in fields) leg e4 (λ v fifth e5.
    subst (λ (leg : Leg). IsReadingOf s leg fields) (same_ok _ leg e5)
    (parts_say s fields id limit symbol u v laws first second third fourth fifth))))))

pub order_reading : (s : SpellingParts) (fields : List Tagged) (read : Result Leg DialectFault) → IsSpelling s
    → read ≡ order_read_of s fields → IfOk read (λ leg. IsReadingOf s leg fields)
order_reading s fields (Ok leg) laws e = order_read_of-Ok s fields leg laws (sym e)
order_reading s fields (Err fault) laws e = tt
