-- The seats of a day's callers, with that of the page's clients.
use Rattle.std.proofs.Common.{◌≡◌, ◌+◌, List, [], ◌∷◌, ◌++◌, ap, ◌∙◌, arith}
use Rattle.std.specs.Prelude.{Option, Some, None, MatchOption, option_to_list}
use Rattle.std.proofs.lemmas.List.{append-nil}
use Rattle.std.proofs.lemmas.List.Sums.{sum_by_push}
use Rattle.exec_collector.specs.Seats.{Seat, parts_of, shares_of}
use Rattle.desk_floor.specs.Release.{IsOnePart}
use Rattle.desk_day.specs.Seats.{shared_parts}

-- they have all parts, where the callers' and the page's have
pub whole_parts : {A : Type 0} (seats all : List Seat) (shared : Option A) (left : Option Seat)
    → all ≡ seats ++ option_to_list left → MatchOption shared (left ≡ None) (λ _. IsOnePart left)
    → parts_of seats + shared_parts shared ≡ 1024 → parts_of all ≡ 1024
whole_parts seats all None None joined is whole =
    let same : parts_of all ≡ parts_of seats = ap parts_of (joined ∙ append-nil seats) in
    omega (arith, same, whole)
whole_parts seats all None (Some seat) joined is whole = absurd cc
whole_parts seats all (Some counter) None joined is whole = absurd is
whole_parts seats all (Some counter) (Some seat) joined is whole =
    let same : parts_of all ≡ parts_of (seats ++ seat ∷ []) = ap parts_of joined in
    let sum = sum_by_push (λ (s : Seat). s.parts) seats seat in
    omega (arith, same, sum, is, whole)

-- where there is no page they have the callers' shares
pub callers_shares : {A : Type 0} (seats all : List Seat) (shared : Option A) (left : Option Seat)
    → all ≡ seats ++ option_to_list left → MatchOption shared (left ≡ None) (λ _. IsOnePart left) → shared ≡ None
    → shares_of all ≡ shares_of seats
callers_shares seats all None None joined is none = ap shares_of (joined ∙ append-nil seats)
callers_shares seats all None (Some seat) joined is none = absurd cc
callers_shares seats all (Some counter) left joined is none = absurd cc
