-- A book whose run has no name yet.
use Rattle.std.specs.Prelude.{◌≡◌, ℕ, suc, List, [], ◌∷◌}
use Rattle.exec_collector.specs.declared.blank_book.BlankList.{BlankList}

-- its count, and the names of its venues' lists, in order, and of the list of its sweeps
pub record BlankParts : Type 0 where
  pub name : ℕ
  pub parts : ℕ
  pub lists : List ℕ
  pub sweeps : ℕ

-- both sides of this venue's list, on which nothing is
pub record IsBlank (venue : ℕ) (list : BlankList) : Type 0 where
  pub of_venue : list.venue ≡ venue
  pub same : list.seat.name ≡ list.book.name
  pub in_book : list.book.items ≡ []
  pub on_seat : list.seat.items ≡ []

-- those of the venues from this one on
abbrev pub AreBlank : ℕ → List BlankList → Type 0
AreBlank venue [] = Unit {0}
AreBlank venue (list ∷ lists) = IsBlank venue list × AreBlank (suc venue) lists
