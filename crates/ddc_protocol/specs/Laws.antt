-- What holds of every cut of a stream.
use Rattle.std.specs.Prelude.{◌≡◌, ℕ, List, drop}
use Rattle.ddc_protocol.specs.Requests.{Item, End, cut, unread, NeverHasHead, Cuts}

-- the same end, or bytes of which no head can become, which may end as cut or as unread
pub data SameEnd (rest : List ℕ) : End → End → Type 0 where
  same : (end : End) → SameEnd rest end end
  hopeless_cut : NeverHasHead rest → SameEnd rest cut unread
  hopeless_unread : NeverHasHead rest → SameEnd rest unread cut

-- two cuts of one list of bytes have the same items, place and end
pub record IsSameCut (bytes : List ℕ) (xs ys : List Item) (a b : ℕ) (x y : End) : Type 0 where
  pub items : xs ≡ ys
  pub place : a ≡ b
  pub end : SameEnd (drop a bytes) x y

abbrev pub OneCut : Type 0
OneCut = (bytes : List ℕ) (items others : List Item) (a b : ℕ) (end other : End)
    → Cuts bytes items a end → Cuts bytes others b other → IsSameCut bytes items others a b end other
