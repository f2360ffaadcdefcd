-- What an index ends as, once the links that it lent are given back.
use Rattle.std.specs.Prelude.{◌≡◌, ◌+◌, ◌-◌, ◌^◌, min, ⊤}
use Rattle.std.specs.Borrow.{Fml, MutBor, follows_so}
use mathlib.Core.Option.{none}
use Rattle.ddc_state.specs.Views.{IndexView}
use Rattle.ddc_state.specs.contracts.index.Index.{the_row}

-- it has the same state, and one read more is counted
abbrev pub counts_a_read : MutBor IndexView → Fml
counts_a_read index = follows_so the_row the_row index.ghost_name none (λ _ _. ⊤) (λ new. new ≡ record index.now { reads = min (index.now.reads + 1) (2 ^ 64 - 1) })
