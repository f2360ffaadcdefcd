-- A lender ends alike where it does at each value behind a reference, and at none.
use borrow.Follows.Closed.{read_of}
use Rattle.std.specs.Prelude.{◌≡◌, Option, None, Some, refl}
use Rattle.std.proofs.Common.{inl, inr}
use Rattle.std.specs.Option.{ghost_name_of, option_copied_mut}
use Rattle.std.specs.Borrow.{MutBor}

pub ends_alike : {V A : Type 0} (r : Option (MutBor V)) (F G : V → A) (m n : A) → ((v : V) → Some v ≡ option_copied_mut r → (w : V) → F w ≡ G w) → m ≡ n
    → read_of (ghost_name_of r) F m ≡ read_of (ghost_name_of r) G n
ends_alike None F G m n some none = λ i. inr (none i)
ends_alike (Some r) F G m n some none = λ i. inl (r.ghost_name, λ w. some r.now refl w i)
