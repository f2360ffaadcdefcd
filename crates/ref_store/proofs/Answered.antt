-- What is known of an answer that is Ok or Err.
use Rattle.std.specs.Prelude.{Result, Ok, Err, IfOk, OnOk, OnErr}

pub at_err : {T E : Type 0} {P : Type 0} (r : Result T E) → P → OnErr r P
at_err (Ok x) p = tt
at_err (Err e) p = p

pub at_ok : {T E : Type 0} {P : Type 0} (A B : T → Type 0) (r : Result T E) → IfOk r A → OnOk r P → (P → (x : T) → A x → B x) → IfOk r B
at_ok A B (Ok x) a p f = f p x a
at_ok A B (Err e) a p f = tt
