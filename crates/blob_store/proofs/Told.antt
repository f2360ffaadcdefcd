-- What follows where a disk tells what it holds.
use Rattle.std.specs.Prelude.{Option, None, Some, IfSome}

pub told_weaker : {T : Type 0} (told : Option T) (P Q : T → Type 0) → ((x : T) → P x → Q x) → IfSome told P → IfSome told Q
told_weaker None P Q f p = p
told_weaker (Some x) P Q f p = f x p
