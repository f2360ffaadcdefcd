-- What writing one text after another leaves.
use Rattle.std.proofs.Common.{◌≤◌, arith, ℕ, List, [], ◌++◌, refl, sym, ap, ◌∙◌, append_assoc, append-nil, Option, Some, None}
use Rattle.std.specs.Io.KnownBytes.{Appends, Keeps}
use Rattle.std.proofs.KnownBytes.{Appends-trans}
use Rattle.ddc_names.specs.Causes.{Rose}
use Rattle.ddc_link.specs.Writes.{AppendsFront}

-- a front of a text is one of a longer text
pub front_more : (old new : Option (List ℕ)) (text more : List ℕ) → AppendsFront old new text → AppendsFront old new (text ++ more)
front_more old new text more (front, back, split, wrote) = (front, back ++ more, ap (λ l. l ++ more) split ∙ append_assoc front back more, wrote)

-- a whole text, and a front of another
pub front_after : (a b c : Option (List ℕ)) (xs ys : List ℕ) → Appends a b xs → AppendsFront b c ys → AppendsFront a c (xs ++ ys)
front_after a b c xs ys whole (front, back, split, wrote) =
    (xs ++ front, back, ap (λ l. xs ++ l) split ∙ sym (append_assoc xs front back), Appends-trans a b c xs front whole wrote)

-- a count that rose from a later one rose from an earlier one
pub rose_later : (a b c : ℕ) → a ≤ b → Rose b c → Rose a c
rose_later a b c le rose = omega arith

-- a whole text is a front of it
pub whole_front : (old new : Option (List ℕ)) (text : List ℕ) → Appends old new text → AppendsFront old new text
whole_front old new text wrote = (text, [], sym (append-nil text), wrote)

keeps_appends : (old new : Option (List ℕ)) → Keeps old new → Appends old new []
keeps_appends None new kept = tt
keeps_appends (Some x) None kept = absurd kept
keeps_appends (Some x) (Some y) kept = kept ∙ sym (append-nil x)

-- and so is no text
pub no_text : (old new : Option (List ℕ)) (text : List ℕ) → Keeps old new → AppendsFront old new text
no_text old new text kept = ([], text, refl, keeps_appends old new kept)
