-- Parts of one kind that are read one after the other, as a loop does.
use Rattle.std.proofs.Common.{◌≡◌, ℕ, suc, ◌-◌, ◌+◌, ◌≤◌, ◌<◌, List, [], ◌∷◌, ◌++◌, Option, Some, None, refl, sym, ap, ◌∙◌, append_assoc, arith}
use Rattle.std.proofs.lemmas.List.{append-nil}
use Rattle.ddc_entry.specs.declared.parts.Unread.{Unread}
use Rattle.ddc_entry.specs.declared.parts.Unread.TheVariants.{Refused, NoMemory}
use Rattle.ddc_entry.specs.inside.Reading.{Reader, ◌>>=◌, Fails, many_at}

-- these parts, and what is read after them
abbrev pub behind : {A : Type 0} → List A → Option (List A × List ℕ) → Option (List A × List ℕ)
behind items read = read >>= λ x. Some (items ++ x.0, x.1)

one_more : {A : Type 0} (items : List A) (a : A) (read : Option (List A × List ℕ)) → behind items (read >>= λ x. Some (a ∷ x.0, x.1)) ≡ behind (items ++ a ∷ []) read
one_more {A} items a (Some x) = ap (λ (others : List A). Some (others, x.1)) (simp append_assoc)
one_more items a None = refl

pub goes_on : {A : Type 0} (read : Reader A) (items : List A) (count i : ℕ) (bytes : List ℕ) (a : A) (rest : List ℕ) (total : Option (List A × List ℕ)) → i < count → read bytes ≡ Some (a, rest)
    → behind items (many_at read (count - i) bytes) ≡ total → behind (items ++ a ∷ []) (many_at read (count - (i + 1)) rest) ≡ total
unfolding many_at
goes_on read items count i bytes a rest total lt first so_far =
    let left : count - i ≡ suc (count - (i + 1)) = omega arith in
    let step : behind items (many_at read (count - i) bytes) ≡ behind (items ++ a ∷ []) (many_at read (count - (i + 1)) rest) = rw (left, first) (one_more items a (many_at read (count - (i + 1)) rest)) in
    sym step ∙ so_far

-- where the next part isn't there, they aren't all there
pub stops : {A : Type 0} (read : Reader A) (items : List A) (count i : ℕ) (bytes : List ℕ) (total : Option (List A × List ℕ)) → i < count → read bytes ≡ None
    → behind items (many_at read (count - i) bytes) ≡ total → total ≡ None
unfolding many_at
stops read items count i bytes total lt refused so_far =
    let left : count - i ≡ suc (count - (i + 1)) = omega arith in
    let none : behind items (many_at read (count - i) bytes) ≡ None = rw (left, refused) refl in
    sym so_far ∙ none

pub ends : {A : Type 0} (e : Unread) (read : Reader A) (items : List A) (count i : ℕ) (bytes : List ℕ) (total : Option (List A × List ℕ)) → i < count → Fails e (read bytes)
    → behind items (many_at read (count - i) bytes) ≡ total → Fails e total
ends NoMemory read items count i bytes total lt failed so_far = tt
ends Refused read items count i bytes total lt failed so_far = stops read items count i bytes total lt failed so_far

pub all_read : {A : Type 0} (read : Reader A) (items : List A) (count i : ℕ) (bytes : List ℕ) (total : Option (List A × List ℕ)) → count ≤ i → behind items (many_at read (count - i) bytes) ≡ total → total ≡ Some (items, bytes)
unfolding many_at
all_read {A} read items count i bytes total le so_far =
    let left : count - i ≡ 0 = omega arith in
    let whole : behind items (many_at read (count - i) bytes) ≡ Some (items, bytes) = rw left (ap (λ (others : List A). Some (others, bytes)) (append-nil items)) in
    sym so_far ∙ whole
