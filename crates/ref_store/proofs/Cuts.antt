-- The rows of a page, cut from one row more than was asked for.
use Rattle.std.specs.Prelude.{◌≡◌, ℕ, ◌+◌, ◌-◌, ◌≤◌, ◌<◌, cond, nat_lt, List, [], ◌∷◌, ◌++◌, length, take, Option, None, Some, IfNone}
use Rattle.std.specs.Option.{option_map, option_to_list}
use Rattle.std.specs.List.{slice_get, slice_index_or}
use Rattle.std.proofs.Common.{ap, sym, ◌∙◌, arith}
use Rattle.std.proofs.lemmas.List.{length-take, length-append, take-take, take-append-le, take_all, get_or-take}
use Rattle.std.proofs.lemmas.Option.{slice_get-get_or}
use Rattle.std.proofs.lemmas.Bool.{lt-ltb}
use Rattle.ref_store.specs.declared.slot.RefRow.{RefRow}
use Rattle.ref_store.specs.declared.slot.SlotPage.{SlotPage}
use Rattle.ref_store.specs.Pages.{cut_page}

-- without its last, one row more than asked for is as many as asked for
kept_rows : (rows kept all : List RefRow) (last : Option RefRow) (count : ℕ) → rows ≡ take (count + 1) all → count < length rows → rows ≡ kept ++ option_to_list last → IfNone last (rows ≡ []) → kept ≡ take count all
kept_rows rows kept all None count front more parts empty = absurd (omega (arith, more, ap length empty))
kept_rows rows kept all (Some row) count front more parts empty =
    let cut : length rows ≤ count + 1 = omega (arith, ap length front, length-take (count + 1) all) in
    let sum : length rows ≡ length kept + 1 = ap length parts ∙ length-append kept (row ∷ []) in
    sym (take_all count kept (omega (arith, cut, sum))) ∙ sym (take-append-le count kept (row ∷ []) (omega (arith, more, sum)))
    ∙ ap (take count) (sym parts ∙ front) ∙ take-take count (count + 1) all (omega arith)

last_spot : (kept all : List RefRow) (count : ℕ) (d : RefRow) → 1 ≤ count → count < length all → kept ≡ take count all → Some (slice_index_or kept (count - 1) d).spot ≡ option_map (λ row. row.spot) (slice_get all (count - 1))
last_spot kept all count d some more is =
    ap (λ (rows : List RefRow). Some (slice_index_or rows (count - 1) d).spot) is
    ∙ ap (λ (row : RefRow). Some row.spot) (get_or-take count all (count - 1) d (omega (arith, some)))
    ∙ sym (ap (option_map (λ (row : RefRow). row.spot)) (slice_get-get_or all (count - 1) d (omega (arith, some, more))))

pub long_page : (rows kept all : List RefRow) (last : Option RefRow) (count : ℕ) (d : RefRow) → 1 ≤ count → rows ≡ take (count + 1) all → count < length rows → rows ≡ kept ++ option_to_list last → IfNone last (rows ≡ []) → ◌≡◌ {A = SlotPage} (record { rows = kept; next = Some (slice_index_or kept (count - 1) d).spot }) (cut_page all count)
long_page rows kept all last count d some front more parts empty =
    let is : kept ≡ take count all = kept_rows rows kept all last count front more parts empty in
    let longer : count < length all = omega (arith, more, ap length front, length-take (count + 1) all) in
    let next : Some (slice_index_or kept (count - 1) d).spot ≡ cond (nat_lt count (length all)) (option_map (λ row. row.spot) (slice_get all (count - 1))) None =
    last_spot kept all count d some longer is ∙ sym (ap (λ b. cond b (option_map (λ (row : RefRow). row.spot) (slice_get all (count - 1))) None) (lt-ltb count (length all) longer)) in
    λ i. record { rows = is i; next = next i }
