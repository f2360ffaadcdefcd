-- The values of the fields of a name, one field more.
use Rattle.std.proofs.Common.{◌≡◌, ℕ, ◌≤◌, ◌-◌, true, List, [], ◌∷◌, length, take, drop, get_or, map, sym, ap, ◌∙◌, arith, cond}
use Rattle.std.proofs.lemmas.List.{take_all}
use Rattle.httparse.specs.declared.spans.HeaderSpan.{HeaderSpan}
use Rattle.httparse.specs.Spans.{header_bytes}
use Rattle.ddc_protocol.specs.Fields.{same_name, values_of}

-- the first field has the name
pub values_of-named : (buf name : List ℕ) (headers : List HeaderSpan) (none : HeaderSpan) → 1 ≤ length headers
    → same_name (header_bytes buf (get_or headers 0 none)).0 name ≡ true
    → values_of name (map (header_bytes buf) headers) ≡ (header_bytes buf (get_or headers 0 none)).1 ∷ values_of name (map (header_bytes buf) (take (length headers - 1) (drop 1 headers)))
values_of-named buf name [] none full same = absurd (omega arith)
values_of-named buf name (h ∷ hs) none full same =
    let rest : take (length (h ∷ hs) - 1) hs ≡ hs = take_all (length (h ∷ hs) - 1) hs (omega arith) in
    let others = values_of name (map (header_bytes buf) hs) in
    ap (λ b. cond b ((header_bytes buf h).1 ∷ others) others) same ∙ ap (λ l. (header_bytes buf h).1 ∷ values_of name (map (header_bytes buf) l)) (sym rest)
