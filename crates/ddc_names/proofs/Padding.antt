-- Texts with zeros after them.
use Rattle.std.proofs.Common.{◌≡◌, ℕ, List, ◌++◌, length, drop, replicate, ap, ◌∙◌}
use Rattle.std.proofs.lemmas.List.{drop-replicate}
use Rattle.ddc_names.specs.Texts.{in_64_bytes}

-- a text written to the front of 64 zeros
pub in_64_bytes_by : (text copied : List ℕ) → copied ≡ text → copied ++ drop (length text) (replicate {A = ℕ} 64 0) ≡ in_64_bytes text
in_64_bytes_by text copied e = ap (λ (l : List ℕ). l ++ drop (length text) (replicate {A = ℕ} 64 0)) e ∙ ap (λ (l : List ℕ). text ++ l) (drop-replicate (length text) 64 0)
