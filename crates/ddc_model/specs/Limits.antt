-- The limits of a store.
use Rattle.std.specs.Prelude.{ℕ, refl}
use Rattle.std.specs.Coded.{Coded, code_by, coded×, coded_ℕ}
use Rattle.ddc_model.specs.declared.rows.Limits.{Limits}

-- the limits of a store that is served
abbrev pub standard : Limits
standard = record { spaces = 64; blobs = 2097152; refs = 1048576; links = 16777216; units = 268435456; kept = 16384; entries = 4194304; entry_links = 16777216; lease_steps = 1048576 }

-- the most bytes of a blob
abbrev pub most_bytes : ℕ
most_bytes = 67108864

-- the most links of a blob
abbrev pub most_links : ℕ
most_links = 4194304

abbrev pub coded_limits : Coded Limits
coded_limits = code_by (ℕ × (ℕ × (ℕ × (ℕ × (ℕ × (ℕ × (ℕ × (ℕ × ℕ))))))))
    (coded× coded_ℕ (coded× coded_ℕ (coded× coded_ℕ (coded× coded_ℕ (coded× coded_ℕ (coded× coded_ℕ (coded× coded_ℕ (coded× coded_ℕ coded_ℕ))))))))
    (λ l. (l.spaces, (l.blobs, (l.refs, (l.links, (l.units, (l.kept, (l.entries, (l.entry_links, l.lease_steps)))))))))
    (λ p. record { spaces = p.0; blobs = p.1.0; refs = p.1.1.0; links = p.1.1.1.0; units = p.1.1.1.1.0; kept = p.1.1.1.1.1.0; entries = p.1.1.1.1.1.1.0; entry_links = p.1.1.1.1.1.1.1.0; lease_steps = p.1.1.1.1.1.1.1.1 })
    (λ _. refl)
