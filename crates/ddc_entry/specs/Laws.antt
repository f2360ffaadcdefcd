-- What holds of the spellings of entries.
use Rattle.std.specs.Prelude.{◌≡◌}
use Rattle.ddc_model.specs.declared.entry.Entry.{Entry}
use Rattle.ddc_entry.specs.Spelling.{spelling, IsEntry}

-- two entries with one spelling are the same
abbrev pub OneEntry : Type 0
OneEntry = (e f : Entry) → IsEntry e → IsEntry f → spelling e ≡ spelling f → e ≡ f
