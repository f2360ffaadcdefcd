-- What a contract sees of an index, and of the check of a blob's bytes.
use Rattle.std.specs.Prelude.{◌≡◌, ℕ, Bool, true, List, Result, Ok, Err, refl}
use Rattle.std.specs.Coded.{Coded, code_by, coded×, coded_ℕ, coded_bool, coded_list}
use Rattle.cb_fields.specs.declared.links.Link.{Link}
use Rattle.cb_fields.specs.declared.check.CbFault.{CbFault}
use Rattle.cb_fields.specs.Objects.{ReadsObject}
use Rattle.ddc_model.specs.Content.{Content, IsContent}
use Rattle.ddc_model.specs.Keys.{coded_link}
use Rattle.ddc_model.specs.State.{State, coded_state}

-- a store's state, and how often links were given out
pub record IndexView : Type 0 where
  pub state : State
  pub reads : ℕ

abbrev pub coded_index : Coded IndexView
coded_index = code_by (State × ℕ) (coded× coded_state coded_ℕ) (λ index. (index.state, index.reads)) (λ p. record { state = p.0; reads = p.1 }) (λ _. refl)

-- the same index in another state
abbrev pub in_state : IndexView → State → IndexView
in_state index state = record index { state = state }

-- the object that bytes are, or where other bytes first break the rules
abbrev pub ChecksObject : List ℕ → Result Content CbFault → Type 0
ChecksObject bytes (Ok content) = (content.bytes ≡ bytes) × (content.is_object ≡ true) × IsContent content
ChecksObject bytes (Err fault) = ReadsObject bytes (Err fault)

abbrev pub coded_content : Coded Content
coded_content = code_by (List ℕ × (Bool × List Link)) (coded× (coded_list coded_ℕ) (coded× coded_bool (coded_list coded_link))) (λ c. (c.bytes, (c.is_object, c.links))) (λ p. record { bytes = p.0; is_object = p.1.0; links = p.1.1 }) (λ _. refl)
