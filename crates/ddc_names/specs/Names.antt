-- What reading and writing the texts of names, hashes and keys answers.
use Rattle.std.specs.Prelude.{ℕ, List, Option, Some, None, Result, Ok, Err}
use Rattle.std.specs.Result.{result_ok}
use Rattle.hex.specs.Hex.{encode_lower}
use Rattle.ddc_names.specs.Texts.{name_fault, digits_fault, bytes_of}
use Rattle.ddc_names.specs.declared.name.BadName.{BadName}
use Rattle.ddc_names.specs.declared.hash.IoHash.{IoHash}
use Rattle.ddc_names.specs.declared.reference.RefKey.{RefKey}

-- a value whose text breaks its rule at no place, or the least place at which it does
abbrev pub checked : {A : Type 0} → Option ℕ → A → Result A BadName
checked None value = Ok value
checked (Some at) value = Err (record { at = at })

-- the namespace or bucket that a text spells, which is seen as its text
abbrev pub name_of : List ℕ → Result (List ℕ) BadName
name_of text = checked (name_fault text) text

-- the key that a text spells
abbrev pub key_of : List ℕ → Result RefKey BadName
key_of text = checked (digits_fault text) (record { 0 = bytes_of text })

-- the hash that a text spells
abbrev pub hash_of : List ℕ → Option IoHash
hash_of text = result_ok (checked (digits_fault text) (record { 0 = bytes_of text }))

-- the text of a hash, in lower case
abbrev pub hash_text : IoHash → List ℕ
hash_text hash = encode_lower hash.0

-- the text of a key, in lower case
abbrev pub key_text : RefKey → List ℕ
key_text key = encode_lower key.0
