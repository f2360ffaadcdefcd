-- What a blob's bytes are.
use Rattle.std.specs.Prelude.{◌≡◌, ℕ, Bool, true, false, List, []}
use Rattle.ddc_names.specs.declared.hash.IoHash.{IoHash}
use Rattle.tree_hash.specs.TreeHash.{io}
use Rattle.cb_fields.specs.declared.links.Link.{Link}
use Rattle.cb_fields.specs.Language.{IsObject, IsNoObject}

-- the hash that names these bytes
abbrev pub content_hash : List ℕ → IoHash
content_hash bytes = record { 0 = io bytes }

-- bytes, whether they are an object, and the links of that object
pub record Content : Type 0 where
  pub bytes : List ℕ
  pub is_object : Bool
  pub links : List Link

-- the links are those of the object that the bytes are; bytes that are no object have none
abbrev pub AreLinksOf : List ℕ → Bool → List Link → Type 0
AreLinksOf bytes true links = IsObject bytes links
AreLinksOf bytes false links = IsNoObject bytes × (links ≡ [])

abbrev pub IsContent : Content → Type 0
IsContent content = AreLinksOf content.bytes content.is_object content.links
