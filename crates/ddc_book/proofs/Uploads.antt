-- What storing a blob gives.
use Rattle.std.specs.Prelude.{◌≡◌, ℕ, ◌<◌, ◌≤◌, Bool, true, false, List, Option, None, Some, Result, Ok, Err, nat_lt, if◌then◌else◌, option_map, refl}
use Rattle.std.proofs.Common.{ap, sym, ◌∙◌, subst, arith}
use Rattle.std.proofs.lemmas.Bool.Decides.{nat_tests}
use Rattle.ddc_names.specs.declared.hash.IoHash.{IoHash}
use Rattle.ddc_model.specs.declared.rows.Blob.{Blob}
use Rattle.ddc_model.specs.declared.entry.Stored.{Stored}
use Rattle.ddc_model.specs.declared.entry.Entry.{Entry}
use Rattle.ddc_model.specs.declared.entry.Entry.TheVariants.{Upload, Repin}
use Rattle.ddc_model.specs.declared.fault.StoreFault.{StoreFault}
use Rattle.ddc_model.specs.declared.fault.StoreFault.TheVariants.{UnknownSpace}
use Rattle.ddc_model.specs.State.{State, blob_at, has_space}
use Rattle.ddc_model.specs.Content.{Content, content_hash}
use Rattle.ddc_model.specs.Commands.{hour_of, stored_content, with_room, EntryWhere, upload_where, UploadAs}
use Rattle.ddc_model.proofs.Maps.{same_some}
use Rattle.ddc_book.specs.inside.Making.{full_by}
use Rattle.ddc_book.proofs.Giving.{made_where, refused_where}

is_before : (a b : ℕ) → a < b → nat_lt a b ≡ true
is_before a b h = grind (arith, nat_tests)

module _ (s : State) (space : List ℕ) (content : Content) (hour : ℕ) where
  pub upload_unknown : has_space s space ≡ false → UploadAs s space content hour (Err UnknownSpace) None
  upload_unknown unknown = subst (λ (there : Bool). EntryWhere (if there then with_room s (upload_where s (blob_at s space (content_hash content.bytes)) space content (hour_of s hour)) else Err UnknownSpace) (Err UnknownSpace) None) (sym unknown) (refl, refl)

  uploads : has_space s space ≡ true → (found : Option Blob) → blob_at s space (content_hash content.bytes) ≡ found → (answer : Result (Unit {0}) StoreFault) (made : Option Entry)
      → EntryWhere (with_room s (upload_where s found space content (hour_of s hour))) answer made → UploadAs s space content hour answer made
  uploads known found is answer made gives = subst (λ (e : Result (Option Entry) StoreFault). EntryWhere e answer made) (sym (λ i. if known i then with_room s (upload_where s (is i) space content (hour_of s hour)) else Err UnknownSpace)) gives

  pub upload_adds : has_space s space ≡ true → blob_at s space (content_hash content.bytes) ≡ None → (fresh : Stored) (now : ℕ) → fresh ≡ stored_content s content → now ≡ hour_of s hour → full_by s 0 (Some fresh) 0 ≡ None
      → UploadAs s space content hour (Ok tt) (Some (Upload space now fresh))
  upload_adds known absent fresh now is later room =
      uploads known None absent (Ok tt) (Some (Upload space now fresh))
      (subst (λ (blob : Stored). EntryWhere (with_room s (Some (Upload space (hour_of s hour) (stored_content s content)))) (Ok tt) (Some (Upload space now blob))) (sym is)
      (subst (λ (n : ℕ). EntryWhere (with_room s (Some (Upload space (hour_of s hour) (stored_content s content)))) (Ok tt) (Some (Upload space n (stored_content s content)))) (sym later)
      (made_where s (Upload space (hour_of s hour) (stored_content s content)) (ap (λ (blob : Stored). full_by s 0 (Some blob) 0) (sym is) ∙ room))))

  pub upload_is_full : has_space s space ≡ true → blob_at s space (content_hash content.bytes) ≡ None → (fresh : Stored) → fresh ≡ stored_content s content → (fault : StoreFault) → full_by s 0 (Some fresh) 0 ≡ Some fault
      → UploadAs s space content hour (Err fault) None
  upload_is_full known absent fresh is fault room =
      uploads known None absent (Err fault) None
      (refused_where s (Upload space (hour_of s hour) (stored_content s content)) fault (ap (λ (blob : Stored). full_by s 0 (Some blob) 0) (sym is) ∙ room))

  abbrev AtFound : Option Blob → ℕ → Type 0
  AtFound found at = option_map (λ (blob : Blob). blob.row.at) found ≡ Some at

  pub upload_repins : has_space s space ≡ true → (at : ℕ) → AtFound (blob_at s space (content_hash content.bytes)) at → (hash : IoHash) (now : ℕ) → hash ≡ content_hash content.bytes → now ≡ hour_of s hour → at < now
      → UploadAs s space content hour (Ok tt) (Some (Repin space hash now))
  upload_repins known at there hash now is later earlier = by_cases (blob_at s space (content_hash content.bytes)) refl there where
    by_cases : (found : Option Blob) → blob_at s space (content_hash content.bytes) ≡ found → AtFound found at → UploadAs s space content hour (Ok tt) (Some (Repin space hash now))
    by_cases None e f = absurd (cc)
    by_cases (Some blob) e f =
        let test : nat_lt blob.row.at (hour_of s hour) ≡ true = ap (λ (n : ℕ). nat_lt n (hour_of s hour)) (same_some blob.row.at at f) ∙ ap (nat_lt at) (sym later) ∙ is_before at now earlier in
        uploads known (Some blob) e (Ok tt) (Some (Repin space hash now))
        (subst (λ (b : Bool). EntryWhere (with_room s (if b then Some (Repin space (content_hash content.bytes) (hour_of s hour)) else None)) (Ok tt) (Some (Repin space hash now))) (sym test)
        (refl, λ i. Some (Repin space (is i) (later i))))

not_before : (a b : ℕ) → b ≤ a → nat_lt a b ≡ false
not_before a b h = grind (arith, nat_tests)

-- a blob that was stored or named no earlier is not pinned
module _ (s : State) (space : List ℕ) (content : Content) (hour : ℕ) where
  pub upload_nothing : has_space s space ≡ true → (at : ℕ) → AtFound s space content hour (blob_at s space (content_hash content.bytes)) at → (now : ℕ) → now ≡ hour_of s hour → now ≤ at → UploadAs s space content hour (Ok tt) None
  upload_nothing known at there now later le = by_cases (blob_at s space (content_hash content.bytes)) refl there where
    by_cases : (found : Option Blob) → blob_at s space (content_hash content.bytes) ≡ found → AtFound s space content hour found at → UploadAs s space content hour (Ok tt) None
    by_cases None e f = absurd (cc)
    by_cases (Some blob) e f =
        let test : nat_lt blob.row.at (hour_of s hour) ≡ false = ap (λ (n : ℕ). nat_lt n (hour_of s hour)) (same_some blob.row.at at f) ∙ ap (nat_lt at) (sym later) ∙ not_before at now le in
        uploads s space content hour known (Some blob) e (Ok tt) None
        (subst (λ (b : Bool). EntryWhere (with_room s (if b then Some (Repin space (content_hash content.bytes) (hour_of s hour)) else None)) (Ok tt) None) (sym test) (refl, refl))

none_there : {A B : Type 0} (f : A → B) (o : Option A) → option_map f o ≡ None → o ≡ None
none_there f None e = refl
none_there f (Some a) e = absurd (cc)

pub not_there : (s : State) (space : List ℕ) (hash : IoHash) → option_map (λ (found : Blob). found.row.at) (blob_at s space hash) ≡ None → blob_at s space hash ≡ None
not_there s space hash e = none_there (λ (found : Blob). found.row.at) (blob_at s space hash) e
