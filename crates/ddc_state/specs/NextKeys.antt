-- The keys of a map in their order, one after another.
use Rattle.std.specs.Prelude.{◌≡◌, ℕ, Bool, true, List, Option, None, Some, is_some}
use Rattle.std.specs.declared.cmp.Ordering.{Ordering}
use Rattle.std.specs.declared.cmp.Ordering.TheVariants.{Less}
use Rattle.std.specs.Ordering.{is_lt}
use Rattle.std.specs.FinMap.{FinMap, get}
use Rattle.ddc_names.specs.declared.hash.IoHash.{IoHash}
use Rattle.ddc_names.specs.Orders.{name_cmp, io_hash_cmp}
use Rattle.ddc_model.specs.Keys.{blob_cmp}
use Rattle.ddc_model.specs.State.{blob_name}

-- whether a key stands after another; all stand after none
abbrev pub is_past : {K : Type 0} → (K → K → Ordering) → Option K → K → Bool
is_past cmp None key = true
is_past cmp (Some before) key = is_lt (cmp before key)

module _ {K V : Type 0} (cmp : K → K → Ordering) (value_at : K → Option V) where
  -- the key has a value and stands after another one, and none that has one stands between them
  pub record IsNextKey (after : Option K) (key : K) : Type 0 where
    pub there : is_some (value_at key) ≡ true
    pub past : is_past cmp after key ≡ true
    pub first : (other : K) → is_past cmp after other ≡ true → cmp other key ≡ Less → value_at other ≡ None

  -- the first key after another, and none where there is none
  abbrev pub NextKey : Option K → Option K → Type 0
  NextKey after (Some key) = IsNextKey after key
  NextKey after None = (other : K) → is_past cmp after other ≡ true → value_at other ≡ None

-- the first blob of a namespace after a hash
abbrev pub NextBlob : {V : Type 0} → FinMap blob_cmp V → List ℕ → Option IoHash → Option IoHash → Type 0
NextBlob blobs space after found = NextKey io_hash_cmp (λ hash. get blobs (blob_name space hash)) after found

-- the first namespace after another
abbrev pub NextSpace : {V : Type 0} → FinMap name_cmp V → Option (List ℕ) → Option (List ℕ) → Type 0
NextSpace spaces after found = NextKey name_cmp (get spaces) after found
