-- What an image opens to that is known to open to one of several states.
use Rattle.std.proofs.Common.{◌≡◌, ◌⊎◌, ℕ, List, Option, Some, None, sym, ap, subst, inl, inr, ◌∙◌}
use Rattle.std.specs.FinMap.{FinMap, get-empty}
use Rattle.std.specs.Prelude.{IfSome}
use Rattle.ddc_disk.specs.Disk.{Timeline, EachImage, EachSince}
use Rattle.ddc_disk.specs.Images.{Images}
use Rattle.ddc_journal.specs.Laws.{NotMadeIsNone}
use Rattle.ddc_model.specs.Keys.{blob_cmp}
use Rattle.ddc_model.specs.Limits.{standard}
use Rattle.ddc_model.specs.State.{empty_state}
use Rattle.ddc_model.specs.Sound.{Cache, IsSound}
use Rattle.ddc_opening.specs.Opening.{version, bytes_in, cache_in, AllReach, OpensAs}
use Rattle.ddc_opening.specs.Laws.{OneOpening, OpensOrFails}
use Rattle.ddc_opening.specs.declared.fault.OpenFault.TheVariants.{NotMade}
use Rattle.ddc_book.specs.Calls.{OpensWhole}
use Rattle.ddc_command.specs.Ends.{IsEmptyUnmade, OpensAfter}

-- ---- an empty store

-- it has no blob that could end past the file
pub empty_reach : (file : List ℕ) → AllReach file (empty_state standard)
empty_reach file name blob there = absurd (let no : None ≡ Some blob = sym (get-empty blob_cmp name) ∙ there in cc)

pub empty_reaches : (held : Option (List ℕ)) → IfSome held (λ file. AllReach file (empty_state standard))
empty_reaches None = tt
empty_reaches (Some file) = empty_reach file

-- each blob ends within the blob file, where there is one
pub left_reach : (cache : Cache) (im : Images) → OpensWhole standard im cache ⊎ IsEmptyUnmade cache im → AllReach im.blobs cache.index
left_reach cache im (inl opens) = opens.reach
left_reach cache im (inr (empty, none)) = subst (λ (c : Cache). AllReach im.blobs c.index) (sym empty) (empty_reach im.blobs)

-- ---- one state

-- a cache with the bytes that a file gives
pub cache_is : (cache : Cache) (file : List ℕ) → cache.bytes ≡ Some (bytes_in file cache.index.blobs) → cache ≡ cache_in file cache.index
cache_is cache file is = ap (λ (bytes : Option (FinMap blob_cmp (List ℕ))). let c : Cache = record { index = cache.index; bytes = bytes } in c) is

module _ (one : OneOpening) (start cache : Cache) (keeps : IsSound start → IsSound cache) where
  -- the image opens to this state, and to a whole one
  pub whole_after : (im : Images) (state : Cache) → OpensAs standard im cache → OpensWhole standard im state → OpensWhole standard im cache
  whole_after im state opens whole = subst (λ (c : Cache). OpensWhole standard im c) (one standard im state cache whole.opens opens) whole

  module _ (exclusive : OpensOrFails) (not_made : NotMadeIsNone) where
    -- it opens to this state, and to that at the start or after it, or no store is made
    settled : (im : Images) → OpensAs standard im cache → OpensWhole standard im start ⊎ OpensAfter start im cache ⊎ IsEmptyUnmade start im → OpensAfter start im cache
    settled im opens (inl whole) = record { opens = whole_after im start opens whole; sound = keeps }
    settled im opens (inr (inl after)) = after
    settled im opens (inr (inr (empty, none))) = absurd (exclusive standard im cache NotMade opens (λ e. cc) ((not_made version im.first im.second).1 none))

    pub each_settled : (old new : Timeline Images) → EachSince old new (λ im. OpensWhole standard im start ⊎ OpensAfter start im cache ⊎ IsEmptyUnmade start im) → EachImage new (λ im. OpensAs standard im cache)
        → EachImage new (λ im. OpensAfter start im cache)
    each_settled old new run opens im now = settled im (opens im now) (run.each new.moment im run.later now)
