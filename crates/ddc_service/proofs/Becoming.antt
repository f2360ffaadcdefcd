-- What the steps of a call leave of a book.
use Rattle.std.proofs.Common.{◌≡◌, ℕ, List, [], ◌∷◌, ◌++◌, length, drop, Option, Some, None, ap, ◌∙◌}
use Rattle.std.proofs.Math.Seq.{drop-append_seam, drop-length}
use Rattle.ddc_disk.specs.Disk.{Meaning}
use Rattle.ddc_model.specs.declared.entry.Entry.{Entry}
use Rattle.ddc_model.specs.declared.entry.Step.{Step}
use Rattle.ddc_model.specs.declared.entry.Step.TheVariants.{Change}
use Rattle.ddc_model.specs.Sound.{Cache}
use Rattle.ddc_model.specs.Commands.{changed}
use Rattle.ddc_model.specs.History.{broken_by}
use Rattle.ddc_book.specs.View.{BookView, limits_of}
use Rattle.ddc_book.specs.Calls.{Becomes, change_in, next_cache}
use Rattle.ddc_book.proofs.Limits.{after_limits}
use Rattle.ddc_book.proofs.Steps.{broken_more}

module _ {D : Type 0} (book next : BookView D) (bytes : List ℕ) where
  -- what these steps lead to
  pub next_by : (more : List Step) → next.steps ≡ book.steps ++ more → next_cache book bytes next ≡ changed book.cache bytes (change_in more)
  next_by more steps =
      ap (λ (all : List Step). changed book.cache bytes (change_in (drop (length book.steps) all))) steps
      ∙ ap (λ (rest : List Step). changed book.cache bytes (change_in rest)) (drop-append_seam book.steps more)

  pub next_still : next.steps ≡ book.steps → next_cache book bytes next ≡ book.cache
  next_still steps =
      ap (λ (all : List Step). changed book.cache bytes (change_in (drop (length book.steps) all))) steps
      ∙ ap (λ (rest : List Step). changed book.cache bytes (change_in rest)) (drop-length book.steps)

  module _ (meaning : D → Meaning) where
    pub becomes_cache : (made : Option Entry) → Becomes meaning book bytes next made → next.cache ≡ changed book.cache bytes made
    becomes_cache None still = still.cache
    becomes_cache (Some entry) (cache, steps) = cache

    pub becomes_next : (made : Option Entry) → Becomes meaning book bytes next made → next_cache book bytes next ≡ changed book.cache bytes made
    becomes_next None still = next_still still.steps
    becomes_next (Some entry) (cache, steps) = next_by (Change entry ∷ []) steps

    pub becomes_limits : (made : Option Entry) → Becomes meaning book bytes next made → limits_of next ≡ limits_of book
    becomes_limits None still = ap (λ (c : Cache). c.index.limits) still.cache
    becomes_limits (Some entry) (cache, steps) = ap (λ (c : Cache). c.index.limits) cache ∙ after_limits book.cache.index entry

    pub becomes_unbroken : broken_by book.steps ≡ None → (made : Option Entry) → Becomes meaning book bytes next made → broken_by next.steps ≡ None
    becomes_unbroken unbroken None still = ap broken_by still.steps ∙ unbroken
    becomes_unbroken unbroken (Some entry) (cache, steps) = ap broken_by steps ∙ broken_more book.steps (Change entry ∷ []) unbroken
