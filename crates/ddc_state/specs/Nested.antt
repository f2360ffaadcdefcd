-- Maps by hash in a map by namespace, seen as one map by the names of blobs.
use Rattle.std.specs.Prelude.{ℕ, not, List, [], ◌∷◌}
use Rattle.std.specs.Ordering.{eq_by_cmp}
use Rattle.std.specs.BTreeMap.{BTreeMap}
use Rattle.std.specs.FinMap.{FinMap, empty, insert, retain_keys}
use Rattle.ddc_names.specs.declared.hash.IoHash.{IoHash}
use Rattle.ddc_names.specs.Orders.{name_cmp}
use Rattle.ddc_model.specs.Keys.{blob_cmp}
use Rattle.ddc_model.specs.State.{blob_name}

module _ {V : Type 0} where
  -- a map that has these values in a namespace, and in the others what it had
  abbrev pub with_space : List ℕ → List (IoHash × V) → FinMap blob_cmp V → FinMap blob_cmp V
  with_space space [] m = retain_keys m (λ name. not (eq_by_cmp name_cmp name.space space))
  with_space space (e ∷ es) m = insert (with_space space es m) (blob_name space e.0) e.1

  -- each value by its namespace and hash
  abbrev pub in_spaces : List (List ℕ × BTreeMap IoHash V) → FinMap blob_cmp V
  in_spaces [] = empty
  in_spaces (e ∷ es) = with_space e.0 e.1.entries (in_spaces es)
