-- The parts of a list of hashes.
use Rattle.std.specs.Prelude.{ℕ, Bool, true, false, List, ◌++◌, codes}
use Rattle.ddc_names.specs.declared.hash.IoHash.{IoHash}
use Rattle.ddc_names.specs.Names.{hash_text}

-- a hash in a list, with a comma before it unless it is the first
abbrev pub hash_entry : Bool → IoHash → List ℕ
hash_entry true hash = codes "\"" ++ hash_text hash ++ codes "\""
hash_entry false hash = codes ",\"" ++ hash_text hash ++ codes "\""
