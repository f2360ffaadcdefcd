-- What the words of the command line ask for.
use Rattle.std.specs.Prelude.{ℕ, ◌&&◌, Bool, true, List, [], ◌∷◌, length, Option, Some, None, String, string_bytes, codes, nat_eq, nat_le, if◌then◌else◌}
use Rattle.std.specs.Str.{all_ascii_digits}
use Rattle.std.specs.Str.Parse.{digits_value}
use Rattle.std.specs.declared.alloc.Global.{Global}
use lib.Pointwise.{pointwise}
use Rattle.ddc_names.specs.Texts.{name_fault}
use Rattle.ddc_model.specs.Entries.{is_time}
use Rattle.ddc_command.specs.declared.command.Command.{Command}
use Rattle.ddc_command.specs.declared.command.Command.TheVariants.{Replay, Init}

abbrev pub is_word : String Global → List ℕ → Bool
is_word word text = pointwise nat_eq (string_bytes word) text

-- a number of hours: 1 to 10 digits that write 1 to 1,000,000
abbrev pub are_hours : List ℕ → Bool
are_hours text = nat_le 1 (length text) && nat_le (length text) 10 && all_ascii_digits text && is_time (digits_value 10 text)

-- a namespace and its times
abbrev pub init_where : Option ℕ → Bool → List ℕ → List ℕ → List ℕ → Option Command
init_where None true space ttl pin = Some (Init space (digits_value 10 ttl) (digits_value 10 pin))
init_where fault hours space ttl pin = None

-- `replay DIR`
abbrev pub replay_command : String Global → Option Command
replay_command word = if is_word word (codes "replay") then Some Replay else None

-- `init DIR NS TTL PIN`
abbrev pub init_command : String Global → List ℕ → List ℕ → List ℕ → Option Command
init_command word space ttl pin =
    if is_word word (codes "init") then init_where (name_fault space) (are_hours ttl && are_hours pin) space ttl pin else None

-- the command that the words spell, where they have a form
abbrev pub command_of : List (String Global) → Option Command
command_of (word ∷ dir ∷ []) = replay_command word
command_of (word ∷ dir ∷ space ∷ ttl ∷ pin ∷ []) = init_command word (string_bytes space) (string_bytes ttl) (string_bytes pin)
command_of other = None
