-- Times among the words.
use Rattle.std.specs.Prelude.{◌≡◌, ℕ, List, Option, Some, None, true, if◌then◌else◌}
use Rattle.std.specs.Str.Parse.{digits_value}
use Rattle.ddc_model.specs.Entries.{is_time}
use Rattle.ddc_command.specs.declared.command.Command.{Command}
use Rattle.ddc_command.specs.declared.command.Command.TheVariants.{Replay, Init}
use Rattle.ddc_command.specs.Words.{are_hours}

-- the hours that a text writes
abbrev pub hours : List ℕ → Option ℕ
hours text = if are_hours text then Some (digits_value 10 text) else None

-- the times that were asked for
abbrev pub AreTimes : Command → Type 0
AreTimes Replay = Unit {0}
AreTimes (Init space ttl pin) = (is_time ttl ≡ true) × (is_time pin ≡ true)
