-- Hours of a clock.
use Rattle.std.specs.Prelude.{ℕ, ◌/◌, ◌^◌, nat_lt, if◌then◌else◌}

-- the whole hours of so many nanoseconds, and 0 where their number does not fit 32 bits
abbrev pub whole_hours : ℕ → ℕ
whole_hours nanoseconds =
    let hours = nanoseconds / 1_000_000_000 / 3600 in
    if nat_lt hours (2 ^ 32) then hours else 0
