-- What becomes of a turn once its value comes back.
use Rattle.ddc_desk.specs.declared.desk.Turn.{Turn}

-- the value is then what was left, and the turn began as before
abbrev pub with_value : {T I : Type 0} → Turn T I → T → Turn T I
with_value turn value = record turn { value = value }
