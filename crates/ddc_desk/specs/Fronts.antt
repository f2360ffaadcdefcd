-- What contracts see of seats and turns.
use Rattle.std.specs.Prelude.{ℕ, List, length, leb, if◌then◌else◌, refl}
use Rattle.std.specs.Coded.{Coded, code_by, coded×, coded_list, coded_ℕ}
use Rattle.atomic_table.specs.Seated.{TableId, table_id_coded}

-- the longer of two lists
abbrev pub longer : {I : Type 0} → List I → List I → List I
longer xs ys = if leb (length xs) (length ys) then ys else xs

-- the desk that a seat is of, and the front of the value's list that it has seen
pub record Seated (I : Type 0) : Type 0 where
  pub desk : TableId
  pub front : List I

abbrev pub coded_seated : {I : Type 0} → Coded I → Coded (Seated I)
coded_seated {I} item = code_by (TableId × List I) (coded× table_id_coded (coded_list item)) (λ seat. (seat.desk, seat.front)) (λ p. record { desk = p.0; front = p.1 }) (λ _. refl)

-- how a turn began: its desk, the ticket that was drawn for it, and the value's list then
pub record Entered (I : Type 0) : Type 0 where
  pub desk : TableId
  pub ticket : ℕ
  pub front : List I

abbrev pub coded_entered : {I : Type 0} → Coded I → Coded (Entered I)
coded_entered {I} item = code_by (TableId × (ℕ × List I)) (coded× table_id_coded (coded× coded_ℕ (coded_list item))) (λ entry. (entry.desk, (entry.ticket, entry.front))) (λ p. record { desk = p.0; ticket = p.1.0; front = p.1.1 }) (λ _. refl)
