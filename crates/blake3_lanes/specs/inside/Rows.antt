-- One block alone: its state is four rows of four words, and each row is a vector.
use Rattle.std.specs.Prelude.{ℕ, ◌+◌, ◌%◌, List, [], ◌∷◌, ◌++◌, slice_index, slice_index_or}

-- row i
abbrev pub row_at : List (List ℕ) → ℕ → List ℕ
row_at v i = slice_index_or v i []

-- the words of a row, one by one
abbrev pub row_words : List ℕ → List ℕ
row_words x = slice_index x 0 ∷ slice_index x 1 ∷ slice_index x 2 ∷ slice_index x 3 ∷ []

-- the eight words of two rows
abbrev pub two_rows : List (List ℕ) → List ℕ
two_rows h = row_words (row_at h 0) ++ row_words (row_at h 1)

-- the sixteen words of four rows
abbrev pub four_rows : List (List ℕ) → List ℕ
four_rows v = row_words (row_at v 0) ++ row_words (row_at v 1) ++ row_words (row_at v 2) ++ row_words (row_at v 3)

-- diagonal j of the state, of which row 1 stands still: the word of row 1 in place j, and with it one of each other row
abbrev pub diagonal : ℕ → List (List ℕ) → List ℕ
diagonal j v =
    slice_index (row_at v 0) ((j + 3) % 4) ∷ slice_index (row_at v 1) j
    ∷ slice_index (row_at v 2) ((j + 1) % 4) ∷ slice_index (row_at v 3) ((j + 2) % 4) ∷ []

-- the message whose words the rows have in the order in which a round mixes them in: those with an even place that go
-- to the columns, those with an odd place, and the same of the diagonals, which begin with the last one
abbrev pub message_of : List (List ℕ) → List ℕ
message_of m =
    slice_index (row_at m 0) 0 ∷ slice_index (row_at m 1) 0 ∷ slice_index (row_at m 0) 1 ∷ slice_index (row_at m 1) 1
    ∷ slice_index (row_at m 0) 2 ∷ slice_index (row_at m 1) 2 ∷ slice_index (row_at m 0) 3 ∷ slice_index (row_at m 1) 3
    ∷ slice_index (row_at m 2) 1 ∷ slice_index (row_at m 3) 1 ∷ slice_index (row_at m 2) 2 ∷ slice_index (row_at m 3) 2
    ∷ slice_index (row_at m 2) 3 ∷ slice_index (row_at m 3) 3 ∷ slice_index (row_at m 2) 0 ∷ slice_index (row_at m 3) 0 ∷ []
