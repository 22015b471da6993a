-- The layout of a pack of vectors (oracle/src/vectors.rs): little-endian numbers, and where the parts of a vector lie. Definitions only. Assumes nothing.
use Rattle.std.specs.Prelude.{ℕ, ◌+◌, ◌*◌, ◌/◌, min, Bool, cond, ◌||◌, List, ◌==◌, slice_index}
use Rattle.replay.specs.declared.pack.Vector.{Vector}

-- four bytes, and eight, as one number
abbrev pub le32 : List ℕ → ℕ → ℕ
le32 bytes at = slice_index bytes at + 256 * (slice_index bytes (at + 1) + 256 * (slice_index bytes (at + 2) + 256 * slice_index bytes (at + 3)))

abbrev pub le64 : List ℕ → ℕ → ℕ
le64 bytes at = le32 bytes at + 4294967296 * le32 bytes (at + 4)

-- the image was accepted and searched
abbrev pub accepted : Vector → Bool
accepted v = v.report.answer == 0 || v.report.answer == 7 || v.report.answer == 8 || v.report.answer == 9

-- after the name, the option, the lengths and the report comes the file, padded to a multiple of 8 bytes
abbrev pub records_at : Vector → ℕ
records_at v = 64 + (v.file + 7) / 8 * 8

-- then the kept records, and the marks, of an accepted image
unfoldable pub kept_words : Vector → ℕ
kept_words v = cond (accepted v) (40 * v.report.kept) 0

abbrev pub marks_at : Vector → ℕ
marks_at v = records_at v + 4 * kept_words v

unfoldable pub mark_words : Vector → ℕ
mark_words v = cond (accepted v) v.marks 0

abbrev pub size_of : Vector → ℕ
size_of v = marks_at v + 8 * mark_words v

-- the words of the lent buffer's whole records, at most 1,024 of them, which a search writes
unfoldable pub cleared_words : Vector → ℕ
cleared_words v = cond (accepted v) (min (v.records / 40 * 40) 40960) 0
