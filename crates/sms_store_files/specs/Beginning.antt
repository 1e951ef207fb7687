-- A log without its database.
use Rattle.std.specs.Prelude.{◌≡◌, ◌<◌, ℕ}

-- What a log has that was written back and cut: its head (SQLite's file format, 4.1), and nine octets that keep it shut.
abbrev pub emptied : ℕ
emptied = 41

-- The database is missing or empty, and its log has more than its head. Whoever opens it begins a new store, and writes over the log.
abbrev pub IsLogAlone : ℕ → ℕ → Type 0
IsLogAlone file log = (file ≡ 0) × (emptied < log)
