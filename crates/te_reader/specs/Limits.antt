-- The limit of a text, which is this project's own.
use Rattle.std.specs.Prelude.{ℕ}

abbrev pub most_bytes : ℕ
most_bytes = 1048576
