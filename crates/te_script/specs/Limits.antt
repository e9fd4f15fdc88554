-- The limits of scripts and threads, each named once; those of values, names, registers and events are te_terms'. All of
-- them are this project's own.
use Rattle.std.specs.Prelude.{ℕ}

abbrev pub most_channels : ℕ
most_channels = 256

abbrev pub most_statements : ℕ
most_statements = 1024

-- how often the body of a repeat is done
abbrev pub most_times : ℕ
most_times = 10000
