-- What a source or a sink over std is made of.
use Rattle.std.specs.Prelude.{ℕ}
use Rattle.te_io.specs.declared.std_ends.StdSource.{StdSource}
use Rattle.te_io.specs.declared.std_ends.StdSink.{StdSink}

-- the reader
abbrev pub reader_of : {R : Type 0} → StdSource R → R
reader_of source = source.reader

-- the source's count of faults
abbrev pub source_faults : {R : Type 0} → StdSource R → ℕ
source_faults source = source.faults

-- the writer
abbrev pub writer_of : {W : Type 0} → StdSink W → W
writer_of sink = sink.writer

-- the sink's count of faults
abbrev pub sink_faults : {W : Type 0} → StdSink W → ℕ
sink_faults sink = sink.faults
