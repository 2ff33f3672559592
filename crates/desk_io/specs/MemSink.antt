-- What a sink in memory tells.
use Rattle.std.specs.Prelude.{ℕ, List, Option, Some}
use Rattle.desk_io.specs.declared.mem_sink.MemSink.{MemSink}

-- all bytes that it has taken
abbrev pub bytes_of : MemSink → List ℕ
bytes_of sink = sink.taken.items

abbrev pub told_bytes : MemSink → Option (List ℕ)
told_bytes sink = Some (bytes_of sink)
