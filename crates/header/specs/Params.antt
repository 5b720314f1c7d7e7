-- A header's record: its fields as they were read, and its lists where they stand.
use Rattle.header.specs.Record.{FilmGrainParams}
use Rattle.header.specs.Scalars.{record_of}
use Rattle.header.specs.declared.header.Header.{Header}

abbrev pub params : Header → FilmGrainParams
params h = record_of h.fields h.bytes.now
