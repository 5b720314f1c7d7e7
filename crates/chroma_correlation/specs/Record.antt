-- The answer as C has it.
use Rattle.std.specs.Prelude.{Result, Ok, Err}
use Rattle.float.specs.Mark as mark
use Rattle.frame.specs.Refusal.{number}
use Rattle.frame.specs.declared.refusal.Refusal.{Refusal}
use Rattle.chroma_correlation.specs.Answer.{refused}
use Rattle.chroma_correlation.specs.declared.Correlations.{Correlations}
use Rattle.chroma_correlation.specs.declared.ChromaCorr.{ChromaCorr}

abbrev pub record_of : Result Correlations Refusal → ChromaCorr
record_of (Ok c) =
    record { refusal = 0; cb = c.cb.coefficient; cr = c.cr.coefficient; cb_mark = mark.number c.cb.mark; cr_mark = mark.number c.cr.mark }
record_of (Err refusal) = refused (number refusal)
