-- The answer as C has it: coefficients and marks apart.
use Rattle.std.specs.Prelude.{true, ℕ, List, map, ℤ, Option, Some, None, Result, Ok, Err}
use Rattle.float.specs.Mark.{number}
use Rattle.float.specs.declared.quant.Quantised.{Quantised}
use Rattle.frame.specs.Refusal as refusal
use Rattle.frame.specs.declared.refusal.Refusal.{Refusal}
use Rattle.fit.specs.Answer.{unfit}
use Rattle.fit.specs.declared.Fit.{Fit}
use Rattle.fit.specs.declared.Fitted.{Fitted}

abbrev pub coefficients_in : List Quantised → List ℤ
coefficients_in = map (λ q. q.coefficient)

abbrev pub marks_in : List Quantised → List ℕ
marks_in = map (λ q. number q.mark)

abbrev pub record_of : Result (Option Fitted) Refusal → Fit
record_of (Ok (Some f)) =
    record {
      refusal = 0;
      found = true;
      count = f.count;
      luma = coefficients_in f.luma;
      cb = coefficients_in f.cb;
      cr = coefficients_in f.cr;
      luma_marks = marks_in f.luma;
      cb_marks = marks_in f.cb;
      cr_marks = marks_in f.cr;
    }
record_of (Ok None) = unfit 0
record_of (Err r) = unfit (refusal.number r)
