-- "Sum of luma average × chroma noise over sum of squared averages, quantised; 0 if the latter is at most 1e-9."
-- The closure `corr` of `fit_chroma_corr`: rows and columns in order, each sum from 0.0 and here by a loop of its own.
use Rattle.std.specs.Prelude.{cond, length, ◌==◌, Float}
use Rattle.std.specs.Float.{binary64}
use Rattle.std.specs.Float.Ieee.{add, div, le}
use Rattle.laws.specs.Constants.{tiny}
use Rattle.laws.specs.Loop.{loop}
use Rattle.laws.specs.Scaled.{plus_zero}
use Rattle.float.specs.Reading.{Reading}
use Rattle.noise.specs.Noise.{Pair}
use Rattle.noise.specs.Average.{Luma}
use Rattle.noise.specs.Products.{own, average, product_f}
use Rattle.noise.specs.Steps.{window_f}

-- `s_ll += l * l;`
unfoldable pub squares_f : Luma → Pair → Float
squares_f luma chroma = window_f (average luma) (average luma) 0 chroma.height 0 chroma.width

-- `s_lc += l * c;`
unfoldable pub products_f : Luma → Pair → Float
products_f luma chroma = window_f (average luma) (own chroma) 0 chroma.height 0 chroma.width

-- both in the Rust's one pass over rows and columns; a theorem takes it apart
abbrev pub one_pass : Luma → Pair → Float × Float
one_pass luma chroma =
    loop 0 chroma.height
    (λ y. loop 0 chroma.width
    (λ x (s : Float × Float). (add binary64 s.0 (product_f (average luma) (average luma) (y, x)), add binary64 s.1 (product_f (average luma) (own chroma) (y, x)))))
    (plus_zero, plus_zero)

-- by the reading `coefficients`: `if s_ll <= 1e-9 { 0 } else { quant_ar(s_lc / s_ll) }`, and 0 of an empty plane
unfoldable pub corr : {A : Type 0} → Reading A → Luma → Pair → A
corr R luma chroma =
    cond (length chroma.source == 0) R.unquantised
    (cond (le (squares_f luma chroma) tiny) R.unquantised (R.of (div binary64 (products_f luma chroma) (squares_f luma chroma))))
