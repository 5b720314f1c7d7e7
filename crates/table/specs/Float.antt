-- "Marked * are proved, and make up a table": the rows on sigma16 and on coefficients, with marks, roots and their digits, and rounded numbers beside them.
use Rattle.std.specs.Prelude.{ℕ, ◌+◌, ◌*◌, ◌^◌, true, false, List, [], ◌∷◌, ℤ, pos, negsuc, neg_ℤ, Float, length, replicate}
use Rattle.std.specs.Float.{nan, inf, fin, binary64}
use Rattle.std.specs.Float.Ieee.{round, of_bits}
use Rattle.laws.specs.Constants.{fraction}
use Rattle.float.specs.Steps.{sigma16_of}
use Rattle.float.specs.Sigma.{whole_sigma16, sum_of_squares}
use Rattle.float.specs.declared.quant.Mark.{Mark}
use Rattle.float.specs.declared.quant.Mark.TheVariants.{Inside, HeldLow, HeldHigh, NotANumber}
use Rattle.float.specs.declared.quant.Quantised.{Quantised}
use Rattle.table.specs.Cases.{Case, row}

-- m and −m
abbrev whole : ℕ → Float
whole m = fin false m (pos 0)

abbrev minus : ℕ → Float
minus m = fin true m (pos 0)

-- sigma16 of d, the shifted noise
abbrev pub sigma : List ℤ → ℕ
sigma ds = sigma16_of (sum_of_squares ds) (length ds)

-- by a whole root
abbrev pub whole_sigma : List ℤ → ℕ
whole_sigma ds = whole_sigma16 (sum_of_squares ds) (length ds)

-- Sigma16: 4 samples, 1,0,0,0; 1,024 samples, one of 1; 1,025 samples; −1 everywhere; 0 everywhere; 3 and −4, whose mean square is 25 / 2; an empty plane.
abbrev pub sigma_cases : List (Case (List ℤ) ℕ)
sigma_cases =
    row (pos 1 ∷ replicate 3 (pos 0)) 8 ∷
    row (pos 1 ∷ replicate 1023 (pos 0)) 1 ∷
    row (pos 1 ∷ replicate 1024 (pos 0)) 0 ∷
    row (replicate 12 (neg_ℤ (pos 1))) 16 ∷
    row (replicate 12 (pos 0)) 0 ∷
    row (pos 3 ∷ neg_ℤ (pos 4) ∷ []) 57 ∷
    row [] 0 ∷
    []

-- Coefficients: 0.0078125 is 1 / 2 ^ 7, 1.9921875 is 255 / 2 ^ 7, −2.0078125 is −257 / 2 ^ 7.
abbrev pub coefficient_cases : List (Case Float ℤ)
coefficient_cases =
    row (fin false 1 (negsuc 6)) (pos 1) ∷
    row (fin true 1 (negsuc 6)) (neg_ℤ (pos 1)) ∷
    row (fin false 255 (negsuc 6)) (pos 127) ∷
    row (fin true 257 (negsuc 6)) (neg_ℤ (pos 128)) ∷
    row nan (pos 0) ∷
    row (inf false) (pos 127) ∷
    row (inf true) (neg_ℤ (pos 128)) ∷
    []

-- a coefficient with its mark
abbrev pub marked : ℤ → Mark → Quantised
marked k m = record { coefficient = k; mark = m }

-- Marks, of a 64th of each: 127.49999 and 127.5, −128.49 and −128.5; 127 and −128; both zeros, NaN, the infinities.
abbrev pub mark_cases : List (Case Float Quantised)
mark_cases =
    row (fraction 12_749_999 (64 * 100_000)) (marked (pos 127) Inside) ∷
    row (fraction 1_275 (64 * 10)) (marked (pos 127) HeldHigh) ∷
    row (round binary64 true 12_849 (64 * 100)) (marked (neg_ℤ (pos 128)) Inside) ∷
    row (round binary64 true 1_285 (64 * 10)) (marked (neg_ℤ (pos 128)) HeldLow) ∷
    row (fraction 127 64) (marked (pos 127) Inside) ∷
    row (round binary64 true 128 64) (marked (neg_ℤ (pos 128)) Inside) ∷
    row (whole 0) (marked (pos 0) Inside) ∷
    row (minus 0) (marked (pos 0) Inside) ∷
    row nan (marked (pos 0) NotANumber) ∷
    row (inf false) (marked (pos 127) HeldHigh) ∷
    row (inf true) (marked (neg_ℤ (pos 128)) HeldLow) ∷
    []

-- Roots: of 2, of the smallest f64 and of three times that, of the largest, of both zeros, of −1, of NaN and of the infinities.
abbrev pub root_cases : List (Case Float Float)
root_cases =
    row (fin false 1 (pos 1)) (of_bits binary64 0x3ff6_a09e_667f_3bcd) ∷
    row (fin false 1 (negsuc 1073)) (fin false 1 (negsuc 536)) ∷
    row (fin false 3 (negsuc 1073)) (of_bits binary64 0x1e6b_b67a_e858_4caa) ∷
    row (of_bits binary64 0x7fef_ffff_ffff_ffff) (of_bits binary64 0x5fef_ffff_ffff_ffff) ∷
    row (whole 0) (whole 0) ∷
    row (minus 0) (minus 0) ∷
    row (minus 1) nan ∷
    row nan nan ∷
    row (inf false) (inf false) ∷
    row (inf true) nan ∷
    []

-- Digits worked for a root: of 1, 4, 9/4, 9 and 2; of both zeros, −1, the infinities and NaN; of the smallest f64, twice and nine times that; of the largest.
-- (2 ^ 26 + 1)² is 2 ^ 52 + 2 ^ 27 + 1, below 2 ^ 53 and so an f64: of it, of the f64 after it, of twice it; and of 94,906,265², the last odd square below 2 ^ 53.
abbrev pub digit_cases : List (Case Float ℕ)
digit_cases =
    row (whole 1) 1 ∷
    row (whole 4) 1 ∷
    row (fin false 9 (negsuc 1)) 2 ∷
    row (whole 9) 2 ∷
    row (whole 2) 53 ∷
    row (whole 0) 0 ∷
    row (minus 0) 0 ∷
    row (minus 1) 0 ∷
    row (inf false) 0 ∷
    row (inf true) 0 ∷
    row nan 0 ∷
    row (fin false 1 (negsuc 1073)) 1 ∷
    row (fin false 2 (negsuc 1073)) 53 ∷
    row (fin false 9 (negsuc 1073)) 2 ∷
    row (of_bits binary64 0x7fef_ffff_ffff_ffff) 53 ∷
    row (whole ((2 ^ 26 + 1) * (2 ^ 26 + 1))) 27 ∷
    row (whole (2 ^ 52 + 2 ^ 27 + 2)) 53 ∷
    row (whole (2 * (2 ^ 52 + 2 ^ 27 + 1))) 53 ∷
    row (whole (94_906_265 * 94_906_265)) 27 ∷
    []

-- Rounded numbers: ±1/2, ±5/2, the f64 below 1/2, −0.3, 2 ^ 52 − 1/2, 2 ^ 52 + 1, −0, NaN and an infinity.
abbrev pub round_cases : List (Case Float Float)
round_cases =
    row (fin false 1 (negsuc 0)) (whole 1) ∷
    row (fin true 1 (negsuc 0)) (minus 1) ∷
    row (fin false 5 (negsuc 0)) (whole 3) ∷
    row (fin true 5 (negsuc 0)) (minus 3) ∷
    row (of_bits binary64 0x3fdf_ffff_ffff_ffff) (whole 0) ∷
    row (of_bits binary64 0xbfd3_3333_3333_3333) (minus 0) ∷
    row (of_bits binary64 0x432f_ffff_ffff_ffff) (fin false 1 (pos 52)) ∷
    row (of_bits binary64 0x4330_0000_0000_0001) (of_bits binary64 0x4330_0000_0000_0001) ∷
    row (minus 0) (minus 0) ∷
    row nan nan ∷
    row (inf true) (inf true) ∷
    []
