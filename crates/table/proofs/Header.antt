-- The worked headers, row by row. By computation. Assumes nothing.
use mathlib.Core.Path.{refl}
use Rattle.table.specs.Cases.{Right}
use Rattle.header.specs.Row.{each, width, code, allowed}
use Rattle.header.specs.Text.{counts_of, point, points, coeff, coeffs, opening, luma_part, chroma_part, filter_part, closing, table, rows}
use Rattle.header.specs.Bits.{digits, number, bits_of, all_allowed, byte_at, packed}
use Rattle.header.specs.Calls.{header_bits, write_refusal, write_outcome}
use Rattle.table.specs.Header.{outcome, written_cases, refused_cases}

pub written-right : Right outcome written_cases
unfolding write_outcome write_refusal header_bits packed byte_at number digits bits_of all_allowed width code allowed rows table opening luma_part chroma_part filter_part closing counts_of points point coeffs coeff each
written-right = (refl, (refl, (refl, (refl, (refl, (refl, (refl, (refl, (refl, (refl, (refl, tt)))))))))))

pub refused-right : Right outcome refused_cases
unfolding write_outcome write_refusal header_bits packed byte_at number digits bits_of all_allowed width code allowed rows table opening luma_part chroma_part filter_part closing counts_of points point coeffs coeff each
refused-right =
    (refl, (refl, (refl, (refl, (refl, (refl, (refl, (refl, (refl, (refl, (refl, (refl, (refl, (refl, (refl, (refl, (refl, (refl, (refl, (refl, (refl, (refl, tt))))))))))))))))))))))
