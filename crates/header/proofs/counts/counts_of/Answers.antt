-- `header::counts::counts_of`: nothing where nothing is coded, else each number as it is kept. Assumes nothing.
use Rattle.std.proofs.Common.{◌≡◌, ℕ, ◌+◌, Bool, true, false, cond, refl, sym, ◌∙◌, arith}
use mir.Val.{bool_byte}
use Rattle.header.specs.declared.counts.Counts.{Counts}
use Rattle.header.specs.Scalars.{scalars}
use Rattle.header.specs.Text.{counts_of, uncoded}
use Rattle.header.specs.Format.{format_number}
use Rattle.header.proofs.Formats.{is_monochrome, is_yuv420}
use Rattle.header.proofs.Short.{nothing}
use Rattle.header.proofs.counts.counts_of.Goals as goal

-- one more for the luma tap
with-tap : (b : Bool) (n : ℕ) → n + bool_byte b ≡ cond b (n + 1) n
with-tap true n = refl
with-tap false n = omega arith

none : {a b : Bool} {m n o p q r : ℕ} → (a ≡ false) × ((b ≡ false) × ((m ≡ 0) × ((n ≡ 0) × ((o ≡ 0) × ((p ≡ 0) × ((q ≡ 0) × (r ≡ 0)))))))
    → ◌≡◌ {A = Counts} (record { coded = a; chroma = b; y_points = m; cb_points = n; cr_points = o; y_coeffs = p; cb_coeffs = q; cr_coeffs = r }) uncoded
none h = rw (h.0, h.1.0, h.1.1.0, h.1.1.1.0, h.1.1.1.1.0, h.1.1.1.1.1.0, h.1.1.1.1.1.1.0, h.1.1.1.1.1.1.1) refl

pub returns-then-not-f : goal.returns-then-not-f
returns-then-not-f c = none c.default.ensures ∙ sym (nothing (scalars c.args.f) (format_number c.args.format) c.if-not-f.true)

pub returns : goal.returns
unfolding counts_of
returns c =
    rw (
      c.kept-3.ensures.0,
      c.kept-2.ensures.0,
      c.kept.ensures.0,
      c.from-3.ensures,
      c.num_pos_luma-luma.ensures.0,
      c.kept-cr_points.ensures.0,
      c.from-2.ensures,
      c.kept-cb_points.ensures.0,
      c.from.ensures,
      c.eq.ensures,
      is_yuv420 _,
      c.ne.ensures,
      is_monochrome _,
      c.from-y_points.ensures,
      c.if-not-f.false,
      with-tap _ _,
    )
